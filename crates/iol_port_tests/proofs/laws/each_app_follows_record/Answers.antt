-- The clauses of `laws::each_app_follows_record` that the search can't prove.
use Rattle.iol_port_tests.proofs.FirstApp.{those_now}
use Rattle.iol_port_tests.proofs.laws.each_app_follows_record.Goals as goal

pub returns-clause-those : goal.returns-clause-those
returns-clause-those g c = those_now _ _ _ c.keeps_record.ensures.wire
