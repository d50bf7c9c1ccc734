-- The clauses of `set::read_object` that the search can't prove.
use Rattle.std.proofs.Common.{arith}
use Rattle.iol_storage.proofs.Sets.{read-one}
use Rattle.iol_storage.proofs.set.read_object.Goals as goal

pub returns-in-Ok-clause-read : goal.returns-in-Ok-clause-read
returns-in-Ok-clause-read c =
    read-one c.args.image.now c.args.objects.now c.push.new.self c.from_be_bytes.result
    c.from-size.result c.split_at.result.0.now c.split_at.result.1.now
    c.in-len4-up.len_at_least (omega (arith, c.type_inv.image 1)) c.from_be_bytes.ensures
    c.from-size.ensures
    c.split_at.ensures.front c.split_at.ensures.back c.split_at.ensures.front_len
    c.in-Ok.ensures.pushed
