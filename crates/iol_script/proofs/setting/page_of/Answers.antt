-- The clauses of `setting::page_of` that the search can't prove.
use Rattle.std.proofs.Common.{rules, ap, is_ok, true, false}
use Rattle.iol_script.specs.Text.{words_left}
use Rattle.iol_script.proofs.FieldsLemmas.{page_read}
use Rattle.iol_script.proofs.setting.page_of.Goals as goal

pub returns-in-Ok-clause-form : goal.returns-in-Ok-clause-form
returns-in-Ok-clause-form c =
    page_read (words_left c.args.words) c.in_ok-octets.octets.items c.from_octets-page.result true
    c.in_ok-octets.ensures (search rules) (search rules) (ap is_ok c.in-Ok.ensures)

pub returns-in-Err-clause-form : goal.returns-in-Err-clause-form
returns-in-Err-clause-form c =
    page_read (words_left c.args.words) c.in_ok-octets.octets.items c.from_octets-page.result false
    c.in_ok-octets.ensures (search rules) (search rules) (ap is_ok c.in-Err.ensures)
