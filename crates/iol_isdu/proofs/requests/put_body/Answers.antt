-- The clauses of `requests::put_body` that the search can't prove.
use Rattle.std.proofs.Common.{rules}
use Rattle.iol_isdu.proofs.RequestTexts.{wide_write}
use Rattle.iol_isdu.proofs.requests.put_body.Goals as goal

pub returns-in-Write-WideIndexSub-len3-up-clause-found :
    goal.returns-in-Write-WideIndexSub-len3-up-clause-found
returns-in-Write-WideIndexSub-len3-up-clause-found c =
    wide_write c.wide.result c.args.service c.args.body.now _ _ (search rules) (search rules)
    c.wide.ensures.holds c.wide.ensures.says
    c.put_write-in-Write-WideIndexSub-len3-up.ensures.value
    c.put_write-in-Write-WideIndexSub-len3-up.ensures.fits
