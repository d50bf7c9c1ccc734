-- The clauses of `requests::encode_request` that the search can't prove.
use Rattle.iol_isdu.proofs.Texts.{request_text-spells}
use Rattle.iol_isdu.proofs.requests.encode_request.Goals as goal

pub returns-clause-short : goal.returns-clause-short
returns-clause-short c = rw (c.text.ensures, c.request_front.ensures.octets)
    (request_text-spells _ c.request_front.ensures.valid)
