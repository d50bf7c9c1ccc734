-- The clauses of `requests::read_request` that the search can't prove.
use Rattle.std.proofs.Common.{rules, ap, Ok}
use Rattle.iol_isdu.proofs.Parse.{request_of-refused}
use Rattle.iol_isdu.proofs.requests.read_request.Goals as goal

pub returns-clause-only : goal.returns-clause-only
returns-clause-only c = λ r b. ap Ok (c.request_into.ensures.only r b).1

pub returns-in_err-request_into-clause-value : goal.returns-in_err-request_into-clause-value
returns-in_err-request_into-clause-value c =
    request_of-refused c.args.octets.now c.from_residual.result c.from_residual.ensures.0
    (search rules)
