-- The clauses of `requests::request_into` that the search can't prove.
use Rattle.std.proofs.Common.{◌∙◌, ap}
use Rattle.std.proofs.lemmas.Result.{on_ok_weaker}
use Rattle.iol_isdu.specs.Parse.{request_of}
use Rattle.iol_isdu.specs.Requests.{BeginsWithRequest}
use Rattle.iol_isdu.proofs.FrameTexts.{only, text_at-rest}
use Rattle.iol_isdu.proofs.RequestTexts.{requests}
use Rattle.iol_isdu.proofs.Parse.{request_of-text}
use Rattle.iol_isdu.proofs.requests.request_into.Goals as goal

pub returns-clause-found : goal.returns-clause-found
returns-clause-found c =
    on_ok_weaker {Q = BeginsWithRequest _ _} _ (λ spells. record {
      text = _;
      rest = _;
      spells = spells;
      whole = text_at-rest c.args.octets.now;
    }) c.put_framed.ensures.found

pub returns-clause-only : goal.returns-clause-only
returns-clause-only c =
    λ r b. only requests c.args.octets.now _ c.put_framed.new.into c.put_framed.ensures.refused
    c.put_framed.ensures.found r b.text b.rest b.spells b.whole

pub returns-clause-value : goal.returns-clause-value
returns-clause-value c =
    on_ok_weaker _ (λ spells. ap request_of (text_at-rest c.args.octets.now)
    ∙ request_of-text c.put_framed.new.into _ _ spells) c.put_framed.ensures.found
