-- The clauses of `Judge::hear_alone` that the search can't prove.
use Rattle.std.proofs.Common.{◌≡◌, [], ◌∷◌, ◌∙◌, ap}
use Rattle.iol_judge.specs.Judged.{JudgeState}
use Rattle.iol_judge.proofs.Concluding.{alone_refused}
use Rattle.iol_judge.proofs.judge.Judge.hear_alone.Goals as goal

pub returns-in-Ok-Refused : goal.returns-in-Ok-Refused
returns-in-Ok-Refused c =
    let alone : c.self.inside.states.items ≡ c.requires.0 ∷ [] =
    ap (λ (j : JudgeState). j.states) c.self.view_is ∙ c.requires.1 in
    let found = c.in-Ok-Refused.ensures c.requires.0 alone in
    c.blame.ensures ∙ alone_refused _ _ c.self.view_is c.args.sent.now c.args.octets.now
    c.self.inside.layouts c.self.invariant c.requires.0 found.0 alone c.requires.2
    c.in-Ok-Refused.field-0 c.in-Ok-Refused.reason c.in-Ok-Refused.field-0-is found.2
    c.or_later.result c.or_later.ensures
