-- The clauses of `printing::print_unsure` that the search can't prove.
use Rattle.std.proofs.Common.{◌≡◌, ℕ, Result, Ok, Err, OnOk, List, ◌++◌, ap, ◌∙◌, append_assoc}
use Rattle.std.specs.Prelude.{codes}
use Rattle.iol_capture.specs.Findings.{from_text}
use Rattle.iol_capture.proofs.printing.print_unsure.Goals as goal

-- a piece was printed, and then the rest
printed_both : {T E : Type 0} (result : Result T E) (old mid new front rest : List ℕ)
    → mid ≡ old ++ front → OnOk result (new ≡ mid ++ rest)
    → OnOk result (new ≡ old ++ (front ++ rest))
printed_both (Ok done) old mid new front rest piece more =
    more ∙ ap (λ (b : List ℕ). b ++ rest) piece ∙ append_assoc old front rest
printed_both (Err fault) old mid new front rest piece more = tt

pub returns : goal.returns
returns g c =
    printed_both c.print_from.result _ _ _ (codes "master can't be judged from ")
    (from_text c.args.from c.args.why.now) c.in_ok-push_str.ensures.bytes c.print_from.ensures
