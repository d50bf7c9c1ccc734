-- The clauses of `fields::is` that the search can't prove.
use Rattle.std.proofs.Common.{rules, tests}
use Rattle.std.specs.Str.{bytes_eq}
use Rattle.std.proofs.lemmas.Bool.Decides.{same_from_decides}
use Rattle.std.proofs.lemmas.Iterator.{YieldsList-from_slice, YieldsList-from_zip, same_from_all}
use Rattle.std.proofs.lemmas.Slice.Eq.{bytes_eq-Decides}
use Rattle.iol_script.proofs.fields.is.Goals as goal

pub returns-then-word-name : goal.returns-then-word-name
returns-then-word-name c =
    let word = c.args.word.now in
    let name = c.args.name.now in
    same_from_decides c.all.result (bytes_eq word name)
    (same_from_all c.all.new.self _ _ word name c.all.ensures.ran
    (YieldsList-from_zip (YieldsList-from_slice word cc) (YieldsList-from_slice name cc))
    c.if-word-name.true (λ x q k. search (rules, tests)) (λ x q k. search (rules, tests)))
    (bytes_eq-Decides word name)
