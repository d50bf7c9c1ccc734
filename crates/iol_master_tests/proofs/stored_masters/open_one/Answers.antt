-- What the search can't prove of the body of `stored_masters::open_one`.
use Rattle.std.proofs.Common.{◌≡◌, []}
use Rattle.std.proofs.lemmas.List.Elements.{All-cons, All-nil, All-same}
use Rattle.iol_port.specs.CorePort.{awaited_answer}
use Rattle.iol_port.specs.declared.awaited.AwaitedAnswer.TheVariants.{Nothing}
use Rattle.iol_master.specs.Wired.{WiredParts}
use Rattle.iol_storage.specs.StoredPort.{StoredParts}
use Rattle.iol_master_tests.proofs.stored_masters.open_one.Goals as goal

abbrev Rests : {W : Type 0} → WiredParts W StoredParts → Type 0
Rests p = awaited_answer p.port.port ≡ Nothing

pub open_stored-requires-clause-rest : goal.open_stored-requires-clause-rest
open_stored-requires-clause-rest g c =
    All-same Rests _ _ c.in_ok-ports.ensures.1
    (All-cons Rests _ [] (rw c.new.ensures c.requires.rest) (All-nil Rests))
