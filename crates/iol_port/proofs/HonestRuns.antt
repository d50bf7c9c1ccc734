-- A run goes on by one piece, and of each run the record fits the journal.
-- For the clauses of `HonestPort::keeps_record`, `HonestPort::open_for`,
--     `HonestPort::receive_wake` and 2 more.
use Rattle.std.proofs.Common.{◌∷◌, ◌++◌, [], List, ℕ, Bool, Option, refl, subst}
use Rattle.iol_far.specs.Far.{Far}
use Rattle.iol_link.specs.Honest.{HonestWake}
use Rattle.iol_book.specs.declared.limits.Limits.{Limits}
use Rattle.iol_mode.specs.declared.configuration.Devices.{Devices}
use Rattle.iol_port.specs.declared.call.Call.{Call}
use Rattle.iol_port.specs.declared.call.Answered.{Answered}
use Rattle.iol_port.specs.declared.call.Answered.TheVariants as answered
use Rattle.iol_port.specs.Run.{PortState, Piece, Whole, Send, Receive, PieceOf, Pieces, port_at_opening}
use Rattle.iol_port.specs.View.{PortParts, StandsFor}
use Rattle.iol_port.specs.Clean.{IsLevelBetween}
use Rattle.iol_port.specs.Sound.{PortIsSound}
use Rattle.iol_port.specs.Promises.{OpensSound, PiecesSound}
use Rattle.iol_port.specs.CorePort.{IsCoreCall, CoreDoes, CoreOpensFor, CoreKeeps, SendDoes, ReceiveDoes, WakeDoes}
use Rattle.iol_port.specs.Standing.{LinePosition}
use Rattle.iol_port.specs.Honestly.{HonestParts, IsRunInPieces, BeganWell, RecordFitsJournal, Exchanges}

Pieces-snoc : (a b c : PortState) (ps : List Piece) (rs : List Answered) (p : Piece)
    (r : Answered) → Pieces a ps rs b → PieceOf b p r c → Pieces a (ps ++ p ∷ []) (rs ++ r ∷ []) c
Pieces-snoc a b c [] [] p r is step = (c, subst (λ (x : PortState). PieceOf x p r c) is step, refl)
Pieces-snoc a b c (q ∷ ps) (s ∷ rs) p r (mid, first, rest) step =
    (mid, first, Pieces-snoc mid b c ps rs p r rest step)
Pieces-snoc a b c _ _ p r is step = absurd is

-- by whatever piece this port makes of the abstract one
goes_on : (p : HonestParts) (next : PortParts) (after : LinePosition) (piece : Piece)
    (reply : Answered) → IsRunInPieces p
    → ((a : PortState) → StandsFor p.at.far p.at.silence p.parts a
    → (b : PortState) × PieceOf a piece reply b × StandsFor after.far after.silence next b)
    → IsRunInPieces (record p { parts = next; at = after })
goes_on p next after piece reply is does = record {
  runs = λ well.
      let (pieces, replies, b, run, stands) = is.runs well in
      let (c, step, stands_c) = does b stands in (
        pieces ++ piece ∷ [],
        replies ++ reply ∷ [],
        c,
        Pieces-snoc _ b c pieces replies piece
            reply run step,
        stands_c,
      );
}

-- each call but a turn changes the port alone
pub called : {parts next : PortParts} {at from : LinePosition} {devices : Devices}
    {limits : Limits} {c : Call} {reply : Answered}
    → IsRunInPieces
    (record { parts = parts; at = at; devices = devices; limits = limits; from = from })
    → CoreDoes parts c reply next
    → IsRunInPieces
    (record { parts = next; at = at; devices = devices; limits = limits; from = from })
unfolding IsCoreCall
called {next = next} {at = at} {c = c} {reply = reply} is does =
    goes_on _ next at (Whole c) reply is (does.follows at.far at.silence)

pub sent : (p : HonestParts) (next : PortParts) → IsRunInPieces p → SendDoes p.parts next
    → IsRunInPieces (record p { parts = next })
unfolding SendDoes
sent p next is does = goes_on p next p.at Send answered.Nothing is (does p.at.far p.at.silence)

pub received : (p : HonestParts) (next : PortParts) (answer : Option (List ℕ))
    (after : LinePosition) → IsRunInPieces p → ReceiveDoes p.parts answer next
    → Exchanges p answer after
    → IsRunInPieces (record p { parts = next; at = after })
unfolding ReceiveDoes
received p next answer after is does premise =
    goes_on p next after Receive answered.Nothing is
    (does p.at.far after.far p.at.silence after.silence premise)

pub woken : (p : HonestParts) (next : PortParts) (answered : Bool) (after : Far)
    → IsRunInPieces p
    → WakeDoes p.parts answered next → HonestWake p.at.far answered after
    → IsRunInPieces (record p { parts = next; at = record p.at { far = after } })
unfolding WakeDoes
woken p next answer after is does premise =
    goes_on p next (record p.at { far = after }) Receive answered.Nothing is
    (does p.at.far after p.at.silence premise)

pub began : (p : PortParts) (devices : Devices) (limits : Limits) (from : LinePosition)
    → CoreOpensFor devices limits p
    → IsRunInPieces
    (record { parts = p; at = from; devices = devices; limits = limits; from = from })
began p devices limits from opens = record {
  runs = λ well. (
    [],
    [],
    port_at_opening devices limits from.far from.silence,
    refl,
    opens from.far from.silence well,
  );
}

-- of each run of the one that was opened the record fits the journal
pub record_preserved : OpensSound → PiecesSound → (p : HonestParts) → CoreKeeps p.parts
    → IsRunInPieces p
    → BeganWell p → RecordFitsJournal p × IsLevelBetween p.at.far p.parts
record_preserved opens stay p keeps is well =
    let (pieces, replies, b, run, stands) = is.runs well in
    let first : PortIsSound (port_at_opening p.devices p.limits p.from.far p.from.silence) =
    opens p.devices p.limits p.from.far p.from.silence in
    keeps p.at.far p.at.silence b stands (stay _ b pieces replies run first)
