-- Whatever happens at a stored port is a run, in pieces, of the port within.
-- For the clauses of `laws::stored_ports_are_ports`.
use Rattle.std.proofs.Common.{List, [], ◌∷◌, refl, subst, sym}
use Rattle.iol_port.specs.declared.call.Call.{Call}
use Rattle.iol_port.specs.declared.call.Answered.{Answered}
use Rattle.iol_port.specs.declared.call.Answered.TheVariants as answered
use Rattle.iol_port.specs.CorePort.{IsCoreCall, SendDoes, ReceiveDoes, WakeDoes}
use Rattle.iol_port.specs.Run.{PortState, Piece, Whole, Send as SendPiece, Receive as ReceivePiece, PieceOf, Pieces}
use Rattle.iol_port.specs.View.{PortParts, StandsFor}
use Rattle.iol_storage.specs.StoredPort.{CoreCalls, CoreMakes}
use Rattle.iol_storage.specs.StoredLaws.{StoredMove, Calls, Send, Receive, Wake, StoredLine, MoveDoes, MovesDo, MovesAreRuns}

-- it leads there
record RunsTo (a : PortState) (next : PortParts) (after : StoredLine) : Type 0 where
  pieces : List Piece
  replies : List Answered
  b : PortState
  run : Pieces a pieces replies b
  stands : StandsFor after.0 after.1 next b

-- from wherever it stands with the line there
abbrev Goes : PortParts → PortParts → StoredLine → StoredLine → Type 0
Goes mid next after line = (b : PortState) → StandsFor line.0 line.1 mid b → RunsTo b next after

one-more : (a b : PortState) (piece : Piece) (reply : Answered) (next : PortParts)
    (after : StoredLine) → PieceOf a piece reply b → RunsTo b next after → RunsTo a next after
one-more a b piece reply next after does more = record {
  pieces = piece ∷ more.pieces;
  replies = reply ∷ more.replies;
  b = more.b;
  run = (b, does, more.run);
  stands = more.stands;
}

makes : (p mid next : PortParts) (line after : StoredLine) (c : Call) (reply : Answered)
    → CoreMakes p c reply mid
    → ((b : PortState) → StandsFor line.0 line.1 mid b → RunsTo b next after)
    → (a : PortState) → StandsFor line.0 line.1 p a → RunsTo a next after
unfolding IsCoreCall
makes p mid next line after c reply made rest a stands =
    let (b, does, standing) = made.does.follows line.0 line.1 a stands in
    one-more a b (Whole c) reply next after does (rest b standing)

calls-run : (calls : List (Call × Answered)) (p mid next : PortParts) (line after : StoredLine)
    → CoreCalls p calls mid
    → ((b : PortState) → StandsFor line.0 line.1 mid b → RunsTo b next after)
    → (a : PortState) → StandsFor line.0 line.1 p a → RunsTo a next after
calls-run [] p mid next line after is rest a stands =
    rest a (subst (λ (x : PortParts). StandsFor line.0 line.1 x a) (sym is) stands)
calls-run (first ∷ calls) p mid next line after (q, made, more) rest a stands =
    makes p q next line after first.0 first.1 made
    (λ b standing. calls-run calls q mid next line after more rest b standing) a stands

move-runs : (move : StoredMove) (p mid next : PortParts) (line between after : StoredLine)
    → MoveDoes p line move mid between
    → ((b : PortState) → StandsFor between.0 between.1 mid b → RunsTo b next after)
    → (a : PortState) → StandsFor line.0 line.1 p a → RunsTo a next after
unfolding SendDoes ReceiveDoes WakeDoes
move-runs (Calls calls) p mid next line between after (called, is) rest a stands =
    calls-run calls p mid next line after called
    (subst (Goes mid next after) is rest) a stands
move-runs Send p mid next line between after (does, is) rest a stands =
    let (b, step, standing) = does line.0 line.1 a stands in
    one-more a b SendPiece answered.Nothing next after step
    (subst (Goes mid next after) is rest b standing)
move-runs (Receive received far silence) p mid next line between after (does, honest, is) rest a
    stands =
    let (b, step, standing) = does line.0 far line.1 silence honest a stands in
    one-more a b ReceivePiece answered.Nothing next after step
    (subst (Goes mid next after) is rest b standing)
move-runs (Wake woken far) p mid next line between after (does, honest, is) rest a stands =
    let (b, step, standing) = does line.0 far line.1 honest a stands in
    one-more a b ReceivePiece answered.Nothing next after step
    (subst (Goes mid next after) is rest b standing)

moves-run : (moves : List StoredMove) (p next : PortParts) (line after : StoredLine)
    → MovesDo p line moves next after
    → (a : PortState) → StandsFor line.0 line.1 p a → RunsTo a next after
moves-run [] p next line after (is, stays) a stands = record {
  pieces = [];
  replies = [];
  b = a;
  run = refl;
  stands = rw (is, stays) stands;
}
moves-run (move ∷ moves) p next line after (mid, between, does, more) a stands =
    move-runs move p mid next line between after does
    (λ b standing. moves-run moves mid next between after more b standing) a stands

pub moves_are_runs : MovesAreRuns
moves_are_runs moves p next line after made a stands =
    let r = moves-run moves p next line after made a stands in
    (r.pieces, r.replies, r.b, r.run, r.stands)
