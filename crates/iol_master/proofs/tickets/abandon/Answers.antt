-- What the search can't prove of the body of `tickets::abandon`.
use Rattle.std.proofs.Common.{◌≡◌, [], ◌∷◌, ◌++◌, refl, sym, ◌∙◌, false, arith}
use Rattle.std.proofs.lemmas.Fn.{FoldsTo-push}
use Rattle.std.proofs.lemmas.List.Elements.{All-push, All-nil, All-cons, All-head}
use Rattle.iol_book.specs.Replay.{same_ticket}
use Rattle.iol_master.specs.Left.{IsGone}
use Rattle.iol_master.proofs.Leaving.{fewer_left, stays_out, alike_too}
use Rattle.iol_master.proofs.tickets.abandon.Goals as goal

pub loop-ticket-smaller : goal.loop-ticket-smaller
loop-ticket-smaller g c =
    fewer_left g.P.MasterPort.facts c.loop-ticket.port c.give_up.new.self c.args.ticket
    c.give_up.ensures.standing (sym c.has.ensures ∙ c.loop-ticket-test.true)

pub loop-ticket-preserved : goal.loop-ticket-preserved
loop-ticket-preserved g c =
    let facts = g.P.MasterPort.facts in
    let before = c.loop-ticket.invariant in
    let port = c.loop-ticket.port in
    let next = c.give_up.new.self in
    let stands = c.give_up.ensures.standing in
    record {
      abandoned = before.abandoned ++ c.args.ticket ∷ [];
      among = All-push (λ t. t ≡ c.args.ticket) _ _ before.among refl;
      calls = FoldsTo-push facts.abandons _ _ _ _ _ before.calls c.give_up.ensures.is;
      still = λ other none. stays_out facts port next c.args.ticket stands other
          (c.give_up.ensures.own other) (before.still other none);
      others = λ other apart. alike_too facts port next c.args.ticket stands _ other apart
          (before.others other apart);
      counts = λ count has. c.give_up.ensures.counts count (before.counts count has);
    }

pub returns : goal.returns
returns g c =
    let facts = g.P.MasterPort.facts in
    let before = c.loop-ticket.invariant in
    let gone : IsGone facts c.loop-ticket.port c.args.ticket =
    sym c.has.ensures ∙ c.loop-ticket-test.false in
    record {
      abandoned = before.abandoned;
      among = λ k d below. rw (before.among k d below) (0, omega arith, refl);
      calls = before.calls;
      gone = All-cons (IsGone facts c.loop-ticket.port) c.args.ticket [] gone
          (All-nil (IsGone facts c.loop-ticket.port));
      still = before.still;
      others = λ other apart. before.others other
          (All-head (λ t. same_ticket t other ≡ false) c.args.ticket [] apart);
      counts = before.counts;
    }
