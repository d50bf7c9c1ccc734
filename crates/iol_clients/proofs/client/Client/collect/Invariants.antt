-- What each round of a loop of `Client::collect` keeps.
use Rattle.std.proofs.Common.{◌≡◌, ◌+◌, take}
use Rattle.std.specs.List.{FoldsTo}
use Rattle.iol_clients.specs.Counts.{AddsUp, Notes}
use Rattle.iol_clients.proofs.client.Client.collect.Given as goal

abbrev pub invariant-loop-ticket : goal.invariant-loop-ticket
invariant-loop-ticket g l = record {
  up : AddsUp l.counted;
  tickets : l.counted.tickets ≡ l.fn.counted.tickets + l.ticket-index;
  noted : FoldsTo Notes (l.fn.held, l.fn.counted)
      (take l.ticket-index l.self.tickets.items) (l.held, l.counted);
}
