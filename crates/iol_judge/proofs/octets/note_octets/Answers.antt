-- What the search can't prove of the body of `octets::note_octets`.
use Rattle.std.proofs.Common.{◌+◌, drop, arith}
use Rattle.iol_judge.proofs.Known.{next_noted, with_past}
use Rattle.iol_judge.proofs.octets.note_octets.Goals as goal
use Rattle.iol_judge.proofs.octets.note_octets.Goals.{then-place-observed, else-place-observed}

pub loop-octet-preserved : goal.loop-octet-preserved
loop-octet-preserved c =
    let octets = c.args.octets.now in
    let index = c.loop-octet.octet-index in
    let observed = c.loop-octet.observed in
    let place = c.loop-octet.place in
    let holds = c.loop-octet.invariant in
    elim c.if-place-observed.branch [
      | then-place-observed w ↦
          let next = next_noted observed place octets index (omega arith) in cc
      | else-place-observed w ↦
          let here = with_past observed place (drop index octets) (omega arith) in
          let there = with_past observed place (drop (index + 1) octets) (omega arith) in cc
    ]
