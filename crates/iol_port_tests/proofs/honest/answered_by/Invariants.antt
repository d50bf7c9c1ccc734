-- The ghost values that `honest::answered_by` hands to what it calls.
use Rattle.iol_far.specs.Octets.{octets_in}
use Rattle.iol_link.specs.Honest.{silence_after}
use Rattle.iol_port_tests.proofs.honest.answered_by.Given as goal

abbrev pub ghost-receive : goal.ghost-receive
ghost-receive a = record {
  far = a.near.now.far;
  silence = silence_after a.self.now.at.silence (octets_in a.received.now);
}
