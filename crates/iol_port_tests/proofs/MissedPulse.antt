-- A device that runs TYPE_0 in OPERATE answers a wake whose pulse it misses, and keeps its request.
-- For the clauses of `laws::pulses_are_missed`.
use Rattle.std.proofs.Common.{◌≡◌, ℕ, true, List, [], ◌∷◌, refl, ap, subst, ◌∙◌, arith}
use Rattle.std.specs.Prelude.{Option, Some, None, is_some, option_map}
use Rattle.iol_octets.specs.Control.{control_of}
use Rattle.iol_octets.specs.Checksum as checksum
use Rattle.iol_mseq.specs.Shape.{Shape, startup_shape}
use Rattle.iol_mseq.specs.Master.{HasMasterParts}
use Rattle.iol_mseq.specs.Texts.{master_text}
use Rattle.iol_mseq.specs.declared.master.MasterMsg.{MasterMsg}
use Rattle.iol_isdu.specs.declared.values.Request.{Request}
use Rattle.iol_far.specs.declared.mode.DeviceMode.TheVariants.{Operate}
use Rattle.iol_far.specs.declared.kind.Kind.{Kind}
use Rattle.iol_far.specs.Isdu.{Handed}
use Rattle.iol_far.specs.Codec.{layout_in, message_in}
use Rattle.iol_far.specs.Far.{Far, accepted_message, hear, heard_as, opened_as}
use Rattle.iol_far.specs.Linked.{TextsAreHeard}
use Rattle.iol_link.specs.Honest.{UnseenWake, test_read}
use Rattle.iol_port_tests.specs.MissedPulse.{PulsesAreMissed}

abbrev page : List ℕ
page = 0x17 ∷ 0x01 ∷ 0x11 ∷ 0x00 ∷ 0x00 ∷ 0x12 ∷ 0x34 ∷ 0x00 ∷ 0x01 ∷ 0x07 ∷ []

-- one that was handed the request, in OPERATE
abbrev misses : Kind → Request → Far
misses kind request = record (opened_as kind page None) {
  awake = true;
  mode = Operate;
  isdu = Handed request;
  misses_pulses = true;
}

abbrev read : MasterMsg
read = record { mc = control_of 0xA2; out = record { items = [] }; od = record { items = [] } }

layout_is : layout_in page Operate ≡ startup_shape
unfolding layout_in
layout_is = refl

parts : HasMasterParts startup_shape read
unfolding control_of
parts = record { out = refl; od = refl }

text_is : master_text startup_shape read ≡ test_read
unfolding control_of checksum.checksum_of checksum.six_bits_of
text_is = refl

accepted_is : TextsAreHeard → (kind : Kind) (request : Request)
    → accepted_message (misses kind request) test_read ≡ Some (misses kind request, read)
accepted_is heard kind request =
    ap (λ (l : Shape). option_map (λ m. (misses kind request, m)) (message_in l test_read))
    layout_is
    ∙ ap (option_map (λ m. (misses kind request, m)))
    (subst (λ (o : List ℕ). message_in startup_shape o ≡ Some read) text_is
    (heard startup_shape read parts))

answered : TextsAreHeard → (kind : Kind) (request : Request)
    → UnseenWake (misses kind request) true (hear (misses kind request) test_read).far
answered heard kind request = record {
  regular = record {
    page = refl;
    sized = tt;
    input = tt;
    memory = record {
      frozen = omega arith;
      waiting = omega arith;
      held = λ held. refl;
      waits = λ none free. refl;
    };
  };
  misses = refl;
  orderly = record { startup = λ e. absurd (cc); waits = tt; valid = λ e. absurd (cc) };
  steps = [];
  far_is = refl;
  answered_is = λ e. ap (λ (q : Option (Far × MasterMsg)).
      is_some (heard_as (misses kind request) test_read q).reply) (accepted_is heard kind request);
}

handed : TextsAreHeard → (kind : Kind) (request : Request)
    → (hear (misses kind request) test_read).far.isdu ≡ Handed request
unfolding control_of
handed heard kind request = ap (λ (q : Option (Far × MasterMsg)).
    (heard_as (misses kind request) test_read q).far.isdu) (accepted_is heard kind request)

pub pulses_are_missed : TextsAreHeard → PulsesAreMissed
pulses_are_missed heard kind request = (
  misses kind request,
  (hear (misses kind request) test_read).far,
  refl,
  refl,
  answered heard kind request,
  handed heard kind request,
)
