-- What is past stays past, and a number has one request: `numbers_are_own` of a device needs both.
-- Begin with `Heeds`.
-- For the clauses of `device::numbers_are_own`.
use Rattle.std.proofs.Common.{◌≡◌, ◌≢◌, ℕ, ◌+◌, ◌^◌, ◌<◌, ◌≤◌, Bool, true, false, not, ◌&&◌, List, [], ◌∷◌, refl, sym, subst, arith}
use Rattle.std.proofs.Math.Nat.{mod-eq_of_lt}
use Rattle.std.proofs.lemmas.Bool.Decides.{nat_tests}
use Rattle.std.proofs.lemmas.Grind.{common_steps}
use Rattle.std.specs.Prelude.{Option, Some, None, option_map, is_some, if◌then◌else◌}
use Rattle.iol_octets.specs.declared.control.Channel.{Channel}
use Rattle.iol_octets.specs.declared.flow_control.Flow.{Flow}
use Rattle.iol_isdu.specs.declared.values.Answer.{Answer}
use Rattle.iol_isdu.specs.declared.values.Request.{Request}
use Rattle.iol_mseq.specs.declared.master.MasterMsg.{MasterMsg}
use Rattle.iol_segment.specs.Join.{Stage}
use Rattle.iol_far.specs.Codec.{layout_in, flow_of}
use Rattle.iol_page.specs.Page.{knows_isdu}
use Rattle.iol_far.specs.Far.{Far, far_in_mode, isdu_after, accepted_message, heard_as, hear}
use Rattle.iol_far.specs.Isdu.{IsduState, Empty, handed_request, received_at}
use Rattle.iol_far.specs.declared.kind.HandsOver.{HandsOver}
use Rattle.iol_far.specs.declared.kind.Recalls.{Recalls}
use Rattle.iol_far.specs.declared.mode.DeviceMode.{DeviceMode}
use Rattle.iol_device.specs.Device.{Running}
use Rattle.iol_device.specs.Number.{next_number, is_start_write, is_hand_over, answer_refusal}
use Rattle.iol_device.specs.NumberLaws.{DeviceDeed, Hears, after_deed, after_deeds, HasNumbersFor, IsPast, may_hand_over, NumbersAreOwn}
use Rattle.iol_device.specs.declared.fault.DeviceFault.TheVariants.{OtherRequest}

-- What a message does to a handed request

-- the later request is the earlier one, or none, unless a message that may do so handed it over
record Heeds (old new : Option Request) (over may : Bool) : Type 0 where
  pub same : over ≡ false → is_some new ≡ true → new ≡ old
  pub by : over ≡ true → may ≡ true

-- receiving hands nothing over
received_none : (found : Stage) (octets : List ℕ) (last : Option ℕ)
    → handed_request (received_at found octets last) ≡ None
received_none found octets last = grind (arith, common_steps)

-- by the state before, of which a START write keeps nothing, and the state then
unfoldable HeedsFrom : HandsOver → IsduState → IsduState → Channel → Bool → Flow → Type 0
HeedsFrom hands state new channel read flow =
    Heeds (handed_request state) (handed_request new)
    (is_some (handed_request new)
    && not (is_some (handed_request state) && not (is_start_write channel read flow)))
    (may_hand_over hands channel read flow)

module _ (hands : HandsOver) (recalls : Recalls) (counted : Option ℕ) (known : Bool) (size : ℕ)
    (state : IsduState) (channel : Channel) (read : Bool) (flow : Flow) (octets : List ℕ) where
  heeds_isdu : HeedsFrom hands state
      (isdu_after (record { hands_over = hands; recalls = recalls }) counted known size state
      channel read flow octets) channel read flow
  unfolding HeedsFrom
  heeds_isdu = grind (arith, common_steps, received_none)

abbrev may_in : HandsOver → Option (Far × MasterMsg) → Bool
may_in hands None = false
may_in hands (Some (there, message)) =
    may_hand_over hands message.mc.channel message.mc.read (flow_of message.mc.address)

-- by the message that the octets are, and the far end that accepts it
unfoldable HeedsAs : Far → List ℕ → Option (Far × MasterMsg) → Type 0
HeedsAs far octets found =
    Heeds (handed_request far.isdu) (handed_request (heard_as far octets found).far.isdu)
    (is_hand_over found (heard_as far octets found).far) (may_in far.kind.hands_over found)

module _ (far : Far) (octets : List ℕ) where
  heeds_none : HeedsAs far octets None
  unfolding HeedsAs
  heeds_none = grind (arith, common_steps)

  -- of the far end in that mode, with the state that it has there
  heeds_message : (mode : DeviceMode) (state : IsduState) (message : MasterMsg)
      → HeedsFrom far.kind.hands_over state
      (isdu_after far.kind far.counted (knows_isdu far.page) (layout_in far.page mode).od state
      message.mc.channel message.mc.read (flow_of message.mc.address) message.od.items)
      message.mc.channel message.mc.read (flow_of message.mc.address)
  heeds_message mode state message =
      heeds_isdu far.kind.hands_over far.kind.recalls far.counted (knows_isdu far.page)
      (layout_in far.page mode).od state message.mc.channel message.mc.read
      (flow_of message.mc.address) message.od.items

  heeds_here : (message : MasterMsg) → HeedsAs far octets (Some (far, message))
  unfolding HeedsAs HeedsFrom
  heeds_here message = heeds_message far.mode far.isdu message

  heeds_moved : (into : DeviceMode) (message : MasterMsg)
      → HeedsAs far octets (Some (far_in_mode far into, message))
  unfolding HeedsAs HeedsFrom
  heeds_moved into message =
      let moved = heeds_message into Empty message in record {
        same = λ over some. grind (arith, common_steps, moved.same over some, some);
        by = moved.by;
      }

  heeds_octets : HeedsAs far octets (accepted_message far octets)
  heeds_octets = grind (arith, common_steps, heeds_none, heeds_here, heeds_moved)

-- What a deed does to the number

-- the number by whether a request is handed over
abbrev number_by : ℕ → Bool → ℕ
number_by number over = if over then next_number number else number

-- the number n was given, and the request that has it, if one has, is one of these
record Keeps (Q : Request → Type 0) (n m : ℕ) (now : Option Request) : Type 0 where
  pub low : n ≤ m
  pub has : m ≡ n → (x : Request) → now ≡ Some x → Q x

next_is : (m : ℕ) → m + 1 < 2 ^ 64 → next_number m ≡ m + 1
next_is m h = mod-eq_of_lt h

keeps_heard : (Q : Request → Type 0) (n m : ℕ) (old new : Option Request) (over may : Bool)
    → Heeds old new over may → m + 1 < 2 ^ 64 → Keeps Q n m old
    → (number_by m over ≤ m + 1) × Keeps Q n (number_by m over) new
keeps_heard Q n m old new over may heeds room keeps = grind (arith, common_steps, next_is)

module _ {P : Type 0} (Q : Request → Type 0) (n : ℕ) where
  abbrev KeepsAt : Running P → Type 0
  KeepsAt device = Keeps Q n device.number (handed_request device.far.isdu)

  keeps_deed : (device : Running P) (deed : DeviceDeed) → device.number + 1 < 2 ^ 64
      → KeepsAt device
      → ((after_deed device deed).number ≤ device.number + 1) × KeepsAt (after_deed device deed)
  unfolding HeedsAs
  keeps_deed device (Hears octets) room keeps =
      keeps_heard Q n device.number (handed_request device.far.isdu)
      (handed_request (hear device.far octets).far.isdu)
      (is_hand_over (accepted_message device.far octets) (hear device.far octets).far) _
      (heeds_octets device.far octets) room keeps
  keeps_deed device deed room keeps = grind (arith, common_steps)

  keeps_all : (device : Running P) (deeds : List DeviceDeed) → HasNumbersFor device deeds
      → KeepsAt device → KeepsAt (after_deeds device deeds)
  keeps_all device [] room keeps = keeps
  keeps_all device (deed ∷ deeds) room keeps =
      let keeps_one = keeps_deed device deed (omega (arith, room)) keeps in
      keeps_all (after_deed device deed) deeds (omega (arith, room, keeps_one.0)) keeps_one.1

-- The law

refused : {P : Type 0} (device : Running P) (n : ℕ) (answer : Answer)
    → Keeps (λ x. ⊥) n device.number (handed_request device.far.isdu)
    → answer_refusal device n answer ≡ Some OtherRequest
refused device n answer keeps = grind (arith, nat_tests, common_steps)

past_keeps : {P : Type 0} (device : Running P) (n : ℕ) → IsPast device n
    → Keeps (λ x. ⊥) n device.number (handed_request device.far.isdu)
past_keeps device n past = grind (arith, common_steps)

-- a START write keeps nothing, so that whatever is handed over then has the next number
anew_by : (n : ℕ) (under_way start : Bool) (new : Option Request) → start ≡ true → n + 1 < 2 ^ 64
    → (number : ℕ) → number ≡ number_by n (is_some new && not (under_way && not start))
    → (n ≤ number) × (option_map (λ request. number) new ≢ Some n)
anew_by n under_way start new e room number is = grind (arith, common_steps, next_is)

pub numbers_are_own : {P : Type 0} (device : Running P) → NumbersAreOwn device
unfolding HeedsAs
numbers_are_own device = record {
  past = λ n past deeds room answer.
      refused (after_deeds device deeds) n answer
      (keeps_all (λ x. ⊥) n device deeds room (past_keeps device n past));
  one = λ request other h deeds room k e.
      (keeps_all (λ x. x ≡ request) device.number device deeds room
      (record { low = omega arith; has = λ i x l. cc })).has e other k;
  anew = λ octets there message e start room.
      anew_by device.number (is_some (handed_request there.isdu)) _
      (handed_request (hear device.far octets).far.isdu) start (omega (arith, room)) _
      (rw e refl);
  by_message = λ octets there message e over.
      subst (λ (found : Option (Far × MasterMsg)). may_in device.far.kind.hands_over found ≡ true)
      e ((heeds_octets device.far octets).by
      (subst (λ (found : Option (Far × MasterMsg)).
      is_hand_over found (hear device.far octets).far ≡ true) (sym e) over));
}
