-- What an honest wire does with octets and with a wake, and what becomes of the far end meanwhile.
use Rattle.std.specs.Prelude.{◌≡◌, ◌⊎◌, ℕ, ◌+◌, min, Bool, true, if◌then◌else◌, List, [], ◌∷◌, Option, Some, None, IsSome}
use Rattle.iol_mseq.specs.Replies.{reply_in}
use Rattle.iol_mseq.specs.declared.master.MasterMsg.{MasterMsg}
use Rattle.iol_link.specs.Attempts.{most_attempts}
use Rattle.iol_far.specs.declared.mode.DeviceMode.{DeviceMode}
use Rattle.iol_far.specs.Codec.{layout_in, message_in}
use Rattle.iol_far.specs.Isdu.{handed_request}
use Rattle.iol_far.specs.Far.{Far, hear}
use Rattle.iol_far.specs.Local.{LocalStep, locals, far_after_wake, IsWorkedOff}
use Rattle.iol_far.specs.Laws.{IsRegular}
use Rattle.iol_far.specs.Orderly.{IsOrderly}

-- nothing, or octets that are no good reply in the layouts that both ends can be in: those of the
-- modes of a device of this page, where the sent octets spell a message there
-- WIRE-2
abbrev pub IsUnread : List ℕ → List ℕ → Option (List ℕ) → Type 0
IsUnread page sent None = Unit {0}
IsUnread page sent (Some answer) =
    (mode : DeviceMode) (message : MasterMsg)
    → message_in (layout_in page mode) sent ≡ Some message
    → reply_in (layout_in page mode) message.mc.read answer ≡ None

-- how far an exchange comes
-- WIRE-1
pub data Passage : Type 0 where
  -- the sent octets are lost, or the far end hears others, which it doesn't accept:
  -- nothing changes there
  OutLost : Passage
  -- they are heard, and what comes back is nothing or damaged
  BackLost : Passage
  -- they are heard, and what the far end answers comes back unaltered
  Clean : Passage

-- the far end after it
abbrev pub far_after : Passage → Far → List ℕ → Far
far_after OutLost far sent = far
far_after BackLost far sent = (hear far sent).far
far_after Clean far sent = (hear far sent).far

-- what comes back
-- WIRE-2
abbrev pub IsAnswer : Passage → Far → List ℕ → Option (List ℕ) → Type 0
IsAnswer Clean far sent answer = answer ≡ (hear far sent).reply
IsAnswer passage far sent answer = IsUnread far.page sent answer

-- the unaltered reply that an exchange brings, none where it brings none
-- WIRE-4
abbrev pub unaltered_reply : Passage → Far → List ℕ → Option (List ℕ)
unaltered_reply Clean far sent = (hear far sent).reply
unaltered_reply passage far sent = None

-- how many exchanges in a row, up to now, brought no unaltered reply, counted up to the most
-- attempts
-- WIRE-4
abbrev pub silence_after : ℕ → Option (List ℕ) → ℕ
silence_after silence None = min most_attempts (silence + 1)
silence_after silence (Some reply) = 0

-- one exchange: some steps of the far end by itself, then the octets come as far as
-- they do; the far end is one that can be
-- WIRE-1
pub record HonestExchange (far : Far) (silence : ℕ) (sent : List ℕ) (answer : Option (List ℕ))
    (far_new : Far) (silence_new : ℕ) : Type 0 where
  pub regular : IsRegular far
  pub steps : List LocalStep
  pub passage : Passage
  pub far_is : far_new ≡ far_after passage (locals far steps) sent
  pub answer_is : IsAnswer passage (locals far steps) sent answer
  pub silence_is : silence_new ≡ silence_after silence
      (unaltered_reply passage (locals far steps) sent)

-- one wake: some steps of the far end by itself, then the wake's effect or nothing; a rate is
-- answered only where it took effect
-- WIRE-3
pub record SeenWake (far : Far) (answered : Bool) (far_new : Far) : Type 0 where
  pub regular : IsRegular far
  pub steps : List LocalStep
  pub wakes : Bool
  pub far_is : far_new ≡ (if wakes then far_after_wake (locals far steps) else locals far steps)
  pub answered_is : answered ≡ true → wakes ≡ true

-- the test read of a wake: that of the page's first octet
abbrev pub test_read : List ℕ
test_read = 0xA2 ∷ 0x00 ∷ []

-- One whose pulse the far end misses, as it may: it hears the test read as it is, and keeps what it
-- holds; a rate is answered only where its layout has a reply
-- WIRE-3
pub record UnseenWake (far : Far) (answered : Bool) (far_new : Far) : Type 0 where
  pub regular : IsRegular far
  pub misses : far.misses_pulses ≡ true
  pub orderly : IsOrderly far
  pub steps : List LocalStep
  pub far_is : far_new ≡ (hear (locals far steps) test_read).far
  pub answered_is : answered ≡ true → IsSome (hear (locals far steps) test_read).reply

abbrev pub HonestWake : Far → Bool → Far → Type 0
HonestWake far answered far_new = SeenWake far answered far_new ⊎ UnseenWake far answered far_new

-- one exchange on a clean wire: a handed request is carried out where the record
-- has room, and the far end does nothing else by itself; the octets are heard, and
-- what it answers comes back unaltered
-- WIRE-5
pub record CleanExchange (far : Far) (sent : List ℕ) (answer : Option (List ℕ))
    (far_new : Far) : Type 0 where
  pub ready : Far
  pub work : IsWorkedOff (handed_request far.isdu) far ready
  pub far_is : far_new ≡ (hear ready sent).far
  pub answer_is : answer ≡ (hear ready sent).reply
