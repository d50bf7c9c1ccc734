-- A message, and how often it was sent without a good reply.
use Rattle.std.specs.Prelude.{◌≡◌, ℕ, ◌+◌, ◌==◌, if◌then◌else◌, List, Option, Some, None, option_and_then}
use Rattle.iol_mseq.specs.Shape.{Shape}
use Rattle.iol_mseq.specs.Replies.{reply_in}
use Rattle.iol_mseq.specs.declared.master.MasterMsg.{MasterMsg}
use Rattle.iol_mseq.specs.declared.reply.Reply.{Reply}
use Rattle.iol_link.specs.declared.handler.Attempt.{Attempt}
use Rattle.iol_link.specs.declared.handler.Attempt.TheVariants.{Got, Retry, Lost}
use Rattle.iol_link.specs.declared.handler.AttemptView.{AttemptView}
use Rattle.iol_link.specs.declared.handler.AttemptView.TheVariants as view

-- how often a message is sent again at most (IEC 61131-9, 7.3.3: MaxRetry)
abbrev pub max_retry : ℕ
max_retry = 2

-- how often it is sent in a row at most
abbrev pub most_attempts : ℕ
most_attempts = max_retry + 1

pub record Sending : Type 0 where
  pub message : MasterMsg
  -- the attempts in a row without a good reply
  pub tries : ℕ

-- the reply that the answer spells, where it is well-formed in the layout as a reply to the message
abbrev pub good_reply : Shape → MasterMsg → Option (List ℕ) → Option Reply
good_reply layout message answer = option_and_then (reply_in layout message.mc.read) answer

-- how an attempt ends after so many before it: without a good reply the last loses the link
-- LINK-2, LINK-3
abbrev pub attempt_of : ℕ → Option Reply → Attempt
attempt_of tries (Some reply) = Got reply
attempt_of tries None = if tries == max_retry then Lost else Retry

-- the same, whose reply lies in what came
abbrev pub attempt_in : AttemptView → Attempt
attempt_in (view.Got reply) = Got reply
attempt_in view.Retry = Retry
attempt_in view.Lost = Lost

-- after a good reply, and after a loss, the attempts count from 0
abbrev pub tries_after : ℕ → Option Reply → ℕ
tries_after tries (Some reply) = 0
tries_after tries None = if tries == max_retry then 0 else tries + 1

-- one attempt, by the answer of the wire
pub record IsAttempt (layout : Shape) (old : Sending) (answer : Option (List ℕ)) (attempt : Attempt)
    (new : Sending) : Type 0 where
  pub attempt_is : attempt ≡ attempt_of old.tries (good_reply layout old.message answer)
  pub message_is : new.message ≡ old.message
  pub tries_are : new.tries ≡ tries_after old.tries (good_reply layout old.message answer)
