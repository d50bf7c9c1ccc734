-- What a port counts since it was opened.
use Rattle.std.specs.Prelude.{ℕ, ◌+◌, ◌==◌, if◌then◌else◌, zero, suc, Option, Some, None}
use Rattle.iol_isdu.specs.declared.values.Request.{Request}
use Rattle.iol_isdu.specs.declared.values.Cause.{Cause}
use Rattle.iol_isdu.specs.declared.values.Cause.TheVariants as cause
use Rattle.iol_link.specs.Attempts.{max_retry}
use Rattle.iol_app.specs.declared.report.Said.{Said}
use Rattle.iol_app.specs.declared.report.Said.TheVariants as report
use Rattle.iol_app.specs.declared.wire_result.WireResult.{WireResult}
use Rattle.iol_app.specs.declared.wire_result.WireResult.TheVariants.{NoDevice, Woken, Exchanged}
use Rattle.iol_app.specs.declared.wire_result.ReplyVerdict.{ReplyVerdict}
use Rattle.iol_app.specs.declared.wire_result.ReplyVerdict.TheVariants.{Good, NoReply, WrongLength, WrongChecksum}
use Rattle.iol_port.specs.declared.counters.Counters.{Counters}
use Rattle.iol_port.specs.declared.counters.Unknown.{Unknown}

-- one more, as far as 64 bits reach
abbrev pub next_counter : ℕ → ℕ
next_counter n = if n == 18446744073709551615 then n else n + 1

-- nothing was counted
abbrev pub none_counted : Counters
none_counted = record {
  exchanges = 0;
  good_replies = 0;
  repeats = 0;
  no_reply = 0;
  wrong_length = 0;
  wrong_checksum = 0;
  links_lost = 0;
  start_ups = 0;
  done = 0;
  unknown = record {
    link_lost = 0;
    restarted = 0;
    busy_too_long = 0;
    protocol = 0;
    cancelled = 0;
  };
}

-- a reply, by what it is
abbrev pub verdict_counted : ReplyVerdict → Counters → Counters
verdict_counted Good c = record c { good_replies = next_counter c.good_replies }
verdict_counted NoReply c = record c { no_reply = next_counter c.no_reply }
verdict_counted WrongLength c = record c { wrong_length = next_counter c.wrong_length }
verdict_counted WrongChecksum c = record c { wrong_checksum = next_counter c.wrong_checksum }

-- a message that went out before is a repeat
abbrev pub repeat_counted : ℕ → Counters → Counters
repeat_counted zero c = c
repeat_counted (suc tries) c = record c { repeats = next_counter c.repeats }

-- the last attempt in a row without a good reply has lost the link
abbrev pub loss_counted : ℕ → ReplyVerdict → Counters → Counters
loss_counted tries Good c = c
loss_counted tries bad c =
    if tries == max_retry then record c { links_lost = next_counter c.links_lost } else c

-- the one call of the wire in a turn, by what it brought
-- PORT-12
abbrev pub call_counted : WireResult → Counters → Counters
call_counted NoDevice c = c
call_counted Woken c = record c { start_ups = next_counter c.start_ups }
call_counted (Exchanged tries verdict) c =
    loss_counted tries verdict
    (verdict_counted verdict
    (repeat_counted tries (record c { exchanges = next_counter c.exchanges })))

-- a request that was cut off, by why
abbrev pub cause_counted : Cause → Unknown → Unknown
cause_counted cause.LinkLost u = record u { link_lost = next_counter u.link_lost }
cause_counted cause.Restarted u = record u { restarted = next_counter u.restarted }
cause_counted cause.BusyTooLong u = record u { busy_too_long = next_counter u.busy_too_long }
cause_counted cause.Protocol u = record u { protocol = next_counter u.protocol }
cause_counted cause.Cancelled u = record u { cancelled = next_counter u.cancelled }

-- the request that a turn ended, if it ended one
-- PORT-12
abbrev pub report_counted : Said → Counters → Counters
report_counted (report.Answered answer) c = record c { done = next_counter c.done }
report_counted (report.Cut cause) c = record c { unknown = cause_counted cause c.unknown }
report_counted other c = c

-- a restart cuts off the request that was under way
-- PORT-12
abbrev pub restart_counted : Option Request → Counters → Counters
restart_counted None c = c
restart_counted (Some request) c = report_counted (report.Cut cause.Restarted) c
