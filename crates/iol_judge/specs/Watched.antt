-- The watch: how far a master has come, and the verdict.
use Rattle.std.specs.Prelude.{ℕ, ◌+◌, ◌-◌, ◌^◌, min, Bool, true, false, not, ◌&&◌, ◌==◌, bytes_eq, if◌then◌else◌, List, slice_index, Option, Some, None, is_some, option_and_then, Result, Ok, Err}
use Rattle.std.specs.Result.{result_map_both}
use Rattle.iol_octets.specs.declared.control.Channel.{Channel}
use Rattle.iol_octets.specs.declared.control.Channel.TheVariants.{Process, Page, Diagnosis, Isdu}
use Rattle.iol_mseq.specs.Replies.{reply_in}
use Rattle.iol_mseq.specs.declared.master.MasterMsg.{MasterMsg}
use Rattle.iol_mseq.specs.declared.reply.Reply.{Reply}
use Rattle.iol_page.specs.declared.page.Layouts.{Layouts}
use Rattle.iol_page.specs.declared.master_command.MasterCommand.{MasterCommand}
use Rattle.iol_page.specs.declared.master_command.MasterCommand.TheVariants.{MasterIdent}
use Rattle.iol_far.specs.Codec.{flow_of, message_in}
use Rattle.iol_far.specs.Far.{command_in}
use Rattle.iol_judge.specs.Observed.{nothing_observed, octet_observed, page_noted, layouts_observed}
use Rattle.iol_judge.specs.declared.verdict.Wake.{Wake}
use Rattle.iol_judge.specs.declared.verdict.Wake.TheVariants.{Answered, Unanswered}
use Rattle.iol_judge.specs.declared.blame.Blame.{Blame}
use Rattle.iol_judge.specs.declared.blame.Blame.TheVariants.{WakeDue, NotRepeated, NotStartUp, NotWellFormed, NotDue}
use Rattle.iol_judge.specs.declared.master_phase.MasterPhase.{MasterPhase}
use Rattle.iol_judge.specs.declared.master_phase.MasterPhase.TheVariants.{Down, Startup, Preoperate, Operate}
use Rattle.iol_judge.specs.declared.master.MasterState.{MasterState}
use Rattle.iol_judge.specs.declared.master.MissedMessage.{MissedMessage}
use Rattle.iol_judge.specs.declared.master_transfer.MasterTransfer.TheVariants.{Quiet}
use Rattle.iol_judge.specs.declared.master_verdict.MasterVerdict.{MasterVerdict}
use Rattle.iol_judge.specs.declared.master_verdict.MasterVerdict.TheVariants.{Unjudged, ByTheRules, NotByTheRules}
use Rattle.iol_judge.specs.MasterPhases.{allows, allows_cycle, phase_after_command, is_in_operate, phase_layout}
use Rattle.iol_judge.specs.MasterOutputs.{no_output, woken_output, output_after_message}
use Rattle.iol_judge.specs.MasterReadings.{no_master_events, flagged_events, checks_instead, is_due, reading_after_reply}
use Rattle.iol_judge.specs.declared.master_reading.Reading.TheVariants.{ConfirmDue}
use Rattle.iol_judge.specs.MasterTransfers.{transfer_after_repeat, asks_instead, transfer_in_doubt, transfer_after_message, transfer_after_reply}

-- of a capture that just began
abbrev pub new_master : MasterState
new_master = record {
  phase = Down;
  observed = nothing_observed;
  done = record { ident = false; cycle = false };
  out = None;
  output = no_output;
  events = no_master_events;
  transfer = Quiet;
}

-- once a wake-up request was made, by what is known of the page
abbrev pub master_after_wake : MasterState → List (Option ℕ) → Wake → MasterState
master_after_wake master observed answer = record new_master {
  phase = elim answer [ Answered ↦ Startup | Unanswered ↦ Down ];
  observed = observed;
  output = woken_output master.output;
}

-- A new message on the page channel

abbrev pub command_sent : MasterState → Option MasterCommand → Result MasterState Blame
command_sent master command =
    if allows master.phase (layouts_observed master.observed) master.done command
    then Ok (record master {
      done = record master.done {
        ident = elim command [ Some MasterIdent ↦ true | command ↦ master.done.ident ];
      };
    })
    else Err NotStartUp

abbrev pub cycle_sent : MasterState → ℕ → Result MasterState Blame
cycle_sent master octet = if allows_cycle (octet_observed master.observed 2) octet
    then Ok (record master { done = record master.done { cycle = true } })
    else Err NotStartUp

abbrev pub sent_to_page : MasterState → MasterMsg → Result MasterState Blame
sent_to_page master message =
    if message.mc.read then Ok master else
    if message.mc.address == 0 then command_sent master (command_in message) else
    if message.mc.address == 1 then cycle_sent master (slice_index message.od.items 0) else
    Ok master

-- in STARTUP
abbrev pub sent_in_startup : MasterState → MasterMsg → Result MasterState Blame
sent_in_startup master message = elim message.mc.channel [
  | Page ↦ sent_to_page master message
  | channel ↦ Err NotStartUp
]

-- On the other channels

abbrev pub isdu_sent : MasterState → Bool → MasterMsg → Result MasterState Blame
isdu_sent master isdu message = result_map_both
    (λ transfer. record master { transfer = transfer }) (λ fault. fault)
    (transfer_after_message isdu master.transfer message.mc.read (flow_of message.mc.address)
    message.od.items)

-- in PREOPERATE or OPERATE
abbrev pub sent_on : MasterState → Layouts → MasterMsg → Result MasterState Blame
sent_on master layouts message = elim message.mc.channel [
  | Process ↦ Ok master
  | Page ↦ sent_to_page master message
  | Diagnosis ↦ if is_due master.events message.mc.read message.mc.address then Ok master
      else Err NotDue
  | Isdu ↦ isdu_sent master layouts.isdu message
]

-- A message

-- a new message, by the mode: in OPERATE the process data out has to fit
abbrev pub sent_at : MasterPhase → MasterState → MasterMsg → Result MasterState Blame
sent_at (Preoperate layouts) master message = sent_on master layouts message
sent_at (Operate layouts) master message =
    elim (output_after_message master.output (command_in message) message.out.items) [
      | Ok output ↦ sent_on (record master { output = output }) layouts message
      | Err fault ↦ Err fault
    ]
sent_at phase master message = sent_in_startup master message

abbrev pub sent_new : MasterState → List ℕ → Result MasterState Blame
sent_new master octets = elim (message_in (phase_layout master.phase) octets) [
  | Some message ↦ sent_at master.phase master message
  | None ↦ Err NotWellFormed
]

-- the message that is out, again
abbrev pub master_after_repeat : MasterState → MasterState
master_after_repeat master = record master { transfer = transfer_after_repeat master.transfer }

-- these octets are to be sent again, after one attempt or two
abbrev pub left_out : MasterState → List ℕ → Bool → MasterState
left_out master octets twice =
    record master { out = Some (record { octets = record { items = octets }; twice = twice }) }

-- A START read in its place: it is out from now on, and the attempts are counted on
abbrev pub asked_instead : Bool → List ℕ → Result MasterState Blame → Result MasterState Blame
asked_instead twice octets (Ok master) =
    Ok (record (left_out master octets twice) { transfer = transfer_in_doubt master.transfer })
asked_instead twice octets (Err fault) = Err fault

-- A read of the StatusCode in place of a confirm: the same

abbrev pub checking : MasterState → MasterState
checking master = record master { events = flagged_events }

abbrev pub checked_instead : Bool → List ℕ → Result MasterState Blame → Result MasterState Blame
checked_instead twice octets (Ok master) = Ok (record (left_out master octets twice) {
  events = record master.events { reading = ConfirmDue };
})
checked_instead twice octets (Err fault) = Err fault

abbrev pub sent_new_or_repeat : Option MissedMessage → MasterState → List ℕ
    → Result MasterState Blame
sent_new_or_repeat None master octets = sent_new master octets
sent_new_or_repeat (Some out) master octets =
    if bytes_eq out.octets.items octets then Ok (master_after_repeat master) else
    if asks_instead master.transfer out.octets.items octets
    then asked_instead out.twice octets (sent_new master octets) else
    if checks_instead master.events out.octets.items octets
    then checked_instead out.twice octets (sent_new (checking master) octets) else
    Err NotRepeated

-- once it sends these octets
abbrev pub master_after_sending : MasterState → List ℕ → Result MasterState Blame
master_after_sending master octets = elim master.phase [
  | Down ↦ Err WakeDue
  | phase ↦ sent_new_or_repeat master.out master octets
]

-- What comes back

-- without a good reply: lost behind two attempts
abbrev pub master_without_reply : MasterState → List ℕ → MasterState
master_without_reply master octets = elim master.out [
  | None ↦ left_out master octets false
  | Some out ↦ if out.twice then record master { phase = Down; out = None }
      else left_out master octets true
]

-- the good reply to a write to the page: another mode drops the transfer
abbrev pub mode_entered : MasterState → Option MasterCommand → MasterState
mode_entered master command = record master {
  phase = phase_after_command master.phase (layouts_observed master.observed) command;
  transfer =
      if is_some command && not (is_in_operate master.phase) then Quiet else master.transfer;
}

-- the good reply to a read of events, or to the confirm of them
abbrev pub events_on : MasterState → Bool → List ℕ → MasterState
events_on master read octets = record master {
  events = record master.events {
    reading = reading_after_reply read (slice_index octets 0) master.events.reading;
  };
}

abbrev pub read_from : Channel → MasterState → MasterMsg → List ℕ → MasterState
read_from Process master message octets = master
read_from Page master message octets =
    record master {
      observed = page_noted master.observed message.mc.address
          (slice_index octets 0);
    }
read_from Diagnosis master message octets = events_on master true octets
read_from Isdu master message octets =
    record master { transfer = transfer_after_reply master.transfer octets }

abbrev pub written_to : Channel → MasterState → MasterMsg → List ℕ → MasterState
written_to Page master message octets = mode_entered master (command_in message)
written_to Diagnosis master message octets = events_on master false octets
written_to channel master message octets = master

-- a good reply: the message is out no more, and the Event flag is the reply's
abbrev pub master_after_reply : MasterState → MasterMsg → Reply → MasterState
master_after_reply master message reply =
    let flagged = record master {
      out = None;
      events = record master.events { flag = reply.event };
    } in
    if message.mc.read then read_from message.mc.channel flagged message reply.od.items
    else written_to message.mc.channel flagged message reply.od.items

abbrev pub heard_reply : MasterState → List ℕ → MasterMsg → Option Reply → MasterState
heard_reply master octets message None = master_without_reply master octets
heard_reply master octets message (Some reply) = master_after_reply master message reply

-- once this came in the time of a reply to what was sent, if anything did
abbrev pub master_after_answer : MasterState → List ℕ → Option (List ℕ) → MasterState
master_after_answer master octets answer =
    let layout = phase_layout master.phase in
    elim (message_in layout octets) [
      | Some message ↦ heard_reply master octets message
          (option_and_then (reply_in layout message.mc.read) answer)
      | None ↦ master
    ]

-- The watch

pub record WatchState : Type 0 where
  -- what was told of the page
  pub preset : List (Option ℕ)
  pub master : MasterState
  pub verdict : MasterVerdict
  -- how many exchanges there were
  pub exchanges : ℕ

abbrev pub new_watch : WatchState
new_watch =
    record { preset = nothing_observed; master = new_master; verdict = Unjudged; exchanges = 0 }

-- the device has this page
abbrev pub watch_with_page : WatchState → List (Option ℕ) → WatchState
watch_with_page watched page =
    record watched { preset = page; master = record watched.master { observed = page } }

-- the watch, told a wake-up request
abbrev pub watch_after_wake : WatchState → Wake → WatchState
watch_after_wake watched wake = elim watched.verdict [
  | NotByTheRules number fault ↦ watched
  | verdict ↦ record watched {
    master = master_after_wake watched.master watched.preset wake;
    verdict = ByTheRules;
  }
]

abbrev pub judged_as : WatchState → List ℕ → Option (List ℕ) → Result MasterState Blame → WatchState
judged_as watched octets answer (Ok master) =
    record watched { master = master_after_answer master octets answer }
judged_as watched octets answer (Err fault) = record watched {
  master = new_master;
  verdict = NotByTheRules watched.exchanges fault;
}

-- the watch, told an exchange
abbrev pub watch_after_exchange : WatchState → List ℕ → Option (List ℕ) → WatchState
watch_after_exchange watched octets answer =
    let counted = record watched { exchanges = min (watched.exchanges + 1) (2 ^ 64 - 1) } in
    elim watched.verdict [
      | ByTheRules ↦ judged_as counted octets answer (master_after_sending watched.master octets)
      | verdict ↦ counted
    ]
