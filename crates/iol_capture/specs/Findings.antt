-- What is printed of a judged capture.
use Rattle.std.specs.Prelude.{ℕ, Bool, false, not, ◌&&◌, ◌||◌, ◌==◌, Option, Some, None, is_some, List, [], ◌++◌, if◌then◌else◌, codes, flat_map}
use Rattle.std.specs.Fmt.{decimal}
use Rattle.iol_judge.specs.declared.open.Open.{Open}
use Rattle.iol_judge.specs.declared.open.Open.TheVariants as «open»
use Rattle.iol_judge.specs.declared.reason.Reason.{Reason}
use Rattle.iol_judge.specs.declared.reason.Reason.TheVariants as reason
use Rattle.iol_judge.specs.declared.verdict.Verdict.{Verdict}
use Rattle.iol_judge.specs.declared.verdict.Verdict.TheVariants.{Unjudged, Honest, NotHonest, CantSay}
use Rattle.iol_judge.specs.declared.kinds.Kinds.{Kinds}
use Rattle.iol_judge.specs.Judged.{kinds_left}
use Rattle.iol_judge.specs.Numbers.{open_number, reason_number}
use Rattle.iol_link.specs.declared.wire.Rate.{Rate}
use Rattle.iol_link.specs.declared.wire.Rate.TheVariants.{Com1, Com2, Com3}
use Rattle.iol_capture.specs.declared.spacing.RateDoubt.{RateDoubt}
use Rattle.iol_capture.specs.declared.spacing.RateDoubt.TheVariants.{Apart, Overlap}
use Rattle.iol_capture.specs.declared.judgement.ExchangeCounts.{ExchangeCounts}
use Rattle.iol_capture.specs.declared.judgement.OddExchange.{OddExchange}
use Rattle.iol_capture.specs.declared.printing.Finding.{Finding}
use Rattle.iol_capture.specs.declared.printing.Finding.TheVariants as found
use Rattle.iol_judge.specs.declared.blame.Blame.{Blame}
use Rattle.iol_judge.specs.declared.blame.Blame.TheVariants as fault
use Rattle.iol_judge.specs.declared.master_verdict.MasterVerdict.TheVariants as master
use Rattle.iol_judge.specs.BlameNumbers.{blame_number}
use Rattle.iol_capture.specs.Judging.{Judging}
use Rattle.iol_capture.specs.Watching.{Watching, is_blamed}

-- the name of a reason, what a device by the rules doesn't send, and the rule
abbrev pub reason_text : Reason → List ℕ
reason_text reason.NotTaken = codes
    "NotTaken: a reply to a message that the device doesn't take in its mode (DEV-2)"
reason_text reason.ReplyLength = codes
    "ReplyLength: a reply of another length than the layout of its mode gives (MSG-4)"
reason_text reason.StatusWithoutData = codes
    "StatusWithoutData: PD status 1 in a layout without process data in (DEV-8)"
reason_text reason.InvalidNotZero = codes
    "InvalidNotZero: PD status 1 with process data in that isn't zeros (DEV-8)"
reason_text reason.FlagAtConfirm = codes
    "FlagAtConfirm: Event flag 1 in the reply to the confirm of events (EVT-2)"
reason_text reason.FlagGone = codes
    "FlagGone: Event flag 0 before the events were confirmed (EVT-2)"
reason_text reason.StatusCode = codes
    "StatusCode: another StatusCode than that of the events that the device shows (EVT-4)"
reason_text reason.EventOctet = codes
    "EventOctet: an octet of an event that is another than before, or of none and not 0 (EVT-4)"
reason_text reason.PageChanged = codes
    "PageChanged: an octet of the page that was another before (PAGE-1)"
reason_text reason.PageZero = codes
    "PageZero: a page address outside 01 to 0B that isn't 0 (PAGE-1)"
reason_text reason.CycleTime = codes
    "CycleTime: page address 01 isn't what was written or read there (DEV-9)"
reason_text reason.ProcessNotZero = codes
    "ProcessNotZero: a read of the process channel that isn't zeros (DEV-7)"
reason_text reason.RestNotZero = codes
    "RestNotZero: octets behind the first that aren't zeros (MSG-6)"
reason_text reason.NoAnswerDue = codes "NoAnswerDue: an answer where no request was begun (DEV-14)"
reason_text reason.NotBusy = codes
    "NotBusy: a first reply behind a whole request that isn't busy (DEV-12)"
reason_text reason.BusyAgain = codes
    "BusyAgain: busy, though the answer's first segment was read (DEV-13)"
reason_text reason.AnswerKind = codes
    "AnswerKind: an answer that is none to such a request (ISDU-4, ISDU-8)"
reason_text reason.AnswerLength = codes
    "AnswerLength: an answer of a total length that no text has (ISDU-2)"
reason_text reason.AnswerSum = codes
    "AnswerSum: an answer of which the XOR of all octets isn't 0 (ISDU-1)"
reason_text reason.AnswerPadding = codes
    "AnswerPadding: octets behind an answer that aren't zeros (SEG-1)"
reason_text reason.SegmentChanged = codes
    "SegmentChanged: a segment of an answer that was another before (DEV-13)"

-- why nothing can be said
abbrev pub open_text : Open → List ℕ
open_text «open».PageUnread = codes
    "PageUnread: a mode was asked for before the page's octets 03 to 06 were read (PAGE-5)"
open_text «open».PageRefused = codes
    "PageRefused: the page's octets 03 to 06 ask for no layouts (PAGE-5)"
open_text «open».TooManyStates = codes
    "TooManyStates: too many states of a device are possible"

-- a call of the wire, and the number of a reason, with its text
abbrev pub because_text : ℕ → List ℕ → ℕ → List ℕ → List ℕ
because_text call joint number text =
    decimal call ++ joint ++ decimal number ++ codes " " ++ text ++ codes "\n"

-- how many exchanges were judged, and in how many of them nothing came back
abbrev pub honest_text : ℕ → ℕ → List ℕ
honest_text judged lost = codes "honest " ++ decimal judged ++ codes " exchanges"
    ++ (codes ", " ++ decimal lost ++ codes " lost\n")

-- the verdict, with the call on which it rests
abbrev pub verdict_text : Verdict → ℕ → ExchangeCounts → List ℕ
verdict_text Unjudged call counts = codes "can't say: no wake-up request was answered\n"
verdict_text Honest call counts = honest_text counts.judged counts.lost
verdict_text (NotHonest exchange reason) call counts = codes "not honest at "
    ++ because_text call (codes ": ") (reason_number reason) (reason_text reason)
verdict_text (CantSay exchange why) call counts = codes "can't say from "
    ++ because_text call (codes " on: ") (open_number why) (open_text why)

-- the name of a fault of the master, what none by the rules sends, and the rules
abbrev pub fault_text : Blame → List ℕ
fault_text fault.WakeDue = codes
    "WakeDue: a message where a wake-up request was due (LINK-1, LINK-3)"
fault_text fault.NotRepeated = codes
    "NotRepeated: another message than the one that had no good reply (LINK-2)"
fault_text fault.NotStartUp = codes
    "NotStartUp: a channel, command or cycle time that the mode doesn't allow there (LINK-6, LINK-7, LINK-8, LINK-10, LINK-12)"
fault_text fault.NotWellFormed = codes
    "NotWellFormed: octets that are no message in the layout of the mode (MSG-3, LINK-9)"
fault_text fault.OutputOctets = codes
    "OutputOctets: other process data out, though the device's output isn't valid (PD-4, PD-5, PD-6)"
fault_text fault.NotDue = codes
    "NotDue: an ISDU or event message that nothing asks for (REQ-3, REQ-4, REQ-5, REQ-7, EVT-5, EVT-6, EVT-8)"
fault_text fault.RequestText = codes
    "RequestText: segments that are the beginning of no request, or go on behind one (ISDU-1, ISDU-2, ISDU-3, SEG-1)"
fault_text fault.NotInLine = codes
    "NotInLine: a COUNT that isn't the one behind the last (SEG-2)"

-- a call, and why nothing is said from it on
abbrev pub from_text : ℕ → List ℕ → List ℕ
from_text from why = decimal from ++ codes " on: " ++ why ++ codes "\n"

-- the same of the master
abbrev pub unsure_text : ℕ → List ℕ → List ℕ
unsure_text from why = codes "master can't be judged from " ++ from_text from why

-- the master's first fault, in this call, where its mode is known
abbrev pub blamed_text : Blame → ℕ → Option ℕ → Option ℕ → List ℕ
blamed_text fault call None None = codes "master not by the rules at "
    ++ because_text call (codes ": ") (blame_number fault) (fault_text fault)
blamed_text fault call (Some from) unheard =
    unsure_text from (codes "the read there may be behind a wake-up request that isn't shown")
blamed_text fault call None (Some from) =
    unsure_text from (codes "octets before it were passed over")

-- what is said of the master
abbrev pub master_verdict_text : Watching → List ℕ
master_verdict_text watching = elim watching.watched.verdict [
  | master.Unjudged ↦ codes "master can't be judged: no wake-up request was made\n"
  | master.ByTheRules ↦ codes "master by the rules\n"
  | master.NotByTheRules exchange fault ↦
      blamed_text fault watching.call watching.unsure watching.unheard
]

-- The kinds that a device may be of, where it may be of some, and not of all four
abbrev pub are_named : Kinds → Bool
are_named kinds =
    (kinds.first_left || kinds.first_sent || kinds.last_left || kinds.last_sent)
    && not (kinds.first_left && kinds.first_sent && kinds.last_left && kinds.last_sent)

-- its name in a script, where it may be of this kind, and one is named before it or not
abbrev pub kind_text : Bool → Bool → List ℕ → List ℕ
kind_text may_be named name =
    if may_be then (if named then codes " or " else codes "kind ") ++ name else []

abbrev pub kinds_text : Kinds → List ℕ
kinds_text kinds = if not (are_named kinds) then [] else
    kind_text kinds.first_left false (codes "first keeps")
    ++ kind_text kinds.first_sent kinds.first_left (codes "first forgets")
    ++ kind_text kinds.last_left (kinds.first_left || kinds.first_sent) (codes "last keeps")
    ++ kind_text kinds.last_sent (kinds.first_left || kinds.first_sent || kinds.last_left)
    (codes "last forgets")
    ++ codes "\n"

-- how many exchanges of this name there are, where there are any
abbrev pub count_text : List ℕ → ℕ → List ℕ
count_text name count = if count == 0 then [] else name ++ decimal count ++ codes "\n"

-- why the rate can't be the one that was given, and which is likely
abbrev pub rate_word : Rate → List ℕ
rate_word Com1 = codes "COM1"
rate_word Com2 = codes "COM2"
rate_word Com3 = codes "COM3"

abbrev pub at_rate_text : Rate → List ℕ → Rate → List ℕ
at_rate_text rate why likely = codes "at " ++ rate_word rate ++ why ++ codes "; is it "
    ++ rate_word likely ++ codes "?\n"

abbrev pub doubt_text : Option RateDoubt → List ℕ
doubt_text None = []
doubt_text (Some (Overlap rate likely)) = at_rate_text rate (codes " the octets overlap") likely
doubt_text (Some (Apart rate likely)) = at_rate_text rate (codes " the octets are far apart") likely

-- odd exchanges, a line each
abbrev pub odd_texts : List OddExchange → List ℕ
odd_texts = flat_map (λ (odd : OddExchange). because_text odd.call (codes " odd: ")
    (reason_number odd.reason) (reason_text odd.reason))

-- what is printed
abbrev pub finding_text : Judging → List ℕ
finding_text judging = odd_texts judging.odd
    ++ count_text (codes "unjudged ") judging.counts.unjudged
    ++ count_text (codes "lines skipped ") judging.skipped
    ++ count_text (codes "octets passed over ") judging.passed_over
    ++ doubt_text judging.rate_doubt
    ++ master_verdict_text judging.watching
    ++ kinds_text (kinds_left judging.judged)
    ++ verdict_text judging.judged.verdict judging.decided judging.counts
    ++ count_text (codes "odd ") judging.judged.oddities

-- the master is blamed, and no doubt is left of its mode
abbrev pub is_surely_blamed : Watching → Bool
is_surely_blamed watching = is_blamed watching.watched.verdict
    && not (is_some watching.unsure) && not (is_some watching.unheard)

-- what was found
abbrev pub finding_of : Judging → Finding
finding_of judging = elim judging.judged.verdict [
  | Unjudged ↦ found.CantSay
  | Honest ↦ if is_surely_blamed judging.watching then found.MasterAtFault else found.Honest
  | NotHonest exchange reason ↦ found.NotHonest
  | CantSay exchange why ↦ found.CantSay
]
