-- What the octets of a message are, by the layout.
use Rattle.std.specs.Prelude.{ℕ, ◌+◌, Bool, not, ◌&&◌, ◌==◌, nat_lt, nat_le, if◌then◌else◌, List, length, slice_index, bytes_eq}
use Rattle.iol_link.specs.Honest.{test_read}
use Rattle.iol_octets.specs.CheckOctets.{type_bits}
use Rattle.iol_mseq.specs.Shape.{Shape}
use Rattle.iol_mseq.specs.Master.{sent_od}
use Rattle.iol_mseq.specs.Replies.{answered_od}
use Rattle.iol_capture.specs.declared.message.Meaning.{Meaning}
use Rattle.iol_capture.specs.declared.message.Meaning.TheVariants.{Part, Whole, TestRead, ReadOrTest}
use Rattle.iol_capture.specs.declared.splitter.Requests.{Requests}
use Rattle.iol_capture.specs.declared.splitter.Requests.TheVariants.{Unshown, Shown}

-- bit 7 of the first octet
abbrev pub is_read_message : List ℕ → Bool
is_read_message octets = nat_le 128 (slice_index octets 0)

-- how many octets a message has that begins with these
abbrev pub message_length : Shape → List ℕ → ℕ
message_length layout octets = 2 + layout.pd_out + sent_od layout (slice_index octets 0)

-- how many the reply to it has
abbrev pub reply_length : Shape → List ℕ → ℕ
reply_length layout sent = answered_od layout (is_read_message sent) + layout.pd_in + 1

abbrev pub is_test_read : List ℕ → Bool
is_test_read octets = bytes_eq octets test_read

-- What octets are that a message in this layout begins with. A test read stands behind a wake-up
-- request, and is a message in a layout of M-sequence type 0 alone; there it may be any read
abbrev pub meaning_in : Shape → Requests → List ℕ → Meaning
meaning_in layout requests octets =
    if is_test_read octets && not (type_bits layout.kind == 0) then TestRead else
    if nat_lt (length octets) (message_length layout octets) then Part else
    if is_test_read octets then elim requests [ Unshown ↦ ReadOrTest | Shown ↦ Whole ]
    else Whole
