-- What is kept of a line.
use Rattle.std.specs.Prelude.{ℕ, Bool, ◌==◌, List, [], length, Option}
use Rattle.iol_mseq.specs.Shape.{Shape, startup_shape}
use Rattle.iol_far.specs.Level.{FarLink}
use Rattle.iol_link.specs.declared.wire.Rate.{Rate}
use Rattle.iol_judge.specs.Observed.{nothing_observed}
use Rattle.iol_capture.specs.Linking.{started_link}
use Rattle.iol_capture.specs.declared.splitter.Phase.{Phase}
use Rattle.iol_capture.specs.declared.splitter.Phase.TheVariants.{Asleep}
use Rattle.iol_capture.specs.declared.splitter.Requests.{Requests}
use Rattle.iol_capture.specs.declared.splitter.Requests.TheVariants.{Unshown}

pub record Splitting : Type 0 where
  pub rate : Rate
  -- whether the decoder shows wake-up requests
  pub requests : Requests
  -- what is known of the page
  pub observed : List (Option ℕ)
  pub link : FarLink
  -- that of the message under way, once it is whole
  pub layout : Shape
  pub phase : Phase
  -- the message and the reply under way
  pub sent : List ℕ
  pub answer : List ℕ
  -- when the last octet or wake-up request began
  pub last : ℕ
  -- how many octets were passed over
  pub passed_over : ℕ

abbrev pub new_splitter : Rate → Splitting
new_splitter rate = record {
  rate = rate;
  requests = Unshown;
  observed = nothing_observed;
  link = started_link;
  layout = startup_shape;
  phase = Asleep;
  sent = [];
  answer = [];
  last = 0;
  passed_over = 0;
}

-- the octet told last begins a message, or a test read
abbrev pub begins_call : Splitting → Bool
begins_call state = length state.sent == 1
