-- What `judge` finds, and prints of it.
use Rattle.std.specs.Prelude.{◌≡◌, ℕ, Ok, List}
use Rattle.iol_judge.specs.declared.verdict.Odd.{Odd}
use Rattle.iol_capture.specs.declared.printing.Finding.{Finding}
use Rattle.iol_capture.specs.declared.telling.CaptureForm.{CaptureForm}
use Rattle.iol_capture.specs.Capture.{capture_judged}
use Rattle.iol_capture.specs.Findings.{finding_of, finding_text}
use Rattle.iol_capture.specs.Judging.{Judging}

-- a capture in this form is read to its end; this is found in it, and this is printed
pub record Judges (form : CaptureForm) (odd : Odd) (capture : List ℕ) (finding : Finding)
    (text : List ℕ) : Type 0 where
  pub judging : Judging
  pub judged : capture_judged form odd capture ≡ Ok judging
  pub finds : finding ≡ finding_of judging
  pub text_is : text ≡ finding_text judging
