-- The segments of an answer, one after the other.
-- For the clauses of `request::asked`, `request::doubted`, `request::replied` and 23 more.
use Rattle.std.proofs.lemmas.Grind.{common_steps}
use Rattle.std.proofs.Common.{◌≡◌, ℕ, zero, suc, ◌*◌, ◌%◌, ◌<◌, Bool, true, false, ◌&&◌, if◌then◌else◌, List, ◌++◌, length, refl, sym, arith, ◌+◌, Option, Some, None, Result, Ok, Err}
use Rattle.std.proofs.lemmas.List.{length-append}
use Rattle.iol_isdu.specs.declared.fault.IsduFault.{IsduFault}
use Rattle.iol_segment.specs.Join.{Open, stage, Stage, Joining, JoinStep, stage_step, join_step}
use Rattle.iol_segment.specs.TextLaws.{HoldsLength, TextLaws, segments_up_to}
use Rattle.std.proofs.Math.Numerals.{add-one}
use Rattle.iol_octets.specs.declared.flow_control.Flow.TheVariants.{Count}
use Rattle.iol_isdu.specs.declared.values.Request.{Request}
use Rattle.iol_app.specs.declared.request.Current.{Current}
use Rattle.iol_app.specs.declared.request.RequestProgress.{RequestProgress}
use Rattle.iol_app.specs.declared.request.RequestProgress.TheVariants.{Refused}
use Rattle.iol_isdu.specs.declared.values.Cause.{Cause}
use Rattle.iol_segment.specs.declared.took.Took.{Took}
use Rattle.iol_segment.specs.declared.took.Took.TheVariants.{Repeat, More, Whole}
use Rattle.iol_segment.specs.declared.took.JoinFault.{JoinFault}
use Rattle.iol_segment.specs.Cut.{Cutting}
use Rattle.iol_segment.specs.JoinLaws.{count_at}
use Rattle.iol_app.specs.Requests.{ReplyEffect, GoesOn, HasText, effect_of_text, effect_of_segment, effect_of_count_read, current_after_refusal, forgotten_by, IsJoining, IsCurrent}

-- octets before them aren't whole either
open_before : (xs ys : List ℕ) → stage (xs ++ ys) ≡ Open → stage xs ≡ Open
open_before xs ys e = grind (arith, common_steps)

total_low : (text : List ℕ) → HoldsLength text → 0 < length text
total_low text e = grind (arith, common_steps)

not_last : (size : ℕ) → TextLaws size → (text : List ℕ) → HoldsLength text → (i : ℕ)
    → i * size < length text → stage (segments_up_to size text i) ≡ Open
    → suc i * size < length text
not_last size laws text holds i low e = grind (arith, common_steps)

-- the octets of a text's first segments that aren't whole are followed by another
pub more_follow : (size : ℕ) → TextLaws size → (text : List ℕ) → HoldsLength text → (i : ℕ)
    → stage (segments_up_to size text i) ≡ Open → suc i * size < length text
more_follow size laws text holds zero e =
    let low = total_low text holds in
    let first : 0 * size < length text = omega (arith, low) in
    not_last size laws text holds 0 first e
more_follow size laws text holds (suc i) e =
    not_last size laws text holds (suc i)
    (more_follow size laws text holds i (open_before (segments_up_to size text i) _ e)) e

-- a joiner takes the next segment, whatever its octets
pub taken_next : (size last : ℕ) (j : Joining) (od : List ℕ) → IsJoining size last j
    → join_step j (Count ((last + 1) % 16)) od
    ≡ stage_step (Some (suc last % 16)) (j.text ++ od) (stage (j.text ++ od))
taken_next size last j od h = grind (arith, common_steps)

-- what becomes of a request goes on as one, of the same cut
abbrev pub StaysCurrent : Cutting Request → ReplyEffect → Type 0
StaysCurrent cutter (GoesOn next) = IsCurrent next × (next.cutter.size ≡ cutter.size)
    × (next.cutter.source ≡ cutter.source)
StaysCurrent cutter (HasText text) = Unit {0}

module _ (current : Current) (h : IsCurrent current) where
  open current use {cutter}

  pub refused_stays : StaysCurrent cutter (GoesOn (current_after_refusal current))
  refused_stays = grind (arith, common_steps)

  finished_stays : (text : List ℕ) (fault : Option IsduFault)
      → StaysCurrent cutter (effect_of_text text fault current)
  finished_stays text fault = grind (arith, common_steps)

  -- a segment of this number was taken
  pub joined_stays : (last : ℕ) (octets : List ℕ) (at : Stage) → stage octets ≡ at
      → length octets ≡ suc last * cutter.size
      → let t : JoinStep = stage_step (count_at last) octets at in
      StaysCurrent cutter (effect_of_segment last t.took t.joining current)
  joined_stays last octets at e size = grind (arith, common_steps, finished_stays, refused_stays)

  -- the reply to a COUNT read, with the next segment
  pub received_stays : (repeat : Bool) (j : Joining) (last : ℕ) (od : List ℕ)
      → IsJoining cutter.size last j → length od ≡ cutter.size
      → StaysCurrent cutter (effect_of_count_read repeat j (last + 1) od current)
  received_stays repeat j last od joining size =
      elim (repeat && forgotten_by t.took od) as
      (λ b. StaysCurrent cutter (if b then GoesOn (current_after_refusal current)
      else effect_of_segment (last + 1) t.took t.joining current))
      [ true ↦ refused_stays | false ↦ next ]
    where
      t : JoinStep
      t = join_step j (Count ((last + 1) % 16)) od

      next : StaysCurrent cutter (effect_of_segment (last + 1) t.took t.joining current)
      next =
          let all = length-append j.text od in
          let before : length j.text ≡ suc last * cutter.size = joining.size_of in
          let long : length (j.text ++ od) ≡ suc (suc last) * cutter.size = omega arith in
          rw (taken_next cutter.size last j od joining, add-one last)
          (joined_stays (suc last) (j.text ++ od) (stage (j.text ++ od)) refl long)

-- what becomes of a request is the same, whatever it was about before
finished_at : (current : Current) (p : RequestProgress) (text : List ℕ) (fault : Option IsduFault)
    → effect_of_text text fault (record current { progress = p })
    ≡ effect_of_text text fault current
finished_at current p text None = refl
finished_at current p text (Some fault) = refl

pub joined_at : (current : Current) (p : RequestProgress) (last : ℕ) (took : Result Took JoinFault)
    (joining : Joining) → effect_of_segment last took joining (record current { progress = p })
    ≡ effect_of_segment last took joining current
joined_at current p last (Err fault) joining = refl
joined_at current p last (Ok Whole) joining = finished_at current p joining.text _
joined_at current p last (Ok More) joining = refl
joined_at current p last (Ok Repeat) joining = refl

pub joined_then : (cutter : Cutting Request) (repeat : Bool) (abort : Option Cause)
    (p : RequestProgress)
    (last : ℕ) (took : Result Took JoinFault) (joining : Joining)
    → effect_of_segment last took joining
    (record { cutter = cutter; progress = p; repeat = repeat; abort = abort })
    ≡ effect_of_segment last took joining
    (record { cutter = cutter; progress = Refused; repeat = repeat; abort = abort })
joined_then cutter repeat abort p last took joining = sym (joined_at
    (record { cutter = cutter; progress = p; repeat = repeat; abort = abort }) Refused last took
    joining)
