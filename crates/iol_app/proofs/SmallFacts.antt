-- Facts of the parts of a session: the input that is shown, the output, the request, the events.
-- For the clauses of `laws::receive_gives`, `laws::rise_gives` and `laws::send_gives`.
use Rattle.std.proofs.Common.{◌≡◌, ℕ, ◌+◌, ◌≤◌, min, Bool, true, false, not, ◌&&◌, List, [], length, refl, arith}
use Rattle.std.proofs.lemmas.Bool.Decides.{nat_tests}
use Rattle.std.proofs.lemmas.Grind.{common_steps}
use Rattle.std.specs.Prelude.{Option, Some, if◌then◌else◌, ◌==◌, IfSome, IsSome, replicate, is_some, unwrap_or}
use Rattle.iol_mseq.specs.Shape.{Shape}
use Rattle.iol_mseq.specs.declared.reply.Reply.{Reply}
use Rattle.iol_image.specs.Image.{IsImage}
use Rattle.iol_far.specs.declared.mode.DeviceMode.TheVariants.{Operate as FarOperate}
use Rattle.iol_isdu.specs.declared.values.Request.{Request}
use Rattle.iol_far.specs.Level.{Progress, FarLink, Begin}
use Rattle.iol_page.specs.declared.page.Layouts.{Layouts}
use Rattle.iol_far.specs.Far.{Far, hear, heard_as}
use Rattle.iol_far.specs.Local.{LocalStep, locals}
use Rattle.iol_mode.specs.Stands.{entering_mode, IsOperating}
use Rattle.iol_app.specs.Abstract.Steps.{ImageOctets}
use Rattle.iol_app.specs.Abstract.Images.{image_or}
use Rattle.iol_app.specs.Exchange.{image_received, acknowledged_by, output_due}
use Rattle.iol_event.specs.Memory.{Events}
use Rattle.iol_app.specs.BothEnds.{ReadingState, wants_confirm, EventsFit}
use Rattle.iol_app.proofs.Accepted.{by_accepted}
use Rattle.iol_app.proofs.AllLaws.{by_locals}
use Rattle.iol_app.specs.declared.output.OutputState.{OutputState}
use Rattle.iol_app.specs.declared.session.Purpose.{Purpose}
use Rattle.iol_app.specs.declared.session.Purpose.TheVariants.{ConfirmEvents}
use Rattle.iol_app.specs.Outputs.{output_after}
use Rattle.iol_app.specs.declared.request.Current.{Current}
use Rattle.iol_app.specs.Requests.{request_under_way}
use Rattle.iol_app.specs.Moves.{move_for, confirms_events}
use Rattle.iol_app.specs.Ends.{output_for, OperateLink}

abbrev pub HasOctets : Option ImageOctets → Type 0
HasOctets input = IfSome input (λ image. 1 ≤ length image)

pub image_octets : (input : Option ImageOctets) → IfSome input IsImage → HasOctets input
image_octets input h = grind (arith, common_steps)

pub input_is : (size : ℕ) (input : Option ImageOctets) (reply : Reply)
    → IfSome input (λ image. length image ≡ size) → HasOctets input
    → reply.input.items ≡ (if size == 0 then [] else unwrap_or input (replicate size 0))
    → reply.invalid ≡ (not (size == 0) && not (is_some input)) → image_received size reply ≡ input
input_is size input reply sized octets items invalid = grind (arith, common_steps)

pub input_locals : (steps : List LocalStep) (far : Far) → HasOctets far.input
    → HasOctets (locals far steps).input
input_locals = by_locals (λ far. HasOctets far.input) (λ far step h. grind (arith, common_steps))

pub input_hear : (far : Far) (o : List ℕ) → (hear far o).far.input ≡ far.input
input_hear far o = by_accepted (λ q. (heard_as far o q).far.input ≡ far.input) far o refl
    (λ w m e. refl) (λ w c k m e. refl)

pub not_operate : (p : Option Shape) → entering_mode p ≡ FarOperate → ⊥
not_operate p e = grind (arith, common_steps)

pub same_output : (exchange : Purpose) (output : OutputState)
    → output_after exchange output ≡ record output
    { acknowledged = acknowledged_by (output_for exchange) output.acknowledged }
same_output exchange output = grind (arith, common_steps)

pub confirms_is : (exchange : Purpose) → confirms_events exchange ≡ true → exchange ≡ ConfirmEvents
confirms_is exchange e = grind (arith, common_steps)

pub more_silence : (n : ℕ) → min 3 (n + 1) ≡ 0 → ⊥
more_silence n e = grind (arith, nat_tests, common_steps)

pub third_time : (tries silence : ℕ) → tries ≡ 2 → tries ≤ silence → 3 ≤ min 3 (silence + 1)
third_time tries silence e few = grind (arith, nat_tests, common_steps)

pub begins_request : (exchange : Purpose) (current : Option Current) (request : Request)
    → move_for exchange current ≡ Begin request → request_under_way current ≡ Some request
begins_request exchange current request e = grind (arith, common_steps)

pub enables_wanted : (wanted : Option ImageOctets) (acked : Bool)
    → Some true ≡ output_due wanted acked
    → IsSome wanted
enables_wanted wanted acked e = grind (arith, common_steps)

pub drops_acknowledged : (wanted : Option ImageOctets) (acked : Bool)
    → Some false ≡ output_due wanted acked
    → acked ≡ true
drops_acknowledged wanted acked e = grind (arith, common_steps)

pub some_or : (wanted sent : Option ImageOctets) → IsSome wanted → IsSome (image_or wanted sent)
some_or wanted sent h = grind (arith, common_steps)

pub image_some : (wanted : Option ImageOctets) (carried : List ℕ) → IsSome wanted
    → IfSome wanted IsImage → 1 ≤ length (unwrap_or wanted carried)
image_some wanted carried some h = grind (arith, common_steps)

pub sent_made : (wanted sent : Option ImageOctets) (carried : List ℕ)
    → IfSome sent (λ image. image ≡ carried)
    → IfSome (image_or wanted sent) (λ image. image ≡ unwrap_or wanted carried)
sent_made wanted sent carried h = grind (arith, common_steps)

pub same_carried : (sent : Option ImageOctets) (octets carried : List ℕ) → octets ≡ carried
    → IfSome sent (λ image. image ≡ carried) → IfSome sent (λ image. octets ≡ image)
same_carried sent octets carried e h = grind (arith, common_steps)

pub keeps_some : (wanted sent : Option ImageOctets) → IsSome sent → IsSome (image_or wanted sent)
keeps_some wanted sent h = grind (arith, common_steps)

pub events_due : (r : ReadingState) (c : Bool) (m : Events) → (c ≡ true → wants_confirm r ≡ true)
    → EventsFit r false m → EventsFit r c m
events_due r c m due h = grind (arith, common_steps)

pub operating : (layouts : Layouts) (progress : Progress) (link : FarLink)
    → OperateLink layouts progress link → IsOperating layouts link
operating layouts progress link h = grind (arith, common_steps)
