-- What the messages of OPERATE are for the device.
-- For the clauses of `laws::receive_gives` and `laws::send_gives`.
use Rattle.std.proofs.lemmas.Grind.{common_steps}
use Rattle.std.proofs.Common.{◌≡◌, ℕ, List, refl, ap, ◌∙◌, Option, None, zero, suc, ◌-◌, ◌≤◌, [], ◌∷◌, ◌++◌, length, replicate, drop, sym, arith}
use Rattle.std.specs.Prelude.{◌⊎◌}
use Rattle.iol_octets.specs.declared.control.Channel.TheVariants.{Page}
use Rattle.iol_mseq.specs.Shape.{Shape}
use Rattle.iol_mseq.specs.declared.master.MasterMsg.{MasterMsg}
use Rattle.iol_far.specs.Far.{command_in}
use Rattle.iol_app.specs.declared.event_work.ReadingProgress.{ReadingProgress}
use Rattle.iol_app.specs.declared.request.Current.{Current}
use Rattle.iol_app.specs.declared.session.Purpose.{Purpose}
use Rattle.iol_app.specs.declared.session.Purpose.TheVariants.{EnableOutput, DropOutput}
use Rattle.iol_app.specs.Messages.{head_for, head_of, data_for}
use Rattle.iol_app.specs.Moves.{confirms_events}
use Rattle.iol_mseq.specs.Texts.{master_text}
use Rattle.iol_page.specs.Commands.{command_octet}
use Rattle.iol_page.specs.declared.master_command.MasterCommand.TheVariants.{ProcessDataOutputOperate, DeviceOperate}
use Rattle.iol_mseq.specs.Parts.{first_of_zeros}
use Rattle.iol_mode.specs.Messages.{command_message}
use Rattle.iol_app.specs.declared.mode.Mode.TheVariants.{Operate}
use Rattle.iol_app.specs.BothEnds.{is_confirm_message, output_by}
use Rattle.iol_app.specs.Ends.{output_for}

-- a confirm, a read of events

pub exchange_confirms : (exchange : Purpose) (reading : ReadingProgress) (current : Option Current)
    (message : MasterMsg) → head_of message.mc ≡ head_for exchange reading current
    → is_confirm_message message ≡ confirms_events exchange
exchange_confirms exchange going current message e = grind (arith, common_steps)

-- an output command

pub exchange_command : (exchange : Purpose) (reading : ReadingProgress) (current : Option Current)
    (size : ℕ) (message : MasterMsg) → head_of message.mc ≡ head_for exchange reading current
    → message.od.items ≡ data_for exchange size current
    → output_by Operate (command_in message) ≡ output_for exchange
exchange_command exchange going current size message e d = grind (arith, common_steps)

-- ProcessDataOutputOperate in OPERATE isn't DeviceOperate in PREOPERATE

zeros_only : (xs : List ℕ) (value : ℕ) (ys : List ℕ) (n : ℕ) → xs ++ value ∷ ys ≡ replicate n 0
    → value ≡ 0
zeros_only [] value ys zero e = absurd (cc e)
zeros_only [] value ys (suc n) e = cc e
zeros_only (x ∷ xs) value ys zero e = absurd (cc e)
zeros_only (x ∷ xs) value ys (suc n) e = zeros_only xs value ys n (cc e)

not_zero : (octet : ℕ) → octet ≡ 0x98 → octet ≡ 0 → ⊥
not_zero octet e z = omega arith

parts_differ : (out : List ℕ) (m n : ℕ) → 1 ≤ length out
    → out ++ first_of_zeros m (command_octet ProcessDataOutputOperate)
    ≡ first_of_zeros n (command_octet DeviceOperate) → ⊥
parts_differ [] m n low e = omega arith
parts_differ (x ∷ xs) m n low e =
    let k : x ∷ (xs ++ 0x98 ∷ replicate (m - 1) 0) ≡ 0x99 ∷ replicate (n - 1) 0 = e in
    not_zero 0x98 refl (zeros_only xs 0x98 (replicate (m - 1) 0) (n - 1) cc)

pub enable_differs : (run pre : Shape) (message : MasterMsg) (size : ℕ)
    → 1 ≤ length message.out.items → message.od.items ≡ data_for EnableOutput size None
    → master_text run message ≡ master_text pre (command_message pre DeviceOperate) → ⊥
enable_differs run pre message size low od e =
    parts_differ message.out.items size pre.od low
    (ap (λ (o : List ℕ). message.out.items ++ o) (sym od) ∙ ap (drop 2) e)

-- only output commands are of the page

pub page_command : (exchange : Purpose) (reading : ReadingProgress) (current : Option Current)
    → (head_for exchange reading current).channel ≡ Page
    → (exchange ≡ EnableOutput) ⊎ (exchange ≡ DropOutput)
page_command exchange going current e = grind (arith, common_steps)
