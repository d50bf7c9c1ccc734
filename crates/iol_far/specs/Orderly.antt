-- A far end as it can be, and what it makes of messages to the page in STARTUP's layout, whatever
-- its mode.
use Rattle.std.specs.Prelude.{◌≡◌, ◌⊎◌, ℕ, false, true, List, Some, None, IfSome}
use Rattle.iol_octets.specs.declared.control.Channel.TheVariants.{Page}
use Rattle.iol_mseq.specs.Shape.{startup_shape}
use Rattle.iol_mseq.specs.declared.master.MasterMsg.{MasterMsg}
use Rattle.iol_page.specs.declared.master_command.MasterCommand.TheVariants.{DeviceStartup}
use Rattle.iol_far.specs.declared.mode.DeviceMode.TheVariants.{Startup}
use Rattle.iol_far.specs.Isdu.{Empty}
use Rattle.iol_far.specs.Codec.{message_in}
use Rattle.iol_far.specs.Far.{Far, WaitingCommand, layout_of, accepted_message, hear, far_after_message, is_mode, mode_asked, known_mode, command_in, output_of}
use Rattle.iol_far.specs.Local.{LocalStep, local, far_after_wake}
use Rattle.iol_far.specs.Level.{FarLink, link_of}
use Rattle.iol_far.specs.Laws.{IsValidInOperate}

-- a command that waits asks for another mode, as its octets say
pub record IsAsked (far : Far) (command : WaitingCommand) : Type 0 where
  pub other : is_mode far.mode command.into ≡ false
  pub asks : (message : MasterMsg) → message_in (layout_of far) command.octets ≡ Some message
      → known_mode far.page (mode_asked (command_in message)) ≡ Some command.into

-- In STARTUP it holds no text (its ISDU handler is inactive there, 7.3.6); a command that waits
-- asks for another mode; its output is valid in OPERATE alone
-- WIRE-3
pub record IsOrderly (far : Far) : Type 0 where
  pub startup : far.mode ≡ Startup → far.isdu ≡ Empty
  pub waits : IfSome far.waits (IsAsked far)
  pub valid : IsValidInOperate far

-- octets that spell this message to the page, in STARTUP's layout
pub record IsToPage (octets : List ℕ) (message : MasterMsg) : Type 0 where
  pub heard : message_in startup_shape octets ≡ Some message
  pub page : message.mc.channel ≡ Page

-- it is in STARTUP, or leaves its mode for it with the next other message, these octets having
-- asked for that
abbrev pub IsLeaving : List ℕ → FarLink → Type 0
IsLeaving octets link = (link ≡ record { mode = Startup; waits = None })
    ⊎ ((is_mode link.mode Startup ≡ false)
    × (link.waits ≡ Some (record { into = Startup; octets = octets })))

-- where it accepts them, its layout is that of STARTUP, and no output is left
pub record IsHeardAlike (octets : List ℕ) (message : MasterMsg) (there : Far)
    (heard : MasterMsg) : Type 0 where
  pub layout : layout_of there ≡ startup_shape
  pub message_is : heard ≡ message
  pub output : output_of (far_after_message there octets heard) ≡ None

pub record OrderlyLaws : Type 0 where
  pub steps : (far : Far) (step : LocalStep) → IsOrderly far → IsOrderly (local far step)
  pub wakes : (far : Far) → IsOrderly (far_after_wake far)
  pub hears : (far : Far) (octets : List ℕ) (message : MasterMsg) → IsToPage octets message
      → IsOrderly far → IsOrderly (hear far octets).far
  -- it holds what it held, or nothing
  pub holds : (far : Far) (octets : List ℕ) (message : MasterMsg) → IsToPage octets message
      → ((hear far octets).far.isdu ≡ far.isdu) ⊎ ((hear far octets).far.isdu ≡ Empty)
  pub alike : (far : Far) (octets : List ℕ) (message : MasterMsg) → IsToPage octets message
      → IsOrderly far → (there : Far) (heard : MasterMsg)
      → accepted_message far octets ≡ Some (there, heard) → IsHeardAlike octets message there heard
  -- behind a reply to DeviceStartup
  pub leaves : (far : Far) (octets : List ℕ) (message : MasterMsg) → IsToPage octets message
      → command_in message ≡ Some DeviceStartup → IsOrderly far
      → (reply : List ℕ) → (hear far octets).reply ≡ Some reply
      → ((hear far octets).far.awake ≡ true)
      × IsLeaving octets (link_of (hear far octets).far)
