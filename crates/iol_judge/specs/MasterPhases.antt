-- How far a start-up of a master has come, and which commands are due in it.
use Rattle.std.specs.Prelude.{ℕ, Bool, true, false, ◌&&◌, ◌||◌, ◌==◌, nat_lt, is_some, is_none, Option, Some, None, unwrap_or, Result, Ok}
use Rattle.iol_mseq.specs.Shape.{Shape, startup_shape}
use Rattle.iol_page.specs.declared.page.Layouts.{Layouts}
use Rattle.iol_page.specs.declared.master_command.MasterCommand.{MasterCommand}
use Rattle.iol_page.specs.declared.master_command.MasterCommand.TheVariants.{MasterIdent, DeviceIdent, DeviceStartup, ProcessDataOutputOperate, DeviceOperate, DevicePreoperate}
use Rattle.iol_judge.specs.declared.open.Open.{Open}
use Rattle.iol_judge.specs.declared.master_phase.MasterPhase.{MasterPhase}
use Rattle.iol_judge.specs.declared.master_phase.MasterPhase.TheVariants.{Startup, Preoperate, Operate}
use Rattle.iol_judge.specs.declared.master.StartUp.{StartUp}

-- the layout of its messages
abbrev pub phase_layout : MasterPhase → Shape
phase_layout (Preoperate layouts) = unwrap_or layouts.pre startup_shape
phase_layout (Operate layouts) = layouts.run
phase_layout phase = startup_shape

-- once the good reply to a master command came
abbrev pub phase_after_command : MasterPhase → Result Layouts Open → Option MasterCommand
    → MasterPhase
phase_after_command Startup (Ok layouts) (Some DevicePreoperate) = Preoperate layouts
phase_after_command Startup (Ok layouts) (Some DeviceOperate) = Operate layouts
phase_after_command (Preoperate layouts) asked (Some DeviceOperate) = Operate layouts
phase_after_command phase asked command = phase

abbrev pub is_in_operate : MasterPhase → Bool
is_in_operate (Operate layouts) = true
is_in_operate phase = false

-- Whether a new master command is allowed; an octet that is none isn't. In STARTUP the page asks
-- for layouts of a device of V1.1, or of V1.0
abbrev pub allows : MasterPhase → Result Layouts Open → StartUp → Option MasterCommand → Bool
allows Startup asked done (Some MasterIdent) = true
allows Startup asked done (Some DeviceIdent) = true
allows Startup asked done (Some DeviceStartup) = true
allows Startup (Ok layouts) done (Some DevicePreoperate) = done.ident && is_some layouts.pre
allows Startup (Ok layouts) done (Some DeviceOperate) = done.cycle && is_none layouts.pre
allows (Preoperate layouts) asked done (Some DeviceOperate) = done.cycle
allows (Operate layouts) asked done (Some ProcessDataOutputOperate) = true
allows (Operate layouts) asked done (Some DeviceOperate) = true
allows phase asked done command = false

-- whether MasterCycleTime may be this octet, by MinCycleTime, where that is known: this one, or
-- a longer time that was chosen
abbrev pub allows_cycle : Option ℕ → ℕ → Bool
allows_cycle None octet = false
allows_cycle (Some least) octet = octet == least || (nat_lt least octet && nat_lt octet 192)
