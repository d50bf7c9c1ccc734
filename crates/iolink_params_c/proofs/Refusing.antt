-- Which numbers tell of a table's flaw.
-- For the clauses of `open::iol_params_open` and `open::sensor_with`.
use Rattle.std.proofs.Common.{◌≡◌, true, false, refl}
use Rattle.iol_page.specs.declared.fault.PageFault.{PageFault}
use Rattle.iol_page.specs.declared.fault.PageFault.TheVariants.{Revision, BadPdLength, UnsupportedCode}
use Rattle.iol_page.specs.Fault.{page_fault_number}
use Rattle.iol_params.specs.declared.table.Flaw.{Flaw}
use Rattle.iol_params.specs.declared.table.Flaw.TheVariants.{TooManyMembers, ManagedIndex, SubindexOutOfTurn, MixedAccess, BadLength, BadDefault, NoStoredNumber, BrokenAtFirst, TooMuchStored}
use Rattle.iol_params.specs.Flaws.{flaw_number}
use Rattle.iolink_params_c.specs.Calls.{is_flaw_number}

pub flaws_are : (flaw : Flaw) → is_flaw_number (flaw_number flaw) ≡ true
flaws_are TooManyMembers = refl
flaws_are ManagedIndex = refl
flaws_are SubindexOutOfTurn = refl
flaws_are MixedAccess = refl
flaws_are BadLength = refl
flaws_are BadDefault = refl
flaws_are NoStoredNumber = refl
flaws_are BrokenAtFirst = refl
flaws_are TooMuchStored = refl

pub page_faults_are_not : (fault : PageFault) → is_flaw_number (page_fault_number fault) ≡ false
page_faults_are_not (Revision n) = refl
page_faults_are_not BadPdLength = refl
page_faults_are_not UnsupportedCode = refl
