-- What each round of a loop of `octet_line::digits_behind` keeps.
use Rattle.std.proofs.Common.{◌≡◌, drop}
use Rattle.std.specs.Prelude.{Some}
use Rattle.iol_capture.specs.OctetLines.{digits_behind}
use Rattle.iol_capture.proofs.octet_line.digits_behind.Given as goal

abbrev pub invariant-loop-digit : goal.invariant-loop-digit
invariant-loop-digit l = digits_behind (Some l.fn.number) l.digits
    ≡ digits_behind (Some l.number) (drop l.digit-index l.digits)
