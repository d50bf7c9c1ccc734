-- The services, as the code of this crate names them.
use Rattle.std.specs.Prelude.{ℕ, ◌+◌}
use Rattle.iol_isdu.specs.declared.service.Service.{Service}
use Rattle.iol_isdu.specs.declared.service.Service.TheVariants.{Write, WriteRefused, WriteDone, Read, ReadRefused, ReadDone}
use Rattle.iol_isdu.specs.Requests.{form_number}

-- the high four bits of the first octet
abbrev pub service_number : Service → ℕ
service_number (Write form) = 1 + form_number form
service_number WriteRefused = 4
service_number WriteDone = 5
service_number (Read form) = 9 + form_number form
service_number ReadRefused = 12
service_number ReadDone = 13
