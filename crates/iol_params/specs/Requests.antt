-- What a manager answers to a request, and what it becomes.
use Rattle.std.specs.Prelude.{ℕ, ◌==◌, ◌&&◌, ◌||◌, not, nat_le, nat_lt, if◌then◌else◌, List, [], ◌∷◌, Option, Some, None}
use Rattle.iol_isdu.specs.declared.values.Place.{Place}
use Rattle.iol_isdu.specs.declared.values.Request.{Request}
use Rattle.iol_isdu.specs.declared.values.Request.TheVariants as request
use Rattle.iol_isdu.specs.declared.values.Answer.{Answer}
use Rattle.iol_isdu.specs.declared.values.Answer.TheVariants as answer
use Rattle.iol_params.specs.declared.error_type.ErrorType.{ErrorType}
use Rattle.iol_params.specs.declared.error_type.ErrorType.TheVariants.{SubindexNotAvailable, AccessDenied, ValueOutOfRange, TooLong, TooShort, FunctionNotAvailable, FunctionUnavailable}
use Rattle.iol_params.specs.declared.state.Scope.{Scope}
use Rattle.iol_params.specs.declared.state.Scope.TheVariants.{Block, Storage}
use Rattle.iol_params.specs.declared.state.Command.{Command}
use Rattle.iol_params.specs.Errors.{refusal_answer}
use Rattle.iol_params.specs.Commands.{param_command}
use Rattle.iol_params.specs.Table.{ParamTable}
use Rattle.iol_params.specs.State.{ParamState, is_at_rest, takes_writes, locks_octet, locks_in}
use Rattle.iol_params.specs.Storage.{storage_value}
use Rattle.iol_params.specs.Carry.{write, command}
use Rattle.iol_params.specs.Manager.{read_answer}

-- what a read of Index 3 answers
abbrev pub storage_read : ParamTable → ParamState → ℕ → Answer
storage_read table s sub = if sub == 1 then refusal_answer AccessDenied else
    if nat_le 2 sub && nat_le sub 5
    then answer.Read (record { items = storage_value table s sub })
    else refusal_answer SubindexNotAvailable

-- what a read answers
-- PAR-3
abbrev pub read_request : ParamTable → ParamState → Place → Answer
read_request table s place =
    if place.index == 3 then storage_read table s place.sub else
    if not ((place.index == 2) || (place.index == 12)) then read_answer table s place else
    if not (place.sub == 0) then refusal_answer SubindexNotAvailable else
    if place.index == 2 then refusal_answer AccessDenied else
    answer.Read (record { items = 0 ∷ locks_octet s.locks ∷ [] })

-- a command, if the octet is one
abbrev pub asked_command : ErrorType → ParamTable → ParamState → Scope → Option Command
    → Option ErrorType × ParamState
asked_command unknown table s scope None = (Some unknown, s)
asked_command unknown table s scope (Some asked) = command table s scope asked

abbrev pub command_write : ErrorType → ParamTable → ParamState → Scope → List ℕ
    → Option ErrorType × ParamState
command_write unknown table s scope [] = (Some TooShort, s)
command_write unknown table s scope (octet ∷ []) =
    asked_command unknown table s scope (param_command scope octet)
command_write unknown table s scope (first ∷ second ∷ more) = (Some TooLong, s)

-- a write of Index 3
abbrev pub storage_write : ParamTable → ParamState → ℕ → List ℕ → Option ErrorType × ParamState
storage_write table s sub octets =
    if sub == 1 then (if s.locks.storage then (Some AccessDenied, s)
    else command_write ValueOutOfRange table s Storage octets) else
    if nat_le 2 sub && nat_le sub 5 then (Some AccessDenied, s)
    else (Some SubindexNotAvailable, s)

-- a write of Index 12
abbrev pub locks_set : ParamState → List ℕ → Option ErrorType × ParamState
locks_set s [] = (Some TooShort, s)
locks_set s (only ∷ []) = (Some TooShort, s)
locks_set s (high ∷ low ∷ []) = if (high == 0) && nat_lt low 16
    then (None, record s { locks = locks_in low }) else (Some ValueOutOfRange, s)
locks_set s (first ∷ second ∷ third ∷ more) = (Some TooLong, s)

abbrev pub locks_write : ParamState → List ℕ → Option ErrorType × ParamState
locks_write s octets =
    if is_at_rest s.activity && takes_writes s.activity
    then locks_set s octets else (Some FunctionUnavailable, s)

-- what a write comes to
abbrev pub write_request : ParamTable → ParamState → Place → List ℕ
    → Option ErrorType × ParamState
write_request table s place octets =
    if place.index == 3 then storage_write table s place.sub octets else
    if not ((place.index == 2) || (place.index == 12)) then write table s place octets else
    if not (place.sub == 0) then (Some SubindexNotAvailable, s) else
    if place.index == 2 then command_write FunctionNotAvailable table s Block octets else
    locks_write s octets

abbrev pub written_answer : Option ErrorType → Answer
written_answer None = answer.Written
written_answer (Some why) = refusal_answer why

-- what becomes of a request: its answer, and the state then
abbrev pub request_result : ParamTable → ParamState → Request → Answer × ParamState
request_result table s (request.Read place) = (read_request table s place, s)
request_result table s (request.Write place octets) = (
  written_answer (write_request table s place octets.items).0,
  (write_request table s place octets.items).1,
)
