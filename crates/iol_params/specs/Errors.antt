-- The ErrorTypes of refusals (C.2).
use Rattle.std.specs.Prelude.{ℕ}
use Rattle.iol_isdu.specs.declared.values.Answer.{Answer}
use Rattle.iol_isdu.specs.declared.values.Answer.TheVariants.{Refused}
use Rattle.iol_params.specs.declared.error_type.ErrorType.{ErrorType}
use Rattle.iol_params.specs.declared.error_type.ErrorType.TheVariants.{IndexNotAvailable, SubindexNotAvailable, AccessDenied, ValueOutOfRange, TooLong, TooShort, FunctionNotAvailable, FunctionUnavailable, InvalidSet, InconsistentSet}

abbrev pub additional_code : ErrorType → ℕ
additional_code IndexNotAvailable = 17
additional_code SubindexNotAvailable = 18
additional_code AccessDenied = 35
additional_code ValueOutOfRange = 48
additional_code TooLong = 51
additional_code TooShort = 52
additional_code FunctionNotAvailable = 53
additional_code FunctionUnavailable = 54
additional_code InvalidSet = 64
additional_code InconsistentSet = 65

-- the answer that refuses a request so
abbrev pub refusal_answer : ErrorType → Answer
refusal_answer why = Refused 128 (additional_code why)
