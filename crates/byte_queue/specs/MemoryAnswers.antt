-- How a call that can want memory answers.
use Rattle.std.specs.Prelude.{◌≡◌, Option, Some, None, Result, Ok, Err, unwrap_or}

-- The answer is the refusal that holds. Where none holds it is Ok, or the answer for want of memory.
abbrev pub AnswersOr : {T E : Type 0} → E → Result T E → Option E → Type 0
AnswersOr want (Ok x) refusal = refusal ≡ None
AnswersOr want (Err fault) refusal = fault ≡ unwrap_or refusal want

-- the fault that a call answered, or none
abbrev pub fault_of : {T E : Type 0} → Result T E → Option E
fault_of (Ok x) = None
fault_of (Err fault) = Some fault
