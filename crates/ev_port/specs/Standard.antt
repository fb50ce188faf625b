-- What the answer of a reader or a writer to one call is told as, by the kind of its error. None stands for a call that was
-- interrupted, which is made again.
use Rattle.std.specs.Prelude.{◌≡◌, ◌≢◌, ℕ, ◌<◌, Option, Some, None, Result, Ok, IsErrAnd, MatchResult}
use Rattle.ev_port.specs.declared.stream.Taken.{Taken}
use Rattle.ev_port.specs.declared.stream.Taken.TheVariants as taken
use Rattle.ev_port.specs.declared.stream.Given.{Given}
use Rattle.ev_port.specs.declared.stream.Given.TheVariants as given

-- a read of no bytes is the end, and every error but an interruption is a fault
abbrev pub TellsRead : {E K : Type 0} → (E → K) → K → Result ℕ E → Option Taken → Type 0
TellsRead kind interrupted answer None = IsErrAnd answer (λ e. kind e ≡ interrupted)
TellsRead kind interrupted answer (Some (taken.Got n)) = (answer ≡ Ok n) × (0 < n)
TellsRead kind interrupted answer (Some taken.Ended) = answer ≡ Ok 0
TellsRead kind interrupted answer (Some taken.Failed) = IsErrAnd answer (λ e. kind e ≢ interrupted)

-- a write of no bytes is a fault, and so is every error but an interruption
abbrev pub TellsWrite : {E K : Type 0} → (E → K) → K → Result ℕ E → Option Given → Type 0
TellsWrite kind interrupted answer None = IsErrAnd answer (λ e. kind e ≡ interrupted)
TellsWrite kind interrupted answer (Some (given.Took n)) = (answer ≡ Ok n) × (0 < n)
TellsWrite kind interrupted answer (Some given.Failed) = MatchResult answer (λ n. n ≡ 0) (λ e. kind e ≢ interrupted)
