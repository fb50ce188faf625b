-- Steps of a run, put together.
use Rattle.std.proofs.Common.{◌≡◌, sym, ap, refl, ℕ, ◌+◌, ◌≤◌, ◌==◌, ◌++◌, not, Bool, true, false, cond, nat_lt, ltb-false, List, [], ◌∷◌}
use Rattle.std.proofs.Common.{length, arith, Some, None, MatchOption, Result, Ok, Err, OnOk, OnErr, IfErr}
use Rattle.std.specs.List.{prefix_len, position_or_len, position}
use Rattle.event_base.specs.declared.fault.BaseFault.{BaseFault}
use Rattle.event_base.specs.declared.fault.BaseFault.TheVariants as base
use Rattle.event_base.specs.Base.{BaseValue}
use Rattle.event_base.specs.Calls.{Step, IsAnswer}
use Rattle.base_mode.specs.declared.halt.Halt.{Halt}
use Rattle.base_mode.specs.declared.halt.Halt.TheVariants as halt
use Rattle.base_mode.specs.Run.{RunValue, number_of, answered, with_text, ok_text, refused_text}
use Rattle.base_mode.specs.Stops.{Went, IsWritten, IsAnswered}

-- no more pass than there are
prefix_len-bound : {X : Type 0} (p : X → Bool) (xs : List X) → prefix_len p xs ≤ length xs
prefix_len-bound p [] = omega arith
prefix_len-bound p (x ∷ xs) =
    elim (p x) as (λ b. cond b (1 + prefix_len p xs) 0 ≤ length (x ∷ xs))
    [ true ↦ omega (arith, prefix_len-bound p xs) | false ↦ omega arith ]

-- the number of a name is its place, or how many names there are
pub number_of-position : (event : ℕ) (names : List ℕ)
    → MatchOption (position (λ other. other == event) names) (length names ≡ number_of event names) (λ n. n ≡ number_of event names)
number_of-position event names =
    let n = position_or_len (λ (other : ℕ). other == event) names in
    let bound : n ≤ length names = prefix_len-bound (λ (other : ℕ). not (other == event)) names in
    elim (nat_lt n (length names)) as
    (λ b. nat_lt n (length names) ≡ b → MatchOption (cond b (Some n) None) (length names ≡ n) (λ k. k ≡ n)) [
      | true ↦ λ below. refl
      | false ↦ λ above. omega (arith, ltb-false n (length names) above)
    ] refl

-- an answer that is not want of memory is the call's refusal
is_refusal : (why : BaseFault) (step : Step) → IsAnswer why step → (why ≡ base.Memory → ⊥) → step ≡ Err why
is_refusal why (Ok b) answer other = absurd (other answer)
is_refusal why (Err refusal) answer other = ap Err (sym answer)

-- the run with another base and another text
abbrev pub after : RunValue → BaseValue → List ℕ → RunValue
after r b text = record r { base = b; text = text }

-- where the text so far got this text more, the run went there
Went-written : (result : Result (Unit {0}) Halt) (r : RunValue) (b : BaseValue) (text more : List ℕ) → IsWritten result r.text text more
    → Went result (after r b text) (Ok (after r b (r.text ++ more)))
Went-written (Ok done) r b text more written = rw written refl
Went-written (Err halt.Memory) r b text more written = tt
Went-written (Err halt.Spent) r b text more written = cc

-- a refusal was written
Went-refused : (why : BaseFault) (result : Result (Unit {0}) Halt) (r : RunValue) (b : BaseValue) (text : List ℕ)
    → b ≡ r.base → IsWritten result r.text text (refused_text why) → Went result (after r b text) (Ok (with_text r (refused_text why)))
Went-refused why result r b text stays written = rw stays (Went-written result r r.base text (refused_text why) written)

-- the answer to a call was written
pub Went-answered : (outcome : Result (Unit {0}) BaseFault) (result : Result (Unit {0}) Halt) (r : RunValue) (b : BaseValue)
    (text : List ℕ) (step : Step)
    → OnOk outcome (step ≡ Ok b) → IfErr outcome (λ why. IsAnswer why step) → OnErr outcome (b ≡ r.base)
    → IsAnswered outcome result r.text text → Went result (after r b text) (answered r step)
Went-answered (Ok done) result r b text step ok refused stays written = rw ok (Went-written result r b text ok_text written)
Went-answered (Err base.Memory) result r b text step ok refused stays written = rw written tt
Went-answered (Err base.Spent) result r b text step ok refused stays written =
    rw (is_refusal base.Spent step refused (λ e. cc), written.0, written.1) refl
Went-answered (Err base.BadPriority) result r b text step ok refused stays written =
    rw (is_refusal base.BadPriority step refused (λ e. cc)) (Went-refused base.BadPriority result r b text stays written)
Went-answered (Err base.NoEvent) result r b text step ok refused stays written =
    rw (is_refusal base.NoEvent step refused (λ e. cc)) (Went-refused base.NoEvent result r b text stays written)
Went-answered (Err base.IsActive) result r b text step ok refused stays written =
    rw (is_refusal base.IsActive step refused (λ e. cc)) (Went-refused base.IsActive result r b text stays written)
Went-answered (Err base.TooManyDelays) result r b text step ok refused stays written =
    rw (is_refusal base.TooManyDelays step refused (λ e. cc)) (Went-refused base.TooManyDelays result r b text stays written)

-- the same of a call that tells its refusal exactly
pub exactly : (outcome : Result (Unit {0}) BaseFault) (step : Step) → IfErr outcome (λ why. step ≡ Err why) →
    IfErr outcome (λ why. IsAnswer why step)
exactly (Ok done) step refused = refused
exactly (Err why) step refused = rw refused refl
