-- How much the buffers of a script hold after a line.
use Rattle.std.proofs.Common.{◌≡◌, ◌<◌, ◌≤◌, ◌+◌, ◌*◌, ◌^◌, ℕ, Bool, true, false, cond, ltb, eqb, Option, Some, None, List, [], ◌∷◌, ◌++◌}
use Rattle.std.proofs.Common.{length, take, refl, arith, inl, inr, length-append, length-drop}
use Rattle.std.specs.Prelude.{IsSomeAnd, min}
use Rattle.std.specs.Option.{option_or}
use Rattle.std.proofs.lemmas.Bool.{lt-ltb}
use Rattle.std.proofs.lemmas.Bool.Decides.{eqb_tells}
use Rattle.evbuf.specs.Evbuffered.{Evbuffered}
use Rattle.evbuf.specs.Callbacks.{Callbacks, new_callback, without, with_enabled, has_callback}
use Rattle.evbuf.specs.Moves.{buffer_at, moves_refusal}
use Rattle.evbuf.specs.Refusals.{end_refusal, front_refusal, length_refusal, add_refusal, prepend_refusal, move_refusal, same_refusal}
use Rattle.evbuf.specs.Refusals.{callback_refusal, number_refusal}
use Rattle.evbuf.specs.Steps.{with_frozen, after_add, after_prepend, after_reference, after_drain, pulled_up}
use Rattle.evbuf.specs.declared.fault.BufFault.{BufFault}
use Rattle.evbuf.specs.declared.fault.BufFault.TheVariants as fault
use Rattle.evbuf.specs.declared.place.Place.{Place}
use Rattle.evbuf.specs.declared.place.Place.TheVariants.{Front, End}
use Rattle.evbuf_scan.specs.Ends.{end_from}
use Rattle.buffers_mode.specs.declared.answer.Answer.{Answer}
use Rattle.buffers_mode.specs.declared.answer.Answer.TheVariants.{Done, Bytes, Count, Nothing}
use Rattle.buffers_mode.specs.declared.line.Op.{Op}
use Rattle.buffers_mode.specs.declared.line.Op.TheVariants as op
use Rattle.buffers_mode.specs.Steps.{with_callbacks}
use Rattle.buffers_mode.specs.Played.{Step, unless, line_step, own_step}
use Rattle.buffers_mode.proofs.FewLemmas.{BringsFew}

-- what a buffer holds, with as much for each number that a callback got as a line brings of bytes
abbrev pub weight : Evbuffered → ℕ
weight buf = length buf.bytes + 32768 * buf.next

-- what some buffers hold together
abbrev pub total : List Evbuffered → ℕ
total [] = 0
total (buf ∷ more) = weight buf + total more

-- a step is taken, and leaves so much at most
abbrev pub StepsTo : {State : Type 0} → (State → ℕ) → ℕ → Step State → Type 0
StepsTo size most step = IsSomeAnd step (λ taken. size taken.1 ≤ most)

-- whatever refuses a line, the run goes on
abbrev pub GoesOn : Option BufFault → Type 0
GoesOn None = Unit {0}
GoesOn (Some fault.Memory) = ⊥
GoesOn (Some fault.FrozenFront) = Unit {0}
GoesOn (Some fault.FrozenEnd) = Unit {0}
GoesOn (Some fault.SameBuffer) = Unit {0}
GoesOn (Some fault.NoSuchCallback) = Unit {0}
GoesOn (Some fault.Spent) = ⊥

-- a line that is refused with a name, or else does its step, steps
pub unless-steps : {State : Type 0} (size : State → ℕ) (most : ℕ) (refusal : Option BufFault) (before : State) (answer : Answer)
    (after : State) →
    GoesOn refusal → size before ≤ most → (refusal ≡ None → size after ≤ most) → StepsTo size most (unless refusal before answer after)
unless-steps size most None before answer after goes old new = new refl
unless-steps size most (Some fault.Memory) before answer after goes old new = absurd goes
unless-steps size most (Some fault.FrozenFront) before answer after goes old new = old
unless-steps size most (Some fault.FrozenEnd) before answer after goes old new = old
unless-steps size most (Some fault.SameBuffer) before answer after goes old new = old
unless-steps size most (Some fault.NoSuchCallback) before answer after goes old new = old
unless-steps size most (Some fault.Spent) before answer after goes old new = absurd goes

-- each refusal leaves the run going, one of length or number where the count fits
goes_on-or : (a b : Option BufFault) → GoesOn a → GoesOn b → GoesOn (option_or a b)
goes_on-or None b one other = other
goes_on-or (Some refusal) b one other = one

goes_on-end : (buf : Evbuffered) → GoesOn (end_refusal buf)
goes_on-end buf = elim buf.end_frozen as (λ v. GoesOn (cond v (Some fault.FrozenEnd) None)) [ true ↦ tt | false ↦ tt ]

goes_on-front : (buf : Evbuffered) → GoesOn (front_refusal buf)
goes_on-front buf = elim buf.front_frozen as (λ v. GoesOn (cond v (Some fault.FrozenFront) None)) [ true ↦ tt | false ↦ tt ]

goes_on-length : (buf : Evbuffered) (n : ℕ) → length buf.bytes + n < 2 ^ 64 → GoesOn (length_refusal buf n)
goes_on-length buf n fits = rw (lt-ltb (length buf.bytes + n) (2 ^ 64) fits) tt

goes_on-callback : (buf : Evbuffered) (cb : ℕ) → GoesOn (callback_refusal buf cb)
goes_on-callback buf cb =
    elim (has_callback cb buf.callbacks) as (λ v. GoesOn (cond v None (Some fault.NoSuchCallback))) [ true ↦ tt | false ↦ tt ]

goes_on-number : (buf : Evbuffered) → buf.next < 2 ^ 32 → GoesOn (number_refusal buf)
goes_on-number buf fits = rw (lt-ltb buf.next (2 ^ 32) fits) tt

goes_on-add : (buf : Evbuffered) (n : ℕ) → length buf.bytes + n < 2 ^ 64 → GoesOn (add_refusal buf n)
goes_on-add buf n fits = goes_on-or (end_refusal buf) (length_refusal buf n) (goes_on-end buf) (goes_on-length buf n fits)

goes_on-prepend : (buf : Evbuffered) (n : ℕ) → length buf.bytes + n < 2 ^ 64 → GoesOn (prepend_refusal buf n)
goes_on-prepend buf n fits = goes_on-or (front_refusal buf) (length_refusal buf n) (goes_on-front buf) (goes_on-length buf n fits)

pub goes_on-moves : (bufs : List Evbuffered) (to from n : ℕ) → length (buffer_at bufs to).bytes + n < 2 ^ 64 →
    GoesOn (moves_refusal bufs to from n)
goes_on-moves bufs to from n fits =
    let target = buffer_at bufs to in
    let source = buffer_at bufs from in
    elim (eqb to from) as (λ v. GoesOn (cond v (same_refusal target) (move_refusal target source n))) [
      | true ↦ goes_on-or (end_refusal target) (option_or (front_refusal target) (Some fault.SameBuffer)) (goes_on-end target)
          (goes_on-or (front_refusal target) (Some fault.SameBuffer) (goes_on-front target) tt)
      | false ↦ goes_on-or (end_refusal target) (option_or (front_refusal source) (length_refusal target n)) (goes_on-end target)
          (goes_on-or (front_refusal source) (length_refusal target n) (goes_on-front source) (goes_on-length target n fits))
    ]

-- a move that nothing refuses is between two buffers
pub moves-apart : (bufs : List Evbuffered) (to from n : ℕ) → moves_refusal bufs to from n ≡ None → (to ≡ from → ⊥)
moves-apart bufs to from n opens same =
    let target = buffer_at bufs to in
    elim (eqb_tells to from) [
      | inl h ↦
          let refused : same_refusal target ≡ None = rw h.0 at opens in
          elim target.end_frozen as
          (λ v. option_or (cond v (Some fault.FrozenEnd) None) (option_or (front_refusal target) (Some fault.SameBuffer)) ≡ None → ⊥) [
            | true ↦ λ no. cc
            | false ↦ λ no. (elim target.front_frozen as
                (λ v. option_or (cond v (Some fault.FrozenFront) None) (Some fault.SameBuffer) ≡ None → ⊥) [
                  | true ↦ λ none. cc
                  | false ↦ λ none. cc
                ]) no
          ] refused
      | inr h ↦ h.1 same
    ]

-- a buffer that was drained holds no more
drain-weight : (buf : Evbuffered) (n : ℕ) → weight (after_drain buf n 0) ≤ weight buf
drain-weight buf n = omega (arith, length-drop n buf.bytes)

drain-steps : (buf : Evbuffered) (n : ℕ) (answer : Answer) →
    StepsTo weight (weight buf + 32768) (unless (front_refusal buf) buf answer (after_drain buf n 0))
drain-steps buf n answer =
    unless-steps weight (weight buf + 32768) (front_refusal buf) buf answer (after_drain buf n 0) (goes_on-front buf) (omega arith)
    (λ opens. omega (arith, drain-weight buf n))

-- a line that is read brings nothing
line_step-steps : (buf : Evbuffered) (found : Option (ℕ × ℕ)) → StepsTo weight (weight buf + 32768) (line_step buf found)
line_step-steps buf None =
    unless-steps weight (weight buf + 32768) (front_refusal buf) buf Nothing buf (goes_on-front buf) (omega arith) (λ opens. omega arith)
line_step-steps buf (Some found) = drain-steps buf (found.0 + found.1) (Bytes (take found.0 buf.bytes))

frozen-weight : (buf : Evbuffered) (place : Place) (frozen : Bool) → weight (with_frozen buf place frozen) ≤ weight buf + 32768
frozen-weight buf Front frozen = omega arith
frozen-weight buf End frozen = omega arith

-- what is done to a callback, which may not be there, brings nothing
callback-steps : (buf : Evbuffered) (cb : ℕ) (callbacks : Callbacks) →
    StepsTo weight (weight buf + 32768) (unless (callback_refusal buf cb) buf Done (with_callbacks buf callbacks))
callback-steps buf cb callbacks =
    unless-steps weight (weight buf + 32768) (callback_refusal buf cb) buf Done (with_callbacks buf callbacks) (goes_on-callback buf cb)
    (omega arith) (λ opens. omega arith)

-- A line takes a buffer on by at most one line's worth.
pub own_step-steps : (asked : Op) (buf : Evbuffered) → BringsFew asked → weight buf + 32768 ≤ 2 ^ 39 →
    StepsTo weight (weight buf + 32768) (own_step asked buf)
own_step-steps (op.Add bytes) buf few room =
    unless-steps weight (weight buf + 32768) (add_refusal buf (length bytes)) buf Done (after_add buf bytes 0)
    (goes_on-add buf (length bytes) (omega arith)) (omega arith)
    (λ opens. omega (arith, length-append buf.bytes bytes))
own_step-steps (op.Prepend bytes) buf few room =
    unless-steps weight (weight buf + 32768) (prepend_refusal buf (length bytes)) buf Done (after_prepend buf bytes 0)
    (goes_on-prepend buf (length bytes) (omega arith)) (omega arith)
    (λ opens. omega (arith, length-append bytes buf.bytes))
own_step-steps (op.AddReference bytes ticket) buf few room =
    unless-steps weight (weight buf + 32768) (add_refusal buf (length bytes)) buf Done (after_reference buf bytes ticket 0)
    (goes_on-add buf (length bytes) (omega arith)) (omega arith)
    (λ opens. omega (arith, length-append buf.bytes bytes))
own_step-steps (op.Drain n) buf few room = drain-steps buf n Done
own_step-steps (op.Remove n) buf few room =
    let taken = min n (length buf.bytes) in drain-steps buf taken (Bytes (take taken buf.bytes))
own_step-steps (op.Pullup n) buf few room =
    elim (ltb (length buf.bytes) n) as
    (λ v. StepsTo weight (weight buf + 32768) (cond v (Some (Nothing, buf)) (Some (Bytes (take n buf.bytes), pulled_up buf n 0)))) [
      | true ↦ omega arith
      | false ↦ omega arith
    ]
own_step-steps op.PullupAll buf few room = omega arith
own_step-steps (op.Search needle from) buf few room = omega arith
own_step-steps (op.SearchEol style from) buf few room = omega arith
own_step-steps (op.Readln style) buf few room = line_step-steps buf (end_from style buf.bytes 0)
own_step-steps (op.Peek n) buf few room = omega arith
own_step-steps op.Len buf few room = omega arith
own_step-steps (op.Freeze place) buf few room = frozen-weight buf place true
own_step-steps (op.Unfreeze place) buf few room = frozen-weight buf place false
own_step-steps op.AddCb buf few room =
    unless-steps weight (weight buf + 32768) (number_refusal buf) buf (Count buf.next)
    (record buf { callbacks = buf.callbacks ++ new_callback buf.next ∷ []; next = buf.next + 1 })
    (goes_on-number buf (omega arith)) (omega arith) (λ opens. omega arith)
own_step-steps (op.RemoveCb cb) buf few room = callback-steps buf cb (without cb buf.callbacks)
own_step-steps (op.SetCbEnabled cb on) buf few room = callback-steps buf cb (with_enabled cb on buf.callbacks)
