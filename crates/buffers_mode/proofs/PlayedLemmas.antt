-- How much all buffers of a script hold after its lines.
use Rattle.std.proofs.Common.{◌≡◌, ◌≢◌, ◌≤◌, ◌+◌, ◌*◌, ◌^◌, ℕ, zero, suc, Bool, true, false, cond, Option, Some, None, Ok, Err, List, []}
use Rattle.std.proofs.Common.{◌∷◌, length, take, set, refl, sym, ap, ◌∙◌, arith, length-append, length-drop}
use Rattle.std.specs.Prelude.{option_map, option_and_then, IsSomeAnd, IfErr, min, Result}
use Rattle.std.proofs.lemmas.List.{get_or-set_other, length-take}
use Rattle.script_text.specs.Pieces.{lines}
use Rattle.evbuf.specs.Evbuffered.{Evbuffered}
use Rattle.evbuf.specs.Moves.{buffer_at, move_all_refusal, move_some_refusal}
use Rattle.evbuf.specs.Steps.{new_buffer, after_giving, after_taking, after_taking_all, after_giving_all}
use Rattle.buffers_mode.specs.declared.answer.Answer.{Answer}
use Rattle.buffers_mode.specs.declared.answer.Answer.TheVariants.{Done, Count}
use Rattle.buffers_mode.specs.declared.line.Op.{Op}
use Rattle.buffers_mode.specs.declared.line.BufferAsk.{BufferAsk}
use Rattle.buffers_mode.specs.declared.line.BufferAsk.TheVariants as ask
use Rattle.buffers_mode.specs.declared.line.Line.{Line}
use Rattle.buffers_mode.specs.declared.fault.ModeFault.{ModeFault}
use Rattle.buffers_mode.specs.declared.fault.ModeFault.TheVariants.{Memory, BadLine, Spent}
use Rattle.buffers_mode.specs.Steps.{with_callbacks}
use Rattle.buffers_mode.specs.Played.{Step, own_step}
use Rattle.buffers_mode.specs.Spelled.{script_of}
use Rattle.buffers_mode.specs.Run.{Run, fresh_run, own_at, add_buffer_step, remove_buffer_step, on_buffers, ask_step, after_reports}
use Rattle.buffers_mode.specs.Run.{after_released, all_reported, reports_after, after_answer, line_played, lines_played}
use Rattle.buffers_mode.specs.Text.{answers_to, answered, answers_of, EndsFor}
use Rattle.buffers_mode.proofs.FewLemmas.{BringsFew, AsksFew, AllFew, AreFew, lines_read-few, length-pieces}
use Rattle.buffers_mode.proofs.GrowthLemmas.{weight, total, StepsTo, goes_on-moves, moves-apart, unless-steps, own_step-steps}

-- what holds of a value's image, which is there
IsSomeAnd-map : {X Y : Type 0} (f : X → Y) (o : Option X) (P : X → Type 0) (Q : Y → Type 0) → IsSomeAnd o P → ((x : X) → P x → Q (f x)) →
    IsSomeAnd (option_map f o) Q
IsSomeAnd-map f None P Q holds gives = absurd holds
IsSomeAnd-map f (Some x) P Q holds gives = gives x holds

-- what a buffer held goes, and what it holds now comes
total-set : (bufs : List Evbuffered) (i : ℕ) (buf : Evbuffered) →
    total (set bufs i buf) + weight (buffer_at bufs i) ≤ total bufs + weight buf
total-set [] i buf = omega arith
total-set (first ∷ more) zero buf = omega arith
total-set (first ∷ more) (suc i) buf = omega (arith, total-set more i buf)

-- one buffer holds no more than all do
weight-at : (bufs : List Evbuffered) (i : ℕ) → weight (buffer_at bufs i) ≤ total bufs
weight-at [] i = omega arith
weight-at (first ∷ more) zero = omega arith
weight-at (first ∷ more) (suc i) = omega (arith, weight-at more i)

-- two buffers that hold together what they held before
total-set_two : (bufs : List Evbuffered) (to from : ℕ) (target source : Evbuffered) → (to ≡ from → ⊥) →
    weight target + weight source ≤ weight (buffer_at bufs to) + weight (buffer_at bufs from) →
    total (set (set bufs to target) from source) ≤ total bufs
total-set_two bufs to from target source apart kept =
    let other : buffer_at (set bufs to target) from ≡ buffer_at bufs from =
    get_or-set_other bufs to from target new_buffer (λ same. apart (sym same)) in
    omega (arith, total-set bufs to target, total-set (set bufs to target) from source, ap weight other, kept)

-- a line that asks one buffer takes all on by at most one line's worth
own_at-steps : (bufs : List Evbuffered) (b : ℕ) (asked : Op) → BringsFew asked → total bufs + 32768 ≤ 2 ^ 39 →
    StepsTo total (total bufs + 32768) (own_at bufs b asked)
own_at-steps bufs b asked few room =
    let buf = buffer_at bufs b in
    let steps = own_step-steps asked buf few (omega (arith, weight-at bufs b)) in
    IsSomeAnd-map (λ (step : Answer × Evbuffered). let taken : Answer × List Evbuffered = (step.0, set bufs b step.1) in taken)
    (own_step asked buf)
    (λ (taken : Answer × Evbuffered). weight taken.1 ≤ weight buf + 32768)
    (λ (taken : Answer × List Evbuffered). total taken.1 ≤ total bufs + 32768) steps
    (λ step less. omega (arith, total-set bufs b step.1, less))

-- bytes that go from one buffer to another are held as before
taking_all-kept : (target source : Evbuffered) →
    weight (after_taking_all target source 0) + weight (after_giving_all source 0) ≤ weight target + weight source
taking_all-kept target source = omega (arith, length-append target.bytes source.bytes)

taking-kept : (target source : Evbuffered) (n : ℕ) →
    weight (after_taking target source n 0) + weight (after_giving source n 0) ≤ weight target + weight source
taking-kept target source n =
    omega (arith, length-append target.bytes (take n source.bytes), length-take n source.bytes, length-drop n source.bytes)

add_buffer_step-steps : (bufs : List Evbuffered) (to from : ℕ) → total bufs + 32768 ≤ 2 ^ 39 →
    StepsTo total (total bufs + 32768) (add_buffer_step bufs to from)
add_buffer_step-steps bufs to from room =
    let target = buffer_at bufs to in
    let source = buffer_at bufs from in
    unless-steps total (total bufs + 32768) (move_all_refusal bufs to from) bufs Done
    (set (set bufs to (after_taking_all target source 0)) from (after_giving_all source 0))
    (goes_on-moves bufs to from (length source.bytes) (omega (arith, weight-at bufs to, weight-at bufs from))) (omega arith)
    (λ opens. omega (
      arith,
      total-set_two bufs to from (after_taking_all target source 0) (after_giving_all source 0)
          (moves-apart bufs to from (length source.bytes) opens) (taking_all-kept target source),
    ))

remove_buffer_step-steps : (bufs : List Evbuffered) (from to n : ℕ) → total bufs + 32768 ≤ 2 ^ 39 →
    StepsTo total (total bufs + 32768) (remove_buffer_step bufs from to n)
remove_buffer_step-steps bufs from to n room =
    let target = buffer_at bufs to in
    let source = buffer_at bufs from in
    let moved = min n (length source.bytes) in
    unless-steps total (total bufs + 32768) (move_some_refusal bufs from to n) bufs (Count moved)
    (set (set bufs to (after_taking target source n 0)) from (after_giving source n 0))
    (goes_on-moves bufs to from moved (omega (arith, weight-at bufs to, weight-at bufs from))) (omega arith)
    (λ opens. omega (
      arith,
      total-set_two bufs to from (after_taking target source n 0) (after_giving source n 0)
          (moves-apart bufs to from moved opens) (taking-kept target source n),
    ))

-- what all buffers of a run hold
abbrev pub run_total : Run → ℕ
run_total run = total run.buffers

on_buffers-steps : (run : Run) (most : ℕ) (step : Step (List Evbuffered)) → StepsTo total most step →
    StepsTo run_total most (on_buffers run step)
on_buffers-steps run most None steps = absurd steps
on_buffers-steps run most (Some taken) steps = steps

-- A line takes the buffers on by at most one line's worth, before they report.
ask_step-steps : (run : Run) (b : ℕ) (asked : BufferAsk) → AsksFew asked → run_total run + 32768 ≤ 2 ^ 39 →
    StepsTo run_total (run_total run + 32768) (ask_step run b asked)
ask_step-steps run b (ask.Own asked) few room =
    on_buffers-steps run (run_total run + 32768) (own_at run.buffers b asked) (own_at-steps run.buffers b asked few room)
ask_step-steps run b (ask.AddBuffer from) few room =
    on_buffers-steps run (run_total run + 32768) (add_buffer_step run.buffers b from) (add_buffer_step-steps run.buffers b from room)
ask_step-steps run b (ask.RemoveBuffer to n) few room =
    on_buffers-steps run (run_total run + 32768) (remove_buffer_step run.buffers b to n) (remove_buffer_step-steps run.buffers b to n room)
ask_step-steps run b (ask.Defer on) few room = omega arith
ask_step-steps run b ask.Reports few room = omega arith

-- reports and tickets take nothing out of a buffer
total-after_reports : (reports : ℕ → Bool) (b : ℕ) (bufs : List Evbuffered) → total (after_reports reports b bufs) ≡ total bufs
total-after_reports reports b [] = refl
total-after_reports reports b (buf ∷ more) =
    let rest = total-after_reports reports (b + 1) more in
    elim (reports b) as (λ v. weight (cond v (with_callbacks buf (all_reported buf.callbacks)) buf) + total
    (after_reports reports (b + 1) more) ≡ weight buf + total more) [
      | true ↦ omega arith
      | false ↦ omega arith
    ]

total-after_released : (bufs : List Evbuffered) → total (after_released bufs) ≡ total bufs
total-after_released [] = refl
total-after_released (buf ∷ more) = omega (arith, total-after_released more)

run_total-after_answer : (line : Line) (answer : Answer) (run : Run) → run_total (after_answer line answer run) ≡ run_total run
run_total-after_answer line answer run =
    total-after_released (after_reports (reports_after run.deferred line) 0 run.buffers)
    ∙ total-after_reports (reports_after run.deferred line) 0 run.buffers

-- A line is played, and takes the buffers on by at most one line's worth.
line_played-steps : (run : Run) (line : Line) → AsksFew line.ask → run_total run + 32768 ≤ 2 ^ 39 →
    IsSomeAnd (line_played run line) (λ after. run_total after ≤ run_total run + 32768)
line_played-steps run line few room =
    IsSomeAnd-map (λ (step : Answer × Run). after_answer line step.0 step.1) (ask_step run line.buffer line.ask)
    (λ (taken : Answer × Run). run_total taken.1 ≤ run_total run + 32768) (λ (after : Run). run_total after ≤ run_total run + 32768)
    (ask_step-steps run line.buffer line.ask few room) (λ step less. omega (arith, run_total-after_answer line step.0 step.1, less))

-- Lines are played to the end where there is room for the worth of each.
pub lines_played-some : (run : Run) (script : List Line) → AllFew script → run_total run + 32768 * length script ≤ 2 ^ 39 →
    lines_played run script ≢ None
lines_played-some run [] few room = λ none. cc
lines_played-some run (line ∷ more) few room =
    elim (line_played run line) as
    (λ o. IsSomeAnd o (λ after. run_total after ≤ run_total run + 32768) →
    option_and_then (λ after. lines_played after more) o ≢ None) [
      | None ↦ λ steps. absurd steps
      | Some after ↦ λ steps. lines_played-some after more few.1 (omega (arith, steps))
    ] (line_played-steps run line few.0 (omega arith))

-- so few lines are always answered
answers_to-some : (script : List Line) → AreFew (2 ^ 24) script → answers_to script ≢ None
answers_to-some script are =
    elim (lines_played fresh_run script) as (λ o. o ≢ None → option_map (λ (run : Run). run.text) o ≢ None) [
      | None ↦ λ some. absurd (some refl)
      | Some run ↦ λ some none. cc
    ] (lines_played-some fresh_run script are.few (omega (arith, are.count)))

-- a short text is always answered, unless a line is not in the grammar
pub answers_of-some : (text : List ℕ) → length text ≤ 2 ^ 24 → answers_of text ≢ Ok None
answers_of-some text short =
    elim (script_of text) as (λ r. script_of text ≡ r → answered r ≢ Ok None) [
      | Ok script ↦ λ spelled spent.
          let few = lines_read-few [] 0 (lines text) script tt spelled in
          answers_to-some script (record { few = few.few; count = omega (arith, few.count, length-pieces 10 text) }) (cc)
      | Err line ↦ λ spelled spent. cc
    ] refl

-- a short text never ends a run for a count that does not fit
pub EndsFor-never_spent : {Answered : Type 0} (answer : Result Answered ModeFault) (text : List ℕ) →
    IfErr answer (λ fault. EndsFor fault (answers_of text)) →
    IfErr answer (λ fault. length text ≤ 2 ^ 24 → fault ≢ Spent)
EndsFor-never_spent (Ok done) text ends = tt
EndsFor-never_spent (Err Memory) text ends = λ short is. cc
EndsFor-never_spent (Err (BadLine line)) text ends = λ short is. cc
EndsFor-never_spent (Err Spent) text ends = λ short is.
    elim (answers_of text) as (λ r. answers_of text ≡ r → EndsFor Spent r → ⊥) [
      | Ok None ↦ λ answer spent. answers_of-some text short answer
      | Ok (Some written) ↦ λ answer spent. spent
      | Err line ↦ λ answer spent. spent
    ] refl ends
