-- Buffers by number, as answers show them.
use Rattle.std.proofs.Common.{◌≡◌, ℕ, zero, suc, Bool, Option, Some, None, Ok, Err, List, [], ◌∷◌, ◌++◌, length, set, map, refl, sym, ap}
use Rattle.std.proofs.Common.{◌∙◌}
use Rattle.std.specs.Prelude.{option_map, Result, min, OnOk}
use Rattle.std.proofs.lemmas.List.{map-set}
use Rattle.evbuf.specs.Evbuffered.{Evbuffered}
use Rattle.evbuf.specs.Moves.{buffer_at, move_all_refusal, move_some_refusal, MovesAll, MovesSome}
use Rattle.evbuf.specs.Steps.{after_taking, after_taking_all, after_giving, after_giving_all}
use Rattle.buffers_mode.specs.declared.answer.Answer.{Answer}
use Rattle.buffers_mode.specs.declared.answer.Answer.TheVariants.{Done, Count}
use Rattle.evbuf.specs.declared.fault.BufFault.{BufFault}
use Rattle.buffers_mode.specs.declared.line.Op.{Op}
use Rattle.buffers_mode.specs.declared.fault.ModeFault.{ModeFault}
use Rattle.buffers_mode.specs.declared.fault.ModeFault.TheVariants.{Memory, BadLine, Spent}
use Rattle.buffers_mode.specs.Steps.{shown, with_callbacks}
use Rattle.buffers_mode.specs.Played.{Step, Took, own_step, unless}
use Rattle.buffers_mode.specs.Run.{Run, own_at, add_buffer_step, remove_buffer_step, reported_by, released_by, report_lines, all_reported}
use Rattle.buffers_mode.specs.Run.{released_lines, without_released}

-- the parts of a run
abbrev pub run_of : List Evbuffered → List Bool → List ℕ → Run
run_of bufs later written = record { buffers = bufs; deferred = later; text = written }

abbrev step_to : Answer → List Evbuffered → Step (List Evbuffered)
step_to answer bufs = Some (answer, bufs)

-- a buffer of those that are shown is the shown buffer
pub buffer_at-shown : (bufs : List Evbuffered) (i : ℕ) → buffer_at (map shown bufs) i ≡ shown (buffer_at bufs i)
buffer_at-shown [] i = refl
buffer_at-shown (buf ∷ bufs) zero = refl
buffer_at-shown (buf ∷ bufs) (suc i) = buffer_at-shown bufs i

pub map-shown-set : (bufs : List Evbuffered) (i : ℕ) (buf : Evbuffered) → map shown (set bufs i buf) ≡ set (map shown bufs) i (shown buf)
map-shown-set bufs i buf = map-set shown bufs i buf

-- a step of one buffer is a step of all
pub Took-own : (r : Result Answer ModeFault) (bufs : List Evbuffered) (b : ℕ) (op : Op) (buf : Evbuffered) →
    Took r (shown buf) (own_step op (shown (buffer_at bufs b))) → Took r (map shown (set bufs b buf)) (own_at (map shown bufs) b op)
Took-own (Ok answer) bufs b op buf took =
    rw (buffer_at-shown bufs b, map-shown-set bufs b buf)
    (ap (option_map (λ (step : Answer × Evbuffered). let taken : Answer × List Evbuffered =
    (step.0, set (map shown bufs) b step.1) in taken)) took)
Took-own (Err Memory) bufs b op buf took = took
Took-own (Err (BadLine line)) bufs b op buf took = took
Took-own (Err Spent) bufs b op buf took =
    rw (buffer_at-shown bufs b)
    (ap (option_map (λ (step : Answer × Evbuffered). let taken : Answer × List Evbuffered =
    (step.0, set (map shown bufs) b step.1) in taken)) took)

pub move_all_refusal-shown : (bufs : List Evbuffered) (to from : ℕ) →
    move_all_refusal (map shown bufs) to from ≡ move_all_refusal bufs to from
move_all_refusal-shown bufs to from = rw (buffer_at-shown bufs to, buffer_at-shown bufs from) refl

pub move_some_refusal-shown : (bufs : List Evbuffered) (from to n : ℕ) →
    move_some_refusal (map shown bufs) from to n ≡ move_some_refusal bufs from to n
move_some_refusal-shown bufs from to n = rw (buffer_at-shown bufs to, buffer_at-shown bufs from) refl

-- what all buffers show after a move
pub MovesAll-shown : (old : List Evbuffered) (to from : ℕ) (new : List Evbuffered) → MovesAll old to from new →
    map shown new ≡ set (set (map shown old) to (after_taking_all (buffer_at (map shown old) to) (buffer_at (map shown old) from) 0)) from
    (after_giving_all (buffer_at (map shown old) from) 0)
MovesAll-shown old to from new moves =
    let taken = ap shown moves.taken in
    let given = ap shown moves.given in
    ap (map shown) moves.others
    ∙ map-shown-set (set old to (buffer_at new to)) from (buffer_at new from)
    ∙ ap (λ (bufs : List Evbuffered). set bufs from (shown (buffer_at new from))) (map-shown-set old to (buffer_at new to))
    ∙ rw (taken, given, buffer_at-shown old to, buffer_at-shown old from) refl

pub MovesSome-shown : (old : List Evbuffered) (from to n : ℕ) (new : List Evbuffered) → MovesSome old from to n new →
    map shown new ≡ set (set (map shown old) to (after_taking (buffer_at (map shown old) to) (buffer_at (map shown old) from) n 0)) from
    (after_giving (buffer_at (map shown old) from) n 0)
MovesSome-shown old from to n new moves =
    let taken = ap shown moves.taken in
    let given = ap shown moves.given in
    ap (map shown) moves.others
    ∙ map-shown-set (set old to (buffer_at new to)) from (buffer_at new from)
    ∙ ap (λ (bufs : List Evbuffered). set bufs from (shown (buffer_at new from))) (map-shown-set old to (buffer_at new to))
    ∙ rw (taken, given, buffer_at-shown old to, buffer_at-shown old from) refl

pub add_buffer_step-moved : (old : List Evbuffered) (to from : ℕ) (new : List Evbuffered) → move_all_refusal old to from ≡ None →
    MovesAll old to from new →
    add_buffer_step (map shown old) to from ≡ Some (Done, map shown new)
add_buffer_step-moved old to from new opens moves =
    let after = set (set (map shown old) to (after_taking_all (buffer_at (map shown old) to) (buffer_at (map shown old) from) 0)) from
    (after_giving_all (buffer_at (map shown old) from) 0) in
    ap (λ (refusal : Option BufFault). unless refusal (map shown old) Done after) (move_all_refusal-shown old to from ∙ opens)
    ∙ ap (λ (bufs : List Evbuffered). step_to Done bufs) (sym (MovesAll-shown old to from new moves))

pub remove_buffer_step-moved : (old : List Evbuffered) (from to n moved : ℕ) (new : List Evbuffered) →
    move_some_refusal old from to n ≡ None →
    moved ≡ min n (length (buffer_at old from).bytes) → MovesSome old from to n new →
    remove_buffer_step (map shown old) from to n ≡ Some (Count moved, map shown new)
remove_buffer_step-moved old from to n moved new opens count moves =
    let after = set (set (map shown old) to (after_taking (buffer_at (map shown old) to) (buffer_at (map shown old) from) n 0)) from
    (after_giving (buffer_at (map shown old) from) n 0) in
    let answer = Count (min n (length (buffer_at (map shown old) from).bytes)) in
    let same : min n (length (buffer_at (map shown old) from).bytes) ≡ moved =
    ap (λ (buf : Evbuffered). min n (length buf.bytes)) (buffer_at-shown old from) ∙ sym count in
    ap (λ (refusal : Option BufFault). unless refusal (map shown old) answer after) (move_some_refusal-shown old from to n ∙ opens)
    ∙ ap (λ (bufs : List Evbuffered). step_to answer bufs) (sym (MovesSome-shown old from to n new moves))
    ∙ ap (λ (k : ℕ). step_to (Count k) (map shown new)) same

-- what two facts of a call that succeeds make together
pub OnOk-both : {T E P Q R : Type 0} (r : Result T E) → OnOk r P → OnOk r Q → (P → Q → R) → OnOk r R
OnOk-both (Ok x) p q both = both p q
OnOk-both (Err e) p q both = p

pub released_by-shown : (bufs : List Evbuffered) (later : List Bool) (text text' : List ℕ) (b : ℕ) (buf : Evbuffered) →
    text' ≡ text ++ released_lines (buffer_at bufs b).released → buf ≡ without_released (buffer_at bufs b) →
    run_of (map shown (set bufs b buf)) later text' ≡ released_by b (run_of (map shown bufs) later text)
released_by-shown bufs later text text' b buf text_is buf_is =
    rw (map-shown-set bufs b buf, text_is, buf_is, buffer_at-shown bufs b) refl

pub reported_by-shown : (bufs : List Evbuffered) (later : List Bool) (text text' : List ℕ) (b : ℕ) (buf : Evbuffered) →
    text' ≡ text ++ report_lines b (buffer_at bufs b).callbacks →
    buf ≡ with_callbacks (buffer_at bufs b) (all_reported (buffer_at bufs b).callbacks) →
    run_of (map shown (set bufs b buf)) later text' ≡ reported_by b (run_of (map shown bufs) later text)
reported_by-shown bufs later text text' b buf text_is buf_is =
    rw (map-shown-set bufs b buf, text_is, buf_is, buffer_at-shown bufs b) refl
