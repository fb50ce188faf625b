-- What each line is answered, and what it leaves of the buffer that it names.
use Rattle.std.specs.Prelude.{◌≡◌, ⊤, ℕ, ◌+◌, min, nat_lt, if◌then◌else◌, true, false, Option, Some, None, option_map, [], ◌∷◌, ◌++◌}
use Rattle.std.specs.Prelude.{length, take, Result, Ok, Err}
use Rattle.evbuf.specs.Evbuffered.{Evbuffered}
use Rattle.evbuf.specs.Callbacks.{new_callback, without, with_enabled}
use Rattle.evbuf.specs.Refusals.{add_refusal, prepend_refusal, front_refusal, callback_refusal, number_refusal}
use Rattle.evbuf.specs.declared.fault.BufFault.{BufFault}
use Rattle.evbuf.specs.declared.fault.BufFault.TheVariants as fault
use Rattle.evbuf_scan.specs.Needle.{place_of}
use Rattle.evbuf_scan.specs.Ends.{end_from}
use Rattle.buffers_mode.specs.declared.answer.Refusal.TheVariants.{FrozenFront, FrozenEnd, SameBuffer, NoSuchCallback}
use Rattle.buffers_mode.specs.declared.answer.Answer.{Answer}
use Rattle.buffers_mode.specs.declared.answer.Answer.TheVariants.{Done, Bytes, Count, LineEnd, Nothing, Refused}
use Rattle.buffers_mode.specs.declared.line.Op.{Op}
use Rattle.buffers_mode.specs.declared.line.Op.TheVariants as op
use Rattle.buffers_mode.specs.declared.fault.ModeFault.{ModeFault}
use Rattle.buffers_mode.specs.declared.fault.ModeFault.TheVariants.{Memory, BadLine, Spent}
use Rattle.evbuf.specs.Steps.{with_frozen, after_add, after_prepend, after_reference, after_drain, pulled_up}
use Rattle.buffers_mode.specs.Steps.{with_callbacks}

-- An answer, with what stands afterwards. There is none where a count would not fit: the script can't be played further.
abbrev pub Step : Type 0 → Type 0
Step State = Option (Answer × State)

-- the answer that names a refusal; want of memory and a count that does not fit have none
abbrev pub refused_answer : BufFault → Option Answer
refused_answer fault.Memory = None
refused_answer fault.FrozenFront = Some (Refused FrozenFront)
refused_answer fault.FrozenEnd = Some (Refused FrozenEnd)
refused_answer fault.SameBuffer = Some (Refused SameBuffer)
refused_answer fault.NoSuchCallback = Some (Refused NoSuchCallback)
refused_answer fault.Spent = None

-- a refused line changes nothing; where nothing refuses it this is its step
abbrev pub unless : {State : Type 0} → Option BufFault → State → Answer → State → Step State
unless None before answer after = Some (answer, after)
unless (Some refusal) before answer after = option_map (λ named. (named, before)) (refused_answer refusal)

-- the answer of a search
abbrev pub found_answer : Option ℕ → Answer
found_answer None = Nothing
found_answer (Some place) = Count place

abbrev pub end_answer : Option (ℕ × ℕ) → Answer
end_answer None = Nothing
end_answer (Some found) = LineEnd found.0 found.1

-- the step that reads a line where its end was found
abbrev pub line_step : Evbuffered → Option (ℕ × ℕ) → Step Evbuffered
line_step buf None = unless (front_refusal buf) buf Nothing buf
line_step buf (Some found) = unless (front_refusal buf) buf (Bytes (take found.0 buf.bytes)) (after_drain buf (found.0 + found.1) 0)

-- What a line does to its buffer alone. The buffer is one as answers show it: nothing is spare.
abbrev pub own_step : Op → Evbuffered → Step Evbuffered
own_step (op.Add bytes) buf = unless (add_refusal buf (length bytes)) buf Done (after_add buf bytes 0)
own_step (op.Prepend bytes) buf = unless (prepend_refusal buf (length bytes)) buf Done (after_prepend buf bytes 0)
own_step (op.AddReference bytes ticket) buf =
    unless (add_refusal buf (length bytes)) buf Done (after_reference buf bytes ticket 0)
own_step (op.Drain n) buf = unless (front_refusal buf) buf Done (after_drain buf n 0)
own_step (op.Remove n) buf =
    let taken = min n (length buf.bytes) in unless (front_refusal buf) buf (Bytes (take taken buf.bytes)) (after_drain buf taken 0)
own_step (op.Pullup n) buf = if nat_lt (length buf.bytes) n then Some (Nothing, buf) else Some (Bytes (take n buf.bytes), pulled_up buf n 0)
own_step op.PullupAll buf = Some (Bytes buf.bytes, pulled_up buf (length buf.bytes) 0)
own_step (op.Search needle from) buf = Some (found_answer (place_of needle buf.bytes from), buf)
own_step (op.SearchEol style from) buf = Some (end_answer (end_from style buf.bytes from), buf)
own_step (op.Readln style) buf = line_step buf (end_from style buf.bytes 0)
own_step (op.Peek n) buf = Some (Bytes (take n buf.bytes), buf)
own_step op.Len buf = Some (Count (length buf.bytes), buf)
own_step (op.Freeze place) buf = Some (Done, with_frozen buf place true)
own_step (op.Unfreeze place) buf = Some (Done, with_frozen buf place false)
own_step op.AddCb buf =
    unless (number_refusal buf) buf (Count buf.next) (record buf { callbacks = buf.callbacks ++ new_callback buf.next ∷ []; next = buf.next + 1 })
own_step (op.RemoveCb cb) buf = unless (callback_refusal buf cb) buf Done (with_callbacks buf (without cb buf.callbacks))
own_step (op.SetCbEnabled cb on) buf = unless (callback_refusal buf cb) buf Done (with_callbacks buf (with_enabled cb on buf.callbacks))

-- What the mode answers for a refused call: the refusal's name, or the fault for which the run ends.
abbrev pub IsRefusedFor : BufFault → Result Answer ModeFault → Type 0
IsRefusedFor refusal (Ok answer) = refused_answer refusal ≡ Some answer
IsRefusedFor refusal (Err Memory) = refusal ≡ fault.Memory
IsRefusedFor refusal (Err (BadLine line)) = ⊥
IsRefusedFor refusal (Err Spent) = refusal ≡ fault.Spent

-- A call of the program took this step. Want of memory is always possible, and it ends the run.
abbrev pub Took : {State : Type 0} → Result Answer ModeFault → State → Step State → Type 0
Took (Ok answer) after step = step ≡ Some (answer, after)
Took (Err Memory) after step = ⊤
Took (Err (BadLine line)) after step = ⊥
Took (Err Spent) after step = step ≡ None

-- The same of a call that answers nothing.
abbrev pub Went : {Answered State : Type 0} → Result Answered ModeFault → State → Option State → Type 0
Went (Ok done) after step = step ≡ Some after
Went (Err Memory) after step = ⊤
Went (Err (BadLine line)) after step = ⊥
Went (Err Spent) after step = step ≡ None
