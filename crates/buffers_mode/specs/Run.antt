-- A script as it is played on sixteen buffers.
use Rattle.std.specs.Prelude.{ℕ, ◌+◌, ◌==◌, ◌&&◌, ◌||◌, min, if◌then◌else◌, Bool, true, false, not, Option, Some, option_map}
use Rattle.std.specs.Prelude.{option_and_then, List, [], ◌∷◌, ◌++◌, length, replicate, map, filter, reverse, flat_map, slice_index_or}
use Rattle.std.specs.Prelude.{slice_set}
use Rattle.script_text.specs.Lines.{line_of}
use Rattle.evbuf.specs.Evbuffered.{Evbuffered}
use Rattle.evbuf.specs.Callbacks.{Callbacks, waits, report_of, reported}
use Rattle.evbuf.specs.Moves.{buffer_at, move_all_refusal, move_some_refusal}
use Rattle.buffers_mode.specs.declared.answer.Answer.{Answer}
use Rattle.buffers_mode.specs.declared.answer.Answer.TheVariants.{Done, Count}
use Rattle.buffers_mode.specs.declared.line.Op.{Op}
use Rattle.buffers_mode.specs.declared.line.BufferAsk.{BufferAsk}
use Rattle.buffers_mode.specs.declared.line.BufferAsk.TheVariants.{Own, AddBuffer, RemoveBuffer, Defer, Reports}
use Rattle.buffers_mode.specs.declared.line.Line.{Line}
use Rattle.buffers_mode.specs.Answers.{answer_words, report_words, released_words}
use Rattle.evbuf.specs.Steps.{new_buffer, after_taking, after_taking_all, after_giving, after_giving_all}
use Rattle.buffers_mode.specs.Steps.{with_callbacks}
use Rattle.buffers_mode.specs.Played.{Step, unless, own_step}

-- the buffers, which of them have reports that wait until they are asked for, and the text that was written
pub record Run : Type 0 where
  pub buffers : List Evbuffered
  pub deferred : List Bool
  pub text : List ℕ

-- before the first line
abbrev pub fresh_run : Run
fresh_run = record { buffers = replicate 16 new_buffer; deferred = replicate 16 false; text = [] }

-- what a line does to the buffer of a number alone
abbrev pub own_at : List Evbuffered → ℕ → Op → Step (List Evbuffered)
own_at buffers b op = option_map (λ step. (step.0, slice_set buffers b step.1)) (own_step op (buffer_at buffers b))

-- all bytes of a buffer move to the end of another
abbrev pub add_buffer_step : List Evbuffered → ℕ → ℕ → Step (List Evbuffered)
add_buffer_step buffers to from =
    let target = buffer_at buffers to in
    let source = buffer_at buffers from in
    unless (move_all_refusal buffers to from) buffers Done
    (slice_set (slice_set buffers to (after_taking_all target source 0)) from (after_giving_all source 0))

-- the first n bytes of a buffer, or all where there are fewer, move to the end of another
abbrev pub remove_buffer_step : List Evbuffered → ℕ → ℕ → ℕ → Step (List Evbuffered)
remove_buffer_step buffers from to n =
    let target = buffer_at buffers to in
    let source = buffer_at buffers from in
    unless (move_some_refusal buffers from to n) buffers (Count (min n (length source.bytes)))
    (slice_set (slice_set buffers to (after_taking target source n 0)) from (after_giving source n 0))

-- a run with the buffers that a step leaves
abbrev pub on_buffers : Run → Step (List Evbuffered) → Step Run
on_buffers run step = option_map (λ taken. (taken.0, record run { buffers = taken.1 })) step

-- what a line is answered, and what it leaves, before anything is reported or released
abbrev pub ask_step : Run → ℕ → BufferAsk → Step Run
ask_step run b (Own op) = on_buffers run (own_at run.buffers b op)
ask_step run b (AddBuffer from) = on_buffers run (add_buffer_step run.buffers b from)
ask_step run b (RemoveBuffer to n) = on_buffers run (remove_buffer_step run.buffers b to n)
ask_step run b (Defer on) = Some (Done, record run { deferred = slice_set run.deferred b on })
ask_step run b Reports = Some (Done, run)

-- Does the line ask for the reports of its buffer?
abbrev pub asks_reports : BufferAsk → Bool
asks_reports Reports = true
asks_reports _ = false

-- A buffer reports after the line where it isn't deferred, or where the line asks for it.
abbrev pub reports_after : List Bool → Line → ℕ → Bool
reports_after deferred line b = not (slice_index_or deferred b false) || ((line.buffer == b) && asks_reports line.ask)

-- the lines of the reports that wait in a buffer with this number, that of the newest callback first
abbrev pub report_lines : ℕ → Callbacks → List ℕ
report_lines b callbacks = flat_map (λ callback. line_of (report_words b (report_of callback))) (reverse (filter waits callbacks))

-- the callbacks after all reports that wait were made
abbrev pub all_reported : Callbacks → Callbacks
all_reported callbacks = map (λ callback. if waits callback then reported callback else callback) callbacks

-- the buffer of a number has reported
abbrev pub reported_by : ℕ → Run → Run
reported_by b run =
    let buf = buffer_at run.buffers b in
    record run { buffers = slice_set run.buffers b (with_callbacks buf (all_reported buf.callbacks)); text = run.text ++ report_lines b buf.callbacks }

-- the lines of the reports of some buffers, of which the first has this number
abbrev pub reports_text : (ℕ → Bool) → ℕ → List Evbuffered → List ℕ
reports_text reports b [] = []
reports_text reports b (buf ∷ more) = (if reports b then report_lines b buf.callbacks else []) ++ reports_text reports (b + 1) more

-- these buffers afterwards
abbrev pub after_reports : (ℕ → Bool) → ℕ → List Evbuffered → List Evbuffered
after_reports reports b [] = []
after_reports reports b (buf ∷ more) =
    (if reports b then with_callbacks buf (all_reported buf.callbacks) else buf) ∷ after_reports reports (b + 1) more

-- the lines of some tickets
abbrev pub released_lines : List ℕ → List ℕ
released_lines tickets = flat_map (λ ticket. line_of (released_words ticket)) tickets

-- the lines of the tickets that wait in some buffers
abbrev pub released_text : List Evbuffered → List ℕ
released_text buffers = flat_map (λ buf. released_lines buf.released) buffers

-- a buffer after all its tickets were taken
abbrev pub without_released : Evbuffered → Evbuffered
without_released buf = record buf { released = [] }

-- the tickets of the buffer of a number were told
abbrev pub released_by : ℕ → Run → Run
released_by b run =
    let buf = buffer_at run.buffers b in
    record run { buffers = slice_set run.buffers b (without_released buf); text = run.text ++ released_lines buf.released }

-- these buffers afterwards
abbrev pub after_released : List Evbuffered → List Evbuffered
after_released buffers = map without_released buffers

-- all buffers that report after a line have reported, in rising number
abbrev pub after_reports_run : Line → Run → Run
after_reports_run line run =
    let reports = reports_after run.deferred line in
    record run { buffers = after_reports reports 0 run.buffers; text = run.text ++ reports_text reports 0 run.buffers }

-- all tickets that wait were told, buffers in rising number, those of a buffer in the order of their release
abbrev pub after_released_run : Run → Run
after_released_run run = record run { buffers = after_released run.buffers; text = run.text ++ released_text run.buffers }

-- an answer is written, and then what the buffers tell
abbrev pub after_answer : Line → Answer → Run → Run
after_answer line answer run =
    after_released_run (after_reports_run line (record run { text = run.text ++ line_of (answer_words answer) }))

-- the run after a line; there is none where a count would not fit
abbrev pub line_played : Run → Line → Option Run
line_played run line = option_map (λ step. after_answer line step.0 step.1) (ask_step run line.buffer line.ask)

-- the run after some lines
abbrev pub lines_played : Run → List Line → Option Run
lines_played run [] = Some run
lines_played run (line ∷ more) = option_and_then (λ after. lines_played after more) (line_played run line)
