-- What a call of `play` read and wrote, by its status.
use Rattle.std.specs.Prelude.{◌≡◌, ◌<◌, ◌≤◌, ◌⊎◌, ℕ, ◌^◌, ◌-◌, min, ⊤, true, false, List, [], ◌++◌, length, take, Option, Some, None, Ok}
use Rattle.std.specs.Prelude.{Err}
use Rattle.ev_types.specs.declared.status.Status.{Status}
use Rattle.ev_types.specs.declared.status.Status.TheVariants as status
use Rattle.ev_types.specs.Trace.{Trace}
use Rattle.ev_port.specs.StreamBytes.{GaveAll, TookOn}
use Rattle.ev_types.specs.declared.status.LinkCount.{LinkCount}
use Rattle.script_text.specs.Script.{ScriptValue}
use Rattle.script_text.specs.Spelled.{script_of}
use Rattle.script_text.specs.TraceText.{trace_text}
use Rattle.script_text.specs.ReportText.{report_text}
use Rattle.buffers_mode.specs.Text.{answers_of}
use Rattle.base_mode.specs.Turned as base
use Rattle.base_mode.specs.Spelled as base_script
use Rattle.pairs_mode.specs.Run as pairs
use Rattle.command_words.specs.declared.mode.ScriptKind.{ScriptKind}
use Rattle.command_words.specs.declared.mode.ScriptKind.TheVariants as mode
use Rattle.command_words.specs.declared.mode.Ending.{Ending}
use Rattle.evplay.specs.declared.run.RunEnd.{RunEnd}
use Rattle.evplay.specs.declared.run.RunEnd.TheVariants as run_end
use Rattle.evplay.specs.Big.{IsBigText}
use Rattle.evplay.specs.HandedIn.{HandedIn}
use Rattle.evplay.specs.Headline.{IsRun}
use Rattle.evplay.specs.Run.{answer_of, TellsTurn}

-- the text of a trace, and the report behind it
abbrev pub run_text : Trace → List LinkCount → List ℕ
run_text t links = trace_text t ++ report_text links

-- It is the text of a run of the script that was to end so and ended so, with these hooks, and of its report.
abbrev pub IsRunText : ScriptValue → Ending → HandedIn → RunEnd → List ℕ → Type 0
IsRunText script how handed end text =
    (t : Trace) × (links : List LinkCount) × IsRun script how handed (answer_of end) t links × TellsTurn end t × (text ≡ run_text t links)

-- a source text spells a script, and this is the text of a run of it
abbrev pub Runs : List ℕ → Ending → HandedIn → RunEnd → List ℕ → Type 0
Runs source how handed end text =
    (script : ScriptValue) × (script_of source ≡ Ok script) × IsRunText script how handed end text

-- a generated script has at most 64 links
abbrev pub HasFewLinks : ScriptKind → Type 0
HasFewLinks (mode.Big links) = links ≤ 64
HasFewLinks _ = ⊤

-- What a script of this kind comes to: this text, and this status once it is written. A run of the relay ends well, with a
-- failed poll, or where a hook stopped it. A script of buffers, of a base or of pairs comes to the answers of its lines; where a number
-- of the base is spent, to those before.
abbrev pub ComesTo : ScriptKind → HandedIn → List ℕ → Status → List ℕ → Type 0
ComesTo (mode.Relay how) handed source status.Ok text = Runs source how handed run_end.Went text
ComesTo (mode.Relay how) handed source status.PollFault text = Runs source how handed run_end.PollFailed text
ComesTo (mode.Relay how) handed source (status.Stopped link turn) text = Runs source how handed (run_end.Stopped link turn) text
ComesTo mode.Buffers handed source status.Ok text = answers_of source ≡ Ok (Some text)
ComesTo mode.Base handed source status.Ok text = base.answers_of source ≡ Ok (text, false)
ComesTo mode.Base handed source status.Spent text = base.answers_of source ≡ Ok (text, true)
ComesTo mode.Pairs handed source status.Ok text = pairs.answers_of source ≡ Ok text
ComesTo (mode.Big links) handed source status.Ok text = IsBigText links text
ComesTo _ handed source _ text = ⊥

-- the first line of a source text that is not in the grammar of the mode has this number
abbrev pub IsFirstBad : ScriptKind → List ℕ → ℕ → Type 0
IsFirstBad (mode.Relay how) source line = script_of source ≡ Err line
IsFirstBad mode.Buffers source line = answers_of source ≡ Err line
IsFirstBad mode.Base source line = base_script.script_of source ≡ Err line
IsFirstBad mode.Pairs source line = pairs.answers_of source ≡ Err line
IsFirstBad (mode.Big links) source line = ⊥

-- The line is told of a text that has this one as its first bad line. A number above 2^32 - 1 is told as that number.
abbrev pub TellsBad : ScriptKind → List ℕ → ℕ → Type 0
TellsBad m source told = (line : ℕ) × IsFirstBad m source line × (told ≡ min line (2 ^ 32 - 1))

-- Why a text comes to nothing: it is no script, or memory ran out.
abbrev pub Refuses : ScriptKind → List ℕ → Status → Type 0
Refuses m source (status.BadScript told) = TellsBad m source told
Refuses m source status.Memory = ⊤
Refuses m source _ = ⊥

-- The source gave this text to its end; of the generated script nothing is read.
abbrev pub GaveText : ScriptKind → Option (List ℕ) → Option (List ℕ) → List ℕ → Type 0
GaveText (mode.Big links) left now_left source = source ≡ []
GaveText _ left now_left source = GaveAll left now_left source

-- The source gave a whole text, and the sink took the whole text that it comes to.
abbrev pub PlayedAll : ScriptKind → HandedIn → Status → Option (List ℕ) → Option (List ℕ) → Option (List ℕ) → Option (List ℕ) → Type 0
PlayedAll m handed ended left now_left taken now_taken =
    (source : List ℕ) × (text : List ℕ) × GaveText m left now_left source × ComesTo m handed source ended text × TookOn taken now_taken text

-- the same, but the sink took the first n bytes of the text, and not all
abbrev pub PlayedPart : ScriptKind → HandedIn → Option (List ℕ) → Option (List ℕ) → Option (List ℕ) → Option (List ℕ) → Type 0
PlayedPart m handed left now_left taken now_taken =
    (source : List ℕ) × (text : List ℕ) × (ended : Status) × (n : ℕ) × GaveText m left now_left source × ComesTo m handed source ended text
    × (n < length text) × TookOn taken now_taken (take n text)

-- the source gave a whole text whose first bad line is told
abbrev pub GaveBad : ScriptKind → Option (List ℕ) → Option (List ℕ) → ℕ → Type 0
GaveBad m left now_left told = (source : List ℕ) × GaveText m left now_left source × TellsBad m source told

-- What a call did, by the mode that its words ask for and by its status. Two statuses never come, Spent of a base alone, and Stopped of
-- links alone.
abbrev pub Did : ScriptKind → HandedIn → Status → Option (List ℕ) → Option (List ℕ) → Option (List ℕ) → Option (List ℕ) → Type 0
Did m handed status.Ok left now_left taken now_taken = PlayedAll m handed status.Ok left now_left taken now_taken
Did m handed status.PollFault left now_left taken now_taken = PlayedAll m handed status.PollFault left now_left taken now_taken
Did m handed status.WriteFault left now_left taken now_taken = PlayedPart m handed left now_left taken now_taken
Did m handed (status.BadScript told) left now_left taken now_taken = GaveBad m left now_left told
Did m handed status.ReadFault left now_left taken now_taken = ⊤
Did m handed status.TooLong left now_left taken now_taken = ⊤
Did m handed status.Memory left now_left taken now_taken = ⊤
Did m handed status.Usage left now_left taken now_taken = ⊥
Did m handed (status.Stopped link turn) left now_left taken now_taken =
    PlayedAll m handed (status.Stopped link turn) left now_left taken now_taken
Did m handed status.OpenFault left now_left taken now_taken = ⊥
Did m handed status.Spent left now_left taken now_taken = PlayedAll m handed status.Spent left now_left taken now_taken

-- no text is read where the words ask for no mode or for the generated script
abbrev pub ReadsNothing : Option ScriptKind → Type 0
ReadsNothing None = ⊤
ReadsNothing (Some (mode.Big links)) = ⊤
ReadsNothing (Some _) = ⊥

-- Words that ask for no mode are refused, or memory ran out while they were read. What a call did with the others.
abbrev pub DidWith : Option ScriptKind → HandedIn → Status → Option (List ℕ) → Option (List ℕ) → Option (List ℕ) → Option (List ℕ) → Type 0
DidWith None handed ended left now_left taken now_taken = (ended ≡ status.Usage) ⊎ (ended ≡ status.Memory)
DidWith (Some m) handed ended left now_left taken now_taken = Did m handed ended left now_left taken now_taken
