-- What the words of an ask say, by cases. They are those that a trace spells for it.
use Rattle.std.specs.Prelude.{ℕ, ◌-◌, ◌^◌, ◌&&◌, nat_le, Bool, true, false, List, [], ◌∷◌, codes, if◌then◌else◌, Option, Some, None}
use Rattle.std.specs.Prelude.{option_map}
use Rattle.std.specs.Str.{bytes_eq}
use Rattle.ev_types.specs.declared.side.SideId.{SideId}
use Rattle.ev_types.specs.declared.act.Act.{Act}
use Rattle.ev_types.specs.declared.act.Act.TheVariants as act
use Rattle.script_text.specs.declared.act_words.Verb.{Verb}
use Rattle.script_text.specs.declared.act_words.Verb.TheVariants as verb
use Rattle.script_text.specs.Ends.{end_of}
use Rattle.script_text.specs.Numbers.{any_number}
use Rattle.script_text.specs.Limits.{limit_said}
use Rattle.script_text.specs.ValueGrammar.{◌>>=◌, dir_of, only_dir, only_number}

-- an ask of which no word more is said
abbrev pub bare : Act → List (List ℕ) → Option Act
bare ask [] = Some ask
bare ask _ = None

abbrev pub marks_ask : SideId → List (List ℕ) → Option Act
marks_ask end (dir ∷ low ∷ high ∷ []) = do
  d ← dir_of dir
  l ← any_number low
  h ← any_number high
  Some (act.Marks end d l h)
marks_ask end _ = None

abbrev pub timeouts_ask : SideId → List (List ℕ) → Option Act
timeouts_ask end (read ∷ write ∷ []) = do
  r ← any_number read
  w ← any_number write
  Some (act.Timeouts end r w)
timeouts_ask end _ = None

abbrev pub rate_ask : SideId → List (List ℕ) → Option Act
rate_ask end (word ∷ []) = if bytes_eq word (codes "none") then Some (act.Rate end None) else None
rate_ask end more = do
  limit ← limit_said more
  Some (act.Rate end (Some limit))

-- which ask of an end a word names
abbrev pub verb_of : List ℕ → Option Verb
verb_of word =
    if bytes_eq word (codes "free") then Some verb.Free
    else (if bytes_eq word (codes "enable") then Some verb.Enable
    else (if bytes_eq word (codes "disable") then Some verb.Disable
    else (if bytes_eq word (codes "marks") then Some verb.Marks
    else (if bytes_eq word (codes "timeouts") then Some verb.Timeouts
    else (if bytes_eq word (codes "rate") then Some verb.Rate
    else (if bytes_eq word (codes "join") then Some verb.Join
    else (if bytes_eq word (codes "leave") then Some verb.Leave
    else (if bytes_eq word (codes "trigger") then Some verb.Trigger
    else (if bytes_eq word (codes "timer") then Some verb.Timer
    else (if bytes_eq word (codes "cancel") then Some verb.Cancel
    else (if bytes_eq word (codes "incref") then Some verb.Incref
    else (if bytes_eq word (codes "decref") then Some verb.Decref
    else None))))))))))))

-- what is asked of an end, by the words behind its name
abbrev pub ask_by : Verb → SideId → List (List ℕ) → Option Act
ask_by verb.Free end more = bare (act.Free end) more
ask_by verb.Enable end more = option_map (λ d. act.Enable end d) (only_dir more)
ask_by verb.Disable end more = option_map (λ d. act.Disable end d) (only_dir more)
ask_by verb.Marks end more = marks_ask end more
ask_by verb.Timeouts end more = timeouts_ask end more
ask_by verb.Rate end more = rate_ask end more
ask_by verb.Join end more = option_map (λ g. act.Join end g) (only_number (2 ^ 32 - 1) more)
ask_by verb.Leave end more = bare (act.Leave end) more
ask_by verb.Trigger end more = option_map (λ d. act.Trigger end d) (only_dir more)
ask_by verb.Timer end more = option_map (λ n. act.Timer end n) (only_number (2 ^ 64 - 1) more)
ask_by verb.Cancel end more = bare (act.Cancel end) more
ask_by verb.Incref end more = bare (act.Incref end) more
ask_by verb.Decref end more = bare (act.Decref end) more

-- what is asked: `stop`, or an ask of the end that the second and third word name
abbrev pub act_of : List (List ℕ) → Option Act
act_of (word ∷ []) = if bytes_eq word (codes "stop") then Some act.Stop else None
act_of (word ∷ link ∷ side ∷ more) = do
  name ← verb_of word
  end ← end_of link side
  ask_by name end more
act_of _ = None

-- numbers of an ask of a script are at most 2^62; those of a limit, and of links and groups, have ranges of their own
abbrev pub is_written : Act → Bool
is_written (act.Marks end dir low high) = nat_le low (2 ^ 62) && nat_le high (2 ^ 62)
is_written (act.Timeouts end read write) = nat_le read (2 ^ 62) && nat_le write (2 ^ 62)
is_written (act.Timer end ms) = nat_le ms (2 ^ 62)
is_written _ = true

-- is it the word that asks nothing
abbrev pub is_nop : List (List ℕ) → Bool
is_nop (word ∷ []) = bytes_eq word (codes "nop")
is_nop _ = false

-- what is planned: an ask, or nothing
abbrev pub planned_ask : List (List ℕ) → Option (Option Act)
planned_ask ws =
    if is_nop ws then Some None else (act_of ws >>= (λ ask. if is_written ask then Some (Some ask) else None))
