-- What a line of a trace says, by cases on its words: an entry with the bytes beside it.
use Rattle.std.specs.Prelude.{ℕ, List, [], ◌∷◌, codes, length, take, slice_index_or, true, false, if◌then◌else◌, Option, Some, None}
use Rattle.std.specs.Prelude.{option_map}
use Rattle.std.specs.Str.{bytes_eq}
use Rattle.ev_types.specs.declared.side.Side.TheVariants.{Out}
use Rattle.ev_types.specs.declared.side.SideId.{SideId}
use Rattle.ev_types.specs.declared.entry.Entry.{Entry}
use Rattle.ev_types.specs.declared.entry.Entry.TheVariants as entry
use Rattle.ev_types.specs.declared.answer.ReadAnswer.TheVariants.{Got}
use Rattle.ev_types.specs.declared.answer.WriteAnswer.TheVariants.{Took}
use Rattle.ev_types.specs.Trace.{Event}
use Rattle.script_text.specs.declared.entry_words.EntryKind.{EntryKind}
use Rattle.script_text.specs.declared.entry_words.EntryKind.TheVariants as kind
use Rattle.script_text.specs.Numbers.{any_number}
use Rattle.script_text.specs.Ends.{link_of, end_of}
use Rattle.script_text.specs.ValueGrammar.{◌>>=◌, lower_bytes_of, marks_of, conn_of, read_of, write_of, why_of, cause_of, ask_of}
use Rattle.script_text.specs.ActGrammar.{act_of}

-- the kind of an entry, by the first word of its line
abbrev pub kind_of : List ℕ → Option EntryKind
kind_of word =
    if bytes_eq word (codes "turn") then Some kind.Turn
    else (if bytes_eq word (codes "poll") then Some kind.Poll
    else (if bytes_eq word (codes "want") then Some kind.Want
    else (if bytes_eq word (codes "ready") then Some kind.Ready
    else (if bytes_eq word (codes "pollfail") then Some kind.PollFailed
    else (if bytes_eq word (codes "open") then Some kind.Opened
    else (if bytes_eq word (codes "conn") then Some kind.Conn
    else (if bytes_eq word (codes "read") then Some kind.Read
    else (if bytes_eq word (codes "write") then Some kind.Write
    else (if bytes_eq word (codes "fired") then Some kind.Fired
    else (if bytes_eq word (codes "asked") then Some kind.Asked
    else (if bytes_eq word (codes "freed") then Some kind.Freed
    else (if bytes_eq word (codes "closewrite") then Some kind.CloseWrite
    else (if bytes_eq word (codes "close") then Some kind.Close
    else None)))))))))))))

abbrev pub turn_said : List (List ℕ) → Option Entry
turn_said (ms ∷ []) = option_map (λ n. entry.Turn n) (any_number ms)
turn_said _ = None

abbrev pub poll_said : List (List ℕ) → Option Entry
poll_said (word ∷ []) =
    if bytes_eq word (codes "none") then Some (entry.Poll None) else option_map (λ n. entry.Poll (Some n)) (any_number word)
poll_said _ = None

abbrev pub want_said : List (List ℕ) → Option Entry
want_said (link ∷ side ∷ marks ∷ []) = do
  end ← end_of link side
  m ← marks_of marks
  Some (entry.Want end m.0 m.1)
want_said _ = None

abbrev pub ready_said : List (List ℕ) → Option Entry
ready_said (link ∷ side ∷ marks ∷ []) = do
  end ← end_of link side
  m ← marks_of marks
  Some (entry.Ready end m.0 m.1)
ready_said _ = None

abbrev pub poll_failed_said : List (List ℕ) → Option Entry
poll_failed_said [] = Some entry.PollFailed
poll_failed_said _ = None

abbrev pub opened_said : List (List ℕ) → Option Entry
opened_said (link ∷ []) = option_map (λ l. entry.Opened l true) (link_of link)
opened_said (link ∷ word ∷ []) = if bytes_eq word (codes "wait") then option_map (λ l. entry.Opened l false) (link_of link) else None
opened_said _ = None

-- only an Out end is connected
abbrev pub conn_said : List (List ℕ) → Option Entry
conn_said (link ∷ side ∷ word ∷ []) =
    if bytes_eq side (codes "out") then link_of link >>= (λ l. option_map (λ a. entry.Conn (record { link = l; side = Out }) a) (conn_of word))
    else None
conn_said _ = None

-- the end that two words name, and the number that the third one spells
abbrev pub end_and_number_of : List ℕ → List ℕ → List ℕ → Option (SideId × ℕ)
end_and_number_of link side word = end_of link side >>= (λ e. option_map (λ n. (e, n)) (any_number word))

-- a read that got bytes: all that stand in its line
abbrev pub got_said : List ℕ → List ℕ → List ℕ → List ℕ → Option Event
got_said link side room digits = do
  asked ← end_and_number_of link side room
  bytes ← lower_bytes_of digits
  Some (entry.Read asked.0 asked.1 (Got (length bytes)), bytes)

abbrev pub read_said : List (List ℕ) → Option Event
read_said (link ∷ side ∷ room ∷ word ∷ []) = do
  asked ← end_and_number_of link side room
  answer ← read_of word
  Some (entry.Read asked.0 asked.1 answer, [])
read_said (link ∷ side ∷ room ∷ word ∷ digits ∷ []) = if bytes_eq word (codes "got") then got_said link side room digits else None
read_said _ = None

-- a write that took bytes: all that stand in its line
abbrev pub took_said : List ℕ → List ℕ → List ℕ → List ℕ → Option Event
took_said link side offered digits = do
  asked ← end_and_number_of link side offered
  bytes ← lower_bytes_of digits
  Some (entry.Write asked.0 asked.1 (Took (length bytes)), bytes)

abbrev pub write_said : List (List ℕ) → Option Event
write_said (link ∷ side ∷ offered ∷ word ∷ []) = do
  asked ← end_and_number_of link side offered
  answer ← write_of word
  Some (entry.Write asked.0 asked.1 answer, [])
write_said (link ∷ side ∷ offered ∷ word ∷ digits ∷ []) =
    if bytes_eq word (codes "took") then took_said link side offered digits else None
write_said _ = None

abbrev pub fired_said : List (List ℕ) → Option Entry
fired_said (link ∷ side ∷ word ∷ []) = do
  end ← end_of link side
  why ← why_of word
  Some (entry.Fired end why)
fired_said _ = None

-- the last of some words, and those before it
abbrev pub last_and_front : List (List ℕ) → Option (List ℕ × List (List ℕ))
last_and_front [] = None
last_and_front (w ∷ ws) = Some (slice_index_or (w ∷ ws) (length ws) w, take (length ws) (w ∷ ws))

-- what was asked stands in all words but the last, which is the answer
abbrev pub asked_by : SideId → List (List ℕ) → Option Entry
asked_by end more = do
  words ← last_and_front more
  act ← act_of words.1
  answer ← ask_of words.0
  Some (entry.Asked end act answer)

abbrev pub asked_said : List (List ℕ) → Option Entry
asked_said (link ∷ side ∷ more) = end_of link side >>= (λ end. asked_by end more)
asked_said _ = None

abbrev pub freed_said : List (List ℕ) → Option Entry
freed_said (link ∷ side ∷ word ∷ moved ∷ given ∷ []) = do
  end ← end_of link side
  cause ← cause_of word
  m ← any_number moved
  g ← any_number given
  Some (entry.Freed end cause m g)
freed_said _ = None

abbrev pub close_write_said : List (List ℕ) → Option Entry
close_write_said (link ∷ side ∷ []) = option_map (λ e. entry.CloseWrite e) (end_of link side)
close_write_said _ = None

abbrev pub close_said : List (List ℕ) → Option Entry
close_said (link ∷ side ∷ []) = option_map (λ e. entry.Close e) (end_of link side)
close_said _ = None

-- an entry with no bytes beside it
abbrev pub alone : Option Entry → Option Event
alone entry = option_map (λ e. (e, [])) entry

-- what a line of a kind says by its further words
abbrev pub event_by : EntryKind → List (List ℕ) → Option Event
event_by kind.Turn more = alone (turn_said more)
event_by kind.Poll more = alone (poll_said more)
event_by kind.Want more = alone (want_said more)
event_by kind.Ready more = alone (ready_said more)
event_by kind.PollFailed more = alone (poll_failed_said more)
event_by kind.Opened more = alone (opened_said more)
event_by kind.Conn more = alone (conn_said more)
event_by kind.Read more = read_said more
event_by kind.Write more = write_said more
event_by kind.Fired more = alone (fired_said more)
event_by kind.Asked more = alone (asked_said more)
event_by kind.Freed more = alone (freed_said more)
event_by kind.CloseWrite more = alone (close_write_said more)
event_by kind.Close more = alone (close_said more)

-- what a line says, by all its words
abbrev pub event_said : List (List ℕ) → Option Event
event_said [] = None
event_said (first ∷ more) = kind_of first >>= (λ kind. event_by kind more)
