-- What single words of a trace say, by cases. They are those that a trace spells for its values.
use Rattle.std.specs.Prelude.{ℕ, List, [], ◌∷◌, ◌&&◌, not, codes, length, take, drop, Bool, true, false, if◌then◌else◌, nat_le, Option}
use Rattle.std.specs.Prelude.{Some, None, option_and_then}
use Rattle.std.specs.List.{list_all}
use Rattle.std.specs.Result.{result_ok}
use Rattle.std.specs.Str.{bytes_eq}
use Rattle.hex.specs.Hex.{decode_of}
use Rattle.token_bucket.specs.declared.limit.Dir.{Dir}
use Rattle.token_bucket.specs.declared.limit.Dir.TheVariants as dir
use Rattle.ev_types.specs.declared.why.Why.{Why}
use Rattle.ev_types.specs.declared.why.Why.TheVariants as why
use Rattle.ev_types.specs.declared.why.WhyKind.{WhyKind}
use Rattle.ev_types.specs.declared.why.WhyKind.TheVariants as why_kind
use Rattle.ev_types.specs.declared.why.Cause.{Cause}
use Rattle.ev_types.specs.declared.why.Cause.TheVariants as cause
use Rattle.ev_types.specs.declared.answer.ConnAnswer.{ConnAnswer}
use Rattle.ev_types.specs.declared.answer.ConnAnswer.TheVariants as conn
use Rattle.ev_types.specs.declared.answer.ReadAnswer.{ReadAnswer}
use Rattle.ev_types.specs.declared.answer.ReadAnswer.TheVariants as read
use Rattle.ev_types.specs.declared.answer.WriteAnswer.{WriteAnswer}
use Rattle.ev_types.specs.declared.answer.WriteAnswer.TheVariants as write
use Rattle.ev_types.specs.declared.answer.AskAnswer.{AskAnswer}
use Rattle.ev_types.specs.declared.answer.AskAnswer.TheVariants as answer
use Rattle.script_text.specs.Numbers.{any_number, number_within}

-- a step that is taken where the one before gave a value
infixl 10 ◌>>=◌
abbrev pub ◌>>=◌ : {A B : Type 0} → Option A → (A → Option B) → Option B
o >>= f = option_and_then f o

abbrev pub dir_of : List ℕ → Option Dir
dir_of word = if bytes_eq word (codes "read") then Some dir.Read else (if bytes_eq word (codes "write") then Some dir.Write else None)

-- the direction, or the number, that some words are, where they are one word
abbrev pub only_dir : List (List ℕ) → Option Dir
only_dir (word ∷ []) = dir_of word
only_dir _ = None

abbrev pub only_number : ℕ → List (List ℕ) → Option ℕ
only_number most (word ∷ []) = number_within most word
only_number most _ = None

-- not one of the letters `A` to `F`
abbrev pub is_no_capital : ℕ → Bool
is_no_capital byte = not (nat_le 65 byte && nat_le byte 70)

-- the bytes that a word of lower-case hex digits spells, at least one byte
abbrev pub lower_bytes_of : List ℕ → Option (List ℕ)
lower_bytes_of word = if nat_le 2 (length word) && list_all is_no_capital word then result_ok (decode_of word) else None

-- what stands in a word behind these first letters
abbrev pub rest_behind : List ℕ → List ℕ → Option (List ℕ)
rest_behind front word = if bytes_eq (take (length front) word) front then Some (drop (length front) word) else None

-- which directions are marked: at least one
abbrev pub marks_of : List ℕ → Option (Bool × Bool)
marks_of word =
    if bytes_eq word (codes "r") then Some (true, false)
    else (if bytes_eq word (codes "w") then Some (false, true)
    else (if bytes_eq word (codes "rw") then Some (true, true)
    else None))

abbrev pub conn_of : List ℕ → Option ConnAnswer
conn_of word =
    if bytes_eq word (codes "ok") then Some conn.Connected
    else (if bytes_eq word (codes "wait") then Some conn.Pending
    else (if bytes_eq word (codes "fail") then Some conn.Failed
    else None))

-- what a read gave that got no bytes
abbrev pub read_of : List ℕ → Option ReadAnswer
read_of word =
    if bytes_eq word (codes "end") then Some read.Ended
    else (if bytes_eq word (codes "notyet") then Some read.NotYet
    else (if bytes_eq word (codes "fail") then Some read.Failed
    else None))

-- what a write did that took no bytes
abbrev pub write_of : List ℕ → Option WriteAnswer
write_of word =
    if bytes_eq word (codes "notyet") then Some write.NotYet else (if bytes_eq word (codes "fail") then Some write.Failed else None)

-- the one byte of some bytes
abbrev pub only_byte : List ℕ → Option ℕ
only_byte (byte ∷ []) = Some byte
only_byte _ = None

-- a reason; that of an event has its joined flags as two hex digits
abbrev pub event_of : List ℕ → Option Why
event_of word = do
  digits ← rest_behind (codes "event:") word
  bytes ← lower_bytes_of digits
  flags ← only_byte bytes
  Some (why.Event (record { 0 = flags }))

abbrev pub why_of : List ℕ → Option Why
why_of word =
    if bytes_eq word (codes "connected") then Some why.Connected
    else (if bytes_eq word (codes "read") then Some why.Read
    else (if bytes_eq word (codes "write") then Some why.Write
    else (if bytes_eq word (codes "timer") then Some why.Timer
    else event_of word)))

-- a reason without its flags
abbrev pub why_kind_of : List ℕ → Option WhyKind
why_kind_of word =
    if bytes_eq word (codes "connected") then Some why_kind.Connected
    else (if bytes_eq word (codes "read") then Some why_kind.Read
    else (if bytes_eq word (codes "write") then Some why_kind.Write
    else (if bytes_eq word (codes "timer") then Some why_kind.Timer
    else (if bytes_eq word (codes "event") then Some why_kind.Event
    else None))))

-- a cause; that of a filter has the place of its bad byte
abbrev pub filter_of : List ℕ → Option Cause
filter_of word = do
  digits ← rest_behind (codes "filter:") word
  place ← any_number digits
  Some (cause.Filter place)

abbrev pub cause_of : List ℕ → Option Cause
cause_of word =
    if bytes_eq word (codes "hook") then Some cause.Hook
    else (if bytes_eq word (codes "done") then Some cause.Done
    else (if bytes_eq word (codes "peergone") then Some cause.PeerGone
    else (if bytes_eq word (codes "failed") then Some cause.Failed
    else (if bytes_eq word (codes "timeout") then Some cause.Timeout
    else filter_of word))))

abbrev pub ask_of : List ℕ → Option AskAnswer
ask_of word =
    if bytes_eq word (codes "ok") then Some answer.Ok
    else (if bytes_eq word (codes "notlive") then Some answer.NotLive
    else (if bytes_eq word (codes "nogroup") then Some answer.NoGroup
    else (if bytes_eq word (codes "badvalue") then Some answer.BadValue
    else (if bytes_eq word (codes "toomanyrefs") then Some answer.TooManyRefs
    else (if bytes_eq word (codes "memory") then Some answer.Memory
    else None)))))
