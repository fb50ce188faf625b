-- The words of single values as a trace and a report spell them, and how words make a line.
use Rattle.std.specs.Prelude.{◌≡◌, ℕ, List, [], ◌∷◌, ◌++◌, codes, Bool, true, false, length, take}
use Rattle.std.specs.Fmt.{decimal}
use Rattle.hex.specs.Hex.{encode_lower}
use Rattle.token_bucket.specs.declared.limit.Dir.{Dir}
use Rattle.token_bucket.specs.declared.limit.Dir.TheVariants as dir
use Rattle.ev_types.specs.declared.side.Side.{Side}
use Rattle.ev_types.specs.declared.side.Side.TheVariants as side
use Rattle.ev_types.specs.declared.why.Why.{Why}
use Rattle.ev_types.specs.declared.why.Why.TheVariants as why
use Rattle.ev_types.specs.declared.why.Cause.{Cause}
use Rattle.ev_types.specs.declared.why.Cause.TheVariants as cause

-- words with a single space between two
abbrev pub phrase : List (List ℕ) → List ℕ
phrase [] = []
phrase (word ∷ []) = word
phrase (word ∷ more) = word ++ 32 ∷ phrase more

-- a line of words, with its LF
abbrev pub line_of : List (List ℕ) → List ℕ
line_of [] = 10 ∷ []
line_of (word ∷ []) = word ++ 10 ∷ []
line_of (word ∷ more) = word ++ 32 ∷ line_of more

-- the whole old list stands at the front of the new one
abbrev pub BeginsWith : List ℕ → List ℕ → Type 0
BeginsWith old new = take (length old) new ≡ old

abbrev pub side_word : Side → List ℕ
side_word side.In = codes "in"
side_word side.Out = codes "out"

abbrev pub dir_word : Dir → List ℕ
dir_word dir.Read = codes "read"
dir_word dir.Write = codes "write"

-- which directions are marked; no entry of a run has neither
abbrev pub marks_word : Bool → Bool → List ℕ
marks_word true true = codes "rw"
marks_word true false = codes "r"
marks_word false true = codes "w"
marks_word false false = codes "none"

-- a reason; that of an event has its joined flags, as two hex digits
abbrev pub why_word : Why → List ℕ
why_word why.Connected = codes "connected"
why_word why.Read = codes "read"
why_word why.Write = codes "write"
why_word why.Timer = codes "timer"
why_word (why.Event flags) = codes "event:" ++ encode_lower (flags.0 ∷ [])

-- a cause; that of a filter has the place of its bad byte
abbrev pub cause_word : Cause → List ℕ
cause_word cause.Hook = codes "hook"
cause_word cause.Done = codes "done"
cause_word cause.PeerGone = codes "peergone"
cause_word cause.Failed = codes "failed"
cause_word cause.Timeout = codes "timeout"
cause_word (cause.Filter place) = codes "filter:" ++ decimal place
