-- Tests whether two values of a trace are the same one. What the tests are for stands in Put.
use Rattle.std.specs.Prelude.{ℕ, Bool, true, false, ◌==◌, ◌&&◌, not, List, [], ◌∷◌, Option, Some, None}
use Rattle.ev_types.specs.declared.why.Cause.{Cause}
use Rattle.ev_types.specs.declared.why.Cause.TheVariants as cause
use Rattle.ev_types.specs.declared.why.Why.{Why}
use Rattle.ev_types.specs.declared.why.Why.TheVariants as why
use Rattle.ev_types.specs.declared.answer.AskAnswer.{AskAnswer}
use Rattle.ev_types.specs.declared.answer.AskAnswer.TheVariants as ask
use Rattle.ev_types.specs.declared.entry.Entry.{Entry}
use Rattle.ev_types.specs.declared.entry.Entry.TheVariants as entry
use Rattle.ev_types.specs.Sides.{same_end}
use Rattle.relay_model.specs.Flow.{Flow}

abbrev pub is_empty : List ℕ → Bool
is_empty [] = true
is_empty (x ∷ xs) = false

abbrev pub same_flag : Bool → Bool → Bool
same_flag true b = b
same_flag false b = not b

abbrev pub same_number : Option ℕ → Option ℕ → Bool
same_number None None = true
same_number (Some a) (Some b) = a == b
same_number None (Some b) = false
same_number (Some a) None = false

abbrev pub same_cause : Cause → Cause → Bool
same_cause cause.Hook cause.Hook = true
same_cause cause.Done cause.Done = true
same_cause cause.PeerGone cause.PeerGone = true
same_cause cause.Failed cause.Failed = true
same_cause cause.Timeout cause.Timeout = true
same_cause (cause.Filter a) (cause.Filter b) = a == b
same_cause _ _ = false

abbrev pub same_why : Why → Why → Bool
same_why why.Connected why.Connected = true
same_why why.Read why.Read = true
same_why why.Write why.Write = true
same_why why.Timer why.Timer = true
same_why (why.Event a) (why.Event b) = a.0 == b.0
same_why _ _ = false

abbrev pub same_answer : AskAnswer → AskAnswer → Bool
same_answer ask.Ok ask.Ok = true
same_answer ask.NotLive ask.NotLive = true
same_answer ask.NoGroup ask.NoGroup = true
same_answer ask.BadValue ask.BadValue = true
same_answer ask.TooManyRefs ask.TooManyRefs = true
same_answer ask.Memory ask.Memory = true
same_answer _ _ = false

-- the same of two entries that free a side, end its writing or close its end; false of every other entry
abbrev pub same_end_of : Entry → Entry → Bool
same_end_of (entry.Freed a b c d) (entry.Freed w x y z) = same_end a w && same_cause b x && c == y && d == z
same_end_of (entry.CloseWrite a) (entry.CloseWrite b) = same_end a b
same_end_of (entry.Close a) (entry.Close b) = same_end a b
same_end_of _ _ = false

abbrev pub same_flow : Flow → Flow → Bool
same_flow a b =
    a.used == b.used && a.moved == b.moved && a.turned == b.turned && a.given == b.given
    && same_flag a.read_done b.read_done && same_flag a.write_done b.write_done && same_flag a.held b.held
