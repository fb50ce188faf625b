-- A table of wants that lives on between polls: what each side wants, by the number of the side, and what the last poll marked.
use Rattle.std.specs.Prelude.{◌≡◌, ℕ, zero, suc, ◌+◌, ◌*◌, ◌/◌, ◌%◌, ◌==◌, ◌<◌, ◌≤◌, min, length, Bool, false, ◌&&◌, ◌||◌, if◌then◌else◌}
use Rattle.std.specs.Prelude.{List, [], ◌∷◌, ◌++◌, filter, Option, Some, None}
use Rattle.ev_types.specs.declared.side.Side.TheVariants.{In, Out}
use Rattle.ev_types.specs.declared.side.SideId.{SideId}
use Rattle.ev_types.specs.Sides.{number}
use Rattle.ev_types.specs.Told.{EndTold}
use Rattle.ev_types.specs.Trace.{Trace}
use Rattle.number_set.specs.Numbers.{NumberSetValue}
use Rattle.ev_port.specs.declared.port.Polled.{Polled}
use Rattle.ev_port.specs.declared.port.Want.{Want}
use Rattle.ev_port.specs.EndSteps.{AllWent}
use Rattle.ev_port.specs.Polling.{AllMarked, poll_events, poll_step}
use Rattle.ev_port.specs.Vouching.{LongerBy}

-- what contracts see of a table
pub record WantsValue : Type 0 where
  pub links : ℕ  -- the links whose sides have rows
  pub reads : ℕ → Bool  -- the numbers of the sides that want to read
  pub writes : ℕ → Bool  -- the numbers of the sides that want to write
  pub list : List Want  -- the wants that the last poll marked
  pub reads_end : (n : ℕ) → 2 * links ≤ n → reads n ≡ false
  pub writes_end : (n : ℕ) → 2 * links ≤ n → writes n ≡ false

-- the side with this number
abbrev pub side_of : ℕ → SideId
side_of n = record { link = n / 2; side = if n % 2 == 0 then In else Out }

-- what the side with a number wants, by who wants to read and who to write
abbrev pub row_by : (ℕ → Bool) → (ℕ → Bool) → ℕ → Want
row_by reads writes n = record { side = side_of n; read = reads n; write = writes n; can_read = false; can_write = false }

abbrev pub wants_some : Want → Bool
wants_some w = w.read || w.write

abbrev pub is_marked : Want → Bool
is_marked w = w.can_read || w.can_write

-- the wants among the sides with the first numbers, in their order
abbrev pub rows_before : (ℕ → Bool) → (ℕ → Bool) → ℕ → List Want
rows_before reads writes zero = []
rows_before reads writes (suc n) = rows_before reads writes n ++ filter wants_some (row_by reads writes n ∷ [])

abbrev pub row : WantsValue → ℕ → Want
row t n = row_by t.reads t.writes n

abbrev pub named_before : WantsValue → ℕ → List Want
named_before t n = rows_before t.reads t.writes n

-- all wants, in the order of their sides
abbrev pub named : WantsValue → List Want
named t = named_before t (2 * t.links)

-- who wants what stays
pub record RowsStay (old new : WantsValue) : Type 0 where
  pub links : new.links ≡ old.links
  pub reads : new.reads ≡ old.reads
  pub writes : new.writes ≡ old.writes

-- the want is for something that can be done, by the numbers of the sides that can be read and written
abbrev pub is_ready_by : NumberSetValue → NumberSetValue → Want → Bool
is_ready_by readable writable w = (w.read && readable.has (number w.side)) || (w.write && writable.has (number w.side))

-- the want with a mark at what can be done
abbrev pub marked_by : NumberSetValue → NumberSetValue → Want → Want
marked_by readable writable w = record w {
  can_read = w.read && readable.has (number w.side);
  can_write = w.write && writable.has (number w.side);
}

-- the want is that of the first side from a number on that wants something
pub record NextWant (t : WantsValue) (from : ℕ) (w : Want) : Type 0 where
  pub behind : from ≤ number w.side
  pub within : number w.side < 2 * t.links
  pub named : named_before t (number w.side + 1) ≡ named_before t from ++ w ∷ []

abbrev pub IsNextWanted : WantsValue → ℕ → Option Want → Type 0
IsNextWanted t from (Some w) = NextWant t from w
IsNextWanted t from None = named t ≡ named_before t (min from (2 * t.links))

-- the want is that of the last side before a number that wants something
pub record PreviousWant (t : WantsValue) (before : ℕ) (w : Want) : Type 0 where
  pub below : number w.side < before
  pub within : number w.side < 2 * t.links
  pub named : named_before t before ≡ named_before t (number w.side) ++ w ∷ []

abbrev pub IsPreviousWanted : WantsValue → ℕ → Option Want → Type 0
IsPreviousWanted t before (Some w) = PreviousWant t before w
IsPreviousWanted t before None = named_before t before ≡ []

-- A poll of all wants of a table. Some of them were marked, and the table lists those that have a mark.
pub record TablePolled {Plan : Type 0} (old new : WantsValue) (timeout : Option ℕ) (result : Polled) (told told' : SideId → EndTold)
    (vouches vouches' : Plan → Trace → Type 0) : Type 0 where
  pub marked : List Want  -- the wants with their marks
  pub marks : AllMarked (named old) marked
  pub many : length marked ≡ length (named old)
  pub list : new.list ≡ filter is_marked marked
  pub ends : AllWent told told' (poll_step marked result)
  pub vouched : LongerBy vouches vouches' (poll_events timeout marked result)
