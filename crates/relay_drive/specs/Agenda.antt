-- What a drive keeps of its links from turn to turn: at which of them passing and closing have something to do, which are open, and
-- of which sides the table of wants must be looked at. A set may hold too much, and never too little.
use Rattle.std.specs.Prelude.{◌≡◌, ℕ, ◌<◌, ◌≤◌, Bool, true, false, ◌==◌, ◌||◌, if◌then◌else◌}
use Rattle.token_bucket.specs.declared.limit.Dir.TheVariants as dir
use Rattle.ev_types.specs.declared.side.SideId.{SideId}
use Rattle.ev_types.specs.Sides.{number}
use Rattle.ev_port.specs.Table.{WantsValue}
use Rattle.number_set.specs.Numbers.{NumberSetValue}
use Rattle.relay_state.specs.State.{State}
use Rattle.relay_state.specs.Rooms.{wants}
use Rattle.relay_state.specs.Counting.{is_open}
use Rattle.relay_state.specs.Closing.{in_side, out_side}
use Rattle.relay_drive.specs.declared.agenda.Agenda.{Agenda}
use Rattle.relay_drive.specs.declared.naming.Naming.{Naming}
use Rattle.relay_drive.specs.Links.{IsStill, IsSettled, would_want, has_spent_count}

-- what is so of each opened link that is not in a set
abbrev pub HoldsBeside : NumberSetValue → (State → ℕ → Type 0) → State → Type 0
HoldsBeside set P s = (k : ℕ) → k < s.plain.opened → set.has k ≡ false → P s k

-- no count of this link has come far
abbrev pub LinkCountsAreFew : State → ℕ → Type 0
LinkCountsAreFew s k = has_spent_count s k ≡ false

-- and of no link
abbrev pub CountsAreFew : State → Type 0
CountsAreFew s = (k : ℕ) → k < s.plain.opened → LinkCountsAreFew s k

-- this link is not open
abbrev pub IsGone : State → ℕ → Type 0
IsGone s k = is_open s k ≡ false

-- Passing and closing have nothing to do at the links that are not in their sets, and none of them is open that is not among those.
pub record IsKept (l : Agenda) (s : State) : Type 0 where
  pub pass_covers : s.plain.opened ≤ l.to_pass.len
  pub close_covers : s.plain.opened ≤ l.to_close.len
  pub want_covers : s.plain.opened ≤ l.to_name.len
  pub live_covers : s.plain.opened ≤ l.maybe_open.len
  pub still : HoldsBeside l.to_pass IsStill s
  pub settled : HoldsBeside l.to_close IsSettled s
  pub gone : HoldsBeside l.maybe_open IsGone s

-- the table says of this side what it wants
abbrev pub SaysOf : WantsValue → State → SideId → Type 0
SaysOf t s e = (t.reads (number e) ≡ wants s e dir.Read) × (t.writes (number e) ≡ wants s e dir.Write)

-- and what it would want, if groups were suspended as is noted beside the table
abbrev pub WouldSayOf : Naming → State → SideId → Type 0
WouldSayOf t s e = (t.table.reads (number e) ≡ would_want t.seen.items s e dir.Read)
    × (t.table.writes (number e) ≡ would_want t.seen.items s e dir.Write)

-- The table has this link, says what its sides would want, and no count of it has come far.
abbrev pub IsNamedRight : Naming → State → ℕ → Type 0
IsNamedRight t s k =
    (k < t.table.links) × WouldSayOf t s (in_side k) × WouldSayOf t s (out_side k) × LinkCountsAreFew s k

-- so it is for each link that is not to be looked at
pub record IsNamed (l : Agenda) (t : Naming) (s : State) : Type 0 where
  pub links : t.table.links ≤ s.plain.opened
  pub named : HoldsBeside l.to_name (IsNamedRight t) s

-- A link is in all sets, but perhaps in that of open links, and of every other link they say what they said.
pub record TouchedBut (opened : Bool) (k : ℕ) (old new : Agenda) : Type 0 where
  pub pass_len : new.to_pass.len ≡ old.to_pass.len
  pub close_len : new.to_close.len ≡ old.to_close.len
  pub want_len : new.to_name.len ≡ old.to_name.len
  pub live_len : new.maybe_open.len ≡ old.maybe_open.len
  pub to_pass : (n : ℕ) → new.to_pass.has n ≡ (if n == k then true else old.to_pass.has n)
  pub to_close : (n : ℕ) → new.to_close.has n ≡ (if n == k then true else old.to_close.has n)
  pub to_name : (n : ℕ) → new.to_name.has n ≡ (if n == k then true else old.to_name.has n)
  pub maybe_open : (n : ℕ) → new.maybe_open.has n ≡ (if n == k then opened else old.maybe_open.has n)

-- a link is in all sets
abbrev pub Touched : ℕ → Agenda → Agenda → Type 0
Touched k old new = TouchedBut true k old new

-- each set has a place for this link
abbrev pub HasPlace : ℕ → Agenda → Type 0
HasPlace k l = (k < l.to_pass.len) × (k < l.to_close.len) × (k < l.to_name.len) × (k < l.maybe_open.len)

-- Where passing changed nothing at a link, it isn't looked at again; else all is looked at.
abbrev pub PassingNoted : ℕ → Bool → Agenda → Agenda → Type 0
PassingNoted k false old new = (new.to_pass.len ≡ old.to_pass.len) ×
    ((n : ℕ) → new.to_pass.has n ≡ (if n == k then false else old.to_pass.has n))
    × (new.to_close ≡ old.to_close) × (new.to_name ≡ old.to_name) × (new.maybe_open ≡ old.maybe_open)
PassingNoted k true old new = Touched k old new

-- Where closing found nothing to do at a link, it isn't looked at again; else all is looked at, and it is among the open ones where it
-- is open.
abbrev pub ClosingNoted : State → ℕ → Bool → Agenda → Agenda → Type 0
ClosingNoted s k false old new = (new.to_close.len ≡ old.to_close.len) ×
    ((n : ℕ) → new.to_close.has n ≡ (if n == k then false else old.to_close.has n))
    × (new.to_pass ≡ old.to_pass) × (new.to_name ≡ old.to_name) × (new.maybe_open ≡ old.maybe_open)
ClosingNoted s k true old new = TouchedBut (is_open s k) k old new

-- no link of the set is one from a number up to another
abbrev pub IsUntold : NumberSetValue → ℕ → ℕ → Type 0
IsUntold set from to = (k : ℕ) → from ≤ k → k < to → set.has k ≡ false

-- The set has a place for this link, which is in it; it is no shorter, and of every other link it says what it said.
pub record Covers (k : ℕ) (old new : NumberSetValue) : Type 0 where
  pub room : k < new.len
  pub len : old.len ≤ new.len
  pub has : (n : ℕ) → new.has n ≡ (if n == k then true else old.has n)

-- so does each set
pub record IsCovered (k : ℕ) (old new : Agenda) : Type 0 where
  pub to_pass : Covers k old.to_pass new.to_pass
  pub to_close : Covers k old.to_close new.to_close
  pub to_name : Covers k old.to_name new.to_name
  pub maybe_open : Covers k old.maybe_open new.maybe_open

-- Of the numbers below one a set has what it had and what another set has, and of the others what it had.
abbrev pub HasBoth : NumberSetValue → ℕ → NumberSetValue → NumberSetValue → Type 0
HasBoth set to old new =
    ((n : ℕ) → n < to → new.has n ≡ (old.has n || set.has n)) × ((n : ℕ) → to ≤ n → new.has n ≡ old.has n)

-- The opened links that are in a set are in all sets, and whatever was in one is in it.
pub record TouchedEach (set : NumberSetValue) (opened : ℕ) (old new : Agenda) : Type 0 where
  pub pass_len : new.to_pass.len ≡ old.to_pass.len
  pub close_len : new.to_close.len ≡ old.to_close.len
  pub want_len : new.to_name.len ≡ old.to_name.len
  pub live_len : new.maybe_open.len ≡ old.maybe_open.len
  pub to_pass : HasBoth set opened old.to_pass new.to_pass
  pub to_close : HasBoth set opened old.to_close new.to_close
  pub to_name : HasBoth set opened old.to_name new.to_name
  pub maybe_open : HasBoth set opened old.maybe_open new.maybe_open

-- only the set of wants to be looked at may have changed, and it is as long
abbrev pub SameBesideWants : Agenda → Agenda → Type 0
SameBesideWants old new = (new.to_pass ≡ old.to_pass) × (new.to_close ≡ old.to_close) × (new.maybe_open ≡ old.maybe_open) ×
    (new.to_name.len ≡ old.to_name.len)

-- Where that is told, the set of wants to be looked at has all opened links of another set, beside what it had. All else stays.
pub record NamesEach (told : Bool) (set : NumberSetValue) (opened : ℕ) (old new : Agenda) : Type 0 where
  pub same : SameBesideWants old new
  pub to_name : told ≡ true → HasBoth set opened old.to_name new.to_name
  pub still : told ≡ false → new.to_name ≡ old.to_name

-- What was kept is kept, of every table too: from a state and the sets that stood for it to another state and its sets.
abbrev pub KeepsNames : Agenda → State → Agenda → State → Type 0
KeepsNames old s new s' = (t : Naming) → IsNamed old t s → IsNamed new t s'
