-- Buckets that come back. How much one may owe, and what the ticks that begin bring it: a side's bucket owes nothing and holds a byte a
-- tick later; a group's owes less than the least share, and two ticks in which nothing is moved free the group.
use Rattle.std.specs.Prelude.{◌≡◌, ℕ, ◌+◌, ◌-◌, ◌*◌, ◌/◌, ◌≤◌, false, ⊤, List, [], ◌∷◌, ◌++◌, drop, Some, slice_get}
use Rattle.std.specs.List.{list_any}
use Rattle.token_bucket.specs.declared.limit.Dir.{Dir}
use Rattle.ev_types.specs.declared.side.SideId.{SideId}
use Rattle.ev_types.specs.Trace.{Trace}
use Rattle.relay_model.specs.Settings.{Settings, GroupSet, HasNoHooks}
use Rattle.relay_model.specs.Plain.{Standing, side_at}
use Rattle.relay_model.specs.Rates.{level, side_spells, held_as_set, standing_level}
use Rattle.token_bucket.specs.Spells.{ticks, Spell, moved_in}
use Rattle.token_bucket.specs.Levels.{Limit, limit_of}
use Rattle.relay_model.specs.Groups.{group_spells, least_share, is_suspended}
use Rattle.relay_model.specs.RatesKept.{is_turn, moved_among}
use Rattle.relay_model.specs.Stages.{State}
use Rattle.relay_model.specs.Turn.{Reaches}
use Rattle.relay_model.specs.MovingOn.{with_turn}

-- From each of some turns on, no more was moved by a time than a full bucket, what came since, and a debt.
abbrev pub EachOwes : Limit → ℕ → ℕ → List Spell → Type 0
EachOwes l debt time [] = ⊤
EachOwes l debt time (x ∷ xs) = (moved_in (x ∷ xs) ≤ l.burst + l.rate * ticks l.tick x.time time + debt) × EachOwes l debt time xs

-- None of them began in a later tick than that of a time.
abbrev pub EachBegan : Limit → ℕ → List Spell → Type 0
EachBegan l time [] = ⊤
EachBegan l time (x ∷ xs) = (x.time / l.tick ≤ time / l.tick) × EachBegan l time xs

-- A bucket owes at most a debt at a time. Since its limit was set, when it held so much, no more was moved than that, what came since,
-- and the debt; and from each later turn on no more than a full bucket, what came since, and the debt. None of these moments lies in a
-- later tick than that time.
pub record OwesAtMost (l : Limit) (debt set_at held : ℕ) (later : List Spell) (time : ℕ) : Type 0 where
  pub first : moved_in later ≤ held + l.rate * ticks l.tick set_at time + debt
  pub each : EachOwes l debt time later
  pub set_before : set_at / l.tick ≤ time / l.tick
  pub began_before : EachBegan l time later

-- a turn that begins at a moment, as a bucket sees it
abbrev pub beginning : ℕ → Spell
beginning ms = record { time = ms; moved = 0 }

-- A bucket that owes nothing, whose rate and burst are not 0, holds a byte as a turn begins a tick later.
abbrev pub TickBringsByte : Type 0
TickBringsByte = (l : Limit) (set_at held : ℕ) (later : List Spell) (time ms : ℕ) → 1 ≤ l.rate → 1 ≤ l.burst →
    OwesAtMost l 0 set_at held later time → 1 ≤ ticks l.tick time ms → 1 ≤ level l set_at held (later ++ beginning ms ∷ []) ms

-- A bucket that owes less than so much, which is no more than its rate and its burst, holds that as the second of two turns begins: where
-- a tick begins before each of them and nothing is moved in the first.
abbrev pub TwoTicksBring : Type 0
TwoTicksBring = (l : Limit) (much set_at held : ℕ) (later : List Spell) (time one two : ℕ) → 1 ≤ much → much ≤ l.rate →
    much ≤ l.burst → OwesAtMost l (much - 1) set_at held later time → 1 ≤ ticks l.tick time one → 1 ≤ ticks l.tick one two →
    much ≤ level l set_at held ((later ++ beginning one ∷ []) ++ beginning two ∷ []) two

-- With no hooks, in every state the two buckets of each side with a limit owe nothing.
abbrev pub SidesOweNothing : Type 0
SidesOweNothing = (g : Settings) (t : Trace) (s : State) (e : SideId) (d : Dir) (x : Standing) → HasNoHooks g → Reaches g t s →
    (side_at s.plain e).limit ≡ Some x →
    OwesAtMost (limit_of x.cfg d) 0 x.time (held_as_set x d) (drop x.turn (side_spells e d t)) s.plain.time

-- So each of them holds a byte as a turn begins a tick later.
abbrev pub SidesComeBack : Type 0
SidesComeBack = (g : Settings) (t : Trace) (s : State) (e : SideId) (d : Dir) (x : Standing) (ms : ℕ) → HasNoHooks g → Reaches g t s →
    (side_at s.plain e).limit ≡ Some x → 1 ≤ ticks x.cfg.tick_ms s.plain.time ms →
    1 ≤ standing_level x d (side_spells e d (with_turn t ms [])) ms

-- Whatever hooks ask, in every state the two buckets of each group owe at most the least share less one byte.
abbrev pub GroupsOweLess : Type 0
GroupsOweLess = (g : Settings) (t : Trace) (s : State) (n : ℕ) (d : Dir) (x : GroupSet) → slice_get g.groups n ≡ Some x → Reaches g t s →
    OwesAtMost (limit_of x.cfg d) (least_share x - 1) 0 (limit_of x.cfg d).rate (group_spells g n d t) s.plain.time

-- So a group whose least share isn't 0 and whose members moved nothing in a turn isn't suspended as the next one begins, where a tick
-- began before each of the two.
abbrev pub GroupsComeBack : Type 0
GroupsComeBack = (g : Settings) (t : Trace) (s : State) (n : ℕ) (d : Dir) (x : GroupSet) (one : ℕ) (part : Trace) (two : ℕ) →
    slice_get g.groups n ≡ Some x → 1 ≤ least_share x → Reaches g t s → list_any is_turn part ≡ false →
    moved_among g n d (with_turn t one []) part ≡ 0 → 1 ≤ ticks x.cfg.tick_ms s.plain.time one → 1 ≤ ticks x.cfg.tick_ms one two →
    is_suspended x d (group_spells g n d (with_turn (with_turn t one part) two [])) ≡ false
