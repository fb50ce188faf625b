-- When something moves on in each turn while a link is open: what a port does that withholds nothing, and what is asked of the settings
-- and of the clock.
use Rattle.std.specs.Prelude.{◌≡◌, ℕ, ◌≤◌, Bool, true, false, ◌||◌, not, [], ◌∷◌, ◌++◌, Some, slice_get}
use Rattle.std.specs.List.{list_any, list_all}
use Rattle.token_bucket.specs.declared.limit.Dir.{Dir}
use Rattle.token_bucket.specs.declared.limit.LimitCfg.{LimitCfg}
use Rattle.ev_types.specs.declared.side.Side.{Side}
use Rattle.ev_types.specs.declared.side.SideId.{SideId}
use Rattle.ev_types.specs.declared.answer.ConnAnswer.TheVariants as conn
use Rattle.ev_types.specs.declared.answer.ReadAnswer.TheVariants as read
use Rattle.ev_types.specs.declared.answer.WriteAnswer.TheVariants as write
use Rattle.ev_types.specs.declared.entry.Entry.TheVariants as entry
use Rattle.ev_types.specs.Trace.{Event, Trace}
use Rattle.relay_model.specs.Settings.{Settings, GroupSet, HoldsSome, HasNoHooks, rate_set}
use Rattle.ev_types.specs.Usual.{no_timeouts}
use Rattle.relay_model.specs.Plain.{Plain, side_at}
use Rattle.token_bucket.specs.Spells.{ticks}
use Rattle.relay_model.specs.Groups.{group_spells, is_suspended}
use Rattle.relay_model.specs.RatesKept.{is_turn}
use Rattle.relay_model.specs.Totals.{wants_read_by, wants_write_by, marks_read_by, marks_write_by}
use Rattle.relay_model.specs.Stages.{Stage, at}
use Rattle.relay_model.specs.Turn.{Reaches}
use Rattle.relay_model.specs.Onward.{Leads}
use Rattle.relay_model.specs.Stands.{AllAccounted}
use Rattle.relay_model.specs.OpenLinks.{open_link_count, FreesAreDone}

-- an event that moves on: an end is connected, bytes are got from it, it is read to its end, or it takes bytes
abbrev pub moves_on : Event → Bool
moves_on (entry.Conn side conn.Connected, bytes) = true
moves_on (entry.Read side room (read.Got n), bytes) = true
moves_on (entry.Read side room read.Ended, bytes) = true
moves_on (entry.Write side offered (write.Took n), bytes) = true
moves_on _ = false

-- a call on an end: it is checked, read or written
abbrev pub is_call : Event → Bool
is_call (entry.Conn side answer, bytes) = true
is_call (entry.Read side room answer, bytes) = true
is_call (entry.Write side offered answer, bytes) = true
is_call _ = false

-- In some entries of a turn the port withholds nothing: what is wanted of an end is marked, and each call on an end moves on.
pub record IsWilling (part : Trace) : Type 0 where
  pub reads : (e : SideId) → list_any (wants_read_by e) part ≡ true → list_any (marks_read_by e) part ≡ true
  pub writes : (e : SideId) → list_any (wants_write_by e) part ≡ true → list_any (marks_write_by e) part ≡ true
  pub calls : list_all (λ y. not (is_call y) || moves_on y) part ≡ true

-- No side has a hook or a timeout, the hold mark isn't 0, and each group leaves its members a byte.
pub record IsUnhindered (g : Settings) : Type 0 where
  pub hooks : HasNoHooks g
  pub in_timeouts : g.in_timeouts ≡ no_timeouts
  pub out_timeouts : g.out_timeouts ≡ no_timeouts
  pub holds : HoldsSome g
  pub shares : (n : ℕ) (x : GroupSet) → slice_get g.groups n ≡ Some x → 1 ≤ x.share

-- From one moment to a later one a tick begins for the limit of each side.
abbrev pub SideTicksPass : Settings → ℕ → ℕ → Type 0
SideTicksPass g from to = (side : Side) (cfg : LimitCfg) → rate_set g side ≡ Some cfg → 1 ≤ ticks cfg.tick_ms from to

-- From one moment to a later one a tick begins for the limit of each group.
abbrev pub GroupTicksPass : Settings → ℕ → ℕ → Type 0
GroupTicksPass g from to = (n : ℕ) (x : GroupSet) → slice_get g.groups n ≡ Some x → 1 ≤ ticks x.cfg.tick_ms from to

-- no group that a side is in is suspended behind a trace
abbrev pub NoneSuspended : Settings → Trace → Plain → Type 0
NoneSuspended g t s = (e : SideId) (d : Dir) (n : ℕ) (x : GroupSet) → (side_at s e).group ≡ Some n → slice_get g.groups n ≡ Some x →
    is_suspended x d (group_spells g n d t) ≡ false

-- a trace with one turn more, which begins at a moment and has these entries behind its beginning
abbrev pub with_turn : Trace → ℕ → Trace → Trace
with_turn t ms part = t ++ (entry.Turn ms, []) ∷ part

-- One whole turn: it begins at a moment from a state between two turns to which the trace leads, no other turn begins in it, and it leads
-- to a state between two turns again.
pub record IsWholeTurn (g : Settings) (t : Trace) (s : Plain) (ms : ℕ) (part : Trace) (after : Plain) : Type 0 where
  pub reached : Reaches g t (at Stage.Between s)
  pub leads : Leads g t (at Stage.Between s) (with_turn t ms part) (at Stage.Between after)
  pub one : list_any is_turn part ≡ false

-- Behind a trace a link is open, every direction is accounted for, and each free was of a side that was done.
pub record IsDraining (g : Settings) (t : Trace) (s : Plain) : Type 0 where
  pub some_open : 1 ≤ open_link_count s
  pub accounted : AllAccounted g t s
  pub frees : FreesAreDone t

-- Where the settings don't hinder it, a turn in which the port withholds nothing has an event that moves on, while links are drained. For
-- that a tick of each side's limit has begun since the turn before, and no group is suspended.
abbrev pub WillingTurnsGoOn : Type 0
WillingTurnsGoOn = (g : Settings) (t : Trace) (s : Plain) (ms : ℕ) (part : Trace) (after : Plain) → IsUnhindered g →
    IsWholeTurn g t s ms part after → IsDraining g t s → SideTicksPass g s.time ms → NoneSuspended g (with_turn t ms []) s →
    IsWilling part → list_any moves_on part ≡ true
