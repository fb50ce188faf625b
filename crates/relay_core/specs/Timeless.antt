-- At which sides time changes nothing, or nothing until a moment, and which links are watched for it.
use Rattle.std.specs.Prelude.{◌≡◌, ℕ, ◌*◌, ◌<◌, ◌≤◌, Bool, true, false, ◌&&◌, not, nat_le, if◌then◌else◌, List, [], length}
use Rattle.std.specs.Prelude.{Option, Some, None, option_map, option_to_list}
use Rattle.token_bucket.specs.declared.limit.Dir.{Dir}
use Rattle.token_bucket.specs.declared.limit.Dir.TheVariants as dir
use Rattle.ev_types.specs.declared.side.SideId.{SideId}
use Rattle.ev_types.specs.Sides.{number}
use Rattle.next_moments.specs.Earliest.{moment_for}
use Rattle.number_set.specs.Numbers.{NumberSetValue}
use Rattle.resting_links.specs.RestingValue.{RestingValue, side_moment}
use Rattle.rate_group.specs.Steps.{group_of}
use Rattle.relay_model.specs.Plain.{PlainSide, Standing, is_live, side_at}
use Rattle.relay_model.specs.Moments.{is_timed}
use Rattle.relay_state.specs.Running.{Gauge, held_at}
use Rattle.relay_state.specs.State.{State, gauge_at}
use Rattle.relay_state.specs.Closing.{in_side, out_side}
use Rattle.relay_state.specs.Rooms.{allowance}
use Rattle.relay_core.specs.RelayValue.{RelayValue}
use Rattle.relay_sides.specs.KeptLimits.{limit_gains}
use Rattle.relay_sides.specs.Links as links
use Rattle.relay_sides.specs.Links.{Links}

-- a bound leaves something to move: there is none, or it is more than nothing
abbrev pub leaves_some : Option ℕ → Bool
leaves_some None = true
leaves_some (Some most) = nat_le 1 most

-- what a limit leaves at a time, where there is one
abbrev pub left_by : Option Standing → Gauge → Dir → ℕ → Option ℕ
left_by limit x d time = option_map (λ y. held_at y.cfg x d time) limit

-- when a bucket of a side that holds nothing at a time gains again, if the side is live
abbrev pub side_gains : ℕ → PlainSide → Gauge → List ℕ
side_gains time x buckets = if x.live then limit_gains time buckets x.limit else []

-- At a time a side with these buckets waits for no moment but this one, if there is one: if it is live it has no timeout and none has
-- passed, and its buckets that hold nothing gain again then. What its group leaves it is not asked.
pub record IsResting (moment : Option ℕ) (time : ℕ) (x : PlainSide) (buckets : Gauge) : Type 0 where
  pub reads : is_timed x dir.Read ≡ false
  pub writes : is_timed x dir.Write ≡ false
  pub unexpired : (x.live && x.expired) ≡ false
  pub gains : option_to_list moment ≡ side_gains time x buckets

-- this side has no timeout if it is live, and none has passed
pub record IsStillSide (s : State) (e : SideId) : Type 0 where
  pub reads : is_timed (side_at s.plain e) dir.Read ≡ false
  pub writes : is_timed (side_at s.plain e) dir.Write ≡ false
  pub unexpired : ((side_at s.plain e).live && (side_at s.plain e).expired) ≡ false

-- whether that is so
abbrev pub is_still_side : State → SideId → Bool
is_still_side s e =
    not (is_timed (side_at s.plain e) dir.Read) && not (is_timed (side_at s.plain e) dir.Write)
    && not ((side_at s.plain e).live && (side_at s.plain e).expired)

-- whether it is so of both sides of a link
abbrev pub is_still_link : State → ℕ → Bool
is_still_link s k = is_still_side s (in_side k) && is_still_side s (out_side k)

-- Until a time the limit of a side, if it is live, leaves it something in a direction where it does now, and nothing where it doesn't.
abbrev pub IsLeftAlike : ℕ → State → SideId → Type 0
IsLeftAlike to s e = is_live s.plain e ≡ true → (d : Dir) →
    leaves_some (left_by (side_at s.plain e).limit (gauge_at s e) d to) ≡ leaves_some (allowance s e d)

-- so it is of the sides of opened links that are not in this set
abbrev pub AreLeftAlikeBeside : NumberSetValue → ℕ → State → Type 0
AreLeftAlikeBeside set to s = (e : SideId) → e.link < s.plain.opened → set.has e.link ≡ false → IsLeftAlike to s e

-- no number from one up to another is in a set
abbrev pub AreOut : NumberSetValue → ℕ → ℕ → Type 0
AreOut set from to = (n : ℕ) → from ≤ n → n < to → set.has n ≡ false

-- a set has all that another one has
abbrev pub HasAllOf : NumberSetValue → NumberSetValue → Type 0
HasAllOf old new = (n : ℕ) → new.has n ≡ false → old.has n ≡ false

-- no side of the links from one up to another has a timeout, if it is live, or has expired
abbrev pub AreTimeless : State → ℕ → ℕ → Type 0
AreTimeless s from to = (e : SideId) → from ≤ e.link → e.link < to → IsStillSide s e

-- nor one of an opened link that is not in this set
abbrev pub AreTimelessBeside : NumberSetValue → State → Type 0
AreTimelessBeside set s = (e : SideId) → e.link < s.plain.opened → set.has e.link ≡ false → IsStillSide s e

-- There is a place for each opened link, and a side of a link that is not watched waits for no moment but its own. No other side has one.
pub record IsWatching (r : RestingValue) (time : ℕ) (k : Links) : Type 0 where
  pub covers : k.opened ≤ r.watched.len
  pub places : 2 * k.opened ≤ length r.moments
  pub absent : (i : ℕ) → 2 * k.opened ≤ i → moment_for r.moments i ≡ None
  pub beside : (e : SideId) → e.link < k.opened → r.watched.has e.link ≡ false →
      IsResting (side_moment r e) time (links.side_at k e) (links.gauge_at k e)

-- There is a place for each opened link, and a side of a link that is not among those with members is in no group.
pub record IsGrouping (grouped : NumberSetValue) (opened : ℕ) (members : List (ℕ × ℕ)) : Type 0 where
  pub covers : opened ≤ grouped.len
  pub beside : (e : SideId) → e.link < opened → grouped.has e.link ≡ false → group_of (number e) members ≡ None

-- Of the links below a number those are watched that were and are not still, and of the others those that were.
abbrev pub AreForgotten : State → ℕ → NumberSetValue → NumberSetValue → Type 0
AreForgotten s to old new =
    ((n : ℕ) → n < to → new.has n ≡ (old.has n && not (is_still_link s n))) × ((n : ℕ) → to ≤ n → new.has n ≡ old.has n)

-- no opened link is watched that is still
abbrev pub WatchesNoStill : RelayValue → Type 0
WatchesNoStill r = (n : ℕ) → n < r.state.plain.opened → r.watched.has n ≡ true → is_still_link r.state n ≡ false
