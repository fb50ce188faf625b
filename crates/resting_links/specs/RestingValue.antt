-- What a contract sees of the links that are watched and of when the others are to be: which are watched, and for each side by its number
-- when its link is to be watched again.
use Rattle.std.specs.Prelude.{◌≡◌, ◌≢◌, ℕ, ◌+◌, ◌*◌, ◌==◌, ◌≤◌, nat_le, Bool, false, ◌||◌, if◌then◌else◌, List, length, Option, Some, None}
use Rattle.std.specs.Prelude.{MatchOption}
use Rattle.ev_types.specs.declared.side.SideId.{SideId}
use Rattle.ev_types.specs.Sides.{number}
use Rattle.next_moments.specs.Earliest.{moment_for}
use Rattle.number_set.specs.Numbers.{NumberSetValue}

pub record RestingValue : Type 0 where
  pub watched : NumberSetValue
  pub moments : List (Option ℕ)

-- when the link of this side is to be watched again, or None where no moment is known
abbrev pub side_moment : RestingValue → SideId → Option ℕ
side_moment r e = moment_for r.moments (number e)

-- there are places for the first links, so many
abbrev pub HasPlaces : ℕ → RestingValue → Type 0
HasPlaces links r = (links ≤ r.watched.len) × (2 * links ≤ length r.moments)

-- At most more links are watched. The moments of the others stay, and no moment is new.
pub record Wakes (old new : RestingValue) : Type 0 where
  pub len : new.watched.len ≡ old.watched.len
  pub places : length new.moments ≡ length old.moments
  pub grew : (n : ℕ) → new.watched.has n ≡ false → old.watched.has n ≡ false
  pub kept : (e : SideId) → new.watched.has e.link ≡ false → side_moment new e ≡ side_moment old e
  pub none : (i : ℕ) → moment_for old.moments i ≡ None → moment_for new.moments i ≡ None

-- a moment came, where there is one
abbrev pub has_come : Option ℕ → ℕ → Bool
has_come None time = false
has_come (Some moment) time = nat_le moment time

-- a side of this link has a moment that came
abbrev pub link_has_come : RestingValue → ℕ → ℕ → Bool
link_has_come r time link = has_come (moment_for r.moments (2 * link)) time || has_come (moment_for r.moments (2 * link + 1)) time

-- One link is watched no more, and its sides have these moments. All else stays.
pub record Rests (link : ℕ) (first second : Option ℕ) (old new : RestingValue) : Type 0 where
  pub len : new.watched.len ≡ old.watched.len
  pub places : length new.moments ≡ length old.moments
  pub has : (n : ℕ) → new.watched.has n ≡ (if n == link then false else old.watched.has n)
  pub near : moment_for new.moments (2 * link) ≡ first
  pub far : moment_for new.moments (2 * link + 1) ≡ second
  pub kept : (i : ℕ) → i ≢ 2 * link → i ≢ 2 * link + 1 → moment_for new.moments i ≡ moment_for old.moments i

-- There may be more places. What is watched stays, and so do the moments.
pub record Lengthens (old new : RestingValue) : Type 0 where
  pub len : old.watched.len ≤ new.watched.len
  pub places : length old.moments ≤ length new.moments
  pub has : (n : ℕ) → new.watched.has n ≡ old.watched.has n
  pub moments : (i : ℕ) → moment_for new.moments i ≡ moment_for old.moments i

-- a side of a link that is not watched has this moment, and no number has an earlier one
pub record IsLeastMoment (r : RestingValue) (moment : ℕ) : Type 0 where
  pub of : SideId
  pub unwatched : r.watched.has of.link ≡ false
  pub stands : side_moment r of ≡ Some moment
  pub none_earlier : (i m : ℕ) → moment_for r.moments i ≡ Some m → moment ≤ m

-- the least moment, or None where no number has one
abbrev pub IsFirstMoment : RestingValue → Option ℕ → Type 0
IsFirstMoment r first = MatchOption first ((i : ℕ) → moment_for r.moments i ≡ None) (λ moment. IsLeastMoment r moment)
