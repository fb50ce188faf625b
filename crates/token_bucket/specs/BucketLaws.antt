-- Laws on what a bucket keeps in one direction.
use Rattle.std.specs.Prelude.{◌≡◌, ℕ, ◌+◌, ◌-◌, ◌*◌, ◌/◌, ◌<◌, ◌≤◌, min, max, ⊤, List, [], ◌∷◌}
use Rattle.token_bucket.specs.declared.level.Level.{Level}
use Rattle.token_bucket.specs.Levels.{Limit, with_ticks, refilled, less, held, owed}
use Rattle.token_bucket.specs.Spells.{moved_in, since_each, least_with, Beat, Begins, Moves, moved_first, spells, moved_over}

-- one direction of a bucket: the tick up to which it has what came, and its level
pub record Kept : Type 0 where
  pub tick : ℕ
  pub level : Level

-- one call on it, and a list of calls
abbrev pub after_beat : Limit → Kept → Beat → Kept
after_beat l x (Begins now) = record { tick = max x.tick (now / l.tick); level = refilled l (now / l.tick - x.tick) x.level }
after_beat l x (Moves n) = record { tick = x.tick; level = less n x.level }

abbrev pub after_beats : Limit → Kept → List Beat → Kept
after_beats l x [] = x
after_beats l x (b ∷ bs) = after_beats l (after_beat l x b) bs

-- a bucket that is so many bytes short under a limit, up to a tick
abbrev pub kept_at : Limit → ℕ → ℕ → Kept
kept_at l tick short = record { tick = tick; level = record { burst = l.burst; short = short } }

-- What a bucket holds is the least of these numbers: what it held as its limit was set and what came since, less what it owed then and
-- what was moved since; and for each refill a full bucket then and what came since, less what was moved from then on. So for every list of
-- calls, also where moments fall.
abbrev pub LevelIsLeast : Type 0
LevelIsLeast = (l : Limit) (set_at short : ℕ) (bs : List Beat) (time : ℕ) →
    time / l.tick ≡ (after_beats l (kept_at l set_at short) bs).tick →
    held (after_beats l (kept_at l set_at short) bs).level
    ≡ least_with
    ((l.burst - short) + l.rate * (time / l.tick - set_at) - ((short - l.burst) + moved_first bs + moved_in (spells bs)))
    (since_each l time (spells bs))

-- A limit that takes the place of another one cuts a fuller bucket to its burst; a bucket that holds less or that owes keeps what it has.
abbrev pub ChangeKeepsLess : Type 0
ChangeKeepsLess = (l : Limit) (x : Level) → (held (with_ticks l 0 x) ≡ min (held x) l.burst) × (owed (with_ticks l 0 x) ≡ owed x)

-- each time no more is moved than the bucket holds
abbrev pub WithinAllowance : Limit → Kept → List Beat → Type 0
WithinAllowance l x [] = ⊤
WithinAllowance l x (Begins now ∷ bs) = WithinAllowance l (after_beat l x (Begins now)) bs
WithinAllowance l x (Moves n ∷ bs) = (n ≤ held x.level) × WithinAllowance l (after_beat l x (Moves n)) bs

-- Over any stretch of calls a bucket that owes nothing lets through at most one burst and what comes in the ticks that begin.
abbrev pub LetsThroughAtMost : Type 0
LetsThroughAtMost = (l : Limit) (tick short : ℕ) (bs : List Beat) → short ≤ l.burst → WithinAllowance l (kept_at l tick short) bs →
    moved_over bs ≤ l.burst + l.rate * ((after_beats l (kept_at l tick short) bs).tick - tick)
