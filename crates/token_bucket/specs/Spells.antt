-- Buckets over time. What one holds is the least of some numbers, one for each refill since its limit was set.
use Rattle.std.specs.Prelude.{ℕ, ◌+◌, ◌-◌, ◌*◌, ◌/◌, min, List, [], ◌∷◌, sum_by}
use Rattle.token_bucket.specs.Levels.{Limit}

-- how many ticks begin from one moment to a later one
abbrev pub ticks : ℕ → ℕ → ℕ → ℕ
ticks tick from to = to / tick - from / tick

-- one turn as a bucket sees it: the moment of its refill, and the bytes that were moved before the next one
pub record Spell : Type 0 where
  pub time : ℕ
  pub moved : ℕ

abbrev pub moved_in : List Spell → ℕ
moved_in spells = sum_by (λ x. x.moved) spells

-- for each refill, a full bucket then and what came since, less what was moved from then on
abbrev pub since_each : Limit → ℕ → List Spell → List ℕ
since_each l time [] = []
since_each l time (x ∷ xs) = (l.burst + l.rate * ticks l.tick x.time time - moved_in (x ∷ xs)) ∷ since_each l time xs

abbrev pub least_with : ℕ → List ℕ → ℕ
least_with n [] = n
least_with n (m ∷ ms) = least_with (min n m) ms

-- what happens to a bucket: it is refilled at a moment, and bytes are moved
pub data Beat : Type 0 where
  Begins : ℕ → Beat
  Moves : ℕ → Beat

-- the bytes that were moved before the next refill
abbrev pub moved_first : List Beat → ℕ
moved_first [] = 0
moved_first (Begins time ∷ bs) = 0
moved_first (Moves n ∷ bs) = n + moved_first bs

-- all refills
abbrev pub spells : List Beat → List Spell
spells [] = []
spells (Begins time ∷ bs) = record { time = time; moved = moved_first bs } ∷ spells bs
spells (Moves n ∷ bs) = spells bs

-- all bytes that were moved
abbrev pub moved_over : List Beat → ℕ
moved_over [] = 0
moved_over (Begins time ∷ bs) = moved_over bs
moved_over (Moves n ∷ bs) = n + moved_over bs
