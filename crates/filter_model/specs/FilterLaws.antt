-- What a filter must obey. Output is never taken back, it stops before a bad place, and a running filter is known by how
-- many bytes it used and the last of them.
use Rattle.std.specs.Prelude.{◌≡◌, ℕ, ◌+◌, ◌<◌, ◌≤◌, Bool, List, [], ◌++◌, length, take, drop, Option, Some, None}
use Rattle.std.specs.List.{last_or}
use Rattle.filter_model.specs.Filter.{Filter, met}

-- ys begins with xs
abbrev pub IsPrefixOf : List ℕ → List ℕ → Type 0
IsPrefixOf xs ys = take (length xs) ys ≡ xs

-- the last byte, or none
abbrev pub last_of : List ℕ → Option ℕ
last_of xs = last_or None xs

-- what ys add to the output after xs
abbrev pub more : Filter → List ℕ → List ℕ → List ℕ
more f xs ys = drop (length (f.before xs)) (f.before (xs ++ ys))

-- what ys and the end add to the output after xs
abbrev pub more_at_end : Filter → List ℕ → List ℕ → List ℕ
more_at_end f xs ys = drop (length (f.before xs)) (f.at_end (xs ++ ys))

-- the output begins empty, and is never taken back
pub record PrefixLaw (f : Filter) : Type 0 where
  pub empty : f.before [] ≡ []
  pub grows : (xs ys : List ℕ) → IsPrefixOf (f.before xs) (f.before (xs ++ ys))
  pub ends : (xs : List ℕ) → IsPrefixOf (f.before xs) (f.at_end xs)

-- A bad place is the place of a byte; the bytes up to it show it, and it stays bad whatever comes, at the end too. Output
-- stops before it. A bad end adds nothing.
pub record BadLaw (f : Filter) : Type 0 where
  pub is_there : (xs : List ℕ) (place : ℕ) → f.bad xs ≡ Some place → place < length xs
  pub shows : (xs : List ℕ) (place : ℕ) → f.bad xs ≡ Some place → f.bad (take (place + 1) xs) ≡ Some place
  pub stays : (xs ys : List ℕ) (place : ℕ) → f.bad xs ≡ Some place → f.bad (xs ++ ys) ≡ Some place
  pub stops : (xs : List ℕ) (place : ℕ) → f.bad xs ≡ Some place → f.before xs ≡ f.before (take place xs)
  pub bad_at_end : (xs : List ℕ) (place : ℕ) → f.bad xs ≡ Some place → f.bad_at_end xs ≡ Some place
  pub stops_at_end : (xs : List ℕ) (place : ℕ) → f.bad_at_end xs ≡ Some place → f.at_end xs ≡ f.before xs

-- two inputs of one length with the same last byte, or none, since the filter began, and neither bad
pub record LookAlike (f : Filter) (xs zs : List ℕ) : Type 0 where
  pub count : length xs ≡ length zs
  pub begun : f.since ≤ length xs
  pub last : last_of (drop f.since xs) ≡ last_of (drop f.since zs)
  pub left_good : f.bad xs ≡ None
  pub right_good : f.bad zs ≡ None

-- After inputs that look alike the same bytes add the same, and are bad at the same place. So a running filter that has met
-- no bad place is known by the count of the bytes that it used and the last of them.
pub record CutLaw (f : Filter) : Type 0 where
  pub same : (xs zs : List ℕ) → LookAlike f xs zs → (ys : List ℕ) → more f xs ys ≡ more f zs ys
  pub same_at_end : (xs zs : List ℕ) → LookAlike f xs zs → (ys : List ℕ) → more_at_end f xs ys ≡ more_at_end f zs ys
  pub same_bad : (xs zs : List ℕ) → LookAlike f xs zs → (ys : List ℕ) → f.bad (xs ++ ys) ≡ f.bad (zs ++ ys)
  pub same_bad_at_end : (xs zs : List ℕ) → LookAlike f xs zs → (ys : List ℕ) → f.bad_at_end (xs ++ ys) ≡ f.bad_at_end (zs ++ ys)

-- the laws of a filter
pub record IsFilter (f : Filter) : Type 0 where
  pub prefix : PrefixLaw f
  pub badness : BadLaw f
  pub cut : CutLaw f

-- A place that is met is the bad one of the whole input at its end. Where a byte is left, it is bad before the end too; and
-- where the bytes that were used are good, it is that byte's.
pub record IsMetPlace (f : Filter) (xs : List ℕ) (used place : ℕ) : Type 0 where
  pub at_end : f.bad_at_end xs ≡ Some place
  pub before : used < length xs → f.bad xs ≡ Some place
  pub next : used < length xs → f.bad (take used xs) ≡ None → place ≡ used

abbrev pub MetIsBad : Type 0
MetIsBad = (f : Filter) (xs : List ℕ) (used : ℕ) (over room : Bool) (place : ℕ) → IsFilter f → met f xs used over room ≡ Some place → IsMetPlace f xs used place
