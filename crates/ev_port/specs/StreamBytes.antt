-- What a stream of bytes gave or took between two moments, where it tells. A stream that tells holds a list: the bytes
-- that are left to give, or the bytes that were taken. One that tells goes on telling.
use Rattle.std.specs.Prelude.{◌≡◌, ◌≤◌, ℕ, ◌+◌, ⊤, List, [], ◌++◌, length, Option, Some, MatchOption, IsSomeAnd}

-- a source that tells gave these bytes, the next ones
abbrev pub Gave : Option (List ℕ) → Option (List ℕ) → List ℕ → Type 0
Gave old new bytes = MatchOption old ⊤ (λ before. IsSomeAnd new (λ after. before ≡ bytes ++ after))

-- a sink that tells took these bytes, behind those from before
abbrev pub TookOn : Option (List ℕ) → Option (List ℕ) → List ℕ → Type 0
TookOn old new bytes = MatchOption old ⊤ (λ before. IsSomeAnd new (λ after. after ≡ before ++ bytes))

-- a source that tells has given all, and these bytes were the last
abbrev pub GaveAll : Option (List ℕ) → Option (List ℕ) → List ℕ → Type 0
GaveAll old new bytes = MatchOption old ⊤ (λ before. (before ≡ bytes) × (new ≡ Some []))

-- a source that tells gave exactly so many bytes
abbrev pub GaveCount : Option (List ℕ) → Option (List ℕ) → ℕ → Type 0
GaveCount old new n = MatchOption old ⊤ (λ before. IsSomeAnd new (λ after. length before ≡ n + length after))

-- a source that tells gave at most so many bytes
abbrev pub GaveAtMost : Option (List ℕ) → Option (List ℕ) → ℕ → Type 0
GaveAtMost old new n = MatchOption old ⊤ (λ before. IsSomeAnd new (λ after. length before ≤ n + length after))

-- what a source gave in two calls in a row
abbrev pub GivenJoins : Type 0
GivenJoins = (a b c : Option (List ℕ)) (xs ys : List ℕ) → Gave a b xs → Gave b c ys → Gave a c (xs ++ ys)

-- what a sink took in two calls in a row
abbrev pub TakenJoins : Type 0
TakenJoins = (a b c : Option (List ℕ)) (xs ys : List ℕ) → TookOn a b xs → TookOn b c ys → TookOn a c (xs ++ ys)
