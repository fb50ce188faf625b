-- The parts in which the code makes a run.
use Rattle.std.specs.Prelude.{◌≡◌, ℕ, suc, ◌+◌, ◌*◌, ◌≤◌, ◌⊎◌, ◌&&◌, true, false, if◌then◌else◌, Option, Some, None, slice_index}
use Rattle.std.specs.Prelude.{List, [], ◌∷◌, ◌++◌, length, take, drop, All, ◌≢◌, ◌<◌}
use Rattle.std.specs.List.{last_or, list_all}
use Rattle.ev_types.specs.declared.filter.FilterKind.{FilterKind}
use Rattle.filter_model.specs.Filter.{is_hex, hex_in, hex_value}
use Rattle.filter_model.specs.FilterRun.{run, nothing_ran}
use Rattle.filter_model.specs.FilterCuts.{joined}
use Rattle.stream_filters.specs.declared.knowledge.Knowledge.{Knowledge}

-- A run over src into a target that held `old` and now holds `new`: it begins with `used` bytes, of which it made what was
-- appended, and goes on behind them. Where no byte was used it stops there.
pub record AppendsPart (k : FilterKind) (limit count : ℕ) (last : Option ℕ) (src old new : List ℕ) (used : ℕ) : Type 0 where
  pub made : List ℕ
  pub filled : new ≡ old ++ made
  pub within : used ≤ length src
  pub goes : run k limit (length old) count last src
      ≡ joined (record { used = used; made = made })
      (run k limit (length new) (count + used) (last_or last (take used src)) (drop used src))
  pub stops : used ≡ 0 → run k limit (length old) count last src ≡ nothing_ran

-- so many bytes of src stand before the first that is `stop`, or are all
pub record StandBefore (stop : ℕ) (src : List ℕ) (count : ℕ) : Type 0 where
  pub within : count ≤ length src
  pub others : All (λ x. x ≢ stop) (take count src)
  pub stops : count < length src → slice_index src count ≡ stop

-- so many pairs of hex digits in a row
pub data ArePairs : ℕ → List ℕ → Type 0 where
  no_pairs : ArePairs 0 []
  pair : {m x y : ℕ} {xs : List ℕ} → is_hex x ≡ true → is_hex y ≡ true → ArePairs m xs → ArePairs (suc m) (x ∷ y ∷ xs)

-- the number that a digit stands for, 255 for a byte that is none
abbrev pub value_or_none : ℕ → ℕ
value_or_none x = if is_hex x then hex_value x else 255

-- the byte that two digits spell
abbrev pub value_of_pair : ℕ → ℕ → Option ℕ
value_of_pair x y = if is_hex x && is_hex y then Some (16 * hex_value x + hex_value y) else None

-- Pairs of digits at the front of src were read, and the bytes that they spell were appended, as far as the limit allows.
pub record ReadsPairs (limit : ℕ) (src old new : List ℕ) (used : ℕ) : Type 0 where
  pub pairs : ℕ
  pub digits : ArePairs pairs (take used src)
  pub within : used ≤ length src
  pub below : length old + pairs ≤ limit
  pub filled : new ≡ old ++ hex_in (take used src)

-- No pair more can be read: fewer than two bytes are left, or the target is at the limit, or one of the next two bytes is no digit.
abbrev pub PairsStop : ℕ → List ℕ → List ℕ → ℕ → Type 0
PairsStop limit src new used =
    (length src ≤ used + 1) ⊎ (limit ≤ length new) ⊎ (value_of_pair (slice_index src used) (slice_index src (used + 1)) ≡ None)

-- No block more can be read: the same, but that one of the bytes of the next so many pairs is no digit.
abbrev pub BlocksStop : ℕ → ℕ → List ℕ → List ℕ → ℕ → Type 0
BlocksStop most limit src new used =
    (length src ≤ used + 1) ⊎ (limit ≤ length new) ⊎ ((n : ℕ) × (n ≤ most) × (list_all is_hex (take (2 * n) (drop used src)) ≡ false))

-- a target that holds these bytes has room for what the run over src makes
abbrev pub HasRoom : FilterKind → ℕ → ℕ → Option ℕ → List ℕ → List ℕ → ℕ → Type 0
HasRoom k limit count last src held capacity = length held + length (run k limit (length held) count last src).made ≤ capacity

-- the run over src was made: what a filter of this kind knows after it, what the target holds, and how many bytes were used
pub record RanOver (k : FilterKind) (limit : ℕ) (before : Knowledge) (src old : List ℕ) (after : Knowledge) (new : List ℕ)
    (used : ℕ) : Type 0 where
  pub used_is : used ≡ (run k limit (length old) before.used before.last src).used
  pub filled : new ≡ old ++ (run k limit (length old) before.used before.last src).made
  pub known : after ≡ record before { used = before.used + length (take used src); last = last_or before.last (take used src) }
