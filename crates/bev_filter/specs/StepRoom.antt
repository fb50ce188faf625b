-- The room in which a filter makes its step.
use Rattle.std.specs.Prelude.{◌≡◌, ◌+◌, ◌≤◌, ◌<◌, ◌^◌, ℕ, Bool, true, false, ◌==◌, ◌&&◌, nat_le, length}
use Rattle.ev_types.specs.declared.filter.FilterKind.{FilterKind}
use Rattle.ev_types.specs.declared.filter.FilterKind.TheVariants as kind
use Rattle.stream_filters.specs.StepAnswers.{most_by_step}
use Rattle.token_bucket.specs.declared.limit.Dir.{Dir}
use Rattle.bev_core.specs.BevValue.{Held}
use Rattle.bev_core.specs.Steps.{held}
use Rattle.bev_filter.specs.Passing.{Crossing}

-- gives a filter every byte as it is
abbrev pub hands_on : FilterKind → Bool
hands_on kind.None = true
hands_on kind.ToCrlf = false
hands_on kind.ToLf = false
hands_on kind.HexOut = false
hands_on kind.HexIn = false

-- Bytes that are handed on go whole to an empty target, where the limit allows all of them.
abbrev pub goes_whole : FilterKind → ℕ → ℕ → ℕ → Bool
goes_whole k count held limit = hands_on k && held == 0 && nat_le count limit

-- The step may be offered so many bytes, where its target holds `held` bytes and has room for `spare` more, there is room for `beside`
-- bytes beside the buffers, and so many were made before.
pub record HasStepRoom (k : FilterKind) (count held limit spare beside made : ℕ) : Type 0 where
  pub behind : goes_whole k count held limit ≡ false → most_by_step k count held limit ≤ spare
  pub apart : hands_on k ≡ false → most_by_step k count held limit ≤ beside  -- it is made beside the buffers first
  pub counted : made + most_by_step k count held limit < 2 ^ 64

-- so many bytes can be handed on into a buffer as far as the limit allows
abbrev pub MovesInto : ℕ → Held → ℕ → Type 0
MovesInto count to limit =
    goes_whole kind.None count (length to.bytes) limit ≡ false → most_by_step kind.None count (length to.bytes) limit ≤ to.spare

-- there is room for the step over all bytes of the source
abbrev pub HasRoomFor : Dir → Crossing → ℕ → ℕ → ℕ → Type 0
HasRoomFor dir p limit beside made =
    HasStepRoom p.filter.kind (length (held p.from dir).bytes) (length (held p.to dir).bytes) limit (held p.to dir).spare beside made

-- the bytes that the filter used and those of the source are no more than a u64 counts
abbrev pub IsCounted : Dir → Crossing → Type 0
IsCounted dir p = p.filter.used + length (held p.from dir).bytes < 2 ^ 64
