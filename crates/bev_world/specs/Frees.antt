-- The free of a bufferevent, and of those under it.
use Rattle.std.specs.Prelude.{◌≡◌, ℕ, true, if◌then◌else◌, List, [], ◌∷◌, Option, Some, None}
use Rattle.deferred_cb.specs.DueCalls.{without, without_calls}
use Rattle.bev_core.specs.Steps.{freed}
use Rattle.bev_world.specs.declared.slot.Kind.{Kind}
use Rattle.bev_world.specs.declared.slot.Kind.TheVariants as kind
use Rattle.bev_world.specs.WorldValue.{WorldValue, slot_at, bev_at, is_live, with_slot}

-- the one under a filter, where it is live
abbrev pub live_below : WorldValue → Kind → Option ℕ
live_below w kind.Socket = None
live_below w (kind.Half other) = None
live_below w (kind.Filter under) = if is_live w under then Some under else None

abbrev pub live_under : WorldValue → ℕ → Option ℕ
live_under w n = live_below w (slot_at w n).kind

-- It alone is freed: its bytes are dropped, and so is all that is due for it, in the batch that runs too.
abbrev pub freed_one : WorldValue → ℕ → WorldValue
freed_one w n = record (with_slot w n (record (slot_at w n) { bev = freed (bev_at w n); room = 0 })) {
  pending = without n w.pending;
  batch = without_calls n w.batch;
}

-- These were freed one after the other: the first, then the live one under it, and so on up to another one that is next.
abbrev pub FreesTo : Option ℕ → List ℕ → WorldValue → Option ℕ → WorldValue → Type 0
FreesTo first [] w next new = (next ≡ first) × (new ≡ w)
FreesTo first (n ∷ ns) w next new =
    (first ≡ Some n) × (is_live w n ≡ true) × FreesTo (live_under (freed_one w n) n) ns (freed_one w n) next new

-- it was freed, and the live one under it, and so on to one that has none
pub record Frees (n : ℕ) (w new : WorldValue) : Type 0 where
  pub chain : List ℕ
  pub frees : FreesTo (Some n) chain w None new
