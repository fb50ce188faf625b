-- A step by number between two slots of a list: what a world keeps and shows then.
use Rattle.std.proofs.Common.{◌≡◌, ℕ, ◌<◌, Bool, List, length, Some, refl, sym, ◌∙◌, ap, subst, arith}
use Rattle.std.specs.Prelude.{slice_index_or, slice_set}
use Rattle.std.proofs.lemmas.List.{get_or-set_same, get_or-set_other, length-set}
use Rattle.std.proofs.lemmas.Option.{none-some, same_Some}
use Rattle.token_bucket.specs.declared.limit.Dir.{Dir}
use Rattle.token_bucket.specs.declared.limit.Dir.TheVariants.{Read, Write}
use Rattle.bev_filter.specs.Passing.{Crossing, Crossed, stepping}
use Rattle.deferred_cb.specs.DueCalls.{Entry}
use Rattle.bev_world.specs.declared.slot.Kind.{Kind}
use Rattle.bev_world.specs.declared.slot.Kind.TheVariants as kind
use Rattle.bev_world.specs.declared.slot.Slot.{Slot}
use Rattle.bev_world.specs.WorldValue.{WorldValue, no_slot, slot_at, bev_at, with_bev}
use Rattle.bev_world.specs.WorldView.{IsJoined, Holds}
use Rattle.bev_world.specs.Filters.{crossing, under_of}
use Rattle.bev_world.specs.FilterSlots.{slots_crossing}
use Rattle.bev_world.specs.ByNumber.{SlotsWent, filter_of, with_spare_in, target_of}
use Rattle.bev_world.proofs.FiltersLemmas.{Stays, crossed-stays}
use Rattle.bev_world.proofs.HoldsLemmas.{holds-with}

-- what is under a filter was made before it
pub joined-below : (count n : ℕ) (k : Kind) (under : ℕ) → IsJoined count n k → under_of k ≡ Some under → under < n
joined-below count n kind.Socket under j e = absurd (none-some under e)
joined-below count n (kind.Half other) under j e = absurd (none-some under e)
joined-below count n (kind.Filter below) under j e = let same = same_Some below under e in omega (arith, same, j)

-- a step between two slots of a list, which is then another
pub record StepIn (dir : Dir) (limit : ℕ) (at_end : Bool) (at under : ℕ) (xs ys : List Slot) : Type 0 where
  pub there : at < length xs
  pub below : under < at
  pub went : SlotsWent dir limit at_end (slice_index_or xs under no_slot) (slice_index_or xs at no_slot)
      (slice_index_or ys under no_slot) (slice_index_or ys at no_slot)
  pub slots : ys ≡ slice_set (slice_set xs under (slice_index_or ys under no_slot)) at (slice_index_or ys at no_slot)

pub step-in : (dir : Dir) (limit : ℕ) (at_end : Bool) (at under : ℕ) (xs lent ys : List Slot) → lent ≡ xs → at < length xs → under < at →
    SlotsWent dir limit at_end (slice_index_or lent under no_slot) (slice_index_or lent at no_slot)
    (slice_index_or ys under no_slot) (slice_index_or ys at no_slot) →
    ys ≡ slice_set (slice_set lent under (slice_index_or ys under no_slot)) at (slice_index_or ys at no_slot) →
    StepIn dir limit at_end at under xs ys
step-in dir limit at_end at under xs lent ys same there below went slots = record {
  there = there;
  below = below;
  went = subst (λ zs. SlotsWent dir limit at_end (slice_index_or zs under no_slot) (slice_index_or zs at no_slot)
      (slice_index_or ys under no_slot) (slice_index_or ys at no_slot)) same went;
  slots = subst (λ zs. ys ≡ slice_set (slice_set zs under (slice_index_or ys under no_slot)) at (slice_index_or ys at no_slot)) same
      slots;
}

-- what the slots exchange is what the world's bufferevents do
slots-crossing : (v : WorldValue) (d : Dir) (at under : ℕ) → slots_crossing d (slot_at v under) (slot_at v at) ≡ crossing v d at under
slots-crossing v Read at under = refl
slots-crossing v Write at under = refl

module _ (dir : Dir) (limit : ℕ) (at_end : Bool) (at under : ℕ) (w : WorldValue) (ys : List Slot)
    (s : StepIn dir limit at_end at under w.slots ys) where
  abbrev lower : Slot
  lower = slot_at w under

  abbrev upper : Slot
  upper = slot_at w at

  abbrev l : Slot
  l = slice_index_or ys under no_slot

  abbrev u : Slot
  u = slice_index_or ys at no_slot

  stays : Stays lower l × Stays upper u
  stays = crossed-stays dir (stepping dir (slots_crossing dir lower upper) limit at_end) lower upper l u (slots_crossing dir l u)
      s.went.crossed s.went.lower_is s.went.upper_is

  under_there : under < length w.slots
  under_there = let a = s.there in let b = s.below in omega (arith, a, b)

  there_then : at < length (slice_set w.slots under l)
  there_then = subst (λ c. at < c) (sym (length-set w.slots under l)) s.there

  upper_then : slice_index_or (slice_set w.slots under l) at no_slot ≡ upper
  upper_then = get_or-set_other w.slots under at l no_slot (λ e. absurd (let b = s.below in omega (arith, e, b)))

  pub holds-stepped : (chunked : Bool) (es : List Entry) (free more cap : ℕ) → Holds chunked w.slots es free more cap →
      Holds chunked ys es free more cap
  holds-stepped chunked es free more cap h = subst (λ zs. Holds chunked zs es free more cap) (sym s.slots)
      (holds-with (slice_set w.slots under l) es free at no_slot upper u
      (holds-with w.slots es free under no_slot lower l h under_there refl stays.0.kind stays.0.mode
      (stays.0.room (h.each under under_there).room))
      there_then (sym upper_then) stays.1.kind stays.1.mode (stays.1.room (h.each at s.there).room))

  pub crossed-stepped : (new : WorldValue) → new ≡ record w { slots = ys } →
      Crossed dir (stepping dir (crossing w dir at under) limit at_end) (crossing w dir at under) (crossing new dir at under)
  crossed-stepped new is =
      let after : slots_crossing dir l u ≡ crossing new dir at under =
      slots-crossing (record w { slots = ys }) dir at under ∙ ap (λ v. crossing v dir at under) (sym is) in
      subst (λ (p : Crossing). Crossed dir (stepping dir p limit at_end) p (crossing new dir at under)) (slots-crossing w dir at under)
      (subst (λ (p : Crossing). Crossed dir (stepping dir (slots_crossing dir lower upper) limit at_end) (slots_crossing dir lower upper) p)
      after s.went.crossed)

-- Room

-- what a crossing shows by the slots of both
pub to-target : (v : WorldValue) (d : Dir) (at under : ℕ) → (crossing v d at under).to ≡ bev_at v (target_of d at under)
to-target v Read at under = refl
to-target v Write at under = refl

pub filter-there : (v : WorldValue) (d : Dir) (at under : ℕ) → (crossing v d at under).filter ≡ filter_of (slot_at v at) d
filter-there v Read at under = refl
filter-there v Write at under = refl

-- more room in the target is all that changed of the crossing
pub crossing-roomier : (d : Dir) (w new : WorldValue) (at under spare : ℕ) → at < length w.slots → under < at →
    new ≡ with_bev w (target_of d at under) (with_spare_in (bev_at w (target_of d at under)) d spare) →
    crossing new d at under ≡ record (crossing w d at under) { to = with_spare_in (crossing w d at under).to d spare }
crossing-roomier Read w new at under spare there below is =
    let s : Slot = record (slot_at w at) { bev = with_spare_in (bev_at w at) Read spare } in
    let lower = ap (λ (z : Slot). z.bev) (get_or-set_other w.slots at under s no_slot (λ e. absurd (omega (arith, e, below)))) in
    let upper = get_or-set_same w.slots at s no_slot there in
    ap (λ v. crossing v Read at under) is
    ∙ (λ i. record { from = lower i; to = (upper i).bev; filter = (upper i).read_filter })
crossing-roomier Write w new at under spare there below is =
    let s : Slot = record (slot_at w under) { bev = with_spare_in (bev_at w under) Write spare } in
    let lower = ap (λ (z : Slot). z.bev) (get_or-set_same w.slots under s no_slot (omega (arith, there, below))) in
    let upper = get_or-set_other w.slots under at s no_slot (λ e. absurd (omega (arith, e, below))) in
    ap (λ v. crossing v Write at under) is
    ∙ (λ i. record { from = (upper i).bev; to = lower i; filter = (upper i).write_filter })
