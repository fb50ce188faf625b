-- The step of a filter between two slots: how a list keeps it, and what a world keeps and shows after it.
use Rattle.std.proofs.Common.{◌≡◌, ℕ, ◌+◌, ◌<◌, ◌≤◌, Bool, List, ◌++◌, length, refl, sym, ◌∙◌, ap, subst, arith, Result, Ok, Err}
use Rattle.std.specs.Prelude.{slice_index_or, slice_set}
use Rattle.std.proofs.lemmas.List.{get_or-set_same, get_or-set_other, length-set, set-get_or, set-append_left, set-append_right}
use Rattle.std.proofs.lemmas.List.{get_or_default, get_or_append_left, get_or-append-add, length-append}
use Rattle.token_bucket.specs.declared.limit.Dir.{Dir}
use Rattle.token_bucket.specs.declared.limit.Dir.TheVariants.{Read, Write}
use Rattle.filter_model.specs.FilterStep.{Stepped}
use Rattle.stream_filters.specs.declared.stream_filter.Step.{Step}
use Rattle.bev_core.specs.BevValue.{BevValue, Held}
use Rattle.bev_core.specs.Steps.{with_held}
use Rattle.bev_filter.specs.declared.fault.PassFault.{PassFault}
use Rattle.bev_filter.specs.declared.fault.PassFault.TheVariants as pass
use Rattle.bev_filter.specs.Passing.{Crossing, Crossed}
use Rattle.deferred_cb.specs.DueCalls.{Entry}
use Rattle.bev_world.specs.declared.fault.WorldFault.{WorldFault}
use Rattle.bev_world.specs.declared.fault.WorldFault.TheVariants as fault
use Rattle.bev_world.specs.declared.slot.Slot.{Slot}
use Rattle.bev_world.specs.WorldValue.{WorldValue, no_slot, slot_at, with_slot, raised_if, reason_of}
use Rattle.bev_world.specs.WorldView.{Holds}
use Rattle.bev_world.specs.Went.{Went}
use Rattle.bev_world.specs.PassAnswers.{ByAnswer}
use Rattle.bev_world.specs.Filters.{crossing, crossed, Passed}
use Rattle.bev_world.specs.FilterSlots.{slots_crossing, lower_after, over_after, is_due, IsOtherIn, StepMade, StepMadeOr, NoStep}
use Rattle.bev_world.specs.LentFilters.{PassedOrKept}
use Rattle.bev_world.proofs.HoldsLemmas.{holds-with}
use Rattle.bev_world.proofs.WentLemmas.{went_set, went_then, went_raised_if}

-- Lists

-- what is read in the part in front, and what is read first in the part behind
pub read-front : (xs f b : List Slot) (n : ℕ) (d : Slot) → xs ≡ f ++ b → n < length f → slice_index_or f n d ≡ slice_index_or xs n no_slot
read-front xs f b n d parts within =
    get_or_default f n d no_slot within ∙ sym (get_or_append_left f b no_slot n within)
    ∙ ap (λ ys. slice_index_or ys n no_slot) (sym parts)

pub read-back : (xs f b : List Slot) (at : ℕ) (d : Slot) → xs ≡ f ++ b → length f ≡ at → at < length xs →
    slice_index_or b 0 d ≡ slice_index_or xs at no_slot
read-back xs f b at d parts long there =
    get_or_default b 0 d no_slot some ∙ sym (get_or-append-add f b 0 no_slot)
    ∙ ap (λ n. slice_index_or (f ++ b) n no_slot) place ∙ ap (λ ys. slice_index_or ys at no_slot) (sym parts)
  where
    place : length f + 0 ≡ at
    place = omega (arith, long)

    some : 0 < length b
    some = let all = ap length parts ∙ length-append f b in omega (arith, all, long, there)

-- both were written
pub both-set : (xs f b : List Slot) (at under : ℕ) (l o : Slot) → xs ≡ f ++ b → length f ≡ at → under < at →
    slice_set f under l ++ slice_set b 0 o ≡ slice_set (slice_set xs under l) at o
both-set xs f b at under l o parts long below =
    sym (ap (λ ys. slice_set (slice_set ys under l) at o) parts
    ∙ ap (λ ys. slice_set ys at o) (set-append_left f b under l (omega (arith, long, below)))
    ∙ set-append_right (slice_set f under l) b at at o (length-set f under l ∙ long) (omega arith)
    ∙ ap (λ k. slice_set f under l ++ slice_set b k o) (omega arith))

module _ (xs f b : List Slot) (at under : ℕ) (l o : Slot) (parts : xs ≡ f ++ b) (long : length f ≡ at) (below : under < at)
    (there : at < length xs) where
  abbrev both : List Slot
  both = slice_set f under l ++ slice_set b 0 o

  is : both ≡ slice_set (slice_set xs under l) at o
  is = both-set xs f b at under l o parts long below

  lower_is : slice_index_or both under no_slot ≡ l
  lower_is =
      ap (λ ys. slice_index_or ys under no_slot) is
      ∙ get_or-set_other (slice_set xs under l) at under o no_slot (λ e. absurd (omega (arith, e, below)))
      ∙ get_or-set_same xs under l no_slot (omega (arith, below, there))

  over_is : slice_index_or both at no_slot ≡ o
  over_is =
      ap (λ ys. slice_index_or ys at no_slot) is
      ∙ get_or-set_same (slice_set xs under l) at o no_slot (subst (λ c. at < c) (sym (length-set xs under l)) there)

  -- two slots were written, each in its own part of the list
  pub split-set : both ≡ slice_set (slice_set xs under (slice_index_or both under no_slot)) at (slice_index_or both at no_slot)
  split-set = is ∙ (let x = sym lower_is in let y = sym over_is in λ i. slice_set (slice_set xs under (x i)) at (y i))

  -- and what holds of the two before and after holds of them in the list
  pub split-holds : (Q : Slot → Slot → Slot → Slot → Type 0) (d e : Slot) → Q (slice_index_or f under d) (slice_index_or b 0 e) l o →
      Q (slice_index_or xs under no_slot) (slice_index_or xs at no_slot) (slice_index_or both under no_slot)
      (slice_index_or both at no_slot)
  split-holds Q d e h =
      subst (λ z. Q z (slice_index_or xs at no_slot) (slice_index_or both under no_slot) (slice_index_or both at no_slot))
      (read-front xs f b under d parts (omega (arith, below, long)))
      (subst (λ z. Q (slice_index_or f under d) z (slice_index_or both under no_slot) (slice_index_or both at no_slot))
      (read-back xs f b at e parts long there)
      (subst (λ z. Q (slice_index_or f under d) (slice_index_or b 0 e) z (slice_index_or both at no_slot)) (sym lower_is)
      (subst (λ z. Q (slice_index_or f under d) (slice_index_or b 0 e) l z) (sym over_is) h)))

-- The two slots

-- the same kind, live and chunked as before, and enough room where there was enough
pub record Stays (old new : Slot) : Type 0 where
  pub kind : new.kind ≡ old.kind
  pub live : new.bev.live ≡ old.bev.live
  pub mode : new.bev.chunked ≡ old.bev.chunked
  pub room : old.room ≤ old.bev.input.spare → new.room ≤ new.bev.input.spare

stays-same : (old new : Slot) → new ≡ old → Stays old new
stays-same old new is = subst (λ s. Stays old s) (sym is) (record { kind = refl; live = refl; mode = refl; room = λ le. le })

-- a buffer of a direction was written, and so no more than that is other
other-in : (dir : Dir) (b new : BevValue) (h : Held) → new ≡ with_held b dir h → IsOtherIn dir b new
other-in dir b new h is = subst (IsOtherIn dir b) (sym is) (written dir)
  where
    written : (d : Dir) → IsOtherIn d b (with_held b d h)
    written Read = refl
    written Write = refl

left-stays : (dir : Dir) (lower over l o : Slot) (after : Crossing) → IsOtherIn dir (slots_crossing dir lower over).from after.from →
    IsOtherIn dir (slots_crossing dir lower over).to after.to → l ≡ lower_after dir lower after → o ≡ over_after dir over after →
    Stays lower l × Stays over o
left-stays Read lower over l o after from_is to_is l_is o_is = (
  record {
    kind = ap (λ (z : Slot). z.kind) l_is;
    live = ap (λ (z : Slot). z.bev.live) l_is ∙ ap (λ z. z.live) from_is;
    mode = ap (λ (z : Slot). z.bev.chunked) l_is ∙ ap (λ z. z.chunked) from_is;
    room = λ le. let none = ap (λ (z : Slot). z.room) l_is in omega (arith, none);
  },
  record {
    kind = ap (λ (z : Slot). z.kind) o_is;
    live = ap (λ (z : Slot). z.bev.live) o_is ∙ ap (λ z. z.live) to_is;
    mode = ap (λ (z : Slot). z.bev.chunked) o_is ∙ ap (λ z. z.chunked) to_is;
    room = λ le. let none = ap (λ (z : Slot). z.room) o_is in omega (arith, none);
  },
)
left-stays Write lower over l o after from_is to_is l_is o_is = (
  record {
    kind = ap (λ (z : Slot). z.kind) l_is;
    live = ap (λ (z : Slot). z.bev.live) l_is ∙ ap (λ z. z.live) to_is;
    mode = ap (λ (z : Slot). z.bev.chunked) l_is ∙ ap (λ z. z.chunked) to_is;
    room = λ le.
        let room = ap (λ (z : Slot). z.room) l_is in
        let spare = ap (λ (z : Slot). z.bev.input.spare) l_is ∙ ap (λ z. z.input.spare) to_is in
        omega (arith, le, room, spare);
  },
  record {
    kind = ap (λ (z : Slot). z.kind) o_is;
    live = ap (λ (z : Slot). z.bev.live) o_is ∙ ap (λ z. z.live) from_is;
    mode = ap (λ (z : Slot). z.bev.chunked) o_is ∙ ap (λ z. z.chunked) from_is;
    room = λ le.
        let room = ap (λ (z : Slot). z.room) o_is in
        let spare = ap (λ (z : Slot). z.bev.input.spare) o_is ∙ ap (λ z. z.input.spare) from_is in
        omega (arith, le, room, spare);
  },
)

pub crossed-stays : (dir : Dir) (s : Stepped) (lower over l o : Slot) (after : Crossing)
    → Crossed dir s (slots_crossing dir lower over) after →
    l ≡ lower_after dir lower after → o ≡ over_after dir over after → Stays lower l × Stays over o
crossed-stays dir s lower over l o after c =
    left-stays dir lower over l o after (other-in dir (slots_crossing dir lower over).from after.from _ c.gone)
    (other-in dir (slots_crossing dir lower over).to after.to _ c.come)

-- what follows from both cases follows from what holds by the answer
by-answer : {C : Type 0} {made : Result Step PassFault → Type 0} {refused : Type 0} (r : Result Step WorldFault) →
    ((a : Result Step PassFault) → made a → C) → (refused → C) → ByAnswer made refused r → C
by-answer (Ok step) f g h = f (Ok step) h
by-answer (Err (fault.Filter place)) f g h = f (Err (pass.Filter place)) h
by-answer (Err fault.Memory) f g h = g h
by-answer (Err fault.NotLive) f g h = g h
by-answer (Err fault.NotSocket) f g h = g h
by-answer (Err fault.IdsSpent) f g h = g h
by-answer (Err fault.Taken) f g h = g h
by-answer (Err fault.NoFilter) f g h = g h
by-answer (Err fault.TooManyRefs) f g h = g h
by-answer (Err fault.Spent) f g h = g h

-- and by the same answer
by-answer-then : {made made' : Result Step PassFault → Type 0} {refused refused' : Type 0} (r : Result Step WorldFault) →
    ((a : Result Step PassFault) → made a → made' a) → (refused → refused') → ByAnswer made refused r → ByAnswer made' refused' r
by-answer-then (Ok step) f g h = f (Ok step) h
by-answer-then (Err (fault.Filter place)) f g h = f (Err (pass.Filter place)) h
by-answer-then (Err fault.Memory) f g h = g h
by-answer-then (Err fault.NotLive) f g h = g h
by-answer-then (Err fault.NotSocket) f g h = g h
by-answer-then (Err fault.IdsSpent) f g h = g h
by-answer-then (Err fault.Taken) f g h = g h
by-answer-then (Err fault.NoFilter) f g h = g h
by-answer-then (Err fault.TooManyRefs) f g h = g h
by-answer-then (Err fault.Spent) f g h = g h

-- how a step goes, of what goes from the one to the other before it, by its answer, and of that after it
abbrev pub Going : Type 1
Going = Crossing → Result Step PassFault → Crossing → Type 0

step-stays : (R : Going) (kept : Type 0) (dir : Dir) (r : Result Step WorldFault) (lower over l o : Slot) (due : Bool) →
    StepMadeOr (R (slots_crossing dir lower over)) kept dir r lower over l o due → Stays lower l × Stays over o
step-stays R kept dir r lower over l o due =
    by-answer r
    (λ a (m : StepMade (R (slots_crossing dir lower over) a) dir lower over l o due).
    left-stays dir lower over l o m.after m.from_is m.to_is m.lower_is m.over_is)
    (λ (m : NoStep lower over l o due × kept). (stays-same lower l m.0.0, stays-same over o m.0.1))

-- The list and the world

-- a step between two slots of a list, which is then another
pub record SlotsStep (R : Going) (kept : Type 0) (dir : Dir) (at under : ℕ) (r : Result Step WorldFault) (xs ys : List Slot)
    (due : Bool) : Type 0 where
  pub there : at < length xs
  pub below : under < at
  pub made : StepMadeOr (R (slots_crossing dir (slice_index_or xs under no_slot) (slice_index_or xs at no_slot))) kept dir r
      (slice_index_or xs under no_slot) (slice_index_or xs at no_slot) (slice_index_or ys under no_slot) (slice_index_or ys at no_slot) due
  pub slots : ys ≡ slice_set (slice_set xs under (slice_index_or ys under no_slot)) at (slice_index_or ys at no_slot)

pub slots-step : (R : Going) (kept : Type 0) (dir : Dir) (at under : ℕ) (r : Result Step WorldFault) (xs lent ys : List Slot) (due : Bool) →
    lent ≡ xs → at < length xs → under < at →
    StepMadeOr (R (slots_crossing dir (slice_index_or lent under no_slot) (slice_index_or lent at no_slot))) kept dir r
    (slice_index_or lent under no_slot) (slice_index_or lent at no_slot) (slice_index_or ys under no_slot) (slice_index_or ys at no_slot)
    due →
    ys ≡ slice_set (slice_set lent under (slice_index_or ys under no_slot)) at (slice_index_or ys at no_slot) →
    SlotsStep R kept dir at under r xs ys due
slots-step R kept dir at under r xs lent ys due same there below made slots = record {
  there = there;
  below = below;
  made = subst (λ zs. StepMadeOr (R (slots_crossing dir (slice_index_or zs under no_slot) (slice_index_or zs at no_slot))) kept dir r
      (slice_index_or zs under no_slot) (slice_index_or zs at no_slot) (slice_index_or ys under no_slot) (slice_index_or ys at no_slot) due)
      same made;
  slots = subst (λ zs. ys ≡ slice_set (slice_set zs under (slice_index_or ys under no_slot)) at (slice_index_or ys at no_slot)) same slots;
}

-- the list is as long as before
pub step-long : (xs ys : List Slot) (at under : ℕ)
    → ys ≡ slice_set (slice_set xs under (slice_index_or ys under no_slot)) at (slice_index_or ys at no_slot) →
    length ys ≡ length xs
step-long xs ys at under is =
    ap length is ∙ length-set (slice_set xs under (slice_index_or ys under no_slot)) at (slice_index_or ys at no_slot)
    ∙ length-set xs under (slice_index_or ys under no_slot)

module _ (R : Going) (kept : Type 0) (dir : Dir) (at under : ℕ) (r : Result Step WorldFault) (w : WorldValue) (ys : List Slot) (due : Bool)
    (s : SlotsStep R kept dir at under r w.slots ys due) where
  abbrev lower : Slot
  lower = slot_at w under

  abbrev over : Slot
  over = slot_at w at

  abbrev l : Slot
  l = slice_index_or ys under no_slot

  abbrev o : Slot
  o = slice_index_or ys at no_slot

  stays : Stays lower l × Stays over o
  stays = step-stays R kept dir r lower over l o due s.made

  under_there : under < length w.slots
  under_there = let a = s.there in let b = s.below in omega (arith, a, b)

  there_then : at < length (slice_set w.slots under l)
  there_then = subst (λ c. at < c) (sym (length-set w.slots under l)) s.there

  over_then : slice_index_or (slice_set w.slots under l) at no_slot ≡ over
  over_then = get_or-set_other w.slots under at l no_slot (λ e. absurd (let b = s.below in omega (arith, e, b)))

  pub holds-step : {chunked : Bool} {more cap : ℕ} (es : List Entry) (spare : ℕ) → Holds chunked w.slots es spare more cap →
      Holds chunked ys es spare more cap
  holds-step {chunked} {more} {cap} es spare h = subst (λ zs. Holds chunked zs es spare more cap) (sym s.slots)
      (holds-with (slice_set w.slots under l) es spare at no_slot over o
      (holds-with w.slots es spare under no_slot lower l h under_there refl stays.0.kind stays.0.mode
      (stays.0.room (h.each under under_there).room))
      there_then (sym over_then) stays.1.kind stays.1.mode (stays.1.room (h.each at s.there).room))

  went_step : Went w (record w { slots = ys })
  went_step = subst (λ zs. Went w (record w { slots = zs })) (sym s.slots)
      (went_then w (with_slot w under l) (with_slot (with_slot w under l) at o)
      (went_set w under l under_there stays.0.kind stays.0.live)
      (went_set (with_slot w under l) at o there_then (stays.1.kind ∙ ap (λ (z : Slot). z.kind) (sym over_then))
      (stays.1.live ∙ ap (λ (z : Slot). z.bev.live) (sym over_then))))

  pub went-step : (new : WorldValue) → new ≡ raised_if due (record w { slots = ys }) at (reason_of dir) → Went w new
  went-step new is = subst (Went w) (sym is) (went_raised_if due w (record w { slots = ys }) at (reason_of dir) went_step)

-- where no step was made the world is as before
unpassed : (dir : Dir) (at under : ℕ) (w new : WorldValue) (ys : List Slot) (due : Bool) →
    ys ≡ slice_set (slice_set w.slots under (slice_index_or ys under no_slot)) at (slice_index_or ys at no_slot) →
    NoStep (slot_at w under) (slot_at w at) (slice_index_or ys under no_slot) (slice_index_or ys at no_slot) due →
    new ≡ raised_if due (record w { slots = ys }) at (reason_of dir) → new ≡ w
unpassed dir at under w new ys due slots m is =
    is ∙ (let d = m.2 in let e = same in λ i. raised_if (d i) (record w { slots = e i }) at (reason_of dir))
  where
    same : ys ≡ w.slots
    same =
        slots ∙ (let x = m.0 in let y = m.1 in λ i. slice_set (slice_set w.slots under (x i)) at (y i))
        ∙ ap (λ zs. slice_set zs at (slot_at w at)) (set-get_or w.slots under no_slot) ∙ set-get_or w.slots at no_slot

-- what the slots say of a step is what the world says of it
crossed-is : (dir : Dir) (at under : ℕ) (w : WorldValue) (p : Crossing) →
    raised_if (is_due dir (slot_at w at) p)
    (record w { slots = slice_set (slice_set w.slots under (lower_after dir (slot_at w under) p)) at (over_after dir (slot_at w at) p) })
    at (reason_of dir)
    ≡ crossed w dir at under p
crossed-is Read at under w p = refl
crossed-is Write at under w p = refl

passed-is : (passes : Crossing → Type 0) (dir : Dir) (at under : ℕ) (w new : WorldValue) (ys : List Slot) (due : Bool) →
    ys ≡ slice_set (slice_set w.slots under (slice_index_or ys under no_slot)) at (slice_index_or ys at no_slot) →
    StepMade passes dir (slot_at w under) (slot_at w at) (slice_index_or ys under no_slot) (slice_index_or ys at no_slot) due →
    new ≡ raised_if due (record w { slots = ys }) at (reason_of dir) → Passed passes dir at under w new
passed-is passes dir at under w new ys due slots m is = record {
  after = m.after;
  passed = m.passed;
  world =
      is ∙ (let d = m.due_is in let e = slots ∙ written in λ i. raised_if (d i) (record w { slots = e i }) at (reason_of dir))
      ∙ crossed-is dir at under w m.after;
}
  where
    written : slice_set (slice_set w.slots under (slice_index_or ys under no_slot)) at (slice_index_or ys at no_slot)
        ≡ slice_set (slice_set w.slots under (lower_after dir (slot_at w under) m.after)) at (over_after dir (slot_at w at) m.after)
    written = let x = m.lower_is in let y = m.over_is in λ i. slice_set (slice_set w.slots under (x i)) at (y i)

-- what goes from the one slot to the other is what goes so in the world
slots-crossing-is : (dir : Dir) (at under : ℕ) (w : WorldValue) →
    slots_crossing dir (slot_at w under) (slot_at w at) ≡ crossing w dir at under
slots-crossing-is Read at under w = refl
slots-crossing-is Write at under w = refl

pub passed-step : (R : Going) (kept : Type 0) (dir : Dir) (at under : ℕ) (r : Result Step WorldFault) (w new : WorldValue) (ys : List Slot)
    (due : Bool) → SlotsStep R kept dir at under r w.slots ys due → new ≡ raised_if due (record w { slots = ys }) at (reason_of dir) →
    PassedOrKept (R (crossing w dir at under)) kept dir at under r w new
passed-step R kept dir at under r w new ys due s is =
    subst (λ p. PassedOrKept (R p) kept dir at under r w new) (slots-crossing-is dir at under w)
    (by-answer-then r (λ a m. passed-is (R (slots_crossing dir (slot_at w under) (slot_at w at)) a) dir at under w new ys due s.slots m is)
    (λ (m : NoStep (slot_at w under) (slot_at w at) (slice_index_or ys under no_slot) (slice_index_or ys at no_slot) due × kept).
    (unpassed dir at under w new ys due s.slots m.0 is, m.1)) s.made)
