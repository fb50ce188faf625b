-- What was found of a link is still so where the link is the same.
use Rattle.std.specs.Prelude.{is_some, slice_index_or, option_map}
use Rattle.std.specs.List.{AllByRecursion, All}
use Rattle.std.proofs.Common.{◌≡◌, ℕ, if◌then◌else◌, List, [], ◌∷◌}
use Rattle.std.proofs.Common.{refl, sym, ◌∙◌, ap, arith, zero, suc, None}
use Rattle.token_bucket.specs.declared.limit.Dir.TheVariants as dir
use Rattle.token_bucket.specs.declared.limit.Dir.{Dir}
use Rattle.ev_types.specs.declared.side.SideId.{SideId}
use Rattle.ev_types.specs.Sides.{peer}
use Rattle.ev_types.specs.declared.why.Cause.{Cause}
use Rattle.ev_types.specs.declared.entry.Entry.{Entry}
use Rattle.ev_types.specs.declared.entry.Entry.TheVariants as entry
use Rattle.relay_model.specs.Plain.{PlainSide, side_at}
use Rattle.relay_model.specs.Close.{fault, freed_entry}
use Rattle.relay_state.specs.Running.{held_at}
use Rattle.relay_state.specs.State.{State}
use Rattle.relay_state.specs.Rooms.{allowance}
use Rattle.relay_state.specs.Passing.{passage_at, round_from}
use Rattle.relay_state.specs.Closing.{in_side, out_side, closing_entry}
use Rattle.relay_state.specs.Counting.{is_open}
use Rattle.relay_core.specs.declared.close.Closing.{Closing}
use Rattle.relay_core.specs.declared.halts.Halts.{Halts}
use Rattle.relay_core.specs.declared.close.Closing.TheVariants as closing
use Rattle.relay_core.specs.Steps as steps
use Rattle.relay_core.specs.Steps.{steps_of, link_of_step}
use Rattle.relay_drive.specs.Links.{SameLink, IsStillFrom, IsStill, IsSettled, would_want, has_spent_count}

-- the same is there to be passed, and a round makes the same of it
round-same : (k : ℕ) (s new : State) → SameLink k s new → (e : SideId) → e.link ≡ k → round_from new e (passage_at new e) ≡
    round_from s e (passage_at s e)
round-same k s new h e here =
    let own = h.side e here in
    let far = h.side (peer e) here in
    let flow = h.flow e here in
    let lane = h.lane e here in
    let settings = h.settings in
    cc

passage-same : (k : ℕ) (s new : State) → SameLink k s new → (e : SideId) → e.link ≡ k → passage_at new e ≡ passage_at s e
passage-same k s new h e here =
    let own = h.side e here in
    let far = h.side (peer e) here in
    let flow = h.flow e here in
    let lane = h.lane e here in
    cc

-- their limits leave them the same
left-same : {k : ℕ} {s new : State} → SameLink k s new → (e : SideId) → e.link ≡ k → (d : Dir) → allowance new e d ≡ allowance s e d
left-same h e here d =
    let own = h.side e here in
    let gauge = h.gauge e here in
    let time = h.time in
    λ i. option_map (λ y. held_at y.cfg (gauge i) d (time i)) (own i).limit

-- its sides would want the same
pub wants-same : {k : ℕ} {s new : State} → SameLink k s new → (seen : List Halts) (e : SideId) → e.link ≡ k → (d : Dir) →
    would_want seen new e d ≡ would_want seen s e d
wants-same h seen e here dir.Read =
    let own = h.side e here in
    let far = h.side (peer e) here in
    let lane = h.lane e here in
    let left = left-same h e here dir.Read in
    cc
wants-same h seen e here dir.Write =
    let own = h.side e here in
    let lane = h.lane (peer e) here in
    let left = left-same h e here dir.Write in
    cc

-- a side of it lives as before
pub open-same : {k : ℕ} {s new : State} → SameLink k s new → is_open new k ≡ is_open s k
open-same {k = k} h = let own = h.side (in_side k) refl in let far = h.side (out_side k) refl in cc

-- its counts have come as far
pub far-same : {k : ℕ} {s new : State} → SameLink k s new → has_spent_count new k ≡ has_spent_count s k
far-same {k = k} h =
    let a = h.flow (in_side k) refl in
    let b = h.flow (out_side k) refl in
    let c = h.lane (in_side k) refl in
    let d = h.lane (out_side k) refl in
    cc

-- the same steps of closing are called for, with the same entries
entry-same : (k : ℕ) (s new : State) → SameLink k s new → (step : Closing) → link_of_step step ≡ k →
    closing_entry new (steps.close_step step) ≡ closing_entry s (steps.close_step step)
entry-same k s new h (closing.Faulty e) here =
    let own = h.side e here in
    let flow = h.flow e here in
    let back = h.flow (peer e) here in
    let freed : freed_entry new.plain e ≡ freed_entry s.plain e = λ i why. entry.Freed e why (flow i).moved (back i).given in
    ap (λ (x : PlainSide). if x.live then option_map (freed_entry new.plain e) (fault x) else None) own
    ∙ ap (λ (f : Cause → Entry). if (side_at s.plain e).live then option_map f (fault (side_at s.plain e)) else None) freed
entry-same k s new h (closing.EndWriting e) here =
    let own = h.side e here in
    let far = h.side (peer e) here in
    let flow = h.flow (peer e) here in
    let lane = h.lane (peer e) here in
    cc
entry-same k s new h (closing.BothDone j) here =
    let own = h.side (in_side j) here in
    let far = h.side (out_side j) here in
    let flow = h.flow (in_side j) here in
    let back = h.flow (out_side j) here in
    cc
entry-same k s new h (closing.PeerGone e) here =
    let own = h.side e here in
    let far = h.side (peer e) here in
    let flow = h.flow e here in
    let back = h.flow (peer e) here in
    let lane = h.lane (peer e) here in
    cc
entry-same k s new h (closing.Shut e) here = let own = h.side e here in cc

-- passing has nothing to do there still
pub still-same : {k : ℕ} {s new : State} → SameLink k s new → IsStill s k → IsStill new k
still-same {k = k} {s = s} {new = new} h still = (one (in_side k) refl still.0, one (out_side k) refl still.1)
  where
    one : (e : SideId) → e.link ≡ k → IsStillFrom s e → IsStillFrom new e
    one e here x = round-same k s new h e here ∙ x ∙ sym (passage-same k s new h e here)

-- what holds of each by recursion holds of each by its place
all_from : {X : Type 0} (P : X → Type 0) (xs : List X) → AllByRecursion P xs → All P xs
all_from P [] h i d lt = absurd (omega arith)
all_from P (x ∷ xs) h zero d lt = h.0
all_from P (x ∷ xs) h (suc i) d lt = all_from P xs h.1 i d (omega arith)

steps-here : (k : ℕ) → All (λ step. link_of_step step ≡ k) (steps_of k)
steps-here k =
    all_from (λ step. link_of_step step ≡ k) (steps_of k) (refl, (refl, (refl, (refl, (refl, (refl, (refl, (refl, (refl, tt)))))))))

-- closing has nothing to do there still
pub settled-same : {k : ℕ} {s new : State} → SameLink k s new → IsSettled s k → IsSettled new k
settled-same {k = k} {s = s} {new = new} h settled i d lt =
    ap is_some (entry-same k s new h (slice_index_or (steps_of k) i d) (steps-here k i d lt)) ∙ settled i d lt
