-- A step for which there is nothing to do may be left out, and what the counts of all links say of those of one.
use Rattle.std.specs.Prelude.{MatchBool, slice_index_or, ◌⊎◌}
use Rattle.std.specs.List.{All, list_any}
use Rattle.std.proofs.Common.{◌≡◌, ℕ, ◌+◌, ◌*◌, ◌<◌, Bool, true, false, nat_le, if◌then◌else◌, List, [], ◌∷◌, ◌++◌, length, refl, sym, ◌∙◌}
use Rattle.std.proofs.Common.{ap, subst, arith, zero, suc, ◌-◌, ◌≤◌, ◌^◌, ◌||◌, filter, inl, inr, append-nil, append_assoc, length-append}
use Rattle.std.proofs.lemmas.List.{set-get_or}
use Rattle.std.proofs.lemmas.Bool.{or_cases, or_parts, or_from, or_left, or_right}
use Rattle.std.proofs.lemmas.Bool.Decides.{eqb_tells}
use Rattle.std.proofs.lemmas.List.Folds.{list_any_at}
use Rattle.ev_types.specs.declared.side.SideId.{SideId}
use Rattle.ev_types.specs.Sides.{number, peer}
use Rattle.ev_types.specs.Trace.{Trace}
use Rattle.ev_types.specs.declared.entry.Entry.TheVariants as entry
use Rattle.ev_types.specs.declared.side.Side.{Side}
use Rattle.ev_types.specs.declared.side.Side.TheVariants.{In, Out}
use Rattle.ev_port.specs.declared.port.Want.{Want}
use Rattle.ev_port.specs.Polling.{ready_events}
use Rattle.relay_model.specs.Flow.{no_flow}
use Rattle.relay_model.specs.Plain.{no_side, flow_at}
use Rattle.relay_model.specs.Rooms.{is_connecting}
use Rattle.relay_state.specs.State.{State, no_lane, lane_at}
use Rattle.relay_state.specs.Passing.{with_passage, passage_at}
use Rattle.relay_state.specs.Closing.{in_side, out_side}
use Rattle.relay_state.specs.Counting.{is_open, open_below, has_flown_far, has_read_far, is_spent}
use Rattle.relay_core.specs.declared.close.Closing.{Closing}
use Rattle.relay_core.specs.Steps.{steps_of}
use Rattle.relay_drive.specs.Steps.{Nothing, Then, Each, CutAt, links_from}
use Rattle.relay_drive.specs.PassPhase.{PassesSide, PassesLink}
use Rattle.relay_drive.specs.ServePhase.{ReadsSide, WritesSide, ConnectsSide, ServesSide}
use Rattle.relay_drive.specs.ClosePhase.{Closes, LooksAt, ClosesLink}
use Rattle.relay_sides.specs.Links as links
use Rattle.relay_sides.specs.Links.{Links}
use Rattle.relay_drive.specs.Links.{HasPairs, IsStillFrom, IsStill, IsUncalled, IsSettled, has_spent_count_from, has_spent_count}
pub use Rattle.relay_drive.proofs.FoundLemmas.{wants-same, open-same, far-same, still-same, settled-same}
use Rattle.relay_drive.proofs.EachLemmas.{nothing_then, then_as, each_push, links_from-push}

-- Links for which there is nothing to do

-- setting a direction to what it is changes nothing
same-passage : (s : State) (e : SideId) → s ≡ with_passage e (passage_at s e) s
same-passage s e =
    let flows = set-get_or s.plain.flows (number e) no_flow in
    let own = set-get_or s.plain.sides (number e) no_side in
    let far = set-get_or s.plain.sides (number (peer e)) no_side in
    let lanes = set-get_or s.lanes (number e) no_lane in
    sym (rw (flows, own, far, lanes) refl)

-- it is passed where it is left out
pub still-passes : (k : ℕ) (s : State) → IsStill s k → PassesLink k s [] s
still-passes k s h =
    then_at (one (in_side k) h.0) (then_at (one (out_side k) h.1) (refl, refl))
  where
    one : (e : SideId) → IsStillFrom s e → PassesSide e s [] s
    one e x = (refl, (passage_at s e, (0, refl, x), same-passage s e))

    then_at : {R S : State → Trace → State → Type 0} → R s [] s → S s [] s → Then R S s [] s
    then_at a b = record { middle = s; front = []; back = []; first = a; second = b; joined = refl }

-- steps of which none is called for change nothing
settled-looks : (s : State) (xs : List Closing) → All (IsUncalled s) xs →
    Each LooksAt xs s [] s
settled-looks s [] h = (refl, refl)
settled-looks s (x ∷ xs) h = record {
  middle = s;
  front = [];
  back = [];
  first = subst (λ b. MatchBool b (Closes x s [] s) (Nothing s [] s)) (sym (h 0 x (omega arith))) (refl, refl);
  second = settled-looks s xs (λ i d lt. h (suc i) d (omega arith));
  joined = refl;
}

-- it is closed where it is left out
pub settled-closes : (k : ℕ) (s : State) → IsSettled s k → ClosesLink k s [] s
settled-closes k s h = settled-looks s (steps_of k) h

-- n links for which there is nothing to do may be left out
skips : (R : ℕ → State → Trace → State → Type 0) (i n : ℕ) (s new : State) (a : Trace) →
    ((k : ℕ) → i ≤ k → k < i + n → R k new [] new) → Each R (links_from 0 i) s a new → Each R (links_from 0 (i + n)) s a new
skips R i zero s new a none h = let e : i ≡ i + zero = omega arith in subst (λ m. Each R (links_from 0 m) s a new) e h
skips R i (suc n) s new a none h =
    let before : Each R (links_from 0 (i + n)) s a new = skips R i n s new a (λ k l m. none k l (omega (arith, m))) h in
    let e : (i + n) + 1 ≡ i + suc n = omega arith in
    subst (λ m. Each R (links_from 0 m) s a new) e (subst (λ z. Each R z s a new) (sym (links_from-push (i + n)))
    (each_push R (links_from 0 (i + n)) (i + n) (record {
      middle = new;
      front = a;
      back = [];
      first = before;
      second = none (i + n) (omega arith) (omega arith);
      joined = sym (append-nil a);
    })))

-- up to link j nothing is to be done
pub each-skips : (R : ℕ → State → Trace → State → Type 0) (i j : ℕ) (s new : State) (a : Trace) → i ≤ j →
    ((k : ℕ) → i ≤ k → k < j → R k new [] new) → Each R (links_from 0 i) s a new → Each R (links_from 0 j) s a new
each-skips R i j s new a le none h =
    let e : i + (j - i) ≡ j = omega (arith, le) in
    subst (λ m. Each R (links_from 0 m) s a new) e (skips R i (j - i) s new a (λ k l m. none k l (omega (arith, m, le))) h)

-- Counts of all links

-- where neither direction of a link is far, that from this side is not
not-far : (s : State) (e : SideId) → has_spent_count s e.link ≡ false → has_spent_count_from s e ≡ false
not-far s e h = on e.side
  where
    both : (has_spent_count_from s (in_side e.link) ≡ false) × (has_spent_count_from s (out_side e.link) ≡ false)
    both = or_parts (has_spent_count_from s (in_side e.link)) (has_spent_count_from s (out_side e.link)) h

    on : (side : Side) → has_spent_count_from s (record { link = e.link; side = side }) ≡ false
    on In = both.0
    on Out = both.1

-- each place is that of a side
side_of : (i : ℕ) → (e : SideId) × (number e ≡ i)
side_of zero = (in_side 0, refl)
side_of (suc zero) = (out_side 0, refl)
side_of (suc (suc i)) =
    let before = side_of i in
    (record { link = before.0.link + 1; side = before.0.side }, omega (arith, before.1))

-- a test that passes at no place passes for none
none-passes : {A : Type 0} (p : A → Bool) (xs : List A) (d : A) → ((i : ℕ) → i < length xs → p (slice_index_or xs i d) ≡ false) →
    list_any p xs ≡ false
none-passes p [] d h = refl
none-passes p (x ∷ xs) d h =
    ap (λ b. b || list_any p xs) (h 0 (omega arith)) ∙ none-passes p xs d (λ i lt. h (suc i) (omega (arith, lt)))

-- a count of a link has come to 2^62 in the state where it has among the relay's sides
pub spent-seen : (s : State) (k : Links) (n : ℕ) → k.flows ≡ s.plain.flows → k.lanes ≡ s.lanes →
    links.has_spent_count k n ≡ has_spent_count s n
spent-seen s k n flows lanes = λ i. has_spent_count (record s { plain = record (s.plain) { flows = flows i }; lanes = lanes i }) n

-- no count has come to 2^62 where that of the turns has not, and none of any link
pub not-spent : (s : State) → HasPairs s → nat_le (2 ^ 62) s.plain.turn ≡ false →
    ((k : ℕ) → k < s.plain.opened → has_spent_count s k ≡ false) →
    is_spent s ≡ false
not-spent s pairs turns h = or_from _ _ (or_from _ _ turns flows) lanes
  where
    one : (i : ℕ) → i < 2 * s.plain.opened → (has_flown_far (slice_index_or s.plain.flows i no_flow) ≡ false)
        × (has_read_far (slice_index_or s.lanes i no_lane) ≡ false)
    one i lt =
        let e = side_of i in
        let far = not-far s e.0 (h e.0.link (omega (arith, e.1, lt))) in
        let parts = or_parts (has_flown_far (flow_at s.plain e.0)) (has_read_far (lane_at s e.0)) far in (
          ap (λ j. has_flown_far (slice_index_or s.plain.flows j no_flow)) (sym e.1) ∙ parts.0,
          ap (λ j. has_read_far (slice_index_or s.lanes j no_lane)) (sym e.1) ∙ parts.1,
        )

    flows : list_any has_flown_far s.plain.flows ≡ false
    flows = none-passes has_flown_far s.plain.flows no_flow (λ i lt. (one i (omega (arith, lt, pairs.flows))).0)

    lanes : list_any has_read_far s.lanes ≡ false
    lanes = none-passes has_read_far s.lanes no_lane (λ i lt. (one i (omega (arith, lt, pairs.lanes))).1)

-- a count of one link that has come to 2^62 is one of them
pub spent-link : (s : State) (k : ℕ) → HasPairs s → k < s.plain.opened → has_spent_count s k ≡ true → is_spent s ≡ true
spent-link s k pairs below h = elim (or_cases (has_spent_count_from s (in_side k)) (has_spent_count_from s (out_side k)) h) [
  | inl near ↦ from (in_side k) (omega (arith, below)) near
  | inr far ↦ from (out_side k) (omega (arith, below)) far
]
  where
    from : (e : SideId) → number e < 2 * s.plain.opened → has_spent_count_from s e ≡ true → is_spent s ≡ true
    from e lt x = elim (or_cases (has_flown_far (flow_at s.plain e)) (has_read_far (lane_at s e)) x) [
      | inl flown ↦ or_left _ _
          (or_right _ _ (list_any_at has_flown_far s.plain.flows (number e) no_flow (omega (arith, lt, pairs.flows)) flown))
      | inr read ↦ or_right _ _ (list_any_at has_read_far s.lanes (number e) no_lane (omega (arith, lt, pairs.lanes)) read)
    ]

-- none is counted where none is open
pub none-open : (s : State) (n : ℕ) → ((k : ℕ) → k < n → is_open s k ≡ false) → open_below s n ≡ 0
none-open s zero h = refl
none-open s (suc n) h =
    let before = none-open s n (λ k lt. h k (omega (arith, lt))) in
    let last = ap (λ (b : Bool). let m : ℕ = if b then 1 else 0 in m) (h n (omega arith)) in
    omega (arith, before, last)

-- one that is open is counted
pub some-open : (s : State) (n k : ℕ) → k < n → is_open s k ≡ true → 0 < open_below s n
some-open s zero k lt h = absurd (omega (arith, lt))
some-open s (suc n) k lt h = elim (eqb_tells k n) [
  | inl same ↦ let last = ap (λ (b : Bool). let m : ℕ = if b then 1 else 0 in m) (ap (is_open s) (sym same.1) ∙ h) in
      omega (arith, last)
  | inr other ↦ let before = some-open s n k (omega (arith, lt, other.1)) h in omega (arith, before)
]

-- Wants with no mark

-- the next one, where it is kept or where there is nothing to do for it
next-unmarked : (R : Want → State → Trace → State → Type 0) (w : Want) (kept ws : List Want) (b : Bool) (s new : State) (a : Trace) →
    (b ≡ false → (x : State) → R w x [] x) → ((x : State) (t : Trace) → Each R kept x t new → Each R ws x t new) →
    Each R (if b then w ∷ kept else kept) s a new → Each R (w ∷ ws) s a new
next-unmarked R w kept ws true s new a none rest h = record {
  middle = h.middle;
  front = h.front;
  back = h.back;
  first = h.first;
  second = rest h.middle h.back h.second;
  joined = h.joined;
}
next-unmarked R w kept ws false s new a none rest h = record {
  middle = s;
  front = [];
  back = a;
  first = none refl s;
  second = rest s a h;
  joined = refl;
}

-- those for which there is nothing to do may be left out
pub each-unmarked : (R : Want → State → Trace → State → Type 0) (keep : Want → Bool) →
    ((w : Want) (x : State) → keep w ≡ false → R w x [] x) → (ws : List Want) (s new : State) (a : Trace) →
    Each R (filter keep ws) s a new → Each R ws s a new
each-unmarked R keep none [] s new a h = h
each-unmarked R keep none (w ∷ ws) s new a h =
    next-unmarked R w (filter keep ws) ws (keep w) s new a (λ no x. none w x no)
    (λ x t. each-unmarked R keep none ws x new t) h

-- the first of a list is where it was cut off, or one behind it
cut-cases : {X : Type 0} (R Cut : X → State → Trace → State → Type 0) (x : X) (xs front : List X) (last : X) (back : List X)
    (s new : State) (a : Trace) → x ∷ xs ≡ front ++ last ∷ back → Then (Each R front) (Cut last) s a new →
    Cut x s a new ⊎ Then (R x) (CutAt R Cut xs) s a new
cut-cases R Cut x xs [] last back s new a all h =
    let same : last ≡ x = cc in
    inl (subst (λ z. Cut z s a new) same (nothing_then {R = Cut last} h))
cut-cases R Cut x xs (f ∷ fs) last back s new a all h =
    let same : f ≡ x = cc in
    let rest : xs ≡ fs ++ last ∷ back = cc in
    inr (record {
      middle = h.first.middle;
      front = h.first.front;
      back = h.first.back ++ h.back;
      first = subst (λ z. R z s h.first.front h.first.middle) same h.first.first;
      second = record {
        front = fs;
        last = last;
        back = back;
        all = rest;
        went = record {
          middle = h.middle;
          front = h.first.back;
          back = h.back;
          first = h.first.second;
          second = h.second;
          joined = refl;
        };
      };
      joined = h.joined ∙ ap (λ b. b ++ h.back) h.first.joined ∙ append_assoc h.first.front h.first.back h.back;
    })

-- it was cut off at the first
cut-here : {X : Type 0} (R Cut : X → State → Trace → State → Type 0) (x : X) (xs : List X) (s new : State) (a : Trace) →
    Cut x s a new → CutAt R Cut (x ∷ xs) s a new
cut-here R Cut x xs s new a h = record {
  front = [];
  last = x;
  back = xs;
  all = refl;
  went = record { middle = s; front = []; back = a; first = (refl, refl); second = h; joined = refl };
}

-- the first was done, and it was cut off behind it
cut-behind : {X : Type 0} (R Cut : X → State → Trace → State → Type 0) (x : X) (xs : List X) (s new : State) (a : Trace) →
    Then (R x) (CutAt R Cut xs) s a new → CutAt R Cut (x ∷ xs) s a new
cut-behind R Cut x xs s new a h =
    let c = h.second in record {
      front = x ∷ c.front;
      last = c.last;
      back = c.back;
      all = ap (λ z. x ∷ z) c.all;
      went = record {
        middle = c.went.middle;
        front = h.front ++ c.went.front;
        back = c.went.back;
        first = record { middle = h.middle; front = h.front; back = c.went.front; first = h.first; second = c.went.first; joined = refl };
        second = c.went.second;
        joined = h.joined ∙ ap (λ z. h.front ++ z) c.went.joined ∙ sym (append_assoc h.front c.went.front c.went.back);
      };
    }

-- the next one, where it is kept or where there is nothing to do for it
cut-next : (R Cut : Want → State → Trace → State → Type 0) (w : Want) (kept ws : List Want) (b : Bool) (s new : State) (a : Trace) →
    (b ≡ false → (x : State) → R w x [] x) → ((x : State) (t : Trace) → CutAt R Cut kept x t new → CutAt R Cut ws x t new) →
    CutAt R Cut (if b then w ∷ kept else kept) s a new → CutAt R Cut (w ∷ ws) s a new
cut-next R Cut w kept ws true s new a none rest h = elim (cut-cases R Cut w kept h.front h.last h.back s new a h.all h.went) [
  | inl here ↦ cut-here R Cut w ws s new a here
  | inr behind ↦ cut-behind R Cut w ws s new a
      (then_as (λ m t r. r) (λ m t r. rest m t r) behind)
]
cut-next R Cut w kept ws false s new a none rest h =
    cut-behind R Cut w ws s new a (record { middle = s; front = []; back = a; first = none refl s; second = rest s a h; joined = refl })

-- also where it was cut off
pub cut-unmarked : (R Cut : Want → State → Trace → State → Type 0) (keep : Want → Bool) →
    ((w : Want) (x : State) → keep w ≡ false → R w x [] x) → (ws : List Want) (s new : State) (a : Trace) →
    CutAt R Cut (filter keep ws) s a new → CutAt R Cut ws s a new
cut-unmarked R Cut keep none [] s new a h =
    absurd (let many = ap length h.all in omega (arith, many, length-append h.front (h.last ∷ h.back)))
cut-unmarked R Cut keep none (w ∷ ws) s new a h =
    cut-next R Cut w (filter keep ws) ws (keep w) s new a (λ no x. none w x no)
    (λ x t. cut-unmarked R Cut keep none ws x new t) h

-- a side with no mark is served where it is left out
pub serves-unmarked : (w : Want) (s : State) → w.can_read ≡ false → w.can_write ≡ false → ServesSide w s [] s
serves-unmarked w s no_read no_write = go (is_connecting s.plain w.side)
  where
    reads : ReadsSide w.side w.can_read s [] s
    reads = subst (λ b. ReadsSide w.side b s [] s) (sym no_read) (refl, refl)

    writes : WritesSide w.side w.can_write s [] s
    writes = subst (λ b. WritesSide w.side b s [] s) (sym no_write) (refl, refl)

    connects : ConnectsSide w.side w.can_write s [] s
    connects = subst (λ b. ConnectsSide w.side b s [] s) (sym no_write) (refl, refl)

    go : (b : Bool) → MatchBool b (ConnectsSide w.side w.can_write s [] s)
        (Then (ReadsSide w.side w.can_read) (WritesSide w.side w.can_write) s [] s)
    go true = connects
    go false = record { middle = s; front = []; back = []; first = reads; second = writes; joined = refl }

-- nothing is told of a want with no mark
pub ready_events-filter : (ws : List Want) → ready_events (filter (λ w. w.can_read || w.can_write) ws) ≡ ready_events ws
ready_events-filter [] = refl
ready_events-filter (w ∷ ws) = go w.can_read w.can_write refl refl (ready_events-filter ws)
  where
    go : (r c : Bool) → w.can_read ≡ r → w.can_write ≡ c →
        ready_events (filter (λ (v : Want). v.can_read || v.can_write) ws) ≡ ready_events ws →
        ready_events (filter (λ (v : Want). v.can_read || v.can_write) (w ∷ ws)) ≡ ready_events (w ∷ ws)
    go true c p q h = rw (p, q) (ap (λ z. (entry.Ready w.side true c, []) ∷ z) h)
    go false true p q h = rw (p, q) (ap (λ z. (entry.Ready w.side false true, []) ∷ z) h)
    go false false p q h = rw (p, q) h
