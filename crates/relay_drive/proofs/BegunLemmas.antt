-- As a turn begins, time changes nothing at a link whose sides have no timeout that runs.
use Rattle.std.specs.Prelude.{fold, filter, slice_index_or, slice_set}
use Rattle.std.proofs.Common.{◌≡◌, ℕ, zero, suc, Bool, true, false, ◌&&◌, not, nat_le, nat_lt, if◌then◌else◌, List, [], ◌∷◌, refl, sym}
use Rattle.std.proofs.Common.{◌∙◌, ap}
use Rattle.std.proofs.Common.{inl, inr, subst}
use Rattle.std.proofs.lemmas.List.{get_or-set_other}
use Rattle.std.proofs.lemmas.Bool.Decides.{eqb_tells}
use Rattle.token_bucket.specs.declared.limit.Dir.{Dir}
use Rattle.token_bucket.specs.declared.limit.Dir.TheVariants as dir
use Rattle.ev_types.specs.declared.side.Side.TheVariants.{In}
use Rattle.ev_types.specs.declared.side.SideId.{SideId}
use Rattle.ev_types.specs.declared.why.Why.{Why}
use Rattle.ev_types.specs.declared.why.Why.TheVariants as why
use Rattle.ev_types.specs.Sides.{number}
use Rattle.rate_group.specs.Steps.{all_refilled}
use Rattle.relay_model.specs.Settings.{Settings}
use Rattle.relay_model.specs.Due.{with_reason}
use Rattle.relay_model.specs.Flow.{Flow, no_flow}
use Rattle.relay_model.specs.Plain.{Plain, PlainSide, Timer, no_side, side_at, change_side, is_live, all_sides}
use Rattle.relay_model.specs.Reasons.{has_hook, raise, happened, timeout_flag}
use Rattle.relay_model.specs.Moments.{is_timed, active_at, both_ways, timers_taken, has_run_out, expire}
use Rattle.relay_model.specs.Turn.{turned_to}
use Rattle.relay_state.specs.State.{State, no_lane, with_plain}
use Rattle.relay_state.specs.Rooms.{wants}
use Rattle.relay_state.specs.Time.{timed, side_timed, begun}
use Rattle.relay_state.specs.Running.{no_gauge}
use Rattle.relay_steps.proofs.FrameLemmas.{frame-begun}
use Rattle.relay_drive.specs.Links.{SameLink, IsTimelessLink, at_time}

-- One side

active-timed : (time : ℕ) (d v : Dir) (x : PlainSide) → is_timed (active_at time d x) v ≡ is_timed x v
active-timed time dir.Read dir.Read x = refl
active-timed time dir.Read dir.Write x = refl
active-timed time dir.Write dir.Read x = refl
active-timed time dir.Write dir.Write x = refl

expire-timed : (d v : Dir) (x : PlainSide) → is_timed (expire d x) v ≡ is_timed x v
expire-timed dir.Read dir.Read x = refl
expire-timed dir.Read dir.Write x = refl
expire-timed dir.Write dir.Read x = refl
expire-timed dir.Write dir.Write x = refl

-- a side is replaced by one that is told alike
set-told : (f : PlainSide → Bool) (xs : List PlainSide) (j i : ℕ) (x : PlainSide) → f x ≡ f (slice_index_or xs j no_side) →
    f (slice_index_or (slice_set xs j x) i no_side) ≡ f (slice_index_or xs i no_side)
set-told f [] j i x h = refl
set-told f (y ∷ ys) zero zero x h = h
set-told f (y ∷ ys) zero (suc i) x h = refl
set-told f (y ∷ ys) (suc j) zero x h = refl
set-told f (y ∷ ys) (suc j) (suc i) x h = set-told f ys j i x h

-- What a step of time leaves of the state: all but sides, what is due, and timers.
record Rest (s new : State) : Type 0 where
  settings : new.settings ≡ s.settings
  flows : new.plain.flows ≡ s.plain.flows
  lanes : new.lanes ≡ s.lanes
  gauges : new.gauges ≡ s.gauges

rest-same : (s : State) → Rest s s
rest-same s = record { settings = refl; flows = refl; lanes = refl; gauges = refl }

rest-then : {s m new : State} → Rest s m → Rest m new → Rest s new
rest-then a b = record {
  settings = b.settings ∙ a.settings;
  flows = b.flows ∙ a.flows;
  lanes = b.lanes ∙ a.lanes;
  gauges = b.gauges ∙ a.gauges;
}

-- and of each side whether it has a timeout that runs, and the whole side where it has none
record Leaves (z : SideId) (s new : State) : Type 0 where
  rest : Rest s new
  told : (v : Dir) → is_timed (side_at new.plain z) v ≡ is_timed (side_at s.plain z) v
  side : is_timed (side_at s.plain z) dir.Read ≡ false → is_timed (side_at s.plain z) dir.Write ≡ false →
      side_at new.plain z ≡ side_at s.plain z

leaves-same : (z : SideId) (s : State) → Leaves z s s
leaves-same z s = record { rest = rest-same s; told = λ v. refl; side = λ a b. refl }

leaves-then : (z : SideId) {s m new : State} → Leaves z s m → Leaves z m new → Leaves z s new
leaves-then z a b = record {
  rest = rest-then a.rest b.rest;
  told = λ v. b.told v ∙ a.told v;
  side = λ r w. b.side (a.told dir.Read ∙ r) (a.told dir.Write ∙ w) ∙ a.side r w;
}

-- the same sides
leaves-sides : (z : SideId) (s new : State) → Rest s new → new.plain.sides ≡ s.plain.sides → Leaves z s new
leaves-sides z s new rest sides =
    let same : side_at new.plain z ≡ side_at s.plain z = ap (λ xs. slice_index_or xs (number z) no_side) sides in
    record { rest = rest; told = λ v. ap (λ x. is_timed x v) same; side = λ a b. same }

raise-sides : (g : Settings) (e : SideId) (y : Why) (p : Plain) → ((raise g e y p).sides ≡ p.sides) × ((raise g e y p).flows ≡ p.flows)
raise-sides g e y p = go (has_hook g e && is_live p e)
  where
    go : (b : Bool) → ((if b then record p { due = with_reason e y p.due } else p).sides ≡ p.sides)
        × ((if b then record p { due = with_reason e y p.due } else p).flows ≡ p.flows)
    go true = (refl, refl)
    go false = (refl, refl)

-- A direction is looked at. Where it has no timeout nothing happens, and else something at this side alone.
leaves-timed : (z e : SideId) (s : State) (d : Dir) → Leaves z s (timed e s d)
leaves-timed z e s d = elim (eqb_tells (number z) (number e)) [
  | inl here ↦ at here.1 (is_timed (side_at s.plain e) d) refl
  | inr other ↦ by (not (is_timed (side_at s.plain e) d)) (not (wants s e d)) (has_run_out (side_at s.plain e) d s.plain.time)
      (λ x. record {
        rest = record { settings = refl; flows = refl; lanes = refl; gauges = refl };
        told = λ v. ap (λ y. is_timed y v) (get_or-set_other s.plain.sides (number e) (number z) x no_side other.1);
        side = λ a b. get_or-set_other s.plain.sides (number e) (number z) x no_side other.1;
      })
]
  where
    -- the state with this side put for the other one
    put : PlainSide → State
    put x = with_plain (change_side e (λ y. x) s.plain) s

    raised : (x : PlainSide) → Leaves z s (put x) →
        Leaves z s (with_plain (raise s.settings e (happened d timeout_flag) (change_side e (λ y. x) s.plain)) s)
    raised x h =
        let p : Plain = change_side e (λ y. x) s.plain in
        let same = raise-sides s.settings e (happened d timeout_flag) p in
        leaves-then z h (leaves-sides z (put x) _ (record { settings = refl; flows = same.1; lanes = refl; gauges = refl }) same.0)

    by : (a b c : Bool) → ((x : PlainSide) → Leaves z s (put x)) → Leaves z s (if a then s
        else (if b then with_plain (change_side e (active_at s.plain.time d) s.plain) s
        else (if c then with_plain (raise s.settings e (happened d timeout_flag) (change_side e (expire d) s.plain)) s
        else s)))
    by true b c h = leaves-same z s
    by false true c h = h (active_at s.plain.time d (side_at s.plain e))
    by false false true h = raised (expire d (side_at s.plain e)) (h (expire d (side_at s.plain e)))
    by false false false h = leaves-same z s

    -- a side that is told alike, in a state where the side has a timeout
    own : number z ≡ number e → is_timed (side_at s.plain e) d ≡ true → (x : PlainSide) →
        ((v : Dir) → is_timed x v ≡ is_timed (side_at s.plain e) v) → Leaves z s (put x)
    own here is x alike = record {
      rest = record { settings = refl; flows = refl; lanes = refl; gauges = refl };
      told = λ v. set-told (λ y. is_timed y v) s.plain.sides (number e) (number z) x (alike v);
      side = λ a b.
          let same : side_at s.plain z ≡ side_at s.plain e = ap (λ n. slice_index_or s.plain.sides n no_side) here in
          let none : is_timed (side_at s.plain e) d ≡ false = ap (λ y. is_timed y d) (sym same) ∙ none_in d a b in
          absurd (let wrong : true ≡ false = sym is ∙ none in cc);
    }
      where
        none_in : (v : Dir) → is_timed (side_at s.plain z) dir.Read ≡ false → is_timed (side_at s.plain z) dir.Write ≡ false →
            is_timed (side_at s.plain z) v ≡ false
        none_in dir.Read a b = a
        none_in dir.Write a b = b

    within : number z ≡ number e → is_timed (side_at s.plain e) d ≡ true → (b c : Bool) → Leaves z s (if b
        then with_plain (change_side e (active_at s.plain.time d) s.plain) s
        else (if c then with_plain (raise s.settings e (happened d timeout_flag) (change_side e (expire d) s.plain)) s else s))
    within here is true c = own here is (active_at s.plain.time d (side_at s.plain e))
        (λ v. active-timed s.plain.time d v (side_at s.plain e))
    within here is false true = raised (expire d (side_at s.plain e))
        (own here is (expire d (side_at s.plain e)) (λ v. expire-timed d v (side_at s.plain e)))
    within here is false false = leaves-same z s

    at : number z ≡ number e → (t : Bool) → is_timed (side_at s.plain e) d ≡ t → Leaves z s (timed e s d)
    at here false is = subst (λ b. Leaves z s (if not b then s
        else (if not (wants s e d) then with_plain (change_side e (active_at s.plain.time d) s.plain) s
        else (if has_run_out (side_at s.plain e) d s.plain.time
        then with_plain (raise s.settings e (happened d timeout_flag) (change_side e (expire d) s.plain)) s
        else s)))) (sym is) (leaves-same z s)
    at here true is = subst (λ b. Leaves z s (if not b then s
        else (if not (wants s e d) then with_plain (change_side e (active_at s.plain.time d) s.plain) s
        else (if has_run_out (side_at s.plain e) d s.plain.time
        then with_plain (raise s.settings e (happened d timeout_flag) (change_side e (expire d) s.plain)) s
        else s)))) (sym is) (within here is (not (wants s e d)) (has_run_out (side_at s.plain e) d s.plain.time))

leaves-fold : {A : Type 0} (z : SideId) (f : State → A → State) → ((s : State) (x : A) → Leaves z s (f s x)) → (s : State) (xs : List A) →
    Leaves z s (fold f s xs)
leaves-fold z f each s [] = leaves-same z s
leaves-fold z f each s (x ∷ xs) = leaves-then z (each s x) (leaves-fold z f each (f s x) xs)

-- A turn begins

record SameRest (p new : Plain) : Type 0 where
  sides : new.sides ≡ p.sides
  flows : new.flows ≡ p.flows

-- timers that are taken leave sides and flows
taken-rest : (g : Settings) (z : Plain) (xs : List Timer) → SameRest z (fold (λ y x. raise g x.side why.Timer y) z xs)
taken-rest g z [] = record { sides = refl; flows = refl }
taken-rest g z (x ∷ xs) =
    let a = raise-sides g x.side why.Timer z in
    let b = taken-rest g (raise g x.side why.Timer z) xs in
    record { sides = b.sides ∙ a.0; flows = b.flows ∙ a.1 }

leaves-begun : (z : SideId) (s : State) (ms : ℕ) → Leaves z s (begun s ms)
leaves-begun z s ms =
    let refilled : State = record s { groups = all_refilled ms s.groups } in
    let p : Plain = turned_to ms s.plain in
    let at_time : State = with_plain (timers_taken s.settings p) refilled in
    let same = taken-rest s.settings (record p { timers = filter (λ x. nat_lt p.time x.deadline) p.timers })
    (filter (λ x. nat_le x.deadline p.time) p.timers) in
    let first : Leaves z s at_time = leaves-sides z s at_time
    (record { settings = refl; flows = same.flows; lanes = refl; gauges = refl }) same.sides in
    leaves-then z first
    (leaves-fold z side_timed (λ x e. leaves-fold z (timed e) (λ y d. leaves-timed z e y d) x both_ways) at_time (all_sides at_time.plain))

-- a link is as it was, but for the time, whose sides wait for no moment then
pub begun-same : (k ms : ℕ) (s : State) → IsTimelessLink (begun s ms) k → SameLink k (at_time ms s) (begun s ms)
begun-same k ms s h = record {
  settings = (leaves-begun (record { link = k; side = In }) s ms).rest.settings;
  time = (frame-begun s ms).time;
  side = λ e here.
      let l = leaves-begun e s ms in
      let p = h e here in
      l.side (sym (l.told dir.Read) ∙ p.reads) (sym (l.told dir.Write) ∙ p.writes);
  flow = λ e here. ap (λ (xs : List Flow). slice_index_or xs (number e) no_flow) (leaves-begun e s ms).rest.flows;
  lane = λ e here. ap (λ xs. slice_index_or xs (number e) no_lane) (leaves-begun e s ms).rest.lanes;
  gauge = λ e here. ap (λ xs. slice_index_or xs (number e) no_gauge) (leaves-begun e s ms).rest.gauges;
}
