-- What hooks ask leaves every link that they don't name as it is, and no count of a link comes far by it.
use Rattle.std.proofs.Common.{◌≡◌, ◌≢◌, inl, inr, ℕ, zero, suc, ◌<◌, Bool, true, false, ◌&&◌, ◌||◌, nat_le, if◌then◌else◌, List, [], ◌∷◌}
use Rattle.std.proofs.Common.{◌++◌, Option, Some, None, get_or, set, refl, sym, ◌∙◌, ap, subst}
use Rattle.std.specs.Prelude.{⊤}
use Rattle.std.specs.List.{All}
use Rattle.std.proofs.lemmas.List.Elements.{All-head, All-tail}
use Rattle.token_bucket.specs.declared.limit.Dir.TheVariants as dir
use Rattle.ev_types.specs.declared.act.Act.{Act}
use Rattle.ev_types.specs.declared.act.Act.TheVariants as act
use Rattle.ev_types.specs.declared.answer.AskAnswer.{AskAnswer}
use Rattle.ev_types.specs.declared.answer.AskAnswer.TheVariants as ask
use Rattle.ev_types.specs.declared.entry.Entry.TheVariants as entry
use Rattle.ev_types.specs.declared.side.SideId.{SideId}
use Rattle.ev_types.specs.declared.why.Why.{Why}
use Rattle.ev_types.specs.declared.why.Why.TheVariants as why
use Rattle.ev_types.specs.Sides.{number, peer}
use Rattle.ev_types.specs.Trace.{Event, Trace}
use Rattle.relay_model.specs.Due.{Reason, with_reason}
use Rattle.rate_group.specs.Steps.{joined}
use Rattle.relay_model.specs.Flow.{no_flow}
use Rattle.relay_model.specs.Plain.{Plain, side_at, change_side, is_live}
use Rattle.relay_model.specs.Reasons.{has_hook}
use Rattle.relay_state.specs.Asking.{asked, ask_events, limit_now, dispatching, left_to_fire, AsksOne, AsksAll, Fires, FiresSome}
use Rattle.relay_state.specs.Closing.{in_side, out_side, freed, without_group}
use Rattle.relay_state.specs.Counting.{has_flown_far, has_read_far}
use Rattle.relay_state.specs.Rooms.{input_length, output_length}
use Rattle.relay_state.specs.State.{State, Lane, no_lane, lane_at, with_plain, with_lane, lane_left, lane_lost}
use Rattle.relay_drive.specs.Agenda.{CountsAreFew}
use Rattle.relay_drive.specs.Asked.{link_changed, link_changed_by, IsAskedElsewhere}
use Rattle.relay_drive.specs.Links.{SameLink, has_spent_count_from, has_spent_count}
use Rattle.relay_drive.proofs.DispatchLemmas.{one-leaves, one-done}
use Rattle.relay_drive.proofs.MeantFolds.{Each_is}
use Rattle.relay_drive.proofs.OtherLinks.{same_link, same_link-then, same_link-is, by_parts, by_gauge, by_groups, parts-side}
use Rattle.relay_drive.proofs.OtherLinks.{freed-other, same-waits}
use Rattle.relay_drive.proofs.OtherLinks.{raise_read-other, raise_write-other, by_leaving}

-- Links that an ask changes

apart : (k n : ℕ) → ◌≢◌ {A = Option ℕ} (Some n) (Some k) → k ≢ n
apart k n h = λ p. h (ap Some (sym p))

-- An ask that is done leaves every link as it is that it doesn't change.
pub asked-other : (k : ℕ) (a : Act) (s : State) → link_changed a ≢ Some k → SameLink k s (asked a s)
asked-other k (act.Free e) s h = freed-other k s e (apart k e.link h)
asked-other k (act.Enable e d) s h = by_parts k s _ (parts-side k e _ s.plain (apart k e.link h))
asked-other k (act.Disable e d) s h = by_parts k s _ (parts-side k e _ s.plain (apart k e.link h))
asked-other k (act.Marks e d low high) s h = by_parts k s _ (parts-side k e _ s.plain (apart k e.link h))
asked-other k (act.Timeouts e r w) s h = by_parts k s _ (parts-side k e _ s.plain (apart k e.link h))
asked-other k (act.Rate e cfg) s h =
    let p : Plain = change_side e (λ x. record x { limit = limit_now s e x.limit cfg }) s.plain in
    same_link-then k (by_parts k s p (parts-side k e _ s.plain (apart k e.link h))) (by_gauge k (with_plain p s) e _ (apart k e.link h))
asked-other k (act.Join e n) s h =
    let p : Plain = change_side e (λ x. record x { group = Some n }) s.plain in
    same_link-then k (by_groups k s (joined n (number e) s.groups))
    (by_parts k (record s { groups = joined n (number e) s.groups }) p (parts-side k e _ s.plain (apart k e.link h)))
asked-other k (act.Leave e) s h =
    let p : Plain = change_side e (λ x. record x { group = None }) s.plain in
    same_link-then k (by_leaving k s e) (by_parts k (without_group e s) p (parts-side k e _ s.plain (apart k e.link h)))
asked-other k (act.Trigger e dir.Read) s h = raise_read-other k s e
asked-other k (act.Trigger e dir.Write) s h = raise_write-other k s e
asked-other k (act.Timer e delay) s h = same-waits k s _ refl refl refl
asked-other k (act.Cancel e) s h = same-waits k s _ refl refl refl
asked-other k (act.Incref e) s h = by_parts k s _ (parts-side k e _ s.plain (apart k e.link h))
asked-other k (act.Decref e) s h = by_parts k s _ (parts-side k e _ s.plain (apart k e.link h))
asked-other k act.Stop s h = same_link k s

-- an ask with its answer changes nothing of this link
abbrev pub IsElsewhere : ℕ → Act → AskAnswer → Type 0
IsElsewhere k a ask.Ok = link_changed a ≢ Some k
IsElsewhere k a _ = ⊤

elsewhere-of : (k : ℕ) (me : SideId) (a : Act) (r : AskAnswer) → link_changed_by (entry.Asked me a r) ≢ Some k → IsElsewhere k a r
elsewhere-of k me a ask.Ok h = h
elsewhere-of k me a ask.Memory h = tt
elsewhere-of k me a ask.NotLive h = tt
elsewhere-of k me a ask.NoGroup h = tt
elsewhere-of k me a ask.BadValue h = tt
elsewhere-of k me a ask.TooManyRefs h = tt

pub ask-other : (k : ℕ) {me : SideId} {a : Act} {r : AskAnswer} {s new : State} {added : Trace} → AsksOne me a r s added new →
    IsElsewhere k a r → SameLink k s new
ask-other k {a = a} {r = r} {s = s} {new = new} h elsewhere = elim (one-done h) as (λ _. SameLink k s new) [
  | inl done ↦ subst (SameLink k s) (sym done.1) (asked-other k a s (subst (IsElsewhere k a) done.0 elsewhere))
  | inr left ↦ same_link-is k left
]

-- asks in a row
pub asks-other : (k : ℕ) (me : SideId) (xs : List (Act × AskAnswer)) (s new : State) (a : Trace) → AsksAll me xs s a new →
    Each_is (λ x. IsElsewhere k x.0 x.1) xs → SameLink k s new
asks-other k me [] s new a h each = same_link-is k h.1
asks-other k me (x ∷ xs) s new a h each =
    same_link-then k (ask-other k h.3 each.0) (asks-other k me xs h.0 new h.2 h.4 each.1)

-- By entries

split-elsewhere : (k : ℕ) (t u : Trace) → Each_is (IsAskedElsewhere k) (t ++ u) → Each_is (IsAskedElsewhere k) t ×
    Each_is (IsAskedElsewhere k) u
split-elsewhere k [] u h = (tt, h)
split-elsewhere k (x ∷ t) u h = let rest = split-elsewhere k t u h.1 in ((h.0, rest.0), rest.1)

one-elsewhere : (k : ℕ) (me : SideId) (s : State) (a : Act) (r : AskAnswer) → Each_is (IsAskedElsewhere k) (ask_events me s a r) →
    IsElsewhere k a r
one-elsewhere k me s (act.Free e) ask.Ok h = h.0
one-elsewhere k me s (act.Free e) r h = elsewhere-of k me (act.Free e) r h.0
one-elsewhere k me s a r h = elsewhere-of k me a r h.0

events-elsewhere : (k : ℕ) (me : SideId) (xs : List (Act × AskAnswer)) (s new : State) (a : Trace) → AsksAll me xs s a new →
    Each_is (IsAskedElsewhere k) a → SameLink k s new
events-elsewhere k me [] s new a h each = same_link-is k h.1
events-elsewhere k me (x ∷ xs) s new a h each =
    let parts = split-elsewhere k h.1 h.2 (subst (Each_is (IsAskedElsewhere k)) h.5 each) in
    let first : Each_is (IsAskedElsewhere k) (ask_events me s x.0 x.1) = subst (Each_is (IsAskedElsewhere k)) h.3.entries parts.0 in
    same_link-then k (ask-other k h.3 (one-elsewhere k me s x.0 x.1 first)) (events-elsewhere k me xs h.0 new h.2 h.4 parts.1)

each-all : (P : Event → Type 0) (u : Trace) → All P u → Each_is P u
each-all P [] h = tt
each-all P (x ∷ u) h = (All-head P x u h, each-all P u (All-tail P x u h))

-- asks in a row whose entries change nothing of this link
pub asked-elsewhere : (k : ℕ) (me : SideId) (xs : List (Act × AskAnswer)) (s new : State) (a : Trace) → AsksAll me xs s a new →
    All (IsAskedElsewhere k) a → SameLink k s new
asked-elsewhere k me xs s new a h all = events-elsewhere k me xs s new a h (each-all (IsAskedElsewhere k) a all)

-- what is to be fired belongs to no link
pub left-other : (k : ℕ) (rs : List Reason) (s : State) → SameLink k s (left_to_fire rs s)
left-other k rs s = record {
  settings = refl;
  time = refl;
  side = λ e h. refl;
  flow = λ e h. refl;
  lane = λ e h. refl;
  gauge = λ e h. refl;
}

pub dispatching-other : (k : ℕ) (s : State) → SameLink k s (dispatching s)
dispatching-other k s = record {
  settings = refl;
  time = refl;
  side = λ e h. refl;
  flow = λ e h. refl;
  lane = λ e h. refl;
  gauge = λ e h. refl;
}

fire-each : (k : ℕ) {stopped : Bool} {s new : State} {a : Trace} → Fires stopped s a new → Each_is (IsAskedElsewhere k) a → SameLink k s new
fire-each k {s = s} {new = new} h each =
    same_link-then k (left-other k h.rest s)
    (events-elsewhere k h.side h.asks (left_to_fire h.rest s) new h.behind h.does (subst (Each_is (IsAskedElsewhere k)) h.entries each).1)

-- a fire whose entries change nothing of this link
pub fire-other : (k : ℕ) {stopped : Bool} {s new : State} {a : Trace} → Fires stopped s a new → All (IsAskedElsewhere k) a →
    SameLink k s new
fire-other k {a = a} h all = fire-each k h (each-all (IsAskedElsewhere k) a all)

fires-each : (k n : ℕ) (s new : State) (a : Trace) → FiresSome n s a new → Each_is (IsAskedElsewhere k) a → SameLink k s new
fires-each k zero s new a h each = same_link-is k h.1
fires-each k (suc n) s new a h each =
    let parts = split-elsewhere k h.1 h.2 (subst (Each_is (IsAskedElsewhere k)) h.5 each) in
    same_link-then k (fires-each k n s h.0 h.1 h.3 parts.0) (fire-each k h.4 parts.1)

-- and some fires
pub fires-other : (k n : ℕ) (s new : State) (a : Trace) → FiresSome n s a new → All (IsAskedElsewhere k) a → SameLink k s new
fires-other k n s new a h all = fires-each k n s new a h (each-all (IsAskedElsewhere k) a all)

-- Counts

-- what was counted is as far as it was
pub record SameFar (s new : State) : Type 0 where
  pub opened : new.plain.opened ≡ s.plain.opened
  pub flows : new.plain.flows ≡ s.plain.flows
  pub lanes : (i : ℕ) → has_read_far (get_or new.lanes i no_lane) ≡ has_read_far (get_or s.lanes i no_lane)

far-then : {s m new : State} → SameFar s m → SameFar m new → SameFar s new
far-then f g = record { opened = g.opened ∙ f.opened; flows = g.flows ∙ f.flows; lanes = λ i. g.lanes i ∙ f.lanes i }

far-same : (s : State) → SameFar s s
far-same s = record { opened = refl; flows = refl; lanes = λ i. refl }

far-is : (s new made : State) → new ≡ made → SameFar s made → SameFar s new
far-is s new made h k = subst (SameFar s) (sym h) k

-- a lane is replaced by one that has come as far
set-far : (xs : List Lane) (j i : ℕ) (l : Lane) → has_read_far l ≡ has_read_far (get_or xs j no_lane) →
    has_read_far (get_or (set xs j l) i no_lane) ≡ has_read_far (get_or xs i no_lane)
set-far [] j i l h = refl
set-far (y ∷ ys) zero zero l h = h
set-far (y ∷ ys) zero (suc i) l h = refl
set-far (y ∷ ys) (suc j) zero l h = refl
set-far (y ∷ ys) (suc j) (suc i) l h = set-far ys j i l h

far-lane : (s : State) (e : SideId) (l : Lane) → has_read_far l ≡ has_read_far (lane_at s e) → SameFar s (with_lane e l s)
far-lane s e l h = record { opened = refl; flows = refl; lanes = λ i. set-far s.lanes (number e) i l h }

far-freed : (s : State) (e : SideId) → SameFar s (freed e s)
far-freed s e =
    let own : State = with_lane e (lane_left (lane_at s e)) s in
    let near : SameFar s own = far-lane s e (lane_left (lane_at s e)) refl in
    let far : SameFar own (with_lane (peer e) (lane_lost (lane_at own (peer e))) own) =
    far-lane own (peer e) (lane_lost (lane_at own (peer e))) refl in
    record { opened = refl; flows = refl; lanes = λ i. far.lanes i ∙ near.lanes i }

far-plain : (s : State) (p : Plain) → p.opened ≡ s.plain.opened → p.flows ≡ s.plain.flows → SameFar s (with_plain p s)
far-plain s p h k = record { opened = h; flows = k; lanes = λ i. refl }

far-raised : (b c : Bool) (s : State) (e : SideId) (y : Why) →
    SameFar s (if b then with_plain (if c then record (s.plain) { due = with_reason e y s.plain.due } else s.plain) s else s)
far-raised true true s e y = far-plain s _ refl refl
far-raised true false s e y = far-plain s s.plain refl refl
far-raised false c s e y = far-same s

-- no ask changes that
pub far-asked : (a : Act) (s : State) → SameFar s (asked a s)
far-asked (act.Free e) s = far-freed s e
far-asked (act.Rate e cfg) s = record { opened = refl; flows = refl; lanes = λ i. refl }
far-asked (act.Join e n) s = record { opened = refl; flows = refl; lanes = λ i. refl }
far-asked (act.Leave e) s = record { opened = refl; flows = refl; lanes = λ i. refl }
far-asked (act.Trigger e dir.Read) s =
    far-raised (nat_le (side_at s.plain e).marks.read_low (input_length s e)) (has_hook s.settings e && is_live s.plain e) s e why.Read
far-asked (act.Trigger e dir.Write) s =
    far-raised (nat_le (output_length s e) (side_at s.plain e).marks.write_low) (has_hook s.settings e && is_live s.plain e) s e why.Write
far-asked a s = far-plain s _ refl refl

pub far-asks : (me : SideId) (xs : List (Act × AskAnswer)) (s new : State) (a : Trace) → AsksAll me xs s a new → SameFar s new
far-asks me [] s new a h = far-is s new s h.1 (far-same s)
far-asks me (x ∷ xs) s new a h =
    let one : SameFar s h.0 = elim (one-leaves h.3) as (λ _. SameFar s h.0) [
      | inl k ↦ far-is s h.0 _ k.1 (far-asked x.0 s)
      | inr k ↦ far-is s h.0 s k (far-same s)
    ] in
    far-then one (far-asks me xs h.0 new h.2 h.4)

far-left : (rs : List Reason) (s : State) → SameFar s (left_to_fire rs s)
far-left rs s = record { opened = refl; flows = refl; lanes = λ i. refl }

far-dispatching : (s : State) → SameFar s (dispatching s)
far-dispatching s = record { opened = refl; flows = refl; lanes = λ i. refl }

pub far-fire : {stopped : Bool} {s new : State} {a : Trace} → Fires stopped s a new → SameFar s new
far-fire {s = s} {new = new} h = far-then (far-left h.rest s) (far-asks h.side h.asks (left_to_fire h.rest s) new h.behind h.does)

pub far-fires : (n : ℕ) (s new : State) (a : Trace) → FiresSome n s a new → SameFar s new
far-fires zero s new a h = far-is s new s h.1 (far-same s)
far-fires (suc n) s new a h = far-then (far-fires n s h.0 h.1 h.3) (far-fire h.4)

from-far : (s new : State) (e : SideId) → SameFar s new → has_spent_count_from new e ≡ has_spent_count_from s e
from-far s new e h =
    let flows = h.flows in
    let lane = h.lanes (number e) in
    λ i. has_flown_far (get_or (flows i) (number e) no_flow) || lane i

-- a link's count has come as far
pub far-count : (s new : State) (k : ℕ) → SameFar s new → has_spent_count new k ≡ has_spent_count s k
far-count s new k h = λ i. from-far s new (in_side k) h i || from-far s new (out_side k) h i

-- where no count has come far, none has
pub far-few : (s new : State) → SameFar s new → CountsAreFew s → CountsAreFew new
far-few s new h few = λ k below. far-count s new k h ∙ few k (subst (λ n. k < n) h.opened below)

pub few-left : (rs : List Reason) (s : State) → CountsAreFew s → CountsAreFew (left_to_fire rs s)
few-left rs s few = far-few s (left_to_fire rs s) (far-left rs s) few

pub few-dispatching : (s : State) → CountsAreFew s → CountsAreFew (dispatching s)
few-dispatching s few = far-few s (dispatching s) (far-dispatching s) few

pub few-asks : (me : SideId) (xs : List (Act × AskAnswer)) (s new : State) (a : Trace) → AsksAll me xs s a new → CountsAreFew s →
    CountsAreFew new
few-asks me xs s new a h few = far-few s new (far-asks me xs s new a h) few

pub few-fire : {stopped : Bool} {s new : State} {a : Trace} → Fires stopped s a new → CountsAreFew s → CountsAreFew new
few-fire {s = s} {new = new} h few = far-few s new (far-fire h) few

pub few-fires : (n : ℕ) (s new : State) (a : Trace) → FiresSome n s a new → CountsAreFew s → CountsAreFew new
few-fires n s new a h few = far-few s new (far-fires n s new a h) few
