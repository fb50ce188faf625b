-- What a link came to is what the frees of a trace tell.
use Rattle.std.proofs.Common.{◌≡◌, ℕ, zero, suc, ◌+◌, ◌<◌, ◌≤◌, Bool, true, false, ◌&&◌, ◌||◌, not, if◌then◌else◌, [], ◌∷◌, ◌++◌, refl, sym}
use Rattle.std.proofs.Common.{◌∙◌, ap, arith}
use Rattle.std.specs.List.{list_any}
use Rattle.std.proofs.lemmas.Bool.{and_from, and_parts, or_left}
use Rattle.std.proofs.lemmas.List.Folds.{list_any-append}
use Rattle.std.proofs.Math.Bool.{or-false}
use Rattle.ev_types.specs.declared.side.SideId.{SideId}
use Rattle.ev_types.specs.declared.status.LinkState.TheVariants as state
use Rattle.ev_types.specs.declared.why.Cause.TheVariants as cause
use Rattle.ev_types.specs.declared.entry.Entry.TheVariants as entry
use Rattle.ev_types.specs.Sides.{peer}
use Rattle.ev_types.specs.Trace.{Event, Trace}
use Rattle.relay_model.specs.Trace.{write_closed_by, is_write_closed}
use Rattle.relay_model.specs.Settings.{Settings}
use Rattle.relay_model.specs.Plain.{Plain, side_at, is_live}
use Rattle.relay_model.specs.Close.{CloseStep}
use Rattle.relay_model.specs.Stages.{Stage, State as ModelState, at, Accepting, Freeing, Closing}
use Rattle.relay_model.specs.Turn.{Reaches}
use Rattle.relay_model.specs.Answers.{TurnAnswer, LeftAt}
use Rattle.relay_model.specs.Told.{is_freed, is_freeing}
use Rattle.relay_model.specs.Totals.{opened}
use Rattle.relay_model.proofs.EndLemmas.{same_end-eq}
use Rattle.relay_model.proofs.ToldLemmas.{Kept}
use Rattle.relay_model.proofs.HeldLemmas.{DoneReady, held}
use Rattle.relay_model.proofs.HooklessLemmas.{Asleep, asleep}
use Rattle.relay_model.proofs.CauseLemmas.{frees_have_causes}
use Rattle.relay_model.proofs.StandsLawLemmas.{closed_is_whole}
use Rattle.relay_state.specs.State.{State}
use Rattle.relay_state.specs.Closing.{in_side, out_side}
use Rattle.relay_state.specs.Counting.{link_count, is_open, open_below}
use Rattle.relay_steps.specs.Meaning.{StandsFor}
use Rattle.relay_laws.specs.Links.{done_by, is_done, lives_in, link_state_in, living_below, LinksAre, AllRecorded, LinksAreTold}
use Rattle.relay_laws.specs.Links.{FreesAreRecordedAtOnce, DoneIsWhole}
use Rattle.relay_laws.proofs.LawLemmas.{told, means_conserved}
use Rattle.relay_laws.proofs.DoneOrder.{IsOutNext, Ended}
use Rattle.relay_laws.proofs.DoneLemmas.{joined}

-- Tests

-- where an event of a trace passes a test
record Found (p : Event → Bool) (t : Trace) : Type 0 where
  pub before : Trace
  pub event : Event
  pub after : Trace
  pub is : t ≡ before ++ event ∷ after
  pub passes : p event ≡ true

found : (p : Event → Bool) (t : Trace) → list_any p t ≡ true → Found p t
found p [] h = absurd (cc)
found p (y ∷ t) h = go (p y) refl (λ k. found p t k) h
  where
    go : (b : Bool) → p y ≡ b → (list_any p t ≡ true → Found p t) → (b || list_any p t) ≡ true → Found p (y ∷ t)
    go true e rest k = record { before = []; event = y; after = t; is = refl; passes = e }
    go false e rest k =
        let f = rest k in
        record { before = y ∷ f.before; event = f.event; after = f.after; is = ap (λ z. y ∷ z) f.is; passes = f.passes }

-- what holds of a beginning holds of the whole
any-later : (p : Event → Bool) (t before more : Trace) → t ≡ before ++ more → list_any p before ≡ true → list_any p t ≡ true
any-later p t before more is h = ap (list_any p) is ∙ list_any-append p before more ∙ or_left (list_any p before) (list_any p more) h

same_truth : (a b : Bool) → (a ≡ true → b ≡ true) → (b ≡ true → a ≡ true) → a ≡ b
same_truth true b f h = sym (f refl)
same_truth false true f h = absurd (let k = h refl in cc)
same_truth false false f h = refl

-- Frees as done

module _ (g : Settings) (t : Trace) (s : ModelState) (r : Reaches g t s) where
  -- writing was ended at both sides before one was freed as done
  done-closed : (e : SideId) → is_done e t ≡ true → (is_write_closed e t ≡ true) × (is_write_closed (peer e) t ≡ true)
  done-closed e h = let f = found (done_by e) t h in by_event f.before f.event f.after f.is f.passes
    where
      by_event : (before : Trace) (y : Event) (after : Trace) → t ≡ before ++ y ∷ after → done_by e y ≡ true →
          (is_write_closed e t ≡ true) × (is_write_closed (peer e) t ≡ true)
      by_event before (entry.Freed side cause.Done moved given, bytes) after is w =
          let k = frees_have_causes g t before after side cause.Done moved given bytes (s, r) is in
          let same = same_end-eq side e w in
          let more = (entry.Freed side cause.Done moved given, bytes) ∷ after in (
            any-later (write_closed_by e) t before more is (ap (λ z. is_write_closed z before) (sym same) ∙ k.0),
            any-later (write_closed_by (peer e)) t before more is (ap (λ z. is_write_closed (peer z) before) (sym same) ∙ k.1),
          )
      by_event before _ after is w = absurd (cc)

out-lives : (k : ℕ) (x : Stage) (p : Plain) → DoneReady x p → IsOutNext k x → is_live p (out_side k) ≡ true
out-lives k (Closing (CloseStep.OutDone n ∷ cs)) p ready j = ap (λ z. is_live p (out_side z)) (sym j) ∙ ready.0.live
out-lives k (Closing _) p ready j = absurd j
out-lives k _ p ready j = absurd j

-- The state of a link

state-is : (li lo wi wo fi fo d q : Bool) → li ≡ not fi → lo ≡ not fo → (fi ≡ true → fo ≡ true → (wi && wo) ≡ (d && q)) →
    (if li || lo then state.Live else (if wi && wo then state.Done else state.Gone))
    ≡ (if not (fi && fo) then state.Live else (if d && q then state.Done else state.Gone))
state-is false false wi wo true true d q a b h = ap (λ z. if z then state.Done else state.Gone) (h refl refl)
state-is true lo wi wo true fo d q a b h = absurd (cc)
state-is true lo wi wo false fo d q a b h = refl
state-is false lo wi wo false fo d q a b h = absurd (cc)
state-is false true wi wo true true d q a b h = absurd (cc)
state-is false true wi wo true false d q a b h = refl
state-is false false wi wo true false d q a b h = absurd (cc)

open-is : (li lo fi fo : Bool) → li ≡ not fi → lo ≡ not fo → (li || lo) ≡ not (fi && fo)
open-is li lo true fo a b = ap (λ z. z || lo) a ∙ b
open-is li lo false fo a b = ap (λ z. z || lo) a

-- Frees are recorded

idle-recorded : (g : Settings) (x : Stage) (p : Plain) → Asleep g x p → AllRecorded x
idle-recorded g (Freeing gone f rs) p h e = absurd h.idle
idle-recorded g _ p h e = refl

may_open-recorded : (g : Settings) (x : Stage) (p : Plain) → LeftAt g TurnAnswer.OpenFault x p → AllRecorded x
may_open-recorded g (Accepting n marks) p h e = refl
may_open-recorded g _ p h e = absurd h

may_lack-recorded : (g : Settings) (x : Stage) (p : Plain) → LeftAt g TurnAnswer.Memory x p → AllRecorded x
may_lack-recorded g (Freeing gone f rs) p h e = absurd h
may_lack-recorded g _ p h e = refl

-- wherever a turn may answer, every free is recorded
pub left-recorded : (g : Settings) (answer : TurnAnswer) (x : Stage) (p : Plain) → LeftAt g answer x p → AllRecorded x
left-recorded g TurnAnswer.Went x p h e = ap (λ z. is_freeing z e) h
left-recorded g (TurnAnswer.Stopped link) x p h e = ap (λ z. is_freeing z e) h
left-recorded g TurnAnswer.PollFault x p h e = ap (λ z. is_freeing z e) h
left-recorded g TurnAnswer.OpenFault x p h e = may_open-recorded g x p h e
left-recorded g TurnAnswer.Spent x p h e = ap (λ z. is_freeing z e) h
left-recorded g TurnAnswer.Memory x p h e = may_lack-recorded g x p h e

pub frees_are_recorded_at_once : FreesAreRecordedAtOnce
frees_are_recorded_at_once t x s k = record {
  left = λ answer left. left-recorded s.settings answer x s.plain left;
  hookless = λ none. idle-recorded s.settings x s.plain (asleep s.settings t (at x s.plain) none k.reached);
}

module _ (t : Trace) (x : Stage) (s : State) (h : StandsFor t x s) where
  all : Kept s.settings t x s.plain
  all = told t x s h

  pub links-told : s.plain.opened ≡ opened t
  links-told = all.counts.shape.opened

  closed-told : (e : SideId) → e.link < s.plain.opened → (side_at s.plain e).write_ended ≡ is_write_closed e t
  closed-told e lt = (all.each e lt).write_ended

  -- a side whose free is recorded doesn't live
  pub freed-told : (e : SideId) → e.link < s.plain.opened → is_freed e t ≡ true → is_live s.plain e ≡ false
  freed-told e lt freed = (all.each e lt).live ∙ ap (λ b. not (b || is_freeing x e)) freed

module _ (t : Trace) (x : Stage) (s : State) (h : StandsFor t x s) (still : AllRecorded x) where
  abbrev p : Plain
  p = s.plain

  abbrev g : Settings
  g = s.settings

  pub live-told : (e : SideId) → e.link < p.opened → is_live p e ≡ not (is_freed e t)
  live-told e lt = ((all t x s h).each e lt).live ∙ ap not (ap (λ z. is_freed e t || z) (still e) ∙ or-false (is_freed e t))

  both_done : (k : ℕ) → k < p.opened → is_freed (in_side k) t ≡ true → is_freed (out_side k) t ≡ true →
      ((side_at p (in_side k)).write_ended && (side_at p (out_side k)).write_ended) ≡ (is_done (in_side k) t && is_done (out_side k) t)
  both_done k lt fi fo = same_truth _ _ forth back
    where
      forth : ((side_at p (in_side k)).write_ended && (side_at p (out_side k)).write_ended) ≡ true →
          (is_done (in_side k) t && is_done (out_side k) t) ≡ true
      forth w =
          let parts = and_parts (side_at p (in_side k)).write_ended (side_at p (out_side k)).write_ended w in
          by_case ((joined g t (at x p) h.reached).each k lt parts.0 parts.1)
        where
          by_case : Ended k t x p → (is_done (in_side k) t && is_done (out_side k) t) ≡ true
          by_case (Ended.joining i o j) =
              absurd (let dead : is_live p (in_side k) ≡ false = live-told (in_side k) lt ∙ ap not fi in cc)
          by_case (Ended.half_done i j) = absurd (
              let live = out-lives k x p (held g t (at x p) h.reached).ready j in
              let dead : is_live p (out_side k) ≡ false = live-told (out_side k) lt ∙ ap not fo in cc)
          by_case (Ended.all_done i o) = and_from (is_done (in_side k) t) (is_done (out_side k) t) i o

      back : (is_done (in_side k) t && is_done (out_side k) t) ≡ true →
          ((side_at p (in_side k)).write_ended && (side_at p (out_side k)).write_ended) ≡ true
      back d =
          let one = (and_parts (is_done (in_side k) t) (is_done (out_side k) t) d).0 in
          let closed = done-closed g t (at x p) h.reached (in_side k) one in
          and_from (side_at p (in_side k)).write_ended (side_at p (out_side k)).write_ended
          (closed-told t x s h (in_side k) lt ∙ closed.0) (closed-told t x s h (out_side k) lt ∙ closed.1)

  state-told : (k : ℕ) → k < p.opened → (link_count s k).state ≡ link_state_in t k
  state-told k lt =
      state-is (is_live p (in_side k)) (is_live p (out_side k)) (side_at p (in_side k)).write_ended (side_at p (out_side k)).write_ended
      (is_freed (in_side k) t) (is_freed (out_side k) t) (is_done (in_side k) t) (is_done (out_side k) t)
      (live-told (in_side k) lt) (live-told (out_side k) lt) (both_done k lt)

  living-told : (n : ℕ) → n ≤ p.opened → open_below s n ≡ living_below t n
  living-told zero le = refl
  living-told (suc n) le =
      let lt : n < p.opened = omega (arith, le) in
      let less = living-told n (omega (arith, le)) in
      let near = live-told (in_side n) lt in
      let far = live-told (out_side n) lt in
      let one : is_open s n ≡ lives_in t n = open-is _ _ (is_freed (in_side n) t) (is_freed (out_side n) t) near far in
      ap (λ z. z + (if is_open s n then 1 else 0)) less ∙ ap (λ b. living_below t n + (if b then 1 else 0)) one

  links-are : LinksAre t s
  links-are = record {
    links = links-told t x s h;
    each = λ k lt. state-told k (let o = links-told t x s h in omega (arith, o, lt));
    living = living-told p.opened (omega arith) ∙ ap (living_below t) (links-told t x s h);
  }

pub links_are_told : LinksAreTold
links_are_told t x s h recorded = links-are t x s h recorded

-- Links that are done

done-of : (live : Bool) (near far : Bool) →
    (if live then state.Live else (if near && far then state.Done else state.Gone)) ≡ state.Done → (near && far) ≡ true
done-of true near far h = absurd (cc)
done-of false true true h = refl
done-of false true false h = absurd (cc)
done-of false false far h = absurd (cc)

pub done_is_whole : DoneIsWhole
done_is_whole t x s h link is =
    let d : Bool = is_done (in_side link) t in
    let q : Bool = is_done (out_side link) t in
    let both = and_parts d q (done-of (lives_in t link) d q is) in
    let closed = done-closed s.settings t (at x s.plain) h.reached (in_side link) both.0 in
    let all = (means_conserved t x s h).conserved.accounted in
    (closed_is_whole s.settings t s.plain all (in_side link) closed.1, closed_is_whole s.settings t s.plain all (out_side link) closed.0)
