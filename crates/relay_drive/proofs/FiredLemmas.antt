-- Fires in a row, with their entries behind the trace of a scribe, and what hooks tell of them.
use Rattle.std.proofs.Common.{◌≡◌, ◌≢◌, ◌+◌, ◌≤◌, Bool, true, false, List, [], ◌∷◌, ◌++◌, length, Option, Some, None, refl, sym, ◌∙◌}
use Rattle.std.proofs.Common.{ap, subst}
use Rattle.std.proofs.Common.{arith, length-append}
use Rattle.std.specs.List.{All}
use Rattle.std.proofs.lemmas.List.Elements.{All-head}
use Rattle.ev_types.specs.declared.entry.Entry.TheVariants as entry
use Rattle.ev_types.specs.declared.side.SideId.{SideId}
use Rattle.ev_types.specs.declared.why.Why.{Why}
use Rattle.ev_types.specs.Growth.{Grew}
use Rattle.ev_types.specs.Trace.{Event, Trace}
use Rattle.ev_port.specs.Counting.{counted}
use Rattle.relay_model.specs.Due.{Reason}
use Rattle.relay_model.specs.Plain.{is_live}
use Rattle.relay_state.specs.Asking.{dispatching, left_to_fire, AsksAll, Fires, FiresSome, StopsAt}
use Rattle.relay_state.specs.State.{State}
use Rattle.relay_model.specs.Stages.{Stage}
use Rattle.relay_steps.specs.Meaning.{StandsFor}
use Rattle.relay_steps.specs.ToFire.{IsHooked, ReasonOf}
use Rattle.relay_steps.proofs.HookedSteps.{waits_are_hooked}
use Rattle.relay_drive.specs.declared.run.Run.{Run}
use Rattle.relay_drive.specs.DispatchPhase.{DispatchesAll, CutFire, CutDispatch}
use Rattle.relay_drive.specs.DispatchPhase.CutFire.{no_room, in_fire}
use Rattle.relay_drive.specs.Fired.{HasFired, FiredAs, FiredBut, FiresAny}
use Rattle.relay_drive.specs.Seats.{Telling, SeatFired}
use Rattle.relay_drive.specs.Steps.{Then}
use Rattle.relay_drive.proofs.GoesLemmas.{Grew-none, Grew-join}
use Rattle.relay_drive.proofs.HookTells.{tells-none, tells-then, tells-but, asks-within}
use Rattle.relay_drive.proofs.SeatLemmas.{fires-more, seat-tells}

-- no reason was fired yet
pub fired-none : {H : Type 0} {tells : Telling H} {run run' : Run} (l : Option Trace) (hooks gone : List (Option H)) →
    run'.relay.state ≡ dispatching run.relay.state → run'.entries ≡ run.entries →
    FiredAs tells None FiresAny run run' l l hooks gone hooks gone
fired-none {tells = tells} l hooks gone state entries = record {
  added = [];
  does = (0, (refl, state));
  list = Grew-none l;
  entries = ap (λ n. counted n 0) entries;
  hooked = tells-none tells None hooks gone [] refl;
}

-- one thing behind another
pub fired-then : {H : Type 0} {tells : Telling H} (short : Option SideId) {R S : State → Trace → State → Type 0} {a b c : Run}
    {l m n : Option Trace} {h1 g1 h2 g2 h3 g3 : List (Option H)} → FiredAs tells None R a b l m h1 g1 h2 g2 →
    FiredAs tells short S b c m n h2 g2 h3 g3 → FiredAs tells short (Then R S) a c l n h1 g1 h3 g3
fired-then {tells = tells} short {a = a} {b = b} {c = c} {l = l} {m = m} {n = n} {h1 = h1} {g1 = g1} {h2 = h2} {g2 = g2} {h3 = h3}
    {g3 = g3} f g = record {
      added = f.added ++ g.added;
      does = record { middle = b.relay.state; front = f.added; back = g.added; first = f.does; second = g.does; joined = refl };
      list = Grew-join l m n f.added g.added f.list g.list;
      entries = (let x = f.entries in let y = g.entries in let z = length-append f.added g.added in omega (arith, x, y, z));
      hooked = tells-then tells short h1 g1 h2 g2 h3 g3 f.added g.added (tells-but tells short h1 g1 h2 g2 f.added f.hooked) g.hooked;
    }

pub fired-as : {H : Type 0} {tells : Telling H} {short : Option SideId} {R S : State → Trace → State → Type 0} {a b : Run}
    {l m : Option Trace} {h1 g1 h2 g2 : List (Option H)} →
    ((x : Trace) → R a.relay.state x b.relay.state → S a.relay.state x b.relay.state) →
    FiredAs tells short R a b l m h1 g1 h2 g2 → FiredAs tells short S a b l m h1 g1 h2 g2
fired-as w f = record { added = f.added; does = w f.added f.does; list = f.list; entries = f.entries; hooked = f.hooked }

-- a fire at this side
abbrev pub FiresAt : Bool → SideId → State → Trace → State → Type 0
FiresAt stopped e s a new = (f : Fires stopped s a new) × (f.side ≡ e)

-- A reason was taken out of the batch, room was made, and it was fired.
module _ {H : Type 0} {tells : Telling H} (stopped : Bool) (short : Option SideId) (ok live : Bool) (m m1 new : Run)
    (l l1 l' : Option Trace) (e : SideId) (y : Why) (rest : List Reason) (hooks gone hooks' gone' : List (Option H))
    (first : m.relay.state.batch ≡ (e, y) ∷ rest) (taken : m1.relay.state ≡ left_to_fire rest m.relay.state) (same : m1.entries ≡ m.entries)
    (grew : Grew l l1 []) (lives : is_live m.relay.state.plain e ≡ true) (level : length gone ≡ length hooks)
    (fired : HasFired e y m1 new l1 l') (seat : SeatFired tells ok live e y new.relay.log hooks gone hooks' gone')
    (other : short ≢ Some e → ok ≡ true) (stops : new.relay.stopped ≡ stopped) where
  pub fire : FiresAt stopped e m.relay.state ((entry.Fired e y, []) ∷ new.relay.log) new.relay.state
  fire = (
    record {
      side = e;
      reason = y;
      rest = rest;
      first = first;
      live = lives;
      asks = fired.step.asked;
      few = fired.step.few;
      behind = new.relay.log;
      does = subst (λ z. AsksAll e fired.step.asked z new.relay.log new.relay.state) taken fired.step.does;
      entries = refl;
      stops = sym stops ∙ fired.step.stopped;
    },
    refl,
  )

  event : Event
  event = (entry.Fired e y, [])

  pub fired-step : FiredAs tells short (FiresAt stopped e) m new l l' hooks gone hooks' gone'
  unfolding fire event
  fired-step = record {
    added = event ∷ new.relay.log;
    does = fire;
    list = Grew-join l l1 l' [] (event ∷ new.relay.log) grew fired.list;
    entries = fired.entries ∙ ap (λ n. counted n (length (event ∷ new.relay.log))) same;
    hooked = seat-tells hooks gone hooks' gone' live e seat.was seat.now seat.there level seat.slot seat.out tells short y fire.0 refl refl
        (λ p. seat.told (other p));
  }

-- there was no room for the next fire
pub fired-no_room : {H : Type 0} {tells : Telling H} (m new : Run) (l l' : Option Trace) (rest : List Reason)
    (hooks gone : List (Option H)) →
    new.relay.state ≡ left_to_fire rest m.relay.state → new.entries ≡ m.entries → Grew l l' [] →
    FiredAs tells None CutFire m new l l' hooks gone hooks gone
fired-no_room {tells = tells} m new l l' rest hooks gone state entries grew = record {
  added = [];
  does = no_room rest (refl, state);
  list = grew;
  entries = ap (λ n. counted n 0) entries;
  hooked = tells-none tells None hooks gone [] refl;
}

-- what some fires and one thing more are

pub to-more : (e : SideId) (s new : State) (a : Trace) → Then FiresAny (FiresAt false e) s a new → FiresAny s a new
to-more e s new a h = (
  h.first.0 + 1,
  subst (λ z. FiresSome (h.first.0 + 1) (dispatching s) z new) (sym h.joined)
      (fires-more h.first.0 (dispatching s) h.middle new h.front h.back h.first.1 h.second.0),
)

pub to-stop : (e : SideId) (s new : State) (a : Trace) → Then FiresAny (FiresAt true e) s a new → StopsAt e.link s a new
to-stop e s new a h = record {
  many = h.first.0;
  middle = h.middle;
  front = h.front;
  back = h.back;
  fires = h.first.1;
  last = h.second.0;
  of_link = ap (λ (z : SideId). z.link) h.second.1;
  joined = h.joined;
}

pub to-cut : (s new : State) (a : Trace) → Then FiresAny CutFire s a new → CutDispatch s a new
to-cut s new a h = record {
  many = h.first.0;
  middle = h.middle;
  front = h.front;
  back = h.back;
  fires = h.first.1;
  last = h.second;
  joined = h.joined;
}

pub to-short : (b : Bool) (e : SideId) (s new : State) (a : Trace) → Then FiresAny (FiresAt b e) s a new → CutDispatch s a new
to-short b e s new a h = record {
  many = h.first.0;
  middle = h.middle;
  front = h.front;
  back = h.back;
  fires = h.first.1;
  last = in_fire (record { stopped = b; fires = h.second.0 });
  joined = h.joined;
}

pub to-all : (s new : State) (a : Trace) → new.batch ≡ [] → length s.plain.due ≤ length s.settings.hooks → FiresAny s a new →
    DispatchesAll s a new
to-all s new a over few h = record { does = record { many = h.0; fires = h.1; over = over }; few = few }

-- A fire behind others cut dispatch off, since memory was wanting for its hook.
pub fired-short : {H : Type 0} {tells : Telling H} {old m new : Run} {l l1 l' : Option Trace} {h0 g0 h1 g1 h2 g2 : List (Option H)}
    (stopped : Bool) (e : SideId) → FiredAs tells None FiresAny old m l l1 h0 g0 h1 g1 →
    FiredAs tells (Some e) (FiresAt stopped e) m new l1 l' h1 g1 h2 g2 → FiredBut tells CutDispatch old new l l' h0 g0 h2 g2
unfolding fired-then fired-as
fired-short {h1 = h1} {g1 = g1} stopped e before last =
    let fire = last.does.0 in (
      Some e,
      fired-as (λ x q. to-short stopped e _ _ x q) (fired-then (Some e) before last),
      record {
        before = before.added;
        reason = fire.reason;
        fire = fire.behind;
        joined = ap (λ z. before.added ++ z) (fire.entries ∙ ap (λ z. (entry.Fired z fire.reason, []) ∷ fire.behind) last.does.1);
        within = asks-within fire.side fire.asks _ _ fire.behind fire.does;
        hooks_then = h1;
        gone_then = g1;
        told = before.hooked;
      },
    )

-- where nothing more changed
pub fired-still : {H : Type 0} {tells : Telling H} {short : Option SideId} {R : State → Trace → State → Type 0} {old m new : Run}
    {l l' : Option Trace} {h1 g1 h2 g2 : List (Option H)} → new.relay.state ≡ m.relay.state → new.entries ≡ m.entries →
    FiredAs tells short R old m l l' h1 g1 h2 g2 → FiredAs tells short R old new l l' h1 g1 h2 g2
fired-still {R = R} {old = old} state entries f = record {
  added = f.added;
  does = subst (R old.relay.state f.added) (sym state) f.does;
  list = f.list;
  entries = ap (λ n. counted n 0) entries ∙ f.entries;
  hooked = f.hooked;
}

-- the next reason to be fired is of a live side that has a hook
pub due-hooked : (s : State) (e : SideId) (y : Why) (rest : List Reason) → (t : Trace) × StandsFor t (Stage.Dispatching s.batch) s →
    s.batch ≡ (e, y) ∷ rest → IsHooked s.settings s.plain e
due-hooked s e y rest stood first =
    (All-head (ReasonOf s.settings s.plain) (e, y) rest
    (subst (All (ReasonOf s.settings s.plain)) first (waits_are_hooked s.settings stood.0 _ stood.1.reached).left)).0
