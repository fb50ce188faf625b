-- Asks in a row: what calls of a hook come to, in the words of a fire, and what their events tell.
use Rattle.std.proofs.Common.{◌≡◌, ◌≤◌, Bool, true, false, ◌||◌, if◌then◌else◌, List, [], ◌∷◌, ◌++◌, Option, Some, None}
use Rattle.std.proofs.Common.{refl, sym, ◌∙◌, ap, subst, arith, append_assoc, append-nil, length-append}
use Rattle.std.specs.List.{list_any}
use Rattle.std.proofs.lemmas.Grind.{flat_map-append}
use Rattle.ev_types.specs.declared.act.Act.{Act}
use Rattle.ev_types.specs.declared.act.Act.TheVariants as act
use Rattle.ev_types.specs.declared.answer.AskAnswer.{AskAnswer}
use Rattle.ev_types.specs.declared.answer.AskAnswer.TheVariants as ask
use Rattle.ev_types.specs.declared.side.SideId.{SideId}
use Rattle.ev_types.specs.Sides.{same_end}
use Rattle.ev_types.specs.Trace.{Trace}
use Rattle.relay_model.specs.Asks.{most_asks}
use Rattle.relay_model.specs.Hooked.{asked_by, asked_in}
use Rattle.relay_state.specs.State.{State}
use Rattle.relay_state.specs.Asking.{AsksOne, AsksAll, ask_events, stops}
use Rattle.relay_core.specs.Fires.{Recorded, AsksOnce, Steps, FiresSide}
use Rattle.relay_core.specs.RelayValue.{RelayValue}

-- Calls in a row

-- one ask behind others
asks-push : (me : SideId) (xs : List (Act × AskAnswer)) (s mid new : State) (front back : Trace) (a : Act) (r : AskAnswer) →
    AsksAll me xs s front mid → AsksOne me a r mid back new → AsksAll me (xs ++ (a, r) ∷ []) s (front ++ back) new
asks-push me [] s mid new front back a r h k =
    let one : AsksOne me a r s back new = subst (λ z. AsksOne me a r z back new) h.1 k in
    (new, back, [], one, (refl, refl), ap (λ z. z ++ back) h.0 ∙ sym (append-nil back))
asks-push me (x ∷ xs) s mid new front back a r h k =
    let rest = asks-push me xs h.0 mid new h.2 back a r h.4 k in
    (h.0, h.1, h.2 ++ back, h.3, rest, ap (λ z. z ++ back) h.5 ∙ append_assoc h.1 h.2 back)

any-push : (xs : List (Act × AskAnswer)) (x : Act × AskAnswer) → list_any stops (xs ++ x ∷ []) ≡ (list_any stops xs || stops x)
any-push [] x = or-false (stops x)
  where
    or-false : (b : Bool) → (b || false) ≡ b
    or-false true = refl
    or-false false = refl
any-push (y ∷ xs) x = ap (λ b. stops y || b) (any-push xs x) ∙ assoc (stops y) (list_any stops xs) (stops x)
  where
    assoc : (a b c : Bool) → (a || (b || c)) ≡ ((a || b) || c)
    assoc true b c = refl
    assoc false b c = refl

or-assoc : (a b c : Bool) → ((a || b) || c) ≡ (a || (b || c))
or-assoc true b c = refl
or-assoc false b c = refl

-- before the first call
pub steps-none : (old : RelayValue) → old.asks ≤ most_asks → Steps old old
steps-none old few = record {
  asked = [];
  added = [];
  does = (refl, refl);
  log = sym (append-nil old.log);
  asks = omega arith;
  few = few;
  me = refl;
  stopped = or-none old.stopped;
}
  where
    or-none : (b : Bool) → b ≡ (b || false)
    or-none true = refl
    or-none false = refl

-- one call more
pub steps-recorded : (old mid new : RelayValue) (a : Act) (r : AskAnswer) → Steps old mid → Recorded mid a r new → Steps old new
steps-recorded old mid new a r h k =
    let events : Trace = ask_events mid.me mid.state a r in
    record {
      asked = h.asked ++ (a, r) ∷ [];
      added = h.added ++ events;
      does = asks-push old.me h.asked old.state mid.state new.state h.added events a r h.does
          (subst (λ z. AsksOne z a r mid.state events new.state) h.me k.does);
      log = k.log ∙ ap (λ z. z ++ events) h.log ∙ append_assoc old.log h.added events;
      asks = (let m = length-append h.asked ((a, r) ∷ []) in let x = h.asks in let y = k.asks in omega (arith, m, x, y));
      few = (let x = k.few in let y = k.asks in omega (arith, x, y));
      me = k.me ∙ h.me;
      stopped = k.stopped ∙ ap (λ b. b || stops (a, r)) h.stopped
          ∙ or-assoc old.stopped (list_any stops h.asked) (stops (a, r)) ∙ ap (λ b. old.stopped || b) (sym (any-push h.asked (a, r)));
    }

pub steps-asked : (old mid new : RelayValue) (a : Act) (r : Option AskAnswer) → Steps old mid → AsksOnce mid a r new → Steps old new
steps-asked old mid new a None h k = subst (Steps old) (sym k.1) h
steps-asked old mid new a (Some r) h k = steps-recorded old mid new a r h k

-- a fire that began in this state
pub fires-of : (e : SideId) (old begun new : RelayValue) → begun.state ≡ old.state → begun.me ≡ e → begun.asks ≡ 0 → begun.stopped ≡ false →
    begun.log ≡ [] → Steps begun new → FiresSide e old new
fires-of e old begun new state me asks stopped log h =
    let all : h.added ≡ new.log = sym (h.log ∙ ap (λ z. z ++ h.added) log) in
    record {
      asked = h.asked;
      few = (let x = h.asks in let y = h.few in omega (arith, x, y, asks));
      does =
          subst (λ z. AsksAll e h.asked z new.log new.state) state
          (subst (λ z. AsksAll e h.asked begun.state z new.state) all
          (subst (λ z. AsksAll z h.asked begun.state h.added new.state) me h.does));
      stopped = h.stopped ∙ ap (λ b. b || list_any stops h.asked) stopped;
    }

-- What the events of asks tell

one-asked : (me e : SideId) (s : State) (a : Act) (r : AskAnswer) →
    asked_in e (ask_events me s a r) ≡ (if same_end me e then (a, r) ∷ [] else [])
one-asked me e s (act.Free x) ask.Ok = ends (same_end me e)
  where
    one : List (Act × AskAnswer)
    one = (act.Free x, ask.Ok) ∷ []

    ends : (b : Bool) → (if b then one else []) ++ [] ≡ (if b then one else [])
    ends true = refl
    ends false = refl
one-asked me e s (act.Free x) r = append-nil (if same_end me e then (act.Free x, r) ∷ [] else [])
one-asked me e s a r = append-nil (if same_end me e then (a, r) ∷ [] else [])

asked-append : (e : SideId) (t u : Trace) → asked_in e (t ++ u) ≡ asked_in e t ++ asked_in e u
asked-append e t u = flat_map-append (asked_by e) t u

-- the events of asks tell them, of the side whose hook asks and of no other
pub asks-told : (me e : SideId) (xs : List (Act × AskAnswer)) (s new : State) (added : Trace) → AsksAll me xs s added new →
    asked_in e added ≡ (if same_end me e then xs else [])
asks-told me e [] s new added h = ap (asked_in e) h.0 ∙ none (same_end me e)
  where
    nothing : List (Act × AskAnswer)
    nothing = []

    none : (b : Bool) → nothing ≡ (if b then nothing else nothing)
    none true = refl
    none false = refl
asks-told me e (x ∷ xs) s new added h =
    ap (asked_in e) h.5 ∙ asked-append e h.1 h.2
    ∙ ap (λ z. z ++ asked_in e h.2) (ap (asked_in e) (h.3).entries ∙ one-asked me e s x.0 x.1)
    ∙ ap (λ z. (if same_end me e then (x.0, x.1) ∷ [] else []) ++ z) (asks-told me e xs h.0 new h.2 h.4)
    ∙ both (same_end me e)
  where
    first : List (Act × AskAnswer)
    first = (x.0, x.1) ∷ []

    both : (b : Bool) → (if b then first else []) ++ (if b then xs else []) ≡ (if b then x ∷ xs else [])
    both true = refl
    both false = refl
