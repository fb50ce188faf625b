-- Lines of a plan that are asked one behind another.
use Rattle.std.proofs.Common.{◌≡◌, ◌<◌, ◌≤◌, Bool, if◌then◌else◌, List, [], ◌∷◌, ◌++◌, length, map, take, Option, Some, None}
use Rattle.std.proofs.Common.{refl, sym, ◌∙◌, ap, subst, arith, append-nil, length-append}
use Rattle.std.specs.List.{cons_option}
use Rattle.std.proofs.Math.Seq.{take-nil}
use Rattle.std.proofs.lemmas.Grind.{flat_map-append}
use Rattle.std.proofs.lemmas.List.{map-append, length-map, length-take, take_all, take-append-le}
use Rattle.std.proofs.lemmas.List.Elements.{filter_map-append}
use Rattle.ev_types.specs.declared.act.Act.{Act}
use Rattle.ev_types.specs.declared.answer.AskAnswer.{AskAnswer}
use Rattle.ev_types.specs.declared.plan_line.PlanLine.{PlanLine}
use Rattle.ev_types.specs.declared.side.SideId.{SideId}
use Rattle.ev_types.specs.Trace.{Trace}
use Rattle.relay_model.specs.Asks.{most_asks}
use Rattle.relay_model.specs.Hooked.{asked_by, asked_in}
use Rattle.relay_model.proofs.EndLemmas.{same_end-refl}
use Rattle.relay_state.specs.State.{State}
use Rattle.relay_state.specs.Asking.{AsksOne, ask_events}
use Rattle.relay_core.specs.Fires.{AsksOnce}
use Rattle.relay_core.specs.RelayValue.{RelayValue}
use Rattle.relay_core.proofs.FireLemmas.{asks-told, steps-asked, steps-none}
use Rattle.script_hook.specs.Planning.{AsksAct, AsksPlanned, acts_in}

abbrev Asks : Type 0
Asks = List (Act × AskAnswer)

-- the acts of asks
abbrev acts_of : Asks → List Act
acts_of asks = map (λ x. x.0) asks

-- the event of one ask tells it
one-told : (me : SideId) (s new : State) (a : Act) (r : AskAnswer) → AsksOne me a r s (ask_events me s a r) new
    → asked_in me (ask_events me s a r) ≡ (a, r) ∷ []
one-told me s new a r h =
    let events : Trace = ask_events me s a r in
    asks-told me me ((a, r) ∷ []) s new events (new, events, [], h, (refl, refl), sym (append-nil events))
    ∙ ap (λ (b : Bool). if b then (a, r) ∷ [] else []) (same_end-refl me)

-- no act was asked yet
pub planned-none : (old : RelayValue) → old.asks ≡ 0 → old.log ≡ [] → AsksPlanned [] old old
planned-none old asks log = record {
  steps = steps-none old (omega (arith, asks));
  asked = ap (λ z. acts_of (asked_in old.me z)) log ∙ sym (take-nil most_asks);
  many = ap (λ z. length (asked_in old.me z)) log ∙ sym asks;
}

-- behind as many acts as are heard, one more changes nothing
none-more : (told : Asks) (acts : List Act) (a : Act) → acts_of told ≡ take most_asks acts → most_asks ≤ length told
    → acts_of told ≡ take most_asks (acts ++ a ∷ [])
none-more told acts a h many =
    let n = ap length h in
    h ∙ sym (take-append-le most_asks acts (a ∷ []) (omega (arith, n, length-map told (λ x. x.0), length-take most_asks acts)))

-- before that it is asked
one-more : (told : Asks) (acts : List Act) (a : Act) (r : AskAnswer) → acts_of told ≡ take most_asks acts → length told < most_asks
    → acts_of (told ++ (a, r) ∷ []) ≡ take most_asks (acts ++ a ∷ [])
one-more told acts a r h few =
    let n = ap length h in
    let short : length acts < most_asks = omega (arith, few, n, length-map told (λ x. x.0), length-take most_asks acts) in
    let all = length-append acts (a ∷ []) in
    map-append (λ x. x.0) told ((a, r) ∷ []) ∙ ap (λ z. z ++ a ∷ []) (h ∙ take_all most_asks acts (omega arith))
    ∙ sym (take_all most_asks (acts ++ a ∷ []) (omega arith))

-- one act more
pub planned-more : (acts : List Act) (a : Act) (r : Option AskAnswer) (old mid new : RelayValue) → AsksPlanned acts old mid →
    AsksOnce mid a r new
    → AsksPlanned (acts ++ a ∷ []) old new
planned-more acts a None old mid new h k =
    subst (AsksPlanned (acts ++ a ∷ []) old) (sym k.1) (record {
      steps = h.steps;
      asked = none-more (asked_in old.me mid.log) acts a h.asked (let x = h.many in let y = k.0 in omega (arith, x, y));
      many = h.many;
    })
planned-more acts a (Some r) old mid new h k =
    let me : mid.me ≡ old.me = h.steps.me in
    let told : asked_in old.me new.log ≡ asked_in old.me mid.log ++ (a, r) ∷ [] =
    ap (asked_in old.me) k.log ∙ flat_map-append (asked_by old.me) mid.log (ask_events mid.me mid.state a r)
    ∙ ap (λ z. asked_in old.me mid.log ++ z)
    (subst (λ z. asked_in z (ask_events mid.me mid.state a r) ≡ (a, r) ∷ []) me (one-told mid.me mid.state new.state a r k.does)) in
    record {
      steps = steps-asked old mid new a (Some r) h.steps k;
      asked = ap acts_of told ∙ one-more (asked_in old.me mid.log) acts a r h.asked
          (let x = h.many in let y = k.few in omega (arith, x, y));
      many = ap length told ∙ length-append (asked_in old.me mid.log) ((a, r) ∷ [])
          ∙ (let x = h.many in let y = k.asks in omega (arith, x, y));
    }

-- an act more, or none
act-more : (acts : List Act) (o : Option Act) (old mid new : RelayValue) → AsksPlanned acts old mid → AsksAct mid o new
    → AsksPlanned (acts ++ cons_option o []) old new
act-more acts None old mid new h k = subst (λ z. AsksPlanned z old new) (sym (append-nil acts)) (subst (AsksPlanned acts old) (sym k) h)
act-more acts (Some a) old mid new h k = planned-more acts a k.0 old mid new h k.1

-- one line more
pub planned-line : (lines : List PlanLine) (line : PlanLine) (old mid new : RelayValue) → AsksPlanned (acts_in lines) old mid
    → AsksAct mid line.act new → AsksPlanned (acts_in (lines ++ line ∷ [])) old new
planned-line lines line old mid new h k =
    subst (λ z. AsksPlanned z old new) (sym (filter_map-append (λ x. x.act) lines (line ∷ [])))
    (act-more (acts_in lines) line.act old mid new h k)
