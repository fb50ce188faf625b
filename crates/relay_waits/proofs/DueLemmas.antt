-- What is due by number, call by call.
use Rattle.std.proofs.Common.{◌≡◌, ℕ, Bool, true, false, not, cond, List, [], ◌∷◌, ◌++◌, map, Option, Some, None, option_map, refl, sym}
use Rattle.std.proofs.Common.{◌∙◌, ap}
use Rattle.std.specs.Prelude.{nat_eq, filter}
use Rattle.std.specs.Bool.{then_some}
use Rattle.std.specs.Option.{option_to_list}
use Rattle.std.proofs.lemmas.List.{map-append}
use Rattle.ev_types.specs.declared.side.SideId.{SideId}
use Rattle.ev_types.specs.declared.why.Why.{Why}
use Rattle.ev_types.specs.declared.why.Why.TheVariants as why
use Rattle.ev_types.specs.declared.why.Flags.{Flags}
use Rattle.ev_types.specs.Sides.{number, same_end}
use Rattle.deferred_cb.specs.declared.reasons.Reasons.{Reasons}
use Rattle.deferred_cb.specs.DueValue.{DueValue}
use Rattle.deferred_cb.specs.DueCalls as by_number
use Rattle.relay_model.specs.Due.{Due, Reason, nothing_due, joined, joined_flags, with_reason, reason_where, event_reason, reasons}
use Rattle.relay_waits.specs.Numbered.{side_numbered}
use Rattle.relay_waits.specs.DueSides.{due_of, dues, reason_of_call, left_to_call}
use Rattle.relay_waits.specs.DueLaws.{ReasonsJoin, SidesAreForgotten, BatchesAreFired, DueCall, DoesCall, MayLead, seen_by_side, Waiting}
use Rattle.relay_waits.specs.DueLaws.{DueIsTheModels}
use Rattle.relay_waits.proofs.NumberLemmas.{same-number, side-of_number}

flags-joined : (o : Option Flags) (f : Flags) → option_map (λ (g : Flags). g.0) (by_number.joined_flags o f) ≡
    joined_flags (option_map (λ (g : Flags). g.0) o) f.0
flags-joined None f = refl
flags-joined (Some g) f = refl

-- an entry gets a reason more
joined-is : (n : ℕ) (r : Reasons) (y : Why) → due_of (n, by_number.joined r y) ≡ joined (due_of (n, r)) y
joined-is n r why.Connected = refl
joined-is n r why.Read = refl
joined-is n r why.Write = refl
joined-is n r why.Timer = refl
joined-is n r (why.Event f) = ap (λ o. record (due_of (n, r)) { event = o }) (flags-joined r.event f)

-- a new entry
new-is : (e : SideId) (y : Why) → due_of (number e, by_number.joined by_number.no_reasons y) ≡ joined (nothing_due e) y
new-is e y = joined-is (number e) by_number.no_reasons y ∙ ap (λ s. joined (nothing_due s) y) (side-of_number e)

pub reasons-join : ReasonsJoin
reasons-join e y [] = ap (λ d. d ∷ []) (new-is e y)
reasons-join e y (x ∷ xs) = split (reasons-join e y xs) (nat_eq (number e) x.0) ∙ ap
    (λ b. cond b (joined (due_of x) y ∷ dues xs) (due_of x ∷ with_reason e y (dues xs))) (sym (same-number e x.0))
  where
    split : dues (by_number.with_reason (number e) y xs) ≡ with_reason e y (dues xs) → (b : Bool) →
        dues (cond b ((x.0, by_number.joined x.1 y) ∷ xs) (x ∷ by_number.with_reason (number e) y xs)) ≡
        cond b (joined (due_of x) y ∷ dues xs) (due_of x ∷ with_reason e y (dues xs))
    split rest true = ap (λ d. d ∷ dues xs) (joined-is x.0 x.1 y)
    split rest false = ap (λ ds. due_of x ∷ ds) rest

-- what passes a test stays, by number and by side
filter-map : {A B : Type 0} (f : A → B) (p : A → Bool) (q : B → Bool) (xs : List A) → ((x : A) → q (f x) ≡ p x) →
    map f (filter p xs) ≡ filter q (map f xs)
filter-map f p q [] same = refl
filter-map {A} {B} f p q (x ∷ xs) same = split (filter-map f p q xs same) (p x) ∙ ap
    (λ b. cond b (f x ∷ filter q (map f xs)) (filter q (map f xs))) (sym (same x))
  where
    split : map f (filter p xs) ≡ filter q (map f xs) → (b : Bool) →
        map f (cond b (x ∷ filter p xs) (filter p xs)) ≡ cond b (f x ∷ filter q (map f xs)) (filter q (map f xs))
    split rest true = ap (λ ys. f x ∷ ys) rest
    split rest false = rest

pub sides-are_forgotten : SidesAreForgotten
sides-are_forgotten e es calls = (
  filter-map due_of (λ (x : by_number.Entry). not (nat_eq (number e) x.0)) (λ (d : Due). not (same_end d.side e)) es
      (λ x. ap not (same-number e x.0)),
  filter-map reason_of_call (λ (x : by_number.Call). not (nat_eq (number e) x.0)) (λ (r : Reason). not (same_end r.0 e)) calls
      (λ x. ap not (same-number e x.0)),
)

one-reason : (n : ℕ) (y : Why) (b : Bool) → left_to_call (by_number.call_for n (then_some b y)) ≡ reason_where b (side_numbered n) y
one-reason n y true = refl
one-reason n y false = refl

one-event : (n : ℕ) (o : Option Flags) → left_to_call (by_number.call_for n (option_map why.Event o)) ≡
    event_reason (side_numbered n) (option_map (λ (f : Flags). f.0) o)
one-event n None = refl
one-event n (Some f) = refl

left-append : (xs ys : List by_number.Call) → left_to_call (xs ++ ys) ≡ left_to_call xs ++ left_to_call ys
left-append xs ys = map-append reason_of_call xs ys

-- two lists of calls, one behind the other
both : (xs ys : List by_number.Call) (rs ts : List Reason) → left_to_call xs ≡ rs → left_to_call ys ≡ ts →
    left_to_call (xs ++ ys) ≡ rs ++ ts
both xs ys rs ts f g = left-append xs ys ∙ (λ i. f i ++ g i)

-- the calls of an entry
reasons-are : (x : by_number.Entry) → left_to_call (by_number.calls_of x) ≡ reasons (due_of x)
reasons-are x =
    let n = x.0 in
    let r = x.1 in
    both _ _ _ _ (both _ _ _ _ (both _ _ _ _ (both _ _ _ _ (one-reason n why.Connected r.connected) (one-reason n why.Read r.read))
    (one-reason n why.Write r.write)) (one-event n r.event)) (one-reason n why.Timer r.timer)

pub batches-are_fired : BatchesAreFired
batches-are_fired [] = refl
batches-are_fired (x ∷ xs) = both (by_number.calls_of x) (by_number.all_calls xs) _ _ (reasons-are x) (batches-are_fired xs)

abbrev waits : List Due → List Reason → Waiting
waits d r = record { due = d; left = r }

-- two lists make what waits
of_parts : {d e : List Due} {r s : List Reason} → d ≡ e → r ≡ s → waits d r ≡ waits e s
of_parts f g = (λ i. waits (f i) (g i))

-- a call by number is one of the model
leads : (c : DueCall) (old new : DueValue) → DoesCall c old new → MayLead c (seen_by_side old) (seen_by_side new)
leads (DueCall.Scheduled e y) old new does = of_parts (ap dues does.0 ∙ reasons-join e y old.pending) (ap left_to_call does.1)
leads (DueCall.Forgot e) old new does =
    let gone = sides-are_forgotten e old.pending old.batch in
    of_parts (ap dues does.0 ∙ gone.0) (ap left_to_call does.1 ∙ gone.1)
leads DueCall.Began old new does = of_parts (ap dues does.0) (ap left_to_call does.1 ∙ batches-are_fired old.pending)
leads (DueCall.TookTurn answer) old new does =
    (ap dues does.0, ap left_to_call does.1 ∙ left-append (option_to_list answer) new.batch)

pub due-is_the_models : DueIsTheModels
due-is_the_models [] old new led = ap seen_by_side led
due-is_the_models (c ∷ cs) old new led = (seen_by_side led.0, leads c old led.0 led.1, due-is_the_models cs led.0 new led.2)
