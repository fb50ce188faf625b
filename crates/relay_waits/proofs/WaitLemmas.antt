-- What is pending and what is fired, of sides that have a hook.
use Rattle.std.proofs.Common.{◌≡◌, ℕ, zero, suc, ◌+◌, ◌<◌, ◌≤◌, Bool, true, false, not, ◌||◌, cond, List, [], ◌∷◌, ◌++◌, length}
use Rattle.std.proofs.Common.{map, Option, Some, None, refl, sym, ◌∙◌, ap, subst, arith, inl, inr}
use Rattle.std.specs.Prelude.{nat_eq, filter, slice_index_or, option_map}
use Rattle.std.specs.Bool.{then_some}
use Rattle.std.specs.List.{AllByRecursion, IsDistinct, list_any}
use Rattle.std.specs.Map.{keys_of}
use Rattle.std.specs.Set.{is_member}
use Rattle.std.specs.Cmp.{nat_eq_equiv}
use Rattle.std.proofs.lemmas.Bool.Decides.{eqb_tells, nat_tests}
use Rattle.std.proofs.lemmas.Map.Keys.{IsDistinct-head, IsDistinct-tail, IsDistinct-cons}
use Rattle.std.proofs.lemmas.Map.Made.{length-le_from_is_member, IsDistinct-keys_filter}
use Rattle.ev_types.specs.declared.side.SideId.{SideId}
use Rattle.ev_types.specs.declared.why.Why.{Why}
use Rattle.ev_types.specs.declared.why.Why.TheVariants as why
use Rattle.ev_types.specs.Sides.{number, same_end}
use Rattle.deferred_cb.specs.DueCalls as by_number
use Rattle.deferred_cb.specs.DueCalls.{Entry, Call, has_entry}
use Rattle.deferred_cb.specs.DueValue.{DueValue}
use Rattle.relay_model.specs.Due.{without_due, without_reasons}
use Rattle.relay_waits.specs.DueSides.{due_of, dues, left_to_call, reason_of_call}
use Rattle.relay_waits.specs.WaitsView.{HasHook, AreDue}
use Rattle.relay_waits.proofs.DueLemmas.{sides-are_forgotten}
use Rattle.relay_waits.specs.Numbered.{side_numbered}
use Rattle.relay_waits.specs.WaitsValue.{hooks_of}
use Rattle.relay_waits.proofs.HookLemmas.{hook-within, hook-by_number}
use Rattle.relay_waits.proofs.NumberLemmas.{number-of_side}
use Rattle.relay_model.proofs.EndLemmas.{same_end-eq}
use Rattle.std.proofs.lemmas.Bool.{eq-eqb}
use Rattle.std.proofs.lemmas.List.{length-map}

-- Numbers below a bound that are distinct are no more than the bound

upto : ℕ → List ℕ
upto zero = []
upto (suc c) = c ∷ upto c

length-upto : (c : ℕ) → length (upto c) ≡ c
unfolding upto
length-upto zero = refl
length-upto (suc c) = let rest = length-upto c in omega (arith, rest)

member-upto : (c q : ℕ) → q < c → is_member nat_eq (upto c) q ≡ true
unfolding upto
member-upto zero q h = absurd (omega (arith, h))
member-upto (suc c) q h = elim (eqb_tells q c) [
  | inl same ↦ ap (λ b. b || list_any (nat_eq q) (upto c)) same.0
  | inr apart ↦ ap (λ b. b || list_any (nat_eq q) (upto c)) apart.0 ∙ member-upto c q (let k = apart.1 in omega (arith, h, k))
]

all-member : (P : ℕ → Type 0) (xs : List ℕ) (q : ℕ) → AllByRecursion P xs → is_member nat_eq xs q ≡ true → P q
all-member P [] q all h = absurd (cc)
all-member P (x ∷ xs) q all h = elim (eqb_tells q x) [
  | inl same ↦ subst P (sym same.1) all.0
  | inr apart ↦ all-member P xs q all.1 (sym (ap (λ b. b || list_any (nat_eq q) xs) apart.0) ∙ h)
]

few-distinct : (c : ℕ) (xs : List ℕ) → IsDistinct nat_eq xs → AllByRecursion (λ x. x < c) xs → length xs ≤ c
few-distinct c xs distinct all =
    let most = length-le_from_is_member nat_eq_equiv xs (upto c) distinct
    (λ q is. member-upto c q (all-member (λ x. x < c) xs q all is)) in
    let long = length-upto c in
    omega (arith, most, long)

-- Entries

keys-all : (P Q : ℕ → Type 0) → ((n : ℕ) → P n → Q n) → (es : List Entry) → AllByRecursion (λ (e : Entry). P e.0) es →
    AllByRecursion Q (keys_of es)
keys-all P Q f [] all = tt
keys-all P Q f (e ∷ es) all = (f e.0 all.0, keys-all P Q f es all.1)

no-key : (n : ℕ) (es : List Entry) → has_entry n es ≡ false → AllByRecursion (λ y. nat_eq n y ≡ false) (keys_of es)
no-key n [] h = tt
no-key n (e ∷ es) h = split (λ k. no-key n es k) (nat_eq n e.0) refl
  where
    split : (has_entry n es ≡ false → AllByRecursion (λ y. nat_eq n y ≡ false) (keys_of es)) → (b : Bool) → nat_eq n e.0 ≡ b →
        AllByRecursion (λ y. nat_eq n y ≡ false) (e.0 ∷ keys_of es)
    split rest true k = absurd (let bad = sym (ap (λ b. b || has_entry n es) k) ∙ h in cc)
    split rest false k = (k, rest (sym (ap (λ b. b || has_entry n es) k) ∙ h))

length-keys : (es : List Entry) → length (keys_of es) ≡ length es
length-keys [] = refl
length-keys (e ∷ es) = let rest = length-keys es in omega (arith, rest)

-- who has a hook and no entry has room for one
pub has-room : (hs : List Bool) (waiting firing : DueValue) (n : ℕ) → AreDue hs waiting firing → slice_index_or hs n false ≡ true →
    has_entry n waiting.pending ≡ false → 0 < waiting.spare
has-room hs waiting firing n due hook none =
    let es = waiting.pending in
    let few = few-distinct (length hs) (n ∷ keys_of es)
    (IsDistinct-cons nat_eq n (keys_of es) (no-key n es none) due.distinct)
    (hook-within hs n hook, keys-all (HasHook hs) (λ x. x < length hs) (λ m h. hook-within hs m h.0) es due.entries) in
    let long = length-keys es in
    let room = due.room in
    omega (arith, few, long, room)

-- the number of a side in a list is among the numbers of the list
number-among : (xs : List SideId) (q : ℕ) → list_any (λ x. same_end x (side_numbered q)) xs ≡ true → is_member nat_eq (map number xs) q ≡ true
number-among [] q h = absurd (cc)
number-among (x ∷ xs) q h = split (same_end x (side_numbered q)) refl (number-among xs q)
  where
    found : same_end x (side_numbered q) ≡ true → nat_eq q (number x) ≡ true
    found k =
        ap (λ z. nat_eq q z) (ap number (same_end-eq x (side_numbered q) k) ∙ number-of_side q) ∙ eq-eqb q q refl

    or-true : (a : Bool) → list_any (nat_eq q) (map number xs) ≡ true → (a || list_any (nat_eq q) (map number xs)) ≡ true
    or-true true r = refl
    or-true false r = r

    split : (b : Bool) → same_end x (side_numbered q) ≡ b →
        (list_any (λ y. same_end y (side_numbered q)) xs ≡ true → is_member nat_eq (map number xs) q ≡ true) →
        (nat_eq q (number x) || list_any (nat_eq q) (map number xs)) ≡ true
    split true k rest = ap (λ b. b || list_any (nat_eq q) (map number xs)) (found k)
    split false k rest = or-true (nat_eq q (number x)) (rest (sym (ap (λ b. b || list_any (λ y. same_end y (side_numbered q)) xs) k) ∙ h))

-- no more sides have an entry than have a hook
pub due-few : (hs : List Bool) (waiting firing : DueValue) → AreDue hs waiting firing → length (dues waiting.pending) ≤ length (hooks_of hs)
due-few hs waiting firing due =
    let es = waiting.pending in
    let hooks = hooks_of hs in
    let most = length-le_from_is_member nat_eq_equiv (keys_of es) (map number hooks) due.distinct
    (λ q is. number-among hooks q (hook-by_number hs (side_numbered q) ∙ ap (λ n. slice_index_or hs n false) (number-of_side q)
    ∙ (all-member (HasHook hs) (keys_of es) q (keys-all (HasHook hs) (HasHook hs) (λ m h. h) es due.entries) is).0)) in
    let a = length-map hooks number in
    let b = length-map es due_of in
    let c = length-keys es in
    omega (arith, most, a, b, c)

all-raised : (P : ℕ → Type 0) (n : ℕ) (y : Why) (es : List Entry) → P n → AllByRecursion (λ (e : Entry). P e.0) es →
    AllByRecursion (λ (e : Entry). P e.0) (by_number.with_reason n y es)
all-raised P n y [] here all = (here, tt)
all-raised P n y (e ∷ es) here all = split (all-raised P n y es here all.1) (nat_eq n e.0)
  where
    split : AllByRecursion (λ (e : Entry). P e.0) (by_number.with_reason n y es) → (b : Bool) → AllByRecursion (λ (e : Entry). P e.0)
        (cond b ((e.0, by_number.joined e.1 y) ∷ es) (e ∷ by_number.with_reason n y es))
    split rest true = (all.0, all.1)
    split rest false = (all.0, rest)

all_keys-raised : (P : ℕ → Type 0) (n : ℕ) (y : Why) (es : List Entry) → P n → AllByRecursion P (keys_of es) →
    AllByRecursion P (keys_of (by_number.with_reason n y es))
all_keys-raised P n y [] here all = (here, tt)
all_keys-raised P n y (e ∷ es) here all = split (all_keys-raised P n y es here all.1) (nat_eq n e.0)
  where
    split : AllByRecursion P (keys_of (by_number.with_reason n y es)) → (b : Bool) → AllByRecursion P
        (keys_of (cond b ((e.0, by_number.joined e.1 y) ∷ es) (e ∷ by_number.with_reason n y es)))
    split rest true = (all.0, all.1)
    split rest false = (all.0, rest)

distinct-raised : (n : ℕ) (y : Why) (es : List Entry) → IsDistinct nat_eq (keys_of es) →
    IsDistinct nat_eq (keys_of (by_number.with_reason n y es))
distinct-raised n y [] d = IsDistinct-cons nat_eq n [] tt d
distinct-raised n y (e ∷ es) d =
    split (distinct-raised n y es (IsDistinct-tail nat_eq e.0 (keys_of es) d)) (nat_eq n e.0) refl
  where
    split : IsDistinct nat_eq (keys_of (by_number.with_reason n y es)) → (b : Bool) → nat_eq n e.0 ≡ b → IsDistinct nat_eq
        (keys_of (cond b ((e.0, by_number.joined e.1 y) ∷ es) (e ∷ by_number.with_reason n y es)))
    split rest true k = d
    split rest false k =
        IsDistinct-cons nat_eq e.0 (keys_of (by_number.with_reason n y es))
        (all_keys-raised (λ m. nat_eq e.0 m ≡ false) n y es (let apart : nat_eq e.0 n ≡ false = grind (arith, nat_tests, k) in apart)
        (IsDistinct-head nat_eq e.0 (keys_of es) d))
        rest

-- what passes a test has what all have
all-filtered : {X : Type 0} (P : X → Type 0) (p : X → Bool) (xs : List X) → AllByRecursion P xs → AllByRecursion P (filter p xs)
all-filtered P p [] all = tt
all-filtered {X} P p (x ∷ xs) all = split (all-filtered P p xs all.1) (p x)
  where
    split : AllByRecursion P (filter p xs) → (b : Bool) → AllByRecursion P (cond b (x ∷ filter p xs) (filter p xs))
    split rest true = (all.0, rest)
    split rest false = rest

-- where all pass, none goes
filter-all : {X : Type 0} (p : X → Bool) (xs : List X) → AllByRecursion (λ x. p x ≡ true) xs → filter p xs ≡ xs
filter-all p [] all = refl
filter-all {X} p (x ∷ xs) all = ap (λ b. cond b (x ∷ filter p xs) (filter p xs)) all.0 ∙ ap (λ ys. x ∷ ys) (filter-all p xs all.1)

-- Calls

all-append : {X : Type 0} (P : X → Type 0) (xs ys : List X) → AllByRecursion P xs → AllByRecursion P ys → AllByRecursion P (xs ++ ys)
all-append P [] ys all more = more
all-append P (x ∷ xs) ys all more = (all.0, all-append P xs ys all.1 more)

all-call : (P : ℕ → Type 0) (n : ℕ) (y : Option Why) → P n → AllByRecursion (λ (call : Call). P call.0) (by_number.call_for n y)
all-call P n None here = tt
all-call P n (Some y) here = (here, tt)

all-calls_of : (P : ℕ → Type 0) (e : Entry) → P e.0 → AllByRecursion (λ (call : Call). P call.0) (by_number.calls_of e)
all-calls_of P e here =
    let Q : Call → Type 0 = λ (call : Call). P call.0 in
    let one = λ (y : Option Why). all-call P e.0 y here in
    let c = then_some e.1.connected why.Connected in
    let r = then_some e.1.read why.Read in
    let w = then_some e.1.write why.Write in
    let v = option_map why.Event e.1.event in
    let t = then_some e.1.timer why.Timer in
    all-append Q _ _ (all-append Q _ _ (all-append Q _ _ (all-append Q _ _ (one c) (one r)) (one w)) (one v)) (one t)

all-all_calls : (P : ℕ → Type 0) (es : List Entry) → AllByRecursion (λ (e : Entry). P e.0) es →
    AllByRecursion (λ (call : Call). P call.0) (by_number.all_calls es)
all-all_calls P [] all = tt
all-all_calls P (e ∷ es) all =
    all-append (λ (call : Call). P call.0) (by_number.calls_of e) (by_number.all_calls es) (all-calls_of P e all.0)
    (all-all_calls P es all.1)

none-mapped : {A B : Type 0} (f : A → B) (xs : List A) → map f xs ≡ [] → xs ≡ []
none-mapped f [] h = refl
none-mapped f (x ∷ xs) h = absurd (cc)

pub no-batch : (calls : List Call) → left_to_call calls ≡ [] → calls ≡ []
no-batch calls h = none-mapped reason_of_call calls h

-- What calls leave

distinct_none : IsDistinct nat_eq []
unfolding IsDistinct
distinct_none = tt

-- a reason became due
pub due-raised : (hs : List Bool) (old new firing : DueValue) (n : ℕ) (y : Why) → AreDue hs old firing → HasHook hs n →
    new.pending ≡ by_number.with_reason n y old.pending → new.batch ≡ old.batch →
    length new.pending + new.spare ≡ length old.pending + old.spare → AreDue hs new firing
due-raised hs old new firing n y due hook is same kept = record {
  distinct = subst (λ (es : List Entry). IsDistinct nat_eq (keys_of es)) (sym is) (distinct-raised n y old.pending due.distinct);
  entries =
      subst (λ (es : List Entry). AllByRecursion (λ (e : Entry). HasHook hs e.0) es) (sym is)
      (all-raised (HasHook hs) n y old.pending hook due.entries);
  calls = due.calls;
  no_batch = same ∙ due.no_batch;
  none_pending = due.none_pending;
  room = let room = due.room in omega (arith, room, kept);
  next_room = due.next_room;
}

-- a batch began
pub due-begun : (hs : List Bool) (old firing waiting began : DueValue) → AreDue hs old firing → firing.batch ≡ [] → waiting ≡ firing →
    began.pending ≡ [] → began.batch ≡ by_number.all_calls old.pending → began.spare ≡ length old.pending + old.spare →
    AreDue hs waiting began
due-begun hs old firing waiting began due used_up is none fired spare = record {
  distinct = subst (λ (es : List Entry). IsDistinct nat_eq (keys_of es)) (sym nothing) distinct_none;
  entries = subst (λ (es : List Entry). AllByRecursion (λ (e : Entry). HasHook hs e.0) es) (sym nothing) tt;
  calls =
      subst (λ (calls : List Call). AllByRecursion (λ (call : Call). HasHook hs call.0) calls) (sym fired)
      (all-all_calls (HasHook hs) old.pending due.entries);
  no_batch = ap (λ (d : DueValue). d.batch) is ∙ used_up;
  none_pending = none;
  room =
      let room = due.next_room in let same : waiting.spare ≡ firing.spare = ap (λ (d : DueValue). d.spare) is in
      omega (arith, room, same);
  next_room = let room = due.room in omega (arith, room, spare);
}
  where
    nothing : waiting.pending ≡ []
    nothing = ap (λ (d : DueValue). d.pending) is ∙ due.none_pending

-- what was due for one was forgotten
pub due-forgot : (hs : List Bool) (old new firing fired : DueValue) (n : ℕ) → AreDue hs old firing →
    new.pending ≡ by_number.without n old.pending → new.batch ≡ by_number.without_calls n old.batch →
    length new.pending + new.spare ≡ length old.pending + old.spare →
    fired.pending ≡ by_number.without n firing.pending → fired.batch ≡ by_number.without_calls n firing.batch →
    length fired.pending + fired.spare ≡ length firing.pending + firing.spare → AreDue hs new fired
due-forgot hs old new firing fired n due pending none kept none_pending calls fired_kept = record {
  distinct =
      subst (λ (es : List Entry). IsDistinct nat_eq (keys_of es)) (sym pending)
      (IsDistinct-keys_filter nat_eq (λ (e : Entry). not (nat_eq n e.0)) old.pending due.distinct);
  entries =
      subst (λ (es : List Entry). AllByRecursion (λ (e : Entry). HasHook hs e.0) es) (sym pending)
      (all-filtered (λ (e : Entry). HasHook hs e.0) (λ (e : Entry). not (nat_eq n e.0)) old.pending due.entries);
  calls =
      subst (λ (cs : List Call). AllByRecursion (λ (call : Call). HasHook hs call.0) cs) (sym calls)
      (all-filtered (λ (call : Call). HasHook hs call.0) (λ (call : Call). not (nat_eq n call.0)) firing.batch due.calls);
  no_batch = none ∙ ap (by_number.without_calls n) due.no_batch;
  none_pending = nothing;
  room = let room = due.room in omega (arith, room, kept);
  next_room =
      let room = due.next_room in
      let a : length fired.pending ≡ 0 = ap length nothing in
      let b : length firing.pending ≡ 0 = ap length due.none_pending in
      omega (arith, room, fired_kept, a, b);
}
  where
    nothing : fired.pending ≡ []
    nothing = none_pending ∙ ap (by_number.without n) due.none_pending

-- Whether one is forgotten that has no hook, nothing changes

other : (hs : List Bool) (n m : ℕ) → slice_index_or hs n false ≡ false → HasHook hs m → not (nat_eq n m) ≡ true
other hs n m none hook = elim (eqb_tells n m) [
  | inl same ↦ absurd (let bad = sym none ∙ ap (λ k. slice_index_or hs k false) same.1 ∙ hook.0 in cc)
  | inr apart ↦ ap not apart.0
]

all-weaker : {X : Type 0} (P Q : X → Type 0) → ((x : X) → P x → Q x) → (xs : List X) → AllByRecursion P xs → AllByRecursion Q xs
all-weaker P Q f [] all = tt
all-weaker P Q f (x ∷ xs) all = (f x all.0, all-weaker P Q f xs all.1)

pub none-due_without : (hs : List Bool) (e : SideId) (es : List Entry) → slice_index_or hs (number e) false ≡ false →
    AllByRecursion (λ (x : Entry). HasHook hs x.0) es → dues es ≡ without_due e (dues es)
none-due_without hs e es none all =
    ap dues (sym (filter-all (λ (x : Entry). not (nat_eq (number e) x.0)) es
    (all-weaker (λ (x : Entry). HasHook hs x.0) (λ (x : Entry). not (nat_eq (number e) x.0) ≡ true)
    (λ x h. other hs (number e) x.0 none h) es all)))
    ∙ (sides-are_forgotten e es []).0

pub no_reason-without : (hs : List Bool) (e : SideId) (calls : List Call) → slice_index_or hs (number e) false ≡ false →
    AllByRecursion (λ (x : Call). HasHook hs x.0) calls → left_to_call calls ≡ without_reasons e (left_to_call calls)
no_reason-without hs e calls none all =
    ap left_to_call (sym (filter-all (λ (x : Call). not (nat_eq (number e) x.0)) calls
    (all-weaker (λ (x : Call). HasHook hs x.0) (λ (x : Call). not (nat_eq (number e) x.0) ≡ true)
    (λ x h. other hs (number e) x.0 none h) calls all)))
    ∙ (sides-are_forgotten e [] calls).1
