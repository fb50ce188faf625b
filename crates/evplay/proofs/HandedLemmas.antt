-- Hooks that were handed in: what is planned for a side is what its number's lines say, and at most 64 sides have a plan.
use Rattle.std.proofs.Common.{◌≡◌, ◌≢◌, inl, inr, ℕ, zero, suc, ◌+◌, ◌*◌, ◌-◌, ◌<◌, ◌≤◌, Bool, true, false, ◌==◌, ◌&&◌, nat_lt, List}
use Rattle.std.proofs.Common.{if◌then◌else◌, [], ◌∷◌, ◌++◌, ◌||◌, length-append, length, Option, None, refl, sym, ◌∙◌, ap, subst, arith}
use Rattle.std.specs.Prelude.{filter, map, IfSome, is_some}
use Rattle.std.specs.List.{All, list_any, list_all}
use Rattle.std.proofs.lemmas.Bool.{and_parts, cases_lt, eq-eqb, eqb-true, lt-ltb, ltb-true}
use Rattle.std.proofs.lemmas.List.{get_or_past, get_or_append_left}
use Rattle.std.proofs.lemmas.List.Elements.{All-head, All-tail, All-nil, All-cons, All-append}
use Rattle.ev_types.specs.declared.plan_line.PlanLine.{PlanLine}
use Rattle.ev_types.specs.declared.side.SideId.{SideId}
use Rattle.ev_types.specs.Sides.{number, same_end}
use Rattle.relay_model.proofs.EndLemmas.{same_end-eq, number-apart}
use Rattle.relay_model.specs.Plain.{sides_from, sides_where}
use Rattle.relay_state.specs.Closing.{in_side, out_side}
use Rattle.relay_drive.specs.Seats.{hook_at, Telling}
use Rattle.program_end.specs.Planned.{tells_all, IsFresh, HasPlan, HavePlans}
use Rattle.evplay.specs.HandedIn.{HandedIn, handed_in, lines_at, AddsSlot, HasSeats}

-- By number and by side

pub same-number : (x e : SideId) → (number x == number e) ≡ same_end x e
same-number x e = go (same_end x e) refl
  where
    apart : (b : Bool) → (number x == number e) ≡ b → number x ≢ number e → b ≡ false
    apart true h far = absurd (far (eqb-true (number x) (number e) h))
    apart false h far = refl

    go : (b : Bool) → same_end x e ≡ b → (number x == number e) ≡ same_end x e
    go true is = eq-eqb (number x) (number e) (ap number (same_end-eq x e is)) ∙ sym is
    go false is = apart (number x == number e) refl (number-apart x e is) ∙ sym is

filter-same : {X : Type 0} (p q : X → Bool) → ((x : X) → p x ≡ q x) → (xs : List X) → filter p xs ≡ filter q xs
filter-same p q h [] = refl
filter-same p q h (x ∷ xs) =
    let one = h x in
    let rest = filter-same p q h xs in
    λ i. if one i then x ∷ rest i else rest i

-- what is planned for a side
pub lines-of_side : (plans : List (SideId × PlanLine)) (e : SideId) →
    lines_at plans (number e) ≡ map (λ x. x.1) (filter (λ x. same_end x.0 e) plans)
lines-of_side plans e =
    ap (map (λ x. x.1)) (filter-same (λ x. number x.0 == number e) (λ x. same_end x.0 e) (λ x. same-number x.0 e) plans)

-- At most 64 sides

few-from : (q : SideId → Bool) → ((e : SideId) → 32 ≤ e.link → q e ≡ false) → (k n : ℕ) → length (filter q (sides_from k n)) ≤ 2 * (32 - k)
few-from q high k zero = omega arith
few-from q high k (suc n) = elim (cases_lt k 32) [
  | inl low ↦
      let rest = few-from q high (k + 1) n in
      let one = one_more (out_side k) (filter q (sides_from (k + 1) n)) (q (out_side k)) in
      let two = one_more (in_side k) (filter q (out_side k ∷ sides_from (k + 1) n)) (q (in_side k)) in
      omega (arith, low, rest, one, two)
  | inr past ↦ omega (arith, none (k) (suc n) past)
]
  where
    one_more : (e : SideId) (xs : List SideId) (b : Bool) → length (if b then e ∷ xs else xs) ≤ length xs + 1
    one_more e xs true = omega arith
    one_more e xs false = omega arith

    none : (j m : ℕ) → 32 ≤ j → length (filter q (sides_from j m)) ≡ 0
    none j zero le = refl
    none j (suc m) le =
        let a = high (in_side j) le in
        let b = high (out_side j) le in
        ap length ((λ i. if a i then in_side j ∷
        (if b i then out_side j ∷ filter q (sides_from (j + 1) m) else filter q (sides_from (j + 1) m))
        else (if b i then out_side j ∷ filter q (sides_from (j + 1) m) else filter q (sides_from (j + 1) m))))
        ∙ none (j + 1) m (omega (arith, le))

unplanned : (plans : List (SideId × PlanLine)) (e : SideId) → All (λ x. number x.0 < 64) plans → 32 ≤ e.link →
    list_any (λ x. same_end x.0 e) plans ≡ false
unplanned [] e low high = refl
unplanned (x ∷ plans) e low high =
    let rest = unplanned plans e (All-tail (λ x. number x.0 < 64) x plans low) high in
    go (same_end x.0 e) refl rest
  where
    go : (b : Bool) → same_end x.0 e ≡ b → list_any (λ x. same_end x.0 e) plans ≡ false → list_any (λ x. same_end x.0 e) (x ∷ plans) ≡ false
    go true is rest =
        absurd (let below = All-head (λ x. number x.0 < 64) x plans low in
        let at = ap number (same_end-eq x.0 e is) in
        omega (arith, below, at, high))
    go false is rest = (λ i. is i || rest i)

pub few-planned : (plans : List (SideId × PlanLine)) (n : ℕ) → All (λ x. number x.0 < 64) plans →
    length (sides_where (λ e. list_any (λ x. same_end x.0 e) plans) n) ≤ 64
few-planned plans n low =
    let few = few-from (λ e. nat_lt (number e) n && list_any (λ x. same_end x.0 e) plans)
    (λ e high. and-false (nat_lt (number e) n) _ (unplanned plans e low high)) 0 n in
    omega (arith, few)
  where
    and-false : (a b : Bool) → b ≡ false → (a && b) ≡ false
    and-false true b h = h
    and-false false b h = refl

-- Slots

none-past : {H : Type 0} (slots : List (Option H)) (n : ℕ) → length slots ≤ n → hook_at slots n ≡ None
none-past slots n le = get_or_past slots n None le

hook-last : {K : Type 0} (xs : List (Option K)) (o : Option K) → hook_at (xs ++ o ∷ []) (length xs) ≡ o
hook-last [] o = refl
hook-last (x ∷ xs) o = hook-last xs o

-- the slots so far, of which so many hooks are left
pub record SlotsSoFar {H : Type 0} (slots : List (Option H)) (tells : Telling H) (plans : List (SideId × PlanLine)) (all : List H)
    (left : List H) : Type 0 where
  pub many : length slots + length left ≡ length all
  pub fresh : All (IsFresh tells) left
  pub tell : list_all (tells_all tells) all ≡ true → list_all (tells_all tells) left ≡ true
  pub taken : (n : ℕ) → n < length slots → is_some (hook_at slots n) ≡ nat_lt 0 (length (lines_at plans n))
  pub told : list_all (tells_all tells) all ≡ true → (n : ℕ) → IfSome (hook_at slots n) (HasPlan tells (lines_at plans n))

pub slots-none : {H : Type 0} (tells : Telling H) (plans : List (SideId × PlanLine)) (all : List H) → All (IsFresh tells) all →
    SlotsSoFar [] tells plans all all
slots-none tells plans all fresh =
    record { many = omega arith; fresh = fresh; tell = λ h. h; taken = λ n lt. absurd (omega (arith, lt)); told = λ h n. tt }

pub slots-more : {H : Type 0} (slots more : List (Option H)) (tells : Telling H) (plans : List (SideId × PlanLine)) (all : List H)
    (hook : H)
    (left : List H) → SlotsSoFar slots tells plans all (hook ∷ left) → AddsSlot tells plans hook slots more →
    SlotsSoFar more tells plans all left
slots-more {H = H} slots more tells plans all hook left so adds =
    let many = so.many in
    let longer = ap length adds.added ∙ length-append slots (adds.slot ∷ []) in
    record {
      many = omega (arith, many, longer);
      fresh = All-tail (IsFresh tells) hook left so.fresh;
      tell = λ h. (and_parts (tells_all tells hook) (list_all (tells_all tells) left) (so.tell h)).1;
      taken = λ n lt. at n (λ o. is_some o ≡ nat_lt 0 (length (lines_at plans n))) (λ below. so.taken n below)
          (λ is. subst (λ k. is_some adds.slot ≡ nat_lt 0 (length (lines_at plans k))) (sym is) adds.attached.taken)
          (λ past. absurd (omega (arith, past, lt, longer)));
      told = λ h n. at n (λ o. IfSome o (HasPlan tells (lines_at plans n))) (λ below. so.told h n)
          (λ is. subst (λ k. IfSome adds.slot (HasPlan tells (lines_at plans k))) (sym is)
          (adds.attached.told (and_parts (tells_all tells hook) (list_all (tells_all tells) left) (so.tell h)).0))
          (λ past. subst (λ o. IfSome o (HasPlan tells (lines_at plans n))) (sym (none-past more n (omega (arith, past, longer)))) tt);
    }
  where
    at : (n : ℕ) (P : Option H → Type 0) → (n < length slots → P (hook_at slots n)) → (n ≡ length slots → P adds.slot) →
        (length slots < n → P (hook_at more n)) → P (hook_at more n)
    at n P before here past = elim (cases_lt n (length slots)) as (λ _. P (hook_at more n)) [
      | inl lt ↦
          subst P (sym (ap (λ xs. hook_at xs n) adds.added ∙ get_or_append_left slots (adds.slot ∷ []) None n lt)) (before lt)
      | inr le ↦ elim (cases_lt (length slots) n) as (λ _. P (hook_at more n)) [
        | inl far ↦ past far
        | inr near ↦
            let is : n ≡ length slots = omega (arith, le, near) in
            subst P (sym (ap (λ xs. hook_at xs n) adds.added ∙ ap (λ k. hook_at (slots ++ adds.slot ∷ []) k) is ∙
            hook-last slots adds.slot)) (here is)
      ]
    ]

-- By a side's number there is a plan exactly where there is one by the side.
is-planned : (plans : List (SideId × PlanLine)) (e : SideId) → nat_lt 0 (length (lines_at plans (number e))) ≡ list_any
    (λ x. same_end x.0 e) plans
is-planned [] e = refl
is-planned (x ∷ plans) e =
    ap (λ b. nat_lt 0 (length (map (λ x. x.1)
    (if b then x ∷ filter (λ y. number y.0 == number e) plans else filter (λ y. number y.0 == number e) plans))))
    (same-number x.0 e) ∙ go (same_end x.0 e) (is-planned plans e)
  where
    go : (b : Bool) → nat_lt 0 (length (lines_at plans (number e))) ≡ list_any (λ x. same_end x.0 e) plans →
        nat_lt 0 (length (map (λ x. x.1)
        (if b then x ∷ filter (λ y. number y.0 == number e) plans else filter (λ y. number y.0 == number e) plans)))
        ≡ (b || list_any (λ x. same_end x.0 e) plans)
    go true rest = lt-ltb 0 _ (omega arith)
    go false rest = rest

pub slots-all : {H : Type 0} (slots : List (Option H)) (tells : Telling H) (plans : List (SideId × PlanLine)) (all : List H) →
    SlotsSoFar slots tells plans all [] → HasSeats slots tells plans (handed_in tells all)
slots-all slots tells plans all so =
    let many : length slots ≡ length all = (let m = so.many in omega (arith, m)) in
    record {
      sides = filter-same (λ e. nat_lt (number e) (length slots) && is_some (hook_at slots (number e)))
          (λ e. nat_lt (number e) (length slots) && list_any (λ x. same_end x.0 e) plans)
          (λ e. same e (nat_lt (number e) (length slots)) refl) (sides_from 0 (length slots))
          ∙ ap (sides_where (λ e. list_any (λ x. same_end x.0 e) plans)) many;
      told = so.told;
    }
  where
    same : (e : SideId) (b : Bool) → nat_lt (number e) (length slots) ≡ b →
        (nat_lt (number e) (length slots) && is_some (hook_at slots (number e))) ≡
        (nat_lt (number e) (length slots) && list_any (λ x. same_end x.0 e) plans)
    same e true is =
        let lt = ltb-true (number e) (length slots) is in
        let there = so.taken (number e) lt ∙ is-planned plans e in
        λ i. nat_lt (number e) (length slots) && there i
    same e false is = (λ i. is i && is_some (hook_at slots (number e))) ∙ sym (λ i. is i && list_any (λ x. same_end x.0 e) plans)

-- as the sides have plans, so by their numbers
pub have-plans : {H : Type 0} (slots : List (Option H)) (tells : Telling H) (plans : List (SideId × PlanLine)) (handed : HandedIn) →
    HasSeats slots tells plans handed → handed.tell ≡ true → HavePlans tells
    (λ e. map (λ x. x.1) (filter (λ x. same_end x.0 e) plans)) slots
have-plans slots tells plans handed seats tell e =
    subst (λ lines. IfSome (hook_at slots (number e)) (HasPlan tells lines)) (lines-of_side plans e) (seats.told tell (number e))

-- one element more
pub all-one : {X : Type 0} (P : X → Type 0) (xs : List X) (x : X) → All P xs → P x → All P (xs ++ x ∷ [])
all-one P xs x all one = All-append P xs (x ∷ []) all (All-cons P x [] one (All-nil P))
