-- That values of sets can be told apart: two are equal where length and members are, and a list of answers gives one back.
use Rattle.std.specs.Prelude.{◌≡◌, ℕ, ◌≤◌, Bool, false, List, length, map}
use Rattle.std.specs.List.{range_with_len, slice_index_or}
use Rattle.std.specs.Coded.{Coded, code_by, coded_bool, coded_list, coded_ℕ, coded×}
use Rattle.std.proofs.Common.{inl, inr, ◌∙◌, sym, ap, refl, zero-add}
use Rattle.std.proofs.Math.Path.{fun_ext, subst₂}
use Rattle.std.proofs.Math.Bool.{Bool-set}
use Rattle.std.proofs.lemmas.Bool.{cases_lt}
use Rattle.std.proofs.lemmas.List.{get_or_past}
use Rattle.std.proofs.lemmas.List.FromFn.{length-map-range_with_len, get_or-map-range_with_len}
use Rattle.number_set.specs.Numbers.{NumberSetValue}
use Rattle.number_set.specs.Walks.{WalkValue}

-- no number from a length on is a member
abbrev NoneFrom : ℕ → (ℕ → Bool) → Type 0
NoneFrom len has = (n : ℕ) → len ≤ n → has n ≡ false

-- that this holds is a fact with one proof at most
NoneFrom_prop : (len : ℕ) (has : ℕ → Bool) → (p q : NoneFrom len has) → p ≡ q
NoneFrom_prop len has p q = fun_ext (λ n. fun_ext (λ past. Bool-set _ _ (p n past) (q n past)))

-- two sets with one length and the same members are equal
pub same_value : (s t : NumberSetValue) → s.len ≡ t.len → ((n : ℕ) → s.has n ≡ t.has n) → s ≡ t
same_value s t lengths members =
    let Same : ℕ → (ℕ → Bool) → Type 0 =
    λ len has. (absent : NoneFrom len has) → s ≡ record { len = len; has = has; absent = absent } in
    let here : Same s.len s.has = λ absent. ap {A = NoneFrom s.len s.has} (λ p. record { len = s.len; has = s.has; absent = p })
    (NoneFrom_prop s.len s.has s.absent absent) in
    subst₂ Same lengths (fun_ext members) here t.absent

-- for each number below the length, whether it is a member
abbrev answers : NumberSetValue → List Bool
answers s = map s.has (range_with_len 0 s.len)

-- the set of which that is told
abbrev told : List Bool → NumberSetValue
told bs = record { len = length bs; has = λ n. slice_index_or bs n false; absent = λ n past. get_or_past bs n false past }

-- the answers of a set give it back
pub told-answers : (s : NumberSetValue) → told (answers s) ≡ s
told-answers s =
    same_value (told (answers s)) s (length-map-range_with_len s.has 0 s.len)
    (λ n. elim (cases_lt n s.len) as (λ _. slice_index_or (answers s) n false ≡ s.has n) [
      | inl within ↦ get_or-map-range_with_len s.has 0 s.len n n false within (zero-add n)
      | inr past ↦ get_or_past (answers s) n false (rw (length-map-range_with_len s.has 0 s.len) past) ∙ sym (s.absent n past)
    ])

-- how a set is stored where values have to be told apart: as the list of its answers
abbrev pub number_set_code : Coded NumberSetValue
number_set_code = code_by (List Bool) (coded_list coded_bool) answers told told-answers

-- how a walk is stored: as its four sets and its number
abbrev pub walk_code : Coded WalkValue
walk_code =
    code_by (NumberSetValue × (NumberSetValue × (NumberSetValue × (NumberSetValue × ℕ))))
    (coded× number_set_code (coded× number_set_code (coded× number_set_code (coded× number_set_code coded_ℕ))))
    (λ w. (w.first, (w.second, (w.third, (w.fourth, w.from)))))
    (λ p. record { first = p.0; second = p.1.0; third = p.1.1.0; fourth = p.1.1.1.0; from = p.1.1.1.1 })
    (λ _. refl)
