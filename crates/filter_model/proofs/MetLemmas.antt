-- What a filter meets is bad.
use Rattle.std.proofs.Common.{◌≡◌, ℕ, ◌+◌, ◌<◌, ◌≤◌, Bool, true, false, if◌then◌else◌, List, length, take, drop, Option, Some, None, refl}
use Rattle.std.proofs.Common.{sym, ◌∙◌, ap, subst, arith}
use Rattle.std.specs.Prelude.{nat_lt}
use Rattle.std.proofs.lemmas.Bool.{ltb-true, ltb-false}
use Rattle.std.proofs.lemmas.List.{take-append-drop, take-take, length-take}
use Rattle.filter_model.specs.Filter.{Filter}
use Rattle.filter_model.specs.FilterLaws.{BadLaw, IsMetPlace, MetIsBad}

-- a bad place of a beginning is the bad place of the whole
pub bad-of_take : (f : Filter) → BadLaw f → (n : ℕ) (xs : List ℕ) (place : ℕ) → f.bad (take n xs) ≡ Some place → f.bad xs ≡ Some place
bad-of_take f law n xs place h = subst (λ z. f.bad z ≡ Some place) (take-append-drop n xs) (law.stays (take n xs) (drop n xs) place h)

-- of a good input each beginning is good
pub good-take : (f : Filter) → BadLaw f → (n : ℕ) (xs : List ℕ) → f.bad xs ≡ None → f.bad (take n xs) ≡ None
good-take f law n xs good = by_case (f.bad (take n xs)) refl
  where
    by_case : (o : Option ℕ) → f.bad (take n xs) ≡ o → f.bad (take n xs) ≡ None
    by_case None e = e
    by_case (Some place) e = absurd (let bad = bad-of_take f law n xs place e in cc)

-- where the first bytes are good and one more is bad, the place is that byte's
pub bad-next : (f : Filter) → BadLaw f → (used : ℕ) (xs : List ℕ) (place : ℕ) → f.bad (take used xs) ≡ None → f.bad
    (take (used + 1) xs) ≡ Some place → place ≡ used
bad-next f law used xs place good bad = by_order (nat_lt place used) refl
  where
    within : place < used + 1
    within = let k = law.is_there (take (used + 1) xs) place bad in omega (arith, length-take (used + 1) xs)

    earlier : place + 1 ≤ used → f.bad (take used xs) ≡ Some place
    earlier le =
        bad-of_take f law (place + 1) (take used xs) place
        (ap f.bad (take-take (place + 1) used xs le ∙ sym (take-take (place + 1) (used + 1) xs (omega arith)))
        ∙ law.shows (take (used + 1) xs) place bad)

    by_order : (b : Bool) → nat_lt place used ≡ b → place ≡ used
    by_order true e = absurd (let lt = ltb-true place used e in let k = earlier (omega arith) in cc)
    by_order false e = let le = ltb-false place used e in let lt = within in omega arith

-- what is met where there is room: the next byte where one is left, the end where none is
met-cases : (f : Filter) → BadLaw f → (xs : List ℕ) (used place : ℕ) (over room b : Bool) → nat_lt used (length xs) ≡ b →
    (if room then (if b then f.bad (take (used + 1) xs) else (if over then f.bad_at_end xs else None)) else None) ≡ Some place →
    IsMetPlace f xs used place
met-cases f law xs used place over false b e h = absurd (cc)
met-cases f law xs used place over true true e h =
    let bad : f.bad xs ≡ Some place = bad-of_take f law (used + 1) xs place h in
    record { at_end = law.bad_at_end xs place bad; before = λ _. bad; next = λ _ good. bad-next f law used xs place good h }
met-cases f law xs used place true true false e h =
    let none_left = ltb-false used (length xs) e in
    record { at_end = h; before = λ left. absurd (omega arith); next = λ left good. absurd (omega arith) }
met-cases f law xs used place false true false e h = absurd (cc)

pub met_is_bad : MetIsBad
met_is_bad f xs used over room place law h = met-cases f law.badness xs used place over room (nat_lt used (length xs)) refl h
