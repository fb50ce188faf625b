-- What reports tell, one more of them at a time.
use Rattle.std.proofs.Common.{◌≡◌, ◌≢◌, ◌∙◌, ℕ, ◌==◌, Bool, true, false, ◌||◌, List, [], ◌∷◌, Option, None, option_map, get_or, length}
use Rattle.std.proofs.Common.{arith, inl, inr, refl, sym, ap, subst, eq-eqb, eqb-true}
use Rattle.std.specs.List.{fold}
use Rattle.std.proofs.lemmas.Bool.{cases_eq}
use Rattle.mio.specs.declared.event.event.Event.{Event}
use Rattle.mio_port.specs.declared.end.End.{End}
use Rattle.mio_port.specs.EndPlaces.{PlaceWent}
use Rattle.mio_port.specs.OneEnd.{noticed_end}
use Rattle.mio_port.specs.Reports.{AsReported, heard_at, is_of_listener, reported}

not-same : (m n : ℕ) → m ≢ n → (m == n) ≡ false
not-same m n differ = by_test (m == n) refl
  where
    by_test : (b : Bool) → (m == n) ≡ b → b ≡ false
    by_test false is = refl
    by_test true is = absurd (differ (eqb-true m n is))

-- a report of an end
heard-here : (b c : List (Option End)) (seen : Event) → is_of_listener seen ≡ false → PlaceWent b c (reported seen) (λ end. noticed_end end seen)
    → (n : ℕ) → get_or c n None ≡ heard_at n (get_or b n None) seen
heard-here b c seen other went n =
    let place = get_or b n None in
    elim (cases_eq n (reported seen)) as (λ _. get_or c n None ≡ heard_at n (get_or b n None) seen) [
      | inl same ↦ rw other (rw (eq-eqb (reported seen) n (sym same))
          (subst (λ k. get_or c k None ≡ option_map (λ end. noticed_end end seen) (get_or b k None)) (sym same) went.own))
      | inr differ ↦ rw other (rw (not-same (reported seen) n (λ e. differ (sym e))) (went.others n differ))
    ]

or-none : (a b : Bool) → b ≡ false → a ≡ (a || b)
or-none true b none = refl
or-none false b none = sym none

or-some : (a b : Bool) → b ≡ true → true ≡ (a || b)
or-some true b some = refl
or-some false b some = sym some

abbrev pub listener_by : Bool → Event → Bool
listener_by r seen = r || is_of_listener seen

-- with what the rest of the reports will tell, all is told that all of them tell
pub record StillToTell (rest all : List Event) (old now : List (Option End)) (ready now_ready : Bool) : Type 0 where
  pub ends : (n : ℕ) → fold (heard_at n) (get_or now n None) rest ≡ fold (heard_at n) (get_or old n None) all
  pub listener : fold listener_by now_ready rest ≡ fold listener_by ready all

pub tell-none : (rest all : List Event) (old : List (Option End)) (ready : Bool) → rest ≡ all → StillToTell rest all old old ready ready
tell-none rest all old ready is = record {
  ends = λ n. ap (λ xs. fold (heard_at n) (get_or old n None) xs) is;
  listener = ap (λ xs. fold listener_by ready xs) is;
}

-- one more report, of an end
pub tell-end : (rest more all : List Event) (seen : Event) (a b c : List (Option End)) (ready now_ready : Bool) → rest ≡ seen ∷ more
    → StillToTell rest all a b ready now_ready → is_of_listener seen ≡ false → PlaceWent b c (reported seen) (λ end. noticed_end end seen)
    → StillToTell more all a c ready now_ready
tell-end rest more all seen a b c ready now_ready is before other went = record {
  ends = λ n. ap (λ p. fold (heard_at n) p more) (heard-here b c seen other went n)
      ∙ ap (λ xs. fold (heard_at n) (get_or b n None) xs) (sym is) ∙ before.ends n;
  listener = ap (λ r. fold listener_by r more) (or-none now_ready (is_of_listener seen) other)
      ∙ ap (λ xs. fold listener_by now_ready xs) (sym is) ∙ before.listener;
}

listener-only : (n : ℕ) (seen : Event) → is_of_listener seen ≡ true → (place : Option End) → heard_at n place seen ≡ place
listener-only n seen its place = rw its refl

-- one more report, of the listener
pub tell-listener : (rest more all : List Event) (seen : Event) (a b : List (Option End)) (ready now_ready : Bool) → rest ≡ seen ∷ more
    → StillToTell rest all a b ready now_ready → is_of_listener seen ≡ true → StillToTell more all a b ready true
tell-listener rest more all seen a b ready now_ready is before its = record {
  ends = λ n. ap (λ p. fold (heard_at n) p more) (sym (listener-only n seen its (get_or b n None)))
      ∙ ap (λ xs. fold (heard_at n) (get_or b n None) xs) (sym is) ∙ before.ends n;
  listener = ap (λ r. fold listener_by r more) (or-some now_ready (is_of_listener seen) its)
      ∙ ap (λ xs. fold listener_by now_ready xs) (sym is) ∙ before.listener;
}

-- none is left
pub tell-all : (rest all : List Event) (a b : List (Option End)) (ready now_ready : Bool) → length rest ≡ 0
    → StillToTell rest all a b ready now_ready → AsReported all a b ready now_ready
tell-all [] all a b ready now_ready none k = record { ends = k.ends; listener = k.listener }
tell-all (seen ∷ rest) all a b ready now_ready none k = absurd (omega (arith, none))
