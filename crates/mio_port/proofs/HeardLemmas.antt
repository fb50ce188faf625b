-- What a poll tells of the ends takes nothing from them, report by report; and a pause that was looked at twice.
use Rattle.std.proofs.Common.{◌≡◌, ◌∙◌, ◌≤◌, ℕ, Bool, true, ◌||◌, List, Option, Some, None, option_map, get_or, inl, inr, refl, ap, subst}
use Rattle.std.proofs.Common.{sym, arith, rules}
use Rattle.std.proofs.lemmas.Bool.{cases_eq}
use Rattle.mio.specs.declared.event.event.Event.{Event}
use Rattle.mio_port.specs.declared.end.End.{End}
use Rattle.mio_port.specs.Acceptor.{pause_after}
use Rattle.mio_port.specs.EndLeft.{AllHeard, Heard, LeftAt}
use Rattle.mio_port.specs.EndPlaces.{PlaceWent}
use Rattle.mio_port.specs.OneEnd.{noticed_end}

-- Ends

heard_nothing : (e : End) → Heard e e
heard_nothing e = record { rest = refl; reads = λ was. was; writes = λ was. was; hung = λ was. was }

or-true : (a b : Bool) → a ≡ true → (a || b) ≡ true
or-true a b was = rw was refl

heard_report : (e : End) (seen : Event) → Heard e (noticed_end e seen)
heard_report e seen = search rules

heard_then : (a b c : End) → Heard a b → Heard b c → Heard a c
heard_then a b c first second =
    let set : End → End = λ e. record e { read_ready = c.read_ready; write_ready = c.write_ready; hung_up = c.hung_up } in
    record {
      rest = second.rest ∙ ap set first.rest;
      reads = λ was. second.reads (first.reads was);
      writes = λ was. second.writes (first.writes was);
      hung = λ was. second.hung (first.hung was);
    }

left_heard_nothing : (place : Option End) → LeftAt Heard place place
left_heard_nothing None = refl
left_heard_nothing (Some e) = heard_nothing e

left_heard_report : (place : Option End) (seen : Event) → LeftAt Heard place (option_map (λ end. noticed_end end seen) place)
left_heard_report None seen = refl
left_heard_report (Some e) seen = heard_report e seen

left_heard_then : (p q r : Option End) → LeftAt Heard p q → LeftAt Heard q r → LeftAt Heard p r
left_heard_then None q r first second = subst (λ place. LeftAt Heard place r) first second
left_heard_then (Some a) None r first second = elim first [ ]
left_heard_then (Some a) (Some b) None first second = elim second [ ]
left_heard_then (Some a) (Some b) (Some c) first second = heard_then a b c first second

pub all_heard_nothing : (ends : List (Option End)) → AllHeard ends ends
all_heard_nothing ends n = left_heard_nothing (get_or ends n None)

-- one more report
pub all_heard_more : (a b c : List (Option End)) (n : ℕ) (seen : Event) → AllHeard a b → PlaceWent b c n (λ end. noticed_end end seen)
    → AllHeard a c
all_heard_more a b c n seen heard went k =
    let at : (place : Option End) → get_or c k None ≡ place → LeftAt Heard (get_or b k None) place → LeftAt Heard (get_or a k None) (get_or c k None) =
    λ place here told. left_heard_then _ _ _ (heard k) (subst (λ p. LeftAt Heard (get_or b k None) p) (sym here) told) in
    elim (cases_eq k n) as (λ _. LeftAt Heard (get_or a k None) (get_or c k None)) [
      | inl same ↦ subst (λ m. LeftAt Heard (get_or a m None) (get_or c m None)) (sym same)
          (left_heard_then _ _ _ (heard n) (subst (λ p. LeftAt Heard (get_or b n None) p) (sym went.own) (left_heard_report (get_or b n None) seen)))
      | inr differ ↦ at (get_or b k None) (went.others k differ) (left_heard_nothing (get_or b k None))
    ]

-- Pauses

-- a pause that was looked at before ends when it would have
pub pause_after-later : (pause : Option ℕ) (s t : ℕ) → s ≤ t → pause_after (pause_after pause s) t ≡ pause_after pause t
pause_after-later None s t later = refl
pause_after-later (Some to) s t later = grind arith
