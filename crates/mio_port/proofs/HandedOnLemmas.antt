-- What is handed to the system: that the writing of the one end ends that is pending, and nothing else of any end.
use Rattle.std.proofs.Common.{◌≡◌, ◌≢◌, ◌∙◌, ℕ, ◌<◌, false, if◌then◌else◌, List, [], Option, None, Some, option_map, set}
use Rattle.std.proofs.Common.{get_or, length, refl, sym, ap, inl, inr}
use Rattle.std.proofs.lemmas.Bool.{cases_eq}
use Rattle.std.proofs.lemmas.List.{ext_get_or, get_or-set_other, get_or-set_same, length-map, length-set}
use Rattle.std.proofs.Math.ListN as lists
use Rattle.mio_port.specs.declared.end.End.{End}
use Rattle.mio_port.specs.declared.socket_call.SocketCall.TheVariants as call
use Rattle.mio_port.specs.EndPlaces.{all_handed_on, is_ending}
use Rattle.mio_port.specs.OneEnd.{handed_on_end, told_end}

-- One end

abbrev pub hand : Option End → Option End
hand place = option_map handed_on_end place

-- an end of which nothing is pending stays
not_handed : (place : Option End) → is_ending place ≡ false → hand place ≡ place
not_handed None is = refl
not_handed (Some e) is = ap (λ b. Some (if b then record (told_end e (call.EndedWriting, [])) { ending = false } else e)) is

-- All ends

get_or-handed_on : (ends : List (Option End)) (n : ℕ) → get_or (all_handed_on ends) n None ≡ hand (get_or ends n None)
get_or-handed_on ends n = lists.get_or-map hand ends n None

-- where nothing is pending all stay
pub all_handed_on-none : (ends : List (Option End)) → ((n : ℕ) → is_ending (get_or ends n None) ≡ false) → ends ≡ all_handed_on ends
all_handed_on-none ends none =
    ext_get_or None ends (all_handed_on ends) (sym (length-map ends hand))
    (λ n _. sym (get_or-handed_on ends n ∙ not_handed (get_or ends n None) (none n)))

-- where nothing is pending of another end, the one alone is handed on
pub all_handed_on-one : (ends : List (Option End)) (at : ℕ) → at < length ends → ((n : ℕ) → n ≢ at → is_ending (get_or ends n None) ≡ false)
    → set ends at (hand (get_or ends at None)) ≡ all_handed_on ends
all_handed_on-one ends at within others =
    let now = set ends at (hand (get_or ends at None)) in
    let each : (n : ℕ) → n < length now → get_or now n None ≡ get_or (all_handed_on ends) n None =
    λ n _. elim (cases_eq n at) as (λ _. get_or now n None ≡ get_or (all_handed_on ends) n None) [
      | inl same ↦ ap (λ k. get_or now k None) same ∙ get_or-set_same ends at (hand (get_or ends at None)) None within
          ∙ sym (ap (λ k. get_or (all_handed_on ends) k None) same ∙ get_or-handed_on ends at)
      | inr differ ↦ get_or-set_other ends at n (hand (get_or ends at None)) None differ
          ∙ sym (get_or-handed_on ends n ∙ not_handed (get_or ends n None) (others n differ))
    ] in
    ext_get_or None now (all_handed_on ends) (length-set ends at (hand (get_or ends at None)) ∙ sym (length-map ends hand)) each
