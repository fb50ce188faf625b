-- An input that is taken out of its slot and put back.
use Rattle.std.proofs.Common.{◌≡◌, ℕ, ◌<◌, [], length, ◌∙◌, ap}
use Rattle.std.specs.Prelude.{slice_index_or, slice_set}
use Rattle.std.proofs.lemmas.List.{get_or-set_same, set-set, set-get_or}
use Rattle.bev_core.specs.BevValue.{Held}
use Rattle.bev_world.specs.declared.slot.Slot.{Slot}
use Rattle.bev_world.specs.Passed.{emptied, with_whole_input}
use Rattle.bev_world.specs.WorldValue.{WorldValue, no_slot, slot_at, bev_at}

abbrev without_input : Slot → Slot
without_input s = record s { bev = record s.bev { input = record { bytes = []; spare = 0 } }; room = 0 }

-- what was taken out of a slot is back there
pub restored : (w v new : WorldValue) (n room : ℕ) (input : Held) → n < length w.slots → v ≡ emptied w n 0 →
    input ≡ (bev_at w n).input → room ≡ (slot_at w n).room → new ≡ with_whole_input v n input room → new ≡ w
restored w v new n room input there empty same sure is =
    is ∙ (λ i. with_whole_input (empty i) n (same i) (sure i)) ∙ ap (λ ss. record w { slots = ss }) slots_are
  where
    s : Slot
    s = slot_at w n

    back : Slot → Slot
    back x = record x { bev = record x.bev { input = s.bev.input }; room = s.room }

    slots_are : slice_set (slice_set w.slots n (without_input s)) n
        (back (slice_index_or (slice_set w.slots n (without_input s)) n no_slot)) ≡ w.slots
    slots_are =
        ap (λ x. slice_set (slice_set w.slots n (without_input s)) n (back x))
        (get_or-set_same w.slots n (without_input s) no_slot there)
        ∙ set-set w.slots n (without_input s) s ∙ set-get_or w.slots n no_slot
