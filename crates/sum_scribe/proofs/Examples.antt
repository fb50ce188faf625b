-- The four numbers of a small trace, so that a wrong rule in them does not check.
use Rattle.std.proofs.Common.{◌≡◌, ◌∷◌, [], refl}
use Rattle.ev_types.specs.declared.answer.ReadAnswer.TheVariants.{Got}
use Rattle.ev_types.specs.declared.answer.WriteAnswer.TheVariants.{Took}
use Rattle.ev_types.specs.declared.entry.Entry.TheVariants.{Turn, Read, Write}
use Rattle.ev_types.specs.declared.side.Side.TheVariants.{In, Out}
use Rattle.ev_types.specs.declared.side.SideId.{SideId}
use Rattle.ev_types.specs.Trace.{Trace}
use Rattle.sum_scribe.specs.Sums.{turns_in, read_in, written_in, sum_of}

abbrev in_end : SideId
in_end = record { link = 0; side = In }

abbrev out_end : SideId
out_end = record { link = 0; side = Out }

-- three bytes are read in a first turn, and written in two goes in it and in a second
abbrev small : Trace
small =
    (Turn 0, [])
    ∷ (Read in_end 16384 (Got 3), 72 ∷ 105 ∷ 33 ∷ [])
    ∷ (Write out_end 3 (Took 2), 72 ∷ 105 ∷ [])
    ∷ (Turn 5, [])
    ∷ (Write out_end 1 (Took 1), 33 ∷ [])
    ∷ []

pub known_numbers : (turns_in small ≡ 2) × (read_in small ≡ 3) × (written_in small ≡ 3) × (sum_of small ≡ 72480)
known_numbers = (refl, refl, refl, refl)
