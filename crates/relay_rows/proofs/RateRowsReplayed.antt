-- Each run with limits is accepted.
use Rattle.std.specs.Prelude.{refl}
use Rattle.relay_rows.specs.Laws.{Goes}
use Rattle.relay_rows.specs.RateRows.{share_lowered_to_the_rate, group_of_ten, written_in_ticks, limited_out, suspended_for_two_ticks}
use Rattle.relay_rows.specs.RateRows.{small_group, read_in_ticks, shared_by_three, limited_in, one_group}
use Rattle.relay_rows.proofs.AcceptLemmas.{rests-went}

pub read_in_ticks-goes : Goes limited_in read_in_ticks
read_in_ticks-goes = rests-went limited_in read_in_ticks refl

pub written_in_ticks-goes : Goes limited_out written_in_ticks
written_in_ticks-goes = rests-went limited_out written_in_ticks refl

pub shared_by_three-goes : Goes one_group shared_by_three
shared_by_three-goes = rests-went one_group shared_by_three refl

pub suspended_for_two_ticks-goes : Goes small_group suspended_for_two_ticks
suspended_for_two_ticks-goes = rests-went small_group suspended_for_two_ticks refl

pub share_lowered_to_the_rate-goes : Goes group_of_ten share_lowered_to_the_rate
share_lowered_to_the_rate-goes = rests-went group_of_ten share_lowered_to_the_rate refl
