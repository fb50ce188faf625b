-- What the number of a process's status says.
use Rattle.std.proofs.Common.{◌≡◌, refl}
use Rattle.ev_types.specs.declared.status.Status.{Status}
use Rattle.ev_types.specs.declared.status.Status.TheVariants as status
use Rattle.program_end.specs.EndStatus.{status_number}

-- a process that ends with 0 ended well
pub ended-well : (ended : Status) → status_number ended ≡ 0 → ended ≡ status.Ok
ended-well status.Ok zero-is = refl
ended-well status.Usage zero-is = absurd (cc)
ended-well (status.BadScript line) zero-is = absurd (cc)
ended-well status.ReadFault zero-is = absurd (cc)
ended-well status.WriteFault zero-is = absurd (cc)
ended-well status.PollFault zero-is = absurd (cc)
ended-well (status.Stopped link turn) zero-is = absurd (cc)
ended-well status.TooLong zero-is = absurd (cc)
ended-well status.Memory zero-is = absurd (cc)
ended-well status.OpenFault zero-is = absurd (cc)
ended-well status.Spent zero-is = absurd (cc)
