-- A relay without links stands for the trace of no entries.
use Rattle.std.proofs.Common.{refl, arith}
use Rattle.relay_model.specs.Turn.{Reaches}
use Rattle.relay_model.specs.Stands.{NothingStands}

pub nothing_stands : NothingStands
nothing_stands g = record {
  reached = Reaches.begins;
  conserved = record {
    accounted = record {
      sides = refl;
      flows = refl;
      each = λ e h. absurd (omega (arith, h));
      ended = λ e h. absurd (omega (arith, h));
      unopened = λ e h. record { read = refl; given = refl; ended = refl; moved_at_free = refl; given_at_free = refl; write_closed = refl };
    };
    buffers_kept = refl;
    runnings_kept = refl;
    each = λ e h. absurd (omega (arith, h));
  };
}
