use Rattle.std.proofs.Common.{refl}
use Rattle.evplay.proofs.run.written.Goals as goal

-- The text of the trace was written first, and behind it comes that of the report.
pub returns : goal.returns
returns c =
    rw (
      c.in_ok-write_report.ensures.text,
      c.into_text-text.ensures,
      c.deref.ensures.value,
      c.in_ok-links.ensures,
    ) refl
