use Rattle.std.proofs.Common.{◌≡◌, ◌≤◌, ◌<◌, length, refl, arith}
use Rattle.text_scribe.proofs.TextLemmas.{trace_text-push}
use Rattle.text_scribe.proofs.scribe.TextScribeScribe.put.Goals as goal

-- The line was put, and as much room is used as it may need.
pub invariant_of-self : goal.invariant_of-self
invariant_of-self c =
    let s = c.self.inside in
    let grew = c.put_entry.ensures in
    let some : 0 < s.entries = rw (← c.self.view_is) at c.requires.room in
    let within : length c.args.bytes.now ≤ s.bytes = rw (← c.self.view_is) at c.requires.bytes_room in (
      rw (grew.0, c.then-self-inside.ensures, trace_text-push, c.self.invariant.0) refl,
      omega (arith, grew.1, grew.2, c.self.invariant.1, some, within),
    )
