use Rattle.std.proofs.Common.{◌≡◌, ◌≢◌, ℕ, ◌<◌, ◌≤◌, true, false, length}
use Rattle.std.specs.Prelude.{option_map, slice_get}
use Rattle.relay_core.specs.Halts.{halts_of}
use Rattle.relay_core.proofs.HaltLemmas.{AreNoted}
use Rattle.relay_core.proofs.relay.Relay.note_halts.Given as goal

abbrev pub invariant-loop-at : goal.invariant-loop-at
invariant-loop-at l = record {
  len : length l.seen.items ≡ length l.self.state.groups.groups;
  noted : AreNoted l.at l.seen.items l.self.state.groups.groups;
  same : l.same ≡ true → l.seen.items ≡ l.fn.seen.items;
  later : (k : ℕ) → l.at ≤ k → slice_get l.seen.items k ≡ slice_get l.fn.seen.items k;
  apart : l.same ≡ false →
      (k : ℕ) × (k < l.at) × (slice_get l.fn.seen.items k ≢ option_map halts_of (slice_get l.self.state.groups.groups k));
}
