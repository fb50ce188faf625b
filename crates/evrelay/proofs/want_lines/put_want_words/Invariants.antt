use Rattle.std.proofs.Common.{◌≤◌, length, drop}
use Rattle.evrelay.specs.RingText.{SpeltBehind}
use Rattle.evrelay.specs.RingWants.{word_entries}
use Rattle.evrelay.proofs.want_lines.put_want_words.Given as goal

-- The lines of the words from here on stand there.
abbrev pub invariant-loop-at : goal.invariant-loop-at
invariant-loop-at l = record {
  within : l.at ≤ length l.words;
  spelt : SpeltBehind (word_entries (drop l.at l.words)) l.passed l.left l.fn.text l.text;
}

abbrev pub decreases-loop-at : goal.decreases-loop-at
decreases-loop-at l = l.at
