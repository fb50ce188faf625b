use Rattle.std.proofs.Common.{map}
use Rattle.ev_port.specs.WantWords.{word_rows_before}
use Rattle.evrelay.specs.RingText.{SpeltBehind}
use Rattle.evrelay.specs.RingWants.{want_entry}
use Rattle.evrelay.proofs.want_lines.put_want_word.Given as goal

-- The lines of the wants of the first sides stand there.
abbrev pub invariant-loop-bit : goal.invariant-loop-bit
invariant-loop-bit l = SpeltBehind (map want_entry (word_rows_before l.word l.bit)) l.passed l.left l.fn.text l.text
