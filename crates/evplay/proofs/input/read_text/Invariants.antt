use Rattle.std.proofs.Common.{◌≡◌, ◌≤◌, ◌+◌, ◌-◌, ◌^◌, vec_len}
use Rattle.ev_port.specs.StreamBytes.{Gave}
use Rattle.evplay.proofs.input.read_text.Given as goal

abbrev pub invariant-loop-buffer : goal.invariant-loop-buffer
invariant-loop-buffer g l = record {
  gave : Gave (g.S.Source.left l.fn.source) (g.S.Source.left l.source) l.text.items;
  short : vec_len l.text ≤ 2 ^ 24 + 1;
  calm : g.S.Source.faults l.source ≡ g.S.Source.faults l.fn.source;
}

abbrev pub decreases-loop-buffer : goal.decreases-loop-buffer
decreases-loop-buffer g l = 2 ^ 24 + 1 - vec_len l.text
