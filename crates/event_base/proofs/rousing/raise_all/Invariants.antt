-- The events that are left are still to get the flag.
use Rattle.std.proofs.Common.{◌≡◌, drop}
use Rattle.event_base.specs.Rousing.{risen, CanRise}
use Rattle.event_base.proofs.rousing.raise_all.Given as goal

abbrev pub invariant-loop-number : goal.invariant-loop-number
invariant-loop-number l = record {
  rest : risen l.flag l.first l.more l.events.items l.order (drop l.number-index l.numbers) ≡ risen l.flag l.first l.more
      l.initial.events.items l.next l.numbers;
  can : CanRise l.flag l.first l.more l.events.items l.order (drop l.number-index l.numbers);
}
