-- What is left does, from the base so far on, what all acts do.
use Rattle.std.proofs.Common.{◌≡◌, drop}
use Rattle.base_mode.specs.Run.{after_acts}
use Rattle.base_mode.proofs.acts.perform_all.Given as goal

abbrev pub invariant-loop-act : goal.invariant-loop-act
invariant-loop-act l = after_acts l.base l.names (drop l.act-index l.acts) ≡ after_acts l.initial.base l.names l.acts
