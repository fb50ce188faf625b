use Rattle.std.proofs.Common.{refl, ap}
use Rattle.told_port.specs.Calls.{told_by, ends_by}
use Rattle.evrelay.proofs.CarriedLemmas.{WasNew, carried-with, started-with, if_ok-on}
use Rattle.evrelay.proofs.program.relay_told.Goals as goal

-- The port and the ring were new, and the run that `serve` speaks of was made over them.
pub returns-clause-served : goal.returns-clause-served
returns-clause-served g c =
    if_ok-on c.args.words c.relay_program.ensures.served (λ all k.
    let new : WasNew _ = record {
      told = ap (λ calls. told_by calls) c.requires.new;
      ends = λ e. ap (λ calls. ends_by calls e) c.requires.new;
      log = refl;
    } in
    let carried = carried-with _ _ k.1 new refl _ k.0 _ _ k.3 in
    let started = started-with _ _ k.1 new refl _ k.0 _ _ k.3 in
    (k.0, k.1, k.2, k.3, k.4, k.5, k.6, carried.0, carried.1, started))
