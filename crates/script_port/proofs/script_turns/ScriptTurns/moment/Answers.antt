use Rattle.std.proofs.Common.{◌<◌, length, ap, arith}
use Rattle.script_port.proofs.TurnLemmas.{as_many_kept, kept_there}
use Rattle.script_port.proofs.script_turns.ScriptTurns.moment.Goals as goal

pub index-requires : goal.index-requires
index-requires c =
    let t = c.self.inside in
    omega (arith, ap length c.self.view_is, as_many_kept t.kept.items t.log.turns c.self.invariant)

pub returns : goal.returns
returns c =
    let t = c.self.inside in
    let within : c.args.place < length t.log.turns = omega (arith, ap length c.self.view_is) in
    let kept = kept_there t.kept.items t.log.turns c.args.place c.index.result.now c.self.invariant within c.index.ensures in
    rw (← c.self.view_is) (ap (λ k. k.0) kept)
