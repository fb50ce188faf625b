use Rattle.std.proofs.Common.{arith}
use Rattle.script_port.proofs.TurnLemmas.{as_many_kept}
use Rattle.script_port.proofs.script_turns.ScriptTurns.len.Goals as goal

pub returns : goal.returns
returns c =
    let t = c.self.inside in
    rw (← c.self.view_is) (omega (arith, as_many_kept t.kept.items t.log.turns c.self.invariant))
