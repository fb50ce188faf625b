use Rattle.std.proofs.Common.{ap, sym, subst, ◌∙◌}
use Rattle.number_set.specs.Numbers.{NumberSetValue}
use Rattle.relay_core.specs.RelayValue.{RelayValue}
use Rattle.relay_core.specs.Timeless.{AreTimelessBeside}
use Rattle.relay_core.specs.declared.relay.Relay.TheInside.{Inside}
use Rattle.relay_core.proofs.relay.Relay.watched.Goals as goal

pub returns-clause-beside : goal.returns-clause-beside
returns-clause-beside c =
    let r = c.self-inside.inside.0.0 in
    let h = c.self-inside.invariant in
    subst (λ (set : NumberSetValue). AreTimelessBeside set c.args.self.now.state) (sym c.watched.ensures)
    (subst (λ (v : RelayValue). AreTimelessBeside r.resting.watched v.state) (ap (λ (z : Inside). z.ctl) c.self-inside.view_is ∙
    c.self.view_is)
    (λ e below out.
    let p = h.watching.beside e below out in
    record {
      reads = p.reads;
      writes = p.writes;
      unexpired = p.unexpired;
    }))
