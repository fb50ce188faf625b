use Rattle.std.proofs.Common.{ap, arith, sym, subst, Err}
use Rattle.relay_core.specs.Fires.{AsksOnce, answer_of}
use Rattle.relay_core.specs.RelayValue.{RelayValue}
use Rattle.relay_core.proofs.AskLemmas.{recorded-refused}
use Rattle.relay_core.proofs.ctl.Ctl.may_ask.Goals as goal

pub returns-in-Some-clause-refused : goal.returns-in-Some-clause-refused
returns-in-Some-clause-refused c =
    subst (λ f. AsksOnce c.args.self.now c.args.act (answer_of (Err f)) c.record.new.self) (sym c.fault_of.ensures)
    (recorded-refused c.args.self.now c.record.new.self c.args.act c.in-Some.refused c.requires
    (let e = ap (λ (z : RelayValue). z.asks) c.self.view_is in omega (arith, e, c.if-self-ge-MOST_ASKS.false))
    (sym c.in-Some.ensures.refusal) (record {
      state = c.record.ensures.state;
      log = c.record.ensures.log;
      asks = c.record.ensures.asks;
      me = c.record.ensures.me;
      stopped = c.record.ensures.stopped;
    }))
