use Rattle.ev_types.specs.declared.act.Act.TheVariants.{Timer}
use Rattle.relay_core.specs.Fires.{answer_of}
use Rattle.library_uses.proofs.HookLemmas.{asked-once}
use Rattle.library_uses.proofs.idle_links.set_timer.Goals as goal

pub returns : goal.returns
returns c =
    asked-once c.args.ctl.now c.add_timer.new.self (Timer c.me.result c.args.after) (answer_of c.add_timer.result) c.requires
    c.add_timer.ensures
