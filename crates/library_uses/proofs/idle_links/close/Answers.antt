use Rattle.ev_types.specs.declared.act.Act.TheVariants.{Free}
use Rattle.relay_core.specs.Fires.{answer_of}
use Rattle.relay_core.proofs.FireLemmas.{steps-asked}
use Rattle.library_uses.proofs.HookLemmas.{asked-once}
use Rattle.library_uses.proofs.idle_links.close.Goals as goal

pub returns : goal.returns
returns c =
    let old = c.args.ctl.now in
    let mid = c.free-peer.new.self in
    steps-asked old mid c.free-own.new.self (Free c.me-me.result) (answer_of c.free-own.result)
    (asked-once old mid (Free c.peer.result) (answer_of c.free-peer.result) c.requires c.free-peer.ensures) c.free-own.ensures
