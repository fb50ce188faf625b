use Rattle.std.proofs.Common.{◌*◌, arith}
use Rattle.ev_port.proofs.NamedLemmas.{length-named_below}
use Rattle.relay_drive.proofs.poll.most_entries.Goals as goal

pub returns : goal.returns
returns c =
    let few = length-named_below c.args.wants.now.reads c.args.wants.now.writes (2 * c.args.wants.now.links) in
    omega (arith, few, c.links.ensures)
