use Rattle.std.proofs.Common.{◌<◌, length, arith}
use Rattle.mio_port.specs.EndPlaces.{marked}
use Rattle.mio_port.proofs.WantMarkLemmas.{marks-more}
use Rattle.mio_port.proofs.ends.Ends.mark.Goals as goal

pub loop-want-preserved : goal.loop-want-preserved
loop-want-preserved c =
    let within : c.loop-want.want-index < length c.args.wants.now = omega arith in
    let also : c.loop-want.want-index < length c.loop-want.wants = omega arith in
    marks-more (marked c.args.self.now.ends.items) c.args.wants.now c.loop-want.wants c.loop-want.want-index _ c.marked.result within also c.loop-want.invariant c.marked.ensures
