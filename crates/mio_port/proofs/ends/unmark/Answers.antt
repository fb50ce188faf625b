use Rattle.std.proofs.Common.{◌<◌, length, arith}
use Rattle.mio_port.specs.EndPlaces.{unmarked}
use Rattle.mio_port.proofs.WantMarkLemmas.{marks-more}
use Rattle.mio_port.proofs.ends.unmark.Goals as goal

pub loop-want-preserved : goal.loop-want-preserved
loop-want-preserved c =
    let within : c.loop-want.want-index < length c.args.wants.now = omega arith in
    let also : c.loop-want.want-index < length c.loop-want.wants = omega arith in
    marks-more unmarked c.args.wants.now c.loop-want.wants c.loop-want.want-index _ c.unmarked.result within also c.loop-want.invariant c.unmarked.ensures
