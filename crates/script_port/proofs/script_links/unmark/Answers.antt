use Rattle.std.proofs.Common.{◌<◌, length, arith}
use Rattle.script_port.specs.ScriptLinks.{unmarked}
use Rattle.script_port.proofs.LinkLemmas.{marks_more}
use Rattle.script_port.proofs.script_links.unmark.Goals as goal

pub loop-want-preserved : goal.loop-want-preserved
loop-want-preserved c =
    let within : c.loop-want.want-index < length c.args.wants.now = omega arith in
    let also : c.loop-want.want-index < length c.loop-want.wants = omega arith in
    marks_more unmarked c.args.wants.now c.loop-want.wants c.loop-want.want-index _ c.unmarked.result within also
    c.loop-want.invariant c.unmarked.ensures
