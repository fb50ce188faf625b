use Rattle.std.proofs.Common.{arith, length, ◌<◌, false, refl}
use Rattle.std.proofs.lemmas.Bool.{and_right}
use Rattle.ev_types.specs.Sides.{number}
use Rattle.script_port.specs.ScriptEnds.{wanted}
use Rattle.script_port.proofs.ListLemmas.{changed_set, same_set, changed_past, part_past}
use Rattle.script_port.proofs.LinkLemmas.{or_false}
use Rattle.script_port.proofs.script_links.ScriptLinks.poll_want.Goals as goal

pub returns-then-number-len-clause-after : goal.returns-then-number-len-clause-after
returns-then-number-len-clause-after c =
    let es = c.self.inside.ends.items in
    let x = c.index_mut.result.now in
    let k = c.number-number.result in
    let within : k < length es = omega arith in
    let states = changed_set (λ e. e.state) (wanted c.poll.result) es k x c.poll.new.self within c.index_mut.ensures.value
    (rw c.poll.ensures.after) in
    let to_come = same_set (λ e. e.to_come) es k x c.poll.new.self c.index_mut.ensures.value (rw c.poll.ensures.after) in
    rw (← c.self.view_is, states, to_come, c.number-number.ensures)

pub returns-else-number-len-clause-marks : goal.returns-else-number-len-clause-marks
returns-else-number-len-clause-marks c =
    let none = part_past (λ e. e.state) c.self.inside.ends.items (number c.args.want.side) (omega arith) in
    rw (← c.self.view_is, none, and_right c.args.want.read false refl, or_false c.self.inside.closing, c.marked_beyond.ensures)

pub returns-else-number-len-clause-after : goal.returns-else-number-len-clause-after
returns-else-number-len-clause-after c =
    let states = changed_past (λ e. e.state) (wanted c.marked_beyond.result) c.self.inside.ends.items (number c.args.want.side)
    (omega arith) in
    rw (← c.self.view_is, states)
