use Rattle.std.proofs.Common.{arith, length, ◌<◌}
use Rattle.ev_types.specs.Sides.{number}
use Rattle.script_port.specs.ScriptEnds.{wanted}
use Rattle.script_port.proofs.ListLemmas.{changed_set, same_set, changed_past}
use Rattle.script_port.proofs.script_links.ScriptLinks.count_want.Goals as goal

pub returns-then-number-len : goal.returns-then-number-len
returns-then-number-len c =
    let es = c.self.inside.ends.items in
    let x = c.index_mut.result.now in
    let k = c.number-number.result in
    let within : k < length es = omega arith in
    let states = changed_set (λ e. e.state) (wanted c.args.want.now) es k x c.count_want.new.self within c.index_mut.ensures.value
    (rw c.count_want.ensures) in
    let to_come = same_set (λ e. e.to_come) es k x c.count_want.new.self c.index_mut.ensures.value (rw c.count_want.ensures) in
    rw (← c.self.view_is, states, to_come, c.number-number.ensures)

pub returns-else-number-len : goal.returns-else-number-len
returns-else-number-len c =
    let states = changed_past (λ e. e.state) (wanted c.args.want.now) c.self.inside.ends.items (number c.args.want.now.side)
    (omega arith) in
    rw (← c.self.view_is, states)
