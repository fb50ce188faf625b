use Rattle.std.proofs.Common.{arith, length, ◌<◌}
use Rattle.script_port.specs.ScriptClosing.{closing_end}
use Rattle.script_port.proofs.ListLemmas.{changed_set, same_set, changed_past}
use Rattle.script_port.proofs.script_links.ScriptLinks.take_all_at.Goals as goal

pub returns-then-place-len : goal.returns-then-place-len
returns-then-place-len c =
    let es = c.self.inside.ends.items in
    let x = c.index_mut.result.now in
    let k = c.args.place in
    let within : k < length es = omega arith in
    let states = changed_set (λ e. e.state) closing_end es k x c.take_all.new.self within c.index_mut.ensures.value
    (rw c.take_all.ensures) in
    let to_come = same_set (λ e. e.to_come) es k x c.take_all.new.self c.index_mut.ensures.value (rw c.take_all.ensures) in
    rw (← c.self.view_is, states, to_come)

pub returns-else-place-len : goal.returns-else-place-len
returns-else-place-len c =
    let states = changed_past (λ e. e.state) closing_end c.self.inside.ends.items c.args.place (omega arith) in
    rw (← c.self.view_is, states)
