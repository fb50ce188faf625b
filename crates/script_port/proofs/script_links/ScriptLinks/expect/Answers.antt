use Rattle.std.proofs.Common.{◌++◌, arith, List, ℕ, length, ◌<◌}
use Rattle.ev_types.specs.Sides.{number}
use Rattle.script_port.proofs.ListLemmas.{changed_set, same_set, changed_past}
use Rattle.script_port.proofs.script_links.ScriptLinks.expect.Goals as goal

pub returns-in_ok-expect : goal.returns-in_ok-expect
returns-in_ok-expect c =
    let es = c.self.inside.ends.items in
    let x = c.index_mut.result.now in
    let y = c.expect.new.self in
    let k = c.number-number.result in
    let within : k < length es = omega arith in
    let more : List ℕ → List ℕ = λ before. before ++ c.deref.result.now in
    let states = same_set (λ e. e.state) es k x y c.index_mut.ensures.value (rw c.in_ok-expect.ensures) in
    let to_come = changed_set (λ e. e.to_come) more es k x y within c.index_mut.ensures.value (rw c.in_ok-expect.ensures) in
    rw (← c.self.view_is, c.in-Pending.is, states, to_come, c.number-number.ensures, ← c.list.view_is, c.deref.ensures.value)

pub returns-else-number-len : goal.returns-else-number-len
returns-else-number-len c =
    let to_come = changed_past (λ e. e.to_come) (λ before. before ++ c.in-Pending.list) c.self.inside.ends.items
    (number c.in-Pending.end) (omega arith) in
    rw (← c.self.view_is, c.in-Pending.is, to_come)
