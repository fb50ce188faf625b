use Rattle.std.proofs.Common.{map, arith, length, ◌<◌, ◌≤◌, []}
use Rattle.ev_types.specs.Sides.{number}
use Rattle.script_port.specs.ScriptKept.{state_after_line, left_after_line, kept_at}
use Rattle.script_port.proofs.ListLemmas.{changed_set, changed_past, part_at}
use Rattle.script_port.proofs.script_links.ScriptLinks.apply_at.Goals as goal

pub returns-then-number-len : goal.returns-then-number-len
returns-then-number-len c =
    let es = c.self.inside.ends.items in
    let x = c.index_mut.result.now in
    let k = c.number-number.result in
    let line = c.args.line in
    let within : k < length es = omega arith in
    let next = part_at (λ e. e.to_come) es k x [] within c.index_mut.ensures.value in
    let states = changed_set (λ e. e.state) (state_after_line c.self.inside.turn line (kept_at k (map (λ e. e.to_come) es))) es k x
    c.apply.new.self within c.index_mut.ensures.value (rw (c.apply.ensures, next)) in
    let to_come = changed_set (λ e. e.to_come) (left_after_line line) es k x c.apply.new.self within c.index_mut.ensures.value
    (rw c.apply.ensures) in
    rw (← c.self.view_is, states, to_come, c.number-number.ensures)

pub returns-else-number-len : goal.returns-else-number-len
returns-else-number-len c =
    let es = c.self.inside.ends.items in
    let k = number c.args.end in
    let line = c.args.line in
    let past : length es ≤ k = omega arith in
    let states = changed_past (λ e. e.state) (state_after_line c.self.inside.turn line (kept_at k (map (λ e. e.to_come) es))) es k past in
    let to_come = changed_past (λ e. e.to_come) (left_after_line line) es k past in
    rw (← c.self.view_is, states, to_come)
