use Rattle.std.proofs.Common.{arith, List, length, subst}
use Rattle.ev_types.specs.Sides.{number}
use Rattle.script_port.specs.ScriptEnds.{after_write}
use Rattle.script_port.specs.ScriptState.{EndState}
use Rattle.script_port.specs.ScriptLinks.{WroteAt, beyond_answer}
use Rattle.script_port.specs.ScriptLinksView.{links_kept}
use Rattle.script_port.proofs.ListLemmas.{changed_past, part_past}
use Rattle.script_port.proofs.LinkLemmas.{wrote_within, wrote_beyond, keeps_to_come}
use Rattle.script_port.proofs.script_links.ScriptLinks.write.Goals as goal

pub returns-then-number-len-clause-wrote : goal.returns-then-number-len-clause-wrote
returns-then-number-len-clause-wrote c =
    let es = c.self.inside.ends.items in
    rw (← c.self.view_is)
    (wrote_within _ _ _ _ es c.args.end c.number-number.result c.index_mut.result.now c.write.new.self c.args.from.now c.write.result
    c.number-number.ensures (omega arith) c.index_mut.ensures.value c.write.ensures)

pub returns-then-number-len-clause-kept : goal.returns-then-number-len-clause-kept
returns-then-number-len-clause-kept c =
    let to_come = keeps_to_come c.self.inside.ends.items c.number-number.result c.index_mut.result.now c.write.new.self
    c.args.from.now c.write.result c.index_mut.ensures.value c.write.ensures in
    rw (← c.self.view_is, to_come)

pub returns-else-number-len-clause-wrote : goal.returns-else-number-len-clause-wrote
returns-else-number-len-clause-wrote c =
    let none = part_past (λ e. e.state) c.self.inside.ends.items (number c.args.end) (omega arith) in
    let states = changed_past (λ e. e.state) (λ s. after_write s c.args.from.now) c.self.inside.ends.items (number c.args.end)
    (omega arith) in
    let l = (links_kept c.self.inside).state in
    rw (← c.self.view_is, c.beyond_answer.ensures)
    (subst (λ (z : List EndState). WroteAt l (record l { ends = z }) c.args.end c.args.from.now (beyond_answer l.closing
    (length c.args.from.now))) states (wrote_beyond l c.args.end c.args.from.now none))
