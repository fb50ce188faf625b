use Rattle.std.proofs.Common.{◌∙◌, ◌||◌, sym, ap}
use Rattle.std.specs.List.{list_any}
use Rattle.ev_port.specs.Table.{is_ready_by, named}
use Rattle.mio_port.proofs.TableMarkLemmas.{any-ends}
use Rattle.mio_port.proofs.ends.Ends.is_any_of_table_ready.Goals as goal

pub returns-then-is_any_ready : goal.returns-then-is_any_ready
returns-then-is_any_ready c =
    let ends = c.args.self.now in
    let wants = named c.args.wants.now in
    let same = any-ends ends.ends.items ends.ready.prompt ends.ready.bulky ends.ready.writable ends.prompts ends.bulks ends.writes wants in
    c.if-is_any_ready.true
    ∙ ap (λ b. b || list_any (is_ready_by ends.ready.bulky ends.ready.writable) wants)
    (sym c.if-is_any_ready.true ∙ c.is_any_ready.ensures)
    ∙ same

pub returns-else-is_any_ready : goal.returns-else-is_any_ready
returns-else-is_any_ready c =
    let ends = c.args.self.now in
    let wants = named c.args.wants.now in
    let same = any-ends ends.ends.items ends.ready.prompt ends.ready.bulky ends.ready.writable ends.prompts ends.bulks ends.writes wants in
    c.is_any_ready-else-is_any_ready.ensures
    ∙ ap (λ b. b || list_any (is_ready_by ends.ready.bulky ends.ready.writable) wants)
    (sym c.if-is_any_ready.false ∙ c.is_any_ready.ensures)
    ∙ same
