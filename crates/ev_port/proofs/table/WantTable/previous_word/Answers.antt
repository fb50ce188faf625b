use Rattle.ev_port.proofs.WantWordLemmas.{previous-word}
use Rattle.ev_port.proofs.table.WantTable.previous_word.Goals as goal

pub returns : goal.returns
returns c =
    previous-word c.self.inside c.self.invariant c.args.self.now c.self.view_is c.args.before c.last_word.result c.last_word.ensures
