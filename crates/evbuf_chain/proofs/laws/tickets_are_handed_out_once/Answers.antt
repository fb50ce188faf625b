use Rattle.evbuf_chain.proofs.TicketLemmas.{one_each, drain_keeps, pullup_keeps, move_keeps}
use Rattle.evbuf_chain.proofs.laws.tickets_are_handed_out_once.Goals as goal

pub returns-clause-comes_in : goal.returns-clause-comes_in
returns-clause-comes_in c = one_each

pub returns-clause-drain : goal.returns-clause-drain
returns-clause-drain c = drain_keeps

pub returns-clause-pullup : goal.returns-clause-pullup
returns-clause-pullup c = pullup_keeps

pub returns-clause-moves : goal.returns-clause-moves
returns-clause-moves c = move_keeps
