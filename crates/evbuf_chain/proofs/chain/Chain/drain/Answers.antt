use Rattle.std.proofs.Common.{◌++◌, drop, take, ap, ◌∙◌}
use Rattle.evbuf_chain.specs.ChunkValue.{tickets_of}
use Rattle.evbuf_chain.specs.Mark.{ended_tickets}
use Rattle.evbuf_chain.proofs.EndLemmas.{drained-bytes, drained-marks, drained-ended}
use Rattle.evbuf_chain.proofs.ChainLemmas.{drop-least}
use Rattle.evbuf_chain.proofs.chain.Chain.drain.Goals as goal

pub returns-clause-bytes : goal.returns-clause-bytes
returns-clause-bytes c =
    let own = c.self.inside.own in
    drained-bytes c.self.inside.chunks c.drain-left.new.chunks own c.drop_front.new.self (tickets_of c.self.inside.ended)
    (tickets_of c.drain-left.new.ended) c.args.n c.drain-left.result c.drain-left.ensures
    (c.drop_front.ensures.items ∙ drop-least c.drain-left.result c.min.result c.len.result own.items c.min.ensures c.len.ensures)
    ∙ ap (λ v. drop c.args.n v.bytes) c.self.view_is

pub returns-clause-marks : goal.returns-clause-marks
returns-clause-marks c =
    let own = c.self.inside.own in
    drained-marks c.self.inside.chunks c.drain-left.new.chunks own c.drop_front.new.self (tickets_of c.self.inside.ended)
    (tickets_of c.drain-left.new.ended) c.args.n c.drain-left.result c.drain-left.ensures c.len-marked.ensures.marked
    (c.drop_front.ensures.items ∙ drop-least c.drain-left.result c.min.result c.len.result own.items c.min.ensures c.len.ensures)
    ∙ ap (λ v. drop c.args.n v.marks) c.self.view_is

pub returns-clause-released : goal.returns-clause-released
returns-clause-released c =
    drained-ended c.self.inside.chunks c.drain-left.new.chunks c.self.inside.own (tickets_of c.self.inside.ended)
    (tickets_of c.drain-left.new.ended) c.args.n c.drain-left.result c.drain-left.ensures
    ∙ ap (λ v. v.released ++ ended_tickets (take c.args.n v.marks)) c.self.view_is
