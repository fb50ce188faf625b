use Rattle.std.proofs.Common.{ap, sym, ◌∙◌}
use Rattle.token_bucket.specs.declared.limit.Dir.TheVariants.{Write}
use Rattle.ev_types.specs.Sides.{number}
use Rattle.filter_model.specs.Running.{Running}
use Rattle.relay_model.specs.Flow.{Flow}
use Rattle.relay_sides.specs.Bevs.{upper_of, twin}
use Rattle.relay_sides.proofs.SidesLemmas.{flow_seen, peer_number}
use Rattle.relay_sides.proofs.ReaderLemmas.{filter_found}
use Rattle.relay_sides.proofs.sides.Sides.is_write_done.Goals as goal

pub returns : goal.returns
returns c =
    let r = c.self.inside in
    let e = c.args.from in
    let f = filter_found r.world (twin (number e)) c.upper.result c.filter.result.now Write
    (c.upper.ensures ∙ ap upper_of (peer_number e c.peer.result c.peer.ensures)) c.filter.ensures in
    c.is_finished.ensures ∙ ap (λ (x : Running). x.finished) f
    ∙ ap (λ (x : Flow). x.write_done) (sym (flow_seen c.args.self.now r c.self.view_is e c.requires))
