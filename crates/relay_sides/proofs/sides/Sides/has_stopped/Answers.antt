use Rattle.std.proofs.Common.{is_some, ◌||◌, ap, sym, ◌∙◌}
use Rattle.token_bucket.specs.declared.limit.Dir.TheVariants.{Read, Write}
use Rattle.ev_types.specs.Sides.{number}
use Rattle.filter_model.specs.Running.{Running}
use Rattle.relay_model.specs.Flow.{Flow}
use Rattle.relay_state.specs.State.{Lane}
use Rattle.relay_sides.specs.Bevs.{upper_of, twin}
use Rattle.relay_sides.proofs.SidesLemmas.{flow_seen, lane_seen, peer_number}
use Rattle.relay_sides.proofs.ReaderLemmas.{filter_found}
use Rattle.relay_sides.proofs.sides.Sides.has_stopped.Goals as goal

pub returns-clause-stopped : goal.returns-clause-stopped
returns-clause-stopped c =
    let r = c.self.inside in
    let e = c.args.from in
    let n = number e in
    let l = lane_seen c.args.self.now r c.self.view_is e c.requires in
    let reader = c.is_some.ensures
    ∙ ap is_some c.stopped.ensures
    ∙ ap (λ (x : Running). is_some x.stopped)
    (filter_found r.world n c.upper.result c.filter-reader.result.now Read c.upper.ensures c.filter-reader.ensures) in
    let writer = c.is_some-2.ensures
    ∙ ap is_some c.stopped-2.ensures
    ∙ ap (λ (x : Running). is_some x.stopped)
    (filter_found r.world (twin n) c.upper-2.result c.filter-writer.result.now Write
    (c.upper-2.ensures ∙ ap upper_of (peer_number e c.peer.result c.peer.ensures)) c.filter-writer.ensures) in
    c.is_either.ensures ∙ (λ i. reader i || writer i)
    ∙ ap (λ (x : Lane). is_some x.reader.stopped || is_some x.writer.stopped) (sym l)

pub returns-clause-told : goal.returns-clause-told
returns-clause-told c =
    let f = flow_seen c.args.self.now c.self.inside c.self.view_is c.args.from c.requires in
    let l = lane_seen c.args.self.now c.self.inside c.self.view_is c.args.from c.requires in
    record {
      read = ap (λ (x : Flow). x.read_done) f ∙ ap (λ (x : Lane). x.reader.finished) (sym l);
      write = ap (λ (x : Flow). x.write_done) f ∙ ap (λ (x : Lane). x.writer.finished) (sym l);
    }
