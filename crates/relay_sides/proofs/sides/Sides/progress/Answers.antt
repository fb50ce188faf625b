use Rattle.std.proofs.Common.{is_some, ap, sym, ◌∙◌}
use Rattle.token_bucket.specs.declared.limit.Dir.TheVariants.{Read, Write}
use Rattle.ev_types.specs.Sides.{number, peer}
use Rattle.filter_model.specs.Running.{Running}
use Rattle.relay_model.specs.Flow.{Flow}
use Rattle.relay_state.specs.State.{Lane}
use Rattle.relay_sides.specs.Bevs.{upper_of, twin}
use Rattle.relay_sides.specs.Progress.{progress_of}
use Rattle.relay_sides.specs.SideView.{plain_at}
use Rattle.relay_sides.specs.declared.pass.FilterProgress.{FilterProgress}
use Rattle.relay_sides.proofs.BevsLemmas.{twin-number}
use Rattle.relay_sides.proofs.SidesLemmas.{pairs_seen, side_seen, flow_seen, lane_seen, peer_number}
use Rattle.relay_sides.proofs.ReaderLemmas.{own_state, peer_state, filter_found}
use Rattle.relay_sides.proofs.sides.Sides.progress.Goals as goal

abbrev reach : Running → FilterProgress
reach f = record { used = f.used; finished = f.finished; stopped = is_some f.stopped }

pub returns-clause-progress : goal.returns-clause-progress
returns-clause-progress c =
    let v = c.args.self.now in
    let r = c.self.inside in
    let e = c.args.from in
    let n = number e in
    let s = own_state v r c.self.view_is c.self.invariant e c.requires c.number.result c.index-own.result.now c.number.ensures
    c.index-own.ensures in
    let o = peer_state v r c.self.view_is c.self.invariant e c.requires c.peer.result c.number-2.result c.index-other.result.now
    c.peer.ensures c.number-2.ensures c.index-other.ensures in
    let reader = c.filter_progress.ensures
    ∙ ap reach (filter_found r.world n c.upper.result c.filter.result.now Read c.upper.ensures c.filter.ensures) in
    let writer = c.filter_progress-2.ensures
    ∙ ap reach (filter_found r.world (twin n) c.upper-2.result c.filter-2.result.now Write
    (c.upper-2.ensures ∙ ap upper_of (peer_number e c.peer-2.result c.peer-2.ensures)) c.filter-2.ensures) in
    let from_bad = c.is_some.ensures ∙ (λ i. is_some (s i).bad) in
    let to_bad = c.is_some-2.ensures ∙ (λ i. is_some (o i).bad) in
    let f = flow_seen v r c.self.view_is e c.requires in
    let l = lane_seen v r c.self.view_is e c.requires in
    let a = side_seen v r c.self.view_is e c.requires in
    let b = side_seen v r c.self.view_is (peer e) c.requires ∙ ap (plain_at r.world.slots r.sides.items) (twin-number e) in
    (λ i. record {
      reader = reader i;
      writer = writer i;
      moved = (s i).moved;
      held = (s i).held;
      from_bad = from_bad i;
      to_bad = to_bad i;
    })
    ∙ (λ i. progress_of (record { flow = sym f i; lane = sym l i; from_bad = (sym a i).bad; to_bad = (sym b i).bad }))

pub returns-clause-told : goal.returns-clause-told
returns-clause-told c =
    let f = flow_seen c.args.self.now c.self.inside c.self.view_is c.args.from c.requires in
    let l = lane_seen c.args.self.now c.self.inside c.self.view_is c.args.from c.requires in
    record {
      read = ap (λ (x : Flow). x.read_done) f ∙ ap (λ (x : Lane). x.reader.finished) (sym l);
      write = ap (λ (x : Flow). x.write_done) f ∙ ap (λ (x : Lane). x.writer.finished) (sym l);
    }

pub returns-clause-pairs : goal.returns-clause-pairs
returns-clause-pairs c = pairs_seen c.args.self.now c.self.inside c.self.view_is
