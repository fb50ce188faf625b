use Rattle.std.proofs.Common.{ap, sym, ◌∙◌, arith}
use Rattle.ev_types.specs.Sides.{number}
use Rattle.bev_core.specs.BevValue.{BevValue}
use Rattle.relay_sides.specs.SideView.{flags_of}
use Rattle.relay_sides.proofs.BevsLemmas.{number-lt}
use Rattle.relay_sides.proofs.SidesLemmas.{here, side_seen, lower_found, state_found}
use Rattle.relay_sides.proofs.sides.Sides.flags.Goals as goal

pub returns : goal.returns
returns c =
    let r = c.self.inside in
    let e = c.args.side in
    let b = lower_found r.world (number e) c.lower.result c.bev-bev.result.now c.lower.ensures c.bev-bev.ensures in
    let live = c.is_live.ensures ∙ ap (λ (x : BevValue). x.live) b in
    let reads = c.is_enabled.ensures ∙ ap (λ (x : BevValue). x.reading) b in
    let writes = c.is_enabled-2.ensures ∙ ap (λ (x : BevValue). x.writing) b in
    let ended = c.has_ended.ensures ∙ ap (λ (x : BevValue). x.ended) b in
    let failed = c.has_failed.ensures ∙ ap (λ (x : BevValue). x.failed) b in
    let lt = number-lt e r.opened (here c.args.self.now r c.self.view_is e c.requires) in
    let s = state_found r.sides.items (number e) c.number.result c.index-own.result.now c.number.ensures c.index-own.ensures
    (omega (arith, lt, c.self.invariant.sides)) in
    (λ i. record {
      live = live i;
      connecting = (s i).connecting;
      reads = reads i;
      writes = writes i;
      ended = ended i;
      failed = failed i;
      expired = (s i).expired;
      write_ended = (s i).write_ended;
      closed = (s i).closed;
    })
    ∙ ap flags_of (sym (side_seen c.args.self.now r c.self.view_is e c.requires))
