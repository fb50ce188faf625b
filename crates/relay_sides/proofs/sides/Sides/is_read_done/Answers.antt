use Rattle.std.proofs.Common.{ap, sym, ◌∙◌}
use Rattle.token_bucket.specs.declared.limit.Dir.TheVariants.{Read}
use Rattle.ev_types.specs.Sides.{number}
use Rattle.filter_model.specs.Running.{Running}
use Rattle.relay_model.specs.Flow.{Flow}
use Rattle.relay_sides.proofs.SidesLemmas.{flow_seen}
use Rattle.relay_sides.proofs.ReaderLemmas.{filter_found}
use Rattle.relay_sides.proofs.sides.Sides.is_read_done.Goals as goal

pub returns : goal.returns
returns c =
    let r = c.self.inside in
    let e = c.args.from in
    c.is_finished.ensures
    ∙ ap (λ (x : Running). x.finished)
    (filter_found r.world (number e) c.upper.result c.filter.result.now Read c.upper.ensures c.filter.ensures)
    ∙ ap (λ (f : Flow). f.read_done) (sym (flow_seen c.args.self.now r c.self.view_is e c.requires))
