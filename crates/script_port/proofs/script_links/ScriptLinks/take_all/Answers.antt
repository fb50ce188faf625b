use Rattle.std.proofs.Common.{◌≡◌, ◌+◌, suc, ◌++◌, take, drop, map, sym, ap, ◌∙◌, arith}
use Rattle.script_port.specs.ScriptClosing.{closing_end}
use Rattle.script_port.specs.ScriptLinks.{changed}
use Rattle.script_port.specs.ScriptState.{LinksKept}
use Rattle.script_port.proofs.ListLemmas.{changed-next}
use Rattle.script_port.proofs.script_links.ScriptLinks.take_all.Goals as goal

pub loop-place-preserved : goal.loop-place-preserved
loop-place-preserved c =
    let old = c.args.self.now in
    let xs = old.state.ends in
    let i = c.loop-place.place in
    let so_far = c.loop-place.invariant in
    let after = c.take_all_at.ensures in
    let changed_ends = changed i closing_end c.loop-place.self.state.ends in
    let ends : c.take_all_at.new.self.state.ends ≡ changed_ends = ap (λ (k : LinksKept). k.state.ends) after in
    let one : suc i ≡ i + 1 = omega arith in record {
      ends = ends ∙ ap (changed i closing_end) so_far.ends ∙ changed-next closing_end xs i
          ∙ ap (λ n. map closing_end (take n xs) ++ drop n xs) one;
      rest =
          after ∙ ap (λ (k : LinksKept). record k { state = record k.state { ends = changed_ends } }) so_far.rest
          ∙ ap (λ z. record old { state = record old.state { ends = z } }) (sym ends);
      count = so_far.count;
      within = omega arith;
    }
