use Rattle.std.proofs.Common.{◌≡◌, ℕ, ◌<◌, ◌==◌, ◌&&◌, not, if◌then◌else◌, refl, sym, ap, subst, ◌∙◌, arith}
use Rattle.relay_state.specs.State.{State}
use Rattle.relay_core.specs.RelayValue.{RelayValue}
use Rattle.relay_core.specs.Timeless.{is_still_link}
use Rattle.relay_core.proofs.WatchLemmas.{forgotten-none, forgotten-next, forgotten-all}
use Rattle.relay_core.proofs.relay.Relay.forget_timeless.Goals as goal

pub loop-link-init : goal.loop-link-init
loop-link-init c = record {
  same = refl;
  forgotten = forgotten-none c.args.self.now.state c.args.self.now.watched;
  within = omega arith;
}

pub loop-link-preserved : goal.loop-link-preserved
loop-link-preserved c =
    let inv = c.loop-link.invariant in
    let old = c.args.self.now in
    let mid = c.loop-link.self.watched in
    let new = c.forget_where_timeless.new.self.watched in
    let k = c.in-Some.link in
    let found = c.in-Some.ensures in
    let at : c.loop-link.self.state ≡ old.state = ap (λ (r : RelayValue). r.state) inv.same in
    record {
      same = c.forget_where_timeless.ensures.rest ∙ ap (λ (r : RelayValue). record r { watched = new }) inv.same;
      forgotten = forgotten-next old.state old.watched mid new c.loop-link.from k found.links.0 found.out inv.forgotten
          (subst (λ (s : State). (n : ℕ) → new.has n ≡ (if n == k then mid.has n && not (is_still_link s n) else mid.has n)) at
          c.forget_where_timeless.ensures.forgotten);
      within = let lt : k < old.state.plain.opened = subst (λ (s : State). k < s.plain.opened) at found.links.1 in omega (arith, lt);
    }

pub returns-clause-forgotten : goal.returns-clause-forgotten
returns-clause-forgotten c =
    let inv = c.loop-link.invariant in
    let old = c.args.self.now in
    forgotten-all old.state old.watched c.loop-link.self.watched c.loop-link.from old.state.plain.opened inv.within
    (λ n from lt. c.in_default.ensures.out n from (subst (λ (r : RelayValue). n < r.state.plain.opened) (sym inv.same) lt)) inv.forgotten
