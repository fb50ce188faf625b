use Rattle.std.proofs.Common.{◌≡◌, ◌+◌, ◌++◌, ◌<◌, ◌^◌, ◌==◌, ◌&&◌, ℕ, List, length, take, None, refl, sym, subst, arith, length-append}
use Rattle.std.proofs.lemmas.List.{length-take-le}
use Rattle.library_uses.specs.NoZeros.{but_zero}
use Rattle.library_uses.specs.declared.own_filter.NoZeros.{NoZeros}
use Rattle.stream_filters.specs.Bytewise.{GivesBytes}
use Rattle.stream_filters.specs.StepAnswers.{is_last}
use Rattle.stream_filters.specs.StreamSteps.{Reached}
use Rattle.stream_filters.proofs.BytewiseLemmas.{bytewise-steps}
use Rattle.library_uses.proofs.own_filter.NoZerosStreamFilter.step.Goals as goal

abbrev reach : NoZeros → Reached
reach x = record { used = x.used; finished = x.finished; stopped = None }

abbrev knows : NoZeros → List ℕ → Type 0
knows x xs = x.used ≡ length xs

pub returns : goal.returns
returns c =
    let src = c.args.src.now in
    let target = c.args.dst.now.items in
    let filled = c.keep-used.new.dst.items in
    let used = c.keep-used.result in
    let before = c.args.self.now in
    let gives = subst (λ z. GivesBytes but_zero c.args.limit src z filled used) c.in_ok-reserve.ensures.items c.keep-used.ensures.gives in
    let fin = c.is_over-self.ensures in
    let fits : before.used + length src < 2 ^ 64 = omega (arith, c.if-src-self.false) in
    record {
      steps = bytewise-steps but_zero reach knows c.args.mode c.args.limit src target filled before _ (λ past k. k) _ c.if-self.false refl
          gives (λ i. record { used = before.used + used; finished = fin i; stopped = None }) fin
          (λ past k. (let a = length-take-le used src gives.within in omega (arith, k, a, length-append past (take used src)))) fits;
    }
