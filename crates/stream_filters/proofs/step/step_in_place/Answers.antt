use Rattle.std.proofs.Common.{◌≡◌, ◌+◌, ◌-◌, ◌==◌, ◌&&◌, true, false, sym, ◌∙◌, ap, subst, refl, length, min, arith}
use Rattle.std.specs.List.{last_or}
use Rattle.std.proofs.lemmas.Bool.Decides.{nat_tests}
use Rattle.std.specs.Prelude.{Ok}
use Rattle.ev_types.specs.declared.filter.FilterKind.TheVariants as kind
use Rattle.filter_model.specs.FilterStep.{Stepped}
use Rattle.stream_filters.specs.declared.knowledge.Knowledge.{Knowledge}
use Rattle.stream_filters.specs.Knowledge.{running_of}
use Rattle.stream_filters.specs.StepAnswers.{AnswersInPlace, is_last}
use Rattle.stream_filters.proofs.InPlaceLemmas.{step-in-place}
use Rattle.stream_filters.proofs.step.step_in_place.Goals as goal
use Rattle.stream_filters.proofs.step.step_in_place.Goals.{then-used-src, else-used-src}

pub returns-clause-answers : goal.returns-clause-answers
returns-clause-answers c =
    let known = c.args.known.now in
    let src = c.args.src.now in
    let used = c.min-used.result in
    let going : known.finished ≡ false = c.if-known.false in
    let unstopped = c.in_default.is in
    let count : used ≡ min (length src) (c.args.limit - c.args.held) = c.min-used.ensures ∙ ap (min (length src))
    c.saturating_sub.ensures in
    let fin : c.if-used-src.known ≡ ((used == length src) && is_last c.args.mode) = elim c.if-used-src.branch [
      | then-used-src w ↦
          (let same : (used == length src) ≡ true = grind (arith, nat_tests, w.if-used-src.true) in
          w.known-is ∙ w.ends_stream-known.ensures ∙ (λ i. sym same i && is_last c.args.mode))
      | else-used-src w ↦
          (let apart : (used == length src) ≡ false = grind (arith, nat_tests, w.if-used-src.false) in
          w.known-is ∙ apart ∙ (λ i. sym apart i && is_last c.args.mode))
    ] in
    let step = step-in-place known going unstopped (is_last c.args.mode) c.args.limit c.args.held src used count in
    let piece = c.split_at.ensures.front in
    let noted = c.use_bytes.ensures ∙ (λ i. record known { used = known.used + length (piece i); last = last_or known.last (piece i) }) in
    subst (λ (s : Stepped). AnswersInPlace (Ok (record { used = used; finished = c.if-used-src.known })) s (running_of kind.None known)
    (running_of kind.None (record c.use_bytes.new.self { finished = c.if-used-src.known })) src) (sym step) (
      record { used = refl; finished = fin; unstopped = refl },
      (λ i. running_of kind.None (record (noted i) {
        finished = fin i;
        stopped = (ap (λ (z : Knowledge). z.stopped) noted ∙
            unstopped) i;
      })),
      refl,
    )
