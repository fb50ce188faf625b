use Rattle.std.proofs.Common.{◌≡◌, ℕ, ◌+◌, ◌-◌, ◌==◌, ◌&&◌, true, false, Option, Some, None, sym, ◌∙◌, ap, refl, length, min, arith, inr}
use Rattle.std.specs.Prelude.{is_some}
use Rattle.std.specs.List.{last_or}
use Rattle.std.proofs.lemmas.Bool.Decides.{nat_tests}
use Rattle.ev_types.specs.declared.filter.FilterKind.TheVariants as kind
use Rattle.filter_model.specs.FilterStep.{Stepped}
use Rattle.stream_filters.specs.declared.knowledge.Knowledge.{Knowledge}
use Rattle.stream_filters.specs.Knowledge.{running_of}
use Rattle.stream_filters.proofs.InPlaceLemmas.{step-in-place}
use Rattle.stream_filters.proofs.step.hand_on.Goals as goal
use Rattle.stream_filters.proofs.step.hand_on.Goals.{then-used-src, else-used-src}

-- no place is told
none_is : (place : Option ℕ) → is_some place ≡ false → place ≡ None
none_is None h = refl
none_is (Some x) h = absurd (cc)

pub returns-clause-used : goal.returns-clause-used
returns-clause-used c =
    let known = c.args.known.now in
    let count : c.min-used.result ≡ min (length c.args.src.now) (c.args.limit - c.args.held) =
    c.min-used.ensures ∙ ap (min (length c.args.src.now)) c.saturating_sub.ensures in
    sym (ap (λ (s : Stepped). s.used) (step-in-place known c.if-known.false
    (none_is known.stopped (sym c.is_some.ensures ∙ c.if-is_some.false)) c.args.over c.args.limit c.args.held c.args.src.now
    c.min-used.result count))

pub returns-clause-many : goal.returns-clause-many
returns-clause-many c = inr (c.min-used.ensures ∙ ap (min (length c.args.src.now)) c.saturating_sub.ensures)

pub returns-clause-made : goal.returns-clause-made
returns-clause-made c =
    let known = c.args.known.now in
    let count : c.min-used.result ≡ min (length c.args.src.now) (c.args.limit - c.args.held) =
    c.min-used.ensures ∙ ap (min (length c.args.src.now)) c.saturating_sub.ensures in
    ap (λ (s : Stepped). s.made) (step-in-place known c.if-known.false
    (none_is known.stopped (sym c.is_some.ensures ∙ c.if-is_some.false)) c.args.over c.args.limit c.args.held c.args.src.now
    c.min-used.result count)

pub returns-clause-after : goal.returns-clause-after
returns-clause-after c =
    let known = c.args.known.now in
    let src = c.args.src.now in
    let used = c.min-used.result in
    let unstopped : known.stopped ≡ None = none_is known.stopped (sym c.is_some.ensures ∙ c.if-is_some.false) in
    let count : used ≡ min (length src) (c.args.limit - c.args.held) = c.min-used.ensures ∙ ap (min (length src))
    c.saturating_sub.ensures in
    let fin : c.if-used-src.known ≡ ((used == length src) && c.args.over) = elim c.if-used-src.branch [
      | then-used-src w ↦
          (let same : (used == length src) ≡ true = grind (arith, nat_tests, w.if-used-src.true) in
          w.known-is ∙ (λ i. sym same i && c.args.over))
      | else-used-src w ↦
          (let apart : (used == length src) ≡ false = grind (arith, nat_tests, w.if-used-src.false) in
          w.known-is ∙ apart ∙ (λ i. sym apart i && c.args.over))
    ] in
    let piece = c.split_at.ensures.front in
    let noted = c.use_bytes.ensures ∙ (λ i. record known { used = known.used + length (piece i); last = last_or known.last (piece i) }) in
    (λ i. running_of kind.None (record (noted i) {
      finished = fin i;
      stopped = (ap (λ (z : Knowledge). z.stopped) noted ∙ unstopped) i;
    }))
    ∙ sym (ap (λ (s : Stepped). s.after)
    (step-in-place known c.if-known.false unstopped c.args.over c.args.limit c.args.held src used count))
