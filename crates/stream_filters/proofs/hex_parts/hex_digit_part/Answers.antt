use Rattle.std.proofs.Common.{◌+◌, ◌*◌, ◌%◌, ◌++◌, ◌∷◌, [], if◌then◌else◌, ◌∙◌, sym, refl, eq-eqb, arith}
use Rattle.std.specs.Prelude.{slice_index, unwrap_or}
use Rattle.std.proofs.lemmas.List.{append-nil}
use Rattle.ev_types.specs.declared.filter.FilterKind.TheVariants as kind
use Rattle.filter_model.specs.Filter.{hex_value}
use Rattle.stream_filters.proofs.PlainLemmas.{differs}
use Rattle.stream_filters.proofs.PartLemmas.{byte-part, digit-cases}
use Rattle.stream_filters.proofs.hex_parts.hex_digit_part.Goals as goal

pub returns-then-known-eq1-clause-part : goal.returns-then-known-eq1-clause-part
returns-then-known-eq1-clause-part c =
    let x = slice_index c.args.src.now 0 in
    let known = c.args.known.now in
    let digit = digit-cases x c.in-Some.low c.in-Some.ensures.value in
    let odd = eq-eqb (known.used % 2) 1 c.if-known-eq1.true in
    let high = c.held_value.ensures.value in
    let filled = c.put_byte.ensures.items ∙ (λ i. c.args.dst.now.items ++ (16 * high i + digit.value i) ∷ [])
    ∙ (λ i. c.args.dst.now.items ++ (if sym odd i then (16 * hex_value (unwrap_or known.last 0) + hex_value x) ∷ [] else [])) in
    byte-part kind.HexIn c.args.limit known.used known.last c.args.src.now c.args.dst.now.items _ x c.requires.some refl
    (omega arith) digit.good filled

pub returns-else-known-eq1-clause-part : goal.returns-else-known-eq1-clause-part
returns-else-known-eq1-clause-part c =
    let x = slice_index c.args.src.now 0 in
    let known = c.args.known.now in
    let digit = digit-cases x c.in-Some.low c.in-Some.ensures.value in
    let odd = differs (known.used % 2) 1 c.if-known-eq1.false in
    let filled = sym (append-nil c.args.dst.now.items)
    ∙ (λ i. c.args.dst.now.items ++ (if sym odd i then (16 * hex_value (unwrap_or known.last 0) + hex_value x) ∷ [] else [])) in
    byte-part kind.HexIn c.args.limit known.used known.last c.args.src.now c.args.dst.now.items _ x c.requires.some refl
    (omega arith) digit.good filled
