use Rattle.std.proofs.Common.{◌+◌, ◌-◌, ◌*◌, ◌/◌, ◌≤◌, ◌++◌, ◌∙◌, sym, ap, length, take, arith}
use Rattle.filter_model.specs.Filter.{CR, to_lf}
use Rattle.ev_types.specs.declared.filter.FilterKind.TheVariants as kind
use Rattle.stream_filters.proofs.PlainLemmas.{plain-lf, is_cr-eq}
use Rattle.stream_filters.proofs.PartLemmas.{plain-part, plain-room, not_at_stop}
use Rattle.stream_filters.proofs.LfRuns.{lf-part, lf-room}
use Rattle.stream_filters.proofs.parts.to_lf_part.Goals as goal

pub put_before-requires : goal.put_before-requires
put_before-requires c =
    let src = c.args.src.now in
    let old = c.args.dst.now in
    let last = c.args.known.now.last in
    let free = is_cr-eq last ∙ sym c.if-eq.ensures in
    record {
      room = λ n within short others.
          let plain = plain-lf last (take n src) free others in
          let room = plain-room kind.ToLf c.args.limit c.args.known.now.used last src old.items n old.cap within (omega (arith, short)) plain
          c.requires.room in
          omega (arith, room);
    }

pub returns-clause-part : goal.returns-clause-part
returns-clause-part c =
    let used = c.put_before.result in
    let src = c.args.src.now in
    let old = c.args.dst.now in
    let last = c.args.known.now.last in
    let done = c.put_before.ensures in
    let plain = plain-lf last (take used src) (is_cr-eq last ∙ sym c.if-eq.ensures) done.others in
    plain-part kind.ToLf c.args.limit c.args.known.now.used last src old.items _ used
    done.within (omega arith)
    (not_at_stop CR used (c.args.limit - c.len-2.result) src c.requires.some (omega arith) c.if-src-eq-CR.false done.stop) plain done.items

pub put_lf-requires-clause-room : goal.put_lf-requires-clause-room
put_lf-requires-clause-room c =
    let known = c.args.known.now in
    let src = c.args.src.now in
    let old = c.args.dst.now in
    let used = (c.min-most.result - 1) / 16 * 16 + 1 in
    let least = c.min-most.ensures in
    let within : used ≤ length src = omega (arith, c.if-most-gt16.true, least) in
    let below : length old.items + used ≤ c.args.limit = omega (arith, c.if-most-gt16.true, least, c.len.ensures, c.requires.below) in
    let free = is_cr-eq known.last ∙ sym c.if-eq.ensures in
    let room = lf-room c.args.limit known.used known.last src old.items used old.cap free within below c.requires.room in
    let same = ap (λ xs. length (to_lf xs)) c.split_at.ensures.front in
    omega (arith, room, same)

pub returns-then-most-gt16-clause-part : goal.returns-then-most-gt16-clause-part
returns-then-most-gt16-clause-part c =
    let known = c.args.known.now in
    let src = c.args.src.now in
    let old = c.args.dst.now in
    let used = (c.min-most.result - 1) / 16 * 16 + 1 in
    let least = c.min-most.ensures in
    let within : used ≤ length src = omega (arith, c.if-most-gt16.true, least) in
    let below : length old.items + used ≤ c.args.limit = omega (arith, c.if-most-gt16.true, least, c.len.ensures, c.requires.below) in
    let free = is_cr-eq known.last ∙ sym c.if-eq.ensures in
    lf-part c.args.limit known.used known.last src old.items c.put_lf.new.dst.items used free within below (omega arith)
    (c.put_lf.ensures.items ∙ (λ i. old.items ++ to_lf (c.split_at.ensures.front i)))
