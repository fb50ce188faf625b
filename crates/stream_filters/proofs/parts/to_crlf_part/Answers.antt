use Rattle.std.proofs.Common.{◌+◌, ◌-◌, ◌*◌, ◌/◌, ◌<◌, ◌≤◌, ◌++◌, ◌∙◌, refl, ap, take, length, arith}
use Rattle.std.specs.Prelude.{unwrap_or}
use Rattle.std.specs.List.{last_or}
use Rattle.ev_types.specs.declared.filter.FilterKind.TheVariants as kind
use Rattle.filter_model.specs.Filter.{LF, crlf_after}
use Rattle.filter_model.specs.FilterRun.{adds}
use Rattle.stream_filters.proofs.PlainLemmas.{plain-crlf}
use Rattle.stream_filters.proofs.PartLemmas.{plain-part, plain-room, line-part, line-room}
use Rattle.stream_filters.proofs.CrlfRuns.{crlf-part, crlf-room}
use Rattle.stream_filters.proofs.parts.to_crlf_part.Goals as goal
use Rattle.stream_filters.proofs.parts.to_crlf_part.Goals.{then-run-src-via-then-run-src, then-run-src-via-else-run-src+then-len-limit}

pub put_before-run-requires : goal.put_before-run-requires
put_before-run-requires c =
    let known = c.args.known.now in
    let src = c.args.src.now in
    let old = c.args.dst.now in
    record {
      room = λ n within short others.
          let plain = plain-crlf known.last (take n src) others in
          let room = plain-room kind.ToCrlf c.args.limit known.used known.last src old.items n old.cap within (omega (arith, short)) plain
          c.requires.room in
          omega (arith, room);
    }

pub put_line_end-requires : goal.put_line_end-requires
put_line_end-requires c =
    let run = c.put_before-run.result in
    let src = c.args.src.now in
    let old = c.args.dst.now in
    let known = c.args.known.now in
    let done = c.put_before-run.ensures in
    let plain = plain-crlf known.last (take run src) done.others in
    let within : run < length src = omega (arith, c.if-run-src.false, done.within) in
    let short : run < c.args.limit - c.len-2.result = omega (arith, c.if-len-limit.false, done.len) in
    let room = line-room kind.ToCrlf c.args.limit known.used known.last src old.items c.put_before-run.new.dst.items run LF within
    (done.stop within short) (omega arith) plain refl done.items old.cap c.requires.room in
    let added = ap (λ last. length (adds kind.ToCrlf 0 last LF))
    (c.last_behind.ensures ∙ ap (last_or known.last) c.split_at-2.ensures.front) in
    omega (arith, room, added, done.capacity)

pub returns-then-run-src-clause-part : goal.returns-then-run-src-clause-part
returns-then-run-src-clause-part c =
    let run = c.put_before-run.result in
    let src = c.args.src.now in
    let old = c.args.dst.now in
    let known = c.args.known.now in
    let done = c.put_before-run.ensures in
    plain-part kind.ToCrlf c.args.limit known.used known.last src old.items _ run
    done.within (omega arith) (elim c.then-run-src.branch [
      | then-run-src-via-then-run-src w ↦ omega (arith, w.if-run-src.true, c.requires.some)
      | then-run-src-via-else-run-src+then-len-limit w ↦ omega (arith, w.if-len-limit.true, done.len)
    ]) (plain-crlf known.last (take run src) done.others) done.items

pub returns-clause-part : goal.returns-clause-part
returns-clause-part c =
    let run = c.put_before-run.result in
    let src = c.args.src.now in
    let old = c.args.dst.now in
    let known = c.args.known.now in
    let done = c.put_before-run.ensures in
    let mid = c.put_before-run.new.dst.items in
    let plain = plain-crlf known.last (take run src) done.others in
    let within : run < length src = omega (arith, c.if-run-src.false, done.within) in
    let short : run < c.args.limit - c.len-2.result = omega (arith, c.if-len-limit.false, done.len) in
    let last = c.last_behind.ensures ∙ ap (last_or known.last) c.split_at-2.ensures.front in
    line-part kind.ToCrlf c.args.limit known.used known.last src old.items mid run LF within (done.stop within short) (omega arith)
    plain refl done.items c.put_line_end.new.dst.items (c.put_line_end.ensures.items ∙ (λ i. mid ++ adds kind.ToCrlf 0 (last i) LF))

pub put_crlf-requires-clause-room : goal.put_crlf-requires-clause-room
put_crlf-requires-clause-room c =
    let known = c.args.known.now in
    let src = c.args.src.now in
    let old = c.args.dst.now in
    let used = (c.min-most.result - 1) / 16 * 16 + 1 in
    let least = c.min-most.ensures in
    let within : used ≤ length src = omega (arith, c.if-most-gt16.true, least) in
    let below : length old.items + 2 * used ≤ c.args.limit = omega (arith, c.if-most-gt16.true, least, c.len.ensures, c.requires.below) in
    let room = crlf-room c.args.limit known.used known.last src old.items used old.cap within below c.requires.room in
    let same = ap (λ xs. length (crlf_after (unwrap_or known.last 0) xs)) c.split_at.ensures.front in
    omega (arith, room, same)

pub returns-then-most-gt16-clause-part : goal.returns-then-most-gt16-clause-part
returns-then-most-gt16-clause-part c =
    let known = c.args.known.now in
    let src = c.args.src.now in
    let old = c.args.dst.now in
    let used = (c.min-most.result - 1) / 16 * 16 + 1 in
    let least = c.min-most.ensures in
    let within : used ≤ length src = omega (arith, c.if-most-gt16.true, least) in
    let below : length old.items + 2 * used ≤ c.args.limit = omega (arith, c.if-most-gt16.true, least, c.len.ensures, c.requires.below) in
    crlf-part c.args.limit known.used known.last src old.items c.put_crlf.new.dst.items used within below (omega arith)
    (c.put_crlf.ensures.items ∙ (λ i. old.items ++ crlf_after (unwrap_or known.last 0) (c.split_at.ensures.front i)))
