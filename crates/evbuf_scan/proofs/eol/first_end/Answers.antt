use Rattle.std.proofs.Common.{◌≡◌, ◌<◌, true, false, length, drop, arith, sym, ap, ◌∙◌, rules, tests}
use Rattle.evbuf_scan.specs.Ends.{is_end}
use Rattle.evbuf_scan.proofs.PlaceLemmas.{first_place-here, first_place-next}
use Rattle.evbuf_scan.proofs.eol.first_end.Goals as goal

pub returns-then-end_at_front-gt0 : goal.returns-then-end_at_front-gt0
returns-then-end_at_front-gt0 c =
    let i = c.loop-place.place in
    let here : is_end c.args.style (drop i c.args.bytes.now) ≡ true = rw (← c.split_at.ensures.back, ← c.end_at_front.ensures)
    (search (rules, tests)) in
    sym (first_place-here (is_end c.args.style) c.args.bytes.now i (omega arith) here) ∙ c.loop-place.invariant

pub loop-place-preserved : goal.loop-place-preserved
loop-place-preserved c =
    let i = c.loop-place.place in
    let no : is_end c.args.style (drop i c.args.bytes.now) ≡ false = rw (← c.split_at.ensures.back, ← c.end_at_front.ensures)
    (search (rules, tests)) in
    sym (first_place-next (is_end c.args.style) c.args.bytes.now i (omega arith) no) ∙ c.loop-place.invariant
