use Rattle.std.proofs.Common.{◌≡◌, length, rules, tests, ap, sym, ◌∙◌}
use Rattle.std.specs.Bool.{then_some}
use Rattle.evbuf_scan.proofs.NeedleLemmas.{place_of-empty}
use Rattle.evbuf_scan.proofs.look.search.Goals as goal

pub returns-then-is_empty : goal.returns-then-is_empty
returns-then-is_empty c =
    let none : length c.args.needle.now ≡ 0 = search (rules, tests) in
    let e = place_of-empty c.args.needle.now c.args.buf.now.bytes c.args.from none in
    c.then_some.ensures ∙ rw c.len.ensures.len (sym e)
