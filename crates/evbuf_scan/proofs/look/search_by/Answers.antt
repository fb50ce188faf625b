use Rattle.std.proofs.Common.{◌≡◌, ◌≤◌, ◌<◌, ◌+◌, ◌-◌, length, take, drop, ℕ, List, Some, None, arith, sym, ap, ◌∙◌, length-take}
use Rattle.std.proofs.Common.{length-drop, drop-drop}
use Rattle.evbuf_scan.specs.Place.{first_place}
use Rattle.evbuf_scan.specs.Needle.{begins_with}
use Rattle.evbuf_scan.proofs.PlaceLemmas.{first_place-at, first_place-short, first_place-full, first_place-found}
use Rattle.evbuf_scan.proofs.NeedleLemmas.{Reads-begins_with}
use Rattle.evbuf_scan.proofs.look.search_by.Goals as goal

pub overflow_add-result : goal.overflow_add-result
overflow_add-result c =
    let window = c.window_at-window.result.now in
    let found = first_place-found (begins_with c.args.needle.now) 0 window c.in-Some.place (sym c.in-Some.ensures) in
    let within = found.2.within in
    omega (
      arith,
      found.1,
      within,
      ap length c.window_at-window.ensures,
      length-take (length c.loop-at.room)
          (drop c.loop-at.at c.args.buf.now.bytes),
      length-drop c.loop-at.at c.args.buf.now.bytes,
    )

pub returns-in-Some : goal.returns-in-Some
returns-in-Some c =
    let rest = drop c.loop-at.at c.args.buf.now.bytes in
    let found : first_place (begins_with c.args.needle.now) 0 (take (length c.loop-at.room) rest) ≡ Some c.in-Some.place =
    ap (first_place (begins_with c.args.needle.now) 0) (sym c.window_at-window.ensures) ∙ sym c.in-Some.ensures in
    sym (first_place-at (begins_with c.args.needle.now) (length c.args.needle.now) (Reads-begins_with c.args.needle.now) c.loop-at.at
    (length c.loop-at.room) rest c.in-Some.place found) ∙ c.loop-at.invariant

pub returns-then-count-room : goal.returns-then-count-room
returns-then-count-room c =
    let rest = drop c.loop-at.at c.args.buf.now.bytes in
    let nothing : first_place (begins_with c.args.needle.now) 0 (take (length c.loop-at.room) rest) ≡ None =
    ap (first_place (begins_with c.args.needle.now) 0) (sym c.window_at-window.ensures) ∙ sym c.place_in.ensures ∙ c.in_default.is in
    let short : length (take (length c.loop-at.room) rest) < length c.loop-at.room = omega (arith, ap length c.window_at-window.ensures) in
    sym (first_place-short (begins_with c.args.needle.now) c.loop-at.at (length c.loop-at.room) rest short nothing) ∙ c.loop-at.invariant

pub loop-at-preserved : goal.loop-at-preserved
loop-at-preserved c =
    let rest = drop c.loop-at.at c.args.buf.now.bytes in
    let skip = length c.window_at-window.result.now - (length c.args.needle.now - 1) in
    let nothing : first_place (begins_with c.args.needle.now) 0 (take (length c.loop-at.room) rest) ≡ None =
    ap (first_place (begins_with c.args.needle.now) 0) (sym c.window_at-window.ensures) ∙ sym c.place_in.ensures ∙ c.in_default.is in
    let window_long = ap length c.window_at-window.ensures in
    let full : length (take (length c.loop-at.room) rest) ≡ length c.loop-at.room =
    omega (arith, window_long, length-take (length c.loop-at.room) rest) in
    let fits : skip + length c.args.needle.now ≤ length c.loop-at.room + 1 = omega (arith, window_long, full) in
    ap (first_place (begins_with c.args.needle.now) (c.loop-at.at + skip)) (sym (drop-drop skip c.loop-at.at c.args.buf.now.bytes))
    ∙ sym (first_place-full (begins_with c.args.needle.now) (length c.args.needle.now) (Reads-begins_with c.args.needle.now)
    c.requires.some c.loop-at.at
    (length c.loop-at.room) skip rest full fits nothing)
    ∙ c.loop-at.invariant
