use Rattle.std.proofs.Common.{◌≡◌, ◌≤◌, ◌<◌, ◌+◌, ◌-◌, ◌^◌, length, take, drop, ℕ, List, Some, None, arith, sym, ap, ◌∙◌, length-take}
use Rattle.std.proofs.Common.{length-drop, drop-drop}
use Rattle.evbuf_scan.specs.Place.{first_place}
use Rattle.evbuf_scan.specs.Ends.{is_end}
use Rattle.evbuf_scan.proofs.PlaceLemmas.{first_place-at, first_place-short, first_place-full, first_place-found}
use Rattle.evbuf_scan.proofs.EndLemmas.{Reads-is_end}
use Rattle.evbuf_scan.proofs.look.place_of_end.Goals as goal

pub overflow_add-result : goal.overflow_add-result
overflow_add-result c =
    let rest = drop c.loop-at.at c.args.buf.now.bytes in
    let window_is : c.window_at-window.result.now ≡ take 256 rest = c.window_at-window.ensures ∙ ap (λ n. take n rest)
    c.loop-at-test.array_long in
    let found = first_place-found (is_end c.args.style) 0 c.window_at-window.result.now c.in-Some.place (sym c.in-Some.ensures) in
    let within = found.2.within in
    omega (arith, found.1, within, ap length window_is, length-take 256 rest, length-drop c.loop-at.at c.args.buf.now.bytes)

pub returns-in-Some-clause-value : goal.returns-in-Some-clause-value
returns-in-Some-clause-value c =
    let rest = drop c.loop-at.at c.args.buf.now.bytes in
    let window_is : c.window_at-window.result.now ≡ take 256 rest = c.window_at-window.ensures ∙ ap (λ n. take n rest)
    c.loop-at-test.array_long in
    let found : first_place (is_end c.args.style) 0 (take 256 rest) ≡ Some c.in-Some.place =
    ap (first_place (is_end c.args.style) 0) (sym window_is) ∙ sym c.in-Some.ensures in
    sym (first_place-at (is_end c.args.style) 2 (Reads-is_end c.args.style) c.loop-at.at 256 rest c.in-Some.place found) ∙
    c.loop-at.invariant

pub returns-then-window-lt-WINDOW-clause-value : goal.returns-then-window-lt-WINDOW-clause-value
returns-then-window-lt-WINDOW-clause-value c =
    let rest = drop c.loop-at.at c.args.buf.now.bytes in
    let window_is : c.window_at-window.result.now ≡ take 256 rest = c.window_at-window.ensures ∙ ap (λ n. take n rest)
    c.loop-at-test.array_long in
    let nothing : first_place (is_end c.args.style) 0 (take 256 rest) ≡ None =
    ap (first_place (is_end c.args.style) 0) (sym window_is) ∙ sym c.first_end.ensures ∙ c.in_default.is in
    let short : length (take 256 rest) < 256 = omega (arith, ap length window_is) in
    sym (first_place-short (is_end c.args.style) c.loop-at.at 256 rest short nothing) ∙ c.loop-at.invariant

pub loop-at-preserved : goal.loop-at-preserved
loop-at-preserved c =
    let rest = drop c.loop-at.at c.args.buf.now.bytes in
    let window_is : c.window_at-window.result.now ≡ take 256 rest = c.window_at-window.ensures ∙ ap (λ n. take n rest)
    c.loop-at-test.array_long in
    let nothing : first_place (is_end c.args.style) 0 (take 256 rest) ≡ None =
    ap (first_place (is_end c.args.style) 0) (sym window_is) ∙ sym c.first_end.ensures ∙ c.in_default.is in
    let full : length (take 256 rest) ≡ 256 = omega (arith, ap length window_is, length-take 256 rest) in
    ap (first_place (is_end c.args.style) (c.loop-at.at + 255)) (sym (drop-drop 255 c.loop-at.at c.args.buf.now.bytes))
    ∙ sym (first_place-full (is_end c.args.style) 2 (Reads-is_end c.args.style) (omega arith) c.loop-at.at 256 255 rest full
    (omega arith) nothing)
    ∙ c.loop-at.invariant

pub returns-in-Some-clause-within : goal.returns-in-Some-clause-within
returns-in-Some-clause-within c =
    let rest = drop c.loop-at.at c.args.buf.now.bytes in
    let window_is : c.window_at-window.result.now ≡ take 256 rest = c.window_at-window.ensures ∙ ap (λ n. take n rest)
    c.loop-at-test.array_long in
    let found = first_place-found (is_end c.args.style) 0 c.window_at-window.result.now c.in-Some.place (sym c.in-Some.ensures) in
    let within = found.2.within in
    omega (arith, found.1, within, ap length window_is, length-take 256 rest, length-drop c.loop-at.at c.args.buf.now.bytes)
