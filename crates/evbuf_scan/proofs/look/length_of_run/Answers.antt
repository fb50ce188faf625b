use Rattle.std.proofs.Common.{◌≡◌, ◌≤◌, ◌<◌, ◌+◌, ◌-◌, ◌^◌, length, take, drop, ℕ, List, arith, sym, ap, ◌∙◌, length-take, length-drop}
use Rattle.std.proofs.Common.{drop-drop}
use Rattle.evbuf_scan.specs.Ends.{run_length}
use Rattle.evbuf_scan.proofs.EndLemmas.{run_length-within, run_length-take, run_length-drop}
use Rattle.evbuf_scan.proofs.look.length_of_run.Goals as goal

pub overflow_add-result : goal.overflow_add-result
overflow_add-result c =
    let rest = drop c.loop-at.at c.args.buf.now.bytes in
    let run_is : c.run_of_ends-run.result ≡ run_length (take 256 rest) =
    c.run_of_ends-run.ensures ∙ ap run_length (c.window_at.ensures ∙ ap (λ n. take n rest) c.loop-at-test.array_long) in
    let below = c.len.ensures in
    omega (arith, run_is, run_length-within (take 256 rest), length-take 256 rest, length-drop c.loop-at.at c.args.buf.now.bytes)

pub returns-then-run-lt-WINDOW-clause-value : goal.returns-then-run-lt-WINDOW-clause-value
returns-then-run-lt-WINDOW-clause-value c =
    let rest = drop c.loop-at.at c.args.buf.now.bytes in
    let run_is : c.run_of_ends-run.result ≡ run_length (take 256 rest) =
    c.run_of_ends-run.ensures ∙ ap run_length (c.window_at.ensures ∙ ap (λ n. take n rest) c.loop-at-test.array_long) in
    let short : run_length (take 256 rest) < 256 = omega arith in
    omega (arith, run_is, run_length-take 256 rest short, c.loop-at.invariant.counted)

pub overflow_add-at : goal.overflow_add-at
overflow_add-at c =
    let rest = drop c.loop-at.at c.args.buf.now.bytes in
    let run_is : c.run_of_ends-run.result ≡ run_length (take 256 rest) =
    c.run_of_ends-run.ensures ∙ ap run_length (c.window_at.ensures ∙ ap (λ n. take n rest) c.loop-at-test.array_long) in
    omega (arith, run_is, run_length-within (take 256 rest), length-take 256 rest, length-drop c.loop-at.at c.args.buf.now.bytes)

pub loop-at-preserved : goal.loop-at-preserved
loop-at-preserved c =
    let rest = drop c.loop-at.at c.args.buf.now.bytes in
    let run_is : c.run_of_ends-run.result ≡ run_length (take 256 rest) =
    c.run_of_ends-run.ensures ∙ ap run_length (c.window_at.ensures ∙ ap (λ n. take n rest) c.loop-at-test.array_long) in
    let full : 256 ≤ run_length (take 256 rest) = omega arith in
    let further : run_length (drop 256 rest) ≡ run_length (drop (c.loop-at.at + 256) c.args.buf.now.bytes) =
    ap run_length (drop-drop 256 c.loop-at.at c.args.buf.now.bytes) in
    record {
      past = omega arith;
      within = omega (arith, run_length-within (take 256 rest), length-take 256 rest, length-drop c.loop-at.at c.args.buf.now.bytes);
      counted = omega (arith, run_length-drop 256 rest full, further, c.loop-at.invariant.counted);
    }

pub returns-then-run-lt-WINDOW-clause-within : goal.returns-then-run-lt-WINDOW-clause-within
returns-then-run-lt-WINDOW-clause-within c =
    let rest = drop c.loop-at.at c.args.buf.now.bytes in
    let run_is : c.run_of_ends-run.result ≡ run_length (take 256 rest) =
    c.run_of_ends-run.ensures ∙ ap run_length (c.window_at.ensures ∙ ap (λ n. take n rest) c.loop-at-test.array_long) in
    omega (arith, run_is, run_length-within (take 256 rest), length-take 256 rest, length-drop c.loop-at.at c.args.buf.now.bytes)
