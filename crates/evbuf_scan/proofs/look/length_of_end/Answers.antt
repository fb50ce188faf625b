use Rattle.std.proofs.Common.{◌≡◌, ◌≤◌, length, drop, take, arith, ap, ◌∙◌, length-drop}
use Rattle.evbuf_scan.specs.Ends.{end_length}
use Rattle.evbuf_scan.proofs.EndLemmas.{end_length-take, end_length-within}
use Rattle.evbuf_scan.proofs.look.length_of_end.Goals as goal

pub returns : goal.returns
returns c =
    let rest = drop c.args.place c.args.buf.now.bytes in
    let same : c.end_at_front.result ≡ end_length c.args.style rest =
    c.end_at_front.ensures ∙ ap (end_length c.args.style) c.window_at.ensures ∙ end_length-take c.args.style rest c.requires.bounded in
    record {
      value = same;
      within = omega (arith, same, end_length-within c.args.style rest, length-drop c.args.place c.args.buf.now.bytes);
    }
