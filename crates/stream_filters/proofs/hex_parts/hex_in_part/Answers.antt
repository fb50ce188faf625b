use Rattle.std.proofs.Common.{arith}
use Rattle.stream_filters.proofs.PairLemmas.{pairs-part, pairs-last}
use Rattle.stream_filters.proofs.hex_parts.hex_in_part.Goals as goal

pub returns-then-used-gt0-clause-part : goal.returns-then-used-gt0-clause-part
returns-then-used-gt0-clause-part c =
    let known = c.args.known.now in
    pairs-part c.args.limit known.used known.last c.args.src.now c.args.dst.now.items c.if-known-eq0.true
    c.hex_pairs-used.new.dst.items c.hex_pairs-used.result c.hex_pairs-used.ensures.pairs (omega arith)

pub returns-then-used-gt0-clause-digit : goal.returns-then-used-gt0-clause-digit
returns-then-used-gt0-clause-digit c =
    let known = c.args.known.now in
    pairs-last c.args.limit known.used known.last c.args.src.now c.args.dst.now.items c.if-known-eq0.true
    c.hex_pairs-used.new.dst.items c.hex_pairs-used.result c.hex_pairs-used.ensures.pairs c.requires.digit
