use Rattle.std.proofs.Common.{◌+◌, ◌-◌, ◌/◌, sym, subst, length, take, arith}
use Rattle.std.specs.Prelude.{min}
use Rattle.ev_types.specs.declared.filter.FilterKind.TheVariants as kind
use Rattle.stream_filters.specs.Parts.{AppendsPart, HasRoom}
use Rattle.stream_filters.proofs.PlainLemmas.{plain-none}
use Rattle.stream_filters.proofs.PartLemmas.{plain-part, plain-room, hex_out-part, hex_out-room}
use Rattle.stream_filters.proofs.parts.part.Goals as goal

pub none_part-requires-clause-room : goal.none_part-requires-clause-room
none_part-requires-clause-room c =
    let src = c.args.src.now in
    let old = c.args.dst.now in
    let known = c.args.known.now in
    let used = min (length src) (c.args.limit - length old.items) in
    let room = plain-room kind.None c.args.limit known.used known.last src old.items used old.cap (omega arith) (omega arith)
    (plain-none known.last (take used src))
    (subst (λ k. HasRoom k c.args.limit known.used known.last src old.items old.cap) c.in-None.is c.requires.room) in
    omega (arith, room)

pub returns-in-None-clause-part : goal.returns-in-None-clause-part
returns-in-None-clause-part c =
    let src = c.args.src.now in
    let old = c.args.dst.now in
    let known = c.args.known.now in
    let used = c.none_part.result in
    subst (λ k. AppendsPart k c.args.limit known.used known.last src old.items c.none_part.new.dst.items used) (sym c.in-None.is)
    (plain-part kind.None c.args.limit known.used known.last src old.items _ used (omega arith) (omega arith) (omega arith)
    (plain-none known.last (take used src)) c.none_part.ensures.items)

pub hex_out_part-requires-clause-room : goal.hex_out_part-requires-clause-room
hex_out_part-requires-clause-room c =
    let src = c.args.src.now in
    let old = c.args.dst.now in
    let known = c.args.known.now in
    let used = min (length src) ((c.args.limit - length old.items + 1) / 2) in
    let room = hex_out-room c.args.limit known.used known.last src old.items used old.cap (omega arith) (omega arith)
    (subst (λ k. HasRoom k c.args.limit known.used known.last src old.items old.cap) c.in-HexOut.is c.requires.room) in
    omega (arith, room)

pub returns-in-HexOut-clause-part : goal.returns-in-HexOut-clause-part
returns-in-HexOut-clause-part c =
    let src = c.args.src.now in
    let old = c.args.dst.now in
    let known = c.args.known.now in
    let used = c.hex_out_part.result in
    subst (λ k. AppendsPart k c.args.limit known.used known.last src old.items c.hex_out_part.new.dst.items used) (sym c.in-HexOut.is)
    (hex_out-part c.args.limit known.used known.last src old.items _ used (omega arith) (omega arith)
    (omega arith) c.hex_out_part.ensures.items)
