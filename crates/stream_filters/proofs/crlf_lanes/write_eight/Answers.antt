use Rattle.std.proofs.Common.{◌+◌, ◌++◌, ◌∙◌, ap, take, arith}
use Rattle.std.specs.Int.RustNames.{count_ones}
use Rattle.stream_filters.proofs.TableRows.{stored-front}
use Rattle.stream_filters.proofs.CrlfTable.{spreads}
use Rattle.stream_filters.proofs.crlf_lanes.write_eight.Goals as goal

pub swizzle-spread : goal.swizzle-spread
swizzle-spread c = (spreads _ c.args.bits c.args.bytes c.requires.bits c.requires.cr.0 c.requires.cr.1).ok

pub returns-clause-text : goal.returns-clause-text
returns-clause-text c =
    let end = c.args.end in
    let block = c.args.block.now in
    let is = spreads _ c.args.bits c.args.bytes c.requires.bits c.requires.cr.0 c.requires.cr.1 in
    stored-front end _ (8 + count_ones c.args.bits) block _ (omega arith) (omega (arith, is.few, is.long))
    (omega (arith, is.long, c.requires.room)) ∙ ap (λ zs. take end block ++ zs) is.front
