use Rattle.std.proofs.Common.{◌-◌, ◌++◌, ◌∙◌, ap, take, arith}
use Rattle.std.specs.Int.RustNames.{count_ones}
use Rattle.stream_filters.proofs.TableRows.{stored-front}
use Rattle.stream_filters.proofs.LfTable.{presses}
use Rattle.stream_filters.proofs.lf_lanes.press_eight.Goals as goal

pub swizzle-pressed : goal.swizzle-pressed
swizzle-pressed c = (presses _ c.args.bits c.args.bytes c.requires.bits c.requires.long).ok

pub returns-clause-text : goal.returns-clause-text
returns-clause-text c =
    let end = c.args.end in
    let block = c.args.block.now in
    let is = presses _ c.args.bits c.args.bytes c.requires.bits c.requires.long in
    stored-front end _ (8 - count_ones c.args.bits) block _ (omega (arith, is.few)) (omega (arith, is.few, is.long))
    (omega (arith, is.long, c.requires.room)) ∙ ap (λ zs. take end block ++ zs) is.front
