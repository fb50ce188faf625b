use Rattle.evbuf_scan.proofs.NeedleLemmas.{FindsNeedle-first_place}
use Rattle.evbuf_scan.proofs.look.place_in.Goals as goal

pub returns : goal.returns
returns c = FindsNeedle-first_place c.args.needle.now c.args.bytes.now c.find.result c.requires c.find.ensures
