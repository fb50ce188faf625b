use Rattle.evbuf_scan.proofs.PlaceLemmas.{place_from-first}
use Rattle.evbuf_scan.proofs.laws.places_are_first.Goals as goal

pub returns : goal.returns
returns c = place_from-first
