use Rattle.std.proofs.Common.{◌≡◌, drop}
use Rattle.evbuf_scan.specs.Place.{first_place}
use Rattle.evbuf_scan.specs.Ends.{is_end}
use Rattle.evbuf_scan.proofs.eol.first_end.Given as goal

abbrev pub invariant-loop-place : goal.invariant-loop-place
invariant-loop-place l = first_place (is_end l.style) l.place (drop l.place l.bytes) ≡ first_place (is_end l.style) 0 l.bytes
