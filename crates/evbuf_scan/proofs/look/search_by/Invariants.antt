use Rattle.std.proofs.Common.{◌≡◌, ◌-◌, length, drop}
use Rattle.evbuf_scan.specs.Place.{first_place}
use Rattle.evbuf_scan.specs.Needle.{begins_with}
use Rattle.evbuf_scan.proofs.look.search_by.Given as goal

-- the first place from here on is the first one from the start on
abbrev pub invariant-loop-at : goal.invariant-loop-at
invariant-loop-at l =
    first_place (begins_with l.needle) l.at (drop l.at l.buf.bytes) ≡ first_place (begins_with l.needle) l.from (drop l.from l.buf.bytes)

abbrev pub decreases-loop-at : goal.decreases-loop-at
decreases-loop-at l = length l.buf.bytes - l.at
