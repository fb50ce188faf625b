-- Where a needle stands in some bytes.
use Rattle.std.specs.Prelude.{ℕ, List, [], ◌∷◌, ◌==◌, ◌&&◌, Bool, true, false, Option}
use Rattle.evbuf_scan.specs.Place.{place_from}

-- does the needle stand at the front of the bytes
abbrev pub begins_with : List ℕ → List ℕ → Bool
begins_with [] bytes = true
begins_with (n ∷ ns) [] = false
begins_with (n ∷ ns) (b ∷ bs) = (b == n) && begins_with ns bs

-- the first place at or after `from` where the needle stands
abbrev pub place_of : List ℕ → List ℕ → ℕ → Option ℕ
place_of needle bytes from = place_from (begins_with needle) bytes from
