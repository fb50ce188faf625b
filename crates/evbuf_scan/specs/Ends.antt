-- Where lines end, by style.
use Rattle.std.specs.Prelude.{ℕ, ◌+◌, List, [], ◌∷◌, ◌==◌, ◌||◌, Bool, true, false, if◌then◌else◌, nat_lt, drop, Option, option_map}
use Rattle.evbuf_scan.specs.declared.eol.Eol.{Eol}
use Rattle.evbuf_scan.specs.declared.eol.Eol.TheVariants.{Any, Crlf, CrlfStrict, Lf, Nul}
use Rattle.evbuf_scan.specs.Place.{place_from}
use Rattle.evbuf_scan.specs.Needle.{begins_with}

abbrev pub is_cr_or_lf : ℕ → Bool
is_cr_or_lf b = (b == 13) || (b == 10)

-- how many CR and LF stand at the front
abbrev pub run_length : List ℕ → ℕ
run_length [] = 0
run_length (b ∷ bs) = if is_cr_or_lf b then run_length bs + 1 else 0

-- How long the line end is that stands at the front of the bytes; 0 where none does. It is a run of CR and LF, or LF
-- with an optional CR before it, or CR LF, or LF, or a zero byte.
abbrev pub end_length : Eol → List ℕ → ℕ
end_length Any bytes = run_length bytes
end_length Crlf bytes = if begins_with (13 ∷ 10 ∷ []) bytes then 2 else (if begins_with (10 ∷ []) bytes then 1 else 0)
end_length CrlfStrict bytes = if begins_with (13 ∷ 10 ∷ []) bytes then 2 else 0
end_length Lf bytes = if begins_with (10 ∷ []) bytes then 1 else 0
end_length Nul bytes = if begins_with (0 ∷ []) bytes then 1 else 0

-- has each end of this style a length that is known beforehand, being no run
abbrev pub is_bounded : Eol → Bool
is_bounded Any = false
is_bounded Crlf = true
is_bounded CrlfStrict = true
is_bounded Lf = true
is_bounded Nul = true

-- does a line end stand at the front of the bytes
abbrev pub is_end : Eol → List ℕ → Bool
is_end style bytes = nat_lt 0 (end_length style bytes)

-- the first place at or after `from` where a line end stands, and how long it is from there on
abbrev pub end_from : Eol → List ℕ → ℕ → Option (ℕ × ℕ)
end_from style bytes from = option_map (λ place. (place, end_length style (drop place bytes))) (place_from (is_end style) bytes from)
