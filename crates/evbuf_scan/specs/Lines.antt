-- The first line of a buffer, and what is left when it was taken.
use Rattle.std.specs.Prelude.{◌≡◌, ℕ, ◌+◌, List, take, Option, Some, None, option_map}
use Rattle.evbuf.specs.Evbuffered.{Evbuffered}
use Rattle.evbuf.specs.Steps.{after_drain}
use Rattle.evbuf_scan.specs.declared.eol.Eol.{Eol}
use Rattle.evbuf_scan.specs.Ends.{end_from}

-- the first line, without its end
abbrev pub first_line : Eol → List ℕ → Option (List ℕ)
first_line style bytes = option_map (λ found. take found.0 bytes) (end_from style bytes 0)

-- where an end was found, the line and its end were drained at once; else nothing changed
abbrev pub AfterEnd : Option (ℕ × ℕ) → Evbuffered → Evbuffered → Type 0
AfterEnd None old new = new ≡ old
AfterEnd (Some found) old new = new ≡ after_drain old (found.0 + found.1) new.spare

-- the first line with its end was taken, where there is one
abbrev pub AfterLine : Eol → Evbuffered → Evbuffered → Type 0
AfterLine style old new = AfterEnd (end_from style old.bytes 0) old new
