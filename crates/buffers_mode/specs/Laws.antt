-- What the definitions of this crate come to.
use Rattle.std.specs.Prelude.{◌≢◌, ℕ, ◌^◌, ◌≤◌, List, None, Ok, length}
use Rattle.buffers_mode.specs.Text.{answers_of}

-- A text of at most 2^24 bytes is never spent, whatever it asks: no length comes to 2^64, and no callback to the number
-- 2^32.
abbrev pub ScriptsAreNeverSpent : Type 0
ScriptsAreNeverSpent = (text : List ℕ) → length text ≤ 2 ^ 24 → answers_of text ≢ Ok None
