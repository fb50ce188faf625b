-- What a pullup leaves, by its answer.
use Rattle.std.specs.Prelude.{◌≡◌, ℕ, ◌≤◌, Option, Some, None, Result, Ok, Err, List, length}
use Rattle.std.specs.Borrow.{Bor}
use Rattle.evbuf.specs.Evbuffered.{Evbuffered}
use Rattle.evbuf.specs.Steps.{pulled_up}

-- a pullup of n bytes: where it answers none, or want of memory, all is as it was
abbrev pub AfterPullup : {E : Type 0} → Evbuffered → ℕ → Result (Option (Bor (List ℕ))) E → Evbuffered → Type 0
AfterPullup old n (Ok (Some front)) new = (new ≡ pulled_up old n new.spare) × (old.spare ≤ new.spare)
AfterPullup old n (Ok None) new = new ≡ old
AfterPullup old n (Err fault) new = new ≡ old

-- a pullup of all bytes
abbrev pub AfterPullupAll : {E : Type 0} → Evbuffered → Result (Bor (List ℕ)) E → Evbuffered → Type 0
AfterPullupAll old (Ok all) new = (new ≡ pulled_up old (length old.bytes) new.spare) × (old.spare ≤ new.spare)
AfterPullupAll old (Err fault) new = new ≡ old
