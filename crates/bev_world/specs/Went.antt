-- What no call on a world does: make a freed bufferevent live, use a number again, put something into the batch that runs, or take a
-- reason from a bufferevent that lives on.
use Rattle.std.specs.Prelude.{◌≡◌, ◌≤◌, ◌<◌, ◌/◌, ◌%◌, ◌^◌, ◌==◌, ℕ, Bool, true, false, not, ◌&&◌, filter, length, List, [], ◌∷◌, ⊤}
use Rattle.std.specs.Prelude.{Option, Some, None, is_some}
use Rattle.ev_types.specs.declared.why.Flags.{Flags}
use Rattle.deferred_cb.specs.declared.reasons.Reasons.{Reasons}
use Rattle.deferred_cb.specs.DueCalls.{Entry}
use Rattle.bev_world.specs.WorldValue.{WorldValue, slot_at, is_freed}

-- is this bit of the flags of an event set
abbrev pub has_flag : Option Flags → ℕ → Bool
has_flag None k = false
has_flag (Some flags) k = flags.0 / 2 ^ k % 2 == 1

-- each reason of the one is a reason of the other, and each flag of its event one of the other's
pub record KeepsReasons (old new : Reasons) : Type 0 where
  pub connected : old.connected ≡ true → new.connected ≡ true
  pub read : old.read ≡ true → new.read ≡ true
  pub write : old.write ≡ true → new.write ≡ true
  pub event : is_some old.event ≡ true → is_some new.event ≡ true
  pub flags : (k : ℕ) → has_flag old.event k ≡ true → has_flag new.event k ≡ true
  pub timer : old.timer ≡ true → new.timer ≡ true

-- the entries of the one stand in front of the other's, in their order, each with all its reasons
abbrev pub StillDue : List Entry → List Entry → Type 0
StillDue [] new = ⊤
StillDue (e ∷ es) [] = ⊥
StillDue (e ∷ es) (f ∷ fs) = (f.0 ≡ e.0) × KeepsReasons e.1 f.1 × StillDue es fs

-- it was freed in between
abbrev pub went_away : WorldValue → WorldValue → ℕ → Bool
went_away old new n = is_freed new n && not (is_freed old n)

-- Every number keeps what carries its bytes; a freed bufferevent stays freed; the batch that runs loses exactly the calls of those
-- that were freed in between;
-- and what is pending for one that was not freed in between stays pending, in its order.
pub record Went (old new : WorldValue) : Type 0 where
  pub known : length old.slots ≤ length new.slots
  pub kinds : (n : ℕ) → n < length old.slots → (slot_at new n).kind ≡ (slot_at old n).kind
  pub freed : (n : ℕ) → is_freed old n ≡ true → is_freed new n ≡ true
  pub batch : new.batch ≡ filter (λ call. not (went_away old new call.0)) old.batch
  pub pending : StillDue (filter (λ e. not (went_away old new e.0)) old.pending) new.pending
  pub cut : new.cut ≡ old.cut
