-- What closing puts: frees, ends of writing and closes, and nothing else.
use Rattle.std.proofs.Common.{◌≡◌, ℕ, Bool, true, false, if◌then◌else◌, List, Option, Some, None, refl, subst}
use Rattle.std.specs.Prelude.{⊤, option_map}
use Rattle.ev_types.specs.declared.side.SideId.{SideId}
use Rattle.ev_types.specs.declared.why.Cause.{Cause}
use Rattle.ev_types.specs.declared.entry.Entry.{Entry}
use Rattle.ev_types.specs.declared.entry.Entry.TheVariants as entry
use Rattle.ev_types.specs.Trace.{Event}
use Rattle.relay_model.specs.Settings.{Settings}
use Rattle.relay_model.specs.Plain.{Plain, side_at, is_live}
use Rattle.relay_model.specs.Past.{Past}
use Rattle.relay_model.specs.Close.{CloseStep, entry_where, closing_entry, freed_entry, fault}
use Rattle.relay_model.specs.RatesKept.{is_turn, time_by}
use Rattle.relay_model.specs.Totals.{is_opened}
use Rattle.relay_model.proofs.PastLemmas.{is_still}

-- a free, an end of writing or a close
abbrev pub closes : Entry → Bool
closes (entry.Freed side why moved given) = true
closes (entry.CloseWrite side) = true
closes (entry.Close side) = true
closes _ = false

abbrev pub IsClosing : Option Entry → Type 0
IsClosing None = ⊤
IsClosing (Some e) = closes e ≡ true

pub closing-where : (holds : Bool) (e : Entry) → closes e ≡ true → IsClosing (entry_where holds e)
closing-where true e is = is
closing-where false e is = tt

pub closing-fault : (s : Plain) (e : SideId) (live : Bool) (why : Option Cause) → IsClosing
    (if live then option_map (freed_entry s e) why else None)
closing-fault s e true None = tt
closing-fault s e true (Some why) = refl
closing-fault s e false why = tt

pub closing-each : (g : Settings) (p : Past) (s : Plain) (c : CloseStep) → IsClosing (closing_entry g p s c)
closing-each g p s (CloseStep.Faulty e) = closing-fault s e (is_live s e) (fault (side_at s e))
closing-each g p s (CloseStep.EndWriting e) = closing-where _ (entry.CloseWrite e) refl
closing-each g p s (CloseStep.BothDone k) = closing-where _ (freed_entry s _ _) refl
closing-each g p s (CloseStep.OutDone k) = refl
closing-each g p s (CloseStep.PeerGone e) = closing-where _ (freed_entry s e _) refl
closing-each g p s (CloseStep.Shut e) = closing-where _ (entry.Close e) refl

pub closing-closes : (g : Settings) (p : Past) (s : Plain) (c : CloseStep) (e : Entry) → closing_entry g p s c ≡ Some e → closes e ≡ true
closing-closes g p s c e h = subst IsClosing h (closing-each g p s c)

-- such an entry begins no turn, opens no link, and reads and moves nothing
pub closes-still : (e : Entry) (bytes : List ℕ) → closes e ≡ true → is_still (e, bytes) ≡ true
closes-still (entry.Freed side why moved given) bytes h = refl
closes-still (entry.CloseWrite side) bytes h = refl
closes-still (entry.Close side) bytes h = refl
closes-still _ bytes h = cc

pub closes-opens_none : (e : Entry) (bytes : List ℕ) → closes e ≡ true → is_opened (e, bytes) ≡ false
closes-opens_none (entry.Opened link connected) bytes h = cc
closes-opens_none _ bytes h = refl

-- no turn begins with a still event
pub still-no_turn : (x : Event) → is_still x ≡ true → is_turn x ≡ false
still-no_turn (entry.Turn ms, bytes) h = cc
still-no_turn _ h = refl

pub still-no_time : (x : Event) (time : ℕ) → is_still x ≡ true → time_by time x ≡ time
still-no_time (entry.Turn ms, bytes) time h = cc
still-no_time _ time h = refl
