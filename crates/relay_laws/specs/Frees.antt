-- Why sides are freed in a relay that has no hooks, no timeouts and no filters, told from what stands before each free.
use Rattle.std.specs.Prelude.{◌≡◌, ℕ, Bool, true, false, List, ◌∷◌, ◌++◌, All}
use Rattle.ev_types.specs.declared.side.SideId.{SideId}
use Rattle.ev_types.specs.declared.why.Cause.{Cause}
use Rattle.ev_types.specs.declared.why.Cause.TheVariants as cause
use Rattle.ev_types.specs.declared.entry.Entry.TheVariants as entry
use Rattle.ev_types.specs.Sides.{peer}
use Rattle.ev_types.specs.Trace.{Event, Trace}
use Rattle.relay_model.specs.Trace.{is_write_closed, moved_at_free}
use Rattle.relay_model.specs.Settings.{Settings, HasNoHooks}
use Rattle.ev_types.specs.Usual.{no_timeouts}
use Rattle.relay_model.specs.Turn.{IsLegal}
use Rattle.relay_model.specs.Told.{is_freed, failed_by}
use Rattle.relay_model.specs.Causes.{InThisTurn}
use Rattle.relay_laws.specs.Plainly.{HasNoFilters}

-- No side has a hook, no timeout is set, and each filter hands its bytes on as they are.
pub record IsPlainly (g : Settings) : Type 0 where
  pub hooks : HasNoHooks g
  pub filters : HasNoFilters g
  pub in_timeouts : g.in_timeouts ≡ no_timeouts
  pub out_timeouts : g.out_timeouts ≡ no_timeouts

-- What a trace says of a side that is freed behind it for a cause, its end being given so many bytes. Writing was ended at both
-- sides of the link; or its end failed in this turn; or its peer was freed, and all that was moved from there was given to it.
-- There is no other cause.
abbrev pub IsFreedFor : Trace → SideId → Cause → ℕ → Type 0
IsFreedFor t e cause.Done given = (is_write_closed e t ≡ true) × (is_write_closed (peer e) t ≡ true)
IsFreedFor t e cause.Failed given = InThisTurn (failed_by e) t
IsFreedFor t e cause.PeerGone given = (is_freed (peer e) t ≡ true) × All (λ moved. moved ≡ given) (moved_at_free (peer e) t)
IsFreedFor t e cause.Hook given = ⊥
IsFreedFor t e cause.Timeout given = ⊥
IsFreedFor t e (cause.Filter place) given = ⊥

-- So it is of each free of a legal trace.
abbrev pub FreesAreFor : Type 0
FreesAreFor = (g : Settings) (t before after : Trace) (e : SideId) (why : Cause) (moved given : ℕ) (bytes : List ℕ) → IsPlainly g →
    IsLegal g t → t ≡ before ++ (entry.Freed e why moved given, bytes) ∷ after → IsFreedFor before e why given

-- an event of a hook: it is fired, or asks
abbrev pub is_of_hook : Event → Bool
is_of_hook (entry.Fired side why, bytes) = true
is_of_hook (entry.Asked me act answer, bytes) = true
is_of_hook _ = false

-- Where no side has a hook, no event of a legal trace is of a hook.
abbrev pub NothingIsOfHooks : Type 0
NothingIsOfHooks = (g : Settings) (t : Trace) → HasNoHooks g → IsLegal g t → All (λ y. is_of_hook y ≡ false) t
