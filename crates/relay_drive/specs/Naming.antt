-- What the table of wants says once a side is named, and once it has more rows.
use Rattle.std.specs.Prelude.{◌≡◌, ◌≢◌, ℕ, ◌*◌, ◌<◌, ◌≤◌}
use Rattle.ev_types.specs.declared.side.SideId.{SideId}
use Rattle.ev_types.specs.Sides.{number}
use Rattle.ev_port.specs.Table.{WantsValue}
use Rattle.relay_state.specs.State.{State}
use Rattle.relay_state.specs.Closing.{in_side, out_side}
use Rattle.relay_drive.specs.Agenda.{SaysOf}

-- Of one side the table says what it wants, and of every other one what it said.
pub record NamedSide (s : State) (e : SideId) (old new : WantsValue) : Type 0 where
  pub links : new.links ≡ old.links
  pub own : SaysOf new s e
  pub others : (n : ℕ) → n ≢ number e → (new.reads n ≡ old.reads n) × (new.writes n ≡ old.writes n)

-- of both sides of a link
pub record NamedLink (s : State) (k : ℕ) (old new : WantsValue) : Type 0 where
  pub links : new.links ≡ old.links
  pub near : SaysOf new s (in_side k)
  pub far : SaysOf new s (out_side k)
  pub others : (e : SideId) → e.link ≢ k → (new.reads (number e) ≡ old.reads (number e)) × (new.writes (number e) ≡ old.writes (number e))

-- the table is no shorter, and says what it said of each link that it had
pub record OldRowsStay (old new : WantsValue) : Type 0 where
  pub links : old.links ≤ new.links
  pub rows : (n : ℕ) → n < 2 * old.links → (new.reads n ≡ old.reads n) × (new.writes n ≡ old.writes n)
