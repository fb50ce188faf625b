-- What is so as long as nothing limits what sides move.
use Rattle.std.specs.Prelude.{◌≡◌, [], None}
use Rattle.ev_types.specs.declared.side.SideId.{SideId}
use Rattle.rate_group.specs.GroupsCalls.{no_groups}
use Rattle.relay_model.specs.Plain.{side_at}
use Rattle.relay_state.specs.State.{State}

-- no side has a limit, and there are no groups
pub record HasNoRates (s : State) : Type 0 where
  pub limits : (e : SideId) → (side_at s.plain e).limit ≡ None
  pub groups : s.groups ≡ no_groups
  pub none : s.settings.groups ≡ []
