use Rattle.std.proofs.Common.{◌≡◌, ℕ, ◌<◌, ◌-◌, ◌≤◌}
use Rattle.relay_state.specs.Closing.{in_side, out_side}
use Rattle.relay_drive.specs.Agenda.{HoldsBeside, IsNamedRight, SaysOf, SameBesideWants, IsUntold}
use Rattle.relay_drive.specs.Links.{WantsAsSeen}
use Rattle.relay_drive.proofs.poll.name_wants.Given as goal

abbrev pub invariant-loop-link : goal.invariant-loop-link
invariant-loop-link l = record {
  links : l.naming.table.links ≡ l.relay.state.plain.opened;
  seen : WantsAsSeen l.naming.seen.items l.relay.state;
  named : HoldsBeside l.agenda.to_name (IsNamedRight l.naming) l.relay.state;
  same : SameBesideWants l.fn.agenda l.agenda;
  looked : IsUntold l.agenda.to_name 0 l.from;
  within : l.from ≤ l.relay.state.plain.opened;
  said : (k : ℕ) → k < l.from → SaysOf l.naming.table l.relay.state (in_side k) × SaysOf l.naming.table l.relay.state (out_side k);
}

abbrev pub decreases-loop-link : goal.decreases-loop-link
decreases-loop-link l = l.relay.state.plain.opened - l.from
