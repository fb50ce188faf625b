-- What a run over a port that tells has carried, by what that port told since it was new.
use Rattle.std.specs.Prelude.{◌≡◌, ◌⊎◌, ◌<◌, ◌-◌, ◌^◌, true, Some, None, IsSomeAnd}
use Rattle.ev_types.specs.declared.route.Route.{Route}
use Rattle.ev_types.specs.declared.side.SideId.{SideId}
use Rattle.ev_types.specs.declared.status.Status.{Status}
use Rattle.ev_types.specs.declared.status.Status.TheVariants as status
use Rattle.ev_types.specs.Sides.{peer}
use Rattle.ev_types.specs.Told.{EndTold, PortTold}
use Rattle.ev_types.specs.Trace.{Trace}
use Rattle.relay_model.specs.Trace.{bytes_read, bytes_given, has_ended, is_write_closed}
use Rattle.filter_model.specs.Filter.{filter_of}
use Rattle.filter_model.specs.FilterLaws.{IsPrefixOf}
use Rattle.relay_model.specs.Flow.{passed, passed_at_end}
use Rattle.relay_model.specs.Rooms.{read_kind, write_kind}
use Rattle.relay_model.specs.Settings.{Settings}
use Rattle.relay_model.specs.Totals.{is_closed, opened}

-- Of each end: the bytes that the port's reads gave are those that the trace has as read, the bytes that its writes took are those that
-- it has as given; and so with the end of its bytes, the end of its writing, its close, and with the number of links.
pub record Carried (t : Trace) (told : PortTold) (ends : SideId → EndTold) : Type 0 where
  pub got : (e : SideId) → (ends e).handed_out ≡ Some (bytes_read e t)
  pub took : (e : SideId) → (ends e).taken ≡ Some (bytes_given e t)
  pub ended : (e : SideId) → (ends e).ended ≡ Some (has_ended e t)
  pub write_ended : (e : SideId) → (ends e).write_ended ≡ Some (is_write_closed e t)
  pub closed : (e : SideId) → (ends e).closed ≡ Some (is_closed e t)
  pub links : opened t < 2 ^ 64 - 1 → told.links ≡ Some (opened t)

-- Of the bytes alone, with no word of a trace: whatever happened, those that the writes took at the peer of an end are a prefix of what
-- the filters of the settings make of those that the reads gave at that end. Before a read was answered with its end they are without
-- the filters' ends, from then on with them. Where writing was ended at the peer, they are all of that.
pub record IsPassedOn (g : Settings) (ends : SideId → EndTold) : Type 0 where
  pub begins : (e : SideId) → IsSomeAnd (ends e).handed_out (λ got. IsSomeAnd (ends e).ended (λ ended. IsSomeAnd (ends (peer e)).taken
      (λ took. IsPrefixOf took (passed (filter_of (read_kind g e.side)) (filter_of (write_kind g (peer e).side)) ended got))))
  pub whole : (e : SideId) → (ends (peer e)).write_ended ≡ Some true → IsSomeAnd (ends e).handed_out (λ got.
      (ends (peer e)).taken ≡ Some (passed_at_end (filter_of (read_kind g e.side)) (filter_of (write_kind g (peer e).side)) got))

-- The last start of the port had the addresses of the words; or memory ran out before it was started.
abbrev pub IsStartedBy : Route → Status → PortTold → Type 0
IsStartedBy route ended told =
    (told.started ≡ Some (Some (route.listen, route.to))) ⊎ ((ended ≡ status.Memory) × (told.started ≡ Some None))
