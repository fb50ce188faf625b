-- What the kernel's reports tell of the ends and of the listener: each report in turn, of the one end that it names.
use Rattle.std.specs.Prelude.{◌≡◌, ℕ, ◌==◌, ◌^◌, ◌-◌, Bool, ◌||◌, List, Option, None, option_map, slice_index_or, if◌then◌else◌}
use Rattle.std.specs.List.{fold}
use Rattle.mio.specs.declared.event.event.Event.{Event}
use Rattle.mio.specs.Event.{event_token}
use Rattle.mio_port.specs.declared.end.End.{End}
use Rattle.mio_port.specs.OneEnd.{noticed_end}

-- the number that a report names
abbrev pub reported : Event → ℕ
reported seen = (event_token seen).0

-- it is of the listener
abbrev pub is_of_listener : Event → Bool
is_of_listener seen = reported seen == 2 ^ 64 - 1

-- the place with this number behind a report
abbrev pub heard_at : ℕ → Option End → Event → Option End
heard_at n place seen =
    if is_of_listener seen then place else (if reported seen == n then option_map (λ end. noticed_end end seen) place else place)

-- each end heard the reports that name it, in their order, and the listener is ready where it was or one names it
pub record AsReported (reports : List Event) (old new : List (Option End)) (ready now_ready : Bool) : Type 0 where
  pub ends : (n : ℕ) → slice_index_or new n None ≡ fold (heard_at n) (slice_index_or old n None) reports
  pub listener : now_ready ≡ fold (λ r seen. r || is_of_listener seen) ready reports
