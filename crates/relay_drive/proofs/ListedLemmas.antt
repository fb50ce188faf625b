-- A list of the marked wants does for serving what the list of all wants does.
use Rattle.std.proofs.Common.{◌≡◌, true, false, List, [], subst}
use Rattle.std.specs.Prelude.{filter}
use Rattle.std.proofs.lemmas.Bool.{or_parts}
use mathlib.Core.Logic.{◌⊎◌}
use Rattle.ev_types.specs.Trace.{Trace}
use Rattle.ev_port.specs.declared.port.Want.{Want}
use Rattle.ev_port.specs.Table.{is_marked}
use Rattle.relay_state.specs.State.{State}
use Rattle.relay_drive.specs.declared.fault.DriveFault.{DriveFault}
use Rattle.relay_drive.specs.declared.fault.DriveFault.TheVariants as fault
use Rattle.relay_drive.specs.Steps.{Then, Each, CutAt}
use Rattle.relay_drive.specs.Phases.{PollsAndAccepts, AcceptsMore, CutAccepting, ServesSide, CutServing}
use Rattle.relay_drive.specs.PollPhase.{PollsListed, PollsAndAcceptsListed}
use Rattle.relay_drive.proofs.EachLemmas.{then_as}
use Rattle.relay_drive.proofs.LinkParts.{each-unmarked, cut-unmarked, serves-unmarked}
use Rattle.relay_drive.proofs.PollLemmas.{cut_accepting}

-- an unmarked want is not served
unmarked : (w : Want) (x : State) → is_marked w ≡ false → ServesSide w x [] x
unmarked w x h = let parts = or_parts w.can_read w.can_write h in serves-unmarked w x parts.0 parts.1

-- the list is that of the marked ones of all wants
polls_as : (list : List Want) {s new : State} {a : Trace} → PollsAndAcceptsListed list s a new →
    (marked : List Want) × (list ≡ filter is_marked marked) × PollsAndAccepts marked s a new
polls_as list h = (
  h.1.first.0,
  h.1.first.1,
  (
    h.0,
    record {
      middle = h.1.middle;
      front = h.1.front;
      back = h.1.back;
      first = h.1.first.2;
      second = h.1.second;
      joined = h.1.joined;
    },
  ),
)

-- all were served where the listed ones were
pub served_all : {Q : State → Trace → State → Type 0} (list : List Want) {s new : State} {a : Trace} →
    Then (PollsAndAcceptsListed list) (Then (Each ServesSide list) Q) s a new →
    (marked : List Want) × Then (PollsAndAccepts marked) (Then (Each ServesSide marked) Q) s a new
served_all list h =
    let p = polls_as list h.first in (
      p.0,
      record {
        middle = h.middle;
        front = h.front;
        back = h.back;
        first = p.2;
        second = then_as
            (λ m x q. each-unmarked ServesSide is_marked unmarked p.0 h.middle m x (subst (λ ws. Each ServesSide ws h.middle x m) p.1 q))
            (λ m y q. q) h.second;
        joined = h.joined;
      },
    )

-- and serving was cut off where it was among the listed ones
pub served_cut : (list : List Want) {s new : State} {a : Trace} →
    Then (PollsAndAcceptsListed list) (CutAt ServesSide CutServing list) s a new →
    (marked : List Want) × Then (PollsAndAccepts marked) (CutAt ServesSide CutServing marked) s a new
served_cut list {s} {new} h =
    let p = polls_as list h.first in (
      p.0,
      record {
        middle = h.middle;
        front = h.front;
        back = h.back;
        first = p.2;
        second = cut-unmarked ServesSide CutServing is_marked unmarked p.0 h.middle new h.back
            (subst (λ ws. CutAt ServesSide CutServing ws h.middle h.back new) p.1 h.second);
        joined = h.joined;
      },
    )

-- accepting was refused behind such a poll
pub cut_listed : (f : DriveFault) (list : List Want) {s new : State} {a : Trace} → (f ≡ fault.Memory) ⊎ (f ≡ fault.OpenFault) →
    Then (PollsListed list true) AcceptsMore s a new → CutAccepting f s a new
cut_listed f list c h =
    cut_accepting f h.first.0 c
    (record { middle = h.middle; front = h.front; back = h.back; first = h.first.2; second = h.second; joined = h.joined })
