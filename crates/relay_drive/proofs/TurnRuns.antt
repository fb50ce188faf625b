-- A turn's parts one behind another: what of them stands between the calls of the port, and how far a turn that is cut off has come.
use Rattle.std.proofs.Common.{ℕ, [], ◌∷◌, Bool, false, List, Option, refl, sym, append-nil}
use Rattle.ev_types.specs.declared.entry.Entry.{Entry}
use Rattle.ev_types.specs.declared.side.SideId.{SideId}
use Rattle.ev_types.specs.Told.{EndTold, PortTold}
use Rattle.ev_types.specs.Trace.{Trace}
use Rattle.ev_port.specs.Calls.{IsUnheard}
use Rattle.ev_port.specs.Faults.{Faults}
use Rattle.ev_port.specs.Vouching.{LongerBy}
use Rattle.ev_port.specs.declared.port.Want.{Want}
use Rattle.relay_state.specs.State.{State}
use Rattle.relay_drive.specs.declared.run.Run.{Run}
use Rattle.relay_drive.specs.Advances.{Advances}
use Rattle.relay_drive.specs.PollPhase.{PollsAndAcceptsListed}
use Rattle.relay_drive.specs.Calls.{Ticks}
use Rattle.relay_drive.specs.Fired.{FiredAs}
use Rattle.relay_drive.specs.Known.{known, Point}
use Rattle.relay_drive.specs.Phases.{TicksOnce, PollsAndAccepts, ServesSide, CutServing}
use Rattle.relay_drive.specs.Seats.{Telling}
use Rattle.relay_drive.specs.Steps.{Nothing, Then, Each, CutAt, Told}
use Rattle.relay_drive.proofs.CalmLemmas.{Same}
use Rattle.relay_drive.proofs.DispatchLemmas.{AllOwn, goes_own}
use Rattle.relay_drive.proofs.GoesLemmas.{Known, goes_knowing}
use Rattle.relay_drive.proofs.ListedLemmas.{served_all, served_cut}
use Rattle.relay_drive.proofs.TookLemmas.{WaitsNoMore}

pub ticked : {Q : State → Trace → State → Type 0} {s new : State} {a : Trace} → Then TicksOnce Q s a new → (reading : ℕ) ×
    Then (Ticks reading) Q s a new
ticked h = (
  h.first.0,
  record {
    middle = h.middle;
    front = h.front;
    back = h.back;
    first = h.first.1;
    second = h.second;
    joined = h.joined;
  },
)

-- whatever is known of a port besides, so much is known where a turn is cut off
pub cut_short : {R : State → Trace → State → Type 0} {p : Bool} {old new : Run} {l l' : Option Trace} {Plan : Type 0} {k : Known Plan}
    {f f' : Faults} (at : Point) (v none_waits : Plan → Trace → Type 0) (told : PortTold) (ends : SideId → EndTold) →
    Advances R p old new l l' k (known at v none_waits told ends) f f' →
    Advances R p old new l l' k (known Point.Accepting v none_waits told ends) f f'
cut_short at v none_waits told ends g = goes_knowing g (λ t x fits before now. (now.0, tt))

-- what a poll and serving did, by what the poll marked of all wants
pub marked_all : {R Q : State → Trace → State → Type 0} (list : List Want) {s new : State} {a : Trace} →
    Then R (Then (PollsAndAcceptsListed list) (Then (Each ServesSide list) Q)) s a new →
    (marked : List Want) × Then R (Then (PollsAndAccepts marked) (Then (Each ServesSide marked) Q)) s a new
marked_all list h =
    let rest = served_all list h.second in (
      rest.0,
      record {
        middle = h.middle;
        front = h.front;
        back = h.back;
        first = h.first;
        second = rest.1;
        joined = h.joined;
      },
    )

pub marked_cut : {R : State → Trace → State → Type 0} (list : List Want) {s new : State} {a : Trace} →
    Then R (Then (PollsAndAcceptsListed list) (CutAt ServesSide CutServing list)) s a new →
    (marked : List Want) × Then R (Then (PollsAndAccepts marked) (CutAt ServesSide CutServing marked)) s a new
marked_cut list h =
    let rest = served_cut list h.second in (
      rest.0,
      record {
        middle = h.middle;
        front = h.front;
        back = h.back;
        first = h.first;
        second = rest.1;
        joined = h.joined;
      },
    )

-- behind something nothing more
pub and_nothing : {R : State → Trace → State → Type 0} {s new : State} {a : Trace} → R s a new → Then R Nothing s a new
and_nothing {new = new} {a = a} h = record
    { middle = new; front = a; back = []; first = h; second = (refl, refl); joined = sym (append-nil a) }

-- What hooks did, with their entries, once accepting has ended: the port was not called.
pub goes_fired : {Plan H : Type 0} {R : State → Trace → State → Type 0} {T : Trace → Type 0} {tells : Telling H} {short : Option SideId}
    {old new : Run} {l l' : Option Trace} {h1 g1 h2 g2 : List (Option H)} (v none_waits : Plan → Trace → Type 0) (told : PortTold)
    (ends : SideId → EndTold) (faults : Faults) → WaitsNoMore none_waits → ((e : Entry) → IsUnheard e → LongerBy v v ((e, []) ∷ [])) →
    (f : FiredAs tells short R old new l l' h1 g1 h2 g2) → AllOwn f.added → Same old.relay.state new.relay.state → T f.added →
    Advances (Told R T) false old new l l' (known Point.Accepted v none_waits told ends) (known Point.Accepted v none_waits told ends)
    faults faults
goes_fired {l = l} {l' = l'} v none_waits told ends faults waits law f own same t =
    goes_own v none_waits told ends waits law l l' faults f.added own (f.does, t) same f.entries f.list
