-- What each call of the port says beyond what every port says: which ends stand where, and what is answered for one that
-- isn't there.
use Rattle.std.specs.Prelude.{◌≡◌, ◌≢◌, ◌⊎◌, ℕ, ◌+◌, ◌-◌, ◌*◌, ◌^◌, ⊤, Bool, true, false, ◌&&◌, List, [], ◌∷◌, map}
use Rattle.std.specs.Prelude.{Option, Some, None, Result, Ok}
use Rattle.std.specs.Prelude.{Err, IsSomeAnd, MatchOption, option_map, slice_index_or}
use Rattle.std.specs.declared.io.ErrorKind.{ErrorKind}
use Rattle.std.specs.declared.io.ErrorKind.TheVariants as kind
use Rattle.ev_types.specs.declared.addr.Addr.{Addr}
use Rattle.ev_port.specs.declared.port.Accepted.{Accepted}
use Rattle.ev_port.specs.declared.port.Accepted.TheVariants as accepted
use Rattle.ev_port.specs.declared.port.Polled.{Polled}
use Rattle.ev_port.specs.declared.port.Polled.TheVariants as polled
use Rattle.ev_port.specs.declared.port.Started.{Started}
use Rattle.ev_port.specs.declared.port.Started.TheVariants as started
use Rattle.ev_port.specs.declared.port.Want.{Want}
use Rattle.mio_port.specs.declared.acceptor.Acceptor.{Acceptor}
use Rattle.mio_port.specs.declared.acceptor.Listener.{Listener}
use Rattle.mio_port.specs.declared.acceptor.NoLink.{NoLink}
use Rattle.mio_port.specs.declared.acceptor.NoLink.TheVariants as no_link
use Rattle.mio_port.specs.declared.end.End.{End}
use Rattle.mio_port.specs.declared.kernel.Kernel.{Kernel}
use Rattle.mio_port.specs.declared.socket_call.SocketCall.TheVariants as call
use Rattle.mio_port.specs.Acceptor.{addr_of, is_open, faulty_acceptor, refused_acceptor}
use Rattle.mio_port.specs.EndPlaces.{PlacesStay, holds, marked, unmarked}

-- Starting

-- a listener at this address, which is reported under the number that no end has; nothing else was asked of it
abbrev pub ListensAt : Addr → Listener → Type 0
ListensAt at l = (addr_of l.at ≡ Some at) × (l.log.calls ≡ (call.Watched (2 ^ 64 - 1), []) ∷ [])

-- a port that was started listens at the address that it was given, and has the target; any other listens nowhere
abbrev pub Listens : Acceptor → Addr → Addr → Started → Type 0
Listens d at to started.Started =
    MatchOption d.listener ⊥ (ListensAt at) × MatchOption d.target ⊥ (λ target. addr_of target ≡ Some to)
Listens d at to started.Failed = d.listener ≡ None
Listens d at to started.NoMemory = d.listener ≡ None

-- what a start answers that met an error of this kind
abbrev pub start_refusal : ErrorKind → Started
start_refusal kind.OutOfMemory = started.NoMemory
start_refusal _ = started.Failed

-- the listener behind a start with this answer: only one that failed is counted
abbrev pub acceptor_after_start : Acceptor → Started → Acceptor
acceptor_after_start d started.Started = d
acceptor_after_start d started.Failed = faulty_acceptor d
acceptor_after_start d started.NoMemory = d

-- Polling

-- what a poll marked: what was wanted and is ready, or nothing where it failed
abbrev pub Marked : List (Option End) → List Want → List Want → Polled → Type 0
Marked ends old new (polled.Ready accept) = new ≡ map (marked ends) old
Marked ends old new polled.Failed = new ≡ map unmarked old

-- links are accepted where that was asked and the listener can be
abbrev pub Accepts : Acceptor → Bool → Polled → Type 0
Accepts d asked (polled.Ready accept) = accept ≡ (asked && is_open d)
Accepts d asked polled.Failed = ⊤

-- Accepting

-- every place but the two of one link is as it was
abbrev pub OthersStay : List (Option End) → List (Option End) → ℕ → Type 0
OthersStay old new link = (n : ℕ) → n ≢ 2 * link → n ≢ 2 * link + 1 → slice_index_or new n None ≡ slice_index_or old n None

-- a link that was made wasn't there before, and its Out end is never connected yet; without a link nothing was made
abbrev pub MadeLink : List (Option End) → List (Option End) → ℕ → Accepted → Type 0
MadeLink old new link (accepted.Link connected) =
    (connected ≡ false) × (holds old link ≡ false) × (holds new link ≡ true) × OthersStay old new link
MadeLink old new link accepted.NotYet = PlacesStay old new
MadeLink old new link accepted.Failed = PlacesStay old new
MadeLink old new link accepted.NoMemory = PlacesStay old new

-- what is answered where no link was made
abbrev pub no_link_answer : NoLink → Accepted
no_link_answer no_link.NoneWaits = accepted.NotYet
no_link_answer no_link.Again = accepted.NotYet
no_link_answer no_link.Scarce = accepted.NotYet
no_link_answer no_link.Failed = accepted.Failed

-- two ends that were just made met no fault
abbrev pub HasNoFault : Result (End × End) NoLink → Type 0
HasNoFault (Ok ends) = (ends.0.faults ≡ 0) × (ends.1.faults ≡ 0)
HasNoFault (Err why) = ⊤

-- No link is made where there is no listener, of which nothing is told; or since the system refused a call, for the reason that is told.
abbrev pub ToldWhy : Kernel → Acceptor → Kernel → NoLink → Type 0
ToldWhy old d new why =
    ((d.listener ≡ None) × (why ≡ no_link.NoneWaits) × (new.log ≡ old.log)) ⊎ (new.log.calls ≡ (call.NoLink why, []) ∷ old.log.calls)

-- so it is from one kernel to the next; before the first start none waits
abbrev pub ToldBy : Option Kernel → Acceptor → Option Kernel → NoLink → Type 0
ToldBy None d new why = why ≡ no_link.NoneWaits
ToldBy (Some old) d new why = IsSomeAnd new (λ k. ToldWhy old d k why)

-- why there are no two ends is told; of those that were made nothing is
abbrev pub ToldPair : Option Kernel → Acceptor → Option Kernel → Result (End × End) NoLink → Type 0
ToldPair old d new (Ok ends) = option_map (λ k. k.log) new ≡ option_map (λ k. k.log) old
ToldPair old d new (Err why) = ToldBy old d new why

-- An accept at this time made no link: why is told, and the answer and the listener are as that says.
pub record CameToNone (old new : Option Kernel) (d d' : Acceptor) (time : ℕ) (answer : Accepted) : Type 0 where
  pub why : NoLink
  pub told : ToldBy old d new why
  pub answered : answer ≡ no_link_answer why
  pub listener : d' ≡ refused_acceptor d why time

-- an accept of a link that wasn't there; where one is made, or where memory runs out before it is asked for, the listener is as it was
abbrev pub AskedFor : Option Kernel → Option Kernel → Acceptor → Acceptor → ℕ → Accepted → Type 0
AskedFor old new d d' time (accepted.Link connected) = d' ≡ d
AskedFor old new d d' time accepted.NotYet = CameToNone old new d d' time accepted.NotYet
AskedFor old new d d' time accepted.Failed = CameToNone old new d d' time accepted.Failed
AskedFor old new d d' time accepted.NoMemory = d' ≡ d

-- a link was not made
abbrev pub IsNoLink : Accepted → Type 0
IsNoLink (accepted.Link connected) = ⊥
IsNoLink accepted.NotYet = ⊤
IsNoLink accepted.Failed = ⊤
IsNoLink accepted.NoMemory = ⊤
