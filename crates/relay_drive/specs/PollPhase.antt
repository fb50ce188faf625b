-- The poll, and accepting, as relations of the relay's state; and where they can be cut off.
use Rattle.std.specs.Prelude.{◌≡◌, ◌⊎◌, ℕ, zero, suc, ◌<◌, ◌≤◌, Bool, true, false, nat_lt, List, [], ◌∷◌, ◌++◌, length, filter, MatchBool}
use Rattle.token_bucket.specs.declared.limit.Dir.TheVariants as dir
use Rattle.ev_types.specs.declared.side.SideId.{SideId}
use Rattle.ev_types.specs.Trace.{Trace}
use Rattle.ev_port.specs.declared.port.Polled.TheVariants as polled
use Rattle.ev_port.specs.declared.port.Want.{Want}
use Rattle.ev_port.specs.Polling.{AllMarked, poll_events}
use Rattle.relay_state.specs.State.{State}
use Rattle.relay_state.specs.Rooms.{wants}
use Rattle.relay_state.specs.Time.{poll_timeout}
use Rattle.relay_state.specs.Closing.{in_side, out_side}
use Rattle.relay_drive.specs.declared.fault.DriveFault.{DriveFault}
use Rattle.relay_drive.specs.declared.fault.DriveFault.TheVariants as fault
use Rattle.relay_drive.specs.Steps.{Nothing, Then, links_from}
use Rattle.relay_drive.specs.Calls.{Opens}
use Rattle.ev_port.specs.Table.{is_marked}
pub use Rattle.ev_port.specs.Table.{wants_some}

-- Polling

-- what a side wants, with no mark yet
abbrev pub want_of : State → SideId → Want
want_of s e = record { side = e; read = wants s e dir.Read; write = wants s e dir.Write; can_read = false; can_write = false }

-- a side is wanted where it wants something
abbrev pub wants_of : State → SideId → List Want
wants_of s e = filter wants_some (want_of s e ∷ [])

abbrev pub wants_of_link : State → ℕ → List Want
wants_of_link s k = wants_of s (in_side k) ++ wants_of s (out_side k)

-- the sides of some links that want something, in their order
abbrev pub wants_of_links : State → List ℕ → List Want
wants_of_links s [] = []
wants_of_links s (k ∷ ks) = wants_of_link s k ++ wants_of_links s ks

-- and those of all links
abbrev pub wanted : State → List Want
wanted s = wants_of_links s (links_from 0 s.plain.opened)

abbrev pub can_open : State → Bool
can_open s = nat_lt s.plain.opened s.settings.links

-- the wanted sides were polled with the timeout that is called for, and some of what they want was marked; links are ready only
-- where more are allowed
pub record Polls (marked : List Want) (accept : Bool) (s : State) (a : Trace) (new : State) : Type 0 where
  pub marks : AllMarked (wanted s) marked
  pub many : length marked ≡ length (wanted s)
  pub asked : accept ≡ true → can_open s ≡ true
  pub entries : a ≡ poll_events (poll_timeout s) marked (polled.Ready accept)
  pub state : new ≡ s

-- the wanted sides were named, and the poll failed
pub record PollFails (s : State) (a : Trace) (new : State) : Type 0 where
  pub named : List Want
  pub marks : AllMarked (wanted s) named
  pub many : length named ≡ length (wanted s)
  pub entries : a ≡ poll_events (poll_timeout s) named polled.Failed
  pub state : new ≡ s

-- a poll was refused: nothing was asked, or it failed
abbrev pub CutPoll : DriveFault → State → Trace → State → Type 0
CutPoll fault.Memory s a new = Nothing s a new
CutPoll fault.PollFault s a new = PollFails s a new
CutPoll fault.OpenFault s a new = ⊥
CutPoll fault.Spent s a new = ⊥

-- Accepting

abbrev pub OpensOne : State → Trace → State → Type 0
OpensOne s a new = (connected : Bool) × Opens connected s a new

-- a link was opened, or there was none
abbrev pub OpensWhere : Bool → State → Trace → State → Type 0
OpensWhere more s a new = MatchBool more (OpensOne s a new) (Nothing s a new)

-- so many links were opened
abbrev pub OpensSome : ℕ → State → Trace → State → Type 0
OpensSome zero s a new = Nothing s a new
OpensSome (suc n) s a new = Then (OpensSome n) OpensOne s a new

-- at most 64 links were opened
abbrev pub AcceptsLinks : State → Trace → State → Type 0
AcceptsLinks s a new = (n : ℕ) × (n ≤ 64) × OpensSome n s a new

-- links were opened, and one more was allowed
abbrev pub AcceptsMore : State → Trace → State → Type 0
AcceptsMore s a new = (n : ℕ) × (n < 64) × (new.plain.opened < new.settings.links) × OpensSome n s a new

abbrev pub AcceptsWhere : Bool → State → Trace → State → Type 0
AcceptsWhere ready s a new = MatchBool ready (AcceptsLinks s a new) (Nothing s a new)

-- the poll, and links where they are ready
abbrev pub PollsAndAccepts : List Want → State → Trace → State → Type 0
PollsAndAccepts marked s a new = (ready : Bool) × Then (Polls marked ready) (AcceptsWhere ready) s a new

-- the poll, of which the list has the wants that were marked
abbrev pub PollsListed : List Want → Bool → State → Trace → State → Type 0
PollsListed list accept s a new = (marked : List Want) × (list ≡ filter is_marked marked) × Polls marked accept s a new

abbrev pub PollsAndAcceptsListed : List Want → State → Trace → State → Type 0
PollsAndAcceptsListed list s a new = (ready : Bool) × Then (PollsListed list ready) (AcceptsWhere ready) s a new

-- accepting was refused behind a poll
abbrev pub CutAccepting : DriveFault → State → Trace → State → Type 0
CutAccepting fault.Memory s a new = (marked : List Want) × Then (Polls marked true) AcceptsMore s a new
CutAccepting fault.OpenFault s a new = (marked : List Want) × Then (Polls marked true) AcceptsMore s a new
CutAccepting fault.PollFault s a new = ⊥
CutAccepting fault.Spent s a new = ⊥

abbrev pub CutPolling : DriveFault → State → Trace → State → Type 0
CutPolling f s a new = CutPoll f s a new ⊎ CutAccepting f s a new
