-- The traces for which a script port vouches: every answer in them is the script's, and the port stands where they end.
use Rattle.std.specs.Prelude.{◌≡◌, ◌⊎◌, ℕ, zero, suc, ◌+◌, ◌-◌, ◌*◌, ◌^◌, ◌<◌, ◌≤◌, min, ⊤, Bool, true, false, ◌&&◌, ◌||◌, not}
use Rattle.std.specs.Prelude.{if◌then◌else◌, List, [], ◌∷◌, ◌++◌, length, drop, sum_by, Option, Some, None, slice_index_or}
use Rattle.std.specs.List.{flat_map, list_any}
use Rattle.ev_types.specs.declared.side.Side.{Side}
use Rattle.ev_types.specs.declared.side.Side.TheVariants.{In, Out}
use Rattle.ev_types.specs.declared.side.SideId.{SideId}
use Rattle.ev_types.specs.Trace.{Trace}
use Rattle.ev_types.specs.declared.turn_line.TurnLine.{TurnLine}
use Rattle.ev_types.specs.ScriptTurn.{ScriptTurn, lines_of}
use Rattle.relay_model.specs.Trace.{bytes_read, bytes_given}
use Rattle.relay_model.specs.Totals.{opened, is_made_connected, is_connected}
use Rattle.relay_model.specs.Lines.{links_by, decides, brings, ends, fails_reads, allows, allows_all, fails_writes}
use Rattle.relay_model.specs.Scripted.{undecided_at, first_or, reading, begun, lines, lines_now, is_closing, waiting}
use Rattle.relay_model.specs.Plays.{IsAnswered}
use Rattle.ev_port.specs.Calls.{IsUnheard}
use Rattle.script_port.specs.ScriptState.{EndState, LinksState, PortState}
use Rattle.script_port.specs.ScriptLinks.{end_of, links_of}
use Rattle.script_port.specs.ScriptNow.{RunsTurn}
use Rattle.script_port.specs.ScriptPlan.{ScriptPlan, IsCalledBy}

-- Where the port stands

-- What an end may take is what the lines allow less what it took. The port's sum stops at the end of a u64, which no end
-- comes to.
pub record TakesOn (more allowed taken : ℕ) : Type 0 where
  pub least : min allowed (2 ^ 64 - 1) ≤ taken + more
  pub most : taken + more ≤ allowed
  pub within : taken < 2 ^ 64 - 1

-- the same, where the lines may allow any number
abbrev pub MayTake : Option ℕ → Bool → ℕ → ℕ → Type 0
MayTake None any allowed taken = any ≡ true
MayTake (Some more) any allowed taken = (any ≡ false) × TakesOn more allowed taken

-- What is decided of an end: the first line that decides counts, and no line decides of In. In closing turns an end of which
-- nothing was decided is connected.
abbrev pub decided_at : Bool → Side → List Bool → Option Bool
decided_at closing In decisions = if closing then Some true else None
decided_at closing Out decisions = first_or (if closing then Some true else None) decisions

-- An end stands where these lines and this trace leave it, in a closing turn or before; the whole script has these links, each
-- undecided or not.
pub record EndStands (closing : Bool) (waits : List Bool) (lines : List TurnLine) (t : Trace) (e : SideId) (s : EndState) : Type 0 where
  pub came : bytes_read e t ++ s.pending ≡ flat_map (brings e) lines
  pub eof : s.eof ≡ list_any (ends e) lines
  pub read_fails : s.read_fails ≡ list_any (fails_reads e) lines
  pub taken : s.taken ≡ bytes_given e t
  pub may_take : MayTake s.may_take (closing || list_any (allows_all e) lines) (sum_by (allows e) lines) (length s.taken)
  pub write_fails : s.write_fails ≡ (not closing && list_any (fails_writes e) lines)
  pub wait : s.wait ≡ undecided_at e.side (slice_index_or waits e.link false)
  pub decision : s.decision ≡ decided_at closing e.side (flat_map (decides e.link) lines)
  pub made_connected : s.tally.made_connected ≡ is_made_connected e t
  pub connected : s.tally.connected ≡ is_connected e t

-- All links do: those that wait are the ones that the lines opened, but for those that the trace opened.
pub record LinksStand (closing : Bool) (waits : List Bool) (lines : List TurnLine) (t : Trace) (l : LinksState) : Type 0 where
  pub is_closing : l.closing ≡ closing
  pub in_order : opened t ≤ length (flat_map links_by lines)
  pub waiting : l.waiting ≡ drop (opened t) (flat_map links_by lines)
  pub ends : (e : SideId) (s : EndState) → end_of l e ≡ Some s → EndStands closing waits lines t e s
  pub beyond : (e : SideId) → end_of l e ≡ None → length waits ≤ e.link

-- the last of so many readings of the clock, or 0 before the first
abbrev pub last_reading : List ScriptTurn → ℕ → ℕ → ℕ
last_reading turns step zero = 0
last_reading turns step (suc n) = reading turns step n

-- The port does: every answer in the trace is the script's, with this step in closing turns, as many turns began as the trace has,
-- and each link of the script has its two ends.
pub record PortStands (p : PortState) (step : ℕ) (t : Trace) : Type 0 where
  pub answered : IsAnswered p.turns step t
  pub begun : p.begun ≡ begun p.turns t
  pub clock : p.clock ≡ last_reading p.turns step p.begun
  pub many : length p.links.ends ≡ 2 * length (links_of (lines_of p.turns))
  pub links : LinksStand (is_closing p.turns t) (links_of (lines_of p.turns)) (lines p.turns t) t p.links
  pub now : RunsTurn (lines_now p.turns t) p.begun p.links

-- entries that no port answers, with no bytes beside them
abbrev pub AreUnheard : Trace → Type 0
AreUnheard [] = ⊤
AreUnheard ((x, bytes) ∷ own) = IsUnheard x × (bytes ≡ []) × AreUnheard own

-- A script port vouches for a trace by the plan of its own turns, those of the script and those announced, where it stands behind
-- it, with whatever entries at its end that no port answers, if that is called for.
pub record ScriptVouches (p : PortState) (plan : ScriptPlan) (t : Trace) : Type 0 where
  pub turns : p.turns ≡ plan.turns
  pub closing : p.closing ≡ plan.closing
  pub step : (p.closing ≡ 0) ⊎ (p.step ≡ plan.step)
  pub stands : (own : Trace) → AreUnheard own → IsCalledBy plan (t ++ own) → PortStands p plan.step (t ++ own)

-- By a plan no link waits behind a trace, if that is called for: each that the lines brought so far was opened.
abbrev pub NoneWaits : ScriptPlan → Trace → Type 0
NoneWaits plan t = IsCalledBy plan t → waiting plan.turns t ≡ []

-- Closing turns

-- Whatever called-for trace a port vouched for by a plan with this step, with one closing turn more it vouches for it now.
abbrev pub VouchesOn : ℕ → PortState → PortState → Type 0
VouchesOn step old new = (plan : ScriptPlan) (t : Trace) → plan.step ≡ step → IsCalledBy plan t → ScriptVouches old plan t →
    ScriptVouches new (record plan { closing = plan.closing + 1 }) t
