-- What the plain state that a trace leads to and the trace tell of each other.
use Rattle.std.specs.Prelude.{◌≡◌, ℕ, ◌<◌, ◌≤◌, Bool, false, ◌||◌, not, List, ◌∷◌, ◌++◌, count_by, All}
use Rattle.std.specs.List.{list_any}
use Rattle.ev_types.specs.declared.side.SideId.{SideId}
use Rattle.ev_types.specs.declared.answer.ConnAnswer.TheVariants as conn
use Rattle.ev_types.specs.declared.answer.ReadAnswer.TheVariants as read
use Rattle.ev_types.specs.declared.answer.WriteAnswer.TheVariants as write
use Rattle.ev_types.specs.declared.entry.Entry.TheVariants as entry
use Rattle.ev_types.specs.Sides.{peer, same_end}
use Rattle.ev_types.specs.Trace.{Event, Trace}
use Rattle.relay_model.specs.Trace.{has_ended, moved_at_free, given_at_free, is_write_closed}
use Rattle.relay_model.specs.Settings.{Settings}
use Rattle.relay_model.specs.Plain.{Plain, side_at, flow_at, is_live}
use Rattle.relay_model.specs.Stages.{Stage, Freeing}
use Rattle.ev_types.specs.Times.{latest}
use Rattle.relay_model.specs.Turn.{Reaches}
use Rattle.relay_model.specs.RatesKept.{last_time}
use Rattle.relay_model.specs.Totals.{is_opened}
use Rattle.relay_model.specs.TurnLaws.{ShapeIsTold}

-- an event of a side: asked of its end or by its hook, or done to it
abbrev pub names : SideId → Event → Bool
names e (entry.Want side r w, bytes) = same_end side e
names e (entry.Ready side r w, bytes) = same_end side e
names e (entry.Conn side answer, bytes) = same_end side e
names e (entry.Read side room answer, bytes) = same_end side e
names e (entry.Write side offered answer, bytes) = same_end side e
names e (entry.Fired side y, bytes) = same_end side e
names e (entry.Asked side a answer, bytes) = same_end side e
names e (entry.Freed side cause moved given, bytes) = same_end side e
names e (entry.CloseWrite side, bytes) = same_end side e
names e (entry.Close side, bytes) = same_end side e
names e _ = false

-- an event in which a side was freed, and whether one was
abbrev pub freed_by : SideId → Event → Bool
freed_by e (entry.Freed side cause moved given, bytes) = same_end side e
freed_by e _ = false

abbrev pub is_freed : SideId → Trace → Bool
is_freed e t = list_any (freed_by e) t

-- an event in which an end was closed, and whether it was
abbrev pub end_closed_by : SideId → Event → Bool
end_closed_by e (entry.Close side, bytes) = same_end side e
end_closed_by e _ = false

abbrev pub is_end_closed : SideId → Trace → Bool
is_end_closed e t = list_any (end_closed_by e) t

-- an event in which an end failed
abbrev pub failed_by : SideId → Event → Bool
failed_by e (entry.Conn side conn.Failed, bytes) = same_end side e
failed_by e (entry.Read side room read.Failed, bytes) = same_end side e
failed_by e (entry.Write side offered write.Failed, bytes) = same_end side e
failed_by e _ = false

abbrev pub has_failed : SideId → Trace → Bool
has_failed e t = list_any (failed_by e) t

-- a hook freed this side just now, which is yet to be recorded
abbrev pub is_freeing : Stage → SideId → Bool
is_freeing (Freeing gone x rs) e = same_end gone e
is_freeing _ e = false

-- The counts of a state are those of the trace and within their bounds; no event names a link that was not opened.
pub record CountsTold (g : Settings) (t : Trace) (s : Plain) : Type 0 where
  pub shape : ShapeIsTold t s
  pub latest : s.time ≤ latest
  pub links : s.opened ≤ g.links
  pub named : (e : SideId) → s.opened ≤ e.link → list_any (names e) t ≡ false

-- So is what it says of a side of an opened link. The side lives until it is freed.
pub record SideTold (t : Trace) (x : Stage) (s : Plain) (e : SideId) : Type 0 where
  pub live : is_live s e ≡ not (is_freed e t || is_freeing x e)
  pub ended : (side_at s e).ended ≡ has_ended e t
  pub failed : (side_at s e).failed ≡ has_failed e t
  pub write_ended : (side_at s e).write_ended ≡ is_write_closed e t
  pub closed : (side_at s e).closed ≡ is_end_closed e t

-- Whatever state a trace leads to, both tell the same.
abbrev pub StateIsTold : Type 0
StateIsTold = (g : Settings) (t : Trace) (x : Stage) (s : Plain) → Reaches g t (record { stage = x; plain = s }) →
    CountsTold g t s × ((e : SideId) → e.link < s.opened → SideTold t x s e)

-- Time doesn't fall, and no turn is later than the latest time.
abbrev pub TimeRises : Type 0
TimeRises = (g : Settings) (t before after : Trace) (s : Plain) (x : Stage) (ms : ℕ) (bytes : List ℕ) → Reaches g t (record { stage = x; plain = s }) →
    t ≡ before ++ (entry.Turn ms, bytes) ∷ after → (last_time 0 before ≤ ms) × (ms ≤ latest)

-- Links are opened in the order of their numbers.
abbrev pub LinksInOrder : Type 0
LinksInOrder = (g : Settings) (t before after : Trace) (s : Plain) (x : Stage) (link : ℕ) (connected : Bool) (bytes : List ℕ) →
    Reaches g t (record { stage = x; plain = s }) → t ≡ before ++ (entry.Opened link connected, bytes) ∷ after → link ≡ count_by is_opened before

-- Each free of a side told how many bytes were moved from it, and how many its end was given; neither number changes later.
pub record FreesTell (t : Trace) (s : Plain) (e : SideId) : Type 0 where
  pub moved : All (λ told. told ≡ (flow_at s e).moved) (moved_at_free e t)
  pub given : All (λ told. told ≡ (flow_at s (peer e)).given) (given_at_free e t)

abbrev pub FreesTellTotals : Type 0
FreesTellTotals = (g : Settings) (t : Trace) (x : Stage) (s : Plain) (e : SideId) → Reaches g t (record { stage = x; plain = s }) → FreesTell t s e
