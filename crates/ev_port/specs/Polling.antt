-- What a poll says: which wants it marks, and which entries of a trace it is.
use Rattle.std.specs.Prelude.{◌≡◌, ℕ, ◌<◌, length, Bool, true, false, ◌&&◌, not, if◌then◌else◌, List, [], ◌∷◌, ◌++◌, Option, slice_index_or}
use Rattle.std.specs.Prelude.{count_by}
use Rattle.ev_types.specs.declared.side.SideId.{SideId}
use Rattle.ev_types.specs.declared.entry.Entry.TheVariants as entry
use Rattle.ev_types.specs.Sides.{same_end}
use Rattle.ev_types.specs.Trace.{Trace}
use Rattle.ev_port.specs.declared.port.Polled.{Polled}
use Rattle.ev_port.specs.declared.port.Polled.TheVariants as polled
use Rattle.ev_port.specs.declared.port.Want.{Want}
use Rattle.ev_port.specs.EndSteps.{EndStep, no_step}
use Rattle.ev_types.specs.Told.{PortTold, Counts, Becomes, Stays}

abbrev pub is_failed_poll : Polled → Bool
is_failed_poll (polled.Ready accept) = false
is_failed_poll polled.Failed = true

abbrev pub opens_accepting : Polled → Bool
opens_accepting (polled.Ready accept) = accept
opens_accepting polled.Failed = false

-- a want with marks: only what was wanted is marked, and nothing else changed
pub record IsMarked (old new : Want) : Type 0 where
  pub side : new.side ≡ old.side
  pub read : new.read ≡ old.read
  pub write : new.write ≡ old.write
  pub can_read : new.can_read ≡ true → old.read ≡ true
  pub can_write : new.can_write ≡ true → old.write ≡ true

abbrev pub AllMarked : List Want → List Want → Type 0
AllMarked old new = (k : ℕ) (d : Want) → k < length old → IsMarked (slice_index_or old k d) (slice_index_or new k d)

-- one entry for each side that wants something, in their order
abbrev pub want_events : List Want → Trace
want_events [] = []
want_events (w ∷ ws) = (entry.Want w.side w.read w.write, []) ∷ want_events ws

-- one entry for each side that was marked, in their order
abbrev pub ready_events : List Want → Trace
ready_events [] = []
ready_events (w ∷ ws) = (if w.can_read then (entry.Ready w.side true w.can_write, []) ∷ [] else (if w.can_write then (entry.Ready w.side false true, []) ∷ [] else [])) ++ ready_events ws

-- the entries of a poll: the poll, its wants, and what came of them
abbrev pub poll_events : Option ℕ → List Want → Polled → Trace
poll_events timeout ws (polled.Ready accept) = (entry.Poll timeout, []) ∷ (want_events ws ++ ready_events ws)
poll_events timeout ws polled.Failed = (entry.Poll timeout, []) ∷ (want_events ws ++ (entry.PollFailed, []) ∷ [])

-- what a poll counts at an end: its wants, and its marks where the poll was ready
abbrev pub poll_step : List Want → Polled → SideId → EndStep
poll_step ws answer e =
    let marks : Bool = not (is_failed_poll answer) in
    record no_step {
      read_wants = count_by (λ w. same_end w.side e && w.read) ws;
      write_wants = count_by (λ w. same_end w.side e && w.write) ws;
      read_marks = count_by (λ w. marks && same_end w.side e && w.can_read) ws;
      write_marks = count_by (λ w. marks && same_end w.side e && w.can_write) ws;
    }

pub record PolledWith (old new : PortTold) (accept : Bool) (most : Option ℕ) (answer : Polled) : Type 0 where
  pub accept_polls : Counts old.accept_polls new.accept_polls (if accept then 1 else 0)
  pub timeout : Becomes old.timeout new.timeout most
  pub links : Stays old.links new.links
  pub accepting : Becomes old.accepting new.accepting (opens_accepting answer)
  pub readings : Stays old.readings new.readings
  pub reading : Stays old.reading new.reading
  pub started : Stays old.started new.started
