-- Hooks: what a turn fires, and what an ask changes.
use Rattle.std.specs.Prelude.{◌≡◌, ◌⊎◌, ℕ, ◌≤◌, zero, suc, Bool, true, false, List, [], ◌∷◌, ◌++◌, length, Option, Some, None, min}
use Rattle.std.specs.Prelude.{slice_set}
use Rattle.std.specs.List.{list_any}
use Rattle.token_bucket.specs.declared.limit.Dir.TheVariants as dir
use Rattle.token_bucket.specs.declared.limit.LimitCfg.{LimitCfg}
use Rattle.ev_types.specs.declared.side.SideId.{SideId}
use Rattle.ev_types.specs.declared.act.Act.{Act}
use Rattle.ev_types.specs.declared.act.Act.TheVariants as act
use Rattle.ev_types.specs.declared.answer.AskAnswer.{AskAnswer}
use Rattle.ev_types.specs.declared.answer.AskAnswer.TheVariants as ask
use Rattle.ev_types.specs.declared.entry.Entry.TheVariants as entry
use Rattle.ev_types.specs.declared.why.Cause.TheVariants as cause
use Rattle.ev_types.specs.declared.why.Why.{Why}
use Rattle.ev_types.specs.AskNumbers.{IsAct}
use Rattle.ev_types.specs.Trace.{Trace}
use Rattle.ev_types.specs.Sides.{number}
use Rattle.rate_group.specs.Steps.{joined, left}
use Rattle.relay_model.specs.Due.{Reason, batch}
use Rattle.relay_model.specs.Plain.{Standing, first_limit, side_at, change_side, is_live}
use Rattle.relay_model.specs.Past.{Past}
use Rattle.relay_model.specs.Asks.{done, refusal, may_lack, most_asks}
use Rattle.relay_model.specs.Close.{freed_entry}
use Rattle.relay_state.specs.State.{State, with_plain, gauge_at}
use Rattle.relay_state.specs.Running.{held_at, gauge_set}
use Rattle.relay_state.specs.Serving.{raise_read, raise_write}
use Rattle.relay_state.specs.Closing.{freed}

-- all pending entries become what is to be fired
abbrev pub dispatching : State → State
dispatching s = record (with_plain (record (s.plain) { due = [] }) s) { batch = batch s.plain.due }

-- this is what is left to fire
abbrev pub left_to_fire : List Reason → State → State
left_to_fire rs s = record s { batch = rs }

-- no past: what most asks look at
abbrev pub no_past : Past
no_past = record { read = λ e. []; turns = λ e d. []; group_turns = λ n d. [] }

-- The limit that stands once this one is asked for. Another one takes what the bucket holds with it, cut to the new burst.
abbrev pub limit_now : State → SideId → Option Standing → Option LimitCfg → Option Standing
limit_now s e was None = None
limit_now s e None (Some cfg) = Some (first_limit s.plain.time s.plain.turn cfg)
limit_now s e (Some was) (Some cfg) = Some (record {
  cfg = cfg;
  turn = s.plain.turn;
  time = s.plain.time;
  read_level = min (held_at was.cfg (gauge_at s e) dir.Read s.plain.time) cfg.read_burst;
  write_level = min (held_at was.cfg (gauge_at s e) dir.Write s.plain.time) cfg.write_burst;
})

-- What an ask that is answered Ok changes. A trigger looks at the lengths of the buffers.
abbrev pub asked : Act → State → State
asked (act.Free e) s = freed e s
asked (act.Trigger e dir.Read) s = raise_read e s
asked (act.Trigger e dir.Write) s = raise_write e s
asked (act.Rate e cfg) s =
    record (with_plain (change_side e (λ x. record x { limit = limit_now s e x.limit cfg }) s.plain) s) {
      gauges = slice_set s.gauges (number e) (gauge_set (side_at s.plain e).limit cfg s.plain.time (gauge_at s e));
    }
asked (act.Join e n) s =
    record (with_plain (change_side e (λ x. record x { group = Some n }) s.plain) s) { groups = joined n (number e) s.groups }
asked (act.Leave e) s =
    record (with_plain (change_side e (λ x. record x { group = None }) s.plain) s) { groups = left (number e) s.groups }
asked a s = with_plain (done s.settings no_past s.plain a) s

-- and what stands in the trace of it, the hook of this side being the one that asks
abbrev pub ask_events : SideId → State → Act → AskAnswer → Trace
ask_events me s (act.Free e) ask.Ok = (entry.Asked me (act.Free e) ask.Ok, []) ∷ (freed_entry s.plain e cause.Hook, []) ∷ []
ask_events me s a answer = (entry.Asked me a answer, []) ∷ []

-- what an ask with this answer leaves
abbrev pub after_answer : Act → AskAnswer → State → State
after_answer a ask.Ok s = asked a s
after_answer a _ s = s

-- One ask by the first refusal whose condition holds; where none holds it is done, or there was no memory for it.
abbrev pub Answered : Option AskAnswer → State → Act → AskAnswer → State → Type 0
Answered (Some refused) s a answer new = (answer ≡ refused) × (new ≡ s)
Answered None s a answer new = ((answer ≡ ask.Ok) × (new ≡ asked a s)) ⊎ ((answer ≡ ask.Memory) × (may_lack a ≡ true) × (new ≡ s))

-- one ask of the hook of a side, with its entries; its numbers fit their types
pub record AsksOne (me : SideId) (a : Act) (answer : AskAnswer) (s : State) (added : Trace) (new : State) : Type 0 where
  pub fits : IsAct a
  pub answered : Answered (refusal s.settings s.plain a) s a answer new
  pub entries : added ≡ ask_events me s a answer

-- asks in a row
abbrev pub AsksAll : SideId → List (Act × AskAnswer) → State → Trace → State → Type 0
AsksAll me [] s added new = (added ≡ []) × (new ≡ s)
AsksAll me (x ∷ xs) s added new =
    (mid : State) × (front back : Trace) × AsksOne me x.0 x.1 s front mid × AsksAll me xs mid back new × (added ≡ front ++ back)

-- does one of them stop the run
abbrev pub stops : Act × AskAnswer → Bool
stops (act.Stop, ask.Ok) = true
stops _ = false

-- A reason was fired at a live side, the first of what was to be fired, and its hook made so many asks.
pub record Fires (stopped : Bool) (s : State) (added : Trace) (new : State) : Type 0 where
  pub side : SideId
  pub reason : Why
  pub rest : List Reason
  pub first : s.batch ≡ (side, reason) ∷ rest
  pub live : is_live s.plain side ≡ true
  pub asks : List (Act × AskAnswer)
  pub few : length asks ≤ most_asks
  pub behind : Trace
  pub does : AsksAll side asks (left_to_fire rest s) behind new
  pub entries : added ≡ (entry.Fired side reason, []) ∷ behind
  pub stops : stopped ≡ list_any stops asks

-- So many reasons were fired in a row, and none of them stopped the run.
abbrev pub FiresSome : ℕ → State → Trace → State → Type 0
FiresSome zero s added new = (added ≡ []) × (new ≡ s)
FiresSome (suc n) s added new =
    (mid : State) × (front back : Trace) × FiresSome n s front mid × Fires false mid back new × (added ≡ front ++ back)

-- All that was due is fired.
pub record Dispatches (s : State) (added : Trace) (new : State) : Type 0 where
  pub many : ℕ
  pub fires : FiresSome many (dispatching s) added new
  pub over : new.batch ≡ []

-- Some of it was fired, and then a hook of this link stopped the run.
pub record StopsAt (link : ℕ) (s : State) (added : Trace) (new : State) : Type 0 where
  pub many : ℕ
  pub middle : State
  pub front : Trace
  pub back : Trace
  pub fires : FiresSome many (dispatching s) front middle
  pub last : Fires true middle back new
  pub of_link : last.side.link ≡ link
  pub joined : added ≡ front ++ back
