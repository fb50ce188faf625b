-- What each entry does to the shape of the plain state, and the shape that a trace tells.
use Rattle.std.proofs.Common.{◌≡◌, ℕ, ◌+◌, ◌*◌, Bool, true, false, if◌then◌else◌, List, [], ◌∷◌, ◌++◌, length, refl, sym, ◌∙◌, subst, arith}
use Rattle.std.proofs.lemmas.List.{length-append}
use Rattle.ev_types.specs.declared.why.Cause.TheVariants as cause
use Rattle.ev_types.specs.declared.entry.Entry.{Entry}
use Rattle.ev_types.specs.declared.entry.Entry.TheVariants as entry
use Rattle.ev_types.specs.Trace.{Event, Trace}
use Rattle.relay_model.specs.Settings.{Settings}
use Rattle.relay_model.specs.Plain.{Plain, with_link}
use Rattle.relay_model.specs.Past.{past}
use Rattle.relay_model.specs.Asks.{refusal}
use Rattle.relay_model.specs.Close.{freed_entry}
use Rattle.relay_model.specs.Stages.{Stage, State}
use Rattle.relay_model.specs.Turn.{Puts, turned_to}
use Rattle.relay_model.specs.RatesKept.{is_turn, time_by}
use Rattle.relay_model.specs.Totals.{is_opened}
use Rattle.relay_model.proofs.ClosingEntries.{closing-closes, closes-still, closes-opens_none, still-no_turn, still-no_time}
use Rattle.relay_model.proofs.Frames.{SameShape, shape-same, shape-answered, shape-closed, frame-time_passed, frame-conn, frame-read}
use Rattle.relay_model.proofs.Frames.{frame-write}

-- one more where the test holds
abbrev pub one_where : Bool → ℕ
one_where holds = if holds then 1 else 0

-- what an entry makes of the shape: time and turn are those of a turn that begins, and a link that opens has two sides
pub record ShapeBy (x : Event) (old new : Plain) : Type 0 where
  pub time : new.time ≡ time_by old.time x
  pub turn : new.turn ≡ old.turn + one_where (is_turn x)
  pub opened : new.opened ≡ old.opened + one_where (is_opened x)
  pub sides : length new.sides ≡ length old.sides + 2 * one_where (is_opened x)
  pub flows : length new.flows ≡ length old.flows + 2 * one_where (is_opened x)

pub one_where-not : (holds : Bool) → holds ≡ false → one_where holds ≡ 0
one_where-not true h = cc
one_where-not false h = refl

pub shape_by-other : (x : Event) (old new : Plain) → is_turn x ≡ false → time_by old.time x ≡ old.time → is_opened x ≡ false →
    SameShape old new → ShapeBy x old new
shape_by-other x old new no_turn no_time no_link same =
    let a = one_where-not (is_turn x) no_turn in
    let b = one_where-not (is_opened x) no_link in
    record {
      time = same.time ∙ sym no_time;
      turn = same.turn ∙ omega (arith, a);
      opened = same.opened ∙ omega (arith, b);
      sides = same.sides ∙ omega (arith, b);
      flows = same.flows ∙ omega (arith, b);
    }

pub shape_by-turn : (ms : ℕ) (bytes : List ℕ) (old new : Plain) → SameShape (turned_to ms old) new → ShapeBy (entry.Turn ms, bytes) old new
shape_by-turn ms bytes old new same = record {
  time = same.time;
  turn = same.turn;
  opened = same.opened ∙ omega arith;
  sides = same.sides ∙ omega arith;
  flows = same.flows ∙ omega arith;
}

pub shape_by-link : (g : Settings) (link : ℕ) (connected : Bool) (bytes : List ℕ) (s : Plain) → ShapeBy
    (entry.Opened link connected, bytes) s (with_link g connected s)
shape_by-link g link connected bytes s = record {
  time = refl;
  turn = omega arith;
  opened = refl;
  sides = length-append s.sides _;
  flows = length-append s.flows _;
}

pub shape-at : (s after : Plain) (x : Stage) (new : State) → new ≡ record { stage = x; plain = after } → SameShape s after →
    SameShape s new.plain
shape-at s after x new e k = subst (λ z. SameShape s z.plain) (sym e) k

pub shape-puts : (g : Settings) (t : Trace) (x : Stage) (s : Plain) (e : Entry) (bytes : List ℕ) (new : State) → Puts g t x s e
    bytes new → ShapeBy (e, bytes) s new.plain
shape-puts g t Stage.Between s (entry.Turn ms) bytes new h =
    subst (λ z. ShapeBy (entry.Turn ms, bytes) s z.plain) (sym h.3)
    (shape_by-turn ms bytes s _ (frame-time_passed g (past g (t ++ (entry.Turn ms, []) ∷ [])) (turned_to ms s)).shape)
shape-puts g t Stage.Polling s (entry.Poll timeout) bytes new h = shape_by-other (entry.Poll timeout, bytes) s new.plain refl refl
    refl (shape-at s s _ new h.2 (shape-same s))
shape-puts g t (Stage.Wanting (w ∷ ws)) s (entry.Want side r w') bytes new h = shape_by-other (entry.Want side r w', bytes) s
    new.plain refl refl refl (shape-at s s _ new h.2 (shape-same s))
shape-puts g t (Stage.Wanting []) s entry.PollFailed bytes new h = shape_by-other (entry.PollFailed, bytes) s new.plain refl refl
    refl (shape-at s s _ new h.1 (shape-same s))
shape-puts g t (Stage.Marking (w ∷ ws) marks) s (entry.Ready side r w') bytes new h = shape_by-other (entry.Ready side r w', bytes)
    s new.plain refl refl refl (shape-at s s _ new h.3 (shape-same s))
shape-puts g t (Stage.Accepting n marks) s (entry.Opened link connected) bytes new h =
    subst (λ z. ShapeBy (entry.Opened link connected, bytes) s z.plain) (sym h.4) (shape_by-link g link connected bytes s)
shape-puts g t (Stage.Serving (m ∷ ms)) s (entry.Conn side answer) bytes new h =
    shape_by-other (entry.Conn side answer, bytes) s new.plain refl refl refl (shape-at s _ _ new h.3 (frame-conn g side answer s).shape)
shape-puts g t (Stage.Serving (m ∷ ms)) s (entry.Read side room answer) bytes new h =
    shape_by-other (entry.Read side room answer, bytes) s new.plain refl refl refl (shape-at s _ _ new h.3
    (frame-read g side answer s).shape)
shape-puts g t (Stage.Serving (m ∷ ms)) s (entry.Write side offered answer) bytes new h =
    shape_by-other (entry.Write side offered answer, bytes) s new.plain refl refl refl (shape-at s _ _ new h.3
    (frame-write g (past g t) side answer s).shape)
shape-puts g t (Stage.Dispatching (r ∷ rs)) s (entry.Fired side y) bytes new h = shape_by-other (entry.Fired side y, bytes) s
    new.plain refl refl refl (shape-at s s _ new h.3 (shape-same s))
shape-puts g t (Stage.Firing x rs) s (entry.Asked side a answer) bytes new h =
    shape_by-other (entry.Asked side a answer, bytes) s new.plain refl refl refl (shape-at s h.3 _ new h.5
    (shape-answered (refusal g s a) g (past g t) s a answer h.3 h.4))
shape-puts g t (Stage.Freeing gone x rs) s e bytes new h =
    subst (λ z. ShapeBy (z, bytes) s new.plain) (sym h.0)
    (shape_by-other (freed_entry s gone cause.Hook, bytes) s new.plain refl refl refl (shape-at s s _ new h.2 (shape-same s)))
shape-puts g t (Stage.Closing (c ∷ cs)) s e bytes new h =
    let is = closing-closes g (past g t) s c e h.0 in
    let still = closes-still e bytes is in
    shape_by-other (e, bytes) s new.plain (still-no_turn (e, bytes) still) (still-no_time (e, bytes) s.time still)
    (closes-opens_none e bytes is)
    (shape-at s _ _ new h.2 (shape-closed c s))
shape-puts g t _ s e bytes new h = absurd h
