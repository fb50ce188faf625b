-- What goes on with no entry leaves time, links, timers, and all of a side but the bad place that a filter met.
use Rattle.std.proofs.Common.{◌≡◌, inl, inr, ℕ, Bool, true, false, if◌then◌else◌, List, [], ◌∷◌, length, Option, None, refl, sym, ◌∙◌}
use Rattle.std.proofs.Common.{subst}
use Rattle.std.proofs.lemmas.List.{length-set}
use Rattle.ev_types.specs.declared.side.SideId.{SideId}
use Rattle.ev_types.specs.declared.why.Why.{Why}
use Rattle.ev_types.specs.declared.why.Why.TheVariants as why
use Rattle.ev_types.specs.Sides.{number, peer}
use Rattle.ev_types.specs.Trace.{Trace}
use Rattle.filter_model.specs.Filter.{or_else}
use Rattle.relay_model.specs.Flow.{Flow}
use Rattle.relay_model.specs.Settings.{Settings}
use Rattle.relay_model.specs.Due.{Due}
use Rattle.relay_model.specs.Plain.{Plain, PlainSide, side_at, flow_at, change_flow}
use Rattle.relay_model.specs.Past.{Past, past}
use Rattle.relay_model.specs.Rooms.{read_mark}
use Rattle.relay_model.specs.Pass.{with_held, with_used, with_read_done, with_moved, with_turned, with_write_done}
use Rattle.relay_model.specs.Reasons.{raise, raise_read}
use Rattle.relay_model.specs.Round.{Part, meets, filter_in, filter_out, hold_of, read_run, write_run, do_part}
use Rattle.relay_model.specs.Serve.{after_got}
use Rattle.relay_model.specs.Stages.{Stage, State}
use Rattle.relay_model.specs.Turn.{Quietly}
use Rattle.relay_model.proofs.PlainLemmas.{seen-change}

-- a side but for its bad place
abbrev pub but_bad : PlainSide → PlainSide
but_bad x = record x { bad = None }

pub record KeptQuietly (old new : Plain) : Type 0 where
  pub time : new.time ≡ old.time
  pub turn : new.turn ≡ old.turn
  pub opened : new.opened ≡ old.opened
  pub timers : new.timers ≡ old.timers
  pub sides : (a : SideId) → but_bad (side_at new a) ≡ but_bad (side_at old a)
  pub side_count : length new.sides ≡ length old.sides
  pub flow_count : length new.flows ≡ length old.flows

pub kept-same : (s : Plain) → KeptQuietly s s
kept-same s = record { time = refl; turn = refl; opened = refl; timers = refl; sides = λ a. refl; side_count = refl; flow_count = refl }

pub kept-is : (old new : Plain) → new ≡ old → KeptQuietly old new
kept-is old new e = subst (λ z. KeptQuietly old z) (sym e) (kept-same old)

pub kept-then : (a b c : Plain) → KeptQuietly a b → KeptQuietly b c → KeptQuietly a c
kept-then a b c x y = record {
  time = y.time ∙ x.time;
  turn = y.turn ∙ x.turn;
  opened = y.opened ∙ x.opened;
  timers = y.timers ∙ x.timers;
  sides = λ e. y.sides e ∙ x.sides e;
  side_count = y.side_count ∙ x.side_count;
  flow_count = y.flow_count ∙ x.flow_count;
}

pub kept-due : (s : Plain) (due : List Due) → KeptQuietly s (record s { due = due })
kept-due s due = record { time = refl; turn = refl; opened = refl; timers = refl; sides = λ a. refl; side_count = refl; flow_count = refl }

pub kept-raise : (g : Settings) (e : SideId) (y : Why) (s : Plain) → KeptQuietly s (raise g e y s)
kept-raise g e y s = if_so _
  where
    if_so : (b : Bool) → KeptQuietly s (if b then record s { due = Rattle.relay_model.specs.Due.with_reason e y s.due } else s)
    if_so true = kept-due s _
    if_so false = kept-same s

pub kept-raise_read : (g : Settings) (p : Past) (e : SideId) (s : Plain) → KeptQuietly s (raise_read g p e s)
kept-raise_read g p e s = if_so _
  where
    if_so : (b : Bool) → KeptQuietly s (if b then raise g e why.Read s else s)
    if_so true = kept-raise g e why.Read s
    if_so false = kept-same s

pub kept-flow : (e : SideId) (f : Flow → Flow) (s : Plain) → KeptQuietly s (change_flow e f s)
kept-flow e f s = record {
  time = refl;
  turn = refl;
  opened = refl;
  timers = refl;
  sides = λ a. refl;
  side_count = refl;
  flow_count
      = length-set s.flows (number e) (f (flow_at s e));
}

pub kept-meets : (e : SideId) (place : Option ℕ) (s : Plain) → KeptQuietly s (meets e place s)
kept-meets e place s = record {
  time = refl;
  turn = refl;
  opened = refl;
  timers = refl;
  sides = λ a. seen-change but_bad e a (λ x. record x { bad = or_else x.bad place }) s (λ x. refl);
  side_count = length-set s.sides (number e) _;
  flow_count = refl;
}

module _ (g : Settings) (p : Past) (e : SideId) where
  pub kept-read_run : (ended : Bool) (s : Plain) → KeptQuietly s (read_run g p e ended s)
  kept-read_run ended s = kept-then s _ _ (kept-flow e (with_used (filter_in g p e s) (p.read e) (read_mark s e)) s) (kept-meets e _ _)

  pub kept-write_run : (may_end : Bool) (s : Plain) → KeptQuietly s (write_run g p e may_end s)
  kept-write_run may_end s = kept-then s _ _
      (kept-flow e (with_turned (filter_in g p e s) (filter_out g p e s) (p.read e) (hold_of g p e s)) s) (kept-meets (peer e) _ _)

  pub kept-part : (x : Part) (s : Plain) → KeptQuietly s (do_part g p e x s)
  kept-part Part.Hold s = kept-flow e (with_held (filter_in g p e s) (filter_out g p e s) (p.read e) (hold_of g p e s)) s
  kept-part Part.Read s = kept-then s _ _ (kept-read_run (side_at s e).ended s) (kept-flow e
      (with_read_done (filter_in g p e s) (p.read e) (read_mark s e) (side_at s e).ended) (read_run g p e (side_at s e).ended s))
  kept-part Part.Move s = kept-flow e (with_moved (filter_in g p e s) (p.read e)) s
  kept-part Part.Write s = kept-then s _ _ (kept-write_run true s)
      (kept-flow e (with_write_done (filter_in g p e s) (filter_out g p e s) (p.read e) (hold_of g p e s)) (write_run g p e true s))
  kept-part Part.Drain s = kept-write_run false s

  pub kept-after_got : (s : Plain) → KeptQuietly s (after_got g p e s)
  kept-after_got s = kept-then s _ _ (kept-read_run false s) (kept-raise_read g p e _)

-- the plain state of a state that is known
pub kept-at : (s after : Plain) (x : Stage) (new : State) → new ≡ record { stage = x; plain = after } → KeptQuietly s after →
    KeptQuietly s new.plain
kept-at s after x new e k = subst (λ z. KeptQuietly s z.plain) (sym e) k

pub kept-quietly : (g : Settings) (t : Trace) (x : Stage) (s : Plain) (new : State) → Quietly g t x s new → KeptQuietly s new.plain
kept-quietly g t (Stage.Wanting []) s new h = kept-at s s _ new h (kept-same s)
kept-quietly g t (Stage.Marking (w ∷ ws) marks) s new h = kept-at s s _ new h (kept-same s)
kept-quietly g t (Stage.Marking [] marks) s new h = kept-at s s _ new h (kept-same s)
kept-quietly g t (Stage.Accepting n marks) s new h = kept-at s s _ new h (kept-same s)
kept-quietly g t (Stage.Serving (m ∷ ms)) s new h = kept-at s s _ new h.1 (kept-same s)
kept-quietly g t (Stage.Filtering e ms) s new h = kept-at s _ _ new h (kept-after_got g (past g t) e s)
kept-quietly g t (Stage.Serving []) s new h = kept-at s _ _ new h (kept-due s [])
kept-quietly g t (Stage.Firing x rs) s new h = kept-at s s _ new h (kept-same s)
kept-quietly g t (Stage.Dispatching []) s new h = kept-at s s _ new h (kept-same s)
kept-quietly g t (Stage.Passing [] (e ∷ es)) s new h = elim h [
  | inl passed ↦ kept-at s s _ new passed.1 (kept-same s)
  | inr begins
      ↦ kept-at s s _ new begins (kept-same s)
]
kept-quietly g t (Stage.Passing (x ∷ xs) (e ∷ es)) s new h = kept-at s _ _ new h (kept-part g (past g t) e x s)
kept-quietly g t (Stage.Passing [] []) s new h = kept-at s s _ new h (kept-same s)
kept-quietly g t (Stage.Closing (c ∷ cs)) s new h = kept-at s s _ new h.1 (kept-same s)
kept-quietly g t (Stage.Closing []) s new h = kept-at s s _ new h (kept-same s)
kept-quietly g t _ s new h = absurd h
