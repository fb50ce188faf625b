-- A lane that fits goes on fitting where nothing that it looks at changed.
use Rattle.std.proofs.Common.{◌≡◌, ◌≢◌, ℕ, ◌<◌, Bool, true, List, length, sym, subst}
use Rattle.std.specs.Prelude.{is_some}
use Rattle.std.proofs.lemmas.List.{get_or-set_same, get_or-set_other, set-get_or}
use Rattle.ev_types.specs.declared.side.SideId.{SideId}
use Rattle.ev_types.specs.Sides.{number, peer}
use Rattle.ev_types.specs.Trace.{Trace}
use Rattle.relay_model.specs.Trace.{bytes_read, has_ended}
use Rattle.relay_model.specs.Settings.{Settings}
use Rattle.relay_model.specs.Flow.{Flow, middle, outcome}
use Rattle.relay_model.specs.Conserved as direction
use Rattle.relay_model.specs.Plain.{Plain, PlainSide, side_at, flow_at, put_side, put_flow}
use Rattle.relay_model.specs.Rooms.{read_kind, write_kind, read_filter, write_filter}
use Rattle.relay_state.specs.State.{State, Lane, lane_at, with_lane}
use Rattle.relay_steps.specs.Meaning.{LaneFits}
use Rattle.relay_steps.proofs.EndLemmas.{number-apart}

-- All that a lane looks at: what was read, whether that has ended, who lives, how far the direction has come, and which sides are marked.
pub record Sight : Type 0 where
  pub read : List ℕ
  pub ended : Bool
  pub from_live : Bool
  pub to_live : Bool
  pub flow : Flow
  pub from_marked : Bool
  pub to_marked : Bool

abbrev pub sight : Trace → Plain → SideId → Sight
sight t p e = record {
  read = bytes_read e t;
  ended = has_ended e t;
  from_live = (side_at p e).live;
  to_live = (side_at p (peer e)).live;
  flow = flow_at p e;
  from_marked = is_some (side_at p e).bad;
  to_marked = is_some (side_at p (peer e)).bad;
}

-- that a lane fits, by what it looks at
pub record FitsSight (g : Settings) (p : Plain) (e : SideId) (z : Sight) (l : Lane) : Type 0 where
  pub holds : direction.Holds (read_kind g e.side) (write_kind g (peer e).side) (read_filter g p e) (write_filter g p (peer e))
      z.read z.ended z.from_live z.to_live z.flow l.buffers l.reader l.writer
  pub read : l.read ≡ length z.read
  pub read_made : l.read_made ≡ length (middle (read_filter g p e) z.read z.flow)
  pub write_made : l.write_made ≡ length (outcome (read_filter g p e) (write_filter g p (peer e)) z.read z.flow)
  pub reader_marks : is_some l.reader.stopped ≡ true → z.from_marked ≡ true
  pub writer_marks : is_some l.writer.stopped ≡ true → z.to_marked ≡ true

pub seen-fits : (g : Settings) (t : Trace) (p : Plain) (e : SideId) (l : Lane) → LaneFits g t p e l → FitsSight g p e (sight t p e) l
seen-fits g t p e l k = record {
  holds = k.holds;
  read = k.read;
  read_made = k.read_made;
  write_made = k.write_made;
  reader_marks = k.reader_marks;
  writer_marks = k.writer_marks;
}

pub fits-seen : (g : Settings) (t : Trace) (p q : Plain) (e : SideId) (l : Lane) → FitsSight g q e (sight t p e) l → LaneFits g t p e l
fits-seen g t p q e l k = record {
  holds = k.holds;
  read = k.read;
  read_made = k.read_made;
  write_made = k.write_made;
  reader_marks = k.reader_marks;
  writer_marks = k.writer_marks;
}

-- where all that it looks at is as before
pub fits-same : (g : Settings) (t u : Trace) (p q : Plain) (e : SideId) (l m : Lane) → sight u q e ≡ sight t p e → m ≡ l →
    LaneFits g t p e l → LaneFits g u q e m
fits-same g t u p q e l m z same k =
    fits-seen g u q p e m (subst (λ y. FitsSight g p e y m) (sym z) (subst (FitsSight g p e (sight t p e)) (sym same)
    (seen-fits g t p e l k)))

-- One lane, one side and one direction are replaced, and each other stays.

pub lane-set : (s : State) (e : SideId) (l : Lane) → number e < length s.lanes → lane_at (with_lane e l s) e ≡ l
lane-set s e l h = get_or-set_same s.lanes (number e) l _ h

pub lane-set_other : (s : State) (e a : SideId) (l : Lane) → a ≢ e → lane_at (with_lane e l s) a ≡ lane_at s a
lane-set_other s e a l h = get_or-set_other s.lanes (number e) (number a) l _ (number-apart a e h)

pub side-put : (p : Plain) (e : SideId) (x : PlainSide) → number e < length p.sides → side_at (put_side e x p) e ≡ x
side-put p e x h = get_or-set_same p.sides (number e) x _ h

pub side-put_other : (p : Plain) (e a : SideId) (x : PlainSide) → a ≢ e → side_at (put_side e x p) a ≡ side_at p a
side-put_other p e a x h = get_or-set_other p.sides (number e) (number a) x _ (number-apart a e h)

pub flow-put : (p : Plain) (e : SideId) (f : Flow) → number e < length p.flows → flow_at (put_flow e f p) e ≡ f
flow-put p e f h = get_or-set_same p.flows (number e) f _ h

pub flow-put_other : (p : Plain) (e a : SideId) (f : Flow) → a ≢ e → flow_at (put_flow e f p) a ≡ flow_at p a
flow-put_other p e a f h = get_or-set_other p.flows (number e) (number a) f _ (number-apart a e h)

pub put_side-same : (e : SideId) (p : Plain) → put_side e (side_at p e) p ≡ p
put_side-same e p = let q = set-get_or p.sides (number e) _ in λ i. record p { sides = q i }

pub put_flow-same : (e : SideId) (p : Plain) → put_flow e (flow_at p e) p ≡ p
put_flow-same e p = let q = set-get_or p.flows (number e) _ in λ i. record p { flows = q i }
