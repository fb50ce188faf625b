-- What a change of the bufferevents, and of what is kept beside them, makes of the links. A direction is told by the left part of the
-- bufferevents of the side that it begins at, by the right part of those of the other side, and by what is counted of it.
use Rattle.std.proofs.Common.{◌≡◌, ◌≢◌, ℕ, ◌*◌, ◌<◌, Bool, true, false, ◌==◌, List, Option, None, length, slice_set, refl, sym, ◌∙◌, ap}
use Rattle.std.proofs.Common.{subst}
use Rattle.std.proofs.Common.{eqb-true}
use Rattle.std.proofs.lemmas.Bool.{eqb-false}
use Rattle.std.proofs.lemmas.List.{get_or-set_same, get_or-set_other}
use Rattle.relay_model.specs.Flow.{Flow}
use Rattle.filter_model.specs.Running.{Running}
use Rattle.relay_state.specs.State.{Lane}
use Rattle.side_limit.specs.LimitValue.{LimitValue}
use Rattle.bev_world.specs.declared.slot.Slot.{Slot}
use Rattle.bev_world.specs.declared.slot.Kind.TheVariants.{Filter}
use Rattle.relay_sides.specs.Bevs.{Bevs, bevs_at, lower_of, twin}
use Rattle.relay_sides.specs.Table.{tabulate}
use Rattle.relay_sides.specs.SideView.{state_at, new_state, plain_at, flow_at, lane_at, gauge_at, gauge_by, limit_kept}
use Rattle.relay_sides.specs.SidesView.{links_of, IsCounted}
use Rattle.relay_sides.specs.declared.side.SideState.{SideState}
use Rattle.relay_sides.proofs.TableLemmas.{tabulate-same, tabulate-set}
use Rattle.relay_sides.proofs.BevsLemmas.{twin-twin}

-- what is told of the direction from a side
pub record Left : Type 0 where
  pub reader : Running
  pub raw_input : List ℕ
  pub input : List ℕ

abbrev pub left_of : Bevs → Left
left_of b = record { reader = b.upper.read_filter; raw_input = b.lower.bev.input.bytes; input = b.upper.bev.input.bytes }

-- and of the direction to it
pub record Right : Type 0 where
  pub writer : Running
  pub output : List ℕ
  pub raw_output : List ℕ

abbrev pub right_of : Bevs → Right
right_of b = record { writer = b.upper.write_filter; output = b.upper.bev.output.bytes; raw_output = b.lower.bev.output.bytes }

-- what is counted, and the limit of the side
pub record Counted : Type 0 where
  pub held : Bool
  pub read : ℕ
  pub read_made : ℕ
  pub moved : ℕ
  pub write_made : ℕ
  pub given : ℕ
  pub limit : Option LimitValue

abbrev pub counted_of : SideState → Counted
counted_of s = record {
  held = s.held;
  read = s.read;
  read_made = s.read_made;
  moved = s.moved;
  write_made = s.write_made;
  given = s.given;
  limit = limit_kept s;
}

abbrev pub flow_from : Left → Right → Counted → Flow
flow_from l r c = record {
  used = l.reader.used;
  moved = c.moved;
  turned = r.writer.used;
  given = c.given;
  read_done = l.reader.finished;
  write_done = r.writer.finished;
  held = c.held;
}

abbrev pub lane_from : Left → Right → Counted → Lane
lane_from l r c = record {
  buffers = record { raw_input = l.raw_input; input = l.input; output = r.output; raw_output = r.raw_output };
  reader = l.reader;
  writer = r.writer;
  read = c.read;
  read_made = c.read_made;
  write_made = c.write_made;
}

-- where two functions agree everywhere but at one place, and there too
pub everywhere : {A : Type 0} (f g : ℕ → A) (n : ℕ) → ((m : ℕ) → m ≢ n → g m ≡ f m) → g n ≡ f n → (m : ℕ) → g m ≡ f m
everywhere f g n off at m = go (m == n) refl
  where
    go : (b : Bool) → (m == n) ≡ b → g m ≡ f m
    go true e = let h = eqb-true m n e in ap g h ∙ at ∙ ap f (sym h)
    go false e = off m (eqb-false m n e)

module _ (sides : List SideState) (j : ℕ) (s : SideState) where
  pub set_state-other : (m : ℕ) → m ≢ j → state_at (slice_set sides j s) m ≡ state_at sides m
  set_state-other m d = get_or-set_other sides j m s (new_state true None None) d

  pub set_state-same : j < length sides → state_at (slice_set sides j s) j ≡ s
  set_state-same h = get_or-set_same sides j s (new_state true None None) h

-- the directions but one are as they were, with all limits, and so are all
pub record Apart (d : ℕ) (S S' : List Slot) (K K' : List SideState) : Type 0 where
  pub left : (m : ℕ) → m ≢ d → left_of (bevs_at S' m) ≡ left_of (bevs_at S m)
  pub right : (m : ℕ) → m ≢ twin d → right_of (bevs_at S' m) ≡ right_of (bevs_at S m)
  pub counted : (m : ℕ) → m ≢ d → counted_of (state_at K' m) ≡ counted_of (state_at K m)
  pub limits : (m : ℕ) → limit_kept (state_at K' m) ≡ limit_kept (state_at K m)

pub record Alike (S S' : List Slot) (K K' : List SideState) : Type 0 where
  pub left : (m : ℕ) → left_of (bevs_at S' m) ≡ left_of (bevs_at S m)
  pub right : (m : ℕ) → right_of (bevs_at S' m) ≡ right_of (bevs_at S m)
  pub counted : (m : ℕ) → counted_of (state_at K' m) ≡ counted_of (state_at K m)

-- the sides but one are as they were
abbrev pub SidesApart : ℕ → List Slot → List Slot → List SideState → List SideState → Type 0
SidesApart n S S' K K' = (m : ℕ) → m ≢ n → plain_at S' K' m ≡ plain_at S K m

-- as many bufferevents and sides as before, and the filters are as they were
pub record Lasting (S S' : List Slot) (K K' : List SideState) : Type 0 where
  pub slots : length S' ≡ length S
  pub sides : length K' ≡ length K
  pub kinds : (m : ℕ) → (bevs_at S' m).upper.kind ≡ (bevs_at S m).upper.kind

twin-off : (m d : ℕ) → m ≢ d → twin m ≢ twin d
twin-off m d h e = h (sym (twin-twin m) ∙ ap twin e ∙ twin-twin d)

module _ (S S' : List Slot) (K K' : List SideState) where
  module _ (d : ℕ) (a : Apart d S S' K K') where
    pub flow-apart : (m : ℕ) → m ≢ d → flow_at S' K' m ≡ flow_at S K m
    flow-apart m h = λ i. flow_from (a.left m h i) (a.right (twin m) (twin-off m d h) i) (a.counted m h i)

    pub lane-apart : (m : ℕ) → m ≢ d → lane_at S' K' m ≡ lane_at S K m
    lane-apart m h = λ i. lane_from (a.left m h i) (a.right (twin m) (twin-off m d h) i) (a.counted m h i)

    -- what is counted fits, where it does of the direction that changed
    pub counted-apart : (n : ℕ) → ((m : ℕ) → m < n → IsCounted (flow_at S K m) (lane_at S K m)) →
        IsCounted (flow_at S' K' d) (lane_at S' K' d) → (m : ℕ) → m < n → IsCounted (flow_at S' K' m) (lane_at S' K' m)
    counted-apart n all at m h = go (m == d) refl
      where
        go : (b : Bool) → (m == d) ≡ b → IsCounted (flow_at S' K' m) (lane_at S' K' m)
        go true e = subst (λ k. IsCounted (flow_at S' K' k) (lane_at S' K' k)) (sym (eqb-true m d e)) at
        go false e =
            let off = eqb-false m d e in
            subst (λ l. IsCounted (flow_at S' K' m) l) (sym (lane-apart m off))
            (subst (λ f. IsCounted f (lane_at S K m)) (sym (flow-apart m off)) (all m h))

  module _ (a : Alike S S' K K') where
    pub flow-alike : (m : ℕ) → flow_at S' K' m ≡ flow_at S K m
    flow-alike m = λ i. flow_from (a.left m i) (a.right (twin m) i) (a.counted m i)

    pub lane-alike : (m : ℕ) → lane_at S' K' m ≡ lane_at S K m
    lane-alike m = λ i. lane_from (a.left m i) (a.right (twin m) i) (a.counted m i)

    pub counted-alike : (n : ℕ) → ((m : ℕ) → m < n → IsCounted (flow_at S K m) (lane_at S K m)) →
        (m : ℕ) → m < n → IsCounted (flow_at S' K' m) (lane_at S' K' m)
    counted-alike n all m h =
        subst (λ l. IsCounted (flow_at S' K' m) l) (sym (lane-alike m))
        (subst (λ f. IsCounted f (lane_at S K m)) (sym (flow-alike m)) (all m h))

  -- the filters stand where they stood
  pub filters-last : (n : ℕ) → Lasting S S' K K' → ((m : ℕ) → m < n → (bevs_at S m).upper.kind ≡ Filter (lower_of m)) →
      (m : ℕ) → m < n → (bevs_at S' m).upper.kind ≡ Filter (lower_of m)
  filters-last n l all m h = l.kinds m ∙ all m h

  module _ (opened : ℕ) where
    -- no limit changes
    pub gauges-same : ((m : ℕ) → limit_kept (state_at K' m) ≡ limit_kept (state_at K m)) →
        tabulate (gauge_at K') (2 * opened) ≡ tabulate (gauge_at K) (2 * opened)
    gauges-same h = tabulate-same (gauge_at K) (gauge_at K') (2 * opened) (λ m. ap gauge_by (h m))

    gauges-alike : Alike S S' K K' → tabulate (gauge_at K') (2 * opened) ≡ tabulate (gauge_at K) (2 * opened)
    gauges-alike a = gauges-same (λ m. ap (λ (z : Counted). z.limit) (a.counted m))

    -- nothing is seen of a change
    pub links-alike : Alike S S' K K' → ((m : ℕ) → plain_at S' K' m ≡ plain_at S K m) → links_of opened S' K' ≡ links_of opened S K
    links-alike a p =
        let x = tabulate-same (plain_at S K) (plain_at S' K') (2 * opened) p in
        let f = tabulate-same (flow_at S K) (flow_at S' K') (2 * opened) (flow-alike a) in
        let l = tabulate-same (lane_at S K) (lane_at S' K') (2 * opened) (lane-alike a) in
        let g = gauges-alike a in
        λ i. record { opened = opened; sides = x i; flows = f i; lanes = l i; gauges = g i }

    -- one side changes alone
    pub links-side : (n : ℕ) → Alike S S' K K' → SidesApart n S S' K K' →
        links_of opened S' K' ≡ (let k = links_of opened S K in record k { sides = slice_set k.sides n (plain_at S' K' n) })
    links-side n a p =
        let x = tabulate-set (plain_at S K) (plain_at S' K') (2 * opened) n p in
        let f = tabulate-same (flow_at S K) (flow_at S' K') (2 * opened) (flow-alike a) in
        let l = tabulate-same (lane_at S K) (lane_at S' K') (2 * opened) (lane-alike a) in
        let g = gauges-alike a in
        λ i. record { opened = opened; sides = x i; flows = f i; lanes = l i; gauges = g i }

    -- one side and one direction
    pub links-one : (n d : ℕ) → Apart d S S' K K' → SidesApart n S S' K K' →
        links_of opened S' K' ≡ (let k = links_of opened S K in record k {
          sides = slice_set k.sides n (plain_at S' K' n);
          flows = slice_set k.flows d (flow_at S' K' d);
          lanes = slice_set k.lanes d (lane_at S' K' d);
        })
    links-one n d a p =
        let x = tabulate-set (plain_at S K) (plain_at S' K') (2 * opened) n p in
        let f = tabulate-set (flow_at S K) (flow_at S' K') (2 * opened) d (flow-apart d a) in
        let l = tabulate-set (lane_at S K) (lane_at S' K') (2 * opened) d (lane-apart d a) in
        let g = gauges-same a.limits in
        λ i. record { opened = opened; sides = x i; flows = f i; lanes = l i; gauges = g i }
