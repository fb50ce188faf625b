-- What a change of a side's limit makes of the links.
use Rattle.std.proofs.Common.{◌≡◌, ◌≢◌, ℕ, ◌*◌, ◌<◌, ◌≤◌, List, slice_set, get_or, Option, Some, None, option_map}
use Rattle.std.proofs.Common.{refl, sym, ◌∙◌, ap, subst, arith, ◌+◌, length}
use Rattle.std.specs.Prelude.{Box, vec_capacity}
use Rattle.std.specs.Global.{Vec}
use Rattle.std.specs.declared.alloc.Global.{Global}
use Rattle.std.proofs.lemmas.List.{set-get_or, length-set}
use Rattle.token_bucket.specs.declared.limit.Dir.{Dir}
use Rattle.token_bucket.specs.declared.limit.LimitCfg.{LimitCfg}
use Rattle.ev_types.specs.declared.side.SideId.{SideId}
use Rattle.ev_types.specs.Sides.{number}
use Rattle.relay_model.specs.Plain.{PlainSide, Standing, no_side}
use Rattle.relay_state.specs.Running.{Gauge, held_at, gauge_after, gauge_set}
use Rattle.side_limit.specs.LimitValue.{LimitValue, bucket_holds, with_spent}
use Rattle.bev_world.specs.declared.slot.Slot.{Slot}
use Rattle.bev_filter.specs.StepRoom.{HasStepRoom}
use Rattle.relay_model.specs.Rooms.{most_at_once, mark_or}
use Rattle.relay_sides.specs.Bevs.{Bevs, bevs_at, twin}
use Rattle.relay_sides.specs.KeptLimits.{kept_value, set_kept, gains_kept, limit_gains}
use Rattle.relay_sides.specs.Links as links
use Rattle.relay_sides.specs.Links.{Links, put_side, put_gauge, allowance_at, limit_set_on, limited, bucket_spent}
use Rattle.relay_sides.specs.SidesValue.{SidesValue}
use Rattle.relay_sides.specs.SideView.{state_at, plain_side, plain_at, flow_of, flow_at, lane_of, lane_at, gauge_at, gauge_by, limit_kept}
use Rattle.relay_sides.specs.SidesView.{links_of, sides_of, AreSides, IsCounted, CanRead}
use Rattle.relay_sides.specs.declared.sides.Sides.TheInside.{Inside}
use Rattle.relay_sides.specs.declared.side.SideState.{SideState}
use Rattle.relay_sides.proofs.TableLemmas.{get-tabulate, tabulate-same, tabulate-set}
use Rattle.relay_sides.proofs.BevsLemmas.{number-lt}
use Rattle.relay_sides.proofs.ChangeLemmas.{everywhere, Lasting}
use Rattle.relay_sides.proofs.SidesLemmas.{here, side_seen, gauge_seen}
use Rattle.relay_sides.proofs.LinkLemmas.{own_found, own_states, own_state, own_lasting}

-- how a limit stands
abbrev pub standing_by : Option LimitValue → Option Standing
standing_by x = option_map (λ (y : LimitValue). y.standing) x

-- what is asked of a limit says the same of how it stands and of its buckets

pub allowance-kept : (x : Option LimitValue) (d : Dir) (time : ℕ) →
    option_map (λ y. bucket_holds y d time) x ≡ option_map (λ y. held_at y.cfg (gauge_by x) d time) (standing_by x)
allowance-kept None d time = refl
allowance-kept (Some y) d time = refl

pub gains-kept : (x : Option LimitValue) (time : ℕ) → gains_kept time x ≡ limit_gains time (gauge_by x) (standing_by x)
gains-kept None time = refl
gains-kept (Some y) time = refl

pub spent-gauge : (x : Option LimitValue) (d : Dir) (n time : ℕ) →
    gauge_by (option_map (with_spent d n time) x) ≡ gauge_after (standing_by x) time d n (gauge_by x)
spent-gauge None d n time = refl
spent-gauge (Some y) d n time = refl

pub spent-standing : (x : Option LimitValue) (d : Dir) (n time : ℕ) → standing_by (option_map (with_spent d n time) x) ≡ standing_by x
spent-standing None d n time = refl
spent-standing (Some y) d n time = refl

pub set-gauge : (x : Option LimitValue) (cfg : Option LimitCfg) (time turn : ℕ) →
    gauge_by (set_kept time turn x cfg) ≡ gauge_set (standing_by x) cfg time (gauge_by x)
set-gauge x None time turn = refl
set-gauge None (Some cfg) time turn = refl
set-gauge (Some y) (Some cfg) time turn = refl

pub set-standing : (x : Option LimitValue) (cfg : Option LimitCfg) (time turn : ℕ) →
    standing_by (set_kept time turn x cfg) ≡ limit_set_on (gauge_by x) time turn (standing_by x) cfg
set-standing x None time turn = refl
set-standing None (Some cfg) time turn = refl
set-standing (Some y) (Some cfg) time turn = refl

-- what room for a read looks at of a side
abbrev counts_of : SideState → ℕ × ℕ
counts_of s = (s.read, s.read_made)

can_read-as : (b : Bevs) (s t : SideState) (beside spare count : ℕ) → counts_of t ≡ counts_of s → CanRead b s beside spare count →
    CanRead b t beside spare count
can_read-as b s t beside spare count same can =
    let read = ap (λ (z : ℕ × ℕ). z.0) same in
    let made = ap (λ (z : ℕ × ℕ). z.1) same in
    record {
      counted = omega (arith, can.counted, read);
      kept = can.kept;
      step = subst (λ z. HasStepRoom b.upper.read_filter.kind (length b.lower.bev.input.bytes + count) (length b.upper.bev.input.bytes)
          (mark_or b.lower.bev.read_high most_at_once) b.upper.bev.input.spare beside z) (sym made) can.step;
    }

module _ (v : SidesValue) (r : Inside) (is : sides_of r ≡ v) (sound : AreSides r) (e : SideId) (opened : e.link < v.links.opened)
    (j : ℕ) (j_is : j ≡ number e) (x : SideState) (x_is : x ≡ get_or r.sides.items j x) where
  abbrev S : List Slot
  S = r.world.slots

  abbrev K : List SideState
  K = r.sides.items

  abbrev n : ℕ
  n = number e

  found : x ≡ state_at K n
  found = own_found v r is sound e opened j j_is x x_is

  pub gauge-found : links.gauge_at v.links e ≡ gauge_by (limit_kept x)
  gauge-found = gauge_seen v r is e opened ∙ ap (λ z. gauge_by (limit_kept z)) (sym found)

  pub limit-found : (links.side_at v.links e).limit ≡ standing_by (limit_kept x)
  limit-found = ap (λ (z : PlainSide). z.limit) (side_seen v r is e opened) ∙ ap (λ z. standing_by (limit_kept z)) (sym found)

  pub allowance-found : (d : Dir) (time : ℕ) → option_map (λ y. bucket_holds y d time) (limit_kept x) ≡ allowance_at time v.links e d
  allowance-found d time =
      allowance-kept (limit_kept x) d time
      ∙ (λ i. option_map (λ y. held_at y.cfg (sym gauge-found i) d time) (sym limit-found i))

  pub later-found : (time : ℕ) → (links.gauge_at v.links e).time ≤ time → (gauge_by (limit_kept x)).time ≤ time
  later-found time h = subst (λ (z : Gauge). z.time ≤ time) gauge-found h

  module _ (l : Option (Box LimitValue Global)) where
    abbrev y : SideState
    y = record x { limit = l }

    abbrev K2 : List SideState
    K2 = slice_set K j y

    off : (m : ℕ) → m ≢ n → state_at K2 m ≡ state_at K m
    off = own_states v r is sound e opened j j_is y

    at : state_at K2 n ≡ y
    at = own_state v r is sound e opened j j_is y

    flows : (m : ℕ) → flow_at S K2 m ≡ flow_at S K m
    flows = everywhere (flow_at S K) (flow_at S K2) n (λ m d. ap (flow_of (bevs_at S m) (bevs_at S (twin m))) (off m d))
        (ap (flow_of (bevs_at S n) (bevs_at S (twin n))) at ∙ ap (flow_of (bevs_at S n) (bevs_at S (twin n))) found)

    lanes : (m : ℕ) → lane_at S K2 m ≡ lane_at S K m
    lanes = everywhere (lane_at S K) (lane_at S K2) n (λ m d. ap (lane_of (bevs_at S m) (bevs_at S (twin m))) (off m d))
        (ap (lane_of (bevs_at S n) (bevs_at S (twin n))) at ∙ ap (lane_of (bevs_at S n) (bevs_at S (twin n))) found)

    pub limit_counted : (m : ℕ) → m < 2 * r.opened →
        IsCounted (flow_at r.world.slots (slice_set r.sides.items j (record x { limit = l })) m)
        (lane_at r.world.slots (slice_set r.sides.items j (record x { limit = l })) m)
    limit_counted m h =
        subst (λ z. IsCounted (flow_at S K2 m) z) (sym (lanes m))
        (subst (λ z. IsCounted z (lane_at S K m)) (sym (flows m)) (sound.counted m h))

    counts : (m : ℕ) → counts_of (state_at K2 m) ≡ counts_of (state_at K m)
    counts = everywhere (λ m. counts_of (state_at K m)) (λ m. counts_of (state_at K2 m)) n (λ m d. ap counts_of (off m d))
        (ap counts_of at ∙ ap counts_of found)

    -- what is kept is sound, with the room for a read that there was
    pub limit_sound : (k : Vec SideState) → k.items ≡ slice_set r.sides.items j (record x { limit = l }) → AreSides (record r { sides = k })
    limit_sound k is =
        let many = ap length is ∙ length-set K j y in
        record {
          slots = sound.slots;
          sides = many ∙ sound.sides;
          filters = sound.filters;
          one_piece = sound.one_piece;
          counted = λ m h.
              subst (λ z. IsCounted (flow_at S z m) (lane_at S z m)) (sym is) (limit_counted m h);
          read_room = λ some.
              let can = sound.read_room some in (
                can.0,
                subst (λ z. CanRead (bevs_at S r.ready) (state_at z r.ready) (vec_capacity r.beside) r.spare r.readable) (sym is)
                    (can_read-as (bevs_at S r.ready) (state_at K r.ready) (state_at K2 r.ready) (vec_capacity r.beside) r.spare r.readable
                    (counts r.ready) can.1),
              );
        }

    pub limit_lasting : Lasting r.world.slots r.world.slots r.sides.items (slice_set r.sides.items j (record x { limit = l }))
    limit_lasting = own_lasting v r is sound e opened j j_is y

    -- the side and its buckets change alone
    pub limit_links : links_of r.opened r.world.slots (slice_set r.sides.items j (record x { limit = l }))
        ≡ put_gauge e (gauge_by (kept_value l))
        (links.change_side e (λ z. record z { limit = standing_by (kept_value l) }) v.links)
    limit_links =
        let k : Links = links_of r.opened S K in
        let lt = number-lt e r.opened (here v r is e opened) in
        let own : links.side_at k e ≡ plain_at S K n = get-tabulate (plain_at S K) (2 * r.opened) n no_side lt in
        let g : PlainSide → PlainSide = λ z. record z { limit = standing_by (kept_value l) } in
        let b = (bevs_at S n).lower.bev in
        let sides = tabulate-set (plain_at S K) (plain_at S K2) (2 * r.opened) n (λ m d. ap (plain_side (bevs_at S m).lower.bev)
        (off m d)) in
        let gauges = tabulate-set (gauge_at K) (gauge_at K2) (2 * r.opened) n (λ m d. ap (λ z. gauge_by (limit_kept z)) (off m d)) in
        let p : plain_at S K2 n ≡ g (links.side_at k e) =
        ap (plain_side b) at ∙ ap (λ z. g (plain_side b z)) found ∙ ap g (sym own) in
        let q : gauge_at K2 n ≡ gauge_by (kept_value l) = ap (λ z. gauge_by (limit_kept z)) at in
        let f = tabulate-same (flow_at S K) (flow_at S K2) (2 * r.opened) flows in
        let h = tabulate-same (lane_at S K) (lane_at S K2) (2 * r.opened) lanes in
        (λ i. record { opened = r.opened; sides = sides i; flows = f i; lanes = h i; gauges = gauges i })
        ∙ (λ i. record k { sides = slice_set k.sides n (p i); gauges = slice_set k.gauges n (q i) })
        ∙ ap (λ (z : SidesValue). put_gauge e (gauge_by (kept_value l)) (links.change_side e g z.links)) is

    -- bytes were moved
    pub limit_spent : (d : Dir) (count time : ℕ) → kept_value l ≡ option_map (with_spent d count time) (limit_kept x) →
        links_of r.opened r.world.slots (slice_set r.sides.items j (record x { limit = l })) ≡ bucket_spent time e d count v.links
    limit_spent d count time h =
        let k = v.links in
        let gauge = ap gauge_by h ∙ spent-gauge (limit_kept x) d count time
        ∙ (λ i. gauge_after (sym limit-found i) time d count (sym gauge-found i)) in
        let standing = ap standing_by h ∙ spent-standing (limit_kept x) d count time ∙ sym limit-found in
        limit_links
        ∙ (λ i. put_gauge e (gauge i) (links.change_side e (λ z. record z { limit = standing i }) k))
        ∙ ap (λ (zs : List PlainSide). put_gauge e (gauge_after (links.side_at k e).limit time d count (links.gauge_at k e))
        (record k { sides = zs }))
        (set-get_or k.sides n no_side)

    -- another limit was set
    pub limit_set : (cfg : Option LimitCfg) (time turn : ℕ) → kept_value l ≡ set_kept time turn (limit_kept x) cfg →
        links_of r.opened r.world.slots (slice_set r.sides.items j (record x { limit = l })) ≡ limited time turn e cfg v.links
    limit_set cfg time turn h =
        let k = v.links in
        let gauge = ap gauge_by h ∙ set-gauge (limit_kept x) cfg time turn
        ∙ (λ i. gauge_set (sym limit-found i) cfg time (sym gauge-found i)) in
        let standing = ap standing_by h ∙ set-standing (limit_kept x) cfg time turn
        ∙ (λ i. limit_set_on (sym gauge-found i) time turn (sym limit-found i) cfg) in
        limit_links
        ∙ (λ i. put_gauge e (gauge i) (links.change_side e (λ z. record z { limit = standing i }) k))
