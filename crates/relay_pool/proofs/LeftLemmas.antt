-- A link that is over stays so: what still changes of it makes no side live and counts nothing.
use Rattle.std.proofs.Common.{◌≡◌, ◌≢◌, ℕ, ◌+◌, ◌*◌, ◌<◌, true, false, ◌||◌, if◌then◌else◌, length, None, refl, sym, ◌∙◌, ap, subst, arith}
use Rattle.std.proofs.lemmas.List.{get_or-set_same, get_or-set_other}
use Rattle.token_bucket.specs.declared.limit.Dir.{Dir}
use Rattle.token_bucket.specs.declared.limit.Dir.TheVariants.{Write}
use Rattle.ev_types.specs.declared.side.Side.{Side}
use Rattle.ev_types.specs.declared.side.Side.TheVariants.{In, Out}
use Rattle.ev_types.specs.declared.side.SideId.{SideId}
use Rattle.ev_types.specs.Sides.{number, peer, other, same_side}
use Rattle.relay_model.specs.Flow.{Flow, no_flow}
use Rattle.relay_model.specs.Moments.{active_at}
use Rattle.relay_model.specs.Plain.{PlainSide, no_side}
use Rattle.relay_state.specs.Counting.{has_flown_far, has_read_far}
use Rattle.relay_state.specs.Running.{gauge_after}
use Rattle.relay_state.specs.Serving.{flow_given}
use Rattle.relay_state.specs.State.{Lane, no_lane, lane_left, lane_lost, lane_taken}
use Rattle.relay_sides.specs.Links.{Links, side_at, flow_at, lane_at, put_side, put_flow, put_lane, change_side, freed, after_took}
use Rattle.relay_sides.specs.Links.{has_spent_count, bucket_spent, gauge_at}
use Rattle.relay_sides.specs.Pairs.{HasPairs}
use Rattle.relay_sides.specs.SideView.{flags_of}
use Rattle.relay_sides.specs.declared.counts.Counts.{Counts}
use Rattle.relay_sides.specs.declared.flags.SideFlags.{SideFlags}
use Rattle.relay_pool.specs.Over.{one_side, with_change, changed_by, flags_changed, flags_after, IsLeftSide}
use Rattle.relay_pool.specs.Stays.{IsRemnant}
use Rattle.relay_pool.specs.declared.change.Change.{Change}
use Rattle.relay_pool.specs.declared.change.Change.TheVariants as change
use Rattle.relay_pool.specs.declared.change.SideChange.{SideChange}
use Rattle.relay_pool.specs.declared.memory.Memory.{Memory}
use Rattle.relay_pool.specs.declared.stay.Over.{Over}
use Rattle.relay_pool.proofs.TouchLemmas.{both, touches_side, touches_flow, touches_lane, touches_gauge}

-- Its flows are the same, and of its lanes what is counted, and no byte comes to wait for an end.
record Quiet (old new : Links) : Type 0 where
  flow : (t : Side) → flow_at new (one_side t) ≡ flow_at old (one_side t)
  read : (t : Side) → (lane_at new (one_side t)).read ≡ (lane_at old (one_side t)).read
  read_made : (t : Side) → (lane_at new (one_side t)).read_made ≡ (lane_at old (one_side t)).read_made
  write_made : (t : Side) → (lane_at new (one_side t)).write_made ≡ (lane_at old (one_side t)).write_made
  taken : (t : Side) → length (lane_at old (one_side t)).buffers.raw_output ≡ 0 → length (lane_at new (one_side t)).buffers.raw_output ≡ 0

-- a side that is freed, is in no group and has no reference is so still, and its flags are these
record Sides (flags : SideFlags) (new : PlainSide) : Type 0 where
  flags_are : flags ≡ flags_of new
  freed : new.live ≡ false
  groupless : new.group ≡ None
  unheld : new.references ≡ 0

end_still : (old new : Links) (t : Side) (flags now : SideFlags) (c : Counts) → Quiet old new → IsLeftSide flags c old (one_side t) →
    Sides now (side_at new (one_side t)) → IsLeftSide now c new (one_side t)
end_still old new t flags now c q h s = record {
  flags_are = s.flags_are;
  freed = s.freed;
  groupless = s.groupless;
  unheld = s.unheld;
  read = h.read ∙ sym (q.read t);
  moved = h.moved ∙ ap (λ (f : Flow). f.moved) (sym (q.flow t));
  given = h.given ∙ ap (λ (f : Flow). f.given) (sym (q.flow (other t)));
  taken = q.taken (other t) h.taken;
}

spent_still : (old new : Links) → Quiet old new → has_spent_count new 0 ≡ has_spent_count old 0
spent_still old new q = λ i.
    (has_flown_far (q.flow In i)
    || has_read_far (record no_lane { read = q.read In i; read_made = q.read_made In i; write_made = q.write_made In i }))
    || (has_flown_far (q.flow Out i)
    || has_read_far (record no_lane { read = q.read Out i; read_made = q.read_made Out i; write_made = q.write_made Out i }))

-- a change of one side alone

twin-apart : (s : Side) → number (one_side (other s)) ≢ number (one_side s)
twin-apart In h = absurd (omega (arith, h))
twin-apart Out h = absurd (omega (arith, h))

below-two : (s : Side) → number (one_side s) < 2
below-two In = omega arith
below-two Out = omega arith

module _ (k : Links) (pairs : HasPairs k) (one : k.opened ≡ 1) (s : Side) where
  abbrev e : SideId
  e = one_side s

  within : (n : ℕ) → n ≡ 2 * k.opened → number (one_side s) < n
  within n h = omega (arith, h, one, below-two s)

  own_side : (x : PlainSide) → side_at (put_side (one_side s) x k) (one_side s) ≡ x
  own_side x = get_or-set_same k.sides (number e) x no_side (within (length k.sides) pairs.sides)

  own_lane : (x : Lane) → lane_at (put_lane (one_side s) x k) (one_side s) ≡ x
  own_lane x = get_or-set_same k.lanes (number e) x no_lane (within (length k.lanes) pairs.lanes)

  own_flow : (x : Flow) → flow_at (put_flow (one_side s) x k) (one_side s) ≡ x
  own_flow x = get_or-set_same k.flows (number e) x no_flow (within (length k.flows) pairs.flows)

other_side : (k : Links) (s : Side) (x : PlainSide) → side_at (put_side (one_side s) x k) (one_side (other s))
    ≡ side_at k (one_side (other s))
other_side k s x = get_or-set_other k.sides (number (one_side s)) (number (one_side (other s))) x no_side (twin-apart s)

other_lane : (k : Links) (s : Side) (x : Lane) → lane_at (put_lane (one_side s) x k) (one_side (other s)) ≡ lane_at k (one_side (other s))
other_lane k s x = get_or-set_other k.lanes (number (one_side s)) (number (one_side (other s))) x no_lane (twin-apart s)

other_flow : (k : Links) (s : Side) (x : Flow) → flow_at (put_flow (one_side s) x k) (one_side (other s)) ≡ flow_at k (one_side (other s))
other_flow k s x = get_or-set_other k.flows (number (one_side s)) (number (one_side (other s))) x no_flow (twin-apart s)

quiet_side : (k : Links) (s : Side) (x : PlainSide) → Quiet k (put_side (one_side s) x k)
quiet_side k s x = record {
  flow = λ t. refl;
  read = λ t. refl;
  read_made = λ t. refl;
  write_made = λ t. refl;
  taken = λ t h. h;
}

module _ (k : Links) (pairs : HasPairs k) (one : k.opened ≡ 1) (s : Side) where
  -- the buffers of a lane alone change, and its raw output gets no byte
  quiet_lane : (x : Lane) → x.read ≡ (lane_at k (one_side s)).read → x.read_made ≡ (lane_at k (one_side s)).read_made →
      x.write_made ≡ (lane_at k (one_side s)).write_made →
      (length (lane_at k (one_side s)).buffers.raw_output ≡ 0 → length x.buffers.raw_output ≡ 0) →
      Quiet k (put_lane (one_side s) x k)
  quiet_lane x a b c d =
      let k2 : Links = put_lane (one_side s) x k in
      let own = own_lane k pairs one s x in
      let rest = other_lane k s x in
      record {
        flow = λ t. refl;
        read = both (λ t. (lane_at k2 (one_side t)).read ≡ (lane_at k (one_side t)).read) s
            (ap (λ (l : Lane). l.read) own ∙ a) (ap (λ (l : Lane). l.read) rest);
        read_made = both (λ t. (lane_at k2 (one_side t)).read_made ≡ (lane_at k (one_side t)).read_made) s
            (ap (λ (l : Lane). l.read_made) own ∙ b) (ap (λ (l : Lane). l.read_made) rest);
        write_made = both (λ t. (lane_at k2 (one_side t)).write_made ≡ (lane_at k (one_side t)).write_made) s
            (ap (λ (l : Lane). l.write_made) own ∙ c) (ap (λ (l : Lane). l.write_made) rest);
        taken = both (λ t. length (lane_at k (one_side t)).buffers.raw_output ≡ 0 → length (lane_at k2 (one_side t)).buffers.raw_output
            ≡ 0) s
            (λ h. ap (λ (l : Lane). length l.buffers.raw_output) own ∙ d h)
            (λ h. ap (λ (l : Lane). length l.buffers.raw_output) rest ∙ h);
      }

  -- a flow is put that is the same
  quiet_flow : (x : Flow) → x ≡ flow_at k (one_side s) → Quiet k (put_flow (one_side s) x k)
  quiet_flow x same =
      let k2 : Links = put_flow (one_side s) x k in
      record {
        flow = both (λ t. flow_at k2 (one_side t) ≡ flow_at k (one_side t)) s (own_flow k pairs one s x ∙ same) (other_flow k s x);
        read = λ t. refl;
        read_made = λ t. refl;
        write_made = λ t. refl;
        taken = λ t h. h;
      }

quiet_then : (a b c : Links) → Quiet a b → Quiet b c → Quiet a c
quiet_then a b c p q = record {
  flow = λ t. q.flow t ∙ p.flow t;
  read = λ t. q.read t ∙ p.read t;
  read_made = λ t. q.read_made t ∙ p.read_made t;
  write_made = λ t. q.write_made t ∙ p.write_made t;
  taken = λ t h. q.taken t (p.taken t h);
}

-- what a change makes of a freed side, and of its flags
record Turns (f : PlainSide → PlainSide) (g : SideFlags → SideFlags) : Type 0 where
  flags : (x : PlainSide) → x.live ≡ false → flags_of (f x) ≡ g (flags_of x)
  live : (x : PlainSide) → x.live ≡ false → (f x).live ≡ false
  group : (x : PlainSide) → x.group ≡ None → (f x).group ≡ None
  references : (x : PlainSide) → x.references ≡ 0 → (f x).references ≡ 0

module _ (k : Links) (pairs : HasPairs k) (one : k.opened ≡ 1) (f : PlainSide → PlainSide) (g : SideFlags → SideFlags) (turns : Turns f g)
    (flags : Side → SideFlags) (counts : Side → Counts) (ends : (t : Side) → IsLeftSide (flags t) (counts t) k (one_side t)) where
  abbrev turned : Side → Links
  turned s = put_side (one_side s) (f (side_at k (one_side s))) k

  own_kept : (s : Side) → Sides (g (flags s)) (side_at (put_side (one_side s) (f (side_at k (one_side s))) k) (one_side s))
  own_kept s =
      let x : PlainSide = side_at k (one_side s) in
      let is = own_side k pairs one s (f x) in
      let h = ends s in
      record {
        flags_are = ap g h.flags_are ∙ sym (turns.flags x h.freed) ∙ ap flags_of (sym is);
        freed = ap (λ (z : PlainSide). z.live) is ∙ turns.live x h.freed;
        groupless = ap (λ (z : PlainSide). z.group) is ∙ turns.group x h.groupless;
        unheld = ap (λ (z : PlainSide). z.references) is ∙ turns.references x h.unheld;
      }

  rest_kept : (s : Side) → Sides (flags (other s)) (side_at (put_side (one_side s) (f (side_at k (one_side s))) k) (one_side (other s)))
  rest_kept s =
      let is = other_side k s (f (side_at k (one_side s))) in
      let h = ends (other s) in
      record {
        flags_are = h.flags_are ∙ ap flags_of (sym is);
        freed = ap (λ (z : PlainSide). z.live) is ∙ h.freed;
        groupless = ap (λ (z : PlainSide). z.group) is ∙ h.groupless;
        unheld = ap (λ (z : PlainSide). z.references) is ∙ h.unheld;
      }

  sides_after : (s t : Side) → Sides (if same_side s t then g (flags t) else flags t)
      (side_at (put_side (one_side s) (f (side_at k (one_side s))) k) (one_side t))
  sides_after In In = own_kept In
  sides_after In Out = rest_kept In
  sides_after Out In = rest_kept Out
  sides_after Out Out = own_kept Out

same_flags : (s t : Side) (x : SideFlags) → x ≡ (if same_side s t then x else x)
same_flags In In x = refl
same_flags In Out x = refl
same_flags Out In x = refl
same_flags Out Out x = refl

-- a link that is over, as the code keeps it
abbrev over_of : Over → SideFlags → SideFlags → Links → Over
over_of o near far k = record o { near = near; far = far; memory = record { kept = k } }

module _ (o : Over) (h : IsRemnant o) (s : Side) where
  abbrev k0 : Links
  k0 = o.memory.kept

  abbrev flags0 : Side → SideFlags
  flags0 In = o.near
  flags0 Out = o.far

  abbrev counts0 : Side → Counts
  counts0 In = o.near_counts
  counts0 Out = o.far_counts

  ends0 : (t : Side) → IsLeftSide (flags0 t) (counts0 t) o.memory.kept (one_side t)
  ends0 In = h.near
  ends0 Out = h.far

  -- it stays over with these links and these flags
  over_with : (k : Links) (flags : Side → SideFlags) → Quiet o.memory.kept k → ((t : Side) → Sides (flags t) (side_at k (one_side t))) →
      HasPairs k → k.opened ≡ 1 → IsRemnant (over_of o (flags In) (flags Out) k)
  over_with k flags q sides pairs one = record {
    near = end_still k0 k In o.near (flags In) o.near_counts q h.near (sides In);
    far = end_still k0 k Out o.far (flags Out) o.far_counts q h.far (sides Out);
    spent = h.spent ∙ sym (spent_still k0 k q);
    pairs = pairs;
    one = one;
  }

  -- with a change of a side that none of its directions shares
  over_turned : (f : PlainSide → PlainSide) (g : SideFlags → SideFlags) → Turns f g →
      IsRemnant (over_of o (if same_side s In then g o.near else o.near) (if same_side s Out then g o.far else o.far)
      (change_side (one_side s) f o.memory.kept))
  over_turned f g turns =
      over_with (change_side (one_side s) f k0) (λ t. if same_side s t then g (flags0 t) else flags0 t)
      (quiet_side k0 s (f (side_at k0 (one_side s)))) (sides_after k0 h.pairs h.one f g turns flags0 counts0 ends0 s)
      ((touches_side (one_side s) k0 (f (side_at k0 (one_side s)))).pairs h.pairs) h.one

  -- freed once more
  abbrev free_f : PlainSide → PlainSide
  free_f x = record x { live = false; group = None }

  abbrev k1 : Links
  k1 = change_side (one_side s) free_f k0

  abbrev k2 : Links
  k2 = put_lane (one_side s) (lane_left (lane_at k0 (one_side s))) k0

  free_turns : Turns (λ x. record x { live = false; group = None }) (λ x. x)
  free_turns = record {
    flags = λ x p. λ i. record (flags_of x) { live = sym p i };
    live = λ x p. refl;
    group = λ x p. refl;
    references = λ x p. p;
  }

  over_freed : IsRemnant (over_of o (if same_side s In then o.near else o.near) (if same_side s Out then o.far else o.far)
      (freed (one_side s) o.memory.kept))
  over_freed =
      let e = one_side s in
      let l = lane_left (lane_at k0 e) in
      let left : Links = put_lane e l k1 in
      let other_l = lane_lost (lane_at left (peer e)) in
      let p1 = (touches_side e k0 (free_f (side_at k0 e))).pairs h.pairs in
      let p2 = (touches_lane e k1 l).pairs p1 in
      let q1 = quiet_side k0 s (free_f (side_at k0 e)) in
      let q2 = quiet_lane k1 p1 h.one s l refl refl refl (λ z. z) in
      let q3 = quiet_lane left p2 h.one (other s) other_l refl refl refl (λ z. refl) in
      over_with (freed e k0) (λ t. if same_side s t then flags0 t else flags0 t)
      (quiet_then k0 left (freed e k0) (quiet_then k0 k1 left q1 q2) q3)
      (sides_after k0 h.pairs h.one free_f (λ x. x) free_turns flags0 counts0 ends0 s)
      ((touches_lane (peer e) left other_l).pairs p2) h.one

  -- no byte was taken
  over_took : (time : ℕ) → IsRemnant (over_of o (if same_side s In then o.near else o.near) (if same_side s Out then o.far else o.far)
      (after_took time (one_side s) 0 o.memory.kept))
  over_took time =
      let e = one_side s in
      let f = flow_given 0 (flow_at k0 (peer e)) in
      let m1 : Links = put_flow (peer e) f k0 in
      let m2 : Links = change_side e (active_at time Write) m1 in
      let l = lane_taken 0 (lane_at k0 (peer e)) in
      let same : f ≡ flow_at k0 (peer e) = (let z = flow_at k0 (peer e) in λ i. record z { given = plus-none z.given i }) in
      let p1 = (touches_flow (peer e) k0 f).pairs h.pairs in
      let p2 = (touches_side e m1 (active_at time Write (side_at m1 e))).pairs p1 in
      let q1 = quiet_flow k0 h.pairs h.one (other s) f same in
      let q2 = quiet_side m1 s (active_at time Write (side_at m1 e)) in
      let q3 = quiet_lane m2 p2 h.one (other s) l refl refl refl (λ z. z) in
      let turns : Turns (active_at time Write) (λ x. x) =
      record { flags = λ x p. refl; live = λ x p. p; group = λ x p. p; references = λ x p. p } in
      over_with (after_took time e 0 k0) (λ t. if same_side s t then flags0 t else flags0 t)
      (quiet_then k0 m2 (after_took time e 0 k0) (quiet_then k0 m1 m2 q1 q2) q3)
      (sides_after k0 h.pairs h.one (active_at time Write) (λ x. x) turns flags0 counts0 ends0 s)
      ((touches_lane (peer e) m2 l).pairs p2) h.one
    where
      plus-none : (n : ℕ) → n + 0 ≡ n
      plus-none n = omega arith

  over_spent : (d : Dir) (n time : ℕ) →
      IsRemnant (over_of o (if same_side s In then o.near else o.near) (if same_side s Out then o.far else o.far)
      (bucket_spent time (one_side s) d n o.memory.kept))
  over_spent d n time =
      let k : Links = bucket_spent time (one_side s) d n k0 in
      let x = gauge_after (side_at k0 (one_side s)).limit time d n (gauge_at k0 (one_side s)) in
      over_with k (λ t. if same_side s t then flags0 t else flags0 t)
      (record { flow = λ t. refl; read = λ t. refl; read_made = λ t. refl; write_made = λ t. refl; taken = λ t z. z })
      (λ t. let z = ends0 t in record {
        flags_are = sym (same_flags s t (flags0 t)) ∙ z.flags_are;
        freed = z.freed;
        groupless = z.groupless;
        unheld = z.unheld;
      })
      ((touches_gauge (one_side s) k0 x).pairs h.pairs) h.one

  -- any change
  over_after : (x : Change) → IsRemnant (over_of o (if same_side s In then flags_changed x o.near else o.near)
      (if same_side s Out then flags_changed x o.far else o.far) (with_change x (one_side s) o.memory.kept))
  over_after change.Ended =
      over_turned (λ x. record x { ended = true; reads = false }) (λ x. record x { ended = true; reads = false })
      (record { flags = λ x p. refl; live = λ x p. p; group = λ x p. p; references = λ x p. p })
  over_after change.ReadFailed =
      over_turned (λ x. record x { failed = true; reads = false }) (λ x. record x { failed = true; reads = false })
      (record { flags = λ x p. refl; live = λ x p. p; group = λ x p. p; references = λ x p. p })
  over_after change.WriteFailed =
      over_turned (λ x. record x { failed = true; writes = false }) (λ x. record x { failed = true; writes = false })
      (record { flags = λ x p. refl; live = λ x p. p; group = λ x p. p; references = λ x p. p })
  over_after change.Connected =
      over_turned (λ x. record x { connecting = false }) (λ x. record x { connecting = false })
      (record { flags = λ x p. refl; live = λ x p. p; group = λ x p. p; references = λ x p. p })
  over_after change.WriteEnded =
      over_turned (λ x. record x { write_ended = true }) (λ x. record x { write_ended = true })
      (record { flags = λ x p. refl; live = λ x p. p; group = λ x p. p; references = λ x p. p })
  over_after change.Closed =
      over_turned (λ x. record x { closed = true }) (λ x. record x { closed = true })
      (record { flags = λ x p. refl; live = λ x p. p; group = λ x p. p; references = λ x p. p })
  over_after change.Freed = over_freed
  over_after (change.Spent d n time) = over_spent d n time
  over_after (change.TookNone time) = over_took time

-- as the code changes it
pub over_changed : (o : Over) (x : SideChange) (near far : SideFlags) (m : Memory) → near ≡ flags_after x In o.near →
    far ≡ flags_after x Out o.far → m.kept ≡ changed_by x o.memory.kept → IsRemnant o →
    IsRemnant (record o { near = near; far = far; memory = m })
over_changed o x near far m p q r h =
    subst (λ (z : Over). IsRemnant z) (λ i. over_of o (sym p i) (sym q i) (sym r i)) (over_after o h x.side x.change)
