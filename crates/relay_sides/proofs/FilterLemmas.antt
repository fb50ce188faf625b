-- The steps of the two filters of a direction: the one of the side where it begins, and the one of the side where it ends.
use Rattle.std.proofs.Common.{◌≡◌, ◌≢◌, ℕ, ◌+◌, ◌<◌, Bool, List, ◌++◌, length, drop, slice_set, Option, ◌∙◌, ap, subst, arith}
use Rattle.std.proofs.Common.{length-append, length-drop}
use Rattle.std.proofs.lemmas.List.{length-set}
use Rattle.token_bucket.specs.declared.limit.Dir.{Dir}
use Rattle.token_bucket.specs.declared.limit.Dir.TheVariants.{Read, Write}
use Rattle.filter_model.specs.Filter.{or_else}
use Rattle.filter_model.specs.Running.{Running}
use Rattle.filter_model.specs.FilterStep.{Stepped}
use Rattle.relay_state.specs.Passage.{read_part, write_step, written_by}
use Rattle.bev_core.specs.BevValue.{BevValue}
use Rattle.bev_filter.specs.Passing.{Crossing, Crossed, stepping}
use Rattle.bev_world.specs.ByNumber.{crossed_at}
use Rattle.bev_world.specs.Filters.{crossing}
use Rattle.bev_world.specs.WorldValue.{WorldValue}
use Rattle.bev_world.specs.declared.slot.Slot.{Slot}
use Rattle.relay_sides.specs.Bevs.{Bevs, bevs_at, lower_of, upper_of}
use Rattle.relay_sides.specs.SideView.{flow_of, lane_of}
use Rattle.relay_sides.specs.SidesView.{IsCounted}
use Rattle.relay_sides.specs.declared.side.SideState.{SideState}
use Rattle.relay_sides.proofs.BevsLemmas.{set_lower-other, set_lower-same, set_upper-other, set_upper-same}
use Rattle.relay_sides.proofs.ChangeLemmas.{left_of, right_of, everywhere}
use Rattle.relay_sides.proofs.PartLemmas.{passage_by, unflawed}
use Rattle.relay_sides.proofs.StepLemmas.{step-counts, step-within}

-- both bufferevents of a side change
module _ (S : List Slot) (n : ℕ) (lo up : Slot) (long : upper_of n < length S) where
  pub both-other : (m : ℕ) → m ≢ n → bevs_at (slice_set (slice_set S (lower_of n) lo) (upper_of n) up) m ≡ bevs_at S m
  both-other m d = set_upper-other (slice_set S (lower_of n) lo) n up m d ∙ set_lower-other S n lo m d

  pub both-same : bevs_at (slice_set (slice_set S (lower_of n) lo) (upper_of n) up) n ≡ record { lower = lo; upper = up }
  both-same =
      let l = length-set S (lower_of n) lo in
      set_upper-same (slice_set S (lower_of n) lo) n up (omega (arith, long, l))
      ∙ (let h = set_lower-same S n lo (omega (arith, long)) in λ i. (let z = h i in record z { upper = up }))

  pub both-long : length (slice_set (slice_set S (lower_of n) lo) (upper_of n) up) ≡ length S
  both-long = length-set (slice_set S (lower_of n) lo) (upper_of n) up ∙ length-set S (lower_of n) lo

-- what a step of the filter of side n left, by the numbers of its bufferevents
pub record Went (dir : Dir) (n limit : ℕ) (over : Bool) (w new : WorldValue) (before made : ℕ) : Type 0 where
  pub crossed : Crossed dir (stepping dir (crossing w dir (upper_of n) (lower_of n)) limit over)
      (crossing w dir (upper_of n) (lower_of n)) (crossing new dir (upper_of n) (lower_of n))
  pub world : new ≡ crossed_at w dir (upper_of n) (lower_of n) (crossing new dir (upper_of n) (lower_of n))
  pub made_is : made ≡ before + length (stepping dir (crossing w dir (upper_of n) (lower_of n)) limit over).made

pub went : (dir : Dir) (n limit : ℕ) (over : Bool) (w new : WorldValue) (before made at under : ℕ) → at ≡ upper_of n → under ≡ lower_of n →
    Crossed dir (stepping dir (crossing w dir at under) limit over) (crossing w dir at under) (crossing new dir at under) →
    new ≡ crossed_at w dir at under (crossing new dir at under) →
    made ≡ before + length (stepping dir (crossing w dir at under) limit over).made → Went dir n limit over w new before made
went dir n limit over w new before made at under at_is under_is c e m = record {
  crossed = subst (λ u. Crossed dir (stepping dir (crossing w dir (upper_of n) u) limit over) (crossing w dir (upper_of n) u)
      (crossing new dir (upper_of n) u)) under_is
      (subst (λ a. Crossed dir (stepping dir (crossing w dir a under) limit over) (crossing w dir a under)
      (crossing new dir a under)) at_is c);
  world = subst (λ u. new ≡ crossed_at w dir (upper_of n) u (crossing new dir (upper_of n) u)) under_is
      (subst (λ a. new ≡ crossed_at w dir a under (crossing new dir a under)) at_is e);
  made_is = m ∙ (λ i. before + length (stepping dir (crossing w dir (at_is i) (under_is i)) limit over).made);
}

-- the read filter's step at side n

module _ (w new : WorldValue) (n mark : ℕ) (over : Bool) (before made : ℕ) (g : Went Read n mark over w new before made)
    (long : upper_of n < length w.slots) where
  abbrev b : Bevs
  b = bevs_at w.slots n

  abbrev p : Crossing
  p = crossing new Read (upper_of n) (lower_of n)

  abbrev s : Stepped
  s = stepping Read (crossing w Read (upper_of n) (lower_of n)) mark over

  -- the bufferevents of the side then
  abbrev pub read_bevs : Bevs
  read_bevs = record {
    lower = (let z = (bevs_at w.slots n).lower in record z { bev = (crossing new Read (upper_of n) (lower_of n)).from; room = 0 });
    upper = (let z = (bevs_at w.slots n).upper in record z {
      bev = (crossing new Read (upper_of n) (lower_of n)).to;
      room = 0;
      read_filter = (crossing new Read (upper_of n) (lower_of n)).filter;
    });
  }

  slots_are : new.slots ≡ slice_set (slice_set w.slots (lower_of n) read_bevs.lower) (upper_of n) read_bevs.upper
  slots_are = ap (λ (z : WorldValue). z.slots) g.world

  pub read-other : (m : ℕ) → m ≢ n → bevs_at new.slots m ≡ bevs_at w.slots m
  read-other m d = ap (λ z. bevs_at z m) slots_are ∙ both-other w.slots n read_bevs.lower read_bevs.upper long m d

  pub read-same : bevs_at new.slots n ≡ read_bevs
  read-same = ap (λ z. bevs_at z n) slots_are ∙ both-same w.slots n read_bevs.lower read_bevs.upper long

  pub read-long : length new.slots ≡ length w.slots
  read-long = ap length slots_are ∙ both-long w.slots n read_bevs.lower read_bevs.upper long

  pub read-kinds : (m : ℕ) → (bevs_at new.slots m).upper.kind ≡ (bevs_at w.slots m).upper.kind
  read-kinds = everywhere (λ m. (bevs_at w.slots m).upper.kind) (λ m. (bevs_at new.slots m).upper.kind) n
      (λ m d. ap (λ (z : Bevs). z.upper.kind) (read-other m d)) (ap (λ (z : Bevs). z.upper.kind) read-same)

  pub read-right : right_of read_bevs ≡ right_of (bevs_at w.slots n)
  read-right =
      let o = ap (λ (z : BevValue). z.output.bytes) g.crossed.come in
      let r = ap (λ (z : BevValue). z.output.bytes) g.crossed.gone in
      λ i. record { writer = b.upper.write_filter; output = o i; raw_output = r i }

  raw_is : p.from.input.bytes ≡ drop s.used b.lower.bev.input.bytes
  raw_is = ap (λ (z : BevValue). z.input.bytes) g.crossed.gone

  input_is : p.to.input.bytes ≡ b.upper.bev.input.bytes ++ s.made
  input_is = ap (λ (z : BevValue). z.input.bytes) g.crossed.come

  used_is : p.filter.used ≡ b.upper.read_filter.used + s.used
  used_is = ap (λ (z : Running). z.used) g.crossed.filter
      ∙ step-counts b.upper.read_filter over mark (length b.upper.bev.input.bytes) b.lower.bev.input.bytes

  module _ (d : Bevs) (x o : SideState) (bad : Option ℕ) (before_is : before ≡ x.read_made)
      (bad_is : bad ≡ or_else x.bad p.filter.stopped) where
    made_is : made ≡ x.read_made + length s.made
    made_is = g.made_is ∙ ap (λ k. k + length s.made) before_is

    pub read-unflawed : unflawed read_bevs (record x { read_made = made; bad = bad }) ≡ unflawed (bevs_at w.slots n) x
    read-unflawed = ap (λ z. unflawed (record { lower = (let y = b.lower in record y { bev = z }); upper = b.upper }) x) g.crossed.gone

    pub read-made : passage_by read_bevs d (record x { read_made = made; bad = bad }) o
        ≡ read_part mark over (passage_by (bevs_at w.slots n) d x o)
    read-made =
        let done = ap (λ (z : Running). z.finished) g.crossed.filter in
        let bad_then = bad_is ∙ ap (λ (z : Running). or_else x.bad z.stopped) g.crossed.filter in
        let q = passage_by b d x o in
        let f = q.flow in
        let l = q.lane in
        let c = l.buffers in
        λ i. record q {
          flow = record f { used = used_is i; read_done = done i };
          lane = record l {
            buffers = record c { raw_input = raw_is i; input = input_is i };
            reader = g.crossed.filter i;
            read_made = made_is i;
          };
          from_bad = bad_then i;
        }

    pub read-counted : IsCounted (flow_of (bevs_at w.slots n) d x) (lane_of (bevs_at w.slots n) d x) →
        IsCounted (flow_of read_bevs d (record x { read_made = made; bad = bad }))
        (lane_of read_bevs d (record x { read_made = made; bad = bad }))
    read-counted h =
        let raw = ap length raw_is ∙ length-drop s.used b.lower.bev.input.bytes in
        let input = ap length input_is ∙ length-append b.upper.bev.input.bytes s.made in
        let within = step-within b.upper.read_filter over mark (length b.upper.bev.input.bytes) b.lower.bev.input.bytes in
        record {
          used = omega (arith, h.used, used_is, raw, within);
          moved = omega (arith, h.moved, input, made_is);
          turned = h.turned;
          given = h.given;
        }

-- the write filter's step at side n

module _ (w new : WorldValue) (n hold : ℕ) (over : Bool) (before made : ℕ) (g : Went Write n hold over w new before made)
    (long : upper_of n < length w.slots) where
  abbrev b2 : Bevs
  b2 = bevs_at w.slots n

  abbrev p2 : Crossing
  p2 = crossing new Write (upper_of n) (lower_of n)

  abbrev s2 : Stepped
  s2 = stepping Write (crossing w Write (upper_of n) (lower_of n)) hold over

  abbrev pub write_bevs : Bevs
  write_bevs = record {
    lower = (let z = (bevs_at w.slots n).lower in record z { bev = (crossing new Write (upper_of n) (lower_of n)).to });
    upper = (let z = (bevs_at w.slots n).upper in record z {
      bev = (crossing new Write (upper_of n) (lower_of n)).from;
      write_filter = (crossing new Write (upper_of n) (lower_of n)).filter;
    });
  }

  written_are : new.slots ≡ slice_set (slice_set w.slots (lower_of n) write_bevs.lower) (upper_of n) write_bevs.upper
  written_are = ap (λ (z : WorldValue). z.slots) g.world

  pub write-other : (m : ℕ) → m ≢ n → bevs_at new.slots m ≡ bevs_at w.slots m
  write-other m d = ap (λ z. bevs_at z m) written_are ∙ both-other w.slots n write_bevs.lower write_bevs.upper long m d

  pub write-same : bevs_at new.slots n ≡ write_bevs
  write-same = ap (λ z. bevs_at z n) written_are ∙ both-same w.slots n write_bevs.lower write_bevs.upper long

  pub write-long : length new.slots ≡ length w.slots
  write-long = ap length written_are ∙ both-long w.slots n write_bevs.lower write_bevs.upper long

  pub write-kinds : (m : ℕ) → (bevs_at new.slots m).upper.kind ≡ (bevs_at w.slots m).upper.kind
  write-kinds = everywhere (λ m. (bevs_at w.slots m).upper.kind) (λ m. (bevs_at new.slots m).upper.kind) n
      (λ m d. ap (λ (z : Bevs). z.upper.kind) (write-other m d)) (ap (λ (z : Bevs). z.upper.kind) write-same)

  pub write-left : left_of write_bevs ≡ left_of (bevs_at w.slots n)
  write-left =
      let r = ap (λ (z : BevValue). z.input.bytes) g.crossed.come in
      let o = ap (λ (z : BevValue). z.input.bytes) g.crossed.gone in
      λ i. record { reader = b2.upper.read_filter; raw_input = r i; input = o i }

  output_is : p2.from.output.bytes ≡ drop s2.used b2.upper.bev.output.bytes
  output_is = ap (λ (z : BevValue). z.output.bytes) g.crossed.gone

  raw_output_is : p2.to.output.bytes ≡ b2.lower.bev.output.bytes ++ s2.made
  raw_output_is = ap (λ (z : BevValue). z.output.bytes) g.crossed.come

  turned_is : p2.filter.used ≡ b2.upper.write_filter.used + s2.used
  turned_is = ap (λ (z : Running). z.used) g.crossed.filter
      ∙ step-counts b2.upper.write_filter over hold (length b2.lower.bev.output.bytes) b2.upper.bev.output.bytes

  module _ (a : Bevs) (x o : SideState) (bad : Option ℕ) (before_is : before ≡ x.write_made)
      (bad_is : bad ≡ or_else o.bad p2.filter.stopped) where
    made_is2 : made ≡ x.write_made + length s2.made
    made_is2 = g.made_is ∙ ap (λ k. k + length s2.made) before_is

    pub write-unflawed : unflawed write_bevs (record o { bad = bad }) ≡ unflawed (bevs_at w.slots n) o
    write-unflawed = ap (λ z. unflawed (record { lower = (let y = b2.lower in record y { bev = z }); upper = b2.upper }) o) g.crossed.come

    pub write-made : passage_by a write_bevs (record x { write_made = made }) (record o { bad = bad })
        ≡ (let q = passage_by a (bevs_at w.slots n) x o in written_by (write_step hold over q.lane) q)
    write-made =
        let done = ap (λ (z : Running). z.finished) g.crossed.filter in
        let bad_then = bad_is ∙ ap (λ (z : Running). or_else o.bad z.stopped) g.crossed.filter in
        let q = passage_by a b2 x o in
        let f = q.flow in
        let l = q.lane in
        let c = l.buffers in
        λ i. record q {
          flow = record f { turned = turned_is i; write_done = done i };
          lane = record l {
            buffers = record c { output = output_is i; raw_output = raw_output_is i };
            writer = g.crossed.filter i;
            write_made = made_is2 i;
          };
          to_bad = bad_then i;
        }

    pub write-counted : IsCounted (flow_of a (bevs_at w.slots n) x) (lane_of a (bevs_at w.slots n) x) →
        IsCounted (flow_of a write_bevs (record x { write_made = made })) (lane_of a write_bevs (record x { write_made = made }))
    write-counted h =
        let output = ap length output_is ∙ length-drop s2.used b2.upper.bev.output.bytes in
        let raw = ap length raw_output_is ∙ length-append b2.lower.bev.output.bytes s2.made in
        let within = step-within b2.upper.write_filter over hold (length b2.lower.bev.output.bytes) b2.upper.bev.output.bytes in
        record {
          used = h.used;
          moved = h.moved;
          turned = omega (arith, h.turned, turned_is, output, within);
          given = omega (arith, h.given, raw, made_is2);
        }
