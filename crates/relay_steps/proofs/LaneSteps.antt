-- What the answers of ends change of a lane: it goes on fitting as bytes are got at its beginning, as that ends, and as bytes are
-- taken at its end.
use Rattle.std.proofs.Common.{◌≡◌, ℕ, ◌+◌, ◌<◌, ◌≤◌, Bool, true, false, ◌&&◌, if◌then◌else◌, List, [], ◌++◌, length, take, drop, refl, sym}
use Rattle.std.proofs.Common.{◌∙◌, ap, subst, arith, length-append}
use Rattle.std.specs.Prelude.{⊤, nat_lt, nat_eq, Option, Some, None, MatchOption}
use Rattle.std.proofs.lemmas.Bool.{ltb-true, lt-ltb}
use Rattle.std.proofs.lemmas.List.{take-append-le}
use Rattle.ev_types.specs.declared.filter.FilterKind.{FilterKind}
use Rattle.ev_types.specs.declared.side.SideId.{SideId}
use Rattle.ev_types.specs.Sides.{peer}
use Rattle.relay_model.specs.Settings.{Settings}
use Rattle.filter_model.specs.Filter.{Filter, met}
use Rattle.filter_model.specs.FilterLaws.{last_of}
use Rattle.relay_model.specs.Flow.{middle, raw_input, raw_output}
use Rattle.relay_model.specs.Conserved.{Buffers, left}
use Rattle.filter_model.specs.Running.{Running, StandsAt}
use Rattle.relay_model.specs.Plain.{Plain}
use Rattle.relay_model.specs.Rooms.{read_kind, write_kind, read_filter, write_filter}
use Rattle.relay_model.proofs.FlowSteps.{middle-got, raw_input-got, raw_output-given}
use Rattle.relay_state.specs.State.{Lane, lane_got, lane_taken}
use Rattle.relay_state.specs.Serving.{flow_given}
use Rattle.relay_steps.proofs.FitLemmas.{Sight, FitsSight}

stopped-as : (o : Option ℕ) (P Q : ℕ → Type 0) → ((n : ℕ) → P n → Q n) → MatchOption o ⊤ P → MatchOption o ⊤ Q
stopped-as None P Q h k = tt
stopped-as (Some n) P Q h k = h n k

-- A place that is met before the end is that of a byte that is there; so it is met whatever comes behind, and at the end too.
module _ (f : Filter) (xs : List ℕ) (used place : ℕ) where
  met-there : met f xs used false true ≡ Some place → nat_lt used (length xs) ≡ true
  met-there = go (nat_lt used (length xs))
    where
      go : (b : Bool) → (if b then f.bad (take (used + 1) xs) else None) ≡ Some place → b ≡ true
      go true h = refl
      go false h = absurd (cc)

  met-more : (ys : List ℕ) → met f xs used false true ≡ Some place → met f (xs ++ ys) used false true ≡ Some place
  met-more ys h =
      let there = met-there h in
      let lt : used < length xs = ltb-true used (length xs) there in
      let more : nat_lt used (length (xs ++ ys)) ≡ true = lt-ltb used (length (xs ++ ys)) (omega (arith, length-append xs ys)) in
      let old : f.bad (take (used + 1) xs) ≡ Some place =
      ap (λ (b : Bool). if b then f.bad (take (used + 1) xs) else None) (sym there) ∙ h in
      ap (λ (b : Bool). if b then f.bad (take (used + 1) (xs ++ ys)) else None) more
      ∙ ap f.bad (take-append-le (used + 1) xs ys (omega arith))
      ∙ old

  met-over : (over : Bool) → met f xs used over true ≡ Some place → met f xs used true true ≡ Some place
  met-over true h = h
  met-over false h =
      let there = met-there h in
      ap (λ (b : Bool). if b then f.bad (take (used + 1) xs) else f.bad_at_end xs) there
      ∙ ap (λ (b : Bool). if b then f.bad (take (used + 1) xs) else None) (sym there)
      ∙ h

-- a running filter where more came
pub stands-more : (name : FilterKind) (f : Filter) (xs ys : List ℕ) (count : ℕ) (done : Bool) (x : Running) → count ≤ length xs →
    StandsAt name f xs count false done x → StandsAt name f (xs ++ ys) count false done x
stands-more name f xs ys count done x le k = record {
  kind = k.kind;
  since = k.since;
  begun = k.begun;
  used = k.used;
  good = ap f.bad (take-append-le count xs ys le) ∙ k.good;
  last = k.last ∙ ap (λ z. last_of (drop f.since z)) (sym (take-append-le count xs ys le));
  finished = k.finished;
  stopped =
      stopped-as x.stopped (λ place. met f xs count false true ≡ Some place) (λ place. met f (xs ++ ys) count false true ≡ Some place)
      (λ place. met-more f xs count place ys) k.stopped;
}

-- and where no more will come
pub stands-over : (name : FilterKind) (f : Filter) (xs : List ℕ) (count : ℕ) (over done : Bool) (x : Running) →
    StandsAt name f xs count over done x → StandsAt name f xs count true done x
stands-over name f xs count over done x k = record {
  kind = k.kind;
  since = k.since;
  begun = k.begun;
  used = k.used;
  good = k.good;
  last = k.last;
  finished = k.finished;
  stopped =
      stopped-as x.stopped (λ place. met f xs count over true ≡ Some place) (λ place. met f xs count true true ≡ Some place)
      (λ place. met-over f xs count place over) k.stopped;
}

module _ (g : Settings) (p : Plain) (e : SideId) (z : Sight) (l : Lane) (k : FitsSight g p e z l) where
  abbrev r : Filter
  r = read_filter g p e

  abbrev w : Filter
  w = write_filter g p (peer e)

  -- bytes were got at the side that it begins at, which lives and has not ended
  pub fits-got : (bytes : List ℕ) → z.from_live ≡ true → z.ended ≡ false → z.flow.used ≤ length z.read →
      FitsSight g p e (record z { read = z.read ++ bytes }) (lane_got bytes l)
  fits-got bytes live going le =
      let m : middle r (z.read ++ bytes) z.flow ≡ middle r z.read z.flow = middle-got r z.read bytes z.flow le in
      let raw : raw_input (z.read ++ bytes) z.flow ≡ raw_input z.read z.flow ++ bytes = raw_input-got z.read bytes z.flow le in
      let outcome_by : List ℕ → List ℕ =
      λ xs. if z.flow.write_done then w.at_end (take z.flow.turned xs) else w.before (take z.flow.turned xs) in
      record {
        holds = record {
          buffers =
              ap (λ (b : Buffers). record b { raw_input = b.raw_input ++ bytes }) k.holds.buffers
              ∙ (λ i. record (left r w z.read (live i) z.to_live z.flow) {
                raw_input = (if live i then raw_input z.read z.flow else []) ++ bytes;
              })
              ∙ (λ i. record {
                raw_input = sym raw i;
                input = drop z.flow.moved (sym m i);
                output = if z.to_live then drop z.flow.turned (take z.flow.moved (sym m i)) else [];
                raw_output = if z.to_live then drop z.flow.given (outcome_by (sym m i)) else [];
              })
              ∙ (λ i. left r w (z.read ++ bytes) (sym live i) z.to_live z.flow);
          reads = λ h.
              subst (λ b. StandsAt (read_kind g e.side) r (z.read ++ bytes) z.flow.used b z.flow.read_done l.reader) (sym going)
              (stands-more (read_kind g e.side) r z.read bytes z.flow.used z.flow.read_done l.reader le
              (subst (λ b. StandsAt (read_kind g e.side) r z.read z.flow.used b z.flow.read_done l.reader) going (k.holds.reads h)));
          writes = λ h.
              subst
              (λ xs.
              StandsAt (write_kind g (peer e).side) w (take z.flow.moved xs) z.flow.turned
              (z.flow.read_done && nat_eq z.flow.moved (length xs)) z.flow.write_done l.writer) (sym m) (k.holds.writes h);
        };
        read = ap (λ n. n + length bytes) k.read ∙ sym (length-append z.read bytes);
        read_made = k.read_made ∙ ap length (sym m);
        write_made = k.write_made ∙ ap (λ xs. length (outcome_by xs)) (sym m);
        reader_marks = k.reader_marks;
        writer_marks = k.writer_marks;
      }

  -- that side has ended
  pub fits-ended : FitsSight g p e (record z { ended = true }) l
  fits-ended = record {
    holds = record {
      buffers = k.holds.buffers;
      reads = λ h. stands-over (read_kind g e.side) r z.read z.flow.used z.ended z.flow.read_done l.reader (k.holds.reads h);
      writes = k.holds.writes;
    };
    read = k.read;
    read_made = k.read_made;
    write_made = k.write_made;
    reader_marks = k.reader_marks;
    writer_marks = k.writer_marks;
  }

  -- the end took bytes of the side that it ends at, which lives
  pub fits-taken : (n : ℕ) → z.to_live ≡ true → FitsSight g p e (record z { flow = flow_given n z.flow }) (lane_taken n l)
  fits-taken n live =
      let given = raw_output-given r w z.read z.flow n in
      record {
        holds = record {
          buffers =
              ap (λ (b : Buffers). record b { raw_output = drop n b.raw_output }) k.holds.buffers
              ∙ (λ i. record (left r w z.read z.from_live (live i) z.flow) {
                raw_output = drop n (if live i then raw_output r w z.read z.flow else []);
              })
              ∙ (λ i. record (left r w z.read z.from_live true z.flow) { raw_output = sym given i })
              ∙ (λ i. left r w z.read z.from_live (sym live i) (flow_given n z.flow));
          reads = k.holds.reads;
          writes = k.holds.writes;
        };
        read = k.read;
        read_made = k.read_made;
        write_made = k.write_made;
        reader_marks = k.reader_marks;
        writer_marks = k.writer_marks;
      }
