-- One step of the write filter over the buffers alone is what the model's counts say of it.
use Rattle.std.proofs.Common.{◌≡◌, ℕ, ◌+◌, ◌-◌, ◌<◌, ◌≤◌, Bool, true, false, ◌==◌, ◌&&◌, ◌||◌, if◌then◌else◌, List, [], ◌++◌, length, take}
use Rattle.std.proofs.Common.{drop, None, refl, sym, ◌∙◌, ap, subst, arith, length-append}
use Rattle.std.specs.Prelude.{nat_eq, nat_le, nat_lt, is_some}
use Rattle.std.proofs.lemmas.Bool.{and_parts, eqb-true}
use Rattle.std.proofs.lemmas.List.{length-drop, length-take-le, take-take, take_all}
use Rattle.std.proofs.Math.Bool.{or-false}
use Rattle.ev_types.specs.declared.filter.FilterKind.{FilterKind}
use Rattle.filter_model.specs.Filter.{Filter, filter_of, or_else, met}
use Rattle.relay_model.specs.Flow.{Flow, Fits, middle, outcome, input, output, raw_input, raw_output}
use Rattle.relay_model.specs.Conserved.{all_moved}
use Rattle.filter_model.specs.FilterStep.{Stepped, stepped}
use Rattle.relay_model.specs.Pass.{write_stops, with_turned, write_place, with_write_done}
use Rattle.filter_model.specs.Stopping.{first_from, is_over}
use Rattle.relay_model.proofs.FlowSteps.{output-turned, raw_output-turned}
use Rattle.relay_state.specs.Passage.{Passage, write_part, written_by, has_moved_all}
use Rattle.relay_steps.proofs.PassageRuns.{Turned, turned, stops_at, left_at, made_at, first_from-same, or_else-some, or_else-none}
use Rattle.relay_steps.proofs.PassageMoves.{Carries, in_counts, in_counts-same, same_tests}

module _ (rk wk : FilterKind) (bytes : List ℕ) (ended from_live : Bool) (hold : ℕ) (may_end : Bool) where
  abbrev r : Filter
  r = filter_of rk

  abbrev w : Filter
  w = filter_of wk

  -- where it may finish, the flag says whether it is finished
  abbrev pub ended_by : Bool → Flow → Flow
  ended_by true f = with_write_done (filter_of rk) (filter_of wk) bytes hold f
  ended_by false f = f

  -- what the step changes in the model's words, and what it keeps
  pub record WrittenAs (x new : Passage) : Type 0 where
    pub used : with_turned (filter_of rk) (filter_of wk) bytes hold x.flow ≡ record (x.flow) { turned = new.flow.turned }
    pub place : or_else x.to_bad
        (write_place (filter_of rk) (filter_of wk) bytes hold may_end (record (x.flow) { turned = new.flow.turned })) ≡ new.to_bad
    pub done : ended_by may_end (record (x.flow) { turned = new.flow.turned }) ≡ new.flow
    pub from_bad : new.from_bad ≡ x.from_bad
    pub carries : Carries rk wk bytes ended from_live true new

  module _ (x : Passage) (ends_live : may_end ≡ true → from_live ≡ true) (fits : Fits (filter_of rk) (filter_of wk) bytes ended x.flow)
      (c : Carries rk wk bytes ended from_live true x) where
    abbrev f : Flow
    f = x.flow

    abbrev mid : List ℕ
    mid = middle (filter_of rk) bytes x.flow

    abbrev xs : List ℕ
    xs = take x.flow.moved (middle (filter_of rk) bytes x.flow)

    abbrev y : Passage
    y = in_counts rk wk bytes from_live true x

    abbrev over : Bool
    over = may_end && all_moved (filter_of rk) bytes x.flow

    abbrev s : Stepped
    s = stepped x.lane.writer (may_end && all_moved (filter_of rk) bytes x.flow) hold
        (length (raw_output (filter_of rk) (filter_of wk) bytes x.flow)) (output (filter_of rk) bytes x.flow)

    long : length xs ≡ f.moved
    long = length-take-le f.moved mid fits.moved

    -- of so many bytes that were moved it makes what it makes of so many
    front : (n : ℕ) → n ≤ f.moved → take n xs ≡ take n mid
    front n le = take-take n f.moved mid le

    makes : (n : ℕ) (done : Bool) → n ≤ f.moved → made_at w xs n done ≡ made_at w mid n done
    makes n done le = let a = front n le in λ i. if done then w.at_end (a i) else w.before (a i)

    -- all that will ever come
    whole : f.moved ≡ length mid → xs ≡ mid
    whole h = take_all f.moved mid (omega (arith, h))

    room_is : length (drop f.given (made_at w xs f.turned f.write_done)) ≡ length (raw_output r w bytes f)
    room_is = ap (λ z. length (drop f.given z)) (makes f.turned f.write_done fits.turned)

    at_end : f.write_done ≡ true → (f.turned ≡ length xs) × (w.bad_at_end xs ≡ None)
    at_end h =
        let k = fits.write_done h in (k.1 ∙ sym long, ap w.bad_at_end (whole k.2) ∙ k.3)

    step : Turned wk xs hold f.given f.turned (all_moved r bytes f) over f.write_done x.lane.writer (f.turned + s.used) s
    step =
        let a = room_is in
        subst (λ n. (let z = stepped x.lane.writer over hold n (output r bytes f) in
        Turned wk xs hold f.given f.turned (all_moved r bytes f) over f.write_done x.lane.writer (f.turned + z.used) z)) a
        (turned wk xs hold f.given (all_moved r bytes f) over
        (λ h. (and_parts may_end (all_moved r bytes f) h).1) x.lane.writer f.write_done f.turned
        (c.holds.writes refl) (let q = long in let t = fits.turned in omega (arith, q, t)) at_end
        (subst (λ z. f.given ≤ length z) (sym (makes f.turned f.write_done fits.turned)) fits.given))

    abbrev u : ℕ
    u =
        let f = x.flow in
        f.turned + (stepped x.lane.writer (may_end && all_moved (filter_of rk) bytes f) hold
        (length (raw_output (filter_of rk) (filter_of wk) bytes f)) (output (filter_of rk) bytes f)).used

    in_moved : u ≤ f.moved
    in_moved = let a = step.within in let q = long in omega (arith, a, q)

    abbrev now : Flow
    now =
        let f = x.flow in
        let s = stepped x.lane.writer (may_end && all_moved (filter_of rk) bytes f) hold
        (length (raw_output (filter_of rk) (filter_of wk) bytes f)) (output (filter_of rk) bytes f) in
        record f { turned = f.turned + s.used; write_done = s.after.finished }

    grown : outcome r w bytes now ≡ outcome r w bytes f ++ s.made
    grown =
        sym (makes u s.after.finished in_moved) ∙ step.made ∙ ap (λ z. z ++ s.made) (makes f.turned f.write_done fits.turned)

    -- the tests of the model look at the same
    halt_is : (n : ℕ) → n < f.turned + (f.moved - f.turned) → write_stops r w bytes hold f n ≡ stops_at w xs hold f.given f.write_done n
    halt_is n lt =
        let t = fits.turned in
        let a = makes n f.write_done (omega (arith, lt, t)) in
        let b = front (n + 1) (omega (arith, lt, t)) in
        λ i. nat_le hold (length (drop f.given (sym a i))) || is_some (w.bad (sym b i))

    search_is : first_from (write_stops r w bytes hold f) f.turned (f.moved - f.turned) ≡ u
    search_is =
        first_from-same (write_stops r w bytes hold f) (stops_at w xs hold f.given f.write_done) f.turned (f.moved - f.turned) halt_is
        ∙ (let q = sym long in λ i. first_from (stops_at w xs hold f.given f.write_done) f.turned (q i - f.turned)) ∙ step.count

    left_is : left_at w xs f.given u f.write_done ≡ length (raw_output r w bytes (record f { turned = u }))
    left_is = ap (λ z. length (drop f.given z)) (makes u f.write_done in_moved)

    module _ (open_now : f.held ≡ false) where
      used_is : with_turned r w bytes hold f ≡ record f { turned = u }
      used_is = (let a = open_now in let b = search_is in λ i. if a i then f else record f { turned = b i })

      place_is : or_else x.to_bad (write_place r w bytes hold may_end (record f { turned = u })) ≡ or_else x.to_bad s.after.stopped
      place_is =
          (let a = open_now in let b = sym left_is in λ i. or_else x.to_bad (if a i then None else met w xs u over (nat_lt (b i) hold)))
          ∙ step.place x.to_bad c.writer_marks

      -- the flag of the model: with all moved, what was moved is all
      flag_is : may_end ≡ true →
          (f.write_done || (all_moved r bytes f && u ==
          f.moved && is_over w mid (nat_lt (length (raw_output r w bytes (record f { turned = u }))) hold))) ≡ s.after.finished
      flag_is may =
          go (all_moved r bytes f) refl
          ∙ (let a = sym may in let b = sym left_is in let q = sym long in
          λ i. f.write_done || ((a i && all_moved r bytes f) && u == q i && is_over w xs (nat_lt (b i) hold)))
          ∙ step.done
        where
          room : Bool
          room = nat_lt (length (raw_output r w bytes (record f { turned = u }))) hold

          go : (b : Bool) → all_moved r bytes f ≡ b → (f.write_done || (all_moved r bytes f && u == f.moved && is_over w mid room))
              ≡ (f.write_done || ((true && all_moved r bytes f) && u == f.moved && is_over w xs room))
          go false h = (λ i. f.write_done || (h i && u == f.moved && is_over w mid room))
              ∙ (λ i. f.write_done || ((true && sym h i) && u == f.moved && is_over w xs room))
          go true h =
              let all = eqb-true f.moved (length mid) (and_parts f.read_done (nat_eq f.moved (length mid)) h).1 in
              let a = sym (whole all) in
              λ i. f.write_done || (all_moved r bytes f && u == f.moved && is_over w (a i) room)

      done_is : (b : Bool) → may_end ≡ b → ended_by b (record f { turned = u }) ≡ now
      done_is true h =
          (let a = open_now in λ i. if a i then record f { turned = u }
          else record f {
            turned = u;
            write_done =
                f.write_done || (all_moved r bytes f && u ==
                f.moved && is_over w mid (nat_lt (length (raw_output r w bytes (record f { turned = u }))) hold));
          })
          ∙ (let a = flag_is h in λ i. record f { turned = u; write_done = a i })
      done_is false h =
          let a : f.write_done ≡ s.after.finished =
          sym (or-false f.write_done)
          ∙ (let b = sym h in λ i. f.write_done ||
          ((b i && all_moved r bytes f) && (u == length xs) && is_over w xs
          (nat_lt (left_at w xs f.given u f.write_done) hold))) ∙ step.done in
          λ i. record f { turned = u; write_done = a i }

      as-counts : WrittenAs y (written_by s y)
      as-counts = record {
        used = used_is;
        place = place_is;
        done = done_is may_end refl;
        from_bad = refl;
        carries = record {
          holds = record {
            buffers =
                let o1 = output-turned r bytes f s.used in
                let w1 = raw_output-turned r w bytes ended f fits u s.after.finished s.made grown in
                sym (λ i. record {
                  raw_input = if from_live then raw_input bytes f else [];
                  input = if from_live then input r bytes f else [];
                  output = o1 i;
                  raw_output = w1 i;
                });
            reads = c.holds.reads;
            writes = λ _. step.stands;
          };
          read = c.read;
          read_made = c.read_made;
          write_made = ap (λ n. n + length s.made) c.write_made ∙ sym (length-append (outcome r w bytes f) s.made) ∙ ap length (sym grown);
          reader_marks = c.reader_marks;
          writer_marks = λ h. or_else-some x.to_bad s.after.stopped h;
        };
      }

      -- the relay looks at its input to know that all was moved
      over_is : (b : Bool) → may_end ≡ b → (b && has_moved_all y) ≡ (b && all_moved r bytes f)
      over_is false h = refl
      over_is true h =
          let l = ends_live h in
          let a = length-drop f.moved mid in
          (λ i. f.read_done && length (if l i then input r bytes f else []) == 0)
          ∙ ap (λ b. f.read_done && b) (sym (same_tests f.moved (length mid) (length (drop f.moved mid)) a fits.moved))

      goes : WrittenAs y (write_part hold may_end y)
      goes =
          let a = sym open_now in
          let b = sym (over_is may_end refl) in
          subst (λ q. WrittenAs y (if q then y else written_by
          (stepped x.lane.writer (may_end && has_moved_all y) hold (length (raw_output r w bytes f)) (output r bytes f)) y)) a
          (subst (λ q. WrittenAs y (written_by
          (stepped x.lane.writer q hold (length (raw_output r w bytes f)) (output r bytes f)) y)) b as-counts)

    -- a held direction stays as it is
    rests : f.held ≡ true → WrittenAs y (write_part hold may_end y)
    rests h =
        subst (λ q. WrittenAs y (if q then y else written_by
        (stepped x.lane.writer (may_end && has_moved_all y) hold (length (raw_output r w bytes f)) (output r bytes f)) y)) (sym h)
        (record {
          used = (λ i. if h i then f else record f { turned = first_from (write_stops r w bytes hold f) f.turned (f.moved - f.turned) });
          place =
              (λ i. or_else x.to_bad (if h i then None else met w xs f.turned over (nat_lt (length (raw_output r w bytes f)) hold)))
              ∙ or_else-none x.to_bad;
          done = by_may may_end;
          from_bad = refl;
          carries = subst (Carries rk wk bytes ended from_live true) (sym (in_counts-same rk wk bytes ended from_live true x c)) c;
        })
      where
        by_may : (b : Bool) → ended_by b f ≡ f
        by_may true = λ i. if h i then f
            else record f {
              write_done =
                  f.write_done || (all_moved r bytes f && f.turned ==
                  f.moved && is_over w mid (nat_lt (length (raw_output r w bytes f)) hold));
            }
        by_may false = refl

    by_held : (b : Bool) → f.held ≡ b → WrittenAs y (write_part hold may_end y)
    by_held true h = rests h
    by_held false h = goes h

    -- the write filter's part of a round
    pub writes-as : WrittenAs x (write_part hold may_end x)
    writes-as = subst (λ z. WrittenAs z (write_part hold may_end z)) (in_counts-same rk wk bytes ended from_live true x c)
        (by_held f.held refl)
