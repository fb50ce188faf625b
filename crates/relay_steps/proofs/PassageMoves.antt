-- What a direction carries, in words of its own bytes alone; and the parts of a round that run no filter.
use Rattle.std.proofs.Common.{◌≡◌, ℕ, ◌+◌, ◌-◌, ◌/◌, ◌≤◌, Bool, true, false, ◌==◌, ◌&&◌, not, if◌then◌else◌, List, [], ◌∷◌, ◌++◌, length}
use Rattle.std.proofs.Common.{take, drop, Option, Some, None, refl, sym, ◌∙◌, ap, subst, arith}
use Rattle.std.specs.Prelude.{is_some, nat_le, nat_lt, nat_eq, ⊤, MatchOption}
use Rattle.std.proofs.lemmas.Bool.{and_parts, eqb-true}
use Rattle.std.proofs.lemmas.Bool.Decides.{nat_tests}
use Rattle.std.proofs.lemmas.List.{length-drop, length-take-le, take-take, take_all}
use Rattle.std.proofs.Math.ListN.{drop_of_length-le}
use Rattle.ev_types.specs.declared.filter.FilterKind.{FilterKind}
use Rattle.filter_model.specs.Filter.{Filter, filter_of, met}
use Rattle.filter_model.specs.FilterLaws.{last_of}
use Rattle.relay_model.specs.Flow.{Flow, Fits, middle, outcome, input, output, raw_input, raw_output}
use Rattle.relay_model.specs.Conserved.{Holds, left, all_moved}
use Rattle.filter_model.specs.Running.{StandsAt}
use Rattle.relay_model.specs.Pass.{with_held, with_moved}
use Rattle.relay_model.proofs.FlowSteps.{output-moved}
use Rattle.relay_state.specs.State.{Lane}
use Rattle.relay_state.specs.Passage.{Passage, hold_part, move_part}

-- A direction carries what its counts leave, its own counts are told, and a filter that stopped has marked its side.
pub record Carries (rk wk : FilterKind) (bytes : List ℕ) (ended from_live to_live : Bool) (x : Passage) : Type 0 where
  pub holds : Holds rk wk (filter_of rk) (filter_of wk) bytes ended from_live to_live x.flow x.lane.buffers x.lane.reader x.lane.writer
  pub read : x.lane.read ≡ length bytes
  pub read_made : x.lane.read_made ≡ length (middle (filter_of rk) bytes x.flow)
  pub write_made : x.lane.write_made ≡ length (outcome (filter_of rk) (filter_of wk) bytes x.flow)
  pub reader_marks : is_some x.lane.reader.stopped ≡ true → is_some x.from_bad ≡ true
  pub writer_marks : is_some x.lane.writer.stopped ≡ true → is_some x.to_bad ≡ true

-- the same with the buffers that the counts leave in place of its own
abbrev pub in_counts : FilterKind → FilterKind → List ℕ → Bool → Bool → Passage → Passage
in_counts rk wk bytes from_live to_live x =
    let l = x.lane in record x { lane = record l { buffers = left (filter_of rk) (filter_of wk) bytes from_live to_live x.flow } }

pub in_counts-same : (rk wk : FilterKind) (bytes : List ℕ) (ended from_live to_live : Bool) (x : Passage) →
    Carries rk wk bytes ended from_live to_live x →
    in_counts rk wk bytes from_live to_live x ≡ x
in_counts-same rk wk bytes ended from_live to_live x c =
    let b = sym c.holds.buffers in let l : Lane = x.lane in λ i. record x { lane = record l { buffers = b i } }

-- The hold mark

module _ (rk wk : FilterKind) (bytes : List ℕ) (ended from_live : Bool) (hold : ℕ) (x : Passage)
    (c : Carries rk wk bytes ended from_live true x) where
  abbrev r : Filter
  r = filter_of rk

  abbrev w : Filter
  w = filter_of wk

  pub hold-flow : with_held r w bytes hold x.flow ≡ (hold_part hold x).flow
  hold-flow =
      let f : Flow = x.flow in
      let n : length (raw_output r w bytes f) ≡ length x.lane.buffers.raw_output = sym (ap (λ b. length b.raw_output) c.holds.buffers) in
      λ i. record f { held = if nat_le hold (n i) then true else (if nat_le (n i) (hold / 2) then false else f.held) }

  pub hold-carries : Carries rk wk bytes ended from_live true (hold_part hold x)
  hold-carries = record {
    holds = record { buffers = c.holds.buffers; reads = c.holds.reads; writes = c.holds.writes };
    read = c.read;
    read_made = c.read_made;
    write_made = c.write_made;
    reader_marks = c.reader_marks;
    writer_marks = c.writer_marks;
  }

-- Moving

-- of two numbers in order, they are the same where nothing is between them
pub same_tests : (a b n : ℕ) → n ≡ b - a → a ≤ b → nat_eq a b ≡ (n == 0)
same_tests a b n e le = grind (arith, nat_tests, e, le)

module _ (rk wk : FilterKind) (bytes : List ℕ) (ended : Bool) where
  abbrev rf : Filter
  rf = filter_of rk

  abbrev wf : Filter
  wf = filter_of wk

  -- what moving changes, and what it keeps
  pub record MovedAs (x new : Passage) : Type 0 where
    pub flow : with_moved (filter_of rk) bytes x.flow ≡ new.flow
    pub from_bad : new.from_bad ≡ x.from_bad
    pub to_bad : new.to_bad ≡ x.to_bad
    pub carries : Carries rk wk bytes ended true true new

  module _ (x : Passage) (fits : Fits (filter_of rk) (filter_of wk) bytes ended x.flow) (c : Carries rk wk bytes ended true true x) where
    abbrev f : Flow
    f = x.flow

    abbrev mid : List ℕ
    mid = middle (filter_of rk) bytes x.flow

    abbrev n : ℕ
    n = length (input (filter_of rk) bytes x.flow)

    abbrev y : Passage
    y = in_counts rk wk bytes true true x

    abbrev test : Bool
    test = not x.flow.held && length (output (filter_of rk) bytes x.flow) == 0

    all_now : f.moved + n ≡ length mid
    all_now = let a = length-drop f.moved mid in let b = fits.moved in omega (arith, a, b)

    -- the output is empty, so that all that was moved was used
    caught_up : test ≡ true → f.turned ≡ f.moved
    caught_up h =
        let none = eqb-true (length (output rf bytes f)) 0 (and_parts (not f.held) (length (output rf bytes f) == 0) h).1 in
        let a = length-drop f.turned (take f.moved mid) in
        let b = length-take-le f.moved mid fits.moved in
        let d = fits.turned in
        omega (arith, none, a, b, d)

    abbrev moved_by : ℕ → Type 0
    moved_by m = StandsAt wk (filter_of wk) (take m (middle (filter_of rk) bytes x.flow)) x.flow.turned
        (all_moved (filter_of rk) bytes (record (x.flow) { moved = m })) x.flow.write_done x.lane.writer

    -- the write filter stands where it stood, also where more was moved
    writer-moved : test ≡ true → moved_by (f.moved + n)
    writer-moved h = go x.lane.writer.stopped refl
      where
        old : moved_by f.moved
        old = c.holds.writes refl

        done : f.turned ≡ f.moved
        done = caught_up h

        long : length (take f.moved mid) ≡ f.moved
        long = length-take-le f.moved mid fits.moved

        front : take f.turned (take f.moved mid) ≡ take f.turned (take (f.moved + n) mid)
        front = take-take f.turned f.moved mid fits.turned ∙ sym (take-take f.turned (f.moved + n) mid (let a = done in omega (arith, a)))

        -- what is met there is a bad end of all that will come
        ends : (place : ℕ) → met wf (take f.moved mid) f.turned (all_moved rf bytes f) true ≡ Some place → f.moved ≡ f.moved + n
        ends place e = by_all (all_moved rf bytes f) refl e
          where
            none_left : nat_lt f.turned (length (take f.moved mid)) ≡ false
            none_left = let a = done in let b = long in grind (arith, nat_tests, a, b)

            by_all : (b : Bool) → all_moved rf bytes f ≡ b → met wf (take f.moved mid) f.turned b true ≡ Some place → f.moved ≡ f.moved + n
            by_all true a e = eqb-true f.moved (length mid) (and_parts f.read_done (nat_eq f.moved (length mid)) a).1 ∙ sym all_now
            by_all false a e =
                absurd (let k : None ≡ Some place =
                (λ i. if sym none_left i then wf.bad (take (f.turned + 1) (take f.moved mid)) else None) ∙ e in cc)

        go : (o : Option ℕ) → x.lane.writer.stopped ≡ o → moved_by (f.moved + n)
        go (Some place) e = subst moved_by
            (ends place (subst (λ o. MatchOption o ⊤ (λ p. met wf (take f.moved mid) f.turned (all_moved rf bytes f) true
            ≡ Some p)) e old.stopped)) old
        go None e = record {
          kind = old.kind;
          since = old.since;
          begun = old.begun;
          used = old.used;
          good = ap wf.bad (sym front) ∙ old.good;
          last = old.last ∙ ap (λ z. last_of (drop wf.since z)) front;
          finished = old.finished;
          stopped = subst (λ o. MatchOption o ⊤
              (λ p. met wf (take (f.moved + n) mid) f.turned (all_moved rf bytes (record f { moved = f.moved + n })) true ≡ Some p))
              (sym e) tt;
        }

    abbrev now : Flow
    now = let f = x.flow in record f { moved = f.moved + length (input (filter_of rk) bytes f) }

    abbrev moved_to : Passage
    moved_to =
        let f = x.flow in
        let l = x.lane in
        let b = left (filter_of rk) (filter_of wk) bytes true true f in
        record x {
          flow = record f { moved = f.moved + length b.input };
          lane = record l { buffers = record b { input = []; output = b.input } };
        }

    output-now : test ≡ true → output rf bytes now ≡ input rf bytes f
    output-now h =
        let none : output rf bytes f ≡ [] =
        nil (output rf bytes f) (eqb-true (length (output rf bytes f)) 0
        (and_parts (not f.held) (length (output rf bytes f) == 0) h).1) in
        output-moved rf wf bytes ended f fits n ∙ (λ i. none i ++ take n (input rf bytes f)) ∙ take_all n (input rf bytes f) (omega arith)
      where
        nil : (xs : List ℕ) → length xs ≡ 0 → xs ≡ []
        nil [] h = refl
        nil (z ∷ xs) h = absurd (cc)

    input-now : input rf bytes now ≡ []
    input-now = (let a = all_now in λ i. drop (a i) mid) ∙ drop_of_length-le mid (omega arith)

    goes : test ≡ true → MovedAs y moved_to
    goes h = record {
      flow = (λ i. if h i then record f { moved = length mid } else f) ∙ (let a = sym all_now in λ i. record f { moved = a i });
      from_bad = refl;
      to_bad = refl;
      carries = record {
        holds = record {
          buffers =
              let a = sym input-now in
              let b = sym (output-now h) in
              λ i. record { raw_input = raw_input bytes f; input = a i; output = b i; raw_output = raw_output rf wf bytes f };
          reads = c.holds.reads;
          writes = λ _. writer-moved h;
        };
        read = c.read;
        read_made = c.read_made;
        write_made = c.write_made;
        reader_marks = c.reader_marks;
        writer_marks = c.writer_marks;
      };
    }

    stays : test ≡ false → MovedAs y y
    stays h = record {
      flow = λ i. if h i then record f { moved = length mid } else f;
      from_bad = refl;
      to_bad = refl;
      carries = subst (Carries rk wk bytes ended true true) (sym (in_counts-same rk wk bytes ended true true x c)) c;
    }

    by_test : (b : Bool) → test ≡ b → MovedAs y (if b then moved_to else y)
    by_test true h = goes h
    by_test false h = stays h

    pub moves-as : MovedAs x (move_part x)
    moves-as = subst (λ z. MovedAs z (move_part z)) (in_counts-same rk wk bytes ended true true x c) (by_test test refl)
