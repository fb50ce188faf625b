-- Rounds of passing: a round changes nothing, or it changes what the code compares and brings a weight down. So passing comes to an end.
use Rattle.std.proofs.Common.{◌≡◌, ◌≢◌, inl, inr, ℕ, zero, suc, ◌+◌, ◌-◌, ◌*◌, ◌/◌, ◌<◌, ◌≤◌, Bool, true, false, not, ◌&&◌, ◌==◌, nat_le}
use Rattle.std.proofs.Common.{if◌then◌else◌, [], ◌++◌, length, Option, Some, None, refl, sym, ◌∙◌, ap, subst, arith, append-nil}
use Rattle.std.proofs.Common.{length-drop, length-append, eqb-true}
use Rattle.std.specs.Prelude.{is_some}
use Rattle.std.proofs.lemmas.List.{nil_from_length}
use mathlib.Core.Logic.{◌⊎◌}
use Rattle.filter_model.specs.Filter.{or_else}
use Rattle.filter_model.specs.FilterStep.{Stepped}
use Rattle.relay_state.specs.State.{lane_moved}
use Rattle.relay_state.specs.Passage.{Passage, rounds, hold_part, read_step, read_by, read_part, move_part, write_step, written_by}
use Rattle.relay_state.specs.Passage.{write_part, has_moved_all, pass_round}
use Rattle.relay_sides.specs.declared.pass.RoundProgress.{RoundProgress}
use Rattle.relay_sides.specs.Links.{IsTold}
use Rattle.relay_sides.specs.Progress.{progress_of}
use Rattle.relay_sides.proofs.StepLemmas.{bit, bit-le, idle, GoesOn, step-within, step-goes}

-- The weight of a direction. A byte weighs more the farther it has to go, and a filter may make two of it; a filter that is not finished
-- may make one more. What may yet be told weighs 1, and so does a direction that is not held. A held one weighs 2 where it is about to
-- be let go.

abbrev pub held_weight : ℕ → Bool → ℕ → ℕ
held_weight hold true n = if nat_le hold n then 0 else (if nat_le n (hold / 2) then 2 else 0)
held_weight hold false n = 1

abbrev pub weight : ℕ → Passage → ℕ
weight hold x =
    5 * length x.lane.buffers.raw_input + 2 * length x.lane.buffers.input + length x.lane.buffers.output
    + 3 * (1 - bit x.flow.read_done) + (1 - bit x.flow.write_done)
    + (1 - bit (is_some x.lane.reader.stopped)) + (1 - bit (is_some x.lane.writer.stopped))
    + (1 - bit (is_some x.from_bad)) + (1 - bit (is_some x.to_bad))
    + held_weight hold x.flow.held (length x.lane.buffers.raw_output)

-- what was counted of a direction
abbrev pub counted : RoundProgress → ℕ
counted r =
    r.reader.used + r.moved + r.writer.used + bit r.reader.finished + bit r.writer.finished + bit r.reader.stopped + bit r.writer.stopped
    + bit r.from_bad + bit r.to_bad

-- a part of a round leaves all as it is, or counts and brings the weight down
abbrev Steps : ℕ → Passage → Passage → Type 0
Steps hold x y = (y ≡ x) ⊎ ((weight hold y < weight hold x) × (counted (progress_of x) < counted (progress_of y)))

then_steps : (hold : ℕ) (x y z : Passage) → Steps hold x y → Steps hold y z → Steps hold x z
then_steps hold x y z (inl p) (inl q) = inl (q ∙ p)
then_steps hold x y z (inl p) (inr q) =
    inr (subst (λ (w : Passage). (weight hold z < weight hold w) × (counted (progress_of w) < counted (progress_of z))) p q)
then_steps hold x y z (inr p) (inl q) =
    inr (subst (λ (w : Passage). (weight hold w < weight hold x) × (counted (progress_of x) < counted (progress_of w))) (sym q) p)
then_steps hold x y z (inr p) (inr q) = inr (omega (arith, p.0, q.0), omega (arith, p.1, q.1))

none_or_some : (n : ℕ) → (n ≡ 0) ⊎ (0 < n)
none_or_some zero = inl refl
none_or_some (suc n) = inr (omega arith)

-- a bad place is put first, or nothing changes
puts_place : (before next : Option ℕ) → (or_else before next ≡ before) ⊎ ((before ≡ None) × (bit (is_some (or_else before next)) ≡ 1))
puts_place (Some x) next = inl refl
puts_place None None = inl refl
puts_place None (Some x) = inr (refl, refl)

puts-le : (before next : Option ℕ) → bit (is_some before) ≤ bit (is_some (or_else before next))
puts-le (Some x) next = omega arith
puts-le None next = omega arith

-- The read filter

module _ (hold mark : ℕ) (over : Bool) (x : Passage) (told : IsTold x) where
  abbrev step : Stepped
  step = read_step mark over x.lane

  pub read_idle : (y : Option ℕ) → or_else x.from_bad x.lane.reader.stopped ≡ y →
      read_by (idle x.lane.reader) x ≡ record x { from_bad = y }
  read_idle y bad =
      let f = x.flow in
      let l = x.lane in
      let b = l.buffers in
      let used : x.flow.used + 0 ≡ x.flow.used = omega arith in
      let made : x.lane.read_made + 0 ≡ x.lane.read_made = omega arith in
      let input = append-nil x.lane.buffers.input in
      λ i. record x {
        flow = record f { used = used i; read_done = sym told.read i };
        lane = record l { buffers = record b { input = input i }; read_made = made i };
        from_bad = bad i;
      }

  read_steps : Steps hold x (read_part mark over x)
  read_steps = go (step-goes x.lane.reader over mark (length x.lane.buffers.input) x.lane.buffers.raw_input)
    where
      still : (or_else x.from_bad x.lane.reader.stopped ≡ x.from_bad)
          ⊎ ((x.from_bad ≡ None) × (bit (is_some (or_else x.from_bad x.lane.reader.stopped)) ≡ 1)) →
          Steps hold x (read_by (idle x.lane.reader) x)
      still (inl same) = inl (read_idle x.from_bad same)
      still (inr put) =
          let none : bit (is_some x.from_bad) ≡ 0 = ap (λ p. bit (is_some p)) put.0 in
          let y : Option ℕ = or_else x.from_bad x.lane.reader.stopped in
          subst (Steps hold x) (sym (read_idle y refl)) (inr (omega (arith, none, put.1), omega (arith, none, put.1)))

      go : (read_step mark over x.lane ≡ idle x.lane.reader) ⊎ GoesOn x.lane.reader (read_step mark over x.lane) →
          Steps hold x (read_by (read_step mark over x.lane) x)
      go (inl same) =
          subst (λ s. Steps hold x (read_by s x)) (sym same) (still (puts_place x.from_bad x.lane.reader.stopped))
      go (inr on) =
          let s : Stepped = read_step mark over x.lane in
          let going : bit x.flow.read_done ≡ 0 = ap bit (told.read ∙ on.unfinished) in
          let unstopped : bit (is_some x.lane.reader.stopped) ≡ 0 = ap (λ p. bit (is_some p)) on.unstopped in
          let left = length-drop s.used x.lane.buffers.raw_input in
          let most = step-within x.lane.reader over mark (length x.lane.buffers.input) x.lane.buffers.raw_input in
          let filled = length-append x.lane.buffers.input s.made in
          let bad = puts-le x.from_bad s.after.stopped in
          let a = bit-le s.after.finished in
          let b = bit-le (is_some s.after.stopped) in
          let d = bit-le (is_some (or_else x.from_bad s.after.stopped)) in
          let made = on.made in
          let some = on.something in
          inr (omega (arith, going, unstopped, left, most, filled, bad, a, b, d, made, some), omega (arith, going, unstopped, bad, some))

  read_told : IsTold (read_part mark over x)
  read_told = record { read = refl; write = told.write }

-- The move

abbrev is_moving : Passage → Bool
is_moving x = not x.flow.held && length x.lane.buffers.output == 0

abbrev moved : Passage → Passage
moved x =
    let f = x.flow in
    record x { flow = record f { moved = f.moved + length x.lane.buffers.input }; lane = lane_moved x.lane }

module _ (hold : ℕ) (x : Passage) where
  abbrev moved_if : Bool → Passage
  moved_if q = if q then moved x else x

  move_steps : Steps hold x (move_part x)
  move_steps = go (is_moving x) refl (none_or_some (length x.lane.buffers.input))
    where
      empty : not x.flow.held && length x.lane.buffers.output == 0 ≡ true → length x.lane.buffers.output ≡ 0
      empty e = eqb-true (length x.lane.buffers.output) 0 (right (not x.flow.held) (length x.lane.buffers.output == 0) e)
        where
          right : (a b : Bool) → a && b ≡ true → b ≡ true
          right true b e = e
          right false b e = absurd (cc)

      go : (q : Bool) → is_moving x ≡ q → (length x.lane.buffers.input ≡ 0) ⊎ (0 < length x.lane.buffers.input) →
          Steps hold x (moved_if q)
      go false e k = inl refl
      go true e (inl none) =
          let a : x.flow.moved + length x.lane.buffers.input ≡ x.flow.moved = omega (arith, none) in
          let b : [] ≡ x.lane.buffers.input = sym (nil_from_length x.lane.buffers.input none) in
          let d : x.lane.buffers.input ≡ x.lane.buffers.output = sym b ∙ sym (nil_from_length x.lane.buffers.output (empty e)) in
          let f = x.flow in
          let l = x.lane in
          let u = l.buffers in
          inl (λ i. record x {
            flow = record f { moved = a i };
            lane = record l { buffers = record u { input = b i; output = d i } };
          })
      go true e (inr some) = inr (omega (arith, some, empty e), omega (arith, some))

  move_keeps : (move_part x).flow.held ≡ x.flow.held
  move_keeps = go (is_moving x)
    where
      go : (q : Bool) → (moved_if q).flow.held ≡ x.flow.held
      go true = refl
      go false = refl

  move_told : IsTold x → IsTold (move_part x)
  move_told told = go (is_moving x)
    where
      go : (q : Bool) → IsTold (moved_if q)
      go true = record { read = told.read; write = told.write }
      go false = told

-- The write filter

module _ (hold : ℕ) (over : Bool) (x : Passage) (told : IsTold x) where
  pub write_idle : (y : Option ℕ) → or_else x.to_bad x.lane.writer.stopped ≡ y →
      written_by (idle x.lane.writer) x ≡ record x { to_bad = y }
  write_idle y bad =
      let f = x.flow in
      let l = x.lane in
      let b = l.buffers in
      let used : x.flow.turned + 0 ≡ x.flow.turned = omega arith in
      let made : x.lane.write_made + 0 ≡ x.lane.write_made = omega arith in
      let output = append-nil x.lane.buffers.raw_output in
      λ i. record x {
        flow = record f { turned = used i; write_done = sym told.write i };
        lane = record l { buffers = record b { raw_output = output i }; write_made = made i };
        to_bad = bad i;
      }

  written_steps : x.flow.held ≡ false → Steps hold x (written_by (write_step hold over x.lane) x)
  written_steps free = go (step-goes x.lane.writer over hold (length x.lane.buffers.raw_output) x.lane.buffers.output)
    where
      still : (or_else x.to_bad x.lane.writer.stopped ≡ x.to_bad)
          ⊎ ((x.to_bad ≡ None) × (bit (is_some (or_else x.to_bad x.lane.writer.stopped)) ≡ 1)) →
          Steps hold x (written_by (idle x.lane.writer) x)
      still (inl same) = inl (write_idle x.to_bad same)
      still (inr put) =
          let none : bit (is_some x.to_bad) ≡ 0 = ap (λ p. bit (is_some p)) put.0 in
          let y : Option ℕ = or_else x.to_bad x.lane.writer.stopped in
          subst (Steps hold x) (sym (write_idle y refl)) (inr (omega (arith, none, put.1), omega (arith, none, put.1)))

      go : (write_step hold over x.lane ≡ idle x.lane.writer) ⊎ GoesOn x.lane.writer (write_step hold over x.lane) →
          Steps hold x (written_by (write_step hold over x.lane) x)
      go (inl same) =
          subst (λ s. Steps hold x (written_by s x)) (sym same) (still (puts_place x.to_bad x.lane.writer.stopped))
      go (inr on) =
          let s : Stepped = write_step hold over x.lane in
          let going : bit x.flow.write_done ≡ 0 = ap bit (told.write ∙ on.unfinished) in
          let unstopped : bit (is_some x.lane.writer.stopped) ≡ 0 = ap (λ p. bit (is_some p)) on.unstopped in
          let left = length-drop s.used x.lane.buffers.output in
          let most = step-within x.lane.writer over hold (length x.lane.buffers.raw_output) x.lane.buffers.output in
          let bad = puts-le x.to_bad s.after.stopped in
          let a = bit-le s.after.finished in
          let b = bit-le (is_some s.after.stopped) in
          let d = bit-le (is_some (or_else x.to_bad s.after.stopped)) in
          let some = on.something in
          let old : held_weight hold x.flow.held (length x.lane.buffers.raw_output) ≡ 1 =
          ap (λ h. held_weight hold h (length x.lane.buffers.raw_output)) free in
          let new : held_weight hold x.flow.held (length (x.lane.buffers.raw_output ++ s.made)) ≡ 1 =
          ap (λ h. held_weight hold h (length (x.lane.buffers.raw_output ++ s.made))) free in
          inr (omega (arith, going, unstopped, left, most, bad, a, b, d, some, old, new), omega (arith, going, unstopped, bad, some))

module _ (hold : ℕ) (may_end : Bool) (x : Passage) where
  abbrev written : Passage
  written = written_by (write_step hold (may_end && has_moved_all x) x.lane) x

  write_steps : IsTold x → Steps hold x (write_part hold may_end x)
  write_steps told = go x.flow.held refl
    where
      go : (h : Bool) → x.flow.held ≡ h → Steps hold x (if h then x else written)
      go true e = inl refl
      go false e = written_steps hold (may_end && has_moved_all x) x told e

  write_keeps : (write_part hold may_end x).flow.held ≡ x.flow.held
  write_keeps = go x.flow.held
    where
      go : (h : Bool) → (if h then x else written).flow.held ≡ x.flow.held
      go true = refl
      go false = refl

-- being held changes nothing, or it changes and brings the weight down
abbrev Turns : ℕ → Passage → Passage → Type 0
Turns hold x y = (y ≡ x) ⊎ ((weight hold y < weight hold x) × (y.flow.held ≢ x.flow.held))

abbrev kept_back : Bool → Bool → Bool → Bool
kept_back h p q = if p then true else (if q then false else h)

abbrev weight_by : Bool → Bool → Bool → ℕ
weight_by true p q = if p then 0 else (if q then 2 else 0)
weight_by false p q = 1

module _ (hold : ℕ) (x : Passage) where
  abbrev full : Bool
  full = nat_le hold (length x.lane.buffers.raw_output)

  abbrev low : Bool
  low = nat_le (length x.lane.buffers.raw_output) (hold / 2)

  held_weight-is : (h : Bool) → held_weight hold h (length x.lane.buffers.raw_output) ≡ weight_by h full low
  held_weight-is true = refl
  held_weight-is false = refl

  by : (h p q : Bool) → (kept_back h p q ≡ h) ⊎ ((weight_by (kept_back h p q) p q < weight_by h p q) × (kept_back h p q ≢ h))
  by true true q = inl refl
  by false true q = inr (omega arith, λ e. absurd (cc))
  by true false true = inr (omega arith, λ e. absurd (cc))
  by false false true = inl refl
  by h false false = inl refl

  held_turns : Turns hold x (hold_part hold x)
  held_turns = go (by x.flow.held full low)
    where
      a : held_weight hold x.flow.held (length x.lane.buffers.raw_output) ≡ weight_by x.flow.held full low
      a = held_weight-is x.flow.held

      b : held_weight hold (kept_back x.flow.held full low) (length x.lane.buffers.raw_output) ≡ weight_by
          (kept_back x.flow.held full low) full low
      b = held_weight-is (kept_back x.flow.held full low)

      go : (kept_back x.flow.held full low ≡ x.flow.held) ⊎
          ((weight_by (kept_back x.flow.held full low) full low < weight_by x.flow.held full low) ×
          (kept_back x.flow.held full low ≢ x.flow.held)) → Turns hold x (hold_part hold x)
      go (inl same) = let flow = x.flow in inl (λ i. record x { flow = record flow { held = same i } })
      go (inr q) = inr (omega (arith, a, b, q.0), q.1)

-- a round leaves all as it is, or changes what the code compares and brings the weight down
abbrev pub Rounds : ℕ → Passage → Passage → Type 0
Rounds hold x y = (y ≡ x) ⊎ ((weight hold y < weight hold x) × (progress_of y ≢ progress_of x))

held_then : (hold : ℕ) (x y z : Passage) → Turns hold x y → Steps hold y z → z.flow.held ≡ y.flow.held → Rounds hold x z
held_then hold x y z (inl p) (inl q) k = inl (q ∙ p)
held_then hold x y z (inl p) (inr q) k =
    let s = subst (λ (w : Passage). (weight hold z < weight hold w) × (counted (progress_of w) < counted (progress_of z))) p q in
    inr (s.0, λ e. absurd (let c : counted (progress_of z) ≡ counted (progress_of x) = ap counted e in omega (arith, c, s.1)))
held_then hold x y z (inr p) (inl q) k =
    inr (subst (λ (w : Passage). weight hold w < weight hold x) (sym q) p.0, λ e. p.1 (sym k ∙ ap (λ r. r.held) e))
held_then hold x y z (inr p) (inr q) k = inr (omega (arith, p.0, q.0), λ e. p.1 (sym k ∙ ap (λ r. r.held) e))

-- Where the direction may be given on, a round is what being held makes, and then parts that leave all as it is, or count.
round_steps : (mark hold : ℕ) (ended from_live : Bool) (x : Passage) → IsTold x →
    Steps hold (hold_part hold x) (pass_round mark hold ended from_live true x)
round_steps mark hold ended false x told =
    write_steps hold false (hold_part hold x) (record { read = told.read; write = told.write })
round_steps mark hold ended true x told =
    let a : Passage = hold_part hold x in
    let b : Passage = read_part mark ended a in
    let c : Passage = move_part b in
    let d : Passage = write_part hold true c in
    let at : IsTold (hold_part hold x) = record { read = told.read; write = told.write } in
    let bt : IsTold (read_part mark ended (hold_part hold x)) = read_told hold mark ended a at in
    then_steps hold a b d (read_steps hold mark ended a at)
    (then_steps hold b c d (move_steps hold b) (write_steps hold true c (move_told hold b bt)))

pub round_falls : (mark hold : ℕ) (ended from_live to_live : Bool) (x : Passage) → IsTold x →
    Rounds hold x (pass_round mark hold ended from_live to_live x)
round_falls mark hold ended true false x told = inl refl
round_falls mark hold ended false false x told = inl refl
round_falls mark hold ended false true x told =
    held_then hold x (hold_part hold x) (write_part hold false (hold_part hold x)) (held_turns hold x)
    (round_steps mark hold ended false x told) (write_keeps hold false (hold_part hold x))
round_falls mark hold ended true true x told =
    let b : Passage = read_part mark ended (hold_part hold x) in
    let c : Passage = move_part b in
    held_then hold x (hold_part hold x) (write_part hold true c) (held_turns hold x)
    (round_steps mark hold ended true x told) (write_keeps hold true c ∙ move_keeps hold b)

-- where what the code compares is the same, all is
pub round_over : (mark hold : ℕ) (ended from_live to_live : Bool) (x y : Passage) → IsTold x →
    y ≡ pass_round mark hold ended from_live to_live x → progress_of y ≡ progress_of x → y ≡ x
round_over mark hold ended from_live to_live x y told once same =
    elim (round_falls mark hold ended from_live to_live x told) [
      | inl is ↦ once ∙ is
      | inr falls ↦ absurd (falls.1 (ap progress_of (sym once) ∙ same))
    ]

-- Rounds don't come back to what the code compared before.

-- more was counted, or what is held is another and stays so while nothing is counted
abbrev pub Went : ℕ → Passage → Passage → Type 0
Went hold x y =
    (counted (progress_of x) < counted (progress_of y))
    ⊎ ((counted (progress_of y) ≡ counted (progress_of x)) × (y.flow.held ≢ x.flow.held) × (hold_part hold y ≡ y))

pub went-apart : (hold : ℕ) (x y : Passage) → Went hold x y → progress_of y ≢ progress_of x
went-apart hold x y (inl p) =
    λ e. absurd (let c : counted (progress_of y) ≡ counted (progress_of x) = ap counted e in omega (arith, c, p))
went-apart hold x y (inr p) = λ e. p.1 (ap (λ r. r.held) e)

held_again : (hold : ℕ) (x : Passage) → hold_part hold (hold_part hold x) ≡ hold_part hold x
held_again hold x =
    let same = again x.flow.held (full hold x) (low hold x) in
    let f = x.flow in
    λ i. record x { flow = record f { held = same i } }
  where
    again : (h p q : Bool) → kept_back (kept_back h p q) p q ≡ kept_back h p q
    again h true q = refl
    again h false true = refl
    again h false false = refl

module _ (mark hold : ℕ) (ended from_live to_live : Bool) where
  abbrev round : Passage → Passage
  round = pass_round mark hold ended from_live to_live

  -- a round changes nothing, or only what is held, or it counts
  round_counts : (x : Passage) → IsTold x →
      (pass_round mark hold ended from_live to_live x ≡ x) ⊎ ((pass_round mark hold ended from_live to_live x ≡ hold_part hold x)
      ⊎ (counted (progress_of x) < counted (progress_of (pass_round mark hold ended from_live to_live x))))
  round_counts x told = go from_live to_live
    where
      go : (f t : Bool) → (pass_round mark hold ended f t x ≡ x) ⊎ ((pass_round mark hold ended f t x ≡ hold_part hold x)
          ⊎ (counted (progress_of x) < counted (progress_of (pass_round mark hold ended f t x))))
      go true false = inl refl
      go false false = inl refl
      go f true =
          elim (round_steps mark hold ended f x told) [
            | inl same ↦ inr (inl same)
            | inr on ↦ inr (inr on.1)
          ]

  went_first : (x : Passage) → IsTold x → progress_of (pass_round mark hold ended from_live to_live x) ≢ progress_of x →
      Went hold x (pass_round mark hold ended from_live to_live x)
  went_first x told differs =
      elim (round_counts x told) [
        | inl same ↦ absurd (differs (ap progress_of same))
        | inr (inl same) ↦ inr (
          ap (λ z. counted (progress_of z)) same,
          λ e. differs (ap progress_of same ∙ (
              let k = sym (ap (λ (z : Passage). z.flow.held) same) ∙ e in
              let r = progress_of x in λ i. record r { held = k i })),
          ap (hold_part hold) same ∙ held_again hold x ∙ sym same,
        )
        | inr (inr on) ↦ inl on
      ]

  went_more : (x y : Passage) → IsTold y → Went hold x y → progress_of (pass_round mark hold ended from_live to_live y) ≢ progress_of y →
      Went hold x (pass_round mark hold ended from_live to_live y)
  went_more x y told went differs =
      elim (round_counts y told) [
        | inl same ↦ absurd (differs (ap progress_of same))
        | inr (inl same) ↦ elim went [
          | inl p ↦ inl (let k = ap (λ z. counted (progress_of z)) same in omega (arith, p, k))
          | inr p ↦ absurd (differs (ap progress_of (same ∙ p.2)))
        ]
        | inr (inr on) ↦ elim went [
          | inl p ↦ inl (omega (arith, p, on))
          | inr p ↦ inl (omega (arith, p.0, on))
        ]
      ]

  -- one round more, behind some that changed something or none
  pub went_next : (changed : Bool) (x y z : Passage) → (changed ≡ false → y ≡ x) → (changed ≡ true → Went hold x y) → IsTold y →
      z ≡ pass_round mark hold ended from_live to_live y → progress_of z ≢ progress_of y → Went hold x z
  went_next changed x y z still went told once differs =
      subst (Went hold x) (sym once) (go changed still went)
    where
      apart : progress_of (pass_round mark hold ended from_live to_live y) ≢ progress_of y
      apart = λ e. differs (ap progress_of once ∙ e)

      go : (b : Bool) → (b ≡ false → y ≡ x) → (b ≡ true → Went hold x y) → Went hold x (pass_round mark hold ended from_live to_live y)
      go false h k = subst (λ w. Went hold w (pass_round mark hold ended from_live to_live y)) (h refl) (went_first y told apart)
      go true h k = went_more x y told (k refl) apart

-- a round after so many
pub rounds-suc : (n : ℕ) (f : Passage → Passage) (x : Passage) → rounds (suc n) f x ≡ f (rounds n f x)
rounds-suc zero f x = refl
rounds-suc (suc n) f x = rounds-suc n f (f x)
