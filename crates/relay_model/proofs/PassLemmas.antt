-- What passing leaves. Each part of a round sets one count or one flag, so where a round changes nothing no part does.
use Rattle.std.proofs.Common.{◌≡◌, ℕ, zero, suc, ◌+◌, ◌-◌, ◌/◌, ◌<◌, ◌≤◌, Bool, true, false, ◌==◌, ◌&&◌, ◌||◌, not, if◌then◌else◌, ◌⊎◌, inl}
use Rattle.std.proofs.Common.{inr, List, [], length, take, None, refl, sym, ◌∙◌, ap, arith, eq-eqb}
use Rattle.std.specs.Prelude.{nat_lt, nat_le, is_some}
use Rattle.std.proofs.lemmas.Bool.{leb-true, leb-false, lt-ltb, ltb-true, ltb-false}
use Rattle.std.proofs.lemmas.List.{take-take, length-take-le}
use Rattle.std.proofs.Math.ListN.{drop_of_length-le}
use Rattle.filter_model.specs.Filter.{Filter, met}
use Rattle.relay_model.specs.Flow.{Flow, middle, raw_input, input, output, raw_output, Fits}
use Rattle.relay_model.specs.Conserved.{all_moved}
use Rattle.relay_model.specs.Pass.{read_stops, with_used, with_read_done, with_moved, with_held, write_stops, with_turned, with_write_done}
use Rattle.relay_model.specs.Pass.{read_place, write_place}
use Rattle.filter_model.specs.Stopping.{first_from}
use Rattle.relay_model.specs.PassLaws.{whole_round}
use Rattle.relay_model.proofs.PassKeeps.{first_from-above}

-- a search that stays at its start has nothing to go over, or stops there
first_from-stays : (stop : ℕ → Bool) (n left : ℕ) → first_from stop n left ≡ n → (left ≡ 0) ⊎ (stop n ≡ true)
first_from-stays stop n zero h = inl refl
first_from-stays stop n (suc left) h = by_flag (first_from-above stop (n + 1) left) (stop n) refl h
  where
    by_flag : n + 1 ≤ first_from stop (n + 1) left → (b : Bool) → stop n ≡ b → (if b then n else first_from stop (n + 1) left) ≡ n
        → (suc left ≡ 0) ⊎ (stop n ≡ true)
    by_flag above true e k = inr e
    by_flag above false e k = absurd (omega arith)

either_true : (a b : Bool) → (a || b) ≡ true → (a ≡ true) ⊎ (b ≡ true)
either_true true b h = inl refl
either_true false b h = inr h

-- with room and a byte left, a filter that meets nothing has a good next byte
met-none : (f : Filter) (xs : List ℕ) (used : ℕ) (over room : Bool) → room ≡ true → used < length xs → met f xs used over room ≡
    None → f.bad (take (used + 1) xs) ≡ None
met-none f xs used over room is_room left h =
    let next : nat_lt used (length xs) ≡ true = lt-ltb used (length xs) left in
    sym
    (ap (λ b. if b then (if nat_lt used (length xs) then f.bad (take (used + 1) xs) else (if over then f.bad_at_end xs else None))
    else None) is_room
    ∙ ap (λ b. if b then f.bad (take (used + 1) xs) else (if over then f.bad_at_end xs else None)) next)
    ∙ h

-- a field of either of two values that share it
of_both : {A : Type 0} (field : Flow → A) (b : Bool) (x y z : Flow) → field x ≡ field z → field y ≡ field z → field
    (if b then x else y) ≡ field z
of_both field true x y z p q = p
of_both field false x y z p q = q

module _ (r w : Filter) (read : List ℕ) (ended : Bool) (mark hold : ℕ) (f : Flow) (still : whole_round r w read ended mark hold f ≡ f) where
  abbrev pub f1 : Flow
  f1 = with_held r w read hold f

  abbrev pub f2 : Flow
  f2 = with_used r read mark f1

  abbrev pub f3 : Flow
  f3 = with_read_done r read mark ended f2

  abbrev pub f4 : Flow
  f4 = with_moved r read f3

  abbrev pub f5 : Flow
  f5 = with_turned r w read hold f4

  abbrev f6 : Flow
  f6 = with_write_done r w read hold f5

  -- a field that the last part leaves, and one that the last two, the last three leave
  after_5 : {A : Type 0} (field : Flow → A) → ((x : Flow) (b : Bool) → field (record x { write_done = b }) ≡ field x) → field f5 ≡ field f
  after_5 field keeps = sym (of_both field f5.held f5 _ f5 refl (keeps f5 _)) ∙ ap field still

  after_4 : {A : Type 0} (field : Flow → A) → ((x : Flow) (b : Bool) → field (record x { write_done = b }) ≡ field x) →
      ((x : Flow) (n : ℕ) → field (record x { turned = n }) ≡ field x) → field f4 ≡ field f
  after_4 field keeps keeps_turned = sym (of_both field f4.held f4 _ f4 refl (keeps_turned f4 _)) ∙ after_5 field keeps

  after_3 : {A : Type 0} (field : Flow → A) → ((x : Flow) (b : Bool) → field (record x { write_done = b }) ≡ field x) →
      ((x : Flow) (n : ℕ) → field (record x { turned = n }) ≡ field x) →
      ((x : Flow) (n : ℕ) → field (record x { moved = n }) ≡ field x) → field f3 ≡ field f
  after_3 field keeps keeps_turned keeps_moved = sym (of_both field _ (record f3 { moved = length (middle r read f3) }) f3 f3
      (keeps_moved f3 _) refl) ∙ after_4 field keeps keeps_turned

  pub is_1 : f1 ≡ f
  is_1 = ap (λ b. record f { held = b }) (after_3 (λ x. x.held) (λ x b. refl) (λ x n. refl) (λ x n. refl))

  pub is_2 : f2 ≡ f
  is_2 = ap (λ n. record f1 { used = n }) (after_3 (λ x. x.used) (λ x b. refl) (λ x n. refl) (λ x n. refl)) ∙ ap
      (λ (x : Flow). record x { used = f.used }) is_1

  pub is_3 : f3 ≡ f
  is_3 = ap (λ b. record f2 { read_done = b }) (after_3 (λ x. x.read_done) (λ x b. refl) (λ x n. refl) (λ x n. refl)) ∙ ap
      (λ (x : Flow). record x { read_done = f.read_done }) is_2

  pub is_4 : f4 ≡ f
  is_4 =
      by_test _
      ∙ ap (λ n. record f3 { moved = n }) (after_4 (λ x. x.moved) (λ x b. refl) (λ x n. refl))
      ∙ ap (λ (x : Flow). record x { moved = f.moved }) is_3
    where
      by_test : (b : Bool) → (if b then record f3 { moved = length (middle r read f3) } else f3)
          ≡ record f3 { moved = (if b then record f3 { moved = length (middle r read f3) } else f3).moved }
      by_test true = refl
      by_test false = refl

  pub is_5 : f5 ≡ f
  is_5 =
      by_held f4.held
      ∙ ap (λ n. record f4 { turned = n }) (after_5 (λ x. x.turned) (λ x b. refl))
      ∙ ap (λ (x : Flow). record x { turned = f.turned }) is_4
    where
      stop : ℕ
      stop = first_from (write_stops r w read hold f4) f4.turned (f4.moved - f4.turned)

      by_held : (b : Bool) → (if b then f4 else record f4 { turned = stop }) ≡ record f4 {
        turned =
            (if b then f4 else record f4 { turned = stop }).turned;
      }
      by_held true = refl
      by_held false = refl

  pub still_held : with_held r w read hold f ≡ f
  still_held = is_1

  pub still_used : with_used r read mark f ≡ f
  still_used = ap (with_used r read mark) (sym is_1) ∙ is_2

  pub still_moved : with_moved r read f ≡ f
  still_moved = ap (with_moved r read) (sym is_3) ∙ is_4

  pub still_turned : with_turned r w read hold f ≡ f
  still_turned = ap (with_turned r w read hold) (sym is_4) ∙ is_5

-- what passing leaves of the buffers
pub record Emptied (r w : Filter) (read : List ℕ) (hold : ℕ) (f : Flow) : Type 0 where
  pub free : f.held ≡ false → (raw_input read f ≡ []) × (input r read f ≡ []) × (output r read f ≡ [])
  pub held : f.held ≡ true → hold / 2 < length (raw_output r w read f)

pub passing_empties : (r w : Filter) (read : List ℕ) (ended : Bool) (mark hold : ℕ) (f : Flow) → 0 < mark → 0 < hold →
    Fits r w read ended f → read_place r read mark ended f ≡ None → write_place r w read hold true f ≡ None →
    whole_round r w read ended mark hold f ≡ f → Emptied r w read hold f
passing_empties r w read ended mark hold f mark_some hold_some fits good_in good_out still = record { free = free; held = held }
  where
    full : ℕ
    full = length (raw_output r w read f)

    xs : List ℕ
    xs = middle r read f

    held_is : (if nat_le hold full then true else (if nat_le full (hold / 2) then false else f.held)) ≡ f.held
    held_is = ap (λ x. x.held) (still_held r w read ended mark hold f still)

    held : f.held ≡ true → hold / 2 < full
    held h = by_test (nat_le hold full) refl (nat_le full (hold / 2)) refl (held_is ∙ h)
      where
        by_test : (a : Bool) → nat_le hold full ≡ a → (b : Bool) → nat_le full (hold / 2) ≡ b →
            (if a then true else (if b then false else f.held)) ≡ true → hold / 2 < full
        by_test true p b q k = let le = leb-true hold full p in omega arith
        by_test false p true q k = absurd (cc)
        by_test false p false q k = leb-false full (hold / 2) q

    below : f.held ≡ false → full < hold
    below h = by_test (nat_le hold full) refl (held_is ∙ h)
      where
        by_test : (a : Bool) → nat_le hold full ≡ a → (if a then true else (if nat_le full (hold / 2) then false else f.held)) ≡
            false → full < hold
        by_test true p k = absurd (cc)
        by_test false p k = leb-false hold full p

    -- a bad next byte would be met
    good_next : f.held ≡ false → f.turned < f.moved → w.bad (take (f.turned + 1) xs) ≡ None
    good_next h lt =
        ap w.bad (sym (take-take (f.turned + 1) f.moved xs (omega arith)))
        ∙ met-none w (take f.moved xs) f.turned (all_moved r read f) (nat_lt full hold) (lt-ltb full hold (below h))
        (let here = length-take-le f.moved xs fits.moved in omega arith)
        (ap (λ b. if b then None else met w (take f.moved xs) f.turned (all_moved r read f) (nat_lt full hold)) (sym h) ∙ good_out)

    turned_is : f.held ≡ false → first_from (write_stops r w read hold f) f.turned (f.moved - f.turned) ≡ f.turned
    turned_is h =
        ap (λ b. (if b then f else record f {
          turned = first_from (write_stops r w read hold f) f.turned (f.moved - f.turned);
        }).turned) (sym h)
        ∙ ap (λ x. x.turned) (still_turned r w read ended mark hold f still)

    all_turned : f.held ≡ false → f.turned ≡ f.moved
    all_turned h = by_order (nat_lt f.turned f.moved) refl
      where
        stops : f.turned < f.moved → write_stops r w read hold f f.turned ≡ true → f.turned ≡ f.moved
        stops lt e =
            elim (either_true (nat_le hold full) (is_some (w.bad (take (f.turned + 1) xs))) e) [
              | inl p ↦ absurd (let le = leb-true hold full p in let lt = below h in omega arith)
              | inr q ↦ absurd (let good = ap is_some (good_next h lt) in cc)
            ]

        by_order : (b : Bool) → nat_lt f.turned f.moved ≡ b → f.turned ≡ f.moved
        by_order true p =
            elim (first_from-stays (write_stops r w read hold f) f.turned (f.moved - f.turned) (turned_is h)) [
              | inl q ↦ (let le = fits.turned in omega arith)
              | inr q ↦ stops (ltb-true f.turned f.moved p) q
            ]
        by_order false p = let le = fits.turned in let ge = ltb-false f.turned f.moved p in omega arith

    no_output : f.held ≡ false → output r read f ≡ []
    no_output h = drop_of_length-le (take f.moved xs) (let here = length-take-le f.moved xs fits.moved in let all = all_turned h in
        omega arith)

    moves : f.held ≡ false → (not f.held && length (output r read f) == 0) ≡ true
    moves h = ap (λ b. not b && length (output r read f) == 0) h ∙ eq-eqb (length (output r read f)) 0 (ap length (no_output h))

    is_all_moved : f.held ≡ false → length xs ≡ f.moved
    is_all_moved h =
        ap (λ b. (if b then record f { moved = length xs } else f).moved) (sym (moves h))
        ∙ ap (λ x. x.moved) (still_moved r w read ended mark hold f still)

    no_input : f.held ≡ false → input r read f ≡ []
    no_input h = drop_of_length-le xs (let all = is_all_moved h in omega arith)

    all_used : f.held ≡ false → f.used ≡ length read
    all_used h = by_order (nat_lt f.used (length read)) refl
      where
        room : length (input r read f) < mark
        room = let none = ap length (no_input h) in omega arith

        stops : f.used < length read → read_stops r read mark f f.used ≡ true → f.used ≡ length read
        stops lt e =
            elim (either_true (nat_le mark (length (input r read f))) (is_some (r.bad (take (f.used + 1) read))) e) [
              | inl p ↦ absurd (let le = leb-true mark (length (input r read f)) p in let lt = room in omega arith)
              | inr q ↦
                  absurd
                  (let good = ap is_some (met-none r read f.used ended (nat_lt (length (input r read f)) mark)
                  (lt-ltb (length (input r read f)) mark room) lt good_in) in cc)
            ]

        by_order : (b : Bool) → nat_lt f.used (length read) ≡ b → f.used ≡ length read
        by_order true p =
            elim (first_from-stays (read_stops r read mark f) f.used (length read - f.used)
            (ap (λ x. x.used) (still_used r w read ended mark hold f still))) [
              | inl q ↦ (let le = fits.used in omega arith)
              | inr q ↦ stops (ltb-true f.used (length read) p) q
            ]
        by_order false p = let le = fits.used in let ge = ltb-false f.used (length read) p in omega arith

    free : f.held ≡ false → (raw_input read f ≡ []) × (input r read f ≡ []) × (output r read f ≡ [])
    free h = (drop_of_length-le read (let all = all_used h in omega arith), no_input h, no_output h)
