-- A group's bucket always owes less than the least share, by induction over the steps; so behind a turn in which its members moved
-- nothing, and two ticks, the group isn't suspended.
use Rattle.std.proofs.Common.{◌≡◌, ℕ, suc, ◌+◌, ◌-◌, ◌/◌, ◌≤◌, Bool, true, false, ◌==◌, ◌&&◌, ◌||◌, List, [], ◌∷◌, ◌++◌, length, take, Some}
use Rattle.std.proofs.Common.{◌⊎◌, inl, inr, refl, sym, ◌∙◌, ap, subst, arith, append_assoc, append-nil, length-append, slice_index_or}
use Rattle.std.proofs.Common.{eqb-true}
use Rattle.std.specs.Prelude.{nat_lt, slice_get}
use Rattle.std.specs.List.{list_any}
use Rattle.std.proofs.Math.Seq.{take-append_seam}
use Rattle.std.proofs.lemmas.Bool.{cases_lt, le-ltb, or_parts}
use Rattle.std.proofs.lemmas.List.{take_all, get_or_push}
use Rattle.std.proofs.lemmas.List.Sums.{sum_by-cons}
use Rattle.token_bucket.specs.declared.limit.Dir.{Dir}
use Rattle.token_bucket.specs.declared.limit.Dir.TheVariants as dir
use Rattle.ev_types.specs.declared.entry.Entry.{Entry}
use Rattle.ev_types.specs.declared.entry.Entry.TheVariants as entry
use Rattle.ev_types.specs.Trace.{Event, Trace}
use Rattle.relay_model.specs.Settings.{Settings, GroupSet}
use Rattle.token_bucket.specs.Spells.{ticks, Spell, Moves, spells}
use Rattle.token_bucket.specs.Levels.{limit_of}
use Rattle.relay_model.specs.Groups.{beat_among, beats_among, group_spells, least_share, group_level, no_spell, level_at_start}
use Rattle.relay_model.specs.Groups.{level_at_end, suspended_in, is_suspended, members}
use Rattle.relay_model.specs.Stages.{State}
use Rattle.relay_model.specs.Turn.{Reaches, Puts, begins}
use Rattle.relay_model.specs.RatesKept.{is_turn, time_by, bytes_of, moved_among}
use Rattle.relay_model.specs.MovingOn.{with_turn}
use Rattle.relay_model.specs.Refills.{OwesAtMost, beginning, GroupsOweLess, GroupsComeBack}
use Rattle.relay_model.proofs.PastLemmas.{more_moved, spells-moves, beats_among-push, group_spells-turn}
use Rattle.relay_model.proofs.QuietSteps.{kept-quietly}
use Rattle.relay_model.proofs.Shapes.{ShapeBy, shape-puts}
use Rattle.relay_model.proofs.ReachLemmas.{reaches-holds}
use Rattle.relay_model.proofs.RatesLaw.{Rated, rated-goes, rated-puts, rated}
use Rattle.relay_model.proofs.RateSteps.{puts-later}
use Rattle.relay_model.proofs.RateBound.{div-later, same_time}
use Rattle.relay_model.proofs.GroupSteps.{group_spells-last, not_suspended-left, share-parts}
use Rattle.relay_model.proofs.GroupBound.{part, puts-shared}
use Rattle.relay_model.proofs.RefillLemmas.{two_ticks_bring, begun-owes, moved-owes}
use Rattle.relay_model.proofs.SideDebtLemmas.{more_moved-push, more_moved-none, last-view, turn-is}

-- A group that holds the least share as the running turn begins, in which nothing was moved yet, isn't suspended.
enough-frees : (x : GroupSet) (d : Dir) (xs : List Spell) (time : ℕ) → 1 ≤ least_share x →
    least_share x ≤ group_level x d (xs ++ beginning time ∷ []) time → is_suspended x d (xs ++ beginning time ∷ []) ≡ false
enough-frees x d xs time some enough =
    ap (suspended_in x d all) count ∙ (λ i. none_left i || (suspended_in x d all n && enough_left i)) ∙ last (suspended_in x d all n)
  where
    all : List Spell
    all = xs ++ beginning time ∷ []

    n : ℕ
    n = length xs

    count : length all ≡ suc n
    count = let a = length-append xs (beginning time ∷ []) in omega (arith, a)

    running : slice_index_or all (n + 1 - 1) no_spell ≡ beginning time
    running = get_or_push xs (beginning time) no_spell (n + 1 - 1) (omega arith)

    at_end : level_at_end x d all (n + 1) ≡ group_level x d all time
    at_end =
        (λ i. group_level x d (take_all (n + 1) all (omega (arith, count)) i) (running i).time)

    whole : take (n + 1 - 1) all ≡ xs
    whole = (let a : n + 1 - 1 ≡ n = omega arith in ap (λ k. take k all) a) ∙ take-append_seam xs (beginning time ∷ [])

    at_start : level_at_start x d all (n + 1) ≡ group_level x d all time
    at_start = λ i. group_level x d (whole i ++ record { time = (running i).time; moved = 0 } ∷ []) (running i).time

    some_there : (v : ℕ) → 1 ≤ v → (v == 0) ≡ false
    some_there v h = go (v == 0) refl
      where
        go : (b : Bool) → (v == 0) ≡ b → (v == 0) ≡ false
        go false e = e
        go true e = absurd (let z = eqb-true v 0 e in omega arith)

    none_left : (level_at_end x d all (n + 1) == 0) ≡ false
    none_left = ap (λ v. v == 0) at_end ∙ some_there (group_level x d all time) (omega (arith, some, enough))

    enough_left : nat_lt (level_at_start x d all (n + 1)) (least_share x) ≡ false
    enough_left = ap (λ v. nat_lt v (least_share x)) at_start ∙ le-ltb (group_level x d all time) (least_share x) enough

    last : (b : Bool) → (false || (b && false)) ≡ false
    last true = refl
    last false = refl

module _ (g : Settings) (n : ℕ) (y : GroupSet) (d : Dir) (is : slice_get g.groups n ≡ Some y) where
  abbrev OwesLess : Trace → ℕ → Type 0
  OwesLess t time = OwesAtMost (limit_of y.cfg d) (least_share y - 1) 0 (limit_of y.cfg d).rate (group_spells g n d t) time

  tick-later : (a b : ℕ) → a ≤ b → a / (limit_of y.cfg d).tick ≤ b / (limit_of y.cfg d).tick
  tick-later a b le = go d
    where
      go : (v : Dir) → a / (limit_of y.cfg v).tick ≤ b / (limit_of y.cfg v).tick
      go dir.Read = div-later a b y.cfg.tick_ms y.cfg.ticks le
      go dir.Write = div-later a b y.cfg.tick_ms y.cfg.ticks le

  group-moves : (t : Trace) (x : Event) → is_turn x ≡ false →
      group_spells g n d (t ++ x ∷ []) ≡ more_moved (bytes_of (beat_among g n d t x)) (group_spells g n d t)
  group-moves t x h =
      ap spells (beats_among-push g n d [] t x) ∙ ap (λ b. spells (beats_among g n d [] t ++ b ∷ [])) (is-moves x h)
      ∙ spells-moves (beats_among g n d [] t) (bytes_of (beat_among g n d t x))
    where
      is-moves : (x : Event) → is_turn x ≡ false → beat_among g n d t x ≡ Moves (bytes_of (beat_among g n d t x))
      is-moves (entry.Turn ms, bytes) h = absurd (cc)
      is-moves (entry.Read side room answer, bytes) h = refl
      is-moves (entry.Write side offered answer, bytes) h = refl
      is-moves _ h = refl

  owes-puts : (t : Trace) (s : State) (e : Entry) (bytes : List ℕ) (new : State) → Rated g t s → Puts g t s.stage s.plain e bytes new →
      OwesLess t s.plain.time → OwesLess (t ++ (e, bytes) ∷ []) new.plain.time
  owes-puts t s e bytes new rates p owed = by-turn (is_turn (e, bytes)) refl
    where
      shape : ShapeBy (e, bytes) s.plain new.plain
      shape = shape-puts g t s.stage s.plain e bytes new p

      Wanted : Type 0
      Wanted = OwesLess (t ++ (e, bytes) ∷ []) new.plain.time

      moves : is_turn (e, bytes) ≡ false → Wanted
      moves h =
          let still : new.plain.time ≡ s.plain.time = shape.time ∙ same_time (e, bytes) s.plain.time h in
          subst (λ m. OwesLess (t ++ (e, bytes) ∷ []) m) (sym still)
          (subst (λ xs. OwesAtMost (limit_of y.cfg d) (least_share y - 1) 0 (limit_of y.cfg d).rate xs s.plain.time)
          (sym (group-moves t (e, bytes) h)) (elim (last-view (group_spells g n d t)) [
            | inl nothing ↦
                subst (λ xs. OwesAtMost (limit_of y.cfg d) (least_share y - 1) 0 (limit_of y.cfg d).rate xs s.plain.time)
                (nothing ∙ sym (ap (more_moved (bytes_of (beat_among g n d t (e, bytes)))) nothing)) owed
            | inr k ↦ some k.0 k.1 k.2
          ]))
        where
          some : (ys : List Spell) (x : Spell) → group_spells g n d t ≡ ys ++ x ∷ [] →
              OwesAtMost (limit_of y.cfg d) (least_share y - 1) 0 (limit_of y.cfg d).rate
              (more_moved (bytes_of (beat_among g n d t (e, bytes))) (group_spells g n d t)) s.plain.time
          some ys x ends =
              subst (λ xs. OwesAtMost (limit_of y.cfg d) (least_share y - 1) 0 (limit_of y.cfg d).rate xs s.plain.time)
              (sym (ap (more_moved (bytes_of (beat_among g n d t (e, bytes)))) ends
              ∙ more_moved-push (bytes_of (beat_among g n d t (e, bytes))) ys x))
              (moved-owes (limit_of y.cfg d) (least_share y) (least_share y - 1) s.plain.time (bytes_of (beat_among g n d t (e, bytes)))
              (omega arith) 0 (limit_of y.cfg d).rate ys x
              (subst (λ xs. (bytes_of (beat_among g n d t (e, bytes)) ≤ group_level y d xs s.plain.time) ⊎
              ((bytes_of (beat_among g n d t (e, bytes)) ≤ least_share y) × (1 ≤ group_level y d xs s.plain.time))) ends may)
              (subst (λ xs. OwesAtMost (limit_of y.cfg d) (least_share y - 1) 0 (limit_of y.cfg d).rate xs s.plain.time) ends owed))
            where
              within : bytes_of (beat_among g n d t (e, bytes)) ≤ part g n y is t s.plain d
              within = puts-shared g t s.stage s.plain e bytes new n y d is (λ a. (rates.told a).group) p

              may : (bytes_of (beat_among g n d t (e, bytes)) ≤ group_level y d (group_spells g n d t) s.plain.time) ⊎
                  ((bytes_of (beat_among g n d t (e, bytes)) ≤ least_share y) × (1 ≤ group_level y d (group_spells g n d t) s.plain.time))
              may = elim (share-parts y d (group_spells g n d t) s.plain.time (members s.plain n)) [
                | inl zero ↦ inl (let a = within in omega (arith, a, zero))
                | inr goes_on ↦
                    (let a = within in
                    let b = goes_on.1 in
                    let left = not_suspended-left y d (group_spells g n d t) s.plain.time (length ys)
                    (let c = ap length ends in let f = length-append ys (x ∷ []) in omega (arith, c, f))
                    (group_spells-last g n d t ∙ sym rates.shape.time) goes_on.0 in
                    elim (cases_lt (group_level y d (group_spells g n d t) s.plain.time) (least_share y)) [
                      | inl less ↦ inr (omega (arith, a, b, less), left)
                      | inr enough ↦ inl (omega (arith, a, b, enough))
                    ])
              ]

      by-turn : (b : Bool) → is_turn (e, bytes) ≡ b → Wanted
      by-turn false h = moves h
      by-turn true h =
          let at = turn-is e bytes h in
          let now : new.plain.time ≡ at.0 = shape.time ∙ ap (λ u. time_by s.plain.time (u, bytes)) at.1 in
          let later = puts-later g t s.stage s.plain e bytes new p in
          let told = shape.time in
          subst (λ m. OwesLess (t ++ (e, bytes) ∷ []) m) (sym now)
          (subst (λ xs. OwesAtMost (limit_of y.cfg d) (least_share y - 1) 0 (limit_of y.cfg d).rate xs at.0)
          (sym (ap (λ u. group_spells g n d (t ++ (u, bytes) ∷ [])) at.1 ∙ group_spells-turn g n d t at.0 bytes))
          (begun-owes (limit_of y.cfg d) (least_share y - 1) s.plain.time at.0
          (tick-later s.plain.time at.0 (omega (arith, later, told, now))) 0 (limit_of y.cfg d).rate (group_spells g n d t) owed))

  owes-less : {t : Trace} {s : State} → Reaches g t s → OwesLess t s.plain.time
  owes-less r =
      (reaches-holds g (λ t s. Rated g t s × OwesLess t s.plain.time)
      (rated g begins, record { first = omega arith; each = tt; set_before = omega arith; began_before = tt })
      (λ t s new h q. (
        rated-goes g t s new h.0 q,
        subst (λ m. OwesLess t m) (sym (kept-quietly g t s.stage s.plain new q).time) h.1,
      ))
      (λ t s new e bytes h p. (rated-puts g t s new e bytes h.0 p, owes-puts t s e bytes new h.0 p h.1))
      r).1

  -- entries in which no turn begins and the members move nothing
  quiet-part : (before part : Trace) → list_any is_turn part ≡ false → moved_among g n d before part ≡ 0 →
      group_spells g n d (before ++ part) ≡ group_spells g n d before
  quiet-part before [] turns none = ap (group_spells g n d) (append-nil before)
  quiet-part before (x ∷ xs) turns none =
      let parts = or_parts (is_turn x) (list_any is_turn xs) turns in
      let sum = sum_by-cons bytes_of (beat_among g n d before x) (beats_among g n d (before ++ x ∷ []) xs) in
      let here : bytes_of (beat_among g n d before x) ≡ 0 = omega (arith, sum, none) in
      let later : moved_among g n d (before ++ x ∷ []) xs ≡ 0 = omega (arith, sum, none) in
      ap (group_spells g n d) (sym (append_assoc before (x ∷ []) xs)) ∙ quiet-part (before ++ x ∷ []) xs parts.1 later
      ∙ group-moves before x parts.0 ∙ ap (λ k. more_moved k (group_spells g n d before)) here
      ∙ more_moved-none (group_spells g n d before)

  freed-again : {t : Trace} {s : State} → Reaches g t s → (part : Trace) (one two : ℕ) → 1 ≤ least_share y →
      list_any is_turn part ≡ false → moved_among g n d (with_turn t one []) part ≡ 0 → 1 ≤ ticks y.cfg.tick_ms s.plain.time one →
      1 ≤ ticks y.cfg.tick_ms one two →
      is_suspended y d (group_spells g n d (with_turn (with_turn t one part) two [])) ≡ false
  freed-again {t} {s} r part one two some turns none tick tock =
      ap (is_suspended y d)
      (group_spells-turn g n d (with_turn t one part) two [] ∙ ap (λ xs. xs ++ beginning two ∷ []) first)
      ∙ enough-frees y d (group_spells g n d t ++ beginning one ∷ []) two some (by_dir d (group_spells g n d t) (owes-less r))
    where
      first : group_spells g n d (with_turn t one part) ≡ group_spells g n d t ++ beginning one ∷ []
      first =
          ap (group_spells g n d) (sym (append_assoc t ((entry.Turn one, []) ∷ []) part))
          ∙ quiet-part (with_turn t one []) part turns none ∙ group_spells-turn g n d t one []

      by_dir : (v : Dir) (xs : List Spell) →
          OwesAtMost (limit_of y.cfg v) (least_share y - 1) 0 (limit_of y.cfg v).rate xs s.plain.time →
          least_share y ≤ group_level y v ((xs ++ beginning one ∷ []) ++ beginning two ∷ []) two
      by_dir dir.Read xs k =
          let most = y.cfg.read_within in
          two_ticks_bring (limit_of y.cfg dir.Read) (least_share y) 0 (limit_of y.cfg dir.Read).rate xs s.plain.time one two some
          (omega arith) (omega (arith, most)) k tick tock
      by_dir dir.Write xs k =
          let most = y.cfg.write_within in
          two_ticks_bring (limit_of y.cfg dir.Write) (least_share y) 0 (limit_of y.cfg dir.Write).rate xs s.plain.time one two some
          (omega arith) (omega (arith, most)) k tick tock

pub groups_owe_less : GroupsOweLess
groups_owe_less g t s n d x is r = owes-less g n x d is r

pub groups_come_back : GroupsComeBack
groups_come_back g t s n d x one part two is some r turns none tick tock =
    freed-again g n x d is r part one two some turns none tick tock
