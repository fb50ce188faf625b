-- What a script answers up to where a turn begins, and when it begins: the trace before is answered too, the turn has the clock's reading,
-- and no turn so far is later than the clock of a closing turn.
use Rattle.std.proofs.Common.{◌≡◌, ℕ, zero, suc, ◌+◌, ◌-◌, ◌*◌, ◌<◌, ◌≤◌, max, min, Bool, true, false, ◌||◌, if◌then◌else◌, List, []}
use Rattle.std.proofs.Common.{◌∷◌, ◌++◌, length, map, fold}
use Rattle.std.proofs.Common.{count_by, Option, ◌⊎◌, inl, inr, refl, sym, ◌∙◌, ap, subst, arith}
use Rattle.std.specs.Prelude.{All, slice_index_or}
use Rattle.std.specs.List.{list_any}
use Rattle.std.proofs.lemmas.Bool.{cases_lt, or_left, or_right, or_parts}
use Rattle.std.proofs.lemmas.List.{get_or_past}
use Rattle.std.proofs.lemmas.List.Elements.{All-get_or}
use Rattle.std.proofs.lemmas.List.Folds.{list_any-append}
use Rattle.std.proofs.lemmas.List.Sums.{sum_by-append}
use Rattle.std.proofs.Math.Nat.{mul-le-mul_left}
use Rattle.ev_types.specs.declared.entry.Entry.{Entry}
use Rattle.ev_types.specs.declared.entry.Entry.TheVariants as entry
use Rattle.ev_types.specs.ScriptTurn.{ScriptTurn}
use Rattle.ev_types.specs.Times.{latest, greatest_time, turn_time}
use Rattle.ev_types.specs.Trace.{Event, Trace}
use Rattle.relay_model.specs.Rooms.{Want}
use Rattle.relay_model.specs.RatesKept.{is_turn, time_by, last_time}
use Rattle.relay_model.specs.Totals.{opened}
use Rattle.relay_model.specs.Scripted.{reading, begun, waiting, poll_fails, marks}
use Rattle.relay_model.specs.Plays.{PlayStep, events, want_events, ready_events, accepted, own_events, IsAnswered}
use Rattle.relay_model.proofs.ListEnds.{cons-head, cons-tail, split-at_one}
use Rattle.relay_model.proofs.PlayedLemmas.{answers_go_on}
use Rattle.drain_laws.specs.CanDrain.{last_moment}

-- Lists

pub none-count : (t : Trace) → list_any is_turn t ≡ false → count_by is_turn t ≡ 0
none-count [] h = refl
none-count (y ∷ t) h =
    let parts = or_parts (is_turn y) (list_any is_turn t) h in
    let one : count_by is_turn (y ∷ []) ≡ 0 = ap (λ b. 0 + (if b then 1 else 0)) parts.0 in
    let rest = none-count t parts.1 in
    sum_by-append (λ x. if is_turn x then 1 else 0) (y ∷ []) t ∙ (λ i. one i + rest i)

pub begun-append : (t u : Trace) → count_by is_turn (t ++ u) ≡ count_by is_turn t + count_by is_turn u
begun-append t u = sum_by-append (λ x. if is_turn x then 1 else 0) t u

-- a turn that begins within a list of which no turn begins in the back begins in the front
cut-turn : (xs ys zs ws : Trace) (z : Event) → list_any is_turn ys ≡ false → is_turn z ≡ true → xs ++ ys ≡ zs ++ z ∷ ws →
    (part : Trace) × (ws ≡ part ++ ys) × (xs ≡ zs ++ z ∷ part)
cut-turn [] ys zs ws z none turn h =
    absurd (let a : list_any is_turn ys ≡ true =
    ap (list_any is_turn) h ∙ list_any-append is_turn zs (z ∷ ws)
    ∙ or_right (list_any is_turn zs) (is_turn z || list_any is_turn ws) (or_left (is_turn z) (list_any is_turn ws) turn) in cc)
cut-turn (x ∷ xs) ys [] ws z none turn h =
    (xs, sym (cons-tail x z (xs ++ ys) ws h), ap (λ v. v ∷ xs) (cons-head x z (xs ++ ys) ws h))
cut-turn (x ∷ xs) ys (c ∷ zs) ws z none turn h =
    let k = cut-turn xs ys zs ws z none turn (cons-tail x c (xs ++ ys) (zs ++ z ∷ ws) h) in
    (k.0, k.1, (λ i. cons-head x c (xs ++ ys) (zs ++ z ∷ ws) h i ∷ k.2 i))

-- Times

pub greatest_time-append : (t u : Trace) → greatest_time (t ++ u) ≡ max (greatest_time t) (greatest_time u)
greatest_time-append [] u = omega arith
greatest_time-append ((entry.Turn ms, b) ∷ t) u = let h = greatest_time-append t u in omega (arith, h)
greatest_time-append ((entry.Poll x, b) ∷ t) u = greatest_time-append t u
greatest_time-append ((entry.Want x y z, b) ∷ t) u = greatest_time-append t u
greatest_time-append ((entry.Ready x y z, b) ∷ t) u = greatest_time-append t u
greatest_time-append ((entry.PollFailed, b) ∷ t) u = greatest_time-append t u
greatest_time-append ((entry.Opened x y, b) ∷ t) u = greatest_time-append t u
greatest_time-append ((entry.Conn x y, b) ∷ t) u = greatest_time-append t u
greatest_time-append ((entry.Read x y z, b) ∷ t) u = greatest_time-append t u
greatest_time-append ((entry.Write x y z, b) ∷ t) u = greatest_time-append t u
greatest_time-append ((entry.Fired x y, b) ∷ t) u = greatest_time-append t u
greatest_time-append ((entry.Asked x y z, b) ∷ t) u = greatest_time-append t u
greatest_time-append ((entry.Freed x y z w, b) ∷ t) u = greatest_time-append t u
greatest_time-append ((entry.CloseWrite x, b) ∷ t) u = greatest_time-append t u
greatest_time-append ((entry.Close x, b) ∷ t) u = greatest_time-append t u

-- what one event does to the greatest time and to the last
one-time : (y : Event) (t : Trace) → (greatest_time (y ∷ t) ≡ max (time_by 0 y) (greatest_time t))
    × ((was : ℕ) → time_by was y ≤ max was (time_by 0 y))
one-time (entry.Turn ms, b) t = (refl, λ was. omega arith)
one-time (entry.Poll x, b) t = (omega arith, λ was. omega arith)
one-time (entry.Want x y z, b) t = (omega arith, λ was. omega arith)
one-time (entry.Ready x y z, b) t = (omega arith, λ was. omega arith)
one-time (entry.PollFailed, b) t = (omega arith, λ was. omega arith)
one-time (entry.Opened x y, b) t = (omega arith, λ was. omega arith)
one-time (entry.Conn x y, b) t = (omega arith, λ was. omega arith)
one-time (entry.Read x y z, b) t = (omega arith, λ was. omega arith)
one-time (entry.Write x y z, b) t = (omega arith, λ was. omega arith)
one-time (entry.Fired x y, b) t = (omega arith, λ was. omega arith)
one-time (entry.Asked x y z, b) t = (omega arith, λ was. omega arith)
one-time (entry.Freed x y z w, b) t = (omega arith, λ was. omega arith)
one-time (entry.CloseWrite x, b) t = (omega arith, λ was. omega arith)
one-time (entry.Close x, b) t = (omega arith, λ was. omega arith)

-- the last time is no greater than the greatest
pub last_time-within : (t : Trace) (was : ℕ) → last_time was t ≤ max was (greatest_time t)
last_time-within [] was = omega arith
last_time-within (y ∷ t) was =
    let one = one-time y t in
    let a = one.0 in
    let b = one.1 was in
    let rest = last_time-within t (time_by was y) in
    omega (arith, a, b, rest)

-- where no turn begins, no time stands
still-time : (y : Event) → is_turn y ≡ false → time_by 0 y ≡ 0
still-time (entry.Turn ms, b) h = absurd (cc)
still-time _ h = refl

none-time : (t : Trace) → list_any is_turn t ≡ false → greatest_time t ≡ 0
none-time [] h = refl
none-time (y ∷ t) h =
    let parts = or_parts (is_turn y) (list_any is_turn t) h in
    let one = (one-time y t).0 in
    let here = still-time y parts.0 in
    let rest = none-time t parts.1 in
    omega (arith, one, here, rest)

abbrev turn-event : ℕ → List ℕ → Event
turn-event ms bytes = (entry.Turn ms, bytes)

turn-same : (a b : ℕ) (xs ys : List ℕ) → turn-event a xs ≡ turn-event b ys → a ≡ b
turn-same a b xs ys h = ap (λ (y : Event). time_by 0 y) h

module _ (turns : List ScriptTurn) (step : ℕ) where
  abbrev now-event : Trace → Event
  now-event t = (entry.Turn (turn_time t (reading turns step (begun turns t))), [])

  no-turns : (ws : List Want) → (list_any is_turn (want_events ws) ≡ false) × (list_any is_turn (ready_events ws) ≡ false)
  no-turns [] = (refl, refl)
  no-turns (w ∷ ws) = no-turns ws

  abbrev tail-of : Trace → List Want → Bool → Trace
  tail-of t wants b = if b then (entry.PollFailed, []) ∷ [] else ready_events (marks turns t wants)

  poll-turns : (t : Trace) (timeout : Option ℕ) (wants : List Want) →
      list_any is_turn (events turns step t (PlayStep.Poll timeout wants)) ≡ false
  poll-turns t timeout wants =
      list_any-append is_turn (want_events wants) (tail-of t wants (poll_fails turns t))
      ∙ (λ i. (no-turns wants).0 i || tail-turns (poll_fails turns t) i)
    where
      tail-turns : (b : Bool) → list_any is_turn (tail-of t wants b) ≡ false
      tail-turns true = refl
      tail-turns false = (no-turns (marks turns t wants)).1

  -- a step reads the clock, or begins no turn
  abbrev StepKind : Trace → Trace → Type 0
  StepKind t added = (added ≡ now-event t ∷ []) ⊎ (list_any is_turn added ≡ false)

  step-kind : (t : Trace) (x : PlayStep) → StepKind t (events turns step t x)
  step-kind t PlayStep.Now = inl refl
  step-kind t (PlayStep.Poll timeout wants) = inr (poll-turns t timeout wants)
  step-kind t PlayStep.Accept = go (waiting turns t)
    where
      go : (ws : List Bool) → StepKind t (accepted (opened t) ws)
      go [] = inr refl
      go (w ∷ ws) = inr refl
  step-kind t (PlayStep.Check e) = inr refl
  step-kind t (PlayStep.Read e room) = inr refl
  step-kind t (PlayStep.Write e offered) = inr refl
  step-kind t (PlayStep.Own x) = go x
    where
      go : (x : Entry) → StepKind t (own_events x)
      go (entry.Fired side why) = inr refl
      go (entry.Asked side act answer) = inr refl
      go (entry.Freed side cause moved given) = inr refl
      go (entry.CloseWrite side) = inr refl
      go (entry.Close side) = inr refl
      go _ = inr refl

  -- What stands before a turn is answered, and the turn has the clock's reading.
  pub record AnsweredTurn (before : Trace) (ms : ℕ) : Type 0 where
    pub answered : IsAnswered turns step before
    pub clock : ms ≡ turn_time before (reading turns step (begun turns before))

  abbrev TurnsAnswered : Trace → Type 0
  TurnsAnswered t = (before after : Trace) (ms : ℕ) (bytes : List ℕ) → t ≡ before ++ (entry.Turn ms, bytes) ∷ after →
      AnsweredTurn before ms

  turns-push : (t added : Trace) → StepKind t added → IsAnswered turns step t → TurnsAnswered t → TurnsAnswered (t ++ added)
  turns-push t added (inl now) answered h before after ms bytes is =
      elim (split-at_one t before after (now-event t) (entry.Turn ms, bytes) (ap (λ u. t ++ u) (sym now) ∙ is)) [
        | inl last ↦
            subst (λ u. AnsweredTurn u ms) (sym last.1) (record {
              answered = answered;
              clock = turn-same ms (turn_time t (reading turns step (begun turns t))) bytes [] last.2;
            })
        | inr earlier ↦ h before earlier.0 ms bytes earlier.2
      ]
  turns-push t added (inr none) answered h before after ms bytes is =
      let cut = cut-turn t added before after (entry.Turn ms, bytes) none refl is in
      h before cut.0 ms bytes cut.2

  steps-turns : (t : Trace) (xs : List PlayStep) → IsAnswered turns step t → TurnsAnswered t →
      TurnsAnswered (fold (λ u x. u ++ events turns step u x) t xs)
  steps-turns t [] answered h = h
  steps-turns t (x ∷ xs) answered h =
      steps-turns (t ++ events turns step t x) xs (answers_go_on turns step t answered x)
      (turns-push t (events turns step t x) (step-kind t x) answered h)

  none-before : TurnsAnswered []
  none-before [] after ms bytes h = absurd (cc)
  none-before (y ∷ before) after ms bytes h = absurd (cc)

  pub answered-turn : (t : Trace) → IsAnswered turns step t → (before after : Trace) (ms : ℕ) (bytes : List ℕ) →
      t ≡ before ++ (entry.Turn ms, bytes) ∷ after → AnsweredTurn before ms
  answered-turn t answered =
      subst TurnsAnswered (sym answered.1) (steps-turns [] answered.0 ([], refl) none-before)

  -- The clock

  -- behind the script's turns a step more for each
  pub reading-closing : (n : ℕ) → length turns ≤ n → reading turns step n ≡ last_moment turns + step * (n + 1 - length turns)
  reading-closing n le =
      get_or_past (map (λ turn. turn.0) turns) n (last_moment turns + step * (n + 1 - length turns))
      (let a = length-moments turns in omega (arith, a, le))
    where
      length-moments : (xs : List ScriptTurn) → length (map (λ turn. turn.0) xs) ≡ length xs
      length-moments [] = refl
      length-moments (x ∷ xs) = let h = length-moments xs in omega (arith, h)

  module _ (greatest_last : All (λ turn. turn.0 ≤ last_moment turns) turns) where
    moment-most : (xs : List ScriptTurn) (m d : ℕ) → All (λ turn. turn.0 ≤ m) xs → (n : ℕ) → n < length xs →
        slice_index_or (map (λ turn. turn.0) xs) n d ≤ m
    moment-most xs m d all n lt =
        subst (λ v. v ≤ m) (sym (moment-at xs n lt)) (All-get_or (λ (turn : ScriptTurn). turn.0 ≤ m) xs n (d, []) lt all)
      where
        moment-at : (ys : List ScriptTurn) (k : ℕ) → k < length ys →
            slice_index_or (map (λ turn. turn.0) ys) k d ≡ (slice_index_or ys k (d, [])).0
        moment-at [] k h = refl
        moment-at (y ∷ ys) zero h = refl
        moment-at (y ∷ ys) (suc k) h = moment-at ys k (omega arith)

    reading-most : (n : ℕ) → reading turns step n ≤ last_moment turns + step * (n + 1 - length turns)
    reading-most n = elim (cases_lt n (length turns)) [
      | inl lt ↦
          (let a = moment-most turns (last_moment turns) (last_moment turns + step * (n + 1 - length turns)) greatest_last n lt in
          omega (arith, a))
      | inr le ↦ (let a = reading-closing n le in omega (arith, a))
    ]

    -- no turn so far is later than the clock allows
    abbrev Within : Trace → Type 0
    Within t = greatest_time t ≤ last_moment turns + step * (begun turns t - length turns)

    within-push : (t added : Trace) → StepKind t added → Within t → Within (t ++ added)
    within-push t added (inl now) h =
        subst (λ u. Within (t ++ u)) (sym now)
        (let n = begun turns t in
        let r = reading turns step n in
        let a = greatest_time-append t (now-event t ∷ []) in
        let b : greatest_time (now-event t ∷ []) ≡ max (max (greatest_time t) (min r latest)) 0 = refl in
        let c : begun turns (t ++ now-event t ∷ []) ≡ n + 1 = begun-append t (now-event t ∷ []) in
        let d : step * (n - length turns) ≤ step * (n + 1 - length turns) = mul-le-mul_left step (omega arith) in
        let e = reading-most n in
        let f : greatest_time (t ++ now-event t ∷ []) ≤ last_moment turns + step * (n + 1 - length turns) =
        omega (arith, a, b, d, e, h) in
        subst (λ m. greatest_time (t ++ now-event t ∷ []) ≤ last_moment turns + step * (m - length turns)) (sym c) f)
    within-push t added (inr none) h =
        let a = greatest_time-append t added in
        let b = none-time added none in
        let c : begun turns (t ++ added) ≡ begun turns t =
        begun-append t added ∙ (let k = none-count added none in omega (arith, k)) in
        let d : greatest_time (t ++ added) ≤ last_moment turns + step * (begun turns t - length turns) = omega (arith, a, b, h) in
        subst (λ m. greatest_time (t ++ added) ≤ last_moment turns + step * (m - length turns)) (sym c) d

    steps-within : (t : Trace) (xs : List PlayStep) → Within t → Within (fold (λ u x. u ++ events turns step u x) t xs)
    steps-within t [] h = h
    steps-within t (x ∷ xs) h =
        steps-within (t ++ events turns step t x) xs (within-push t (events turns step t x) (step-kind t x) h)

    pub clock-within : (t : Trace) → IsAnswered turns step t →
        greatest_time t ≤ last_moment turns + step * (begun turns t - length turns)
    clock-within t answered = subst Within (sym answered.1) (steps-within [] answered.0 (omega arith))
