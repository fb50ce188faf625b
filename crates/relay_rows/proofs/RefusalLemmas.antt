-- What a replay refuses, the relation refuses: from the state of a replay the relation goes on along the same silent
-- steps, and puts an event where the replay puts it.
use Rattle.std.specs.Prelude.{fold}
use Rattle.std.specs.List.{list_all}
use Rattle.std.proofs.Common.{◌≡◌, ◌⊎◌, inl, inr, ℕ, zero, suc, ◌≤◌, Bool, true, false, if◌then◌else◌, is_none, List, [], ◌∷◌, Option, Some}
use Rattle.std.proofs.Common.{None, refl, sym, ap, ◌∙◌, subst, arith}
use Rattle.std.proofs.lemmas.Bool.{and_parts}
use Rattle.ev_types.specs.declared.side.SideId.{SideId}
use Rattle.ev_types.specs.declared.entry.Entry.{Entry}
use Rattle.ev_types.specs.Trace.{Event, Trace}
use Rattle.relay_model.specs.Settings.{Settings}
use Rattle.relay_model.specs.Plain.{Plain}
use Rattle.relay_model.specs.Past.{past}
use Rattle.relay_model.specs.Round.{Part, do_part, round_parts, round}
use Rattle.relay_model.specs.Serve.{Call, call_for, marks_left}
use Rattle.relay_model.specs.Close.{closing_entry}
use Rattle.relay_model.specs.Stages.{Stage, Wanting, Marking, Accepting, Serving, Filtering, Dispatching, Firing, Passing, Closing, State}
use Rattle.relay_model.specs.Stages.{at}
use Rattle.relay_model.specs.Turn.{Puts, Quietly}
use Rattle.relay_rows.specs.Put.{put, asks_nothing}
use Rattle.relay_rows.specs.Quiet.{leaves, is_passed, quiet}
use Rattle.relay_rows.specs.Replay.{step_within, rest_within}
use Rattle.relay_rows.specs.Laws.{Ahead}
use Rattle.relay_rows.proofs.PutLemmas.{put-is}
use Rattle.relay_rows.proofs.PutConverse.{provided-from, put-from}
use Rattle.relay_rows.proofs.QuietLemmas.{do_part-same}
use Rattle.relay_rows.proofs.OrderLemmas.{rank, Rise}
use Rattle.relay_rows.proofs.OnceLemmas.{unmarked, quietly-rise, put_once}

-- Where the relation may go another way than the replay: a direction that is passed has one round more, or one is passed
-- of which a part changes something and the round doesn't.
abbrev Turns : Settings → Trace → Stage → Plain → State → Type 0
Turns g t (Passing [] (e ∷ es)) p new =
    ((is_passed g (past g t) e p ≡ true) × (new ≡ at (Passing (round_parts g (past g t) e p) (e ∷ es)) p))
    ⊎ ((is_passed g (past g t) e p ≡ false) × (round g (past g t) e p ≡ p))
Turns g t _ p new = ⊥

other_turn : (g : Settings) (t : Trace) (e : SideId) (es : List SideId) (p : Plain) (new : State) (test : Bool) → is_passed g
    (past g t) e p ≡ test →
    Quietly g t (Passing [] (e ∷ es)) p new →
    ((if test then Some (at (Passing [] es) p) else Some (at (Passing (round_parts g (past g t) e p) (e ∷ es)) p)) ≡ Some new) ⊎
    Turns g t (Passing [] (e ∷ es)) p new
other_turn g t e es p new true q (inl h) = inl (ap Some (sym h.1))
other_turn g t e es p new true q (inr h) = inr (inl (q, h))
other_turn g t e es p new false q (inl h) = inr (inr (q, h.0))
other_turn g t e es p new false q (inr h) = inl (ap Some (sym h))

nothing_asked : (c : Call) → c ≡ Call.Nothing → asks_nothing c ≡ true
nothing_asked c h = ap asks_nothing h

quiet-from : (g : Settings) (t : Trace) (x : Stage) (p : Plain) (new : State) → Quietly g t x p new → (quiet g t x p ≡ Some new) ⊎
    Turns g t x p new
quiet-from g t (Wanting []) p new h = inl (ap Some (sym h))
quiet-from g t (Marking (w ∷ ws) marks) p new h = inl (ap Some (sym h))
quiet-from g t (Marking [] marks) p new h = inl (ap Some (sym h))
quiet-from g t (Accepting n marks) p new h = inl (ap Some (sym h))
quiet-from g t (Serving (m ∷ ms)) p new h =
    inl (provided-from (asks_nothing (call_for g (past g t) p m)) (at (Serving (marks_left p m ms)) p) new
    (nothing_asked (call_for g (past g t) p m) h.0) h.1)
quiet-from g t (Filtering e ms) p new h = inl (ap Some (sym h))
quiet-from g t (Serving []) p new h = inl (ap Some (sym h))
quiet-from g t (Firing x rs) p new h = inl (ap Some (sym h))
quiet-from g t (Dispatching []) p new h = inl (ap Some (sym h))
quiet-from g t (Passing [] (e ∷ es)) p new h = other_turn g t e es p new (is_passed g (past g t) e p) refl h
quiet-from g t (Passing (x ∷ xs) (e ∷ es)) p new h = inl (ap Some (sym h))
quiet-from g t (Passing [] []) p new h = inl (ap Some (sym h))
quiet-from g t (Closing (c ∷ cs)) p new h =
    inl (provided-from (is_none (closing_entry g (past g t) p c)) (at (Closing cs) p) new (ap is_none h.0) h.1)
quiet-from g t (Closing []) p new h = inl (ap Some (sym h))
quiet-from g t _ p new h = absurd h

-- nothing is put while a direction is passed
puts-rank : (g : Settings) (t : Trace) (x : Stage) (p : Plain) (e : Entry) (bytes : List ℕ) (new : State) → Puts g t x p e bytes
    new → rank x ≡ 6 → ⊥
puts-rank g t (Passing xs es) p e bytes new h r = absurd h
puts-rank g t _ p e bytes new h r = omega arith

module _ (g : Settings) (t : Trace) where
  rest-next : (n : ℕ) (a b : State) → quiet g t a.stage a.plain ≡ Some b → rest_within (suc n) g t a ≡ rest_within n g t b
  rest-next n a b q = ap (λ o. elim o [ Some new ↦ rest_within n g t new | None ↦ Some a ]) q

  module _ (e : Event) where
    step-next : (n : ℕ) (a b : State) → put g t a.stage a.plain e.0 e.1 ≡ None → quiet g t a.stage a.plain ≡ Some b → step_within
        (suc n) g t a e ≡ step_within n g t b e
    step-next n a b q h =
        ap (λ o. elim o [
          | Some new ↦ Some new
          | None ↦ elim (quiet g t a.stage a.plain) [
            | Some new ↦ step_within n g t new e
            | None
                ↦ None
          ]
        ]) q
        ∙ ap (λ o. elim o [ Some new ↦ step_within n g t new e | None ↦ None ]) h

    step-here : (n : ℕ) (a new : State) → put g t a.stage a.plain e.0 e.1 ≡ Some new → step_within (suc n) g t a e ≡ Some new
    step-here n a new q =
        ap (λ o. elim o [
          | Some new ↦ Some new
          | None ↦ elim (quiet g t a.stage a.plain) [
            | Some new ↦ step_within n g t new e
            | None
                ↦ None
          ]
        ]) q

    -- Within so many silent steps the relay comes to rest, or the event is put.
    abbrev pub Settles : ℕ → State → Type 0
    Settles n a = ((r : State) × (rest_within n g t a ≡ Some r)) ⊎ ((r : State) × (step_within n g t a e ≡ Some r))

    settles-zero : (a : State) → Settles zero a → ⊥
    settles-zero a (inl h) = let x = h.1 in absurd (cc)
    settles-zero a (inr h) = let x = h.1 in absurd (cc)

    settles-next : (n : ℕ) (a b : State) → put g t a.stage a.plain e.0 e.1 ≡ None → quiet g t a.stage a.plain ≡ Some b → Settles
        (suc n) a → Settles n b
    settles-next n a b q h (inl r) = inl (r.0, sym (rest-next n a b h) ∙ r.1)
    settles-next n a b q h (inr r) = inr (r.0, sym (step-next n a b q h) ∙ r.1)

    module _ (c : SideId) (cs : List SideId) where
      -- the parts of a round are gone through one by one
      settles-parts : (xs : List Part) (n : ℕ) (p : Plain) → Settles n (at (Passing xs (c ∷ cs)) p) →
          (m : ℕ) × (m ≤ n) × Settles m (at (Passing [] (c ∷ cs)) (fold (λ state x. do_part g (past g t) c x state) p xs))
      settles-parts [] n p h = (n, omega arith, h)
      settles-parts (x ∷ xs) zero p h = absurd (settles-zero (at (Passing (x ∷ xs) (c ∷ cs)) p) h)
      settles-parts (x ∷ xs) (suc n) p h =
          let w = settles-parts xs n (do_part g (past g t) c x p) (settles-next n (at (Passing (x ∷ xs) (c ∷ cs)) p)
          (at (Passing xs (c ∷ cs)) (do_part g (past g t) c x p)) refl refl h) in
          let le = w.1 in
          (w.0, omega arith, w.2)

      -- a round that leaves the state is gone through for ever, unless the direction is passed
      settles-loop : (most n : ℕ) (p : Plain) → n ≤ most → is_passed g (past g t) c p ≡ false → round g (past g t) c p ≡ p →
          Settles n (at (Passing [] (c ∷ cs)) p) → ⊥
      settles-loop most zero p le no_pass same h = settles-zero (at (Passing [] (c ∷ cs)) p) h
      settles-loop zero (suc n) p le no_pass same h = absurd (omega arith)
      settles-loop (suc most) (suc n) p le no_pass same h =
          let turn = ap (λ b. if b then Some (at (Passing [] cs) p) else Some (at (Passing (round_parts g (past g t) c p) (c ∷ cs))
          p)) no_pass in
          let w = settles-parts (round_parts g (past g t) c p) n p
          (settles-next n (at (Passing [] (c ∷ cs)) p) (at (Passing (round_parts g (past g t) c p) (c ∷ cs)) p) refl turn h) in
          let less = w.1 in
          settles-loop most w.0 p (omega arith) no_pass same (subst (λ y. Settles w.0 (at (Passing [] (c ∷ cs)) y)) same w.2)

      -- a round that changes nothing is no step forward
      past_parts : (xs : List Part) (k : ℕ) (p : Plain) (s : State) → list_all (leaves g (past g t) c p) xs ≡ true →
          (rank s.stage ≡ 6 → ⊥) →
          Ahead g t k (at (Passing xs (c ∷ cs)) p) s → (j : ℕ) × (j ≤ k) × Ahead g t j (at (Passing [] (c ∷ cs)) p) s
      past_parts [] k p s all there h = (k, omega arith, h)
      past_parts (x ∷ xs) zero p s all there h = absurd (there (ap (λ y. rank y.stage) (sym h)))
      past_parts (x ∷ xs) (suc k) p s all there h =
          let w = and_parts (leaves g (past g t) c p x) (list_all (leaves g (past g t) c p) xs) all in
          let same = h.1 ∙ ap (λ y. at (Passing xs (c ∷ cs)) y) (do_part-same g (past g t) c p x w.0) in
          let rest = past_parts xs k p s w.1 there (subst (λ y. Ahead g t k y s) same h.2) in
          let le = rest.1 in
          (rest.0, omega arith, rest.2)

    module _ (s new : State) (puts : Puts g t s.stage s.plain e.0 e.1 new) where
      -- the event is put where the replay puts it, from any state from which the relation can come to put it
      abbrev pub Agrees : ℕ → Type 0
      Agrees most = (k n : ℕ) (x : Stage) (p : Plain) → k ≤ most → Rise 0 (unmarked x) → Ahead g t k (at x p) s → Settles n
          (at x p) → step_within n g t (at x p) e ≡ Some new

      agrees-turn : (most k n : ℕ) (x : Stage) (p : Plain) (b : State) → Agrees most → k ≤ most → Rise 0 (unmarked x) → Turns g t x
          p b → Ahead g t k b s →
          Settles n (at x p) → step_within n g t (at x p) e ≡ Some new
      agrees-turn most k n (Passing [] (c ∷ cs)) p b more le r (inl h) ahead settles =
          let w = past_parts c cs (round_parts g (past g t) c p) k p s h.0 (puts-rank g t s.stage s.plain e.0 e.1 new puts)
          (subst (λ y. Ahead g t k y s) h.1 ahead) in
          let less = w.1 in
          more w.0 n (Passing [] (c ∷ cs)) p (omega arith) r w.2 settles
      agrees-turn most k n (Passing [] (c ∷ cs)) p b more le r (inr h) ahead settles =
          absurd (settles-loop c cs n n p (omega arith) h.0 h.1 settles)
      agrees-turn most k n _ p b more le r h ahead settles = absurd h

      agrees-next : (most k n : ℕ) (x : Stage) (p : Plain) (b : State) → Agrees most → k ≤ most → Rise 0 (unmarked x) → Quietly g t
          x p b → Ahead g t k b s →
          Settles (suc n) (at x p) → (o : Option State) → put g t x p e.0 e.1 ≡ o → (quiet g t x p ≡ Some b) ⊎ Turns g t x p b →
          step_within (suc n) g t (at x p) e ≡ Some new
      agrees-next most k n x p b more le r q ahead settles (Some y) h follow =
          absurd (put_once g t p e.1 y b s new k ahead x e.0 r (put-is g t x p e.0 e.1 y h) q puts)
      agrees-next most k n x p b more le r q ahead settles None h (inl next) =
          step-next n (at x p) b h next
          ∙ more k n b.stage b.plain le (quietly-rise g t x p b q r) ahead (settles-next n (at x p) b h next settles)
      agrees-next most k n x p b more le r q ahead settles None h (inr turns) =
          agrees-turn most k (suc n) x p b more le r turns ahead settles

      pub agrees : (most : ℕ) → Agrees most
      agrees most k zero x p le r ahead settles = absurd (settles-zero (at x p) settles)
      agrees most zero (suc n) x p le r ahead settles =
          step-here n (at x p) new (subst (λ u. put g t u.stage u.plain e.0 e.1 ≡ Some new) (sym ahead)
          (put-from g t s.stage s.plain e.0 e.1 new puts))
      agrees zero (suc k) (suc n) x p le r ahead settles = absurd (omega arith)
      agrees (suc most) (suc k) (suc n) x p le r ahead settles =
          agrees-next most k n x p ahead.0 (agrees most) (omega arith) r ahead.1 ahead.2 settles (put g t x p e.0 e.1) refl
          (quiet-from g t x p ahead.0 ahead.1)
