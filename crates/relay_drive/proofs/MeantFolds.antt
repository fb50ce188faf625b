-- What is done for each of a list keeps what the relay stands for, where each step does.
use Rattle.std.proofs.Common.{◌≡◌, ℕ, List, [], ◌∷◌, ◌++◌, sym, ◌∙◌, ap, subst, append_assoc, append-nil}
use Rattle.std.specs.Prelude.{⊤}
use Rattle.ev_types.specs.Trace.{Trace}
use Rattle.relay_model.specs.Stages.{Stage}
use Rattle.relay_state.specs.State.{State}
use Rattle.relay_drive.specs.Steps.{Nothing, Each, CutAt}
use Rattle.relay_steps.specs.Meaning.{StandsFor}

-- the relay stands for a trace, with so many links
pub record StandsWith (n : ℕ) (t : Trace) (x : Stage) (s : State) : Type 0 where
  pub stands : StandsFor t x s
  pub opened : s.plain.opened ≡ n

-- something holds of all of a list
abbrev pub Each_is : {X : Type 0} → (X → Type 0) → List X → Type 0
Each_is P [] = ⊤
Each_is P (x ∷ xs) = P x × Each_is P xs

pub each_is-split : {X : Type 0} (P : X → Type 0) (xs : List X) (y : X) (ys : List X) → Each_is P (xs ++ y ∷ ys) → Each_is P xs × P y
each_is-split P [] y ys h = (tt, h.0)
each_is-split P (x ∷ xs) y ys h = let k = each_is-split P xs y ys h.1 in ((h.0, k.0), k.1)

pub stands-nothing : (n : ℕ) (t : Trace) (x : Stage) (s new : State) (a : Trace) → StandsWith n t x s → Nothing s a new →
    StandsWith n (t ++ a) x new
stands-nothing n t x s new a k h =
    let p : t ≡ t ++ a = sym (ap (λ b. t ++ b) h.0 ∙ append-nil t) in
    let q = sym h.1 in
    subst (λ z. StandsWith n z x new) p (subst (StandsWith n t x) q k)

-- a step of a list that keeps it, from a stage with more of the list to one with less
abbrev pub Keeps : {X : Type 0} → ℕ → (X → Type 0) → (List X → Stage) → (X → State → Trace → State → Type 0) → Type 0
Keeps {X} n P stage R = (x : X) (xs : List X) (t : Trace) (s new : State) (a : Trace) → P x → StandsWith n t (stage (x ∷ xs)) s →
    R x s a new → StandsWith n (t ++ a) (stage xs) new

module _ {X : Type 0} (n : ℕ) (P : X → Type 0) (stage : List X → Stage) (R : X → State → Trace → State → Type 0)
    (keeps : Keeps n P stage R) where
  pub each-keeps : (xs rest : List X) (t : Trace) (s new : State) (a : Trace) → Each_is P xs →
      StandsWith n t (stage (xs ++ rest)) s → Each R xs s a new → StandsWith n (t ++ a) (stage rest) new
  each-keeps [] rest t s new a all k h = stands-nothing n t (stage rest) s new a k h
  each-keeps (x ∷ xs) rest t s new a all k h =
      let first = keeps x (xs ++ rest) t s h.middle h.front all.0 k h.first in
      let then = each-keeps xs rest (t ++ h.front) h.middle new h.back all.1 first h.second in
      subst (λ z. StandsWith n z (stage rest) new) (append_assoc t h.front h.back ∙ ap (λ z. t ++ z) (sym h.joined)) then

  -- a whole list
  pub all-keeps : (xs : List X) (t : Trace) (s new : State) (a : Trace) → Each_is P xs → StandsWith n t (stage xs) s →
      Each R xs s a new → StandsWith n (t ++ a) (stage []) new
  all-keeps xs t s new a all k h = each-keeps xs [] t s new a all (subst (λ z. StandsWith n t (stage z) s) (sym (append-nil xs)) k) h

  -- a list that is cut off
  pub cut-leaves : (Cut : X → State → Trace → State → Type 0) (Q : Trace → State → Type 0) →
      ((x : X) (xs : List X) (t : Trace) (s new : State) (a : Trace) → P x → StandsWith n t (stage (x ∷ xs)) s → Cut x s a new →
      Q (t ++ a) new) →
      (xs : List X) (t : Trace) (s new : State) (a : Trace) → Each_is P xs → StandsWith n t (stage xs) s →
      CutAt R Cut xs s a new → Q (t ++ a) new
  cut-leaves Cut Q leaves xs t s new a all k h =
      let parts = each_is-split P h.front h.last h.back (subst (Each_is P) h.all all) in
      let w = h.went in
      let before = each-keeps h.front (h.last ∷ h.back) t s w.middle w.front parts.0
      (subst (λ z. StandsWith n t (stage z) s) h.all k) w.first in
      subst (λ z. Q z new) (append_assoc t w.front w.back ∙ ap (λ z. t ++ z) (sym w.joined))
      (leaves h.last h.back (t ++ w.front) w.middle new w.back parts.1 before w.second)
