-- What is played: runs go on by any step, and whether all links were taken can be told by a test.
use Rattle.std.proofs.Common.{◌≡◌, ℕ, Bool, true, false, ◌&&◌, if◌then◌else◌, List, [], ◌∷◌, ◌++◌, refl, sym, ◌∙◌, ap}
use Rattle.std.specs.Bool.{⊤, MatchBool}
use Rattle.std.proofs.lemmas.Bool.{false≢true}
use Rattle.std.proofs.lemmas.List.Sums.{fold-append}
use mathlib.Core.Logic.{inl}
use Rattle.ev_types.specs.Trace.{Trace}
use Rattle.ev_types.specs.ScriptTurn.{ScriptTurn}
use Rattle.relay_model.specs.Scripted.{waiting}
use Rattle.relay_model.specs.Plays.{events, TookAll, is_behind_accepting, AlwaysTookAll, AnswersGoOn}

-- what the script answers to one step more
pub answers_go_on : AnswersGoOn
answers_go_on turns step t (steps, e) x = (
  steps ++ x ∷ [],
  ap (λ z. z ++ events turns step z x) e ∙ sym (fold-append (λ z y. z ++ events turns step z y) [] steps (x ∷ [])),
)

abbrev pub is_empty : List Bool → Bool
is_empty [] = true
is_empty (x ∷ xs) = false

-- No link waits wherever accepting has ended.
abbrev pub none_waits : List ScriptTurn → Trace → Trace → Bool
none_waits turns before [] = true
none_waits turns before (x ∷ t) = (if is_behind_accepting x then is_empty (waiting turns before) else true) && none_waits turns
    (before ++ x ∷ []) t

both_true : (a b : Bool) → (a && b) ≡ true → (a ≡ true) × (b ≡ true)
both_true true b h = (refl, h)
both_true false b h = absurd (false≢true h)

empty_is_nil : (xs : List Bool) → is_empty xs ≡ true → xs ≡ []
empty_is_nil [] h = refl
empty_is_nil (x ∷ xs) h = absurd (false≢true h)

module _ (turns : List ScriptTurn) (links : ℕ) where
  by_test : (before : Trace) (b : Bool) → (if b then is_empty (waiting turns before) else true) ≡ true → MatchBool b
      (TookAll turns links before) ⊤
  by_test before true h = inl (empty_is_nil (waiting turns before) h)
  by_test before false h = tt

  pub always_took : (before t : Trace) → none_waits turns before t ≡ true → AlwaysTookAll turns links before t
  always_took before [] h = tt
  always_took before (x ∷ t) h =
      let parts = both_true (if is_behind_accepting x then is_empty (waiting turns before) else true)
      (none_waits turns (before ++ x ∷ []) t) h in
      (by_test before (is_behind_accepting x) parts.0, always_took (before ++ x ∷ []) t parts.1)
