-- Lines of a trace with too few words or too many.
use Rattle.std.proofs.Common.{◌≡◌, ◌≢◌, ℕ, List, [], ◌∷◌, length, None, refl, arith}
use Rattle.script_text.specs.ActGrammar.{act_of}
use Rattle.script_text.specs.EntryGrammar.{fired_said, freed_said}

pub fired_said-other : (ws : List (List ℕ)) → length ws ≢ 3 → None ≡ fired_said ws
fired_said-other [] other = refl
fired_said-other (a ∷ []) other = refl
fired_said-other (a ∷ b ∷ []) other = refl
fired_said-other (a ∷ b ∷ c ∷ []) other = absurd (other refl)
fired_said-other (a ∷ b ∷ c ∷ d ∷ ws) other = refl

pub freed_said-other : (ws : List (List ℕ)) → length ws ≢ 5 → None ≡ freed_said ws
freed_said-other [] other = refl
freed_said-other (a ∷ []) other = refl
freed_said-other (a ∷ b ∷ []) other = refl
freed_said-other (a ∷ b ∷ c ∷ []) other = refl
freed_said-other (a ∷ b ∷ c ∷ d ∷ []) other = refl
freed_said-other (a ∷ b ∷ c ∷ d ∷ e ∷ []) other = absurd (other refl)
freed_said-other (a ∷ b ∷ c ∷ d ∷ e ∷ f ∷ ws) other = refl

pub act_of-two : (ws : List (List ℕ)) → length ws ≡ 2 → None ≡ act_of ws
act_of-two [] two = absurd (omega arith)
act_of-two (a ∷ []) two = absurd (omega arith)
act_of-two (a ∷ b ∷ []) two = refl
act_of-two (a ∷ b ∷ c ∷ ws) two = absurd (omega arith)
