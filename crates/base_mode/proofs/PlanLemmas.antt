-- What a line more tells the callbacks.
use Rattle.std.proofs.Common.{◌≡◌, ◌∙◌, sym, ap, refl, ℕ, ◌==◌, ◌&&◌, ◌++◌, true, false, cond, List, [], ◌∷◌, Some, None}
use Rattle.std.specs.List.{filter_map}
use Rattle.std.specs.BTreeMap.{BTreeMap}
use Rattle.std.proofs.lemmas.List.Elements.{filter_map-append}
use Rattle.base_mode.specs.declared.command.Reaction.{Reaction}
use Rattle.base_mode.specs.declared.command.Command.{Command}
use Rattle.base_mode.specs.declared.command.Command.TheVariants.{On}
use Rattle.base_mode.specs.Run.{acts_at, act_for}
use Rattle.base_mode.specs.Plans.{Plan, acts_of, AreTold}

-- what a line that tells a callback something tells the others
pub acts_at-on : (e k event nth : ℕ) (what : Reaction) → cond (event == e && nth == k) (what ∷ []) [] ≡ acts_at e k (On event nth what ∷ [])
acts_at-on e k event nth what =
    elim (event == e && nth == k) as
    (λ b. cond b (what ∷ []) [] ≡ filter_map (λ (line : Command). cond b (Some what) None) (On event nth what ∷ []))
    [ true ↦ refl | false ↦ refl ]

-- what the lines tell with one more
pub AreTold-more : (old new : BTreeMap ℕ Plan) (line : Command) → ((e k : ℕ) → acts_of new e k ≡ acts_of old e k ++ acts_at e k (line ∷ []))
    → (before : List Command) → AreTold old before → AreTold new (before ++ line ∷ [])
AreTold-more old new line more before told e k =
    more e k ∙ ap (λ (acts : List Reaction). acts ++ acts_at e k (line ∷ [])) (told e k)
    ∙ sym (filter_map-append (act_for e k) before (line ∷ []))
