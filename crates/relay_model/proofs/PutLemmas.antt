-- The effect of each entry that may be put.
use Rattle.std.proofs.Common.{◌≡◌, ℕ, ◌+◌, ◌*◌, ◌<◌, ◌≤◌, Bool, true, false, if◌then◌else◌, length, refl, sym, ◌∙◌, ap, subst, arith}
use Rattle.std.proofs.lemmas.List.{length-set}
use Rattle.ev_types.specs.declared.side.SideId.{SideId}
use Rattle.ev_types.specs.Sides.{same_end, number}
use Rattle.ev_types.specs.Trace.{Event}
use Rattle.relay_model.specs.Settings.{Settings}
use Rattle.relay_model.specs.Plain.{Plain, PlainSide, side_at, put_side}
use Rattle.relay_model.specs.Stages.{Stage}
use Rattle.ev_types.specs.Times.{latest}
use Rattle.relay_model.specs.RatesKept.{is_turn, time_by}
use Rattle.relay_model.specs.Totals.{is_opened}
use Rattle.relay_model.specs.Told.{names, is_freeing}
use Rattle.relay_model.proofs.EndLemmas.{same_end-eq, same_end-flip}
use Rattle.relay_model.proofs.KeepsLemmas.{Keeps, Keeps-side, Keeps-length, change_side-same, change_side-other}
use Rattle.relay_model.proofs.SeenLemmas.{seen}
use Rattle.relay_model.proofs.EffectLemmas.{SideEffect, Effect, IsIdle, idle-still}

-- an event that begins no turn and opens no link
pub record IsPlainEvent (y : Event) : Type 0 where
  pub turn : is_turn y ≡ false
  pub opens : is_opened y ≡ false
  pub time : (n : ℕ) → time_by n y ≡ n

add-none : (n : ℕ) (b : Bool) → b ≡ false → n ≡ (n + (if b then 1 else 0))
add-none n true h = absurd (cc)
add-none n false h = omega arith

-- an entry behind which closing sees nothing new
pub effect-keeps : (g : Settings) (x : Stage) (s : Plain) (y : Event) (after : Stage) (new : Plain) → Keeps seen s new →
    IsPlainEvent y → ((e : SideId) → IsIdle e y) →
    ((e : SideId) → is_freeing after e ≡ false) → ((e : SideId) → is_freeing x e ≡ false) →
    ((e : SideId) → names e y ≡ true → e.link < s.opened) → Effect g x s y after new
effect-keeps g x s y after new k p idle still before named = record {
  time = k.time ∙ sym (p.time s.time);
  rises = let h = k.time in omega arith;
  until = λ h. subst (λ n. n ≤ latest) (sym k.time) h;
  turn = k.turn ∙ add-none s.turn (is_turn y) p.turn;
  opened = k.opened ∙ add-none s.opened (is_opened y) p.opens;
  links = λ h. let o = k.opened in omega arith;
  sides = λ h. let o = k.opened in let l = Keeps-length seen s new k in omega arith;
  flows = λ h. let o = k.opened in let l = k.flows in omega arith;
  named = named;
  each = λ e lt. idle-still e y after (seen (side_at s e)) (seen (side_at new e)) (idle e) (still e) (Keeps-side seen s new e k);
  came = λ e h l. let o = k.opened in absurd (omega arith);
  frees = λ e h. absurd (let b = before e in cc);
}

-- an entry by which one side changes
pub effect-at : (g : Settings) (x : Stage) (s : Plain) (y : Event) (after : Stage) (new : Plain) (z : SideId) (changed : PlainSide)
    → Keeps seen (put_side z changed s) new → IsPlainEvent y →
    length s.sides ≡ 2 * s.opened → z.link < s.opened → SideEffect z y after (seen (side_at s z)) (seen changed) →
    ((e : SideId) → same_end z e ≡ false → IsIdle e y × (is_freeing after e ≡ false)) → ((e : SideId) → is_freeing x e ≡ false) →
    ((e : SideId) → names e y ≡ true → e.link < s.opened) → Effect g x s y after new
effect-at g x s y after new z changed k p size lt here others before named = record {
  time = k.time ∙ sym (p.time s.time);
  rises = let h = k.time in omega arith;
  until = λ h. subst (λ n. n ≤ latest) (sym k.time) h;
  turn = k.turn ∙ add-none s.turn (is_turn y) p.turn;
  opened = k.opened ∙ add-none s.opened (is_opened y) p.opens;
  links = λ h. let o = k.opened in omega arith;
  sides = λ h. let o = k.opened in let l = Keeps-length seen (put_side z changed s) new k in let m = length-set s.sides (number z)
      changed in omega arith;
  flows = λ h. let o = k.opened in let l = k.flows in omega arith;
  named = named;
  each = λ e le. go e (same_end z e) refl;
  came = λ e h l. let o = k.opened in absurd (omega arith);
  frees = λ e h. absurd (let b = before e in cc);
}
  where
    go : (e : SideId) (q : Bool) → same_end z e ≡ q → SideEffect e y after (seen (side_at s e)) (seen (side_at new e))
    go e true q =
        let there : seen (side_at new z) ≡ seen changed = Keeps-side seen (put_side z changed s) new z k ∙ ap seen
        (change_side-same z (λ _. changed) s size lt) in
        subst (λ v. SideEffect v y after (seen (side_at s v)) (seen (side_at new v))) (same_end-eq z e q)
        (subst (λ v. SideEffect z y after (seen (side_at s z)) v) (sym there) here)
    go e false q =
        let elsewhere : seen (side_at new e) ≡ seen (side_at s e) = Keeps-side seen (put_side z changed s) new e k ∙ ap seen
        (change_side-other z e (λ _. changed) s (same_end-flip z e false q)) in
        idle-still e y after (seen (side_at s e)) (seen (side_at new e)) (others e q).0 (others e q).1 elsewhere
