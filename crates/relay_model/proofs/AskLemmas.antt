-- An ask of a hook frees a live side, or leaves all that closing looks at.
use Rattle.std.proofs.Common.{◌≡◌, Bool, true, false, not, if◌then◌else◌, List, Option, Some, None, ◌⊎◌, inl, inr, refl, sym, ◌∙◌, ap}
use Rattle.std.proofs.Common.{subst}
use Rattle.ev_types.specs.declared.side.SideId.{SideId}
use Rattle.ev_types.specs.declared.act.Act.{Act}
use Rattle.ev_types.specs.declared.act.Act.TheVariants as act
use Rattle.ev_types.specs.declared.answer.AskAnswer.{AskAnswer}
use Rattle.ev_types.specs.declared.answer.AskAnswer.TheVariants as ask
use Rattle.relay_model.specs.Settings.{Settings}
use Rattle.relay_model.specs.Due.{Reason, without_reasons}
use Rattle.relay_model.specs.Plain.{Plain, is_live, freed}
use Rattle.relay_model.specs.Past.{Past}
use Rattle.relay_model.specs.Asks.{names_no_live, has_bad_value, names_no_group, has_too_many, refusal, done, Answered, Ask}
use Rattle.relay_model.specs.Stages.{Fire, Firing, Freeing, after_ask}
use Rattle.relay_model.proofs.KeepsLemmas.{Keeps, Keeps-eq, Keeps-trans}
use Rattle.relay_model.proofs.SeenLemmas.{seen, FreesOrNot, frees_or_not}

-- no refusal is Ok
refusal-not_ok : (g : Settings) (s : Plain) (a : Act) → refusal g s a ≡ Some ask.Ok → ⊥
refusal-not_ok g s a h = go (names_no_live s a) (has_bad_value s a) (names_no_group g a) (has_too_many s a) h
  where
    go : (b c d e : Bool) → (if b then Some ask.NotLive
        else (if c then Some ask.BadValue else (if d then Some ask.NoGroup else (if e then Some ask.TooManyRefs else None)))) ≡
        Some ask.Ok → ⊥
    go true c d e h = cc
    go false true d e h = cc
    go false false true e h = cc
    go false false false true h = cc
    go false false false false h = cc

-- where a free is not refused, the side lives
refusal-live : (g : Settings) (s : Plain) (e : SideId) → refusal g s (act.Free e) ≡ None → is_live s e ≡ true
refusal-live g s e h = go (is_live s e) h
  where
    go : (b : Bool) → (if not b then Some ask.NotLive else None) ≡ None → b ≡ true
    go true h = refl
    go false h = absurd (cc)

-- a hook freed a live side
pub record Frees (s after : Plain) (a : Act) (answer : AskAnswer) : Type 0 where
  pub gone : SideId
  pub act : a ≡ act.Free gone
  pub answered : answer ≡ ask.Ok
  pub live : is_live s gone ≡ true
  pub freed : after ≡ freed gone s

-- or the fire goes on
pub record GoesOn (x : Fire) (rs : List Reason) (s after : Plain) (a : Act) (answer : AskAnswer) : Type 0 where
  pub keeps : Keeps seen s after
  pub flows : after.flows ≡ s.flows
  pub fire : Fire
  pub same : fire.side ≡ x.side
  pub stage : after_ask x rs a answer ≡ Firing fire rs

-- the stage behind an ask
stage_of : (x : Fire) (rs : List Reason) (a : Act) (answer : AskAnswer) →
    ((e : SideId) × (a ≡ act.Free e) × (answer ≡ ask.Ok)) ⊎ ((y : Fire) × (y.side ≡ x.side) × (after_ask x rs a answer ≡ Firing y rs))
stage_of x rs (act.Free e) ask.Ok = inl (e, refl, refl)
stage_of x rs act.Stop ask.Ok = inr (record x { stopped = true }, refl, refl)
stage_of x rs _ _ = inr (x, refl, refl)

-- a free that is answered Ok
free-ok : (g : Settings) (p : Past) (s : Plain) (e : SideId) (after : Plain) → Ask g p s (act.Free e) ask.Ok after →
    (is_live s e ≡ true) × (after ≡ freed e s)
free-ok g p s e after h = go (refusal g s (act.Free e)) refl h
  where
    go : (r : Option AskAnswer) → refusal g s (act.Free e) ≡ r → Answered r g p s (act.Free e) ask.Ok after → (is_live s e ≡ true)
        × (after ≡ freed e s)
    go (Some r) k a = absurd (refusal-not_ok g s (act.Free e) (k ∙ ap (λ z. Some z) (sym a.0)))
    go None k (inl a) = (refusal-live g s e k, a.1)
    go None k (inr a) = absurd (let m = a.1 in cc)

-- any other ask, and a free that is refused
other-ask : (g : Settings) (p : Past) (s : Plain) (x : Fire) (rs : List Reason) (a : Act) (answer : AskAnswer) (after : Plain)
    (y : Fire) → after_ask x rs a answer ≡ Firing y rs → Ask g p s a answer after →
    Keeps seen s after × (after.flows ≡ s.flows)
other-ask g p s x rs a answer after y stage h = go (refusal g s a) h
  where
    by_act : FreesOrNot a → answer ≡ ask.Ok → Keeps seen s (done g p s a) × ((done g p s a).flows ≡ s.flows)
    by_act (inl k) ok =
        absurd (let freeing : after_ask x rs a answer ≡ Freeing k.0 x (without_reasons k.0 rs) = ap (λ z. after_ask x rs z answer)
        k.1 ∙ ap (λ z. after_ask x rs (act.Free k.0) z) ok in cc)
    by_act (inr k) ok = k g p s

    go : (r : Option AskAnswer) → Answered r g p s a answer after → Keeps seen s after × (after.flows ≡ s.flows)
    go (Some r) k = (Keeps-eq seen s after k.1, ap (λ z. z.flows) k.1)
    go None (inl k) =
        let d = by_act (frees_or_not a) k.0 in
        (Keeps-trans seen s (done g p s a) after d.0 (Keeps-eq seen (done g p s a) after k.1), ap (λ z. z.flows) k.1 ∙ d.1)
    go None (inr k) = (Keeps-eq seen s after k.2, ap (λ z. z.flows) k.2)

pub ask-outcome : (g : Settings) (p : Past) (s : Plain) (x : Fire) (rs : List Reason) (a : Act) (answer : AskAnswer)
    (after : Plain) → Ask g p s a answer after →
    Frees s after a answer ⊎ GoesOn x rs s after a answer
ask-outcome g p s x rs a answer after h = go (stage_of x rs a answer)
  where
    go : ((e : SideId) × (a ≡ act.Free e) × (answer ≡ ask.Ok)) ⊎ ((y : Fire) × (y.side ≡ x.side) ×
        (after_ask x rs a answer ≡ Firing y rs)) → Frees s after a answer ⊎ GoesOn x rs s after a answer
    go (inl k) =
        let r = free-ok g p s k.0 after (subst (λ z. Ask g p s (act.Free k.0) z after) k.2 (subst (λ z. Ask g p s z answer after) k.1 h)) in
        inl (record { gone = k.0; act = k.1; answered = k.2; live = r.0; freed = r.1 })
    go (inr k) = let o = other-ask g p s x rs a answer after k.0 k.2 h in inr
        (record { keeps = o.0; flows = o.1; fire = k.0; same = k.1; stage = k.2 })
