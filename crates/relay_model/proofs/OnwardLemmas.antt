-- What stays on the way from a state to a later one.
use Rattle.std.proofs.Common.{◌≡◌, ℕ, ◌+◌, ◌<◌, Bool, true, false, ◌&&◌, ◌||◌, not, if◌then◌else◌, Option, Some, None, ◌⊎◌, inl, inr, refl}
use Rattle.std.proofs.Common.{sym, ◌∙◌, ap, subst, arith}
use Rattle.std.specs.Prelude.{is_some}
use Rattle.std.proofs.lemmas.Bool.{or_left, or_right, or_cases}
use Rattle.ev_types.specs.declared.side.SideId.{SideId}
use Rattle.ev_types.specs.Trace.{Event, Trace}
use Rattle.relay_model.specs.Settings.{Settings}
use Rattle.relay_model.specs.Plain.{Plain, PlainSide, side_at, is_live}
use Rattle.relay_model.specs.Close.{fault}
use Rattle.relay_model.specs.Stages.{Stage, State, at, Between}
use Rattle.relay_model.specs.Turn.{Reaches}
use Rattle.relay_model.specs.Onward.{Leads}
use Rattle.relay_model.specs.RatesKept.{is_turn}
use Rattle.relay_model.specs.Totals.{is_opened}
use Rattle.relay_model.specs.Told.{is_freed, is_freeing, freed_by, failed_by}
use Rattle.relay_model.specs.Causes.{FaultyAreFreed}
use Rattle.relay_model.proofs.KeepsLemmas.{Keeps-side}
use Rattle.relay_model.proofs.SeenLemmas.{Seen, seen, but_bad}
use Rattle.relay_model.proofs.EffectLemmas.{SideEffect, Effect}
use Rattle.relay_model.proofs.StepLemmas.{put-effect}
use Rattle.relay_model.proofs.StageLemmas.{Silent, quiet-silent}
use Rattle.relay_model.proofs.ToldLemmas.{kept}
use Rattle.relay_model.proofs.KindLemmas.{put-kind}
use Rattle.relay_model.proofs.FireLemmas.{quiet-kind}
use Rattle.relay_model.proofs.FaultLemmas.{is_faulty, no-fault}
use Rattle.relay_model.proofs.FaultSteps.{faults, TurnOrNot, turn_or_not}
use Rattle.relay_model.proofs.TotalLemmas.{parts-live}
use Rattle.relay_model.proofs.FirstMet.{StepMeets, quiet-meets}

pub reaches-on : (g : Settings) (t : Trace) (s : State) → Reaches g t s → (u : Trace) (new : State) → Leads g t s u new → Reaches g u new
reaches-on g t s r u new (Leads.stays) = r
reaches-on g t s r u new (Leads.goes {mid = mid} l q) = Reaches.goes {s = mid} (reaches-on g t s r u mid l) q
reaches-on g t s r u new (Leads.puts {u = v} {mid = mid} e bytes l p) = Reaches.puts {s = mid} e bytes (reaches-on g t s r v mid l) p

-- links stay opened
pub effect-more : (n m : ℕ) (b : Bool) (k : ℕ) → m ≡ (n + (if b then 1 else 0)) → k < n → k < m
effect-more n m true k h lt = omega arith
effect-more n m false k h lt = omega arith

-- A side that is freed stays so
pub dead-stays : (e : SideId) (y : Event) (after : Stage) (old new : Seen) → SideEffect e y after old new → old.live ≡ false →
    new.live ≡ false
dead-stays e y after old new k h = k.live ∙ ap (λ b. b && not (freed_by e y || is_freeing after e)) h

-- A faulty side is freed, or stays faulty.
abbrev Faulted : State → SideId → Type 0
Faulted s e = (e.link < s.plain.opened) × ((is_live s.plain e ≡ false) ⊎ (is_faulty (seen (side_at s.plain e)) ≡ true))

faulty-more : (x y : Seen) → (x.failed ≡ true → y.failed ≡ true) → (x.expired ≡ true → y.expired ≡ true) →
    (is_some x.bad ≡ true → is_some y.bad ≡ true) →
    is_faulty x ≡ true → is_faulty y ≡ true
faulty-more x y a b c h = go (or_cases (x.failed || x.expired) (is_some x.bad) h)
  where
    first : (x.failed ≡ true) ⊎ (x.expired ≡ true) → is_faulty y ≡ true
    first (inl k) = or_left (y.failed || y.expired) (is_some y.bad) (or_left y.failed y.expired (a k))
    first (inr k) = or_left (y.failed || y.expired) (is_some y.bad) (or_right y.failed y.expired (b k))

    go : ((x.failed || x.expired) ≡ true) ⊎ (is_some x.bad ≡ true) → is_faulty y ≡ true
    go (inl k) = first (or_cases x.failed x.expired k)
    go (inr k) = or_right (y.failed || y.expired) (is_some y.bad) (c k)

quiet-faulted : (g : Settings) (t : Trace) (s new : State) (e : SideId) → Silent s.stage s.plain new.stage new.plain →
    StepMeets g t s.plain new.plain →
    Faulted s e → Faulted new e
quiet-faulted g t s new e k m h = (subst (λ n. e.link < n) (sym k.keeps.opened) h.0, go h.1)
  where
    same : but_bad (side_at new.plain e) ≡ but_bad (side_at s.plain e)
    same = Keeps-side but_bad s.plain new.plain e k.keeps

    some : (o : Option ℕ) → (side_at s.plain e).bad ≡ o → is_some o ≡ true → is_some (side_at new.plain e).bad ≡ true
    some (Some p) o h = ap is_some (m.old e p o)
    some None o h = absurd (cc)

    go : (is_live s.plain e ≡ false) ⊎ (is_faulty (seen (side_at s.plain e)) ≡ true) →
        (is_live new.plain e ≡ false) ⊎ (is_faulty (seen (side_at new.plain e)) ≡ true)
    go (inl dead) = inl (ap (λ z. z.live) same ∙ dead)
    go (inr faulty) =
        inr (faulty-more (seen (side_at s.plain e)) (seen (side_at new.plain e)) (λ q. ap (λ z. z.failed) same ∙ q)
        (λ q. ap (λ z. z.expired) same ∙ q)
        (some (side_at s.plain e).bad refl) faulty)

-- while a faulty side lives no turn begins
faulty-turn : (g : Settings) (t : Trace) (s : Plain) (e : SideId) (x : Stage) (y : Event) (new : State) → Reaches g t (at x s) →
    e.link < s.opened →
    is_live s e ≡ true → is_faulty (seen (side_at s e)) ≡ true → TurnOrNot g t s x y new → is_turn y ≡ false
faulty-turn g t s e x y new r lt live faulty (TurnOrNot.turns) = absurd ((faults g t (at Between s) r).await e lt live faulty)
faulty-turn g t s e x y new r lt live faulty (TurnOrNot.stays no_turn) = no_turn

put-faulted : (g : Settings) (t : Trace) (s new : State) (e : SideId) (y : Event) → Reaches g t s →
    Effect g s.stage s.plain y new.stage new.plain →
    TurnOrNot g t s.plain s.stage y new → Faulted s e → Faulted new e
put-faulted g t s new e y r k kind h =
    (effect-more s.plain.opened new.plain.opened (is_opened y) e.link k.opened h.0, go h.1 kind (is_live s.plain e) refl)
  where
    one : SideEffect e y new.stage (seen (side_at s.plain e)) (seen (side_at new.plain e))
    one = k.each e h.0

    go : (is_live s.plain e ≡ false) ⊎ (is_faulty (seen (side_at s.plain e)) ≡ true) → TurnOrNot g t s.plain s.stage y new →
        (b : Bool) → is_live s.plain e ≡ b → (is_live new.plain e ≡ false) ⊎ (is_faulty (seen (side_at new.plain e)) ≡ true)
    go (inl dead) kind b q = inl (dead-stays e y new.stage (seen (side_at s.plain e)) (seen (side_at new.plain e)) one dead)
    go (inr faulty) kind false q = inl (dead-stays e y new.stage (seen (side_at s.plain e)) (seen (side_at new.plain e)) one q)
    go (inr faulty) kind true q =
        let no_turn = faulty-turn g t s.plain e s.stage y new r h.0 q faulty kind in
        inr (faulty-more (seen (side_at s.plain e)) (seen (side_at new.plain e))
        (λ f. one.failed ∙ or_left (side_at s.plain e).failed (failed_by e y) f) (λ f. one.expired no_turn ∙ f)
        (λ f. ap is_some one.bad ∙ f) faulty)

faulted-on : (g : Settings) (t : Trace) (s : State) (e : SideId) → Reaches g t s → Faulted s e → (u : Trace) (new : State) →
    Leads g t s u new → Faulted new e
faulted-on g t s e r h u new (Leads.stays) = h
faulted-on g t s e r h u new (Leads.goes {mid = mid} l q) =
    let m = reaches-on g t s r u mid l in
    quiet-faulted g u mid new e (quiet-silent g u mid.stage mid.plain new q)
    (quiet-meets g u mid.plain mid.stage new (kept g u mid m) (parts-live g u mid m) (quiet-kind g u mid.stage mid.plain new q))
    (faulted-on g t s e r h u mid l)
faulted-on g t s e r h u new (Leads.puts {u = v} {mid = mid} y bytes l p) =
    let m = reaches-on g t s r v mid l in
    let c = kept g v mid m in
    put-faulted g v mid new e (y, bytes) m (put-effect g v mid.stage mid.plain y bytes new c.counts.shape.sides c.placed p)
    (turn_or_not g v mid.plain mid.stage (y, bytes) new (put-kind g v mid.stage mid.plain y bytes new c.placed p))
    (faulted-on g t s e r h v mid l)

some-faulty : (x : PlainSide) → is_some (fault x) ≡ true → is_faulty (seen x) ≡ true
some-faulty x h = go (is_faulty (seen x)) refl
  where
    go : (q : Bool) → is_faulty (seen x) ≡ q → is_faulty (seen x) ≡ true
    go true q = q
    go false q = absurd (let none = ap is_some (no-fault x q) in cc)

pub faulty_are_freed : FaultyAreFreed
faulty_are_freed g t u s new e r l lt live h = go k.1 (is_live new e) refl
  where
    k : Faulted (at Between new) e
    k = faulted-on g t s e r (lt, inr (some-faulty (side_at s.plain e) h)) u (at Between new) l

    m : Reaches g u (at Between new)
    m = reaches-on g t s r u (at Between new) l

    freed-of : (b : Bool) → false ≡ not (b || false) → b ≡ true
    freed-of true h = refl
    freed-of false h = absurd (cc)

    go : (is_live new e ≡ false) ⊎ (is_faulty (seen (side_at new e)) ≡ true) → (b : Bool) → is_live new e ≡ b → is_freed e u ≡ true
    go o false q = freed-of (is_freed e u) (sym q ∙ ((kept g u (at Between new) m).each e k.0).live)
    go (inl dead) true q = absurd (cc)
    go (inr faulty) true q = absurd ((faults g u (at Between new) m).await e k.0 q faulty)
