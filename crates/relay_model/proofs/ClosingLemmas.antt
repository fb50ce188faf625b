-- Closing frees each faulty side with the cause that its faults call for, by induction over the steps.
use Rattle.std.proofs.Common.{◌≡◌, ℕ, ◌<◌, Bool, true, false, if◌then◌else◌, List, [], ◌∷◌, ◌++◌, Some, ◌⊎◌, inl, inr, refl, sym, ◌∙◌, ap}
use Rattle.std.proofs.Common.{subst, append_assoc, append-nil}
use Rattle.std.specs.Prelude.{option_map}
use Rattle.ev_types.specs.declared.side.SideId.{SideId}
use Rattle.ev_types.specs.declared.why.Cause.{Cause}
use Rattle.ev_types.specs.declared.why.Cause.TheVariants as cause
use Rattle.ev_types.specs.declared.entry.Entry.{Entry}
use Rattle.ev_types.specs.declared.entry.Entry.TheVariants as entry
use Rattle.ev_types.specs.Trace.{Event, Trace}
use Rattle.relay_model.specs.Settings.{Settings}
use Rattle.relay_model.specs.Plain.{Plain, PlainSide, side_at, is_live}
use Rattle.relay_model.specs.Past.{past}
use Rattle.relay_model.specs.Close.{CloseStep, fault, closed_by, steps_left}
use Rattle.relay_model.specs.Stages.{State, at, Between, Closing}
use Rattle.relay_model.specs.Turn.{Quietly, Puts, Reaches}
use Rattle.relay_model.specs.Onward.{Leads}
use Rattle.relay_model.specs.Told.{freed_by}
use Rattle.relay_model.specs.Causes.{IsCalledFor, FreedAs, ClosingFreesFaulty}
use Rattle.relay_model.proofs.EndLemmas.{same_end-eq}
use Rattle.relay_model.proofs.SeenLemmas.{seen}
use Rattle.relay_model.proofs.EffectLemmas.{SideEffect, or_no, and_no}
use Rattle.relay_model.proofs.StepLemmas.{put-effect}
use Rattle.relay_model.proofs.StageLemmas.{closed-opened}
use Rattle.relay_model.proofs.ToldLemmas.{kept}
use Rattle.relay_model.proofs.KindLemmas.{closed-kind}
use Rattle.relay_model.proofs.FaultLemmas.{is_faulty, closed-fails, no-fault}
use Rattle.relay_model.proofs.FaultSteps.{faults}
use Rattle.relay_model.proofs.CalledLemmas.{closed-called}
use Rattle.relay_model.proofs.OnwardLemmas.{reaches-on}

-- the fault of a side is told by three of its parts
fault-same : (x y : PlainSide) → y.failed ≡ x.failed → y.expired ≡ x.expired → y.bad ≡ x.bad → fault y ≡ fault x
fault-same x y a b c = λ i. if a i then Some cause.Failed else (if b i then Some cause.Timeout else option_map cause.Filter (c i))

some-faulty : (x : PlainSide) (why : Cause) → fault x ≡ Some why → is_faulty (seen x) ≡ true
some-faulty x why h = go (is_faulty (seen x)) refl
  where
    go : (q : Bool) → is_faulty (seen x) ≡ q → is_faulty (seen x) ≡ true
    go true q = q
    go false q = absurd (let none = sym (no-fault x q) ∙ h in cc)

-- an entry that frees a side
record IsFree (e : SideId) (y : Entry) : Type 0 where
  why : Cause
  moved : ℕ
  given : ℕ
  is : y ≡ entry.Freed e why moved given

free-form : (e : SideId) (y : Entry) → freed_by e (y, []) ≡ true → IsFree e y
free-form e (entry.Freed side why moved given) h =
    record { why = why; moved = moved; given = given; is = ap (λ v. entry.Freed v why moved given) (same_end-eq side e h) }
free-form e _ h = absurd (cc)

-- The side waits in closing with its fault, or was freed for it.

record Waits (x : State) (e : SideId) (why : Cause) : Type 0 where
  left : List CloseStep
  stage : x.stage ≡ Closing left
  there : e.link < x.plain.opened
  live : is_live x.plain e ≡ true
  faulty : fault (side_at x.plain e) ≡ Some why

abbrev Answered : Trace → Trace → State → SideId → Cause → Type 0
Answered t u x e why = Waits x e why ⊎ FreedAs t u e why

freed-push : (t u : Trace) (e : SideId) (why : Cause) (y : Event) → FreedAs t u e why → FreedAs t (u ++ y ∷ []) e why
freed-push t u e why y h = record {
  early = h.early;
  moved = h.moved;
  given = h.given;
  since = h.since ++ y ∷ [];
  is =
      ap (λ z. z ++ y ∷ []) h.is ∙ append_assoc t (h.early ++ (entry.Freed e why h.moved h.given, []) ∷ h.since) (y ∷ [])
      ∙ ap (λ z. t ++ z) (append_assoc h.early ((entry.Freed e why h.moved h.given, []) ∷ h.since) (y ∷ []));
}

-- a trace that goes on from another
record GoesOn (t u : Trace) : Type 0 where
  more : Trace
  is : u ≡ t ++ more

freed-now : (t u : Trace) (e : SideId) (why : Cause) (moved given : ℕ) → GoesOn t u →
    FreedAs t (u ++ (entry.Freed e why moved given, []) ∷ []) e why
freed-now t u e why moved given h = record {
  early = h.more;
  moved = moved;
  given = given;
  since = [];
  is = ap (λ z. z ++ (entry.Freed e why moved given, []) ∷ []) h.is ∙ append_assoc t h.more ((entry.Freed e why moved given, []) ∷ []);
}

goes-on : (g : Settings) (t : Trace) (s : State) (u : Trace) (new : State) → Leads g t s u new → GoesOn t u
goes-on g t s u new (Leads.stays) = record { more = []; is = sym (append-nil t) }
goes-on g t s u new (Leads.goes {mid = mid} l q) = goes-on g t s u mid l
goes-on g t s u new (Leads.puts {u = v} {mid = mid} y bytes l p) =
    let h = goes-on g t s v mid l in
    record { more = h.more ++ (y, bytes) ∷ []; is = ap (λ z. z ++ (y, bytes) ∷ []) h.is ∙ append_assoc t h.more ((y, bytes) ∷ []) }

quiet-waits : (g : Settings) (u : Trace) (cs : List CloseStep) (s : Plain) (new : State) (e : SideId) (why : Cause) →
    Reaches g u (at (Closing cs) s) →
    e.link < s.opened → is_live s e ≡ true → fault (side_at s e) ≡ Some why → Quietly g u (Closing cs) s new → Waits new e why
quiet-waits g u [] s new e why r lt live faulty q =
    absurd (let none = (faults g u (at (Closing []) s) r).await e lt live (some-faulty (side_at s e) why faulty) in cc)
quiet-waits g u (c ∷ cs) s new e why r lt live faulty q =
    subst (λ x. Waits x e why) (sym q.1) (record { left = cs; stage = refl; there = lt; live = live; faulty = faulty })

-- the side is freed with this cause, or goes on to wait
closed-waits : (g : Settings) (t u : Trace) (c : CloseStep) (cs : List CloseStep) (s : Plain) (y : Entry) (e : SideId) (why : Cause) →
    GoesOn t u →
    Reaches g u (at (Closing (c ∷ cs)) s) → e.link < s.opened → is_live s e ≡ true → fault (side_at s e) ≡ Some why →
    SideEffect e (y, []) (Closing (steps_left c cs)) (seen (side_at s e)) (seen (side_at (closed_by c s) e)) →
    Puts g u (Closing (c ∷ cs)) s y [] (at (Closing (steps_left c cs)) (closed_by c s)) →
    Answered t (u ++ (y, []) ∷ []) (at (Closing (steps_left c cs)) (closed_by c s)) e why
closed-waits g t u c cs s y e why more r lt live faulty k p = go (freed_by e (y, [])) refl
  where
    called : (f : IsFree e y) → IsCalledFor g u (Closing (c ∷ cs)) s e f.why
    called f = closed-called g u s c cs y r (closed-kind g (past g u) s c y p.0) e f.why f.moved f.given f.is

    some-same : {a b : Cause} → Some a ≡ Some b → a ≡ b
    some-same h = cc

    why-is : (w : Cause) → IsCalledFor g u (Closing (c ∷ cs)) s e w → w ≡ why
    why-is cause.Hook h = absurd (let k = h.2 in cc)
    why-is cause.Failed h = some-same (sym h.3 ∙ faulty)
    why-is cause.Timeout h = some-same (sym h.3 ∙ faulty)
    why-is (cause.Filter place) h = some-same (sym h.3 ∙ faulty)
    why-is cause.Done h = absurd (let none = sym h.3 ∙ faulty in cc)
    why-is cause.PeerGone h = absurd (let none = sym h.3 ∙ faulty in cc)

    go : (q : Bool) → freed_by e (y, []) ≡ q → Answered t (u ++ (y, []) ∷ []) (at (Closing (steps_left c cs)) (closed_by c s)) e why
    go true q =
        let f = free-form e y q in
        let same = why-is f.why (called f) in
        inr (subst (λ v. FreedAs t (u ++ (v, []) ∷ []) e why) (sym (f.is ∙ ap (λ w. entry.Freed e w f.moved f.given) same))
        (freed-now t u e why f.moved f.given more))
    go false q =
        let fails = closed-fails g (past g u) s c y (closed-kind g (past g u) s c y p.0) e in
        inl (record {
          left = steps_left c cs;
          stage = refl;
          there = subst (λ n. e.link < n) (sym (closed-opened c s)) lt;
          live = k.live ∙ sym (and_no (side_at s e).live (freed_by e (y, [])) false q refl) ∙ live;
          faulty =
              fault-same (side_at s e) (side_at (closed_by c s) e) (k.failed ∙ sym (or_no (side_at s e).failed _ fails.0))
              (k.expired fails.1) k.bad
              ∙ faulty;
        })

put-waits : (g : Settings) (t u : Trace) (cs : List CloseStep) (s : Plain) (y : Entry) (bytes : List ℕ) (new : State) (e : SideId)
    (why : Cause) → GoesOn t u →
    Reaches g u (at (Closing cs) s) → e.link < s.opened → is_live s e ≡ true → fault (side_at s e) ≡ Some why →
    Puts g u (Closing cs) s y bytes new → Answered t (u ++ (y, bytes) ∷ []) new e why
put-waits g t u [] s y bytes new e why more r lt live faulty p = absurd p
put-waits g t u (c ∷ cs) s y bytes new e why more r lt live faulty p =
    let k = kept g u (at (Closing (c ∷ cs)) s) r in
    let after : State = at (Closing (steps_left c cs)) (closed_by c s) in
    let put : Puts g u (Closing (c ∷ cs)) s y [] after = (p.0, refl, refl) in
    let effect = put-effect g u (Closing (c ∷ cs)) s y [] after k.counts.shape.sides k.placed put in
    subst (λ b. Answered t (u ++ (y, b) ∷ []) new e why) (sym p.1)
    (subst (λ x. Answered t (u ++ (y, []) ∷ []) x e why) (sym p.2)
    (closed-waits g t u c cs s y e why more r lt live faulty (effect.each e lt) put))

answers-on : (g : Settings) (t : Trace) (s : State) (e : SideId) (why : Cause) → Reaches g t s → Waits s e why →
    (u : Trace) (new : State) →
    Leads g t s u new → Answered t u new e why
answers-on g t s e why r w u new (Leads.stays) = inl w
answers-on g t s e why r w u new (Leads.goes {mid = mid} l q) = go (answers-on g t s e why r w u mid l)
  where
    go : Answered t u mid e why → Answered t u new e why
    go (inr h) = inr h
    go (inl h) =
        inl (quiet-waits g u h.left mid.plain new e why
        (subst (λ x. Reaches g u (at x mid.plain)) h.stage (reaches-on g t s r u mid l)) h.there h.live h.faulty
        (subst (λ x. Quietly g u x mid.plain new) h.stage q))
answers-on g t s e why r w u new (Leads.puts {u = v} {mid = mid} y bytes l p) = go (answers-on g t s e why r w v mid l)
  where
    go : Answered t v mid e why → Answered t (v ++ (y, bytes) ∷ []) new e why
    go (inr h) = inr (freed-push t v e why (y, bytes) h)
    go (inl h) =
        put-waits g t v h.left mid.plain y bytes new e why (goes-on g t s v mid l)
        (subst (λ x. Reaches g v (at x mid.plain)) h.stage (reaches-on g t s r v mid l)) h.there h.live h.faulty
        (subst (λ x. Puts g v x mid.plain y bytes new) h.stage p)

pub closing_frees_faulty : ClosingFreesFaulty
closing_frees_faulty g t u cs s new e why r lt live faulty l =
    go (answers-on g t (at (Closing cs) s) e why r (record { left = cs; stage = refl; there = lt; live = live; faulty = faulty }) u
    (at Between new) l)
  where
    go : Answered t u (at Between new) e why → FreedAs t u e why
    go (inr h) = h
    go (inl h) = absurd (let k = h.stage in cc)
