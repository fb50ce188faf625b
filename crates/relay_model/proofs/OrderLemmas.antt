-- Closing looks at a side for its fault before it frees that side for another cause, by induction over the steps.
use Rattle.std.proofs.Common.{◌≡◌, ℕ, zero, suc, ◌+◌, ◌<◌, Bool, true, false, ◌||◌, ◌==◌, List, [], ◌∷◌, None, refl, ◌∙◌, ap, arith}
use Rattle.std.proofs.Common.{eqb-true, eq-eqb}
use Rattle.std.specs.Prelude.{⊤}
use Rattle.std.specs.List.{list_any}
use Rattle.std.proofs.lemmas.Bool.{or_parts, or_from}
use Rattle.std.proofs.lemmas.List.Folds.{list_any-append}
use Rattle.ev_types.specs.declared.side.SideId.{SideId}
use Rattle.ev_types.specs.Sides.{same_end}
use Rattle.ev_types.specs.Trace.{Event, Trace}
use Rattle.relay_model.specs.Settings.{Settings}
use Rattle.relay_model.specs.Plain.{Plain, side_at, is_live}
use Rattle.relay_model.specs.Close.{CloseStep, fault, closing_of, closing_from, steps_left}
use Rattle.relay_model.specs.Stages.{Stage, State, at, Closing}
use Rattle.relay_model.specs.Turn.{after_reading, Reaches}
use Rattle.relay_model.proofs.EndLemmas.{same_end-eq}
use Rattle.relay_model.proofs.SeenLemmas.{seen}
use Rattle.relay_model.proofs.PlacedLemmas.{link_of}
use Rattle.relay_model.proofs.ToldLemmas.{kept}
use Rattle.relay_model.proofs.KindLemmas.{PutKind, put-kind}
use Rattle.relay_model.proofs.FireLemmas.{is_open_stage, QuietKind, quiet-kind, reading-open}
use Rattle.relay_model.proofs.FaultLemmas.{is_faulty, no-fault, looks_at, rest}
use Rattle.relay_model.proofs.FaultSteps.{faults}

-- a look at a side of a link for its fault
abbrev pub looks_link : ℕ → CloseStep → Bool
looks_link k (CloseStep.Faulty z) = z.link == k
looks_link k _ = false

-- behind any other step no side of its link is looked at for a fault
abbrev pub Clear : CloseStep → List CloseStep → Type 0
Clear (CloseStep.Faulty z) cs = ⊤
Clear c cs = list_any (looks_link (link_of c)) cs ≡ false

abbrev pub InOrder : List CloseStep → Type 0
InOrder [] = ⊤
InOrder (c ∷ cs) = Clear c cs × InOrder cs

apart : (n k : ℕ) → n < k → (k == n) ≡ false
apart n k lt = go (k == n) refl
  where
    go : (q : Bool) → (k == n) ≡ q → (k == n) ≡ false
    go false h = h
    go true h = absurd (let same = eqb-true k n h in omega arith)

later-none : (n k left : ℕ) → n < k → list_any (looks_link n) (closing_from k left) ≡ false
later-none n k zero lt = refl
later-none n k (suc left) lt =
    list_any-append (looks_link n) (closing_of k) (closing_from (k + 1) left)
    ∙ or_from (list_any (looks_link n) (closing_of k)) (list_any (looks_link n) (closing_from (k + 1) left))
    (ap (λ b. b || (b || false)) (apart n k lt)) (later-none n (k + 1) left (omega arith))

closing-in_order : (k left : ℕ) → InOrder (closing_from k left)
closing-in_order k zero = tt
closing-in_order k (suc left) =
    let none : list_any (looks_link k) (closing_from (k + 1) left) ≡ false = later-none k (k + 1) left (omega arith) in
    (tt, (tt, (none, (none, (none, (none, (none, (none, (none, closing-in_order (k + 1) left)))))))))

steps-in_order : (c : CloseStep) (cs : List CloseStep) → InOrder (c ∷ cs) → InOrder (steps_left c cs)
steps-in_order (CloseStep.Faulty e) cs h = h.1
steps-in_order (CloseStep.EndWriting e) cs h = h.1
steps-in_order (CloseStep.BothDone k) cs h = (h.0, h.1)
steps-in_order (CloseStep.OutDone k) cs h = h.1
steps-in_order (CloseStep.PeerGone e) cs h = h.1
steps-in_order (CloseStep.Shut e) cs h = h.1

abbrev pub Ordered : Stage → Type 0
Ordered (Closing cs) = InOrder cs
Ordered _ = ⊤

open-ordered : (x : Stage) → is_open_stage x ≡ true → Ordered x
open-ordered (Closing cs) h = absurd (cc)
open-ordered _ h = tt

quiet-ordered : (g : Settings) (t : Trace) (s : Plain) (x : Stage) (new : State) → Ordered x → QuietKind g t s x new → Ordered new.stage
quiet-ordered g t s x new o (QuietKind.moved next h) = open-ordered next h
quiet-ordered g t s x new o QuietKind.filtered = tt
quiet-ordered g t s x new o QuietKind.dispatched = tt
quiet-ordered g t s x new o QuietKind.passed = tt
quiet-ordered g t s x new o QuietKind.closes = closing-in_order 0 s.opened
quiet-ordered g t s x new o (QuietKind.looked h) = o.1
quiet-ordered g t s x new o QuietKind.over = tt

put-ordered : (g : Settings) (t : Trace) (s : Plain) (x : Stage) (y : Event) (new : State) → Ordered x → PutKind g t s x y new →
    Ordered new.stage
put-ordered g t s x y new o (PutKind.turned a b) = tt
put-ordered g t s x y new o (PutKind.polled) = tt
put-ordered g t s x y new o (PutKind.wanted a) = tt
put-ordered g t s x y new o (PutKind.poll_failed) = tt
put-ordered g t s x y new o (PutKind.readied a) = tt
put-ordered g t s x y new o (PutKind.opened) = tt
put-ordered g t s x y new o (PutKind.checked a) = tt
put-ordered g t s x y new o (PutKind.was_read {side = side} {answer = answer} left a b) =
    open-ordered (after_reading side answer left) (reading-open side answer left)
put-ordered g t s x y new o (PutKind.written a b c) = tt
put-ordered g t s x y new o (PutKind.fired a) = tt
put-ordered g t s x y new o (PutKind.frees a same) = tt
put-ordered g t s x y new o (PutKind.asked same m l) = tt
put-ordered g t s x y new o (PutKind.recorded) = tt
put-ordered g t s x y new o (PutKind.closed {c = c} {cs = cs} a) = steps-in_order c cs o

pub ordered : (g : Settings) (t : Trace) (s : State) → Reaches g t s → Ordered s.stage
ordered g t s (Reaches.begins) = tt
ordered g t new (Reaches.goes {t = u} {s = old} r h) =
    quiet-ordered g u old.plain old.stage new (ordered g u old r) (quiet-kind g u old.stage old.plain new h)
ordered g t new (Reaches.puts {t = u} {s = old} e bytes r h) =
    put-ordered g u old.plain old.stage (e, bytes) new (ordered g u old r)
    (put-kind g u old.stage old.plain e bytes new (kept g u old r).placed h)

-- a side that is looked at for its fault is of its link
looks-less : (e : SideId) (k : ℕ) → e.link ≡ k → (cs : List CloseStep) → list_any (looks_link k) cs ≡ false →
    list_any (looks_at e) cs ≡ false
looks-less e k link [] h = refl
looks-less e k link (c ∷ cs) h =
    let parts = or_parts (looks_link k c) (list_any (looks_link k) cs) h in
    or_from (looks_at e c) (list_any (looks_at e) cs) (one c parts.0) (looks-less e k link cs parts.1)
  where
    faulty : (z : SideId) → (z.link == k) ≡ false → (q : Bool) → same_end z e ≡ q → same_end z e ≡ false
    faulty z no_link false q = q
    faulty z no_link true q = absurd (
        let same : z.link ≡ k = ap (λ v. v.link) (same_end-eq z e q) ∙ link in
        let yes = eq-eqb z.link k same in cc)

    one : (c : CloseStep) → looks_link k c ≡ false → looks_at e c ≡ false
    one (CloseStep.Faulty z) n = faulty z n (same_end z e) refl
    one (CloseStep.EndWriting z) n = refl
    one (CloseStep.BothDone z) n = refl
    one (CloseStep.OutDone z) n = refl
    one (CloseStep.PeerGone z) n = refl
    one (CloseStep.Shut z) n = refl

-- Where closing comes to another step of its link, a live side has no fault.
pub faultless : (g : Settings) (t : Trace) (s : Plain) (c : CloseStep) (cs : List CloseStep) → Reaches g t (at (Closing (c ∷ cs)) s) →
    list_any (looks_link (link_of c)) cs ≡ false → (e : SideId) → looks_at e c ≡ false → e.link ≡ link_of c → e.link < s.opened →
    is_live s e ≡ true → fault (side_at s e) ≡ None
faultless g t s c cs r clear e no_look link lt live = no-fault (side_at s e) (go (is_faulty (seen (side_at s e))) refl)
  where
    go : (q : Bool) → is_faulty (seen (side_at s e)) ≡ q → is_faulty (seen (side_at s e)) ≡ false
    go false h = h
    go true h = absurd (
        let waits = rest (looks_at e c) _ no_look ((faults g t (at (Closing (c ∷ cs)) s) r).await e lt live h) in
        let none = looks-less e (link_of c) link cs clear in cc)
