-- What is shown of every state that a trace can lead to, step by step.
use Rattle.std.proofs.Common.{◌≡◌, ℕ, ◌+◌, ◌*◌, Bool, true, false, List, [], ◌∷◌, ◌++◌, length, take, count_by, refl, sym, ◌∙◌, ap, subst}
use Rattle.std.proofs.Common.{arith}
use Rattle.std.specs.Prelude.{nat_le}
use Rattle.std.proofs.lemmas.Bool.{leb-true, leb-false}
use Rattle.std.proofs.lemmas.List.{length-append, take-append-le, take_all}
use Rattle.std.proofs.Math.Seq.{take-append_seam}
use Rattle.std.proofs.lemmas.List.Sums.{fold-append, sum_by-append}
use Rattle.ev_types.specs.declared.entry.Entry.{Entry}
use Rattle.ev_types.specs.Trace.{Event, Trace}
use Rattle.relay_model.specs.Settings.{Settings}
use Rattle.relay_model.specs.Plain.{Plain, nothing_yet}
use Rattle.relay_model.specs.Stages.{State, start}
use Rattle.relay_model.specs.Turn.{Puts, Quietly, Reaches, begins, goes, puts, IsLegal}
use Rattle.relay_model.specs.RatesKept.{is_turn, time_by, last_time}
use Rattle.relay_model.specs.Totals.{is_opened}
use Rattle.relay_model.specs.TurnLaws.{ShapeIsTold, TraceTellsShape, BeginningsAreLegal}
use Rattle.relay_model.proofs.QuietSteps.{KeptQuietly, kept-quietly}
use Rattle.relay_model.proofs.Shapes.{one_where, ShapeBy, shape-puts}

-- What holds before the first turn, and is kept by each step, holds of every state that is reached.
pub reaches-holds : (g : Settings) (Holds : Trace → State → Type 0) → Holds [] start →
    ((t : Trace) (s new : State) → Holds t s → Quietly g t s.stage s.plain new → Holds t new) →
    ((t : Trace) (s new : State) (e : Entry) (bytes : List ℕ) → Holds t s → Puts g t s.stage s.plain e bytes new → Holds
    (t ++ (e, bytes) ∷ []) new) →
    {t : Trace} {s : State} → Reaches g t s → Holds t s
reaches-holds g Holds first quiet put begins = first
reaches-holds g Holds first quiet put (goes {t = t} {s = s} {new = new} r q) = quiet t s new (reaches-holds g Holds first quiet put r) q
reaches-holds g Holds first quiet put (puts {t = t} {s = s} {new = new} e bytes r p) = put t s new e bytes
    (reaches-holds g Holds first quiet put r) p

pub last_time-push : (time : ℕ) (t : Trace) (x : Event) → last_time time (t ++ x ∷ []) ≡ time_by (last_time time t) x
last_time-push time t x = fold-append (λ was y. time_by was y) time t (x ∷ [])

pub count-push : (test : Event → Bool) (t : Trace) (x : Event) → count_by test (t ++ x ∷ []) ≡ count_by test t + one_where (test x)
count-push test t x = sum_by-append _ t (x ∷ []) ∙ omega arith

pub shape-begins : ShapeIsTold [] nothing_yet
shape-begins = record { time = refl; turn = refl; opened = refl; sides = refl; flows = refl }

pub shape-goes : (t : Trace) (old new : Plain) → ShapeIsTold t old → KeptQuietly old new → ShapeIsTold t new
shape-goes t old new h k = record {
  time = k.time ∙ h.time;
  turn = k.turn ∙ h.turn;
  opened = k.opened ∙ h.opened;
  sides = k.side_count ∙ h.sides ∙ ap (λ n. 2 * n) (sym k.opened);
  flows = k.flow_count ∙ h.flows ∙ ap (λ n. 2 * n) (sym k.opened);
}

pub shape-put : (t : Trace) (x : Event) (old new : Plain) → ShapeIsTold t old → ShapeBy x old new → ShapeIsTold (t ++ x ∷ []) new
shape-put t x old new h k =
    let turns = count-push is_turn t x in
    let opened = count-push is_opened t x in
    record {
      time = k.time ∙ ap (λ z. time_by z x) h.time ∙ sym (last_time-push 0 t x);
      turn = omega (arith, k.turn, h.turn, turns);
      opened = omega (arith, k.opened, h.opened, opened);
      sides = omega (arith, k.sides, k.opened, h.sides);
      flows = omega (arith, k.flows, k.opened, h.flows);
    }

pub shape-is_told : TraceTellsShape
shape-is_told g t s r =
    reaches-holds g (λ t s. ShapeIsTold t s.plain) shape-begins
    (λ t s new h q. shape-goes t s.plain new.plain h (kept-quietly g t s.stage s.plain new q))
    (λ t s new e bytes h p. shape-put t (e, bytes) s.plain new.plain h (shape-puts g t s.stage s.plain e bytes new p))
    r

pub take-nil : (n : ℕ) → take n (◌++◌ {A = Event} [] []) ≡ []
take-nil n = take_all n [] (omega arith)

-- each beginning of what is reached is legal
pub beginning-is_legal : (g : Settings) {t : Trace} {s : State} → Reaches g t s → (n : ℕ) → IsLegal g (take n t)
beginning-is_legal g r =
    (reaches-holds g (λ t s. Reaches g t s × ((n : ℕ) → IsLegal g (take n t)))
    (begins, λ n. subst (λ z. IsLegal g z) (sym (take-nil n)) (start, begins))
    (λ t s new h q. (goes h.0 q, h.1))
    (λ t s new e bytes h p. (puts e bytes h.0 p, λ n. by_length t (e, bytes) n new (puts e bytes h.0 p) h.1 (nat_le n (length t)) refl))
    r).1
  where
    by_length : (t : Trace) (x : Event) (n : ℕ) (new : State) → Reaches g (t ++ x ∷ []) new → ((k : ℕ) → IsLegal g (take k t)) →
        (b : Bool) → nat_le n (length t) ≡ b → IsLegal g (take n (t ++ x ∷ []))
    by_length t x n new whole earlier true le =
        subst (λ z. IsLegal g z) (sym (take-append-le n t (x ∷ []) (leb-true n (length t) le))) (earlier n)
    by_length t x n new whole earlier false gt =
        subst (λ z. IsLegal g z) (sym (take_all n (t ++ x ∷ []) (let lt = leb-false n (length t) gt in
        omega (arith, length-append t (x ∷ []))))) (new, whole)

pub beginnings-are_legal : BeginningsAreLegal
beginnings-are_legal g t u legal = subst (λ z. IsLegal g z) (take-append_seam t u) (beginning-is_legal g legal.1 (length t))
