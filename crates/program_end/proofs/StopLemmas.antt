-- Where no side has a hook, no run is stopped by one.
use Rattle.std.proofs.Common.{◌≡◌, ℕ, Bool, true, false, List, [], ◌∷◌, inl, inr, refl, ap}
use Rattle.ev_types.specs.declared.answer.ReadAnswer.{ReadAnswer}
use Rattle.ev_types.specs.declared.answer.ReadAnswer.TheVariants as read
use Rattle.ev_types.specs.declared.side.SideId.{SideId}
use Rattle.ev_types.specs.Trace.{Event, Trace}
use Rattle.relay_model.specs.Plain.{Plain}
use Rattle.relay_model.specs.Rooms.{Want}
use Rattle.relay_model.specs.Settings.{Settings, HasNoHooks}
use Rattle.relay_model.specs.Stages.{Halt, Stage, State, Wanting, Marking, Accepting}
use Rattle.relay_model.specs.Stages.{Serving, Filtering, Dispatching, Firing, Passing, Closing, Over}
use Rattle.relay_model.specs.Turn.{after_reading, Quietly, Reaches}
use Rattle.relay_model.proofs.HooklessLemmas.{Asleep, asleep}
use Rattle.relay_model.proofs.KindLemmas.{PutKind, put-kind}
use Rattle.relay_model.proofs.ToldLemmas.{kept}

-- did a hook stop the run
abbrev is_stopped : Stage → Bool
is_stopped (Over (Halt.StoppedBy link)) = true
is_stopped _ = false

reading-goes : (side : SideId) (answer : ReadAnswer) (ms : List Want) → is_stopped (after_reading side answer ms) ≡ false
reading-goes side (read.Got n) ms = refl
reading-goes side read.Ended ms = refl
reading-goes side read.NotYet ms = refl
reading-goes side read.Failed ms = refl

put-goes : (g : Settings) (t : Trace) (s : Plain) (x : Stage) (y : Event) (new : State) → PutKind g t s x y new →
    is_stopped new.stage ≡ false
put-goes g t s x y new (PutKind.turned a b) = refl
put-goes g t s x y new PutKind.polled = refl
put-goes g t s x y new (PutKind.wanted a) = refl
put-goes g t s x y new PutKind.poll_failed = refl
put-goes g t s x y new (PutKind.readied a) = refl
put-goes g t s x y new PutKind.opened = refl
put-goes g t s x y new (PutKind.checked a) = refl
put-goes g t s x y new (PutKind.was_read {side = side} {answer = answer} left a b) = reading-goes side answer left
put-goes g t s x y new (PutKind.written a b c) = refl
put-goes g t s x y new (PutKind.fired a) = refl
put-goes g t s x y new (PutKind.frees a same) = refl
put-goes g t s x y new (PutKind.asked same k l) = refl
put-goes g t s x y new PutKind.recorded = refl
put-goes g t s x y new (PutKind.closed a) = refl

quiet-goes : (g : Settings) (t : Trace) (x : Stage) (s : Plain) (new : State) → Asleep g x s → Quietly g t x s new →
    is_stopped new.stage ≡ false
quiet-goes g t (Wanting []) s new k h = ap (λ z. is_stopped z.stage) h
quiet-goes g t (Marking (w ∷ ws) marks) s new k h = ap (λ z. is_stopped z.stage) h
quiet-goes g t (Marking [] marks) s new k h = ap (λ z. is_stopped z.stage) h
quiet-goes g t (Accepting n marks) s new k h = ap (λ z. is_stopped z.stage) h
quiet-goes g t (Serving (m ∷ ms)) s new k h = ap (λ z. is_stopped z.stage) h.1
quiet-goes g t (Filtering e ms) s new k h = ap (λ z. is_stopped z.stage) h
quiet-goes g t (Serving []) s new k h = ap (λ z. is_stopped z.stage) h
quiet-goes g t (Firing x rs) s new k h = absurd k.idle
quiet-goes g t (Dispatching []) s new k h = ap (λ z. is_stopped z.stage) h
quiet-goes g t (Passing [] (e ∷ es)) s new k (inl h) = ap (λ z. is_stopped z.stage) h.1
quiet-goes g t (Passing [] (e ∷ es)) s new k (inr h) = ap (λ z. is_stopped z.stage) h
quiet-goes g t (Passing (x ∷ xs) (e ∷ es)) s new k h = ap (λ z. is_stopped z.stage) h
quiet-goes g t (Passing [] []) s new k h = ap (λ z. is_stopped z.stage) h
quiet-goes g t (Closing (c ∷ cs)) s new k h = ap (λ z. is_stopped z.stage) h.1
quiet-goes g t (Closing []) s new k h = ap (λ z. is_stopped z.stage) h
quiet-goes g t _ s new k h = absurd h

goes-on : (g : Settings) (t : Trace) (s : State) → HasNoHooks g → Reaches g t s → is_stopped s.stage ≡ false
goes-on g t s none Reaches.begins = refl
goes-on g t new none (Reaches.goes {t = u} {s = old} r h) = quiet-goes g u old.stage old.plain new (asleep g u old none r) h
goes-on g t new none (Reaches.puts {t = u} {s = old} e bytes r h) =
    put-goes g u old.plain old.stage (e, bytes) new (put-kind g u old.stage old.plain e bytes new (kept g u old r).placed h)

-- no trace without hooks leads to where one stopped the run
pub never_stopped : (g : Settings) (t : Trace) (s : State) (link : ℕ) → HasNoHooks g → Reaches g t s →
    s.stage ≡ Over (Halt.StoppedBy link) → ⊥
never_stopped g t s link none r is =
    let goes : is_stopped s.stage ≡ false = goes-on g t s none r in
    let stops : is_stopped s.stage ≡ true = ap is_stopped is in
    absurd (cc)
