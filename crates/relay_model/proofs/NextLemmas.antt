-- What a hook frees is recorded next.
use Rattle.ev_types.specs.declared.why.Cause.TheVariants as cause
use Rattle.relay_model.specs.Stages.{Wanting, Marking, Serving, Dispatching, Firing, Freeing, Closing, Stage, State}
use Rattle.ev_types.specs.Sides.{peer}
use Rattle.relay_model.proofs.StageLemmas.{quiet-silent}
use Rattle.std.proofs.Common.{◌≡◌, ℕ, true, List, [], ◌∷◌, ◌++◌, ◌⊎◌, inl, inr, refl, sym, ◌∙◌, ap, subst, append_assoc}
use Rattle.ev_types.specs.declared.side.SideId.{SideId}
use Rattle.ev_types.specs.declared.act.Act.TheVariants as act
use Rattle.ev_types.specs.declared.answer.AskAnswer.TheVariants as ask
use Rattle.ev_types.specs.declared.entry.Entry.{Entry}
use Rattle.ev_types.specs.declared.entry.Entry.TheVariants as entry
use Rattle.ev_types.specs.Trace.{Event, Trace}
use Rattle.relay_model.specs.Settings.{Settings}
use Rattle.relay_model.specs.Plain.{flow_at, Plain}
use Rattle.relay_model.specs.Past.{Past, past}
use Rattle.relay_model.specs.Close.{CloseStep}
use Rattle.relay_model.specs.Turn.{Puts, Reaches}
use Rattle.relay_model.specs.Told.{is_freeing}
use Rattle.relay_model.proofs.EndLemmas.{same_end-eq, same_end-refl}
use Rattle.relay_model.specs.Quiet.{asked_by}
use Rattle.relay_model.proofs.SplitLemmas.{IsLast, IsEarlier, pushed_split}
use Rattle.relay_model.proofs.KindLemmas.{ClosedKind, closed-kind, PutKind}
use Rattle.relay_model.proofs.QuietLemmas.{there}
use Rattle.relay_model.specs.Causes.{AskedFreesAreNext}

-- closing asks nothing
no_ask : (g : Settings) (p : Past) (s : Plain) (c : CloseStep) (y : Entry) (me : SideId) → ClosedKind g p s c y → asked_by me
    (y, []) ≡ true → ⊥
no_ask g p s c y me (ClosedKind.faulty a b) q = cc
no_ask g p s c y me (ClosedKind.write_ended a b) q = cc
no_ask g p s c y me (ClosedKind.in_done a b d f) q = cc
no_ask g p s c y me (ClosedKind.out_done) q = cc
no_ask g p s c y me (ClosedKind.peer_gone a b d) q = cc
no_ask g p s c y me (ClosedKind.shut a b) q = cc

-- an ask that frees a side leads to its record
put-freeing : (g : Settings) (t : Trace) (x : Stage) (s : Plain) (me e : SideId) (bytes : List ℕ) (new : State) → Puts g t x s
    (entry.Asked me (act.Free e) ask.Ok) bytes new → is_freeing new.stage e ≡ true
put-freeing g t (Firing x rs) s me e bytes new h = ap (λ z. is_freeing z.stage e) h.5 ∙ same_end-refl e
put-freeing g t (Freeing gone x rs) s me e bytes new h = absurd (let k = h.0 in cc)
put-freeing g t (Closing (c ∷ cs)) s me e bytes new h = absurd (no_ask g (past g t) s c (entry.Asked me (act.Free e) ask.Ok) me
    (closed-kind g (past g t) s c (entry.Asked me (act.Free e) ask.Ok) h.0) (same_end-refl me))
put-freeing g t (Closing []) s me e bytes new h = absurd h
put-freeing g t (Wanting (w ∷ ws)) s me e bytes new h = absurd h
put-freeing g t (Wanting []) s me e bytes new h = absurd h
put-freeing g t (Marking (w ∷ ws) marks) s me e bytes new h = absurd h
put-freeing g t (Marking [] marks) s me e bytes new h = absurd h
put-freeing g t (Serving (m ∷ ms)) s me e bytes new h = absurd h
put-freeing g t (Serving []) s me e bytes new h = absurd h
put-freeing g t (Dispatching (r ∷ rs)) s me e bytes new h = absurd h
put-freeing g t (Dispatching []) s me e bytes new h = absurd h
put-freeing g t _ s me e bytes new h = absurd h

-- and the record is what comes next, with nothing before it
freeing-next : (g : Settings) (u : Trace) (s : State) → Reaches g u s → (t : Trace) (me e : SideId) (bytes : List ℕ) → u ≡ t ++
    (entry.Asked me (act.Free e) ask.Ok, bytes) ∷ [] → is_freeing s.stage e ≡ true
freeing-next g u s (Reaches.begins) t me e bytes h = absurd (none t h)
  where
    none : (t : Trace) → [] ≡ t ++ (entry.Asked me (act.Free e) ask.Ok, bytes) ∷ [] → ⊥
    none [] k = cc
    none (x ∷ xs) k = cc
freeing-next g u new (Reaches.goes {t = v} {s = old} r q) t me e bytes h =
    absurd (let was = freeing-next g v old r t me e bytes h in let not_freeing = (quiet-silent g v old.stage old.plain new
    q).before e in cc)
freeing-next g u new (Reaches.puts {t = v} {s = old} y b r put) t me e bytes h = go (pushed_split v (y, b) t
    (entry.Asked me (act.Free e) ask.Ok, bytes) [] h)
  where
    nothing : (rest : Trace) → [] ≡ rest ++ (y, b) ∷ [] → ⊥
    nothing [] k = cc
    nothing (x ∷ xs) k = cc

    go : IsLast v (y, b) t (entry.Asked me (act.Free e) ask.Ok, bytes) [] ⊎ IsEarlier v (y, b) t
        (entry.Asked me (act.Free e) ask.Ok, bytes) [] → is_freeing new.stage e ≡ true
    go (inl k) = put-freeing g v old.stage old.plain me e b new (subst (λ z. Puts g v old.stage old.plain z b new)
        (sym (ap (λ z. z.0) k.is)) put)
    go (inr k) = absurd (nothing k.rest k.after_is)

put-recorded : (g : Settings) (t : Trace) (s : Plain) (x : Stage) (y : Event) (new : State) (e : SideId) → PutKind g t s x y new →
    is_freeing x e ≡ true → (moved : ℕ) × (given : ℕ) × (y ≡ (entry.Freed e cause.Hook moved given, []))
put-recorded g t s x y new e (PutKind.turned a b) h = absurd (cc)
put-recorded g t s x y new e (PutKind.polled) h = absurd (cc)
put-recorded g t s x y new e (PutKind.wanted a) h = absurd (cc)
put-recorded g t s x y new e (PutKind.poll_failed) h = absurd (cc)
put-recorded g t s x y new e (PutKind.readied a) h = absurd (cc)
put-recorded g t s x y new e (PutKind.opened) h = absurd (cc)
put-recorded g t s x y new e (PutKind.checked a) h = absurd (cc)
put-recorded g t s x y new e (PutKind.was_read left a b) h = absurd (cc)
put-recorded g t s x y new e (PutKind.written a b c) h = absurd (cc)
put-recorded g t s x y new e (PutKind.fired a) h = absurd (cc)
put-recorded g t s x y new e (PutKind.frees a same) h = absurd (cc)
put-recorded g t s x y new e (PutKind.asked same m l) h = absurd (cc)
put-recorded g t s x y new e (PutKind.recorded {gone = gone}) h =
    let same = same_end-eq gone e h in (
      (flow_at s gone).moved,
      (flow_at s (peer gone)).given,
      ap
          (λ v. (entry.Freed v cause.Hook (flow_at s gone).moved (flow_at s (peer gone)).given, [])) same,
    )
put-recorded g t s x y new e (PutKind.closed a) h = absurd (cc)

pub asked_frees_are_next : AskedFreesAreNext
asked_frees_are_next g t before after me e bytes next legal split =
    let asked : Event = (entry.Asked me (act.Free e) ask.Ok, bytes) in
    let k = there g t legal.0 legal.1 (before ++ asked ∷ []) next after (split ∙ sym (append_assoc before (asked ∷ []) (next ∷ after))) in
    put-recorded g (before ++ asked ∷ []) k.old.plain k.old.stage next k.new e k.kind (freeing-next g (before ++ asked ∷ []) k.old
    k.reached before me e bytes refl)
