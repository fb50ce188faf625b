-- Where writing was ended at both sides of a link, closing frees both as done, and nothing comes between: by induction over the
-- steps.
use Rattle.std.proofs.Common.{◌≡◌, ℕ, zero, suc, ◌+◌, ◌<◌, Bool, true, false, ◌&&◌, if◌then◌else◌, List, [], ◌∷◌, Some, None, inl, inr}
use Rattle.std.proofs.Common.{refl, sym, ◌∙◌, ap, subst}
use Rattle.std.specs.Prelude.{⊤}
use Rattle.std.proofs.lemmas.Bool.{and_from}
use Rattle.ev_types.specs.declared.side.Side.TheVariants.{Out}
use Rattle.ev_types.specs.declared.side.SideId.{SideId}
use Rattle.ev_types.specs.declared.why.Cause.TheVariants as cause
use Rattle.ev_types.specs.declared.entry.Entry.{Entry}
use Rattle.ev_types.specs.Trace.{Trace}
use Rattle.relay_model.specs.Settings.{Settings}
use Rattle.relay_model.specs.Plain.{Plain, side_at, is_live}
use Rattle.relay_model.specs.Past.{Past, past}
use Rattle.relay_model.specs.Close.{CloseStep, closing_from, closing_entry, entry_where, freed_entry, steps_left}
use Rattle.relay_model.specs.Stages.{Stage, Halt, State, Wanting, Marking, Accepting, Serving, Filtering, Dispatching, Firing, Passing}
use Rattle.relay_model.specs.Stages.{Closing, Over}
use Rattle.relay_model.specs.Turn.{Quietly}
use Rattle.relay_model.proofs.KeepsLemmas.{Keeps-side}
use Rattle.relay_model.proofs.SeenLemmas.{but_bad}
use Rattle.relay_model.proofs.StageLemmas.{quiet-silent}
use Rattle.relay_model.proofs.LeftLemmas.{in_of, out_of}
use Rattle.relay_model.proofs.FireLemmas.{is_open_stage}
use Rattle.relay_laws.specs.Links.{is_done}

-- The order of closing

-- both sides of a link are to be looked at for being done, at once or behind the end of writing at one of them
abbrev pub JoinsNext : ℕ → List CloseStep → Type 0
JoinsNext k (CloseStep.BothDone n ∷ cs) = n ≡ k
JoinsNext k (CloseStep.EndWriting e ∷ CloseStep.BothDone n ∷ cs) = (e.link ≡ k) × (n ≡ k)
JoinsNext k _ = ⊥

abbrev pub Ordered : List CloseStep → Type 0
Ordered [] = ⊤
Ordered (CloseStep.EndWriting e ∷ cs) = JoinsNext e.link cs × Ordered cs
Ordered (c ∷ cs) = Ordered cs

abbrev pub OrderedAt : Stage → Type 0
OrderedAt (Closing cs) = Ordered cs
OrderedAt _ = ⊤

closing-ordered : (k left : ℕ) → Ordered (closing_from k left)
closing-ordered k zero = tt
closing-ordered k (suc left) = ((refl, refl), (refl, closing-ordered (k + 1) left))

pub left-ordered : (c : CloseStep) (cs : List CloseStep) → Ordered (c ∷ cs) → Ordered (steps_left c cs)
left-ordered (CloseStep.Faulty e) cs h = h
left-ordered (CloseStep.EndWriting e) cs h = h.1
left-ordered (CloseStep.BothDone k) cs h = h
left-ordered (CloseStep.OutDone k) cs h = h
left-ordered (CloseStep.PeerGone e) cs h = h
left-ordered (CloseStep.Shut e) cs h = h

first-ordered : (c : CloseStep) (cs : List CloseStep) → Ordered (c ∷ cs) → Ordered cs
first-ordered (CloseStep.Faulty e) cs h = h
first-ordered (CloseStep.EndWriting e) cs h = h.1
first-ordered (CloseStep.BothDone k) cs h = h
first-ordered (CloseStep.OutDone k) cs h = h
first-ordered (CloseStep.PeerGone e) cs h = h
first-ordered (CloseStep.Shut e) cs h = h

pub open-ordered : (x : Stage) → is_open_stage x ≡ true → OrderedAt x
open-ordered (Closing cs) h = absurd (cc)
open-ordered _ h = tt

-- At the stage of a turn

abbrev pub IsJoining : ℕ → Stage → Type 0
IsJoining k (Closing cs) = JoinsNext k cs
IsJoining k _ = ⊥

-- the Out side of a link is to be freed as done next
abbrev pub IsOutNext : ℕ → Stage → Type 0
IsOutNext k (Closing (CloseStep.OutDone n ∷ cs)) = n ≡ k
IsOutNext k _ = ⊥

-- what is so of a link at both of whose sides writing was ended
pub data Ended (k : ℕ) (t : Trace) (x : Stage) (s : Plain) : Type 0 where
  joining : is_live s (in_of k) ≡ true → is_live s (out_of k) ≡ true → IsJoining k x → Ended k t x s
  half_done : is_done (in_of k) t ≡ true → IsOutNext k x → Ended k t x s
  all_done : is_done (in_of k) t ≡ true → is_done (out_of k) t ≡ true → Ended k t x s

pub record Joined (t : Trace) (x : Stage) (s : Plain) : Type 0 where
  pub ordered : OrderedAt x
  pub each : (k : ℕ) → k < s.opened → (side_at s (in_of k)).write_ended ≡ true → (side_at s (out_of k)).write_ended ≡ true → Ended k t x s

-- a step that is to be done is called for
where-some : (b : Bool) (y : Entry) → entry_where b y ≡ None → b ≡ true → ⊥
where-some true y h k = cc
where-some false y h k = cc

both_called : (g : Settings) (p : Past) (s : Plain) (k : ℕ) → closing_entry g p s (CloseStep.BothDone k) ≡ None →
    is_live s (in_of k) ≡ true → is_live s (out_of k) ≡ true →
    (side_at s (in_of k)).write_ended ≡ true → (side_at s (out_of k)).write_ended ≡ true → ⊥
both_called g p s k none a b d f =
    let x = side_at s (in_of k) in
    let y = side_at s (out_of k) in
    where-some (x.live && y.live && x.write_ended && y.write_ended) (freed_entry s (in_of k) cause.Done) none
    (and_from (x.live && y.live && x.write_ended) y.write_ended
    (and_from (x.live && y.live) x.write_ended (and_from x.live y.live a b) d) f)

-- Silent steps

module _ (g : Settings) (t : Trace) (k : ℕ) where
  quiet-joining : (x : Stage) (s : Plain) (new : State) → Quietly g t x s new → is_live s (in_of k) ≡ true → is_live s (out_of k) ≡ true →
      (side_at s (in_of k)).write_ended ≡ true → (side_at s (out_of k)).write_ended ≡ true → IsJoining k x → IsJoining k new.stage
  quiet-joining (Closing (CloseStep.BothDone n ∷ cs)) s new h a b d f j =
      absurd (both_called g (past g t) s k (ap (λ z. closing_entry g (past g t) s (CloseStep.BothDone z)) (sym j) ∙ h.0) a b d f)
  quiet-joining (Closing (CloseStep.EndWriting e ∷ CloseStep.BothDone n ∷ cs)) s new h a b d f j =
      subst (λ z. IsJoining k z.stage) (sym h.1) j.1
  quiet-joining (Closing _) s new h a b d f j = absurd j
  quiet-joining _ s new h a b d f j = absurd j

  quiet-out : (x : Stage) (s : Plain) (new : State) → Quietly g t x s new → IsOutNext k x → ⊥
  quiet-out (Closing (CloseStep.OutDone n ∷ cs)) s new h j =
      let none : Some (freed_entry s (record { link = n; side = Out }) cause.Done) ≡ None = h.0 in cc
  quiet-out (Closing _) s new h j = absurd j
  quiet-out _ s new h j = absurd j

  quiet-ended : (x : Stage) (s : Plain) (new : State) → Quietly g t x s new → is_live new.plain (in_of k) ≡ is_live s (in_of k) →
      is_live new.plain (out_of k) ≡ is_live s (out_of k) →
      (side_at s (in_of k)).write_ended ≡ true → (side_at s (out_of k)).write_ended ≡ true → Ended k t x s → Ended k t new.stage new.plain
  quiet-ended x s new h i o d f (joining a b j) = joining (i ∙ a) (o ∙ b) (quiet-joining x s new h a b d f j)
  quiet-ended x s new h i o d f (half_done a j) = absurd (quiet-out x s new h j)
  quiet-ended x s new h i o d f (all_done a b) = all_done a b

quiet-ordered : (g : Settings) (t : Trace) (x : Stage) (s : Plain) (new : State) → OrderedAt x → Quietly g t x s new → OrderedAt new.stage
quiet-ordered g t (Wanting []) s new o h = subst (λ z. OrderedAt z.stage) (sym h) tt
quiet-ordered g t (Marking (w ∷ ws) marks) s new o h = subst (λ z. OrderedAt z.stage) (sym h) tt
quiet-ordered g t (Marking [] marks) s new o h = subst (λ z. OrderedAt z.stage) (sym h) tt
quiet-ordered g t (Accepting n marks) s new o h = subst (λ z. OrderedAt z.stage) (sym h) tt
quiet-ordered g t (Serving (m ∷ ms)) s new o h = subst (λ z. OrderedAt z.stage) (sym h.1) tt
quiet-ordered g t (Filtering e ms) s new o h = subst (λ z. OrderedAt z.stage) (sym h) tt
quiet-ordered g t (Serving []) s new o h = subst (λ z. OrderedAt z.stage) (sym h) tt
quiet-ordered g t (Firing x rs) s new o h = subst (λ z. OrderedAt z.stage) (sym h) (fire x.stopped)
  where
    fire : (b : Bool) → OrderedAt (if b then Over (Halt.StoppedBy x.side.link) else Dispatching rs)
    fire true = tt
    fire false = tt
quiet-ordered g t (Dispatching []) s new o h = subst (λ z. OrderedAt z.stage) (sym h) tt
quiet-ordered g t (Passing [] (e ∷ es)) s new o (inl h) = subst (λ z. OrderedAt z.stage) (sym h.1) tt
quiet-ordered g t (Passing [] (e ∷ es)) s new o (inr h) = subst (λ z. OrderedAt z.stage) (sym h) tt
quiet-ordered g t (Passing (x ∷ xs) (e ∷ es)) s new o h = subst (λ z. OrderedAt z.stage) (sym h) tt
quiet-ordered g t (Passing [] []) s new o h = subst (λ z. OrderedAt z.stage) (sym h) (closing-ordered 0 s.opened)
quiet-ordered g t (Closing (c ∷ cs)) s new o h = subst (λ z. OrderedAt z.stage) (sym h.1) (first-ordered c cs o)
quiet-ordered g t (Closing []) s new o h = subst (λ z. OrderedAt z.stage) (sym h) tt
quiet-ordered g t _ s new o h = absurd h

pub quiet-joined : (g : Settings) (t : Trace) (x : Stage) (s : Plain) (new : State) → Quietly g t x s new → Joined t x s →
    Joined t new.stage new.plain
quiet-joined g t x s new h k =
    let silent = quiet-silent g t x s new h in
    let same : (e : SideId) → but_bad (side_at new.plain e) ≡ but_bad (side_at s e) =
    λ e. Keeps-side but_bad s new.plain e silent.keeps in
    let opened : new.plain.opened ≡ s.opened = silent.keeps.opened in
    record {
      ordered = quiet-ordered g t x s new k.ordered h;
      each = λ n lt i o.
          let i_old : (side_at s (in_of n)).write_ended ≡ true = sym (ap (λ z. z.write_ended) (same (in_of n))) ∙ i in
          let o_old : (side_at s (out_of n)).write_ended ≡ true = sym (ap (λ z. z.write_ended) (same (out_of n))) ∙ o in
          let here = subst (λ m. n < m) opened lt in
          quiet-ended g t n x s new h (ap (λ z. z.live) (same (in_of n))) (ap (λ z. z.live) (same (out_of n))) i_old o_old
          (k.each n here i_old o_old);
    }
