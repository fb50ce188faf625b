-- Where writing was ended at both sides of a link, closing frees both as done, and nothing comes between: the entries, and all steps.
use Rattle.std.proofs.Common.{◌≡◌, ℕ, ◌<◌, ◌≤◌, Bool, true, false, ◌&&◌, ◌||◌, not, List, [], ◌∷◌, ◌++◌, Some, ◌⊎◌, inl, inr, refl, sym}
use Rattle.std.proofs.Common.{◌∙◌, ap, subst, arith}
use Rattle.std.proofs.lemmas.Bool.{and_from, and_parts, or_cases, or_from, or_left, or_right, cases_lt}
use Rattle.ev_types.specs.declared.side.SideId.{SideId}
use Rattle.ev_types.specs.declared.entry.Entry.{Entry}
use Rattle.ev_types.specs.declared.entry.Entry.TheVariants as entry
use Rattle.ev_types.specs.Sides.{peer, same_end}
use Rattle.ev_types.specs.Trace.{Event, Trace}
use Rattle.relay_model.specs.Trace.{write_closed_by}
use Rattle.relay_model.specs.Settings.{Settings}
use Rattle.relay_model.specs.Plain.{Plain, side_at, is_live}
use Rattle.relay_model.specs.Past.{past}
use Rattle.relay_model.specs.Close.{CloseStep, closing_entry, entry_where, is_complete, steps_left}
use Rattle.relay_model.specs.Stages.{Stage, State, Closing}
use Rattle.relay_model.specs.Turn.{after_reading, Reaches}
use Rattle.relay_model.specs.Told.{freed_by, is_freeing}
use Rattle.relay_model.proofs.EndLemmas.{same_end-eq, same_end-refl}
use Rattle.relay_model.proofs.SeenLemmas.{seen}
use Rattle.relay_model.proofs.EffectLemmas.{SideEffect, Effect}
use Rattle.relay_model.proofs.StepLemmas.{put-effect}
use Rattle.relay_model.proofs.KindLemmas.{ClosedKind, closed-kind, PutKind, put-kind}
use Rattle.relay_model.proofs.CloseCases.{where_parts}
use Rattle.relay_model.proofs.LeftLemmas.{in_of, out_of, in-or-out}
use Rattle.relay_model.proofs.FireLemmas.{reading-open}
use Rattle.relay_model.proofs.ToldLemmas.{kept, list_any-push}
use Rattle.relay_laws.specs.Links.{done_by, is_done}
use Rattle.relay_laws.proofs.DoneOrder.{JoinsNext, Ordered, OrderedAt, left-ordered, open-ordered, IsJoining, IsOutNext, Ended, joining}
use Rattle.relay_laws.proofs.DoneOrder.{half_done, all_done, Joined, quiet-joined}

-- Entries

done-push : (e : SideId) (t : Trace) (y : Event) → is_done e t ≡ true → is_done e (t ++ y ∷ []) ≡ true
done-push e t y h = list_any-push (done_by e) t y ∙ or_left (is_done e t) (done_by e y) h

done-now : (e : SideId) (t : Trace) (y : Event) → done_by e y ≡ true → is_done e (t ++ y ∷ []) ≡ true
done-now e t y h = list_any-push (done_by e) t y ∙ or_right (is_done e t) (done_by e y) h

module _ (g : Settings) (t : Trace) (k : ℕ) where
  -- closing at a link at both of whose sides writing was ended
  closed-joining : (s : Plain) (c : CloseStep) (cs : List CloseStep) (y : Entry) (new : Plain) → closing_entry g (past g t) s c ≡ Some y →
      (side_at s (in_of k)).write_ended ≡ true → (side_at s (out_of k)).write_ended ≡ true → JoinsNext k (c ∷ cs) →
      Ended k (t ++ (y, []) ∷ []) (Closing (steps_left c cs)) new
  closed-joining s (CloseStep.BothDone n) cs y new h d f j =
      half_done (done-now (in_of k) t (y, []) (go y (closed-kind g (past g t) s (CloseStep.BothDone n) y h))) j
    where
      go : (v : Entry) → ClosedKind g (past g t) s (CloseStep.BothDone n) v → done_by (in_of k) (v, []) ≡ true
      go v (ClosedKind.in_done a b c w) = ap (λ z. same_end (in_of z) (in_of k)) j ∙ same_end-refl (in_of k)
  closed-joining s (CloseStep.EndWriting e) (CloseStep.BothDone n ∷ cs) y new h d f j =
      absurd (ended (side_at s e).write_ended (is_ended (in-or-out e)) h)
    where
      is_ended : (e ≡ in_of e.link) ⊎ (e ≡ out_of e.link) → (side_at s e).write_ended ≡ true
      is_ended (inl same) = ap (λ z. (side_at s z).write_ended) (same ∙ ap in_of j.0) ∙ d
      is_ended (inr same) = ap (λ z. (side_at s z).write_ended) (same ∙ ap out_of j.0) ∙ f

      ready : Bool
      ready = (side_at s e).live && is_live s (peer e) && is_complete g (past g t) s (peer e) && not (side_at s e).connecting

      ended : (b : Bool) → b ≡ true → entry_where (ready && not b) (entry.CloseWrite e) ≡ Some y → ⊥
      ended true i h = none ready h
        where
          none : (b : Bool) → entry_where (b && false) (entry.CloseWrite e) ≡ Some y → ⊥
          none true h = cc
          none false h = cc
      ended false i h = absurd (cc)
  closed-joining s _ cs y new h d f j = absurd j

  closed-out : (s : Plain) (c : CloseStep) (cs : List CloseStep) (y : Entry) → closing_entry g (past g t) s c ≡ Some y →
      IsOutNext k (Closing (c ∷ cs)) → done_by (out_of k) (y, []) ≡ true
  closed-out s (CloseStep.OutDone n) cs y h j = go y (closed-kind g (past g t) s (CloseStep.OutDone n) y h)
    where
      go : (v : Entry) → ClosedKind g (past g t) s (CloseStep.OutDone n) v → done_by (out_of k) (v, []) ≡ true
      go v ClosedKind.out_done = ap (λ z. same_end (out_of z) (out_of k)) j ∙ same_end-refl (out_of k)
  closed-out s _ cs y h j = absurd j

  -- both sides live, and are to be looked at for being done
  record IsJoined (s : Plain) (x : Stage) : Type 0 where
    pub near : is_live s (in_of k) ≡ true
    pub far : is_live s (out_of k) ≡ true
    pub joins : IsJoining k x

  lives-both : (s : Plain) (z : SideId) → z.link ≡ k → is_live s z ≡ true → is_live s (peer z) ≡ true → (x : Stage) → IsJoining k x →
      IsJoined s x
  lives-both s z l a b x j = go (in-or-out z)
    where
      go : (z ≡ in_of z.link) ⊎ (z ≡ out_of z.link) → IsJoined s x
      go (inl same) =
          let near : z ≡ in_of k = same ∙ ap in_of l in
          record { near = ap (λ v. is_live s v) (sym near) ∙ a; far = ap (λ v. is_live s (peer v)) (sym near) ∙ b; joins = j }
      go (inr same) =
          let far : z ≡ out_of k = same ∙ ap out_of l in
          record { near = ap (λ v. is_live s (peer v)) (sym far) ∙ b; far = ap (λ v. is_live s v) (sym far) ∙ a; joins = j }

  -- writing is ended at a side of the link
  closed-write : (s : Plain) (c : CloseStep) (cs : List CloseStep) (y : Entry) (e : SideId) → e.link ≡ k →
      ClosedKind g (past g t) s c y → closing_entry g (past g t) s c ≡ Some y →
      write_closed_by e (y, []) ≡ true → Ordered (c ∷ cs) → IsJoined s (Closing (steps_left c cs))
  closed-write s c cs y e l (ClosedKind.faulty a b) h w o = absurd (cc)
  closed-write s c cs y e l (ClosedKind.write_ended {z = z} a b) h w o =
      let same : z ≡ e = same_end-eq z e w in
      let link : z.link ≡ k = ap (λ v. v.link) same ∙ l in
      let x = side_at s z in
      let whole : Bool = x.live && is_live s (peer z) && is_complete g (past g t) s (peer z) in
      let called = (where_parts (whole && not x.connecting && not x.write_ended) (entry.CloseWrite z) (entry.CloseWrite z) h).0 in
      let first = (and_parts (whole && not x.connecting) (not x.write_ended) called).0 in
      let second = (and_parts whole (not x.connecting) first).0 in
      let third = (and_parts (x.live && is_live s (peer z)) (is_complete g (past g t) s (peer z)) second).0 in
      lives-both s z link a (and_parts x.live (is_live s (peer z)) third).1 (Closing cs) (subst (λ n. JoinsNext n cs) link o.0)
  closed-write s c cs y e l (ClosedKind.in_done a b d f) h w o = absurd (cc)
  closed-write s c cs y e l ClosedKind.out_done h w o = absurd (cc)
  closed-write s c cs y e l (ClosedKind.peer_gone a b d) h w o = absurd (cc)
  closed-write s c cs y e l (ClosedKind.shut a b) h w o = absurd (cc)

  -- so it is of the kind of entry that is put
  put-write : (s : Plain) (x : Stage) (y : Event) (new : State) (e : SideId) → e.link ≡ k → PutKind g t s x y new →
      write_closed_by e y ≡ true → OrderedAt x → IsJoined s new.stage
  put-write s x y new e l (PutKind.turned a b) w o = absurd (cc)
  put-write s x y new e l PutKind.polled w o = absurd (cc)
  put-write s x y new e l (PutKind.wanted a) w o = absurd (cc)
  put-write s x y new e l PutKind.poll_failed w o = absurd (cc)
  put-write s x y new e l (PutKind.readied a) w o = absurd (cc)
  put-write s x y new e l PutKind.opened w o = absurd (cc)
  put-write s x y new e l (PutKind.checked a) w o = absurd (cc)
  put-write s x y new e l (PutKind.was_read left a b) w o = absurd (cc)
  put-write s x y new e l (PutKind.written a b c) w o = absurd (cc)
  put-write s x y new e l (PutKind.fired a) w o = absurd (cc)
  put-write s x y new e l (PutKind.frees a same) w o = absurd (cc)
  put-write s x y new e l (PutKind.asked same m n) w o = absurd (cc)
  put-write s x y new e l PutKind.recorded w o = absurd (cc)
  put-write s x y new e l (PutKind.closed {c = c} {cs = cs} {e = z} a) w o =
      closed-write s c cs z e l (closed-kind g (past g t) s c z a) a w o

  -- a link that was being freed as done, or is to be, goes on so
  put-joining : (s : Plain) (x : Stage) (y : Event) (new : State) → PutKind g t s x y new → (side_at s (in_of k)).write_ended ≡ true →
      (side_at s (out_of k)).write_ended ≡ true →
      IsJoining k x → Ended k (t ++ y ∷ []) new.stage new.plain
  put-joining s x y new (PutKind.closed {c = c} {cs = cs} {e = z} a) d f j = closed-joining s c cs z new.plain a d f j
  put-joining s x y new (PutKind.turned a b) d f j = absurd j
  put-joining s x y new PutKind.polled d f j = absurd j
  put-joining s x y new (PutKind.wanted a) d f j = absurd j
  put-joining s x y new PutKind.poll_failed d f j = absurd j
  put-joining s x y new (PutKind.readied a) d f j = absurd j
  put-joining s x y new PutKind.opened d f j = absurd j
  put-joining s x y new (PutKind.checked a) d f j = absurd j
  put-joining s x y new (PutKind.was_read left a b) d f j = absurd j
  put-joining s x y new (PutKind.written a b c) d f j = absurd j
  put-joining s x y new (PutKind.fired a) d f j = absurd j
  put-joining s x y new (PutKind.frees a same) d f j = absurd j
  put-joining s x y new (PutKind.asked same m n) d f j = absurd j
  put-joining s x y new PutKind.recorded d f j = absurd j

  put-out : (s : Plain) (x : Stage) (y : Event) (new : State) → PutKind g t s x y new → IsOutNext k x → done_by (out_of k) y ≡ true
  put-out s x y new (PutKind.closed {c = c} {cs = cs} {e = z} a) j = closed-out s c cs z a j
  put-out s x y new (PutKind.turned a b) j = absurd j
  put-out s x y new PutKind.polled j = absurd j
  put-out s x y new (PutKind.wanted a) j = absurd j
  put-out s x y new PutKind.poll_failed j = absurd j
  put-out s x y new (PutKind.readied a) j = absurd j
  put-out s x y new PutKind.opened j = absurd j
  put-out s x y new (PutKind.checked a) j = absurd j
  put-out s x y new (PutKind.was_read left a b) j = absurd j
  put-out s x y new (PutKind.written a b c) j = absurd j
  put-out s x y new (PutKind.fired a) j = absurd j
  put-out s x y new (PutKind.frees a same) j = absurd j
  put-out s x y new (PutKind.asked same m n) j = absurd j
  put-out s x y new PutKind.recorded j = absurd j

  -- where writing is ended just now, both sides live still
  lives-on : (s : Plain) (y : Event) (new : State) (e z : SideId) →
      SideEffect e y new.stage (seen (side_at s e)) (seen (side_at new.plain e)) →
      write_closed_by z y ≡ true → is_freeing new.stage e ≡ false → is_live s e ≡ true → is_live new.plain e ≡ true
  lives-on s y new e z effect w still live =
      let apart = or_from (freed_by e y) (is_freeing new.stage e) (none y w) still in
      effect.live ∙ and_from (is_live s e) (not (freed_by e y || is_freeing new.stage e)) live (ap not apart)
    where
      none : (y : Event) → write_closed_by z y ≡ true → freed_by e y ≡ false
      none (entry.CloseWrite side, bytes) w = refl
      none (entry.Freed side why moved given, bytes) w = absurd (cc)
      none _ w = refl

  joining-still : (x : Stage) (e : SideId) → IsJoining k x → is_freeing x e ≡ false
  joining-still (Closing cs) e j = refl
  joining-still _ e j = absurd j

  put-ended : (s : Plain) (x : Stage) (y : Event) (new : State) → k < s.opened → PutKind g t s x y new →
      Effect g x s y new.stage new.plain → Joined t x s →
      (side_at new.plain (in_of k)).write_ended ≡ true → (side_at new.plain (out_of k)).write_ended ≡ true →
      Ended k (t ++ y ∷ []) new.stage new.plain
  put-ended s x y new lt kind effect h d f =
      go (or_cases (side_at s (in_of k)).write_ended (write_closed_by (in_of k) y) (sym near.write_ended ∙ d))
      (or_cases (side_at s (out_of k)).write_ended (write_closed_by (out_of k) y) (sym far.write_ended ∙ f))
    where
      near : SideEffect (in_of k) y new.stage (seen (side_at s (in_of k))) (seen (side_at new.plain (in_of k)))
      near = effect.each (in_of k) lt

      far : SideEffect (out_of k) y new.stage (seen (side_at s (out_of k))) (seen (side_at new.plain (out_of k)))
      far = effect.each (out_of k) lt

      just : (e : SideId) → e.link ≡ k → write_closed_by e y ≡ true → Ended k (t ++ y ∷ []) new.stage new.plain
      just e l w =
          let j = put-write s x y new e l kind w h.ordered in
          joining (lives-on s y new (in_of k) e near w (joining-still new.stage (in_of k) j.joins) j.near)
          (lives-on s y new (out_of k) e far w (joining-still new.stage (out_of k) j.joins) j.far) j.joins

      both : (side_at s (in_of k)).write_ended ≡ true → (side_at s (out_of k)).write_ended ≡ true → Ended k t x s →
          Ended k (t ++ y ∷ []) new.stage new.plain
      both a b (joining i o j) = put-joining s x y new kind a b j
      both a b (half_done i j) = all_done (done-push (in_of k) t y i) (done-now (out_of k) t y (put-out s x y new kind j))
      both a b (all_done i o) = all_done (done-push (in_of k) t y i) (done-push (out_of k) t y o)

      go : ((side_at s (in_of k)).write_ended ≡ true) ⊎ (write_closed_by (in_of k) y ≡ true) →
          ((side_at s (out_of k)).write_ended ≡ true) ⊎ (write_closed_by (out_of k) y ≡ true) →
          Ended k (t ++ y ∷ []) new.stage new.plain
      go (inr w) o = just (in_of k) refl w
      go (inl a) (inr w) = just (out_of k) refl w
      go (inl a) (inl b) = both a b (h.each k lt a b)

put-ordered : (g : Settings) (t : Trace) (s : Plain) (x : Stage) (y : Event) (new : State) → OrderedAt x → PutKind g t s x y new →
    OrderedAt new.stage
put-ordered g t s x y new o (PutKind.turned a b) = tt
put-ordered g t s x y new o PutKind.polled = tt
put-ordered g t s x y new o (PutKind.wanted a) = tt
put-ordered g t s x y new o PutKind.poll_failed = tt
put-ordered g t s x y new o (PutKind.readied a) = tt
put-ordered g t s x y new o PutKind.opened = tt
put-ordered g t s x y new o (PutKind.checked a) = tt
put-ordered g t s x y new o (PutKind.was_read {side = side} {answer = answer} left a b) =
    open-ordered (after_reading side answer left) (reading-open side answer left)
put-ordered g t s x y new o (PutKind.written a b c) = tt
put-ordered g t s x y new o (PutKind.fired a) = tt
put-ordered g t s x y new o (PutKind.frees a same) = tt
put-ordered g t s x y new o (PutKind.asked same k l) = tt
put-ordered g t s x y new o PutKind.recorded = tt
put-ordered g t s x y new o (PutKind.closed {c = c} {cs = cs} a) = left-ordered c cs o

put-joined : (g : Settings) (t : Trace) (s : Plain) (x : Stage) (y : Event) (new : State) → PutKind g t s x y new →
    Effect g x s y new.stage new.plain → Joined t x s → Joined (t ++ y ∷ []) new.stage new.plain
put-joined g t s x y new kind effect h = record {
  ordered = put-ordered g t s x y new h.ordered kind;
  each = λ k lt d f. go k lt d f (cases_lt k s.opened);
}
  where
    go : (k : ℕ) → k < new.plain.opened → (side_at new.plain (in_of k)).write_ended ≡ true →
        (side_at new.plain (out_of k)).write_ended ≡ true → (k < s.opened) ⊎ (s.opened ≤ k) → Ended k (t ++ y ∷ []) new.stage new.plain
    go k lt d f (inl l) = put-ended g t k s x y new l kind effect h d f
    go k lt d f (inr ge) = absurd (
        let none : (side_at new.plain (in_of k)).write_ended ≡ false = ap (λ z. z.write_ended) (effect.came (in_of k) ge lt) in cc)

pub joined : (g : Settings) (t : Trace) (s : State) → Reaches g t s → Joined t s.stage s.plain
joined g t s Reaches.begins = record { ordered = tt; each = λ k lt d f. absurd (omega (arith, lt)) }
joined g t new (Reaches.goes {t = u} {s = old} r h) = quiet-joined g u old.stage old.plain new h (joined g u old r)
joined g t new (Reaches.puts {t = u} {s = old} e bytes r h) =
    let c = kept g u old r in
    put-joined g u old.plain old.stage (e, bytes) new (put-kind g u old.stage old.plain e bytes new c.placed h)
    (put-effect g u old.stage old.plain e bytes new c.counts.shape.sides c.placed h) (joined g u old r)
