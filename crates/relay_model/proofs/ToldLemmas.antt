-- What the plain state that a trace leads to and the trace tell of each other, by induction over the steps.
use Rattle.std.proofs.Common.{◌≡◌, ℕ, ◌+◌, ◌*◌, ◌<◌, ◌≤◌, Bool, true, false, ◌&&◌, ◌||◌, not, if◌then◌else◌, List, [], ◌∷◌, ◌++◌, length}
use Rattle.std.proofs.Common.{◌⊎◌, inl, inr, refl, sym, ◌∙◌, ap, subst, arith, count_by}
use Rattle.std.specs.List.{list_any}
use Rattle.std.proofs.lemmas.Bool.{or_parts, or_from, cases_lt}
use Rattle.std.proofs.lemmas.List.Folds.{list_any-append}
use Rattle.std.proofs.lemmas.List.Sums.{fold_push, sum_by-append}
use Rattle.ev_types.specs.declared.side.SideId.{SideId}
use Rattle.ev_types.specs.declared.answer.ConnAnswer.TheVariants as conn
use Rattle.ev_types.specs.declared.answer.ReadAnswer.TheVariants as read
use Rattle.ev_types.specs.declared.answer.WriteAnswer.TheVariants as write
use Rattle.ev_types.specs.declared.entry.Entry.{Entry}
use Rattle.ev_types.specs.declared.entry.Entry.TheVariants as entry
use Rattle.ev_types.specs.Trace.{Event, Trace}
use Rattle.relay_model.specs.Trace.{ended_by, write_closed_by}
use Rattle.relay_model.specs.Settings.{Settings}
use Rattle.relay_model.specs.Plain.{Plain, side_at, is_live}
use Rattle.relay_model.specs.Stages.{Stage, State, Freeing}
use Rattle.ev_types.specs.Times.{latest}
use Rattle.relay_model.specs.Turn.{Puts, Quietly, Reaches}
use Rattle.relay_model.specs.RatesKept.{is_turn, time_by}
use Rattle.relay_model.specs.Totals.{is_opened}
use Rattle.relay_model.specs.Told.{names, freed_by, is_freed, end_closed_by, failed_by, is_freeing, CountsTold, SideTold}
use Rattle.relay_model.proofs.EndLemmas.{same_end-eq}
use Rattle.relay_model.proofs.KeepsLemmas.{Keeps-side, Keeps-length}
use Rattle.relay_model.proofs.SeenLemmas.{seen, but_bad}
use Rattle.relay_model.proofs.EffectLemmas.{Effect, fresh}
use Rattle.relay_model.proofs.PlacedLemmas.{Placed}
use Rattle.relay_model.proofs.StepLemmas.{put-effect}
use Rattle.relay_model.proofs.StageLemmas.{Silent, quiet-silent, quiet-placed, put-placed}

-- A trace with one event more

or_false : (a b : Bool) → (a || (b || false)) ≡ (a || b)
or_false true b = refl
or_false false true = refl
or_false false false = refl

pub list_any-push : (p : Event → Bool) (t : Trace) (y : Event) → list_any p (t ++ y ∷ []) ≡ (list_any p t || p y)
list_any-push p t y = list_any-append p t (y ∷ []) ∙ or_false (list_any p t) (p y)

pub count_by-push : (p : Event → Bool) (t : Trace) (y : Event) → count_by p (t ++ y ∷ []) ≡ count_by p t + (if p y then 1 else 0)
count_by-push p t y = let h = sum_by-append (λ z. if p z then 1 else 0) t (y ∷ []) in omega arith

-- an event that is told of a side names it
freed-names : (e : SideId) (y : Event) → names e y ≡ false → freed_by e y ≡ false
freed-names e (entry.Freed side why moved given, bytes) h = h
freed-names e _ h = refl

pub ended-names : (e : SideId) (y : Event) → names e y ≡ false → ended_by e y ≡ false
ended-names e (entry.Read side room read.Ended, bytes) h = h
ended-names e _ h = refl

failed-names : (e : SideId) (y : Event) → names e y ≡ false → failed_by e y ≡ false
failed-names e (entry.Conn side conn.Failed, bytes) h = h
failed-names e (entry.Read side room read.Failed, bytes) h = h
failed-names e (entry.Write side offered write.Failed, bytes) h = h
failed-names e _ h = refl

write_closed-names : (e : SideId) (y : Event) → names e y ≡ false → write_closed_by e y ≡ false
write_closed-names e (entry.CloseWrite side, bytes) h = h
write_closed-names e _ h = refl

end_closed-names : (e : SideId) (y : Event) → names e y ≡ false → end_closed_by e y ≡ false
end_closed-names e (entry.Close side, bytes) h = h
end_closed-names e _ h = refl

-- where no event is of the one kind, none is of the other
pub none_of : (p q : Event → Bool) → ((y : Event) → p y ≡ false → q y ≡ false) → (t : Trace) → list_any p t ≡ false → list_any q t ≡ false
none_of p q less [] h = refl
none_of p q less (y ∷ t) h = let k = or_parts (p y) (list_any p t) h in or_from (q y) (list_any q t) (less y k.0) (none_of p q less t k.1)

-- nothing was told of a side that no event names
unnamed : (t : Trace) (x : Stage) (s : Plain) (e : SideId) → list_any (names e) t ≡ false → is_freeing x e ≡ false → seen
    (side_at s e) ≡ fresh → SideTold t x s e
unnamed t x s e h still k = record {
  live = ap (λ z. z.live) k ∙ sym (ap not (or_from (is_freed e t) (is_freeing x e) (none_of (names e) (freed_by e) (freed-names e)
      t h) still));
  ended = ap (λ z. z.ended) k ∙ sym (none_of (names e) (ended_by e) (ended-names e) t h);
  failed = ap (λ z. z.failed) k ∙ sym (none_of (names e) (failed_by e) (failed-names e) t h);
  write_ended = ap (λ z. z.write_ended) k ∙ sym (none_of (names e) (write_closed_by e) (write_closed-names e) t h);
  closed = ap (λ z. z.closed) k ∙ sym (none_of (names e) (end_closed_by e) (end_closed-names e) t h);
}

-- the flag of a side and the trace after one event more
flag-push : (p : Event → Bool) (t : Trace) (y : Event) (old new : Bool) → new ≡ (old || p y) → old ≡ list_any p t → new ≡ list_any
    p (t ++ y ∷ [])
flag-push p t y old new h k = h ∙ ap (λ z. z || p y) k ∙ sym (list_any-push p t y)

live-push : (a f b d : Bool) → (f ≡ true → b ≡ true) → (not (a || f) && not (b || d)) ≡ not ((a || b) || d)
live-push true f b d h = refl
live-push false false b d h = refl
live-push false true true d h = refl
live-push false true false d h = absurd (let k = h refl in cc)

side-push : (g : Settings) (t : Trace) (x : Stage) (s : Plain) (y : Event) (after : Stage) (new : Plain) → Effect g x s y after new →
    (e : SideId) → e.link < s.opened → SideTold t x s e → SideTold (t ++ y ∷ []) after new e
side-push g t x s y after new k e lt h =
    let c = k.each e lt in
    record {
      live =
          c.live ∙ ap (λ z. z && not (freed_by e y || is_freeing after e)) h.live
          ∙ live-push (is_freed e t) (is_freeing x e) (freed_by e y) (is_freeing after e) (k.frees e)
          ∙ ap (λ z. not (z || is_freeing after e)) (sym (list_any-push (freed_by e) t y));
      ended = flag-push (ended_by e) t y _ _ c.ended h.ended;
      failed = flag-push (failed_by e) t y _ _ c.failed h.failed;
      write_ended = flag-push (write_closed_by e) t y _ _ c.write_ended h.write_ended;
      closed = flag-push (end_closed_by e) t y _ _ c.closed h.closed;
    }

-- all that is kept along a run
pub record Kept (g : Settings) (t : Trace) (x : Stage) (s : Plain) : Type 0 where
  pub counts : CountsTold g t s
  pub each : (e : SideId) → e.link < s.opened → SideTold t x s e
  pub placed : Placed x s

named-push : (t : Trace) (y : Event) (n m : ℕ) (e : SideId) → (n ≤ m) → (names e y ≡ true → e.link < n) →
    (n ≤ e.link → list_any (names e) t ≡ false) → m ≤ e.link → list_any (names e) (t ++ y ∷ []) ≡ false
named-push t y n m e le one before h = list_any-push (names e) t y ∙ or_from (list_any (names e) t) (names e y)
    (before (omega arith)) (go (names e y) refl)
  where
    go : (q : Bool) → names e y ≡ q → names e y ≡ false
    go false k = k
    go true k = absurd (let l = one k in omega arith)

grows : (n m : ℕ) (b : Bool) → m ≡ (n + (if b then 1 else 0)) → n ≤ m
grows n m true h = omega arith
grows n m false h = omega arith

-- a side that is being freed doesn't live
pub freeing-dead : (x : Stage) (s : Plain) (z : SideId) → Placed x s → is_freeing x z ≡ true → is_live s z ≡ false
freeing-dead (Freeing gone f rs) s z placed h = ap (λ v. is_live s v) (sym (same_end-eq gone z h)) ∙ placed.2
freeing-dead _ s z placed h = absurd (cc)

fresh-still : (x : Stage) (s : Plain) (z : SideId) → Placed x s → seen (side_at s z) ≡ fresh → is_freeing x z ≡ false
fresh-still x s z placed h = go (is_freeing x z) refl
  where
    go : (q : Bool) → is_freeing x z ≡ q → is_freeing x z ≡ false
    go false k = k
    go true k = absurd (let dead = freeing-dead x s z placed k in let live : is_live s z ≡ true = ap (λ v. v.live) h in cc)

put-side : (g : Settings) (t : Trace) (x : Stage) (s : Plain) (y : Event) (after : Stage) (new : Plain) → Effect g x s y after new
    → Placed after new → (z : SideId) → z.link < new.opened →
    (s.opened ≤ z.link → list_any (names z) t ≡ false) → (z.link < s.opened → SideTold t x s z) → (z.link < s.opened) ⊎
    (s.opened ≤ z.link) → SideTold (t ++ y ∷ []) after new z
put-side g t x s y after new k placed z lt none told (inl l) = side-push g t x s y after new k z l (told l)
put-side g t x s y after new k placed z lt none told (inr ge) =
    let came = k.came z ge lt in
    let other : names z y ≡ false = go (names z y) refl in
    unnamed (t ++ y ∷ []) after new z (list_any-push (names z) t y ∙ or_from (list_any (names z) t) (names z y) (none ge) other)
    (fresh-still after new z placed came) came
  where
    go : (q : Bool) → names z y ≡ q → names z y ≡ false
    go false e = e
    go true e = absurd (let l = k.named z e in omega arith)

put-kept : (g : Settings) (t : Trace) (x : Stage) (s : Plain) (e : Entry) (bytes : List ℕ) (new : State) → Kept g t x s → Puts g t
    x s e bytes new → Kept g (t ++ (e, bytes) ∷ []) new.stage new.plain
put-kept g t x s e bytes new h put =
    let c = h.counts in
    let k : Effect g x s (e, bytes) new.stage new.plain = put-effect g t x s e bytes new c.shape.sides h.placed put in
    let more = grows s.opened new.plain.opened (is_opened (e, bytes)) k.opened in
    let placed : Placed new.stage new.plain = put-placed g t x s e bytes new c.shape.sides h.placed put in
    let told : (z : SideId) → z.link < new.plain.opened → (z.link < s.opened) ⊎ (s.opened ≤ z.link) → SideTold
    (t ++ (e, bytes) ∷ []) new.stage new.plain z =
    λ z lt o. put-side g t x s (e, bytes) new.stage new.plain k placed z lt (c.named z) (h.each z) o in
    let named : (z : SideId) → new.plain.opened ≤ z.link → list_any (names z) (t ++ (e, bytes) ∷ []) ≡ false = λ z. named-push t
    (e, bytes) s.opened new.plain.opened z more (k.named z) (c.named z) in
    record {
      counts = record {
        shape = record {
          time = k.time ∙ ap (λ n. time_by n (e, bytes)) c.shape.time ∙ sym (fold_push time_by 0 t (e, bytes));
          turn = k.turn ∙ ap (λ n. n + (if is_turn (e, bytes) then 1 else 0)) c.shape.turn ∙ sym (count_by-push is_turn t (e, bytes));
          opened = k.opened ∙ ap (λ n. n + (if is_opened (e, bytes) then 1 else 0)) c.shape.opened ∙ sym
              (count_by-push is_opened t (e, bytes));
          sides = k.sides c.shape.sides;
          flows = k.flows c.shape.flows;
        };
        latest = k.until c.latest;
        links = k.links c.links;
        named = named;
      };
      each = λ z lt. told z lt (cases_lt z.link s.opened);
      placed = placed;
    }

quiet-side : (t : Trace) (x : Stage) (s : Plain) (after : Stage) (new : Plain) (z : SideId) → Silent x s after new → SideTold t x s
    z → SideTold t after new z
quiet-side t x s after new z k h =
    let c = Keeps-side but_bad s new z k.keeps in
    record {
      live = ap (λ v. v.live) c ∙ h.live ∙ ap (λ q. not (is_freed z t || q)) (k.before z ∙ sym (k.still z));
      ended = ap (λ v. v.ended) c ∙ h.ended;
      failed = ap (λ v. v.failed) c ∙ h.failed;
      write_ended = ap (λ v. v.write_ended) c ∙ h.write_ended;
      closed = ap (λ v. v.closed) c ∙ h.closed;
    }

quiet-kept : (g : Settings) (t : Trace) (x : Stage) (s : Plain) (new : State) → Kept g t x s → Quietly g t x s new → Kept g t
    new.stage new.plain
quiet-kept g t x s new h quiet =
    let c = h.counts in
    let k : Silent x s new.stage new.plain = quiet-silent g t x s new quiet in
    let o : new.plain.opened ≡ s.opened = k.keeps.opened in
    let size : length new.plain.sides ≡ length s.sides = Keeps-length but_bad s new.plain k.keeps in
    let flows : length new.plain.flows ≡ length s.flows = k.keeps.flows in
    let sizes : length s.sides ≡ 2 * s.opened = c.shape.sides in
    let flow_sizes : length s.flows ≡ 2 * s.opened = c.shape.flows in
    record {
      counts = record {
        shape = record {
          time = k.keeps.time ∙ c.shape.time;
          turn = k.keeps.turn ∙ c.shape.turn;
          opened = o ∙ c.shape.opened;
          sides = omega arith;
          flows = omega arith;
        };
        latest = subst (λ n. n ≤ latest) (sym k.keeps.time) c.latest;
        links = subst (λ n. n ≤ g.links) (sym o) c.links;
        named = λ z le. c.named z (subst (λ n. n ≤ z.link) o le);
      };
      each = λ z lt. quiet-side t x s new.stage new.plain z k (h.each z (subst (λ n. z.link < n) o lt));
      placed = quiet-placed g t x s new h.placed quiet;
    }

pub kept : (g : Settings) (t : Trace) (s : State) → Reaches g t s → Kept g t s.stage s.plain
kept g t s (Reaches.begins) = record {
  counts = record {
    shape = record { time = refl; turn = refl; opened = refl; sides = refl; flows = refl };
    latest = omega arith;
    links = omega arith;
    named = λ z le. refl;
  };
  each = λ z lt. absurd (omega arith);
  placed = tt;
}
kept g t new (Reaches.goes {t = u} {s = old} r h) = quiet-kept g u old.stage old.plain new (kept g u old r) h
kept g t new (Reaches.puts {t = u} {s = old} e bytes r h) = put-kept g u old.stage old.plain e bytes new (kept g u old r) h
