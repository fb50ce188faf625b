-- Silent steps and bad places, and what both leave of the place that a side keeps.
use Rattle.std.proofs.Common.{◌≡◌, ℕ, ◌<◌, ◌≤◌, Bool, true, false, ◌&&◌, ◌||◌, ◌==◌, if◌then◌else◌, List, [], ◌∷◌, ◌++◌, length, Option}
use Rattle.std.proofs.Common.{Some, None, ◌⊎◌, inl, inr, refl, sym, ◌∙◌, ap, subst, arith, slice_index_or, take, ◌-◌}
use Rattle.std.proofs.lemmas.Bool.{and_parts, cases_lt}
use Rattle.ev_types.specs.declared.side.SideId.{SideId}
use Rattle.ev_types.specs.Sides.{same_end, peer, number}
use Rattle.ev_types.specs.Trace.{Event, Trace}
use Rattle.relay_model.specs.Settings.{Settings}
use Rattle.relay_model.specs.Trace.{ended_by, bytes_read, has_ended}
use Rattle.relay_model.specs.Due.{Due}
use Rattle.relay_model.specs.Flow.{Flow, no_flow, middle, input, raw_output}
use Rattle.relay_model.specs.Plain.{Plain, PlainSide, no_side, side_at, flow_at, put_flow, put_side, is_live}
use Rattle.relay_model.specs.Past.{past}
use Rattle.relay_model.specs.Rooms.{read_kind, write_kind, read_filter, write_filter, read_mark, hold_mark}
use Rattle.relay_model.specs.Stages.{Stage, State, at}
use Rattle.relay_model.specs.Turn.{Reaches}
use Rattle.relay_model.specs.Told.{names}
use Rattle.relay_model.proofs.EndLemmas.{same_end-eq, number-ge, number-apart, peer-peer}
use Rattle.relay_model.proofs.KeepsLemmas.{raised_read}
use Rattle.relay_model.proofs.EffectLemmas.{Effect}
use Rattle.relay_model.proofs.PlacedLemmas.{live-there}
use Rattle.relay_model.specs.Round.{Part, do_part, meets, read_run, write_run}
use Rattle.relay_model.proofs.FireLemmas.{QuietKind, quiet-kind}
use Rattle.relay_model.proofs.ToldLemmas.{Kept, kept, none_of, ended-names}
use Rattle.relay_model.specs.Causes.{IsFirstBad, moved_to, IsBadPlace}
use Rattle.std.specs.Prelude.{nat_lt, nat_eq}
use Rattle.relay_model.proofs.TimeLemmas.{put-cases}
use Rattle.relay_model.proofs.GrownLemmas.{moved_list, FlowOk, IsBadIn, bad-grew, bad-met, Grown, grown-same, stations, grown-counts}
use Rattle.relay_model.proofs.GrownLemmas.{grown-used, grown-done, grown-moved}
use Rattle.relay_model.proofs.BadLemmas.{Goes, AllFit, put-goes}
use Rattle.std.proofs.lemmas.List.{get_or_past, set_past, get_or-set_same, get_or-set_other}
use Rattle.filter_model.specs.FilterLaws.{BadLaw, IsFilter}
use Rattle.filter_model.proofs.EveryFilter.{every_filter}
use Rattle.relay_model.specs.Pass.{write_stops, with_used, read_place, with_read_done, with_turned, write_place, with_write_done, with_held}
use Rattle.filter_model.specs.Stopping.{first_from, is_over}
use Rattle.relay_model.specs.Conserved.{all_moved}
use Rattle.filter_model.specs.Filter.{Filter, met, or_else}
use Rattle.relay_model.proofs.StepLemmas.{put-effect}
use Rattle.relay_model.proofs.KindLemmas.{PutKind, put-kind}

-- what the state says of an end that has ended, for every name
pub ended-is : (g : Settings) (t : Trace) (x : Stage) (s : Plain) → Kept g t x s → (e : SideId) → (side_at s e).ended ≡ has_ended e t
ended-is g t x s k e = go (cases_lt e.link s.opened)
  where
    go : (e.link < s.opened) ⊎ (s.opened ≤ e.link) → (side_at s e).ended ≡ has_ended e t
    go (inl lt) = (k.each e lt).ended
    go (inr ge) =
        ap (λ z. z.ended) (get_or_past s.sides (number e) no_side (let size = k.counts.shape.sides in
        omega (arith, number-ge e s.opened ge)))
        ∙ sym (none_of (names e) (ended_by e) (ended-names e) t (k.counts.named e ge))

-- The place of a side, which is bad for its read filter in the direction that begins at it, or for its write filter in the
-- direction that begins at its peer.
abbrev BadFor : Settings → Trace → Plain → SideId → SideId → ℕ → Type 0
BadFor g t s e d place =
    IsBadIn (read_filter g s e) (bytes_read e t) (has_ended e t) place
    ⊎ IsBadIn (write_filter g s e) (moved_list (read_filter g s d) (bytes_read d t) (flow_at s d))
    (all_moved (read_filter g s d) (bytes_read d t) (flow_at s d)) place

abbrev AllBad : Settings → Trace → Plain → Type 0
AllBad g t s = (e : SideId) → e.link < s.opened → (place : ℕ) → (side_at s e).bad ≡ Some place → BadFor g t s e (peer e) place

bad-goes : (g : Settings) (t : Trace) (s : Plain) (u : Trace) (new : Plain) → ((e : SideId) → Goes g t s u new e) → (e d : SideId)
    (place : ℕ) → BadFor g t s e d place → BadFor g u new e d place
bad-goes g t s u new k e d place (inl h) = inl (bad-grew (read_filter g s e) (every_filter (read_kind g e.side)).badness _ _ _ _
    place (k e).raw h)
bad-goes g t s u new k e d place (inr h) = inr (bad-grew (write_filter g s e) (every_filter (write_kind g e.side)).badness _ _ _ _
    place (k d).passed h)

-- a state that is reached fits, and its places are bad
record Fitting (g : Settings) (t : Trace) (s : Plain) : Type 0 where
  fit : AllFit g t s
  bad : AllBad g t s

fitting-goes : (g : Settings) (t : Trace) (s : Plain) (u : Trace) (new : Plain) → ((e : SideId) → Goes g t s u new e) → new.opened
    ≡ s.opened → ((e : SideId) → (side_at new e).bad ≡ (side_at s e).bad) → Fitting g t s → Fitting g u new
fitting-goes g t s u new k o same h = record {
  fit = λ e. (k e).ok;
  bad = λ e lt place b. bad-goes g t s u new k e (peer e) place (h.bad e (subst (λ n. e.link < n) o lt) place (sym (same e) ∙ b));
}

-- the direction that begins at a side is put in its place, the others stay
flow-goes : (g : Settings) (t : Trace) (s : Plain) (e : SideId) (x : Flow) → AllFit g t s → Grown (read_filter g s e)
    (bytes_read e t) (has_ended e t) (flow_at s e) (bytes_read e t) (has_ended e t) x →
    (z : SideId) → Goes g t s t (put_flow e x s) z
flow-goes g t s e x fit k z = go (same_end z e) refl (cases_lt (number e) (length s.flows))
  where
    go : (q : Bool) → same_end z e ≡ q → (number e < length s.flows) ⊎ (length s.flows ≤ number e) → Goes g t s t (put_flow e x s) z
    go false q o =
        subst (λ f. Grown (read_filter g s z) (bytes_read z t) (has_ended z t) (flow_at s z) (bytes_read z t) (has_ended z t) f)
        (sym (get_or-set_other s.flows (number e) (number z) x no_flow (number-apart z e q)))
        (grown-same (read_filter g s z) (bytes_read z t) (has_ended z t) (flow_at s z) (fit z))
    go true q (inl lt) =
        subst (λ v. Goes g t s t (put_flow e x s) v) (sym (same_end-eq z e q))
        (subst (λ f. Grown (read_filter g s e) (bytes_read e t) (has_ended e t) (flow_at s e) (bytes_read e t) (has_ended e t) f)
        (sym (get_or-set_same s.flows (number e) x no_flow lt)) k)
    go true q (inr ge) =
        subst (λ f. Grown (read_filter g s z) (bytes_read z t) (has_ended z t) (flow_at s z) (bytes_read z t) (has_ended z t) f)
        (sym (ap (λ xs. slice_index_or xs (number z) no_flow) (set_past s.flows (number e) x ge)))
        (grown-same (read_filter g s z) (bytes_read z t) (has_ended z t) (flow_at s z) (fit z))

fitting-flow : (g : Settings) (t : Trace) (s : Plain) (e : SideId) (x : Flow) → Grown (read_filter g s e) (bytes_read e t)
    (has_ended e t) (flow_at s e) (bytes_read e t) (has_ended e t) x → Fitting g t s → Fitting g t (put_flow e x s)
fitting-flow g t s e x k h = fitting-goes g t s t (put_flow e x s) (flow-goes g t s e x h.fit k) refl (λ z. refl) h

fitting-due : (g : Settings) (t : Trace) (s : Plain) (ds : List Due) → Fitting g t s → Fitting g t (record s { due = ds })
fitting-due g t s ds h = record { fit = h.fit; bad = h.bad }

-- a side keeps its place, or takes the one that is met
fitting-meets : (g : Settings) (t : Trace) (s : Plain) (e : SideId) (place : Option ℕ) → ((p : ℕ) → place ≡ Some p → BadFor g t s e
    (peer e) p) → Fitting g t s → Fitting g t (meets e place s)
fitting-meets g t s e place met_there h = record { fit = h.fit; bad = λ z lt p b. go z lt p b (put-cases e z x s) }
  where
    x : PlainSide
    x = record (side_at s e) { bad = or_else (side_at s e).bad place }

    either : (o : Option ℕ) (p : ℕ) → or_else o place ≡ Some p → (o ≡ Some p) ⊎ (place ≡ Some p)
    either None p b = inr b
    either (Some n) p b = inl b

    go : (z : SideId) → z.link < s.opened → (p : ℕ) → (side_at (put_side e x s) z).bad ≡ Some p →
        ((z ≡ e) × (side_at (put_side e x s) z ≡ x)) ⊎ (side_at (put_side e x s) z ≡ side_at s z) → BadFor g t s z (peer z) p
    go z lt p b (inr same) = h.bad z lt p (sym (ap (λ v. v.bad) same) ∙ b)
    go z lt p b (inl same) = by (either (side_at s e).bad p (sym (ap (λ v. v.bad) same.1) ∙ b))
      where
        by : ((side_at s e).bad ≡ Some p) ⊎ (place ≡ Some p) → BadFor g t s z (peer z) p
        by (inl old) = h.bad z lt p (ap (λ v. (side_at s v).bad) same.0 ∙ old)
        by (inr now_met) = subst (λ v. BadFor g t s v (peer v) p) (sym same.0) (met_there p now_met)

-- where less is over, more is
over-more : (f : Filter) (xs : List ℕ) (a b : Bool) (p : ℕ) → (a ≡ true → b ≡ true) → IsBadIn f xs a p → IsBadIn f xs b p
over-more f xs a b p more (inl h) = inl h
over-more f xs a b p more (inr h) = inr (more h.0, h.1)

fitting-read : (g : Settings) (t : Trace) (s : Plain) (e : SideId) (ended : Bool) → (ended ≡ true → has_ended e t ≡ true) → Fitting
    g t s → Fitting g t (read_run g (past g t) e ended s)
fitting-read g t s e ended told h =
    let r = read_filter g s e in
    let xs = bytes_read e t in
    let mark = read_mark s e in
    let f = with_used r xs mark (flow_at s e) in
    let ran : Plain = put_flow e f s in
    fitting-meets g t ran e (read_place r xs mark ended (flow_at ran e))
    (λ p m. inl (over-more r xs ended (has_ended e t) p told (bad-met r (every_filter (read_kind g e.side)).badness xs
    (flow_at ran e).used ended (nat_lt (length (input r xs (flow_at ran e))) mark) p m)))
    (fitting-flow g t s e f (grown-used r (every_filter (read_kind g e.side)) xs mark (has_ended e t) (flow_at s e) (h.fit e)) h)

pub turned-stations : (r w : Filter) (xs : List ℕ) (hold : ℕ) (f : Flow) → stations (with_turned r w xs hold f) ≡ stations f
turned-stations r w xs hold f = go f.held
  where
    go : (b : Bool) → stations (if b then f else record f {
      turned = first_from (write_stops r w xs hold f) f.turned
          (f.moved - f.turned);
    }) ≡ stations f
    go true = refl
    go false = refl

pub done-stations : (r w : Filter) (xs : List ℕ) (hold : ℕ) (f : Flow) → stations (with_write_done r w xs hold f) ≡ stations f
done-stations r w xs hold f = go f.held
  where
    go : (b : Bool) → stations (if b then f else record f {
      write_done = f.write_done || (all_moved r xs f && f.turned == f.moved && is_over w (middle r xs f)
          (nat_lt (length (raw_output r w xs f)) hold));
    }) ≡ stations f
    go true = refl
    go false = refl

-- the place that a write filter meets
met-write : (r w : Filter) → IsFilter w → (xs : List ℕ) (hold : ℕ) (may_end : Bool) (f : Flow) (p : ℕ) → write_place r w xs hold
    may_end f ≡ Some p → IsBadIn w (moved_list r xs f) (all_moved r xs f) p
met-write r w law xs hold may_end f p h = go f.held h
  where
    go : (b : Bool) → (if b then None else met w (take f.moved (middle r xs f)) f.turned (may_end && all_moved r xs f)
        (nat_lt (length (raw_output r w xs f)) hold)) ≡ Some p → IsBadIn w (moved_list r xs f) (all_moved r xs f) p
    go true k = absurd (cc)
    go false k =
        over-more w (moved_list r xs f) (may_end && all_moved r xs f) (all_moved r xs f) p (λ q. (and_parts may_end (all_moved r xs f) q).1)
        (bad-met w law.badness (moved_list r xs f) f.turned (may_end && all_moved r xs f) (nat_lt (length (raw_output r w xs f)) hold) p k)

fitting-write : (g : Settings) (t : Trace) (s : Plain) (e : SideId) (may_end : Bool) → Fitting g t s → Fitting g t
    (write_run g (past g t) e may_end s)
fitting-write g t s e may_end h =
    let r = read_filter g s e in
    let w = write_filter g s (peer e) in
    let xs = bytes_read e t in
    let hold = hold_mark g s (peer e) in
    let f = with_turned r w xs hold (flow_at s e) in
    let ran : Plain = put_flow e f s in
    fitting-meets g t ran (peer e) (write_place r w xs hold may_end (flow_at ran e))
    (λ p m. subst (λ d. BadFor g t ran (peer e) d p) (sym (peer-peer e))
    (inr (met-write r w (every_filter (write_kind g (peer e).side)) xs hold may_end (flow_at ran e) p m)))
    (fitting-flow g t s e f (grown-counts r xs (has_ended e t) (flow_at s e) f (turned-stations r w xs hold (flow_at s e)) (h.fit e)) h)

fitting-part : (g : Settings) (t : Trace) (s : Plain) (e : SideId) (x : Part) → ((z : SideId) → (side_at s z).ended ≡ has_ended z
    t) → Fitting g t s → Fitting g t (do_part g (past g t) e x s)
fitting-part g t s e Part.Hold ended h =
    let r = read_filter g s e in
    fitting-flow g t s e _ (grown-counts r (bytes_read e t) (has_ended e t) (flow_at s e) (with_held r (write_filter g s (peer e))
    (bytes_read e t) (hold_mark g s (peer e)) (flow_at s e)) refl (h.fit e)) h
fitting-part g t s e Part.Read ended h =
    let r = read_filter g s e in
    let xs = bytes_read e t in
    let ran : Plain = read_run g (past g t) e (side_at s e).ended s in
    let k : Fitting g t ran = fitting-read g t s e (side_at s e).ended (λ q. sym (ended e) ∙ q) h in
    fitting-flow g t ran e (with_read_done r xs (read_mark s e) (side_at s e).ended (flow_at ran e))
    (subst (λ b. Grown r xs b (flow_at ran e) xs b (with_read_done r xs (read_mark s e) (side_at s e).ended (flow_at ran e))) (ended e)
    (grown-done r (every_filter (read_kind g e.side)) xs (read_mark s e) (side_at s e).ended (flow_at ran e)
    (subst (λ b. FlowOk r xs b (flow_at ran e)) (sym (ended e)) (k.fit e)))) k
fitting-part g t s e Part.Move ended h =
    fitting-flow g t s e _ (grown-moved (read_filter g s e) (bytes_read e t) (has_ended e t) (flow_at s e) (h.fit e)) h
fitting-part g t s e Part.Write ended h =
    let r = read_filter g s e in
    let w = write_filter g s (peer e) in
    let xs = bytes_read e t in
    let hold = hold_mark g s (peer e) in
    let ran : Plain = write_run g (past g t) e true s in
    let k : Fitting g t ran = fitting-write g t s e true h in
    fitting-flow g t ran e (with_write_done r w xs hold (flow_at ran e))
    (grown-counts r xs (has_ended e t) (flow_at ran e) (with_write_done r w xs hold (flow_at ran e))
    (done-stations r w xs hold (flow_at ran e)) (k.fit e)) k
fitting-part g t s e Part.Drain ended h = fitting-write g t s e false h

quiet-fitting : (g : Settings) (t : Trace) (s : Plain) (x : Stage) (new : State) → ((z : SideId) → (side_at s z).ended ≡ has_ended
    z t) → Fitting g t s → QuietKind g t s x new → Fitting g t new.plain
quiet-fitting g t s x new ended h (QuietKind.moved next a) = h
quiet-fitting g t s x new ended h (QuietKind.filtered {e = e}) =
    let r = raised_read g (past g t) e (read_run g (past g t) e false s) in
    subst (λ z. Fitting g t z) (sym r.1) (fitting-due g t (read_run g (past g t) e false s) r.0
    (fitting-read g t s e false (λ q. absurd (cc)) h))
quiet-fitting g t s x new ended h (QuietKind.dispatched) = fitting-due g t s [] h
quiet-fitting g t s x new ended h (QuietKind.passed {x = p} {e = e}) = fitting-part g t s e p ended h
quiet-fitting g t s x new ended h (QuietKind.closes) = h
quiet-fitting g t s x new ended h (QuietKind.looked a) = h
quiet-fitting g t s x new ended h (QuietKind.over) = h

put-fitting : (g : Settings) (t : Trace) (s : Plain) (x : Stage) (y : Event) (new : State) →
    ((z : SideId) → (side_at s z).ended ≡ has_ended z t) → Effect g x s y new.stage new.plain → Fitting g t s → PutKind g t s x y
    new → Fitting g (t ++ y ∷ []) new.plain
put-fitting g t s x y new ended effect h k = record {
  fit = λ e. (goes_on e).ok;
  bad = λ e lt place b. go e lt place b (cases_lt e.link s.opened);
}
  where
    goes_on : (e : SideId) → Goes g t s (t ++ y ∷ []) new.plain e
    goes_on = put-goes g t s x y new ended h.fit k

    go : (e : SideId) → e.link < new.plain.opened → (place : ℕ) → (side_at new.plain e).bad ≡ Some place → (e.link < s.opened) ⊎
        (s.opened ≤ e.link) → BadFor g (t ++ y ∷ []) new.plain e (peer e) place
    go e lt place b (inl old) = bad-goes g t s (t ++ y ∷ []) new.plain goes_on e (peer e) place
        (h.bad e old place (sym (effect.each e old).bad ∙ b))
    go e lt place b (inr ge) = absurd (let none = ap (λ z. z.bad) (effect.came e ge lt) in cc)

fitting : (g : Settings) (t : Trace) (s : State) → Reaches g t s → Fitting g t s.plain
fitting g t s (Reaches.begins) = record {
  fit = λ e. record { used = omega arith; moved = omega arith; done = λ h. absurd (cc) };
  bad = λ e lt place b. absurd (omega arith);
}
fitting g t new (Reaches.goes {t = u} {s = old} r h) =
    quiet-fitting g u old.plain old.stage new (ended-is g u old.stage old.plain (kept g u old r)) (fitting g u old r)
    (quiet-kind g u old.stage old.plain new h)
fitting g t new (Reaches.puts {t = u} {s = old} e bytes r h) =
    let c = kept g u old r in
    put-fitting g u old.plain old.stage (e, bytes) new (ended-is g u old.stage old.plain c)
    (put-effect g u old.stage old.plain e bytes new c.counts.shape.sides c.placed h) (fitting g u old r)
    (put-kind g u old.stage old.plain e bytes new c.placed h)

-- a bad place is the first one of its list, or of its end
first-bad : (f : Filter) → BadLaw f → (xs : List ℕ) (a b : Bool) (p : ℕ) → (a ≡ true → b ≡ true) → IsBadIn f xs a p → IsFirstBad f xs b p
first-bad f law xs a b p more (inl h) = record { at_end = law.bad_at_end xs p h; before = λ q. h }
first-bad f law xs a b p more (inr h) = record { at_end = h.1; before = λ q. absurd (let k = more h.0 in cc) }

pub bad_place : (g : Settings) (t : Trace) (x : Stage) (s : Plain) → Reaches g t (at x s) → (e : SideId) (place : ℕ) → is_live s e
    ≡ true → (side_at s e).bad ≡ Some place → IsBadPlace g t s e place
bad_place g t x s r e place live b = go (h.bad e (live-there s e (kept g t (at x s) r).counts.shape.sides live) place b)
  where
    h : Fitting g t s
    h = fitting g t (at x s) r

    go : BadFor g t s e (peer e) place → IsBadPlace g t s e place
    go (inl k) = inl (first-bad (read_filter g s e) (every_filter (read_kind g e.side)).badness (bytes_read e t) (has_ended e t)
        (has_ended e t) place (λ q. q) k)
    go (inr k) =
        let d = peer e in
        inr (first-bad (write_filter g s e) (every_filter (write_kind g e.side)).badness (moved_to g t s e)
        (all_moved (read_filter g s d) (bytes_read d t) (flow_at s d)) (has_ended d t) place
        (λ q. ((h.fit d).done (and_parts (flow_at s d).read_done (nat_eq (flow_at s d).moved
        (length (middle (read_filter g s d) (bytes_read d t) (flow_at s d)))) q).0).0) k)
