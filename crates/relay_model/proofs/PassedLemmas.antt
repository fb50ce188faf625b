-- What passing leaves stays until the turn is over, by induction over the steps.
use Rattle.std.proofs.Common.{◌≡◌, ℕ, zero, suc, ◌+◌, ◌*◌, ◌<◌, ◌≤◌, Bool, true, false, ◌==◌, if◌then◌else◌, List, [], ◌∷◌, ◌++◌, length}
use Rattle.std.proofs.Common.{fold, Option, Some, None, ◌⊎◌, inl, inr, refl, sym, ◌∙◌, ap, subst, arith, append-nil}
use Rattle.std.specs.Prelude.{⊤, option_map}
use Rattle.std.specs.List.{list_any}
use Rattle.std.proofs.lemmas.Bool.{or_parts, or_from, or_left, or_right, cases_order}
use Rattle.std.proofs.lemmas.List.{length-set, get_or-set_other}
use Rattle.ev_types.specs.declared.side.Side.{Side}
use Rattle.ev_types.specs.declared.side.Side.TheVariants.{In, Out}
use Rattle.ev_types.specs.declared.side.SideId.{SideId}
use Rattle.ev_types.specs.declared.answer.ReadAnswer.{ReadAnswer}
use Rattle.ev_types.specs.declared.answer.ReadAnswer.TheVariants as read
use Rattle.ev_types.specs.declared.why.Cause.TheVariants as cause
use Rattle.ev_types.specs.declared.entry.Entry.{Entry}
use Rattle.ev_types.specs.Sides.{same_end, peer, number}
use Rattle.ev_types.specs.Trace.{Event, Trace}
use Rattle.relay_model.specs.Trace.{bytes_read, read_by, has_ended}
use Rattle.relay_model.specs.Settings.{Settings, HoldsSome}
use Rattle.ev_types.specs.declared.settings.Marks.{Marks}
use Rattle.relay_model.specs.Due.{Reason, without_due}
use Rattle.filter_model.specs.Filter.{Filter, or_else}
use Rattle.relay_model.specs.Flow.{no_flow}
use Rattle.relay_model.specs.Plain.{Plain, PlainSide, side_at, flow_at, put_flow, is_live, sides_from, freed, without_timer}
use Rattle.relay_model.specs.Past.{Past, past}
use Rattle.relay_model.specs.Rooms.{Want, read_filter, write_filter, read_mark, hold_mark, mark_or}
use Rattle.relay_model.specs.Pass.{with_held, with_used, with_read_done, with_moved, with_turned, with_write_done, read_place, write_place}
use Rattle.relay_model.specs.PassLaws.{whole_round, IsPassed}
use Rattle.relay_model.specs.Fitting.{DirectionFits}
use Rattle.relay_model.specs.Passed.{DirectionPassed, AllIsPassed}
use Rattle.relay_model.specs.Round.{Part, parts_of, do_part, meets, read_run, write_run, round}
use Rattle.relay_model.specs.Serve.{after_read}
use Rattle.relay_model.specs.Close.{CloseStep, closed_by, steps_left, fault}
use Rattle.relay_model.specs.Stages.{Stage, State, at, Between, Wanting, Marking, Accepting, Serving, Filtering, Dispatching, Firing}
use Rattle.relay_model.specs.Stages.{Passing, Closing, Over, Halt}
use Rattle.relay_model.specs.Turn.{Quietly, Reaches, after_reading}
use Rattle.relay_model.proofs.EndLemmas.{same_end-eq, same_end-refl, number-apart}
use Rattle.relay_model.proofs.KeepsLemmas.{Keeps-side, change_side-same}
use Rattle.relay_model.proofs.SeenLemmas.{seen, but_bad, do_part-keeps}
use Rattle.relay_model.proofs.EffectLemmas.{SideEffect, Effect}
use Rattle.relay_model.proofs.PlainLemmas.{seen-change}
use Rattle.relay_model.proofs.TraceLemmas.{bytes_read-push}
use Rattle.relay_model.proofs.StepLemmas.{put-effect}
use Rattle.relay_model.proofs.StageLemmas.{closed-opened}
use Rattle.relay_model.proofs.KindLemmas.{closed-kind, PutKind, put-kind}
use Rattle.relay_model.proofs.ToldLemmas.{Kept, kept}
use Rattle.relay_model.proofs.FaultLemmas.{was-live}
use Rattle.relay_model.proofs.BadLemmas.{closed-flows, closed-reads}
use Rattle.relay_model.proofs.BadSteps.{ended-is}
use Rattle.relay_model.proofs.CauseLemmas.{faults_are_freed}
use Rattle.relay_model.proofs.FirstMet.{meets-old, meets-marks, flow-same, part-old}
use Rattle.relay_model.proofs.PassLemmas.{is_2, is_5}
use Rattle.relay_model.proofs.PassFinishes.{passing_ends}
use Rattle.relay_model.proofs.FitsLemmas.{fits}

-- Marks

mark_or-some : (set usual : ℕ) → 1 ≤ usual → 1 ≤ mark_or set usual
mark_or-some set usual h = go (set == 0) refl
  where
    above : (n : ℕ) → (n == 0) ≡ false → 1 ≤ n
    above zero e = absurd (cc)
    above (suc n) e = omega arith

    go : (b : Bool) → (set == 0) ≡ b → 1 ≤ (if b then usual else set)
    go true e = h
    go false e = above set e

-- Bad places

or_else-none : (o place : Option ℕ) → or_else o place ≡ None → place ≡ None
or_else-none None place h = h
or_else-none (Some n) place h = absurd (cc)

-- a side without a bad place met none
place-none : (s : Plain) (e : SideId) (place : Option ℕ) → length s.sides ≡ 2 * s.opened → e.link < s.opened →
    (side_at (meets e place s) e).bad ≡ None → place ≡ None
place-none s e place size lt h =
    or_else-none (side_at s e).bad place
    (sym (ap (λ v. v.bad) (change_side-same e (λ x. record x { bad = or_else x.bad place }) s size lt)) ∙ h)

none-unless : (o : Option ℕ) → ((p : ℕ) → o ≡ Some p → ⊥) → o ≡ None
none-unless None h = refl
none-unless (Some p) h = absurd (h p refl)

none-before : (s : Plain) (e : SideId) (place : Option ℕ) (z : SideId) → (side_at (meets e place s) z).bad ≡ None →
    (side_at s z).bad ≡ None
none-before s e place z h = none-unless (side_at s z).bad (λ p q. let k = meets-old s e place z p q in cc)

-- One round of a direction between live sides, which changes nothing

module _ (g : Settings) (t : Trace) (s : Plain) (e : SideId) (flows : length s.flows ≡ 2 * s.opened)
    (sides : length s.sides ≡ 2 * s.opened)
    (lt : e.link < s.opened) (ended : (side_at s e).ended ≡ has_ended e t) where
  abbrev r : Filter
  r = read_filter g s e

  abbrev w : Filter
  w = write_filter g s (peer e)

  abbrev xs : List ℕ
  xs = bytes_read e t

  abbrev s1 : Plain
  s1 = do_part g (past g t) e Part.Hold s

  abbrev base1 : Plain
  base1 =
      put_flow e (with_used (read_filter g s e) (bytes_read e t) (read_mark s e) (flow_at (do_part g (past g t) e Part.Hold s) e))
      (do_part g (past g t) e Part.Hold s)

  abbrev place1 : Option ℕ
  place1 = read_place (read_filter g s e) (bytes_read e t) (read_mark s e) (side_at s e).ended (flow_at base1 e)

  abbrev ran1 : Plain
  ran1 = meets e place1 base1

  abbrev s2 : Plain
  s2 = do_part g (past g t) e Part.Read (do_part g (past g t) e Part.Hold s)

  abbrev s3 : Plain
  s3 = do_part g (past g t) e Part.Move s2

  abbrev base2 : Plain
  base2 =
      put_flow e (with_turned (read_filter g s e) (write_filter g s (peer e)) (bytes_read e t) (hold_mark g s3 (peer e)) (flow_at s3 e)) s3

  abbrev place2 : Option ℕ
  place2 = write_place (read_filter g s e) (write_filter g s (peer e)) (bytes_read e t) (hold_mark g s3 (peer e)) true (flow_at base2 e)

  abbrev ran2 : Plain
  ran2 = meets (peer e) place2 base2

  abbrev s4 : Plain
  s4 = do_part g (past g t) e Part.Write s3

  size1 : length s1.flows ≡ 2 * s.opened
  size1 = length-set s.flows (number e) _ ∙ flows

  size_base1 : length base1.flows ≡ 2 * s.opened
  size_base1 = length-set s1.flows (number e) _ ∙ size1

  size2 : length s2.flows ≡ 2 * s.opened
  size2 = length-set base1.flows (number e) _ ∙ size_base1

  size3 : length s3.flows ≡ 2 * s.opened
  size3 = length-set s2.flows (number e) _ ∙ size2

  size_base2 : length base2.flows ≡ 2 * s.opened
  size_base2 = length-set s3.flows (number e) _ ∙ size3

  hold3 : hold_mark g s3 (peer e) ≡ hold_mark g s (peer e)
  hold3 = ap (λ (m : Marks). mark_or m.write_high g.hold) (meets-marks base1 e place1 (peer e))

  flow_base1 : flow_at base1 e ≡ with_used r xs (read_mark s e) (with_held r w xs (hold_mark g s (peer e)) (flow_at s e))
  flow_base1 = flow-same s1 e _ size1 lt ∙ ap (with_used r xs (read_mark s e)) (flow-same s e _ flows lt)

  flow3 : flow_at s3 e ≡ with_moved r xs (with_read_done r xs (read_mark s e) (side_at s e).ended
      (with_used r xs (read_mark s e) (with_held r w xs (hold_mark g s (peer e)) (flow_at s e))))
  flow3 =
      flow-same s2 e _ size2 lt
      ∙ ap (with_moved r xs) (flow-same ran1 e _ size_base1 lt ∙ ap (with_read_done r xs (read_mark s e) (side_at s e).ended) flow_base1)

  flow_base2 : flow_at base2 e ≡ with_turned r w xs (hold_mark g s (peer e))
      (with_moved r xs (with_read_done r xs (read_mark s e) (side_at s e).ended
      (with_used r xs (read_mark s e) (with_held r w xs (hold_mark g s (peer e)) (flow_at s e)))))
  flow_base2 = flow-same s3 e _ size3 lt ∙ (λ i. with_turned r w xs (hold3 i) (flow3 i))

  flow4 : flow_at s4 e ≡ whole_round r w xs (side_at s e).ended (read_mark s e) (hold_mark g s (peer e)) (flow_at s e)
  flow4 = flow-same ran2 e _ size_base2 lt ∙ (λ i. with_write_done r w xs (hold3 i) (flow_base2 i))

  passed-now : HoldsSome g → is_live s e ≡ true → is_live s (peer e) ≡ true → round g (past g t) e s ≡ s → (side_at s e).bad ≡ None →
      (side_at s (peer e)).bad ≡ None → DirectionFits g t s e → DirectionPassed g t s e
  passed-now range live peer_live still none peer_none fit =
      passing_ends r w xs (side_at s e).ended (read_mark s e) (hold_mark g s (peer e)) (flow_at s e)
      (mark_or-some (side_at s e).marks.read_high 16384 (omega arith))
      (mark_or-some (side_at s (peer e)).marks.write_high g.hold range.hold)
      (record {
        used = fit.used;
        moved = fit.moved;
        turned = fit.turned;
        given = fit.given;
        read_done =
            λ h. subst (λ b. (b ≡ true) × ((flow_at s e).used ≡ length xs) × (r.bad_at_end xs ≡ None)) (sym ended) (fit.read_done h);
        write_done = fit.write_done;
      })
      (ap (read_place r xs (read_mark s e) (side_at s e).ended)
      (sym (is_2 r w xs (side_at s e).ended (read_mark s e) (hold_mark g s (peer e)) (flow_at s e) whole) ∙ sym flow_base1) ∙ met_none)
      (sym (λ i. write_place r w xs (hold3 i) true
      ((flow_base2 ∙ is_5 r w xs (side_at s e).ended (read_mark s e) (hold_mark g s (peer e)) (flow_at s e) whole) i)) ∙ peer_met_none)
      whole
    where
      back : s4 ≡ s
      back = sym (λ i. fold (λ state x. do_part g (past g t) e x state) s (parts_of (live i) (peer_live i))) ∙ still

      whole : whole_round r w xs (side_at s e).ended (read_mark s e) (hold_mark g s (peer e)) (flow_at s e) ≡ flow_at s e
      whole = sym flow4 ∙ ap (λ z. flow_at z e) back

      none_4 : (side_at s4 e).bad ≡ None
      none_4 = ap (λ z. (side_at z e).bad) back ∙ none

      peer_none_4 : (side_at s4 (peer e)).bad ≡ None
      peer_none_4 = ap (λ z. (side_at z (peer e)).bad) back ∙ peer_none

      met_none : place1 ≡ None
      met_none = place-none base1 e place1 sides lt (none-before base2 (peer e) place2 e none_4)

      peer_met_none : place2 ≡ None
      peer_met_none = place-none base2 (peer e) place2 (length-set s.sides (number e) _ ∙ sides) lt peer_none_4

-- What passing left of a direction between live sides without a bad place

abbrev WasPassed : Settings → Trace → Plain → SideId → Type 0
WasPassed g t s e = is_live s e ≡ true → is_live s (peer e) ≡ true → (side_at s e).bad ≡ None → (side_at s (peer e)).bad ≡ None →
    DirectionPassed g t s e

-- a step that leaves the direction and what was read, and frees and mends nothing
record LeavesPassed (g : Settings) (t : Trace) (s : Plain) (u : Trace) (new : Plain) (e : SideId) : Type 0 where
  live : (z : SideId) → (z ≡ e) ⊎ (z ≡ peer e) → is_live new z ≡ true → is_live s z ≡ true
  bad : (z : SideId) → (z ≡ e) ⊎ (z ≡ peer e) → (side_at new z).bad ≡ None → (side_at s z).bad ≡ None
  read : bytes_read e u ≡ bytes_read e t
  flow : flow_at new e ≡ flow_at s e
  ended : (side_at new e).ended ≡ (side_at s e).ended
  marks : (side_at new (peer e)).marks ≡ (side_at s (peer e)).marks

leaves-passed : (g : Settings) (t : Trace) (s : Plain) (u : Trace) (new : Plain) (e : SideId) → LeavesPassed g t s u new e →
    WasPassed g t s e → WasPassed g u new e
leaves-passed g t s u new e k h live peer_live none peer_none =
    let was = h (k.live e (inl refl) live) (k.live (peer e) (inr refl) peer_live) (k.bad e (inl refl) none)
    (k.bad (peer e) (inr refl) peer_none) in
    let r = read_filter g s e in
    let w = write_filter g s (peer e) in
    subst (λ b. IsPassed r w (bytes_read e u) b (hold_mark g new (peer e)) (flow_at new e)) (sym k.ended)
    (subst (λ xs. IsPassed r w xs (side_at s e).ended (hold_mark g new (peer e)) (flow_at new e)) (sym k.read)
    (subst (λ f. IsPassed r w (bytes_read e t) (side_at s e).ended (hold_mark g new (peer e)) f) (sym k.flow)
    (subst (λ (m : Marks). IsPassed r w (bytes_read e t) (side_at s e).ended (mark_or m.write_high g.hold) (flow_at s e)) (sym k.marks)
    was)))

-- What holds of the directions whose passing is done

abbrev AllWere : Settings → Trace → Plain → Type 0
AllWere g t s = (e : SideId) → e.link < s.opened → WasPassed g t s e

abbrev Settled : Settings → Trace → Stage → Plain → Type 0
Settled g t (Passing parts es) s = (e : SideId) → e.link < s.opened → list_any (same_end e) es ≡ false → WasPassed g t s e
Settled g t (Closing cs) s = AllWere g t s
Settled g t Between s = AllWere g t s
Settled g t _ s = ⊤

-- a part of a round leaves the directions of other sides
pub part-other : (g : Settings) (p : Past) (s : Plain) (e : SideId) (x : Part) (z : SideId) → same_end z e ≡ false →
    flow_at (do_part g p e x s) z ≡ flow_at s z
part-other g p s e Part.Hold z h = get_or-set_other s.flows (number e) (number z) _ no_flow (number-apart z e h)
part-other g p s e Part.Read z h =
    get_or-set_other (read_run g p e (side_at s e).ended s).flows (number e) (number z) _ no_flow (number-apart z e h)
    ∙ get_or-set_other s.flows (number e) (number z) _ no_flow (number-apart z e h)
part-other g p s e Part.Move z h = get_or-set_other s.flows (number e) (number z) _ no_flow (number-apart z e h)
part-other g p s e Part.Write z h =
    get_or-set_other (write_run g p e true s).flows (number e) (number z) _ no_flow (number-apart z e h)
    ∙ get_or-set_other s.flows (number e) (number z) _ no_flow (number-apart z e h)
part-other g p s e Part.Drain z h = get_or-set_other s.flows (number e) (number z) _ no_flow (number-apart z e h)

pub part-marks : (g : Settings) (p : Past) (s : Plain) (e : SideId) (x : Part) (z : SideId) →
    (side_at (do_part g p e x s) z).marks ≡ (side_at s z).marks
part-marks g p s e Part.Hold z = refl
part-marks g p s e Part.Read z =
    meets-marks (put_flow e (with_used (read_filter g s e) (p.read e) (read_mark s e) (flow_at s e)) s) e _ z
part-marks g p s e Part.Move z = refl
part-marks g p s e Part.Write z =
    meets-marks (put_flow e
    (with_turned (read_filter g s e) (write_filter g s (peer e)) (p.read e) (hold_mark g s (peer e)) (flow_at s e)) s) (peer e) _ z
part-marks g p s e Part.Drain z =
    meets-marks (put_flow e
    (with_turned (read_filter g s e) (write_filter g s (peer e)) (p.read e) (hold_mark g s (peer e)) (flow_at s e)) s) (peer e) _ z

part-leaves : (g : Settings) (t : Trace) (s : Plain) (e : SideId) (x : Part) (z : SideId) → same_end z e ≡ false →
    LeavesPassed g t s t (do_part g (past g t) e x s) z
part-leaves g t s e x z apart = record {
  live = λ v o h. sym (ap (λ q. q.live) (Keeps-side but_bad s (do_part g (past g t) e x s) v (do_part-keeps g (past g t) e x s))) ∙ h;
  bad = λ v o h. none-unless (side_at s v).bad (λ p q. let k = part-old g t s e x v p q in cc);
  read = refl;
  flow = part-other g (past g t) s e x z apart;
  ended = ap (λ q. q.ended) (Keeps-side but_bad s (do_part g (past g t) e x s) z (do_part-keeps g (past g t) e x s));
  marks = part-marks g (past g t) s e x (peer z);
}

-- each side of an opened link is among all sides
side-here : (k left : ℕ) (e : SideId) → e.link ≡ k → (z : Side) → e.side ≡ z → list_any (same_end e) (sides_from k (suc left)) ≡ true
side-here k left e same In z =
    let i : SideId = record { link = k; side = In } in
    let is : i ≡ e = λ j. record { link = sym same j; side = sym z j } in
    or_left (same_end e i) _ (ap (same_end e) is ∙ same_end-refl e)
side-here k left e same Out z =
    let o : SideId = record { link = k; side = Out } in
    let is : o ≡ e = λ j. record { link = sym same j; side = sym z j } in
    or_right (same_end e (record { link = k; side = In })) _ (or_left (same_end e o) _ (ap (same_end e) is ∙ same_end-refl e))

pub side-among : (k left : ℕ) (e : SideId) → k ≤ e.link → e.link < k + left → list_any (same_end e) (sides_from k left) ≡ true
side-among k zero e h l = absurd (omega arith)
side-among k (suc left) e h l = go (cases_order k e.link) (λ lt. side-among (k + 1) left e (omega arith) (omega arith))
  where
    go : (k ≡ e.link) ⊎ ((k < e.link) ⊎ (e.link < k)) → (k < e.link → list_any (same_end e) (sides_from (k + 1) left) ≡ true) →
        list_any (same_end e) (sides_from k (suc left)) ≡ true
    go (inl same) later = side-here k left e (sym same) e.side refl
    go (inr (inl lt)) later =
        or_right (same_end e (record { link = k; side = In })) _ (or_right (same_end e (record { link = k; side = Out })) _ (later lt))
    go (inr (inr gt)) later = absurd (omega arith)

fire-settled : (g : Settings) (t : Trace) (b : Bool) (k : ℕ) (rs : List Reason) (s : Plain) →
    Settled g t (if b then Over (Halt.StoppedBy k) else Dispatching rs) s
fire-settled g t true k rs s = tt
fire-settled g t false k rs s = tt

-- the side was passed just now, or another one before
now-passed : (g : Settings) (t : Trace) (s : Plain) (e : SideId) (es : List SideId) → HoldsSome g → Kept g t (Passing [] (e ∷ es)) s →
    ((z : SideId) → DirectionFits g t s z) → ((z : SideId) → (side_at s z).ended ≡ has_ended z t) → round g (past g t) e s ≡ s →
    Settled g t (Passing [] (e ∷ es)) s → Settled g t (Passing [] es) s
now-passed g t s e es range k fit ended still h z lt none = go (same_end z e) refl
  where
    go : (q : Bool) → same_end z e ≡ q → WasPassed g t s z
    go false q = h z lt (or_from (same_end z e) (list_any (same_end z) es) q none)
    go true q =
        let same = same_end-eq z e q in
        subst (λ v. WasPassed g t s v) (sym same) (λ live peer_live bad peer_bad.
        passed-now g t s e k.counts.shape.flows k.counts.shape.sides (subst (λ v. v.link < s.opened) same lt)
        (ended e) range live peer_live still bad peer_bad (fit e))

quiet-settled : (g : Settings) (t : Trace) (x : Stage) (s : Plain) (new : State) → HoldsSome g → Kept g t x s →
    ((z : SideId) → DirectionFits g t s z) →
    ((z : SideId) → (side_at s z).ended ≡ has_ended z t) → Settled g t x s → Quietly g t x s new → Settled g t new.stage new.plain
quiet-settled g t (Wanting []) s new range k fit ended h q = subst (λ z. Settled g t z.stage z.plain) (sym q) tt
quiet-settled g t (Marking (w ∷ ws) marks) s new range k fit ended h q = subst (λ z. Settled g t z.stage z.plain) (sym q) tt
quiet-settled g t (Marking [] marks) s new range k fit ended h q = subst (λ z. Settled g t z.stage z.plain) (sym q) tt
quiet-settled g t (Accepting n marks) s new range k fit ended h q = subst (λ z. Settled g t z.stage z.plain) (sym q) tt
quiet-settled g t (Serving (m ∷ ms)) s new range k fit ended h q = subst (λ z. Settled g t z.stage z.plain) (sym q.1) tt
quiet-settled g t (Filtering e ms) s new range k fit ended h q = subst (λ z. Settled g t z.stage z.plain) (sym q) tt
quiet-settled g t (Serving []) s new range k fit ended h q = subst (λ z. Settled g t z.stage z.plain) (sym q) tt
quiet-settled g t (Firing x rs) s new range k fit ended h q =
    subst (λ z. Settled g t z.stage z.plain) (sym q) (fire-settled g t x.stopped x.side.link rs s)
quiet-settled g t (Dispatching []) s new range k fit ended h q =
    subst (λ z. Settled g t z.stage z.plain) (sym q)
    (λ e lt none. absurd (let among = side-among 0 s.opened e (omega arith) (omega arith) in cc))
quiet-settled g t (Passing [] (e ∷ es)) s new range k fit ended h (inl q) =
    subst (λ z. Settled g t z.stage z.plain) (sym q.1) (now-passed g t s e es range k fit ended q.0 h)
quiet-settled g t (Passing [] (e ∷ es)) s new range k fit ended h (inr q) = subst (λ z. Settled g t z.stage z.plain) (sym q) h
quiet-settled g t (Passing (x ∷ xs) (e ∷ es)) s new range k fit ended h q =
    subst (λ z. Settled g t z.stage z.plain) (sym q)
    (λ z lt none. leaves-passed g t s t (do_part g (past g t) e x s) z
    (part-leaves g t s e x z (or_parts (same_end z e) (list_any (same_end z) es) none).0)
    (h z (subst (λ n. z.link < n) (do_part-keeps g (past g t) e x s).opened lt) none))
quiet-settled g t (Passing [] []) s new range k fit ended h q = subst (λ z. Settled g t z.stage z.plain) (sym q) (λ e lt. h e lt refl)
quiet-settled g t (Closing (c ∷ cs)) s new range k fit ended h q = subst (λ z. Settled g t z.stage z.plain) (sym q.1) h
quiet-settled g t (Closing []) s new range k fit ended h q = subst (λ z. Settled g t z.stage z.plain) (sym q) h
quiet-settled g t _ s new range k fit ended h q = absurd q

-- Closing frees and leaves the rest.
pub freed-marks : (e : SideId) (s : Plain) (z : SideId) → (side_at (freed e s) z).marks ≡ (side_at s z).marks
freed-marks e s z =
    seen-change (λ v. v.marks) e z (λ x. record x { live = false; group = None })
    (record s { timers = without_timer e s.timers; due = without_due e s.due }) (λ x. refl)

pub closed-marks : (c : CloseStep) (s : Plain) (z : SideId) → (side_at (closed_by c s) z).marks ≡ (side_at s z).marks
closed-marks (CloseStep.Faulty e) s z = freed-marks e s z
closed-marks (CloseStep.EndWriting e) s z = seen-change (λ v. v.marks) e z (λ x. record x { write_ended = true }) s (λ x. refl)
closed-marks (CloseStep.BothDone k) s z = freed-marks (record { link = k; side = In }) s z
closed-marks (CloseStep.OutDone k) s z = freed-marks (record { link = k; side = Out }) s z
closed-marks (CloseStep.PeerGone e) s z = freed-marks e s z
closed-marks (CloseStep.Shut e) s z = seen-change (λ v. v.marks) e z (λ x. record x { closed = true }) s (λ x. refl)

freed-ended : (e : SideId) (s : Plain) (z : SideId) → (side_at (freed e s) z).ended ≡ (side_at s z).ended
freed-ended e s z =
    seen-change (λ v. v.ended) e z (λ x. record x { live = false; group = None })
    (record s { timers = without_timer e s.timers; due = without_due e s.due }) (λ x. refl)

closed-ended : (c : CloseStep) (s : Plain) (z : SideId) → (side_at (closed_by c s) z).ended ≡ (side_at s z).ended
closed-ended (CloseStep.Faulty e) s z = freed-ended e s z
closed-ended (CloseStep.EndWriting e) s z = seen-change (λ v. v.ended) e z (λ x. record x { write_ended = true }) s (λ x. refl)
closed-ended (CloseStep.BothDone k) s z = freed-ended (record { link = k; side = In }) s z
closed-ended (CloseStep.OutDone k) s z = freed-ended (record { link = k; side = Out }) s z
closed-ended (CloseStep.PeerGone e) s z = freed-ended e s z
closed-ended (CloseStep.Shut e) s z = seen-change (λ v. v.ended) e z (λ x. record x { closed = true }) s (λ x. refl)

closed-leaves : (g : Settings) (t : Trace) (s : Plain) (c : CloseStep) (cs : List CloseStep) (y : Entry) (e : SideId) → e.link < s.opened →
    read_by e (y, []) ≡ [] → Effect g (Closing (c ∷ cs)) s (y, []) (Closing (steps_left c cs)) (closed_by c s) →
    LeavesPassed g t s (t ++ (y, []) ∷ []) (closed_by c s) e
closed-leaves g t s c cs y e lt none k = record {
  live =
      λ z o h. (was-live z (y, []) (Closing (steps_left c cs)) (seen (side_at s z)) (seen (side_at (closed_by c s) z)) (effect z o) h).0;
  bad = λ z o h. sym (effect z o).bad ∙ h;
  read = bytes_read-push e t (y, []) ∙ ap (λ v. bytes_read e t ++ v) none ∙ append-nil (bytes_read e t);
  flow = ap (λ l. flow_at (record s { flows = l }) e) (closed-flows c s);
  ended = closed-ended c s e;
  marks = closed-marks c s (peer e);
}
  where
    effect : (z : SideId) → (z ≡ e) ⊎ (z ≡ peer e) →
        SideEffect z (y, []) (Closing (steps_left c cs)) (seen (side_at s z)) (seen (side_at (closed_by c s) z))
    effect z (inl same) = k.each z (subst (λ v. v.link < s.opened) (sym same) lt)
    effect z (inr same) = k.each z (subst (λ v. v.link < s.opened) (sym same) lt)

reading-settled : (g : Settings) (t : Trace) (side : SideId) (answer : ReadAnswer) (ms : List Want) (s : Plain) →
    Settled g t (after_reading side answer ms) s
reading-settled g t side (read.Got n) ms s = tt
reading-settled g t side read.Ended ms s = tt
reading-settled g t side read.NotYet ms s = tt
reading-settled g t side read.Failed ms s = tt

put-settled : (g : Settings) (t : Trace) (s : Plain) (x : Stage) (y : Event) (new : State) → Effect g x s y new.stage new.plain →
    Settled g t x s →
    PutKind g t s x y new → Settled g (t ++ y ∷ []) new.stage new.plain
put-settled g t s x y new k h (PutKind.turned a b) = tt
put-settled g t s x y new k h (PutKind.polled) = tt
put-settled g t s x y new k h (PutKind.wanted a) = tt
put-settled g t s x y new k h (PutKind.poll_failed) = tt
put-settled g t s x y new k h (PutKind.readied a) = tt
put-settled g t s x y new k h (PutKind.opened) = tt
put-settled g t s x y new k h (PutKind.checked a) = tt
put-settled g t s x y new k h (PutKind.was_read {side = side} {answer = answer} left a b) =
    reading-settled g (t ++ y ∷ []) side answer left (after_read g side answer s)
put-settled g t s x y new k h (PutKind.written a b c) = tt
put-settled g t s x y new k h (PutKind.fired a) = tt
put-settled g t s x y new k h (PutKind.frees a same) = tt
put-settled g t s x y new k h (PutKind.asked same m l) = tt
put-settled g t s x y new k h (PutKind.recorded) = tt
put-settled g t s x y new k h (PutKind.closed {c = c} {cs = cs} {e = z} a) = λ e lt.
    let old : e.link < s.opened = subst (λ n. e.link < n) (closed-opened c s) lt in
    leaves-passed g t s (t ++ (z, []) ∷ []) (closed_by c s) e
    (closed-leaves g t s c cs z e old (closed-reads g (past g t) s c z e (closed-kind g (past g t) s c z a)) k) (h e old)

settled : (g : Settings) (t : Trace) (s : State) → HoldsSome g → Reaches g t s → Settled g t s.stage s.plain
settled g t s range (Reaches.begins) = λ e lt. absurd (omega arith)
settled g t new range (Reaches.goes {t = u} {s = old} reached h) =
    let k = kept g u old reached in
    quiet-settled g u old.stage old.plain new range k (λ z. fits g u old reached z) (ended-is g u old.stage old.plain k)
    (settled g u old range reached) h
settled g t new range (Reaches.puts {t = u} {s = old} y bytes reached h) =
    let c = kept g u old reached in
    put-settled g u old.plain old.stage (y, bytes) new (put-effect g u old.stage old.plain y bytes new c.counts.shape.sides c.placed h)
    (settled g u old range reached) (put-kind g u old.stage old.plain y bytes new c.placed h)

-- a side without a fault met no bad place
faultless-good : (x : PlainSide) → fault x ≡ None → x.bad ≡ None
faultless-good x h = go x.failed x.expired x.bad h
  where
    go : (a b : Bool) (o : Option ℕ) →
        (if a then Some cause.Failed else (if b then Some cause.Timeout else option_map cause.Filter o)) ≡ None → o ≡ None
    go true b o h = absurd (cc)
    go false true o h = absurd (cc)
    go false false (Some n) h = absurd (cc)
    go false false None h = refl

pub all_is_passed : AllIsPassed
all_is_passed g t s e range reached lt live peer_live =
    settled g t (at Between s) range reached e lt live peer_live
    (faultless-good (side_at s e) (faults_are_freed g t s e reached lt live))
    (faultless-good (side_at s (peer e)) (faults_are_freed g t s (peer e) reached lt peer_live))
