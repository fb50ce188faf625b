-- The place that a side keeps is the first that one of its filters met, by induction over the steps.
use Rattle.std.proofs.Common.{◌≡◌, ℕ, ◌+◌, ◌*◌, ◌<◌, ◌≤◌, Bool, true, false, ◌&&◌, ◌||◌, ◌==◌, not, if◌then◌else◌, List, [], ◌∷◌, ◌++◌}
use Rattle.std.proofs.Common.{length, take, Option, Some, None, is_none, ◌⊎◌, inl, inr, refl, sym, ◌∙◌, ap, subst, arith, eqb-true}
use Rattle.std.specs.Prelude.{nat_lt}
use Rattle.std.proofs.lemmas.Bool.{and_parts, cases_lt, ltb-true}
use Rattle.std.proofs.lemmas.List.{get_or-set_same, length-set, take_all}
use Rattle.ev_types.specs.declared.side.SideId.{SideId}
use Rattle.ev_types.specs.Sides.{peer, number}
use Rattle.ev_types.specs.Trace.{Trace}
use Rattle.relay_model.specs.Trace.{bytes_read, has_ended}
use Rattle.relay_model.specs.Settings.{Settings}
use Rattle.filter_model.specs.Filter.{Filter, met, or_else, holds}
use Rattle.relay_model.specs.Flow.{Flow, no_flow, middle, input, raw_output}
use Rattle.relay_model.specs.Conserved.{all_moved}
use Rattle.relay_model.specs.Plain.{Plain, PlainSide, side_at, flow_at, put_flow, put_side, is_live}
use Rattle.relay_model.specs.Past.{past}
use Rattle.relay_model.specs.Rooms.{read_filter, write_filter, read_mark, hold_mark}
use Rattle.relay_model.specs.Pass.{with_used, read_place, with_read_done, with_turned, write_place, with_write_done}
use Rattle.filter_model.specs.Stopping.{is_over}
use Rattle.relay_model.specs.Round.{Part, do_part, meets, read_run, write_run}
use Rattle.relay_model.specs.Stages.{Stage, State}
use Rattle.relay_model.specs.Turn.{Reaches}
use Rattle.relay_model.specs.Onward.{Leads}
use Rattle.relay_model.specs.Causes.{ReadMeets, WriteMeets, MetFirst, PlacesAreFirst}
use Rattle.relay_model.proofs.EndLemmas.{number-lt, peer-peer}
use Rattle.relay_model.proofs.KeepsLemmas.{raised_read}
use Rattle.relay_model.proofs.EffectLemmas.{Effect}
use Rattle.relay_model.proofs.FireLemmas.{QuietKind, quiet-kind}
use Rattle.relay_model.proofs.TimeLemmas.{put-cases}
use Rattle.relay_model.proofs.TotalLemmas.{NeedsLive, PartsLive, parts-live}
use Rattle.relay_model.proofs.ToldLemmas.{Kept, kept}
use Rattle.relay_model.proofs.BadLemmas.{set-seen}
use Rattle.relay_model.proofs.BadSteps.{ended-is}
use Rattle.relay_model.proofs.StepLemmas.{put-effect}
use Rattle.relay_model.proofs.StageLemmas.{quiet-silent}

-- Of filters

-- what is met where no end may come is met also where one may
met-more : (f : Filter) (xs : List ℕ) (used : ℕ) (a b room : Bool) (p : ℕ) → (a ≡ true → b ≡ true) → met f xs used a room ≡ Some p →
    met f xs used b room ≡ Some p
met-more f xs used a b room p more h = go room (nat_lt used (length xs)) a b more h
  where
    go : (q c a b : Bool) → (a ≡ true → b ≡ true) →
        (if q then (if c then f.bad (take (used + 1) xs) else (if a then f.bad_at_end xs else None)) else None) ≡ Some p →
        (if q then (if c then f.bad (take (used + 1) xs) else (if b then f.bad_at_end xs else None)) else None) ≡ Some p
    go false c a b m h = absurd (cc)
    go true true a b m h = h
    go true false false b m h = absurd (cc)
    go true false true true m h = h
    go true false true false m h = absurd (let k = m refl in cc)

-- where a place is met, not all is used, or the end is bad
met-open : (f : Filter) (xs : List ℕ) (used : ℕ) (over room : Bool) (p : ℕ) → met f xs used over room ≡ Some p →
    (used < length xs) ⊎ ((over ≡ true) × (f.bad_at_end xs ≡ Some p))
met-open f xs used over room p h = go room (nat_lt used (length xs)) refl over refl h
  where
    go : (q c : Bool) → nat_lt used (length xs) ≡ c → (a : Bool) → over ≡ a →
        (if q then (if c then f.bad (take (used + 1) xs) else (if a then f.bad_at_end xs else None)) else None) ≡ Some p →
        (used < length xs) ⊎ ((over ≡ true) × (f.bad_at_end xs ≡ Some p))
    go false c l a o h = absurd (cc)
    go true true l a o h = inl (ltb-true used (length xs) l)
    go true false l true o h = inr (o, h)
    go true false l false o h = absurd (cc)

-- a bad end is not over
bad-not_over : (f : Filter) (xs : List ℕ) (room : Bool) (p : ℕ) → f.bad_at_end xs ≡ Some p → is_over f xs room ≡ true → ⊥
bad-not_over f xs room p bad over =
    let none = (and_parts (is_none (f.bad_at_end xs)) (not (holds f xs) || room) over).0 in
    let same : is_none (f.bad_at_end xs) ≡ false = ap is_none bad in cc

or_kept : (a b : Bool) → (b ≡ true → ⊥) → (a || b) ≡ a
or_kept true b none = refl
or_kept false b none = false-unless b none
  where
    false-unless : (b : Bool) → (b ≡ true → ⊥) → b ≡ false
    false-unless true h = absurd (h refl)
    false-unless false h = refl

-- A filter that met a place isn't finished by the same step.
read_done-kept : (r : Filter) (xs : List ℕ) (mark : ℕ) (ended : Bool) (f : Flow) (p : ℕ) → read_place r xs mark ended f ≡ Some p →
    with_read_done r xs mark ended f ≡ f
read_done-kept r xs mark ended f p h = ap (λ b. record f { read_done = b }) (or_kept f.read_done _ no)
  where
    no : (ended && f.used == length xs && is_over r xs (nat_lt (length (input r xs f)) mark)) ≡ true → ⊥
    no test =
        let a = and_parts (ended && f.used == length xs) (is_over r xs (nat_lt (length (input r xs f)) mark)) test in
        let b = and_parts ended (f.used == length xs) a.0 in
        let all = eqb-true f.used (length xs) b.1 in
        elim (met-open r xs f.used ended (nat_lt (length (input r xs f)) mark) p h) [
          | inl lt ↦ omega arith
          | inr bad ↦ bad-not_over r xs (nat_lt (length (input r xs f)) mark) p bad.1 a.1
        ]

-- a write filter that meets a place isn't held
record WriteMet (r w : Filter) (xs : List ℕ) (hold : ℕ) (may_end : Bool) (f : Flow) (p : ℕ) : Type 0 where
  open_still : f.held ≡ false
  is : met w (take f.moved (middle r xs f)) f.turned (may_end && all_moved r xs f) (nat_lt (length (raw_output r w xs f)) hold) ≡ Some p

write-met : (r w : Filter) (xs : List ℕ) (hold : ℕ) (may_end : Bool) (f : Flow) (p : ℕ) → write_place r w xs hold may_end f ≡ Some p →
    WriteMet r w xs hold may_end f p
write-met r w xs hold may_end f p h = go f.held refl h
  where
    go : (b : Bool) → f.held ≡ b →
        (if b then None else met w (take f.moved (middle r xs f)) f.turned (may_end && all_moved r xs f)
        (nat_lt (length (raw_output r w xs f)) hold)) ≡ Some p →
        WriteMet r w xs hold may_end f p
    go true e h = absurd (cc)
    go false e h = record { open_still = e; is = h }

write_done-kept : (r w : Filter) (xs : List ℕ) (hold : ℕ) (f : Flow) (p : ℕ) → write_place r w xs hold true f ≡ Some p →
    with_write_done r w xs hold f ≡ f
write_done-kept r w xs hold f p h = go f.held
  where
    room : Bool
    room = nat_lt (length (raw_output r w xs f)) hold

    ys : List ℕ
    ys = middle r xs f

    no : (all_moved r xs f && f.turned == f.moved && is_over w ys room) ≡ true → ⊥
    no test =
        let a = and_parts (all_moved r xs f && f.turned == f.moved) (is_over w ys room) test in
        let b = and_parts (all_moved r xs f) (f.turned == f.moved) a.0 in
        let c = and_parts f.read_done (f.moved == length ys) b.0 in
        let all = eqb-true f.turned f.moved b.1 in
        let whole : f.moved ≡ length ys = eqb-true f.moved (length ys) c.1 in
        let same : take f.moved ys ≡ ys = take_all f.moved ys (omega arith) in
        elim (met-open w (take f.moved ys) f.turned (true && all_moved r xs f) room p (write-met r w xs hold true f p h).is) [
          | inl lt ↦ (let l = ap length same in omega arith)
          | inr bad ↦ bad-not_over w ys room p (ap w.bad_at_end (sym same) ∙ bad.1) a.1
        ]

    go : (b : Bool) → (if b then f else record f {
      write_done =
          f.write_done || (all_moved r xs f && f.turned == f.moved && is_over w ys room);
    }) ≡ f
    go true = refl
    go false = ap (λ q. record f { write_done = q }) (or_kept f.write_done _ no)

-- Of steps

-- a side that had no place has the one that is met now
meets-new : (s : Plain) (e : SideId) (place : Option ℕ) (z : SideId) (p : ℕ) → (side_at s z).bad ≡ None →
    (side_at (meets e place s) z).bad ≡ Some p → (z ≡ e) × (place ≡ Some p)
meets-new s e place z p none now = go (put-cases e z x s)
  where
    x : PlainSide
    x = record (side_at s e) { bad = or_else (side_at s e).bad place }

    go : ((z ≡ e) × (side_at (put_side e x s) z ≡ x)) ⊎ (side_at (put_side e x s) z ≡ side_at s z) → (z ≡ e) × (place ≡ Some p)
    go (inr same) = absurd (let k = ap (λ v. v.bad) same in cc)
    go (inl same) =
        let was : (side_at s e).bad ≡ None = ap (λ v. (side_at s v).bad) (sym same.0) ∙ none in
        (same.0, ap (λ o. or_else o place) (sym was) ∙ sym (ap (λ v. v.bad) same.1) ∙ now)

-- a side that kept a place keeps it
pub meets-old : (s : Plain) (e : SideId) (place : Option ℕ) (z : SideId) (p : ℕ) → (side_at s z).bad ≡ Some p →
    (side_at (meets e place s) z).bad ≡ Some p
meets-old s e place z p was = go (put-cases e z x s)
  where
    x : PlainSide
    x = record (side_at s e) { bad = or_else (side_at s e).bad place }

    go : ((z ≡ e) × (side_at (put_side e x s) z ≡ x)) ⊎ (side_at (put_side e x s) z ≡ side_at s z) →
        (side_at (meets e place s) z).bad ≡ Some p
    go (inr same) = ap (λ v. v.bad) same ∙ was
    go (inl same) =
        let old : (side_at s e).bad ≡ Some p = ap (λ v. (side_at s v).bad) (sym same.0) ∙ was in
        ap (λ v. v.bad) same.1 ∙ ap (λ o. or_else o place) old

-- the marks and the life of sides stay
pub meets-marks : (s : Plain) (e : SideId) (place : Option ℕ) (z : SideId) → (side_at (meets e place s) z).marks ≡ (side_at s z).marks
meets-marks s e place z =
    set-seen (λ v. v.marks) s.sides (number e) (record (side_at s e) { bad = or_else (side_at s e).bad place }) _ refl (number z)

pub meets-live : (s : Plain) (e : SideId) (place : Option ℕ) (z : SideId) → is_live (meets e place s) z ≡ is_live s z
meets-live s e place z =
    set-seen (λ v. v.live) s.sides (number e) (record (side_at s e) { bad = or_else (side_at s e).bad place }) _ refl (number z)

-- the direction that was changed
pub flow-same : (s : Plain) (e : SideId) (x : Flow) → length s.flows ≡ 2 * s.opened → e.link < s.opened → flow_at (put_flow e x s) e ≡ x
flow-same s e x size lt = get_or-set_same s.flows (number e) x no_flow (omega (arith, size, number-lt e s.opened lt))

-- What the side of a filter has met by a step that keeps another place than before.
abbrev pub Meets : Settings → Trace → Plain → SideId → ℕ → Type 0
Meets g t s e place = ReadMeets g t s e place ⊎ WriteMeets g t s e place

-- The same flow and marks tell the same of the read filter.
read-meets : (g : Settings) (t : Trace) (s new : Plain) (e : SideId) (ended : Bool) (f : Flow) (p : ℕ) → flow_at new e ≡ f →
    (side_at new e).marks ≡ (side_at s e).marks →
    (ended ≡ true → has_ended e t ≡ true) → read_place (read_filter g s e) (bytes_read e t) (read_mark s e) ended f ≡ Some p →
    ReadMeets g t new e p
read-meets g t s new e ended f p flow marks told h =
    let r = read_filter g s e in
    let xs = bytes_read e t in
    ap (λ (v : Flow). met r xs v.used (has_ended e t) (nat_lt (length (input r xs v)) (read_mark new e))) flow
    ∙ ap (λ m. met r xs f.used (has_ended e t) (nat_lt (length (input r xs f)) (if m.read_high == 0 then 16384 else m.read_high))) marks
    ∙ met-more r xs f.used ended (has_ended e t) (nat_lt (length (input r xs f)) (read_mark s e)) p told h

write-meets : (g : Settings) (t : Trace) (s new : Plain) (e : SideId) (may_end : Bool) (f : Flow) (p : ℕ) → flow_at new e ≡ f →
    (side_at new (peer e)).marks ≡ (side_at s (peer e)).marks →
    (may_end ≡ true → is_live new e ≡ true) →
    write_place (read_filter g s e) (write_filter g s (peer e)) (bytes_read e t) (hold_mark g s (peer e)) may_end f ≡ Some p →
    WriteMeets g t new (peer e) p
write-meets g t s new e may_end f p flow marks live h = subst (λ d. At d) (sym (peer-peer e)) here
  where
    w : Filter
    w = write_filter g s (peer e)

    At : SideId → Type 0
    At d =
        ((flow_at new d).held ≡ false)
        × (met (write_filter g new (peer e))
        (take (flow_at new d).moved (middle (read_filter g new d) (bytes_read d t) (flow_at new d))) (flow_at new d).turned
        (is_live new d && all_moved (read_filter g new d) (bytes_read d t) (flow_at new d))
        (nat_lt (length (raw_output (read_filter g new d) (write_filter g new (peer e)) (bytes_read d t) (flow_at new d)))
        (hold_mark g new (peer e))) ≡ Some p)

    r : Filter
    r = read_filter g s e

    xs : List ℕ
    xs = bytes_read e t

    k : WriteMet r w xs (hold_mark g s (peer e)) may_end f p
    k = write-met r w xs (hold_mark g s (peer e)) may_end f p h

    more : (a b c : Bool) → (a ≡ true → c ≡ true) → (a && b) ≡ true → (c && b) ≡ true
    more true true c m h = ap (λ z. z && true) (m refl)
    more true false c m h = absurd (cc)
    more false b c m h = absurd (cc)

    here : At e
    here = (
      ap (λ (v : Flow). v.held) flow ∙ k.open_still,
      ap (λ (v : Flow). met w (take v.moved (middle r xs v)) v.turned (is_live new e && all_moved r xs v)
          (nat_lt (length (raw_output r w xs v)) (hold_mark g new (peer e)))) flow
          ∙ ap (λ m. met w (take f.moved (middle r xs f)) f.turned (is_live new e && all_moved r xs f)
          (nat_lt (length (raw_output r w xs f)) (if m.write_high == 0 then g.hold else m.write_high))) marks
          ∙ met-more w (take f.moved (middle r xs f)) f.turned (may_end && all_moved r xs f) (is_live new e && all_moved r xs f) _ p
          (more may_end (all_moved r xs f) (is_live new e) live) k.is,
    )

module _ (g : Settings) (t : Trace) (s : Plain) (e : SideId) (size : length s.flows ≡ 2 * s.opened) where
  abbrev r : Filter
  r = read_filter g s e

  abbrev w : Filter
  w = write_filter g s (peer e)

  abbrev xs : List ℕ
  xs = bytes_read e t

  abbrev used : Flow
  used = with_used (read_filter g s e) (bytes_read e t) (read_mark s e) (flow_at s e)

  abbrev used_ran : Plain
  used_ran = put_flow e (with_used (read_filter g s e) (bytes_read e t) (read_mark s e) (flow_at s e)) s

  abbrev turned : Flow
  turned = with_turned (read_filter g s e) (write_filter g s (peer e)) (bytes_read e t) (hold_mark g s (peer e)) (flow_at s e)

  abbrev turned_ran : Plain
  turned_ran =
      put_flow e (with_turned (read_filter g s e) (write_filter g s (peer e)) (bytes_read e t) (hold_mark g s (peer e)) (flow_at s e)) s

  abbrev place_of : Bool → Option ℕ
  place_of ended = read_place (read_filter g s e) (bytes_read e t) (read_mark s e) ended (flow_at used_ran e)

  abbrev write_place_of : Bool → Option ℕ
  write_place_of may_end =
      write_place (read_filter g s e) (write_filter g s (peer e)) (bytes_read e t) (hold_mark g s (peer e)) may_end (flow_at turned_ran e)

  run-meets : (ended : Bool) → (ended ≡ true → has_ended e t ≡ true) → (z : SideId) → z.link < s.opened → (p : ℕ) →
      (side_at s z).bad ≡ None →
      (side_at (read_run g (past g t) e ended s) z).bad ≡ Some p → Meets g t (read_run g (past g t) e ended s) z p
  run-meets ended told z lt p none now =
      let k = meets-new used_ran e (place_of ended) z p none now in
      subst (λ v. Meets g t (read_run g (past g t) e ended s) v p) (sym k.0)
      (inl (read-meets g t s (read_run g (past g t) e ended s) e ended (flow_at used_ran e) p refl
      (meets-marks used_ran e (place_of ended) e) told k.1))

  read-part : (ended : Bool) → (ended ≡ true → has_ended e t ≡ true) → (z : SideId) → z.link < s.opened → (p : ℕ) →
      (side_at s z).bad ≡ None →
      (let ran = read_run g (past g t) e ended s in let new =
      put_flow e (with_read_done (read_filter g s e) (bytes_read e t) (read_mark s e) ended (flow_at ran e)) ran in
      (side_at new z).bad ≡ Some p → Meets g t new z p)
  read-part ended told z lt p none now =
      let ran : Plain = read_run g (past g t) e ended s in
      let done : Flow = with_read_done (read_filter g s e) (bytes_read e t) (read_mark s e) ended (flow_at ran e) in
      let k = meets-new used_ran e (place_of ended) z p none now in
      let here : e.link < s.opened = subst (λ v. v.link < s.opened) k.0 lt in
      let same : flow_at (put_flow e done ran) e ≡ flow_at used_ran e =
      flow-same ran e done (length-set s.flows (number e) used ∙ size) here
      ∙ read_done-kept r xs (read_mark s e) ended (flow_at used_ran e) p k.1 in
      subst (λ v. Meets g t (put_flow e done ran) v p) (sym k.0)
      (inl (read-meets g t s (put_flow e done ran) e ended (flow_at used_ran e) p same
      (meets-marks used_ran e (place_of ended) e) told k.1))

  drain-part : (z : SideId) → z.link < s.opened → (p : ℕ) → (side_at s z).bad ≡ None →
      (side_at (write_run g (past g t) e false s) z).bad ≡ Some p → Meets g t (write_run g (past g t) e false s) z p
  drain-part z lt p none now =
      let new : Plain = write_run g (past g t) e false s in
      let k = meets-new turned_ran (peer e) (write_place_of false) z p none now in
      subst (λ v. Meets g t new v p) (sym k.0)
      (inr (write-meets g t s new e false (flow_at turned_ran e) p refl
      (meets-marks turned_ran (peer e) (write_place_of false) (peer e)) (λ q. absurd (cc)) k.1))

  write-part : is_live s e ≡ true → (z : SideId) → z.link < s.opened → (p : ℕ) → (side_at s z).bad ≡ None →
      (let ran = write_run g (past g t) e true s in let new =
      put_flow e (with_write_done (read_filter g s e) (write_filter g s (peer e)) (bytes_read e t) (hold_mark g s (peer e))
      (flow_at ran e)) ran in
      (side_at new z).bad ≡ Some p → Meets g t new z p)
  write-part live z lt p none now =
      let ran : Plain = write_run g (past g t) e true s in
      let done : Flow = with_write_done (read_filter g s e) (write_filter g s (peer e)) (bytes_read e t) (hold_mark g s (peer e))
      (flow_at ran e) in
      let k = meets-new turned_ran (peer e) (write_place_of true) z p none now in
      let here : e.link < s.opened = subst (λ v. v.link < s.opened) k.0 lt in
      let same : flow_at (put_flow e done ran) e ≡ flow_at turned_ran e =
      flow-same ran e done (length-set s.flows (number e) turned ∙ size) here
      ∙ write_done-kept r w xs (hold_mark g s (peer e)) (flow_at turned_ran e) p k.1 in
      subst (λ v. Meets g t (put_flow e done ran) v p) (sym k.0)
      (inr (write-meets g t s (put_flow e done ran) e true (flow_at turned_ran e) p same
      (meets-marks turned_ran (peer e) (write_place_of true) (peer e))
      (λ _. meets-live turned_ran (peer e) (write_place_of true) e ∙ live) k.1))

-- what a part of a round makes a side keep is met there
part-meets : (g : Settings) (t : Trace) (s : Plain) (e : SideId) (x : Part) → length s.flows ≡ 2 * s.opened →
    (side_at s e).ended ≡ has_ended e t → NeedsLive s e x →
    (z : SideId) → z.link < s.opened → (p : ℕ) → (side_at s z).bad ≡ None → (side_at (do_part g (past g t) e x s) z).bad ≡ Some p →
    Meets g t (do_part g (past g t) e x s) z p
part-meets g t s e Part.Hold size ended needs z lt p none now = absurd (cc)
part-meets g t s e Part.Read size ended needs z lt p none now =
    read-part g t s e size (side_at s e).ended (λ h. sym ended ∙ h) z lt p none now
part-meets g t s e Part.Move size ended needs z lt p none now = absurd (cc)
part-meets g t s e Part.Write size ended needs z lt p none now = write-part g t s e size needs z lt p none now
part-meets g t s e Part.Drain size ended needs z lt p none now = drain-part g t s e size z lt p none now

pub part-old : (g : Settings) (t : Trace) (s : Plain) (e : SideId) (x : Part) (z : SideId) (p : ℕ) → (side_at s z).bad ≡ Some p →
    (side_at (do_part g (past g t) e x s) z).bad ≡ Some p
part-old g t s e Part.Hold z p was = was
part-old g t s e Part.Read z p was = meets-old (used_ran-of) e _ z p was
  where
    used_ran-of : Plain
    used_ran-of = put_flow e (with_used (read_filter g s e) (bytes_read e t) (read_mark s e) (flow_at s e)) s
part-old g t s e Part.Move z p was = was
part-old g t s e Part.Write z p was = meets-old (turned_ran-of) (peer e) _ z p was
  where
    turned_ran-of : Plain
    turned_ran-of =
        put_flow e (with_turned (read_filter g s e) (write_filter g s (peer e)) (bytes_read e t) (hold_mark g s (peer e)) (flow_at s e)) s
part-old g t s e Part.Drain z p was = meets-old (turned_ran-of) (peer e) _ z p was
  where
    turned_ran-of : Plain
    turned_ran-of =
        put_flow e (with_turned (read_filter g s e) (write_filter g s (peer e)) (bytes_read e t) (hold_mark g s (peer e)) (flow_at s e)) s

-- what a silent step makes a side keep is met behind it
pub record StepMeets (g : Settings) (t : Trace) (s : Plain) (new : Plain) : Type 0 where
  pub old : (z : SideId) (p : ℕ) → (side_at s z).bad ≡ Some p → (side_at new z).bad ≡ Some p
  pub now : (z : SideId) → z.link < s.opened → (p : ℕ) → (side_at s z).bad ≡ None → (side_at new z).bad ≡ Some p → Meets g t new z p

same-meets : (g : Settings) (t : Trace) (s new : Plain) → new.sides ≡ s.sides → StepMeets g t s new
same-meets g t s new same = record {
  old = λ z p h. ap (λ l. (side_at (record s { sides = l }) z).bad) same ∙ h;
  now = λ z lt p none h. absurd (let k = ap (λ l. (side_at (record s { sides = l }) z).bad) same in cc);
}

pub quiet-meets : (g : Settings) (t : Trace) (s : Plain) (x : Stage) (new : State) → Kept g t x s → PartsLive x s →
    QuietKind g t s x new → StepMeets g t s new.plain
quiet-meets g t s x new k parts (QuietKind.moved next a) = same-meets g t s s refl
quiet-meets g t s x new k parts (QuietKind.filtered {e = e}) =
    let ran : Plain = read_run g (past g t) e false s in
    let r = raised_read g (past g t) e ran in
    subst (λ v. StepMeets g t s v) (sym r.1)
    (record {
      old = λ z p h. meets-old (put_flow e (with_used (read_filter g s e) (bytes_read e t) (read_mark s e) (flow_at s e)) s) e _ z p h;
      now = λ z lt p none h. run-meets g t s e k.counts.shape.flows false (λ q. absurd (cc)) z lt p none h;
    })
quiet-meets g t s x new k parts (QuietKind.dispatched) = same-meets g t s _ refl
quiet-meets g t s x new k parts (QuietKind.passed {x = p} {e = e}) = record {
  old = λ z q h. part-old g t s e p z q h;
  now = λ z lt q none h. part-meets g t s e p k.counts.shape.flows (ended-is g t x s k e) parts.0 z lt q none h;
}
quiet-meets g t s x new k parts (QuietKind.closes) = same-meets g t s s refl
quiet-meets g t s x new k parts (QuietKind.looked a) = same-meets g t s s refl
quiet-meets g t s x new k parts (QuietKind.over) = same-meets g t s s refl

-- By induction

abbrev AllFirst : Settings → Trace → State → Type 0
AllFirst g t s = (e : SideId) → e.link < s.plain.opened → (place : ℕ) → (side_at s.plain e).bad ≡ Some place → MetFirst g t s e place

pub first-met : (g : Settings) (t : Trace) (s : State) → Reaches g t s → AllFirst g t s
first-met g t s (Reaches.begins) e lt place h = absurd (omega arith)
first-met g t new (Reaches.goes {t = u} {s = old} reached h) e lt place now =
    go (first-met g u old reached e) (side_at old.plain e).bad refl
  where
    k : StepMeets g u old.plain new.plain
    k =
        quiet-meets g u old.plain old.stage new (kept g u old reached) (parts-live g u old reached)
        (quiet-kind g u old.stage old.plain new h)

    lt' : e.link < old.plain.opened
    lt' = subst (λ n. e.link < n) (quiet-silent g u old.stage old.plain new h).keeps.opened lt

    go : (e.link < old.plain.opened → (q : ℕ) → (side_at old.plain e).bad ≡ Some q → MetFirst g u old e q) →
        (o : Option ℕ) → (side_at old.plain e).bad ≡ o → MetFirst g u new e place
    go earlier None none = record {
      early = u;
      before = old;
      reached = reached;
      unmet = none;
      after = new;
      step = h;
      meets = k.now e lt' place none now;
      keeps = now;
      since = Leads.stays;
    }
    go earlier (Some q) was =
        let same : q ≡ place = some-same (sym (k.old e q was) ∙ now) in
        let f = earlier lt' place (was ∙ ap Some same) in
        record {
          early = f.early;
          before = f.before;
          reached = f.reached;
          unmet = f.unmet;
          after = f.after;
          step = f.step;
          meets = f.meets;
          keeps = f.keeps;
          since = Leads.goes {mid = old} f.since h;
        }
      where
        some-same : {a b : ℕ} → Some a ≡ Some b → a ≡ b
        some-same h = cc
first-met g t new (Reaches.puts {t = u} {s = old} y bytes reached h) e lt place now =
    go (first-met g u old reached e) (cases_lt e.link old.plain.opened)
  where
    c : Kept g u old.stage old.plain
    c = kept g u old reached

    effect : Effect g old.stage old.plain (y, bytes) new.stage new.plain
    effect = put-effect g u old.stage old.plain y bytes new c.counts.shape.sides c.placed h

    go : (e.link < old.plain.opened → (q : ℕ) → (side_at old.plain e).bad ≡ Some q → MetFirst g u old e q) →
        (e.link < old.plain.opened) ⊎ (old.plain.opened ≤ e.link) → MetFirst g (u ++ (y, bytes) ∷ []) new e place
    go earlier (inr ge) = absurd (let none = ap (λ z. z.bad) (effect.came e ge lt) in cc)
    go earlier (inl was) =
        let f = earlier was place (sym (effect.each e was).bad ∙ now) in
        record {
          early = f.early;
          before = f.before;
          reached = f.reached;
          unmet = f.unmet;
          after = f.after;
          step = f.step;
          meets = f.meets;
          keeps = f.keeps;
          since = Leads.puts {mid = old} y bytes f.since h;
        }

pub places_are_first : PlacesAreFirst
places_are_first g t s e place r lt h = first-met g t s r e lt place h
