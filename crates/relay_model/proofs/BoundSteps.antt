-- How many bytes a direction may hold, by induction over the steps.
use Rattle.std.proofs.Common.{◌≡◌, ℕ, ◌+◌, ◌*◌, ◌<◌, ◌≤◌, Bool, true, false, if◌then◌else◌, List, [], ◌∷◌, ◌++◌, length, take, ◌⊎◌, inl}
use Rattle.std.proofs.Common.{inr, refl, sym, ◌∙◌, ap, subst, arith, slice_index_or, append-nil, append_assoc}
use Rattle.std.specs.List.{list_any}
use Rattle.std.proofs.lemmas.Bool.{cases_lt, or_parts}
use Rattle.std.proofs.lemmas.List.{get_or_past, length-drop, length-take-le}
use Rattle.ev_types.specs.declared.side.SideId.{SideId}
use Rattle.ev_types.specs.declared.answer.ReadAnswer.{ReadAnswer}
use Rattle.ev_types.specs.declared.answer.ReadAnswer.TheVariants as read
use Rattle.ev_types.specs.declared.entry.Entry.{Entry}
use Rattle.ev_types.specs.declared.entry.Entry.TheVariants as entry
use Rattle.ev_types.specs.Sides.{peer, number}
use Rattle.ev_types.specs.Trace.{Event, Trace}
use Rattle.relay_model.specs.Trace.{read_by, bytes_read, has_ended}
use Rattle.relay_model.specs.Settings.{Settings, HasNoHooks, marks_set}
use Rattle.ev_types.specs.declared.settings.Marks.{Marks}
use Rattle.filter_model.specs.Filter.{Filter, filter_of}
use Rattle.relay_model.specs.Flow.{Flow, Fits, no_flow, middle, raw_input, input, output, outcome, raw_output}
use Rattle.relay_model.specs.Plain.{Plain, side_at, flow_at, change_flow, is_live}
use Rattle.relay_model.specs.Past.{past}
use Rattle.relay_model.specs.Rooms.{read_kind, write_kind, read_filter, write_filter, mark_or, read_mark, hold_mark, read_room}
use Rattle.relay_model.specs.Pass.{with_held, with_used, with_read_done, with_moved, with_turned, with_write_done}
use Rattle.relay_model.specs.Round.{Part, do_part, read_run, write_run}
use Rattle.relay_model.specs.Close.{CloseStep}
use Rattle.relay_model.specs.Stages.{Stage, State, Wanting, Marking, Serving, Dispatching, Freeing, Closing}
use Rattle.relay_model.specs.Turn.{Puts, Reaches}
use Rattle.relay_model.specs.Told.{names}
use Rattle.relay_model.specs.Bounds.{BuffersWithin, DirectionWithin, BuffersAreWithin}
use Rattle.relay_model.proofs.EndLemmas.{number-eq, number-ge, same_end-refl}
use Rattle.filter_model.proofs.EveryFilter.{every_filter}
use Rattle.relay_model.proofs.KeepsLemmas.{raised_read}
use Rattle.relay_model.proofs.PlacedLemmas.{may_read-parts, may_write-live, live-there}
use Rattle.relay_model.proofs.PlainLemmas.{flow_at-change}
use Rattle.relay_model.proofs.TraceLemmas.{bytes_read-push}
use Rattle.relay_model.proofs.StepLemmas.{read-called}
use Rattle.relay_model.proofs.KindLemmas.{ClosedKind, closed-kind, PutKind, put-kind}
use Rattle.relay_model.proofs.FireLemmas.{QuietKind, quiet-kind}
use Rattle.relay_model.proofs.ToldLemmas.{Kept, kept}
use Rattle.relay_model.proofs.StageLemmas.{quiet-silent}
use Rattle.relay_model.proofs.BadSteps.{ended-is}
use Rattle.relay_model.proofs.FlowLemmas.{read_room-below, Takes, put-flow, ReadCase, put-read}
use Rattle.relay_model.proofs.FitsLemmas.{Fit, AllFits, read_run-fits, write_run-fits, read-fits, fits}
use Rattle.relay_model.proofs.BoundLemmas.{Bounded, bounded-first, used-bounded, read_done-bounded, moved-bounded, held-bounded}
use Rattle.relay_model.proofs.BoundLemmas.{turned-bounded, write_done-bounded, given-bounded, got-bounded}
use Rattle.relay_model.proofs.HooklessLemmas.{asleep}

-- Rooms of reads

closed-no_read : (g : Settings) (t : Trace) (s : Plain) (c : CloseStep) (y : Entry) (side : SideId) (room : ℕ) (answer : ReadAnswer) →
    ClosedKind g (past g t) s c y → y ≡ entry.Read side room answer → ⊥
closed-no_read g t s c y side room answer (ClosedKind.faulty a b) h = cc
closed-no_read g t s c y side room answer (ClosedKind.write_ended a b) h = cc
closed-no_read g t s c y side room answer (ClosedKind.in_done a b d f) h = cc
closed-no_read g t s c y side room answer (ClosedKind.out_done) h = cc
closed-no_read g t s c y side room answer (ClosedKind.peer_gone a b d) h = cc
closed-no_read g t s c y side room answer (ClosedKind.shut a b) h = cc

-- a read has the room that its side has then
put-room : (g : Settings) (t : Trace) (x : Stage) (s : Plain) (side : SideId) (room : ℕ) (answer : ReadAnswer) (bytes : List ℕ)
    (new : State) →
    Puts g t x s (entry.Read side room answer) bytes new → room ≡ read_room g (past g t) s side
put-room g t (Serving (m ∷ ms)) s side room answer bytes new h =
    (read-called g (past g t) s m room h.1).is_room ∙ ap (λ v. read_room g (past g t) s v) (sym h.0)
put-room g t (Serving []) s side room answer bytes new h = absurd h
put-room g t (Wanting (w ∷ ws)) s side room answer bytes new h = absurd h
put-room g t (Wanting []) s side room answer bytes new h = absurd h
put-room g t (Marking (w ∷ ws) marks) s side room answer bytes new h = absurd h
put-room g t (Marking [] marks) s side room answer bytes new h = absurd h
put-room g t (Dispatching (r ∷ rs)) s side room answer bytes new h = absurd h
put-room g t (Dispatching []) s side room answer bytes new h = absurd h
put-room g t (Freeing gone x rs) s side room answer bytes new h = absurd (let k = h.0 in cc)
put-room g t (Closing (c ∷ cs)) s side room answer bytes new h =
    absurd (closed-no_read g t s c (entry.Read side room answer) side room answer
    (closed-kind g (past g t) s c (entry.Read side room answer) h.0) refl)
put-room g t (Closing []) s side room answer bytes new h = absurd h
put-room g t _ s side room answer bytes new h = absurd h

-- what was read of an end that no event names
unread : (e : SideId) (t : Trace) → list_any (names e) t ≡ false → bytes_read e t ≡ []
unread e [] h = refl
unread e (y ∷ t) h =
    let parts = or_parts (names e y) (list_any (names e) t) h in
    (λ i. one y parts.0 i ++ unread e t parts.1 i)
  where
    one : (y : Event) → names e y ≡ false → read_by e y ≡ []
    one (entry.Read side room (read.Got n), bytes) h = ap (λ b. if b then bytes else []) h
    one (entry.Read side room read.Ended, bytes) h = refl
    one (entry.Read side room read.NotYet, bytes) h = refl
    one (entry.Read side room read.Failed, bytes) h = refl
    one _ h = refl

-- Where no mark ever is above some number, that number bounds the buffers.

module _ (g : Settings) (most most_held : SideId → ℕ) where
  abbrev Bnd : Trace → SideId → Flow → Type 0
  Bnd t e f = Bounded (filter_of (read_kind g e.side)) (filter_of (write_kind g (peer e).side)) (bytes_read e t) (most e) (most_held e) f

  abbrev AllBnd : Trace → Plain → Type 0
  AllBnd t s = (z : SideId) → z.link < s.opened → Bnd t z (flow_at s z)

  -- no mark of the state is above
  abbrev pub MarksBelow : Plain → Type 0
  MarksBelow s = (e : SideId) → e.link < s.opened → (read_mark s e ≤ most e) × (hold_mark g s (peer e) ≤ most_held e)

  change-bnd : (t : Trace) (e : SideId) (change : Flow → Flow) (s : Plain) →
      (e.link < s.opened → Fit g t e (flow_at s e) → Bnd t e (flow_at s e) → Bnd t e (change (flow_at s e))) →
      AllFits g t s → AllBnd t s → AllBnd t (change_flow e change s)
  change-bnd t e change s keeps fit h z lt = elim (flow_at-change e z change s) [
    | inl same ↦ subst (λ f. Bnd t z f) (sym same) (h z lt)
    | inr changed ↦
        (let is = number-eq z e changed.0 in
        let there : e.link < s.opened = subst (λ v. v.link < s.opened) is lt in
        subst (λ f. Bnd t z f) (sym changed.1)
        (subst (λ v. Bnd t v (change (flow_at s v))) (sym is) (keeps there (fit e) (h e there))))
  ]

  read_run-bnd : (t : Trace) (e : SideId) (s : Plain) (ended : Bool) → MarksBelow s → AllFits g t s → AllBnd t s →
      AllBnd t (read_run g (past g t) e ended s)
  read_run-bnd t e s ended below fit h =
      change-bnd t e (with_used (read_filter g s e) (bytes_read e t) (read_mark s e)) s
      (λ there k b. used-bounded (read_kind g e.side) (write_kind g (peer e).side) (bytes_read e t) (has_ended e t) (most e)
      (most_held e) (flow_at s e) k b
      (read_mark s e) (below e there).0) fit h

  write_run-bnd : (t : Trace) (e : SideId) (s : Plain) (may_end : Bool) → MarksBelow s → AllFits g t s → AllBnd t s →
      AllBnd t (write_run g (past g t) e may_end s)
  write_run-bnd t e s may_end below fit h =
      change-bnd t e (with_turned (read_filter g s e) (write_filter g s (peer e)) (bytes_read e t) (hold_mark g s (peer e))) s
      (λ there k b. turned-bounded (read_kind g e.side) (write_kind g (peer e).side) (bytes_read e t) (has_ended e t) (most e)
      (most_held e) (flow_at s e) k b
      (hold_mark g s (peer e)) (below e there).1) fit h

  part-bnd : (t : Trace) (e : SideId) (s : Plain) (x : Part) → MarksBelow s → AllFits g t s → AllBnd t s →
      AllBnd t (do_part g (past g t) e x s)
  part-bnd t e s Part.Hold below fit h =
      change-bnd t e (with_held (read_filter g s e) (write_filter g s (peer e)) (bytes_read e t) (hold_mark g s (peer e))) s
      (λ there k b. held-bounded (read_kind g e.side) (write_kind g (peer e).side) (bytes_read e t) (has_ended e t) (most e)
      (most_held e) (flow_at s e) k b
      (hold_mark g s (peer e))) fit h
  part-bnd t e s Part.Read below fit h =
      let ran : Plain = read_run g (past g t) e (side_at s e).ended s in
      change-bnd t e (with_read_done (read_filter g s e) (bytes_read e t) (read_mark s e) (side_at s e).ended) ran
      (λ there k b. read_done-bounded (read_kind g e.side) (write_kind g (peer e).side) (bytes_read e t) (has_ended e t) (most e)
      (most_held e) (flow_at ran e) k b
      (read_mark s e) (side_at s e).ended (below e there).0)
      (read_run-fits g t e s (side_at s e).ended fit) (read_run-bnd t e s (side_at s e).ended below fit h)
  part-bnd t e s Part.Move below fit h =
      change-bnd t e (with_moved (read_filter g s e) (bytes_read e t)) s
      (λ there k b. moved-bounded (read_kind g e.side) (write_kind g (peer e).side) (bytes_read e t) (has_ended e t) (most e)
      (most_held e) (flow_at s e) k b) fit h
  part-bnd t e s Part.Write below fit h =
      let ran : Plain = write_run g (past g t) e true s in
      change-bnd t e (with_write_done (read_filter g s e) (write_filter g s (peer e)) (bytes_read e t) (hold_mark g s (peer e))) ran
      (λ there k b. write_done-bounded (read_kind g e.side) (write_kind g (peer e).side) (bytes_read e t) (has_ended e t) (most e)
      (most_held e) (flow_at ran e) k b
      (hold_mark g s (peer e)) (below e there).1)
      (write_run-fits g t e s true fit) (write_run-bnd t e s true below fit h)
  part-bnd t e s Part.Drain below fit h = write_run-bnd t e s false below fit h

  quiet-bnd : (t : Trace) (s : Plain) (x : Stage) (new : State) → new.plain.opened ≡ s.opened → MarksBelow s → AllFits g t s →
      QuietKind g t s x new →
      AllBnd t s → AllBnd t new.plain
  quiet-bnd t s x new opened below fit (QuietKind.moved next a) h z lt = h z lt
  quiet-bnd t s x new opened below fit (QuietKind.filtered {e = e}) h z lt =
      let k = raised_read g (past g t) e (read_run g (past g t) e false s) in
      subst (λ p. Bnd t z (slice_index_or p (number z) no_flow)) (sym (ap (λ p. p.flows) k.1))
      (read_run-bnd t e s false below fit h z (subst (λ n. z.link < n) opened lt))
  quiet-bnd t s x new opened below fit (QuietKind.dispatched) h z lt = h z lt
  quiet-bnd t s x new opened below fit (QuietKind.passed {x = p} {e = e}) h z lt =
      part-bnd t e s p below fit h z lt
  quiet-bnd t s x new opened below fit (QuietKind.closes) h z lt = h z lt
  quiet-bnd t s x new opened below fit (QuietKind.looked a) h z lt = h z lt
  quiet-bnd t s x new opened below fit (QuietKind.over) h z lt = h z lt

  -- what a read does
  read-bnd : (t : Trace) (s : Plain) (y : Event) (e : SideId) → e.link < s.opened → MarksBelow s → Fit g t e (flow_at s e) →
      ((room n : ℕ) (bytes : List ℕ) → y ≡ (entry.Read e room (read.Got n), bytes) → room ≡ read_room g (past g t) s e) → ReadCase s e y →
      Bnd t e (flow_at s e) → Bnd (t ++ y ∷ []) e (flow_at s e)
  read-bnd t s y e there below fit rooms (ReadCase.none a b) h =
      subst (λ xs. Bounded (filter_of (read_kind g e.side)) (filter_of (write_kind g (peer e).side)) xs (most e) (most_held e)
      (flow_at s e))
      (sym (bytes_read-push e t y ∙ ap (λ z. bytes_read e t ++ z) a ∙ append-nil (bytes_read e t))) h
  read-bnd t s y e there below fit rooms (ReadCase.got {room = room} {n = n} {bytes = bytes} may size some within) h =
      let is_room : room ≡ read_room g (past g t) s e = rooms room n bytes refl in
      let left_over = read_room-below g (past g t) s e (omega arith) in
      let mark = (below e there).0 in
      subst (λ xs. Bounded (filter_of (read_kind g e.side)) (filter_of (write_kind g (peer e).side)) xs (most e) (most_held e)
      (flow_at s e))
      (sym (bytes_read-push e t y ∙ ap (λ q. bytes_read e t ++ (if q then bytes else [])) (same_end-refl e)))
      (got-bounded (read_kind g e.side) (write_kind g (peer e).side) (bytes_read e t) (has_ended e t) (most e) (most_held e)
      (flow_at s e) fit h bytes (omega arith))
  read-bnd t s y e there below fit rooms (ReadCase.ends may) h =
      subst (λ xs. Bounded (filter_of (read_kind g e.side)) (filter_of (write_kind g (peer e).side)) xs (most e) (most_held e)
      (flow_at s e))
      (sym (bytes_read-push e t y ∙ append-nil (bytes_read e t))) h

  flow-bnd : (t u : Trace) (s : Plain) (y : Event) (new : Plain) (e : SideId) → Fit g u e (flow_at s e) →
      (flow_at new e ≡ flow_at s e) ⊎ Takes g t s y new e → Bnd u e (flow_at s e) → Bnd u e (flow_at new e)
  flow-bnd t u s y new e fit (inl same) h = subst (λ f. Bnd u e f) (sym same) h
  flow-bnd t u s y new e fit (inr k) h =
      subst (λ f. Bnd u e f) (sym k.flow)
      (given-bounded (read_kind g e.side) (write_kind g (peer e).side) (bytes_read e u) (has_ended e u) (most e) (most_held e)
      (flow_at s e) fit h k.n)

  -- of a side that was never opened nothing is read, and its end takes nothing
  new-read : (s : Plain) (e : SideId) (y : Event) → ((z : SideId) → is_live s z ≡ true → z.link < s.opened) → s.opened ≤ e.link →
      ReadCase s e y → read_by e y ≡ []
  new-read s e y there ge (ReadCase.none a b) = a
  new-read s e y there ge (ReadCase.got may a b c) = absurd (let l = there e (may_read-parts s e may).live in omega arith)
  new-read s e y there ge (ReadCase.ends may) = refl

  new-flow : (t : Trace) (s : Plain) (y : Event) (new : Plain) (e : SideId) → ((z : SideId) → is_live s z ≡ true → z.link < s.opened) →
      length s.flows ≡ 2 * s.opened → s.opened ≤ e.link → (flow_at new e ≡ flow_at s e) ⊎ Takes g t s y new e → flow_at new e ≡ no_flow
  new-flow t s y new e there size ge (inl same) =
      same ∙ get_or_past s.flows (number e) no_flow (omega (arith, size, number-ge e s.opened ge))
  new-flow t s y new e there size ge (inr k) = absurd (let l = there (peer e) (may_write-live s (peer e) k.may) in omega arith)

  -- It is enough that no mark is above it along this one run.
  pub bounded-along : (all : Trace) → ((t : Trace) (s : State) (rest : Trace) → all ≡ t ++ rest → Reaches g t s → MarksBelow s.plain) →
      (t : Trace) (s : State) (rest : Trace) → all ≡ t ++ rest → Reaches g t s → AllBnd t s.plain
  bounded-along all below t s rest is (Reaches.begins) z lt = absurd (omega arith)
  bounded-along all below t new rest is (Reaches.goes {t = u} {s = old} r h) z lt =
      quiet-bnd u old.plain old.stage new (quiet-silent g u old.stage old.plain new h).keeps.opened (below u old rest is r)
      (fits g u old r)
      (quiet-kind g u old.stage old.plain new h) (bounded-along all below u old rest is r) z lt
  bounded-along all below t new rest is (Reaches.puts {t = u} {s = old} y bytes r h) z lt =
      go (bounded-along all below u old ((y, bytes) ∷ rest) earlier_is r z) (cases_lt z.link old.plain.opened)
    where
      earlier_is : all ≡ u ++ (y, bytes) ∷ rest
      earlier_is = is ∙ append_assoc u ((y, bytes) ∷ []) rest

      marks_below : MarksBelow old.plain
      marks_below = below u old ((y, bytes) ∷ rest) earlier_is r

      c : Kept g u old.stage old.plain
      c = kept g u old r

      kind : PutKind g u old.plain old.stage (y, bytes) new
      kind = put-kind g u old.stage old.plain y bytes new c.placed h

      there : (e : SideId) → is_live old.plain e ≡ true → e.link < old.plain.opened
      there e live = live-there old.plain e c.counts.shape.sides live

      case : ReadCase old.plain z (y, bytes)
      case = put-read g u old.plain old.stage (y, bytes) new kind z

      moves : (flow_at new.plain z ≡ flow_at old.plain z) ⊎ Takes g u old.plain (y, bytes) new.plain z
      moves = put-flow g u old.plain old.stage (y, bytes) new kind z

      rooms : (room n : ℕ) (bs : List ℕ) → (let v : Event = (y, bytes) in v) ≡ (entry.Read z room (read.Got n), bs) →
          room ≡ read_room g (past g u) old.plain z
      rooms room n bs same =
          put-room g u old.stage old.plain z room (read.Got n) bytes new
          (subst (λ v. Puts g u old.stage old.plain v bytes new) (ap (λ v. v.0) same) h)

      go : (z.link < old.plain.opened → Bnd u z (flow_at old.plain z)) → (z.link < old.plain.opened) ⊎ (old.plain.opened ≤ z.link) →
          Bnd (u ++ (y, bytes) ∷ []) z (flow_at new.plain z)
      go earlier (inl was) =
          flow-bnd u (u ++ (y, bytes) ∷ []) old.plain (y, bytes) new.plain z
          (read-fits g u old.plain (y, bytes) z (flow_at old.plain z) (ended-is g u old.stage old.plain c z) case (fits g u old r z)) moves
          (read-bnd u old.plain (y, bytes) z was marks_below (fits g u old r z) rooms case (earlier was))
      go earlier (inr ge) =
          subst (λ f. Bnd (u ++ (y, bytes) ∷ []) z f)
          (sym (new-flow u old.plain (y, bytes) new.plain z there c.counts.shape.flows ge moves))
          (subst (λ xs. Bounded (filter_of (read_kind g z.side)) (filter_of (write_kind g (peer z).side)) xs (most z)
          (most_held z) no_flow)
          (sym (bytes_read-push z u (y, bytes)
          ∙ (λ i. unread z u (c.counts.named z ge) i ++ new-read old.plain z (y, bytes) there ge case i)))
          (bounded-first (filter_of (read_kind g z.side)) (filter_of (write_kind g (peer z).side)) (most z) (most_held z)
          (every_filter (read_kind g z.side)).prefix (every_filter (write_kind g (peer z).side)).prefix))

  pub bounded : ((t : Trace) (s : State) → Reaches g t s → MarksBelow s.plain) → (t : Trace) (s : State) → Reaches g t s → AllBnd t s.plain
  bounded below t s r = bounded-along t (λ u x rest is h. below u x h) t s [] (sym (append-nil t)) r

-- Bounds on counts are bounds on lengths.
pub within : (r w : Filter) (xs : List ℕ) (ended : Bool) (mark hold : ℕ) (f : Flow) → Fits r w xs ended f →
    Bounded r w xs mark hold f → BuffersWithin r w xs mark hold f
within r w xs ended mark hold f k b = record {
  all = let p = one in let q = two in let s = three in let u = four in omega arith;
  raw_input = one;
  input = two;
  output = three;
  raw_output = four;
}
  where
    one : length (raw_input xs f) ≤ mark
    one = let a = b.raw in omega (arith, length-drop f.used xs, a)

    two : length (input r xs f) ≤ mark + 1
    two = let a = b.inp in omega (arith, length-drop f.moved (middle r xs f), a)

    three : length (output r xs f) ≤ mark + 1
    three =
        let a = b.out in omega
        (arith, length-drop f.turned (take f.moved (middle r xs f)), length-take-le f.moved (middle r xs f) k.moved, a)

    four : length (raw_output r w xs f) ≤ hold + 1
    four = let a = b.raw_out in omega (arith, length-drop f.given (outcome r w xs f), a)

-- With no hooks

abbrev set_mark : Settings → SideId → ℕ
set_mark g e = mark_or (marks_set g e.side).read_high 16384

abbrev set_hold : Settings → SideId → ℕ
set_hold g e = mark_or (marks_set g (peer e).side).write_high g.hold

set-below : (g : Settings) → HasNoHooks g → (t : Trace) (s : State) → Reaches g t s → MarksBelow g (set_mark g) (set_hold g) s.plain
set-below g none t s r e lt =
    let k = asleep g t s none r in
    let a = ap (λ (m : Marks). mark_or m.read_high 16384) (k.marks e lt) in
    let b = ap (λ (m : Marks). mark_or m.write_high g.hold) (k.marks (peer e) lt) in
    (omega arith, omega arith)

pub buffers_are_within : BuffersAreWithin
buffers_are_within g t s e none r lt =
    let k = asleep g t s none r in
    let a : read_mark s.plain e ≡ set_mark g e = ap (λ (m : Marks). mark_or m.read_high 16384) (k.marks e lt) in
    let b : hold_mark g s.plain (peer e) ≡ set_hold g e = ap (λ (m : Marks). mark_or m.write_high g.hold) (k.marks (peer e) lt) in
    subst (λ m. DirectionWithin g t s.plain e m (hold_mark g s.plain (peer e))) (sym a)
    (subst (λ m. DirectionWithin g t s.plain e (set_mark g e) m) (sym b)
    (within (read_filter g s.plain e) (write_filter g s.plain (peer e)) (bytes_read e t) (has_ended e t) (set_mark g e) (set_hold g e)
    (flow_at s.plain e) (fits g t s r e)
    (bounded g (set_mark g) (set_hold g) (set-below g none) t s r e lt)))
