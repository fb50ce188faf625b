-- What the free of a side tells stays so, by induction over the steps.
use Rattle.std.proofs.Common.{◌≡◌, ℕ, zero, suc, ◌+◌, Bool, true, false, ◌||◌, if◌then◌else◌, List, [], ◌∷◌, ◌++◌, refl, sym, ◌∙◌, ap}
use Rattle.std.proofs.Common.{subst, slice_index_or, ◌&&◌, ◌==◌, length, ◌⊎◌, inl, inr, arith, ◌-◌, not}
use Rattle.std.proofs.lemmas.Bool.{or_parts, or_from}
use Rattle.ev_types.specs.declared.side.SideId.{SideId}
use Rattle.ev_types.specs.declared.answer.ReadAnswer.{ReadAnswer}
use Rattle.ev_types.specs.declared.answer.WriteAnswer.{WriteAnswer}
use Rattle.ev_types.specs.declared.entry.Entry.{Entry}
use Rattle.ev_types.specs.Sides.{same_end, peer, number}
use Rattle.ev_types.specs.Trace.{Event, Trace}
use Rattle.relay_model.specs.Settings.{Settings}
use Rattle.relay_model.specs.Trace.{moved_at_free, given_at_free, told_moved_by, told_given_by}
use Rattle.relay_model.specs.Reasons.{happened, error_flag}
use Rattle.relay_model.specs.Flow.{output, Flow, no_flow, middle, raw_output}
use Rattle.relay_model.specs.Plain.{Plain, side_at, flow_at, change_side, change_flow, is_live, all_sides}
use Rattle.relay_model.specs.Past.{Past, past}
use Rattle.relay_model.specs.Rooms.{read_filter, write_filter, read_mark, hold_mark, Want}
use Rattle.relay_model.specs.Serve.{after_write, after_got}
use Rattle.relay_model.specs.Close.{CloseStep}
use Rattle.relay_model.specs.Stages.{Stage, State, Wanting, Marking, Accepting, Serving, Filtering, Dispatching, Firing, Passing, Closing}
use Rattle.relay_model.specs.Stages.{Over, Halt}
use Rattle.relay_model.specs.Turn.{Quietly, turned_to, Reaches, after_reading}
use Rattle.relay_model.proofs.EndLemmas.{same_end-eq, number-apart, peer-peer, same_end-refl}
use Rattle.relay_model.proofs.KeepsLemmas.{Keeps-side, raised, raised_write, raised_read}
use Rattle.relay_model.proofs.PlacedLemmas.{may_write-live}
use Rattle.relay_model.proofs.TimeLemmas.{time-flows}
use Rattle.relay_model.specs.Moments.{active_at}
use Rattle.relay_model.proofs.KindLemmas.{ClosedKind, closed-kind, PutKind, put-kind}
use Rattle.relay_model.specs.Due.{Reason}
use Rattle.relay_model.specs.Told.{freed_by, is_freed, FreesTell, FreesTellTotals}
use Rattle.relay_model.specs.Round.{Part, do_part, read_run, write_run, parts_of}
use Rattle.relay_model.proofs.FireLemmas.{QuietKind, quiet-kind}
use Rattle.relay_model.proofs.ToldLemmas.{kept, list_any-push}
use Rattle.std.specs.Prelude.{nat_lt, ⊤, All}
use Rattle.relay_model.proofs.BadSteps.{turned-stations, done-stations}
use Rattle.relay_model.proofs.HeldLemmas.{live-unfreed}
use Rattle.std.proofs.lemmas.List.Elements.{All-append}
use Rattle.relay_model.proofs.TraceLemmas.{moved_at_free-push, given_at_free-push}
use Rattle.relay_model.proofs.BadLemmas.{default-same, conn-flows, read-flows, closed-flows, set-seen, put-stations}
use Rattle.std.proofs.lemmas.List.{get_or-set_other}
use Rattle.relay_model.specs.Pass.{write_stops, with_used, with_read_done, with_turned, with_write_done, with_held, with_moved}
use Rattle.filter_model.specs.Stopping.{first_from, is_over}
use Rattle.relay_model.specs.Conserved.{all_moved}
use Rattle.filter_model.specs.Filter.{Filter}
use Rattle.std.specs.List.{AllByRecursion}
use Rattle.ev_types.specs.declared.side.Side.TheVariants.{In, Out}
use Rattle.relay_model.proofs.SeenLemmas.{but_bad, do_part-keeps}
use Rattle.ev_types.specs.declared.answer.ReadAnswer.TheVariants as read
use Rattle.ev_types.specs.declared.answer.WriteAnswer.TheVariants as write
use Rattle.ev_types.specs.declared.entry.Entry.TheVariants as entry
use Rattle.token_bucket.specs.declared.limit.Dir.TheVariants as dir

-- While parts of a round are left that move bytes, the side that the direction begins at lives

abbrev pub NeedsLive : Plain → SideId → Part → Type 0
NeedsLive s e Part.Hold = ⊤
NeedsLive s e Part.Drain = ⊤
NeedsLive s e _ = is_live s e ≡ true

abbrev pub PartsLive : Stage → Plain → Type 0
PartsLive (Passing xs (e ∷ es)) s = AllByRecursion (NeedsLive s e) xs
PartsLive _ s = ⊤

round-live : (s : Plain) (e : SideId) (a b : Bool) → is_live s e ≡ a → AllByRecursion (NeedsLive s e) (parts_of a b)
round-live s e true true h = (tt, (h, (h, (h, tt))))
round-live s e false true h = (tt, (tt, tt))
round-live s e true false h = tt
round-live s e false false h = tt

needs-same : (s new : Plain) (e : SideId) → is_live new e ≡ is_live s e → (x : Part) → NeedsLive s e x → NeedsLive new e x
needs-same s new e same Part.Hold h = tt
needs-same s new e same Part.Drain h = tt
needs-same s new e same Part.Read h = same ∙ h
needs-same s new e same Part.Move h = same ∙ h
needs-same s new e same Part.Write h = same ∙ h

parts-same : (s new : Plain) (e : SideId) → is_live new e ≡ is_live s e → (xs : List Part) → AllByRecursion (NeedsLive s e) xs →
    AllByRecursion (NeedsLive new e) xs
parts-same s new e same [] h = tt
parts-same s new e same (x ∷ xs) h = (needs-same s new e same x h.0, parts-same s new e same xs h.1)

fire-parts : (b : Bool) (k : ℕ) (rs : List Reason) (s : Plain) → PartsLive (if b then Over (Halt.StoppedBy k) else Dispatching rs) s
fire-parts true k rs s = tt
fire-parts false k rs s = tt

none-left : (es : List SideId) (s : Plain) → PartsLive (Passing [] es) s
none-left [] s = tt
none-left (e ∷ es) s = tt

quiet-parts : (g : Settings) (t : Trace) (x : Stage) (s : Plain) (new : State) → PartsLive x s → Quietly g t x s new → PartsLive
    new.stage new.plain
quiet-parts g t (Wanting []) s new parts h = subst (λ z. PartsLive z.stage z.plain) (sym h) tt
quiet-parts g t (Marking (w ∷ ws) marks) s new parts h = subst (λ z. PartsLive z.stage z.plain) (sym h) tt
quiet-parts g t (Marking [] marks) s new parts h = subst (λ z. PartsLive z.stage z.plain) (sym h) tt
quiet-parts g t (Accepting n marks) s new parts h = subst (λ z. PartsLive z.stage z.plain) (sym h) tt
quiet-parts g t (Serving (m ∷ ms)) s new parts h = subst (λ z. PartsLive z.stage z.plain) (sym h.1) tt
quiet-parts g t (Filtering e ms) s new parts h = subst (λ z. PartsLive z.stage z.plain) (sym h) tt
quiet-parts g t (Serving []) s new parts h = subst (λ z. PartsLive z.stage z.plain) (sym h) tt
quiet-parts g t (Firing x rs) s new parts h = subst (λ z. PartsLive z.stage z.plain) (sym h) (fire-parts x.stopped x.side.link rs s)
quiet-parts g t (Dispatching []) s new parts h = subst (λ z. PartsLive z.stage z.plain) (sym h) (none-left (all_sides s) s)
quiet-parts g t (Passing [] (e ∷ es)) s new parts (inl h) = subst (λ z. PartsLive z.stage z.plain) (sym h.1) (none-left es s)
quiet-parts g t (Passing [] (e ∷ es)) s new parts (inr h) = subst (λ z. PartsLive z.stage z.plain) (sym h)
    (round-live s e (is_live s e) (is_live s (peer e)) refl)
quiet-parts g t (Passing (x ∷ xs) (e ∷ es)) s new parts h =
    subst (λ z. PartsLive z.stage z.plain) (sym h)
    (parts-same s (do_part g (past g t) e x s) e
    (ap (λ z. z.live) (Keeps-side but_bad s (do_part g (past g t) e x s) e (do_part-keeps g (past g t) e x s))) xs parts.1)
quiet-parts g t (Passing [] []) s new parts h = subst (λ z. PartsLive z.stage z.plain) (sym h) tt
quiet-parts g t (Closing (c ∷ cs)) s new parts h = subst (λ z. PartsLive z.stage z.plain) (sym h.1) tt
quiet-parts g t (Closing []) s new parts h = subst (λ z. PartsLive z.stage z.plain) (sym h) tt
quiet-parts g t _ s new parts h = absurd h

reading-parts : (side : SideId) (answer : ReadAnswer) (ms : List Want) (s : Plain) → PartsLive (after_reading side answer ms) s
reading-parts side (read.Got n) ms s = tt
reading-parts side read.Ended ms s = tt
reading-parts side read.NotYet ms s = tt
reading-parts side read.Failed ms s = tt

put-parts : (g : Settings) (t : Trace) (s : Plain) (x : Stage) (y : Event) (new : State) → PutKind g t s x y new → PartsLive
    new.stage new.plain
put-parts g t s x y new (PutKind.turned a b) = tt
put-parts g t s x y new (PutKind.polled) = tt
put-parts g t s x y new (PutKind.wanted a) = tt
put-parts g t s x y new (PutKind.poll_failed) = tt
put-parts g t s x y new (PutKind.readied a) = tt
put-parts g t s x y new (PutKind.opened) = tt
put-parts g t s x y new (PutKind.checked a) = tt
put-parts g t s x y new (PutKind.was_read {side = side} {answer = answer} left a b) = reading-parts side answer left _
put-parts g t s x y new (PutKind.written a b c) = tt
put-parts g t s x y new (PutKind.fired a) = tt
put-parts g t s x y new (PutKind.frees a same) = tt
put-parts g t s x y new (PutKind.asked same m l) = tt
put-parts g t s x y new (PutKind.recorded) = tt
put-parts g t s x y new (PutKind.closed a) = tt

-- Numbers that were told

-- of a side that was not freed nothing was told
pub moved-untold : (e : SideId) (t : Trace) → is_freed e t ≡ false → moved_at_free e t ≡ []
moved-untold e [] h = refl
moved-untold e (y ∷ t) h =
    let parts = or_parts (freed_by e y) (is_freed e t) h in
    (λ i. one e y parts.0 i ++ moved-untold e t parts.1 i)
  where
    one : (e : SideId) (y : Event) → freed_by e y ≡ false → told_moved_by e y ≡ []
    one e (entry.Freed side why moved given, bytes) h = ap (λ b. if b then moved ∷ [] else []) h
    one e _ h = refl

pub given-untold : (e : SideId) (t : Trace) → is_freed e t ≡ false → given_at_free e t ≡ []
given-untold e [] h = refl
given-untold e (y ∷ t) h =
    let parts = or_parts (freed_by e y) (is_freed e t) h in
    (λ i. one e y parts.0 i ++ given-untold e t parts.1 i)
  where
    one : (e : SideId) (y : Event) → freed_by e y ≡ false → told_given_by e y ≡ []
    one e (entry.Freed side why moved given, bytes) h = ap (λ b. if b then given ∷ [] else []) h
    one e _ h = refl

-- What passing leaves of a count

-- a count that the runs of the filters leave
record RunsKeep (v : Flow → ℕ) : Type 0 where
  held : (r w : Filter) (xs : List ℕ) (hold : ℕ) (f : Flow) → v (with_held r w xs hold f) ≡ v f
  used : (r : Filter) (xs : List ℕ) (mark : ℕ) (f : Flow) → v (with_used r xs mark f) ≡ v f
  read_done : (r : Filter) (xs : List ℕ) (mark : ℕ) (ended : Bool) (f : Flow) → v (with_read_done r xs mark ended f) ≡ v f
  turned : (r w : Filter) (xs : List ℕ) (hold : ℕ) (f : Flow) → v (with_turned r w xs hold f) ≡ v f
  write_done : (r w : Filter) (xs : List ℕ) (hold : ℕ) (f : Flow) → v (with_write_done r w xs hold f) ≡ v f

turned-moved : (r w : Filter) (xs : List ℕ) (hold : ℕ) (f : Flow) → (with_turned r w xs hold f).moved ≡ f.moved
turned-moved r w xs hold f = ap (λ z. z.moved) (turned-stations r w xs hold f)

done-moved : (r w : Filter) (xs : List ℕ) (hold : ℕ) (f : Flow) → (with_write_done r w xs hold f).moved ≡ f.moved
done-moved r w xs hold f = ap (λ z. z.moved) (done-stations r w xs hold f)

runs-moved : RunsKeep (λ f. f.moved)
runs-moved = record {
  held = λ r w xs hold f. refl;
  used = λ r xs mark f. refl;
  read_done = λ r xs mark ended f. refl;
  turned =
      turned-moved;
  write_done = done-moved;
}

turned-given : (r w : Filter) (xs : List ℕ) (hold : ℕ) (f : Flow) → (with_turned r w xs hold f).given ≡ f.given
turned-given r w xs hold f = go f.held
  where
    go : (b : Bool) → (if b then f else record f {
      turned = first_from (write_stops r w xs hold f) f.turned (f.moved - f.turned);
    }).given ≡ f.given
    go true = refl
    go false = refl

done-given : (r w : Filter) (xs : List ℕ) (hold : ℕ) (f : Flow) → (with_write_done r w xs hold f).given ≡ f.given
done-given r w xs hold f = go f.held
  where
    go : (b : Bool) → (if b then f else record f {
      write_done = f.write_done || (all_moved r xs f && f.turned == f.moved && is_over w (middle r xs f)
          (nat_lt (length (raw_output r w xs f)) hold));
    }).given ≡ f.given
    go true = refl
    go false = refl

moved-given : (r : Filter) (xs : List ℕ) (f : Flow) → (with_moved r xs f).given ≡ f.given
moved-given r xs f = go (not f.held && length (output r xs f) == 0)
  where
    go : (b : Bool) → (if b then record f { moved = length (middle r xs f) } else f).given ≡ f.given
    go true = refl
    go false = refl

runs-given : RunsKeep (λ f. f.given)
runs-given = record {
  held = λ r w xs hold f. refl;
  used = λ r xs mark f. refl;
  read_done = λ r xs mark ended f. refl;
  turned =
      turned-given;
  write_done = done-given;
}

module _ (v : Flow → ℕ) (k : RunsKeep v) (g : Settings) (p : Past) (e : SideId) where
  read_run-kept : (s : Plain) (ended : Bool) (z : SideId) → v (flow_at (read_run g p e ended s) z) ≡ v (flow_at s z)
  read_run-kept s ended z = set-seen v s.flows (number e) _ no_flow (k.used (read_filter g s e) (p.read e) (read_mark s e)
      (flow_at s e)) (number z)

  write_run-kept : (s : Plain) (may_end : Bool) (z : SideId) → v (flow_at (write_run g p e may_end s) z) ≡ v (flow_at s z)
  write_run-kept s may_end z = set-seen v s.flows (number e) _ no_flow (k.turned (read_filter g s e) (write_filter g s (peer e))
      (p.read e) (hold_mark g s (peer e)) (flow_at s e)) (number z)

  hold-kept : (s : Plain) (z : SideId) → v (flow_at (do_part g p e Part.Hold s) z) ≡ v (flow_at s z)
  hold-kept s z = set-seen v s.flows (number e) _ no_flow (k.held (read_filter g s e) (write_filter g s (peer e)) (p.read e)
      (hold_mark g s (peer e)) (flow_at s e)) (number z)

  read-kept : (s : Plain) (z : SideId) → v (flow_at (do_part g p e Part.Read s) z) ≡ v (flow_at s z)
  read-kept s z =
      let ran : Plain = read_run g p e (side_at s e).ended s in
      set-seen v ran.flows (number e) _ no_flow (k.read_done (read_filter g s e) (p.read e) (read_mark s e) (side_at s e).ended
      (flow_at ran e)) (number z)
      ∙ read_run-kept s (side_at s e).ended z

  write-kept : (s : Plain) (z : SideId) → v (flow_at (do_part g p e Part.Write s) z) ≡ v (flow_at s z)
  write-kept s z =
      let ran : Plain = write_run g p e true s in
      set-seen v ran.flows (number e) _ no_flow (k.write_done (read_filter g s e) (write_filter g s (peer e)) (p.read e)
      (hold_mark g s (peer e)) (flow_at ran e)) (number z)
      ∙ write_run-kept s true z

  got-kept : (s : Plain) (z : SideId) → v (flow_at (after_got g p e s) z) ≡ v (flow_at s z)
  got-kept s z =
      ap (λ flows. v (slice_index_or flows (number z) no_flow)) (ap (λ w. w.flows) (raised_read g p e (read_run g p e false s)).1)
      ∙ read_run-kept s false z

-- what was given stays, whatever part is done
part-given : (g : Settings) (p : Past) (s : Plain) (e : SideId) (x : Part) (z : SideId) → (flow_at (do_part g p e x s) z).given ≡
    (flow_at s z).given
part-given g p s e Part.Hold z = hold-kept (λ f. f.given) runs-given g p e s z
part-given g p s e Part.Read z = read-kept (λ f. f.given) runs-given g p e s z
part-given g p s e Part.Move z = set-seen (λ f. f.given) s.flows (number e) _ no_flow (moved-given (read_filter g s e) (p.read e)
    (flow_at s e)) (number z)
part-given g p s e Part.Write z = write-kept (λ f. f.given) runs-given g p e s z
part-given g p s e Part.Drain z = write_run-kept (λ f. f.given) runs-given g p e s false z

-- what was moved stays, but of a live side
part-moved : (g : Settings) (p : Past) (s : Plain) (e : SideId) (x : Part) (z : SideId) → NeedsLive s e x → (is_live s z ≡ true) ⊎
    ((flow_at (do_part g p e x s) z).moved ≡ (flow_at s z).moved)
part-moved g p s e Part.Hold z h = inr (hold-kept (λ f. f.moved) runs-moved g p e s z)
part-moved g p s e Part.Read z h = inr (read-kept (λ f. f.moved) runs-moved g p e s z)
part-moved g p s e Part.Move z h = go (same_end z e) refl
  where
    go : (q : Bool) → same_end z e ≡ q → (is_live s z ≡ true) ⊎ ((flow_at (do_part g p e Part.Move s) z).moved ≡ (flow_at s z).moved)
    go true q = inl (ap (λ w. is_live s w) (same_end-eq z e q) ∙ h)
    go false q = inr (ap (λ f. f.moved) (get_or-set_other s.flows (number e) (number z) (with_moved (read_filter g s e) (p.read e)
        (flow_at s e)) no_flow (number-apart z e q)))
part-moved g p s e Part.Write z h = inr (write-kept (λ f. f.moved) runs-moved g p e s z)
part-moved g p s e Part.Drain z h = inr (write_run-kept (λ f. f.moved) runs-moved g p e s false z)

pub quiet-given : (g : Settings) (t : Trace) (s : Plain) (x : Stage) (new : State) (z : SideId) → QuietKind g t s x new →
    (flow_at new.plain z).given ≡ (flow_at s z).given
quiet-given g t s x new z (QuietKind.moved next a) = refl
quiet-given g t s x new z (QuietKind.filtered {e = e}) = got-kept (λ f. f.given) runs-given g (past g t) e s z
quiet-given g t s x new z (QuietKind.dispatched) = refl
quiet-given g t s x new z (QuietKind.passed {x = p} {e = e}) = part-given g (past g t) s e p z
quiet-given g t s x new z (QuietKind.closes) = refl
quiet-given g t s x new z (QuietKind.looked a) = refl
quiet-given g t s x new z (QuietKind.over) = refl

quiet-moved : (g : Settings) (t : Trace) (s : Plain) (x : Stage) (new : State) (z : SideId) → PartsLive x s → QuietKind g t s x new
    → (is_live s z ≡ true) ⊎ ((flow_at new.plain z).moved ≡ (flow_at s z).moved)
quiet-moved g t s x new z parts (QuietKind.moved next a) = inr refl
quiet-moved g t s x new z parts (QuietKind.filtered {e = e}) = inr (got-kept (λ f. f.moved) runs-moved g (past g t) e s z)
quiet-moved g t s x new z parts (QuietKind.dispatched) = inr refl
quiet-moved g t s x new z parts (QuietKind.passed {x = p} {e = e}) = part-moved g (past g t) s e p z parts.0
quiet-moved g t s x new z parts (QuietKind.closes) = inr refl
quiet-moved g t s x new z parts (QuietKind.looked a) = inr refl
quiet-moved g t s x new z parts (QuietKind.over) = inr refl

-- What an entry tells

abbrev AllAre : ℕ → List ℕ → Type 0
AllAre n xs = All (λ told. told ≡ n) xs

none-told : (n : ℕ) (xs : List ℕ) → xs ≡ [] → AllAre n xs
none-told n xs h = λ k d lt. absurd (let z : length xs ≡ 0 = ap length h in omega arith)

one-told : (gone e : SideId) (n : SideId → ℕ) → AllAre (n e) (if same_end gone e then n gone ∷ [] else [])
one-told gone e n = go (same_end gone e) refl
  where
    go : (q : Bool) → same_end gone e ≡ q → AllAre (n e) (if q then n gone ∷ [] else [])
    go true q zero d lt = ap n (same_end-eq gone e q)
    go true q (suc k) d lt = absurd (omega arith)
    go false q k d lt = absurd (omega arith)

closed-told : (g : Settings) (p : Past) (s : Plain) (c : CloseStep) (y : Entry) (e : SideId) → ClosedKind g p s c y →
    AllAre (flow_at s e).moved (told_moved_by e (y, [])) × AllAre (flow_at s (peer e)).given (told_given_by e (y, []))
closed-told g p s c y e (ClosedKind.faulty {z = z} a b) = (
  one-told z e (λ v. (flow_at s v).moved),
  one-told z e
      (λ v. (flow_at s (peer v)).given),
)
closed-told g p s c y e (ClosedKind.write_ended a b) = (none-told _ [] refl, none-told _ [] refl)
closed-told g p s c y e (ClosedKind.in_done {k = k} a b d f) = (
  one-told (record { link = k; side = In }) e
      (λ v. (flow_at s v).moved),
  one-told (record { link = k; side = In }) e (λ v. (flow_at s (peer v)).given),
)
closed-told g p s c y e (ClosedKind.out_done {k = k}) = (
  one-told (record { link = k; side = Out }) e (λ v. (flow_at s v).moved),
  one-told (record { link = k; side = Out }) e (λ v. (flow_at s (peer v)).given),
)
closed-told g p s c y e (ClosedKind.peer_gone {z = z} a b d) = (
  one-told z e (λ v. (flow_at s v).moved),
  one-told z e
      (λ v. (flow_at s (peer v)).given),
)
closed-told g p s c y e (ClosedKind.shut a b) = (none-told _ [] refl, none-told _ [] refl)

pub put-told : (g : Settings) (t : Trace) (s : Plain) (x : Stage) (y : Event) (new : State) (e : SideId) → PutKind g t s x y new →
    AllAre (flow_at s e).moved (told_moved_by e y) × AllAre (flow_at s (peer e)).given (told_given_by e y)
put-told g t s x y new e (PutKind.turned a b) = (none-told _ [] refl, none-told _ [] refl)
put-told g t s x y new e (PutKind.polled) = (none-told _ [] refl, none-told _ [] refl)
put-told g t s x y new e (PutKind.wanted a) = (none-told _ [] refl, none-told _ [] refl)
put-told g t s x y new e (PutKind.poll_failed) = (none-told _ [] refl, none-told _ [] refl)
put-told g t s x y new e (PutKind.readied a) = (none-told _ [] refl, none-told _ [] refl)
put-told g t s x y new e (PutKind.opened) = (none-told _ [] refl, none-told _ [] refl)
put-told g t s x y new e (PutKind.checked a) = (none-told _ [] refl, none-told _ [] refl)
put-told g t s x y new e (PutKind.was_read left a b) = (none-told _ [] refl, none-told _ [] refl)
put-told g t s x y new e (PutKind.written a b c) = (none-told _ [] refl, none-told _ [] refl)
put-told g t s x y new e (PutKind.fired a) = (none-told _ [] refl, none-told _ [] refl)
put-told g t s x y new e (PutKind.frees a same) = (none-told _ [] refl, none-told _ [] refl)
put-told g t s x y new e (PutKind.asked same m l) = (none-told _ [] refl, none-told _ [] refl)
put-told g t s x y new e (PutKind.recorded {gone = z}) = (
  one-told z e (λ v. (flow_at s v).moved),
  one-told z e
      (λ v. (flow_at s (peer v)).given),
)
put-told g t s x y new e (PutKind.closed {c = c} {e = y1} a) = closed-told g (past g t) s c y1 e (closed-kind g (past g t) s c y1 a)

-- what was given to a side stays, or the side lives and its end takes some
written-given : (g : Settings) (p : Past) (s : Plain) (side : SideId) (answer : WriteAnswer) (e : SideId) → is_live s side ≡ true →
    (is_live s e ≡ true) ⊎ ((flow_at (after_write g p side answer s) (peer e)).given ≡ (flow_at s (peer e)).given)
written-given g p s side (write.Took n) e live = go (same_end side e) refl
  where
    x : Flow
    x = record (flow_at s (peer side)) { given = (flow_at s (peer side)).given + n }

    before : Plain
    before = change_side side (active_at s.time dir.Write) (change_flow (peer side) (λ f. record f { given = f.given + n }) s)

    apart : same_end side e ≡ false → (q : Bool) → same_end (peer e) (peer side) ≡ q → same_end (peer e) (peer side) ≡ false
    apart h false q = q
    apart h true q = absurd (
        let same : e ≡ side = sym (peer-peer e) ∙ ap peer (same_end-eq (peer e) (peer side) q) ∙ peer-peer side in
        let yes : same_end side e ≡ true = ap (λ v. same_end side v) same ∙ same_end-refl side in cc)

    go : (q : Bool) → same_end side e ≡ q → (is_live s e ≡ true) ⊎
        ((flow_at (after_write g p side (write.Took n) s) (peer e)).given ≡ (flow_at s (peer e)).given)
    go true q = inl (ap (λ v. is_live s v) (sym (same_end-eq side e q)) ∙ live)
    go false q = inr (
        ap (λ flows. (slice_index_or flows (number (peer e)) no_flow).given) (ap (λ z. z.flows) (raised_write g p side before).1)
        ∙ ap (λ f. f.given) (get_or-set_other s.flows (number (peer side)) (number (peer e)) x no_flow
        (number-apart (peer e) (peer side) (apart q (same_end (peer e) (peer side)) refl))))
written-given g p s side write.NotYet e live = inr refl
written-given g p s side write.Failed e live =
    inr (ap (λ flows. (slice_index_or flows (number (peer e)) no_flow).given) (ap (λ z. z.flows)
    (raised g side (happened dir.Write error_flag) (change_side side (λ x. record x { failed = true; writes = false }) s)).1))
written-given g p s side write.NoMemory e live = inr refl

flows-given : {xs ys : List Flow} → ys ≡ xs → (e : SideId) → (slice_index_or ys (number e) no_flow).given ≡
    (slice_index_or xs (number e) no_flow).given
flows-given h e = ap (λ z. (slice_index_or z (number e) no_flow).given) h

put-given : (g : Settings) (t : Trace) (s : Plain) (x : Stage) (y : Event) (new : State) (e : SideId) → PutKind g t s x y new →
    ((is_live s e ≡ true) × (freed_by e y ≡ false)) ⊎ ((flow_at new.plain (peer e)).given ≡ (flow_at s (peer e)).given)
put-given g t s x y new e (PutKind.turned {ms = ms} a b) = inr
    (flows-given (time-flows g (past g (t ++ (entry.Turn ms, []) ∷ [])) (turned_to ms s)) (peer e))
put-given g t s x y new e (PutKind.polled) = inr refl
put-given g t s x y new e (PutKind.wanted a) = inr refl
put-given g t s x y new e (PutKind.poll_failed) = inr refl
put-given g t s x y new e (PutKind.readied a) = inr refl
put-given g t s x y new e (PutKind.opened) = inr (ap (λ f. f.given) (default-same s.flows (number (peer e))))
put-given g t s x y new e (PutKind.checked {side = side} {answer = answer} a) = inr (flows-given (conn-flows g side answer s) (peer e))
put-given g t s x y new e (PutKind.was_read {side = side} {answer = answer} left a b) = inr
    (flows-given (read-flows g side answer s) (peer e))
put-given g t s x y new e (PutKind.written {side = side} {answer = answer} a b c) = go (written-given g (past g t) s side answer e
    (may_write-live s side a))
  where
    go : (is_live s e ≡ true) ⊎ ((flow_at (after_write g (past g t) side answer s) (peer e)).given ≡ (flow_at s (peer e)).given) →
        ((is_live s e ≡ true) × (false ≡ false)) ⊎ ((flow_at (after_write g (past g t) side answer s) (peer e)).given ≡
        (flow_at s (peer e)).given)
    go (inl k) = inl (k, refl)
    go (inr k) = inr k
put-given g t s x y new e (PutKind.fired a) = inr refl
put-given g t s x y new e (PutKind.frees a same) = inr refl
put-given g t s x y new e (PutKind.asked {after = after} same m l) = inr (flows-given l (peer e))
put-given g t s x y new e (PutKind.recorded) = inr refl
put-given g t s x y new e (PutKind.closed {c = c} a) = inr (flows-given (closed-flows c s) (peer e))

-- The law

put-free_told : (g : Settings) (t : Trace) (s : Plain) (x : Stage) (y : Event) (new : State) (e : SideId) →
    (is_live s e ≡ true → is_freed e t ≡ false) → PutKind g t s x y new → FreesTell t s e → FreesTell (t ++ y ∷ []) new.plain e
put-free_told g t s x y new e unfreed k h = record {
  moved =
      subst (λ n. AllAre n (moved_at_free e (t ++ y ∷ []))) (sym (ap (λ z. z.moved) (put-stations g t s x y new k e)))
      (subst (λ xs. AllAre (flow_at s e).moved xs) (sym (moved_at_free-push e t y)) (All-append
      (λ told. told ≡ (flow_at s e).moved) (moved_at_free e t) (told_moved_by e y) h.moved (put-told g t s x y new e k).0));
  given = go (put-given g t s x y new e k);
}
  where
    go : ((is_live s e ≡ true) × (freed_by e y ≡ false)) ⊎ ((flow_at new.plain (peer e)).given ≡ (flow_at s (peer e)).given) →
        AllAre (flow_at new.plain (peer e)).given (given_at_free e (t ++ y ∷ []))
    go (inl a) = none-told _ _ (given-untold e (t ++ y ∷ []) (list_any-push (freed_by e) t y ∙ or_from (is_freed e t)
        (freed_by e y) (unfreed a.0) a.1))
    go (inr a) =
        subst (λ n. AllAre n (given_at_free e (t ++ y ∷ []))) (sym a)
        (subst (λ xs. AllAre (flow_at s (peer e)).given xs) (sym (given_at_free-push e t y))
        (All-append (λ told. told ≡ (flow_at s (peer e)).given) (given_at_free e t) (told_given_by e y) h.given
        (put-told g t s x y new e k).1))

quiet-free_told : (g : Settings) (t : Trace) (s : Plain) (x : Stage) (new : State) (e : SideId) →
    (is_live s e ≡ true → is_freed e t ≡ false) → PartsLive x s → QuietKind g t s x new → FreesTell t s e → FreesTell t new.plain e
quiet-free_told g t s x new e unfreed parts k h = record {
  moved = go (quiet-moved g t s x new e parts k);
  given = subst (λ n. AllAre n (given_at_free e t)) (sym (quiet-given g t s x new (peer e) k)) h.given;
}
  where
    go : (is_live s e ≡ true) ⊎ ((flow_at new.plain e).moved ≡ (flow_at s e).moved) → AllAre (flow_at new.plain e).moved (moved_at_free e t)
    go (inl a) = none-told _ _ (moved-untold e t (unfreed a))
    go (inr a) = subst (λ n. AllAre n (moved_at_free e t)) (sym a) h.moved

pub parts-live : (g : Settings) (t : Trace) (s : State) → Reaches g t s → PartsLive s.stage s.plain
parts-live g t s (Reaches.begins) = tt
parts-live g t new (Reaches.goes {t = u} {s = old} r h) = quiet-parts g u old.stage old.plain new (parts-live g u old r) h
parts-live g t new (Reaches.puts {t = u} {s = old} e bytes r h) = put-parts g u old.plain old.stage (e, bytes) new
    (put-kind g u old.stage old.plain e bytes new (kept g u old r).placed h)

frees-told : (g : Settings) (t : Trace) (s : State) (e : SideId) → Reaches g t s → FreesTell t s.plain e
frees-told g t s e (Reaches.begins) = record { moved = none-told _ [] refl; given = none-told _ [] refl }
frees-told g t new e (Reaches.goes {t = u} {s = old} r h) =
    quiet-free_told g u old.plain old.stage new e (live-unfreed g u old.stage old.plain (kept g u old r) e) (parts-live g u old r)
    (quiet-kind g u old.stage old.plain new h) (frees-told g u old e r)
frees-told g t new e (Reaches.puts {t = u} {s = old} y bytes r h) =
    let c = kept g u old r in
    put-free_told g u old.plain old.stage (y, bytes) new e (live-unfreed g u old.stage old.plain c e)
    (put-kind g u old.stage old.plain y bytes new c.placed h) (frees-told g u old e r)

pub frees_tell_totals : FreesTellTotals
frees_tell_totals g t x s e r = frees-told g t (record { stage = x; plain = s }) e r
