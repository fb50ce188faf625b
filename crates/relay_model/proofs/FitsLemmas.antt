-- The counts of every direction fit, by induction over the steps.
use Rattle.std.proofs.Common.{◌≡◌, ℕ, ◌≤◌, Bool, true, false, ◌||◌, if◌then◌else◌, List, [], ◌∷◌, ◌++◌, length, take, ◌⊎◌, inl, inr, refl}
use Rattle.std.proofs.Common.{sym, ◌∙◌, ap, subst, arith, slice_index_or, append-nil}
use Rattle.std.proofs.lemmas.Bool.{not-true}
use Rattle.ev_types.specs.declared.side.SideId.{SideId}
use Rattle.ev_types.specs.Sides.{peer, number}
use Rattle.ev_types.specs.Trace.{Event, Trace}
use Rattle.relay_model.specs.Trace.{bytes_read, has_ended}
use Rattle.relay_model.specs.Settings.{Settings}
use Rattle.filter_model.specs.Filter.{Filter, filter_of}
use Rattle.filter_model.specs.FilterLaws.{PrefixLaw}
use Rattle.relay_model.specs.Flow.{Flow, Fits, no_flow, outcome, raw_output}
use Rattle.relay_model.specs.Conserved.{Accounted}
use Rattle.relay_model.specs.Plain.{Plain, side_at, flow_at, change_flow}
use Rattle.relay_model.specs.Past.{past}
use Rattle.relay_model.specs.Rooms.{read_kind, write_kind, read_filter, write_filter, read_mark, hold_mark, raw_output_at}
use Rattle.relay_model.specs.Pass.{with_held, with_used, with_read_done, with_moved, with_turned, with_write_done}
use Rattle.relay_model.specs.Round.{Part, do_part, read_run, write_run}
use Rattle.relay_model.specs.Stages.{Stage, State}
use Rattle.relay_model.specs.Turn.{Reaches}
use Rattle.relay_model.specs.Fitting.{CountsFit}
use Rattle.relay_model.proofs.EndLemmas.{number-eq, peer-peer, same_end-refl}
use Rattle.filter_model.proofs.EveryFilter.{every_filter}
use Rattle.relay_model.proofs.KeepsLemmas.{raised_read}
use Rattle.relay_model.proofs.PlacedLemmas.{may_read-parts}
use Rattle.relay_model.proofs.PlainLemmas.{flow_at-change}
use Rattle.relay_model.proofs.TraceLemmas.{bytes_read-push, has_ended-push}
use Rattle.relay_model.proofs.KindLemmas.{put-kind}
use Rattle.relay_model.proofs.FireLemmas.{QuietKind, quiet-kind}
use Rattle.relay_model.proofs.ToldLemmas.{kept}
use Rattle.relay_model.proofs.BadSteps.{ended-is}
use Rattle.relay_model.proofs.ConservedSteps.{accounted-got, accounted-ended, accounted-given}
use Rattle.relay_model.proofs.PassKeeps.{used-keeps, read_done-keeps, moved-keeps, held-keeps, turned-keeps, write_done-keeps}
use Rattle.relay_model.proofs.FlowLemmas.{write_room-below, Takes, put-flow, ReadCase, put-read}

-- counts that fit account for what they themselves say was given, where nothing was told
accounts : (r w : Filter) (e : SideId) (read : List ℕ) (ended : Bool) (f : Flow) → Fits r w read ended f →
    Accounted r w [] e read (take f.given (outcome r w read f)) ended f
accounts r w e read ended f h = record {
  fits = h;
  given = refl;
  side_freed = λ k d lt. absurd (omega arith);
  peer_freed = λ k d lt. absurd (omega arith);
  closed = λ c. absurd (cc);
}

abbrev pub Fit : Settings → Trace → SideId → Flow → Type 0
Fit g t e f = Fits (filter_of (read_kind g e.side)) (filter_of (write_kind g (peer e).side)) (bytes_read e t) (has_ended e t) f

abbrev pub AllFits : Settings → Trace → Plain → Type 0
AllFits g t s = (z : SideId) → Fit g t z (flow_at s z)

-- Silent steps

module _ (g : Settings) (t : Trace) (e : SideId) where
  abbrev r : Filter
  r = filter_of (read_kind g e.side)

  abbrev w : Filter
  w = filter_of (write_kind g (peer e).side)

  abbrev taken : Flow → List ℕ
  taken f = take f.given (outcome (filter_of (read_kind g e.side)) (filter_of (write_kind g (peer e).side)) (bytes_read e t) f)

  abbrev acc : (f : Flow) → Fit g t e f →
      Accounted (filter_of (read_kind g e.side)) (filter_of (write_kind g (peer e).side)) [] e (bytes_read e t)
      (take f.given (outcome (filter_of (read_kind g e.side)) (filter_of (write_kind g (peer e).side)) (bytes_read e t) f))
      (has_ended e t) f
  acc f h = accounts (filter_of (read_kind g e.side)) (filter_of (write_kind g (peer e).side)) e (bytes_read e t) (has_ended e t) f h

  law_r : PrefixLaw (filter_of (read_kind g e.side))
  law_r = (every_filter (read_kind g e.side)).prefix

  law_w : PrefixLaw (filter_of (write_kind g (peer e).side))
  law_w = (every_filter (write_kind g (peer e).side)).prefix

  change-fits : (change : Flow → Flow) (s : Plain) → (Fit g t e (flow_at s e) → Fit g t e (change (flow_at s e))) → AllFits g t s →
      AllFits g t (change_flow e change s)
  change-fits change s keeps h z = elim (flow_at-change e z change s) [
    | inl same ↦ subst (λ f. Fit g t z f) (sym same) (h z)
    | inr changed ↦
        subst (λ f. Fit g t z f) (sym changed.1)
        (subst (λ v. Fit g t v (change (flow_at s v))) (sym (number-eq z e changed.0)) (keeps (h e)))
  ]

  pub read_run-fits : (s : Plain) (ended : Bool) → AllFits g t s → AllFits g t (read_run g (past g t) e ended s)
  read_run-fits s ended h =
      change-fits (with_used (read_filter g s e) (bytes_read e t) (read_mark s e)) s
      (λ k. (used-keeps r w [] e _ _ _ (flow_at s e) (acc (flow_at s e) k) law_r (read_mark s e)).fits) h

  pub write_run-fits : (s : Plain) (may_end : Bool) → AllFits g t s → AllFits g t (write_run g (past g t) e may_end s)
  write_run-fits s may_end h =
      change-fits (with_turned (read_filter g s e) (write_filter g s (peer e)) (bytes_read e t) (hold_mark g s (peer e))) s
      (λ k. (turned-keeps r w [] e _ _ _ (flow_at s e) (acc (flow_at s e) k) law_w (hold_mark g s (peer e))).fits) h

  part-fits : (s : Plain) (x : Part) → (side_at s e).ended ≡ has_ended e t → AllFits g t s → AllFits g t (do_part g (past g t) e x s)
  part-fits s Part.Hold ended h =
      change-fits (with_held (read_filter g s e) (write_filter g s (peer e)) (bytes_read e t) (hold_mark g s (peer e))) s
      (λ k. (held-keeps r w [] e _ _ _ (flow_at s e) (acc (flow_at s e) k) (hold_mark g s (peer e))).fits) h
  part-fits s Part.Read ended h =
      let ran : Plain = read_run g (past g t) e (side_at s e).ended s in
      change-fits (with_read_done (read_filter g s e) (bytes_read e t) (read_mark s e) (side_at s e).ended) ran
      (λ k. subst (λ b. Fit g t e (with_read_done (read_filter g s e) (bytes_read e t) (read_mark s e) b (flow_at ran e))) (sym ended)
      (read_done-keeps r w [] e _ _ _ (flow_at ran e) (acc (flow_at ran e) k) law_r (read_mark s e)).fits)
      (read_run-fits s (side_at s e).ended h)
  part-fits s Part.Move ended h =
      change-fits (with_moved (read_filter g s e) (bytes_read e t)) s
      (λ k. (moved-keeps r w [] e _ _ _ (flow_at s e) (acc (flow_at s e) k) refl).fits) h
  part-fits s Part.Write ended h =
      let ran : Plain = write_run g (past g t) e true s in
      change-fits (with_write_done (read_filter g s e) (write_filter g s (peer e)) (bytes_read e t) (hold_mark g s (peer e))) ran
      (λ k. (write_done-keeps r w [] e _ _ _ (flow_at ran e) (acc (flow_at ran e) k) law_w (hold_mark g s (peer e))).fits)
      (write_run-fits s true h)
  part-fits s Part.Drain ended h = write_run-fits s false h

quiet-fits : (g : Settings) (t : Trace) (s : Plain) (x : Stage) (new : State) → ((z : SideId) → (side_at s z).ended ≡ has_ended z t) →
    QuietKind g t s x new → AllFits g t s → AllFits g t new.plain
quiet-fits g t s x new ended (QuietKind.moved next a) h z = h z
quiet-fits g t s x new ended (QuietKind.filtered {e = e}) h z =
    let k = raised_read g (past g t) e (read_run g (past g t) e false s) in
    subst (λ p. Fit g t z (slice_index_or p (number z) no_flow)) (sym (ap (λ p. p.flows) k.1)) (read_run-fits g t e s false h z)
quiet-fits g t s x new ended (QuietKind.dispatched) h z = h z
quiet-fits g t s x new ended (QuietKind.passed {x = p} {e = e}) h z = part-fits g t e s p (ended e) h z
quiet-fits g t s x new ended (QuietKind.closes) h z = h z
quiet-fits g t s x new ended (QuietKind.looked a) h z = h z
quiet-fits g t s x new ended (QuietKind.over) h z = h z

-- Entries

or_no : (b : Bool) → (b || false) ≡ b
or_no true = refl
or_no false = refl

or_yes : (b : Bool) → (b || true) ≡ true
or_yes true = refl
or_yes false = refl

-- what a trace of one event more tells
told : (g : Settings) (t : Trace) (y : Event) (e : SideId) (f : Flow) (xs : List ℕ) (b : Bool) → bytes_read e (t ++ y ∷ []) ≡ xs →
    has_ended e (t ++ y ∷ []) ≡ b → Fits (filter_of (read_kind g e.side)) (filter_of (write_kind g (peer e).side)) xs b f →
    Fit g (t ++ y ∷ []) e f
told g t y e f xs b p q h =
    subst (λ v. Fits (filter_of (read_kind g e.side)) (filter_of (write_kind g (peer e).side)) v (has_ended e (t ++ y ∷ [])) f) (sym p)
    (subst (λ v. Fits (filter_of (read_kind g e.side)) (filter_of (write_kind g (peer e).side)) xs v f) (sym q) h)

pub read-fits : (g : Settings) (t : Trace) (s : Plain) (y : Event) (e : SideId) (f : Flow) → (side_at s e).ended ≡ has_ended e t →
    ReadCase s e y →
    Fit g t e f → Fit g (t ++ y ∷ []) e f
read-fits g t s y e f ended (ReadCase.none a b) h =
    told g t y e f (bytes_read e t) (has_ended e t)
    (bytes_read-push e t y ∙ ap (λ z. bytes_read e t ++ z) a ∙ append-nil (bytes_read e t))
    (has_ended-push e t y ∙ ap (λ z. has_ended e t || z) b ∙ or_no (has_ended e t)) h
read-fits g t s y e f ended (ReadCase.got {bytes = bytes} may a b c) h =
    let open_still : has_ended e t ≡ false = sym ended ∙ not-true (side_at s e).ended (may_read-parts s e may).ended in
    told g t y e f (bytes_read e t ++ bytes) (has_ended e t)
    (bytes_read-push e t y ∙ ap (λ q. bytes_read e t ++ (if q then bytes else [])) (same_end-refl e))
    (has_ended-push e t y ∙ or_no (has_ended e t))
    (accounted-got (r g t e) (w g t e) [] e _ _ _ f (acc g t e f h) bytes open_still).fits
read-fits g t s y e f ended (ReadCase.ends may) h =
    let open_still : has_ended e t ≡ false = sym ended ∙ not-true (side_at s e).ended (may_read-parts s e may).ended in
    told g t y e f (bytes_read e t) true
    (bytes_read-push e t y ∙ append-nil (bytes_read e t))
    (has_ended-push e t y ∙ ap (λ b. has_ended e t || b) (same_end-refl e) ∙ or_yes (has_ended e t))
    (accounted-ended (r g t e) (w g t e) [] e _ _ _ f (acc g t e f h) open_still).fits

-- what an end takes is there
pub takes-within : (g : Settings) (t : Trace) (s : Plain) (y : Event) (new : Plain) (e : SideId) → (k : Takes g t s y new e) →
    k.n ≤ length (raw_output (read_filter g s e) (write_filter g s (peer e)) (bytes_read e t) (flow_at s e))
takes-within g t s y new e k =
    let out : SideId → ℕ = λ a. length (raw_output (read_filter g s a) (write_filter g s (peer e)) (bytes_read a t) (flow_at s a)) in
    let below = write_room-below g (past g t) s (peer e) in
    let same : length (raw_output_at g (past g t) s (peer e)) ≡ out e = ap out (peer-peer e) in
    let a = k.within in
    let b = k.room in
    omega arith

flow-fits : (g : Settings) (t : Trace) (s : Plain) (y : Event) (new : Plain) (e : SideId) →
    (flow_at new e ≡ flow_at s e) ⊎ Takes g t s y new e → Fit g t e (flow_at s e) → Fit g t e (flow_at new e)
flow-fits g t s y new e (inl same) h = subst (λ f. Fit g t e f) (sym same) h
flow-fits g t s y new e (inr k) h =
    subst (λ f. Fit g t e f) (sym k.flow)
    (accounted-given (r g t e) (w g t e) [] e _ _ _ (flow_at s e) (acc g t e (flow_at s e) h) k.n k.some
    (takes-within g t s y new e k) refl).fits

pub fits : (g : Settings) (t : Trace) (s : State) → Reaches g t s → AllFits g t s.plain
fits g t s (Reaches.begins) e = record {
  used = omega arith;
  moved = omega arith;
  turned = omega arith;
  given = omega arith;
  read_done = λ done. absurd (cc);
  write_done = λ done. absurd (cc);
}
fits g t new (Reaches.goes {t = u} {s = old} k h) e =
    quiet-fits g u old.plain old.stage new (ended-is g u old.stage old.plain (kept g u old k))
    (quiet-kind g u old.stage old.plain new h) (fits g u old k) e
fits g t new (Reaches.puts {t = u} {s = old} y bytes k h) e =
    let c = kept g u old k in
    let kind = put-kind g u old.stage old.plain y bytes new c.placed h in
    read-fits g u old.plain (y, bytes) e (flow_at new.plain e) (ended-is g u old.stage old.plain c e)
    (put-read g u old.plain old.stage (y, bytes) new kind e)
    (flow-fits g u old.plain (y, bytes) new.plain e (put-flow g u old.plain old.stage (y, bytes) new kind e) (fits g u old k e))

pub counts_fit : CountsFit
counts_fit g t s e r = fits g t s r e
