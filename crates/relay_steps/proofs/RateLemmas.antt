-- Buckets go on fitting where limits, groups, the time and the turns of a trace are as they were, and as a link opens.
use Rattle.std.proofs.Common.{◌≡◌, ℕ, ◌*◌, Bool, if◌then◌else◌, List, [], ◌∷◌, ◌++◌, refl, sym, ◌∙◌, ap, subst}
use Rattle.std.proofs.lemmas.List.{map-append}
use Rattle.token_bucket.specs.declared.limit.Dir.{Dir}
use Rattle.token_bucket.specs.declared.limit.Dir.TheVariants as dir
use Rattle.ev_types.specs.declared.side.Side.TheVariants.{In}
use Rattle.ev_types.specs.declared.side.SideId.{SideId}
use Rattle.ev_types.specs.declared.entry.Entry.TheVariants as entry
use Rattle.ev_types.specs.Sides.{peer}
use Rattle.ev_types.specs.Trace.{Event, Trace}
use Rattle.relay_model.specs.Settings.{Settings}
use Rattle.relay_model.specs.Plain.{Plain, PlainSide, side_at, is_live, put_flow, change_side}
use Rattle.relay_model.specs.Groups.{same_group, group_after, beat_among, beats_among, group_spells}
use Rattle.relay_model.specs.RatesKept.{bytes_of}
use Rattle.relay_model.specs.Rates.{moved_by, beat_of, side_spells}
use Rattle.token_bucket.specs.Spells.{Begins, Moves, spells}
use Rattle.relay_model.proofs.PastLemmas.{either_zero, beats_among-push}
use Rattle.relay_model.proofs.Frames.{rates_of}
use Rattle.relay_model.proofs.KeepsLemmas.{Keeps, Keeps-trans, Keeps-put, Keeps-flow}
use Rattle.relay_state.specs.Passage.{Passage}
use Rattle.relay_state.specs.Passing.{with_bad, plain_passed}
use Rattle.relay_state.specs.Running.{Gauge}
use Rattle.relay_state.specs.State.{gauge_in}
use Rattle.relay_steps.specs.Gauges.{beats, BucketFits, Gauged}
use Rattle.relay_steps.proofs.GaugeSteps.{bucket-same}
use Rattle.relay_steps.proofs.RunSteps.{none-step}

-- an event by which nothing is moved at a side, and no turn begins
abbrev pub Moveless : Event → Type 0
Moveless v = (e : SideId) → (beat_of e dir.Read v ≡ Moves 0) × (beat_of e dir.Write v ≡ Moves 0)

pub beat-none : (v : Event) → Moveless v → (e : SideId) (d : Dir) → beat_of e d v ≡ Moves 0
beat-none v h e dir.Read = (h e).0
beat-none v h e dir.Write = (h e).1

pub spells-none : (t : Trace) (v : Event) → Moveless v → (e : SideId) (d : Dir) → side_spells e d (t ++ v ∷ []) ≡ side_spells e d t
spells-none t v h e d =
    ap spells (map-append (beat_of e d) t (v ∷ []) ∙ ap (λ z. beats e d t ++ z ∷ []) (beat-none v h e d)) ∙ none-step (beats e d t)

-- what an event is to groups, by which nothing is moved at a side, and no turn begins
among-none : (g : Settings) (n : ℕ) (d : Dir) (t : Trace) (v : Event) → Moveless v → beat_among g n d t v ≡ Moves 0
among-none g n d t (entry.Turn ms, bytes) h =
    absurd (let bad : Begins ms ≡ Moves 0 = (h (record { link = 0; side = In })).0 in cc)
among-none g n d t (entry.Read side room answer, bytes) h =
    let v : Event = (entry.Read side room answer, bytes) in
    let b : Bool = same_group (group_after g side t) n in
    let none : moved_by side d v ≡ 0 = ap bytes_of (beat-none v h side d) in
    ap (λ z. Moves (if b then z else 0)) none ∙ ap Moves (either_zero b)
among-none g n d t (entry.Write side offered answer, bytes) h =
    let v : Event = (entry.Write side offered answer, bytes) in
    let b : Bool = same_group (group_after g side t) n in
    let none : moved_by side d v ≡ 0 = ap bytes_of (beat-none v h side d) in
    ap (λ z. Moves (if b then z else 0)) none ∙ ap Moves (either_zero b)
among-none g n d t _ h = refl

-- all buckets see the same turns in both traces
pub record SameTurns (t u : Trace) : Type 0 where
  pub sides : (e : SideId) (d : Dir) → side_spells e d u ≡ side_spells e d t
  pub groups : (g : Settings) (n : ℕ) (d : Dir) → group_spells g n d u ≡ group_spells g n d t

pub turns-same : (t : Trace) → SameTurns t t
turns-same t = record { sides = λ e d. refl; groups = λ g n d. refl }

pub turns-none : (t : Trace) (v : Event) → Moveless v → SameTurns t (t ++ v ∷ [])
turns-none t v h = record {
  sides = spells-none t v h;
  groups = λ g n d.
      ap spells (beats_among-push g n d [] t v ∙ ap (λ z. beats_among g n d [] t ++ z ∷ []) (among-none g n d t v h))
      ∙ none-step (beats_among g n d [] t);
}

-- where sides are as live, rates, links and the time as they were
pub record SameGauged (p q : Plain) : Type 0 where
  pub opened : q.opened ≡ p.opened
  pub time : q.time ≡ p.time
  pub rates : (a : SideId) → rates_of (side_at q a) ≡ rates_of (side_at p a)
  pub live : (a : SideId) → is_live q a ≡ is_live p a

pub gauged-same : (t u : Trace) (p q : Plain) (xs : List Gauge) → SameGauged p q → SameTurns t u → Gauged t p xs →
    Gauged u q xs
gauged-same t u p q xs same told k = record {
  many = k.many ∙ ap (λ n. 2 * n) (sym same.opened);
  each = λ e y is d.
      subst (λ z. BucketFits u z y e (gauge_of e) d) (sym same.time)
      (bucket-same t u p.time y e (gauge_of e) d (told.sides e d) (k.each e y (sym (ap (λ z. z.0) (same.rates e)) ∙ is) d));
}
  where
    gauge_of : SideId → Gauge
    gauge_of e = gauge_in xs e

-- passing leaves who is live
abbrev pub live_of : PlainSide → Bool
live_of x = x.live

pub passed-live : (e : SideId) (x : Passage) (p : Plain) → Keeps live_of p (plain_passed e x p)
passed-live e x p =
    let a : Plain = put_flow e x.flow p in
    let b : Plain = change_side e (with_bad x.from_bad) a in
    Keeps-trans live_of p a _ (Keeps-flow live_of e x.flow p)
    (Keeps-trans live_of a b _ (Keeps-put live_of e (with_bad x.from_bad (side_at a e)) a refl)
    (Keeps-put live_of (peer e) (with_bad x.to_bad (side_at b (peer e))) b refl))

-- passing leaves limits and groups
pub passed-rates : (e : SideId) (x : Passage) (p : Plain) → Keeps rates_of p (plain_passed e x p)
passed-rates e x p =
    let a : Plain = put_flow e x.flow p in
    let b : Plain = change_side e (with_bad x.from_bad) a in
    Keeps-trans rates_of p a _ (Keeps-flow rates_of e x.flow p)
    (Keeps-trans rates_of a b _ (Keeps-put rates_of e (with_bad x.from_bad (side_at a e)) a refl)
    (Keeps-put rates_of (peer e) (with_bad x.to_bad (side_at b (peer e))) b refl))
