-- Bytes are moved at a side that is served: its bucket is spent, and all others go on as they were.
use Rattle.std.proofs.Common.{◌≡◌, ◌≢◌, ℕ, ◌<◌, ◌*◌, Some, [], ◌∷◌, ◌++◌, length, refl, sym, ◌∙◌, ap, subst, arith, inl, inr}
use Rattle.std.proofs.lemmas.Bool.Decides.{eqb_tells}
use Rattle.std.proofs.lemmas.List.{length-set, get_or-set_same, get_or-set_other}
use Rattle.token_bucket.specs.declared.limit.Dir.{Dir}
use Rattle.token_bucket.specs.declared.limit.Dir.TheVariants as dir
use Rattle.ev_types.specs.declared.side.SideId.{SideId}
use Rattle.ev_types.specs.Sides.{number}
use Rattle.ev_types.specs.Trace.{Event, Trace}
use Rattle.relay_model.specs.Plain.{Plain, Standing, side_at}
use Rattle.relay_model.specs.Rates.{beat_of, side_spells}
use Rattle.token_bucket.specs.Spells.{Moves}
use Rattle.token_bucket.specs.Levels.{limit_of}
use Rattle.relay_state.specs.State.{State, gauge_in, gauge_at, gauges_after}
use Rattle.relay_state.specs.Running.{Gauge, no_gauge, short_at, brought, spent_by, gauge_after}
use Rattle.relay_steps.specs.Gauges.{BucketFits, Gauged}
use Rattle.relay_steps.proofs.EndLemmas.{number-same, number-apart, number-below}
use Rattle.relay_steps.proofs.GaugeSteps.{bucket-silent, bucket-moved, fresh-short}
use Rattle.relay_steps.proofs.RateLemmas.{SameGauged}

-- what an event moves at a side in one direction, and nothing else anywhere
pub record MovesAt (e : SideId) (d : Dir) (n : ℕ) (v : Event) : Type 0 where
  pub own : beat_of e d v ≡ Moves n
  pub across : (f : Dir) → f ≢ d → beat_of e f v ≡ Moves 0
  pub others : (a : SideId) → a ≢ e → (f : Dir) → beat_of a f v ≡ Moves 0

-- a gauge that is brought up to date fits as it did
fits-brought : (t : Trace) (time : ℕ) (y : Standing) (e : SideId) (x : Gauge) (d : Dir) → BucketFits t time y e x d →
    BucketFits t time y e (brought y.cfg time x) d
fits-brought t time y e x d k = record {
  short = same d ∙ k.short;
  turn = k.turn;
  held = k.held;
  ascend = k.ascend;
  ticks = k.ticks;
  kept = omega arith;
}
  where
    same : (d : Dir) → short_at y.cfg (brought y.cfg time x) d time ≡ short_at y.cfg x d time
    same dir.Read = fresh-short (limit_of y.cfg dir.Read) time (short_at y.cfg x dir.Read time)
    same dir.Write = fresh-short (limit_of y.cfg dir.Write) time (short_at y.cfg x dir.Write time)

-- the bucket of the other direction isn't spent
fits-across : (u : Trace) (time : ℕ) (y : Standing) (e : SideId) (x : Gauge) (d f : Dir) (n : ℕ) → f ≢ d → BucketFits u time y e x f →
    BucketFits u time y e (spent_by d n x) f
fits-across u time y e x dir.Read dir.Read n apart k = absurd (apart refl)
fits-across u time y e x dir.Read dir.Write n apart k =
    record { short = k.short; turn = k.turn; held = k.held; ascend = k.ascend; ticks = k.ticks; kept = k.kept }
fits-across u time y e x dir.Write dir.Read n apart k =
    record { short = k.short; turn = k.turn; held = k.held; ascend = k.ascend; ticks = k.ticks; kept = k.kept }
fits-across u time y e x dir.Write dir.Write n apart k = absurd (apart refl)

module _ (t : Trace) (v : Event) (n : ℕ) (e : SideId) (d : Dir) (s : State) (moves : MovesAt e d n v) where
  fits-spent : (y : Standing) (x : Gauge) → y.turn < length (side_spells e d t) → BucketFits t s.plain.time y e x d →
      BucketFits (t ++ v ∷ []) s.plain.time y e (spent_by d n (brought y.cfg s.plain.time x)) d
  fits-spent y x before k =
      bucket-moved t v n s.plain.time y e (brought y.cfg s.plain.time x) d moves.own before refl (fits-brought t s.plain.time y e x d k)

  fits-both : (f : Dir) (y : Standing) (x : Gauge) → y.turn < length (side_spells e d t) →
      ((f : Dir) → BucketFits t s.plain.time y e x f) → f ≢ d →
      BucketFits (t ++ v ∷ []) s.plain.time y e (spent_by d n (brought y.cfg s.plain.time x)) f
  fits-both f y x before k apart =
      fits-across (t ++ v ∷ []) s.plain.time y e (brought y.cfg s.plain.time x) d f n apart
      (bucket-silent t v s.plain.time y e (brought y.cfg s.plain.time x) f (moves.across f apart)
      (fits-brought t s.plain.time y e x f (k f)))

  either : (f : Dir) (y : Standing) (x : Gauge) → y.turn < length (side_spells e d t) → ((f : Dir) → BucketFits t s.plain.time y e x f) →
      BucketFits (t ++ v ∷ []) s.plain.time y e (spent_by d n (brought y.cfg s.plain.time x)) f
  either f y x before k = by_dir f d refl refl
    where
      by_dir : (a b : Dir) → f ≡ a → d ≡ b → BucketFits (t ++ v ∷ []) s.plain.time y e (spent_by d n (brought y.cfg s.plain.time x)) f
      by_dir dir.Read dir.Read p q = same (p ∙ sym q)
        where
          same : f ≡ d → BucketFits (t ++ v ∷ []) s.plain.time y e (spent_by d n (brought y.cfg s.plain.time x)) f
          same h =
              subst (BucketFits (t ++ v ∷ []) s.plain.time y e (spent_by d n (brought y.cfg s.plain.time x))) (sym h)
              (fits-spent y x before (k d))
      by_dir dir.Write dir.Write p q =
          subst (BucketFits (t ++ v ∷ []) s.plain.time y e (spent_by d n (brought y.cfg s.plain.time x))) (sym (p ∙ sym q))
          (fits-spent y x before (k d))
      by_dir dir.Read dir.Write p q = fits-both f y x before k (λ h. let bad : dir.Read ≡ dir.Write = sym p ∙ h ∙ q in absurd (cc))
      by_dir dir.Write dir.Read p q = fits-both f y x before k (λ h. let bad : dir.Write ≡ dir.Read = sym p ∙ h ∙ q in absurd (cc))

  -- All buckets fit behind it, where the side's limit was set before this turn.
  pub moved-gauged : (q : Plain) → SameGauged s.plain q → e.link < s.plain.opened →
      ((y : Standing) → (side_at s.plain e).limit ≡ Some y → y.turn < length (side_spells e d t)) →
      Gauged t s.plain s.gauges → Gauged (t ++ v ∷ []) q (gauges_after e d n s)
  moved-gauged q same lt before k = record {
    many = length-set s.gauges (number e) after ∙ k.many ∙ ap (λ m. 2 * m) (sym same.opened);
    each = λ a y is f.
        subst (λ z. BucketFits (t ++ v ∷ []) z y a (gauge_in (gauges_after e d n s) a) f) (sym same.time)
        (at_side a y (sym (ap (λ z. z.0) (same.rates a)) ∙ is) f);
  }
    where
      after : Gauge
      after = gauge_after (side_at s.plain e).limit s.plain.time d n (gauge_at s e)

      here : gauge_in (gauges_after e d n s) e ≡ after
      here = get_or-set_same s.gauges (number e) after no_gauge (let m = k.many in omega (arith, m, number-below e s.plain.opened lt))

      own : (y : Standing) → (side_at s.plain e).limit ≡ Some y → (f : Dir) →
          BucketFits (t ++ v ∷ []) s.plain.time y e (gauge_in (gauges_after e d n s) e) f
      own y is f =
          subst (λ z. BucketFits (t ++ v ∷ []) s.plain.time y e z f)
          (sym (here ∙ ap (λ o. gauge_after o s.plain.time d n (gauge_at s e)) is))
          (either f y (gauge_at s e) (before y is) (k.each e y is))

      at_side : (a : SideId) (y : Standing) → (side_at s.plain a).limit ≡ Some y → (f : Dir) →
          BucketFits (t ++ v ∷ []) s.plain.time y a (gauge_in (gauges_after e d n s) a) f
      at_side a y is f = elim (eqb_tells (number a) (number e)) [
        | inl same ↦
            let one : a ≡ e = number-same a e same.1 in
            subst (λ z. BucketFits (t ++ v ∷ []) s.plain.time y z (gauge_in (gauges_after e d n s) z) f) (sym one)
            (own y (subst (λ z. (side_at s.plain z).limit ≡ Some y) one is) f)
        | inr apart ↦
            let away : a ≢ e = λ h. apart.1 (ap number h) in
            subst (λ z. BucketFits (t ++ v ∷ []) s.plain.time y a z f)
            (sym (get_or-set_other s.gauges (number e) (number a) after no_gauge (number-apart a e away)))
            (bucket-silent t v s.plain.time y a (gauge_at s a) f (moves.others a away f) (k.each a y is f))
      ]
