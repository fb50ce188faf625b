-- Where an event stands in a legal trace, what stands before it leads to a state in which it may be put.
use Rattle.std.proofs.Common.{◌≡◌, Bool, false, [], ◌∷◌, ◌++◌, ◌⊎◌, inl, inr, refl, sym, ap, subst}
use Rattle.std.specs.List.{list_any}
use Rattle.std.proofs.lemmas.Bool.{or_from}
use Rattle.ev_types.specs.Trace.{Event, Trace}
use Rattle.relay_model.specs.Settings.{Settings}
use Rattle.relay_model.specs.Stages.{State}
use Rattle.relay_model.specs.Turn.{Puts, Reaches}

-- an event of a trace with one more at its end is that one, or stands in the trace
pub record IsLast (t : Trace) (x : Event) (before : Trace) (y : Event) (after : Trace) : Type 0 where
  pub before_is : before ≡ t
  pub is : y ≡ x
  pub none_after : after ≡ []

pub record IsEarlier (t : Trace) (x : Event) (before : Trace) (y : Event) (after : Trace) : Type 0 where
  pub rest : Trace
  pub after_is : after ≡ rest ++ x ∷ []
  pub there : t ≡ before ++ y ∷ rest

pub pushed_split : (t : Trace) (x : Event) (before : Trace) (y : Event) (after : Trace) → t ++ x ∷ [] ≡ before ++ y ∷ after →
    IsLast t x before y after ⊎ IsEarlier t x before y after
pushed_split [] x [] y after h = inl (record { before_is = refl; is = cc; none_after = cc })
pushed_split [] x (b ∷ []) y after h = absurd (cc)
pushed_split [] x (b ∷ c ∷ bs) y after h = absurd (cc)
pushed_split (a ∷ t) x [] y after h =
    let head : a ≡ y = cc in
    let tail : t ++ x ∷ [] ≡ after = cc in
    inr (record { rest = t; after_is = sym tail; there = ap (λ z. z ∷ t) head })
pushed_split (a ∷ t) x (b ∷ bs) y after h = go (pushed_split t x bs y after cc)
  where
    go : IsLast t x bs y after ⊎ IsEarlier t x bs y after → IsLast (a ∷ t) x (b ∷ bs) y after ⊎ IsEarlier (a ∷ t) x (b ∷ bs) y after
    go (inl k) = inl (record { before_is = let head : a ≡ b = cc in let tail = k.before_is in cc; is = k.is; none_after = k.none_after })
    go (inr k) = inr (record { rest = k.rest; after_is = k.after_is; there = let head : a ≡ b = cc in let tail = k.there in cc })

-- the state behind which an event was put, and that after it
pub record PutThere (g : Settings) (before : Trace) (y : Event) : Type 0 where
  pub old : State
  pub new : State
  pub reached : Reaches g before old
  pub put : Puts g before old.stage old.plain y.0 y.1 new

pub reaches_split : (g : Settings) (t : Trace) (s : State) → Reaches g t s → (before : Trace) (y : Event) (after : Trace) → t ≡
    before ++ y ∷ after → PutThere g before y
reaches_split g t s (Reaches.begins) before y after h = absurd (none before h)
  where
    none : (b : Trace) → [] ≡ b ++ y ∷ after → ⊥
    none [] k = cc
    none (b ∷ bs) k = cc
reaches_split g t new (Reaches.goes {t = u} {s = old} r q) before y after h = reaches_split g u old r before y after h
reaches_split g t new (Reaches.puts {t = u} {s = old} e bytes r put) before y after h = go
    (λ rest k. reaches_split g u old r before y rest k) (pushed_split u (e, bytes) before y after h)
  where
    go : ((rest : Trace) → u ≡ before ++ y ∷ rest → PutThere g before y) → IsLast u (e, bytes) before y after ⊎ IsEarlier u
        (e, bytes) before y after → PutThere g before y
    go earlier (inl k) =
        subst (λ b. PutThere g b y) (sym k.before_is)
        (subst (λ z. PutThere g u z) (sym k.is) (record { old = old; new = new; reached = r; put = put }))
    go earlier (inr k) = earlier k.rest k.there

-- a test that no event passes, wherever it stands
pub none_from_splits : (p : Event → Bool) (t : Trace) → ((before : Trace) (y : Event) (after : Trace) → t ≡ before ++ y ∷ after → p
    y ≡ false) → list_any p t ≡ false
none_from_splits p [] h = refl
none_from_splits p (y ∷ t) h = or_from (p y) (list_any p t) (h [] y t refl) (none_from_splits p t
    (λ before z after k. h (y ∷ before) z after (ap (λ v. y ∷ v) k)))
