-- Sides and their numbers, and what one event at the end of a trace tells of an end.
use Rattle.std.proofs.Common.{◌≡◌, ◌≢◌, inl, inr, ℕ, ◌*◌, ◌<◌, ◌≤◌, Bool, true, false, ◌||◌, [], ◌∷◌, ◌++◌, refl, sym, ◌∙◌, ap, subst}
use Rattle.std.proofs.Common.{arith, append-nil}
use Rattle.std.proofs.lemmas.Bool.Decides.{eqb_tells}
use Rattle.ev_types.specs.declared.side.Side.{Side}
use Rattle.ev_types.specs.declared.side.Side.TheVariants.{In, Out}
use Rattle.ev_types.specs.declared.side.SideId.{SideId}
use Rattle.ev_types.specs.Sides.{other, peer, half, number, same_end}
use Rattle.ev_types.specs.Trace.{Event, Trace}
use Rattle.relay_model.specs.Trace.{read_by, given_by, ended_by, told_moved_by, told_given_by, write_closed_by, bytes_read, bytes_given}
use Rattle.relay_model.specs.Trace.{has_ended, moved_at_free, given_at_free, is_write_closed}
use Rattle.relay_model.proofs.EndLemmas.{same_end-eq}
use Rattle.relay_model.proofs.TraceLemmas.{bytes_read-push, bytes_given-push, moved_at_free-push, given_at_free-push, has_ended-push}
use Rattle.relay_model.proofs.TraceLemmas.{is_write_closed-push}
use Rattle.std.proofs.Math.Bool.{or-false}

pub number-same : (a b : SideId) → number a ≡ number b → a ≡ b
number-same a b h = go a.side b.side refl refl
  where
    go : (p q : Side) → a.side ≡ p → b.side ≡ q → a ≡ b
    go In In p q = let l : a.link ≡ b.link = omega (arith, h, ap half p, ap half q) in λ i. record { link = l i; side = (p ∙ sym q) i }
    go Out Out p q = let l : a.link ≡ b.link = omega (arith, h, ap half p, ap half q) in λ i. record { link = l i; side = (p ∙ sym q) i }
    go In Out p q = absurd (omega (arith, h, ap half p, ap half q))
    go Out In p q = absurd (omega (arith, h, ap half p, ap half q))

pub number-apart : (a b : SideId) → a ≢ b → number a ≢ number b
number-apart a b h = λ e. h (number-same a b e)

half-le : (s : Side) → half s ≤ 1
half-le In = omega arith
half-le Out = omega arith

pub number-below : (e : SideId) (n : ℕ) → e.link < n → number e < 2 * n
number-below e n h = omega (arith, half-le e.side)

pub peer-peer : (e : SideId) → peer (peer e) ≡ e
peer-peer e = go e.side refl
  where
    go : (s : Side) → e.side ≡ s → peer (peer e) ≡ e
    go In h = λ i. record { link = e.link; side = (ap (λ z. other (other z)) h ∙ sym h) i }
    go Out h = λ i. record { link = e.link; side = (ap (λ z. other (other z)) h ∙ sym h) i }

pub peer-apart : (e : SideId) → peer e ≢ e
peer-apart e h = differ e.side (ap (λ z. half z.side) h)
  where
    differ : (s : Side) → half (other s) ≡ half s → ⊥
    differ In e = absurd (omega (arith, e))
    differ Out e = absurd (omega (arith, e))

pub peer-moves : (a e : SideId) → a ≢ peer e → peer a ≢ e
peer-moves a e h = λ k. h (sym (peer-peer a) ∙ ap peer k)

-- a side is this one, or its peer, or another
pub by_side : (e a : SideId) (P : SideId → Type 0) → P e → P (peer e) → (a ≢ e → a ≢ peer e → P a) → P a
by_side e a P own far rest = elim (eqb_tells (number a) (number e)) [
  | inl same ↦ subst P (sym (number-same a e same.1)) own
  | inr apart ↦ (elim (eqb_tells (number a) (number (peer e))) [
    | inl same ↦ subst P (sym (number-same a (peer e) same.1)) far
    | inr far_apart ↦ rest (λ h. apart.1 (ap number h)) (λ h. far_apart.1 (ap number h))
  ])
]

-- Names of ends

pub same_end-apart : (a b : SideId) → a ≢ b → same_end a b ≡ false
same_end-apart a b h = go (same_end a b) refl
  where
    go : (q : Bool) → same_end a b ≡ q → same_end a b ≡ false
    go true e = absurd (h (same_end-eq a b e))
    go false e = e

-- What is told

-- two traces tell the same of an end
pub record SameTold (t u : Trace) (e : SideId) : Type 0 where
  pub read : bytes_read e u ≡ bytes_read e t
  pub given : bytes_given e u ≡ bytes_given e t
  pub ended : has_ended e u ≡ has_ended e t
  pub moved : moved_at_free e u ≡ moved_at_free e t
  pub given_free : given_at_free e u ≡ given_at_free e t
  pub closed : is_write_closed e u ≡ is_write_closed e t

-- an event tells nothing of an end
pub record IsSilent (x : Event) (e : SideId) : Type 0 where
  pub read : read_by e x ≡ []
  pub given : given_by e x ≡ []
  pub ended : ended_by e x ≡ false
  pub moved : told_moved_by e x ≡ []
  pub given_free : told_given_by e x ≡ []
  pub closed : write_closed_by e x ≡ false

module _ (t : Trace) (x : Event) (e : SideId) where
  pub read-silent : read_by e x ≡ [] → bytes_read e (t ++ x ∷ []) ≡ bytes_read e t
  read-silent h = bytes_read-push e t x ∙ ap (λ z. bytes_read e t ++ z) h ∙ append-nil (bytes_read e t)

  pub given-silent : given_by e x ≡ [] → bytes_given e (t ++ x ∷ []) ≡ bytes_given e t
  given-silent h = bytes_given-push e t x ∙ ap (λ z. bytes_given e t ++ z) h ∙ append-nil (bytes_given e t)

  pub ended-silent : ended_by e x ≡ false → has_ended e (t ++ x ∷ []) ≡ has_ended e t
  ended-silent h = has_ended-push e t x ∙ ap (λ z. has_ended e t || z) h ∙ or-false (has_ended e t)

  pub moved-silent : told_moved_by e x ≡ [] → moved_at_free e (t ++ x ∷ []) ≡ moved_at_free e t
  moved-silent h = moved_at_free-push e t x ∙ ap (λ z. moved_at_free e t ++ z) h ∙ append-nil (moved_at_free e t)

  pub given_free-silent : told_given_by e x ≡ [] → given_at_free e (t ++ x ∷ []) ≡ given_at_free e t
  given_free-silent h = given_at_free-push e t x ∙ ap (λ z. given_at_free e t ++ z) h ∙ append-nil (given_at_free e t)

  pub closed-silent : write_closed_by e x ≡ false → is_write_closed e (t ++ x ∷ []) ≡ is_write_closed e t
  closed-silent h = is_write_closed-push e t x ∙ ap (λ z. is_write_closed e t || z) h ∙ or-false (is_write_closed e t)

  pub told-same : IsSilent x e → SameTold t (t ++ x ∷ []) e
  told-same s = record {
    read = read-silent s.read;
    given = given-silent s.given;
    ended = ended-silent s.ended;
    moved = moved-silent s.moved;
    given_free = given_free-silent s.given_free;
    closed = closed-silent s.closed;
  }
