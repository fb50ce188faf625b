-- What a plain state has once a direction was passed: its flow and two marks are others, and all else is as before.
use Rattle.std.proofs.Common.{◌≡◌, ◌≢◌, ℕ, ◌<◌, length, sym, ◌∙◌, ap, subst, set}
use Rattle.std.specs.Prelude.{Option, true, is_some}
use Rattle.std.proofs.lemmas.List.{set-set, set_comm, length-set}
use Rattle.ev_types.specs.declared.side.SideId.{SideId}
use Rattle.ev_types.specs.Sides.{number, peer}
use Rattle.relay_model.specs.Settings.{Settings}
use Rattle.relay_model.specs.Flow.{Flow}
use Rattle.relay_model.specs.Plain.{Plain, PlainSide, side_at, flow_at, put_side, put_flow, change_side, is_live}
use Rattle.relay_model.specs.Rooms.{read_mark, hold_mark, mark_or, most_at_once}
use Rattle.relay_model.specs.Round.{Part}
use Rattle.relay_state.specs.Passage.{Passage, pass_part, pass_round}
use Rattle.relay_state.specs.Passing.{with_bad, plain_passed}
use Rattle.relay_steps.proofs.EndLemmas.{number-apart, peer-apart, by_side}
use Rattle.relay_steps.proofs.FitLemmas.{side-put, side-put_other, flow-put, flow-put_other, put_side-same, put_flow-same}

pub bad-same : (e : SideId) (b : Option ℕ) (p : Plain) → (side_at p e).bad ≡ b → change_side e (with_bad b) p ≡ p
bad-same e b p h = (let x : PlainSide = side_at p e in λ i. put_side e (record x { bad = sym h i }) p) ∙ put_side-same e p

pub put_flow-twice : (e : SideId) (f h : Flow) (p : Plain) → put_flow e h (put_flow e f p) ≡ put_flow e h p
put_flow-twice e f h p = let q = set-set p.flows (number e) f h in λ i. record p { flows = q i }

module _ (e : SideId) (x : Passage) (p : Plain) where
  -- the side where it begins
  abbrev near : Plain
  near = change_side e (with_bad x.from_bad) (put_flow e x.flow p)

  pub passed-flow : number e < length p.flows → flow_at (plain_passed e x p) e ≡ x.flow
  passed-flow inside = flow-put p e x.flow inside

  pub passed-far : number (peer e) < length p.sides → side_at (plain_passed e x p) (peer e) ≡ with_bad x.to_bad (side_at p (peer e))
  passed-far inside =
      side-put near (peer e) (with_bad x.to_bad (side_at near (peer e)))
      (subst (λ n. number (peer e) < n) (sym (length-set p.sides (number e) _)) inside)
      ∙ ap (with_bad x.to_bad) (side-put_other (put_flow e x.flow p) e (peer e) _ (peer-apart e))

  pub passed-near : number e < length p.sides → side_at (plain_passed e x p) e ≡ with_bad x.from_bad (side_at p e)
  passed-near inside =
      side-put_other near (peer e) e _ (λ h. peer-apart e (sym h))
      ∙ side-put (put_flow e x.flow p) e (with_bad x.from_bad (side_at p e)) inside

  pub passed-other : (a : SideId) → a ≢ e → a ≢ peer e → side_at (plain_passed e x p) a ≡ side_at p a
  passed-other a h k = side-put_other near (peer e) a _ k ∙ side-put_other (put_flow e x.flow p) e a _ h

  -- where the marks stay
  pub passed-flow_alone : (side_at p e).bad ≡ x.from_bad → (side_at p (peer e)).bad ≡ x.to_bad → plain_passed e x p ≡ put_flow e x.flow p
  passed-flow_alone h k =
      let q : Plain = put_flow e x.flow p in
      ap (change_side (peer e) (with_bad x.to_bad)) (bad-same e x.from_bad q h) ∙ bad-same (peer e) x.to_bad q k

  -- where the mark of the side stays at which it ends
  pub passed-from : (side_at p (peer e)).bad ≡ x.to_bad → plain_passed e x p ≡ change_side e (with_bad x.from_bad) (put_flow e x.flow p)
  passed-from k =
      bad-same (peer e) x.to_bad near
      (ap (λ (z : PlainSide). z.bad)
      (side-put_other (put_flow e x.flow p) e (peer e) (with_bad x.from_bad (side_at p e)) (peer-apart e)) ∙ k)

  -- where the mark of the side stays at which it begins
  pub passed-to : (side_at p e).bad ≡ x.from_bad → plain_passed e x p ≡ change_side (peer e) (with_bad x.to_bad) (put_flow e x.flow p)
  passed-to h = ap (change_side (peer e) (with_bad x.to_bad)) (bad-same e x.from_bad (put_flow e x.flow p) h)

-- where all that was passed is there already
pub passed-none : (e : SideId) (x : Passage) (p : Plain) → flow_at p e ≡ x.flow → (side_at p e).bad ≡ x.from_bad →
    (side_at p (peer e)).bad ≡ x.to_bad →
    plain_passed e x p ≡ p
passed-none e x p f h k = passed-flow_alone e x p h k ∙ (λ i. put_flow e (sym f i) p) ∙ put_flow-same e p

pub passed-other_flow : (e : SideId) (x : Passage) (p : Plain) (a : SideId) → a ≢ e → flow_at (plain_passed e x p) a ≡ flow_at p a
passed-other_flow e x p a h = flow-put_other p e a x.flow h

-- one passage behind another
pub passed-twice : (e : SideId) (x y : Passage) (p : Plain) → number e < length p.sides → number (peer e) < length p.sides →
    plain_passed e y (plain_passed e x p) ≡ plain_passed e y p
passed-twice e x y p near_in far_in =
    let a = seen_near in let b = seen_far in
    (λ i. put_side (peer e) (with_bad y.to_bad (b i)) (put_side e (with_bad y.from_bad (a i)) (put_flow e y.flow (plain_passed e x p))))
    ∙ (let f = set-set p.flows (number e) x.flow y.flow in let q = sides in λ i. record p { sides = q i; flows = f i })
    ∙ (let c = own_far in λ i. put_side (peer e) (with_bad y.to_bad (sym c i)) (put_side e b2 (put_flow e y.flow p)))
  where
    a1 : PlainSide
    a1 = with_bad x.from_bad (side_at p e)

    b1 : PlainSide
    b1 = with_bad x.to_bad (side_at (put_side e (with_bad x.from_bad (side_at p e)) (put_flow e x.flow p)) (peer e))

    b2 : PlainSide
    b2 = with_bad y.from_bad (side_at p e)

    c2 : PlainSide
    c2 = with_bad y.to_bad (side_at p (peer e))

    apart : number e ≢ number (peer e)
    apart = number-apart e (peer e) (λ h. peer-apart e (sym h))

    seen_near : side_at (plain_passed e x p) e ≡ a1
    seen_near = passed-near e x p near_in

    own_far : side_at (put_side e b2 (put_flow e y.flow p)) (peer e) ≡ side_at p (peer e)
    own_far = side-put_other (put_flow e y.flow p) e (peer e) b2 (peer-apart e)

    seen_far : side_at (put_side e (with_bad y.from_bad (side_at (plain_passed e x p) e)) (put_flow e y.flow (plain_passed e x p)))
        (peer e)
        ≡ with_bad x.to_bad (side_at p (peer e))
    seen_far =
        side-put_other (put_flow e y.flow (plain_passed e x p)) e (peer e) (with_bad y.from_bad (side_at (plain_passed e x p) e))
        (peer-apart e)
        ∙ passed-far e x p far_in

    sides : set (set (set (set p.sides (number e) a1) (number (peer e)) b1) (number e) b2) (number (peer e)) c2
        ≡ set (set p.sides (number e) b2) (number (peer e)) c2
    sides =
        ap (λ z. set z (number (peer e)) c2)
        (sym (set_comm (set p.sides (number e) a1) (number e) (number (peer e)) b2 b1 apart)
        ∙ ap (λ z. set z (number (peer e)) b1) (set-set p.sides (number e) a1 b2))
        ∙ set-set (set p.sides (number e) b2) (number (peer e)) b1 c2

-- A round looks at the same before and after

-- one part, and one round, of the direction that begins at a side
abbrev pub part_of : Settings → Plain → SideId → Part → Passage → Passage
part_of g p e = pass_part (read_mark p e) (hold_mark g p (peer e)) (side_at p e).ended

abbrev pub round_of : Settings → Plain → SideId → Passage → Passage
round_of g p e = pass_round (read_mark p e) (hold_mark g p (peer e)) (side_at p e).ended (is_live p e) (is_live p (peer e))

module _ (g : Settings) (e : SideId) (x : Passage) (p : Plain) (near_in : number e < length p.sides)
    (far_in : number (peer e) < length p.sides) where
  pub part-same : part_of g (plain_passed e x p) e ≡ part_of g p e
  part-same =
      let a = passed-near e x p near_in in
      let b = passed-far e x p far_in in
      λ i. pass_part (mark_or (a i).marks.read_high most_at_once) (mark_or (b i).marks.write_high g.hold) (a i).ended

  pub round-same : round_of g (plain_passed e x p) e ≡ round_of g p e
  round-same =
      let a = passed-near e x p near_in in
      let b = passed-far e x p far_in in
      λ i. pass_round (mark_or (a i).marks.read_high most_at_once) (mark_or (b i).marks.write_high g.hold) (a i).ended (a i).live
      (b i).live

  -- who lives stays
  pub live-same : (a : SideId) → is_live (plain_passed e x p) a ≡ is_live p a
  live-same a =
      by_side e a (λ z. is_live (plain_passed e x p) z ≡ is_live p z)
      (ap (λ (z : PlainSide). z.live) (passed-near e x p near_in))
      (ap (λ (z : PlainSide). z.live) (passed-far e x p far_in))
      (λ h k. ap (λ (z : PlainSide). z.live) (passed-other e x p a h k))

  -- where the marks of its two sides stay or rise, those of all sides do
  pub marks-rise : (is_some (side_at p e).bad ≡ true → is_some x.from_bad ≡ true) →
      (is_some (side_at p (peer e)).bad ≡ true → is_some x.to_bad ≡ true) →
      (a : SideId) → is_some (side_at p a).bad ≡ true → is_some (side_at (plain_passed e x p) a).bad ≡ true
  marks-rise own far a =
      by_side e a (λ z. is_some (side_at p z).bad ≡ true → is_some (side_at (plain_passed e x p) z).bad ≡ true)
      (λ h. ap (λ (z : PlainSide). is_some z.bad) (passed-near e x p near_in) ∙ own h)
      (λ h. ap (λ (z : PlainSide). is_some z.bad) (passed-far e x p far_in) ∙ far h)
      (λ h k m. ap (λ (z : PlainSide). is_some z.bad) (passed-other e x p a h k) ∙ m)
