-- Rounds of a direction: part by part they are the model's, so that a trace leads to the plain state behind them.
use Rattle.std.proofs.Common.{◌≡◌, ℕ, zero, suc, ◌*◌, ◌<◌, Bool, true, false, ◌==◌, ◌&&◌, not, if◌then◌else◌, List, [], ◌∷◌, length, inr}
use Rattle.std.proofs.Common.{refl, sym, ◌∙◌, ap, subst, arith}
use Rattle.std.specs.Prelude.{is_some, fold}
use Rattle.std.specs.List.{AllByRecursion}
use Rattle.ev_types.specs.declared.side.SideId.{SideId}
use Rattle.ev_types.specs.Sides.{number, peer}
use Rattle.ev_types.specs.Trace.{Trace}
use Rattle.relay_model.specs.Trace.{has_ended}
use Rattle.relay_model.specs.Settings.{Settings}
use Rattle.relay_model.specs.Plain.{Plain, side_at, is_live}
use Rattle.relay_model.specs.Past.{past}
use Rattle.relay_model.specs.Round.{Part, parts_of, do_part, round}
use Rattle.relay_model.specs.Stages.{Stage, at}
use Rattle.relay_model.specs.Turn.{Reaches}
use Rattle.relay_model.specs.StepLaws.{AccountsFit}
use Rattle.relay_model.proofs.ToldLemmas.{kept}
use Rattle.relay_model.proofs.TotalLemmas.{NeedsLive, parts-live}
use Rattle.relay_model.proofs.AccountedLemmas.{silent_steps_keep_accounts}
use Rattle.relay_state.specs.Passage.{Passage, read_part, move_part, write_part, write_step, written_by, has_moved_all, pass_part, rounds}
use Rattle.relay_state.specs.Passing.{plain_passed}
use Rattle.relay_steps.proofs.EndLemmas.{number-below}
use Rattle.relay_steps.proofs.PassageRuns.{or_else-stays}
use Rattle.relay_steps.proofs.PassedLemmas.{part_of, round_of, passed-none, passed-twice, part-same, round-same, live-same}
use Rattle.relay_steps.proofs.PassageLemmas.{PassageFits, part-is}

-- Marks that are there stay

pub record Rises (x new : Passage) : Type 0 where
  pub from_bad : is_some x.from_bad ≡ true → is_some new.from_bad ≡ true
  pub to_bad : is_some x.to_bad ≡ true → is_some new.to_bad ≡ true

rises-refl : (x : Passage) → Rises x x
rises-refl x = record { from_bad = λ h. h; to_bad = λ h. h }

rises-trans : (x y z : Passage) → Rises x y → Rises y z → Rises x z
rises-trans x y z h k = record { from_bad = λ q. k.from_bad (h.from_bad q); to_bad = λ q. k.to_bad (h.to_bad q) }

pub read-rises : (mark : ℕ) (over : Bool) (x : Passage) → Rises x (read_part mark over x)
read-rises mark over x = record { from_bad = λ h. or_else-stays x.from_bad _ h; to_bad = λ h. h }

write-rises : (hold : ℕ) (may_end : Bool) (x : Passage) → Rises x (write_part hold may_end x)
write-rises hold may_end x = go x.flow.held
  where
    wrote : Passage
    wrote = written_by (write_step hold (may_end && has_moved_all x) x.lane) x

    go : (b : Bool) → Rises x (if b then x else wrote)
    go true = rises-refl x
    go false = record { from_bad = λ h. h; to_bad = λ h. or_else-stays x.to_bad _ h }

move-rises : (x : Passage) → Rises x (move_part x)
move-rises x = go (not x.flow.held && length x.lane.buffers.output == 0) _ (record { from_bad = λ h. h; to_bad = λ h. h })
  where
    go : (b : Bool) (y : Passage) → Rises x y → Rises x (if b then y else x)
    go true y h = h
    go false y h = rises-refl x

part-rises : (mark hold : ℕ) (ended : Bool) (part : Part) (x : Passage) → Rises x (pass_part mark hold ended part x)
part-rises mark hold ended Part.Hold x = record { from_bad = λ h. h; to_bad = λ h. h }
part-rises mark hold ended Part.Read x = read-rises mark ended x
part-rises mark hold ended Part.Move x = move-rises x
part-rises mark hold ended Part.Write x = write-rises hold true x
part-rises mark hold ended Part.Drain x = write-rises hold false x

parts-rise : (mark hold : ℕ) (ended : Bool) (xs : List Part) (x : Passage) →
    Rises x (fold (λ y part. pass_part mark hold ended part y) x xs)
parts-rise mark hold ended [] x = rises-refl x
parts-rise mark hold ended (part ∷ xs) x =
    let y : Passage = pass_part mark hold ended part x in
    rises-trans x y _ (part-rises mark hold ended part x) (parts-rise mark hold ended xs y)

-- so do they over many rounds
pub rounds-rise : (g : Settings) (p : Plain) (e : SideId) (n : ℕ) (x : Passage) → Rises x (rounds n (round_of g p e) x)
rounds-rise g p e zero x = rises-refl x
rounds-rise g p e (suc n) x =
    let y : Passage = round_of g p e x in
    rises-trans x y _ (parts-rise _ _ _ (parts_of (is_live p e) (is_live p (peer e))) x) (rounds-rise g p e n y)

-- The numbers of the two sides of an opened link are in the lists

module _ (g : Settings) (t : Trace) (x : Stage) (p : Plain) (r : Reaches g t (at x p)) (e : SideId) (lt : e.link < p.opened) where
  pub sides-told : length p.sides ≡ 2 * p.opened
  sides-told = (kept g t (at x p) r).counts.shape.sides

  pub flows-told : length p.flows ≡ 2 * p.opened
  flows-told = (kept g t (at x p) r).counts.shape.flows

  pub ended-told : (side_at p e).ended ≡ has_ended e t
  ended-told = ((kept g t (at x p) r).each e lt).ended

  pub near-inside : number e < length p.sides
  near-inside = let a = number-below e p.opened lt in let s = sides-told in omega (arith, s, a)

  pub far-inside : number (peer e) < length p.sides
  far-inside = let a = number-below (peer e) p.opened lt in let s = sides-told in omega (arith, s, a)

-- Part by part

module _ (g : Settings) (t : Trace) (e : SideId) (es : List SideId) where
  -- a trace leads to where these parts of a round are to be done, and the direction fits the plain state there
  pub record Here (xs : List Part) (p : Plain) (x : Passage) : Type 0 where
    pub reached : Reaches g t (at (Stage.Passing xs (e ∷ es)) p)
    pub accounts : AccountsFit g t p
    pub fits : PassageFits g t p e x

  stays-here : (p : Plain) (x : Passage) → PassageFits g t p e x → plain_passed e x p ≡ p
  stays-here p x k = passed-none e x p k.flow k.from_bad k.to_bad

  -- some parts of a round made this of it
  abbrev Gone : List Part → Plain → Passage → Type 0
  Gone xs p x =
      let q = fold (λ s part. do_part g (past g t) e part s) p xs in
      let y = fold (λ z part. part_of g p e part z) x xs in
      (q ≡ plain_passed e y p) × Here [] q y

  none-gone : (p : Plain) (x : Passage) → Here [] p x → Gone [] p x
  none-gone p x h = (sym (stays-here p x h.fits), h)

  parts-gone : (xs : List Part) (p : Plain) (x : Passage) → e.link < p.opened → is_live p (peer e) ≡ true → Here xs p x → Gone xs p x
  parts-gone [] p x lt live h = none-gone p x h
  parts-gone (part ∷ xs) p x lt live h =
      let stage : Stage = Stage.Passing (part ∷ xs) (e ∷ es) in
      let near_in = near-inside g t stage p h.reached e lt in
      let far_in = far-inside g t stage p h.reached e lt in
      let sides = sides-told g t stage p h.reached e lt in
      let flows = flows-told g t stage p h.reached e lt in
      let ended = ended-told g t stage p h.reached e lt in
      let needs : AllByRecursion (NeedsLive p e) (part ∷ xs) = parts-live g t (at stage p) h.reached in
      let k = part-is g t p e lt sides flows (h.accounts e) ended live x h.fits part needs.0 in
      let p1 : Plain = do_part g (past g t) e part p in
      let x1 : Passage = part_of g p e part x in
      let opened : p1.opened ≡ p.opened = ap (λ z. z.opened) k.0 in
      let rest = parts-gone xs p1 x1 (subst (λ n. e.link < n) (sym opened) lt)
      ((λ i. is_live (k.0 i) (peer e)) ∙ live-same g e x1 p near_in far_in (peer e) ∙ live) (record {
        reached = Reaches.goes h.reached refl;
        accounts = silent_steps_keep_accounts g t (at stage p) (at (Stage.Passing xs (e ∷ es)) p1) h.reached refl h.accounts;
        fits = k.1;
      }) in
      let same : part_of g p1 e ≡ part_of g p e = (λ i. part_of g (k.0 i) e) ∙ part-same g e x1 p near_in far_in in
      let q : Plain = fold (λ s z. do_part g (past g t) e z s) p1 xs in
      let y : Passage = fold (λ z a. part_of g p e a z) x1 xs in
      let y1 : Passage = fold (λ z a. part_of g p1 e a z) x1 xs in
      let y_same : y1 ≡ y = (λ i. fold (λ z a. same i a z) x1 xs) in (
        rest.0 ∙ (λ i. plain_passed e (y_same i) (k.0 i)) ∙ passed-twice e x1 y p near_in far_in,
        subst (Here [] q) y_same rest.1,
      )

  -- a whole round
  abbrev Rounded : Plain → Passage → Type 0
  Rounded p x = (round g (past g t) e p ≡ plain_passed e (round_of g p e x) p) × Here [] (round g (past g t) e p) (round_of g p e x)

  pub round-goes : (p : Plain) (x : Passage) → e.link < p.opened → Here [] p x → Rounded p x
  round-goes p x lt h = go (is_live p (peer e)) refl
    where
      parts : List Part
      parts = parts_of (is_live p e) (is_live p (peer e))

      none : (a : Bool) → parts_of a false ≡ []
      none true = refl
      none false = refl

      go : (b : Bool) → is_live p (peer e) ≡ b → Gone parts p x
      go true live = parts-gone parts p x lt live
          (record { reached = Reaches.goes h.reached (inr refl); accounts = h.accounts; fits = h.fits })
      go false dead = subst (λ xs. Gone xs p x) (sym ((λ i. parts_of (is_live p e) (dead i)) ∙ none (is_live p e))) (none-gone p x h)

  -- so many rounds
  pub rounds-go : (n : ℕ) (p : Plain) (x : Passage) → e.link < p.opened → Here [] p x →
      (let y = rounds n (round_of g p e) x in Here [] (plain_passed e y p) y)
  rounds-go zero p x lt h = subst (λ z. Here [] z x) (sym (stays-here p x h.fits)) h
  rounds-go (suc n) p x lt h =
      let stage : Stage = Stage.Passing [] (e ∷ es) in
      let near_in = near-inside g t stage p h.reached e lt in
      let far_in = far-inside g t stage p h.reached e lt in
      let k = round-goes p x lt h in
      let p1 : Plain = round g (past g t) e p in
      let x1 : Passage = round_of g p e x in
      let opened : p1.opened ≡ p.opened = ap (λ z. z.opened) k.0 in
      let same : round_of g p1 e ≡ round_of g p e = (λ i. round_of g (k.0 i) e) ∙ round-same g e x1 p near_in far_in in
      let y : Passage = rounds n (round_of g p e) x1 in
      let back : plain_passed e y p1 ≡ plain_passed e y p = (λ i. plain_passed e y (k.0 i)) ∙ passed-twice e x1 y p near_in far_in in
      let rest = rounds-go n p1 x1 (subst (λ m. e.link < m) (sym opened) lt) k.1 in
      subst (λ z. Here [] z y) back (subst (λ f. (let z = rounds n f x1 in Here [] (plain_passed e z p1) z)) same rest)

  -- where a round changes nothing, the model's does neither
  pub round-stays : (p : Plain) (x : Passage) → e.link < p.opened → Here [] p x → round_of g p e x ≡ x → round g (past g t) e p ≡ p
  round-stays p x lt h same = (round-goes p x lt h).0 ∙ (λ i. plain_passed e (same i) p) ∙ stays-here p x h.fits
