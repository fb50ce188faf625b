use Rattle.std.proofs.Common.{◌≡◌, Bool, suc, ◌<◌, true, false, inl, inr, Ok, sym, ◌∙◌, ap, subst, refl}
use Rattle.ev_types.specs.declared.side.SideId.{SideId}
use Rattle.relay_state.specs.Passage.{Passage}
use Rattle.relay_sides.specs.Links.{Links, passage_at, with_passage}
use Rattle.relay_sides.specs.Pairs.{HasPairs}
use Rattle.relay_sides.specs.Progress.{progress_of, round_by, is_settled}
use Rattle.relay_sides.specs.declared.pass.RoundRules.{RoundRules}
use Rattle.relay_sides.proofs.LinksLemmas.{passage_put, with_twice}
use Rattle.relay_sides.proofs.RoundLemmas.{weight, round_falls, round_over, rounds-suc, Went, went-apart, went_next}
use Rattle.relay_sides.proofs.RoundParts.{pairs_back}
use Rattle.relay_sides.proofs.SettledLemmas.{settled_stays}
use Rattle.relay_sides.proofs.sides.Sides.make_rounds.Goals as goal

-- the link is open all along
rounds_open : (old l m : Links) (e : SideId) (x : Passage) → l ≡ with_passage e x old → m ≡ l → e.link < old.opened → e.link < m.opened
rounds_open old l m e x frame same h = subst (λ n. e.link < n) (sym (ap (λ (z : Links). z.opened) (same ∙ frame))) h

made_once : (m n : Links) (e : SideId) → HasPairs m → e.link < m.opened → (x : Passage) → n ≡ with_passage e x m → passage_at n e ≡ x
made_once m n e pairs opened x is = ap (λ (z : Links). passage_at z e) is ∙ passage_put m e pairs opened x

framed : (old l m n : Links) (e : SideId) → l ≡ with_passage e (passage_at l e) old → m ≡ l → HasPairs m → e.link < old.opened →
    (x : Passage) → n ≡ with_passage e x m → passage_at n e ≡ x → n ≡ with_passage e (passage_at n e) old
framed old l m n e frame same pairs opened x is once =
    let there : m ≡ with_passage e (passage_at l e) old = same ∙ frame in
    is ∙ ap (with_passage e x) there
    ∙ with_twice old e (pairs_back old m e (passage_at l e) there pairs) opened (passage_at l e) x
    ∙ ap (λ z. with_passage e z old) (sym once)

-- where a direction is not settled, it was not at first
unsettled_first : (t : RoundRules) (changed settled : Bool) (first now : Passage) → settled ≡ is_settled t now → settled ≡ false →
    (changed ≡ false → now ≡ first) → (changed ≡ true → is_settled t first ≡ false) → is_settled t first ≡ false
unsettled_first t true settled first now is unsettled still was = was refl
unsettled_first t false settled first now is unsettled still was = ap (is_settled t) (sym (still refl)) ∙ sym is ∙ unsettled

-- where it was settled at first, nothing changed
first_unchanged : (changed settled : Bool) → (changed ≡ true → settled ≡ false) → settled ≡ true → changed ≡ false
first_unchanged true settled unsettled is = absurd (let wrong : true ≡ false = sym is ∙ unsettled refl in cc)
first_unchanged false settled unsettled is = refl

-- where the direction is settled, nothing is made of it
pub returns-then-is_settled-clause-passage : goal.returns-then-is_settled-clause-passage
returns-then-is_settled-clause-passage c =
    let some = c.loop-from.invariant.some in
    let settled : c.is_settled.result ≡ true = cc in (
      some.0,
      some.1,
      settled_stays c.args.round (passage_at c.loop-from.self.links c.args.from) (c.is_settled.ensures.told settled)
          (sym c.is_settled.ensures.settled ∙ settled),
    )

pub returns-then-is_settled-clause-apart : goal.returns-then-is_settled-clause-apart
returns-then-is_settled-clause-apart c = λ h.
    let some : c.loop-from.changed ≡ true = cc in
    went-apart c.args.round.hold (passage_at c.args.self.now.links c.args.from) (passage_at c.loop-from.self.links c.args.from)
    (c.loop-from.invariant.went some)

-- of a settled direction no round is made
pub returns-then-is_settled-clause-settled : goal.returns-then-is_settled-clause-settled
returns-then-is_settled-clause-settled c = λ settled.
    ap Ok (first_unchanged c.loop-from.changed (is_settled c.args.round (passage_at c.args.self.now.links c.args.from))
    c.loop-from.invariant.unsettled settled)

pub returns-in_err-reserve_round-clause-settled : goal.returns-in_err-reserve_round-clause-settled
returns-in_err-reserve_round-clause-settled c = λ settled.
    let e = c.args.from in
    let here : c.is_settled.result ≡ false = cc in
    let unsettled = unsettled_first c.args.round c.loop-from.changed c.is_settled.result (passage_at c.args.self.now.links e)
    (passage_at c.loop-from.self.links e) c.is_settled.ensures.settled here c.loop-from.invariant.still c.loop-from.invariant.unsettled in
    absurd (let wrong : true ≡ false = sym settled ∙ unsettled in cc)

pub returns-then-is_same-clause-settled : goal.returns-then-is_same-clause-settled
returns-then-is_same-clause-settled c = λ settled.
    let e = c.args.from in
    let here : c.is_settled.result ≡ false = cc in
    let unsettled = unsettled_first c.args.round c.loop-from.changed c.is_settled.result (passage_at c.args.self.now.links e)
    (passage_at c.loop-from.self.links e) c.is_settled.ensures.settled here c.loop-from.invariant.still c.loop-from.invariant.unsettled in
    absurd (let wrong : true ≡ false = sym settled ∙ unsettled in cc)

pub returns-then-is_same-clause-frame : goal.returns-then-is_same-clause-frame
returns-then-is_same-clause-frame c =
    let t = c.args.round in
    let e = c.args.from in
    let old = c.args.self.now.links in
    let l = c.loop-from.self.links in
    let m = c.reserve_round.new.self.links in
    let n = c.make_round.new.self.links in
    let begun = c.in_ok-reserve_round.ensures.links in
    let pairs = c.progress-before.ensures.pairs in
    let opened = rounds_open old l m e (passage_at l e) c.loop-from.invariant.frame begun c.requires in
    let once = made_once m n e pairs opened (round_by t (passage_at m e)) c.make_round.ensures in
    let from : passage_at m e ≡ passage_at l e = ap (λ (z : Links). passage_at z e) begun in
    framed old l m n e c.loop-from.invariant.frame begun pairs c.requires (round_by t (passage_at m e)) c.make_round.ensures once

pub returns-then-is_same-clause-passage : goal.returns-then-is_same-clause-passage
returns-then-is_same-clause-passage c =
    let t = c.args.round in
    let e = c.args.from in
    let old = c.args.self.now.links in
    let l = c.loop-from.self.links in
    let m = c.reserve_round.new.self.links in
    let n = c.make_round.new.self.links in
    let begun = c.in_ok-reserve_round.ensures.links in
    let pairs = c.progress-before.ensures.pairs in
    let opened = rounds_open old l m e (passage_at l e) c.loop-from.invariant.frame begun c.requires in
    let once = made_once m n e pairs opened (round_by t (passage_at m e)) c.make_round.ensures in
    let from : passage_at m e ≡ passage_at l e = ap (λ (z : Links). passage_at z e) begun in
    let still : passage_at n e ≡ passage_at m e =
    round_over t.mark t.hold t.ended t.from_live t.to_live (passage_at m e) (passage_at n e) c.progress-before.ensures.told once
    (sym c.progress.ensures.progress ∙ c.if-is_same.ensures.0 refl ∙ c.progress-before.ensures.progress) in
    let some = c.loop-from.invariant.some in (
      some.0,
      still ∙ from ∙ some.1,
      ap (round_by t) still ∙ sym once,
    )

-- the last round changed nothing
pub returns-then-is_same-clause-still : goal.returns-then-is_same-clause-still
returns-then-is_same-clause-still c = λ h.
    let t = c.args.round in
    let e = c.args.from in
    let old = c.args.self.now.links in
    let l = c.loop-from.self.links in
    let m = c.reserve_round.new.self.links in
    let n = c.make_round.new.self.links in
    let begun = c.in_ok-reserve_round.ensures.links in
    let pairs = c.progress-before.ensures.pairs in
    let opened = rounds_open old l m e (passage_at l e) c.loop-from.invariant.frame begun c.requires in
    let once = made_once m n e pairs opened (round_by t (passage_at m e)) c.make_round.ensures in
    let from : passage_at m e ≡ passage_at l e = ap (λ (z : Links). passage_at z e) begun in
    let still : passage_at n e ≡ passage_at m e =
    round_over t.mark t.hold t.ended t.from_live t.to_live (passage_at m e) (passage_at n e) c.progress-before.ensures.told once
    (sym c.progress.ensures.progress ∙ c.if-is_same.ensures.0 refl ∙ c.progress-before.ensures.progress) in
    let none : c.loop-from.changed ≡ false = cc in
    still ∙ from ∙ c.loop-from.invariant.still none

pub returns-then-is_same-clause-apart : goal.returns-then-is_same-clause-apart
returns-then-is_same-clause-apart c = λ h.
    let t = c.args.round in
    let e = c.args.from in
    let old = c.args.self.now.links in
    let l = c.loop-from.self.links in
    let m = c.reserve_round.new.self.links in
    let n = c.make_round.new.self.links in
    let begun = c.in_ok-reserve_round.ensures.links in
    let pairs = c.progress-before.ensures.pairs in
    let opened = rounds_open old l m e (passage_at l e) c.loop-from.invariant.frame begun c.requires in
    let once = made_once m n e pairs opened (round_by t (passage_at m e)) c.make_round.ensures in
    let from : passage_at m e ≡ passage_at l e = ap (λ (z : Links). passage_at z e) begun in
    let some : c.loop-from.changed ≡ true = cc in
    λ eq. went-apart t.hold (passage_at old e) (passage_at l e) (c.loop-from.invariant.went some)
    (ap progress_of (sym from)
    ∙ sym (sym c.progress.ensures.progress ∙ c.if-is_same.ensures.0 refl ∙ c.progress-before.ensures.progress) ∙ eq)

pub loop-from-smaller : goal.loop-from-smaller
loop-from-smaller c =
    let t = c.args.round in
    let e = c.args.from in
    let old = c.args.self.now.links in
    let l = c.loop-from.self.links in
    let m = c.reserve_round.new.self.links in
    let n = c.make_round.new.self.links in
    let begun = c.in_ok-reserve_round.ensures.links in
    let pairs = c.progress-before.ensures.pairs in
    let opened = rounds_open old l m e (passage_at l e) c.loop-from.invariant.frame begun c.requires in
    let once = made_once m n e pairs opened (round_by t (passage_at m e)) c.make_round.ensures in
    let from : passage_at m e ≡ passage_at l e = ap (λ (z : Links). passage_at z e) begun in
    let h = t.hold in
    elim (round_falls t.mark h t.ended t.from_live t.to_live (passage_at m e) c.progress-before.ensures.told) [
      | inl same ↦ absurd (
          let counts = c.progress.ensures.progress ∙ ap progress_of (once ∙ same) ∙ sym c.progress-before.ensures.progress in
          let w : false ≡ true = c.if-is_same.ensures.1 counts in cc)
      | inr falls ↦ subst (λ k. weight h (passage_at n e) < k) (ap (weight h) from)
          (subst (λ k. k < weight h (passage_at m e)) (sym (ap (weight h) once)) falls.0)
    ]

pub loop-from-preserved : goal.loop-from-preserved
loop-from-preserved c =
    let t = c.args.round in
    let e = c.args.from in
    let old = c.args.self.now.links in
    let l = c.loop-from.self.links in
    let m = c.reserve_round.new.self.links in
    let n = c.make_round.new.self.links in
    let begun = c.in_ok-reserve_round.ensures.links in
    let pairs = c.progress-before.ensures.pairs in
    let opened = rounds_open old l m e (passage_at l e) c.loop-from.invariant.frame begun c.requires in
    let once = made_once m n e pairs opened (round_by t (passage_at m e)) c.make_round.ensures in
    let from : passage_at m e ≡ passage_at l e = ap (λ (z : Links). passage_at z e) begun in
    let some = c.loop-from.invariant.some in
    record {
      frame = framed old l m n e c.loop-from.invariant.frame begun pairs c.requires (round_by t (passage_at m e)) c.make_round.ensures once;
      some = (
        suc some.0,
        once ∙ ap (round_by t) (from ∙ some.1) ∙ sym (rounds-suc some.0 (round_by t) (passage_at old e)),
      );
      still = λ eq. absurd (let wrong : true ≡ false = eq in cc);
      unsettled = λ _. unsettled_first t c.loop-from.changed c.is_settled.result (passage_at old e) (passage_at l e)
          c.is_settled.ensures.settled (let here : c.is_settled.result ≡ false = cc in here)
          c.loop-from.invariant.still c.loop-from.invariant.unsettled;
      went = λ _. went_next t.mark t.hold t.ended t.from_live t.to_live c.loop-from.changed
          (passage_at old e) (passage_at m e) (passage_at n e)
          (λ eq. from ∙ c.loop-from.invariant.still eq)
          (λ eq. subst (Went t.hold (passage_at old e)) (sym from) (c.loop-from.invariant.went eq))
          c.progress-before.ensures.told once
          (λ eq. absurd (let wrong : false
          ≡ true = c.if-is_same.ensures.1 (c.progress.ensures.progress ∙ eq ∙ sym c.progress-before.ensures.progress) in cc));
    }
