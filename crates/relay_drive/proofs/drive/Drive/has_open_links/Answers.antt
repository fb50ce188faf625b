use Rattle.std.proofs.Common.{◌≡◌, ◌<◌, false, nat_lt, Option, Some, None, refl, sym, ◌∙◌, ap, arith}
use Rattle.std.specs.Prelude.{is_some}
use Rattle.std.proofs.lemmas.Bool.{lt-ltb}
use Rattle.relay_state.specs.State.{State}
use Rattle.relay_state.specs.Counting.{is_open, open_below}
use Rattle.relay_drive.specs.DriveValue.{DriveValue}
use Rattle.relay_drive.proofs.LinkParts.{none-open, some-open}
use Rattle.relay_drive.proofs.AgendaLemmas.{up-all, up-next}
use Rattle.relay_drive.proofs.drive.Drive.has_open_links.Goals as goal

none_of : {A : Type 0} (x : Option A) → is_some x ≡ false → x ≡ None
none_of None h = refl
none_of (Some f) h = absurd (cc)

pub returns-then-is_open : goal.returns-then-is_open
returns-then-is_open c =
    let s = c.args.self.now.state in
    let same : c.self.inside.run.relay.state ≡ s = ap (λ (d : DriveValue). d.state) c.self.view_is in
    let opened = ap (λ (z : State). z.plain.opened) same in
    let k = c.in-Some.link in
    let lt : k < s.plain.opened = let found = c.in-Some.ensures in omega (arith, found.1, c.opened.ensures.count, opened) in
    sym (lt-ltb 0 (open_below s s.plain.opened)
    (some-open s s.plain.opened k lt (ap (λ z. is_open z k) (sym same) ∙ sym c.if-is_open.ensures)))

pub loop-link-preserved : goal.loop-link-preserved
loop-link-preserved c =
    let s = c.args.self.now.state in
    let same : c.self.inside.run.relay.state ≡ s = ap (λ (d : DriveValue). d.state) c.self.view_is in
    let opened = ap (λ (z : State). z.plain.opened) same in
    let kept = (c.self.invariant.ready (none_of c.self.inside.kept (sym c.if-is_some.ensures))).kept in
    let k = c.in-Some.link in
    let found = c.in-Some.ensures in
    let lt : k < s.plain.opened = omega (arith, found.1, c.opened.ensures.count, opened) in
    record {
      none = up-next (λ j. is_open s j ≡ false) c.loop-link.from k c.loop-link.invariant.none
          (λ j le less. ap (λ z. is_open z j) (sym same) ∙ kept.gone j (omega (arith, less, lt, opened)) (found.3 j le less))
          (ap (λ z. is_open z k) (sym same) ∙ sym c.if-is_open.ensures);
      within = omega (arith, lt);
    }

pub returns : goal.returns
returns c =
    let s = c.args.self.now.state in
    let same : c.self.inside.run.relay.state ≡ s = ap (λ (d : DriveValue). d.state) c.self.view_is in
    let opened = ap (λ (z : State). z.plain.opened) same in
    let kept = (c.self.invariant.ready (none_of c.self.inside.kept (sym c.if-is_some.ensures))).kept in
    let none = up-all (λ k. is_open s k ≡ false) c.loop-link.from s.plain.opened c.loop-link.invariant.none
    (λ k le lt. ap (λ z. is_open z k) (sym same)
    ∙ kept.gone k (omega (arith, lt, opened)) (c.in_default.ensures k le (omega (arith, lt, c.opened.ensures.count, opened)))) in
    sym (ap (nat_lt 0) (none-open s s.plain.opened none))
