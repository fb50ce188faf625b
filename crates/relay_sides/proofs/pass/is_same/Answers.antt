use Rattle.std.proofs.Common.{◌≡◌, ℕ, Bool, true, false, ◌&&◌, ◌==◌, refl, sym, ◌∙◌, subst, eqb-true, arith}
use Rattle.std.proofs.Math.Bool.{beq}
use Rattle.std.proofs.lemmas.Bool.Decides.{nat_tests}
use Rattle.relay_sides.specs.declared.pass.FilterProgress.{FilterProgress}
use Rattle.relay_sides.specs.declared.pass.RoundProgress.{RoundProgress}
use Rattle.relay_sides.proofs.pass.is_same.Goals as goal

both : (a b : Bool) → (a && b) ≡ true → (a ≡ true) × (b ≡ true)
both true true e = (refl, refl)
both true false e = absurd (cc)
both false b e = absurd (cc)

same_bit : (a b : Bool) → beq a b ≡ true → a ≡ b
same_bit true true e = refl
same_bit true false e = absurd (cc)
same_bit false true e = absurd (cc)
same_bit false false e = refl

bit_same : (a : Bool) → beq a a ≡ true
bit_same true = refl
bit_same false = refl

nat_same : (n : ℕ) → (n == n) ≡ true
nat_same n = go (n == n) refl
  where
    go : (b : Bool) → (n == n) ≡ b → b ≡ true
    go true e = refl
    go false e = absurd (grind (arith, nat_tests, e))

abbrev reach_eq : FilterProgress → FilterProgress → Bool
reach_eq a b = (a.used == b.used) && (beq a.finished b.finished && beq a.stopped b.stopped)

same_reach : (a b : FilterProgress) → reach_eq a b ≡ true → a ≡ b
same_reach a b e =
    let p = both (a.used == b.used) (beq a.finished b.finished && beq a.stopped b.stopped) e in
    let q = both (beq a.finished b.finished) (beq a.stopped b.stopped) p.1 in
    let used = eqb-true a.used b.used p.0 in
    let finished = same_bit a.finished b.finished q.0 in
    let stopped = same_bit a.stopped b.stopped q.1 in
    λ i. record { used = used i; finished = finished i; stopped = stopped i }

reach_same : (a : FilterProgress) → reach_eq a a ≡ true
reach_same a = λ i. nat_same a.used i && (bit_same a.finished i && bit_same a.stopped i)

abbrev reached_eq : RoundProgress → RoundProgress → Bool
reached_eq a b =
    reach_eq a.reader b.reader && (reach_eq a.writer b.writer
    && ((a.moved == b.moved) && (beq a.held b.held && (beq a.from_bad b.from_bad && beq a.to_bad b.to_bad))))

same_reached : (a b : RoundProgress) → reached_eq a b ≡ true → a ≡ b
same_reached a b e =
    let p = both (reach_eq a.reader b.reader) (reach_eq a.writer b.writer
    && ((a.moved == b.moved) && (beq a.held b.held && (beq a.from_bad b.from_bad && beq a.to_bad b.to_bad)))) e in
    let q = both (reach_eq a.writer b.writer)
    ((a.moved == b.moved) && (beq a.held b.held && (beq a.from_bad b.from_bad && beq a.to_bad b.to_bad))) p.1 in
    let r = both (a.moved == b.moved) (beq a.held b.held && (beq a.from_bad b.from_bad && beq a.to_bad b.to_bad)) q.1 in
    let t = both (beq a.held b.held) (beq a.from_bad b.from_bad && beq a.to_bad b.to_bad) r.1 in
    let u = both (beq a.from_bad b.from_bad) (beq a.to_bad b.to_bad) t.1 in
    let reader = same_reach a.reader b.reader p.0 in
    let writer = same_reach a.writer b.writer q.0 in
    let moved = eqb-true a.moved b.moved r.0 in
    let held = same_bit a.held b.held t.0 in
    let from_bad = same_bit a.from_bad b.from_bad u.0 in
    let to_bad = same_bit a.to_bad b.to_bad u.1 in
    λ i. record {
      reader = reader i;
      writer = writer i;
      moved = moved i;
      held = held i;
      from_bad = from_bad i;
      to_bad = to_bad i;
    }

reached_same : (a : RoundProgress) → reached_eq a a ≡ true
reached_same a =
    λ i. reach_same a.reader i && (reach_same a.writer i
    && (nat_same a.moved i && (bit_same a.held i && (bit_same a.from_bad i && bit_same a.to_bad i))))

pub returns : goal.returns
returns c = (
  λ e. same_reached c.args.a c.args.b (sym c.eq.ensures ∙ e),
  λ e. c.eq.ensures ∙ subst (λ z. reached_eq c.args.a z ≡ true) e (reached_same c.args.a),
)
