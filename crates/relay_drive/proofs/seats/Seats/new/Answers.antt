use Rattle.std.proofs.Common.{◌≡◌, ℕ, zero, suc, [], ◌∷◌, ◌++◌, List, None, Option, refl, ◌∙◌, ap, arith, length, length-append}
use Rattle.relay_drive.specs.Seats.{hook_at}
use Rattle.relay_drive.proofs.seats.Seats.new.Goals as goal

-- one empty slot more
none-push : {H : Type 0} (xs : List (Option H)) → ((n : ℕ) → hook_at xs n ≡ None) → (n : ℕ) → hook_at (xs ++ None ∷ []) n ≡ None
none-push [] h zero = refl
none-push [] h (suc n) = refl
none-push (x ∷ xs) h zero = h 0
none-push (x ∷ xs) h (suc n) = none-push xs (λ m. h (suc m)) n

pub loop-init : goal.loop-init
loop-init g c = record {
  many = ap length c.new-gone.ensures.items;
  none = λ n. ap (λ xs. hook_at xs n) c.new-gone.ensures.items;
}

pub loop-preserved : goal.loop-preserved
loop-preserved g c =
    let inv = c.loop.invariant in
    let push = c.in_ok-push.ensures.items in
    record {
      many = (let a = inv.many in let b = ap length push ∙ length-append c.loop.gone.items (None ∷ []) in omega (arith, a, b));
      none = λ n. ap (λ xs. hook_at xs n) push ∙ none-push c.loop.gone.items inv.none n;
    }

pub returns-clause-fresh : goal.returns-clause-fresh
returns-clause-fresh g c = record {
  level = (let a = c.loop.invariant.many in let b = c.loop.auto.counter-end in let d = c.loop-test.false in
      let n = c.len-end.ensures in omega (arith, a, b, d, n));
  none = c.loop.invariant.none;
}
