-- The limit of five numbers is what `LimitCfg::new` makes of them.
use Rattle.std.proofs.Common.{◌≡◌, ◌^◌, ℕ, Bool, true, false, Some, None, Result, Ok, Err, arith, refl, ap, sym, ◌∙◌, le-leb}
use Rattle.std.specs.Prelude.{IfOk}
use Rattle.std.specs.Result.{result_ok}
use Rattle.std.proofs.lemmas.Bool.Decides.{nat_tests}
use Rattle.std.proofs.Props.{props}
use Rattle.token_bucket.specs.declared.limit.LimitCfg.{LimitCfg}
use Rattle.token_bucket.specs.declared.limit.LimitFault.{LimitFault}
use Rattle.token_bucket.specs.Limit.{limit_verdict, fault_of}
use Rattle.script_text.specs.Limits.{IsLimit, is_limit, limit_facts, limit_with, when, limit_of}

pub when-true : {A : Type 0} (test : Bool) (allowed : test ≡ true → A) (e : test ≡ true) → ((p q : test ≡ true) → allowed p ≡ allowed q) →
    when test allowed ≡ Some (allowed e)
when-true true allowed e same = ap Some (same refl e)
when-true false allowed e same = absurd cc

pub when-false : {A : Type 0} (test : Bool) (allowed : test ≡ true → A) → test ≡ false → when test allowed ≡ None
when-false true allowed e = absurd cc
when-false false allowed e = refl

-- a limit is its numbers
limit_with-same : (rr rb wr wb tick : ℕ) (p q : IsLimit rr rb wr wb tick) → limit_with rr rb wr wb tick p ≡ limit_with rr rb wr wb tick q
limit_with-same rr rb wr wb tick p q = let one : p ≡ q = hlevel props in ap (limit_with rr rb wr wb tick) one

-- numbers that make a limit pass the test
is_limit-facts : (rr rb wr wb tick : ℕ) → IsLimit rr rb wr wb tick → is_limit rr rb wr wb tick ≡ true
is_limit-facts rr rb wr wb tick facts = rw (
  le-leb 1 rr facts.reads,
  le-leb rr rb facts.read_within,
  le-leb 1 wr facts.writes,
  le-leb wr wb facts.write_within,
  le-leb rb (2 ^ 40) facts.read_burst_within,
  le-leb wb (2 ^ 40) facts.write_burst_within,
  le-leb 1 tick facts.ticks,
  le-leb tick (2 ^ 20) facts.tick_within,
) refl

abbrev pub facts_of : (limit : LimitCfg) → IsLimit limit.read_rate limit.read_burst limit.write_rate limit.write_burst limit.tick_ms
facts_of limit = record {
  reads = limit.reads;
  read_within = limit.read_within;
  writes = limit.writes;
  write_within = limit.write_within;
  read_burst_within = limit.read_burst_within;
  write_burst_within = limit.write_burst_within;
  ticks = limit.ticks;
  tick_within = limit.tick_within;
}

-- a limit is that of its numbers
pub limit_of-numbers : (limit : LimitCfg) →
    limit_of limit.read_rate limit.read_burst limit.write_rate limit.write_burst limit.tick_ms ≡ Some limit
limit_of-numbers limit =
    let rr = limit.read_rate in
    let rb = limit.read_burst in
    let wr = limit.write_rate in
    let wb = limit.write_burst in
    let tick = limit.tick_ms in
    let test = is_limit-facts rr rb wr wb tick (facts_of limit) in
    when-true (is_limit rr rb wr wb tick) (λ right. limit_with rr rb wr wb tick (limit_facts rr rb wr wb tick right)) test
    (λ p q. limit_with-same rr rb wr wb tick (limit_facts rr rb wr wb tick p) (limit_facts rr rb wr wb tick q))
    ∙ ap Some (limit_with-same rr rb wr wb tick (limit_facts rr rb wr wb tick test) (facts_of limit))

-- nothing is wrong with numbers that make a limit
limit_verdict-facts : (rr rb wr wb tick : ℕ) → IsLimit rr rb wr wb tick → limit_verdict rr rb wr wb tick ≡ None
limit_verdict-facts rr rb wr wb tick facts = grind (arith, nat_tests)

-- what a call of `LimitCfg::new` answered is the limit of its numbers
pub limit_of-answer : (r : Result LimitCfg LimitFault) (rr rb wr wb tick : ℕ) → fault_of r ≡ limit_verdict rr rb wr wb tick →
    IfOk r (λ l. l.read_rate ≡ rr) → IfOk r (λ l. l.read_burst ≡ rb) → IfOk r (λ l. l.write_rate ≡ wr) →
    IfOk r (λ l. l.write_burst ≡ wb) → IfOk r (λ l. l.tick_ms ≡ tick) →
    limit_of rr rb wr wb tick ≡ result_ok r
limit_of-answer (Ok limit) rr rb wr wb tick verdict a b c d e =
    ap (λ n. limit_of n rb wr wb tick) (sym a)
    ∙ ap (λ n. limit_of limit.read_rate n wr wb tick) (sym b)
    ∙ ap (λ n. limit_of limit.read_rate limit.read_burst n wb tick) (sym c)
    ∙ ap (λ n. limit_of limit.read_rate limit.read_burst limit.write_rate n tick) (sym d)
    ∙ ap (λ n. limit_of limit.read_rate limit.read_burst limit.write_rate limit.write_burst n) (sym e)
    ∙ limit_of-numbers limit
limit_of-answer (Err fault) rr rb wr wb tick verdict a b c d e = by_test (is_limit rr rb wr wb tick) refl
  where
    by_test : (test : Bool) → is_limit rr rb wr wb tick ≡ test → limit_of rr rb wr wb tick ≡ None
    by_test false wrong =
        when-false (is_limit rr rb wr wb tick) (λ right. limit_with rr rb wr wb tick (limit_facts rr rb wr wb tick right)) wrong
    by_test true right = let none = limit_verdict-facts rr rb wr wb tick (limit_facts rr rb wr wb tick right) in absurd cc
