-- How much a step makes at most.
use Rattle.std.proofs.Common.{◌≡◌, ℕ, suc, ◌+◌, ◌*◌, ◌%◌, ◌≤◌, Bool, true, false, not, ◌==◌, ◌&&◌, ◌||◌, if◌then◌else◌, List, [], ◌∷◌, ◌++◌}
use Rattle.std.proofs.Common.{length, take, Option, Some, refl, ◌∙◌, ap, arith, length-append, append-nil}
use Rattle.std.specs.Prelude.{is_some, nat_le, nat_lt, max, unwrap_or}
use Rattle.std.specs.List.{last_or}
use Rattle.std.proofs.lemmas.Bool.Decides.{nat_tests}
use Rattle.ev_types.specs.declared.filter.FilterKind.{FilterKind}
use Rattle.ev_types.specs.declared.filter.FilterKind.TheVariants as kind
use Rattle.filter_model.specs.Filter.{CR, LF, hex_value}
use Rattle.filter_model.specs.FilterRun.{is_cr, adds, is_bad_byte, Ran, goes_on, run, is_end_bad, holds_byte, end_adds}
use Rattle.filter_model.specs.FilterStep.{count_of, run_of, after_bytes, is_finished, ending, most_made}
use Rattle.filter_model.specs.FilterCuts.{FitsTarget, StepFits}
use Rattle.filter_model.specs.Running.{Running}
use Rattle.filter_model.proofs.FilterRunLemmas.{run-within}

-- 1 where it holds
abbrev one_if : Bool → ℕ
one_if b = if b then 1 else 0

pub adds-two : (k : FilterKind) (count : ℕ) (last : Option ℕ) (x : ℕ) → length (adds k count last x) ≤ 2
adds-two kind.None count last x = omega arith
adds-two kind.ToCrlf count last x = by_lf (x == LF && not (is_cr last))
  where
    by_lf : (b : Bool) → length (if b then CR ∷ LF ∷ [] else x ∷ []) ≤ 2
    by_lf true = omega arith
    by_lf false = omega arith
adds-two kind.ToLf count last x = by_tests (is_cr last && not (x == LF)) (x == CR)
  where
    by_tests : (b c : Bool) → length ((if b then CR ∷ [] else []) ++ (if c then [] else x ∷ [])) ≤ 2
    by_tests true true = omega arith
    by_tests true false = omega arith
    by_tests false true = omega arith
    by_tests false false = omega arith
adds-two kind.HexOut count last x = omega arith
adds-two kind.HexIn count last x = by_parity (count % 2 == 1)
  where
    by_parity : (b : Bool) → length (if b then (16 * hex_value (unwrap_or last 0) + hex_value x) ∷ [] else []) ≤ 2
    by_parity true = omega arith
    by_parity false = omega arith

-- a run passes the limit by at most one byte
run-passes : (k : FilterKind) (limit n count : ℕ) (last : Option ℕ) (src : List ℕ) →
    n + length (run k limit n count last src).made ≤ max n (limit + 1)
run-passes k limit n count last [] = omega arith
run-passes k limit n count last (x ∷ src) =
    go (run-passes k limit (n + length (adds k count last x)) (count + 1) (Some x) src) (adds-two k count last x) (nat_le limit n) refl
    (is_bad_byte k x)
  where
    out : List ℕ
    out = adds k count last x

    rest : Ran
    rest = run k limit (n + length (adds k count last x)) (count + 1) (Some x) src

    go : n + length out + length rest.made ≤ max (n + length out) (limit + 1) → length out ≤ 2 → (b : Bool) → nat_le limit n ≡ b →
        (c : Bool) → n + length (goes_on (b || c) out rest).made ≤ max n (limit + 1)
    go h two true e c = omega arith
    go h two false e true = omega arith
    go h two false e false =
        let lt : n + 1 ≤ limit = grind (arith, nat_tests, e) in
        omega (arith, length-append out rest.made, h, two, lt)

-- a run at the limit makes nothing
run-idle : (k : FilterKind) (limit n count : ℕ) (last : Option ℕ) (src : List ℕ) → limit ≤ n → (run k limit n count last src).made ≡ []
run-idle k limit n count last [] le = refl
run-idle k limit n count last (x ∷ src) le =
    let e : nat_le limit n ≡ true = grind (arith, nat_tests, le) in
    let rest : Ran = run k limit (n + length (adds k count last x)) (count + 1) (Some x) src in
    ap (λ b. (goes_on (b || is_bad_byte k x) (adds k count last x) rest).made) e

-- Each byte adds at most a fixed size to what was made and what is held, which goes by the count of bytes and the last of them.
module _ (k : FilterKind) (size : List ℕ → ℕ) (held : ℕ → Option ℕ → ℕ) (size-nil : size [] ≡ 0)
    (size-append : (xs ys : List ℕ) → size (xs ++ ys) ≡ size xs + size ys)
    (one : (count : ℕ) (last : Option ℕ) (x : ℕ) → size (adds k count last x) + held (count + 1) (Some x) ≤ 2 + held count last) where
  run-size : (limit n count : ℕ) (last : Option ℕ) (src : List ℕ) → let r = run k limit n count last src in
      size r.made + held (count + r.used) (last_or last (take r.used src)) ≤ 2 * r.used + held count last
  run-size limit n count last [] =
      (let e : held (count + 0) last ≡ held count last = (let a : count + 0 ≡ count = omega arith in ap (λ m. held m last) a) in
      omega (arith, e, size-nil))
  run-size limit n count last (x ∷ src) =
      go (run-size limit (n + length (adds k count last x)) (count + 1) (Some x) src) (nat_le limit n || is_bad_byte k x)
    where
      out : List ℕ
      out = adds k count last x

      rest : Ran
      rest = run k limit (n + length (adds k count last x)) (count + 1) (Some x) src

      go : size rest.made + held (count + 1 + rest.used) (last_or (Some x) (take rest.used src)) ≤ 2 * rest.used + held (count + 1)
          (Some x) → (b : Bool) →
          size (goes_on b out rest).made + held (count + (goes_on b out rest).used)
          (last_or last (take (goes_on b out rest).used (x ∷ src))) ≤ 2 * (goes_on b out rest).used + held count last
      go h true = (let e : held (count + 0) last ≡ held count last =
          (let a : count + 0 ≡ count = omega arith in ap (λ m. held m last) a) in omega (arith, e, size-nil))
      go h false =
          let a : count + suc rest.used ≡ count + 1 + rest.used = omega arith in
          let last' : Option ℕ = last_or last (take (goes_on false out rest).used (x ∷ src)) in
          let e : held (count + (goes_on false out rest).used) last' ≡ held (count + 1 + rest.used) last' = ap (λ m. held m last') a in
          omega (arith, e, size-append out rest.made, one count last x, h)

-- what is held, in the size of its filter
abbrev held_by : FilterKind → ℕ → Option ℕ → ℕ
held_by kind.None count last = 0
held_by kind.ToCrlf count last = 0
held_by kind.ToLf count last = 2 * one_if (is_cr last)
held_by kind.HexOut count last = 0
held_by kind.HexIn count last = 2 * (count % 2)

abbrev size_by : FilterKind → List ℕ → ℕ
size_by kind.None ys = 2 * length ys
size_by kind.ToCrlf ys = length ys
size_by kind.ToLf ys = 2 * length ys
size_by kind.HexOut ys = length ys
size_by kind.HexIn ys = 4 * length ys

size_by-nil : (k : FilterKind) → size_by k [] ≡ 0
size_by-nil kind.None = refl
size_by-nil kind.ToCrlf = refl
size_by-nil kind.ToLf = refl
size_by-nil kind.HexOut = refl
size_by-nil kind.HexIn = refl

size_by-append : (k : FilterKind) (xs ys : List ℕ) → size_by k (xs ++ ys) ≡ size_by k xs + size_by k ys
size_by-append kind.None xs ys = omega (arith, length-append xs ys)
size_by-append kind.ToCrlf xs ys = length-append xs ys
size_by-append kind.ToLf xs ys = omega (arith, length-append xs ys)
size_by-append kind.HexOut xs ys = length-append xs ys
size_by-append kind.HexIn xs ys = omega (arith, length-append xs ys)

byte-size : (k : FilterKind) (count : ℕ) (last : Option ℕ) (x : ℕ) →
    size_by k (adds k count last x) + held_by k (count + 1) (Some x) ≤ 2 + held_by k count last
byte-size kind.None count last x = omega arith
byte-size kind.ToCrlf count last x = (let h = adds-two kind.ToCrlf count last x in omega (arith, h))
byte-size kind.ToLf count last x = by_tests (is_cr last) (x == LF) refl (x == CR) refl
  where
    by_tests : (b c : Bool) → (x == LF) ≡ c → (d : Bool) → (x == CR) ≡ d →
        2 * length ((if b && not c then CR ∷ [] else []) ++ (if d then [] else x ∷ [])) + 2 * one_if d ≤ 2 + 2 * one_if b
    by_tests true true e true h = omega arith
    by_tests true true e false h = omega arith
    by_tests true false e true h = omega arith
    by_tests true false e false h = omega arith
    by_tests false c e true h = omega arith
    by_tests false c e false h = omega arith
byte-size kind.HexOut count last x = omega arith
byte-size kind.HexIn count last x = by_parity (count % 2 == 1) refl
  where
    by_parity : (b : Bool) → (count % 2 == 1) ≡ b →
        4 * length (if b then (16 * hex_value (unwrap_or last 0) + hex_value x) ∷ [] else []) + 2 * ((count + 1) % 2) ≤ 2 + 2 * (count % 2)
    by_parity true e = (let h : count % 2 ≡ 1 = grind (arith, nat_tests, e) in omega (arith, h))
    by_parity false e = omega arith

end-most : (k : FilterKind) (count : ℕ) (last after : Option ℕ) (now made used n : ℕ) → (xs : List ℕ) → length xs ≡ made → used ≤ n →
    size_by k xs + held_by k now after ≤ 2 * used + held_by k count last → made + length (end_adds k after) ≤ most_made k n
end-most kind.None count last after now made used n xs e le h = omega arith
end-most kind.ToCrlf count last after now made used n xs e le h = omega arith
end-most kind.ToLf count last after now made used n xs e le h = by_cr (is_cr last) (is_cr after) h
  where
    by_cr : (b c : Bool) → 2 * length xs + 2 * one_if c ≤ 2 * used + 2 * one_if b → made + length (if c then CR ∷ [] else []) ≤ n + 1
    by_cr true true h = omega arith
    by_cr true false h = omega arith
    by_cr false true h = omega arith
    by_cr false false h = omega arith
end-most kind.HexOut count last after now made used n xs e le h = omega arith
end-most kind.HexIn count last after now made used n xs e le h = omega arith

pub end-one : (k : FilterKind) (last : Option ℕ) → length (end_adds k last) ≤ 1
end-one kind.None last = omega arith
end-one kind.ToCrlf last = omega arith
end-one kind.ToLf last = by_cr (is_cr last)
  where
    by_cr : (b : Bool) → length (if b then CR ∷ [] else []) ≤ 1
    by_cr true = omega arith
    by_cr false = omega arith
end-one kind.HexOut last = omega arith
end-one kind.HexIn last = omega arith

-- without room the end adds nothing where nothing is held
end-none : (k : FilterKind) (count : ℕ) (last : Option ℕ) → (not (holds_byte k count last) || false) ≡ true → end_adds k last ≡ []
end-none kind.None count last h = refl
end-none kind.ToCrlf count last h = refl
end-none kind.ToLf count last h = by_cr (is_cr last) h
  where
    by_cr : (b : Bool) → (not b || false) ≡ true → (if b then CR ∷ [] else []) ≡ []
    by_cr true h = absurd (cc)
    by_cr false h = refl
end-none kind.HexOut count last h = refl
end-none kind.HexIn count last h = refl

module _ (x : Running) (over : Bool) (limit n : ℕ) (src : List ℕ) where
  abbrev ran : Ran
  ran = run_of x limit n src

  abbrev ran_on : Running
  ran_on = after_bytes x (take (run_of x limit n src).used src)

  most : length ran.made + length (end_adds x.kind ran_on.last) ≤ most_made x.kind (length src)
  most =
      end-most x.kind (count_of x) x.last ran_on.last (count_of x + ran.used) (length ran.made) ran.used (length src) ran.made refl
      (run-within x.kind limit n (count_of x) x.last src)
      (run-size x.kind (size_by x.kind) (held_by x.kind) (size_by-nil x.kind) (size_by-append x.kind) (byte-size x.kind) limit n
      (count_of x) x.last src)

  passes : n + length ran.made ≤ max n (limit + 1)
  passes = run-passes x.kind limit n (count_of x) x.last src

  idle : limit ≤ n → ran.made ≡ []
  idle le = run-idle x.kind limit n (count_of x) x.last src le

  with-end : (all room : Bool) → nat_lt (n + length ran.made) limit ≡ room → (b : Bool) → is_finished ran_on all over room ≡ b →
      FitsTarget x.kind limit n (length src) (ran.made ++ (if b then end_adds x.kind ran_on.last else []))
  with-end all room r false e = record {
    most = (let a = most in omega (arith, length-append ran.made [], a));
    passes_by_one = (let a = passes in omega (arith, length-append ran.made [], a));
    unchanged = λ le. append-nil ran.made ∙ idle le;
  }
  with-end all true r true e = record {
    most = (let a = most in omega (arith, length-append ran.made (end_adds x.kind ran_on.last), a));
    passes_by_one =
        (let a : n + length ran.made + 1 ≤ limit = grind (arith, nat_tests, r) in
        omega (arith, length-append ran.made (end_adds x.kind ran_on.last), a, end-one x.kind ran_on.last));
    unchanged = λ le. absurd (let a : n + length ran.made + 1 ≤ limit = grind (arith, nat_tests, r) in omega (arith, a, le));
  }
  with-end all false r true e = record {
    most = (let a = most in omega (arith, length-append ran.made (end_adds x.kind ran_on.last), a));
    passes_by_one = (let a = passes in omega (arith, length-append ran.made (end_adds x.kind ran_on.last), a, ap length none));
    unchanged = λ le. (λ i. idle le i ++ none i);
  }
    where
      last_part : (a b : Bool) → (a && b) ≡ true → b ≡ true
      last_part true b h = h
      last_part false b h = absurd (cc)

      none : end_adds x.kind ran_on.last ≡ []
      none =
          end-none x.kind (count_of ran_on) ran_on.last
          (last_part (all && over && not (is_end_bad x.kind (count_of ran_on)))
          (not (holds_byte x.kind (count_of ran_on) ran_on.last) || false) e)

  fits : (b : Bool) → (x.finished || is_some x.stopped) ≡ b →
      FitsTarget x.kind limit n (length src)
      (if b then record { used = 0; made = []; after = x } else ending ran_on ran (ran.used == length src) over
      (nat_lt (n + length ran.made) limit)).made
  fits true e = record { most = omega arith; passes_by_one = omega arith; unchanged = λ le. refl }
  fits false e =
      with-end (ran.used == length src) (nat_lt (n + length ran.made) limit) refl
      (is_finished ran_on (ran.used == length src) over (nat_lt (n + length ran.made) limit)) refl

pub step_fits : StepFits
step_fits x over limit n src = fits x over limit n src (x.finished || is_some x.stopped) refl
