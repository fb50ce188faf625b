-- Runs over bytes that add themselves.
use Rattle.std.proofs.Common.{◌≡◌, ℕ, zero, suc, ◌+◌, ◌≤◌, Bool, true, false, not, ◌==◌, ◌&&◌, ◌||◌, if◌then◌else◌, List, [], ◌∷◌, ◌++◌}
use Rattle.std.proofs.Common.{length, take, drop, Option, Some, None, refl, ◌∙◌, arith}
use Rattle.std.specs.Prelude.{All, nat_le, nat_eq, ◌≢◌}
use Rattle.std.specs.Option.{option_eq}
use Rattle.std.specs.List.{last_or}
use Rattle.std.proofs.lemmas.Bool.{eqb-true}
use Rattle.std.proofs.lemmas.Bool.Decides.{nat_tests}
use Rattle.ev_types.specs.declared.filter.FilterKind.{FilterKind}
use Rattle.ev_types.specs.declared.filter.FilterKind.TheVariants as kind
use Rattle.filter_model.specs.Filter.{CR, LF}
use Rattle.filter_model.specs.FilterRun.{Ran, goes_on, run, adds, is_bad_byte, is_cr}
use Rattle.filter_model.specs.FilterCuts.{joined}

-- each byte is good and adds itself alone, behind the one before it
pub data IsPlain (k : FilterKind) : Option ℕ → List ℕ → Type 0 where
  plain_end : {last : Option ℕ} → IsPlain k last []
  plain_byte : {last : Option ℕ} {x : ℕ} {xs : List ℕ} → ((count : ℕ) → adds k count last x ≡ x ∷ []) → is_bad_byte k x ≡ false →
      IsPlain k (Some x) xs → IsPlain k last (x ∷ xs)

pub run-plain : (k : FilterKind) (limit n count : ℕ) (last : Option ℕ) (src : List ℕ) (used : ℕ) → used ≤ length src → n + used ≤ limit →
    IsPlain k last (take used src) →
    run k limit n count last src ≡ joined (record { used = used; made = take used src })
    (run k limit (n + used) (count + used) (last_or last (take used src)) (drop used src))
run-plain k limit n count last src zero there room plain =
    let a : n ≡ n + 0 = omega arith in
    let b : count ≡ count + 0 = omega arith in
    let r : Ran = run k limit (n + 0) (count + 0) last src in
    let z : r.used ≡ 0 + r.used = omega arith in
    (λ i. run k limit (a i) (b i) last src) ∙ (λ i. record { used = z i; made = r.made })
run-plain k limit n count last [] (suc used) there room plain = absurd (omega arith)
run-plain k limit n count last (x ∷ src) (suc used) there room (IsPlain.plain_byte one good rest) =
    let below : nat_le limit n ≡ false = grind (arith, nat_tests, room) in
    let ih = run-plain k limit (n + 1) (count + 1) (Some x) src used (omega arith) (omega (arith, room)) rest in
    let a : n + 1 + used ≡ n + suc used = omega arith in
    let b : count + 1 + used ≡ count + suc used = omega arith in
    let r : Ran = run k limit (n + suc used) (count + suc used) (last_or (Some x) (take used src)) (drop used src) in
    let c : suc (used + r.used) ≡ suc used + r.used = omega arith in
    (λ i. goes_on (below i || good i) (one count i) (run k limit (n + length (one count i)) (count + 1) (Some x) src))
    ∙ (λ i. goes_on false (x ∷ []) (ih i))
    ∙ (λ i. goes_on false (x ∷ [])
    (joined (record { used = used; made = take used src })
    (run k limit (a i) (b i) (last_or (Some x) (take used src)) (drop used src))))
    ∙ (λ i. record { used = c i; made = x ∷ (take used src ++ r.made) })

pub plain-none : (last : Option ℕ) (xs : List ℕ) → IsPlain kind.None last xs
plain-none last [] = IsPlain.plain_end
plain-none last (x ∷ xs) = IsPlain.plain_byte (λ count. refl) refl (plain-none (Some x) xs)

tail_of : (P : ℕ → Type 0) (x : ℕ) (xs : List ℕ) → All P (x ∷ xs) → All P xs
tail_of P x xs h k d lt = h (suc k) d (omega (arith, lt))

head_of : (P : ℕ → Type 0) (x : ℕ) (xs : List ℕ) → All P (x ∷ xs) → P x
head_of P x xs h = h 0 0 (omega arith)

pub differs : (x y : ℕ) → x ≢ y → (x == y) ≡ false
differs x y apart = go (x == y) refl
  where
    go : (b : Bool) → (x == y) ≡ b → (x == y) ≡ false
    go true e = absurd (apart (eqb-true x y e))
    go false e = e

-- to-crlf leaves every byte that isn't LF
pub plain-crlf : (last : Option ℕ) (xs : List ℕ) → All (λ x. x ≢ LF) xs → IsPlain kind.ToCrlf last xs
plain-crlf last [] h = IsPlain.plain_end
plain-crlf last (x ∷ xs) h =
    let e : (x == LF) ≡ false = differs x LF (head_of (λ y. y ≢ LF) x xs h) in
    IsPlain.plain_byte (λ count i. if e i && not (is_cr last) then CR ∷ LF ∷ [] else x ∷ []) refl
    (plain-crlf (Some x) xs (tail_of (λ y. y ≢ LF) x xs h))

-- to-lf leaves every byte that isn't CR, where none is held
pub plain-lf : (last : Option ℕ) (xs : List ℕ) → is_cr last ≡ false → All (λ x. x ≢ CR) xs → IsPlain kind.ToLf last xs
plain-lf last [] free h = IsPlain.plain_end
plain-lf last (x ∷ xs) free h =
    let e : (x == CR) ≡ false = differs x CR (head_of (λ y. y ≢ CR) x xs h) in
    IsPlain.plain_byte (λ count i. (if free i && not (x == LF) then CR ∷ [] else []) ++ (if e i then [] else x ∷ [])) refl
    (plain-lf (Some x) xs e (tail_of (λ y. y ≢ CR) x xs h))

pub is_cr-eq : (last : Option ℕ) → is_cr last ≡ option_eq nat_eq last (Some CR)
is_cr-eq None = refl
is_cr-eq (Some x) = refl
