-- The bytes of the generator, step by step.
use Rattle.std.proofs.Common.{◌≡◌, ◌<◌, ◌+◌, ℕ, zero, suc, [], ◌∷◌, ◌++◌, length, refl, ap, ◌∙◌, arith}
use Rattle.std.specs.Prelude.{All}
use Rattle.std.proofs.lemmas.List.Elements.{All-nil, All-cons}
use Rattle.big_script.specs.Generated.{next_number, byte_given, number_after, generated}

-- one step
pub generated-suc : (n x : ℕ) → generated (suc n) x ≡ byte_given (next_number x) ∷ generated n (next_number x)
unfolding generated
generated-suc n x = refl

pub generated-zero : (x : ℕ) → generated 0 x ≡ []
unfolding generated
generated-zero x = refl

pub number_after-zero : (x : ℕ) → number_after 0 x ≡ x
unfolding number_after
number_after-zero x = refl

-- one step more at the end
pub generated-more : (n x : ℕ) → generated (n + 1) x ≡ generated n x ++ byte_given (next_number (number_after n x)) ∷ []
unfolding generated number_after
generated-more zero x = refl
generated-more (suc n) x =
    let e : suc n + 1 ≡ suc (n + 1) = omega arith in
    ap (λ k. generated k x) e ∙ ap (λ more. byte_given (next_number x) ∷ more) (generated-more n (next_number x))

pub number_after-more : (n x : ℕ) → number_after (n + 1) x ≡ next_number (number_after n x)
unfolding number_after
number_after-more zero x = refl
number_after-more (suc n) x =
    let e : suc n + 1 ≡ suc (n + 1) = omega arith in
    ap (λ k. number_after k x) e ∙ number_after-more n (next_number x)

-- as many bytes as steps
pub length-generated : (n x : ℕ) → length (generated n x) ≡ n
unfolding generated
length-generated zero x = refl
length-generated (suc n) x = omega (arith, length-generated n (next_number x))

-- and they are bytes
pub generated-bytes : (n x : ℕ) → All (λ b. b < 256) (generated n x)
unfolding generated
generated-bytes zero x = All-nil (λ b. b < 256)
generated-bytes (suc n) x =
    let small : byte_given (next_number x) < 256 = omega arith in
    All-cons (λ b. b < 256) (byte_given (next_number x)) (generated n (next_number x)) small (generated-bytes n (next_number x))
