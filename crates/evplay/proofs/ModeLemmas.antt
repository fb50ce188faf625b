-- Words that ask for the generated script ask for at most 64 links.
use Rattle.std.proofs.Common.{◌≡◌, ◌≤◌, ℕ, Bool, true, false, nat_lt, List, [], ◌∷◌, Option, Some, None, codes, refl, subst, arith}
use Rattle.std.proofs.Common.{if◌then◌else◌}
use Rattle.std.specs.Prelude.{option_map, option_and_then, IfSome}
use Rattle.std.specs.Str.{bytes_eq}
use Rattle.script_text.specs.Numbers.{number_within}
use Rattle.script_text.proofs.LawLemmas.{decimal-number_within}
use Rattle.command_words.specs.ModeGrammar.{mode_named, drained_named, counted_named, mode_of}
use Rattle.command_words.specs.Values.{positive_within}
use Rattle.command_words.specs.declared.mode.Ending.TheVariants as ending
use Rattle.command_words.specs.declared.mode.ScriptKind.{ScriptKind}
use Rattle.command_words.specs.declared.mode.ScriptKind.TheVariants as mode
use Rattle.evplay.specs.Play.{HasFewLinks}

some-of : {A : Type 0} (P : A → Type 0) (o : Option A) (x : A) → o ≡ Some x → IfSome o P → P x
some-of P o x is h = subst (λ z. IfSome z P) is h

if-both : (b : Bool) (x y : Option ScriptKind) → IfSome x HasFewLinks → IfSome y HasFewLinks → IfSome (if b then x else y) HasFewLinks
if-both true x y p q = p
if-both false x y p q = q

named-few : (word : List ℕ) → IfSome (mode_named word) HasFewLinks
named-few word =
    if-both (bytes_eq word (codes "relay")) (Some (mode.Relay ending.LastTurn)) _ tt
    (if-both (bytes_eq word (codes "buffers")) (Some mode.Buffers) _ tt
    (if-both (bytes_eq word (codes "base")) (Some mode.Base) _ tt
    (if-both (bytes_eq word (codes "pairs")) (Some mode.Pairs) None tt tt)))

drained-few : (word : List ℕ) → IfSome (drained_named word) HasFewLinks
drained-few word = if-both (bytes_eq word (codes "relay")) (Some (mode.Relay ending.Drained)) None tt tt

positive-few : (word : List ℕ) → IfSome (option_map (λ links. mode.Big links) (positive_within 64 word)) HasFewLinks
positive-few word = go (number_within 64 word) refl
  where
    go : (o : Option ℕ) → number_within 64 word ≡ o →
        IfSome (option_map (λ links. mode.Big links) (option_and_then (λ n. if nat_lt 0 n then Some n else None) o)) HasFewLinks
    go None h = tt
    go (Some n) h = by_case (nat_lt 0 n)
      where
        few : n ≤ 64
        few = (decimal-number_within 64 n word (omega arith) h).1

        by_case : (b : Bool) → IfSome (option_map (λ links. mode.Big links) (if b then Some n else None)) HasFewLinks
        by_case true = few
        by_case false = tt

counted-few : (word number : List ℕ) → IfSome (counted_named word number) HasFewLinks
counted-few word number = if-both (bytes_eq word (codes "big")) _ None (positive-few number) tt

mode-few : (words : List (List ℕ)) → IfSome (mode_of words) HasFewLinks
mode-few [] = tt
mode-few (word ∷ []) = named-few word
mode-few (first ∷ second ∷ []) =
    if-both (bytes_eq first (codes "--drain")) _ _ (drained-few second)
    (if-both (bytes_eq second (codes "--drain")) _ _ (drained-few first) (counted-few first second))
mode-few (first ∷ second ∷ third ∷ more) = tt

pub few-links : (words : List (List ℕ)) (m : ScriptKind) → mode_of words ≡ Some m → HasFewLinks m
few-links words m is = some-of HasFewLinks (mode_of words) m is (mode-few words)
