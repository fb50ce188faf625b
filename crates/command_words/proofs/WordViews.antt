-- The three kinds of words, as clap and the grammar see them: one that begins with two hyphens, one that begins with one, and others.
use Rattle.std.proofs.Common.{◌≡◌, ◌<◌, ◌==◌, ◌&&◌, ℕ, Bool, cond, true, false, refl, ap, arith, List, [], ◌∷◌, length, Option, Some, None}
use Rattle.std.proofs.Common.{true≢false, option_map, inl, inr, chars, encode_utf8_all, IsUtf8, slice_get, map, String, string_bytes}
use Rattle.std.specs.Prelude.{◌⊎◌}
use Rattle.std.specs.List.{list_any, before_first, after_first}
use Rattle.std.specs.Str.{bytes_eq}
use Rattle.std.proofs.lemmas.Bool.Decides.{Decides-eqb}
use Rattle.std.proofs.lemmas.Str.{encodes-chars, IsUtf8-drop, IsUtf8-string_bytes, IsCharBoundary-after_ascii}
use Rattle.clap.specs.Lexer.{long_of, name_and_value, short_of}
use Rattle.command_words.specs.Options.{has_hyphen, is_bare, name_in, option_word}

-- the bytes of a word, as the grammar sees them and as clap does
pub record IsLong (word : List ℕ) : Type 0 where
  pub name : List ℕ
  pub value : Option (List ℕ)
  pub more : bytes_eq word (45 ∷ 45 ∷ []) ≡ false
  pub long : long_of word ≡ Some (name, value)
  pub option : option_word word ≡ Some (name, value)
  pub hyphen : has_hyphen word ≡ true

pub record IsShort (word : List ℕ) : Type 0 where
  pub first : ℕ
  pub others : List ℕ
  pub char : ℕ
  pub more : bytes_eq word (45 ∷ 45 ∷ []) ≡ false
  pub long : long_of word ≡ None
  pub short : short_of word ≡ Some (first ∷ others)
  pub chars : slice_get (chars (first ∷ others)) 0 ≡ Some char
  pub option : option_word word ≡ None
  pub hyphen : has_hyphen word ≡ true

pub record IsPlain (word : List ℕ) : Type 0 where
  pub more : bytes_eq word (45 ∷ 45 ∷ []) ≡ false
  pub long : long_of word ≡ None
  pub short : short_of word ≡ None
  pub option : option_word word ≡ None
  pub hyphen : has_hyphen word ≡ false

-- a text that is not empty has a first character
first_char : (cs : List ℕ) (b : ℕ) (bs : List ℕ) → encode_utf8_all cs ≡ b ∷ bs → (c : ℕ) × (slice_get cs 0 ≡ Some c)
first_char [] b bs e = absurd (omega (arith, ap length e))
first_char (c ∷ cs) b bs e = (c, refl)

pub same : (a b : ℕ) → (a == b) ≡ true → a ≡ b
same a b e = (Decides-eqb a b).0 e

-- the name and the value are cut alike
name_in-clap : (text : List ℕ) → name_and_value text ≡ name_in text
name_in-clap text = go (list_any (λ b. b == 61) text)
  where
    go : (b : Bool) → ◌≡◌ {A = List ℕ × Option (List ℕ)}
        (before_first (λ x. x == 61) text, cond b (Some (after_first (λ x. x == 61) text)) None) (
          before_first (λ x. x == 61) text,
          option_map (λ (c : List ℕ × List ℕ). c.1)
              (cond b (Some (before_first (λ x. x == 61) text, after_first (λ x. x == 61) text)) None),
        )
    go true = refl
    go false = refl

no_option : (a b : ℕ) (bs : List ℕ) → ((a == 45) && (b == 45)) ≡ false → option_word (a ∷ b ∷ bs) ≡ None
no_option a b [] e = refl
no_option a b (c ∷ cs) e = rw e refl

is_short : (a b : ℕ) (bs : List ℕ) → (a == 45) ≡ true → (b == 45) ≡ false → IsUtf8 (a ∷ b ∷ bs) → IsShort (a ∷ b ∷ bs)
is_short a b bs e f utf8 =
    let is : a ≡ 45 = same a 45 e in
    let low : a < 128 = omega (arith, is) in
    let behind : IsUtf8 (b ∷ bs) = IsUtf8-drop (a ∷ b ∷ bs) 1 utf8 (IsCharBoundary-after_ascii (a ∷ b ∷ bs) 0 utf8 (omega arith) low) in
    let first = first_char (chars (b ∷ bs)) b bs (encodes-chars (b ∷ bs) behind) in
    record {
      first = b;
      others = bs;
      char = first.0;
      more = rw (e, f) refl;
      long = rw (e, f) refl;
      short = rw (e, f) refl;
      chars = first.1;
      option = no_option a b bs (rw (e, f) refl);
      hyphen = e;
    }

is_long : (a b : ℕ) (bs : List ℕ) → (a == 45) ≡ true → (b == 45) ≡ true → is_bare (a ∷ b ∷ bs) ≡ false → IsLong (a ∷ b ∷ bs)
is_long a b [] e f full = absurd (true≢false (rw (e, f) at full))
is_long a b (c ∷ cs) e f full = record {
  name = (name_in (c ∷ cs)).0;
  value = (name_in (c ∷ cs)).1;
  more = rw (e, f) refl;
  long = rw (e, f) (ap Some (name_in-clap (c ∷ cs)));
  option = rw (e, f) refl;
  hyphen = e;
}

hyphen_view : (a b : ℕ) (bs : List ℕ) (second : Bool) → (b == 45) ≡ second → (a == 45) ≡ true → IsUtf8 (a ∷ b ∷ bs)
    → is_bare (a ∷ b ∷ bs) ≡ false
    → IsLong (a ∷ b ∷ bs) ⊎ (IsShort (a ∷ b ∷ bs) ⊎ IsPlain (a ∷ b ∷ bs))
hyphen_view a b bs true f e utf8 full = inl (is_long a b bs e f full)
hyphen_view a b bs false f e utf8 full = inr (inl (is_short a b bs e f utf8))

view_of : (a : ℕ) (bs : List ℕ) (hyphen : Bool) → (a == 45) ≡ hyphen → IsUtf8 (a ∷ bs) → is_bare (a ∷ bs) ≡ false
    → IsLong (a ∷ bs) ⊎ (IsShort (a ∷ bs) ⊎ IsPlain (a ∷ bs))
view_of a [] false e utf8 full = inr (inr (record { more = rw e refl; long = rw e refl; short = rw e refl; option = refl; hyphen = e }))
view_of a [] true e utf8 full = absurd (true≢false (rw e at full))
view_of a (b ∷ bs) false e utf8 full =
    inr (inr (record { more = rw e refl; long = rw e refl; short = rw e refl; option = no_option a b bs (rw e refl); hyphen = e }))
view_of a (b ∷ bs) true e utf8 full = hyphen_view a b bs (b == 45) refl e utf8 full

-- each word that is not bare is of one of the kinds
pub word_view : (word : List ℕ) → IsUtf8 word → is_bare word ≡ false → IsLong word ⊎ (IsShort word ⊎ IsPlain word)
word_view [] utf8 full = absurd (true≢false full)
word_view (a ∷ bs) utf8 full = view_of a bs (a == 45) refl utf8 full

-- each word is text
abbrev pub AreTexts : List (List ℕ) → Type 0
AreTexts [] = Unit {0}
AreTexts (word ∷ more) = IsUtf8 word × AreTexts more

pub strings_are_texts : {Z : Type 0} (words : List (String Z)) → AreTexts (map string_bytes words)
strings_are_texts [] = tt
strings_are_texts (word ∷ more) = (IsUtf8-string_bytes word, strings_are_texts more)
