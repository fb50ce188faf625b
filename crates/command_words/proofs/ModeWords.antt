-- What the grammar of modes makes of words, one by one: what they gave so far, and what that comes to.
use Rattle.std.proofs.Common.{◌≡◌, ◌∙◌, ◌==◌, ◌||◌, ◌+◌, ◌≤◌, ℕ, suc, Bool, cond, true, false, refl, sym, ap, arith, List, [], ◌∷◌, length}
use Rattle.std.proofs.Common.{codes, Option, Some, None, option_map, option_and_then, IfSome, subst, true≢false, bytes_eq}
use Rattle.std.specs.List.{list_any}
use Rattle.clap.specs.Walk.{Text}
use Rattle.command_words.specs.Options.{has_hyphen, is_bare}
use Rattle.command_words.specs.Values.{positive_within}
use Rattle.command_words.specs.ModeGrammar.{counted_named, drained_named, mode_named, mode_of}
use Rattle.command_words.specs.declared.mode.ScriptKind.{ScriptKind}
use Rattle.command_words.specs.declared.mode.ScriptKind.TheVariants.{Big}
use Rattle.command_words.proofs.OptionRules.{same_text}
use Rattle.command_words.proofs.WordViews.{same}

-- what words gave, in their order: words without a hyphen, and the flag
pub data Seen : Type 0 where
  nothing : Seen
  one : Text → Seen
  flag : Seen
  two : Text → Text → Seen
  one_flag : Text → Seen
  flag_one : Text → Seen
  two_flag : Text → Text → Seen
  one_flag_one : Text → Text → Seen
  flag_two : Text → Text → Seen

abbrev pub flag_word : Text
flag_word = codes "--drain"

-- the flag, at most once
abbrev pub with_flag : Seen → Option Seen
with_flag nothing = Some flag
with_flag (one a) = Some (one_flag a)
with_flag (two a b) = Some (two_flag a b)
with_flag _ = None

-- a word without a hyphen, at most twice
abbrev pub with_word : Text → Seen → Option Seen
with_word word nothing = Some (one word)
with_word word flag = Some (flag_one word)
with_word word (one a) = Some (two a word)
with_word word (one_flag a) = Some (one_flag_one a word)
with_word word (flag_one a) = Some (flag_two a word)
with_word word _ = None

abbrev pub next_of : Seen → Text → Option Seen
next_of s word = cond (bytes_eq word flag_word) (with_flag s) (cond (has_hyphen word) None (with_word word s))

abbrev pub seen_of : Seen → List Text → Option Seen
seen_of s [] = Some s
seen_of s (word ∷ more) = option_and_then (λ n. seen_of n more) (next_of s word)

-- what they come to
abbrev pub asks : Seen → Option ScriptKind
asks (one a) = mode_named a
asks (one_flag a) = drained_named a
asks (flag_one a) = drained_named a
asks (two a b) = counted_named a b
asks _ = None

pub or_false : (a b : Bool) → (a || b) ≡ false → (a ≡ false) × (b ≡ false)
or_false true b e = absurd (true≢false e)
or_false false b e = (refl, e)

cond-same : {A : Type 0} (b : Bool) (x : A) → cond b x x ≡ x
cond-same true x = refl
cond-same false x = refl

-- ---- a word that begins with a hyphen is no mode word and no number

pub mode_named-hyphen : (word : Text) → has_hyphen word ≡ true → mode_named word ≡ None
mode_named-hyphen [] e = refl
mode_named-hyphen (b ∷ bs) e = rw (same b 45 e) refl

pub drained_named-hyphen : (word : Text) → has_hyphen word ≡ true → drained_named word ≡ None
drained_named-hyphen [] e = refl
drained_named-hyphen (b ∷ bs) e = rw (same b 45 e) refl

pub counted_named-hyphen : (word number : Text) → has_hyphen word ≡ true → counted_named word number ≡ None
counted_named-hyphen [] number e = refl
counted_named-hyphen (b ∷ bs) number e = rw (same b 45 e) refl

no_number : (max : ℕ) (word : Text) → has_hyphen word ≡ true → positive_within max word ≡ None
no_number max [] e = refl
no_number max (b ∷ []) e = rw (same b 45 e) refl
no_number max (b ∷ c ∷ cs) e = rw (same b 45 e) refl

pub counted_named-no_number : (word number : Text) → has_hyphen number ≡ true → counted_named word number ≡ None
counted_named-no_number word number e =
    ap (λ n. cond (bytes_eq word (codes "big")) (option_map (λ links. Big links) n) None) (no_number 64 number e)
    ∙ cond-same (bytes_eq word (codes "big")) None

-- ---- no word of a mode is bare

by_bare : (P : Text → Type 0) → P [] → P (codes "-") → P (codes "--") → (word : Text) → is_bare word ≡ true → P word
by_bare P empty hyphen hyphens word e = go (bytes_eq word []) (bytes_eq word (codes "-")) (bytes_eq word (codes "--")) refl refl refl e
  where
    go : (a b c : Bool) → bytes_eq word [] ≡ a → bytes_eq word (codes "-") ≡ b → bytes_eq word (codes "--") ≡ c
        → (a || (b || c)) ≡ true → P word
    go true b c is_empty is_hyphen is_hyphens f = rw (same_text word [] is_empty) empty
    go false true c is_empty is_hyphen is_hyphens f = rw (same_text word (codes "-") is_hyphen) hyphen
    go false false true is_empty is_hyphen is_hyphens f = rw (same_text word (codes "--") is_hyphens) hyphens
    go false false false is_empty is_hyphen is_hyphens f = absurd (true≢false (sym f))

none_named : (word : Text) → is_bare word ≡ true → mode_named word ≡ None
none_named = by_bare (λ word. mode_named word ≡ None) refl refl refl

abbrev no_mode : Option ScriptKind
no_mode = None

none_first : (next word : Text) → is_bare word ≡ true → mode_of (word ∷ next ∷ []) ≡ None
none_first next =
    let none : cond (bytes_eq next flag_word) no_mode no_mode ≡ no_mode = cond-same (bytes_eq next flag_word) no_mode in
    by_bare (λ word. mode_of (word ∷ next ∷ []) ≡ None) none none none

none_second : (word next : Text) → is_bare next ≡ true → mode_of (word ∷ next ∷ []) ≡ None
none_second word =
    let none : cond (bytes_eq word flag_word) no_mode (cond (bytes_eq word (codes "big")) no_mode no_mode) ≡ no_mode =
    ap (λ n. cond (bytes_eq word flag_word) no_mode n) (cond-same (bytes_eq word (codes "big")) no_mode)
    ∙ cond-same (bytes_eq word flag_word) no_mode in
    by_bare (λ next. mode_of (word ∷ next ∷ []) ≡ None) none none none

by_either : {A : Type 0} (a b : Bool) → (a ≡ true → A) → (b ≡ true → A) → (a || (b || false)) ≡ true → A
by_either true b f g e = f refl
by_either false true f g e = g refl
by_either false false f g e = absurd (true≢false (sym e))

pub mode_of-bare : (words : List Text) → list_any is_bare words ≡ true → mode_of words ≡ None
mode_of-bare [] e = refl
mode_of-bare (word ∷ []) e = go (is_bare word) refl e
  where
    go : (bare : Bool) → is_bare word ≡ bare → (bare || false) ≡ true → mode_named word ≡ None
    go true is f = none_named word is
    go false is f = absurd (true≢false (sym f))
mode_of-bare (word ∷ next ∷ []) e = by_either (is_bare word) (is_bare next) (none_first next word) (none_second word next) e
mode_of-bare (word ∷ next ∷ third ∷ more) e = refl

-- ---- three words are too many

abbrev depth : Seen → ℕ
depth nothing = 0
depth (one a) = 1
depth flag = 1
depth (two a b) = 2
depth (one_flag a) = 2
depth (flag_one a) = 2
depth (two_flag a b) = 3
depth (one_flag_one a b) = 3
depth (flag_two a b) = 3

abbrev Deeper : ℕ → Option Seen → Type 0
Deeper n o = IfSome o (λ s. depth s ≡ n)

depth-flag : (s : Seen) → Deeper (suc (depth s)) (with_flag s)
depth-flag nothing = refl
depth-flag (one a) = refl
depth-flag flag = tt
depth-flag (two a b) = refl
depth-flag (one_flag a) = tt
depth-flag (flag_one a) = tt
depth-flag (two_flag a b) = tt
depth-flag (one_flag_one a b) = tt
depth-flag (flag_two a b) = tt

depth-word : (word : Text) (s : Seen) → Deeper (suc (depth s)) (with_word word s)
depth-word word nothing = refl
depth-word word (one a) = refl
depth-word word flag = refl
depth-word word (two a b) = tt
depth-word word (one_flag a) = refl
depth-word word (flag_one a) = refl
depth-word word (two_flag a b) = tt
depth-word word (one_flag_one a b) = tt
depth-word word (flag_two a b) = tt

depth-next : (s : Seen) (word : Text) → Deeper (suc (depth s)) (next_of s word)
depth-next s word = go (bytes_eq word flag_word) (has_hyphen word)
  where
    go : (b h : Bool) → Deeper (suc (depth s)) (cond b (with_flag s) (cond h None (with_word word s)))
    go true h = depth-flag s
    go false true = tt
    go false false = depth-word word s

depth-seen : (s : Seen) (words : List Text) → Deeper (length words + depth s) (seen_of s words)
depth-seen s [] = omega arith
depth-seen s (word ∷ more) = go (next_of s word) (depth-next s word) (λ n. depth-seen n more)
  where
    go : (o : Option Seen) → Deeper (suc (depth s)) o → ((n : Seen) → Deeper (length more + depth n) (seen_of n more))
        → Deeper (suc (length more) + depth s) (option_and_then (λ n. seen_of n more) o)
    go None d next = tt
    go (Some n) d next =
        let sum : length more + depth n ≡ suc (length more) + depth s = omega (arith, d) in
        subst (λ k. Deeper k (seen_of n more)) sum (next n)

asks-deep : (s : Seen) → 3 ≤ depth s → asks s ≡ None
asks-deep nothing d = refl
asks-deep (one a) d = absurd (omega (arith, d))
asks-deep flag d = refl
asks-deep (two a b) d = absurd (omega (arith, d))
asks-deep (one_flag a) d = absurd (omega (arith, d))
asks-deep (flag_one a) d = absurd (omega (arith, d))
asks-deep (two_flag a b) d = refl
asks-deep (one_flag_one a b) d = refl
asks-deep (flag_two a b) d = refl

too_many : (o : Option Seen) (n : ℕ) → 3 ≤ n → Deeper n o → option_and_then asks o ≡ None
too_many None n many d = refl
too_many (Some s) n many d = asks-deep s (omega (arith, many, d))

-- ---- the mode of the words is that of what they gave

one_word : (word : Text) → mode_named word ≡ option_and_then asks (option_and_then Some (next_of nothing word))
one_word word = go (bytes_eq word flag_word) refl (has_hyphen word) refl
  where
    go : (b : Bool) → bytes_eq word flag_word ≡ b → (h : Bool) → has_hyphen word ≡ h
        → mode_named word ≡ option_and_then asks (option_and_then Some (cond b (Some flag) (cond h None (Some (one word)))))
    go true is h hyphen = ap mode_named (same_text word flag_word is)
    go false is true hyphen = mode_named-hyphen word hyphen
    go false is false hyphen = refl

-- a word behind the flag
behind_flag : (word : Text) → drained_named word ≡ option_and_then asks (option_and_then Some (next_of flag word))
behind_flag word = go (bytes_eq word flag_word) refl (has_hyphen word) refl
  where
    go : (b : Bool) → bytes_eq word flag_word ≡ b → (h : Bool) → has_hyphen word ≡ h
        → drained_named word ≡ option_and_then asks (option_and_then Some (cond b None (cond h None (Some (flag_one word)))))
    go true is h hyphen = ap drained_named (same_text word flag_word is)
    go false is true hyphen = drained_named-hyphen word hyphen
    go false is false hyphen = refl

abbrev second_named : Text → Text → Option ScriptKind
second_named first word = cond (bytes_eq word flag_word) (drained_named first) (counted_named first word)

-- a word behind one that is not the flag
behind_word : (first word : Text) → second_named first word ≡ option_and_then asks (option_and_then Some (next_of (one first) word))
behind_word first word = go (bytes_eq word flag_word) (has_hyphen word) refl
  where
    go : (b h : Bool) → has_hyphen word ≡ h
        → cond b (drained_named first) (counted_named first word)
        ≡ option_and_then asks (option_and_then Some (cond b (Some (one_flag first)) (cond h None (Some (two first word)))))
    go true h hyphen = refl
    go false true hyphen = counted_named-no_number first word hyphen
    go false false hyphen = refl

-- a word behind one with a hyphen
behind_hyphen : (first word : Text) → has_hyphen first ≡ true → second_named first word ≡ None
behind_hyphen first word e = go (bytes_eq word flag_word)
  where
    go : (b : Bool) → cond b (drained_named first) (counted_named first word) ≡ None
    go true = drained_named-hyphen first e
    go false = counted_named-hyphen first word e

two_words : (first second : Text)
    → mode_of (first ∷ second ∷ []) ≡ option_and_then asks (seen_of nothing (first ∷ second ∷ []))
two_words first second = go (bytes_eq first flag_word) (has_hyphen first) refl
  where
    go : (b h : Bool) → has_hyphen first ≡ h → cond b (drained_named second) (second_named first second)
        ≡ option_and_then asks (option_and_then (λ s. option_and_then Some (next_of s second))
        (cond b (Some flag) (cond h None (Some (one first)))))
    go true h hyphen = behind_flag second
    go false true hyphen = behind_hyphen first second hyphen
    go false false hyphen = behind_word first second

pub mode_of-seen : (words : List Text) → mode_of words ≡ option_and_then asks (seen_of nothing words)
mode_of-seen [] = refl
mode_of-seen (word ∷ []) = one_word word
mode_of-seen (first ∷ second ∷ []) = two_words first second
mode_of-seen (first ∷ second ∷ third ∷ more) =
    let words = first ∷ second ∷ third ∷ more in
    sym (too_many (seen_of nothing words) (length words + 0) (omega arith) (depth-seen nothing words))
