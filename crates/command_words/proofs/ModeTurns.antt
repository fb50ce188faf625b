-- What clap makes of one word of the program that plays scripts, behind those that it took.
use Rattle.std.proofs.Common.{◌≡◌, ◌∙◌, ◌==◌, ◌&&◌, ℕ, Bool, cond, true, false, refl, sym, ap, List, [], ◌∷◌, map, codes, Option, Some, None}
use Rattle.std.proofs.Common.{ap₂, not, one-add, option_map, take, unwrap_or, true≢false, is_some, inl, inr, bytes_eq}
use Rattle.std.specs.Prelude.{◌⊎◌}
use Rattle.std.specs.List.{list_any, before_first, prefix_len}
use Rattle.clap.specs.Faults.{flags_fault, turn_fault}
use Rattle.clap.specs.Simple.{Shape, built}
use Rattle.clap.specs.Walk.{Held, Rule, Text, Walk, idle, walked}
use Rattle.command_words.specs.Options.{Chosen, has_hyphen, name_in, option_word}
use Rattle.command_words.specs.Clap.{mode_app}
use Rattle.command_words.proofs.OptionRules.{same_text}
use Rattle.command_words.proofs.WordViews.{IsLong, IsPlain, IsShort, same}
use Rattle.command_words.proofs.ClapTurns.{held_at, with_value}
use Rattle.command_words.proofs.ClapReads.{is_nil}
use Rattle.command_words.proofs.ModeWords.{Seen, nothing, one, flag, two, one_flag, flag_one, two_flag, one_flag_one, flag_two, flag_word}
use Rattle.command_words.proofs.ModeWords.{next_of, or_false, with_flag, with_word}

-- the command as clap builds it
abbrev pub shape : Shape
shape = (built mode_app).top

abbrev pub rules : List Rule
rules = shape.rules

abbrev walk_at : Held → ℕ → Walk
walk_at h position = record { held = h; waiting = idle; position = position; is_trailing = false; stopped = None }

abbrev mode_given : Text → Chosen
mode_given a = (codes "mode", a)

abbrev count_given : Text → Chosen
count_given a = (codes "count", a)

abbrev flag_given : Chosen
flag_given = (codes "drain", codes "true")

-- where clap stands behind the words that gave so much
abbrev pub walk_of : Seen → Walk
walk_of nothing = walk_at (held_at [] None) 1
walk_of (one a) = walk_at (held_at [] (with_value (mode_given a))) 2
walk_of flag = walk_at (held_at (flag_given ∷ []) None) 1
walk_of (two a b) = walk_at (held_at (mode_given a ∷ []) (with_value (count_given b))) 3
walk_of (one_flag a) = walk_at (held_at (mode_given a ∷ flag_given ∷ []) None) 2
walk_of (flag_one a) = walk_at (held_at (flag_given ∷ []) (with_value (mode_given a))) 2
walk_of (two_flag a b) = walk_at (held_at (mode_given a ∷ count_given b ∷ flag_given ∷ []) None) 3
walk_of (one_flag_one a b) = walk_at (held_at (mode_given a ∷ flag_given ∷ []) (with_value (count_given b))) 3
walk_of (flag_two a b) = walk_at (held_at (flag_given ∷ mode_given a ∷ []) (with_value (count_given b))) 3

-- the walk after one more word, where clap finds no fault in it
abbrev pub turned : Walk → Text → Option Walk
turned w word = cond (is_nil (turn_fault shape [] w word)) (Some (walked rules [] w word)) None

-- ---- the flag

turned-flag : (s : Seen) → turned (walk_of s) flag_word ≡ option_map walk_of (with_flag s)
unfolding walked
turned-flag nothing = refl
turned-flag (one a) = refl
turned-flag flag = refl
turned-flag (two a b) = refl
turned-flag (one_flag a) = refl
turned-flag (flag_one a) = refl
turned-flag (two_flag a b) = refl
turned-flag (one_flag_one a b) = refl
turned-flag (flag_two a b) = refl

-- ---- a word without a hyphen

turned-plain : (s : Seen) (word : Text) → IsPlain word → turned (walk_of s) word ≡ option_map walk_of (with_word word s)
unfolding walked
turned-plain nothing word w = rw (w.more, w.long, w.short) refl
turned-plain (one a) word w = rw (w.more, w.long, w.short) refl
turned-plain flag word w = rw (w.more, w.long, w.short) refl
turned-plain (two a b) word w = rw (w.more, w.long, w.short) refl
turned-plain (one_flag a) word w = rw (w.more, w.long, w.short) refl
turned-plain (flag_one a) word w = rw (w.more, w.long, w.short) refl
turned-plain (two_flag a b) word w = rw (w.more, w.long, w.short) refl
turned-plain (one_flag_one a b) word w = rw (w.more, w.long, w.short) refl
turned-plain (flag_two a b) word w = rw (w.more, w.long, w.short) refl

-- ---- other words with a hyphen

-- a text without a `=` is its name
whole_name : (text : Text) → list_any (λ b. b == 61) text ≡ false → before_first (λ b. b == 61) text ≡ text
whole_name [] e = refl
whole_name (b ∷ bs) e =
    let parts = or_false (b == 61) (list_any (λ x. x == 61) bs) e in
    let count = prefix_len (λ x. not (x == 61)) bs in
    rw parts.0 (ap (λ n. take n (b ∷ bs)) (one-add count) ∙ ap (λ xs. b ∷ xs) (whole_name bs parts.1))

-- a text that has a name and no value is that name
named_alone : (text name : Text) → name_in text ≡ (name, None) → text ≡ name
named_alone text name e = go (list_any (λ b. b == 61) text) refl (ap (λ p. p.1) e)
  where
    go : (b : Bool) → list_any (λ x. x == 61) text ≡ b → (name_in text).1 ≡ None → text ≡ name
    go true is none = absurd (true≢false (ap is_some (rw is at none)))
    go false is none = sym (whole_name text is) ∙ ap (λ p. p.0) e

-- a word that names the flag and gives no value is the flag
flag_alone : (word : Text) → option_word word ≡ Some (codes "drain", None) → word ≡ flag_word
flag_alone [] e = absurd (true≢false (sym (ap is_some e)))
flag_alone (a ∷ []) e = absurd (true≢false (sym (ap is_some e)))
flag_alone (a ∷ b ∷ []) e = absurd (true≢false (sym (ap is_some e)))
flag_alone (a ∷ b ∷ c ∷ cs) e = go (a == 45) (b == 45) refl refl e
  where
    go : (x y : Bool) → (a == 45) ≡ x → (b == 45) ≡ y
        → cond (x && y) (Some (name_in (c ∷ cs))) None ≡ Some (codes "drain", None) → a ∷ b ∷ c ∷ cs ≡ flag_word
    go true true f g h =
        let name : c ∷ cs ≡ codes "drain" = named_alone (c ∷ cs) (codes "drain") (ap (λ o. unwrap_or o (name_in (c ∷ cs))) h) in
        rw (same a 45 f, same b 45 g, name) refl
    go true false f g h = absurd (true≢false (sym (ap is_some h)))
    go false y f g h = absurd (true≢false (sym (ap is_some h)))

turned-short : (s : Seen) (word : Text) → IsShort word → turned (walk_of s) word ≡ None
unfolding flags_fault
turned-short nothing word w = rw (w.more, w.long, w.short, w.chars) refl
turned-short (one a) word w = rw (w.more, w.long, w.short, w.chars) refl
turned-short flag word w = rw (w.more, w.long, w.short, w.chars) refl
turned-short (two a b) word w = rw (w.more, w.long, w.short, w.chars) refl
turned-short (one_flag a) word w = rw (w.more, w.long, w.short, w.chars) refl
turned-short (flag_one a) word w = rw (w.more, w.long, w.short, w.chars) refl
turned-short (two_flag a b) word w = rw (w.more, w.long, w.short, w.chars) refl
turned-short (one_flag_one a b) word w = rw (w.more, w.long, w.short, w.chars) refl
turned-short (flag_two a b) word w = rw (w.more, w.long, w.short, w.chars) refl

-- an option that the command has not
turned-unknown : (h : Held) (position : ℕ) (word : Text) (w : IsLong word) → bytes_eq (codes "drain") w.name ≡ false
    → turned (walk_at h position) word ≡ None
turned-unknown h position word w other = rw (w.more, w.long, other) refl

-- the flag with a value
turned-value : (h : Held) (position : ℕ) (word name value : Text) (w : IsLong word) → w.name ≡ name → w.value ≡ Some value
    → bytes_eq (codes "drain") name ≡ true → turned (walk_at h position) word ≡ None
turned-value h position word name value w n v known = rw (w.more, w.long, n, v, known) refl

turned-long : (h : Held) (position : ℕ) (word : Text) → IsLong word → bytes_eq word flag_word ≡ false → turned (walk_at h position) word ≡ None
turned-long h position word w other = by_name (bytes_eq (codes "drain") w.name) refl
  where
    by_value : (value : Option Text) → w.value ≡ value → bytes_eq (codes "drain") w.name ≡ true → turned (walk_at h position) word ≡ None
    by_value (Some value) v known = turned-value h position word w.name value w refl v known
    by_value None v known =
        let name : w.name ≡ codes "drain" = sym (same_text (codes "drain") w.name known) in
        let is : word ≡ flag_word = flag_alone word (w.option ∙ ap₂ (λ n o. Some (n, o)) name v) in
        absurd (true≢false (rw is at other))

    by_name : (b : Bool) → bytes_eq (codes "drain") w.name ≡ b → turned (walk_at h position) word ≡ None
    by_name true known = by_value w.value refl known
    by_name false known = turned-unknown h position word w known

-- ---- each word

abbrev pub View : Text → Type 0
View word = IsLong word ⊎ (IsShort word ⊎ IsPlain word)

turned-other : (s : Seen) (word : Text) → View word → bytes_eq word flag_word ≡ false
    → turned (walk_of s) word ≡ option_map walk_of (cond (has_hyphen word) None (with_word word s))
turned-other s word (inl w) other = long s ∙ sym (rw w.hyphen refl)
  where
    long : (s : Seen) → turned (walk_of s) word ≡ None
    long nothing = turned-long _ _ word w other
    long (one a) = turned-long _ _ word w other
    long flag = turned-long _ _ word w other
    long (two a b) = turned-long _ _ word w other
    long (one_flag a) = turned-long _ _ word w other
    long (flag_one a) = turned-long _ _ word w other
    long (two_flag a b) = turned-long _ _ word w other
    long (one_flag_one a b) = turned-long _ _ word w other
    long (flag_two a b) = turned-long _ _ word w other
turned-other s word (inr (inl w)) other = turned-short s word w ∙ sym (rw w.hyphen refl)
turned-other s word (inr (inr w)) other = turned-plain s word w ∙ sym (rw w.hyphen refl)

-- clap takes a word exactly where the grammar goes on
pub turned-next : (s : Seen) (word : Text) → View word → turned (walk_of s) word ≡ option_map walk_of (next_of s word)
turned-next s word view = go (bytes_eq word flag_word) refl
  where
    go : (b : Bool) → bytes_eq word flag_word ≡ b → turned (walk_of s) word
        ≡ option_map walk_of (cond b (with_flag s) (cond (has_hyphen word) None (with_word word s)))
    go true is = ap (turned (walk_of s)) (same_text word flag_word is) ∙ turned-flag s
    go false is = turned-other s word view is
