-- Clap finds no fault in the words exactly where they are a mode word with at most one word behind it, and with the flag at most
-- once; and the words ask for the mode that its values come to.
use Rattle.std.proofs.Common.{◌≡◌, ◌≢◌, ◌∙◌, Bool, cond, true, false, refl, sym, ap, ap₂, subst, List, [], ◌∷◌, Option, Some, None, is_some}
use Rattle.std.proofs.Common.{codes, fold, inl, inr, option_and_then, option_map, true≢false}
use Rattle.std.specs.List.{list_any}
use Rattle.clap.specs.Kinds.{Kinds, or_else}
use Rattle.clap.specs.Matches.{first_value, found_of, one_text}
use Rattle.clap.specs.Values.{bool_text}
use Rattle.clap.proofs.WalkLemmas.{first_value-rows, one_text-rows}
use Rattle.clap.specs.declared.parser.matches.ArgMatches.{ArgMatches}
use Rattle.clap.specs.Faults.{check_fault, defaults_fault, fault_of, is_simple_and_free, level_fault, settle_fault, turn_fault, walk_fault}
use Rattle.clap.specs.Simple.{is_simple, matches_of}
use Rattle.clap.specs.Walk.{Row, Text, Walk, finished, first_of, nothing_held, one_of, rows_of, settled, walk, walked}
use Rattle.command_words.specs.declared.mode.ScriptKind.{ScriptKind}
use Rattle.command_words.specs.Options.{is_bare}
use Rattle.command_words.specs.ModeGrammar.{mode_of}
use Rattle.command_words.specs.ModeValues.{HasMode, mode_by}
use Rattle.command_words.specs.Clap.{mode_app}
use Rattle.command_words.specs.Parse.{ClapRefuses, ClapTakes}
use Rattle.command_words.proofs.WordViews.{AreTexts, word_view}
use Rattle.command_words.proofs.ClapTurns.{no_entry, no_entry_fault}
use Rattle.command_words.proofs.ClapReads.{is_nil}
use Rattle.command_words.proofs.ModeWords.{Seen, nothing, one, flag, two, one_flag, flag_one, two_flag, one_flag_one, flag_two, asks, next_of}
use Rattle.command_words.proofs.ModeWords.{mode_of-bare, mode_of-seen, or_false, seen_of}
use Rattle.command_words.proofs.ModeTurns.{rules, shape, turned, turned-next, walk_of}

-- ---- all words

-- the walk after the words, where clap finds no fault in them
abbrev end_of : Walk → List Text → Option Walk
end_of w words = cond (is_nil (walk_fault shape [] w words)) (Some (fold (walked rules []) w words)) None

end_of-cons : (w : Walk) (word : Text) (more : List Text) → end_of w (word ∷ more) ≡ option_and_then (λ n. end_of n more) (turned w word)
unfolding walk_fault
end_of-cons w word more = go (turn_fault shape [] w word) (walked rules [] w word)
  where
    go : (ks : Kinds) (n : Walk)
        → cond (is_nil (or_else ks (walk_fault shape [] n more))) (Some (fold (walked rules []) n more)) None
        ≡ option_and_then (λ x. end_of x more) (cond (is_nil ks) (Some n) None)
    go [] n = refl
    go (k ∷ ks) n = refl

end_of-nil : (w : Walk) → end_of w [] ≡ Some w
unfolding walk_fault
end_of-nil w = refl

-- clap takes the words exactly where the grammar does
end_of-seen : (words : List Text) → AreTexts words → list_any is_bare words ≡ false → (s : Seen)
    → end_of (walk_of s) words ≡ option_map walk_of (seen_of s words)
end_of-seen [] texts full s = end_of-nil (walk_of s)
end_of-seen (word ∷ more) texts full s =
    let parts = or_false (is_bare word) (list_any is_bare more) full in
    end_of-cons (walk_of s) word more
    ∙ ap (option_and_then (λ n. end_of n more)) (turned-next s word (word_view word texts.0 parts.0))
    ∙ go (next_of s word) (end_of-seen more texts.1 parts.1)
  where
    go : (o : Option Seen) → ((n : Seen) → end_of (walk_of n) more ≡ option_map walk_of (seen_of n more))
        → option_and_then (λ n. end_of n more) (option_map walk_of o) ≡ option_map walk_of (option_and_then (λ n. seen_of n more) o)
    go None e = refl
    go (Some n) e = e n

-- ---- the end of the words

-- the rows that clap has behind the last word, where it finds no fault
abbrev rows_at : Walk → Option (List Row)
rows_at w = cond (is_nil (or_else (settle_fault rules false w.held) (or_else (defaults_fault (settled rules w.held).rows rules)
    (check_fault shape (finished rules w.held) false)))) (Some (finished rules w.held)) None

abbrev parse_of : List Text → Option (List Row)
parse_of words = cond (is_nil (fault_of mode_app words)) (Some (matches_of mode_app words)) None

parse_of-end : (words : List Text) → parse_of words ≡ option_and_then rows_at (end_of (walk_of nothing) words)
parse_of-end words =
    let stop = (walk rules [] nothing_held words).stopped in
    ap₂ (λ e f. cond (is_nil (level_fault shape [] nothing_held words (is_some e) f)) (Some (matches_of mode_app words)) None)
    (no_entry shape stop) (no_entry_fault shape stop)
    ∙ go (walk_fault shape [] (walk_of nothing) words) (fold (walked rules []) (walk_of nothing) words)
  where
    go : (ks : Kinds) (w : Walk)
        → cond (is_nil (or_else ks (or_else (settle_fault rules false w.held) (or_else (defaults_fault (settled rules w.held).rows rules)
        (check_fault shape (finished rules w.held) false))))) (Some (finished rules w.held)) None
        ≡ option_and_then rows_at (cond (is_nil ks) (Some w) None)
    go [] w = refl
    go (k ∷ ks) w = refl

-- ---- the values

-- the rows have the values of the mode, and where there are none there is no mode
abbrev Judged : Option ScriptKind → Option (List Row) → Type 0
Judged mode None = mode ≡ None
Judged mode (Some rows) = (drained : Bool) × (one_of (codes "drain") rows ≡ Some (bool_text drained))
    × (mode ≡ mode_by (first_of (codes "mode") rows) (first_of (codes "count") rows) drained)

judged : (s : Seen) → Judged (asks s) (rows_at (walk_of s))
unfolding defaults_fault
judged nothing = refl
judged (one a) = (false, refl, refl)
judged flag = refl
judged (two a b) = (false, refl, refl)
judged (one_flag a) = (true, refl, refl)
judged (flag_one a) = (true, refl, refl)
judged (two_flag a b) = (true, refl, refl)
judged (one_flag_one a b) = (true, refl, refl)
judged (flag_two a b) = (true, refl, refl)

judged_words : (words : List Text) → AreTexts words → list_any is_bare words ≡ false → Judged (mode_of words) (parse_of words)
judged_words words texts full =
    let rows = parse_of-end words ∙ ap (option_and_then rows_at) (end_of-seen words texts full nothing) in
    rw (mode_of-seen words, rows) (go (seen_of nothing words))
  where
    go : (o : Option Seen) → Judged (option_and_then asks o) (option_and_then rows_at (option_map walk_of o))
    go None = refl
    go (Some s) = judged s

-- ---- the answers of the parse

pub mode_is_simple : is_simple mode_app ≡ true
mode_is_simple = refl

pub mode_is_free : is_simple_and_free mode_app ≡ true
mode_is_free = refl

-- where clap takes the words, they ask for the mode of its values
pub mode_taken : (words : List Text) (m : ArgMatches) → AreTexts words → ClapTakes mode_app words m → HasMode words m
mode_taken words m texts t =
    let fine : parse_of words ≡ Some (matches_of mode_app words) =
    ap (λ f. cond (is_nil f) (Some (matches_of mode_app words)) None) (t.fine mode_is_free) in
    let rows : rows_of (found_of m) ≡ matches_of mode_app words = (t.matches mode_is_simple).0 in
    let is = subst (λ o. Judged (mode_of words) o) (fine ∙ ap Some (sym rows)) (judged_words words texts t.full) in
    record {
      drained = is.0;
      flag = one_text-rows (found_of m) (codes "drain") ∙ is.1;
      mode = is.2 ∙ sym (ap₂ (λ w c. mode_by w c is.0) (first_value-rows (found_of m) (codes "mode"))
          (first_value-rows (found_of m) (codes "count")));
    }

faulty : (words : List Text) → AreTexts words → list_any is_bare words ≡ false → fault_of mode_app words ≢ [] → mode_of words ≡ None
faulty words texts full fault = go (fault_of mode_app words) refl
  where
    go : (f : Kinds) → fault_of mode_app words ≡ f → mode_of words ≡ None
    go [] is = absurd (fault is)
    go (k ∷ ks) is = subst (λ o. Judged (mode_of words) o)
        (ap (λ x. cond (is_nil x) (Some (matches_of mode_app words)) None) is) (judged_words words texts full)

-- where the words are refused, they ask for no mode
pub mode_refused : (words : List Text) → AreTexts words → ClapRefuses mode_app words → mode_of words ≡ None
mode_refused words texts r = elim (r mode_is_free) [
  | inl bare ↦ mode_of-bare words bare
  | inr f ↦ faulty words texts f.0 f.1
]
