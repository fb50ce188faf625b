-- Clap finds no fault in the words exactly where they give options by the grammar, and keeps their values.
use Rattle.std.proofs.Common.{◌≡◌, ◌≢◌, ◌∙◌, ◌&&◌, ◌||◌, Bool, cond, true, false, not, refl, sym, ap, ap₂, List, [], ◌∷◌, ◌++◌, map, Option}
use Rattle.std.proofs.Common.{Some, None, is_some, option_map, append-nil, append_assoc, true≢false, inl, inr}
use Rattle.std.specs.Prelude.{option_and_then, slice_get, unwrap_or, IsSomeAnd}
use Rattle.std.specs.Option.{option_map_or}
use Rattle.clap.specs.Facts.{explicit_source}
use Rattle.std.specs.List.{find, fold, list_all, list_any}
use Rattle.std.specs.Str.{bytes_eq}
use Rattle.clap.specs.Kinds.{Kinds, or_else}
use Rattle.clap.specs.Matches.{first_value, found_of}
use Rattle.clap.proofs.WalkLemmas.{first_value-rows}
use Rattle.clap.specs.declared.parser.matches.Found.{Found}
use Rattle.clap.specs.declared.parser.matches.ArgMatches.{ArgMatches}
use Rattle.command_words.specs.Parse.{ClapRefuses, ClapTakes}
use Rattle.clap.specs.Faults.{check_fault, default_fault, defaults_fault, fault_of, is_simple_and_free, level_fault, settle_fault}
use Rattle.clap.specs.Faults.{walk_fault}
use Rattle.clap.specs.Takes.{is_given}
use Rattle.clap.specs.Simple.{Shape, built, is_simple, matches_of}
use Rattle.clap.specs.Walk.{Row, Text, first_of, has_row, nothing_held, rows_after, rows_of, settled, walk, walk_from, with_default}
use Rattle.clap.specs.declared.error.kind.ErrorKind.TheVariants as kind
use Rattle.command_words.specs.Options.{Chosen, Named, are_once, options_in, has_required, is_bare, has_name, options_of, value_for}
use Rattle.command_words.specs.ServeGrammar.{serve_names}
use Rattle.command_words.specs.Clap.{serve_app}
use Rattle.command_words.proofs.OptionRules.{built_rule, row}
use Rattle.command_words.proofs.WordViews.{AreTexts}
use Rattle.command_words.proofs.ClapTurns.{built_shape, no_entry, no_entry_fault}
use Rattle.command_words.proofs.ClapReads.{extend, idle_at, is_nil, verdict, verdict_is}

-- ---- each option is known, and none is given twice

abbrev are_fine : List Named → List Chosen → List Chosen → Bool
are_fine names done gs = list_all (λ g. has_name names g.0) gs && are_once done gs

extend-step : (known again all once : Bool) (r : Option (List Chosen))
    → cond (known && not again) (cond (all && once) r None) None ≡ cond ((known && all) && (not again && once)) r None
extend-step true false all once r = refl
extend-step true true true once r = refl
extend-step true true false once r = refl
extend-step false again all once r = refl

extend-all : (names : List Named) (done gs : List Chosen) → extend names done gs ≡ cond (are_fine names done gs) (Some (done ++ gs)) None
extend-all names done [] = ap (λ xs. Some xs) (sym (append-nil done))
extend-all names done (g ∷ gs) =
    ap (λ x. cond (has_name names g.0 && not (is_some (value_for g.0 done))) x None) (extend-all names (done ++ g ∷ []) gs
    ∙ ap (λ xs. cond (are_fine names (done ++ g ∷ []) gs) (Some xs) None) (append_assoc done (g ∷ []) gs))
    ∙ extend-step (has_name names g.0) (is_some (value_for g.0 done)) (list_all (λ h. has_name names h.0) gs)
    (are_once (done ++ g ∷ []) gs) (Some (done ++ g ∷ gs))

-- ---- what was given, among the rows

abbrev first : Option Row → Option Text
first o = option_and_then (λ (r : Row). slice_get r.values 0) o

abbrev used : Option Row → Bool
used o = option_map_or (λ (r : Row). explicit_source r.source) o false

pub first_of-given : (given : List Chosen) (name : Text) → first_of name (map row given) ≡ value_for name given
first_of-given [] name = refl
first_of-given (g ∷ gs) name = go (bytes_eq g.0 name) (first_of-given gs name)
  where
    go : (b : Bool) → first_of name (map row gs) ≡ value_for name gs
        → first (cond b (Some (row g)) (find (λ r. bytes_eq r.id name) (map row gs)))
        ≡ option_map (λ h. h.1) (cond b (Some g) (find (λ h. bytes_eq h.0 name) gs))
    go true e = refl
    go false e = e

is_given-given : (given : List Chosen) (name : Text) → is_given name (map row given) ≡ is_some (value_for name given)
is_given-given [] name = refl
is_given-given (g ∷ gs) name = go (bytes_eq g.0 name) (is_given-given gs name)
  where
    go : (b : Bool) → is_given name (map row gs) ≡ is_some (value_for name gs)
        → used (cond b (Some (row g)) (find (λ r. bytes_eq r.id name) (map row gs)))
        ≡ is_some (option_map (λ h. h.1) (cond b (Some g) (find (λ h. bytes_eq h.0 name) gs)))
    go true e = refl
    go false e = e

lacks : (names : List Named) (given : List Chosen) → list_any (λ a. a.required && not (is_given a.id (map row given)))
    (map built_rule names)
    ≡ list_any (λ n. n.1 && not (is_some (value_for n.0 given))) names
lacks [] given = refl
lacks (n ∷ ns) given = ap₂ (λ b c. (n.1 && not b) || c) (is_given-given given n.0) (lacks ns given)

-- ---- defaults, of which there are none

module _ (names : List Named) where
  defaults-none : (ns : List Named) (rows : List Row) → defaults_fault rows (map built_rule ns) ≡ []
  unfolding defaults_fault
  defaults-none [] rows = refl
  defaults-none (n ∷ ns) rows = go (has_row n.0 rows) (defaults-none ns (with_default rows (built_rule n)))
    where
      go : (b : Bool) → defaults_fault (with_default rows (built_rule n)) (map built_rule ns) ≡ []
          → or_else (cond (b || true) [] (default_fault [] (built_rule n)))
          (defaults_fault (with_default rows (built_rule n)) (map built_rule ns)) ≡ []
      go true e = e
      go false e = e

  default-none : (n : Named) (rows : List Row) → with_default rows (built_rule n) ≡ rows
  default-none n rows = go (has_row n.0 rows)
    where
      go : (b : Bool) → cond b rows rows ≡ rows
      go true = refl
      go false = refl

  finished-same : (ns : List Named) (rows : List Row) → fold with_default rows (map built_rule ns) ≡ rows
  finished-same [] rows = refl
  finished-same (n ∷ ns) rows = ap (λ rs. fold with_default rs (map built_rule ns)) (default-none n rows) ∙ finished-same ns rows

  -- ---- one level of a parse

  abbrev shape : Shape
  shape = built_shape names

  -- the rows that a parse has where it finds no fault
  abbrev outcome : List Text → Option (List Row)
  outcome words = cond (is_nil (level_fault shape [] nothing_held words false [])) (Some (rows_after shape.rules [] words)) None

  abbrev checked : List Row → Option (List Row)
  checked rows = cond (is_nil (check_fault shape rows false)) (Some rows) None

  in_turn : (w s : Kinds) (rows : List Row) → cond (is_nil (or_else w (or_else s (check_fault shape rows false)))) (Some rows) None
      ≡ option_and_then checked (cond (is_nil w) (cond (is_nil s) (Some rows) None) None)
  in_turn [] [] rows = refl
  in_turn [] (k ∷ ks) rows = refl
  in_turn (k ∷ ks) s rows = refl

  outcome-verdict : (words : List Text) → outcome words ≡ option_and_then checked (verdict names (idle_at names [] None) words)
  outcome-verdict words =
      let end = (walk shape.rules [] nothing_held words).held in
      let rows = (settled shape.rules end).rows in
      let w = walk_fault shape [] (walk_from nothing_held) words in
      let s = settle_fault shape.rules false end in
      ap₂ (λ d rs. cond (is_nil (or_else w (or_else s (or_else d (check_fault shape rs false))))) (Some rs) None)
      (defaults-none names rows) (finished-same names rows)
      ∙ in_turn w s rows

  checked-given : (given : List Chosen) → checked (map row given) ≡ cond (has_required names given) (Some (map row given)) None
  checked-given given = ap (λ b. cond (is_nil (cond b (kind.MissingRequiredArgument ∷ []) [])) (Some (map row given)) None)
      (lacks names given)
      ∙ go (list_any (λ n. n.1 && not (is_some (value_for n.0 given))) names)
    where
      go : (b : Bool) → cond (is_nil (cond b (kind.MissingRequiredArgument ∷ []) [])) (Some (map row given)) None
          ≡ cond (not b) (Some (map row given)) None
      go true = refl
      go false = refl

  in_all : (given : List Chosen) (known once required : Bool) → checked (map row given) ≡ cond required (Some (map row given)) None
      → option_and_then checked (option_map (map row) (cond (known && once) (Some given) None))
      ≡ option_map (map row) (cond (known && (once && required)) (Some given) None)
  in_all given true true true e = e
  in_all given true true false e = e
  in_all given true false required e = refl
  in_all given false once required e = refl

  by_given : (o : Option (List Chosen)) → option_and_then checked (option_map (map row) (option_and_then (extend names []) o))
      ≡ option_map (map row) (option_and_then (λ given. cond
      (list_all (λ g. has_name names g.0) given && (are_once [] given && has_required names given)) (Some given) None) o)
  by_given None = refl
  by_given (Some given) = ap (λ x. option_and_then checked (option_map (map row) x)) (extend-all names [] given)
      ∙ in_all given (list_all (λ g. has_name names g.0) given) (are_once [] given) (has_required names given) (checked-given given)

  pub outcome_is : (words : List Text) → AreTexts words → list_any is_bare words ≡ false
      → outcome words ≡ option_map (map row) (options_of names words)
  outcome_is words texts full =
      outcome-verdict words ∙ ap (option_and_then checked) (verdict_is names words texts full) ∙ by_given (options_in None words)
      ∙ sym (ap (λ b. option_map (map row) (cond b None (option_and_then (λ given. cond (list_all (λ g. has_name names g.0) given
      && (are_once [] given && has_required names given)) (Some given) None) (options_in None words)))) full)

-- ---- the command of the program that relays between sockets

abbrev parse_of : List Text → Option (List Row)
parse_of words = cond (is_nil (fault_of serve_app words)) (Some (matches_of serve_app words)) None

pub serve_parse : (words : List Text) → AreTexts words → list_any is_bare words ≡ false
    → parse_of words ≡ option_map (map row) (options_of serve_names words)
serve_parse words texts full =
    let stop = (walk (built serve_app).top.rules [] nothing_held words).stopped in
    ap₂ (λ e f. cond (is_nil (level_fault (built_shape serve_names) [] nothing_held words (is_some e) f))
    (Some (matches_of serve_app words)) None) (no_entry (built serve_app).top stop) (no_entry_fault (built serve_app).top stop)
    ∙ outcome_is serve_names words texts full

-- ---- the answers of the parse

pub serve_is_simple : is_simple serve_app ≡ true
serve_is_simple = refl

pub serve_is_free : is_simple_and_free serve_app ≡ true
serve_is_free = refl

-- the values that clap has are those that were given
values_are : (f : Found) (given : List Chosen) → rows_of f ≡ map row given → (name : Text) → first_value f name ≡ value_for name given
values_are f given e name = first_value-rows f name ∙ ap (first_of name) e ∙ first_of-given given name

-- where clap takes the words, they give options, and its values are theirs
pub serve_taken : (words : List Text) (m : ArgMatches) → AreTexts words → ClapTakes serve_app words m
    → IsSomeAnd (options_of serve_names words) (λ given. (name : Text) → first_value (found_of m) name ≡ value_for name given)
serve_taken words m texts t = go (options_of serve_names words)
    (sym (ap (λ f. cond (is_nil f) (Some (matches_of serve_app words)) None) (t.fine serve_is_free)) ∙ serve_parse words texts t.full)
  where
    go : (o : Option (List Chosen)) → Some (matches_of serve_app words) ≡ option_map (map row) o
        → IsSomeAnd o (λ given. (name : Text) → first_value (found_of m) name ≡ value_for name given)
    go None e = absurd (true≢false (ap is_some e))
    go (Some given) e = values_are (found_of m) given ((t.matches serve_is_simple).0 ∙ ap (λ o. unwrap_or o (matches_of serve_app words)) e)

-- where clap finds a fault, the words give no options
faulty : (words : List Text) → AreTexts words → list_any is_bare words ≡ false → fault_of serve_app words ≢ []
    → options_of serve_names words ≡ None
faulty words texts full fault = go (fault_of serve_app words) refl
  where
    ends : (o : Option (List Chosen)) → None ≡ option_map (map row) o → o ≡ None
    ends None h = refl
    ends (Some given) h = absurd (true≢false (ap is_some (sym h)))

    go : (f : Kinds) → fault_of serve_app words ≡ f → options_of serve_names words ≡ None
    go [] is = absurd (fault is)
    go (k ∷ ks) is = ends (options_of serve_names words)
        (sym (ap (λ x. cond (is_nil x) (Some (matches_of serve_app words)) None) is) ∙ serve_parse words texts full)

-- where the words are refused, they give no options
pub serve_refused : (words : List Text) → AreTexts words → ClapRefuses serve_app words → options_of serve_names words ≡ None
serve_refused words texts r = elim (r serve_is_free) [
  | inl bare ↦ rw bare refl
  | inr f ↦ faulty words texts f.0 f.1
]
