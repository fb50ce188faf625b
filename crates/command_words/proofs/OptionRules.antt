-- What clap looks up among options that are named by their long forms alone.
use Rattle.std.proofs.Common.{◌≡◌, ◌∙◌, ℕ, Bool, cond, true, false, refl, sym, ap, List, [], ◌∷◌, ◌++◌, ◌||◌, map, Option, Some, None}
use Rattle.std.proofs.Common.{append-nil, true≢false, is_some, option_map}
use Rattle.std.specs.List.{find}
use Rattle.std.specs.Str.{bytes_eq}
use Rattle.std.proofs.lemmas.Slice.Eq.{bytes_eq-Decides}
use Rattle.clap.specs.Walk.{Row, Rule, Text, arg_by_id, arg_by_index, arg_by_long, arg_by_short, at_row, has_row, more_values, with_values}
use Rattle.clap.specs.Walk.{without}
use Rattle.clap.specs.Values.{reading_of}
use Rattle.clap.specs.declared.builder.value_parser.ValueParser.TheVariants as vp
use Rattle.clap.specs.declared.parser.matches.ValueSource.TheVariants.{CommandLine}
use Rattle.command_words.specs.Options.{Chosen, Named, has_name, value_for}
use Rattle.command_words.specs.Clap.{option_rule}

-- an option as clap builds it: it takes one text
abbrev pub built_rule : Named → Rule
built_rule n = record (option_rule n) { parser = Some vp.String; range = Some (record { start_inclusive = 1; end_inclusive = 1 }) }

-- what clap keeps of an option that was given
abbrev pub row : Chosen → Row
row g = record { id = g.0; values = g.1 ∷ []; count = None; source = Some CommandLine; reading = reading_of vp.String }

-- whether the option of a name is required, where there is one
abbrev pub required_of : List Named → Text → Option Bool
required_of names name = option_map (λ n. n.1) (find (λ n. bytes_eq n.0 name) names)

pub same_text : (a b : Text) → bytes_eq a b ≡ true → a ≡ b
same_text a b e = (bytes_eq-Decides a b).0 e

pub same_as_itself : (a : Text) → bytes_eq a a ≡ true
same_as_itself a = (bytes_eq-Decides a a).1 refl

-- ---- an option is found by its name

abbrev rule_for : Text → Bool → Rule
rule_for name required = built_rule (name, required)

pub arg_by_id-named : (names : List Named) (name : Text) → arg_by_id (map built_rule names) name
    ≡ option_map (rule_for name) (required_of names name)
arg_by_id-named [] name = refl
arg_by_id-named (n ∷ ns) name = go (bytes_eq n.0 name) refl (arg_by_id-named ns name)
  where
    go : (b : Bool) → bytes_eq n.0 name ≡ b → arg_by_id (map built_rule ns) name ≡ option_map (rule_for name) (required_of ns name)
        → cond b (Some (built_rule n)) (arg_by_id (map built_rule ns) name)
        ≡ option_map (rule_for name) (option_map (λ m. m.1) (cond b (Some n) (find (λ m. bytes_eq m.0 name) ns)))
    go true e h = ap (λ m. Some (built_rule (m, n.1))) (same_text n.0 name e)
    go false e h = h

pub arg_by_long-named : (names : List Named) (name : Text) → arg_by_long (map built_rule names) name
    ≡ option_map (rule_for name) (required_of names name)
arg_by_long-named [] name = refl
arg_by_long-named (n ∷ ns) name = go (bytes_eq n.0 name) refl (arg_by_long-named ns name)
  where
    go : (b : Bool) → bytes_eq n.0 name ≡ b → arg_by_long (map built_rule ns) name ≡ option_map (rule_for name) (required_of ns name)
        → cond (b || false) (Some (built_rule n)) (arg_by_long (map built_rule ns) name)
        ≡ option_map (rule_for name) (option_map (λ m. m.1) (cond b (Some n) (find (λ m. bytes_eq m.0 name) ns)))
    go true e h = ap (λ m. Some (built_rule (m, n.1))) (same_text n.0 name e)
    go false e h = h

pub has_name-required_of : (names : List Named) (name : Text) → has_name names name ≡ is_some (required_of names name)
has_name-required_of [] name = refl
has_name-required_of (n ∷ ns) name = go (bytes_eq n.0 name) (has_name-required_of ns name)
  where
    go : (b : Bool) → has_name ns name ≡ is_some (required_of ns name)
        → (b || has_name ns name) ≡ is_some (option_map (λ m. m.1) (cond b (Some n) (find (λ m. bytes_eq m.0 name) ns)))
    go true h = refl
    go false h = h

-- no option has a place or a short form
pub arg_by_index-named : (names : List Named) (i : ℕ) → arg_by_index (map built_rule names) i ≡ None
arg_by_index-named [] i = refl
arg_by_index-named (n ∷ ns) i = arg_by_index-named ns i

pub arg_by_short-named : (names : List Named) (x : ℕ) → arg_by_short (map built_rule names) x ≡ None
arg_by_short-named [] x = refl
arg_by_short-named (n ∷ ns) x = arg_by_short-named ns x

-- ---- what was given, as rows

pub has_row-given : (given : List Chosen) (name : Text) → has_row name (map row given) ≡ is_some (value_for name given)
has_row-given [] name = refl
has_row-given (g ∷ gs) name = go (bytes_eq g.0 name) (has_row-given gs name)
  where
    go : (b : Bool) → has_row name (map row gs) ≡ is_some (value_for name gs)
        → (b || has_row name (map row gs)) ≡ is_some (option_map (λ h. h.1) (cond b (Some g) (find (λ h. bytes_eq h.0 name) gs)))
    go true h = refl
    go false h = h

at_row-new : (given : List Chosen) (name : Text) (change : Row → List Row) (missing : List Row) → has_row name (map row given) ≡ false
    → at_row name change missing (map row given) ≡ map row given ++ missing
at_row-new [] name change missing new = refl
at_row-new (g ∷ gs) name change missing new = go (bytes_eq g.0 name) (at_row-new gs name change missing) new
  where
    go : (b : Bool) → (has_row name (map row gs) ≡ false → at_row name change missing (map row gs) ≡ map row gs ++ missing)
        → (b || has_row name (map row gs)) ≡ false → cond b (change (row g) ++ map row gs)
        (row g ∷ at_row name change missing (map row gs)) ≡ row g ∷ (map row gs ++ missing)
    go true h e = absurd (true≢false e)
    go false h e = ap (λ rs. row g ∷ rs) (h e)

map-row-end : (given : List Chosen) (g : Chosen) → map row (given ++ g ∷ []) ≡ map row given ++ row g ∷ []
map-row-end [] g = refl
map-row-end (h ∷ hs) g = ap (λ rs. row h ∷ rs) (map-row-end hs g)

-- a name that is new adds a row
pub with_values-new : (given : List Chosen) (name value : Text) → has_row name (map row given) ≡ false
    → with_values name (reading_of vp.String) CommandLine (value ∷ []) (without name (map row given))
    ≡ map row (given ++ (name, value) ∷ [])
with_values-new given name value new =
    let kept : without name (map row given) ≡ map row given = at_row-new given name (λ _. []) [] new ∙ append-nil (map row given) in
    ap (λ rs. with_values name (reading_of vp.String) CommandLine (value ∷ []) rs) kept
    ∙ at_row-new given name (more_values CommandLine (value ∷ [])) (row (name, value) ∷ []) new ∙ sym (map-row-end given (name, value))
