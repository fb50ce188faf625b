-- Options that words give: `--name=value` is one word, `--name` and its value are two. Which names there are, and what a value
-- means, is left to each program.
use Rattle.std.specs.Prelude.{ℕ, List, [], ◌∷◌, ◌++◌, ◌==◌, ◌&&◌, ◌||◌, not, codes, Bool, true, false, if◌then◌else◌, Option, Some, None}
use Rattle.std.specs.Prelude.{is_some, option_map, find}
use Rattle.std.specs.Option.{option_map_or}
use Rattle.std.specs.List.{list_all, list_any, before_first}
use Rattle.std.specs.Str.{bytes_eq}
use Rattle.script_text.specs.ValueGrammar.{◌>>=◌}
use Rattle.command_words.specs.Values.{cut}

-- an option that was given: a name with its value
abbrev pub Chosen : Type 0
Chosen = List ℕ × List ℕ

-- a name of the program, and whether its option is required
abbrev pub Named : Type 0
Named = List ℕ × Bool

-- a word that no program takes: an empty one, `-` or `--`
abbrev pub is_bare : List ℕ → Bool
is_bare word = bytes_eq word [] || (bytes_eq word (codes "-") || bytes_eq word (codes "--"))

-- whether a word begins with `-`
abbrev pub has_hyphen : List ℕ → Bool
has_hyphen [] = false
has_hyphen (b ∷ bs) = b == 45

-- the name in a text, all that stands in front of its first `=`, and the value behind that, if there is a `=`
abbrev pub name_in : List ℕ → List ℕ × Option (List ℕ)
name_in text = (before_first (λ b. b == 61) text, option_map (λ c. c.1) (cut 61 text))

-- what a word `--name` or `--name=value` names, with its value
abbrev pub option_word : List ℕ → Option (List ℕ × Option (List ℕ))
option_word (a ∷ b ∷ c ∷ cs) = if a == 45 && b == 45 then Some (name_in (c ∷ cs)) else None
option_word _ = None

-- one option, and those that follow
abbrev pub and_then : Chosen → Option (List Chosen) → Option (List Chosen)
and_then given others = option_map (λ more. given ∷ more) others

-- the options that words give, in their order, where `waiting` is a name whose value is the next word
abbrev pub options_in : Option (List ℕ) → List (List ℕ) → Option (List Chosen)
options_in None [] = Some []
options_in None (word ∷ more) =
    option_word word >>= (λ o. option_map_or (λ v. and_then (o.0, v) (options_in None more)) o.1 (options_in (Some o.0) more))
options_in (Some name) [] = None
options_in (Some name) (word ∷ more) = if has_hyphen word then None else and_then (name, word) (options_in None more)

-- the value that was given for a name
abbrev pub value_for : List ℕ → List Chosen → Option (List ℕ)
value_for name given = option_map (λ g. g.1) (find (λ g. bytes_eq g.0 name) given)

-- whether a program has the name
abbrev pub has_name : List Named → List ℕ → Bool
has_name names name = list_any (λ n. bytes_eq n.0 name) names

-- no name is given twice; `before` was given in front of the others
abbrev pub are_once : List Chosen → List Chosen → Bool
are_once before [] = true
are_once before (g ∷ gs) = not (is_some (value_for g.0 before)) && are_once (before ++ g ∷ []) gs

-- each required option is given
abbrev pub has_required : List Named → List Chosen → Bool
has_required names given = not (list_any (λ n. n.1 && not (is_some (value_for n.0 given))) names)

-- each of the options is one that the program has, none comes twice, and the required ones are there
abbrev pub are_right : List Named → List Chosen → Bool
are_right names given = list_all (λ g. has_name names g.0) given && (are_once [] given && has_required names given)

-- the options that a program with these names is given
abbrev pub options_of : List Named → List (List ℕ) → Option (List Chosen)
options_of names words =
    if list_any is_bare words then None
    else options_in None words >>= (λ given. if are_right names given then Some given else None)
