use Rattle.std.proofs.Common.{◌≡◌, ◌∙◌, sym, ap, map, List, Option, Some, None, string_bytes, ℕ}
use Rattle.std.specs.Prelude.{IsSomeAnd, option_and_then}
use Rattle.clap.specs.Matches.{first_value, found_of}
use Rattle.command_words.specs.Options.{Chosen, options_of, value_for}
use Rattle.command_words.specs.ServeGrammar.{serve_by, serve_names, serve_words_of}
use Rattle.command_words.proofs.serve.serve_words.Goals as goal

-- the words come to what their values come to
by_values : (words : List (List ℕ)) (f : List ℕ → Option (List ℕ))
    → IsSomeAnd (options_of serve_names words) (λ given. (name : List ℕ) → f name ≡ value_for name given)
    → serve_words_of words ≡ serve_by f
by_values words f given = go (options_of serve_names words) given
  where
    go : (o : Option (List Chosen)) → IsSomeAnd o (λ gs. (name : List ℕ) → f name ≡ value_for name gs)
        → option_and_then (λ gs. serve_by (λ name. value_for name gs)) o ≡ serve_by f
    go None none = absurd none
    go (Some gs) e = ap serve_by (λ i name. sym (e name) i)

pub returns-in-Some-clause-read : goal.returns-in-Some-clause-read
returns-in-Some-clause-read c =
    by_values (map string_bytes c.args.words.now) (first_value (found_of c.in_ok-matches.matches)) c.in_ok-matches.ensures.read
    ∙ sym c.serve_values.ensures ∙ c.in-Some.is

pub returns-clause-refused : goal.returns-clause-refused
returns-clause-refused c = λ usage.
    by_values (map string_bytes c.args.words.now) (first_value (found_of c.in_ok-matches.matches)) c.in_ok-matches.ensures.read
    ∙ sym c.serve_values.ensures ∙ c.in-None.is
