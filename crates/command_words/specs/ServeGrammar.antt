-- The words of the program that relays between sockets.
use Rattle.std.specs.Prelude.{ℕ, List, [], ◌∷◌, codes, true, false, Option, Some}
use Rattle.script_text.specs.FilterNames.{filter_kind_of}
use Rattle.script_text.specs.Grammar.{hold_of}
use Rattle.script_text.specs.ValueGrammar.{◌>>=◌}
use Rattle.ev_types.specs.Usual.{usual}
use Rattle.command_words.specs.Options.{Named, options_of, value_for}
use Rattle.command_words.specs.Values.{addr_named, positive_within}
use Rattle.ev_types.specs.declared.route.Route.{Route}

-- the options, and whether each is required
abbrev pub serve_names : List Named
serve_names =
    (codes "listen", true) ∷ (codes "to", true) ∷ (codes "links", true) ∷ (codes "hold", false)
    ∷ (codes "in-read", false) ∷ (codes "in-write", false) ∷ (codes "out-read", false) ∷ (codes "out-write", false) ∷ []

-- a value that may be left out: the usual one stands then
abbrev pub unless_given : {A : Type 0} → A → (List ℕ → Option A) → Option (List ℕ) → Option A
unless_given otherwise read (Some word) = read word
unless_given otherwise read _ = Some otherwise

-- what options come to, by the value that each name was given
abbrev pub serve_by : (List ℕ → Option (List ℕ)) → Option Route
serve_by value = do
  listen ← value (codes "listen") >>= addr_named
  to ← value (codes "to") >>= addr_named
  links ← value (codes "links") >>= positive_within 65535
  hold ← unless_given usual.hold hold_of (value (codes "hold"))
  in_read ← unless_given usual.in_read filter_kind_of (value (codes "in-read"))
  in_write ← unless_given usual.in_write filter_kind_of (value (codes "in-write"))
  out_read ← unless_given usual.out_read filter_kind_of (value (codes "out-read"))
  out_write ← unless_given usual.out_write filter_kind_of (value (codes "out-write"))
  Some (record {
    listen = listen;
    to = to;
    settings = record usual {
      links = links;
      hold = hold;
      in_read = in_read;
      in_write = in_write;
      out_read = out_read;
      out_write = out_write;
    };
  })

-- what words come to
abbrev pub serve_words_of : List (List ℕ) → Option Route
serve_words_of words = options_of serve_names words >>= (λ given. serve_by (λ name. value_for name given))
