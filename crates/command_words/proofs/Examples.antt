-- The grammar at a few words.
use Rattle.std.proofs.Common.{◌≡◌, refl, codes, [], ◌∷◌, Some, None}
use Rattle.ev_types.specs.declared.filter.FilterKind.TheVariants as filter
use Rattle.ev_types.specs.Usual.{usual}
use Rattle.command_words.specs.ModeGrammar.{mode_of}
use Rattle.command_words.specs.Options.{options_in, option_word}
use Rattle.command_words.specs.ServeGrammar.{serve_words_of}
use Rattle.command_words.specs.Values.{addr_named, positive_within}
use Rattle.command_words.specs.declared.mode.ScriptKind.TheVariants.{Relay, Buffers, Big}
use Rattle.command_words.specs.declared.mode.Ending.TheVariants.{Drained}

an_address : addr_named (codes "127.0.0.1:65535") ≡ Some (record { ip = 127 ∷ 0 ∷ 0 ∷ 1 ∷ []; port = 65535 })
an_address = refl

no_leading_zero : addr_named (codes "127.0.0.01:80") ≡ None
no_leading_zero = refl

no_fifth_number : addr_named (codes "1.2.3.4.5:80") ≡ None
no_fifth_number = refl

no_more_links : positive_within 65535 (codes "65536") ≡ None
no_more_links = refl

-- the value stands behind the first `=`
in_one_word : option_word (codes "--a=b=c") ≡ Some (codes "a", Some (codes "b=c"))
in_one_word = refl

-- in one word a value may begin with `-`, in two it does not
in_both_forms : options_in None (codes "--to" ∷ codes "a" ∷ codes "--links=-7" ∷ [])
    ≡ Some ((codes "to", codes "a") ∷ (codes "links", codes "-7") ∷ [])
in_both_forms = refl

no_hyphen : options_in None (codes "--links" ∷ codes "-7" ∷ []) ≡ None
no_hyphen = refl

no_stray : options_in None (codes "--links=7" ∷ codes "7" ∷ []) ≡ None
no_stray = refl

words_in_any_order : serve_words_of (codes "--links=7" ∷ codes "--out-write" ∷ codes "hex-in" ∷ codes "--to" ∷ codes "1.2.3.4:5"
    ∷ codes "--listen=5.6.7.8:9" ∷ [])
    ≡ Some (record {
      listen = record { ip = 5 ∷ 6 ∷ 7 ∷ 8 ∷ []; port = 9 };
      to = record { ip = 1 ∷ 2 ∷ 3 ∷ 4 ∷ []; port = 5 };
      settings = record usual { links = 7; out_write = filter.HexIn };
    })
words_in_any_order = refl

nothing_twice : serve_words_of (codes "--links=7" ∷ codes "--links=7" ∷ codes "--to" ∷ codes "1.2.3.4:5"
    ∷ codes "--listen=5.6.7.8:9" ∷ []) ≡ None
nothing_twice = refl

links_are_required : serve_words_of (codes "--to" ∷ codes "1.2.3.4:5" ∷ codes "--listen=5.6.7.8:9" ∷ []) ≡ None
links_are_required = refl

one_mode : mode_of (codes "buffers" ∷ []) ≡ Some Buffers
one_mode = refl

drained_in_any_order : (mode_of (codes "relay" ∷ codes "--drain" ∷ []) ≡ Some (Relay Drained))
    × (mode_of (codes "--drain" ∷ codes "relay" ∷ []) ≡ Some (Relay Drained))
drained_in_any_order = (refl, refl)

not_drained_twice : mode_of (codes "relay" ∷ codes "--drain" ∷ codes "--drain" ∷ []) ≡ None
not_drained_twice = refl

no_flag_alone : mode_of (codes "--drain" ∷ []) ≡ None
no_flag_alone = refl

no_flag_at_others : (mode_of (codes "buffers" ∷ codes "--drain" ∷ []) ≡ None) × (mode_of (codes "--drain" ∷ codes "--drain" ∷ []) ≡ None)
no_flag_at_others = (refl, refl)

most_links : mode_of (codes "big" ∷ codes "64" ∷ []) ≡ Some (Big 64)
most_links = refl

no_more : (mode_of (codes "big" ∷ codes "65" ∷ []) ≡ None) × (mode_of (codes "big" ∷ codes "0" ∷ []) ≡ None)
no_more = (refl, refl)

number_is_behind : (mode_of (codes "5" ∷ codes "big" ∷ []) ≡ None) × (mode_of (codes "relay" ∷ codes "5" ∷ []) ≡ None)
number_is_behind = (refl, refl)
