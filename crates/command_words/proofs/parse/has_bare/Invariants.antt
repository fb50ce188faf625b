use Rattle.std.proofs.Common.{◌≡◌, drop, string_bytes}
use Rattle.std.specs.List.{list_any}
use Rattle.command_words.specs.Options.{is_bare}
use Rattle.command_words.proofs.parse.has_bare.Given as goal

abbrev pub invariant-loop-word : goal.invariant-loop-word
invariant-loop-word l = list_any (λ w. is_bare (string_bytes w)) (drop l.word-index l.words)
    ≡ list_any (λ w. is_bare (string_bytes w)) l.words
