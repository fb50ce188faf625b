use Rattle.std.proofs.Common.{◌≡◌, ◌∙◌, true, sym, ap, string_bytes, drop_of_length-le}
use Rattle.std.specs.List.{list_any}
use Rattle.clap.proofs.WalkLemmas.{list_any-map}
use Rattle.command_words.specs.Options.{is_bare}
use Rattle.command_words.proofs.CutLemmas.{list_any-at}
use Rattle.command_words.proofs.parse.has_bare.Goals as goal

pub returns-then-is_bare : goal.returns-then-is_bare
returns-then-is_bare c =
    let words = c.args.words.now in
    let bare : is_bare (string_bytes c.word-item.result) ≡ true = sym (c.if-is_bare.ensures ∙ ap is_bare c.as_str.ensures.value) in
    let at = ap (λ w. is_bare (string_bytes w)) (sym c.word-item.is) ∙ bare in
    sym (list_any-at (λ w. is_bare (string_bytes w)) words c.loop-word.word-index c.word-item.result c.loop-word-test.true at)
    ∙ list_any-map is_bare string_bytes words

pub returns : goal.returns
returns c =
    let words = c.args.words.now in
    ap (list_any (λ w. is_bare (string_bytes w))) (sym (drop_of_length-le words c.loop-word-test.false))
    ∙ c.loop-word.invariant ∙ list_any-map is_bare string_bytes words
