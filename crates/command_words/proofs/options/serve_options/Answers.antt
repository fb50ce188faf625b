use Rattle.std.proofs.Common.{map, string_bytes, subst}
use Rattle.std.proofs.lemmas.Result.{IfErr-weaker, IfOk-weaker}
use Rattle.command_words.specs.Parse.{ClapRefuses, ClapTakes}
use Rattle.command_words.proofs.WordViews.{strings_are_texts}
use Rattle.command_words.proofs.ClapAgrees.{serve_refused, serve_taken}
use Rattle.command_words.proofs.options.serve_options.Goals as goal

pub returns : goal.returns
returns c =
    let words = map string_bytes c.args.words.now in
    let texts = strings_are_texts c.args.words.now in
    let is = c.in_ok-serve_command.ensures in
    record {
      read = IfOk-weaker c.parsed.result _ _ (λ m taken. serve_taken words m texts
          (subst (λ a. ClapTakes a words m) is taken)) c.parsed.ensures.taken;
      refused = IfErr-weaker c.parsed.result _ _ (λ fault refuses usage. serve_refused words texts
          (subst (λ a. ClapRefuses a words) is (refuses usage)))
          c.parsed.ensures.refused;
    }
