use Rattle.std.proofs.Common.{◌≡◌, ◌∙◌, ap, codes, true, false}
use Rattle.std.proofs.lemmas.Result.{IfOk-weaker}
use Rattle.clap.specs.Simple.{App, with_rule}
use Rattle.command_words.specs.Options.{Named}
use Rattle.command_words.specs.Clap.{option_rule}
use Rattle.command_words.proofs.options.serve_command.Goals as goal

-- one option more
more : (n : Named) {a b c : App} → a ≡ with_rule b (option_rule n) → b ≡ c → a ≡ with_rule c (option_rule n)
more n e f = e ∙ ap (λ x. with_rule x (option_rule n)) f

pub returns : goal.returns
returns c =
    let first = more (codes "listen", true) c.in_ok-command.ensures c.bare_command-command.ensures in
    let second = more (codes "to", true) c.in_ok-command-2.ensures first in
    let third = more (codes "links", true) c.in_ok-command-3.ensures second in
    let fourth = more (codes "hold", false) c.in_ok-command-4.ensures third in
    let fifth = more (codes "in-read", false) c.in_ok-command-5.ensures fourth in
    let sixth = more (codes "in-write", false) c.in_ok-command-6.ensures fifth in
    let seventh = more (codes "out-read", false) c.in_ok-command-7.ensures sixth in
    IfOk-weaker c.with_option-8.result _ _ (λ command h. more (codes "out-write", false) h seventh) c.with_option-8.ensures
