use Rattle.std.proofs.Common.{◌∙◌, ap}
use Rattle.std.specs.Option.{option_or}
use Rattle.stream_filters.proofs.LastLemmas.{last-at}
use Rattle.stream_filters.proofs.knowledge.Knowledge.last_behind.Goals as goal

pub returns : goal.returns
returns c =
    c.or.ensures ∙ ap (λ o. option_or o c.args.self.now.last) (c.copied.ensures ∙ c.last.ensures.value)
    ∙ last-at c.args.self.now.last c.args.bytes.now
