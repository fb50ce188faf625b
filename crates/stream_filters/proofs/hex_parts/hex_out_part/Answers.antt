use Rattle.std.proofs.Common.{◌++◌, ◌∙◌}
use Rattle.filter_model.specs.Filter.{hex_out}
use Rattle.stream_filters.proofs.hex_parts.hex_out_part.Goals as goal

pub returns-clause-items : goal.returns-clause-items
returns-clause-items c = c.put_digits.ensures.items ∙ (λ i. c.args.dst.now.items ++ hex_out (c.split_at.ensures.front i))
