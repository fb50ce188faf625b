use Rattle.std.proofs.Common.{◌++◌, length, ap, ◌∙◌}
use Rattle.evbuf_chain.specs.Mark.{unmarked}
use Rattle.evbuf_chain.proofs.ChainLemmas.{marks-behind}
use Rattle.evbuf_chain.proofs.chain.Chain.push_copy.Goals as goal

pub returns-clause-marks : goal.returns-clause-marks
returns-clause-marks c =
    marks-behind c.self.inside.chunks.marks c.self.inside.own.items c.append.new.self.items c.args.bytes.now c.in_ok-append.ensures.items
    ∙ ap (λ v. v.marks ++ unmarked (length c.args.bytes.now)) c.self.view_is
