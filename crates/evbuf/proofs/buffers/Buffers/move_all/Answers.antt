use Rattle.std.proofs.Common.{◌≡◌, ◌<◌, List, length, set, get_or, ap, sym, ◌∙◌, subst, OnOk, OnErr}
use Rattle.evbuf.specs.Evbuffered.{Evbuffered}
use Rattle.evbuf.specs.Moves.{MovesAll}
use Rattle.evbuf.proofs.BufferLemmas.{OnOk-both, OnErr-both, MovesAll-around, all-back}
use Rattle.evbuf.proofs.buffers.Buffers.move_all.Goals as goal

pub returns-clause-ok : goal.returns-clause-ok
returns-clause-ok c =
    let xs : List Evbuffered = c.self.inside.items.items in
    let P : List Evbuffered → Type 0 = λ ys. c.args.to < length ys in
    let Q : List Evbuffered → Type 0 = λ ys. c.args.from < length ys in
    let source : Evbuffered = c.replace-source.result in
    let source_is : source ≡ get_or xs c.args.from source =
    c.replace-source.ensures.value ∙ c.index_mut.ensures.value
    ∙ ap (λ d. get_or xs c.args.from d) (sym c.replace-source.ensures.value) in
    let new = set (set (set xs c.args.from c.replace-source.new.dest) c.args.to c.add_buffer-answer.new.self) c.args.from
    c.add_buffer-answer.new.from in
    let R : List Evbuffered → Type 0 = λ ys. OnOk c.add_buffer-answer.result (MovesAll ys c.args.to c.args.from new) in
    subst R c.self.view_is
    (OnOk-both c.add_buffer-answer.result
    (λ a_is b_is. MovesAll-around xs c.args.from c.args.to c.replace-source.new.dest c.index_mut-2.result.now source
    c.add_buffer-answer.new.self c.add_buffer-answer.new.from c.if-to-from.false
    (subst P (sym c.self.view_is) c.requires.to_there) (subst Q (sym c.self.view_is) c.requires.from_there)
    c.index_mut-2.ensures.value source_is a_is b_is)
    c.add_buffer-answer.ensures.ok c.add_buffer-answer.ensures.from_ok)

pub returns-clause-err : goal.returns-clause-err
returns-clause-err c =
    let xs : List Evbuffered = c.self.inside.items.items in
    let P : List Evbuffered → Type 0 = λ ys. c.args.to < length ys in
    let Q : List Evbuffered → Type 0 = λ ys. c.args.from < length ys in
    let source : Evbuffered = c.replace-source.result in
    let source_is : source ≡ get_or xs c.args.from source =
    c.replace-source.ensures.value ∙ c.index_mut.ensures.value
    ∙ ap (λ d. get_or xs c.args.from d) (sym c.replace-source.ensures.value) in
    let new = set (set (set xs c.args.from c.replace-source.new.dest) c.args.to c.add_buffer-answer.new.self) c.args.from
    c.add_buffer-answer.new.from in
    let R : List Evbuffered → Type 0 = λ ys. OnErr c.add_buffer-answer.result (new ≡ ys) in
    subst R c.self.view_is
    (OnErr-both c.add_buffer-answer.result
    (λ a_is b_is. all-back xs c.args.from c.args.to c.replace-source.new.dest c.index_mut-2.result.now source
    c.add_buffer-answer.new.self c.add_buffer-answer.new.from c.if-to-from.false
    (subst P (sym c.self.view_is) c.requires.to_there) (subst Q (sym c.self.view_is) c.requires.from_there)
    c.index_mut-2.ensures.value source_is a_is b_is)
    c.add_buffer-answer.ensures.err c.add_buffer-answer.ensures.from_err)
