use Rattle.std.proofs.Common.{◌≡◌, ◌+◌, drop, ap, ◌∙◌, drop-drop}
use Rattle.script_text.proofs.PieceLemmas.{pieces-found, pieces-none}
use Rattle.script_text.proofs.words.first_piece.Goals as goal

pub returns-in-Some-clause-pieces : goal.returns-in-Some-clause-pieces
returns-in-Some-clause-pieces c = λ full.
    let text = c.args.text.now in
    let at = c.in-Some.at in
    let behind : c.split_at-in-Some.result.1.now ≡ drop (at + 1) text =
    c.split_at-in-Some.ensures.back ∙ ap (λ xs. drop 1 xs) c.split_at.ensures.back ∙ drop-drop 1 at text in
    rw (c.split_at.ensures.front, behind) (pieces-found c.args.stop text at c.in-Some.ensures)

pub returns-in-None-clause-pieces : goal.returns-in-None-clause-pieces
returns-in-None-clause-pieces c = λ full. pieces-none c.args.stop c.args.text.now c.in-None.ensures full
