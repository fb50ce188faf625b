use Rattle.std.proofs.Common.{◌++◌, [], List, ℕ, ap, ◌∙◌, append-nil, sym}
use Rattle.script_text.specs.Pieces.{lines}
use Rattle.script_text.specs.Laws.{with_ends}
use Rattle.script_text.proofs.LawLemmas.{lines-with_ends, pieces-only}
use Rattle.script_text.proofs.laws.lines_are_parted.Goals as goal

pub returns : goal.returns
returns c = λ ls last lack lacks. (
  ap lines (sym (append-nil (with_ends ls))) ∙ lines-with_ends ls [] lack ∙ append-nil ls,
  λ full. lines-with_ends ls last lack ∙ ap (λ (more : List (List ℕ)). ls ++ more) (pieces-only 10 last full lacks),
)
