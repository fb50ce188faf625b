use Rattle.std.proofs.Common.{◌≡◌, ◌++◌, map, length}
use Rattle.script_text.specs.Pieces.{words}
use Rattle.script_text.proofs.words.words_of.Given as goal

-- the words that were found and those of the rest are the words of the line
abbrev pub invariant-loop-rest : goal.invariant-loop-rest
invariant-loop-rest l = map (λ w. w.now) l.all.items ++ words l.rest ≡ words l.fn.line

abbrev pub decreases-loop-rest : goal.decreases-loop-rest
decreases-loop-rest l = length l.rest
