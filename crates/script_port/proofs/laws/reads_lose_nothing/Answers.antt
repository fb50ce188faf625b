use Rattle.std.proofs.Common.{take, drop, ap, ◌∙◌, ◌++◌, append_assoc}
use Rattle.std.proofs.lemmas.List.{take-append-drop}
use Rattle.script_port.proofs.laws.reads_lose_nothing.Goals as goal

pub returns : goal.returns
returns c = λ s room. append_assoc s.given (take room s.pending) (drop room s.pending) ∙ ap (λ t. s.given ++ t)
    (take-append-drop room s.pending)
