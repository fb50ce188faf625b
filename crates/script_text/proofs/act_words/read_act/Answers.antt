use Rattle.std.proofs.Common.{◌≡◌, ℕ, List, length, map, arith, Bor}
use Rattle.std.proofs.lemmas.List.{length-map}
use Rattle.script_text.proofs.ShapeLemmas.{act_of-two}
use Rattle.script_text.proofs.act_words.read_act.Goals as goal

pub returns-in_default-3 : goal.returns-in_default-3
returns-in_default-3 c =
    let ws = map (λ (w : Bor (List ℕ)). w.now) c.args.words.now in
    let two : length ws ≡ 2 = omega (arith, length-map c.args.words.now (λ (w : Bor (List ℕ)). w.now)) in
    act_of-two ws two
