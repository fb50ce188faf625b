use Rattle.std.proofs.Common.{◌≢◌, ℕ, List, length, map, arith, Bor}
use Rattle.std.proofs.lemmas.List.{length-map}
use Rattle.script_text.proofs.ShapeLemmas.{freed_said-other}
use Rattle.script_text.proofs.entry_words.freed_entry.Goals as goal

pub returns-in_default : goal.returns-in_default
returns-in_default c =
    let ws = map (λ (w : Bor (List ℕ)). w.now) c.args.more.now in
    let other : length ws ≢ 5 = omega (arith, length-map c.args.more.now (λ (w : Bor (List ℕ)). w.now)) in
    freed_said-other ws other

pub returns-in_default-2 : goal.returns-in_default-2
returns-in_default-2 c =
    let ws = map (λ (w : Bor (List ℕ)). w.now) c.args.more.now in
    let other : length ws ≢ 5 = omega (arith, length-map c.args.more.now (λ (w : Bor (List ℕ)). w.now)) in
    freed_said-other ws other
