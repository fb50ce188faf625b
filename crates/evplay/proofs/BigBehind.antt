-- A generated script brings in nothing behind an end.
use Rattle.std.proofs.Common.{◌≡◌, ◌<◌, ◌+◌, ℕ, zero, suc, Bool, true, false, ◌||◌, if◌then◌else◌, List, [], ◌∷◌, ◌++◌, refl, ap, sym, ◌∙◌}
use Rattle.std.proofs.Common.{None, arith, subst}
use Rattle.std.specs.Prelude.{replicate}
use Rattle.std.specs.List.{flat_map, list_any}
use Rattle.std.proofs.lemmas.Grind.{flat_map-append}
use Rattle.ev_types.specs.declared.side.SideId.{SideId}
use Rattle.ev_types.specs.declared.turn_line.TurnLine.{TurnLine}
use Rattle.ev_types.specs.declared.turn_line.TurnLine.TheVariants as line
use Rattle.ev_types.specs.ScriptTurn.{lines_of}
use Rattle.ev_types.specs.Sides.{same_end}
use Rattle.relay_model.specs.Lines.{brings, ends}
use Rattle.relay_model.proofs.EndLemmas.{same_end-apart, same_end-eq, same_end-flip}
use Rattle.relay_model.proofs.ListEnds.{append-empty, cons-head, cons-tail}
use Rattle.drain_laws.specs.CanDrain.{NoneBehind}
use Rattle.big_script.specs.BigScript.{big_script_of, in_side_of, lines_from, out_side_of}
use Rattle.big_script.specs.Generated.{generated, number_after}
use Rattle.big_script.proofs.LineLemmas.{lines_of-turns}

-- Any lines

behind-none : NoneBehind []
behind-none [] after e cut ended = absurd cc
behind-none (y ∷ before) after e cut ended = absurd cc

-- nothing comes in behind an end where that holds without the first line, and behind the first line's own end
behind-cons : (x : TurnLine) (xs : List TurnLine) → ((e : SideId) → ends e x ≡ true → flat_map (brings e) xs ≡ []) → NoneBehind xs →
    NoneBehind (x ∷ xs)
behind-cons x xs here later [] after e cut ended = absurd cc
behind-cons x xs here later (y ∷ before) after e cut ended = go (ends e y) refl ended
  where
    first : x ≡ y
    first = cons-head x y xs (before ++ after) cut

    rest : xs ≡ before ++ after
    rest = cons-tail x y xs (before ++ after) cut

    go : (b : Bool) → ends e y ≡ b → (b || list_any (ends e) before) ≡ true → flat_map (brings e) after ≡ []
    go true is h =
        append-empty (flat_map (brings e) before) (flat_map (brings e) after)
        (sym (flat_map-append (brings e) before after) ∙ ap (flat_map (brings e)) (sym rest) ∙ here e (ap (ends e) first ∙ is))
    go false is h = later before after e rest h

-- Lines of links

-- no bytes come in at an end that is not the one
none-apart : (b : Bool) (bytes more : List ℕ) → b ≡ false → more ≡ [] → (if b then bytes else []) ++ more ≡ []
none-apart true bytes more is none = absurd cc
none-apart false bytes more is none = none

-- the lines of links from one on bring in nothing at an end of a link below it
none-below : (e : SideId) (each n link x : ℕ) → e.link < link → flat_map (brings e) (lines_from each n link x) ≡ []
none-below e each zero link x low = refl
none-below e each (suc n) link x low =
    let apart = same_end-flip e (in_side_of link) false (same_end-apart e (in_side_of link) link low (omega arith)) in
    none-apart (same_end (in_side_of link) e) (generated each x) (flat_map (brings e) (lines_from each n (link + 1) (number_after each x)))
    apart (none-below e each n (link + 1) (number_after each x) (omega (arith, low)))

-- so nothing comes in at an end of the link before them
none-at : (a e : SideId) (each n link x : ℕ) → a.link < link → same_end a e ≡ true → flat_map (brings e) (lines_from each n link x) ≡ []
none-at a e each n link x low same =
    none-below e each n link x (subst (λ (z : SideId). z.link < link) (same_end-eq a e same) low)

behind-lines_from : (each n link x : ℕ) → NoneBehind (lines_from each n link x)
behind-lines_from each zero link x = behind-none
behind-lines_from each (suc n) link x =
    let rest : List TurnLine = lines_from each n (link + 1) (number_after each x) in
    let bytes : List ℕ = generated each x in
    let low : link < link + 1 = omega arith in
    let in_take = line.Take (in_side_of link) None in
    let out_take = line.Take (out_side_of link) None in
    let takes : List TurnLine = in_take ∷ out_take ∷ rest in
    let out_eof : List TurnLine = line.Eof (out_side_of link) ∷ takes in
    let in_eof : List TurnLine = line.Eof (in_side_of link) ∷ out_eof in
    behind-cons (line.Pending (in_side_of link) bytes) in_eof (λ e h. absurd cc)
    (behind-cons (line.Eof (in_side_of link)) out_eof (λ e h. none-at (in_side_of link) e each n (link + 1) (number_after each x) low h)
    (behind-cons (line.Eof (out_side_of link)) takes (λ e h. none-at (out_side_of link) e each n (link + 1) (number_after each x) low h)
    (behind-cons in_take (out_take ∷ rest) (λ e h. absurd cc)
    (behind-cons out_take rest (λ e h. absurd cc)
    (behind-lines_from each n (link + 1) (number_after each x))))))

-- The script

-- before lines that bring in nothing behind an end, links are opened
behind-opening : (n : ℕ) (rest : List TurnLine) → NoneBehind rest → NoneBehind (replicate n (line.NewLink false) ++ rest)
behind-opening zero rest h = h
behind-opening (suc n) rest h =
    behind-cons (line.NewLink false) (replicate n (line.NewLink false) ++ rest) (λ e k. absurd cc) (behind-opening n rest h)

-- a generated script brings in nothing behind an end
pub big-behind : (n : ℕ) → NoneBehind (lines_of (big_script_of n).turns)
big-behind n =
    subst (λ (lines : List TurnLine). NoneBehind lines) (sym (lines_of-turns 3000 n))
    (behind-opening n (lines_from 3000 n 0 n) (behind-lines_from 3000 n 0 n))
