-- The links of a generated script can be drained.
use Rattle.std.proofs.Common.{◌≡◌, ◌≤◌, ◌<◌, ◌+◌, ℕ, zero, suc, Bool, true, false, List, [], ◌++◌, refl, ap, ◌∙◌, arith}
use Rattle.std.proofs.Common.{◌&&◌, ◌||◌, not, eq-eqb, ◌⊎◌, inl, inr}
use Rattle.std.specs.Prelude.{replicate, ◌==◌}
use Rattle.std.specs.List.{flat_map, list_any}
use Rattle.std.proofs.Math.Nat.{eq-or-lt_of_le}
use Rattle.ev_types.specs.declared.side.Side.{Side}
use Rattle.ev_types.specs.declared.side.Side.TheVariants.{In, Out}
use Rattle.ev_types.specs.declared.side.SideId.{SideId}
use Rattle.ev_types.specs.Sides.{same_end, same_side}
use Rattle.ev_types.specs.declared.turn_line.TurnLine.{TurnLine}
use Rattle.ev_types.specs.declared.turn_line.TurnLine.TheVariants as line
use Rattle.relay_model.specs.ClosingTurns.{IsDrainable}
use Rattle.relay_model.specs.Lines.{ends, fails_reads, decides}
use Rattle.big_script.specs.Generated.{number_after}
use Rattle.big_script.specs.BigScript.{lines_from, turns_with_each, in_side_of, out_side_of}
use Rattle.big_script.specs.BigLaws.{BigScriptsAreDrainable}
use Rattle.big_script.proofs.LineLemmas.{lines_of-turns, length-opened}

-- one of the two ends of its link is the end
one-of-both : (b : Bool) (s : Side) (rest : Bool) → b ≡ true → ((b && same_side In s) || ((b && same_side Out s) || rest)) ≡ true
one-of-both true In rest h = refl
one-of-both true Out rest h = refl
one-of-both false s rest h = absurd cc

or-last : (a b rest : Bool) → rest ≡ true → (a || (b || rest)) ≡ true
or-last true b rest h = refl
or-last false true rest h = refl
or-last false false rest h = h

-- the lines of a link say that both of its ends end
ends-lines_from : (e : SideId) (each n link x : ℕ) → link ≤ e.link → e.link < link + n →
    list_any (ends e) (lines_from each n link x) ≡ true
ends-lines_from e each zero link x low high = absurd (omega (arith, low, high))
ends-lines_from e each (suc n) link x low high =
    go (λ later.
    let below : link + 1 ≤ e.link = omega (arith, later) in
    let within : e.link < link + 1 + n = omega (arith, high) in
    ends-lines_from e each n (link + 1) (number_after each x) below within)
    (eq-or-lt_of_le low)
  where
    rest : Bool
    rest = list_any (ends e) (lines_from each n (link + 1) (number_after each x))

    go : (link < e.link → rest ≡ true) → (link ≡ e.link) ⊎ (link < e.link) → list_any (ends e) (lines_from each (suc n) link x) ≡ true
    go next (inl same) = one-of-both (link == e.link) e.side rest (eq-eqb link e.link same)
    go next (inr later) = or-last (same_end (in_side_of link) e) (same_end (out_side_of link) e) rest (next later)

fails-lines_from : (e : SideId) (each n link x : ℕ) → list_any (fails_reads e) (lines_from each n link x) ≡ false
fails-lines_from e each zero link x = refl
fails-lines_from e each (suc n) link x = fails-lines_from e each n (link + 1) (number_after each x)

decides-lines_from : (k : ℕ) (each n link x : ℕ) → flat_map (decides k) (lines_from each n link x) ≡ []
decides-lines_from k each zero link x = refl
decides-lines_from k each (suc n) link x = decides-lines_from k each n (link + 1) (number_after each x)

-- the lines that open links say nothing of that

ends-opening : (e : SideId) (n : ℕ) (rest : List TurnLine) →
    list_any (ends e) (replicate n (line.NewLink false) ++ rest) ≡ list_any (ends e) rest
ends-opening e zero rest = refl
ends-opening e (suc n) rest = ends-opening e n rest

fails-opening : (e : SideId) (n : ℕ) (rest : List TurnLine) →
    list_any (fails_reads e) (replicate n (line.NewLink false) ++ rest) ≡ list_any (fails_reads e) rest
fails-opening e zero rest = refl
fails-opening e (suc n) rest = fails-opening e n rest

decides-opening : (k n : ℕ) (rest : List TurnLine) →
    flat_map (decides k) (replicate n (line.NewLink false) ++ rest) ≡ flat_map (decides k) rest
decides-opening k zero rest = refl
decides-opening k (suc n) rest = decides-opening k n rest

pub drainable-turns : (each links : ℕ) → IsDrainable (turns_with_each each links)
drainable-turns each links =
    let sending = lines_from each links 0 links in
    let lines = lines_of-turns each links in
    record {
      all_end = λ e h.
          let low : 0 ≤ e.link = omega arith in
          let high : e.link < 0 + links = omega (arith, h, length-opened each links) in
          ap (list_any (ends e)) lines ∙ ends-opening e links sending ∙ ends-lines_from e each links 0 links low high;
      no_read_fails = λ e.
          ap (list_any (fails_reads e)) lines ∙ fails-opening e links sending ∙ fails-lines_from e each links 0 links;
      none_is_refused = λ k.
          ap (λ (all : List TurnLine). list_any not (flat_map (decides k) all)) lines
          ∙ ap (list_any not) (decides-opening k links sending)
          ∙ ap (list_any not) (decides-lines_from k each links 0 links);
    }

pub big_scripts_are_drainable : BigScriptsAreDrainable
big_scripts_are_drainable links = drainable-turns 3000 links
