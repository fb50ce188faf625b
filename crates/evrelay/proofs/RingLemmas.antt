-- The lines of the entries of a ring, one after another.
use Rattle.std.proofs.Common.{◌≡◌, ◌<◌, ◌≤◌, ◌+◌, ◌-◌, ℕ, suc, List, [], ◌∷◌, ◌++◌, length, take, drop, get_or, sym, ◌∙◌, ap, arith}
use Rattle.std.proofs.Common.{length-append}
use Rattle.std.proofs.Math.Seq.{take-suc}
use Rattle.std.proofs.lemmas.Grind.{flat_map-append}
use Rattle.std.proofs.lemmas.List.{append-nil, drop-append-le}
use Rattle.ev_types.specs.declared.entry.Entry.{Entry}
use Rattle.evrelay.specs.RingText.{counted_line, ring_text}
use Rattle.evrelay.specs.RingWants.{keep_last}

-- with the line of the next entry the text has one line more
pub ring_text-next : (xs : List Entry) (i : ℕ) (d : Entry) → i < length xs → ring_text (take (i + 1) xs) ≡ ring_text (take i xs) ++ counted_line (get_or xs i d)
ring_text-next xs i d within =
    let one : i + 1 ≡ suc i = omega arith in
    ap (λ n. ring_text (take n xs)) one
    ∙ ap ring_text (take-suc xs i d within)
    ∙ flat_map-append counted_line (take i xs) (get_or xs i d ∷ [])
    ∙ ap (λ z. ring_text (take i xs) ++ z) (append-nil (counted_line (get_or xs i d)))

-- the lines of the last entries in two halves, of which the newer one has no more than are kept
pub ring_text-halves : (older newer : List Entry) (passed : ℕ) → passed ≡ length older + length newer - 64 → length newer ≤ 64
    → ring_text (drop passed older) ++ ring_text newer ≡ ring_text (keep_last 64 (older ++ newer))
ring_text-halves older newer passed is short =
    let cut : passed ≡ length (older ++ newer) - 64 = omega (arith, is, length-append older newer) in
    sym (flat_map-append counted_line (drop passed older) newer)
    ∙ ap ring_text (sym (drop-append-le passed older newer (omega (arith, is, short))) ∙ ap (λ n. drop n (older ++ newer)) cut)
