-- What is pending at all ends of a script port, side by side.
use Rattle.std.proofs.Common.{◌≡◌, ℕ, zero, suc, ◌+◌, ◌*◌, List, [], ◌∷◌, length, drop, map, Some, refl, sym, ap, ◌∙◌, arith}
use Rattle.std.specs.Prelude.{slice_get, sum_by}
use Rattle.std.proofs.Math.Seq.{drop-append_seam}
use Rattle.std.proofs.lemmas.List.Sums.{sum_by-cons}
use Rattle.ev_types.specs.declared.side.Side.{Side}
use Rattle.ev_types.specs.declared.side.Side.TheVariants.{In, Out}
use Rattle.ev_types.specs.declared.side.SideId.{SideId}
use Rattle.ev_types.specs.ScriptTurn.{lines_of}
use Rattle.ev_types.specs.Sides.{half}
use Rattle.relay_model.specs.Plain.{sides_from}
use Rattle.relay_model.specs.Scripted.{pending}
use Rattle.relay_model.specs.Trace.{bytes_read}
use Rattle.script_port.specs.ScriptLinks.{links_of}
use Rattle.script_port.specs.ScriptPlays.{PendingIsScripted}
use Rattle.script_port.specs.ScriptState.{EndState, EndKept}

-- the bytes that are pending at ends as they are kept
pub sum_of_states : (es : List EndKept) → sum_by (λ (e : EndKept). length e.state.pending) es ≡
    sum_by (λ (s : EndState). length s.pending) (map (λ (e : EndKept). e.state) es)
sum_of_states [] = refl
sum_of_states (e ∷ es) =
    let rest = sum_of_states es in
    let one = sum_by-cons (λ (x : EndKept). length x.state.pending) e es in
    let two = sum_by-cons (λ (s : EndState). length s.pending) e.state (map (λ (x : EndKept). x.state) es) in
    omega (arith, rest, one, two)

-- a sum over ends is the sum over their sides, counted from a link on
by_sides : (f : EndState → ℕ) (g : SideId → ℕ) (n k : ℕ) (ss : List EndState) → length ss ≡ 2 * n →
    ((link : ℕ) (side : Side) (s : EndState) → slice_get ss (2 * link + half side) ≡ Some s → f s ≡ g
    (record { link = k + link; side = side })) → sum_by f ss ≡ sum_by g (sides_from k n)
by_sides f g zero k [] long h = refl
by_sides f g zero k (s ∷ ss) long h = absurd (omega (arith, long))
by_sides f g (suc n) k [] long h = absurd (omega (arith, long))
by_sides f g (suc n) k (a ∷ []) long h = absurd (omega (arith, long))
by_sides f g (suc n) k (a ∷ b ∷ ss) long h =
    let here : k + 0 ≡ k = omega arith in
    let first : f a ≡ g (record { link = k; side = In }) = h 0 In a refl ∙ ap (λ m. g (record { link = m; side = In })) here in
    let second : f b ≡ g (record { link = k; side = Out }) = h 0 Out b refl ∙ ap (λ m. g (record { link = m; side = Out })) here in
    let rest = by_sides f g n (k + 1) ss (omega (arith, long)) (λ link side s found.
    let two : 2 * suc link + half side ≡ suc (suc (2 * link + half side)) = omega arith in
    let next : k + suc link ≡ k + 1 + link = omega arith in
    h (suc link) side s (ap (slice_get (a ∷ b ∷ ss)) two ∙ found) ∙ ap (λ m. g (record { link = m; side = side })) next) in
    let e : SideId = record { link = k; side = In } in
    let o : SideId = record { link = k; side = Out } in
    let one = sum_by-cons f a (b ∷ ss) in
    let two = sum_by-cons f b ss in
    let three = sum_by-cons g e (o ∷ sides_from (k + 1) n) in
    let four = sum_by-cons g o (sides_from (k + 1) n) in
    omega (arith, first, second, rest, one, two, three, four)

pub pending_is_scripted : PendingIsScripted
pending_is_scripted p step t stands =
    by_sides (λ (s : EndState). length s.pending) (λ e. length (pending p.turns t e)) (length (links_of (lines_of p.turns))) 0
    p.links.ends stands.many (λ link side s found.
    let e : SideId = record { link = 0 + link; side = side } in
    let plain : SideId = record { link = link; side = side } in
    let same : 0 + link ≡ link = omega arith in
    let here = stands.links.ends plain s found in
    let is : pending p.turns t plain ≡ s.pending = ap (drop (length (bytes_read plain t))) (sym here.came) ∙ drop-append_seam
    (bytes_read plain t) s.pending in
    ap length (sym is) ∙ ap (λ m. length (pending p.turns t (record { link = m; side = side }))) (sym same))
