-- Runs of to-crlf over bytes of which what they make is surely below the limit.
use Rattle.std.proofs.Common.{◌≡◌, ℕ, zero, suc, ◌+◌, ◌*◌, ◌<◌, ◌≤◌, Bool, true, false, not, ◌&&◌, ◌==◌, if◌then◌else◌}
use Rattle.std.proofs.Common.{List, [], ◌∷◌, ◌++◌}
use Rattle.std.proofs.Common.{length, take, drop, Option, Some, None, refl, sym, ◌∙◌, ap, arith, append_assoc, length-append}
use Rattle.std.specs.Prelude.{slice_index, unwrap_or}
use Rattle.std.specs.List.{last_or}
use Rattle.ev_types.specs.declared.filter.FilterKind.TheVariants as kind
use Rattle.filter_model.specs.Filter.{CR, LF, crlf_after}
use Rattle.filter_model.specs.FilterRun.{Ran, run, adds}
use Rattle.filter_model.specs.FilterCuts.{joined}
use Rattle.stream_filters.specs.Parts.{AppendsPart, HasRoom}
use Rattle.stream_filters.proofs.PartLemmas.{run-byte}

-- what a byte adds
one-adds : (last : Option ℕ) (x count : ℕ) →
    adds kind.ToCrlf count last x ≡ (if x == LF && not (unwrap_or last 0 == CR) then CR ∷ LF ∷ [] else x ∷ [])
one-adds None x count = refl
one-adds (Some l) x count = refl

-- the first byte and those behind it
pub crlf-first : (last : Option ℕ) (src : List ℕ) → 0 < length src →
    crlf_after (unwrap_or last 0) src ≡ adds kind.ToCrlf 0 last (slice_index src 0) ++ crlf_after (slice_index src 0) (drop 1 src)
crlf-first last [] some = absurd (omega (arith, some))
crlf-first last (x ∷ src) some = ap (λ made. made ++ crlf_after x src) (sym (one-adds last x 0))

two-at-most : (b : Bool) (x : ℕ) → length (if b then CR ∷ LF ∷ [] else x ∷ []) ≤ 2
two-at-most true x = omega arith
two-at-most false x = omega arith

run-crlf : (limit n count : ℕ) (last : Option ℕ) (src : List ℕ) (used : ℕ) → used ≤ length src → n + 2 * used ≤ limit →
    run kind.ToCrlf limit n count last src
    ≡ joined (record { used = used; made = crlf_after (unwrap_or last 0) (take used src) })
    (run kind.ToCrlf limit (n + length (crlf_after (unwrap_or last 0) (take used src))) (count + used) (last_or last (take used src))
    (drop used src))
run-crlf limit n count last src zero there room =
    let a : n ≡ n + 0 = omega arith in
    let b : count ≡ count + 0 = omega arith in
    let r : Ran = run kind.ToCrlf limit (n + 0) (count + 0) last src in
    let z : r.used ≡ 0 + r.used = omega arith in
    (λ i. run kind.ToCrlf limit (a i) (b i) last src) ∙ (λ i. record { used = z i; made = r.made })
run-crlf limit n count last [] (suc used) there room = absurd (omega (arith, there))
run-crlf limit n count last (x ∷ src) (suc used) there room =
    let one : List ℕ = if x == LF && not (unwrap_or last 0 == CR) then CR ∷ LF ∷ [] else x ∷ [] in
    let rest : List ℕ = crlf_after x (take used src) in
    let is = one-adds last x count in
    let few = two-at-most (x == LF && not (unwrap_or last 0 == CR)) x in
    let ih = run-crlf limit (n + length one) (count + 1) (Some x) src used (omega (arith, there)) (omega (arith, room, few)) in
    let a : n + length one + length rest ≡ n + length (one ++ rest) = omega (arith, length-append one rest) in
    let b : count + 1 + used ≡ count + suc used = omega arith in
    let r : Ran = run kind.ToCrlf limit (n + length (one ++ rest)) (count + suc used) (last_or (Some x) (take used src)) (drop used src) in
    let c : 1 + (used + r.used) ≡ suc used + r.used = omega arith in
    run-byte kind.ToCrlf limit n count last x src (omega (arith, room)) refl
    ∙ (λ i. joined (record { used = 1; made = is i }) (run kind.ToCrlf limit (n + length (is i)) (count + 1) (Some x) src))
    ∙ (λ i. joined (record { used = 1; made = one }) (ih i))
    ∙ (λ i. joined (record { used = 1; made = one })
    (joined (record { used = used; made = rest })
    (run kind.ToCrlf limit (a i) (b i) (last_or (Some x) (take used src)) (drop used src))))
    ∙ (λ i. record { used = c i; made = sym (append_assoc one rest r.made) i })

-- a part of such bytes
pub crlf-part : (limit count : ℕ) (last : Option ℕ) (src old new : List ℕ) (used : ℕ) → used ≤ length src →
    length old + 2 * used ≤ limit → 0 < used →
    new ≡ old ++ crlf_after (unwrap_or last 0) (take used src) → AppendsPart kind.ToCrlf limit count last src old new used
crlf-part limit count last src old new used within below some filled = record {
  made = crlf_after (unwrap_or last 0) (take used src);
  filled = filled;
  within = within;
  goes =
      run-crlf limit (length old) count last src used within below
      ∙ (let n : length old + length (crlf_after (unwrap_or last 0) (take used src)) ≡ length new =
      sym (ap length filled ∙ length-append old (crlf_after (unwrap_or last 0) (take used src))) in
      λ i. joined (record { used = used; made = crlf_after (unwrap_or last 0) (take used src) })
      (run kind.ToCrlf limit (n i) (count + used) (last_or last (take used src)) (drop used src)));
  stops = λ none. absurd (omega (arith, none, some));
}

-- and the room that it needs
pub crlf-room : (limit count : ℕ) (last : Option ℕ) (src old : List ℕ) (used capacity : ℕ) → used ≤ length src →
    length old + 2 * used ≤ limit →
    HasRoom kind.ToCrlf limit count last src old capacity → length old + length (crlf_after (unwrap_or last 0) (take used src)) ≤ capacity
crlf-room limit count last src old used capacity within below room =
    let made : List ℕ = crlf_after (unwrap_or last 0) (take used src) in
    let rest : Ran = run kind.ToCrlf limit (length old + length made) (count + used) (last_or last (take used src)) (drop used src) in
    let e = ap (λ (r : Ran). length r.made) (run-crlf limit (length old) count last src used within below) in
    omega (arith, e, length-append made rest.made, room)
