-- Runs of to-lf over bytes of which what they make is surely no more than the limit allows.
use Rattle.std.proofs.Common.{◌≡◌, ℕ, zero, suc, ◌+◌, ◌<◌, ◌≤◌, Bool, true, false, not, ◌&&◌, ◌==◌, if◌then◌else◌}
use Rattle.std.proofs.Common.{List, [], ◌∷◌, ◌++◌}
use Rattle.std.proofs.Common.{length, take, drop, Option, Some, refl, sym, ◌∙◌, ap, arith, append_assoc, append-nil, length-append}
use Rattle.std.specs.List.{last_or}
use Rattle.std.proofs.lemmas.Bool.{eqb-true}
use Rattle.ev_types.specs.declared.filter.FilterKind.TheVariants as kind
use Rattle.filter_model.specs.Filter.{CR, LF, to_lf}
use Rattle.filter_model.specs.FilterRun.{Ran, run, adds, end_adds, is_cr}
use Rattle.filter_model.specs.FilterCuts.{joined}
use Rattle.stream_filters.specs.Parts.{AppendsPart, HasRoom}
use Rattle.stream_filters.proofs.PartLemmas.{run-byte}

-- what bytes make behind the last byte before them, which is held where it is CR
abbrev lf_behind : Option ℕ → List ℕ → List ℕ
lf_behind last [] = []
lf_behind last (x ∷ xs) = (if is_cr last && not (x == LF) then CR ∷ [] else []) ++ to_lf (x ∷ xs)

-- a byte before one that tells whether it is left out
told : (x : ℕ) (b c : Bool) → (x == CR) ≡ b →
    (if b && c then [] else x ∷ []) ≡ (if b then [] else x ∷ []) ++ (if b && not c then CR ∷ [] else [])
told x true true is = refl
told x true false is = let e = eqb-true x CR is in λ i. e i ∷ []
told x false c is = refl

-- the first byte and those behind it
lf_behind-first : (last : Option ℕ) (x : ℕ) (xs : List ℕ) → lf_behind last (x ∷ xs) ≡ adds kind.ToLf 0 last x ++ lf_behind (Some x) xs
lf_behind-first last x [] = sym (append-nil (adds kind.ToLf 0 last x))
lf_behind-first last x (y ∷ ys) =
    let held : List ℕ = if is_cr last && not (x == LF) then CR ∷ [] else [] in
    let one : List ℕ = if x == CR then [] else x ∷ [] in
    let next : List ℕ = if x == CR && not (y == LF) then CR ∷ [] else [] in
    let rest : List ℕ = to_lf (y ∷ ys) in
    (λ i. held ++ (told x (x == CR) (y == LF) refl i ++ rest))
    ∙ ap (λ zs. held ++ zs) (append_assoc one next rest)
    ∙ sym (append_assoc held one (next ++ rest))

-- where no byte is held they make what to-lf makes of them alone
lf_behind-free : (last : Option ℕ) (xs : List ℕ) → is_cr last ≡ false → lf_behind last xs ≡ to_lf xs
lf_behind-free last [] free = refl
lf_behind-free last (x ∷ xs) free = λ i. (if free i && not (x == LF) then CR ∷ [] else []) ++ to_lf (x ∷ xs)

-- with what is held a byte makes at most one more
few : (b c d : Bool) (x : ℕ) →
    length ((if b && not c then CR ∷ [] else []) ++ (if d then [] else x ∷ [])) + length (if d then CR ∷ [] else [])
    ≤ length (if b then CR ∷ [] else []) + 1
few true true true x = omega arith
few true true false x = omega arith
few true false true x = omega arith
few true false false x = omega arith
few false c true x = omega arith
few false c false x = omega arith

run-lf : (limit n count : ℕ) (last : Option ℕ) (src : List ℕ) (used : ℕ) → used ≤ length src →
    n + length (end_adds kind.ToLf last) + used ≤ limit →
    run kind.ToLf limit n count last src
    ≡ joined (record { used = used; made = lf_behind last (take used src) })
    (run kind.ToLf limit (n + length (lf_behind last (take used src))) (count + used) (last_or last (take used src)) (drop used src))
run-lf limit n count last src zero there room =
    let a : n ≡ n + 0 = omega arith in
    let b : count ≡ count + 0 = omega arith in
    let r : Ran = run kind.ToLf limit (n + 0) (count + 0) last src in
    let z : r.used ≡ 0 + r.used = omega arith in
    (λ i. run kind.ToLf limit (a i) (b i) last src) ∙ (λ i. record { used = z i; made = r.made })
run-lf limit n count last [] (suc used) there room = absurd (omega (arith, there))
run-lf limit n count last (x ∷ src) (suc used) there room =
    let one : List ℕ = adds kind.ToLf 0 last x in
    let rest : List ℕ = lf_behind (Some x) (take used src) in
    let is : lf_behind last (x ∷ take used src) ≡ one ++ rest = lf_behind-first last x (take used src) in
    let most = few (is_cr last) (x == LF) (x == CR) x in
    let ih = run-lf limit (n + length one) (count + 1) (Some x) src used (omega (arith, there)) (omega (arith, room, most)) in
    let a : n + length one + length rest ≡ n + length (one ++ rest) = omega (arith, length-append one rest) in
    let b : count + 1 + used ≡ count + suc used = omega arith in
    let r : ℕ → Ran = λ m. run kind.ToLf limit m (count + suc used) (last_or (Some x) (take used src)) (drop used src) in
    let c : 1 + (used + (r (n + length (one ++ rest))).used) ≡ suc used + (r (n + length (one ++ rest))).used = omega arith in
    run-byte kind.ToLf limit n count last x src (omega (arith, room)) refl
    ∙ (λ i. joined (record { used = 1; made = one }) (ih i))
    ∙ (λ i. joined (record { used = 1; made = one })
    (joined (record { used = used; made = rest })
    (run kind.ToLf limit (a i) (b i) (last_or (Some x) (take used src)) (drop used src))))
    ∙ (λ i. record { used = c i; made = sym (append_assoc one rest (r (n + length (one ++ rest))).made) i })
    ∙ (λ i. joined (record { used = suc used; made = sym is i }) (r (n + length (sym is i))))

-- bytes before which none is held
run-free : (limit n count : ℕ) (last : Option ℕ) (src : List ℕ) (used : ℕ) → is_cr last ≡ false → used ≤ length src →
    n + used ≤ limit →
    run kind.ToLf limit n count last src
    ≡ joined (record { used = used; made = to_lf (take used src) })
    (run kind.ToLf limit (n + length (to_lf (take used src))) (count + used) (last_or last (take used src)) (drop used src))
run-free limit n count last src used free there room =
    let none : length (end_adds kind.ToLf last) ≡ 0 = λ i. length (if free i then CR ∷ [] else []) in
    let same = lf_behind-free last (take used src) free in
    run-lf limit n count last src used there (omega (arith, none, room))
    ∙ (λ i. joined (record { used = used; made = same i })
    (run kind.ToLf limit (n + length (same i)) (count + used) (last_or last (take used src)) (drop used src)))

-- a part of such bytes
pub lf-part : (limit count : ℕ) (last : Option ℕ) (src old new : List ℕ) (used : ℕ) → is_cr last ≡ false → used ≤ length src →
    length old + used ≤ limit → 0 < used →
    new ≡ old ++ to_lf (take used src) → AppendsPart kind.ToLf limit count last src old new used
lf-part limit count last src old new used free within below some filled = record {
  made = to_lf (take used src);
  filled = filled;
  within = within;
  goes =
      run-free limit (length old) count last src used free within below
      ∙ (let n : length old + length (to_lf (take used src)) ≡ length new =
      sym (ap length filled ∙ length-append old (to_lf (take used src))) in
      λ i. joined (record { used = used; made = to_lf (take used src) })
      (run kind.ToLf limit (n i) (count + used) (last_or last (take used src)) (drop used src)));
  stops = λ none. absurd (omega (arith, none, some));
}

-- and the room that it needs
pub lf-room : (limit count : ℕ) (last : Option ℕ) (src old : List ℕ) (used capacity : ℕ) → is_cr last ≡ false → used ≤ length src →
    length old + used ≤ limit →
    HasRoom kind.ToLf limit count last src old capacity → length old + length (to_lf (take used src)) ≤ capacity
lf-room limit count last src old used capacity free within below room =
    let made : List ℕ = to_lf (take used src) in
    let rest : Ran = run kind.ToLf limit (length old + length made) (count + used) (last_or last (take used src)) (drop used src) in
    let e = ap (λ (r : Ran). length r.made) (run-free limit (length old) count last src used free within below) in
    omega (arith, e, length-append made rest.made, room)
