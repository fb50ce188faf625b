-- The newest callback that has a report to make, and callbacks that are changed one after another.
use Rattle.std.proofs.Common.{◌≡◌, ℕ, zero, suc, ◌+◌, ◌<◌, List, [], ◌∷◌, ◌++◌, length, take, drop, set, get_or, map, refl, ap, sym, ◌∙◌}
use Rattle.std.proofs.Common.{arith, Option, Some, None, is_some, Bool, true, false, if◌then◌else◌, add-one, length-append, length-drop}
use Rattle.std.proofs.lemmas.List.{length-map, length-take}
use Rattle.std.specs.Option.{option_or}
use Rattle.evbuf.specs.declared.callback.SizeCallback.{SizeCallback}
use Rattle.evbuf.specs.Callbacks.{Callbacks, waits, reported, newest_waiting, after_report}

-- one more element of a list is changed
pub map-more : {X : Type 0} (f : X → X) (i : ℕ) (xs : List X) (d : X) → i < length xs
    → set (map f (take i xs) ++ drop i xs) i (f (get_or (map f (take i xs) ++ drop i xs) i d))
    ≡ map f (take (suc i) xs) ++ drop (suc i) xs
map-more f i [] d within = absurd (omega arith)
map-more f zero (x ∷ xs) d within = refl
map-more f (suc i) (x ∷ xs) d within = ap (λ ys. f x ∷ ys) (map-more f i xs d (omega arith))

-- the same, at the list as a loop has it
pub map-step : {X : Type 0} (f : X → X) (i : ℕ) (items all : List X) (d y : X)
    → items ≡ map f (take i all) ++ drop i all → i < length items → y ≡ f (get_or items i d)
    → set items i y ≡ map f (take (i + 1) all) ++ drop (i + 1) all
map-step f i items all d y items_are within y_is =
    let inside : i < length all =
    omega (
      arith,
      ap length items_are,
      length-append (map f (take i all)) (drop i all),
      length-map (take i all) f,
      length-take i all,
      length-drop i all,
    ) in
    ap (λ v. set items i v) y_is
    ∙ ap (λ xs. set xs i (f (get_or xs i d))) items_are
    ∙ map-more f i all d inside
    ∙ ap (λ k. map f (take k all) ++ drop k all) (sym (add-one i))

-- of older callbacks none waits, where none does behind them and the first doesn't
pub newest_waiting-before : (i : ℕ) (cs : Callbacks) (d : SizeCallback) → i < length cs
    → waits (get_or cs i d) ≡ false → newest_waiting (drop (suc i) cs) ≡ None → newest_waiting (drop i cs) ≡ None
newest_waiting-before i [] d within not_here behind = absurd (omega arith)
newest_waiting-before zero (c ∷ cs) d within not_here behind =
    ap (λ o. option_or o (if waits c then Some c else None)) behind ∙ ap (λ b. if b then Some c else None) not_here
newest_waiting-before (suc i) (c ∷ cs) d within not_here behind =
    newest_waiting-before i cs d (omega arith) not_here behind

-- the one behind which none waits is the newest that does
pub newest_waiting-at : (i : ℕ) (cs : Callbacks) (d : SizeCallback) → i < length cs
    → waits (get_or cs i d) ≡ true → newest_waiting (drop (suc i) cs) ≡ None → newest_waiting cs ≡ Some (get_or cs i d)
newest_waiting-at i [] d within here behind = absurd (omega arith)
newest_waiting-at zero (c ∷ cs) d within here behind =
    ap (λ o. option_or o (if waits c then Some c else None)) behind ∙ ap (λ b. if b then Some c else None) here
newest_waiting-at (suc i) (c ∷ cs) d within here behind =
    ap (λ o. option_or o (if waits c then Some c else None)) (newest_waiting-at i cs d (omega arith) here behind)

-- and it makes its report
pub after_report-at : (i : ℕ) (cs : Callbacks) (d : SizeCallback) → i < length cs
    → waits (get_or cs i d) ≡ true → newest_waiting (drop (suc i) cs) ≡ None
    → after_report cs ≡ set cs i (reported (get_or cs i d))
after_report-at i [] d within here behind = absurd (omega arith)
after_report-at zero (c ∷ cs) d within here behind =
    ap (λ o. if is_some o then c ∷ after_report cs else ((if waits c then reported c else c) ∷ cs)) behind
    ∙ ap (λ b. (if b then reported c else c) ∷ cs) here
after_report-at (suc i) (c ∷ cs) d within here behind =
    ap (λ o. if is_some o then c ∷ after_report cs else ((if waits c then reported c else c) ∷ cs))
    (newest_waiting-at i cs d (omega arith) here behind)
    ∙ ap (λ ys. c ∷ ys) (after_report-at i cs d (omega arith) here behind)

some-apart : (c : SizeCallback) → Some c ≡ None → ⊥
some-apart c e = cc

option_or-none : (o p : Option SizeCallback) → option_or o p ≡ None → (o ≡ None) × (p ≡ None)
option_or-none None p none = (refl, none)
option_or-none (Some c) p none = absurd (some-apart c none)

if-none : (b : Bool) (c : SizeCallback) → (if b then Some c else None) ≡ None → b ≡ false
if-none true c none = absurd (some-apart c none)
if-none false c none = refl

-- none waits, so none reports
pub newest_waiting-none : (c : SizeCallback) (cs : Callbacks) → newest_waiting (c ∷ cs) ≡ None
    → (newest_waiting cs ≡ None) × (waits c ≡ false)
newest_waiting-none c cs none =
    let parts : (newest_waiting cs ≡ None) × ((if waits c then Some c else None) ≡ None) =
    option_or-none (newest_waiting cs) (if waits c then Some c else None) none in
    (parts.0, if-none (waits c) c parts.1)

pub after_report-none : (cs : Callbacks) → newest_waiting cs ≡ None → after_report cs ≡ cs
after_report-none [] none = refl
after_report-none (c ∷ cs) none =
    let parts : (newest_waiting cs ≡ None) × (waits c ≡ false) = newest_waiting-none c cs none in
    ap (λ o. if is_some o then c ∷ after_report cs else ((if waits c then reported c else c) ∷ cs)) parts.0
    ∙ ap (λ b. (if b then reported c else c) ∷ cs) parts.1

-- a callback that doesn't wait comes in behind
pub newest_waiting-push : (cs : Callbacks) (c : SizeCallback) → newest_waiting cs ≡ None → waits c ≡ false
    → newest_waiting (cs ++ c ∷ []) ≡ None
newest_waiting-push [] c none not_here = ap (λ b. if b then Some c else None) not_here
newest_waiting-push (b ∷ cs) c none not_here =
    let parts : (newest_waiting cs ≡ None) × (waits b ≡ false) = newest_waiting-none b cs none in
    ap (λ o. option_or o (if waits b then Some b else None)) (newest_waiting-push cs c parts.0 not_here)
    ∙ ap (λ t. if t then Some b else None) parts.1

-- the one that has reported doesn't wait, nor do those behind it
pub newest_waiting-reported : (i : ℕ) (cs : Callbacks) (c : SizeCallback) → i < length cs
    → newest_waiting (drop (suc i) cs) ≡ None → newest_waiting (drop i (set cs i (reported c))) ≡ None
newest_waiting-reported i [] c within behind = absurd (omega arith)
newest_waiting-reported zero (b ∷ cs) c within behind =
    ap (λ o. option_or o (if waits (reported c) then Some (reported c) else None)) behind
newest_waiting-reported (suc i) (b ∷ cs) c within behind = newest_waiting-reported i cs c (omega arith) behind
