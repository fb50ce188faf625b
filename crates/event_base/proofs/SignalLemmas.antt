-- The events that hear a signal, one after another.
use Rattle.std.proofs.Common.{◌≡◌, ◌≢◌, ℕ, ◌+◌, ◌<◌, ◌≤◌, ◌^◌, ◌==◌, nat_eq, nat_lt, Bool, true, false, not, ◌||◌, ◌&&◌, cond, List, []}
use Rattle.std.proofs.Common.{◌∷◌, ◌++◌, length, set, get_or, Option, Some, None, is_some, refl, sym, ◌∙◌, ap, subst, ⊎_elim, count_by}
use Rattle.std.proofs.Common.{add-zero, add-one, append_assoc, arith, rules}
use Rattle.std.proofs.lemmas.Bool.{cases_eq, cases_Bool, ne_eqb, not-false, ltb-true, and_left, and_right}
use Rattle.std.proofs.lemmas.List.{append-nil, get_or_at, length_push, length-append}
use Rattle.std.proofs.Math.Seq.{set-append_seam}
use Rattle.std.proofs.lemmas.List.Sums.{sum_by-cons}
use Rattle.std.specs.List.{list_any}
use Rattle.std.specs.Option.{option_map_or, ForSome}
use Rattle.event_base.specs.declared.event.Event.{Event}
use Rattle.event_base.specs.declared.event.Activation.{Activation}
use Rattle.event_base.specs.Events.{made, is_active, activated}
use Rattle.event_base.specs.Fires.{hears, is_woken_by, hearing, signalled, overflows}
use Rattle.event_base.specs.Rousing.{event_of, needed, risen, wakers, AreApart, CanRise}
use Rattle.event_base.proofs.RousingLemmas.{not_first}

-- the event behind some others
seam : (done : List Event) (e : Event) (es : List Event) → event_of (done ++ e ∷ es) (length done) ≡ e
seam done e es = get_or_at done e es (made false None 0) (length done) refl

shifted : (done : List Event) (e : Event) (es : List Event) → done ++ e ∷ es ≡ (done ++ e ∷ []) ++ es
shifted done e es = sym (append_assoc done (e ∷ []) es)

-- a number of order numbers, one or none
abbrev one_if : Bool → ℕ
one_if b = cond b 1 0

-- a hearing event takes an order number where the signal wakes it
woken_needed : (number : ℕ) (e : Event) → hears number e ≡ true → one_if (is_woken_by number e) ≡ needed e
woken_needed number e h = ap (λ b. one_if (b && not (is_active e))) h ∙ split (is_active e)
  where
    split : (b : Bool) → one_if (not b) ≡ cond b 0 1
    split true = refl
    split false = refl

deaf_needed : (number : ℕ) (e : Event) → hears number e ≡ false → one_if (is_woken_by number e) ≡ 0
deaf_needed number e h = ap (λ b. one_if (b && not (is_active e))) h

-- the count with one event more
count_more : (number : ℕ) (e : Event) (es : List Event) → count_by (is_woken_by number) (e ∷ es) ≡ one_if (is_woken_by number e) +
    count_by (is_woken_by number) es
count_more number e es = sum_by-cons (λ x. one_if (is_woken_by number x)) e es

-- The events with the flag are those that the definition of a signal gives.
pub signalled-risen : (number count : ℕ) (rest done : List Event) (next : ℕ) → risen 8 count count (done ++ rest) next
    (hearing number (length done) rest) ≡ done ++ signalled number count next rest
signalled-risen number count [] done next = refl
signalled-risen number count (e ∷ es) done next =
    let k = length done in
    let hs = hearing number (k + 1) es in
    let new = activated 8 next count count e in
    let later = signalled number count (next + one_if (is_woken_by number e)) es in
    ⊎_elim
    (λ heard. (let more : next + needed e ≡ next + one_if (is_woken_by number e) = ap (λ n. next + n) (sym (woken_needed number e heard)) in
    ap (λ b. risen 8 count count (done ++ e ∷ es) next (cond b (k ∷ hs) hs)) heard
    ∙ ap (λ x. risen 8 count count (set (done ++ e ∷ es) k (activated 8 next count count x)) (next + needed x) hs) (seam done e es)
    ∙ ap (λ xs. risen 8 count count xs (next + needed e) hs) (set-append_seam done e es new ∙ shifted done new es)
    ∙ ap (λ n. risen 8 count count ((done ++ new ∷ []) ++ es) (next + needed e) (hearing number n es)) (sym (length_push done new))
    ∙ signalled-risen number count es (done ++ new ∷ []) (next + needed e)
    ∙ sym (shifted done new (signalled number count (next + needed e) es))
    ∙ ap (λ m. done ++ new ∷ signalled number count m es) more
    ∙ ap (λ b. done ++ cond b new e ∷ later) (sym heard)))
    (λ deaf. (let same : next ≡ next + one_if (is_woken_by number e) = sym (ap (λ n. next + n) (deaf_needed number e deaf) ∙
    add-zero next) in
    ap (λ b. risen 8 count count (done ++ e ∷ es) next (cond b (k ∷ hs) hs)) deaf
    ∙ ap (λ xs. risen 8 count count xs next hs) (shifted done e es)
    ∙ ap (λ n. risen 8 count count ((done ++ e ∷ []) ++ es) next (hearing number n es)) (sym (length_push done e))
    ∙ signalled-risen number count es (done ++ e ∷ []) next
    ∙ sym (shifted done e (signalled number count next es))
    ∙ ap (λ m. done ++ e ∷ signalled number count m es) same
    ∙ ap (λ b. done ++ cond b new e ∷ later) (sym deaf)))
    (cases_Bool (hears number e))

-- numbers before the first are not among those that hear
hearing-absent : (number k from : ℕ) (es : List Event) → k < from → list_any (λ j. j == k) (hearing number from es) ≡ false
hearing-absent number k from [] h = refl
hearing-absent number k from (e ∷ es) h =
    let hs = hearing number (from + 1) es in
    let rest : list_any (λ j. j == k) hs ≡ false = hearing-absent number k (from + 1) es (omega arith) in
    let apart : from ≡ k → ⊥ = λ q. omega arith in
    ⊎_elim
    (λ heard. ap (λ b. list_any (λ j. j == k) (cond b (from ∷ hs) hs)) heard ∙ ap (λ b. b || list_any (λ j. j == k) hs)
    (ne_eqb from k apart) ∙ rest)
    (λ deaf. ap (λ b. list_any (λ j. j == k) (cond b (from ∷ hs) hs)) deaf ∙ rest)
    (cases_Bool (hears number e))

pub hearing-apart : (number from : ℕ) (es : List Event) → AreApart (hearing number from es)
hearing-apart number from [] = tt
hearing-apart number from (e ∷ es) =
    let hs = hearing number (from + 1) es in
    let rest = hearing-apart number (from + 1) es in
    ⊎_elim
    (λ heard. subst (λ b. AreApart (cond b (from ∷ hs) hs)) (sym heard) (hearing-absent number from (from + 1) es (omega arith), rest))
    (λ deaf. subst (λ b. AreApart (cond b (from ∷ hs) hs)) (sym deaf) rest)
    (cases_Bool (hears number e))

-- as many become active as the signal wakes
pub hearing-wakers : (number : ℕ) (rest done : List Event) → length (wakers (done ++ rest) (hearing number (length done) rest)) ≡
    count_by (is_woken_by number) rest
hearing-wakers number [] done = refl
hearing-wakers number (e ∷ es) done =
    let k = length done in
    let hs = hearing number (k + 1) es in
    let ws = wakers (done ++ e ∷ es) hs in
    let rest = subst (λ n. length (wakers ((done ++ e ∷ []) ++ es) (hearing number n es)) ≡ count_by (is_woken_by number) es)
    (length_push done e) (hearing-wakers number es (done ++ e ∷ [])) in
    let here : length ws ≡ count_by (is_woken_by number) es = subst (λ xs. length (wakers xs hs) ≡ count_by (is_woken_by number)
    es) (sym (shifted done e es)) rest in
    let count = count_more number e es in
    let behind : Bool → ℕ = λ b. length (cond b ws (record { event = k; priority = (event_of (done ++ e ∷ es) k).priority } ∷ ws)) in
    ⊎_elim
    (λ heard. (let one : one_if (is_woken_by number e) ≡ needed e = woken_needed number e heard in
    let start : length (wakers (done ++ e ∷ es) (hearing number k (e ∷ es))) ≡ behind (is_active e) = ap
    (λ b. length (wakers (done ++ e ∷ es) (cond b (k ∷ hs) hs))) heard ∙ ap (λ (x : Event). behind (is_active x)) (seam done e es) in
    start ∙ ⊎_elim
    (λ active. (let none : needed e ≡ 0 = ap (λ b. cond b 0 1) active in
    ap behind active ∙ here ∙ omega (arith, count, one, none)))
    (λ fresh. (let some : needed e ≡ 1 = ap (λ b. cond b 0 1) fresh in
    let total : length ws + 1 ≡ count_by (is_woken_by number) (e ∷ es) = omega (arith, count, one, some, here) in
    ap behind fresh ∙ sym (add-one (length ws)) ∙ total))
    (cases_Bool (is_active e))))
    (λ deaf. (let none : one_if (is_woken_by number e) ≡ 0 = deaf_needed number e deaf in
    ap (λ b. length (wakers (done ++ e ∷ es) (cond b (k ∷ hs) hs))) deaf ∙ here ∙ omega (arith, count, none)))
    (cases_Bool (hears number e))

-- the counts of a hearing event fit
counts_fit : (number count : ℕ) (e : Event) → hears number e ≡ true → overflows number count e ≡ false → ForSome e.active
    (λ (a : Activation). a.count + count < 2 ^ 64)
counts_fit number count e heard h = split e.active (rw heard at h)
  where
    split : (o : Option Activation) → (true && option_map_or (λ (a : Activation). not (nat_lt (a.count + count) (2 ^ 64))) o false)
        ≡ false → ForSome o (λ (a : Activation). a.count + count < 2 ^ 64)
    split None q = search rules
    split (Some a) q = (let fits = ltb-true (a.count + count) (2 ^ 64) (not-false (nat_lt (a.count + count) (2 ^ 64)) q) in search rules)

-- the counts and the order numbers fit, one after another
pub hearing-can : (number count : ℕ) (rest done : List Event) (next : ℕ) → next + count_by (is_woken_by number) rest < 2 ^ 64 →
    list_any (overflows number count) rest ≡ false → CanRise 8 count count (done ++ rest) next (hearing number (length done) rest)
hearing-can number count [] done next low fits = tt
hearing-can number count (e ∷ es) done next low fits =
    let k = length done in
    let hs = hearing number (k + 1) es in
    let new = activated 8 next count count e in
    let more = count_more number e es in
    let parts = not_first (overflows number count e) (list_any (overflows number count) es) fits in
    ⊎_elim
    (λ heard. (let one : one_if (is_woken_by number e) ≡ needed e = woken_needed number e heard in
    let rest = hearing-can number count es (done ++ new ∷ []) (next + needed e) (omega (arith, one, more, low)) parts.1 in
    let there : CanRise 8 count count (set (done ++ e ∷ es) k new) (next + needed e) hs =
    subst (λ xs. CanRise 8 count count xs (next + needed e) hs) (sym (set-append_seam done e es new ∙ shifted done new es))
    (subst (λ n. CanRise 8 count count ((done ++ new ∷ []) ++ es) (next + needed e) (hearing number n es)) (length_push done new) rest) in
    let size : k < length (done ++ e ∷ es) = (let l = length-append done (e ∷ es) in omega arith) in
    let now : (λ (x : Event). (k < length (done ++ e ∷ es)) × (0 < count → ForSome x.active
    (λ (a : Activation). a.count + count < 2 ^ 64)) × (next + needed x < 2 ^ 64) × CanRise 8 count count
    (set (done ++ e ∷ es) k (activated 8 next count count x)) (next + needed x) hs) e =
    (size, λ some. counts_fit number count e heard parts.0, omega (arith, one, more, low), there) in
    let all : CanRise 8 count count (done ++ e ∷ es) next (k ∷ hs) =
    subst (λ (x : Event). (k < length (done ++ e ∷ es)) ×
    (0 < count → ForSome x.active (λ (a : Activation). a.count + count < 2 ^ 64)) × (next + needed x < 2 ^ 64) × CanRise 8
    count count (set (done ++ e ∷ es) k (activated 8 next count count x)) (next + needed x) hs) (sym (seam done e es)) now in
    subst (λ b. CanRise 8 count count (done ++ e ∷ es) next (cond b (k ∷ hs) hs)) (sym heard) all))
    (λ deaf. (let none : one_if (is_woken_by number e) ≡ 0 = deaf_needed number e deaf in
    let rest = hearing-can number count es (done ++ e ∷ []) next (omega (arith, none, more, low)) parts.1 in
    let there : CanRise 8 count count (done ++ e ∷ es) next hs =
    subst (λ xs. CanRise 8 count count xs next hs) (sym (shifted done e es))
    (subst (λ n. CanRise 8 count count ((done ++ e ∷ []) ++ es) next (hearing number n es)) (length_push done e) rest) in
    subst (λ b. CanRise 8 count count (done ++ e ∷ es) next (cond b (k ∷ hs) hs)) (sym deaf) there))
    (cases_Bool (hears number e))
