-- Marks of the first bytes of a list, and of those behind them.
use Rattle.std.proofs.Common.{◌≡◌, ℕ, zero, suc, ◌+◌, ◌-◌, ◌<◌, ◌≤◌, [], ◌∷◌, ◌++◌, length, take, drop, refl, ap, sym, ◌∙◌, append_assoc}
use Rattle.std.proofs.Common.{arith, Some, None, length-append, length-take, if◌then◌else◌, ◌==◌}
use Rattle.std.proofs.lemmas.List.{take-append-le, drop-append-le, length-replicate}
use Rattle.std.proofs.lemmas.Grind.{common_steps}
use Rattle.std.proofs.Math.Seq.{take-append-add, drop-append-add}
use Rattle.evbuf_chain.specs.Mark.{Marks, Mark, unmarked, reference_marks, ended_tickets, uncut_marks, uncut_mark, last_ticket, AreWhole}

-- how many marks a reference has
pub length-reference_marks : (ticket n : ℕ) → length (reference_marks ticket n) ≡ n
length-reference_marks ticket zero = refl
length-reference_marks ticket (suc n) = omega (arith, length-reference_marks ticket n)

-- more than the first list
pub take-append-ge : (n : ℕ) (xs ys : Marks) → length xs ≤ n → take n (xs ++ ys) ≡ xs ++ take (n - length xs) ys
take-append-ge n xs ys within =
    let e : n ≡ length xs + (n - length xs) = omega arith in
    ap (λ k. take k (xs ++ ys)) e ∙ take-append-add xs ys (n - length xs)

pub drop-append-ge : (n : ℕ) (xs ys : Marks) → length xs ≤ n → drop n (xs ++ ys) ≡ drop (n - length xs) ys
drop-append-ge n xs ys within =
    let e : n ≡ length xs + (n - length xs) = omega arith in
    ap (λ k. drop k (xs ++ ys)) e ∙ drop-append-add xs ys (n - length xs)

-- a reference without its first bytes
pub drop-reference_marks : (ticket k n : ℕ) → drop k (reference_marks ticket n) ≡ reference_marks ticket (n - k)
drop-reference_marks ticket zero n =
    let e : n ≡ n - 0 = omega arith in ap (reference_marks ticket) e
drop-reference_marks ticket (suc k) zero =
    let e : 0 ≡ 0 - suc k = omega arith in ap (reference_marks ticket) e
drop-reference_marks ticket (suc k) (suc n) =
    let e : n - k ≡ suc n - suc k = omega arith in drop-reference_marks ticket k n ∙ ap (reference_marks ticket) e

pub ended_tickets-append : (xs ys : Marks) → ended_tickets (xs ++ ys) ≡ ended_tickets xs ++ ended_tickets ys
ended_tickets-append [] ys = refl
ended_tickets-append (None ∷ xs) ys = ended_tickets-append xs ys
ended_tickets-append (Some mark ∷ xs) ys =
    rw (ended_tickets-append xs ys) (sym (append_assoc (last_ticket mark) (ended_tickets xs) (ended_tickets ys)))

pub ended_tickets-unmarked : (n : ℕ) (xs : Marks) → ended_tickets (unmarked n ++ xs) ≡ ended_tickets xs
ended_tickets-unmarked zero xs = refl
ended_tickets-unmarked (suc n) xs = ended_tickets-unmarked n xs

-- a mark with bytes behind it is not the last
pub last_ticket-more : (mark : Mark) → 0 < mark.behind → last_ticket mark ≡ []
last_ticket-more mark more = grind (arith, common_steps)

-- a reference ends once
pub ended_tickets-reference : (ticket n : ℕ) (xs : Marks) → 0 < n
    → ended_tickets (reference_marks ticket n ++ xs) ≡ ticket ∷ ended_tickets xs
ended_tickets-reference ticket zero xs some = absurd (omega arith)
ended_tickets-reference ticket (suc zero) xs some = refl
ended_tickets-reference of_ticket (suc (suc n)) xs some =
    let mark : Mark = record { ticket = of_ticket; behind = suc n } in
    let more : 0 < mark.behind = omega arith in
    ap (λ ts. ts ++ ended_tickets (reference_marks of_ticket (suc n) ++ xs)) (last_ticket-more mark more)
    ∙ ended_tickets-reference of_ticket (suc n) xs (omega arith)

-- no end is among the first bytes of a reference
pub ended_tickets-part : (ticket k n : ℕ) → k < n → ended_tickets (take k (reference_marks ticket n)) ≡ []
ended_tickets-part ticket zero n within = refl
ended_tickets-part ticket (suc k) zero within = absurd (omega arith)
ended_tickets-part ticket (suc k) (suc zero) within = absurd (omega arith)
ended_tickets-part of_ticket (suc k) (suc (suc n)) within =
    let mark : Mark = record { ticket = of_ticket; behind = suc n } in
    let more : 0 < mark.behind = omega arith in
    ap (λ ts. ts ++ ended_tickets (take k (reference_marks of_ticket (suc n)))) (last_ticket-more mark more)
    ∙ ended_tickets-part of_ticket k (suc n) (omega arith)

pub uncut_marks-unmarked : (n : ℕ) (xs : Marks) → uncut_marks (unmarked n ++ xs) ≡ unmarked n ++ uncut_marks xs
uncut_marks-unmarked zero xs = refl
uncut_marks-unmarked (suc n) xs = ap (λ ms. None ∷ ms) (uncut_marks-unmarked n xs)

-- a mark with the rest of its reference behind it is kept
pub uncut_mark-there : (n : ℕ) (mark : Mark) → mark.behind ≤ n → uncut_mark n mark ≡ Some mark
uncut_mark-there n mark within = grind (arith, common_steps)

-- a mark whose reference goes on is not
pub uncut_mark-cut : (n : ℕ) (mark : Mark) → n < mark.behind → uncut_mark n mark ≡ None
uncut_mark-cut n mark beyond = grind (arith, common_steps)

-- a whole reference keeps its marks
pub uncut_marks-reference : (ticket n : ℕ) (xs : Marks)
    → uncut_marks (reference_marks ticket n ++ xs) ≡ reference_marks ticket n ++ uncut_marks xs
uncut_marks-reference ticket zero xs = refl
uncut_marks-reference of_ticket (suc n) xs =
    let mark : Mark = record { ticket = of_ticket; behind = n } in
    let rest : Marks = reference_marks of_ticket n ++ xs in
    let there : mark.behind ≤ length rest =
    omega (arith, length-append (reference_marks of_ticket n) xs, length-reference_marks of_ticket n) in
    ap (λ m. m ∷ uncut_marks rest) (uncut_mark-there (length rest) mark there)
    ∙ ap (λ ms. Some mark ∷ ms) (uncut_marks-reference of_ticket n xs)

-- the first bytes of a reference lose theirs
pub uncut_marks-part : (of_ticket k n : ℕ) → k < n → uncut_marks (take k (reference_marks of_ticket n)) ≡ unmarked k
uncut_marks-part of_ticket zero n within = refl
uncut_marks-part of_ticket (suc k) zero within = absurd (omega arith)
uncut_marks-part of_ticket (suc k) (suc n) within =
    let mark : Mark = record { ticket = of_ticket; behind = n } in
    let rest : Marks = take k (reference_marks of_ticket n) in
    let beyond : length rest < mark.behind =
    omega (arith, length-take k (reference_marks of_ticket n), length-reference_marks of_ticket n) in
    ap (λ m. m ∷ uncut_marks rest) (uncut_mark-cut (length rest) mark beyond)
    ∙ ap (λ ms. None ∷ ms) (uncut_marks-part of_ticket k n (omega arith))

-- marks whose references are whole stay
pub uncut_marks-whole : (xs : Marks) → AreWhole xs → uncut_marks xs ≡ xs
uncut_marks-whole [] whole = refl
uncut_marks-whole (None ∷ xs) whole = ap (λ ms. None ∷ ms) (uncut_marks-whole xs whole)
uncut_marks-whole (Some mark ∷ xs) whole =
    let there : mark.behind ≤ length xs =
    omega (
      arith,
      ap length whole.0.1,
      length-append (reference_marks mark.ticket mark.behind) whole.0.0,
      length-reference_marks mark.ticket mark.behind,
    ) in
    ap (λ m. m ∷ uncut_marks xs) (uncut_mark-there (length xs) mark there)
    ∙ ap (λ ms. Some mark ∷ ms) (uncut_marks-whole xs whole.1)

-- A list that begins with unmarked bytes and a reference: where the reference ends among the first n bytes.
pub take-front : (n gap ticket len : ℕ) (more : Marks) → gap + len ≤ n
    → take n (unmarked gap ++ (reference_marks ticket len ++ more))
    ≡ unmarked gap ++ (reference_marks ticket len ++ take (n - (gap + len)) more)
take-front n gap ticket len more within =
    let reference : Marks = reference_marks ticket len in
    let gap_len : length (unmarked gap) ≡ gap = length-replicate gap None in
    let reference_len : length reference ≡ len = length-reference_marks ticket len in
    let e : n - length (unmarked gap) - length reference ≡ n - (gap + len) = omega arith in
    take-append-ge n (unmarked gap) (reference ++ more) (omega arith)
    ∙ ap (λ ms. unmarked gap ++ ms) (take-append-ge (n - length (unmarked gap)) reference more (omega arith))
    ∙ ap (λ k. unmarked gap ++ (reference ++ take k more)) e

pub drop-front : (n gap ticket len : ℕ) (more : Marks) → gap + len ≤ n
    → drop n (unmarked gap ++ (reference_marks ticket len ++ more)) ≡ drop (n - (gap + len)) more
drop-front n gap ticket len more within =
    let reference : Marks = reference_marks ticket len in
    let gap_len : length (unmarked gap) ≡ gap = length-replicate gap None in
    let reference_len : length reference ≡ len = length-reference_marks ticket len in
    let e : n - length (unmarked gap) - length reference ≡ n - (gap + len) = omega arith in
    drop-append-ge n (unmarked gap) (reference ++ more) (omega arith)
    ∙ drop-append-ge (n - length (unmarked gap)) reference more (omega arith)
    ∙ ap (λ k. drop k more) e

-- Where it ends behind them.
pub ended_tickets-cut : (n gap ticket len : ℕ) (more : Marks) → n < gap + len
    → ended_tickets (take n (unmarked gap ++ (reference_marks ticket len ++ more))) ≡ []
ended_tickets-cut zero gap ticket len more cut = refl
ended_tickets-cut (suc n) zero ticket len more cut =
    let within : suc n ≤ length (reference_marks ticket len) = omega (arith, length-reference_marks ticket len) in
    ap ended_tickets (take-append-le (suc n) (reference_marks ticket len) more within)
    ∙ ended_tickets-part ticket (suc n) len (omega arith)
ended_tickets-cut (suc n) (suc gap) ticket len more cut = ended_tickets-cut n gap ticket len more (omega arith)

pub uncut_marks-cut : (n gap ticket len : ℕ) (more : Marks) → n < gap + len
    → uncut_marks (take n (unmarked gap ++ (reference_marks ticket len ++ more))) ≡ unmarked n
uncut_marks-cut zero gap ticket len more cut = refl
uncut_marks-cut (suc n) zero ticket len more cut =
    let within : suc n ≤ length (reference_marks ticket len) = omega (arith, length-reference_marks ticket len) in
    ap uncut_marks (take-append-le (suc n) (reference_marks ticket len) more within)
    ∙ uncut_marks-part ticket (suc n) len (omega arith)
uncut_marks-cut (suc n) (suc gap) ticket len more cut =
    ap (λ ms. None ∷ ms) (uncut_marks-cut n gap ticket len more (omega arith))

pub drop-cut : (n gap ticket len : ℕ) (more : Marks) → n < gap + len
    → drop n (unmarked gap ++ (reference_marks ticket len ++ more))
    ≡ unmarked (gap - n) ++ (reference_marks ticket (len - (n - gap)) ++ more)
drop-cut zero gap ticket len more cut =
    let g : gap ≡ gap - 0 = omega arith in
    let l : len ≡ len - (0 - gap) = omega arith in
    ap (λ k. unmarked k ++ (reference_marks ticket len ++ more)) g
    ∙ ap (λ k. unmarked (gap - 0) ++ (reference_marks ticket k ++ more)) l
drop-cut (suc n) zero ticket len more cut =
    let within : suc n ≤ length (reference_marks ticket len) = omega (arith, length-reference_marks ticket len) in
    let g : 0 ≡ 0 - suc n = omega arith in
    let l : len - suc n ≡ len - (suc n - 0) = omega arith in
    drop-append-le (suc n) (reference_marks ticket len) more within
    ∙ ap (λ ms. ms ++ more) (drop-reference_marks ticket (suc n) len)
    ∙ ap (λ k. reference_marks ticket k ++ more) l
    ∙ ap (λ k. unmarked k ++ (reference_marks ticket (len - (suc n - 0)) ++ more)) g
drop-cut (suc n) (suc gap) ticket len more cut =
    let g : gap - n ≡ suc gap - suc n = omega arith in
    let l : len - (n - gap) ≡ len - (suc n - suc gap) = omega arith in
    drop-cut n gap ticket len more (omega arith)
    ∙ ap (λ k. unmarked k ++ (reference_marks ticket (len - (n - gap)) ++ more)) g
    ∙ ap (λ k. unmarked (suc gap - suc n) ++ (reference_marks ticket k ++ more)) l

-- a mark is the last of at most one reference
length-last_ticket : (mark : Mark) → length (last_ticket mark) ≤ 1
length-last_ticket mark = grind (arith, common_steps)

-- no more references end among the first bytes than among all
pub length-ended_tickets-take : (n : ℕ) (xs : Marks)
    → length (ended_tickets (take n xs)) ≤ length (ended_tickets xs)
length-ended_tickets-take zero xs = omega arith
length-ended_tickets-take (suc n) [] = omega arith
length-ended_tickets-take (suc n) (None ∷ xs) = length-ended_tickets-take n xs
length-ended_tickets-take (suc n) (Some mark ∷ xs) =
    omega (
      arith,
      length-ended_tickets-take n xs,
      length-append (last_ticket mark) (ended_tickets (take n xs)),
      length-append (last_ticket mark) (ended_tickets xs),
    )

-- nor more than there are bytes
pub length-ended_tickets-le : (n : ℕ) (xs : Marks) → length (ended_tickets (take n xs)) ≤ n
length-ended_tickets-le zero xs = omega arith
length-ended_tickets-le (suc n) [] = omega arith
length-ended_tickets-le (suc n) (None ∷ xs) = omega (arith, length-ended_tickets-le n xs)
length-ended_tickets-le (suc n) (Some mark ∷ xs) =
    omega (
      arith,
      length-ended_tickets-le n xs,
      length-append (last_ticket mark) (ended_tickets (take n xs)),
      length-last_ticket mark,
    )

-- each byte keeps its place
pub length-uncut_marks : (xs : Marks) → length (uncut_marks xs) ≡ length xs
length-uncut_marks [] = refl
length-uncut_marks (None ∷ xs) = omega (arith, length-uncut_marks xs)
length-uncut_marks (Some mark ∷ xs) = omega (arith, length-uncut_marks xs)

-- a reference with bytes is not released as it comes in
pub no-ticket : (n ticket : ℕ) → 0 < n → (if n == 0 then ticket ∷ [] else []) ≡ []
no-ticket n ticket some = grind (arith, common_steps)

-- marks without a reference are whole, and so are those of a reference, whatever comes behind
pub AreWhole-unmarked : (n : ℕ) (xs : Marks) → AreWhole xs → AreWhole (unmarked n ++ xs)
AreWhole-unmarked zero xs whole = whole
AreWhole-unmarked (suc n) xs whole = AreWhole-unmarked n xs whole

pub AreWhole-reference : (ticket n : ℕ) (xs : Marks) → AreWhole xs → AreWhole (reference_marks ticket n ++ xs)
AreWhole-reference ticket zero xs whole = whole
AreWhole-reference ticket (suc n) xs whole = ((xs, refl), AreWhole-reference ticket n xs whole)

pub length-unmarked : (n : ℕ) → length (unmarked n) ≡ n
length-unmarked n = length-replicate n None

pub ended_tickets-unmarked-all : (n : ℕ) → ended_tickets (unmarked n) ≡ []
ended_tickets-unmarked-all zero = refl
ended_tickets-unmarked-all (suc n) = ended_tickets-unmarked-all n

pub uncut_marks-unmarked-all : (n : ℕ) → uncut_marks (unmarked n) ≡ unmarked n
uncut_marks-unmarked-all zero = refl
uncut_marks-unmarked-all (suc n) = ap (λ ms. None ∷ ms) (uncut_marks-unmarked-all n)

-- marks that are whole stay before others
pub uncut_marks-before : (xs ys : Marks) → AreWhole xs → uncut_marks (xs ++ ys) ≡ xs ++ uncut_marks ys
uncut_marks-before [] ys whole = refl
uncut_marks-before (None ∷ xs) ys whole = ap (λ ms. None ∷ ms) (uncut_marks-before xs ys whole)
uncut_marks-before (Some mark ∷ xs) ys whole =
    let there : mark.behind ≤ length (xs ++ ys) =
    omega (
      arith,
      ap length whole.0.1,
      length-append xs ys,
      length-append (reference_marks mark.ticket mark.behind) whole.0.0,
      length-reference_marks mark.ticket mark.behind,
    ) in
    ap (λ m. m ∷ uncut_marks (xs ++ ys)) (uncut_mark-there (length (xs ++ ys)) mark there)
    ∙ ap (λ ms. Some mark ∷ ms) (uncut_marks-before xs ys whole.1)
