-- Chunks and the own bytes behind them, as one list.
use Rattle.std.proofs.Common.{◌≡◌, ℕ, zero, suc, ◌+◌, ◌-◌, ◌≤◌, List, [], ◌∷◌, ◌++◌, length, take, drop, min, refl, ap, sym, ◌∙◌, arith}
use Rattle.std.proofs.Common.{append_assoc, append-nil, length-append, length-drop, length-take, inl, inr, None}
use Rattle.std.proofs.lemmas.List.{take-append-le, drop-append-le, drop_all, take-replicate, drop-replicate, take-append-drop}
use Rattle.std.proofs.lemmas.List.{replicate-append-replicate}
use Rattle.std.proofs.lemmas.Bool.Decides.{leb_tells}
use Rattle.evbuf_chain.specs.Mark.{Marks, unmarked, ended_tickets, uncut_marks, AreWhole}
use Rattle.evbuf_chain.specs.ChunkValue.{Gathered, Owned, all_bytes, all_marks}
use Rattle.evbuf_chain.specs.Leaving.{FrontGone, MovesWhole, Takes, PullsUp}
use Rattle.evbuf_chain.proofs.DrainLemmas.{take-past, drop-past}
use Rattle.evbuf_chain.proofs.MarkLemmas.{ended_tickets-append, ended_tickets-unmarked-all, uncut_marks-unmarked-all}
use Rattle.evbuf_chain.proofs.MarkLemmas.{uncut_marks-before, uncut_marks-whole, length-unmarked}

-- the first n of two lists
pub take-append : {A : Type 0} (n : ℕ) (xs ys : List A) → take n (xs ++ ys) ≡ take n xs ++ take (n - length xs) ys
take-append n xs ys = elim (leb_tells (length xs) n) [
  | inl past ↦ take-past n xs ys past.1 ∙ ap (λ zs. zs ++ take (n - length xs) ys) (sym (take-all n xs past.1))
  | inr within ↦
      let none : n - length xs ≡ 0 = omega (arith, within.1) in
      take-append-le n xs ys (omega (arith, within.1))
      ∙ sym (append-nil (take n xs))
      ∙ ap (λ k. take n xs ++ take k ys) (sym none)
] where
  take-all : {A : Type 0} (n : ℕ) (xs : List A) → length xs ≤ n → take n xs ≡ xs
  take-all zero [] within = refl
  take-all zero (x ∷ xs) within = absurd (omega (arith, within))
  take-all (suc n) [] within = refl
  take-all (suc n) (x ∷ xs) within = ap (λ zs. x ∷ zs) (take-all n xs (omega (arith, within)))

pub drop-append : {A : Type 0} (n : ℕ) (xs ys : List A) → drop n (xs ++ ys) ≡ drop n xs ++ drop (n - length xs) ys
drop-append n xs ys = elim (leb_tells (length xs) n) [
  | inl past ↦ drop-past n xs ys past.1 ∙ ap (λ zs. zs ++ drop (n - length xs) ys) (sym (drop_all n xs past.1))
  | inr within ↦
      let none : n - length xs ≡ 0 = omega (arith, within.1) in
      drop-append-le n xs ys (omega (arith, within.1)) ∙ ap (λ k. drop n xs ++ drop k ys) (sym none)
]

-- own bytes have no mark, so that no reference ends among them
pub ended-own : (n : ℕ) (marks : Marks) (count : ℕ) → ended_tickets (take n (marks ++ unmarked count)) ≡ ended_tickets (take n marks)
ended-own n marks count =
    ap ended_tickets (take-append n marks (unmarked count))
    ∙ ended_tickets-append (take n marks) (take (n - length marks) (unmarked count))
    ∙ ap (λ ts. ended_tickets (take n marks) ++ ts) (none-own (n - length marks) count)
    ∙ append-nil (ended_tickets (take n marks)) where
      none-own : (n count : ℕ) → ended_tickets (take n (unmarked count)) ≡ []
      none-own zero count = refl
      none-own (suc n) zero = refl
      none-own (suc n) (suc count) = none-own n count

pub drop-own : (n : ℕ) (marks : Marks) (count : ℕ)
    → drop n (marks ++ unmarked count) ≡ drop n marks ++ unmarked (count - (n - length marks))
drop-own n marks count =
    drop-append n marks (unmarked count) ∙ ap (λ ms. drop n marks ++ ms) (drop-replicate (n - length marks) count None)

-- The chunks were drained of the first n bytes, and then the own bytes behind them of what the chunks had not.
pub drained-bytes : (old new : Gathered) (own left : Owned) (released now : List ℕ) (n missing : ℕ)
    → FrontGone old released n missing new now → left.items ≡ drop missing own.items
    → all_bytes new left ≡ drop n (all_bytes old own)
drained-bytes old new own left released now n missing so left_is =
    ap (λ bs. bs ++ left.items) so.bytes
    ∙ ap (λ bs. drop n old.bytes ++ bs) (left_is ∙ ap (λ k. drop k own.items) so.left)
    ∙ sym (drop-append n old.bytes own.items)

pub drained-marks : (old new : Gathered) (own left : Owned) (released now : List ℕ) (n missing : ℕ)
    → FrontGone old released n missing new now → length old.marks ≡ length old.bytes → left.items ≡ drop missing own.items
    → all_marks new left ≡ drop n (all_marks old own)
drained-marks old new own left released now n missing so marked left_is =
    let count : length left.items ≡ length own.items - (n - length old.marks) =
    ap length left_is ∙ length-drop missing own.items ∙ ap (λ k. length own.items - k) so.left
    ∙ ap (λ k. length own.items - (n - k)) (sym marked) in
    ap (λ ms. ms ++ unmarked (length left.items)) so.marks
    ∙ ap (λ k. drop n old.marks ++ unmarked k) count
    ∙ sym (drop-own n old.marks (length own.items))

pub drained-ended : (old new : Gathered) (own : Owned) (released now : List ℕ) (n missing : ℕ)
    → FrontGone old released n missing new now
    → now ≡ released ++ ended_tickets (take n (all_marks old own))
drained-ended old new own released now n missing so =
    so.ended ∙ ap (λ ts. released ++ ts) (sym (ended-own n old.marks (length own.items)))

-- no mark is on the first bytes, and they lie in the first chunk already
pub PullsUp-own : (old new : Gathered) (own : Owned) (released : List ℕ) (n : ℕ)
    → new.bytes ≡ old.bytes → new.marks ≡ old.marks → n ≤ new.run → take n old.marks ≡ unmarked n
    → PullsUp old own released n new own released
PullsUp-own old new own released n bytes_are marks_are first front =
    let long : n ≤ length old.marks = omega (arith, ap length front, length-take n old.marks, length-unmarked n) in
    let all_front : take n (all_marks old own) ≡ unmarked n = take-append-le n old.marks (unmarked (length own.items)) long ∙ front in
    record {
      bytes = ap (λ bs. bs ++ own.items) bytes_are;
      marks =
          ap (λ ms. ms ++ unmarked (length own.items)) marks_are
          ∙ sym (take-append-drop n (all_marks old own))
          ∙ ap (λ ms. ms ++ drop n (all_marks old own)) all_front;
      ended =
          sym (append-nil released)
          ∙ ap (λ ts. released ++ ts) (sym (ap ended_tickets all_front ∙ ended_tickets-unmarked-all n));
      run = first;
      spare = refl;
    }

-- the first bytes were copied to a chunk that came in front
pub PullsUp-taken : (old same rest new : Gathered) (own left : Owned) (released now : List ℕ) (into taken : Owned) (n : ℕ)
    → same.bytes ≡ old.bytes → same.marks ≡ old.marks
    → Takes same own released into n rest left now taken → into.items ≡ [] → n ≤ length (all_bytes old own)
    → new.bytes ≡ taken.items ++ rest.bytes → new.marks ≡ unmarked (length taken.items) ++ rest.marks → new.run ≡ length taken.items
    → PullsUp old own released n new left now
PullsUp-taken old same rest new own left released now into taken n bytes_are marks_are so empty there new_bytes new_marks new_run =
    let all_same : all_bytes same own ≡ all_bytes old own = ap (λ bs. bs ++ own.items) bytes_are in
    let marks_same : all_marks same own ≡ all_marks old own = ap (λ ms. ms ++ unmarked (length own.items)) marks_are in
    let items_are : taken.items ≡ take n (all_bytes old own) =
    so.items ∙ ap (λ bs. bs ++ take n (all_bytes same own)) empty ∙ ap (λ bs. take n bs) all_same in
    let size : length taken.items ≡ n = omega (arith, ap length items_are, length-take n (all_bytes old own), there) in
    record {
      bytes =
          ap (λ bs. bs ++ left.items) new_bytes
          ∙ append_assoc taken.items rest.bytes left.items
          ∙ ap (λ bs. taken.items ++ bs) (so.bytes ∙ ap (λ bs. drop n bs) all_same)
          ∙ ap (λ bs. bs ++ drop n (all_bytes old own)) items_are
          ∙ take-append-drop n (all_bytes old own);
      marks =
          ap (λ ms. ms ++ unmarked (length left.items)) new_marks
          ∙ append_assoc (unmarked (length taken.items)) rest.marks (unmarked (length left.items))
          ∙ ap (λ ms. unmarked (length taken.items) ++ ms) (so.marks ∙ ap (λ ms. drop n ms) marks_same)
          ∙ ap (λ k. unmarked k ++ drop n (all_marks old own)) size;
      ended = so.ended ∙ ap (λ ms. released ++ ended_tickets (take n ms)) marks_same;
      run = omega (arith, new_run, size);
      spare = so.spare;
    }

-- Whole chunks among the first n bytes went behind others, of which there were none, and the front of what is left was taken then.
pub front-bytes : (old others rest moved : Gathered) (own : Owned) (n left : ℕ) → MovesWhole old others n left rest moved
    → drop left (all_bytes rest own) ≡ drop n (all_bytes old own)
front-bytes old others rest moved own n left so =
    drop-append left rest.bytes own.items
    ∙ ap (λ bs. bs ++ drop (left - length rest.bytes) own.items) so.bytes
    ∙ ap (λ k. drop n old.bytes ++ drop k own.items) so.beyond
    ∙ sym (drop-append n old.bytes own.items)

pub front-marks : (old others rest moved : Gathered) (own : Owned) (n left : ℕ) → MovesWhole old others n left rest moved
    → length old.marks ≡ length old.bytes → length rest.marks ≡ length rest.bytes
    → drop left (all_marks rest own) ≡ drop n (all_marks old own)
front-marks old others rest moved own n left so marked rest_marked =
    let same : left - length rest.marks ≡ n - length old.marks = omega (arith, so.beyond, marked, rest_marked) in
    drop-own left rest.marks (length own.items)
    ∙ ap (λ ms. ms ++ unmarked (length own.items - (left - length rest.marks))) so.marks
    ∙ ap (λ k. drop n old.marks ++ unmarked (length own.items - k)) same
    ∙ sym (drop-own n old.marks (length own.items))

pub front-taken : (old others rest moved : Gathered) (own : Owned) (n left : ℕ) → MovesWhole old others n left rest moved
    → others.bytes ≡ [] → moved.bytes ++ take left (all_bytes rest own) ≡ take n (all_bytes old own)
front-taken old others rest moved own n left so none =
    ap (λ bs. moved.bytes ++ bs) (take-append left rest.bytes own.items)
    ∙ sym (append_assoc moved.bytes (take left rest.bytes) (take (left - length rest.bytes) own.items))
    ∙ ap (λ bs. bs ++ take (left - length rest.bytes) own.items) (so.taken ∙ ap (λ bs. bs ++ take n old.bytes) none)
    ∙ ap (λ k. take n old.bytes ++ take k own.items) so.beyond
    ∙ sym (take-append n old.bytes own.items)

take-whole : {A : Type 0} (n : ℕ) (xs : List A) → length xs ≤ n → take n xs ≡ xs
take-whole zero [] within = refl
take-whole zero (x ∷ xs) within = absurd (omega (arith, within))
take-whole (suc n) [] within = refl
take-whole (suc n) (x ∷ xs) within = ap (λ zs. x ∷ zs) (take-whole n xs (omega (arith, within)))

-- the marks of the first n, of which the own bytes have none
uncut-own : (n : ℕ) (marks : Marks) (count : ℕ) → AreWhole marks → n ≤ length marks + count
    → uncut_marks (take n (marks ++ unmarked count)) ≡ uncut_marks (take n marks) ++ unmarked (n - length marks)
uncut-own n marks count whole within = elim (leb_tells (length marks) n) [
  | inl past ↦
      let k : ℕ = n - length marks in
      ap uncut_marks (take-past n marks (unmarked count) past.1)
      ∙ ap (λ ms. uncut_marks (marks ++ ms)) (take-replicate k count None (omega (arith, within, past.1)))
      ∙ uncut_marks-before marks (unmarked k) whole
      ∙ ap (λ ms. marks ++ ms) (uncut_marks-unmarked-all k)
      ∙ ap (λ ms. ms ++ unmarked k) (sym (uncut_marks-whole marks whole) ∙ ap uncut_marks (sym (take-whole n marks past.1)))
  | inr short ↦
      let none : n - length marks ≡ 0 = omega (arith, short.1) in
      ap uncut_marks (take-append-le n marks (unmarked count) (omega (arith, short.1)))
      ∙ sym (append-nil (uncut_marks (take n marks)))
      ∙ ap (λ k. uncut_marks (take n marks) ++ unmarked k) (sym none)
]

pub front-moved : (old others rest moved : Gathered) (own cut : Owned) (n left : ℕ) → MovesWhole old others n left rest moved
    → others.marks ≡ [] → uncut_marks (take left rest.marks) ≡ unmarked (min left (length rest.bytes))
    → length old.marks ≡ length old.bytes → AreWhole old.marks → n ≤ length (all_bytes old own) → length cut.items ≡ left
    → moved.marks ++ unmarked (length cut.items) ≡ uncut_marks (take n (all_marks old own))
front-moved old others rest moved own cut n left so none no_mark marked whole there size =
    let split : length cut.items ≡ min left (length rest.bytes) + (left - length rest.bytes) = omega (arith, size) in
    let same : left - length rest.bytes ≡ n - length old.marks = omega (arith, so.beyond, marked) in
    ap (λ k. moved.marks ++ unmarked k) split
    ∙ ap (λ ms. moved.marks ++ ms) (sym (replicate-append-replicate (min left (length rest.bytes)) (left - length rest.bytes) None))
    ∙ sym (append_assoc moved.marks (unmarked (min left (length rest.bytes))) (unmarked (left - length rest.bytes)))
    ∙ ap (λ ms. (moved.marks ++ ms) ++ unmarked (left - length rest.bytes)) (sym no_mark)
    ∙ ap (λ ms. ms ++ unmarked (left - length rest.bytes)) (so.taken_marks ∙ ap (λ ms. ms ++ uncut_marks (take n old.marks)) none)
    ∙ ap (λ k. uncut_marks (take n old.marks) ++ unmarked k) same
    ∙ sym (uncut-own n old.marks (length own.items) whole (omega (arith, there, marked, length-append old.bytes own.items)))

-- No whole chunk went, and the front of what is left was copied behind own bytes.
pub front-copied : (old others rest moved to : Gathered) (own to_own now : Owned) (n left : ℕ) → MovesWhole old others n left rest moved
    → others.marks ≡ [] → length moved.marks ≡ 0 → uncut_marks (take left rest.marks) ≡ unmarked (min left (length rest.bytes))
    → length old.marks ≡ length old.bytes → AreWhole old.marks → n ≤ length (all_bytes old own)
    → now.items ≡ to_own.items ++ take left (all_bytes rest own)
    → all_marks to now ≡ all_marks to to_own ++ uncut_marks (take n (all_marks old own))
front-copied old others rest moved to own to_own now n left so none still no_mark marked whole there items =
    let count : ℕ = length (take left (all_bytes rest own)) in
    let size : length (take left (all_bytes rest own)) ≡ left =
    omega (
      arith,
      length-take left (all_bytes rest own),
      so.beyond,
      there,
      length-append old.bytes own.items,
      length-append rest.bytes own.items,
    ) in
    let cut : Owned = record { items = take left (all_bytes rest own); spare = 0 } in
    let taken : unmarked count ≡ uncut_marks (take n (all_marks old own)) =
    ap (λ ms. ms ++ unmarked count) (sym (empty moved.marks still))
    ∙ front-moved old others rest moved own cut n left so none no_mark marked whole there size in
    ap (λ k. to.marks ++ unmarked k) (ap length items ∙ length-append to_own.items (take left (all_bytes rest own)))
    ∙ ap (λ ms. to.marks ++ ms) (sym (replicate-append-replicate (length to_own.items) count None))
    ∙ sym (append_assoc to.marks (unmarked (length to_own.items)) (unmarked count))
    ∙ ap (λ ms. all_marks to to_own ++ ms) taken where
      empty : {A : Type 0} (xs : List A) → length xs ≡ 0 → xs ≡ []
      empty [] zero_long = refl
      empty (x ∷ xs) zero_long = absurd (omega (arith, zero_long))
