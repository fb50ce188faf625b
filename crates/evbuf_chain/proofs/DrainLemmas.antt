-- The first bytes of chunks, chunk by chunk: what is still to be done of the rest is what was to be done of all.
use Rattle.std.proofs.Common.{◌≡◌, ℕ, zero, suc, ◌+◌, ◌-◌, ◌<◌, ◌≤◌, List, [], ◌∷◌, ◌++◌, length, take, drop, refl, ap, sym, ◌∙◌}
use Rattle.std.proofs.Common.{append_assoc, append-nil, arith, length-append}
use Rattle.std.proofs.lemmas.List.{take-append-le, drop-append-le, drop_all}
use Rattle.std.proofs.Math.Seq.{take-append-add, drop-append-add}
use Rattle.evbuf_chain.specs.Mark.{Marks, unmarked, ended_tickets, uncut_marks, AreWhole}
use Rattle.evbuf_chain.specs.ChunkValue.{Gathered}
use Rattle.evbuf_chain.specs.Leaving.{FrontGone, MovesWhole}
use Rattle.evbuf_chain.proofs.MarkLemmas.{ended_tickets-append, uncut_marks-before}

pub take-past : {A : Type 0} (n : ℕ) (xs ys : List A) → length xs ≤ n → take n (xs ++ ys) ≡ xs ++ take (n - length xs) ys
take-past n xs ys within =
    let e : n ≡ length xs + (n - length xs) = omega arith in
    ap (λ k. take k (xs ++ ys)) e ∙ take-append-add xs ys (n - length xs)

pub drop-past : {A : Type 0} (n : ℕ) (xs ys : List A) → length xs ≤ n → drop n (xs ++ ys) ≡ drop (n - length xs) ys
drop-past n xs ys within =
    let e : n ≡ length xs + (n - length xs) = omega arith in
    ap (λ k. drop k (xs ++ ys)) e ∙ drop-append-add xs ys (n - length xs)

pub none-ended : (n : ℕ) (marks : Marks) → marks ≡ [] → ended_tickets (take n marks) ≡ []
none-ended n [] none = nothing n where
  nothing : (n : ℕ) → ended_tickets (take n []) ≡ []
  nothing zero = refl
  nothing (suc n) = refl
none-ended n (mark ∷ marks) none = absurd (omega (arith, ap length none))

-- n bytes of what is left are to be let go, as the first n of all were
pub record Drains (all : Gathered) (released : List ℕ) (of_all n : ℕ) (rest : Gathered) (now : List ℕ) : Type 0 where
  pub size : length rest.bytes ≤ length all.bytes
  pub left : n - length rest.bytes ≡ of_all - length all.bytes
  pub bytes : drop n rest.bytes ≡ drop of_all all.bytes
  pub marks : drop n rest.marks ≡ drop of_all all.marks
  pub ended : now ++ ended_tickets (take n rest.marks) ≡ released ++ ended_tickets (take of_all all.marks)

-- a whole chunk goes
pub Drains-whole : (all : Gathered) (released : List ℕ) (of_all n : ℕ) (rest : Gathered) (now : List ℕ) (bytes : List ℕ) (marks : Marks)
    (more : Gathered) (then : List ℕ)
    → Drains all released of_all n rest now
    → rest.bytes ≡ bytes ++ more.bytes → rest.marks ≡ marks ++ more.marks → length marks ≡ length bytes → length bytes ≤ n
    → then ≡ now ++ ended_tickets marks
    → Drains all released of_all (n - length bytes) more then
Drains-whole all released of_all n rest now bytes marks more then so bytes_are marks_are marked within then_is =
    let k : ℕ = n - length bytes in
    let same : n - length marks ≡ k = omega (arith, marked) in
    let fits : length marks ≤ n = omega (arith, marked, within) in
    record {
      size = omega (arith, so.size, ap length bytes_are, length-append bytes more.bytes);
      left = omega (arith, so.left, ap length bytes_are, length-append bytes more.bytes, within);
      bytes = sym (drop-past n bytes more.bytes within) ∙ ap (λ bs. drop n bs) (sym bytes_are) ∙ so.bytes;
      marks =
          ap (λ j. drop j more.marks) (sym same)
          ∙ sym (drop-past n marks more.marks fits)
          ∙ ap (λ ms. drop n ms) (sym marks_are)
          ∙ so.marks;
      ended =
          ap (λ ts. ts ++ ended_tickets (take k more.marks)) then_is
          ∙ append_assoc now (ended_tickets marks) (ended_tickets (take k more.marks))
          ∙ ap (λ ts. now ++ ts)
          (sym (ended_tickets-append marks (take k more.marks))
          ∙ ap (λ j. ended_tickets (marks ++ take j more.marks)) (sym same)
          ∙ ap ended_tickets (sym (take-past n marks more.marks fits))
          ∙ ap (λ ms. ended_tickets (take n ms)) (sym marks_are))
          ∙ so.ended;
    }

-- the front of a chunk goes
pub Drains-cut : (all : Gathered) (released : List ℕ) (of_all n : ℕ) (rest : Gathered) (now : List ℕ) (bytes : List ℕ) (marks : Marks)
    (cut_bytes : List ℕ) (cut_marks : Marks) (more last : Gathered)
    → Drains all released of_all n rest now
    → rest.bytes ≡ bytes ++ more.bytes → rest.marks ≡ marks ++ more.marks → length marks ≡ length bytes → n < length bytes
    → cut_bytes ≡ drop n bytes → cut_marks ≡ drop n marks → ended_tickets (take n marks) ≡ []
    → last.bytes ≡ cut_bytes ++ more.bytes → last.marks ≡ cut_marks ++ more.marks
    → FrontGone all released of_all 0 last now
Drains-cut all released of_all n rest now bytes marks cut_bytes cut_marks more last so bytes_are marks_are marked cut cut_bytes_are
    cut_marks_are
    no_end last_bytes last_marks =
    let fits : n ≤ length bytes = omega (arith, cut) in
    let fits_marks : n ≤ length marks = omega (arith, cut, marked) in
    let none : ended_tickets (take n rest.marks) ≡ [] =
    ap (λ ms. ended_tickets (take n ms)) marks_are ∙ ap ended_tickets (take-append-le n marks more.marks fits_marks) ∙ no_end in
    record {
      left = omega (arith, so.left, ap length bytes_are, length-append bytes more.bytes, cut);
      bytes =
          last_bytes
          ∙ ap (λ bs. bs ++ more.bytes) cut_bytes_are
          ∙ sym (drop-append-le n bytes more.bytes fits)
          ∙ ap (λ bs. drop n bs) (sym bytes_are)
          ∙ so.bytes;
      marks =
          last_marks
          ∙ ap (λ ms. ms ++ more.marks) cut_marks_are
          ∙ sym (drop-append-le n marks more.marks fits_marks)
          ∙ ap (λ ms. drop n ms) (sym marks_are)
          ∙ so.marks;
      ended = sym (append-nil now) ∙ ap (λ ts. now ++ ts) (sym none) ∙ so.ended;
    }

-- nothing is left to do, or no chunk
pub Drains-done : (all : Gathered) (released : List ℕ) (of_all : ℕ) (rest : Gathered) (now : List ℕ)
    → Drains all released of_all 0 rest now → FrontGone all released of_all 0 rest now
Drains-done all released of_all rest now so = record {
  left = omega (arith, so.left);
  bytes = so.bytes;
  marks = so.marks;
  ended = sym (append-nil now) ∙ so.ended;
}

pub Drains-none : (all : Gathered) (released : List ℕ) (of_all n : ℕ) (rest : Gathered) (now : List ℕ) (last : Gathered)
    → Drains all released of_all n rest now
    → rest.bytes ≡ [] → rest.marks ≡ [] → last.bytes ≡ [] → last.marks ≡ []
    → FrontGone all released of_all n last now
Drains-none all released of_all n rest now last so no_bytes no_marks last_bytes last_marks = record {
  left = omega (arith, so.left, ap length no_bytes);
  bytes = last_bytes ∙ sym (drop_all n rest.bytes (omega (arith, ap length no_bytes))) ∙ so.bytes;
  marks = last_marks ∙ sym (drop_all n rest.marks (omega (arith, ap length no_marks))) ∙ so.marks;
  ended = sym (append-nil now) ∙ ap (λ ts. now ++ ts) (sym (none-ended n rest.marks no_marks)) ∙ so.ended;
}

-- a whole chunk is copied
pub copied-whole : (into_old into_now into_then all rest bytes more : List ℕ) (of_all n : ℕ)
    → into_now ++ take n rest ≡ into_old ++ take of_all all → rest ≡ bytes ++ more → length bytes ≤ n → into_then ≡ into_now ++ bytes
    → into_then ++ take (n - length bytes) more ≡ into_old ++ take of_all all
copied-whole into_old into_now into_then all rest bytes more of_all n so rest_is within then_is =
    ap (λ bs. bs ++ take (n - length bytes) more) then_is
    ∙ append_assoc into_now bytes (take (n - length bytes) more)
    ∙ ap (λ bs. into_now ++ bs) (sym (take-past n bytes more within) ∙ ap (λ bs. take n bs) (sym rest_is))
    ∙ so

-- the front of one is
pub copied-cut : (into_old into_now into_then all rest bytes more : List ℕ) (of_all n : ℕ)
    → into_now ++ take n rest ≡ into_old ++ take of_all all → rest ≡ bytes ++ more → n < length bytes
    → into_then ≡ into_now ++ take n bytes
    → into_then ≡ into_old ++ take of_all all
copied-cut into_old into_now into_then all rest bytes more of_all n so rest_is cut then_is =
    then_is
    ∙ ap (λ bs. into_now ++ bs) (sym (take-append-le n bytes more (omega (arith, cut))) ∙ ap (λ bs. take n bs) (sym rest_is))
    ∙ so

-- there is none
none-taken : (n : ℕ) (bytes : List ℕ) → bytes ≡ [] → take n bytes ≡ []
none-taken zero bytes none = refl
none-taken (suc n) [] none = refl
none-taken (suc n) (b ∷ bytes) none = absurd (omega (arith, ap length none))

pub copied-none : (into_old into_now all rest : List ℕ) (of_all n : ℕ)
    → into_now ++ take n rest ≡ into_old ++ take of_all all → rest ≡ [] → into_now ≡ into_old ++ take of_all all
copied-none into_old into_now all rest of_all n so none =
    sym (append-nil into_now) ∙ ap (λ bs. into_now ++ bs) (sym (none-taken n rest none)) ∙ so

-- a whole chunk is moved
pub MovesWhole-whole : (old others : Gathered) (of_all n : ℕ) (rest moved : Gathered) (bytes : List ℕ) (marks : Marks)
    (more then : Gathered)
    → MovesWhole old others of_all n rest moved
    → rest.bytes ≡ bytes ++ more.bytes → rest.marks ≡ marks ++ more.marks → length marks ≡ length bytes → length bytes ≤ n
    → AreWhole marks → then.bytes ≡ moved.bytes ++ bytes → then.marks ≡ moved.marks ++ marks
    → MovesWhole old others of_all (n - length bytes) more then
MovesWhole-whole old others of_all n rest moved bytes marks more then so bytes_are marks_are marked within whole then_bytes then_marks =
    let k : ℕ = n - length bytes in
    let same : n - length marks ≡ k = omega (arith, marked) in
    let fits : length marks ≤ n = omega (arith, marked, within) in
    record {
      within = omega (arith, so.within);
      beyond = omega (arith, so.beyond, ap length bytes_are, length-append bytes more.bytes, within);
      taken = copied-whole others.bytes moved.bytes then.bytes old.bytes rest.bytes bytes more.bytes of_all n so.taken bytes_are within
          then_bytes;
      taken_marks =
          ap (λ ms. ms ++ uncut_marks (take k more.marks)) then_marks
          ∙ append_assoc moved.marks marks (uncut_marks (take k more.marks))
          ∙ ap (λ ms. moved.marks ++ ms)
          (sym (uncut_marks-before marks (take k more.marks) whole)
          ∙ ap (λ j. uncut_marks (marks ++ take j more.marks)) (sym same)
          ∙ ap uncut_marks (sym (take-past n marks more.marks fits))
          ∙ ap (λ ms. uncut_marks (take n ms)) (sym marks_are))
          ∙ so.taken_marks;
      bytes = sym (drop-past n bytes more.bytes within) ∙ ap (λ bs. drop n bs) (sym bytes_are) ∙ so.bytes;
      marks =
          ap (λ j. drop j more.marks) (sym same)
          ∙ sym (drop-past n marks more.marks fits)
          ∙ ap (λ ms. drop n ms) (sym marks_are)
          ∙ so.marks;
      all =
          ap (λ bs. bs ++ more.bytes) then_bytes
          ∙ append_assoc moved.bytes bytes more.bytes
          ∙ ap (λ bs. moved.bytes ++ bs) (sym bytes_are)
          ∙ so.all;
      all_marks =
          ap (λ ms. ms ++ more.marks) then_marks
          ∙ append_assoc moved.marks marks more.marks
          ∙ ap (λ ms. moved.marks ++ ms) (sym marks_are)
          ∙ so.all_marks;
    }

-- no reference ends among the first bytes of a chunk that is cut, whatever comes behind it
pub ended-cut : (n : ℕ) (marks more all : Marks) → all ≡ marks ++ more → n ≤ length marks → ended_tickets (take n marks) ≡ []
    → ended_tickets (take n all) ≡ []
ended-cut n marks more all all_are within none =
    ap (λ ms. ended_tickets (take n ms)) all_are ∙ ap ended_tickets (take-append-le n marks more within) ∙ none

pub uncut-cut : (n : ℕ) (marks more all : Marks) → all ≡ marks ++ more → n ≤ length marks → uncut_marks (take n marks) ≡ unmarked n
    → uncut_marks (take n all) ≡ unmarked n
uncut-cut n marks more all all_are within none =
    ap (λ ms. uncut_marks (take n ms)) all_are ∙ ap uncut_marks (take-append-le n marks more within) ∙ none
