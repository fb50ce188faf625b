-- The wants of 64 sides at a time, beside the wants by the numbers of their sides.
use Rattle.std.proofs.Common.{◌≡◌, ◌∙◌, ℕ, zero, suc, ◌+◌, ◌*◌, ◌^◌, ◌<◌, ◌≤◌, length}
use Rattle.std.proofs.Common.{Bool, true, false, [], ◌∷◌, ◌++◌}
use Rattle.std.proofs.Common.{Option, Some, None, refl, sym, ap, subst, arith, inl, inr, append-nil, append_assoc, length-append}
use Rattle.std.specs.Prelude.{filter}
use Rattle.std.proofs.lemmas.Bool.{cases_Bool, cases_eq, cases_lt, or_from}
use Rattle.number_set.specs.Next.{in_either}
use Rattle.number_set.specs.Walks.{IsPreviousWord}
use Rattle.number_set.specs.Words.{is_set}
use Rattle.number_set.proofs.BitLemmas.{some_bit}
use Rattle.ev_port.specs.declared.want_word.WantWord.{WantWord}
use Rattle.ev_port.specs.declared.table.WantTable.TheInside.{Inside}
use Rattle.ev_port.specs.Table.{WantsValue, side_of, row_by, wants_some, rows_before, named_before, named}
use Rattle.ev_port.specs.TableView.{table_of, IsTable}
use Rattle.ev_port.specs.WantWords.{word_row, word_rows_before, word_rows, LastWord, IsLastWord, PreviousWantWord}
use Rattle.ev_port.specs.WantWords.{IsPreviousWordWanted}
use Rattle.ev_port.proofs.MarkLemmas.{either-same}
use Rattle.ev_port.proofs.NamedLemmas.{one, one_if, one_if-le, length-one, named-skip}
use Rattle.ev_port.proofs.TableViewLemmas.{reads-shown, writes-shown}

-- sides past the last add nothing
pub named-past : (t : WantsValue) (n : ℕ) → 2 * t.links ≤ n → named_before t n ≡ named t
named-past t n l =
    named-skip t.reads t.writes (2 * t.links) n l (λ k a b. or_from (t.reads k) (t.writes k) (t.reads_end k a) (t.writes_end k a))

-- How many a word has

pub length-word_more : (x : WantWord) (k : ℕ)
    → length (word_rows_before x (suc k)) ≡ length (word_rows_before x k) + one_if (wants_some (word_row x k))
length-word_more x k =
    length-append (word_rows_before x k) _
    ∙ ap (λ n. length (word_rows_before x k) + n) (length-one (wants_some (word_row x k)) (word_row x k))

pub length-word_below : (x : WantWord) (k : ℕ) → length (word_rows_before x k) ≤ k
length-word_below x zero = omega arith
length-word_below x (suc k) =
    let s = length-word_below x k in
    let m = length-word_more x k in
    let o = one_if-le (wants_some (word_row x k)) in
    omega (arith, s, m, o)

pub length-word_le : (x : WantWord) (k more : ℕ) → length (word_rows_before x k) ≤ length (word_rows_before x (k + more))
length-word_le x k zero =
    let e : k + 0 ≡ k = omega arith in
    subst (λ n. length (word_rows_before x k) ≤ length (word_rows_before x n)) (sym e) (omega arith)
length-word_le x k (suc more) =
    let e : k + suc more ≡ suc (k + more) = omega arith in
    let s = length-word_le x k more in
    let m = length-word_more x (k + more) in
    subst (λ n. length (word_rows_before x k) ≤ length (word_rows_before x n)) (sym e) (omega (arith, s, m))

-- one side that wants something is a want
pub word-some : (x : WantWord) (j k : ℕ) → j < k → wants_some (word_row x j) ≡ true → 0 < length (word_rows_before x k)
word-some x j zero l h = absurd (omega (arith, l))
word-some x j (suc k) l h = elim (cases_eq j k) [
  | inl e ↦ (
      let m = length-word_more x k in
      let o = ap one_if (ap (λ n. wants_some (word_row x n)) (sym e) ∙ h) in
      omega (arith, m, o))
  | inr e ↦ (
      let m = length-word_more x k in
      let s = word-some x j k (omega (arith, l, e)) h in
      omega (arith, m, s))
]

-- all sides of a word are its first 64
pub word_rows-all : (x : WantWord) → word_rows_before x 64 ≡ word_rows x
unfolding word_rows
word_rows-all x = refl

-- at most 64
pub length-word_rows : (x : WantWord) → length (word_rows x) ≤ 64
unfolding word_rows
length-word_rows x = length-word_below x 64

module _ (r w : ℕ → Bool) (x : WantWord) (reads : (k : ℕ) → k < 64 → is_set x.read k ≡ r (64 * x.at + k))
    (writes : (k : ℕ) → k < 64 → is_set x.write k ≡ w (64 * x.at + k)) where
  -- a side of the word is the side with its number
  row-word : (k : ℕ) → k < 64 → row_by r w (64 * x.at + k) ≡ word_row x k
  row-word k l =
      let a = sym (reads k l) in
      let b = sym (writes k l) in
      λ i. record { side = side_of (64 * x.at + k); read = a i; write = b i; can_read = false; can_write = false }

  -- the wants of the first sides of the word come behind those before it
  rows-word : (k : ℕ) → k ≤ 64 → rows_before r w (64 * x.at + k) ≡ rows_before r w (64 * x.at) ++ word_rows_before x k
  rows-word zero l =
      let e : 64 * x.at + 0 ≡ 64 * x.at = omega arith in
      ap (rows_before r w) e ∙ sym (append-nil (rows_before r w (64 * x.at)))
  rows-word (suc k) l =
      let e : 64 * x.at + suc k ≡ suc (64 * x.at + k) = omega arith in
      let a = rows-word k (omega (arith, l)) in
      let b = row-word k (omega (arith, l)) in
      ap (rows_before r w) e
      ∙ (λ i. a i ++ filter wants_some (b i ∷ []))
      ∙ append_assoc (rows_before r w (64 * x.at)) (word_rows_before x k) (filter wants_some (word_row x k ∷ []))

  -- some side wants something where some bit of both words together is set
  some-word : (both : ℕ) → both < 2 ^ 64 → 0 < both → ((k : ℕ) → k < 64 → is_set both k ≡ in_either r r w w (64 * x.at + k))
      → 0 < length (word_rows_before x 64)
  some-word both fits some bits = elim (cases_lt 0 (length (word_rows_before x 64))) [
    | inl more ↦ more
    | inr none ↦ absurd (some_bit both some fits (λ k l. elim (cases_Bool (is_set both k)) [
      | inl set ↦ absurd (
          let h = ap wants_some (sym (row-word k l)) ∙ sym (either-same r w (64 * x.at + k)) ∙ sym (bits k l) ∙ set in
          let s = word-some x k 64 l h in
          omega (arith, s, none))
      | inr clear ↦ clear
    ]))
  ]

  pub last-some : (before both : ℕ) → both < 2 ^ 64 → IsPreviousWord (in_either r r w w) before x.at both → LastWord r w before x
  unfolding word_rows
  last-some before both fits h =
      let below = h.below in
      record {
        below = below;
        some = some-word both fits h.some h.bits;
        named =
            named-skip r w (64 * x.at + 64) (64 * before) (omega (arith, below)) (λ k a b. sym (either-same r w k) ∙ h.none_after k a b)
            ∙ rows-word 64 (omega arith);
      }

pub last-none : (r w : ℕ → Bool) (before : ℕ) → ((n : ℕ) → n < 64 * before → in_either r r w w n ≡ false)
    → rows_before r w (64 * before) ≡ []
last-none r w before h = named-skip r w 0 (64 * before) (omega arith) (λ k a b. sym (either-same r w k) ∙ h k b)

module _ (a : Inside) (kept : IsTable a) (t : WantsValue) (shown : table_of a ≡ t) (before : ℕ) where
  -- a word with a want is that of sides that a table has
  within : (x : WantWord) → LastWord a.read.has a.write.has before x → 64 * x.at < 2 * a.links
  within x h =
      let r = a.read.has in
      let w = a.write.has in
      let below = h.below in
      elim (cases_lt (64 * x.at) (2 * a.links)) [
        | inl l ↦ l
        | inr past ↦ absurd (
            let skip = named-skip r w (64 * x.at) (64 * before) (omega (arith, below))
            (λ k l m. or_from (r k) (w k) (kept.read_end k (omega (arith, past, l))) (kept.write_end k (omega (arith, past, l)))) in
            let many = ap length (sym h.named ∙ skip) in
            let more = length-append (rows_before r w (64 * x.at)) (word_rows x) in
            let some = h.some in
            omega (arith, many, more, some))
      ]

  previous-word_some : (x : WantWord) → LastWord a.read.has a.write.has before x → PreviousWantWord t before x
  previous-word_some x h =
      let l = within x h in
      let f = kept.few in
      let q = subst (λ p. LastWord p a.write.has before x) (sym (reads-shown a kept)) h in
      let s = subst (λ p. LastWord (table_of a).reads p before x) (sym (writes-shown a kept)) q in
      subst (λ u. PreviousWantWord u before x) shown (record {
        below = h.below;
        small = omega (arith, l, f);
        some = h.some;
        named = s.named;
      })

  previous-word_none : rows_before a.read.has a.write.has (64 * before) ≡ [] → named_before t (64 * before) ≡ []
  previous-word_none h =
      let r = reads-shown a kept in
      let w = writes-shown a kept in
      subst (λ u. named_before u (64 * before) ≡ []) shown ((λ i. rows_before (r i) (w i) (64 * before)) ∙ h)

  -- the last word of the sets is that of the table
  pub previous-word : (found : Option WantWord) → IsLastWord a.read.has a.write.has before found → IsPreviousWordWanted t before found
  previous-word None h = previous-word_none h
  previous-word (Some x) h = previous-word_some x h
