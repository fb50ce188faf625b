-- Texts that grew by the lines of some entries, of which the first so many are passed over.
use Rattle.std.proofs.Common.{◌≡◌, ◌∙◌, ℕ, suc, zero, ◌+◌, ◌-◌, ◌<◌, ◌≤◌, List, [], ◌∷◌, ◌++◌, length, drop, map, sym, ap, subst}
use Rattle.std.proofs.Common.{add-one, arith, inl, inr, true, false, get_or, append-nil, append_assoc, length-append, length-drop}
use Rattle.std.specs.Prelude.{filter}
use Rattle.std.specs.declared.alloc.Global.{Global}
use Rattle.std.specs.declared.vec.Vec.{Vec}
use Rattle.std.proofs.Math.ListN.{drop_of_length-le}
use Rattle.std.proofs.Math.Seq.{drop-append-add, drop-cons, drop-nil, drop-length}
use Rattle.std.proofs.lemmas.Bool.{cases_lt}
use Rattle.std.proofs.lemmas.Grind.{flat_map-append}
use Rattle.std.proofs.lemmas.List.{drop-append-le, length-map, map-append}
use Rattle.ev_types.specs.declared.entry.Entry.{Entry}
use Rattle.ev_port.specs.declared.port.Want.{Want}
use Rattle.ev_port.specs.declared.want_word.WantWord.{WantWord}
use Rattle.ev_port.specs.Table.{wants_some}
use Rattle.ev_port.specs.WantWords.{word_row, word_rows_before, word_rows}
use Rattle.ev_port.proofs.NamedLemmas.{one}
use Rattle.ev_port.proofs.WantWordLemmas.{length-word_le, word_rows-all}
use Rattle.script_text.specs.Room.{GrewBy, HasRoom, room_of}
use Rattle.evrelay.specs.RingText.{counted_line, ring_text, SpeltBehind}
use Rattle.evrelay.specs.RingWants.{kept_last, want_entry, word_wants, word_entries}
use Rattle.evrelay.proofs.RingLemmas.{ring_text-halves}

abbrev Text : Type 0
Text = Vec ℕ Global

-- a part of two joined lists is passed over
drop-append : {X : Type 0} (n : ℕ) (xs ys : List X) → drop n (xs ++ ys) ≡ drop n xs ++ drop (n - length xs) ys
drop-append n xs ys = elim (cases_lt n (length xs)) [
  | inl within ↦ (let none : 0 ≡ n - length xs = omega (arith, within) in
      drop-append-le n xs ys (omega (arith, within)) ∙ ap (λ k. drop n xs ++ drop k ys) none)
  | inr past ↦ (let at : n ≡ length xs + (n - length xs) = omega (arith, past) in
      ap (λ k. drop k (xs ++ ys)) at ∙ drop-append-add xs ys (n - length xs)
      ∙ ap (λ zs. zs ++ drop (n - length xs) ys) (sym (drop_of_length-le xs past)))
]

-- nothing more
pub spelt-nil : (passed : ℕ) (a : Text) → SpeltBehind [] passed passed a a
spelt-nil passed a = record {
  fewer = omega arith;
  grew = (sym (ap (λ es. a.items ++ ring_text es) (drop-nil passed) ∙ append-nil a.items), omega arith, omega arith);
}

-- more entries
pub spelt-append : (xs ys : List Entry) (p q r : ℕ) (a b c : Text) → SpeltBehind xs p q a b → SpeltBehind ys q r b c
    → SpeltBehind (xs ++ ys) p r a c
spelt-append xs ys p q r a b c first then =
    let fewer = first.fewer in
    let fewer_then = then.fewer in
    let long = length-append xs ys in
    let grew = first.grew in
    let grew_then = then.grew in
    let behind = ap (λ k. drop k ys) fewer in
    record {
      fewer = omega (arith, fewer, fewer_then, long);
      grew = (
        grew_then.0 ∙ ap (λ bytes. bytes ++ ring_text (drop q ys)) grew.0
            ∙ append_assoc a.items (ring_text (drop p xs)) (ring_text (drop q ys))
            ∙ ap (λ bytes. a.items ++ bytes) (sym (flat_map-append counted_line (drop p xs) (drop q ys))
            ∙ ap ring_text (ap (λ es. drop p xs ++ es) behind ∙ sym (drop-append p xs ys))),
        (let l = grew.1 in let m = grew_then.1 in omega (arith, l, m, fewer, long)),
        (let l = grew.2 in let m = grew_then.2 in omega (arith, l, m)),
      );
    }

-- an entry that is passed over, and one whose line is put
pub spelt-passed : (e : Entry) (p q : ℕ) (a : Text) → 0 < p → q ≡ p - 1 → SpeltBehind (e ∷ []) p q a a
spelt-passed e p q a some is =
    let none : drop p (e ∷ []) ≡ [] = drop_of_length-le (e ∷ []) (omega (arith, some)) in
    record {
      fewer = omega (arith, is);
      grew = (sym (ap (λ es. a.items ++ ring_text es) none ∙ append-nil a.items), omega arith, omega arith);
    }

pub spelt-put : (e : Entry) (p : ℕ) (a b : Text) → p ≡ 0 → GrewBy (counted_line e) (room_of 1 0) a b → SpeltBehind (e ∷ []) p 0 a b
spelt-put e p a b none grew = subst (λ k. SpeltBehind (e ∷ []) k 0 a b) (sym none) (record {
  fewer = omega arith;
  grew = (grew.0 ∙ ap (λ bytes. a.items ++ bytes) (sym (append-nil (counted_line e))), grew.1, grew.2);
})

-- behind some entries there is room for more of so many
pub room-behind : (xs : List Entry) (n more p q : ℕ) (a b : Text) → length xs + more ≤ n → HasRoom a (room_of (n - p) 0)
    → SpeltBehind xs p q a b → HasRoom b (room_of (more - q) 0)
room-behind xs n more p q a b within room s =
    let fewer = s.fewer in
    let grew = s.grew in
    let l = grew.1 in
    let m = grew.2 in
    omega (arith, within, room, fewer, l, m)

-- Side by side of a word

abbrev pub wanted : Want → List Want
wanted w = filter wants_some (w ∷ [])

-- a side that wants something, and one that wants nothing
pub spelt-some : (w : Want) (e : Entry) (p q : ℕ) (a b : Text) → wants_some w ≡ true → e ≡ want_entry w → SpeltBehind (e ∷ []) p q a b
    → SpeltBehind (map want_entry (wanted w)) p q a b
spelt-some w e p q a b some is s =
    subst (λ ws. SpeltBehind (map want_entry ws) p q a b) (sym (one w true some)) (subst (λ z. SpeltBehind (z ∷ []) p q a b) is s)

pub spelt-none : (w : Want) (p : ℕ) (a : Text) → wants_some w ≡ false → SpeltBehind (map want_entry (wanted w)) p p a a
spelt-none w p a none = subst (λ ws. SpeltBehind (map want_entry ws) p p a a) (sym (one w false none)) (spelt-nil p a)

pub room-some : (w : Want) (p : ℕ) (a : Text) → wants_some w ≡ true → HasRoom a (room_of (length (wanted w) - p) 0)
    → HasRoom a (room_of (1 - p) 0)
room-some w p a some room = let l = ap length (one w true some) in omega (arith, l, room)

-- one side more
pub spelt-side : (x : WantWord) (k p q r : ℕ) (a b c : Text) → SpeltBehind (map want_entry (word_rows_before x k)) p q a b
    → SpeltBehind (map want_entry (wanted (word_row x k))) q r b c → SpeltBehind (map want_entry (word_rows_before x (k + 1))) p r a c
spelt-side x k p q r a b c s then =
    let whole = map-append want_entry (word_rows_before x k) (wanted (word_row x k)) in
    subst (λ n. SpeltBehind (map want_entry (word_rows_before x n)) p r a c) (sym (add-one k))
    (subst (λ es. SpeltBehind es p r a c) (sym whole)
    (spelt-append (map want_entry (word_rows_before x k)) (map want_entry (wanted (word_row x k))) p q r a b c s then))

pub room-side : (x : WantWord) (k p q : ℕ) (a b : Text) → k < 64 → HasRoom a (room_of (length (word_rows x) - p) 0)
    → SpeltBehind (map want_entry (word_rows_before x k)) p q a b → HasRoom b (room_of (length (wanted (word_row x k)) - q) 0)
room-side x k p q a b within room s =
    let e : suc k + (63 - k) ≡ 64 = omega (arith, within) in
    let l = length-word_le x (suc k) (63 - k) in
    let g = ap (λ n. length (word_rows_before x n)) e in
    let w = ap length (word_rows-all x) in
    let m = length-append (word_rows_before x k) (wanted (word_row x k)) in
    let many = length-map (word_rows_before x k) want_entry in
    room-behind (map want_entry (word_rows_before x k)) (length (word_rows x)) (length (wanted (word_row x k))) p q a b
    (omega (arith, l, g, w, m, many)) room s

-- Word by word, from the last one on

pub wants-drop : (j : ℕ) (words : List WantWord) → length (word_wants (drop j words)) ≤ length (word_wants words)
wants-drop zero words = omega arith
wants-drop (suc j) [] = omega arith
wants-drop (suc j) (w ∷ words) =
    let s = wants-drop j words in
    let l = length-append (word_wants words) (word_rows w) in
    omega (arith, s, l)

module _ (words : List WantWord) (at next : ℕ) (w d : WantWord) (some : 0 < at) (is : next ≡ at - 1) (within : at ≤ length words)
    (here : w ≡ get_or words next d) where
  -- the words from the one before on
  from_here : drop next words ≡ w ∷ drop at words
  from_here =
      let behind : suc next ≡ at = omega (arith, some, is) in
      drop-cons words next d (omega (arith, some, is, within)) ∙ (λ i. sym here i ∷ drop (behind i) words)

  pub spelt-word : (p q r : ℕ) (a b c : Text) → SpeltBehind (word_entries (drop at words)) p q a b
      → SpeltBehind (map want_entry (word_rows w)) q r b c → SpeltBehind (word_entries (drop next words)) p r a c
  spelt-word p q r a b c first then =
      let whole = map-append want_entry (word_wants (drop at words)) (word_rows w) in
      subst (λ ws. SpeltBehind (word_entries ws) p r a c) (sym from_here)
      (subst (λ es. SpeltBehind es p r a c) (sym whole)
      (spelt-append (word_entries (drop at words)) (map want_entry (word_rows w)) p q r a b c first then))

  pub room-word : (p q : ℕ) (a b : Text) → HasRoom a (room_of (length (word_wants words) - p) 0)
      → SpeltBehind (word_entries (drop at words)) p q a b → HasRoom b (room_of (length (word_rows w) - q) 0)
  room-word p q a b room s =
      let d = wants-drop next words in
      let e = ap (λ ws. length (word_wants ws)) from_here in
      let l = length-append (word_wants (drop at words)) (word_rows w) in
      let m = length-map (word_wants (drop at words)) want_entry in
      room-behind (word_entries (drop at words)) (length (word_wants words)) (length (word_rows w)) p q a b
      (omega (arith, d, e, l, m)) room s

pub spelt-begin : (words : List WantWord) (at p : ℕ) (a : Text) → at ≡ length words → SpeltBehind (word_entries (drop at words)) p p a a
spelt-begin words at p a is =
    subst (λ ws. SpeltBehind (word_entries ws) p p a a) (sym (ap (λ n. drop n words) is ∙ drop-length words)) (spelt-nil p a)

pub spelt-end : (words : List WantWord) (at p q : ℕ) (a b : Text) → at ≡ 0 → SpeltBehind (word_entries (drop at words)) p q a b
    → SpeltBehind (word_entries words) p q a b
spelt-end words at p q a b none s = subst (λ n. SpeltBehind (word_entries (drop n words)) p q a b) none s

-- The words, and the two halves behind them

module _ (words : List WantWord) (older newer : List Entry) (many passed left : ℕ) (a b : Text) (counted : many ≡ length (word_wants words))
    (is : passed ≡ many + length older + length newer - 64) (older_short : length older ≤ 64) (newer_short : length newer ≤ 64)
    (s : SpeltBehind (word_entries words) passed left a b) (room : HasRoom a (room_of 64 0)) where
  wants_many : length (word_entries words) ≡ many
  wants_many = length-map (word_wants words) want_entry ∙ sym counted

  -- there is room for the older half
  pub left-within : left ≤ length older
  left-within = let fewer = s.fewer in let m = wants_many in omega (arith, fewer, m, is, newer_short)

  pub room-older : HasRoom b (room_of (length older - left) 0)
  room-older =
      let fewer = s.fewer in
      let grew = s.grew in
      let l = grew.1 in
      let k = grew.2 in
      let m = wants_many in
      omega (arith, fewer, l, k, m, is, room, older_short, newer_short)

  module _ (back : List Entry) (c : Text) (back_is : back ≡ drop left older)
      (then : GrewBy (ring_text back) (room_of (length back) 0) b c) where
    back_many : length back ≡ length older - left
    back_many = ap length back_is ∙ length-drop left older

    pub room-newer : HasRoom c (room_of (length newer) 0)
    room-newer =
        let fewer = s.fewer in
        let grew = s.grew in
        let l = grew.1 in
        let k = grew.2 in
        let n = then.1 in
        let o = then.2 in
        let m = wants_many in
        let r = back_many in
        omega (arith, fewer, l, k, n, o, m, r, is, room, older_short, newer_short)

    halves : ring_text (drop passed (word_entries words)) ++ (ring_text back ++ ring_text newer)
        ≡ ring_text (kept_last words older newer)
    halves =
        let es = word_entries words in
        let fewer = s.fewer in
        let cut : passed ≡ length (es ++ older) + length newer - 64 = omega (arith, is, wants_many, length-append es older) in
        let joined : drop passed es ++ back ≡ drop passed (es ++ older) =
        ap (λ xs. drop passed es ++ xs) (back_is ∙ ap (λ n. drop n older) fewer) ∙ sym (drop-append passed es older) in
        sym (append_assoc (ring_text (drop passed es)) (ring_text back) (ring_text newer))
        ∙ ap (λ bytes. bytes ++ ring_text newer) (sym (flat_map-append counted_line (drop passed es) back) ∙ ap ring_text joined)
        ∙ ring_text-halves (es ++ older) newer passed cut newer_short

    pub spelt-whole : (d : Text) → GrewBy (ring_text newer) (room_of (length newer) 0) c d
        → GrewBy (ring_text (kept_last words older newer)) (room_of 64 0) a d
    spelt-whole d last =
        let fewer = s.fewer in
        let grew = s.grew in
        let es = word_entries words in
        let m = wants_many in
        let r = back_many in (
          last.0 ∙ ap (λ bytes. bytes ++ ring_text newer) (then.0 ∙ ap (λ bytes. bytes ++ ring_text back) grew.0)
              ∙ append_assoc (a.items ++ ring_text (drop passed es)) (ring_text back) (ring_text newer)
              ∙ append_assoc a.items (ring_text (drop passed es)) (ring_text back ++ ring_text newer)
              ∙ ap (λ bytes. a.items ++ bytes) halves,
          (let l = grew.1 in let n = then.1 in let o = last.1 in omega (arith, fewer, l, n, o, m, r, is, older_short, newer_short)),
          (let l = grew.2 in let n = then.2 in let o = last.2 in omega (arith, l, n, o)),
        )
