-- The last entries behind the wants of a table, of which only the last are looked at where they are many.
use Rattle.std.proofs.Common.{◌≡◌, ◌∙◌, ℕ, ◌+◌, ◌*◌, ◌/◌, ◌^◌, ◌<◌, ◌≤◌, List, [], ◌∷◌, ◌++◌, length, refl, sym, ap, subst, arith}
use Rattle.std.proofs.Common.{append-nil, append_assoc, length-append}
use Rattle.std.specs.Prelude.{map, min}
use Rattle.std.proofs.lemmas.List.{length-map, map-append, map_push}
use Rattle.std.proofs.lemmas.List.Elements.{All-nil, All-push}
use Rattle.ev_types.specs.declared.entry.Entry.{Entry}
use Rattle.ev_types.specs.Sides.{number}
use Rattle.ev_port.specs.declared.port.Want.{Want}
use Rattle.ev_port.specs.declared.want_word.WantWord.{WantWord}
use Rattle.ev_port.specs.Table.{WantsValue, named_before, named, NextWant}
use Rattle.ev_port.specs.WantWords.{word_rows, PreviousWantWord}
use Rattle.ev_port.proofs.WantWordLemmas.{length-word_rows, named-past}
use Rattle.evrelay.specs.RingWants.{AreOfSides, keep_last, kept_last, want_entry, word_wants, word_entries}
use Rattle.evrelay.proofs.KeepLastLemmas.{keep_last-keep_last, keep_last-end}

-- One entry more, behind the words and the older half

-- the newer half had room
pub pushed-behind : (older newer : List Entry) (e : Entry)
    → keep_last 64 (older ++ (newer ++ e ∷ [])) ≡ keep_last 64 (keep_last 64 (older ++ newer) ++ e ∷ [])
pushed-behind older newer e =
    sym (keep_last-keep_last 64 (older ++ newer) (e ∷ []) ∙ ap (keep_last 64) (append_assoc older newer (e ∷ [])))

-- it had none, and became the older one
pub pushed-anew : (older newer : List Entry) (e : Entry) → 64 ≤ length newer
    → keep_last 64 (newer ++ e ∷ []) ≡ keep_last 64 (keep_last 64 (older ++ newer) ++ e ∷ [])
pushed-anew older newer e long =
    sym (keep_last-end 64 older (newer ++ e ∷ []) (omega (arith, long, length-append newer (e ∷ [])))) ∙ pushed-behind older newer e

-- The wants of a table, one by one

-- the entries to which these wants were put
abbrev pub kept : List Entry → List Want → List Entry
kept old ws = keep_last 64 (old ++ map want_entry ws)

-- one want more
kept-push : (old : List Entry) (ws : List Want) (w : Want) → keep_last 64 (kept old ws ++ want_entry w ∷ []) ≡ kept old (ws ++ w ∷ [])
kept-push old ws w =
    let es = map want_entry ws in
    keep_last-keep_last 64 (old ++ es) (want_entry w ∷ [])
    ∙ ap (keep_last 64) (append_assoc old es (want_entry w ∷ []) ∙ ap (λ z. old ++ z) (sym (map_push want_entry ws w)))

-- the wants before a number of a side were put
pub record PutSoFar (t : WantsValue) (from : ℕ) (old now : List Entry) : Type 0 where
  pub within : from ≤ 2 * t.links
  pub items : now ≡ kept old (named_before t from)

pub put-begin : (t : WantsValue) (before : List Entry) → PutSoFar t 0 (keep_last 64 before) (keep_last 64 before)
put-begin t before = record {
  within = omega arith;
  items = sym (keep_last-keep_last 64 before [] ∙ ap (keep_last 64) (append-nil before));
}

pub put-more : (t : WantsValue) (from n : ℕ) (old now new : List Entry) (w : Want) (e : Entry) → PutSoFar t from old now
    → NextWant t from w → n ≡ number w.side → e ≡ want_entry w → new ≡ keep_last 64 (now ++ e ∷ []) → PutSoFar t (n + 1) old new
put-more t from n old now new w e s next is one pushed =
    let within = next.within in
    record {
      within = omega (arith, is, within);
      items = pushed ∙ (λ i. keep_last 64 (s.items i ++ one i ∷ [])) ∙ kept-push old (named_before t from) w
          ∙ ap (kept old) (sym (ap (λ m. named_before t (m + 1)) is ∙ next.named));
    }

pub put-all : (t : WantsValue) (from : ℕ) (old now : List Entry) → PutSoFar t from old now
    → named t ≡ named_before t (min from (2 * t.links)) → now ≡ kept old (named t)
put-all t from old now s end =
    let within = s.within in
    let here : min from (2 * t.links) ≡ from = omega (arith, within) in
    s.items ∙ ap (kept old) (sym (end ∙ ap (named_before t) here))

-- The words of the last wants of a table that has many, from the last one down

-- a word more stands before the others
pub wants-push : (words : List WantWord) (w : WantWord) → word_wants (words ++ w ∷ []) ≡ word_rows w ++ word_wants words
wants-push [] w = sym (append-nil (word_rows w))
wants-push (v ∷ words) w = ap (λ ws. ws ++ word_rows v) (wants-push words w) ∙ append_assoc (word_rows w) (word_wants words) (word_rows v)

-- the wants of the sides from this place on are those of the words so far
pub record TakenSoFar (t : WantsValue) (before count : ℕ) (words : List WantWord) : Type 0 where
  pub split : named t ≡ named_before t (64 * before) ++ word_wants words
  pub counted : count ≡ length (word_wants words)
  pub short : length words ≤ count
  pub few : count < 128
  pub sides : AreOfSides words

pub take-begin : (t : WantsValue) (before : ℕ) (words : List WantWord) → words ≡ [] → before ≡ 2 * t.links / 64 + 1
    → TakenSoFar t before 0 words
take-begin t before words none place = subst (TakenSoFar t before 0) (sym none) (record {
  split = sym (append-nil (named_before t (64 * before)) ∙ named-past t (64 * before) (omega (arith, place)));
  counted = refl;
  short = omega arith;
  few = omega arith;
  sides = All-nil (λ w. w.at < 2 ^ 27);
})

pub take-more : (t : WantsValue) (before count next : ℕ) (words : List WantWord) (w : WantWord) → TakenSoFar t before count words
    → PreviousWantWord t before w → count < 64 → next ≡ count + length (word_rows w) → TakenSoFar t w.at next (words ++ w ∷ [])
take-more t before count next words w s previous fewer is =
    let many = ap length (wants-push words w) ∙ length-append (word_rows w) (word_wants words) in
    let counted = s.counted in
    let short = s.short in
    let some = previous.some in
    let most = length-word_rows w in
    record {
      split = s.split ∙ ap (λ ws. ws ++ word_wants words) previous.named
          ∙ append_assoc (named_before t (64 * w.at)) (word_rows w) (word_wants words)
          ∙ ap (λ ws. named_before t (64 * w.at) ++ ws) (sym (wants-push words w));
      counted = omega (arith, is, many, counted);
      short = omega (arith, is, short, some, length-append words (w ∷ []));
      few = omega (arith, is, fewer, most);
      sides = All-push (λ w. w.at < 2 ^ 27) words w s.sides previous.small;
    }

pub take-none : (t : WantsValue) (before count : ℕ) (words : List WantWord) → TakenSoFar t before count words → count < 64
    → 64 ≤ length (named t) → named_before t (64 * before) ≡ [] → ⊥
take-none t before count words s fewer many none =
    let e = ap length (s.split ∙ ap (λ ws. ws ++ word_wants words) none) in
    let counted = s.counted in
    omega (arith, e, fewer, many, counted)

pub take-all : (t : WantsValue) (before count : ℕ) (words : List WantWord) → TakenSoFar t before count words → 64 ≤ count
    → keep_last 64 (word_entries words) ≡ keep_last 64 (map want_entry (named t))
take-all t before count words s enough =
    let counted = s.counted in
    sym (ap (λ ws. keep_last 64 (map want_entry ws)) s.split
    ∙ ap (keep_last 64) (map-append want_entry (named_before t (64 * before)) (word_wants words))
    ∙ keep_last-end 64 (map want_entry (named_before t (64 * before))) (word_entries words)
    (omega (arith, enough, counted, length-map (word_wants words) want_entry)))

-- where a table has many wants, they alone are kept
pub many-kept : (words : List WantWord) (older newer old : List Entry) (t : WantsValue) → older ≡ [] → newer ≡ []
    → keep_last 64 (word_entries words) ≡ keep_last 64 (map want_entry (named t)) → 64 ≤ length (named t)
    → kept_last words older newer ≡ kept old (named t)
many-kept words older newer old t none no_more is many =
    let es = map want_entry (named t) in
    (λ i. keep_last 64 ((word_entries words ++ none i) ++ no_more i))
    ∙ ap (keep_last 64) (append-nil (word_entries words ++ []) ∙ append-nil (word_entries words)) ∙ is
    ∙ sym (keep_last-end 64 old es (omega (arith, many, length-map (named t) want_entry)))
