-- The filters that are never bad obey the laws: what each adds depends on the last byte alone.
use Rattle.std.proofs.Common.{◌≡◌, ℕ, Bool, true, false, ◌&&◌, not, ◌==◌, ◌/◌, ◌%◌, if◌then◌else◌, List, [], ◌∷◌, ◌++◌, length, drop}
use Rattle.std.proofs.Common.{Option, Some, None, refl, sym, ◌∙◌, ap, subst, append_assoc}
use Rattle.std.proofs.Math.Seq.{drop-append_seam}
use Rattle.std.proofs.lemmas.List.{append-nil}
use Rattle.std.specs.List.{last_or}
use Rattle.std.specs.Prelude.{unwrap_or}
use Rattle.ev_types.specs.declared.filter.FilterKind.TheVariants as kind
use Rattle.filter_model.specs.Filter.{Filter, filter_of, CR, LF, crlf_after, to_lf, last_cr, hex_out, hex_digit}
use Rattle.filter_model.specs.FilterLaws.{PrefixLaw, BadLaw, CutLaw, IsFilter, LookAlike, last_of, more, more_at_end}
use Rattle.filter_model.proofs.ListLemmas.{IsPrefixOf-append, last_or-append}

-- a filter that is never bad, and whose further output is a function of the last byte alone
pub record IsLocal (f : Filter) : Type 0 where
  pub onward : Option ℕ → List ℕ → List ℕ
  pub to_end : Option ℕ → List ℕ → List ℕ
  pub first : f.since ≡ 0
  pub empty : f.before [] ≡ []
  pub appends : (xs ys : List ℕ) → f.before (xs ++ ys) ≡ f.before xs ++ onward (last_of xs) ys
  pub appends_at_end : (xs ys : List ℕ) → f.at_end (xs ++ ys) ≡ f.before xs ++ to_end (last_of xs) ys
  pub good : (xs : List ℕ) → f.bad xs ≡ None
  pub good_at_end : (xs : List ℕ) → f.bad_at_end xs ≡ None

-- what looks alike to a filter that began with the input has the same last byte
pub same_last : (f : Filter) (xs zs : List ℕ) → f.since ≡ 0 → LookAlike f xs zs → last_of xs ≡ last_of zs
same_last f xs zs e h = subst (λ n. last_of (drop n xs) ≡ last_of (drop n zs)) e h.last

prefix_of_local : (f : Filter) → IsLocal f → PrefixLaw f
prefix_of_local f l = record {
  empty = l.empty;
  grows = λ xs ys. IsPrefixOf-append (f.before xs) (l.onward (last_of xs) ys) _ (sym (l.appends xs ys));
  ends = λ xs. IsPrefixOf-append (f.before xs) (l.to_end (last_of xs) []) _ (sym (l.appends_at_end xs []) ∙ ap f.at_end (append-nil xs));
}

badness_of_local : (f : Filter) → IsLocal f → BadLaw f
badness_of_local f l = record {
  is_there = λ xs place h. absurd (let good = l.good xs in cc);
  shows = λ xs place h. absurd (let good = l.good xs in cc);
  stays = λ xs ys place h. absurd (let good = l.good xs in cc);
  stops = λ xs place h. absurd (let good = l.good xs in cc);
  bad_at_end = λ xs place h. absurd (let good = l.good xs in cc);
  stops_at_end = λ xs place h. absurd (let good = l.good_at_end xs in cc);
}

more_is : (f : Filter) (l : IsLocal f) (xs ys : List ℕ) → more f xs ys ≡ l.onward (last_of xs) ys
more_is f l xs ys = ap (drop (length (f.before xs))) (l.appends xs ys) ∙ drop-append_seam (f.before xs) (l.onward (last_of xs) ys)

more_at_end_is : (f : Filter) (l : IsLocal f) (xs ys : List ℕ) → more_at_end f xs ys ≡ l.to_end (last_of xs) ys
more_at_end_is f l xs ys = ap (drop (length (f.before xs))) (l.appends_at_end xs ys) ∙ drop-append_seam (f.before xs)
    (l.to_end (last_of xs) ys)

cut_of_local : (f : Filter) → IsLocal f → CutLaw f
cut_of_local f l = record {
  same = λ xs zs h ys. more_is f l xs ys ∙ ap (λ o. l.onward o ys) (same_last f xs zs l.first h) ∙ sym (more_is f l zs ys);
  same_at_end = λ xs zs h ys. more_at_end_is f l xs ys ∙ ap (λ o. l.to_end o ys) (same_last f xs zs l.first h) ∙ sym
      (more_at_end_is f l zs ys);
  same_bad = λ xs zs h ys. l.good (xs ++ ys) ∙ sym (l.good (zs ++ ys));
  same_bad_at_end = λ xs zs h ys. l.good_at_end (xs ++ ys) ∙ sym (l.good_at_end (zs ++ ys));
}

pub filter_of_local : (f : Filter) → IsLocal f → IsFilter f
filter_of_local f l = record { prefix = prefix_of_local f l; badness = badness_of_local f l; cut = cut_of_local f l }

pub none_local : IsLocal (filter_of kind.None)
none_local = record {
  onward = λ o ys. ys;
  to_end = λ o ys. ys;
  first = refl;
  empty = refl;
  appends = λ xs ys. refl;
  appends_at_end = λ xs ys. refl;
  good = λ xs. refl;
  good_at_end = λ xs. refl;
}

pub hex_out-append : (xs ys : List ℕ) → hex_out (xs ++ ys) ≡ hex_out xs ++ hex_out ys
hex_out-append [] ys = refl
hex_out-append (x ∷ xs) ys = ap (λ z. hex_digit (x / 16) ∷ hex_digit (x % 16) ∷ z) (hex_out-append xs ys)

pub hex_out_local : IsLocal (filter_of kind.HexOut)
hex_out_local = record {
  onward = λ o ys. hex_out ys;
  to_end = λ o ys. hex_out ys;
  first = refl;
  empty = refl;
  appends = hex_out-append;
  appends_at_end = hex_out-append;
  good = λ xs. refl;
  good_at_end = λ xs. refl;
}

-- the byte before the next, 0 for none
abbrev pub byte_of : Option ℕ → ℕ
byte_of o = unwrap_or o 0

pub crlf_after-append : (last : ℕ) (xs ys : List ℕ) → crlf_after last (xs ++ ys) ≡ crlf_after last xs ++ crlf_after
    (byte_of (last_or (Some last) xs)) ys
crlf_after-append last [] ys = refl
crlf_after-append last (x ∷ xs) ys =
    let made : List ℕ = if x == LF && not (last == CR) then CR ∷ LF ∷ [] else x ∷ [] in
    ap (λ z. made ++ z) (crlf_after-append x xs ys) ∙ sym (append_assoc made (crlf_after x xs)
    (crlf_after (byte_of (last_or (Some x) xs)) ys))

pub to_crlf-append : (xs ys : List ℕ) → crlf_after 0 (xs ++ ys) ≡ crlf_after 0 xs ++ crlf_after (byte_of (last_of xs)) ys
to_crlf-append [] ys = refl
to_crlf-append (x ∷ xs) ys = crlf_after-append 0 (x ∷ xs) ys

pub to_crlf_local : IsLocal (filter_of kind.ToCrlf)
to_crlf_local = record {
  onward = λ o ys. crlf_after (byte_of o) ys;
  to_end = λ o ys. crlf_after (byte_of o) ys;
  first = refl;
  empty = refl;
  appends = to_crlf-append;
  appends_at_end = to_crlf-append;
  good = λ xs. refl;
  good_at_end = λ xs. refl;
}

-- what to-lf adds for ys after a last byte, which it holds where that is CR
abbrev pub lf_after : Option ℕ → List ℕ → List ℕ
lf_after None ys = to_lf ys
lf_after (Some x) [] = []
lf_after (Some x) (y ∷ ys) = (if x == CR && not (y == LF) then x ∷ [] else []) ++ to_lf (y ∷ ys)

held_then : (b c : Bool) (x : ℕ) (z : List ℕ) → (if b && c then [] else x ∷ []) ++ z ≡ (if b then [] else x ∷ []) ++
    ((if b && not c then x ∷ [] else []) ++ z)
held_then true true x z = refl
held_then true false x z = refl
held_then false true x z = refl
held_then false false x z = refl

pub to_lf-append : (xs ys : List ℕ) → to_lf (xs ++ ys) ≡ to_lf xs ++ lf_after (last_of xs) ys
to_lf-append [] ys = refl
to_lf-append (x ∷ []) [] = sym (append-nil (to_lf (x ∷ [])))
to_lf-append (x ∷ []) (y ∷ ys) = held_then (x == CR) (y == LF) x (to_lf (y ∷ ys))
to_lf-append (x ∷ y ∷ xs) ys =
    let made : List ℕ = if x == CR && y == LF then [] else x ∷ [] in
    ap (λ z. made ++ z) (to_lf-append (y ∷ xs) ys) ∙ sym (append_assoc made (to_lf (y ∷ xs)) (lf_after (last_of (y ∷ xs)) ys))

-- the CR that a last byte is
abbrev pub cr_of : Option ℕ → List ℕ
cr_of None = []
cr_of (Some x) = if x == CR then x ∷ [] else []

pub last_cr-last : (xs : List ℕ) → last_cr xs ≡ cr_of (last_of xs)
last_cr-last [] = refl
last_cr-last (x ∷ []) = refl
last_cr-last (x ∷ y ∷ ys) = last_cr-last (y ∷ ys)

pub to_lf_local : IsLocal (filter_of kind.ToLf)
to_lf_local = record {
  onward = lf_after;
  to_end = λ o ys. lf_after o ys ++ cr_of (last_or o ys);
  first = refl;
  empty = refl;
  appends = to_lf-append;
  appends_at_end = λ xs ys.
      ap (λ z. z ++ last_cr (xs ++ ys)) (to_lf-append xs ys)
      ∙ ap (λ z. (to_lf xs ++ lf_after (last_of xs) ys) ++ z) (last_cr-last (xs ++ ys) ∙ ap cr_of (last_or-append None xs ys))
      ∙ append_assoc (to_lf xs) (lf_after (last_of xs) ys) (cr_of (last_or (last_of xs) ys));
  good = λ xs. refl;
  good_at_end = λ xs. refl;
}
