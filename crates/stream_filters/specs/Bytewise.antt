-- Filters that give for each byte something of its own, whatever was before it: they obey the laws, so that one's own filter of that
-- kind needs no proof of them. An impl takes the proofs of its laws from `specs/`.
use Rattle.std.specs.Prelude.{◌≡◌, ◌≤◌, ◌<◌, ◌+◌, ℕ, List, ◌++◌, length, take, drop}
use Rattle.std.specs.List.{flat_map}
use Rattle.std.proofs.Common.{refl, sym, ◌∙◌}
use Rattle.std.proofs.Math.Seq.{drop-append_seam}
use Rattle.std.proofs.lemmas.Grind.{flat_map-append}
use Rattle.std.proofs.lemmas.Option.{none-some}
use Rattle.filter_model.specs.Filter.{Filter, never}
use Rattle.filter_model.specs.FilterLaws.{PrefixLaw, BadLaw, more}
use Rattle.filter_model.proofs.ListLemmas.{IsPrefixOf-append, IsPrefixOf-same}
use Rattle.stream_filters.specs.StreamSteps.{Reached, IsStreamFilter}

-- the filter that gives this for each byte
abbrev pub bytewise : (ℕ → List ℕ) → Filter
bytewise give = record { before = flat_map give; at_end = flat_map give; bad = never; bad_at_end = never; since = 0 }

-- What a step of it did that used so many bytes: what they give was appended, the target was below the limit before each of them, and
-- if it didn't use all, the target is at the limit.
pub record GivesBytes (give : ℕ → List ℕ) (limit : ℕ) (src target filled : List ℕ) (used : ℕ) : Type 0 where
  pub within : used ≤ length src
  pub appended : filled ≡ target ++ flat_map give (take used src)
  pub below : (count : ℕ) → count < used → length target + length (flat_map give (take count src)) < limit
  pub stops : used < length src → limit ≤ length filled

pub more-bytewise : (give : ℕ → List ℕ) (xs ys : List ℕ) → more (bytewise give) xs ys ≡ flat_map give ys
more-bytewise give xs ys =
    (λ i. drop (length (flat_map give xs)) (flat_map-append give xs ys i))
    ∙ drop-append_seam (flat_map give xs) (flat_map give ys)

bytewise-prefix : (give : ℕ → List ℕ) → PrefixLaw (bytewise give)
bytewise-prefix give = record {
  empty = refl;
  grows = λ xs ys. IsPrefixOf-append (flat_map give xs) (flat_map give ys) (flat_map give (xs ++ ys)) (sym (flat_map-append give xs ys));
  ends = λ xs. IsPrefixOf-same (flat_map give xs);
}

bytewise-badness : (give : ℕ → List ℕ) → BadLaw (bytewise give)
bytewise-badness give = record {
  is_there = λ xs place e. absurd (none-some place e);
  shows = λ xs place e. e;
  stays = λ xs ys place e. e;
  stops = λ xs place e. absurd (none-some place e);
  bad_at_end = λ xs place e. e;
  stops_at_end = λ xs place e. refl;
}

-- a filter that counts the bytes that it used obeys the laws
pub bytewise_is_lawful : {S : Type 0} (give : ℕ → List ℕ) (reached : S → Reached) (known : S → List ℕ → Type 0) →
    ((x : S) (xs : List ℕ) → known x xs → (reached x).used ≡ length xs) → IsStreamFilter (λ _. bytewise give) reached known
bytewise_is_lawful give reached known counted = record {
  prefix = λ x. bytewise-prefix give;
  badness = λ x. bytewise-badness give;
  counted = counted;
  good = λ x xs a. refl;
  cut = λ x xs zs a b. record {
    adds = λ ys. more-bytewise give xs ys ∙ sym (more-bytewise give zs ys);
    adds_at_end = λ ys. more-bytewise give xs ys ∙ sym (more-bytewise give zs ys);
    bad = λ ys. refl;
    bad_at_end = λ ys. refl;
  };
}
