-- What follows where a direction is conserved: what was given and what waits make up the whole.
use Rattle.std.proofs.Common.{◌≡◌, ℕ, ◌≤◌, Bool, true, false, ◌&&◌, if◌then◌else◌, List, [], ◌++◌, length, take, drop, None, is_none, refl}
use Rattle.std.proofs.Common.{sym, ◌∙◌, ap, subst, append_assoc}
use Rattle.std.proofs.lemmas.List.{append-nil, take-append-drop, take-take}
use Rattle.std.proofs.lemmas.List.Elements.{All-contains}
use Rattle.std.proofs.Math.Seq.{take-length}
use Rattle.relay_model.specs.Trace.{moved_at_free}
use Rattle.filter_model.specs.Filter.{Filter}
use Rattle.filter_model.specs.FilterLaws.{IsPrefixOf, PrefixLaw, more, more_at_end}
use Rattle.relay_model.specs.Flow.{Flow, Fits, middle, outcome, input, output, raw_output, passed}
use Rattle.relay_model.specs.Conserved.{left}
use Rattle.relay_model.specs.ConservedLaws.{GivenBegins, AllIsThere, RestAfterFree, adds, ends_well, write_adds}
use Rattle.filter_model.proofs.ListLemmas.{IsPrefixOf-append, IsPrefixOf-rest, IsPrefixOf-trans}

-- what a filter made and what it adds is what it makes of all
pub before-more : (f : Filter) → PrefixLaw f → (xs ys : List ℕ) → f.before xs ++ more f xs ys ≡ f.before (xs ++ ys)
before-more f law xs ys = IsPrefixOf-rest (f.before xs) (f.before (xs ++ ys)) (law.grows xs ys)

pub before-more_at_end : (f : Filter) → PrefixLaw f → (xs ys : List ℕ) → f.before xs ++ more_at_end f xs ys ≡ f.at_end (xs ++ ys)
before-more_at_end f law xs ys = IsPrefixOf-rest (f.before xs) (f.at_end (xs ++ ys)) (IsPrefixOf-trans _ _ _ (law.grows xs ys)
    (law.ends (xs ++ ys)))

pub before-adds : (f : Filter) → PrefixLaw f → (ends : Bool) (xs ys zs : List ℕ) → xs ++ ys ≡ zs → f.before xs ++ adds f false ends
    xs ys ≡ (if ends then f.at_end zs else f.before zs)
before-adds f law true xs ys zs e = before-more_at_end f law xs ys ∙ ap f.at_end e
before-adds f law false xs ys zs e = before-more f law xs ys ∙ ap f.before e

-- two neighbouring buffers behind what stands before them
pub take-drop-drop : (v m : ℕ) (xs : List ℕ) → v ≤ m → take v xs ++ drop v (take m xs) ≡ take m xs
take-drop-drop v m xs h = ap (λ z. z ++ drop v (take m xs)) (sym (take-take v m xs h)) ∙ take-append-drop v (take m xs)

-- the read filter's part of the whole
read_whole : (r : Filter) → PrefixLaw r → (read : List ℕ) (ended done : Bool) (used : ℕ) →
    (done ≡ true → (ended ≡ true) × (used ≡ length read) × (r.bad_at_end read ≡ None)) →
    (if done then r.at_end (take used read) else r.before (take used read)) ++ adds r done (ends_well r ended read)
    (take used read) (drop used read)
    ≡ (if ends_well r ended read then r.at_end read else r.before read)
read_whole r law read ended false used h = before-adds r law (ends_well r ended read) (take used read) (drop used read) read
    (take-append-drop used read)
read_whole r law read ended true used h =
    append-nil (r.at_end (take used read))
    ∙ ap r.at_end (ap (λ n. take n read) (h refl).1 ∙ take-length read)
    ∙ ap (λ b. if b then r.at_end read else r.before read) (sym (ends_at_good_end r ended read (h refl).0 (h refl).2))
  where
    ends_at_good_end : (r : Filter) (ended : Bool) (read : List ℕ) → ended ≡ true → r.bad_at_end read ≡ None → ends_well r ended read ≡ true
    ends_at_good_end r ended read e good = ap (λ b. b && is_none (r.bad_at_end read)) e ∙ ap is_none good

-- the write filter's part of the whole
write_whole : (w : Filter) → PrefixLaw w → (ends done : Bool) (turned moved : ℕ) (xs rest : List ℕ) → turned ≤ moved →
    (done ≡ true → (turned ≡ moved) × (moved ≡ length xs) × (rest ≡ []) × (ends ≡ true)) →
    (if done then w.at_end (take turned xs) else w.before (take turned xs)) ++ adds w done ends (take turned xs)
    (drop turned (take moved xs) ++ (drop moved xs ++ rest))
    ≡ (if ends then w.at_end (xs ++ rest) else w.before (xs ++ rest))
write_whole w law ends false turned moved xs rest le h =
    before-adds w law ends (take turned xs) (drop turned (take moved xs) ++ (drop moved xs ++ rest)) (xs ++ rest)
    (sym (append_assoc (take turned xs) (drop turned (take moved xs)) (drop moved xs ++ rest))
    ∙ ap (λ z. z ++ (drop moved xs ++ rest)) (take-drop-drop turned moved xs le)
    ∙ sym (append_assoc (take moved xs) (drop moved xs) rest)
    ∙ ap (λ z. z ++ rest) (take-append-drop moved xs))
write_whole w law ends true turned moved xs rest le h =
    append-nil (w.at_end (take turned xs))
    ∙ ap w.at_end (ap (λ n. take n xs) ((h refl).0 ∙ (h refl).1) ∙ take-length xs ∙ sym (append-nil xs) ∙ ap (λ z. xs ++ z)
    (sym (h refl).2))
    ∙ ap (λ b. if b then w.at_end (xs ++ rest) else w.before (xs ++ rest)) (sym (h refl).3)

module _ (r w : Filter) (r_law : PrefixLaw r) (w_law : PrefixLaw w) (read : List ℕ) (ended : Bool) (f : Flow)
    (fits : Fits r w read ended f) where
  -- what the filters still add, by the counts
  abbrev rest : List ℕ
  rest = adds r f.read_done (ends_well r ended read) (take f.used read) (drop f.used read)

  abbrev still : List ℕ
  still = adds w f.write_done (ends_well r ended read) (take f.turned (middle r read f)) (output r read f ++ (input r read f ++ rest))

  rest_of_done : f.read_done ≡ true → rest ≡ []
  rest_of_done done = ap (λ b. adds r b (ends_well r ended read) (take f.used read) (drop f.used read)) done

  ends_of_done : f.read_done ≡ true → ends_well r ended read ≡ true
  ends_of_done done = ap (λ b. b && is_none (r.bad_at_end read)) (fits.read_done done).0 ∙ ap is_none (fits.read_done done).2

  outcome-still : outcome r w read f ++ still ≡ (if ends_well r ended read then w.at_end (middle r read f ++ rest) else w.before
      (middle r read f ++ rest))
  outcome-still =
      write_whole w w_law (ends_well r ended read) f.write_done f.turned f.moved (middle r read f) rest fits.turned
      (λ done. let k = fits.write_done done in (k.1, k.2, rest_of_done k.0, ends_of_done k.0))

  both_ends : (ends : Bool) (xs : List ℕ) → xs ≡ (if ends then r.at_end read else r.before read) →
      (if ends then w.at_end xs else w.before xs) ≡ (if ends then w.at_end (r.at_end read) else w.before (r.before read))
  both_ends true xs e = ap w.at_end e
  both_ends false xs e = ap w.before e

  passed-by_end : (if ends_well r ended read then w.at_end (r.at_end read) else w.before (r.before read)) ≡ passed r w ended read
  passed-by_end = by_ended ended
    where
      by_ended : (b : Bool) → (if b && is_none (r.bad_at_end read) then w.at_end (r.at_end read) else w.before (r.before read)) ≡
          passed r w b read
      by_ended true = refl
      by_ended false = refl

  pub outcome-whole : outcome r w read f ++ still ≡ passed r w ended read
  outcome-whole =
      outcome-still
      ∙ both_ends (ends_well r ended read) (middle r read f ++ rest) (read_whole r r_law read ended f.read_done f.used fits.read_done)
      ∙ passed-by_end

  -- what was given and what waits make up the whole
  pub given-whole : take f.given (outcome r w read f) ++ (raw_output r w read f ++ still) ≡ passed r w ended read
  given-whole =
      sym (append_assoc (take f.given (outcome r w read f)) (raw_output r w read f) still)
      ∙ ap (λ z. z ++ still) (take-append-drop f.given (outcome r w read f))
      ∙ outcome-whole

pub given_begins : GivenBegins
given_begins r w t from read taken ended f r_law w_law c =
    subst (λ z. IsPrefixOf z (passed r w ended read)) (sym c.given)
    (IsPrefixOf-append (take f.given (outcome r w read f)) _ _ (given-whole r w r_law.prefix w_law.prefix read ended f c.fits))

pub all_is_there : AllIsThere
all_is_there read_name write_name r w t from read taken ended f b reader writer r_law w_law c h =
    ap (λ z. taken ++ (z.raw_output ++ write_adds r w ended read f z)) h.buffers
    ∙ ap (λ z. z ++ (raw_output r w read f ++ write_adds r w ended read f (left r w read true true f))) c.given
    ∙ given-whole r w r_law.prefix w_law.prefix read ended f c.fits

-- so many first bytes of what begins a list are those of the list
take-prefix : (n : ℕ) (xs ys : List ℕ) → n ≤ length xs → IsPrefixOf xs ys → take n xs ≡ take n ys
take-prefix n xs ys h p = ap (take n) (sym p) ∙ take-take n (length xs) ys h

-- the first moved bytes are those of what the read filter makes of all that was read
pub middle-first : (r : Filter) → PrefixLaw r → (read : List ℕ) (ended done : Bool) (used moved : ℕ) →
    (done ≡ true → (ended ≡ true) × (used ≡ length read) × (r.bad_at_end read ≡ None)) →
    moved ≤ length (if done then r.at_end (take used read) else r.before (take used read)) →
    take moved (if done then r.at_end (take used read) else r.before (take used read)) ≡ take moved
    (if ended then r.at_end read else r.before read)
middle-first r law read ended true used moved h le =
    ap (take moved) (ap r.at_end (ap (λ n. take n read) (h refl).1 ∙ take-length read) ∙ ap
    (λ b. if b then r.at_end read else r.before read) (sym (h refl).0))
middle-first r law read ended false used moved h le = take-prefix moved _ _ le (by_ended ended)
  where
    grows : IsPrefixOf (r.before (take used read)) (r.before read)
    grows = subst (λ z. IsPrefixOf (r.before (take used read)) (r.before z)) (take-append-drop used read)
        (law.grows (take used read) (drop used read))

    by_ended : (b : Bool) → IsPrefixOf (r.before (take used read)) (if b then r.at_end read else r.before read)
    by_ended true = IsPrefixOf-trans _ _ _ grows (law.ends read)
    by_ended false = grows

-- of an unfinished write filter: what it made and what it adds for the output is what it makes of all that was moved
pub outcome-moved : (w : Filter) → PrefixLaw w → (xs : List ℕ) (done : Bool) (turned moved given : ℕ) → done ≡ false → turned ≤ moved →
    (let made : List ℕ = if done then w.at_end (take turned xs) else w.before (take turned xs) in
    take given made ++ (drop given made ++ more w (take turned xs) (drop turned (take moved xs))) ≡ w.before (take moved xs))
outcome-moved w law xs true turned moved given h le = absurd (cc)
outcome-moved w law xs false turned moved given h le =
    let made : List ℕ = w.before (take turned xs) in
    let rest : List ℕ = more w (take turned xs) (drop turned (take moved xs)) in
    sym (append_assoc (take given made) (drop given made) rest)
    ∙ ap (λ z. z ++ rest) (take-append-drop given made)
    ∙ before-more w law (take turned xs) (drop turned (take moved xs))
    ∙ ap w.before (take-drop-drop turned moved xs le)

pub rest_after_free : RestAfterFree
rest_after_free r w t from read taken ended f moved r_law w_law c told open_still =
    let same : moved ≡ f.moved = All-contains (λ n. n ≡ f.moved) (moved_at_free from t) moved c.side_freed told in
    ap (λ z. z ++ (raw_output r w read f ++ more w (take f.turned (middle r read f)) (output r read f))) c.given
    ∙ outcome-moved w w_law.prefix (middle r read f) f.write_done f.turned f.moved f.given open_still c.fits.turned
    ∙ ap w.before (middle-first r r_law.prefix read ended f.read_done f.used f.moved c.fits.read_done c.fits.moved)
    ∙ ap (λ n. w.before (take n (if ended then r.at_end read else r.before read))) (sym same)
