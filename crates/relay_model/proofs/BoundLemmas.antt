-- How many bytes the buffers of a direction hold after each step of it.
use Rattle.std.proofs.Common.{◌≡◌, ℕ, zero, suc, ◌+◌, ◌-◌, ◌<◌, ◌≤◌, Bool, true, false, ◌==◌, ◌&&◌, ◌||◌, not, if◌then◌else◌, List, [], ◌∷◌}
use Rattle.std.proofs.Common.{◌++◌, length, take, drop, Option, Some, None, is_none, refl, sym, ◌∙◌, ap, subst, arith, length-append}
use Rattle.std.proofs.Common.{eqb-true}
use Rattle.std.specs.Prelude.{nat_lt, nat_le, is_some, bytes_eq}
use Rattle.std.proofs.lemmas.Bool.{and_parts, or_parts, leb-false, ltb-true}
use Rattle.std.proofs.lemmas.List.{length-drop, length-take-le, take_all}
use Rattle.std.proofs.lemmas.Slice.Eq.{bytes_eq-Decides}
use Rattle.std.proofs.Math.Seq.{take-add}
use Rattle.ev_types.specs.declared.filter.FilterKind.{FilterKind}
use Rattle.filter_model.specs.Filter.{Filter, filter_of, holds}
use Rattle.filter_model.specs.FilterLaws.{PrefixLaw, last_of, more, more_at_end}
use Rattle.filter_model.specs.FilterRun.{adds, end_adds}
use Rattle.relay_model.specs.Flow.{Flow, Fits, no_flow, middle, outcome, raw_input, input, output, raw_output}
use Rattle.relay_model.specs.Conserved.{all_moved}
use Rattle.relay_model.specs.Pass.{read_stops, with_used, with_read_done, with_moved, with_held, write_stops, with_turned, with_write_done}
use Rattle.filter_model.specs.Stopping.{first_from, is_over}
use Rattle.filter_model.proofs.EveryFilter.{every_filter}
use Rattle.relay_model.proofs.FlowSteps.{middle-used, middle-finished, middle-got, outcome-grown}
use Rattle.filter_model.proofs.FilterRunLemmas.{before-push, LooksAt}
use Rattle.relay_model.proofs.LookLemmas.{read-looks, write-looks}
use Rattle.filter_model.proofs.FilterFitLemmas.{adds-two, end-one}
use Rattle.filter_model.proofs.FilterEndLemmas.{at_end-adds}
use Rattle.relay_model.proofs.PassKeeps.{first_from-above, first_from-below}

-- Runs of filters

pub none_where : (o : Option ℕ) → is_some o ≡ false → o ≡ None
none_where None h = refl
none_where (Some x) h = absurd (cc)

-- a beginning that is one byte longer
pub record OneMore (n : ℕ) (xs : List ℕ) : Type 0 where
  pub byte : ℕ
  pub is : take (n + 1) xs ≡ take n xs ++ byte ∷ []

pub one-more : (n : ℕ) (xs : List ℕ) → n < length xs → OneMore n xs
one-more n xs lt = go (drop n xs) refl
  where
    go : (ys : List ℕ) → drop n xs ≡ ys → OneMore n xs
    go [] e = absurd (let k = ap length e in omega (arith, length-drop n xs))
    go (y ∷ ys) e = record { byte = y; is = take-add n 1 xs ∙ ap (λ z. take n xs ++ take 1 z) e }

-- a run passes its limit by at most one byte
run-bound : (k : FilterKind) (all : List ℕ) (gone limit most : ℕ) (stop : ℕ → Bool) → LooksAt k stop limit 0 gone all → limit ≤ most →
    (n left : ℕ) → n + left ≤ length all →
    length ((filter_of k).before (take n all)) ≤ gone + most + 1 →
    length ((filter_of k).before (take (first_from stop n left) all)) ≤ gone + most + 1
run-bound k all gone limit most stop looks le n zero fits h = h
run-bound k all gone limit most stop looks le n (suc left) fits h =
    go (λ next. run-bound k all gone limit most stop looks le (n + 1) left (omega arith) next) (stop n) refl
  where
    f : Filter
    f = filter_of k

    one : OneMore n all
    one = one-more n all (omega arith)

    go : (length (f.before (take (n + 1) all)) ≤ gone + most + 1 →
        length (f.before (take (first_from stop (n + 1) left) all)) ≤ gone + most + 1) →
        (b : Bool) → stop n ≡ b → length (f.before (take (if b then n else first_from stop (n + 1) left) all)) ≤ gone + most + 1
    go next true e = h
    go next false e =
        let parts = or_parts (nat_le limit (length (drop gone (f.before (take n all))) + 0)) (is_some (f.bad (take (n + 1) all)))
        (sym (looks n) ∙ e) in
        let below = leb-false limit (length (drop gone (f.before (take n all))) + 0) parts.0 in
        let good : f.bad (take n all ++ one.byte ∷ []) ≡ None = ap f.bad (sym one.is) ∙ none_where (f.bad (take (n + 1) all)) parts.1 in
        let made : f.before (take (n + 1) all) ≡ f.before (take n all) ++ adds k (length (take n all)) (last_of (take n all)) one.byte =
        ap f.before one.is ∙ before-push k (take n all) one.byte good in
        let size = ap length made in
        let two = adds-two k (length (take n all)) (last_of (take n all)) one.byte in
        let plus = length-append (f.before (take n all)) (adds k (length (take n all)) (last_of (take n all)) one.byte) in
        let left_over = length-drop gone (f.before (take n all)) in
        next (omega (arith, size, two, plus, left_over, below, le))

-- what an end adds is one byte, and none where no byte is held back
pub end-most : (k : FilterKind) (xs : List ℕ) → length ((filter_of k).at_end xs) ≤ length ((filter_of k).before xs) + 1
end-most k xs =
    let a = ap length (at_end-adds k xs) in
    let b = length-append ((filter_of k).before xs) (end_adds k (last_of xs)) in
    let c = end-one k (last_of xs) in omega (arith, a, b, c)

end-free : (f : Filter) (xs : List ℕ) → holds f xs ≡ false → f.at_end xs ≡ f.before xs
end-free f xs h =
    (bytes_eq-Decides (f.at_end xs) (f.before xs)).0
    (go (bytes_eq (f.at_end xs) (f.before xs))
    (or_parts (not (bytes_eq (f.at_end xs) (f.before xs))) (is_some (f.bad_at_end xs) && is_none (f.bad xs)) h).0)
  where
    go : (b : Bool) → not b ≡ false → b ≡ true
    go true e = refl
    go false e = absurd (cc)

-- an end that is over passes no limit that was kept
over-bound : (k : FilterKind) (xs : List ℕ) (gone limit most n : ℕ) (room : Bool) → limit ≤ most →
    n ≡ length ((filter_of k).before xs) - gone →
    room ≡ nat_lt n limit → is_over (filter_of k) xs room ≡ true →
    length ((filter_of k).before xs) ≤ gone + most + 1 → length ((filter_of k).at_end xs) ≤ gone + most + 1
over-bound k xs gone limit most n room le size is_room over h =
    go (holds (filter_of k) xs) refl (and_parts (is_none ((filter_of k).bad_at_end xs)) _ over).1
  where
    go : (b : Bool) → holds (filter_of k) xs ≡ b → (not b || room) ≡ true → length ((filter_of k).at_end xs) ≤ gone + most + 1
    go false e o = let same = ap length (end-free (filter_of k) xs e) in omega arith
    go true e o =
        let lt = ltb-true n limit (sym is_room ∙ o) in
        let one = end-most k xs in omega (arith, lt, one, size, le)

-- Bounds of a direction

-- Each buffer holds at most so many bytes: the raw input the mark, the input and the output one more, the raw output the hold
-- mark and one.
pub record Bounded (r w : Filter) (read : List ℕ) (mark hold : ℕ) (f : Flow) : Type 0 where
  pub raw : length read ≤ f.used + mark
  pub inp : length (middle r read f) ≤ f.moved + mark + 1
  pub out : f.moved ≤ f.turned + mark + 1
  pub raw_out : length (outcome r w read f) ≤ f.given + hold + 1

-- a direction of which nothing was read
pub bounded-first : (r w : Filter) (mark hold : ℕ) → PrefixLaw r → PrefixLaw w → Bounded r w [] mark hold no_flow
bounded-first r w mark hold law_r law_w = record {
  raw = omega arith;
  inp = let a = ap length law_r.empty in omega arith;
  out = omega arith;
  raw_out = let a = ap length law_w.empty in omega arith;
}

module _ (j k : FilterKind) (read : List ℕ) (ended : Bool) (most most_held : ℕ) (f : Flow)
    (fits : Fits (filter_of j) (filter_of k) read ended f) (b : Bounded (filter_of j) (filter_of k) read most most_held f) where
  abbrev r : Filter
  r = filter_of j

  abbrev w : Filter
  w = filter_of k

  law_r : PrefixLaw (filter_of j)
  law_r = (every_filter j).prefix

  pub used-bounded : (mark : ℕ) → mark ≤ most →
      Bounded (filter_of j) (filter_of k) read most most_held (with_used (filter_of j) read mark f)
  used-bounded mark le = by_flag f.read_done refl
    where
      stop : ℕ
      stop = first_from (read_stops r read mark f) f.used (length read - f.used)

      above : f.used ≤ stop
      above = first_from-above (read_stops r read mark f) f.used (length read - f.used)

      below : stop ≤ f.used + (length read - f.used)
      below = first_from-below (read_stops r read mark f) f.used (length read - f.used)

      now : Flow
      now = record f { used = stop }

      by_flag : (d : Bool) → f.read_done ≡ d → Bounded r w read most most_held now
      by_flag true e =
          let all = (fits.read_done e).1 in
          let same : f.used ≡ stop = omega (arith, above, below) in
          subst (λ n. Bounded r w read most most_held (record f { used = n })) same b
      by_flag false e =
          let same : f.used + (stop - f.used) ≡ stop = omega (arith, above) in
          let grown : middle r read now ≡ middle r read f ++ more r (take f.used read) (take (stop - f.used) (raw_input read f)) =
          subst (λ n. middle r read (record f { used = n }) ≡ middle r read f ++ more r (take f.used read)
          (take (stop - f.used) (raw_input read f))) same
          (middle-used r law_r read f (stop - f.used) e) in
          let before : length (r.before (take f.used read)) ≤ f.moved + most + 1 =
          subst (λ d. length (if d then r.at_end (take f.used read) else r.before (take f.used read)) ≤ f.moved + most + 1) e b.inp in
          let after : length (r.before (take stop read)) ≤ f.moved + most + 1 =
          run-bound j read f.moved mark most (read_stops r read mark f) (read-looks j read mark f e) le f.used (length read - f.used)
          (omega (arith, fits.used)) before in
          let made : outcome r w read now ≡ outcome r w read f =
          outcome-grown r w read read ended f fits stop f.read_done
          (more r (take f.used read) (take (stop - f.used) (raw_input read f))) grown in
          record {
            raw = let k = b.raw in omega (arith, above);
            inp =
                subst (λ d. length (if d then r.at_end (take stop read) else r.before (take stop read)) ≤ f.moved + most + 1)
                (sym e) after;
            out = b.out;
            raw_out = subst (λ z. length z ≤ f.given + most_held + 1) (sym made) b.raw_out;
          }

  pub read_done-bounded : (mark : ℕ) (has_ended : Bool) → mark ≤ most →
      Bounded (filter_of j) (filter_of k) read most most_held (with_read_done (filter_of j) read mark has_ended f)
  read_done-bounded mark has_ended le = by_flag f.read_done refl _ refl
    where
      room : Bool
      room = nat_lt (length (input r read f)) mark

      same : (x : Bool) → x ≡ f.read_done → Bounded r w read most most_held (record f { read_done = x })
      same x e = subst (λ d. Bounded r w read most most_held (record f { read_done = d })) (sym e) b

      by_flag : (d : Bool) → f.read_done ≡ d → (x : Bool) → (has_ended && f.used == length read && is_over r read room) ≡ x →
          Bounded r w read most most_held (record f { read_done = d || x })
      by_flag true e x h = same true (sym e)
      by_flag false e false h = same false (sym e)
      by_flag false e true h =
          let parts = and_parts (has_ended && f.used == length read) (is_over r read room) h in
          let all : f.used ≡ length read = eqb-true f.used (length read) (and_parts has_ended (f.used == length read) parts.0).1 in
          let whole : take f.used read ≡ read = take_all f.used read (omega arith) in
          let open_is : middle r read f ≡ r.before read =
          ap (λ d. if d then r.at_end (take f.used read) else r.before (take f.used read)) e ∙ ap r.before whole in
          let size : length (input r read f) ≡ length (r.before read) - f.moved = length-drop f.moved (middle r read f)
          ∙ ap (λ z. length z - f.moved) open_is in
          let before : length (r.before read) ≤ f.moved + most + 1 = subst (λ z. length z ≤ f.moved + most + 1) open_is b.inp in
          let after : length (r.at_end read) ≤ f.moved + most + 1 =
          over-bound j read f.moved mark most (length (input r read f)) room le size refl parts.1 before in
          let made : outcome r w read (record f { read_done = true }) ≡ outcome r w read f =
          outcome-grown r w read read ended f fits f.used true (more_at_end r (take f.used read) []) (middle-finished r law_r read f e) in
          record {
            raw = b.raw;
            inp = subst (λ z. length (r.at_end z) ≤ f.moved + most + 1) (sym whole) after;
            out = b.out;
            raw_out = subst (λ z. length z ≤ f.given + most_held + 1) (sym made) b.raw_out;
          }

  pub moved-bounded : Bounded (filter_of j) (filter_of k) read most most_held (with_moved (filter_of j) read f)
  moved-bounded = go (not f.held && length (output r read f) == 0) refl
    where
      go : (q : Bool) → (not f.held && length (output r read f) == 0) ≡ q →
          Bounded r w read most most_held (if q then record f { moved = length (middle r read f) } else f)
      go false e = b
      go true e =
          let none : length (output r read f) ≡ 0 =
          eqb-true (length (output r read f)) 0 (and_parts (not f.held) (length (output r read f) == 0) e).1 in
          let there = length-take-le f.moved (middle r read f) fits.moved in
          let left_over = length-drop f.turned (take f.moved (middle r read f)) in
          let k = b.inp in
          record {
            raw = b.raw;
            inp = omega arith;
            out = omega (arith, none, there, left_over, k);
            raw_out = b.raw_out;
          }

  pub held-bounded : (hold : ℕ) →
      Bounded (filter_of j) (filter_of k) read most most_held (with_held (filter_of j) (filter_of k) read hold f)
  held-bounded hold = record { raw = b.raw; inp = b.inp; out = b.out; raw_out = b.raw_out }

  pub turned-bounded : (hold : ℕ) → hold ≤ most_held →
      Bounded (filter_of j) (filter_of k) read most most_held (with_turned (filter_of j) (filter_of k) read hold f)
  turned-bounded hold le = by_held f.held
    where
      ys : List ℕ
      ys = middle r read f

      stop : ℕ
      stop = first_from (write_stops r w read hold f) f.turned (f.moved - f.turned)

      above : f.turned ≤ stop
      above = first_from-above (write_stops r w read hold f) f.turned (f.moved - f.turned)

      below : stop ≤ f.turned + (f.moved - f.turned)
      below = first_from-below (write_stops r w read hold f) f.turned (f.moved - f.turned)

      now : Flow
      now = record f { turned = stop }

      by_flag : (d : Bool) → f.write_done ≡ d → Bounded r w read most most_held now
      by_flag true e =
          let all = (fits.write_done e).1 in
          let same : f.turned ≡ stop = omega (arith, above, below) in
          subst (λ n. Bounded r w read most most_held (record f { turned = n })) same b
      by_flag false e =
          let before : length (w.before (take f.turned ys)) ≤ f.given + most_held + 1 =
          subst (λ d. length (if d then w.at_end (take f.turned ys) else w.before
          (take f.turned ys)) ≤ f.given + most_held + 1) e b.raw_out in
          let after : length (w.before (take stop ys)) ≤ f.given + most_held + 1 =
          run-bound k ys f.given hold most_held (write_stops r w read hold f) (write-looks r k read hold f e) le f.turned
          (f.moved - f.turned)
          (omega (arith, fits.turned, fits.moved)) before in
          record {
            raw = b.raw;
            inp = b.inp;
            out = let k = b.out in omega (arith, above);
            raw_out =
                subst (λ d. length (if d then w.at_end (take stop ys) else w.before (take stop ys)) ≤ f.given + most_held + 1)
                (sym e) after;
          }

      by_held : (q : Bool) → Bounded r w read most most_held (if q then f else now)
      by_held true = b
      by_held false = by_flag f.write_done refl

  pub write_done-bounded : (hold : ℕ) → hold ≤ most_held →
      Bounded (filter_of j) (filter_of k) read most most_held (with_write_done (filter_of j) (filter_of k) read hold f)
  write_done-bounded hold le = by_held f.held
    where
      ys : List ℕ
      ys = middle r read f

      room : Bool
      room = nat_lt (length (raw_output r w read f)) hold

      same : (x : Bool) → x ≡ f.write_done → Bounded r w read most most_held (record f { write_done = x })
      same x e = subst (λ d. Bounded r w read most most_held (record f { write_done = d })) (sym e) b

      by_flag : (d : Bool) → f.write_done ≡ d → (x : Bool) → (all_moved r read f && f.turned == f.moved && is_over w ys room) ≡ x →
          Bounded r w read most most_held (record f { write_done = d || x })
      by_flag true e x h = same true (sym e)
      by_flag false e false h = same false (sym e)
      by_flag false e true h =
          let parts = and_parts (all_moved r read f && f.turned == f.moved) (is_over w ys room) h in
          let first = and_parts (all_moved r read f) (f.turned == f.moved) parts.0 in
          let all : f.turned ≡ f.moved = eqb-true f.turned f.moved first.1 in
          let all_there : f.moved ≡ length ys = eqb-true f.moved (length ys) (and_parts f.read_done (f.moved == length ys) first.0).1 in
          let whole : take f.turned ys ≡ ys = take_all f.turned ys (omega arith) in
          let open_is : outcome r w read f ≡ w.before ys =
          ap (λ d. if d then w.at_end (take f.turned ys) else w.before (take f.turned ys)) e ∙ ap w.before whole in
          let size : length (raw_output r w read f) ≡ length (w.before ys) - f.given =
          length-drop f.given (outcome r w read f) ∙ ap (λ z. length z - f.given) open_is in
          let before : length (w.before ys) ≤ f.given + most_held + 1 =
          subst (λ z. length z ≤ f.given + most_held + 1) open_is b.raw_out in
          let after : length (w.at_end ys) ≤ f.given + most_held + 1 =
          over-bound k ys f.given hold most_held (length (raw_output r w read f)) room le size refl parts.1 before in
          record {
            raw = b.raw;
            inp = b.inp;
            out = b.out;
            raw_out = subst (λ z. length (w.at_end z) ≤ f.given + most_held + 1) (sym whole) after;
          }

      by_held : (q : Bool) → Bounded r w read most most_held
          (if q then f else record f { write_done = f.write_done || (all_moved r read f && f.turned == f.moved && is_over w ys room) })
      by_held true = b
      by_held false = by_flag f.write_done refl _ refl

  pub given-bounded : (n : ℕ) → Bounded (filter_of j) (filter_of k) read most most_held (record f { given = f.given + n })
  given-bounded n = record { raw = b.raw; inp = b.inp; out = b.out; raw_out = let k = b.raw_out in omega arith }

  -- more was read, within what the mark left
  pub got-bounded : (bytes : List ℕ) → length bytes + (length (raw_input read f) + length (input r read f)) ≤ most →
      Bounded (filter_of j) (filter_of k) (read ++ bytes) most most_held f
  got-bounded bytes le =
      let same : middle r (read ++ bytes) f ≡ middle r read f = middle-got r read bytes f fits.used in
      record {
        raw = let a = length-append read bytes in let c = length-drop f.used read in let d = fits.used in omega (arith, a, c, d, le);
        inp = subst (λ z. length z ≤ f.moved + most + 1) (sym same) b.inp;
        out = b.out;
        raw_out =
            subst (λ z. length (if f.write_done then w.at_end (take f.turned z) else w.before
            (take f.turned z)) ≤ f.given + most_held + 1) (sym same) b.raw_out;
      }
