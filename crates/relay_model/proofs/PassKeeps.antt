-- Each part of a round of passing keeps a direction accounted for.
use Rattle.std.proofs.Common.{◌≡◌, ℕ, zero, suc, ◌+◌, ◌-◌, ◌≤◌, Bool, true, false, ◌==◌, ◌&&◌, ◌||◌, not, if◌then◌else◌, List, [], length}
use Rattle.std.proofs.Common.{take, Option, Some, None, is_none, refl, subst, arith, eqb-true}
use Rattle.std.specs.Prelude.{nat_lt, nat_le, is_some}
use Rattle.std.proofs.lemmas.List.{length-drop}
use Rattle.ev_types.specs.declared.side.SideId.{SideId}
use Rattle.ev_types.specs.Trace.{Trace}
use Rattle.relay_model.specs.Trace.{moved_at_free}
use Rattle.filter_model.specs.Filter.{Filter, holds}
use Rattle.filter_model.specs.FilterLaws.{PrefixLaw}
use Rattle.relay_model.specs.Flow.{Flow, middle, input, output, raw_output}
use Rattle.relay_model.specs.Conserved.{Accounted, StandsStill, all_moved}
use Rattle.relay_model.specs.Pass.{read_stops, with_used, with_read_done, with_moved, with_held, write_stops, with_turned, with_write_done}
use Rattle.filter_model.specs.Stopping.{first_from, is_over}
use Rattle.relay_model.proofs.ConservedSteps.{accounted-used, accounted-read_done, accounted-moved, accounted-turned, accounted-write_done}
use Rattle.relay_model.proofs.ConservedSteps.{accounted-held}

-- a search from n on stops between n and its end
pub first_from-above : (stop : ℕ → Bool) (n left : ℕ) → n ≤ first_from stop n left
first_from-above stop n zero = omega arith
first_from-above stop n (suc left) = by_flag (first_from-above stop (n + 1) left) (stop n)
  where
    by_flag : n + 1 ≤ first_from stop (n + 1) left → (b : Bool) → n ≤ (if b then n else first_from stop (n + 1) left)
    by_flag rest true = omega arith
    by_flag rest false = omega arith

pub first_from-below : (stop : ℕ → Bool) (n left : ℕ) → first_from stop n left ≤ n + left
first_from-below stop n zero = omega arith
first_from-below stop n (suc left) = by_flag (first_from-below stop (n + 1) left) (stop n)
  where
    by_flag : first_from stop (n + 1) left ≤ n + 1 + left → (b : Bool) → (if b then n else first_from stop (n + 1) left) ≤ n + suc left
    by_flag rest true = omega arith
    by_flag rest false = omega arith

two_true : (a b : Bool) → (a && b) ≡ true → (a ≡ true) × (b ≡ true)
two_true true true h = (refl, refl)
two_true true false h = absurd (cc)
two_true false b h = absurd (cc)

three_true : (a b c : Bool) → (a && b && c) ≡ true → (a ≡ true) × (b ≡ true) × (c ≡ true)
three_true true true true h = (refl, refl, refl)
three_true true true false h = absurd (cc)
three_true true false c h = absurd (cc)
three_true false b c h = absurd (cc)

none_there : (o : Option ℕ) → is_none o ≡ true → o ≡ None
none_there None h = refl
none_there (Some x) h = absurd (cc)

-- at an end that is over nothing is bad
over-good : (f : Filter) (xs : List ℕ) (room : Bool) → is_over f xs room ≡ true → f.bad_at_end xs ≡ None
over-good f xs room h = none_there (f.bad_at_end xs) (two_true (is_none (f.bad_at_end xs)) (not (holds f xs) || room) h).0

none_or : (o : Option ℕ) → is_some o ≡ false → o ≡ None
none_or None h = refl
none_or (Some x) h = absurd (cc)

right_false : (a b : Bool) → (a || b) ≡ false → b ≡ false
right_false true b h = absurd (cc)
right_false false b h = h

-- a search that stops at a bad next byte goes over good bytes alone
pub first_from-good : (f : Filter) (xs : List ℕ) (stop : ℕ → Bool) → ((n : ℕ) → stop n ≡ false → f.bad (take (n + 1) xs) ≡ None) →
    (n left : ℕ) → f.bad (take n xs) ≡ None → f.bad (take (first_from stop n left) xs) ≡ None
first_from-good f xs stop next n zero good = good
first_from-good f xs stop next n (suc left) good = by_flag (first_from-good f xs stop next (n + 1) left) (stop n) refl
  where
    by_flag : (f.bad (take (n + 1) xs) ≡ None → f.bad (take (first_from stop (n + 1) left) xs) ≡ None) → (b : Bool) → stop n ≡ b →
        f.bad (take (if b then n else first_from stop (n + 1) left) xs) ≡ None
    by_flag rest true e = good
    by_flag rest false e = rest (next n e)

-- the read filter uses good bytes alone
pub used-good : (r : Filter) (read : List ℕ) (mark : ℕ) (f : Flow) → r.bad (take f.used read) ≡ None → r.bad
    (take (with_used r read mark f).used read) ≡ None
used-good r read mark f good =
    first_from-good r read (read_stops r read mark f)
    (λ n e. none_or _ (right_false (nat_le mark (length (input r read (record f { used = n })))) _ e))
    f.used (length read - f.used) good

-- so does the write filter
pub turned-good : (r w : Filter) (read : List ℕ) (hold : ℕ) (f : Flow) → w.bad (take f.turned (middle r read f)) ≡ None →
    w.bad (take (with_turned r w read hold f).turned (middle r read f)) ≡ None
turned-good r w read hold f good = by_held f.held
  where
    stop : ℕ
    stop = first_from (write_stops r w read hold f) f.turned (f.moved - f.turned)

    goes_on : w.bad (take stop (middle r read f)) ≡ None
    goes_on =
        first_from-good w (middle r read f) (write_stops r w read hold f)
        (λ n e. none_or _ (right_false (nat_le hold (length (raw_output r w read (record f { turned = n })))) _ e))
        f.turned (f.moved - f.turned) good

    by_held : (b : Bool) → w.bad (take (if b then f else record f { turned = stop }).turned (middle r read f)) ≡ None
    by_held true = good
    by_held false = goes_on

-- once the side is freed, a round lets what was moved stand still
pub drain-stands_still : (r w : Filter) (read : List ℕ) (hold : ℕ) (f : Flow) → StandsStill f
    (with_turned r w read hold (with_held r w read hold f))
drain-stands_still r w read hold f = by_held (with_held r w read hold f).held
  where
    now : Flow
    now = with_held r w read hold f

    by_held : (b : Bool) → StandsStill f (if b then now else record now {
      turned = first_from (write_stops r w read hold now)
          now.turned (now.moved - now.turned);
    })
    by_held true = record { moved = refl; read_done = refl; write_done = refl }
    by_held false = record { moved = refl; read_done = refl; write_done = refl }

module _ (r w : Filter) (t : Trace) (from : SideId) (read taken : List ℕ) (ended : Bool) (f : Flow)
    (c : Accounted r w t from read taken ended f) where
  pub used-keeps : PrefixLaw r → (mark : ℕ) → Accounted r w t from read taken ended (with_used r read mark f)
  used-keeps law mark = by_flag f.read_done refl
    where
      stop : ℕ
      stop = first_from (read_stops r read mark f) f.used (length read - f.used)

      above : f.used ≤ stop
      above = first_from-above (read_stops r read mark f) f.used (length read - f.used)

      below : stop ≤ f.used + (length read - f.used)
      below = first_from-below (read_stops r read mark f) f.used (length read - f.used)

      by_flag : (b : Bool) → f.read_done ≡ b → Accounted r w t from read taken ended (record f { used = stop })
      by_flag true e =
          let all = (c.fits.read_done e).1 in
          let a = above in let b = below in
          let same : f.used ≡ stop = omega arith in
          subst (λ n. Accounted r w t from read taken ended (record f { used = n })) same c
      by_flag false e =
          let k = c.fits.used in
          let a = above in let b = below in
          let same : f.used + (stop - f.used) ≡ stop = omega arith in
          subst (λ n. Accounted r w t from read taken ended (record f { used = n })) same
          (accounted-used r w t from read taken ended f c law (stop - f.used) e (omega (arith, length-drop f.used read)))

  pub read_done-keeps : PrefixLaw r → (mark : ℕ) → Accounted r w t from read taken ended (with_read_done r read mark ended f)
  read_done-keeps law mark = by_flag f.read_done refl _ refl
    where
      by_flag : (b : Bool) → f.read_done ≡ b → (x : Bool) → (ended && f.used == length read && is_over r read
          (nat_lt (length (input r read f)) mark)) ≡ x →
          Accounted r w t from read taken ended (record f { read_done = b || x })
      by_flag true e x h = subst (λ b. Accounted r w t from read taken ended (record f { read_done = b })) e c
      by_flag false e false h = subst (λ b. Accounted r w t from read taken ended (record f { read_done = b })) e c
      by_flag false e true h =
          let k = three_true ended (f.used == length read) (is_over r read (nat_lt (length (input r read f)) mark)) h in
          accounted-read_done r w t from read taken ended f c law e
          k.0 (eqb-true f.used (length read) k.1) (over-good r read (nat_lt (length (input r read f)) mark) k.2)

  -- the side lives: nothing was told of its free
  pub moved-keeps : moved_at_free from t ≡ [] → Accounted r w t from read taken ended (with_moved r read f)
  moved-keeps not_freed = by_test (not f.held && length (output r read f) == 0)
    where
      all_moved_now : (b : Bool) → f.write_done ≡ b → Accounted r w t from read taken ended (record f { moved = length (middle r read f) })
      all_moved_now true e = subst (λ n. Accounted r w t from read taken ended (record f { moved = n })) (c.fits.write_done e).2 c
      all_moved_now false e =
          let k = c.fits.moved in
          let same : f.moved + (length (middle r read f) - f.moved) ≡ length (middle r read f) = omega arith in
          subst (λ n. Accounted r w t from read taken ended (record f { moved = n })) same
          (accounted-moved r w t from read taken ended f c (length (middle r read f) - f.moved) e
          (omega (arith, length-drop f.moved (middle r read f))) not_freed)

      by_test : (b : Bool) → Accounted r w t from read taken ended (if b then record f { moved = length (middle r read f) } else f)
      by_test true = all_moved_now f.write_done refl
      by_test false = c

  pub held-keeps : (hold : ℕ) → Accounted r w t from read taken ended (with_held r w read hold f)
  held-keeps hold = accounted-held r w t from read taken ended f c _

  pub turned-keeps : PrefixLaw w → (hold : ℕ) → Accounted r w t from read taken ended (with_turned r w read hold f)
  turned-keeps law hold = by_held f.held
    where
      stop : ℕ
      stop = first_from (write_stops r w read hold f) f.turned (f.moved - f.turned)

      above : f.turned ≤ stop
      above = first_from-above (write_stops r w read hold f) f.turned (f.moved - f.turned)

      below : stop ≤ f.turned + (f.moved - f.turned)
      below = first_from-below (write_stops r w read hold f) f.turned (f.moved - f.turned)

      by_flag : (b : Bool) → f.write_done ≡ b → Accounted r w t from read taken ended (record f { turned = stop })
      by_flag true e =
          let all = (c.fits.write_done e).1 in
          let a = above in let b = below in
          let same : f.turned ≡ stop = omega arith in
          subst (λ n. Accounted r w t from read taken ended (record f { turned = n })) same c
      by_flag false e =
          let k = c.fits.turned in
          let a = above in let b = below in
          let same : f.turned + (stop - f.turned) ≡ stop = omega arith in
          subst (λ n. Accounted r w t from read taken ended (record f { turned = n })) same
          (accounted-turned r w t from read taken ended f c law (stop - f.turned) e (omega arith))

      by_held : (b : Bool) → Accounted r w t from read taken ended (if b then f else record f { turned = stop })
      by_held true = c
      by_held false = by_flag f.write_done refl

  pub write_done-keeps : PrefixLaw w → (hold : ℕ) → Accounted r w t from read taken ended (with_write_done r w read hold f)
  write_done-keeps law hold = by_held f.held
    where
      room : Bool
      room = nat_lt (length (raw_output r w read f)) hold

      by_flag : (b : Bool) → f.write_done ≡ b → (x : Bool) → (all_moved r read f && f.turned == f.moved && is_over w
          (middle r read f) room) ≡ x →
          Accounted r w t from read taken ended (record f { write_done = b || x })
      by_flag true e x h = subst (λ b. Accounted r w t from read taken ended (record f { write_done = b })) e c
      by_flag false e false h = subst (λ b. Accounted r w t from read taken ended (record f { write_done = b })) e c
      by_flag false e true h =
          let k = three_true (all_moved r read f) (f.turned == f.moved) (is_over w (middle r read f) room) h in
          let all = two_true f.read_done (f.moved == length (middle r read f)) k.0 in
          accounted-write_done r w t from read taken ended f c law e all.0
          (eqb-true f.turned f.moved k.1) (eqb-true f.moved (length (middle r read f)) all.1) (over-good w (middle r read f) room k.2)

      by_held : (b : Bool) → Accounted r w t from read taken ended
          (if b then f else record f {
            write_done = f.write_done || (all_moved r read f && f.turned == f.moved && is_over w
                (middle r read f) room);
          })
      by_held true = c
      by_held false = by_flag f.write_done refl _ refl
