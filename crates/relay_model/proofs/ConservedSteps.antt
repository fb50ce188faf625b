-- Each step of a direction keeps it accounted for.
use Rattle.std.proofs.Common.{◌≡◌, ℕ, ◌+◌, ◌<◌, ◌≤◌, Bool, true, false, if◌then◌else◌, List, [], ◌++◌, length, take, drop, None, is_none}
use Rattle.std.proofs.Common.{refl, sym, ◌∙◌, ap, subst, arith, length-append}
use Rattle.std.specs.Prelude.{All}
use Rattle.std.proofs.lemmas.List.{append-nil, take-append-drop, take-append-le, length-drop, length-take-le}
use Rattle.std.proofs.lemmas.List.Elements.{All-append}
use Rattle.std.proofs.Math.ListN.{drop_of_length-le}
use Rattle.std.proofs.Math.Seq.{take-add, take-length}
use Rattle.ev_types.specs.declared.side.SideId.{SideId}
use Rattle.ev_types.specs.Sides.{peer}
use Rattle.ev_types.specs.Trace.{Trace}
use Rattle.relay_model.specs.Trace.{moved_at_free, given_at_free, is_write_closed}
use Rattle.filter_model.specs.Filter.{Filter}
use Rattle.filter_model.specs.FilterLaws.{PrefixLaw}
use Rattle.relay_model.specs.Flow.{Flow, no_flow, middle, outcome, raw_input, input, raw_output}
use Rattle.relay_model.specs.Conserved.{Accounted, IsComplete}
use Rattle.relay_model.proofs.FlowSteps.{middle-used, middle-finished, middle-got, middle-done, outcome-grown, outcome-turned}
use Rattle.relay_model.proofs.FlowSteps.{outcome-finished, outcome-done}

-- a longer list has room for what the shorter had
longer : (n : ℕ) (xs ys z : List ℕ) → n ≤ length xs → ys ≡ xs ++ z → n ≤ length ys
longer n xs ys z h e = let k = ap length e in omega (arith, length-append xs z)

none_told : (P : ℕ → Type 0) (xs : List ℕ) → xs ≡ [] → All P xs
none_told P xs e = subst (All P) (sym e) (λ k d lt. absurd (omega arith))

-- a direction of which nothing was told yet
pub accounted-first : (r w : Filter) (t : Trace) (from : SideId) →
    moved_at_free from t ≡ [] → given_at_free (peer from) t ≡ [] → is_write_closed (peer from) t ≡ false → Accounted r w t from []
    [] false no_flow
accounted-first r w t from not_freed peer_not_freed not_closed = record {
  fits = record {
    used = omega arith;
    moved = omega arith;
    turned = omega arith;
    given = omega arith;
    read_done = λ done. absurd (cc);
    write_done = λ done. absurd (cc);
  };
  given = refl;
  side_freed = none_told (λ told. told ≡ 0) (moved_at_free from t) not_freed;
  peer_freed = none_told (λ told. told ≡ 0) (given_at_free (peer from) t) peer_not_freed;
  closed = λ closed. absurd (cc);
}

-- the same direction for a trace that tells more
pub accounted-told : (r w : Filter) (t t' : Trace) (from : SideId) (read taken : List ℕ) (ended : Bool) (f : Flow) (moved given : List ℕ) →
    Accounted r w t from read taken ended f →
    moved_at_free from t' ≡ moved_at_free from t ++ moved → All (λ told. told ≡ f.moved) moved →
    given_at_free (peer from) t' ≡ given_at_free (peer from) t ++ given → All (λ told. told ≡ f.given) given →
    (is_write_closed (peer from) t' ≡ true → IsComplete r w read taken f) →
    Accounted r w t' from read taken ended f
accounted-told r w t t' from read taken ended f moved given c moved_is all_moved given_is all_given closed = record {
  fits = c.fits;
  given = c.given;
  side_freed = subst (All (λ told. told ≡ f.moved)) (sym moved_is) (All-append (λ told. told ≡ f.moved) (moved_at_free from t)
      moved c.side_freed all_moved);
  peer_freed = subst (All (λ told. told ≡ f.given)) (sym given_is) (All-append (λ told. told ≡ f.given)
      (given_at_free (peer from) t) given c.peer_freed all_given);
  closed = closed;
}

module _ (r w : Filter) (t : Trace) (from : SideId) (read taken : List ℕ) (ended : Bool) (f : Flow)
    (c : Accounted r w t from read taken ended f) where
  -- while the write filter isn't finished, writing was not ended
  not_closed : {P : Type 0} → f.write_done ≡ false → is_write_closed (peer from) t ≡ true → P
  not_closed open_still closed = absurd (let k = (c.closed closed).write_done in cc)

  write_open : f.read_done ≡ false → f.write_done ≡ false
  write_open h = by_flag f.write_done refl
    where
      by_flag : (b : Bool) → f.write_done ≡ b → f.write_done ≡ false
      by_flag true e = absurd (let k = (c.fits.write_done e).0 in cc)
      by_flag false e = e

  read_open : ended ≡ false → f.read_done ≡ false
  read_open h = by_flag f.read_done refl
    where
      by_flag : (b : Bool) → f.read_done ≡ b → f.read_done ≡ false
      by_flag true e = absurd (let k = (c.fits.read_done e).0 in cc)
      by_flag false e = e

  -- what the read filter made grew
  grown : (read' : List ℕ) (ended' : Bool) (used' : ℕ) (done' : Bool) (z : List ℕ) → f.write_done ≡ false →
      middle r read' (record f { used = used'; read_done = done' }) ≡ middle r read f ++ z → used' ≤ length read' →
      (done' ≡ true → (ended' ≡ true) × (used' ≡ length read') × (r.bad_at_end read' ≡ None)) →
      Accounted r w t from read' taken ended' (record f { used = used'; read_done = done' })
  grown read' ended' used' done' z open_still e le finished =
      let same : outcome r w read' (record f { used = used'; read_done = done' }) ≡ outcome r w read f = outcome-grown r w read
      read' ended f c.fits used' done' z e in
      record {
        fits = record {
          used = le;
          moved = longer f.moved (middle r read f) _ z c.fits.moved e;
          turned = c.fits.turned;
          given = subst (λ y. f.given ≤ length y) (sym same) c.fits.given;
          read_done = finished;
          write_done = λ done. absurd (cc);
        };
        given = c.given ∙ ap (take f.given) (sym same);
        side_freed = c.side_freed;
        peer_freed = c.peer_freed;
        closed = not_closed open_still;
      }

  -- n more bytes were used by the read filter
  pub accounted-used : PrefixLaw r → (n : ℕ) → f.read_done ≡ false → n ≤ length (raw_input read f) → Accounted r w t from read
      taken ended (record f { used = f.used + n })
  accounted-used law n h le =
      grown read ended (f.used + n) f.read_done _ (write_open h) (middle-used r law read f n h)
      (let k = c.fits.used in omega (arith, length-drop f.used read)) (λ done. absurd (cc))

  -- the read filter finished, at a good end of all that will come
  pub accounted-read_done : PrefixLaw r → f.read_done ≡ false → ended ≡ true → f.used ≡ length read → r.bad_at_end read ≡ None →
      Accounted r w t from read taken ended (record f { read_done = true })
  accounted-read_done law h is_ended all_used good =
      grown read ended f.used true _ (write_open h) (middle-finished r law read f h) c.fits.used (λ done. (is_ended, all_used, good))

  -- more was read
  pub accounted-got : (bytes : List ℕ) → ended ≡ false → Accounted r w t from (read ++ bytes) taken ended f
  accounted-got bytes h =
      grown (read ++ bytes) ended f.used f.read_done [] (write_open (read_open h))
      (middle-got r read bytes f c.fits.used ∙ sym (append-nil (middle r read f)))
      (longer f.used read _ bytes c.fits.used refl) (λ done. absurd (let k = read_open h in cc))

  -- the side has ended
  pub accounted-ended : ended ≡ false → Accounted r w t from read taken true f
  accounted-ended h =
      grown read true f.used f.read_done [] (write_open (read_open h)) (sym (append-nil (middle r read f))) c.fits.used
      (λ done. absurd (let k = read_open h in cc))

  -- n bytes were moved, while the side was not freed
  pub accounted-moved : (n : ℕ) → f.write_done ≡ false → n ≤ length (input r read f) → moved_at_free from t ≡ [] →
      Accounted r w t from read taken ended (record f { moved = f.moved + n })
  accounted-moved n open_still le not_freed = record {
    fits = record {
      used = c.fits.used;
      moved = let k = c.fits.moved in omega (arith, length-drop f.moved (middle r read f));
      turned = let k = c.fits.turned in omega arith;
      given = c.fits.given;
      read_done = c.fits.read_done;
      write_done = λ done. absurd (cc);
    };
    given = c.given;
    side_freed = none_told (λ told. told ≡ f.moved + n) (moved_at_free from t) not_freed;
    peer_freed = c.peer_freed;
    closed = not_closed open_still;
  }

  -- what the write filter made grew
  outcome_grown : (turned' : ℕ) (done' : Bool) (z : List ℕ) → f.write_done ≡ false →
      outcome r w read (record f { turned = turned'; write_done = done' }) ≡ outcome r w read f ++ z → turned' ≤ f.moved →
      (done' ≡ true → (f.read_done ≡ true) × (turned' ≡ f.moved) × (f.moved ≡ length (middle r read f)) ×
      (w.bad_at_end (middle r read f) ≡ None)) →
      Accounted r w t from read taken ended (record f { turned = turned'; write_done = done' })
  outcome_grown turned' done' z open_still e le finished = record {
    fits = record {
      used = c.fits.used;
      moved = c.fits.moved;
      turned = le;
      given = longer f.given (outcome r w read f) _ z c.fits.given e;
      read_done = c.fits.read_done;
      write_done = finished;
    };
    given = c.given ∙ sym (take-append-le f.given (outcome r w read f) z c.fits.given) ∙ ap (take f.given) (sym e);
    side_freed = c.side_freed;
    peer_freed = c.peer_freed;
    closed = not_closed open_still;
  }

  -- n more bytes were used by the write filter
  pub accounted-turned : PrefixLaw w → (n : ℕ) → f.write_done ≡ false → f.turned + n ≤ f.moved → Accounted r w t from read taken
      ended (record f { turned = f.turned + n })
  accounted-turned law n h le =
      outcome_grown (f.turned + n) f.write_done _ h (outcome-turned r w law read f n le h) le (λ done. absurd (cc))

  -- the write filter finished, at a good end of all that will come
  pub accounted-write_done : PrefixLaw w → f.write_done ≡ false → f.read_done ≡ true → f.turned ≡ f.moved → f.moved ≡ length
      (middle r read f) →
      w.bad_at_end (middle r read f) ≡ None → Accounted r w t from read taken ended (record f { write_done = true })
  accounted-write_done law h read_done all_turned all_moved good =
      outcome_grown f.turned true _ h (outcome-finished r w law read f h) c.fits.turned (λ done. (read_done, all_turned, all_moved, good))

  pub accounted-held : (b : Bool) → Accounted r w t from read taken ended (record f { held = b })
  accounted-held b = record {
    fits = record {
      used = c.fits.used;
      moved = c.fits.moved;
      turned = c.fits.turned;
      given = c.fits.given;
      read_done = c.fits.read_done;
      write_done = c.fits.write_done;
    };
    given = c.given;
    side_freed = c.side_freed;
    peer_freed = c.peer_freed;
    closed = λ closed. (let k = c.closed closed in record {
      read_done = k.read_done;
      write_done = k.write_done;
      raw_input = k.raw_input;
      input = k.input;
      output = k.output;
      raw_output = k.raw_output;
      all = k.all;
    });
  }

  -- the peer's end took n bytes, while the peer was not freed
  pub accounted-given : (n : ℕ) → 0 < n → n ≤ length (raw_output r w read f) → given_at_free (peer from) t ≡ [] →
      Accounted r w t from read (taken ++ take n (raw_output r w read f)) ended (record f { given = f.given + n })
  accounted-given n some le not_freed = record {
    fits = record {
      used = c.fits.used;
      moved = c.fits.moved;
      turned = c.fits.turned;
      given = let k = c.fits.given in omega (arith, length-drop f.given (outcome r w read f));
      read_done = c.fits.read_done;
      write_done = c.fits.write_done;
    };
    given = ap (λ z. z ++ take n (raw_output r w read f)) c.given ∙ sym (take-add f.given n (outcome r w read f));
    side_freed = c.side_freed;
    peer_freed = none_told (λ told. told ≡ f.given + n) (given_at_free (peer from) t) not_freed;
    closed = λ closed. absurd (let k = ap length (c.closed closed).raw_output in omega arith);
  }

  -- both filters are finished and all was given: writing may be ended
  pub complete-finished : f.read_done ≡ true → f.write_done ≡ true → raw_output r w read f ≡ [] → IsComplete r w read taken f
  complete-finished read_done write_done none_left =
      let a = c.fits.read_done read_done in
      let b = c.fits.write_done write_done in
      let xs : List ℕ = middle r read f in
      record {
        read_done = read_done;
        write_done = write_done;
        raw_input = all_dropped f.used read a.1;
        input = all_dropped f.moved xs b.2;
        output = all_dropped f.turned (take f.moved xs) (b.1 ∙ sym (length-take-le f.moved xs c.fits.moved));
        raw_output = none_left;
        all =
            c.given
            ∙ sym (append-nil (take f.given (outcome r w read f)))
            ∙ ap (λ z. take f.given (outcome r w read f) ++ z) (sym none_left)
            ∙ take-append-drop f.given (outcome r w read f)
            ∙ outcome-done r w read f write_done
            ∙ ap w.at_end (ap (λ n. take n xs) (b.1 ∙ b.2) ∙ take-length xs ∙ middle-done r read f read_done ∙ ap r.at_end
            (ap (λ n. take n read) a.1 ∙ take-length read))
            ∙ ap (λ o. if is_none o then w.at_end (r.at_end read) else w.before (r.before read)) (sym a.2);
      }
    where
      all_dropped : (n : ℕ) (xs : List ℕ) → n ≡ length xs → drop n xs ≡ []
      all_dropped n xs e = drop_of_length-le xs (omega arith)
