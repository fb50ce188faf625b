-- Each part of a round, and the read filter's run over what was got: over the buffers alone they are the model's, on the plain state.
use Rattle.std.proofs.Common.{◌≡◌, ℕ, ◌*◌, ◌<◌, Bool, true, false, length, List, refl, sym, ◌∙◌, ap, subst, arith}
use Rattle.std.specs.Prelude.{is_some}
use Rattle.std.proofs.Math.Bool.{or-false}
use Rattle.ev_types.specs.declared.side.SideId.{SideId}
use Rattle.ev_types.specs.Sides.{number, peer}
use Rattle.ev_types.specs.Trace.{Trace}
use Rattle.relay_model.specs.Trace.{bytes_read, has_ended}
use Rattle.relay_model.specs.Settings.{Settings}
use Rattle.filter_model.specs.Filter.{Filter, or_else}
use Rattle.relay_model.specs.Flow.{Flow, Fits}
use Rattle.relay_model.specs.Plain.{Plain, PlainSide, side_at, flow_at, put_side, put_flow, change_side, is_live}
use Rattle.relay_model.specs.Past.{Past, past}
use Rattle.relay_model.specs.Rooms.{read_kind, write_kind, read_filter, write_filter, read_mark, hold_mark}
use Rattle.relay_model.specs.Pass.{with_held, with_used, read_place, with_read_done, with_moved, with_turned, write_place, with_write_done}
use Rattle.relay_model.specs.Round.{Part, meets, read_run, write_run, do_part}
use Rattle.relay_model.specs.Stands.{DirectionAccounted}
use Rattle.relay_model.proofs.TotalLemmas.{NeedsLive}
use Rattle.relay_state.specs.Passage.{Passage, hold_part, read_part, move_part, write_part, pass_part}
use Rattle.relay_state.specs.Passing.{with_bad, plain_passed}
use Rattle.relay_steps.specs.Meaning.{LaneFits}
use Rattle.relay_steps.proofs.EndLemmas.{number-below}
use Rattle.relay_steps.proofs.FitLemmas.{Sight, sight, FitsSight, fits-seen, flow-put}
use Rattle.relay_steps.proofs.PassedLemmas.{put_flow-twice, passed-flow, passed-near, passed-far, passed-flow_alone, passed-from, passed-to}
use Rattle.relay_steps.proofs.PassageMoves.{Carries, hold-flow, hold-carries, MovedAs, moves-as}
use Rattle.relay_steps.proofs.PassageReads.{ReadAs, reads-as}
use Rattle.relay_steps.proofs.PassageWrites.{WrittenAs, writes-as}

-- a passage is the direction that begins at a side, and its lane fits
pub record PassageFits (g : Settings) (t : Trace) (p : Plain) (e : SideId) (x : Passage) : Type 0 where
  pub flow : flow_at p e ≡ x.flow
  pub from_bad : (side_at p e).bad ≡ x.from_bad
  pub to_bad : (side_at p (peer e)).bad ≡ x.to_bad
  pub lane : LaneFits g t p e x.lane

-- what the direction from a side carries
abbrev pub CarriesAt : Settings → Trace → Plain → SideId → Passage → Type 0
CarriesAt g t p e x = Carries (read_kind g e.side) (write_kind g (peer e).side) (bytes_read e t) (has_ended e t) (is_live p e)
    (is_live p (peer e)) x

pub fits-carries : (g : Settings) (t : Trace) (p : Plain) (e : SideId) (x : Passage) → PassageFits g t p e x → CarriesAt g t p e x
fits-carries g t p e x k =
    subst (CarriesAt g t p e) (λ i. record { flow = k.flow i; lane = x.lane; from_bad = k.from_bad i; to_bad = k.to_bad i }) here
  where
    here : CarriesAt g t p e (record {
      flow = flow_at p e;
      lane = x.lane;
      from_bad = (side_at p e).bad;
      to_bad = (side_at p (peer e)).bad;
    })
    here = (let l = k.lane in record {
      holds = l.holds;
      read = l.read;
      read_made = l.read_made;
      write_made = l.write_made;
      reader_marks = l.reader_marks;
      writer_marks = l.writer_marks;
    })

-- a direction that carries what it should fits the plain state with it
pub carries-fits : (g : Settings) (t : Trace) (p : Plain) (e : SideId) (x : Passage) →
    number e < length p.sides → number (peer e) < length p.sides → number e < length p.flows → CarriesAt g t p e x →
    PassageFits g t (plain_passed e x p) e x
carries-fits g t p e x near_in far_in flow_in c = record {
  flow = passed-flow e x p flow_in;
  from_bad = ap (λ (z : PlainSide). z.bad) (passed-near e x p near_in);
  to_bad = ap (λ (z : PlainSide). z.bad) (passed-far e x p far_in);
  lane = fits-seen g t (plain_passed e x p) p e x.lane (subst (λ z. FitsSight g p e z x.lane) (sym seen) there);
}
  where
    at : Sight
    at = record {
      read = bytes_read e t;
      ended = has_ended e t;
      from_live = is_live p e;
      to_live = is_live p (peer e);
      flow = x.flow;
      from_marked = is_some x.from_bad;
      to_marked = is_some x.to_bad;
    }

    seen : sight t (plain_passed e x p) e ≡ at
    seen =
        let a = passed-near e x p near_in in
        let b = passed-far e x p far_in in
        let f = passed-flow e x p flow_in in
        λ i. record {
          read = bytes_read e t;
          ended = has_ended e t;
          from_live = (a i).live;
          to_live = (b i).live;
          flow = f i;
          from_marked = is_some (a i).bad;
          to_marked = is_some (b i).bad;
        }

    there : FitsSight g p e at x.lane
    there = record {
      holds = c.holds;
      read = c.read;
      read_made = c.read_made;
      write_made = c.write_made;
      reader_marks = c.reader_marks;
      writer_marks = c.writer_marks;
    }

-- The parts

module _ (g : Settings) (t : Trace) (p : Plain) (e : SideId) (lt : e.link < p.opened) (sides : length p.sides ≡ 2 * p.opened)
    (flows : length p.flows ≡ 2 * p.opened)
    (accounted : DirectionAccounted g t p e) (told : (side_at p e).ended ≡ has_ended e t) (to_live : is_live p (peer e) ≡ true) where
  abbrev P : Past
  P = past g t

  abbrev r : Filter
  r = read_filter g p e

  abbrev w : Filter
  w = write_filter g p (peer e)

  abbrev bytes : List ℕ
  bytes = bytes_read e t

  abbrev mark : ℕ
  mark = read_mark p e

  abbrev hold : ℕ
  hold = hold_mark g p (peer e)

  near_in : number e < length p.sides
  near_in = let a = number-below e p.opened lt in omega (arith, sides, a)

  far_in : number (peer e) < length p.sides
  far_in = let a = number-below (peer e) p.opened lt in omega (arith, sides, a)

  flow_in : number e < length p.flows
  flow_in = let a = number-below e p.opened lt in omega (arith, flows, a)

  module _ (x : Passage) (k : PassageFits g t p e x) where
    fits : Fits r w bytes (has_ended e t) x.flow
    fits = subst (Fits r w bytes (has_ended e t)) k.flow accounted.fits

    -- what it carries, where these of the sides live
    carries : (from : Bool) → is_live p e ≡ from →
        Carries (read_kind g e.side) (write_kind g (peer e).side) bytes (has_ended e t) from true x
    carries from h = subst (λ (b : Bool). Carries (read_kind g e.side) (write_kind g (peer e).side) bytes (has_ended e t) b true x) h
        (subst (λ (b : Bool). Carries (read_kind g e.side) (write_kind g (peer e).side) bytes (has_ended e t) (is_live p e) b x) to_live
        (fits-carries g t p e x k))

    carried : (from : Bool) (y : Passage) → is_live p e ≡ from →
        Carries (read_kind g e.side) (write_kind g (peer e).side) bytes (has_ended e t) from true y → CarriesAt g t p e y
    carried from y h c = subst
        (λ (b : Bool). Carries (read_kind g e.side) (write_kind g (peer e).side) bytes (has_ended e t) (is_live p e) b y) (sym to_live)
        (subst (λ (b : Bool). Carries (read_kind g e.side) (write_kind g (peer e).side) bytes (has_ended e t) b true y) (sym h) c)

    -- what a step of the plain state is, and that the direction fits it
    abbrev pub IsPassed : Plain → Passage → Type 0
    IsPassed q y = (q ≡ plain_passed e y p) × PassageFits g t q e y

    both : (q : Plain) (y : Passage) → q ≡ plain_passed e y p → CarriesAt g t p e y → IsPassed q y
    both q y h c = (h, subst (λ z. PassageFits g t z e y) (sym h) (carries-fits g t p e y near_in far_in flow_in c))

    hold-is : IsPassed (do_part g P e Part.Hold p) (hold_part hold x)
    hold-is =
        let c = carries (is_live p e) refl in
        both _ _
        ((λ i. put_flow e (with_held r w bytes hold (k.flow i)) p)
        ∙ ap (λ f. put_flow e f p)
        (hold-flow (read_kind g e.side) (write_kind g (peer e).side) bytes (has_ended e t) (is_live p e) hold x c)
        ∙ sym (passed-flow_alone e (hold_part hold x) p k.from_bad k.to_bad))
        (carried (is_live p e) _ refl
        (hold-carries (read_kind g e.side) (write_kind g (peer e).side) bytes (has_ended e t) (is_live p e) hold x c))

    module _ (from_live : is_live p e ≡ true) where
      move-is : IsPassed (do_part g P e Part.Move p) (move_part x)
      move-is =
          let m : MovedAs (read_kind g e.side) (write_kind g (peer e).side) bytes (has_ended e t) x (move_part x) =
          moves-as (read_kind g e.side) (write_kind g (peer e).side) bytes (has_ended e t) x fits (carries true from_live) in
          both _ _
          ((λ i. put_flow e (with_moved r bytes (k.flow i)) p) ∙ ap (λ f. put_flow e f p) m.flow
          ∙ sym (passed-flow_alone e (move_part x) p (k.from_bad ∙ sym m.from_bad) (k.to_bad ∙ sym m.to_bad)))
          (carried true _ from_live m.carries)

      module _ (over : Bool) (over_ended : over ≡ true → has_ended e t ≡ true) where
        abbrev new : Passage
        new = read_part (read_mark p e) over x

        as-read : ReadAs (read_kind g e.side) (write_kind g (peer e).side) bytes (has_ended e t) over over_ended true mark x new
        as-read = reads-as (read_kind g e.side) (write_kind g (peer e).side) bytes (has_ended e t) over over_ended true mark x fits
            (carries true from_live)

        abbrev used : Flow
        used = record (x.flow) { used = (read_part (read_mark p e) over x).flow.used }

        -- the model's run of the read filter
        run-is : read_run g P e over p ≡ change_side e (with_bad new.from_bad) (put_flow e used p)
        run-is =
            let a = as-read in
            (λ i. (let ran = put_flow e (with_used r bytes mark (k.flow i)) p in
            meets e (read_place r bytes mark over (flow_at ran e)) ran))
            ∙ (λ i. (let ran = put_flow e (a.used i) p in meets e (read_place r bytes mark over (flow_at ran e)) ran))
            ∙ (let s : PlainSide = side_at p e in let f = flow-put p e used flow_in in
            λ i. put_side e (record s { bad = or_else (k.from_bad i) (read_place r bytes mark over (f i)) }) (put_flow e used p))
            ∙ (let s : PlainSide = side_at p e in λ i. put_side e (record s { bad = a.place i }) (put_flow e used p))

        passed-read : (h : Flow) → h ≡ new.flow → put_flow e h (change_side e (with_bad new.from_bad) (put_flow e used p))
            ≡ plain_passed e new p
        passed-read h q =
            let s : PlainSide = with_bad new.from_bad (side_at p e) in
            ap (put_side e s) (put_flow-twice e used h p) ∙ (λ i. put_side e s (put_flow e (q i) p))
            ∙ sym (passed-from e new p (k.to_bad ∙ sym as-read.to_bad))

        pub got-is : over ≡ false → IsPassed (read_run g P e over p) new
        got-is o =
            let same : used ≡ new.flow =
            (let b = sym (or-false x.flow.read_done) in λ i. record used { read_done = b i })
            ∙ (λ i. with_read_done_by (sym o i)) ∙ as-read.done in
            both _ _
            (run-is ∙ (let s : PlainSide = with_bad new.from_bad (side_at p e) in λ i. put_side e s (put_flow e (same i) p))
            ∙ sym (passed-from e new p (k.to_bad ∙ sym as-read.to_bad)))
            (carried true _ from_live as-read.carries)
          where
            with_read_done_by : Bool → Flow
            with_read_done_by b = with_read_done r bytes mark b used

        read-is : (side_at p e).ended ≡ over → IsPassed (do_part g P e Part.Read p) new
        read-is o =
            both _ _
            ((λ i. (let ran = read_run g P e (o i) p in put_flow e (with_read_done r bytes mark (o i) (flow_at ran e)) ran))
            ∙ (λ i. (let ran = run-is i in put_flow e (with_read_done r bytes mark over (flow_at ran e)) ran))
            ∙ (let f = flow-put p e used flow_in in
            λ i. put_flow e (with_read_done r bytes mark over (f i)) (change_side e (with_bad new.from_bad) (put_flow e used p)))
            ∙ passed-read (with_read_done r bytes mark over used) as-read.done)
            (carried true _ from_live as-read.carries)

    module _ (may_end : Bool) (ends_live : may_end ≡ true → is_live p e ≡ true) where
      abbrev wrote : Passage
      wrote = write_part (hold_mark g p (peer e)) may_end x

      as-written : WrittenAs (read_kind g e.side) (write_kind g (peer e).side) bytes (has_ended e t) (is_live p e) hold may_end x wrote
      as-written =
          writes-as (read_kind g e.side) (write_kind g (peer e).side) bytes (has_ended e t) (is_live p e) hold may_end x ends_live fits
          (carries (is_live p e) refl)

      abbrev turned : Flow
      turned = record (x.flow) { turned = (write_part (hold_mark g p (peer e)) may_end x).flow.turned }

      -- the model's run of the write filter
      write_run-is : write_run g P e may_end p ≡ change_side (peer e) (with_bad wrote.to_bad) (put_flow e turned p)
      write_run-is =
          let a = as-written in
          (λ i. (let ran = put_flow e (with_turned r w bytes hold (k.flow i)) p in
          meets (peer e) (write_place r w bytes hold may_end (flow_at ran e)) ran))
          ∙ (λ i. (let ran = put_flow e (a.used i) p in meets (peer e) (write_place r w bytes hold may_end (flow_at ran e)) ran))
          ∙ (let s : PlainSide = side_at p (peer e) in let f = flow-put p e turned flow_in in
          λ i. put_side (peer e) (record s { bad = or_else (k.to_bad i) (write_place r w bytes hold may_end (f i)) })
          (put_flow e turned p))
          ∙ (let s : PlainSide = side_at p (peer e) in λ i. put_side (peer e) (record s { bad = a.place i }) (put_flow e turned p))

      passed-written : (h : Flow) → h ≡ wrote.flow → change_side (peer e) (with_bad wrote.to_bad) (put_flow e h p) ≡ plain_passed e wrote p
      passed-written h q =
          (let s : PlainSide = with_bad wrote.to_bad (side_at p (peer e)) in λ i. put_side (peer e) s (put_flow e (q i) p))
          ∙ sym (passed-to e wrote p (k.from_bad ∙ sym as-written.from_bad))

    drain-is : IsPassed (do_part g P e Part.Drain p) (write_part hold false x)
    drain-is =
        let live : false ≡ true → is_live p e ≡ true = (λ h. absurd (cc)) in
        let a = as-written false live in
        both _ _ (write_run-is false live ∙ passed-written false live (turned false live) a.done) (carried (is_live p e) _ refl a.carries)

    write-is : is_live p e ≡ true → IsPassed (do_part g P e Part.Write p) (write_part hold true x)
    write-is from_live =
        let live : true ≡ true → is_live p e ≡ true = (λ h. from_live) in
        let a = as-written true live in
        let f0 : Flow = turned true live in
        let s : PlainSide = with_bad (write_part hold true x).to_bad (side_at p (peer e)) in
        both _ _
        ((λ i. (let ran = write_run-is true live i in put_flow e (with_write_done r w bytes hold (flow_at ran e)) ran))
        ∙ (let f = flow-put p e f0 flow_in in
        λ i. put_flow e (with_write_done r w bytes hold (f i)) (put_side (peer e) s (put_flow e f0 p)))
        ∙ ap (put_side (peer e) s) (put_flow-twice e f0 (with_write_done r w bytes hold f0) p)
        ∙ passed-written true live (with_write_done r w bytes hold f0) a.done)
        (carried (is_live p e) _ refl a.carries)

    -- each part of a round
    pub part-is : (part : Part) → NeedsLive p e part →
        IsPassed (do_part g (past g t) e part p) (pass_part (read_mark p e) (hold_mark g p (peer e)) (side_at p e).ended part x)
    part-is Part.Hold h = hold-is
    part-is Part.Read h = read-is h (side_at p e).ended (λ o. sym told ∙ o) refl
    part-is Part.Move h = move-is h
    part-is Part.Write h = write-is h
    part-is Part.Drain h = drain-is

    -- the read filter's run over what was got
    pub read_run-is : is_live p e ≡ true → IsPassed (read_run g (past g t) e false p) (read_part (read_mark p e) false x)
    read_run-is h = got-is h false (λ o. absurd (cc)) refl
