-- One step of the read filter over the buffers alone is what the model's counts say of it.
use Rattle.std.proofs.Common.{◌≡◌, ℕ, ◌+◌, Bool, true, ◌&&◌, if◌then◌else◌, List, [], ◌++◌, length, take, refl, sym, ◌∙◌, ap, subst}
use Rattle.std.proofs.Common.{length-append}
use Rattle.std.specs.Prelude.{nat_eq}
use Rattle.std.proofs.lemmas.Bool.{and_parts}
use Rattle.std.proofs.lemmas.List.{append-nil, take-append-le}
use Rattle.ev_types.specs.declared.filter.FilterKind.{FilterKind}
use Rattle.filter_model.specs.Filter.{Filter, filter_of, or_else}
use Rattle.relay_model.specs.Flow.{Flow, Fits, middle, input, raw_input}
use Rattle.relay_model.specs.Conserved.{all_moved}
use Rattle.filter_model.specs.Running.{StandsAt}
use Rattle.filter_model.specs.FilterStep.{Stepped, stepped}
use Rattle.relay_model.specs.Pass.{with_used, read_place, with_read_done}
use Rattle.relay_model.proofs.FlowSteps.{raw_input-used, outcome-grown, input-grown, output-grown, raw_output-grown}
use Rattle.relay_state.specs.Passage.{Passage, read_part, read_by}
use Rattle.relay_steps.proofs.PassageRuns.{Turned, turned, stands-later, or_else-some}
use Rattle.relay_steps.proofs.PassageMoves.{Carries, in_counts, in_counts-same}

module _ (rk wk : FilterKind) (bytes : List ℕ) (ended over : Bool) (over_ended : over ≡ true → ended ≡ true) (to_live : Bool)
    (mark : ℕ) where
  abbrev r : Filter
  r = filter_of rk

  abbrev w : Filter
  w = filter_of wk

  -- what the step changes in the model's words, and what it keeps
  pub record ReadAs (x new : Passage) : Type 0 where
    pub used : with_used (filter_of rk) bytes mark x.flow ≡ record (x.flow) { used = new.flow.used }
    pub place : or_else x.from_bad (read_place (filter_of rk) bytes mark over (record (x.flow) { used = new.flow.used })) ≡ new.from_bad
    pub done : with_read_done (filter_of rk) bytes mark over (record (x.flow) { used = new.flow.used }) ≡ new.flow
    pub to_bad : new.to_bad ≡ x.to_bad
    pub carries : Carries rk wk bytes ended true to_live new

  module _ (x : Passage) (fits : Fits (filter_of rk) (filter_of wk) bytes ended x.flow)
      (c : Carries rk wk bytes ended true to_live x) where
    abbrev f : Flow
    f = x.flow

    abbrev y : Passage
    y = in_counts rk wk bytes true to_live x

    abbrev s : Stepped
    s = stepped x.lane.reader over mark (length (input (filter_of rk) bytes x.flow)) (raw_input bytes x.flow)

    step : Turned rk bytes mark f.moved f.used ended over f.read_done x.lane.reader (f.used + s.used) s
    step =
        turned rk bytes mark f.moved ended over over_ended x.lane.reader f.read_done f.used (c.holds.reads refl) fits.used
        (λ h. let k = fits.read_done h in (k.1, k.2)) fits.moved

    abbrev now : Flow
    now =
        let f = x.flow in
        let s = stepped x.lane.reader over mark (length (input (filter_of rk) bytes f)) (raw_input bytes f) in
        record f { used = f.used + s.used; read_done = s.after.finished }

    grown : middle r bytes now ≡ middle r bytes f ++ s.made
    grown = step.made

    -- all that was moved is as before, and if it was all that will come it still is
    moved_same : take f.moved (middle r bytes now) ≡ take f.moved (middle r bytes f)
    moved_same = ap (take f.moved) grown ∙ take-append-le f.moved (middle r bytes f) s.made fits.moved

    moved_still : all_moved r bytes f ≡ true → all_moved r bytes now ≡ true
    moved_still h =
        let k = and_parts f.read_done (nat_eq f.moved (length (middle r bytes f))) h in
        let q = step.rests k.0 in
        let same : middle r bytes now ≡ middle r bytes f = grown ∙ ap (λ z. middle r bytes f ++ z) q.0 ∙ append-nil (middle r bytes f) in
        (let a = q.1 in λ i. a i && nat_eq f.moved (length (same i))) ∙ k.1

    writer_stands : to_live ≡ true →
        StandsAt wk w (take f.moved (middle r bytes now)) f.turned (all_moved r bytes now) f.write_done x.lane.writer
    writer_stands h =
        stands-later wk w (take f.moved (middle r bytes now)) f.turned (all_moved r bytes f)
        (all_moved r bytes now) f.write_done x.lane.writer moved_still
        (subst (λ z. StandsAt wk w z f.turned (all_moved r bytes f) f.write_done x.lane.writer) (sym moved_same) (c.holds.writes h))

    as-counts : ReadAs y (read_by s y)
    as-counts = record {
      used = (let a = step.count in λ i. record f { used = a i });
      place = step.place x.from_bad c.reader_marks;
      done = (let a = step.done in λ i. record f { used = f.used + s.used; read_done = a i });
      to_bad = refl;
      carries = record {
        holds = record {
          buffers =
              let raw = raw_input-used bytes f s.used in
              let i1 = input-grown r w bytes bytes ended f fits (f.used + s.used) s.after.finished s.made grown in
              let o1 = output-grown r w bytes bytes ended f fits (f.used + s.used) s.after.finished s.made grown in
              let w1 = raw_output-grown r w bytes bytes ended f fits (f.used + s.used) s.after.finished s.made grown in
              sym (λ i. record {
                raw_input = raw i;
                input = i1 i;
                output = if to_live then o1 i else [];
                raw_output = if to_live then w1 i else [];
              });
          reads = λ _. step.stands;
          writes = writer_stands;
        };
        read = c.read;
        read_made = ap (λ n. n + length s.made) c.read_made ∙ sym (length-append (middle r bytes f) s.made) ∙ ap length (sym grown);
        write_made = c.write_made ∙ ap length
            (sym (outcome-grown r w bytes bytes ended f fits (f.used + s.used) s.after.finished s.made grown));
        reader_marks = λ h. or_else-some x.from_bad s.after.stopped h;
        writer_marks = c.writer_marks;
      };
    }

    -- the read filter's part of a round
    pub reads-as : ReadAs x (read_part mark over x)
    reads-as = subst (λ z. ReadAs z (read_part mark over z)) (in_counts-same rk wk bytes ended true to_live x c) as-counts
