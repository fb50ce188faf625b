-- How the reports that wait in a buffer are made one after another.
use Rattle.std.proofs.Common.{◌≡◌, ◌<◌, ℕ, true, false, cond, Some, None, List, [], ◌∷◌, ◌++◌, length, refl, sym, ap, ◌∙◌, arith}
use Rattle.std.proofs.Common.{length-append}
use Rattle.std.specs.Prelude.{option_map, filter, reverse, flat_map, is_some}
use Rattle.std.specs.Option.{option_or}
use Rattle.std.proofs.lemmas.List.{reverse-append}
use Rattle.script_text.specs.Lines.{line_of}
use Rattle.evbuf.specs.Callbacks.{Callbacks, waits, report_of, reported, newest_waiting, after_report}
use Rattle.evbuf.specs.Evbuffered.{Evbuffered}
use Rattle.buffers_mode.specs.Steps.{with_callbacks}
use Rattle.evbuf.specs.declared.callback.SizeCallback.{SizeCallback}
use Rattle.evbuf.specs.declared.callback.Report.{Report}
use Rattle.buffers_mode.specs.Answers.{report_words}
use Rattle.buffers_mode.specs.Run.{report_lines, all_reported}

-- where none has a report to make, none waits, and nothing changes
pub none_waits : (cbs : Callbacks) → newest_waiting cbs ≡ None →
    (filter waits cbs ≡ []) × (after_report cbs ≡ cbs) × (all_reported cbs ≡ cbs)
none_waits [] is = (refl, refl, refl)
none_waits (c ∷ cbs) is =
    elim (newest_waiting cbs) as (λ v. newest_waiting cbs ≡ v → option_or v (cond (waits c) (Some c) None) ≡ None →
    (filter waits (c ∷ cbs) ≡ []) × (cond (is_some v) (c ∷ after_report cbs) (cond (waits c) (reported c) c ∷ cbs) ≡ c ∷ cbs)
    × (all_reported (c ∷ cbs) ≡ c ∷ cbs)) [
      | Some d ↦ λ further no. cc
      | None ↦ λ further here.
          let rest = none_waits cbs further in
          elim (waits c) as (λ w. waits c ≡ w → cond w (Some c) None ≡ None →
          (cond w (c ∷ filter waits cbs) (filter waits cbs) ≡ []) × (cond w (reported c) c ∷ cbs ≡ c ∷ cbs)
          × (cond w (reported c) c ∷ all_reported cbs ≡ c ∷ cbs)) [
            | true ↦ λ waits_is no. cc
            | false ↦ λ waits_is no. (rest.0, refl, ap (λ (more : Callbacks). c ∷ more) rest.2)
          ] refl here
    ] refl is

-- the newest that waits is the last that does, and reports
pub newest_waits : (cbs : Callbacks) (d : SizeCallback) → newest_waiting cbs ≡ Some d →
    (filter waits cbs ≡ filter waits (after_report cbs) ++ d ∷ []) × (all_reported (after_report cbs) ≡ all_reported cbs)
newest_waits [] d is = cc
newest_waits (c ∷ cbs) d is =
    elim (newest_waiting cbs) as (λ v. newest_waiting cbs ≡ v → option_or v (cond (waits c) (Some c) None) ≡ Some d →
    (filter waits (c ∷ cbs) ≡ filter waits (cond (is_some v) (c ∷ after_report cbs) (cond (waits c) (reported c) c ∷ cbs)) ++ d ∷ [])
    × (all_reported (cond (is_some v) (c ∷ after_report cbs) (cond (waits c) (reported c) c ∷ cbs)) ≡ all_reported (c ∷ cbs))) [
      | Some e ↦ λ further same.
          let newer : newest_waiting cbs ≡ Some d = cc in
          let rest = newest_waits cbs d newer in
          elim (waits c) as (λ w.
          (cond w (c ∷ filter waits cbs) (filter waits cbs) ≡ cond w (c ∷ filter waits (after_report cbs))
          (filter waits (after_report cbs)) ++ d ∷ [])
          × (cond w (reported c) c ∷ all_reported (after_report cbs) ≡ cond w (reported c) c ∷ all_reported cbs)) [
            | true ↦ (ap (λ (more : Callbacks). c ∷ more) rest.0, ap (λ (more : Callbacks). reported c ∷ more) rest.1)
            | false ↦ (rest.0, ap (λ (more : Callbacks). c ∷ more) rest.1)
          ]
      | None ↦ λ further here.
          let rest = none_waits cbs further in
          elim (waits c) as (λ w. waits c ≡ w → cond w (Some c) None ≡ Some d →
          (cond w (c ∷ filter waits cbs) (filter waits cbs) ≡ filter waits (cond w (reported c) c ∷ cbs) ++ d ∷ [])
          × (all_reported (cond w (reported c) c ∷ cbs) ≡ cond w (reported c) c ∷ all_reported cbs)) [
            | true ↦ λ waits_is same.
                let one : c ≡ d = cc in
                (rw (rest.0, one) refl, refl)
            | false ↦ λ waits_is no. cc
          ] refl here
    ] refl is

abbrev line_for : ℕ → SizeCallback → List ℕ
line_for b callback = line_of (report_words b (report_of callback))

reverse-last : (xs : Callbacks) (d : SizeCallback) → reverse (xs ++ d ∷ []) ≡ d ∷ reverse xs
reverse-last xs d = reverse-append xs (d ∷ [])

-- the callback whose report was made
reporter : (cbs : Callbacks) (report : Report) → Some report ≡ option_map report_of (newest_waiting cbs) →
    (d : SizeCallback) × (newest_waiting cbs ≡ Some d) × (report ≡ report_of d)
reporter cbs report is =
    elim (newest_waiting cbs) as (λ v. newest_waiting cbs ≡ v → Some report ≡ option_map report_of v →
    (d : SizeCallback) × (newest_waiting cbs ≡ Some d) × (report ≡ report_of d)) [
      | None ↦ λ newest no. cc
      | Some d ↦ λ newest same. (d, newest, (cc))
    ] refl is

no_reporter : (cbs : Callbacks) → None ≡ option_map report_of (newest_waiting cbs) → newest_waiting cbs ≡ None
no_reporter cbs is =
    elim (newest_waiting cbs) as (λ v. None ≡ option_map report_of v → v ≡ None) [ None ↦ λ same. refl | Some d ↦ λ no. cc ] is

-- a report that is made comes before those that still wait
pub report_lines-made : (b : ℕ) (cbs : Callbacks) (report : Report) → Some report ≡ option_map report_of (newest_waiting cbs) →
    report_lines b cbs ≡ line_of (report_words b report) ++ report_lines b (after_report cbs)
report_lines-made b cbs report is =
    let by = reporter cbs report is in
    let waiting = newest_waits cbs by.0 by.1 in
    ap (λ (all : Callbacks). flat_map (line_for b) (reverse all)) waiting.0
    ∙ ap (flat_map (line_for b)) (reverse-last (filter waits (after_report cbs)) by.0)
    ∙ ap (λ (r : Report). line_of (report_words b r) ++ report_lines b (after_report cbs)) (sym by.2)

pub all_reported-made : (cbs : Callbacks) (report : Report) → Some report ≡ option_map report_of (newest_waiting cbs) →
    all_reported (after_report cbs) ≡ all_reported cbs
all_reported-made cbs report is = let by = reporter cbs report is in (newest_waits cbs by.0 by.1).1

-- one fewer waits afterwards
pub waiting-made : (cbs : Callbacks) (report : Report) → Some report ≡ option_map report_of (newest_waiting cbs) →
    length (filter waits (after_report cbs)) < length (filter waits cbs)
waiting-made cbs report is =
    let by = reporter cbs report is in
    let longer = ap (λ (all : Callbacks). length all) (newest_waits cbs by.0 by.1).0 in
    omega (arith, longer, length-append (filter waits (after_report cbs)) (by.0 ∷ []))

-- where no report was made none waits
pub none_made : (b : ℕ) (cbs : Callbacks) → None ≡ option_map report_of (newest_waiting cbs) →
    (report_lines b cbs ≡ []) × (after_report cbs ≡ cbs) × (all_reported cbs ≡ cbs)
none_made b cbs is =
    let none = none_waits cbs (no_reporter cbs is) in
    (ap (λ (all : Callbacks). flat_map (line_for b) (reverse all)) none.0, none.1, none.2)

-- a buffer that differs from one by its callbacks alone still does when others come
pub with_callbacks-again : (old buf new : Evbuffered) (cbs : Callbacks) → new ≡ with_callbacks buf cbs →
    buf ≡ with_callbacks old buf.callbacks →
    new ≡ with_callbacks old new.callbacks
with_callbacks-again old buf new cbs is rest =
    let here : new ≡ with_callbacks old cbs = is ∙ ap (λ (b : Evbuffered). with_callbacks b cbs) rest in
    let same : new.callbacks ≡ cbs = ap (λ (b : Evbuffered). b.callbacks) here in
    here ∙ ap (with_callbacks old) (sym same)
