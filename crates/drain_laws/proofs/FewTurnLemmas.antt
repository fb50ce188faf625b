-- That closing turns are few where each free is of a side that is done: what the links that are left hold and read, and the conclusion.
use Rattle.std.proofs.Common.{◌≡◌, ℕ, zero, suc, ◌+◌, ◌-◌, ◌*◌, ◌<◌, ◌≤◌, Bool, true, false, if◌then◌else◌, List, [], ◌∷◌, ◌++◌, length}
use Rattle.std.proofs.Common.{refl, ◌∙◌, ap, arith, length-append, length-drop, append_assoc}
use Rattle.std.specs.Prelude.{sum_by}
use Rattle.std.specs.List.{flat_map, list_any}
use Rattle.std.proofs.lemmas.Bool.{or_parts}
use Rattle.std.proofs.lemmas.List.{get_or_past}
use Rattle.std.proofs.lemmas.List.Sums.{sum_by-append}
use Rattle.ev_types.specs.declared.side.SideId.{SideId}
use Rattle.ev_types.specs.declared.answer.ReadAnswer.TheVariants as read
use Rattle.ev_types.specs.declared.entry.Entry.TheVariants as entry
use Rattle.ev_types.specs.ScriptTurn.{ScriptTurn, lines_of}
use Rattle.ev_types.specs.Sides.{number, peer}
use Rattle.ev_types.specs.Trace.{Event, Trace}
use Rattle.relay_model.specs.Trace.{bytes_read, read_by}
use Rattle.relay_model.specs.Settings.{Settings, HasNoHooks}
use Rattle.relay_model.specs.Flow.{no_flow, raw_input, input, output, raw_output}
use Rattle.relay_model.specs.Plain.{Plain, sides_from, flow_at, is_live}
use Rattle.relay_model.specs.Past.{past}
use Rattle.relay_model.specs.Rooms.{read_filter, write_filter, input_length, output_length}
use Rattle.relay_model.specs.Stages.{Stage, at}
use Rattle.relay_model.specs.Turn.{Reaches}
use Rattle.relay_model.specs.Onward.{Leads}
use Rattle.relay_model.specs.Totals.{is_opened, opened}
use Rattle.relay_model.specs.Told.{names}
use Rattle.relay_model.specs.Called.{NamesOpened}
use Rattle.relay_model.specs.Lines.{links_by}
use Rattle.relay_model.specs.Scripted.{begun, links, waiting}
use Rattle.relay_model.specs.Plays.{IsAnswered}
use Rattle.relay_model.specs.OpenLinks.{is_link_open, open_link_count, FreesAreDone}
use Rattle.relay_model.specs.Work.{buffered_from, PairsMoveOn}
use Rattle.relay_model.specs.ClosingTurns.{scripted_links, unread_count, buffered_at, all_buffered}
use Rattle.relay_model.proofs.EndLemmas.{number-ge}
use Rattle.relay_model.proofs.ToldLemmas.{kept}
use Rattle.relay_model.proofs.TraceLemmas.{bytes_read-append}
use Rattle.relay_model.proofs.LeftLemmas.{in_of, out_of}
use Rattle.relay_model.proofs.OnwardLemmas.{reaches-on}
use Rattle.relay_model.proofs.FewTurns.{turns_are_few}
use Rattle.drain_laws.specs.DrainBound.{FreesAreOfDone, ClosingTurnsAreFew}
use Rattle.drain_laws.proofs.SumLemmas.{zeros, sum-same, sum-both, sides-last, sides-one, sides-same}
use Rattle.drain_laws.proofs.PendingLemmas.{read-total, lines-whole, links-opened, got-within}
use Rattle.drain_laws.proofs.BufferedLemmas.{buffers-are, none-input, none-raw_output}
use Rattle.drain_laws.proofs.FewLemmas.{open_sides, sides_left, left-size, left-within, all-covered, covers, both-live}

-- Buffers

-- a side that no event names was not read
unnamed-unread : (e : SideId) (t : Trace) → list_any (names e) t ≡ false → bytes_read e t ≡ []
unnamed-unread e [] h = refl
unnamed-unread e (y ∷ t) h =
    let parts = or_parts (names e y) (list_any (names e) t) h in
    let rest = unnamed-unread e t parts.1 in
    λ i. one y parts.0 i ++ rest i
  where
    one : (y : Event) → names e y ≡ false → read_by e y ≡ []
    one (entry.Read side room (read.Got n), bytes) k = ap (λ b. if b then bytes else []) k
    one _ k = refl

module _ (g : Settings) (t : Trace) (s : Plain) (reached : Reaches g t (at Stage.Between s)) where
  -- a link that was not opened buffers nothing
  later-empty : (e : SideId) → s.opened ≤ e.link → buffered_from g t s e ≡ 0
  later-empty e le =
      let c = (kept g t (at Stage.Between s) reached).counts in
      let size = c.shape.flows in
      let far = number-ge e s.opened le in
      let flow : flow_at s e ≡ no_flow = get_or_past s.flows (number e) no_flow (omega (arith, size, far)) in
      let bytes : bytes_read e t ≡ [] = unnamed-unread e t (c.named e le) in
      let ins : length (raw_input (bytes_read e t) (flow_at s e)) + length (input (read_filter g s e) (bytes_read e t) (flow_at s e))
      ≡ length (raw_input [] no_flow) + length (input (read_filter g s e) [] no_flow) =
      (λ i. length (raw_input (bytes i) (flow i)) + length (input (read_filter g s e) (bytes i) (flow i))) in
      let outs : length (output (read_filter g s e) (bytes_read e t) (flow_at s e))
      + length (raw_output (read_filter g s e) (write_filter g s (peer e)) (bytes_read e t) (flow_at s e))
      ≡ length (output (read_filter g s e) [] no_flow)
      + length (raw_output (read_filter g s e) (write_filter g s (peer e)) [] no_flow) =
      (λ i. length (output (read_filter g s e) (bytes i) (flow i))
      + length (raw_output (read_filter g s e) (write_filter g s (peer e)) (bytes i) (flow i))) in
      let is = buffers-are g t s e in
      let a = none-input g s e in
      let b = none-raw_output g s e in
      omega (arith, ins, outs, is, a, b)

  module _ (done : FreesAreDone t) where
    live-is : (e : SideId) → is_live s e ≡ true → buffered_at g t s e ≡ input_length g (past g t) s e + output_length g (past g t) s e
    live-is e live = ap (λ b. if b then input_length g (past g t) s e + output_length g (past g t) s e else 0) live

    -- an open link buffers in its two directions what its two sides hold
    link-held : (k : ℕ) → k < s.opened → (b : Bool) → is_link_open s k ≡ b →
        sum_by (buffered_from g t s) (if b then sides_from k 1 else []) ≤ sum_by (buffered_at g t s) (sides_from k 1)
    link-held k lt false h = omega arith
    link-held k lt true h =
        let both = both-live g t s reached done k lt h in
        let a = live-is (in_of k) both.0 in
        let b = live-is (out_of k) both.1 in
        let c = sides-one (buffered_from g t s) k in
        let d = sides-one (buffered_at g t s) k in
        omega (arith, a, b, c, d)

    open-held : (n : ℕ) → n ≤ s.opened → sum_by (buffered_from g t s) (open_sides s n) ≤ sum_by (buffered_at g t s) (sides_from 0 n)
    open-held zero le = omega arith
    open-held (suc n) le =
        let a = open-held n (omega (arith, le)) in
        let b = sum_by-append (buffered_from g t s) (open_sides s n) (if is_link_open s n then sides_from n 1 else []) in
        let c = sides-last (buffered_at g t s) n in
        let d = link-held n (omega (arith, le)) (is_link_open s n) refl in
        omega (arith, a, b, c, d)

    -- the directions that are left buffer no more than the live sides hold
    left-held : (n : ℕ) → sum_by (buffered_from g t s) (sides_left s n) ≤ all_buffered g t s
    left-held n =
        let a = open-held s.opened (omega arith) in
        let b = sum_by-append (buffered_from g t s) (open_sides s s.opened) (sides_from s.opened (n - s.opened)) in
        let c = sides-same (buffered_from g t s) (λ e. 0) s.opened (n - s.opened) later-empty in
        let d = zeros (sides_from s.opened (n - s.opened)) in
        omega (arith, a, b, c, d)

-- Reads

abbrev reads : Trace → SideId → ℕ
reads t e = length (bytes_read e t)

reads-append : (t u : Trace) (es : List SideId) → sum_by (reads (t ++ u)) es ≡ sum_by (reads t) es + sum_by (reads u) es
reads-append t u es =
    sum-same (reads (t ++ u)) (λ e. reads t e + reads u e)
    (λ e. ap length (bytes_read-append e t u) ∙ length-append (bytes_read e t) (bytes_read e u)) es
    ∙ sum-both (reads t) (reads u) es

-- The conclusion

-- links stay opened
later-opened : (g : Settings) (t u : Trace) (s after : Plain) → Reaches g t (at Stage.Between s) →
    Reaches g (t ++ u) (at Stage.Between after) → s.opened ≤ after.opened
later-opened g t u s after r there =
    let was = (kept g t (at Stage.Between s) r).counts.shape.opened in
    let is = (kept g (t ++ u) (at Stage.Between after) there).counts.shape.opened in
    let more = sum_by-append (λ v. if is_opened v then 1 else 0) t u in
    omega (arith, was, is, more)

done-before : (t part : Trace) → FreesAreDone (t ++ part) → FreesAreDone t
done-before t part done before after e why moved given bytes is =
    done before (after ++ part) e why moved given bytes
    (ap (λ v. v ++ part) is ∙ append_assoc before ((entry.Freed e why moved given, bytes) ∷ after) part)

-- so it is where each free in the run is of a side that is done
pub few-where-done : (g : Settings) (turns : List ScriptTurn) (closing_by : ℕ) (t : Trace) (s : Plain) (parts : List Trace)
    (after : Plain) → HasNoHooks g → FreesAreDone (t ++ flat_map (λ part. part) parts) → NamesOpened 0 (lines_of turns) →
    Reaches g t (at Stage.Between s) →
    Leads g t (at Stage.Between s) (t ++ flat_map (λ part. part) parts) (at Stage.Between after) →
    IsAnswered turns closing_by (t ++ flat_map (λ part. part) parts) → length turns ≤ begun turns t → PairsMoveOn parts →
    length parts ≤ 10 * unread_count turns t + 8 * all_buffered g t s + 20 * (open_link_count s + length (waiting turns t)) + 1
few-where-done g turns closing_by t s parts after none done names reached way answered all pairs =
    let u : Trace = flat_map (λ part. part) parts in
    let n : ℕ = length (scripted_links turns) in
    let es : List SideId = sides_left s n in
    let there : Reaches g (t ++ u) (at Stage.Between after) =
    reaches-on g t (at Stage.Between s) reached (t ++ u) (at Stage.Between after) way in
    let c = kept g t (at Stage.Between s) reached in
    let most = links-opened turns closing_by (t ++ u) answered g (at Stage.Between after) there in
    let grown = later-opened g t u s after reached there in
    let few = turns_are_few g t (at Stage.Between s) parts (at Stage.Between after) es none reached way
    (all-covered es u (λ z. covers g t s reached turns closing_by u after way answered z)) pairs in
    let size = left-size s n in
    let held = left-held g t s reached (done-before t u done) n in
    let read_more = reads-append t u es in
    let within = left-within (reads u) s n (omega (arith, most, grown)) in
    let all_more = reads-append t u (sides_from 0 n) in
    let before = read-total g t (at Stage.Between s) n reached (omega (arith, most, grown)) in
    let behind = read-total g (t ++ u) (at Stage.Between after) n there most in
    let brought = got-within turns closing_by (t ++ u) answered g (at Stage.Between after) there names in
    let waits = length-drop (opened t) (links turns t) in
    let whole = ap (λ ls. length (flat_map links_by ls)) (lines-whole turns t all) in
    let told = c.counts.shape.opened in
    omega (arith, few, size, held, read_more, within, all_more, before, behind, brought, waits, whole, told)

pub closing_turns_are_few : FreesAreOfDone → ClosingTurnsAreFew
closing_turns_are_few frees_are_of_done g turns closing_by t s parts after can names ordered reached way answered all pairs =
    let u : Trace = flat_map (λ part. part) parts in
    let there : Reaches g (t ++ u) (at Stage.Between after) =
    reaches-on g t (at Stage.Between s) reached (t ++ u) (at Stage.Between after) way in
    few-where-done g turns closing_by t s parts after can.hooks
    (frees_are_of_done g turns closing_by (t ++ u) can ordered (at Stage.Between after, there) answered) names reached way
    answered all pairs
