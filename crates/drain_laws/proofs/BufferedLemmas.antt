-- How much the buffers of live sides hold at most, and so how many closing turns there are at most.
use Rattle.std.proofs.Common.{◌≡◌, ℕ, zero, suc, ◌+◌, ◌*◌, ◌≤◌, Bool, true, false, if◌then◌else◌, List, [], length}
use Rattle.std.proofs.Common.{refl, ap, arith, length-append, length-drop}
use Rattle.std.specs.Prelude.{sum_by}
use Rattle.std.specs.List.{flat_map}
use Rattle.std.proofs.lemmas.Grind.{flat_map-append}
use Rattle.std.proofs.lemmas.List.Sums.{sum_by-le-sum_by}
use Rattle.ev_types.specs.declared.side.SideId.{SideId}
use Rattle.ev_types.specs.ScriptTurn.{ScriptTurn}
use Rattle.ev_types.specs.Sides.{peer}
use Rattle.ev_types.specs.Trace.{Trace}
use Rattle.filter_model.proofs.EveryFilter.{every_filter}
use Rattle.relay_model.specs.Trace.{bytes_read}
use Rattle.relay_model.specs.Settings.{Settings}
use Rattle.relay_model.specs.Flow.{no_flow, input, output, raw_output}
use Rattle.relay_model.specs.Plain.{Plain, nothing_yet, sides_from, flow_at, is_live}
use Rattle.relay_model.specs.Past.{past}
use Rattle.relay_model.specs.Rooms.{read_kind, write_kind, read_filter, write_filter, output_at, raw_output_at}
use Rattle.relay_model.specs.Rooms.{input_length, output_length}
use Rattle.relay_model.specs.Stages.{Stage, State, at, start}
use Rattle.relay_model.specs.Turn.{Reaches}
use Rattle.relay_model.specs.Onward.{Leads}
use Rattle.relay_model.specs.Lines.{links_by}
use Rattle.relay_model.specs.Totals.{opened}
use Rattle.relay_model.specs.Scripted.{lines, links}
use Rattle.relay_model.specs.OpenLinks.{is_link_open, open_links_below}
use Rattle.relay_model.specs.Work.{work_left, buffered_from}
use Rattle.relay_model.specs.ClosingTurns.{scripted_links, got_count, buffered_at, all_buffered}
use Rattle.relay_model.proofs.EndLemmas.{peer-peer}
use Rattle.relay_model.proofs.ToldLemmas.{kept}
use Rattle.relay_model.proofs.WorkLemmas.{work_falls}
use Rattle.drain_laws.specs.DrainBound.{MostIsBounded}
use Rattle.drain_laws.proofs.SumLemmas.{sum-both, sum-scaled, length-sides, sides-peer}
use Rattle.drain_laws.proofs.PendingLemmas.{read-total, lines_later, lines-split, links-opened, got-within}

-- One direction

-- a run leads from its start to each state that it reaches
pub led : (g : Settings) (t : Trace) (s : State) → Reaches g t s → Leads g [] start t s
led g t s Reaches.begins = Leads.stays
led g t new (Reaches.goes {t = u} {s = old} r h) = Leads.goes {mid = old} (led g u old r) h
led g t new (Reaches.puts {t = u} {s = old} e bytes r h) = Leads.puts {mid = old} e bytes (led g u old r) h

-- the four buffers of a direction, by its counts and what was read where it begins
pub buffers-are : (g : Settings) (t : Trace) (s : Plain) (e : SideId) →
    output_length g (past g t) s (peer e)
    ≡ length (output (read_filter g s e) (bytes_read e t) (flow_at s e))
    + length (raw_output (read_filter g s e) (write_filter g s (peer e)) (bytes_read e t) (flow_at s e))
buffers-are g t s e =
    let out : length (output_at g (past g t) s (peer e)) ≡ length (output (read_filter g s e) (bytes_read e t) (flow_at s e)) =
    ap (λ v. length (output (read_filter g s v) (bytes_read v t) (flow_at s v))) (peer-peer e) in
    let raw : length (raw_output_at g (past g t) s (peer e))
    ≡ length (raw_output (read_filter g s e) (write_filter g s (peer e)) (bytes_read e t) (flow_at s e)) =
    ap (λ v. length (raw_output (read_filter g s v) (write_filter g s (peer e)) (bytes_read v t) (flow_at s v))) (peer-peer e) in
    omega (arith, out, raw)

-- Nothing was read of a direction that did not begin, and it holds nothing.
module _ (g : Settings) (s : Plain) (e : SideId) where
  pub none-input : length (input (read_filter g s e) [] no_flow) ≡ 0
  none-input = ap length (every_filter (read_kind g e.side)).prefix.empty

  pub none-raw_output : length (raw_output (read_filter g s e) (write_filter g s (peer e)) [] no_flow) ≡ 0
  none-raw_output = ap length (every_filter (write_kind g (peer e).side)).prefix.empty

first-work : (g : Settings) (e : SideId) → work_left g [] nothing_yet e ≤ 3
first-work g e = let a = none-input g nothing_yet e in let b = none-raw_output g nothing_yet e in omega (arith, a, b)

-- what its buffers hold is at most 3, and 4 for each byte that was read
pub few-buffered : (g : Settings) (t : Trace) (s : State) (e : SideId) → Reaches g t s →
    buffered_from g t s.plain e ≤ 3 + 4 * length (bytes_read e t)
few-buffered g t s e r =
    let falls = work_falls g [] t start s e Reaches.begins (led g t s r) in
    let first = first-work g e in
    let none : (flow_at nothing_yet e).given ≡ 0 = refl in
    let is = buffers-are g t s.plain e in
    omega (arith, falls, first, none, is)

-- All of them

module _ (g : Settings) (t : Trace) (s : Plain) where
  abbrev inputs : SideId → ℕ
  inputs e = input_length g (past g t) s e

  abbrev outputs : SideId → ℕ
  outputs e = output_length g (past g t) s e

  live-within : (e : SideId) → buffered_at g t s e ≤ inputs e + outputs e
  live-within e = go (is_live s e)
    where
      go : (b : Bool) → (if b then inputs e + outputs e else 0) ≤ inputs e + outputs e
      go true = omega arith
      go false = omega arith

  -- an output waits for a side in the direction that begins at its peer
  pub buffered-within : (n : ℕ) → sum_by (buffered_at g t s) (sides_from 0 n) ≤ sum_by (buffered_from g t s) (sides_from 0 n)
  buffered-within n =
      let es = sides_from 0 n in
      let a = sum_by-le-sum_by (buffered_at g t s) (λ e. inputs e + outputs e) es live-within in
      let b = sum-both inputs outputs es in
      let c = sides-peer outputs 0 n in
      let d = sum-both inputs (λ e. outputs (peer e)) es in
      omega (arith, a, b, c, d)

pub all-few : (g : Settings) (t : Trace) (s : State) → Reaches g t s →
    all_buffered g t s.plain ≤ 6 * s.plain.opened + 4 * sum_by got_count t
all-few g t s r =
    let n = s.plain.opened in
    let es = sides_from 0 n in
    let a = buffered-within g t s.plain n in
    let b = sum_by-le-sum_by (buffered_from g t s.plain) (λ e. 3 + 4 * length (bytes_read e t)) es (λ e. few-buffered g t s e r) in
    let c = sum-scaled (λ e. length (bytes_read e t)) es in
    let d = length-sides 0 n in
    let e = read-total g t s n r (omega arith) in
    omega (arith, a, b, c, d, e)

-- Links

open-below : (s : Plain) (n : ℕ) → open_links_below s n ≤ n
open-below s zero = omega arith
open-below s (suc n) = let a = open-below s n in let b = go (is_link_open s n) in omega (arith, a, b)
  where
    go : (b : Bool) → (if b then 1 else 0) ≤ 1
    go true = omega arith
    go false = omega arith

-- links that were opened, and those that wait, are among those of the script
links-within : (turns : List ScriptTurn) (t : Trace) → length (links turns t) ≤ length (scripted_links turns)
links-within turns t =
    let a = ap (λ ls. length (flat_map links_by ls)) (lines-split turns t) in
    let b = ap length (flat_map-append links_by (lines turns t) (lines_later turns t)) in
    let c = length-append (flat_map links_by (lines turns t)) (flat_map links_by (lines_later turns t)) in
    omega (arith, a, b, c)

pub most_is_bounded : MostIsBounded
most_is_bounded g turns closing_by t s names reached answered =
    let few = all-few g t (at Stage.Between s) reached in
    let got = got-within turns closing_by t answered g (at Stage.Between s) reached names in
    let most = links-opened turns closing_by t answered g (at Stage.Between s) reached in
    let told = (kept g t (at Stage.Between s) reached).counts.shape.opened in
    let open_links = open-below s s.opened in
    let waits = length-drop (opened t) (links turns t) in
    let some = links-within turns t in
    omega (arith, few, got, most, told, open_links, waits, some)
