-- What each step of a turn leaves of every other link than the one that it is about.
use Rattle.std.specs.Prelude.{MatchBool, is_some, slice_index_or, slice_set}
use Rattle.std.specs.List.{AllByRecursion}
use Rattle.std.proofs.Common.{◌≡◌, ◌≢◌, ℕ, ◌*◌, ◌<◌, Bool, true, false, ◌&&◌, nat_le, nat_lt, if◌then◌else◌, List, [], ◌∷◌, ◌++◌, length}
use Rattle.std.proofs.Common.{refl, sym, ◌∙◌, ap, subst, arith}
use Rattle.std.proofs.lemmas.List.{get_or-set_other, get_or_append_left}
use Rattle.token_bucket.specs.declared.limit.Dir.TheVariants as dir
use Rattle.ev_types.specs.declared.side.SideId.{SideId}
use Rattle.ev_types.specs.declared.answer.ConnAnswer.{ConnAnswer}
use Rattle.ev_types.specs.declared.answer.ConnAnswer.TheVariants as conn
use Rattle.ev_types.specs.declared.answer.ReadAnswer.{ReadAnswer}
use Rattle.ev_types.specs.declared.answer.ReadAnswer.TheVariants as read
use Rattle.ev_types.specs.declared.answer.WriteAnswer.{WriteAnswer}
use Rattle.ev_types.specs.declared.answer.WriteAnswer.TheVariants as write
use Rattle.ev_types.specs.declared.why.Why.{Why}
use Rattle.ev_types.specs.declared.why.Why.TheVariants as why
use Rattle.ev_types.specs.Sides.{number, peer}
use Rattle.ev_types.specs.Trace.{Trace}
use Rattle.ev_port.specs.declared.port.Want.{Want}
use Rattle.relay_model.specs.Flow.{Flow, no_flow}
use Rattle.relay_model.specs.Settings.{Settings}
use Rattle.relay_model.specs.Due.{with_reason}
use Rattle.relay_model.specs.Plain as plain
use Rattle.relay_model.specs.Plain.{Plain, PlainSide, no_side, side_at, flow_at, put_side, put_flow, change_side}
use Rattle.relay_model.specs.Plain.{change_flow}
use Rattle.relay_model.specs.Plain.{is_live}
use Rattle.relay_model.specs.Reasons.{has_hook, raise, happened, end_flag, error_flag}
use Rattle.relay_model.specs.Moments.{active_at}
use Rattle.relay_model.specs.Rooms.{is_connecting}
use Rattle.relay_model.specs.Serve as model
use Rattle.relay_model.proofs.PlainLemmas.{half-below}
use Rattle.relay_state.specs.Running.{Gauge, no_gauge}
use Rattle.rate_group.specs.GroupValue.{GroupsValue}
use Rattle.rate_group.specs.Steps.{left}
use Rattle.relay_state.specs.State.{State, Lane, no_lane, lane_at, gauges_after, with_plain, with_lane, lane_got, lane_taken}
use Rattle.relay_state.specs.State.{lane_left}
use Rattle.relay_state.specs.Passage.{Passage}
use Rattle.relay_state.specs.Passing.{with_bad, plain_passed, with_passage, PassedFrom, read_run}
use Rattle.relay_state.specs.Rooms.{wants, input_length, output_length, read_room, write_room}
use Rattle.relay_state.specs.Opening.{after_opened}
use Rattle.relay_state.specs.Serving.{raise_read, raise_write, after_conn, with_got, after_got, after_read, flow_given, with_taken}
use Rattle.relay_state.specs.Serving.{after_took, after_write}
use Rattle.relay_state.specs.Closing.{in_side, out_side, closing_entry, freed, without_batch, without_group}
use Rattle.relay_core.specs.declared.close.Closing.{Closing}
use Rattle.relay_core.specs.declared.close.Closing.TheVariants as closing
use Rattle.relay_core.specs.Steps as steps
use Rattle.relay_core.specs.Steps.{steps_of, link_of_step, after_closing}
use Rattle.relay_drive.specs.Steps.{Nothing, Then, Each}
use Rattle.relay_drive.specs.PassPhase.{PassesLink}
use Rattle.relay_drive.specs.ServePhase.{ReadsSide, WritesSide, ConnectsSide, ServesSide}
use Rattle.relay_drive.specs.ClosePhase.{Closes, LooksAt, ClosesLink}
use Rattle.relay_drive.specs.Calls.{Reads, Writes}
use Rattle.relay_drive.specs.PollPhase.{OpensOne}
use Rattle.relay_drive.specs.Links.{SameLink, HasPairs}

-- where nothing changed, and where one change stands behind another
pub same_link : (k : ℕ) (s : State) → SameLink k s s
same_link k s = record {
  settings = refl;
  time = refl;
  side = λ e h. refl;
  flow = λ e h. refl;
  lane = λ e h. refl;
  gauge = λ e h. refl;
}

pub same_link-then : (k : ℕ) {s mid new : State} → SameLink k s mid → SameLink k mid new → SameLink k s new
same_link-then k a b = record {
  settings = b.settings ∙ a.settings;
  time = b.time ∙ a.time;
  side = λ e h. b.side e h ∙ a.side e h;
  flow = λ e h. b.flow e h ∙ a.flow e h;
  lane = λ e h. b.lane e h ∙ a.lane e h;
  gauge = λ e h. b.gauge e h ∙ a.gauge e h;
}

pub same_link-is : (k : ℕ) {s new : State} → new ≡ s → SameLink k s new
same_link-is k {s = s} h = subst (SameLink k s) (sym h) (same_link k s)

-- Parts of the state

-- a side of another link has another number
numbers-apart : (k : ℕ) (e z : SideId) → k ≢ e.link → z.link ≡ k → number z ≢ number e
numbers-apart k e z other here same = omega (arith, same, here, other, half-below e.side, half-below z.side)

-- the sides and directions of this link are as they were, and the time
pub record SameParts (k : ℕ) (p new : Plain) : Type 0 where
  pub time : new.time ≡ p.time
  pub side : (e : SideId) → e.link ≡ k → side_at new e ≡ side_at p e
  pub flow : (e : SideId) → e.link ≡ k → flow_at new e ≡ flow_at p e

pub parts-same : (k : ℕ) (p : Plain) → SameParts k p p
parts-same k p = record { time = refl; side = λ e h. refl; flow = λ e h. refl }

parts-then : (k : ℕ) {p mid new : Plain} → SameParts k p mid → SameParts k mid new → SameParts k p new
parts-then k a b = record { time = b.time ∙ a.time; side = λ e h. b.side e h ∙ a.side e h; flow = λ e h. b.flow e h ∙ a.flow e h }

pub parts-side : (k : ℕ) (e : SideId) (x : PlainSide) (p : Plain) → k ≢ e.link → SameParts k p (put_side e x p)
parts-side k e x p other = record {
  time = refl;
  side = λ z h. get_or-set_other p.sides (number e) (number z) x no_side (numbers-apart k e z other h);
  flow = λ z h. refl;
}

parts-flow : (k : ℕ) (e : SideId) (x : Flow) (p : Plain) → k ≢ e.link → SameParts k p (put_flow e x p)
parts-flow k e x p other = record {
  time = refl;
  side = λ z h. refl;
  flow = λ z h. get_or-set_other p.flows (number e) (number z) x no_flow (numbers-apart k e z other h);
}

parts-raise : (k : ℕ) (g : Settings) (e : SideId) (y : Why) {p new : Plain} → SameParts k p new → SameParts k p (raise g e y new)
parts-raise k g e y {p = p} {new = new} h = go (has_hook g e && is_live new e)
  where
    go : (b : Bool) → SameParts k p (if b then record new { due = with_reason e y new.due } else new)
    go true = record { time = h.time; side = h.side; flow = h.flow }
    go false = h

pub by_parts : (k : ℕ) (s : State) (p : Plain) → SameParts k s.plain p → SameLink k s (with_plain p s)
by_parts k s p h = record {
  settings = refl;
  time = h.time;
  side = h.side;
  flow = h.flow;
  lane = λ e z. refl;
  gauge = λ e z. refl;
}

pub by_lane : (k : ℕ) (s : State) (e : SideId) (l : Lane) → k ≢ e.link → SameLink k s (with_lane e l s)
by_lane k s e l other = record {
  settings = refl;
  time = refl;
  side = λ z h. refl;
  flow = λ z h. refl;
  gauge = λ z h. refl;
  lane = λ z h. get_or-set_other s.lanes (number e) (number z) l no_lane (numbers-apart k e z other h);
}

-- the buckets of a side of another link
pub by_gauge : (k : ℕ) (s : State) (e : SideId) (x : Gauge) → k ≢ e.link
    → SameLink k s (record s { gauges = slice_set s.gauges (number e) x })
by_gauge k s e x other = record {
  settings = refl;
  time = refl;
  side = λ z h. refl;
  flow = λ z h. refl;
  lane = λ z h. refl;
  gauge = λ z h. get_or-set_other s.gauges (number e) (number z) x no_gauge (numbers-apart k e z other h);
}

-- groups belong to no link

pub by_groups : (k : ℕ) (s : State) (x : GroupsValue) → SameLink k s (record s { groups = x })
by_groups k s x = record {
  settings = refl;
  time = refl;
  side = λ e h. refl;
  flow = λ e h. refl;
  lane = λ e h. refl;
  gauge = λ e h. refl;
}

-- what is left to fire belongs to no link
pub by_batch : (k : ℕ) (s : State) (e : SideId) → SameLink k s (without_batch e s)
by_batch k s e = record {
  settings = refl;
  time = refl;
  side = λ z h. refl;
  flow = λ z h. refl;
  lane = λ z h. refl;
  gauge = λ z h. refl;
}

-- nor who is in a group: a side left its own
pub by_leaving : (k : ℕ) (s : State) (e : SideId) → SameLink k s (without_group e s)
by_leaving k s e = by_groups k s (left (number e) s.groups)

-- Passing

-- another direction was replaced
passage-other : (k : ℕ) (s : State) (e : SideId) (x : Passage) → k ≢ e.link → SameLink k s (with_passage e x s)
passage-other k s e x other =
    let p : Plain = put_flow e x.flow s.plain in
    let q : Plain = change_side e (with_bad x.from_bad) p in
    let sides : SameParts k s.plain q = parts-then k (parts-flow k e x.flow s.plain other)
    (parts-side k e (with_bad x.from_bad (side_at p e)) p other) in
    let whole : SameParts k s.plain (plain_passed e x s.plain) = parts-then k sides
    (parts-side k (peer e) (with_bad x.to_bad (side_at q (peer e))) q other) in
    same_link-then k (by_parts k s (plain_passed e x s.plain) whole) (by_lane k (with_plain (plain_passed e x s.plain) s) e x.lane other)

passed-other : (k : ℕ) (e : SideId) {s new : State} → k ≢ e.link → PassedFrom s e new → SameLink k s new
passed-other k e {s = s} other h = subst (SameLink k s) (sym h.2) (passage-other k s e h.0 other)

-- another link was passed
pub passes-other : (k j : ℕ) (s new : State) (a : Trace) → PassesLink j s a new → k ≢ j → SameLink k s new
passes-other k j s new a h other =
    same_link-then k (passed-other k (in_side j) other h.first.1)
    (same_link-then k (passed-other k (out_side j) other h.second.first.1) (same_link-is k h.second.second.1))

-- Serving

pub raise_read-other : (k : ℕ) (s : State) (e : SideId) → SameLink k s (raise_read e s)
raise_read-other k s e = go (nat_le (side_at s.plain e).marks.read_low (input_length s e))
  where
    go : (b : Bool) → SameLink k s (if b then with_plain (raise s.settings e why.Read s.plain) s else s)
    go true = by_parts k s _ (parts-raise k s.settings e why.Read (parts-same k s.plain))
    go false = same_link k s

pub raise_write-other : (k : ℕ) (s : State) (e : SideId) → SameLink k s (raise_write e s)
raise_write-other k s e = go (nat_le (output_length s e) (side_at s.plain e).marks.write_low)
  where
    go : (b : Bool) → SameLink k s (if b then with_plain (raise s.settings e why.Write s.plain) s else s)
    go true = by_parts k s _ (parts-raise k s.settings e why.Write (parts-same k s.plain))
    go false = same_link k s

-- a side of another link was changed, and then a reason became due
raised-other : (k : ℕ) (s : State) (e : SideId) (x : PlainSide) (y : Why) → k ≢ e.link → SameLink k s
    (with_plain (raise s.settings e y (put_side e x s.plain)) s)
raised-other k s e x y other = by_parts k s _ (parts-raise k s.settings e y (parts-side k e x s.plain other))

conn-other : (k : ℕ) (s : State) (e : SideId) (answer : ConnAnswer) → k ≢ e.link → SameLink k s (after_conn s e answer)
conn-other k s e conn.Connected other = raised-other k s e _ why.Connected other
conn-other k s e conn.Pending other = same_link k s
conn-other k s e conn.Failed other = raised-other k s e _ (happened dir.Write error_flag) other

got-other : (k : ℕ) (s : State) (e : SideId) (bytes : List ℕ) → k ≢ e.link → SameLink k s (after_got s e bytes)
got-other k s e bytes other =
    let p : Plain = model.after_read s.settings e (read.Got (length bytes)) s.plain in
    let put : State = with_lane e (lane_got bytes (lane_at s e)) (with_plain p s) in
    let before : SameLink k s put = same_link-then k (by_parts k s p (parts-side k e _ s.plain other))
    (by_lane k (with_plain p s) e _ other) in
    let gauges = gauges_after e dir.Read (length bytes) s in
    let gauged : SameLink k s (record put { gauges = gauges }) = same_link-then k before (by_gauge k put e _ other) in
    let got : SameLink k s (with_got s e bytes) = same_link-then k gauged (by_groups k (record put { gauges = gauges }) _) in
    same_link-then k got
    (same_link-then k (passage-other k (with_got s e bytes) e _ other) (raise_read-other k (read_run e (with_got s e bytes)) e))

read-other : (k : ℕ) (s : State) (e : SideId) (answer : ReadAnswer) (bytes : List ℕ) → k ≢ e.link → SameLink k s
    (after_read s e answer bytes)
read-other k s e (read.Got n) bytes other = got-other k s e bytes other
read-other k s e read.Ended bytes other = raised-other k s e _ (happened dir.Read end_flag) other
read-other k s e read.NotYet bytes other = same_link k s
read-other k s e read.Failed bytes other = raised-other k s e _ (happened dir.Read error_flag) other

took-other : (k : ℕ) (s : State) (e : SideId) (n : ℕ) → k ≢ e.link → SameLink k s (after_took s e n)
took-other k s e n other =
    let p : Plain = change_flow (peer e) (flow_given n) s.plain in
    let q : Plain = change_side e (active_at s.plain.time dir.Write) p in
    let both : SameParts k s.plain q = parts-then k (parts-flow k (peer e) (flow_given n (flow_at s.plain (peer e))) s.plain other)
    (parts-side k e (active_at s.plain.time dir.Write (side_at p e)) p other) in
    let put : State = with_lane (peer e) (lane_taken n (lane_at s (peer e))) (with_plain q s) in
    let before : SameLink k s put = same_link-then k (by_parts k s q both) (by_lane k (with_plain q s) (peer e) _ other) in
    let gauges = gauges_after e dir.Write n s in
    let gauged : SameLink k s (record put { gauges = gauges }) = same_link-then k before (by_gauge k put e _ other) in
    let taken : SameLink k s (with_taken s e n) = same_link-then k gauged (by_groups k (record put { gauges = gauges }) _) in
    same_link-then k taken (raise_write-other k (with_taken s e n) e)

write-other : (k : ℕ) (s : State) (e : SideId) (answer : WriteAnswer) → k ≢ e.link → SameLink k s (after_write s e answer)
write-other k s e (write.Took n) other = took-other k s e n other
write-other k s e write.NotYet other = same_link k s
write-other k s e write.Failed other = raised-other k s e _ (happened dir.Write error_flag) other
write-other k s e write.NoMemory other = same_link k s

reads-other : (k : ℕ) (e : SideId) (marked : Bool) (s new : State) (a : Trace) → k ≢ e.link → ReadsSide e marked s a new → SameLink k s new
reads-other k e marked s new a other h = go (marked && wants s e dir.Read) h
  where
    go : (b : Bool) → MatchBool b ((answer : ReadAnswer) × (into : List ℕ) × (length into ≡ read_room s e) × Reads e answer into s a new)
        (Nothing s a new) → SameLink k s new
    go true r = subst (SameLink k s) (sym r.3.state) (read-other k s e r.0 _ other)
    go false r = same_link-is k r.1

writes-other : (k : ℕ) (e : SideId) (marked : Bool) (s new : State) (a : Trace) → k ≢ e.link → WritesSide e marked s a new →
    SameLink k s new
writes-other k e marked s new a other h = go (marked && nat_lt 0 (write_room s e)) h
  where
    go : (b : Bool) → MatchBool b ((answer : WriteAnswer) × Writes e answer s a new) (Nothing s a new) → SameLink k s new
    go true r = subst (SameLink k s) (sym r.1.state) (write-other k s e r.0 other)
    go false r = same_link-is k r.1

connects-other : (k : ℕ) (e : SideId) (marked : Bool) (s new : State) (a : Trace) → k ≢ e.link → ConnectsSide e marked s a new →
    SameLink k s new
connects-other k e true s new a other r = subst (SameLink k s) (sym r.1.state) (conn-other k s e r.0 other)
connects-other k e false s new a other r = same_link-is k r.1

-- a side of another link was served
pub serves-other : (k : ℕ) (w : Want) (s new : State) (a : Trace) → ServesSide w s a new → k ≢ w.side.link → SameLink k s new
serves-other k w s new a h other = go (is_connecting s.plain w.side) h
  where
    go : (b : Bool) → MatchBool b (ConnectsSide w.side w.can_write s a new)
        (Then (ReadsSide w.side w.can_read) (WritesSide w.side w.can_write) s a new) → SameLink k s new
    go true r = connects-other k w.side w.can_write s new a other r
    go false r = same_link-then k (reads-other k w.side w.can_read s r.middle r.front other r.first)
        (writes-other k w.side w.can_write r.middle new r.back other r.second)

-- Closing

-- a side of another link was freed
pub freed-other : (k : ℕ) (s : State) (e : SideId) → k ≢ e.link → SameLink k s (freed e s)
freed-other k s e other =
    let r : State = without_group e (without_batch e s) in
    let p : Plain = plain.freed e s.plain in
    let side : SameParts k s.plain p = record { time = refl; side = (parts-side k e _ s.plain other).side; flow = λ z h. refl } in
    let own : State = with_lane e (lane_left (lane_at s e)) (with_plain p r) in
    let first : SameLink k r own = same_link-then k (by_parts k r p side) (by_lane k (with_plain p r) e _ other) in
    same_link-then k (same_link-then k (by_batch k s e) (by_leaving k (without_batch e s) e))
    (same_link-then k first (by_lane k own (peer e) _ other))

closing-other : (k : ℕ) (s : State) (step : Closing) → k ≢ link_of_step step → SameLink k s (after_closing s step)
closing-other k s (closing.Faulty e) other = freed-other k s e other
closing-other k s (closing.EndWriting e) other = by_parts k s _ (parts-side k e _ s.plain other)
closing-other k s (closing.BothDone j) other =
    same_link-then k (freed-other k s (in_side j) other) (freed-other k (freed (in_side j) s) (out_side j) other)
closing-other k s (closing.PeerGone e) other = freed-other k s e other
closing-other k s (closing.Shut e) other = by_parts k s _ (parts-side k e _ s.plain other)

looks-other : (k : ℕ) (step : Closing) (s new : State) (a : Trace) → k ≢ link_of_step step → LooksAt step s a new → SameLink k s new
looks-other k step s new a other h = go (is_some (closing_entry s (steps.close_step step))) h
  where
    go : (b : Bool) → MatchBool b (Closes step s a new) (Nothing s a new) → SameLink k s new
    go true r = subst (SameLink k s) (sym r.state) (closing-other k s step other)
    go false r = same_link-is k r.1

-- steps of closing that are of other links
each_look-other : (k : ℕ) (xs : List Closing) → (s new : State) (a : Trace) →
    AllByRecursion (λ step. k ≢ link_of_step step) xs → Each LooksAt xs s a new → SameLink k s new
each_look-other k [] s new a others h = same_link-is k h.1
each_look-other k (x ∷ xs) s new a others h =
    same_link-then k (looks-other k x s h.middle h.front others.0 h.first) (each_look-other k xs h.middle new h.back others.1 h.second)

-- another link was closed
pub closes-other : (k j : ℕ) (s new : State) (a : Trace) → ClosesLink j s a new → k ≢ j → SameLink k s new
closes-other k j s new a h d = each_look-other k (steps_of j) s new a (d, (d, (d, (d, (d, (d, (d, (d, (d, tt))))))))) h

-- Opening

-- the places of this link's sides are below twice the number of links
within-pairs : (k n : ℕ) (e : SideId) → k < n → e.link ≡ k → number e < 2 * n
within-pairs k n e below here = omega (arith, below, here, half-below e.side)

-- what stood at them is still there where more stands behind
kept-place : {A : Type 0} (k n : ℕ) (xs ys : List A) (d : A) (e : SideId) → length xs ≡ 2 * n → k < n → e.link ≡ k →
    slice_index_or (xs ++ ys) (number e) d ≡ slice_index_or xs (number e) d
kept-place k n xs ys d e many below here = get_or_append_left xs ys d (number e) (omega (arith, many, within-pairs k n e below here))

-- a link was opened, and this one stood before it
pub opens-other : (k : ℕ) (s new : State) (a : Trace) → OpensOne s a new → HasPairs s → k < s.plain.opened → SameLink k s new
opens-other k s new a h pairs below =
    let n : ℕ = s.plain.opened in
    let new : State = after_opened s h.0 in
    subst (SameLink k s) (sym h.1.state) (record {
      settings = refl;
      time = refl;
      gauge = λ e here. kept-place k n s.gauges _ no_gauge e pairs.gauges below here;
      side = λ e here. kept-place k n s.plain.sides _ no_side e pairs.sides below here;
      flow = λ e here. kept-place k n s.plain.flows _ no_flow e pairs.flows below here;
      lane = λ e here. kept-place k n s.lanes _ no_lane e pairs.lanes below here;
    })

-- timers and due reasons belong to no link
pub same-waits : (k : ℕ) (s : State) (p : Plain) → p.time ≡ s.plain.time → p.sides ≡ s.plain.sides → p.flows ≡ s.plain.flows →
    SameLink k s (with_plain p s)
same-waits k s p time sides flows =
    by_parts k s p (record {
      time = time;
      side = λ e h. ap (λ xs. slice_index_or xs (number e) no_side) sides;
      flow = λ e h. ap (λ xs. slice_index_or xs (number e) no_flow) flows;
    })
