-- What every step of a turn but opening leaves: the settings, the number of links, and what bounds the reads; and the time and the
-- number of turns but as a turn begins.
use Rattle.std.proofs.Common.{◌≡◌, ℕ, zero, suc, ◌+◌, ◌≤◌, Bool, true, false, not, ◌&&◌, ◌==◌, nat_le, nat_lt, filter, if◌then◌else◌, List}
use Rattle.std.proofs.Common.{[], ◌∷◌, ◌++◌, length, get_or, set, fold, refl, sym, ◌∙◌, ap, subst, arith}
use Rattle.token_bucket.specs.declared.limit.Dir.{Dir}
use Rattle.token_bucket.specs.declared.limit.Dir.TheVariants as dir
use Rattle.ev_types.specs.declared.side.SideId.{SideId}
use Rattle.ev_types.specs.declared.answer.ConnAnswer.{ConnAnswer}
use Rattle.ev_types.specs.declared.answer.ConnAnswer.TheVariants as conn
use Rattle.ev_types.specs.declared.answer.ReadAnswer.{ReadAnswer}
use Rattle.ev_types.specs.declared.answer.ReadAnswer.TheVariants as read
use Rattle.ev_types.specs.declared.answer.WriteAnswer.{WriteAnswer}
use Rattle.ev_types.specs.declared.answer.WriteAnswer.TheVariants as write
use Rattle.ev_types.specs.declared.why.Why.{Why}
use Rattle.ev_types.specs.declared.why.Why.TheVariants as why
use Rattle.ev_types.specs.Sides.{number, peer}
use Rattle.relay_model.specs.Settings.{Settings}
use Rattle.relay_model.specs.Plain as plain
use Rattle.relay_model.specs.Plain.{Plain, Timer, side_at, change_side, change_flow, is_live, all_sides}
use Rattle.relay_model.specs.Due.{with_reason}
use Rattle.relay_model.specs.Reasons.{has_hook, raise, happened, timeout_flag, end_flag, error_flag}
use Rattle.relay_model.specs.Moments.{is_timed, active_at, both_ways, timers_taken, has_run_out, expire}
use Rattle.relay_model.specs.Close.{CloseStep}
use Rattle.relay_model.specs.Round.{Part, parts_of}
use Rattle.relay_model.specs.Turn.{turned_to}
use Rattle.rate_group.specs.Steps.{all_refilled}
use Rattle.relay_state.specs.State.{State, Lane, no_lane, lane_at, with_plain, with_lane, lane_got, lane_moved, lane_taken, lane_left}
use Rattle.relay_state.specs.State.{lane_lost}
use Rattle.relay_state.specs.Passage.{Passage, pass_part, pass_round, rounds}
use Rattle.relay_state.specs.Passing.{passage_at, with_passage, round_from, PassedFrom, read_run}
use Rattle.relay_state.specs.Rooms.{wants, input_length, output_length}
use Rattle.relay_state.specs.Serving.{raise_read, raise_write, after_conn, with_got, after_got, after_read, with_taken, after_took}
use Rattle.relay_state.specs.Serving.{after_write}
use Rattle.relay_state.specs.Closing.{closed, freed, in_side, out_side}
use Rattle.relay_state.specs.Time.{timed, side_timed, begun}

-- Bounds of what was read

-- at most n bytes were read at each side
abbrev pub ReadsWithin : ℕ → State → Type 0
ReadsWithin n s = (i : ℕ) → (get_or s.lanes i no_lane).read ≤ n

-- one lane is replaced by one that is within the bound too
set-within : (n : ℕ) (xs : List Lane) (j i : ℕ) (l : Lane) → l.read ≤ n → (get_or xs i no_lane).read ≤ n →
    (get_or (set xs j l) i no_lane).read ≤ n
set-within n [] j i l h k = k
set-within n (y ∷ ys) zero zero l h k = h
set-within n (y ∷ ys) zero (suc i) l h k = k
set-within n (y ∷ ys) (suc j) zero l h k = k
set-within n (y ∷ ys) (suc j) (suc i) l h k = set-within n ys j i l h k

pub lane-within : (n : ℕ) (s : State) (e : SideId) (l : Lane) → l.read ≤ n → ReadsWithin n s → ReadsWithin n (with_lane e l s)
lane-within n s e l h k = λ i. set-within n s.lanes (number e) i l h (k i)

-- two more stand behind a list
pub push-within : (n : ℕ) (xs : List Lane) (x y : Lane) → x.read ≤ n → y.read ≤ n → ((i : ℕ) → (get_or xs i no_lane).read ≤ n) →
    (i : ℕ) → (get_or (xs ++ x ∷ y ∷ []) i no_lane).read ≤ n
push-within n [] x y p q k zero = p
push-within n [] x y p q k (suc zero) = q
push-within n [] x y p q k (suc (suc i)) = omega arith
push-within n (z ∷ zs) x y p q k zero = k 0
push-within n (z ∷ zs) x y p q k (suc i) = push-within n zs x y p q (λ j. k (suc j)) i

-- Frames

pub record Frame (s new : State) : Type 0 where
  pub settings : new.settings ≡ s.settings
  pub opened : new.plain.opened ≡ s.plain.opened
  pub time : new.plain.time ≡ s.plain.time
  pub turn : new.plain.turn ≡ s.plain.turn
  pub reads : (n : ℕ) → ReadsWithin n s → ReadsWithin n new

pub frame-same : (s : State) → Frame s s
frame-same s = record { settings = refl; opened = refl; time = refl; turn = refl; reads = λ n k. k }

pub frame-then : (a b c : State) → Frame a b → Frame b c → Frame a c
frame-then a b c f g = record {
  settings = g.settings ∙ f.settings;
  opened = g.opened ∙ f.opened;
  time = g.time ∙ f.time;
  turn = g.turn ∙ f.turn;
  reads = λ n k. g.reads n (f.reads n k);
}

-- a plain state with these numbers
pub frame-plain : (s : State) (p : Plain) → p.opened ≡ s.plain.opened → p.time ≡ s.plain.time → p.turn ≡ s.plain.turn → Frame s
    (with_plain p s)
frame-plain s p a b c = record { settings = refl; opened = a; time = b; turn = c; reads = λ n k. k }

frame-raise : (s : State) (e : SideId) (y : Why) (p : Plain) → p.opened ≡ s.plain.opened → p.time ≡ s.plain.time → p.turn ≡ s.plain.turn →
    Frame s (with_plain (raise s.settings e y p) s)
frame-raise s e y p a b c = go (has_hook s.settings e && is_live p e)
  where
    go : (q : Bool) → Frame s (with_plain (if q then record p { due = with_reason e y p.due } else p) s)
    go true = frame-plain s _ a b c
    go false = frame-plain s p a b c

frame-raise_read : (s : State) (e : SideId) → Frame s (raise_read e s)
frame-raise_read s e = go (nat_le (side_at s.plain e).marks.read_low (input_length s e))
  where
    go : (q : Bool) → Frame s (if q then with_plain (raise s.settings e why.Read s.plain) s else s)
    go true = frame-raise s e why.Read s.plain refl refl refl
    go false = frame-same s

frame-raise_write : (s : State) (e : SideId) → Frame s (raise_write e s)
frame-raise_write s e = go (nat_le (output_length s e) (side_at s.plain e).marks.write_low)
  where
    go : (q : Bool) → Frame s (if q then with_plain (raise s.settings e why.Write s.plain) s else s)
    go true = frame-raise s e why.Write s.plain refl refl refl
    go false = frame-same s

-- Serving

pub frame-conn : (s : State) (e : SideId) (answer : ConnAnswer) → Frame s (after_conn s e answer)
frame-conn s e conn.Connected = frame-raise s e why.Connected _ refl refl refl
frame-conn s e conn.Pending = frame-same s
frame-conn s e conn.Failed = frame-raise s e (happened dir.Write error_flag) _ refl refl refl

pub frame-took : (s : State) (e : SideId) (m : ℕ) → Frame s (after_took s e m)
frame-took s e m = frame-then s (with_taken s e m) _ taken (frame-raise_write (with_taken s e m) e)
  where
    taken : Frame s (with_taken s e m)
    taken = record {
      settings = refl;
      opened = refl;
      time = refl;
      turn = refl;
      reads = λ n k. lane-within n s (peer e) (lane_taken m (lane_at s (peer e))) (k (number (peer e))) k;
    }

pub frame-write : (s : State) (e : SideId) (answer : WriteAnswer) → Frame s (after_write s e answer)
frame-write s e (write.Took m) = frame-took s e m
frame-write s e write.NotYet = frame-same s
frame-write s e write.Failed = frame-raise s e (happened dir.Write error_flag) _ refl refl refl
frame-write s e write.NoMemory = frame-same s

-- Passing

part-read : (mark hold : ℕ) (ended : Bool) (part : Part) (x : Passage) → (pass_part mark hold ended part x).lane.read ≡ x.lane.read
part-read mark hold ended Part.Hold x = refl
part-read mark hold ended Part.Read x = refl
part-read mark hold ended Part.Move x = go (not x.flow.held && length x.lane.buffers.output == 0)
  where
    go : (b : Bool) → (if b then record x {
      flow = record (x.flow) { moved = x.flow.moved + length x.lane.buffers.input };
      lane = lane_moved x.lane;
    } else x).lane.read ≡ x.lane.read
    go true = refl
    go false = refl
part-read mark hold ended Part.Write x = written x.flow.held _ refl
  where
    written : (b : Bool) (y : Passage) → y.lane.read ≡ x.lane.read → (if b then x else y).lane.read ≡ x.lane.read
    written true y h = refl
    written false y h = h
part-read mark hold ended Part.Drain x = written x.flow.held _ refl
  where
    written : (b : Bool) (y : Passage) → y.lane.read ≡ x.lane.read → (if b then x else y).lane.read ≡ x.lane.read
    written true y h = refl
    written false y h = h

round-read : (mark hold : ℕ) (ended from_live to_live : Bool) (x : Passage) → (pass_round mark hold ended from_live to_live
    x).lane.read ≡ x.lane.read
round-read mark hold ended from_live to_live x = go (parts_of from_live to_live) x
  where
    go : (ps : List Part) (y : Passage) → (fold (λ z part. pass_part mark hold ended part z) y ps).lane.read ≡ y.lane.read
    go [] y = refl
    go (p ∷ ps) y = go ps (pass_part mark hold ended p y) ∙ part-read mark hold ended p y

rounds-read : (m : ℕ) (f : Passage → Passage) (x : Passage) → ((y : Passage) → (f y).lane.read ≡ y.lane.read) →
    (rounds m f x).lane.read ≡ x.lane.read
rounds-read zero f x each = refl
rounds-read (suc m) f x each = rounds-read m f (f x) each ∙ each x

-- a direction was replaced in which as much was read
pub frame-passage : (s : State) (e : SideId) (x : Passage) → x.lane.read ≡ (lane_at s e).read → Frame s (with_passage e x s)
frame-passage s e x h = record {
  settings = refl;
  opened = refl;
  time = refl;
  turn = refl;
  reads = λ n k. lane-within n s e x.lane (let a = k (number e) in omega (arith, a, h)) k;
}

from-read : (s : State) (e : SideId) (y : Passage) → (round_from s e y).lane.read ≡ y.lane.read
from-read s e y = round-read _ _ _ _ _ y

pub frame-passed : (s : State) (e : SideId) (new : State) → PassedFrom s e new → Frame s new
frame-passed s e new h =
    subst (Frame s) (sym h.2) (frame-passage s e h.0
    (ap (λ (y : Passage). y.lane.read) h.1.1 ∙ rounds-read h.1.0 (round_from s e) (passage_at s e) (from-read s e)))

-- A read. Only what was got is counted.

frame-run : (s : State) (e : SideId) → Frame s (read_run e s)
frame-run s e = frame-passage s e _ refl

pub record ReadFrame (s new : State) (more : ℕ) : Type 0 where
  pub settings : new.settings ≡ s.settings
  pub opened : new.plain.opened ≡ s.plain.opened
  pub time : new.plain.time ≡ s.plain.time
  pub turn : new.plain.turn ≡ s.plain.turn
  pub reads : (n : ℕ) → ReadsWithin n s → ReadsWithin (n + more) new

more-within : (n m : ℕ) (s : State) → n ≤ m → ReadsWithin n s → ReadsWithin m s
more-within n m s h k = λ i. let a = k i in omega (arith, a, h)

by_frame : (s new : State) (more : ℕ) → Frame s new → ReadFrame s new more
by_frame s new more f = record {
  settings = f.settings;
  opened = f.opened;
  time = f.time;
  turn = f.turn;
  reads = λ n k. more-within n (n + more) new (omega arith) (f.reads n k);
}

frame-got : (s : State) (e : SideId) (bytes : List ℕ) → ReadFrame s (after_got s e bytes) (length bytes)
frame-got s e bytes = record {
  settings = rest.settings;
  opened = rest.opened;
  time = rest.time;
  turn = rest.turn;
  reads = λ n k. rest.reads (n + length bytes) (λ i.
      set-within (n + length bytes) s.lanes (number e) i (lane_got bytes (lane_at s e)) (let a = k (number e) in omega (arith, a))
      (let b = k i in omega (arith, b)));
}
  where
    got : State
    got = with_got s e bytes

    rest : Frame (with_got s e bytes) (after_got s e bytes)
    rest = frame-then (with_got s e bytes) (read_run e (with_got s e bytes)) _ (frame-run (with_got s e bytes) e)
        (frame-raise_read (read_run e (with_got s e bytes)) e)

pub frame-read : (s : State) (e : SideId) (answer : ReadAnswer) (bytes : List ℕ) → ReadFrame s (after_read s e answer bytes) (length bytes)
frame-read s e (read.Got m) bytes = frame-got s e bytes
frame-read s e read.Ended bytes = by_frame s _ (length bytes) (frame-raise s e (happened dir.Read end_flag) _ refl refl refl)
frame-read s e read.NotYet bytes = by_frame s s (length bytes) (frame-same s)
frame-read s e read.Failed bytes = by_frame s _ (length bytes) (frame-raise s e (happened dir.Read error_flag) _ refl refl refl)

-- Closing

frame-freed : (s : State) (e : SideId) → Frame s (freed e s)
frame-freed s e = record {
  settings = refl;
  opened = refl;
  time = refl;
  turn = refl;
  reads = λ n k.
      let own : State = with_lane e (lane_left (lane_at s e)) (with_plain (plain.freed e s.plain) s) in
      let h : ReadsWithin n own = lane-within n s e (lane_left (lane_at s e)) (k (number e)) k in
      lane-within n own (peer e) (lane_lost (lane_at own (peer e))) (h (number (peer e))) h;
}

pub frame-closed : (s : State) (c : CloseStep) → Frame s (closed c s)
frame-closed s (CloseStep.Faulty e) = frame-freed s e
frame-closed s (CloseStep.EndWriting e) = frame-plain s _ refl refl refl
frame-closed s (CloseStep.BothDone k) = frame-freed s (in_side k)
frame-closed s (CloseStep.OutDone k) = frame-freed s (out_side k)
frame-closed s (CloseStep.PeerGone e) = frame-freed s e
frame-closed s (CloseStep.Shut e) = frame-plain s _ refl refl refl

-- Time

frame-timed : (s : State) (e : SideId) (d : Dir) → Frame s (timed e s d)
frame-timed s e d = go (not (is_timed (side_at s.plain e) d)) (not (wants s e d)) (has_run_out (side_at s.plain e) d s.plain.time)
  where
    go : (a b c : Bool) → Frame s (if a then s
        else (if b then with_plain (change_side e (active_at s.plain.time d) s.plain) s
        else (if c then with_plain (raise s.settings e (happened d timeout_flag) (change_side e (expire d) s.plain)) s else s)))
    go true b c = frame-same s
    go false true c = frame-plain s _ refl refl refl
    go false false true = frame-raise s e (happened d timeout_flag) _ refl refl refl
    go false false false = frame-same s

frame-fold : {A : Type 0} (f : State → A → State) → ((z : State) (x : A) → Frame z (f z x)) → (s : State) (xs : List A) → Frame s
    (fold f s xs)
frame-fold f each s [] = frame-same s
frame-fold f each s (x ∷ xs) = frame-then s (f s x) _ (each s x) (frame-fold f each (f s x) xs)

-- a turn began at this time: the time and the number of turns are new, and else the frame is as before
pub record TurnFrame (s new : State) (ms : ℕ) : Type 0 where
  pub settings : new.settings ≡ s.settings
  pub opened : new.plain.opened ≡ s.plain.opened
  pub time : new.plain.time ≡ ms
  pub turn : new.plain.turn ≡ s.plain.turn + 1
  pub reads : (n : ℕ) → ReadsWithin n s → ReadsWithin n new

taken-frame : (g : Settings) (ms : ℕ) (p : Plain) →
    ((timers_taken g (turned_to ms p)).opened ≡ p.opened) × ((timers_taken g (turned_to ms p)).time ≡ ms)
    × ((timers_taken g (turned_to ms p)).turn ≡ p.turn + 1)
taken-frame g ms p =
    let q : Plain = turned_to ms p in
    go (record q { timers = filter (λ x. nat_lt ms x.deadline) q.timers }) ((filter (λ x. nat_le x.deadline ms) q.timers))
  where
    raised : (z : Plain) (x : Timer) → ((raise g x.side why.Timer z).opened ≡ z.opened) × ((raise g x.side why.Timer z).time ≡ z.time)
        × ((raise g x.side why.Timer z).turn ≡ z.turn)
    raised z x = by_hook (has_hook g x.side && is_live z x.side)
      where
        by_hook : (b : Bool) → let y : Plain = if b then record z { due = with_reason x.side why.Timer z.due } else z in
            (y.opened ≡ z.opened) × (y.time ≡ z.time) × (y.turn ≡ z.turn)
        by_hook true = (refl, refl, refl)
        by_hook false = (refl, refl, refl)

    go : (z : Plain) (xs : List Timer) → ((fold (λ y x. raise g x.side why.Timer y) z xs).opened ≡ z.opened)
        × ((fold (λ y x. raise g x.side why.Timer y) z xs).time ≡ z.time) × ((fold (λ y x. raise g x.side why.Timer y) z xs).turn ≡ z.turn)
    go z [] = (refl, refl, refl)
    go z (x ∷ xs) = let a = raised z x in let b = go (raise g x.side why.Timer z) xs in (b.0 ∙ a.0, b.1 ∙ a.1, b.2 ∙ a.2)

pub frame-begun : (s : State) (ms : ℕ) → TurnFrame s (begun s ms) ms
frame-begun s ms =
    let p : Plain = timers_taken s.settings (turned_to ms s.plain) in
    let at_time : State = with_plain p (record s { groups = all_refilled ms s.groups }) in
    let a = taken-frame s.settings ms s.plain in
    let f = frame-fold side_timed (λ z e. frame-fold (timed e) (λ y d. frame-timed y e d) z both_ways) at_time (all_sides at_time.plain) in
    record { settings = f.settings; opened = f.opened ∙ a.0; time = f.time ∙ a.1; turn = f.turn ∙ a.2; reads = λ n k. f.reads n k }
