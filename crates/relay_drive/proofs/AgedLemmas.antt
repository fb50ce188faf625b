-- What each step of a turn leaves of the sides: there are as many, a freed one stays freed, and no step makes anything to be fired.
use Rattle.std.proofs.Common.{◌≡◌, ℕ, zero, suc, Bool, true, false, ◌&&◌, not, nat_le, nat_lt}
use Rattle.std.proofs.Common.{if◌then◌else◌, List, [], ◌∷◌, length, fold, None, get_or, set, refl, ◌∙◌}
use Rattle.std.proofs.Common.{ap}
use Rattle.std.specs.Prelude.{filter}
use Rattle.std.proofs.lemmas.List.{length-set}
use Rattle.token_bucket.specs.declared.limit.Dir.{Dir}
use Rattle.token_bucket.specs.declared.limit.Dir.TheVariants as dir
use Rattle.ev_types.specs.declared.act.Act.{Act}
use Rattle.ev_types.specs.declared.act.Act.TheVariants as act
use Rattle.ev_types.specs.declared.answer.ConnAnswer.{ConnAnswer}
use Rattle.ev_types.specs.declared.answer.ConnAnswer.TheVariants as conn
use Rattle.ev_types.specs.declared.answer.ReadAnswer.{ReadAnswer}
use Rattle.ev_types.specs.declared.answer.ReadAnswer.TheVariants as read
use Rattle.ev_types.specs.declared.answer.WriteAnswer.{WriteAnswer}
use Rattle.ev_types.specs.declared.answer.WriteAnswer.TheVariants as write
use Rattle.ev_types.specs.declared.side.SideId.{SideId}
use Rattle.ev_types.specs.declared.why.Why.{Why}
use Rattle.ev_types.specs.declared.why.Why.TheVariants as why
use Rattle.ev_types.specs.Sides.{number, peer}
use Rattle.relay_core.specs.declared.close.Closing.{Closing}
use Rattle.relay_core.specs.declared.close.Closing.TheVariants as closing
use Rattle.relay_core.specs.Steps.{after_closing}
use Rattle.relay_model.specs.Asks.{enabled}
use Rattle.relay_model.specs.Due.{with_reason, without_reasons}
use Rattle.relay_model.specs.Moments.{is_timed, active_at, both_ways, timers_taken, has_run_out, expire}
use Rattle.relay_model.specs.Plain as plain
use Rattle.relay_model.specs.Plain.{Plain, PlainSide, Timer, no_side, side_at, put_side, put_flow, change_side, change_flow, is_live}
use Rattle.relay_model.specs.Plain.{all_sides}
use Rattle.relay_model.specs.Reasons.{has_hook, raise, happened, timeout_flag, end_flag, error_flag}
use Rattle.relay_model.specs.Turn.{turned_to}
use Rattle.rate_group.specs.Steps.{all_refilled}
use Rattle.relay_state.specs.Asking.{asked}
use Rattle.relay_state.specs.Closing.{in_side, out_side, freed}
use Rattle.relay_state.specs.Passage.{Passage}
use Rattle.relay_state.specs.Passing.{with_bad, with_passage, read_run}
use Rattle.relay_state.specs.Rooms.{wants, input_length, output_length}
use Rattle.relay_state.specs.Serving.{raise_read, raise_write, after_conn, with_got, after_got, after_read, flow_given, with_taken}
use Rattle.relay_state.specs.Serving.{after_took, after_write}
use Rattle.relay_state.specs.State.{State, with_plain}
use Rattle.relay_state.specs.Time.{timed, side_timed, begun}

-- The plain state

-- a side is replaced by one that is freed where it was
dead-set : (xs : List PlainSide) (j i : ℕ) (x : PlainSide) → ((get_or xs j no_side).live ≡ false → x.live ≡ false) →
    (get_or xs i no_side).live ≡ false → (get_or (set xs j x) i no_side).live ≡ false
dead-set [] j i x h k = k
dead-set (y ∷ ys) zero zero x h k = h k
dead-set (y ∷ ys) zero (suc i) x h k = k
dead-set (y ∷ ys) (suc j) zero x h k = k
dead-set (y ∷ ys) (suc j) (suc i) x h k = dead-set ys j i x h k

-- as many links and sides, and a freed one is freed
pub record Ages (p q : Plain) : Type 0 where
  pub opened : q.opened ≡ p.opened
  pub many : length q.sides ≡ length p.sides
  pub freed : (e : SideId) → is_live p e ≡ false → is_live q e ≡ false

ages-then : {p m q : Plain} → Ages p m → Ages m q → Ages p q
ages-then f g = record { opened = g.opened ∙ f.opened; many = g.many ∙ f.many; freed = λ e h. g.freed e (f.freed e h) }

-- the same sides
ages-like : (p q : Plain) → q.opened ≡ p.opened → q.sides ≡ p.sides → Ages p q
ages-like p q o s = record { opened = o; many = ap length s; freed = λ e h. ap (λ xs. (get_or xs (number e) no_side).live) s ∙ h }

ages-same : (p : Plain) → Ages p p
ages-same p = ages-like p p refl refl

-- one side changed
ages-side : (e : SideId) (x : PlainSide) (p : Plain) → (is_live p e ≡ false → x.live ≡ false) → Ages p (put_side e x p)
ages-side e x p h = record {
  opened = refl;
  many = length-set p.sides (number e) x;
  freed = λ z k. dead-set p.sides (number e) (number z) x h k;
}

ages-raise : (e : SideId) (y : Why) (b : Bool) {p q : Plain} → Ages p q → Ages p (if b then record q { due = with_reason e y q.due } else q)
ages-raise e y true h = record { opened = h.opened; many = h.many; freed = h.freed }
ages-raise e y false h = h

active-live : (time : ℕ) (d : Dir) (x : PlainSide) → (active_at time d x).live ≡ x.live
active-live time dir.Read x = refl
active-live time dir.Write x = refl

expire-live : (d : Dir) (x : PlainSide) → (expire d x).live ≡ x.live
expire-live dir.Read x = refl
expire-live dir.Write x = refl

-- The state

-- as many links and sides, a freed one is freed, and where nothing is to be fired, nothing is
pub record Aged (s new : State) : Type 0 where
  pub settings : new.settings ≡ s.settings
  pub plain : Ages s.plain new.plain
  pub batch : s.batch ≡ [] → new.batch ≡ []

pub aged-same : (s : State) → Aged s s
aged-same s = record { settings = refl; plain = ages-same s.plain; batch = λ h. h }

aged-then : {s m new : State} → Aged s m → Aged m new → Aged s new
aged-then f g = record { settings = g.settings ∙ f.settings; plain = ages-then f.plain g.plain; batch = λ h. g.batch (f.batch h) }

aged-plain : (s : State) (p : Plain) → Ages s.plain p → Aged s (with_plain p s)
aged-plain s p h = record { settings = refl; plain = h; batch = λ k. k }

aged-if : (b : Bool) (s x y : State) → Aged s x → Aged s y → Aged s (if b then x else y)
aged-if true s x y h k = h
aged-if false s x y h k = k

-- a side was changed that lives as before, and then a reason became due
aged-told : (s : State) (e : SideId) (x : PlainSide) (y : Why) → (is_live s.plain e ≡ false → x.live ≡ false) →
    Aged s (with_plain (raise s.settings e y (put_side e x s.plain)) s)
aged-told s e x y h =
    let p : Plain = put_side e x s.plain in
    aged-plain s (raise s.settings e y p) (ages-raise e y (has_hook s.settings e && is_live p e) (ages-side e x s.plain h))

aged-raised : (s : State) (e : SideId) (y : Why) → Aged s (with_plain (raise s.settings e y s.plain) s)
aged-raised s e y =
    aged-plain s (raise s.settings e y s.plain) (ages-raise e y (has_hook s.settings e && is_live s.plain e) (ages-same s.plain))

aged-raise_read : (s : State) (e : SideId) → Aged s (raise_read e s)
aged-raise_read s e = aged-if (nat_le (side_at s.plain e).marks.read_low (input_length s e)) s _ s (aged-raised s e why.Read) (aged-same s)

aged-raise_write : (s : State) (e : SideId) → Aged s (raise_write e s)
aged-raise_write s e =
    aged-if (nat_le (output_length s e) (side_at s.plain e).marks.write_low) s _ s (aged-raised s e why.Write) (aged-same s)

pub aged-conn : (s : State) (e : SideId) (answer : ConnAnswer) → Aged s (after_conn s e answer)
aged-conn s e conn.Connected = aged-told s e _ why.Connected (λ h. h)
aged-conn s e conn.Pending = aged-same s
aged-conn s e conn.Failed = aged-told s e _ (happened dir.Write error_flag) (λ h. h)

pub aged-passage : (s : State) (e : SideId) (x : Passage) → Aged s (with_passage e x s)
aged-passage s e x =
    let p : Plain = put_flow e x.flow s.plain in
    let q : Plain = change_side e (with_bad x.from_bad) p in
    let far : Ages q (change_side (peer e) (with_bad x.to_bad) q) =
    ages-side (peer e) (with_bad x.to_bad (side_at q (peer e))) q (λ h. h) in
    let near : Ages p q = ages-side e (with_bad x.from_bad (side_at p e)) p (λ h. h) in
    record { settings = refl; plain = ages-then (ages-like s.plain p refl refl) (ages-then near far); batch = λ h. h }

aged-got : (s : State) (e : SideId) (bytes : List ℕ) → Aged s (after_got s e bytes)
aged-got s e bytes =
    let got : Aged s (with_got s e bytes) = record {
      settings = refl;
      plain = ages-side e (active_at s.plain.time dir.Read (side_at s.plain e)) s.plain (λ h. h);
      batch = λ h. h;
    } in
    aged-then got (aged-then (aged-passage (with_got s e bytes) e _) (aged-raise_read (read_run e (with_got s e bytes)) e))

pub aged-read : (s : State) (e : SideId) (answer : ReadAnswer) (bytes : List ℕ) → Aged s (after_read s e answer bytes)
aged-read s e (read.Got n) bytes = aged-got s e bytes
aged-read s e read.Ended bytes = aged-told s e _ (happened dir.Read end_flag) (λ h. h)
aged-read s e read.NotYet bytes = aged-same s
aged-read s e read.Failed bytes = aged-told s e _ (happened dir.Read error_flag) (λ h. h)

aged-took : (s : State) (e : SideId) (n : ℕ) → Aged s (after_took s e n)
aged-took s e n =
    let p : Plain = change_flow (peer e) (flow_given n) s.plain in
    let taken : Aged s (with_taken s e n) = record {
      settings = refl;
      plain = ages-then (ages-like s.plain p refl refl) (ages-side e (active_at s.plain.time dir.Write (side_at p e)) p (λ h. h));
      batch = λ h. h;
    } in
    aged-then taken (aged-raise_write (with_taken s e n) e)

pub aged-write : (s : State) (e : SideId) (answer : WriteAnswer) → Aged s (after_write s e answer)
aged-write s e (write.Took n) = aged-took s e n
aged-write s e write.NotYet = aged-same s
aged-write s e write.Failed = aged-told s e _ (happened dir.Write error_flag) (λ h. h)
aged-write s e write.NoMemory = aged-same s

aged-freed : (s : State) (e : SideId) → Aged s (freed e s)
aged-freed s e =
    let p : Plain = plain.freed e s.plain in
    record {
      settings = refl;
      plain = record {
        opened = refl;
        many = (ages-side e (record (side_at s.plain e) { live = false; group = None }) s.plain (λ h. refl)).many;
        freed = (ages-side e (record (side_at s.plain e) { live = false; group = None }) s.plain (λ h. refl)).freed;
      };
      batch = λ h. ap (without_reasons e) h;
    }

pub aged-closing : (s : State) (step : Closing) → Aged s (after_closing s step)
aged-closing s (closing.Faulty e) = aged-freed s e
aged-closing s (closing.EndWriting e) = aged-plain s _ (ages-side e _ s.plain (λ h. h))
aged-closing s (closing.BothDone k) = aged-then (aged-freed s (in_side k)) (aged-freed (freed (in_side k) s) (out_side k))
aged-closing s (closing.PeerGone e) = aged-freed s e
aged-closing s (closing.Shut e) = aged-plain s _ (ages-side e _ s.plain (λ h. h))

-- Time

aged-timed : (s : State) (e : SideId) (d : Dir) → Aged s (timed e s d)
aged-timed s e d = go (not (is_timed (side_at s.plain e) d)) (not (wants s e d)) (has_run_out (side_at s.plain e) d s.plain.time)
  where
    go : (a b c : Bool) → Aged s (if a then s
        else (if b then with_plain (change_side e (active_at s.plain.time d) s.plain) s
        else (if c then with_plain (raise s.settings e (happened d timeout_flag) (change_side e (expire d) s.plain)) s else s)))
    go true b c = aged-same s
    go false true c = aged-plain s _ (ages-side e (active_at s.plain.time d (side_at s.plain e)) s.plain
        (λ h. active-live s.plain.time d (side_at s.plain e) ∙ h))
    go false false true = aged-told s e (expire d (side_at s.plain e)) (happened d timeout_flag)
        (λ h. expire-live d (side_at s.plain e) ∙ h)
    go false false false = aged-same s

aged-fold : {A : Type 0} (f : State → A → State) → ((z : State) (x : A) → Aged z (f z x)) → (s : State) (xs : List A) → Aged s (fold f s xs)
aged-fold f each s [] = aged-same s
aged-fold f each s (x ∷ xs) = aged-then (each s x) (aged-fold f each (f s x) xs)

ages-taken : (s : State) (ms : ℕ) → Ages s.plain (timers_taken s.settings (turned_to ms s.plain))
ages-taken s ms =
    let q : Plain = turned_to ms s.plain in
    let r : Plain = record q { timers = filter (λ x. nat_lt ms x.deadline) q.timers } in
    ages-then (ages-like s.plain r refl refl) (go r (filter (λ x. nat_le x.deadline ms) q.timers))
  where
    go : (z : Plain) (xs : List Timer) → Ages z (fold (λ y x. raise s.settings x.side why.Timer y) z xs)
    go z [] = ages-same z
    go z (x ∷ xs) =
        let one : Ages z (raise s.settings x.side why.Timer z) =
        ages-raise x.side why.Timer (has_hook s.settings x.side && is_live z x.side) (ages-same z) in
        ages-then one (go (raise s.settings x.side why.Timer z) xs)

pub aged-begun : (s : State) (ms : ℕ) → Aged s (begun s ms)
aged-begun s ms =
    let refilled : State = record s { groups = all_refilled ms s.groups } in
    let at_time : State = with_plain (timers_taken s.settings (turned_to ms s.plain)) refilled in
    let here : Aged s at_time = record { settings = refl; plain = ages-taken s ms; batch = λ h. h } in
    aged-then here
    (aged-fold side_timed (λ z e. aged-fold (timed e) (λ y d. aged-timed y e d) z both_ways) at_time (all_sides at_time.plain))

-- Asks

enabled-live : (d : Dir) (b : Bool) (x : PlainSide) → (enabled d b x).live ≡ x.live
enabled-live dir.Read b x = refl
enabled-live dir.Write b x = refl

pub aged-asked : (a : Act) (s : State) → Aged s (asked a s)
aged-asked (act.Free e) s = aged-freed s e
aged-asked (act.Enable e d) s = aged-plain s _ (ages-side e _ s.plain (λ h. enabled-live d true (side_at s.plain e) ∙ h))
aged-asked (act.Disable e d) s = aged-plain s _ (ages-side e _ s.plain (λ h. enabled-live d false (side_at s.plain e) ∙ h))
aged-asked (act.Marks e d low high) s = aged-plain s _ (ages-side e _ s.plain (λ h. h))
aged-asked (act.Timeouts e r w) s = aged-plain s _ (ages-side e _ s.plain (λ h. h))
aged-asked (act.Rate e cfg) s =
    record { settings = refl; plain = ages-side e _ s.plain (λ h. h); batch = λ h. h }
aged-asked (act.Join e n) s = record { settings = refl; plain = ages-side e _ s.plain (λ h. h); batch = λ h. h }
aged-asked (act.Leave e) s = record { settings = refl; plain = ages-side e _ s.plain (λ h. h); batch = λ h. h }
aged-asked (act.Trigger e dir.Read) s = aged-raise_read s e
aged-asked (act.Trigger e dir.Write) s = aged-raise_write s e
aged-asked (act.Timer e delay) s = aged-plain s _ (ages-like s.plain _ refl refl)
aged-asked (act.Cancel e) s = aged-plain s _ (ages-like s.plain _ refl refl)
aged-asked (act.Incref e) s = aged-plain s _ (ages-side e _ s.plain (λ h. h))
aged-asked (act.Decref e) s = aged-plain s _ (ages-side e _ s.plain (λ h. h))
aged-asked act.Stop s = aged-plain s s.plain (ages-same s.plain)
