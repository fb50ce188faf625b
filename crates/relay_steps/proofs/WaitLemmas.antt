-- A read doesn't make a side connect.
use Rattle.std.proofs.Common.{◌≡◌, ℕ, Bool, true, false, ◌&&◌, nat_le, if◌then◌else◌, List, refl}
use Rattle.token_bucket.specs.declared.limit.Dir.TheVariants as dir
use Rattle.ev_types.specs.declared.side.SideId.{SideId}
use Rattle.ev_types.specs.declared.answer.ReadAnswer.{ReadAnswer}
use Rattle.ev_types.specs.declared.answer.ReadAnswer.TheVariants as read
use Rattle.ev_types.specs.declared.why.Why.{Why}
use Rattle.ev_types.specs.declared.why.Why.TheVariants as why
use Rattle.ev_types.specs.Sides.{peer}
use Rattle.relay_model.specs.Plain.{Plain, PlainSide, side_at, put_side, put_flow, change_side}
use Rattle.relay_model.specs.Reasons.{raise, happened, end_flag, error_flag}
use Rattle.relay_model.specs.Moments.{active_at}
use Rattle.relay_model.specs.Rooms.{read_mark, is_connecting}
use Rattle.relay_model.proofs.KeepsLemmas.{Keeps, Keeps-refl, Keeps-trans, Keeps-side, Keeps-put, Keeps-flow, Keeps-raise}
use Rattle.relay_state.specs.State.{State, with_plain}
use Rattle.relay_state.specs.Passage.{Passage, read_part}
use Rattle.relay_state.specs.Passing.{with_bad, passage_at, plain_passed, read_run}
use Rattle.relay_state.specs.Rooms.{input_length}
use Rattle.relay_state.specs.Serving.{raise_read, with_got, after_got, after_read}

-- whether a side waits to be connected
abbrev waits : PlainSide → Bool
waits x = x.live && x.connecting

passed-waits : (e : SideId) (x : Passage) (p : Plain) → Keeps waits p (plain_passed e x p)
passed-waits e x p =
    let a : Plain = put_flow e x.flow p in
    let b : Plain = change_side e (with_bad x.from_bad) a in
    Keeps-trans waits p a _ (Keeps-flow waits e x.flow p)
    (Keeps-trans waits a b _ (Keeps-put waits e (with_bad x.from_bad (side_at a e)) a refl)
    (Keeps-put waits (peer e) (with_bad x.to_bad (side_at b (peer e))) b refl))

raised-waits : (e : SideId) (s : State) → Keeps waits s.plain (raise_read e s).plain
raised-waits e s = go (nat_le (side_at s.plain e).marks.read_low (input_length s e))
  where
    go : (b : Bool) → Keeps waits s.plain (if b then with_plain (raise s.settings e why.Read s.plain) s else s).plain
    go true = Keeps-raise waits s.settings e why.Read s.plain
    go false = Keeps-refl waits s.plain

got-waits : (s : State) (e : SideId) (bytes : List ℕ) → Keeps waits s.plain (after_got s e bytes).plain
got-waits s e bytes =
    let got : State = with_got s e bytes in
    Keeps-trans waits s.plain got.plain _ (Keeps-put waits e (active_at s.plain.time dir.Read (side_at s.plain e)) s.plain refl)
    (Keeps-trans waits got.plain (read_run e got).plain _
    (passed-waits e (read_part (read_mark got.plain e) false (passage_at got e)) got.plain) (raised-waits e (read_run e got)))

failed-waits : (s : State) (e : SideId) (x : PlainSide) (y : Why) → waits x ≡ waits (side_at s.plain e) →
    Keeps waits s.plain (raise s.settings e y (put_side e x s.plain))
failed-waits s e x y h =
    Keeps-trans waits s.plain (put_side e x s.plain) _ (Keeps-put waits e x s.plain h) (Keeps-raise waits s.settings e y
    (put_side e x s.plain))

pub read-waits : (s : State) (e : SideId) (answer : ReadAnswer) (bytes : List ℕ) →
    is_connecting (after_read s e answer bytes).plain e ≡ is_connecting s.plain e
read-waits s e (read.Got n) bytes = Keeps-side waits s.plain _ e (got-waits s e bytes)
read-waits s e read.Ended bytes =
    Keeps-side waits s.plain _ e (failed-waits s e (record (side_at s.plain e) { ended = true; reads = false })
    (happened dir.Read end_flag) refl)
read-waits s e read.NotYet bytes = refl
read-waits s e read.Failed bytes =
    Keeps-side waits s.plain _ e (failed-waits s e (record (side_at s.plain e) { failed = true; reads = false })
    (happened dir.Read error_flag) refl)
