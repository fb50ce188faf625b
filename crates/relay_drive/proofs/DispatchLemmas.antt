-- What hooks put and leave as it is: no port hears of their entries, and these are few.
use Rattle.std.proofs.Common.{◌≡◌, ◌⊎◌, inl, inr, ℕ, zero, suc, ◌+◌, ◌*◌, ◌≤◌, Bool, true, false, ◌&&◌, not, nat_le, if◌then◌else◌, List}
use Rattle.std.proofs.Common.{[], ◌∷◌, ◌++◌, length, Option, Some, None, refl, sym, ◌∙◌, ap, subst, arith, append_assoc, append-nil}
use Rattle.std.proofs.Common.{length-append}
use Rattle.std.specs.Prelude.{filter}
use Rattle.std.specs.List.{All, list_all}
use Rattle.std.proofs.lemmas.List.Elements.{All-nil, All-cons, All-append}
use Rattle.token_bucket.specs.declared.limit.Dir.TheVariants as dir
use Rattle.ev_types.specs.declared.act.Act.{Act}
use Rattle.ev_types.specs.declared.act.Act.TheVariants as act
use Rattle.ev_types.specs.declared.answer.AskAnswer.{AskAnswer}
use Rattle.ev_types.specs.declared.answer.AskAnswer.TheVariants as ask
use Rattle.ev_types.specs.declared.entry.Entry.{Entry}
use Rattle.ev_types.specs.declared.entry.Entry.TheVariants as entry
use Rattle.ev_types.specs.declared.side.SideId.{SideId}
use Rattle.ev_types.specs.declared.why.Cause.TheVariants as cause
use Rattle.ev_types.specs.declared.why.Why.{Why}
use Rattle.ev_types.specs.declared.why.Why.TheVariants as why
use Rattle.ev_types.specs.AskNumbers.{AskFits, AsksFit, IsAct}
use Rattle.ev_types.specs.Growth.{Grew}
use Rattle.ev_types.specs.Sides.{same_end}
use Rattle.ev_types.specs.Told.{EndTold, PortTold}
use Rattle.ev_types.specs.Trace.{Event, Trace, bytes_beside}
use Rattle.ev_port.specs.Calls.{IsUnheard}
use Rattle.ev_port.specs.Counting.{counted}
use Rattle.ev_port.specs.EndSteps.{EndWent, no_step}
use Rattle.ev_port.specs.Faults.{Faults}
use Rattle.ev_port.specs.Vouching.{LongerBy}
use Rattle.ev_port.proofs.StepLemmas.{EndWent-none}
use Rattle.relay_model.specs.Asks.{names_no_live, has_bad_value, names_no_group, has_too_many, refusal}
use Rattle.relay_model.specs.Close.{CloseStep, freed_entry}
use Rattle.relay_model.specs.Due.{Due, Reason, batch, reasons, reason_where, event_reason, with_reason}
use Rattle.relay_model.specs.Plain.{side_at, is_live}
use Rattle.relay_model.specs.Plays.{is_served}
use Rattle.relay_model.specs.Reasons.{has_hook, raise}
use Rattle.relay_model.specs.Told.{has_failed}
use Rattle.relay_state.specs.Asking.{asked, ask_events, dispatching, left_to_fire, Answered, AsksOne, AsksAll, Fires, FiresSome, Dispatches}
use Rattle.relay_state.specs.Asking.{StopsAt}
use Rattle.relay_state.specs.Rooms.{input_length, output_length}
use Rattle.relay_state.specs.State.{State, with_plain}
use Rattle.relay_steps.proofs.FrameLemmas.{Frame, frame-same, frame-then, frame-plain, frame-closed}
use Rattle.relay_drive.specs.declared.run.Run.{Run}
use Rattle.relay_drive.specs.Advances.{Advances, has_poll_failed}
use Rattle.relay_drive.specs.DispatchPhase.{DispatchesAll, CutFire, CutDispatch}
use Rattle.relay_drive.specs.DispatchPhase.CutFire.{no_room, in_fire}
use Rattle.relay_drive.specs.Known.{Point, known}
use Rattle.relay_drive.proofs.CalmLemmas.{Same, is_calm, served_list}
use Rattle.relay_drive.proofs.ClosingLemmas.{port_stays}
use Rattle.relay_drive.proofs.HeardLemmas.{goes_served, Heard-quiet, FaultsStay-same}
use Rattle.relay_drive.proofs.MeantFolds.{Each_is}
use Rattle.relay_drive.proofs.TiedLemmas.{step_of}
use Rattle.relay_drive.proofs.TookLemmas.{WaitsNoMore}

-- Entries that no port hears

-- a fire, an ask or a free, with no bytes
abbrev pub IsOwn : Event → Type 0
IsOwn x = IsUnheard x.0 × (x.1 ≡ [])

abbrev pub AllOwn : Trace → Type 0
AllOwn u = Each_is IsOwn u

pub own-append : (t u : Trace) → AllOwn t → AllOwn u → AllOwn (t ++ u)
own-append [] u h k = k
own-append (x ∷ t) u h k = (h.0, own-append t u h.1 k)

-- they stand behind accepting
own-served : (u : Trace) → AllOwn u → list_all is_served u ≡ true
own-served [] h = refl
own-served ((entry.Fired side y, b) ∷ u) h = own-served u h.1
own-served ((entry.Asked side a r, b) ∷ u) h = own-served u h.1
own-served ((entry.Freed side cause moved given, b) ∷ u) h = own-served u h.1
own-served ((_, b) ∷ u) h = absurd (h.0.0)

pub own-calm : (u : Trace) → AllOwn u → list_all is_calm u ≡ true
own-calm u h = served_list u (own-served u h)

-- none of them tells of a fault
own-unfailed : (e : SideId) (u : Trace) → AllOwn u → has_failed e u ≡ false
own-unfailed e [] h = refl
own-unfailed e ((entry.Fired side y, b) ∷ u) h = own-unfailed e u h.1
own-unfailed e ((entry.Asked side a r, b) ∷ u) h = own-unfailed e u h.1
own-unfailed e ((entry.Freed side cause moved given, b) ∷ u) h = own-unfailed e u h.1
own-unfailed e ((_, b) ∷ u) h = absurd (h.0.0)

own-polls : (u : Trace) → AllOwn u → has_poll_failed u ≡ false
own-polls [] h = refl
own-polls ((entry.Fired side y, b) ∷ u) h = own-polls u h.1
own-polls ((entry.Asked side a r, b) ∷ u) h = own-polls u h.1
own-polls ((entry.Freed side cause moved given, b) ∷ u) h = own-polls u h.1
own-polls ((_, b) ∷ u) h = absurd (h.0.0)

-- nor of what an end did
own-says : (e : SideId) (u : Trace) → AllOwn u → step_of e u ≡ no_step
own-says e [] h = refl
own-says e ((entry.Fired side y, b) ∷ u) h = own-says e u h.1
own-says e ((entry.Asked side a r, b) ∷ u) h = own-says e u h.1
own-says e ((entry.Freed side cause moved given, b) ∷ u) h = own-says e u h.1
own-says e ((_, b) ∷ u) h = absurd (h.0.0)

-- an entry that has no bytes beside it
abbrev pub IsBare : Event → Type 0
IsBare x = (bytes_beside x.0 ≡ 0) × (x.1 ≡ [])

own-bare : (u : Trace) → AllOwn u → All IsBare u
own-bare [] h = All-nil IsBare
own-bare ((entry.Fired side y, b) ∷ u) h = All-cons IsBare (entry.Fired side y, b) u (refl, h.0.1) (own-bare u h.1)
own-bare ((entry.Asked side a r, b) ∷ u) h = All-cons IsBare (entry.Asked side a r, b) u (refl, h.0.1) (own-bare u h.1)
own-bare ((entry.Freed side cause moved given, b) ∷ u) h =
    All-cons IsBare (entry.Freed side cause moved given, b) u (refl, h.0.1) (own-bare u h.1)
own-bare ((_, b) ∷ u) h = absurd (h.0.0)

-- a port that vouches for every entry that no port hears vouches for all of them
own-vouched : {Plan : Type 0} (v : Plan → Trace → Type 0) → ((e : Entry) → IsUnheard e → LongerBy v v ((e, []) ∷ [])) → (u : Trace) →
    AllOwn u → LongerBy v v u
own-vouched v law [] h plan t k = subst (v plan) (sym (append-nil t)) k
own-vouched v law (x ∷ u) h plan t k =
    let e : Entry = x.0 in
    let bare : t ++ (e, []) ∷ [] ≡ t ++ x ∷ [] = sym (ap (λ (b : List ℕ). t ++ (e, b) ∷ []) h.0.1) in
    let first : v plan (t ++ x ∷ []) = subst (v plan) bare (law e h.0.0 plan t k) in
    subst (v plan) (append_assoc t (x ∷ []) u) (own-vouched v law u h.1 plan (t ++ x ∷ []) first)

-- what all such entries are
pub record Unheard (u : Trace) : Type 0 where
  pub served : list_all is_served u ≡ true
  pub calm : list_all is_calm u ≡ true
  pub unfailed : (e : SideId) → has_failed e u ≡ false
  pub polls : has_poll_failed u ≡ false
  pub says : (e : SideId) → step_of e u ≡ no_step
  pub bare : All IsBare u

pub own-unheard : (u : Trace) → AllOwn u → Unheard u
own-unheard u h = record {
  served = own-served u h;
  calm = own-calm u h;
  unfailed = λ e. own-unfailed e u h;
  polls = own-polls u h;
  says = λ e. own-says e u h;
  bare = own-bare u h;
}

-- The relay went on by such entries, and the port was not called.
pub goes_own : {Plan : Type 0} {R : State → Trace → State → Type 0} {old new : Run} (v none_waits : Plan → Trace → Type 0)
    (told : PortTold) (ends : SideId → EndTold) → WaitsNoMore none_waits →
    ((e : Entry) → IsUnheard e → LongerBy v v ((e, []) ∷ [])) → (l l' : Option Trace) (f : Faults) (a : Trace) → AllOwn a →
    R old.relay.state a new.relay.state → Same old.relay.state new.relay.state →
    counted new.entries 0 ≡ counted old.entries (length a) → Grew l l' a →
    Advances R false old new l l' (known Point.Accepted v none_waits told ends) (known Point.Accepted v none_waits told ends) f f
goes_own v none_waits told ends waits law l l' f a own does same entries list =
    let u = own-unheard a own in
    goes_served waits l l' f f a u.served does same entries list (own-vouched v law a own)
    (λ e. subst (λ z. EndWent (ends e) (ends e) z) (sym (u.says e)) (EndWent-none (ends e))) (port_stays told)
    (Heard-quiet f f a (FaultsStay-same f) u.unfailed u.polls)

-- What asks leave of the frame

frame-if : (b : Bool) (s x y : State) → Frame s x → Frame s y → Frame s (if b then x else y)
frame-if true s x y h k = h
frame-if false s x y h k = k

frame-raised : (s : State) (e : SideId) (y : Why) → Frame s (with_plain (raise s.settings e y s.plain) s)
frame-raised s e y = go (has_hook s.settings e && is_live s.plain e)
  where
    go : (b : Bool) → Frame s (with_plain (if b then record (s.plain) { due = with_reason e y s.plain.due } else s.plain) s)
    go true = frame-plain s _ refl refl refl
    go false = frame-plain s s.plain refl refl refl

pub frame-asked : (a : Act) (s : State) → Frame s (asked a s)
frame-asked (act.Free e) s = frame-closed s (CloseStep.PeerGone e)
frame-asked (act.Enable e d) s = frame-plain s _ refl refl refl
frame-asked (act.Disable e d) s = frame-plain s _ refl refl refl
frame-asked (act.Marks e d low high) s = frame-plain s _ refl refl refl
frame-asked (act.Timeouts e read write) s = frame-plain s _ refl refl refl
frame-asked (act.Rate e cfg) s = record { settings = refl; opened = refl; time = refl; turn = refl; reads = λ n k. k }
frame-asked (act.Join e n) s = record { settings = refl; opened = refl; time = refl; turn = refl; reads = λ n k. k }
frame-asked (act.Leave e) s = record { settings = refl; opened = refl; time = refl; turn = refl; reads = λ n k. k }
frame-asked (act.Trigger e dir.Read) s =
    frame-if (nat_le (side_at s.plain e).marks.read_low (input_length s e)) s _ s (frame-raised s e why.Read) (frame-same s)
frame-asked (act.Trigger e dir.Write) s =
    frame-if (nat_le (output_length s e) (side_at s.plain e).marks.write_low) s _ s (frame-raised s e why.Write) (frame-same s)
frame-asked (act.Timer e delay) s = frame-plain s _ refl refl refl
frame-asked (act.Cancel e) s = frame-plain s _ refl refl refl
frame-asked (act.Incref e) s = frame-plain s _ refl refl refl
frame-asked (act.Decref e) s = frame-plain s _ refl refl refl
frame-asked act.Stop s = frame-plain s s.plain refl refl refl

-- What they leave of the batch

shrinks : (p : Reason → Bool) (xs : List Reason) → length (filter p xs) ≤ length xs
shrinks p [] = omega arith
shrinks p (x ∷ xs) = go (shrinks p xs) (p x)
  where
    go : length (filter p xs) ≤ length xs → (b : Bool) → length (if b then x ∷ filter p xs else filter p xs) ≤ suc (length xs)
    go k true = omega (arith, k)
    go k false = omega (arith, k)

abbrev LeavesNoMore : State → State → Type 0
LeavesNoMore s new = length new.batch ≤ length s.batch

no_more-if : (b : Bool) (s x y : State) → LeavesNoMore s x → LeavesNoMore s y → LeavesNoMore s (if b then x else y)
no_more-if true s x y h k = h
no_more-if false s x y h k = k

pub asked-shrinks : (a : Act) (s : State) → length (asked a s).batch ≤ length s.batch
asked-shrinks (act.Free e) s = shrinks (λ r. not (same_end r.0 e)) s.batch
asked-shrinks (act.Trigger e dir.Read) s =
    no_more-if (nat_le (side_at s.plain e).marks.read_low (input_length s e)) s _ s (omega arith) (omega arith)
asked-shrinks (act.Trigger e dir.Write) s =
    no_more-if (nat_le (output_length s e) (side_at s.plain e).marks.write_low) s _ s (omega arith) (omega arith)
asked-shrinks a s = omega arith

-- Asks and fires

-- What hooks do: at most n entries that no port hears, with numbers that fit, and the frame stays.
pub record ByHooks (n : ℕ) (s : State) (a : Trace) (new : State) : Type 0 where
  pub own : AllOwn a
  pub fits : AsksFit a
  pub few : length a ≤ n
  pub frame : Frame s new

pub by_none : (n : ℕ) (s new : State) (a : Trace) → a ≡ [] → new ≡ s → ByHooks n s a new
by_none n s new a h k = record {
  own = subst AllOwn (sym h) tt;
  fits = subst AsksFit (sym h) (All-nil AskFits);
  few = (let l = ap length h in omega (arith, l));
  frame = subst (Frame s) (sym k) (frame-same s);
}

pub by_both : (m n k : ℕ) (s mid new : State) (front back a : Trace) → m + n ≤ k → ByHooks m s front mid → ByHooks n mid back new →
    a ≡ front ++ back → ByHooks k s a new
by_both m n k s mid new front back a le f g j = record {
  own = subst AllOwn (sym j) (own-append front back f.own g.own);
  fits = subst AsksFit (sym j) (All-append AskFits front back f.fits g.fits);
  few = (let l = ap length j ∙ length-append front back in omega (arith, l, f.few, g.few, le));
  frame = frame-then s mid new f.frame g.frame;
}

-- one ask puts an entry, or two where it frees a side
one-own : (me : SideId) (s : State) (a : Act) (r : AskAnswer) → AllOwn (ask_events me s a r)
one-own me s (act.Free e) ask.Ok = ((tt, refl), ((tt, refl), tt))
one-own me s (act.Free e) r = ((tt, refl), tt)
one-own me s a r = ((tt, refl), tt)

one-few : (me : SideId) (s : State) (a : Act) (r : AskAnswer) → length (ask_events me s a r) ≤ 2
one-few me s (act.Free e) ask.Ok = omega arith
one-few me s (act.Free e) r = omega arith
one-few me s a r = omega arith

fits-one : (x : Event) → AskFits x → AsksFit (x ∷ [])
fits-one x h = All-cons AskFits x [] h (All-nil AskFits)

one-fits : (me : SideId) (s : State) (a : Act) (r : AskAnswer) → IsAct a → AsksFit (ask_events me s a r)
one-fits me s (act.Free e) ask.Ok h =
    let freed : Event = (freed_entry s.plain e cause.Hook, []) in
    All-cons AskFits (entry.Asked me (act.Free e) ask.Ok, []) (freed ∷ []) h (fits-one freed tt)
one-fits me s (act.Free e) r h = fits-one (entry.Asked me (act.Free e) r, []) h
one-fits me s a r h = fits-one (entry.Asked me a r, []) h

-- an ask is answered Ok and done, or nothing changes
pub one-leaves : {me : SideId} {a : Act} {r : AskAnswer} {s new : State} {added : Trace} → AsksOne me a r s added new →
    ((r ≡ ask.Ok) × (new ≡ asked a s)) ⊎ (new ≡ s)
one-leaves {a = a} {r = r} {s = s} {new = new} h = go (refusal s.settings s.plain a) h.answered
  where
    go : (o : Option AskAnswer) → Answered o s a r new → ((r ≡ ask.Ok) × (new ≡ asked a s)) ⊎ (new ≡ s)
    go (Some refused) k = inr k.1
    go None (inl done) = inl done
    go None (inr lacks) = inr lacks.2

-- a group that is named by an ask that nothing refuses is there
known-group : (a b c d : Bool) →
    (if a then Some ask.NotLive
    else (if b then Some ask.BadValue else (if c then Some ask.NoGroup else (if d then Some ask.TooManyRefs else None)))) ≡ None →
    c ≡ false
known-group true b c d h = absurd (cc)
known-group false true c d h = absurd (cc)
known-group false false true d h = absurd (cc)
known-group false false false d h = refl

-- and an ask is done only where the group that it names is there
pub one-done : {me : SideId} {a : Act} {r : AskAnswer} {s new : State} {added : Trace} → AsksOne me a r s added new →
    ((r ≡ ask.Ok) × (new ≡ asked a s) × (names_no_group s.settings a ≡ false)) ⊎ (new ≡ s)
one-done {a = a} {r = r} {s = s} {new = new} h = go (refusal s.settings s.plain a) refl h.answered
  where
    go : (o : Option AskAnswer) → refusal s.settings s.plain a ≡ o → Answered o s a r new →
        ((r ≡ ask.Ok) × (new ≡ asked a s) × (names_no_group s.settings a ≡ false)) ⊎ (new ≡ s)
    go (Some refused) is k = inr k.1
    go None is (inl done) = inl (
      done.0,
      done.1,
      known-group (names_no_live s.plain a) (has_bad_value s.plain a) (names_no_group s.settings a) (has_too_many s.plain a) is,
    )
    go None is (inr lacks) = inr lacks.2

pub ask-does : {me : SideId} {a : Act} {r : AskAnswer} {s new : State} {added : Trace} → AsksOne me a r s added new →
    ByHooks 2 s added new × (length new.batch ≤ length s.batch)
ask-does {me = me} {a = a} {r = r} {s = s} {new = new} h =
    let leaves = elim (one-leaves h) as (λ _. Frame s new × LeavesNoMore s new) [
      | inl k ↦ (
        subst (Frame s) (sym k.1) (frame-asked a s),
        subst (LeavesNoMore s) (sym k.1) (asked-shrinks a s),
      )
      | inr k ↦ (subst (Frame s) (sym k) (frame-same s), subst (LeavesNoMore s) (sym k) (omega arith))
    ] in (
      record {
        own = subst AllOwn (sym h.entries) (one-own me s a r);
        fits = subst AsksFit (sym h.entries) (one-fits me s a r h.fits);
        few = (let l = ap length h.entries in let k = one-few me s a r in omega (arith, l, k));
        frame = leaves.0;
      },
      leaves.1,
    )

pub asks-do : (me : SideId) (xs : List (Act × AskAnswer)) (s new : State) (a : Trace) → AsksAll me xs s a new →
    ByHooks (2 * length xs) s a new × (length new.batch ≤ length s.batch)
asks-do me [] s new a h =
    (by_none _ s new a h.0 h.1, (let l = ap (λ (z : State). length z.batch) h.1 in omega (arith, l)))
asks-do me (x ∷ xs) s new a h =
    let one = ask-does h.3 in
    let rest = asks-do me xs h.0 new h.2 h.4 in (
      by_both 2 (2 * length xs) (2 * length (x ∷ xs)) s h.0 new h.1 h.2 a (omega arith) one.0 rest.0 h.5,
      (let l = one.1 in let m = rest.1 in omega (arith, l, m)),
    )

-- what is left to fire stands in no frame
left-frame : (rs : List Reason) (s : State) → Frame s (left_to_fire rs s)
left-frame rs s = record { settings = refl; opened = refl; time = refl; turn = refl; reads = λ n k. k }

-- a fire takes one reason from the batch
pub fire-does : {stopped : Bool} {s new : State} {a : Trace} → Fires stopped s a new →
    ByHooks 513 s a new × (length new.batch + 1 ≤ length s.batch)
fire-does {s = s} {new = new} {a = a} h =
    let x : Event = (entry.Fired h.side h.reason, []) in
    let asks = asks-do h.side h.asks (left_to_fire h.rest s) new h.behind h.does in
    let begin : ByHooks 1 s (x ∷ []) (left_to_fire h.rest s) = record {
      own = ((tt, refl), tt);
      fits = All-cons AskFits x [] tt (All-nil AskFits);
      few = omega arith;
      frame = left-frame h.rest s;
    } in
    let many = h.few in (
      by_both 1 (2 * length h.asks) 513 s (left_to_fire h.rest s) new (x ∷ []) h.behind a (omega (arith, many)) begin asks.0 h.entries,
      (let l = ap (λ (rs : List Reason). length rs) h.first in let m = asks.1 in omega (arith, l, m)),
    )

pub fires-do : (n : ℕ) (s new : State) (a : Trace) → FiresSome n s a new →
    ByHooks (513 * n) s a new × (length new.batch + n ≤ length s.batch)
fires-do zero s new a h =
    (by_none _ s new a h.0 h.1, (let l = ap (λ (z : State). length z.batch) h.1 in omega (arith, l)))
fires-do (suc n) s new a h =
    let before = fires-do n s h.0 h.1 h.3 in
    let last = fire-does h.4 in (
      by_both (513 * n) 513 (513 * suc n) s h.0 new h.1 h.2 a (omega arith) before.0 last.0 h.5,
      (let l = before.1 in let m = last.1 in omega (arith, l, m)),
    )

-- Dispatch

event-most : (e : SideId) (o : Option ℕ) → length (event_reason e o) ≤ 1
event-most e None = omega arith
event-most e (Some flags) = omega arith

where-most : (b : Bool) (e : SideId) (y : Why) → length (reason_where b e y) ≤ 1
where-most true e y = omega arith
where-most false e y = omega arith

five : (a b c d e : List Reason) → length a ≤ 1 → length b ≤ 1 → length c ≤ 1 → length d ≤ 1 → length e ≤ 1 →
    length (a ++ b ++ c ++ d ++ e) ≤ 5
five a b c d e p q r s t =
    let w = length-append (a ++ b ++ c ++ d) e in
    let x = length-append (a ++ b ++ c) d in
    let y = length-append (a ++ b) c in
    let z = length-append a b in
    omega (arith, w, x, y, z, p, q, r, s, t)

-- an entry has at most five reasons
reasons-most : (d : Due) → length (reasons d) ≤ 5
reasons-most d =
    let c : List Reason = reason_where d.connected d.side why.Connected in
    let r : List Reason = reason_where d.read d.side why.Read in
    let w : List Reason = reason_where d.write d.side why.Write in
    let v : List Reason = event_reason d.side d.event in
    let m : List Reason = reason_where d.timer d.side why.Timer in
    five c r w v m (where-most d.connected d.side why.Connected) (where-most d.read d.side why.Read)
    (where-most d.write d.side why.Write) (event-most d.side d.event) (where-most d.timer d.side why.Timer)

pub batch-most : (ds : List Due) → length (batch ds) ≤ 5 * length ds
batch-most [] = omega arith
batch-most (d ∷ ds) =
    let a = length-append (reasons d) (batch ds) in
    let b = reasons-most d in
    let c = batch-most ds in
    omega (arith, a, b, c)

-- how many entries a dispatch puts at most
abbrev pub most_fired : State → ℕ
most_fired s = 513 * length (batch s.plain.due)

-- all that is due becomes what is to be fired
begins-dispatch : (s : State) → Frame s (dispatching s)
begins-dispatch s = record { settings = refl; opened = refl; time = refl; turn = refl; reads = λ n k. k }

pub some-fired-do : (n : ℕ) (s new : State) (a : Trace) → FiresSome n (dispatching s) a new →
    ByHooks (513 * n) s a new × (length new.batch + n ≤ length (batch s.plain.due))
some-fired-do n s new a h =
    let k = fires-do n (dispatching s) new a h in
    let g = k.0 in
    (record { own = g.own; fits = g.fits; few = g.few; frame = frame-then s (dispatching s) new (begins-dispatch s) g.frame }, k.1)

pub dispatch-does : {s new : State} {a : Trace} → Dispatches s a new → ByHooks (most_fired s) s a new
dispatch-does {s = s} {new = new} {a = a} h =
    let k = some-fired-do h.many s new a h.fires in
    let g = k.0 in
    let m = k.1 in
    record { own = g.own; fits = g.fits; few = omega (arith, g.few, m); frame = g.frame }

pub stop-does : {link : ℕ} {s new : State} {a : Trace} → StopsAt link s a new → ByHooks (most_fired s) s a new
stop-does {s = s} {new = new} {a = a} h =
    let k = some-fired-do h.many s h.middle h.front h.fires in
    let last = fire-does h.last in
    let m = k.1 in
    let n = last.1 in
    by_both (513 * h.many) 513 (most_fired s) s h.middle new h.front h.back a (omega (arith, m, n)) k.0 last.0 h.joined

pub cut_fire-does : {s new : State} {a : Trace} → CutFire s a new → ByHooks 513 s a new
cut_fire-does {s = s} {new = new} {a = a} (no_room rs h) =
    let g = by_none 513 (left_to_fire rs s) new a h.0 h.1 in
    record { own = g.own; fits = g.fits; few = g.few; frame = frame-then s (left_to_fire rs s) new (left-frame rs s) g.frame }
cut_fire-does (in_fire w) = (fire-does w.fires).0

pub cut_dispatch-does : {s new : State} {a : Trace} → CutDispatch s a new → ByHooks (most_fired s + 513) s a new
cut_dispatch-does {s = s} {new = new} {a = a} h =
    let k = some-fired-do h.many s h.middle h.front h.fires in
    let m = k.1 in
    by_both (513 * h.many) 513 (most_fired s + 513) s h.middle new h.front h.back a (omega (arith, m)) k.0
    (cut_fire-does h.last) h.joined

-- where no more is due than there are hooks
pub all-dispatch-does : {s new : State} {a : Trace} → DispatchesAll s a new → ByHooks (2565 * length s.settings.hooks) s a new
all-dispatch-does {s = s} {new = new} {a = a} h =
    let g = dispatch-does h.does in
    let b = batch-most s.plain.due in
    let f = h.few in
    record { own = g.own; fits = g.fits; few = omega (arith, g.few, b, f); frame = g.frame }

-- nothing that a trace must fit changes
pub hooks-same : {n : ℕ} {s new : State} {a : Trace} → ByHooks n s a new → Same s new
hooks-same h = let f = h.frame in record { time = f.time; opened = f.opened; settings = f.settings }
