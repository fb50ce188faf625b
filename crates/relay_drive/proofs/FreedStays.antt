-- Through every phase of a turn the settings stay, no link is taken back, and a side that was opened and freed stays freed; what is to be
-- fired is none but in dispatch.
use Rattle.std.proofs.Common.{◌≡◌, inl, inr, ℕ, zero, suc, ◌*◌, ◌^◌, ◌<◌, ◌≤◌, Bool, true, false, ◌&&◌, nat_lt}
use Rattle.std.proofs.Common.{List, [], ◌∷◌, length, max, min, Option, refl, sym, ◌∙◌}
use Rattle.std.proofs.Common.{ap, subst, arith, length-append}
use Rattle.std.specs.Prelude.{MatchBool, is_some}
use Rattle.token_bucket.specs.declared.limit.Dir.TheVariants as dir
use Rattle.ev_types.specs.declared.act.Act.{Act}
use Rattle.ev_types.specs.declared.answer.AskAnswer.{AskAnswer}
use Rattle.ev_types.specs.declared.answer.ConnAnswer.{ConnAnswer}
use Rattle.ev_types.specs.declared.answer.WriteAnswer.{WriteAnswer}
use Rattle.ev_types.specs.declared.side.SideId.{SideId}
use Rattle.ev_types.specs.Trace.{Trace}
use Rattle.ev_port.specs.declared.port.Want.{Want}
use Rattle.relay_core.specs.declared.close.Closing.{Closing}
use Rattle.relay_core.specs.Steps.{steps_of, close_step}
use Rattle.relay_model.proofs.PlainLemmas.{new_sides, side_at-old}
use Rattle.relay_model.specs.Due.{Reason}
use Rattle.relay_model.specs.Plain.{PlainSide, is_live}
use Rattle.relay_model.specs.Reasons.{has_hook}
use Rattle.relay_model.specs.Rooms.{is_connecting}
use Rattle.relay_state.specs.Asking.{dispatching, left_to_fire, AsksAll, Fires, FiresSome, Dispatches, StopsAt}
use Rattle.relay_state.specs.Closing.{in_side, out_side, closing_entry}
use Rattle.relay_state.specs.Opening.{after_opened}
use Rattle.relay_state.specs.Rooms.{wants, write_room}
use Rattle.relay_state.specs.State.{State}
use Rattle.relay_state.specs.Time.{begun}
use Rattle.relay_drive.specs.declared.fault.DriveFault.{DriveFault}
use Rattle.relay_drive.specs.declared.fault.DriveFault.TheVariants as refused
use Rattle.relay_drive.specs.Steps.{Nothing, Then, Each, CutAt, links_from}
use Rattle.relay_drive.specs.Calls.{Ticks, Checks, Writes}
use Rattle.relay_drive.specs.DispatchPhase.CutFire.{no_room, in_fire}
use Rattle.relay_drive.specs.Phases.{Polls, PollFails, OpensOne, OpensSome, AcceptsMore, AcceptsWhere, PollsAndAccepts, CutPolling}
use Rattle.relay_drive.specs.Phases.{ReadsWithRoom, ReadsSide, WritesSide, ConnectsSide, ServesSide, CutServing, DispatchesAll, CutFire}
use Rattle.relay_drive.specs.Phases.{CutDispatch, PassesSide, CutPassing, PassesLink, CutPassingLink, ForAllLinks, CutForAllLinks}
use Rattle.relay_drive.specs.Phases.{Closes, LooksAt, ClosesLink, CutClosingLink}
use Rattle.relay_drive.specs.Seats.{AreSeated}
use Rattle.relay_drive.proofs.DispatchLemmas.{one-leaves}
use Rattle.relay_drive.proofs.AgedLemmas.{Aged, aged-same, aged-conn, aged-passage, aged-read, aged-write, aged-closing, aged-begun}
use Rattle.relay_drive.proofs.AgedLemmas.{aged-asked}

-- What a phase leaves

-- there are two sides for each link
abbrev pub IsPaired : State → Type 0
IsPaired s = length s.plain.sides ≡ 2 * s.plain.opened

-- The settings stay, and no link is taken back. Where each link has two sides, so it is, and a side that was opened and freed stays so.
pub record Stays (s new : State) : Type 0 where
  pub settings : new.settings ≡ s.settings
  pub opened : s.plain.opened ≤ new.plain.opened
  pub paired : IsPaired s → IsPaired new
  pub freed : IsPaired s → (e : SideId) → e.link < s.plain.opened → is_live s.plain e ≡ false → is_live new.plain e ≡ false

-- And where nothing was to be fired, nothing is.
pub record StaysBare (s new : State) : Type 0 where
  pub stays : Stays s new
  pub batch : s.batch ≡ [] → new.batch ≡ []

pub stays-then : {s mid new : State} → Stays s mid → Stays mid new → Stays s new
stays-then f g = record {
  settings = g.settings ∙ f.settings;
  opened = (let a = f.opened in let b = g.opened in omega (arith, a, b));
  paired = λ h. g.paired (f.paired h);
  freed = λ h e below dead. g.freed (f.paired h) e (let a = f.opened in omega (arith, a, below)) (f.freed h e below dead);
}

pub bare-then : {s mid new : State} → StaysBare s mid → StaysBare mid new → StaysBare s new
bare-then f g = record { stays = stays-then f.stays g.stays; batch = λ h. g.batch (f.batch h) }

aged-stays : {s new : State} → Aged s new → StaysBare s new
aged-stays h = record {
  stays = record {
    settings = h.settings;
    opened = (let a = h.plain.opened in omega (arith, a));
    paired = λ p. (let a = h.plain.opened in let b = h.plain.many in omega (arith, a, b, p));
    freed = λ p e below dead. h.plain.freed e dead;
  };
  batch = h.batch;
}

bare-is : (s new made : State) → new ≡ made → StaysBare s made → StaysBare s new
bare-is s new made h k = subst (StaysBare s) (sym h) k

pub bare-same : (s : State) → StaysBare s s
bare-same s = aged-stays (aged-same s)

-- what is done leaves it so
abbrev pub StaysBy : (State → Trace → State → Type 0) → Type 0
StaysBy R = (s new : State) (a : Trace) → R s a new → StaysBare s new

pub nothing-stays : StaysBy Nothing
nothing-stays s new a h = bare-is s new s h.1 (bare-same s)

pub then-stays : (R S : State → Trace → State → Type 0) → StaysBy R → StaysBy S → StaysBy (Then R S)
then-stays R S f g s new a h = bare-then (f s h.middle h.front h.first) (g h.middle new h.back h.second)

pub each-stays : {X : Type 0} (R : X → State → Trace → State → Type 0) → ((x : X) → StaysBy (R x)) → (xs : List X) → StaysBy (Each R xs)
each-stays R f [] = nothing-stays
each-stays R f (x ∷ xs) = then-stays (R x) (Each R xs) (f x) (each-stays R f xs)

pub cut-stays : {X : Type 0} (R Cut : X → State → Trace → State → Type 0) → ((x : X) → StaysBy (R x)) → ((x : X) → StaysBy (Cut x)) →
    (xs : List X) → StaysBy (CutAt R Cut xs)
cut-stays R Cut f g xs s new a h = then-stays (Each R h.front) (Cut h.last) (each-stays R f h.front) (g h.last) s new a h.went

where-stays : (b : Bool) (R S : State → Trace → State → Type 0) → StaysBy R → StaysBy S → (s new : State) (a : Trace) →
    MatchBool b (R s a new) (S s a new) → StaysBare s new
where-stays true R S f g s new a h = f s new a h
where-stays false R S f g s new a h = g s new a h

-- Clock, poll and accepting

pub ticks-stay : (reading : ℕ) → StaysBy (Ticks reading)
ticks-stay reading s new a h =
    let ms : ℕ = max s.plain.time (min reading (2 ^ 62)) in
    bare-is s new (begun s ms) h.state (aged-stays (aged-begun s ms))

polls-stay : (marked : List Want) (ready : Bool) → StaysBy (Polls marked ready)
polls-stay marked ready s new a h = bare-is s new s h.state (bare-same s)

pub poll_fails-stays : StaysBy PollFails
poll_fails-stays s new a h = bare-is s new s h.state (bare-same s)

pub opens-stay : StaysBy OpensOne
opens-stay s new a h = bare-is s new (after_opened s h.0) h.1.state (record {
  stays = record {
    settings = refl;
    opened = omega arith;
    paired = λ p. (let more = length-append s.plain.sides (new_sides s.settings h.0 s.plain) in omega (arith, more, p));
    freed = λ p e below dead.
        ap (λ (x : PlainSide). x.live) (side_at-old s.settings h.0 s.plain e p (λ same. absurd (omega (arith, same, below)))) ∙ dead;
  };
  batch = λ k. k;
})

opens_some-stay : (n : ℕ) → StaysBy (OpensSome n)
opens_some-stay zero = nothing-stays
opens_some-stay (suc n) = then-stays (OpensSome n) OpensOne (opens_some-stay n) opens-stay

accepts-stay : (ready : Bool) → StaysBy (AcceptsWhere ready)
accepts-stay true s new a h = opens_some-stay h.0 s new a h.2
accepts-stay false s new a h = nothing-stays s new a h

pub polls_and_accepts-stay : (marked : List Want) → StaysBy (PollsAndAccepts marked)
polls_and_accepts-stay marked s new a h =
    then-stays (Polls marked h.0) (AcceptsWhere h.0) (polls-stay marked h.0) (accepts-stay h.0) s new a h.1

more-stays : (marked : List Want) → StaysBy (Then (Polls marked true) AcceptsMore)
more-stays marked =
    then-stays (Polls marked true) AcceptsMore (polls-stay marked true) (λ s new a h. opens_some-stay h.0 s new a h.3)

pub cut_polling-stays : (f : DriveFault) → StaysBy (CutPolling f)
cut_polling-stays refused.Memory s new a (inl h) = nothing-stays s new a h
cut_polling-stays refused.PollFault s new a (inl h) = poll_fails-stays s new a h
cut_polling-stays refused.OpenFault s new a (inl h) = absurd h
cut_polling-stays refused.Spent s new a (inl h) = absurd h
cut_polling-stays refused.Memory s new a (inr h) = more-stays h.0 s new a h.1
cut_polling-stays refused.PollFault s new a (inr h) = absurd h
cut_polling-stays refused.OpenFault s new a (inr h) = more-stays h.0 s new a h.1
cut_polling-stays refused.Spent s new a (inr h) = absurd h

-- Serving

reads-stay : (e : SideId) (marked : Bool) → StaysBy (ReadsSide e marked)
reads-stay e marked s new a h =
    where-stays (marked && wants s e dir.Read) (ReadsWithRoom e) Nothing
    (λ s new a k. bare-is s new _ k.3.state (aged-stays (aged-read s e k.0 _))) nothing-stays s new a h

writes-stay : (e : SideId) (marked : Bool) → StaysBy (WritesSide e marked)
writes-stay e marked s new a h =
    where-stays (marked && nat_lt 0 (write_room s e)) (λ s a new. (answer : WriteAnswer) × Writes e answer s a new) Nothing
    (λ s new a k. bare-is s new _ k.1.state (aged-stays (aged-write s e k.0))) nothing-stays s new a h

connects-stay : (e : SideId) (marked : Bool) → StaysBy (ConnectsSide e marked)
connects-stay e marked s new a h =
    where-stays marked (λ s a new. (answer : ConnAnswer) × Checks e answer s a new) Nothing
    (λ s new a k. bare-is s new _ k.1.state (aged-stays (aged-conn s e k.0))) nothing-stays s new a h

pub serves-stay : (w : Want) → StaysBy (ServesSide w)
serves-stay w s new a h =
    where-stays (is_connecting s.plain w.side) (ConnectsSide w.side w.can_write) (Then (ReadsSide w.side w.can_read) (WritesSide w.side
    w.can_write)) (connects-stay w.side w.can_write)
    (then-stays (ReadsSide w.side w.can_read) (WritesSide w.side w.can_write) (reads-stay w.side w.can_read) (writes-stay w.side
    w.can_write)) s new a h

pub cut_serving-stays : (w : Want) → StaysBy (CutServing w)
cut_serving-stays w s new a (inl h) = nothing-stays s new a h
cut_serving-stays w s new a (inr h) = reads-stay w.side w.can_read s new a h.1

pub serving-stays : (marked : List Want) → StaysBy (Each ServesSide marked)
serving-stays marked = each-stays ServesSide serves-stay marked

pub serving_cut-stays : (marked : List Want) → StaysBy (CutAt ServesSide CutServing marked)
serving_cut-stays marked = cut-stays ServesSide CutServing serves-stay cut_serving-stays marked

-- Passing and closing

passes-stay : (e : SideId) → StaysBy (PassesSide e)
passes-stay e s new a h = bare-is s new _ h.1.2 (aged-stays (aged-passage s e h.1.0))

cut_passes-stay : (e : SideId) → StaysBy (CutPassing e)
cut_passes-stay e s new a h = bare-is s new _ h.1.2 (aged-stays (aged-passage s e h.1.0))

pub passes_link-stay : (k : ℕ) → StaysBy (PassesLink k)
passes_link-stay k = each-stays PassesSide passes-stay (in_side k ∷ out_side k ∷ [])

pub cut_link-stays : (k : ℕ) → StaysBy (CutPassingLink k)
cut_link-stays k = cut-stays PassesSide CutPassing passes-stay cut_passes-stay (in_side k ∷ out_side k ∷ [])

pub passing-stays : StaysBy (ForAllLinks PassesLink)
passing-stays s new a h = each-stays PassesLink passes_link-stay (links_from 0 s.plain.opened) s new a h

pub passing_cut-stays : StaysBy (CutForAllLinks PassesLink CutPassingLink)
passing_cut-stays s new a h = cut-stays PassesLink CutPassingLink passes_link-stay cut_link-stays (links_from 0 s.plain.opened) s new a h

looks-stay : (step : Closing) → StaysBy (LooksAt step)
looks-stay step s new a h =
    where-stays (is_some (closing_entry s (close_step step))) (Closes step) Nothing
    (λ s new a k. bare-is s new _ k.state (aged-stays (aged-closing s step))) nothing-stays s new a h

pub closes_link-stay : (k : ℕ) → StaysBy (ClosesLink k)
closes_link-stay k = each-stays LooksAt looks-stay (steps_of k)

pub cut_closes-stay : (k : ℕ) → StaysBy (CutClosingLink k)
cut_closes-stay k = cut-stays LooksAt (λ _. Nothing) looks-stay (λ _. nothing-stays) (steps_of k)

pub closing-stays : StaysBy (ForAllLinks ClosesLink)
closing-stays s new a h = each-stays ClosesLink closes_link-stay (links_from 0 s.plain.opened) s new a h

pub closing_cut-stays : StaysBy (CutForAllLinks ClosesLink CutClosingLink)
closing_cut-stays s new a h = cut-stays ClosesLink CutClosingLink closes_link-stay cut_closes-stay (links_from 0 s.plain.opened) s new a h

-- Dispatch

stays-is : (s new made : State) → new ≡ made → Stays s made → Stays s new
stays-is s new made h k = subst (Stays s) (sym h) k

-- what is to be fired belongs to no side
left-stays : (rs : List Reason) (s : State) → Stays s (left_to_fire rs s)
left-stays rs s = record {
  settings = refl;
  opened = omega arith;
  paired = λ p. p;
  freed = λ p e below dead. dead;
}

pub dispatching-stays : (s : State) → Stays s (dispatching s)
dispatching-stays s = record {
  settings = refl;
  opened = omega arith;
  paired = λ p. p;
  freed = λ p e below dead. dead;
}

pub asks-stay : (me : SideId) (xs : List (Act × AskAnswer)) (s new : State) (a : Trace) → AsksAll me xs s a new → StaysBare s new
asks-stay me [] s new a h = bare-is s new s h.1 (bare-same s)
asks-stay me (x ∷ xs) s new a h =
    let one : StaysBare s h.0 = elim (one-leaves h.3) as (λ _. StaysBare s h.0) [
      | inl k ↦ bare-is s h.0 _ k.1 (aged-stays (aged-asked x.0 s))
      | inr k ↦ bare-is s h.0 s k (bare-same s)
    ] in
    bare-then one (asks-stay me xs h.0 new h.2 h.4)

pub fire-stays : {stopped : Bool} {s new : State} {a : Trace} → Fires stopped s a new → Stays s new
fire-stays {s = s} {new = new} h =
    stays-then (left-stays h.rest s) (asks-stay h.side h.asks (left_to_fire h.rest s) new h.behind h.does).stays

pub fires-stay : (n : ℕ) (s new : State) (a : Trace) → FiresSome n s a new → Stays s new
fires-stay zero s new a h = stays-is s new s h.1 (bare-same s).stays
fires-stay (suc n) s new a h = stays-then (fires-stay n s h.0 h.1 h.3) (fire-stays h.4)

pub some_fired-stay : (n : ℕ) (s new : State) (a : Trace) → FiresSome n (dispatching s) a new → Stays s new
some_fired-stay n s new a h = stays-then (dispatching-stays s) (fires-stay n (dispatching s) new a h)

-- behind dispatch nothing is to be fired
pub dispatch-stays : StaysBy Dispatches
dispatch-stays s new a h = record { stays = some_fired-stay h.many s new a h.fires; batch = λ k. h.over }

pub all_dispatch-stays : StaysBy DispatchesAll
all_dispatch-stays s new a h = dispatch-stays s new a h.does

pub stop-stays : (link : ℕ) (s new : State) (a : Trace) → StopsAt link s a new → Stays s new
stop-stays link s new a h = stays-then (some_fired-stay h.many s h.middle h.front h.fires) (fire-stays h.last)

pub cut_fire-stays : (s new : State) (a : Trace) → CutFire s a new → Stays s new
cut_fire-stays s new a (no_room rs h) = stays-is s new (left_to_fire rs s) h.1 (left-stays rs s)
cut_fire-stays s new a (in_fire w) = fire-stays w.fires

pub cut_dispatch-stays : (s new : State) (a : Trace) → CutDispatch s a new → Stays s new
cut_dispatch-stays s new a h =
    stays-then (some_fired-stay h.many s h.middle h.front h.fires) (cut_fire-stays h.middle new h.back h.last)

-- Seats

-- where hooks are seated, and each is where it was, they are seated
pub seated-kept : {H : Type 0} (hooks gone : List (Option H)) (s new : State) → Stays s new → IsPaired s → AreSeated s hooks gone →
    AreSeated new hooks gone
seated-kept hooks gone s new h pairs seats = record {
  level = seats.level;
  hooked = λ e. ap (λ g. has_hook g e) h.settings ∙ seats.hooked e;
  freed = λ e has empty.
      let was = seats.freed e (sym (ap (λ g. has_hook g e) h.settings) ∙ has) empty in
      (let a = h.opened in let b = was.0 in omega (arith, a, b), h.freed pairs e was.0 was.1);
}
