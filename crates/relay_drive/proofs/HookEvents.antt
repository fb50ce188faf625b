-- What is heard and asked in entries: nothing in those of every phase but dispatch; and the numbers of what is asked in a turn fit their
-- types.
use Rattle.std.proofs.Common.{◌≡◌, inl, inr, ℕ, zero, suc, Bool, true, false, ◌&&◌, List, [], ◌∷◌, ◌++◌, Option}
use Rattle.std.proofs.Common.{Some, None, refl, sym, subst, option_map}
use Rattle.std.specs.Prelude.{MatchBool, is_some, nat_lt}
use Rattle.std.specs.List.{list_all}
use Rattle.std.proofs.lemmas.Bool.{and_parts}
use Rattle.std.proofs.lemmas.Grind.{flat_map-append}
use Rattle.std.proofs.lemmas.List.Elements.{All-nil, All-cons, All-append}
use Rattle.token_bucket.specs.declared.limit.Dir.TheVariants as dir
use Rattle.ev_types.specs.declared.answer.ConnAnswer.{ConnAnswer}
use Rattle.ev_types.specs.declared.answer.WriteAnswer.{WriteAnswer}
use Rattle.ev_types.specs.declared.answer.WriteAnswer.TheVariants as write
use Rattle.ev_types.specs.declared.entry.Entry.TheVariants as entry
use Rattle.ev_types.specs.declared.side.Side.TheVariants.{In}
use Rattle.ev_types.specs.declared.side.SideId.{SideId}
use Rattle.ev_types.specs.declared.why.Cause.{Cause}
use Rattle.ev_types.specs.AskNumbers.{AskFits, AsksFit}
use Rattle.ev_types.specs.Trace.{Event, Trace}
use Rattle.ev_port.specs.declared.port.Polled.{Polled}
use Rattle.ev_port.specs.declared.port.Polled.TheVariants as polled
use Rattle.ev_port.specs.declared.port.Want.{Want}
use Rattle.ev_port.specs.Ends.{write_events}
use Rattle.ev_port.specs.Polling.{poll_events}
use Rattle.relay_core.specs.declared.close.Closing.{Closing}
use Rattle.relay_core.specs.declared.close.Closing.TheVariants as closing
use Rattle.relay_core.specs.Steps.{steps_of, close_step, entry_events}
use Rattle.relay_model.specs.Close.{fault, freed_entry}
use Rattle.relay_model.specs.Hooked.{heard_by, heard_in, asked_by, asked_in}
use Rattle.relay_model.specs.Plain.{side_at}
use Rattle.relay_model.specs.Rooms.{is_connecting}
use Rattle.relay_state.specs.Closing.{in_side, out_side, closing_entry}
use Rattle.relay_state.specs.Rooms.{offer, wants, write_room}
use Rattle.relay_state.specs.State.{State}
use Rattle.relay_state.specs.Time.{poll_timeout}
use Rattle.relay_drive.specs.declared.fault.DriveFault.{DriveFault}
use Rattle.relay_drive.specs.declared.fault.DriveFault.TheVariants as refused
use Rattle.relay_drive.specs.declared.fault.TurnEnd.{TurnEnd}
use Rattle.relay_drive.specs.declared.fault.TurnEnd.TheVariants as end
use Rattle.relay_drive.specs.Steps.{Nothing, Then, Each, CutAt, links_from}
use Rattle.relay_drive.specs.Calls.{Ticks, Checks, Writes}
use Rattle.relay_drive.specs.Phases.CutTurn.{before, in_poll, in_serving, in_dispatch, in_passing, in_closing}
use Rattle.relay_drive.specs.Phases.{Polls, PollFails, OpensOne, OpensSome, AcceptsMore, AcceptsWhere, PollsAndAccepts, CutPolling}
use Rattle.relay_drive.specs.Phases.{ReadsWithRoom, ReadsSide, WritesSide, ConnectsSide, ServesSide, CutServing, DispatchesAll, CutDispatch}
use Rattle.relay_drive.specs.Phases.{StopsAt, PassesSide, CutPassing, PassesLink, CutPassingLink, ForAllLinks, CutForAllLinks}
use Rattle.relay_drive.specs.Phases.{closing_events, Closes, LooksAt, ClosesLink, CutClosingLink, ServedThen, Turns, StopsTurn, EndsTurn}
use Rattle.relay_drive.specs.Phases.{CutTurn}
use Rattle.relay_drive.proofs.DispatchLemmas.{all-dispatch-does, stop-does, cut_dispatch-does}
use Rattle.relay_drive.proofs.TiedLemmas.{poll_all}

-- Behind one another

pub heard_in-append : (e : SideId) (t u : Trace) → heard_in e (t ++ u) ≡ heard_in e t ++ heard_in e u
heard_in-append e t u = flat_map-append (heard_by e) t u

pub asked_in-append : (e : SideId) (t u : Trace) → asked_in e (t ++ u) ≡ asked_in e t ++ asked_in e u
asked_in-append e t u = flat_map-append (asked_by e) t u

pub asks_fit-append : (t u : Trace) → AsksFit t → AsksFit u → AsksFit (t ++ u)
asks_fit-append t u h k = All-append AskFits t u h k

pub asks_fit-none : AsksFit []
asks_fit-none = All-nil AskFits

-- Entries of which none is of a hook

-- an entry that tells of no fire and no ask
abbrev pub is_unhooked : Event → Bool
is_unhooked (entry.Fired side y, bytes) = false
is_unhooked (entry.Asked side a answer, bytes) = false
is_unhooked _ = true

abbrev pub IsUnhooked : Trace → Type 0
IsUnhooked u = list_all is_unhooked u ≡ true

-- what such an entry says of hooks: nothing
one-says : (e : SideId) (x : Event) → is_unhooked x ≡ true → (heard_by e x ≡ []) × (asked_by e x ≡ []) × AskFits x
one-says e (entry.Fired side y, b) h = absurd (cc)
one-says e (entry.Asked side a r, b) h = absurd (cc)
one-says e _ h = (refl, refl, tt)

pub unheard-in : (e : SideId) (u : Trace) → IsUnhooked u → heard_in e u ≡ []
unheard-in e [] h = refl
unheard-in e (x ∷ u) h =
    let parts = and_parts (is_unhooked x) (list_all is_unhooked u) h in
    let one = (one-says e x parts.0).0 in
    let rest = unheard-in e u parts.1 in
    λ i. one i ++ rest i

pub unasked-in : (e : SideId) (u : Trace) → IsUnhooked u → asked_in e u ≡ []
unasked-in e [] h = refl
unasked-in e (x ∷ u) h =
    let parts = and_parts (is_unhooked x) (list_all is_unhooked u) h in
    let one = (one-says e x parts.0).1 in
    let rest = unasked-in e u parts.1 in
    λ i. one i ++ rest i

fits-from : (e : SideId) (u : Trace) → IsUnhooked u → AsksFit u
fits-from e [] h = All-nil AskFits
fits-from e (x ∷ u) h =
    let parts = and_parts (is_unhooked x) (list_all is_unhooked u) h in
    All-cons AskFits x u (one-says e x parts.0).2 (fits-from e u parts.1)

pub unhooked-fit : (u : Trace) → IsUnhooked u → AsksFit u
unhooked-fit u h = fits-from any u h
  where
    any : SideId
    any = record { link = 0; side = In }

pub unhooked-append : (t u : Trace) → IsUnhooked t → IsUnhooked u → IsUnhooked (t ++ u)
unhooked-append [] u h k = k
unhooked-append (x ∷ t) u h k =
    let parts = and_parts (is_unhooked x) (list_all is_unhooked t) h in
    let one = parts.0 in
    let rest = unhooked-append t u parts.1 k in
    rw (one, rest)

-- Steps that put no other

abbrev pub Unhooks : (State → Trace → State → Type 0) → Type 0
Unhooks R = (s new : State) (a : Trace) → R s a new → IsUnhooked a

unhooked-is : (a u : Trace) → a ≡ u → IsUnhooked u → IsUnhooked a
unhooked-is a u j h = subst IsUnhooked (sym j) h

pub nothing-unhooks : Unhooks Nothing
nothing-unhooks s new a h = unhooked-is a [] h.0 refl

pub then-unhooks : (R S : State → Trace → State → Type 0) → Unhooks R → Unhooks S → Unhooks (Then R S)
then-unhooks R S f g s new a h =
    unhooked-is a (h.front ++ h.back) h.joined
    (unhooked-append h.front h.back (f s h.middle h.front h.first) (g h.middle new h.back h.second))

pub each-unhooks : {X : Type 0} (R : X → State → Trace → State → Type 0) → ((x : X) → Unhooks (R x)) → (xs : List X) → Unhooks (Each R xs)
each-unhooks R f [] = nothing-unhooks
each-unhooks R f (x ∷ xs) = then-unhooks (R x) (Each R xs) (f x) (each-unhooks R f xs)

pub cut-unhooks : {X : Type 0} (R Cut : X → State → Trace → State → Type 0) → ((x : X) → Unhooks (R x)) → ((x : X) → Unhooks (Cut x)) →
    (xs : List X) → Unhooks (CutAt R Cut xs)
cut-unhooks R Cut f g xs s new a h =
    then-unhooks (Each R h.front) (Cut h.last) (each-unhooks R f h.front) (g h.last) s new a h.went

where-unhooks : (b : Bool) (R S : State → Trace → State → Type 0) → Unhooks R → Unhooks S → (s new : State) (a : Trace) →
    MatchBool b (R s a new) (S s a new) → IsUnhooked a
where-unhooks true R S f g s new a h = f s new a h
where-unhooks false R S f g s new a h = g s new a h

-- Clock, poll and accepting

pub ticks-unhook : (reading : ℕ) → Unhooks (Ticks reading)
ticks-unhook reading s new a h = unhooked-is a _ h.entries refl

poll-unhooked : (timeout : Option ℕ) (ws : List Want) (answer : Polled) → IsUnhooked (poll_events timeout ws answer)
poll-unhooked timeout ws answer = poll_all is_unhooked (λ t. refl) (λ a b c. refl) (λ a b c. refl) refl timeout ws answer

polls-unhook : (marked : List Want) (ready : Bool) → Unhooks (Polls marked ready)
polls-unhook marked ready s new a h = unhooked-is a _ h.entries (poll-unhooked (poll_timeout s) marked (polled.Ready ready))

pub poll_fails-unhooks : Unhooks PollFails
poll_fails-unhooks s new a h = unhooked-is a _ h.entries (poll-unhooked (poll_timeout s) h.named polled.Failed)

opens-unhook : Unhooks OpensOne
opens-unhook s new a h = unhooked-is a _ h.1.entries refl

opens_some-unhook : (n : ℕ) → Unhooks (OpensSome n)
opens_some-unhook zero = nothing-unhooks
opens_some-unhook (suc n) = then-unhooks (OpensSome n) OpensOne (opens_some-unhook n) opens-unhook

accepts-unhook : (ready : Bool) → Unhooks (AcceptsWhere ready)
accepts-unhook true s new a h = opens_some-unhook h.0 s new a h.2
accepts-unhook false s new a h = nothing-unhooks s new a h

pub polls_and_accepts-unhook : (marked : List Want) → Unhooks (PollsAndAccepts marked)
polls_and_accepts-unhook marked s new a h =
    then-unhooks (Polls marked h.0) (AcceptsWhere h.0) (polls-unhook marked h.0) (accepts-unhook h.0) s new a h.1

more-unhooks : (marked : List Want) → Unhooks (Then (Polls marked true) AcceptsMore)
more-unhooks marked =
    then-unhooks (Polls marked true) AcceptsMore (polls-unhook marked true) (λ s new a h. opens_some-unhook h.0 s new a h.3)

pub cut_polling-unhooks : (f : DriveFault) → Unhooks (CutPolling f)
cut_polling-unhooks refused.Memory s new a (inl h) = nothing-unhooks s new a h
cut_polling-unhooks refused.PollFault s new a (inl h) = poll_fails-unhooks s new a h
cut_polling-unhooks refused.OpenFault s new a (inl h) = absurd h
cut_polling-unhooks refused.Spent s new a (inl h) = absurd h
cut_polling-unhooks refused.Memory s new a (inr h) = more-unhooks h.0 s new a h.1
cut_polling-unhooks refused.PollFault s new a (inr h) = absurd h
cut_polling-unhooks refused.OpenFault s new a (inr h) = more-unhooks h.0 s new a h.1
cut_polling-unhooks refused.Spent s new a (inr h) = absurd h

-- Serving

reads-unhook : (e : SideId) (marked : Bool) → Unhooks (ReadsSide e marked)
reads-unhook e marked s new a h =
    where-unhooks (marked && wants s e dir.Read) (ReadsWithRoom e) Nothing (λ s new a k. unhooked-is a _ k.3.entries refl) nothing-unhooks
    s new a h

write-unhooked : (e : SideId) (from : List ℕ) (answer : WriteAnswer) → IsUnhooked (write_events e from answer)
write-unhooked e from (write.Took n) = refl
write-unhooked e from write.NotYet = refl
write-unhooked e from write.Failed = refl
write-unhooked e from write.NoMemory = refl

writes-unhook : (e : SideId) (marked : Bool) → Unhooks (WritesSide e marked)
writes-unhook e marked s new a h =
    where-unhooks (marked && nat_lt 0 (write_room s e)) (λ s a new. (answer : WriteAnswer) × Writes e answer s a new) Nothing
    (λ s new a k. unhooked-is a _ k.1.entries (write-unhooked e (offer s e) k.0)) nothing-unhooks s new a h

connects-unhook : (e : SideId) (marked : Bool) → Unhooks (ConnectsSide e marked)
connects-unhook e marked s new a h =
    where-unhooks marked (λ s a new. (answer : ConnAnswer) × Checks e answer s a new) Nothing
    (λ s new a k. unhooked-is a _ k.1.entries refl) nothing-unhooks s new a h

pub serves-unhook : (w : Want) → Unhooks (ServesSide w)
serves-unhook w s new a h =
    where-unhooks (is_connecting s.plain w.side) (ConnectsSide w.side w.can_write) (Then (ReadsSide w.side w.can_read) (WritesSide w.side
    w.can_write)) (connects-unhook w.side w.can_write)
    (then-unhooks (ReadsSide w.side w.can_read) (WritesSide w.side w.can_write) (reads-unhook w.side w.can_read) (writes-unhook w.side
    w.can_write)) s new a h

pub cut_serving-unhooks : (w : Want) → Unhooks (CutServing w)
cut_serving-unhooks w s new a (inl h) = nothing-unhooks s new a h
cut_serving-unhooks w s new a (inr h) = reads-unhook w.side w.can_read s new a h.1

pub serving-unhooks : (marked : List Want) → Unhooks (Each ServesSide marked)
serving-unhooks marked = each-unhooks ServesSide serves-unhook marked

pub serving_cut-unhooks : (marked : List Want) → Unhooks (CutAt ServesSide CutServing marked)
serving_cut-unhooks marked = cut-unhooks ServesSide CutServing serves-unhook cut_serving-unhooks marked

-- Passing, which puts nothing, and closing

pub passes-unhook : (e : SideId) → Unhooks (PassesSide e)
passes-unhook e s new a h = unhooked-is a [] h.0 refl

cut_passes-unhook : (e : SideId) → Unhooks (CutPassing e)
cut_passes-unhook e s new a h = unhooked-is a [] h.0 refl

passes_link-unhook : (k : ℕ) → Unhooks (PassesLink k)
passes_link-unhook k = each-unhooks PassesSide passes-unhook (in_side k ∷ out_side k ∷ [])

cut_link-unhooks : (k : ℕ) → Unhooks (CutPassingLink k)
cut_link-unhooks k = cut-unhooks PassesSide CutPassing passes-unhook cut_passes-unhook (in_side k ∷ out_side k ∷ [])

pub passing-unhooks : Unhooks (ForAllLinks PassesLink)
passing-unhooks s new a h = each-unhooks PassesLink passes_link-unhook (links_from 0 s.plain.opened) s new a h

pub passing_cut-unhooks : Unhooks (CutForAllLinks PassesLink CutPassingLink)
passing_cut-unhooks s new a h =
    cut-unhooks PassesLink CutPassingLink passes_link-unhook cut_link-unhooks (links_from 0 s.plain.opened) s new a h

faulty-unhooked : (s : State) (e : SideId) (o : Option Cause) → IsUnhooked (entry_events (option_map (freed_entry s.plain e) o))
faulty-unhooked s e None = refl
faulty-unhooked s e (Some why) = refl

closing-unhooked : (s : State) (step : Closing) → IsUnhooked (closing_events s step)
closing-unhooked s (closing.Faulty e) = faulty-unhooked s e (fault (side_at s.plain e))
closing-unhooked s (closing.EndWriting e) = refl
closing-unhooked s (closing.BothDone k) = refl
closing-unhooked s (closing.PeerGone e) = refl
closing-unhooked s (closing.Shut e) = refl

looks-unhook : (step : Closing) → Unhooks (LooksAt step)
looks-unhook step s new a h =
    where-unhooks (is_some (closing_entry s (close_step step))) (Closes step) Nothing
    (λ s new a k. unhooked-is a _ k.entries (closing-unhooked s step)) nothing-unhooks s new a h

closes_link-unhook : (k : ℕ) → Unhooks (ClosesLink k)
closes_link-unhook k = each-unhooks LooksAt looks-unhook (steps_of k)

cut_closes-unhook : (k : ℕ) → Unhooks (CutClosingLink k)
cut_closes-unhook k = cut-unhooks LooksAt (λ _. Nothing) looks-unhook (λ _. nothing-unhooks) (steps_of k)

pub closing-unhooks : Unhooks (ForAllLinks ClosesLink)
closing-unhooks s new a h = each-unhooks ClosesLink closes_link-unhook (links_from 0 s.plain.opened) s new a h

pub closing_cut-unhooks : Unhooks (CutForAllLinks ClosesLink CutClosingLink)
closing_cut-unhooks s new a h =
    cut-unhooks ClosesLink CutClosingLink closes_link-unhook cut_closes-unhook (links_from 0 s.plain.opened) s new a h

-- Whole turns: the numbers of what is asked in one fit their types

abbrev FitsAll : (State → Trace → State → Type 0) → Type 0
FitsAll R = (s new : State) (a : Trace) → R s a new → AsksFit a

unhooked-fits : (R : State → Trace → State → Type 0) → Unhooks R → FitsAll R
unhooked-fits R f s new a h = unhooked-fit a (f s new a h)

then-fits : (R S : State → Trace → State → Type 0) → FitsAll R → FitsAll S → FitsAll (Then R S)
then-fits R S f g s new a h =
    subst AsksFit (sym h.joined) (asks_fit-append h.front h.back (f s h.middle h.front h.first) (g h.middle new h.back h.second))

served-fits : (R : State → Trace → State → Type 0) → FitsAll R → FitsAll (ServedThen R)
served-fits R f s new a h =
    let reading = h.0 in
    let marked = h.1 in
    let last : FitsAll (Then (Each ServesSide marked) R) =
    then-fits (Each ServesSide marked) R (unhooked-fits (Each ServesSide marked) (serving-unhooks marked)) f in
    let polled : FitsAll (Then (PollsAndAccepts marked) (Then (Each ServesSide marked) R)) =
    then-fits (PollsAndAccepts marked) _ (unhooked-fits (PollsAndAccepts marked) (polls_and_accepts-unhook marked)) last in
    then-fits (Ticks reading) _ (unhooked-fits (Ticks reading) (ticks-unhook reading)) polled s new a h.2

dispatch-fits : FitsAll DispatchesAll
dispatch-fits s new a h = (all-dispatch-does h).fits

passing-closing : Unhooks (Then (ForAllLinks PassesLink) (ForAllLinks ClosesLink))
passing-closing = then-unhooks (ForAllLinks PassesLink) (ForAllLinks ClosesLink) passing-unhooks closing-unhooks

pub turn-fits : FitsAll Turns
turn-fits s new a h =
    served-fits (Then DispatchesAll (Then (ForAllLinks PassesLink) (ForAllLinks ClosesLink)))
    (then-fits DispatchesAll _ dispatch-fits (unhooked-fits _ passing-closing)) s new a h

pub stops-fit : (link : ℕ) → FitsAll (StopsTurn link)
stops-fit link s new a h = served-fits (StopsAt link) (λ s new a k. (stop-does k).fits) s new a h

pub ends-fit : (end : TurnEnd) → FitsAll (EndsTurn end)
ends-fit end.Went = turn-fits
ends-fit (end.Stopped link) = stops-fit link

pub cut_turn-fits : (f : DriveFault) → FitsAll (CutTurn f)
cut_turn-fits f s new a (before h) = unhooked-fit a (nothing-unhooks s new a h)
cut_turn-fits f s new a (in_poll reading h) =
    unhooked-fit a (then-unhooks (Ticks reading) (CutPolling f) (ticks-unhook reading) (cut_polling-unhooks f) s new a h)
cut_turn-fits f s new a (in_serving reading marked h) =
    unhooked-fit a (then-unhooks (Ticks reading) _ (ticks-unhook reading)
    (then-unhooks (PollsAndAccepts marked) _ (polls_and_accepts-unhook marked) (serving_cut-unhooks marked)) s new a h)
cut_turn-fits f s new a (in_dispatch h) = served-fits CutDispatch (λ s new a k. (cut_dispatch-does k).fits) s new a h
cut_turn-fits f s new a (in_passing h) =
    served-fits (Then DispatchesAll (CutForAllLinks PassesLink CutPassingLink))
    (then-fits DispatchesAll _ dispatch-fits (unhooked-fits _ passing_cut-unhooks)) s new a h
cut_turn-fits f s new a (in_closing h) =
    served-fits (Then DispatchesAll (Then (ForAllLinks PassesLink) (CutForAllLinks ClosesLink CutClosingLink)))
    (then-fits DispatchesAll _ dispatch-fits
    (unhooked-fits _ (then-unhooks (ForAllLinks PassesLink) _ passing-unhooks closing_cut-unhooks))) s new a h
