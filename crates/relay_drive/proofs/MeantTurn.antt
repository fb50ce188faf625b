-- Polling, accepting and the whole turn keep what the relay stands for.
use Rattle.std.proofs.Common.{◌≡◌, inl, inr, ℕ, zero, suc, ◌+◌, ◌^◌, ◌<◌, ◌≤◌, Bool, true, false, ◌||◌, if◌then◌else◌, List, [], ◌∷◌, ◌++◌}
use Rattle.std.proofs.Common.{length, map, filter, min, max, refl, sym, ◌∙◌, ap, subst, arith, append_assoc, append-nil}
use Rattle.ev_types.specs.declared.side.SideId.{SideId}
use Rattle.ev_types.specs.declared.entry.Entry.TheVariants as entry
use Rattle.ev_types.specs.Trace.{Trace}
use Rattle.ev_port.specs.declared.port.Want.{Want}
use Rattle.ev_port.specs.declared.port.Polled.TheVariants as polled
use Rattle.ev_port.specs.Polling.{IsMarked, AllMarked, poll_events}
use Rattle.relay_model.specs.Rooms as rooms
use Rattle.relay_model.specs.Plain.{sides_from}
use Rattle.relay_model.specs.Stages.{Halt, Stage}
use Rattle.relay_model.specs.Answers.{TurnAnswer}
use Rattle.relay_state.specs.State.{State}
use Rattle.relay_state.specs.Closing.{in_side, out_side}
use Rattle.relay_state.specs.Opening.{after_opened}
use Rattle.relay_drive.specs.declared.fault.DriveFault.{DriveFault}
use Rattle.relay_drive.specs.declared.fault.DriveFault.TheVariants as fault
use Rattle.relay_drive.specs.Steps.{Then, Each, CutAt}
use Rattle.relay_drive.specs.Calls.{Ticks}
use Rattle.relay_drive.specs.declared.fault.TurnEnd.{TurnEnd}
use Rattle.relay_drive.specs.declared.fault.TurnEnd.TheVariants as end
use Rattle.relay_drive.specs.DriveStands.{turn_answer_of, turn_end_of}
use Rattle.relay_drive.specs.Phases.CutTurn.{before, in_poll, in_serving, in_dispatch, in_passing, in_closing}
use Rattle.relay_drive.specs.Phases.{links_from, want_of, wants_of, wants_of_links, wanted, Polls, PollFails, OpensSome, AcceptsMore}
use Rattle.relay_drive.specs.Phases.{AcceptsWhere, PollsAndAccepts, CutPolling, ServesSide, CutServing, PassesLink, CutPassingLink}
use Rattle.relay_drive.specs.Phases.{ForAllLinks, CutForAllLinks, ClosesLink, CutClosingLink, DispatchesAll}
use Rattle.relay_drive.specs.Phases.{CutDispatch, StopsAt, ServedThen, Turns, StopsTurn, EndsTurn, CutTurn}
use Rattle.relay_steps.specs.Meaning.{StandsFor, LeftFor}
use Rattle.relay_state.specs.Rooms as state
use Rattle.relay_state.specs.Time.{poll_timeout}
use Rattle.relay_model.proofs.QuietLemmas.{state_is_told}
use Rattle.relay_steps.proofs.TimeSteps.{turn-stands}
use Rattle.relay_steps.proofs.PollSteps.{named, marks_of, MarkedWithin, poll-stands, poll_failed-stands, accepted-stands}
use Rattle.relay_steps.proofs.PollSteps.{passed_all-stands, closed_all-stands}
use Rattle.relay_steps.proofs.DispatchSteps.{stops_are_left}
use Rattle.relay_steps.proofs.OpenSteps.{opened-stands}
use Rattle.relay_steps.proofs.FrameLemmas.{frame-begun}
use Rattle.relay_drive.proofs.MeantDispatch.{dispatch-leaves, dispatch-stands}
use Rattle.relay_drive.proofs.MeantFolds.{StandsWith, Each_is, stands-nothing, all-keeps, cut-leaves}
use Rattle.relay_drive.proofs.MeantServing.{left-stands, IsBelow, serving, serving-keeps, serving-cut, sides_of-links, link_below}
use Rattle.relay_drive.proofs.MeantServing.{links-below, passing_links, passing_links-keep, passing_links-cut, model_steps-links}
use Rattle.relay_drive.proofs.MeantServing.{closing_links, closing_links-keep, closing_links-cut}

-- The clock

pub tick-stands : (t : Trace) (s new : State) (a : Trace) (reading : ℕ) → StandsFor t Stage.Between s → Ticks reading s a new →
    StandsWith s.plain.opened (t ++ a) Stage.Polling new
tick-stands t s new a reading k h =
    let ms : ℕ = max s.plain.time (min reading (2 ^ 62)) in
    let old : s.plain.time ≤ 2 ^ 62 = (state_is_told s.settings t Stage.Between s.plain k.reached).0.latest in
    let stands = turn-stands t s ms k (omega arith) (omega (arith, old)) in
    subst (λ z. StandsWith s.plain.opened (t ++ z) Stage.Polling new) (sym h.entries)
    (subst (StandsWith s.plain.opened (t ++ (entry.Turn ms, []) ∷ []) Stage.Polling) (sym h.state)
    (record { stands = stands; opened = (frame-begun s ms).opened }))

-- The wants

named-append : (xs ys : List Want) → map named (xs ++ ys) ≡ map named xs ++ map named ys
named-append [] ys = refl
named-append (x ∷ xs) ys = ap (λ z. named x ∷ z) (named-append xs ys)

abbrev wants : rooms.Want → Bool
wants w = w.read || w.write

-- one side
one-named : (s : State) (e : SideId) (rest : List rooms.Want) →
    map named (wants_of s e) ++ filter wants rest ≡ filter wants (state.want_of s e ∷ rest)
one-named s e rest = by_test (wants (state.want_of s e))
  where
    by_test : (b : Bool) → map named (if b then want_of s e ∷ [] else []) ++ filter wants
        rest ≡ (if b then state.want_of s e ∷ filter wants rest else filter wants rest)
    by_test true = refl
    by_test false = refl

links-named : (s : State) (k n : ℕ) → map named (wants_of_links s (links_from k n)) ≡ filter wants (map (state.want_of s) (sides_from k n))
links-named s k zero = refl
links-named s k (suc n) =
    let i : SideId = in_side k in
    let o : SideId = out_side k in
    let rest : List rooms.Want = map (state.want_of s) (sides_from (k + 1) n) in
    named-append (wants_of s i ++ wants_of s o) (wants_of_links s (links_from (k + 1) n))
    ∙ ap (λ z. z ++ map named (wants_of_links s (links_from (k + 1) n))) (named-append (wants_of s i) (wants_of s o))
    ∙ append_assoc (map named (wants_of s i)) (map named (wants_of s o)) (map named (wants_of_links s (links_from (k + 1) n)))
    ∙ ap (λ z. map named (wants_of s i) ++ (map named (wants_of s o) ++ z)) (links-named s (k + 1) n)
    ∙ ap (λ z. map named (wants_of s i) ++ z) (one-named s o rest)
    ∙ one-named s i (state.want_of s o ∷ rest)

pub wanted-named : (s : State) → map named (wanted s) ≡ state.wanted s
wanted-named s = links-named s 0 s.plain.opened

-- marks change no name, and stay within what is wanted
marks-named : (old new : List Want) → AllMarked old new → length new ≡ length old → (map named new ≡ map named old) × MarkedWithin new
marks-named [] [] h many = (refl, tt)
marks-named [] (w ∷ new) h many = absurd (omega (arith, many))
marks-named (v ∷ old) [] h many = absurd (omega (arith, many))
marks-named (v ∷ old) (w ∷ new) h many =
    let first : IsMarked v w = h 0 v (omega arith) in
    let rest = marks-named old new (λ k d lt. h (suc k) d (omega (arith, lt))) (omega (arith, many)) in
    let a = first.side in let b = first.read in let c = first.write in let r = rest.0 in
    ((λ i. record { side = a i; read = b i; write = c i } ∷ r i), (λ e. b ∙ first.can_read e, λ e. c ∙ first.can_write e, rest.1))

-- all wants are of sides of opened links

abbrev Sided : ℕ → rooms.Want → Type 0
Sided n w = w.side.link < n

sided-all : (n : ℕ) (f : SideId → rooms.Want) → ((e : SideId) → (f e).side ≡ e) → (k m : ℕ) → k + m ≤ n →
    Each_is (Sided n) (map f (sides_from k m))
sided-all n f is k zero l = tt
sided-all n f is k (suc m) l =
    let a = ap (λ (e : SideId). e.link) (is (in_side k)) in
    let b = ap (λ (e : SideId). e.link) (is (out_side k)) in
    (omega (arith, l, a), (omega (arith, l, b), sided-all n f is (k + 1) m (omega (arith, l))))

sided-some : (n : ℕ) (vs : List rooms.Want) → Each_is (Sided n) vs → Each_is (Sided n) (filter wants vs)
sided-some n [] a = tt
sided-some n (v ∷ vs) a = by_test (sided-some n vs a.1) (wants v)
  where
    by_test : Each_is (Sided n) (filter wants vs) → (b : Bool) → Each_is (Sided n) (if b then v ∷ filter wants vs else filter wants vs)
    by_test rest true = (a.0, rest)
    by_test rest false = rest

below-named : (n : ℕ) (ws : List Want) → Each_is (Sided n) (map named ws) → Each_is (IsBelow n) ws
below-named n [] a = tt
below-named n (w ∷ ws) a = (a.0, below-named n ws a.1)

wants-below : (n : ℕ) (s : State) (ws : List Want) → s.plain.opened ≤ n → map named ws ≡ state.wanted s → Each_is (IsBelow n) ws
wants-below n s ws le names =
    below-named n ws (subst (Each_is (Sided n)) (sym names)
    (sided-some n (map (state.want_of s) (sides_from 0 s.plain.opened)) (sided-all n (state.want_of s) (λ e. refl) 0 s.plain.opened
    (omega (arith, le)))))

-- Polling and accepting

pub polls-stand : (t : Trace) (s new : State) (a : Trace) (marked : List Want) (ready : Bool) → StandsFor t Stage.Polling s →
    Polls marked ready s a new →
    StandsFor (t ++ a) (Stage.Accepting 0 (marks_of marked)) new × (map named marked ≡ state.wanted s) × (new ≡ s)
polls-stand t s new a marked ready k h =
    let marks = marks-named (wanted s) marked h.marks h.many in
    let names = marks.0 ∙ wanted-named s in (
      subst (λ z. StandsFor (t ++ z) (Stage.Accepting 0 (marks_of marked)) new) (sym h.entries)
          (subst (StandsFor (t ++ poll_events (poll_timeout s) marked (polled.Ready ready)) (Stage.Accepting 0 (marks_of marked)))
          (sym h.state) (poll-stands t s marked ready names marks.1 k)),
      names,
      h.state,
    )

pub opens-stand : (m : ℕ) (marks : List rooms.Want) (t : Trace) (s new : State) (a : Trace) → m ≤ 64 →
    StandsFor t (Stage.Accepting 0 marks) s → OpensSome m s a new →
    StandsFor (t ++ a) (Stage.Accepting m marks) new × (s.plain.opened ≤ new.plain.opened)
opens-stand zero marks t s new a few k h =
    let same = sym h.1 in (
      subst (λ z. StandsFor z (Stage.Accepting 0 marks) new) (sym (ap (λ b. t ++ b) h.0 ∙ append-nil t))
          (subst (StandsFor t (Stage.Accepting 0 marks)) same k),
      (let b = ap (λ (z : State). z.plain.opened) h.1 in omega (arith, b)),
    )
opens-stand (suc m) marks t s new a few k h =
    let first = opens-stand m marks t s h.middle h.front (omega (arith, few)) k h.first in
    let one = h.second.1 in
    let connected = h.second.0 in
    let stands = opened-stands (t ++ h.front) h.middle m marks connected first.0 (omega (arith, few)) one.allowed in
    let next : m + 1 ≡ suc m = omega arith in
    let more : h.middle.plain.opened + 1 ≡ new.plain.opened = sym (ap (λ (z : State). z.plain.opened) one.state) in
    let le = first.1 in (
      subst (λ z. StandsFor z (Stage.Accepting (suc m) marks) new) (append_assoc t h.front h.back ∙ ap (λ z. t ++ z) (sym h.joined))
          (subst (λ z. StandsFor ((t ++ h.front) ++ z) (Stage.Accepting (suc m) marks) new) (sym one.entries)
          (subst (StandsFor ((t ++ h.front) ++ (entry.Opened h.middle.plain.opened connected, []) ∷ []) (Stage.Accepting (suc m) marks))
          (sym one.state)
          (subst (λ z. StandsFor ((t ++ h.front) ++ (entry.Opened h.middle.plain.opened connected, []) ∷ []) (Stage.Accepting z marks)
          (after_opened h.middle connected)) next stands))),
      omega (arith, le, more),
    )

pub accepts-stand : (marked : List Want) (t : Trace) (s new : State) (a : Trace) → StandsFor t Stage.Polling s →
    PollsAndAccepts marked s a new →
    StandsWith new.plain.opened (t ++ a) (serving marked) new × Each_is (IsBelow new.plain.opened) marked
accepts-stand marked t s new a k h =
    let w = h.1 in
    let poll = polls-stand t s w.middle w.front marked h.0 k w.first in
    let after = by_ready h.0 (t ++ w.front) w.middle w.back poll.0 w.second in
    let same = ap (λ (z : State). z.plain.opened) poll.2 in
    let le = after.1 in (
      subst (λ z. StandsWith new.plain.opened z (serving marked) new) (append_assoc t w.front w.back ∙ ap (λ z. t ++ z) (sym w.joined))
          (record { stands = after.0; opened = refl }),
      wants-below new.plain.opened s marked (omega (arith, same, le)) poll.1,
    )
  where
    by_ready : (ready : Bool) (u : Trace) (m : State) (b : Trace) → StandsFor u (Stage.Accepting 0 (marks_of marked)) m →
        AcceptsWhere ready m b new →
        StandsFor (u ++ b) (serving marked) new × (m.plain.opened ≤ new.plain.opened)
    by_ready true u m b k h =
        let opens = opens-stand h.0 (marks_of marked) u m new b h.1 k h.2 in
        (accepted-stands (u ++ b) new h.0 (marks_of marked) opens.0, opens.1)
    by_ready false u m b k h =
        let none = opens-stand 0 (marks_of marked) u m new b (omega arith) k h in
        (accepted-stands (u ++ b) new 0 (marks_of marked) none.0, none.1)

pub poll_fails-leaves : (t : Trace) (s new : State) (a : Trace) → StandsFor t Stage.Polling s → PollFails s a new →
    LeftFor TurnAnswer.PollFault (t ++ a) new
poll_fails-leaves t s new a k h =
    let marks = marks-named (wanted s) h.named h.marks h.many in
    subst (λ z. LeftFor TurnAnswer.PollFault (t ++ z) new) (sym h.entries)
    (subst (LeftFor TurnAnswer.PollFault (t ++ poll_events (poll_timeout s) h.named polled.Failed)) (sym h.state)
    (record { stage = Stage.Over Halt.PollFailed; stands = poll_failed-stands t s h.named (marks.0 ∙ wanted-named s) k; left = refl }))

-- accepting is refused where one link more was allowed
accepting-leaves : (t : Trace) (s new : State) (a : Trace) (marked : List Want) → StandsFor t Stage.Polling s →
    Then (Polls marked true) AcceptsMore s a new →
    LeftFor TurnAnswer.Memory (t ++ a) new × LeftFor TurnAnswer.OpenFault (t ++ a) new
accepting-leaves t s new a marked k h =
    let poll = polls-stand t s h.middle h.front marked true k h.first in
    let n = h.second.0 in
    let few = h.second.1 in
    let opens = opens-stand n (marks_of marked) (t ++ h.front) h.middle new h.back (omega (arith, few)) poll.0 h.second.3 in
    let stage : Stage = Stage.Accepting n (marks_of marked) in
    let stands : StandsFor (t ++ a) stage new =
    subst (λ z. StandsFor z stage new) (append_assoc t h.front h.back ∙ ap (λ z. t ++ z) (sym h.joined)) opens.0 in
    let more : new.plain.opened < new.settings.links = h.second.2 in
    (record { stage = stage; stands = stands; left = tt }, record { stage = stage; stands = stands; left = (few, more) })

-- From phase to phase

to-pass : (t : Trace) (s : State) → StandsFor t (Stage.Passing [] (sides_from 0 s.plain.opened)) s →
    StandsWith s.plain.opened t (passing_links (links_from 0 s.plain.opened)) s
to-pass t s k = record {
  stands = subst (λ es. StandsFor t (Stage.Passing [] es) s) (sym (sides_of-links 0 s.plain.opened)) k;
  opened = refl;
}

passed-close : (n : ℕ) (t : Trace) (s : State) → StandsWith n t (Stage.Passing [] []) s →
    StandsWith s.plain.opened t (closing_links (links_from 0 s.plain.opened)) s
passed-close n t s k = record {
  stands = subst (λ cs. StandsFor t (Stage.Closing cs) s) (sym (model_steps-links 0 s.plain.opened)) (passed_all-stands t s k.stands);
  opened = refl;
}

all-below : (n : ℕ) → Each_is (link_below n) (links_from 0 n)
all-below n = links-below 0 n n (omega arith)

-- one step before others
joined-leaves : (answer : TurnAnswer) (t front back a : Trace) (new : State) → a ≡ front ++ back →
    LeftFor answer ((t ++ front) ++ back) new → LeftFor answer (t ++ a) new
joined-leaves answer t front back a new j k = subst (λ z. LeftFor answer z new) (append_assoc t front back ∙ ap (λ z. t ++ z) (sym j)) k

closes-end : (n : ℕ) (t : Trace) (s new : State) (a : Trace) → StandsWith n t (Stage.Passing [] []) s →
    ForAllLinks ClosesLink s a new → StandsFor (t ++ a) Stage.Between new
closes-end n t s new a k h =
    closed_all-stands (t ++ a) new
    (all-keeps s.plain.opened (link_below s.plain.opened) closing_links ClosesLink (closing_links-keep s.plain.opened)
    (links_from 0 s.plain.opened) t s
    new a (all-below s.plain.opened) (passed-close n t s k) h).stands

passes-all : (t : Trace) (s new : State) (a : Trace) → StandsFor t (Stage.Passing [] (sides_from 0 s.plain.opened)) s →
    ForAllLinks PassesLink s a new → StandsWith s.plain.opened (t ++ a) (Stage.Passing [] []) new
passes-all t s new a k h =
    all-keeps s.plain.opened (link_below s.plain.opened) passing_links PassesLink (passing_links-keep s.plain.opened)
    (links_from 0 s.plain.opened) t s
    new a (all-below s.plain.opened) (to-pass t s k) h

serves-all : (marked : List Want) (t : Trace) (s new : State) (a : Trace) → StandsWith s.plain.opened t (serving marked) s →
    Each_is (IsBelow s.plain.opened) marked → Each ServesSide marked s a new →
    StandsWith s.plain.opened (t ++ a) (Stage.Serving []) new
serves-all marked t s new a k below h = all-keeps s.plain.opened (IsBelow s.plain.opened) serving ServesSide
    (serving-keeps s.plain.opened) marked t
    s new a below k h

-- the clock, the poll with accepting, and serving: dispatch comes next
pub served-stand : (reading : ℕ) (marked : List Want) (t : Trace) (s ticked polled served : State) (a b c : Trace) →
    StandsFor t Stage.Between s → Ticks reading s a ticked → PollsAndAccepts marked ticked b polled →
    Each ServesSide marked polled c served → StandsFor (((t ++ a) ++ b) ++ c) (Stage.Serving []) served
served-stand reading marked t s ticked polled served a b c k tick poll serve =
    let first = tick-stands t s ticked a reading k tick in
    let accepted = accepts-stand marked (t ++ a) ticked polled b first.stands poll in
    (serves-all marked ((t ++ a) ++ b) polled served c accepted.0 accepted.1 serve).stands

-- the same of their entries in a row
pub prefix-stands : (reading : ℕ) (marked : List Want) (t : Trace) (s new : State) (a : Trace) → StandsFor t Stage.Between s →
    Then (Ticks reading) (Then (PollsAndAccepts marked) (Each ServesSide marked)) s a new → StandsFor (t ++ a) (Stage.Serving []) new
prefix-stands reading marked t s new a k h =
    let p = h.second in
    subst (λ z. StandsFor z (Stage.Serving []) new)
    (append_assoc (t ++ h.front) p.front p.back ∙ append_assoc t h.front (p.front ++ p.back)
    ∙ ap (λ z. t ++ (h.front ++ z)) (sym p.joined) ∙ ap (λ z. t ++ z) (sym h.joined))
    (served-stand reading marked t s h.middle p.middle new h.front p.front p.back k h.first p.first p.second)

-- what holds behind serving and something else, holds behind the turn
served-then : (R : State → Trace → State → Type 0) (P : Trace → State → Type 0) →
    ((u : Trace) (m z : State) (b : Trace) → StandsFor u (Stage.Serving []) m → R m b z → P (u ++ b) z) →
    (t : Trace) (s new : State) (a : Trace) → StandsFor t Stage.Between s → ServedThen R s a new → P (t ++ a) new
served-then R P next t s new a k turn =
    let h = turn.2 in
    let p = h.second in
    let v = p.second in
    let served = served-stand turn.0 turn.1 t s h.middle p.middle v.middle h.front p.front v.front k h.first p.first v.first in
    subst (λ z. P z new)
    (append_assoc ((t ++ h.front) ++ p.front) v.front v.back ∙ ap (λ z. ((t ++ h.front) ++ p.front) ++ z) (sym v.joined)
    ∙ append_assoc (t ++ h.front) p.front p.back ∙ ap (λ z. (t ++ h.front) ++ z) (sym p.joined)
    ∙ append_assoc t h.front h.back ∙ ap (λ z. t ++ z) (sym h.joined))
    (next (((t ++ h.front) ++ p.front) ++ v.front) v.middle new v.back served v.second)

-- a whole turn: whatever trace the relay stood for before it, it stands for that trace with the turn's entries
pub turn_keeps : (t : Trace) (s new : State) (a : Trace) → StandsFor t Stage.Between s → Turns s a new →
    StandsFor (t ++ a) Stage.Between new
turn_keeps t s new a k turn =
    served-then (Then DispatchesAll (Then (ForAllLinks PassesLink) (ForAllLinks ClosesLink))) (λ u z. StandsFor u Stage.Between z)
    (λ u m z b stands h.
    let q = h.second in
    let fired = dispatch-stands u m h.middle h.front stands h.first in
    let passed = passes-all (u ++ h.front) h.middle q.middle q.front fired q.first in
    let closed = closes-end h.middle.plain.opened ((u ++ h.front) ++ q.front) q.middle z q.back passed q.second in
    subst (λ w. StandsFor w Stage.Between z)
    (append_assoc (u ++ h.front) q.front q.back ∙ ap (λ w. (u ++ h.front) ++ w) (sym q.joined)
    ∙ append_assoc u h.front h.back ∙ ap (λ w. u ++ w) (sym h.joined)) closed)
    t s new a k turn

-- a turn that a hook of this link ends
pub stops-leaves : (link : ℕ) (t : Trace) (s new : State) (a : Trace) → StandsFor t Stage.Between s → StopsTurn link s a new →
    LeftFor (TurnAnswer.Stopped link) (t ++ a) new
stops-leaves link t s new a k turn =
    served-then (StopsAt link) (LeftFor (TurnAnswer.Stopped link)) (λ u m z b stands h. stops_are_left link u m z b stands h)
    t s new a k turn

-- a turn that isn't refused leaves the relay so, by how it ends
pub ends-leave : (end : TurnEnd) (t : Trace) (s new : State) (a : Trace) → StandsFor t Stage.Between s → EndsTurn end s a new →
    LeftFor (turn_end_of end) (t ++ a) new
ends-leave end.Went t s new a k turn = record { stage = Stage.Between; stands = turn_keeps t s new a k turn; left = refl }
ends-leave (end.Stopped link) t s new a k turn = stops-leaves link t s new a k turn

-- Turns that are cut off

-- polling is refused
polling-leaves : (f : DriveFault) (t : Trace) (s new : State) (a : Trace) → StandsWith s.plain.opened t Stage.Polling s →
    CutPolling f s a new → LeftFor (turn_answer_of f) (t ++ a) new
polling-leaves fault.Memory t s new a k (inl h) =
    left-stands s.plain.opened (t ++ a) Stage.Polling new tt (stands-nothing s.plain.opened t Stage.Polling s new a k h)
polling-leaves fault.PollFault t s new a k (inl h) = poll_fails-leaves t s new a k.stands h
polling-leaves fault.OpenFault t s new a k (inl h) = absurd h
polling-leaves fault.Spent t s new a k (inl h) = absurd h
polling-leaves fault.Memory t s new a k (inr h) = (accepting-leaves t s new a h.0 k.stands h.1).0
polling-leaves fault.PollFault t s new a k (inr h) = absurd h
polling-leaves fault.OpenFault t s new a k (inr h) = (accepting-leaves t s new a h.0 k.stands h.1).1
polling-leaves fault.Spent t s new a k (inr h) = absurd h

serving-leaves : (marked : List Want) (t : Trace) (s new : State) (a : Trace) → StandsWith s.plain.opened t (serving marked) s →
    Each_is (IsBelow s.plain.opened) marked → CutAt ServesSide CutServing marked s a new →
    LeftFor TurnAnswer.Memory (t ++ a) new
serving-leaves marked t s new a k below h =
    cut-leaves s.plain.opened (IsBelow s.plain.opened) serving ServesSide (serving-keeps s.plain.opened) CutServing
    (LeftFor TurnAnswer.Memory)
    (serving-cut s.plain.opened) marked t s new a below k h

passing-leaves : (t : Trace) (s new : State) (a : Trace) → StandsFor t (Stage.Passing [] (sides_from 0 s.plain.opened)) s →
    CutForAllLinks PassesLink CutPassingLink s a new → LeftFor TurnAnswer.Memory (t ++ a) new
passing-leaves t s new a k h =
    cut-leaves s.plain.opened (link_below s.plain.opened) passing_links PassesLink (passing_links-keep s.plain.opened) CutPassingLink
    (LeftFor TurnAnswer.Memory) (passing_links-cut s.plain.opened)
    (links_from 0 s.plain.opened) t s new a (all-below s.plain.opened) (to-pass t s k) h

closing-leaves : (n : ℕ) (t : Trace) (s new : State) (a : Trace) → StandsWith n t (Stage.Passing [] []) s →
    CutForAllLinks ClosesLink CutClosingLink s a new → LeftFor TurnAnswer.Memory (t ++ a) new
closing-leaves n t s new a k h =
    cut-leaves s.plain.opened (link_below s.plain.opened) closing_links ClosesLink (closing_links-keep s.plain.opened) CutClosingLink
    (LeftFor TurnAnswer.Memory) (closing_links-cut s.plain.opened)
    (links_from 0 s.plain.opened) t s new a (all-below s.plain.opened) (passed-close n t s k) h

-- A turn that is cut off leaves the relay standing for the longer trace, at a stage at which a turn may answer so.
pub cut_turn_leaves : (f : DriveFault) (t : Trace) (s new : State) (a : Trace) → StandsFor t Stage.Between s →
    CutTurn f s a new → LeftFor (turn_answer_of f) (t ++ a) new
cut_turn_leaves f t s new a k (before h) =
    left-stands s.plain.opened (t ++ a) Stage.Between new tt
    (stands-nothing s.plain.opened t Stage.Between s new a (record { stands = k; opened = refl }) h)
cut_turn_leaves f t s new a k (in_poll reading h) =
    let tick = tick-stands t s h.middle h.front reading k h.first in
    joined-leaves (turn_answer_of f) t h.front h.back a new h.joined
    (polling-leaves f (t ++ h.front) h.middle new h.back (record { stands = tick.stands; opened = refl }) h.second)
cut_turn_leaves f t s new a k (in_serving reading marked h) =
    let tick = tick-stands t s h.middle h.front reading k h.first in
    let p = h.second in
    let poll = accepts-stand marked (t ++ h.front) h.middle p.middle p.front tick.stands p.first in
    joined-leaves TurnAnswer.Memory t h.front h.back a new h.joined
    (joined-leaves TurnAnswer.Memory (t ++ h.front) p.front p.back h.back new p.joined
    (serving-leaves marked ((t ++ h.front) ++ p.front) p.middle new p.back poll.0 poll.1 p.second))
cut_turn_leaves f t s new a k (in_dispatch h) =
    served-then CutDispatch (LeftFor TurnAnswer.Memory) (λ u m z b stands d. dispatch-leaves u m z b stands d) t s new a k h
cut_turn_leaves f t s new a k (in_passing h) =
    served-then (Then DispatchesAll (CutForAllLinks PassesLink CutPassingLink)) (LeftFor TurnAnswer.Memory)
    (λ u m z b stands d.
    joined-leaves TurnAnswer.Memory u d.front d.back b z d.joined
    (passing-leaves (u ++ d.front) d.middle z d.back (dispatch-stands u m d.middle d.front stands d.first) d.second))
    t s new a k h
cut_turn_leaves f t s new a k (in_closing h) =
    served-then (Then DispatchesAll (Then (ForAllLinks PassesLink) (CutForAllLinks ClosesLink CutClosingLink))) (LeftFor TurnAnswer.Memory)
    (λ u m z b stands d.
    let q = d.second in
    let fired = dispatch-stands u m d.middle d.front stands d.first in
    let passed = passes-all (u ++ d.front) d.middle q.middle q.front fired q.first in
    joined-leaves TurnAnswer.Memory u d.front d.back b z d.joined
    (joined-leaves TurnAnswer.Memory (u ++ d.front) q.front q.back d.back z q.joined
    (closing-leaves d.middle.plain.opened ((u ++ d.front) ++ q.front) q.middle z q.back passed q.second)))
    t s new a k h
