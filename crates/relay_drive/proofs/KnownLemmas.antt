-- How what is known of a port goes on with each call.
use Rattle.std.proofs.Common.{◌≡◌, ◌⊎◌, inl, inr, ℕ, ◌≤◌, Bool, true, false, ◌||◌, not, List, [], ◌∷◌, ◌++◌, max, min, ◌^◌, if◌then◌else◌}
use Rattle.std.proofs.Common.{Option, Some, None, refl, sym, ◌∙◌, ap, subst, arith, append-nil, nat_lt}
use Rattle.std.specs.Prelude.{⊤, MatchOption, IsSome, fold, unwrap_or}
use Rattle.std.specs.List.{list_any, list_all, last_or}
use Rattle.std.proofs.lemmas.Bool.{and_parts, ltb-false}
use Rattle.ev_types.specs.declared.side.SideId.{SideId}
use Rattle.ev_types.specs.declared.entry.Entry.TheVariants as entry
use Rattle.ev_types.specs.Trace.{Event, Trace}
use Rattle.relay_model.specs.Totals.{opened, opened_by, opened_in_turn, times}
use Rattle.relay_model.specs.Tied.{PortTied}
use Rattle.relay_model.specs.Plays.{AllTaken, AlwaysAllTaken, is_behind_accepting, is_served}
use Rattle.relay_model.proofs.TiedLemmas.{end_ties_join}
use Rattle.ev_port.specs.declared.port.Accepted.TheVariants as accepted
use Rattle.ev_port.specs.declared.port.Polled.{Polled}
use Rattle.ev_port.specs.declared.port.Polled.TheVariants as polled
use Rattle.ev_port.specs.declared.port.Want.{Want}
use Rattle.ev_types.specs.Told.{EndTold, PortTold, Stays, Becomes}
use Rattle.ev_port.specs.EndSteps.{AllWent, PortStays}
use Rattle.ev_types.specs.Times.{greatest_time, turn_time}
use Rattle.ev_port.specs.Calls.{Ticked, ClockRead, AcceptedLink}
use Rattle.ev_port.specs.Polling.{poll_events, PolledWith}
use Rattle.ev_port.specs.Vouching.{LongerBy, NothingWaits}
use Rattle.relay_model.specs.Settings.{Settings}
use Rattle.relay_drive.specs.Known.{Question, Point, IsTiedSince, IsYes, TookNow, ClosedNow, known}
use Rattle.relay_drive.proofs.CalmLemmas.{Calm, Still, calm_list, served_list, is_calm, opened-append, in_turn-append}
use Rattle.relay_drive.proofs.TiedLemmas.{step_of, tied_of, rest_of, poll_all, poll_rest}
use Rattle.relay_model.proofs.PlayedTurns.{StaysServed, took-served, always-append, always-accepting, always-served}
use Rattle.relay_drive.proofs.TookLemmas.{counts_served, WaitsNoMore, served-tell_none}
use Rattle.relay_drive.proofs.PortLemmas.{tells_now, port_calm, port_polled, port_linked, port_closed, port_clocked, poll_split}

-- Accepting that is closed

-- so far accepting stands open for a reason alone
abbrev ForReason : Option Bool → Type 0 → Type 0
ForReason now P = MatchOption now ⊤ (λ open_now. open_now ≡ true → P)

reason_stays : (a b : Option Bool) (P Q : Type 0) → IsSome a → Stays a b → (P → Q) → ForReason a P → ForReason b Q
reason_stays None b P Q some s f h = absurd (cc)
reason_stays (Some x) b P Q some s f h = subst (λ z. ForReason z Q) (sym s) (λ e. f (h e))

reason_given : (b : Option Bool) (P : Type 0) → P → ForReason b P
reason_given None P p = tt
reason_given (Some x) P p = λ e. p

reason_closed : (b : Option Bool) (P : Type 0) → b ≡ Some false → ForReason b P
reason_closed b P h = subst (λ z. ForReason z P) (sym h) (λ e. absurd (cc))

-- Entries of a poll

not_any : (p : Event → Bool) (u : Trace) → list_all (λ x. not (p x)) u ≡ true → list_any p u ≡ false
not_any p [] h = refl
not_any p (x ∷ u) h = go (λ k. not_any p u k) (p x) refl (and_parts (not (p x)) (list_all (λ y. not (p y)) u) h)
  where
    go : (list_all (λ y. not (p y)) u ≡ true → list_any p u ≡ false) → (b : Bool) → p x ≡ b → (not (p x) ≡ true) ×
        (list_all (λ y. not (p y)) u ≡ true) → list_any p (x ∷ u) ≡ false
    go rest true e parts = absurd (let k = ap not e in let l = parts.0 in cc)
    go rest false e parts = ap (λ b. b || list_any p u) e ∙ rest parts.1

poll_ends_nothing : (timeout : Option ℕ) (ws : List Want) (answer : Polled) →
    list_any is_behind_accepting (poll_events timeout ws answer) ≡ false
poll_ends_nothing timeout ws answer =
    not_any is_behind_accepting (poll_events timeout ws answer)
    (poll_all (λ x. not (is_behind_accepting x)) (λ t. refl) (λ a b c. refl) (λ a b c. refl) refl timeout ws answer)

rest_calm : (ws : List Want) (answer : Polled) → Calm (rest_of ws answer)
rest_calm ws answer = calm_list (rest_of ws answer) (poll_rest is_calm (λ a b c. refl) (λ a b c. refl) refl ws answer)

pub poll_still : (timeout : Option ℕ) (ws : List Want) (answer : Polled) → Still (poll_events timeout ws answer)
poll_still timeout ws answer =
    let c = rest_calm ws answer in
    let split = poll_split timeout ws answer in
    record { opens = ap opened split ∙ c.opens; times = ap times split ∙ c.times; time = ap greatest_time split ∙ c.time }

poll_opens : (timeout : Option ℕ) (t : Trace) (ws : List Want) (answer : Polled) → opened (t ++ poll_events timeout ws answer) ≡ opened t
poll_opens timeout t ws answer =
    let more = opened-append t (poll_events timeout ws answer) in
    let none : opened (poll_events timeout ws answer) ≡ 0 = ap opened (poll_split timeout ws answer) ∙ (rest_calm ws answer).opens in
    omega (arith, more, none)

poll_in_turn : (timeout : Option ℕ) (t : Trace) (ws : List Want) (answer : Polled) →
    opened_in_turn (t ++ poll_events timeout ws answer) ≡ opened_in_turn t
poll_in_turn timeout t ws answer =
    in_turn-append t (poll_events timeout ws answer) ∙ ap (fold opened_by (opened_in_turn t)) (poll_split timeout ws answer)
    ∙ (rest_calm ws answer).in_turn (opened_in_turn t)

module _ {Plan : Type 0} (g : Settings) (v v' none_waits : Plan → Trace → Type 0) (told new : PortTold) (ends ends' : SideId →
    EndTold) (t : Trace) where
  -- each end is tied on
  ends_on : (u : Trace) (began : PortTold) (ends_began : SideId → EndTold) → AllWent ends ends' (λ e. step_of e u) →
      IsTiedSince g began told ends_began ends t →
      PortTied g began new (t ++ u) → IsTiedSince g began new ends_began ends' (t ++ u)
  ends_on u began ends_began went tied port = record {
    port = port;
    ends = λ e. end_ties_join e t u (ends_began e) (ends e) (ends' e) (tied.ends e) (tied_of e (ends e) (ends' e) u (went e));
  }

  -- a call behind accepting
  pub known_served : WaitsNoMore none_waits → (u : Trace) → list_all is_served u ≡ true → LongerBy v v' u →
      AllWent ends ends' (λ e. step_of e u) → PortStays told new →
      (x : Question Plan) → known Point.Accepted v none_waits told ends g x t → known Point.Accepted v' none_waits new ends' g x (t ++ u)
  known_served waits u served longer went stays (Question.Vouched plan) k = (longer plan t k.0, (tt, tt))
  known_served waits u served longer went stays (Question.Took plan) k =
      let stays : StaysServed (none_waits plan) = λ before more h none. waits plan before more (served-tell_none more h) none in (
        (
          longer plan t k.0.0,
          always-append (none_waits plan) g.links [] t u k.0.1
              (always-served (none_waits plan) g.links stays t u served k.1.0),
        ),
        (took-served (none_waits plan) g.links stays t u served k.1.0, tt),
      )
  known_served waits u served longer went stays (Question.Tied began ends_began) k =
      let same = counts_served t u served in
      let in_turn : opened_in_turn (t ++ u) ≡ opened_in_turn t = same.in_turn in
      let opens : opened (t ++ u) ≡ opened t = same.opened in
      let calm = calm_list u (served_list u served) in (
        ends_on u began ends_began went k.0 (port_calm g began told new t k.0.port u calm stays),
        (
          tt,
          λ some. reason_stays told.accepting new.accepting _ _ (k.0.port.accepting some) stays.accepting
              (λ (why : (opened_in_turn t ≡ 64) ⊎ (g.links ≤ opened t)). elim why as (λ z. (opened_in_turn (t ++ u) ≡ 64) ⊎
              (g.links ≤ opened (t ++ u))) [ inl p ↦ inl (in_turn ∙ p) | inr p ↦ inr (subst (λ n. g.links ≤ n) (sym opens) p) ])
              (k.1.1 some),
        ),
      )

  -- the clock was read, and a turn begins
  pub known_begun : (reading ms : ℕ) → ms ≡ turn_time t reading →
      ms ≡ max (unwrap_or (last_or (Some 0) (times t)) 0) (min reading (2 ^ 62)) → Ticked v v' reading →
      AllWent ends ends' (λ e. step_of e ((entry.Turn ms, []) ∷ [])) → ClockRead told new reading →
      (x : Question Plan) → known Point.Between v none_waits told ends g x t →
      known Point.Begun v' none_waits new ends' g x (t ++ (entry.Turn ms, []) ∷ [])
  known_begun reading ms is last ticked went clock x k = (go x k, in_turn-append t ((entry.Turn ms, []) ∷ []))
    where
      u : Trace
      u = (entry.Turn ms, []) ∷ []

      longer : (plan : Plan) → v plan t → v' plan (t ++ u)
      longer plan h = subst (λ n. v' plan (t ++ (entry.Turn n, []) ∷ [])) (sym is) (ticked plan t h)

      go : (x : Question Plan) → known Point.Between v none_waits told ends g x t → IsYes v' none_waits new ends' g x (t ++ u)
      go (Question.Vouched plan) k = longer plan k.0
      go (Question.Took plan) k = (longer plan k.0.0, always-append (none_waits plan) g.links [] t u k.0.1 (k.1, tt))
      go (Question.Tied began ends_began) k =
          ends_on u began ends_began went k.0 (port_clocked g began told new t k.0.port reading ms clock last)

  -- a poll
  module _ (timeout : Option ℕ) (ws : List Want) (answer : Polled) (asks : Bool) where
    abbrev P : Trace
    P = poll_events timeout ws answer

    polled_on : PolledWith told new asks timeout answer → asks ≡ nat_lt (opened t) g.links → LongerBy v v' P →
        AllWent ends ends' (λ e. step_of e P) →
        (x : Question Plan) → IsYes v none_waits told ends g x t → IsYes v' none_waits new ends' g x (t ++ P)
    polled_on s is longer went (Question.Vouched plan) k = longer plan t k
    polled_on s is longer went (Question.Took plan) k = (
      longer plan t k.0,
      always-append (none_waits plan) g.links [] t P k.1
          (always-accepting (none_waits plan) g.links t P (poll_ends_nothing timeout ws answer)),
    )
    polled_on s is longer went (Question.Tied began ends_began) k =
        ends_on P began ends_began went k (port_polled g began told new t k.port ws answer asks timeout s is)

  -- it failed, which ends the turn
  pub known_failed : (timeout : Option ℕ) (ws : List Want) (asks : Bool) → PolledWith told new asks timeout polled.Failed →
      asks ≡ nat_lt (opened t) g.links → LongerBy v v' (poll_events timeout ws polled.Failed) →
      AllWent ends ends' (λ e. step_of e (poll_events timeout ws polled.Failed)) → (x : Question Plan) →
      known Point.Begun v none_waits told ends g x t →
      known Point.Accepting v' none_waits new ends' g x (t ++ poll_events timeout ws polled.Failed)
  known_failed timeout ws asks s is longer went x k = (polled_on timeout ws polled.Failed asks s is longer went x k.0, tt)

  -- links are ready, or accepting has ended
  pub known_ready : (timeout : Option ℕ) (ws : List Want) (asks ready : Bool) →
      PolledWith told new asks timeout (polled.Ready ready) → asks ≡ nat_lt (opened t) g.links →
      LongerBy v v' (poll_events timeout ws (polled.Ready ready)) →
      AllWent ends ends' (λ e. step_of e (poll_events timeout ws (polled.Ready ready))) →
      (asks ≡ true → polled.Ready ready ≡ polled.Ready false → NothingWaits v' none_waits) →
      (x : Question Plan) → known Point.Begun v none_waits told ends g x t →
      known (if ready then Point.Begun else Point.Accepted) v' none_waits new ends' g x
      (t ++ poll_events timeout ws (polled.Ready ready))
  known_ready timeout ws asks true s is longer went waits x k =
      (polled_on timeout ws (polled.Ready true) asks s is longer went x k.0, poll_in_turn timeout t ws (polled.Ready true) ∙ k.1)
  known_ready timeout ws asks false s is longer went waits x k =
      let now = polled_on timeout ws (polled.Ready false) asks s is longer went x k.0 in (now, go x k.0 now)
    where
      u : Trace
      u = poll_events timeout ws (polled.Ready false)

      full : asks ≡ false → g.links ≤ opened (t ++ u)
      full e = subst (λ n. g.links ≤ n) (sym (poll_opens timeout t ws (polled.Ready false))) (ltb-false (opened t) g.links (sym is ∙ e))

      took : (plan : Plan) → v' plan (t ++ u) → (b : Bool) → asks ≡ b → AllTaken (none_waits plan) g.links (t ++ u)
      took plan vouched true e = inl (waits e refl plan (t ++ u) vouched)
      took plan vouched false e = inr (inr (full e))

      go : (x : Question Plan) → IsYes v none_waits told ends g x t → IsYes v' none_waits new ends' g x (t ++ u) →
          TookNow none_waits g x (t ++ u) × ClosedNow new g x (t ++ u)
      go (Question.Vouched plan) k h = (tt, tt)
      go (Question.Took plan) k h = (took plan h.0 asks refl, tt)
      go (Question.Tied began ends_began) k h = (
        tt,
        λ some. reason_closed new.accepting _
            (tells_now began.accepting told.accepting new.accepting false k.port.accepting s.accepting some),
      )

  -- a link was accepted
  pub known_linked : (link : ℕ) (connected : Bool) → AcceptedLink told new (accepted.Link connected) →
      LongerBy v v' ((entry.Opened link connected, []) ∷ []) →
      AllWent ends ends' (λ e. step_of e ((entry.Opened link connected, []) ∷ [])) →
      (x : Question Plan) → known Point.Accepting v none_waits told ends g x t →
      known Point.Accepting v' none_waits new ends' g x (t ++ (entry.Opened link connected, []) ∷ [])
  known_linked link connected s longer went (Question.Vouched plan) k = (longer plan t k.0, tt)
  known_linked link connected s longer went (Question.Took plan) k =
      let u : Trace = (entry.Opened link connected, []) ∷ [] in (
        (
          longer plan t k.0.0,
          always-append (none_waits plan) g.links [] t u k.0.1
              (always-accepting (none_waits plan) g.links t u refl),
        ),
        tt,
      )
  known_linked link connected s longer went (Question.Tied began ends_began) k =
      let u : Trace = (entry.Opened link connected, []) ∷ [] in
      (ends_on u began ends_began went k.0 (port_linked g began told new t k.0.port link connected s), tt)

  -- no link was accepted, which closed accepting
  none_on : PortStays (record told { accepting = None }) new → Becomes told.accepting new.accepting false → LongerBy v v' [] →
      AllWent ends ends' (λ e. step_of e []) → (x : Question Plan) → IsYes v none_waits told ends g x t →
      IsYes v' none_waits new ends' g x (t ++ [])
  none_on s closed longer went (Question.Vouched plan) k = longer plan t k
  none_on s closed longer went (Question.Took plan) k =
      (longer plan t k.0, subst (AlwaysAllTaken (none_waits plan) g.links []) (sym (append-nil t)) k.1)
  none_on s closed longer went (Question.Tied began ends_began) k =
      ends_on [] began ends_began went k
      (subst (λ z. PortTied g began new z) (sym (append-nil t))
      (port_closed g began told new t k.port s closed))

  pub known_refused : PortStays (record told { accepting = None }) new → Becomes told.accepting new.accepting false →
      LongerBy v v' [] → AllWent ends ends' (λ e. step_of e []) →
      (x : Question Plan) → known Point.Accepting v none_waits told ends g x t → known Point.Accepting v' none_waits new ends' g x (t ++ [])
  known_refused s closed longer went x k = (none_on s closed longer went x k.0, tt)

  pub known_none : PortStays (record told { accepting = None }) new → Becomes told.accepting new.accepting false →
      LongerBy v v' [] → AllWent ends ends' (λ e. step_of e []) → NothingWaits v' none_waits →
      (x : Question Plan) → known Point.Accepting v none_waits told ends g x t → known Point.Accepted v' none_waits new ends' g x (t ++ [])
  known_none s closed longer went none x k = let now = none_on s closed longer went x k.0 in (now, go x k.0 now)
    where
      go : (x : Question Plan) → IsYes v none_waits told ends g x t → IsYes v' none_waits new ends' g x (t ++ []) →
          TookNow none_waits g x (t ++ []) × ClosedNow new g x (t ++ [])
      go (Question.Vouched plan) k h = (tt, tt)
      go (Question.Took plan) k h = (inl (none plan (t ++ []) h.0), tt)
      go (Question.Tied began ends_began) k h = (
        tt,
        λ some. reason_closed new.accepting _
            (tells_now began.accepting told.accepting new.accepting false k.port.accepting closed some),
      )

-- With no call

-- accepting has ended where no more links may be opened
pub known_enough : {Plan : Type 0} (g : Settings) (v none_waits : Plan → Trace → Type 0) (told : PortTold) (ends : SideId →
    EndTold) (t : Trace) → (opened_in_turn t ≡ 64) ⊎ (g.links ≤ opened t) →
    (x : Question Plan) → known Point.Accepting v none_waits told ends g x t → known Point.Accepted v none_waits told ends g x t
known_enough g v none_waits told ends t why (Question.Vouched plan) k = (k.0, (tt, tt))
known_enough g v none_waits told ends t why (Question.Took plan) k = (k.0, (inr why, tt))
known_enough g v none_waits told ends t why (Question.Tied began ends_began) k = (k.0, (tt, λ some. reason_given told.accepting _ why))

pub begun_accepts : {Plan : Type 0} (g : Settings) (v none_waits : Plan → Trace → Type 0) (told : PortTold) (ends : SideId →
    EndTold) (t : Trace) (x : Question Plan) → known Point.Begun v none_waits told ends g x t →
    known Point.Accepting v none_waits told ends g x t
begun_accepts g v none_waits told ends t x k = (k.0, tt)

pub accepted_accepts : {Plan : Type 0} (g : Settings) (v none_waits : Plan → Trace → Type 0) (told : PortTold) (ends : SideId →
    EndTold) (t : Trace) (x : Question Plan) → known Point.Accepted v none_waits told ends g x t →
    known Point.Accepting v none_waits told ends g x t
accepted_accepts g v none_waits told ends t x k = (k.0, tt)

pub between_accepts : {Plan : Type 0} (g : Settings) (v none_waits : Plan → Trace → Type 0) (told : PortTold) (ends : SideId →
    EndTold) (t : Trace) (x : Question Plan) → known Point.Between v none_waits told ends g x t →
    known Point.Accepting v none_waits told ends g x t
between_accepts g v none_waits told ends t x k = (k.0, tt)

-- a turn that ended is a turn before the next
pub accepted_between : {Plan : Type 0} (g : Settings) (v none_waits : Plan → Trace → Type 0) (told : PortTold) (ends : SideId →
    EndTold) (t : Trace) (x : Question Plan) → known Point.Accepted v none_waits told ends g x t →
    known Point.Between v none_waits told ends g x t
accepted_between g v none_waits told ends t x k = (k.0, k.1.0)
