-- What a poll puts into the trace, and how a turn goes from one phase to the next.
use Rattle.std.proofs.Common.{◌≡◌, ℕ, Bool, true, false, ◌||◌, if◌then◌else◌, List, [], ◌∷◌, ◌++◌, map, Option, refl, sym, ◌∙◌, ap, subst}
use Rattle.std.proofs.Common.{append_assoc, append-nil}
use Rattle.std.specs.Prelude.{⊤}
use Rattle.ev_types.specs.declared.side.SideId.{SideId}
use Rattle.ev_types.specs.declared.entry.Entry.TheVariants as entry
use Rattle.ev_types.specs.Trace.{Event, Trace}
use Rattle.ev_port.specs.declared.port.Want as port
use Rattle.ev_port.specs.declared.port.Polled.TheVariants as polled
use Rattle.ev_port.specs.Polling.{want_events, ready_events, poll_events}
use Rattle.relay_model.specs.Due.{batch}
use Rattle.relay_model.specs.Plain.{sides_from}
use Rattle.relay_model.specs.Rooms.{Want}
use Rattle.relay_model.specs.Close.{closing_from}
use Rattle.relay_model.specs.Stages.{Halt, Stage, at}
use Rattle.relay_model.specs.Turn.{Reaches}
use Rattle.relay_model.proofs.AccountedLemmas.{silent_steps_keep_accounts}
use Rattle.relay_state.specs.State.{State, lane_at}
use Rattle.relay_state.specs.Asking.{dispatching}
use Rattle.relay_steps.proofs.FitLemmas.{fits-same}
use Rattle.relay_state.specs.Rooms.{wanted}
use Rattle.relay_state.specs.Time.{poll_timeout}
use Rattle.relay_steps.specs.Meaning.{StandsFor}
use Rattle.relay_steps.proofs.EndLemmas.{IsSilent}
use Rattle.relay_steps.proofs.RoomLemmas.{wanted-is, poll_timeout-is}
use Rattle.relay_steps.proofs.RateLemmas.{turns-same, gauged-same}
use Rattle.relay_steps.proofs.GroupedSteps.{grouped-same}
use Rattle.relay_steps.proofs.StandsLemmas.{stands-told, stands-quiet}

silent-poll : (timeout : Option ℕ) (a : SideId) → IsSilent (entry.Poll timeout, []) a
silent-poll timeout a = record { read = refl; given = refl; ended = refl; moved = refl; given_free = refl; closed = refl }

silent-poll_failed : (a : SideId) → IsSilent (entry.PollFailed, []) a
silent-poll_failed a = record { read = refl; given = refl; ended = refl; moved = refl; given_free = refl; closed = refl }

silent-want : (e : SideId) (r w : Bool) (a : SideId) → IsSilent (entry.Want e r w, []) a
silent-want e r w a = record { read = refl; given = refl; ended = refl; moved = refl; given_free = refl; closed = refl }

silent-ready : (e : SideId) (r w : Bool) (a : SideId) → IsSilent (entry.Ready e r w, []) a
silent-ready e r w a = record { read = refl; given = refl; ended = refl; moved = refl; given_free = refl; closed = refl }

-- a want of the port as the model has it, and what was marked of it
abbrev pub named : port.Want → Want
named w = record { side = w.side; read = w.read; write = w.write }

abbrev pub marked : port.Want → Want
marked w = record { side = w.side; read = w.can_read; write = w.can_write }

abbrev pub is_marked : port.Want → Bool
is_marked w = w.can_read || w.can_write

-- the marks that are served, in their order
abbrev pub marks_of : List port.Want → List Want
marks_of [] = []
marks_of (w ∷ ws) = if is_marked w then marked w ∷ marks_of ws else marks_of ws

-- only what is wanted is marked
abbrev pub MarkedWithin : List port.Want → Type 0
MarkedWithin [] = ⊤
MarkedWithin (w ∷ ws) = (w.can_read ≡ true → w.read ≡ true) × (w.can_write ≡ true → w.write ≡ true) × MarkedWithin ws

-- The poll

module _ (s : State) where
  wants-go : (t : Trace) (ws : List port.Want) → StandsFor t (Stage.Wanting (map named ws)) s →
      StandsFor (t ++ want_events ws) (Stage.Wanting []) s
  wants-go t [] k = subst (λ z. StandsFor z (Stage.Wanting []) s) (sym (append-nil t)) k
  wants-go t (w ∷ ws) k =
      let x : Event = (entry.Want w.side w.read w.write, []) in
      subst (λ z. StandsFor z (Stage.Wanting []) s) (append_assoc t (x ∷ []) (want_events ws))
      (wants-go (t ++ x ∷ []) ws
      (stands-told t (Stage.Wanting (map named (w ∷ ws))) (Stage.Wanting (map named ws)) s x k
      (refl, refl, refl) tt (silent-want w.side w.read w.write) (λ a. (refl, refl))))

  abbrev ready : port.Want → Bool → Bool → Trace
  ready w a b = if a then (entry.Ready w.side true b, []) ∷ [] else (if b then (entry.Ready w.side false true, []) ∷ [] else [])

  abbrev kept : port.Want → Bool → Bool → List Want → List Want
  kept w a b rest = if a || b then record { side = w.side; read = a; write = b } ∷ rest else rest

  -- one want is marked or not
  ready-goes : (t : Trace) (w : port.Want) (ws marks : List Want) (a b : Bool) → (a ≡ true → w.read ≡ true) → (b ≡ true → w.write ≡ true) →
      StandsFor t (Stage.Marking (named w ∷ ws) marks) s → StandsFor (t ++ ready w a b) (Stage.Marking ws (marks ++ kept w a b [])) s
  ready-goes t w ws marks true b ra rb k =
      stands-told t (Stage.Marking (named w ∷ ws) marks) _ s (entry.Ready w.side true b, []) k
      (refl, (λ z. ra refl, λ z. rb z, refl), refl, refl) tt (silent-ready w.side true b) (λ a. (refl, refl))
  ready-goes t w ws marks false true ra rb k =
      stands-told t (Stage.Marking (named w ∷ ws) marks) _ s (entry.Ready w.side false true, []) k
      (refl, (λ z. absurd (cc), λ z. rb refl, refl), refl, refl) tt (silent-ready w.side false true) (λ a. (refl, refl))
  ready-goes t w ws marks false false ra rb k =
      subst (λ z. StandsFor z (Stage.Marking ws (marks ++ [])) s) (sym (append-nil t))
      (stands-quiet t (Stage.Marking (named w ∷ ws) marks) _ s k (ap (λ z. at (Stage.Marking ws z) s.plain) (append-nil marks)))

  kept-behind : (w : port.Want) (a b : Bool) (marks rest : List Want) → (marks ++ kept w a b []) ++ rest ≡ marks ++ kept w a b rest
  kept-behind w true b marks rest = append_assoc marks _ rest
  kept-behind w false true marks rest = append_assoc marks _ rest
  kept-behind w false false marks rest = ap (λ z. z ++ rest) (append-nil marks)

  readys-go : (t : Trace) (ws : List port.Want) (marks : List Want) → MarkedWithin ws →
      StandsFor t (Stage.Marking (map named ws) marks) s →
      StandsFor (t ++ ready_events ws) (Stage.Marking [] (marks ++ marks_of ws)) s
  readys-go t [] marks m k =
      let a = append-nil t in
      let b = append-nil marks in
      subst (λ z. z) (λ i. StandsFor (sym a i) (Stage.Marking [] (sym b i)) s) k
  readys-go t (w ∷ ws) marks m k =
      let first = ready-goes t w (map named ws) marks w.can_read w.can_write m.0 m.1 k in
      let rest = readys-go (t ++ ready w w.can_read w.can_write) ws (marks ++ kept w w.can_read w.can_write []) m.2 first in
      let a = append_assoc t (ready w w.can_read w.can_write) (ready_events ws) in
      let b = kept-behind w w.can_read w.can_write marks (marks_of ws) in
      subst (λ z. z) (λ i. StandsFor (a i) (Stage.Marking [] (b i)) s) rest

-- the poll and the names of what is wanted
named-go : (t : Trace) (s : State) (ws : List port.Want) → map named ws ≡ wanted s → StandsFor t Stage.Polling s →
    StandsFor ((t ++ (entry.Poll (poll_timeout s), []) ∷ []) ++ want_events ws) (Stage.Wanting []) s
named-go t s ws names k =
    let x : Event = (entry.Poll (poll_timeout s), []) in
    wants-go s (t ++ x ∷ []) ws
    (stands-told t Stage.Polling (Stage.Wanting (map named ws)) s x k
    (poll_timeout-is t Stage.Polling s k, refl, ap (λ z. at (Stage.Wanting z) s.plain) (names ∙ wanted-is t Stage.Polling s k)) tt
    (silent-poll (poll_timeout s)) (λ a. (refl, refl)))

poll-joined : (t : Trace) (x : Event) (a b : Trace) → ((t ++ x ∷ []) ++ a) ++ b ≡ t ++ (x ∷ (a ++ b))
poll-joined t x a b = append_assoc (t ++ x ∷ []) a b ∙ append_assoc t (x ∷ []) (a ++ b)

-- The wanted sides are polled, and some of what they want is marked.
pub poll-stands : (t : Trace) (s : State) (ws : List port.Want) (accept : Bool) → map named ws ≡ wanted s → MarkedWithin ws →
    StandsFor t Stage.Polling s →
    StandsFor (t ++ poll_events (poll_timeout s) ws (polled.Ready accept)) (Stage.Accepting 0 (marks_of ws)) s
poll-stands t s ws accept names within k =
    let x : Event = (entry.Poll (poll_timeout s), []) in
    let v : Trace = (t ++ x ∷ []) ++ want_events ws in
    let a = named-go t s ws names k in
    let b =
    stands-quiet v (Stage.Wanting []) (Stage.Marking (map named ws) []) s a
    (ap (λ z. at (Stage.Marking z []) s.plain) (names ∙ wanted-is v (Stage.Wanting []) s a)) in
    let c = readys-go s v ws [] within b in
    subst (λ z. StandsFor z (Stage.Accepting 0 (marks_of ws)) s) (poll-joined t x (want_events ws) (ready_events ws))
    (stands-quiet (v ++ ready_events ws) (Stage.Marking [] (marks_of ws)) (Stage.Accepting 0 (marks_of ws)) s c refl)

-- The wanted sides are named, and the poll fails.
pub poll_failed-stands : (t : Trace) (s : State) (ws : List port.Want) → map named ws ≡ wanted s → StandsFor t Stage.Polling s →
    StandsFor (t ++ poll_events (poll_timeout s) ws polled.Failed) (Stage.Over Halt.PollFailed) s
poll_failed-stands t s ws names k =
    let x : Event = (entry.Poll (poll_timeout s), []) in
    let y : Event = (entry.PollFailed, []) in
    let v : Trace = (t ++ x ∷ []) ++ want_events ws in
    subst (λ z. StandsFor z (Stage.Over Halt.PollFailed) s) (poll-joined t x (want_events ws) (y ∷ []))
    (stands-told v (Stage.Wanting []) (Stage.Over Halt.PollFailed) s y (named-go t s ws names k) (refl, refl) tt silent-poll_failed
    (λ a. (refl, refl)))

-- From phase to phase

pub accepted-stands : (t : Trace) (s : State) (n : ℕ) (marks : List Want) → StandsFor t (Stage.Accepting n marks) s →
    StandsFor t (Stage.Serving marks) s
accepted-stands t s n marks k = stands-quiet t (Stage.Accepting n marks) (Stage.Serving marks) s k refl

-- All that is due is to be fired.
pub served-stands : (t : Trace) (s : State) → StandsFor t (Stage.Serving []) s →
    StandsFor t (Stage.Dispatching (batch s.plain.due)) (dispatching s)
served-stands t s k = record {
  reached = Reaches.goes k.reached refl;
  accounts =
      silent_steps_keep_accounts s.settings t (at (Stage.Serving []) s.plain)
      (at (Stage.Dispatching (batch s.plain.due)) (record (s.plain) { due = [] })) k.reached refl k.accounts;
  many = k.many;
  each = λ e lt.
      fits-same s.settings t t s.plain (record (s.plain) { due = [] }) e (lane_at s e) (lane_at (dispatching s) e) refl refl (k.each e lt);
  groups = k.groups;
  gauged =
      gauged-same t t s.plain (record (s.plain) { due = [] }) s.gauges
      (record { opened = refl; time = refl; rates = λ a. refl; live = λ a. refl }) (turns-same t) k.gauged;
  grouped =
      grouped-same s.settings t t s.plain (record (s.plain) { due = [] }) s.groups
      (record { opened = refl; time = refl; rates = λ a. refl; live = λ a. refl }) (turns-same t) k.grouped;
}

-- Nothing is left to fire.
pub fired_all-stands : (t : Trace) (s : State) → StandsFor t (Stage.Dispatching []) s →
    StandsFor t (Stage.Passing [] (sides_from 0 s.plain.opened)) s
fired_all-stands t s k = stands-quiet t (Stage.Dispatching []) (Stage.Passing [] (sides_from 0 s.plain.opened)) s k refl

pub passed_all-stands : (t : Trace) (s : State) → StandsFor t (Stage.Passing [] []) s →
    StandsFor t (Stage.Closing (closing_from 0 s.plain.opened)) s
passed_all-stands t s k = stands-quiet t (Stage.Passing [] []) (Stage.Closing (closing_from 0 s.plain.opened)) s k refl

pub closed_all-stands : (t : Trace) (s : State) → StandsFor t (Stage.Closing []) s → StandsFor t Stage.Between s
closed_all-stands t s k = stands-quiet t (Stage.Closing []) Stage.Between s k refl
