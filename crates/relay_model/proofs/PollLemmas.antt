-- A turn's poll fails exactly where the script says so, and nothing follows it: by induction over the steps of a run.
use Rattle.std.proofs.Common.{◌≡◌, ℕ, ◌+◌, ◌-◌, Bool, true, false, ◌||◌, if◌then◌else◌, List, [], ◌∷◌, ◌++◌, take, drop, fold, count_by}
use Rattle.std.proofs.Common.{refl, sym, ◌∙◌, ap, subst, arith, append_assoc, Option, inl, inr}
use Rattle.std.specs.Prelude.{⊤}
use Rattle.std.specs.List.{flat_map, list_any}
use Rattle.std.proofs.lemmas.Bool.{or_parts, or_from}
use Rattle.std.proofs.lemmas.Grind.{flat_map-append}
use Rattle.std.proofs.lemmas.List.{append-nil, take-append-drop, take-take}
use Rattle.std.proofs.lemmas.List.Folds.{list_any-append}
use Rattle.std.proofs.lemmas.List.Sums.{sum_by-append, fold-append}
use Rattle.ev_types.specs.declared.answer.ReadAnswer.{ReadAnswer}
use Rattle.ev_types.specs.declared.answer.ReadAnswer.TheVariants as read
use Rattle.ev_types.specs.declared.side.SideId.{SideId}
use Rattle.ev_types.specs.declared.entry.Entry.{Entry}
use Rattle.ev_types.specs.declared.entry.Entry.TheVariants as entry
use Rattle.ev_types.specs.Trace.{Event, Trace}
use Rattle.relay_model.specs.Settings.{Settings}
use Rattle.relay_model.specs.Due.{Reason}
use Rattle.relay_model.specs.Plain.{Plain}
use Rattle.relay_model.specs.Past.{Past, past}
use Rattle.relay_model.specs.Rooms.{Want}
use Rattle.relay_model.specs.RatesKept.{is_turn}
use Rattle.relay_model.specs.Close.{CloseStep}
use Rattle.relay_model.specs.Stages.{Stage, Halt, State, at, Polling, Wanting, Marking, Accepting, Serving, Filtering, Dispatching, Firing}
use Rattle.relay_model.specs.Stages.{Passing, Closing, Over}
use Rattle.relay_model.specs.Turn.{after_reading, Quietly, Reaches, IsLegal}
use Rattle.relay_model.specs.Answers.{TurnAnswer, LeftAt}
use Rattle.relay_model.specs.Lines.{fails_poll}
use Rattle.ev_types.specs.ScriptTurn.{ScriptTurn}
use Rattle.relay_model.specs.Scripted.{waiting, poll_fails, marks}
use Rattle.relay_model.specs.Totals.{opened}
use Rattle.relay_model.specs.Plays.{PlayStep, want_events, ready_events, accepted, own_events, events}
use Rattle.relay_model.proofs.KindLemmas.{ClosedKind, closed-kind, PutKind, put-kind}
use Rattle.relay_model.proofs.QuietLemmas.{there}
use Rattle.relay_model.proofs.ToldLemmas.{kept}
use Rattle.relay_model.specs.Polls.{fails_among, PollsFailed, PollsFailAsScripted}

-- The poll of the turn begun last

-- it is yet to be made; it failed; or neither
pub data Poll : Type 0 where
  Awaited : Poll
  Failed : Poll
  Idle : Poll

abbrev pub poll_by : Poll → Event → Poll
poll_by p (entry.Turn ms, bytes) = Poll.Awaited
poll_by p (entry.Poll timeout, bytes) = Poll.Idle
poll_by p (entry.PollFailed, bytes) = Poll.Failed
poll_by p _ = p

-- as a trace tells it, and as a stage does
abbrev pub poll_in : Trace → Poll
poll_in t = fold poll_by Poll.Idle t

abbrev pub poll_at : Stage → Poll
poll_at Polling = Poll.Awaited
poll_at (Over Halt.PollFailed) = Poll.Failed
poll_at _ = Poll.Idle

-- behind which an event may stand
abbrev IsBehind : Event → Poll → Type 0
IsBehind (entry.Turn ms, bytes) p = p ≡ Poll.Idle
IsBehind (entry.Poll timeout, bytes) p = p ≡ Poll.Awaited
IsBehind _ p = ⊤

reading-idle : (side : SideId) (answer : ReadAnswer) (ms : List Want) → poll_at (after_reading side answer ms) ≡ Poll.Idle
reading-idle side (read.Got n) ms = refl
reading-idle side read.Ended ms = refl
reading-idle side read.NotYet ms = refl
reading-idle side read.Failed ms = refl

closed-idle : (g : Settings) (p : Past) (s : Plain) (c : CloseStep) (e : Entry) → ClosedKind g p s c e → IsBehind (e, []) Poll.Idle
    × (poll_by Poll.Idle (e, []) ≡ Poll.Idle)
closed-idle g p s c e (ClosedKind.faulty a b) = (tt, refl)
closed-idle g p s c e (ClosedKind.write_ended a b) = (tt, refl)
closed-idle g p s c e (ClosedKind.in_done a b d f) = (tt, refl)
closed-idle g p s c e ClosedKind.out_done = (tt, refl)
closed-idle g p s c e (ClosedKind.peer_gone a b d) = (tt, refl)
closed-idle g p s c e (ClosedKind.shut a b) = (tt, refl)

put-poll : (g : Settings) (t : Trace) (s : Plain) (x : Stage) (y : Event) (new : State) → PutKind g t s x y new → IsBehind y
    (poll_at x) × (poll_by (poll_at x) y ≡ poll_at new.stage)
put-poll g t s x y new (PutKind.turned a b) = (refl, refl)
put-poll g t s x y new PutKind.polled = (refl, refl)
put-poll g t s x y new (PutKind.wanted a) = (tt, refl)
put-poll g t s x y new PutKind.poll_failed = (tt, refl)
put-poll g t s x y new (PutKind.readied a) = (tt, refl)
put-poll g t s x y new PutKind.opened = (tt, refl)
put-poll g t s x y new (PutKind.checked a) = (tt, refl)
put-poll g t s x y new (PutKind.was_read {side = side} {answer = answer} left a b) = (tt, sym (reading-idle side answer left))
put-poll g t s x y new (PutKind.written a b c) = (tt, refl)
put-poll g t s x y new (PutKind.fired a) = (tt, refl)
put-poll g t s x y new (PutKind.frees a same) = (tt, refl)
put-poll g t s x y new (PutKind.asked same k l) = (tt, refl)
put-poll g t s x y new PutKind.recorded = (tt, refl)
put-poll g t s x y new (PutKind.closed {c = c} {e = e} a) = closed-idle g (past g t) s c e (closed-kind g (past g t) s c e a)

after_fire-idle : (b : Bool) (k : ℕ) (rs : List Reason) → poll_at (if b then Over (Halt.StoppedBy k) else Dispatching rs) ≡ Poll.Idle
after_fire-idle true k rs = refl
after_fire-idle false k rs = refl

quiet-poll : (g : Settings) (t : Trace) (x : Stage) (s : Plain) (new : State) → Quietly g t x s new → poll_at new.stage ≡ poll_at x
quiet-poll g t (Wanting []) s new h = ap (λ z. poll_at z.stage) h
quiet-poll g t (Marking (w ∷ ws) marks) s new h = ap (λ z. poll_at z.stage) h
quiet-poll g t (Marking [] marks) s new h = ap (λ z. poll_at z.stage) h
quiet-poll g t (Accepting n marks) s new h = ap (λ z. poll_at z.stage) h
quiet-poll g t (Serving (m ∷ ms)) s new h = ap (λ z. poll_at z.stage) h.1
quiet-poll g t (Filtering e ms) s new h = ap (λ z. poll_at z.stage) h
quiet-poll g t (Serving []) s new h = ap (λ z. poll_at z.stage) h
quiet-poll g t (Firing x rs) s new h = ap (λ z. poll_at z.stage) h ∙ after_fire-idle x.stopped x.side.link rs
quiet-poll g t (Dispatching []) s new h = ap (λ z. poll_at z.stage) h
quiet-poll g t (Passing [] (e ∷ es)) s new (inl h) = ap (λ z. poll_at z.stage) h.1
quiet-poll g t (Passing [] (e ∷ es)) s new (inr h) = ap (λ z. poll_at z.stage) h
quiet-poll g t (Passing (x ∷ xs) (e ∷ es)) s new h = ap (λ z. poll_at z.stage) h
quiet-poll g t (Passing [] []) s new h = ap (λ z. poll_at z.stage) h
quiet-poll g t (Closing (c ∷ cs)) s new h = ap (λ z. poll_at z.stage) h.1
quiet-poll g t (Closing []) s new h = ap (λ z. poll_at z.stage) h
quiet-poll g t _ s new h = absurd h

-- Whatever stage a legal trace leads to, both tell the same.
pub poll_is_told : (g : Settings) (t : Trace) (s : State) → Reaches g t s → poll_in t ≡ poll_at s.stage
poll_is_told g t s Reaches.begins = refl
poll_is_told g t new (Reaches.goes {t = u} {s = old} r h) = poll_is_told g u old r ∙ sym (quiet-poll g u old.stage old.plain new h)
poll_is_told g t new (Reaches.puts {t = u} {s = old} e bytes r h) =
    let k = put-poll g u old.plain old.stage (e, bytes) new (put-kind g u old.stage old.plain e bytes new (kept g u old r).placed h) in
    fold-append poll_by Poll.Idle u ((e, bytes) ∷ []) ∙ ap (λ p. poll_by p (e, bytes)) (poll_is_told g u old r) ∙ k.1

-- an event of a legal trace stands behind a poll behind which it may
behind : (g : Settings) (whole t : Trace) (y : Event) (rest : Trace) → IsLegal g whole → whole ≡ t ++ y ∷ rest → IsBehind y (poll_in t)
behind g whole t y rest legal is =
    let k = there g whole legal.0 legal.1 t y rest is in
    subst (λ p. IsBehind y p) (sym (poll_is_told g t k.old k.reached)) (put-poll g t k.old.plain k.old.stage y k.new k.kind).0

-- Steps that leave the poll and the count of turns

record IsStill (u : Trace) : Type 0 where
  pub poll : (p : Poll) → fold poll_by p u ≡ p
  pub turns : count_by is_turn u ≡ 0

still-none : IsStill []
still-none = record { poll = λ p. refl; turns = refl }

count-append : (t u : Trace) → count_by is_turn (t ++ u) ≡ count_by is_turn t + count_by is_turn u
count-append t u = sum_by-append (λ x. if is_turn x then 1 else 0) t u

still-append : (t u : Trace) → IsStill t → IsStill u → IsStill (t ++ u)
still-append t u h k = record {
  poll = λ p. fold-append poll_by p t u ∙ ap (λ q. fold poll_by q u) (h.poll p) ∙ k.poll p;
  turns = let parts = count-append t u in let left = h.turns in let right = k.turns in omega (arith, parts, left, right);
}

still-wants : (ws : List Want) → IsStill (want_events ws)
still-wants [] = still-none
still-wants (w ∷ ws) = still-append ((entry.Want w.side w.read w.write, []) ∷ []) (want_events ws)
    (record { poll = λ p. refl; turns = refl }) (still-wants ws)

still-readies : (ws : List Want) → IsStill (ready_events ws)
still-readies [] = still-none
still-readies (w ∷ ws) = still-append ((entry.Ready w.side w.read w.write, []) ∷ []) (ready_events ws)
    (record { poll = λ p. refl; turns = refl }) (still-readies ws)

still-accepted : (link : ℕ) (links : List Bool) → IsStill (accepted link links)
still-accepted link [] = still-none
still-accepted link (undecided ∷ later) = record { poll = λ p. refl; turns = refl }

still-own : (x : Entry) → IsStill (own_events x)
still-own (entry.Fired side why) = record { poll = λ p. refl; turns = refl }
still-own (entry.Asked side act answer) = record { poll = λ p. refl; turns = refl }
still-own (entry.Freed side cause moved given) = record { poll = λ p. refl; turns = refl }
still-own (entry.CloseWrite side) = record { poll = λ p. refl; turns = refl }
still-own (entry.Close side) = record { poll = λ p. refl; turns = refl }
still-own _ = still-none

module _ (turns : List ScriptTurn) where
  -- does a line of the n-th turn fail the poll, counted from 1
  abbrev fails_at : ℕ → Bool
  fails_at n = list_any fails_poll (flat_map (λ turn. turn.1) (drop (n - 1) (take n turns)))

  among-last : (n : ℕ) → fails_among turns n ≡ (fails_among turns (n - 1) || fails_at n)
  among-last n =
      let ys = take n turns in
      let halves : ys ≡ take (n - 1) turns ++ drop (n - 1) ys = sym (ap (λ z. z ++ drop (n - 1) ys)
      (sym (take-take (n - 1) n turns (omega arith))) ∙ take-append-drop (n - 1) ys) in
      ap (λ z. list_any fails_poll (flat_map (λ turn. turn.1) z)) halves
      ∙ ap (list_any fails_poll) (flat_map-append (λ turn. turn.1) (take (n - 1) turns) (drop (n - 1) ys))
      ∙ list_any-append fails_poll (flat_map (λ turn. turn.1) (take (n - 1) turns)) _

  -- what is known of the lines of the turns that were begun
  abbrev Known : Poll → ℕ → Type 0
  Known Poll.Awaited n = fails_among turns (n - 1) ≡ false
  Known Poll.Failed n = (fails_at n ≡ true) × (fails_among turns (n - 1) ≡ false)
  Known Poll.Idle n = fails_among turns n ≡ false

  abbrev KnownOf : Trace → Type 0
  KnownOf t = Known (poll_in t) (count_by is_turn t)

  known-still : (t u : Trace) → IsStill u → KnownOf t → KnownOf (t ++ u)
  known-still t u h known =
      let a : poll_in (t ++ u) ≡ poll_in t = fold-append poll_by Poll.Idle t u ∙ h.poll (poll_in t) in
      let none = h.turns in
      let parts = count-append t u in
      let b : count_by is_turn (t ++ u) ≡ count_by is_turn t = omega (arith, none, parts) in
      subst (λ p. Known p (count_by is_turn (t ++ u))) (sym a) (subst (λ n. Known (poll_in t) n) (sym b) known)

  module _ (closing_by : ℕ) (g : Settings) (whole : Trace) (legal : IsLegal g whole) where
    abbrev put : Trace → PlayStep → Trace
    put t x = t ++ events turns closing_by t x

    known-turn : (t rest : Trace) (ms : ℕ) → whole ≡ t ++ (entry.Turn ms, []) ∷ rest → KnownOf t → KnownOf (t ++ (entry.Turn ms, []) ∷ [])
    known-turn t rest ms is known =
        let y : Event = (entry.Turn ms, []) in
        let idle : poll_in t ≡ Poll.Idle = behind g whole t y rest legal is in
        let before : fails_among turns (count_by is_turn t) ≡ false = subst (λ p. Known p (count_by is_turn t)) idle known in
        let parts = count-append t (y ∷ []) in
        let less : count_by is_turn (t ++ y ∷ []) - 1 ≡ count_by is_turn t = omega (arith, parts) in
        subst (λ p. Known p (count_by is_turn (t ++ y ∷ []))) (sym (fold-append poll_by Poll.Idle t (y ∷ [])))
        (ap (fails_among turns) less ∙ before)

    -- what is put behind the wants
    abbrev outcome : Bool → List Want → Trace
    outcome fails ws = if fails then (entry.PollFailed, []) ∷ [] else ready_events ws

    known-outcome : (t : Trace) (timeout : Option ℕ) (ws marked : List Want) → fails_among turns (count_by is_turn t - 1) ≡ false →
        (b : Bool) → fails_at (count_by is_turn t) ≡ b →
        KnownOf (t ++ (entry.Poll timeout, []) ∷ (want_events ws ++ outcome b marked))
    known-outcome t timeout ws marked before true fails =
        let mid = t ++ (entry.Poll timeout, []) ∷ want_events ws in
        let last : Event = (entry.PollFailed, []) in
        let one = count-append t ((entry.Poll timeout, []) ∷ want_events ws) in
        let two = count-append mid (last ∷ []) in
        let three = (still-wants ws).turns in
        let same : count_by is_turn (mid ++ last ∷ []) ≡ count_by is_turn t = omega (arith, one, two, three) in
        let failed : poll_in (mid ++ last ∷ []) ≡ Poll.Failed = fold-append poll_by Poll.Idle mid (last ∷ []) in
        subst KnownOf (append_assoc t ((entry.Poll timeout, []) ∷ want_events ws) (last ∷ []))
        (subst (λ p. Known p (count_by is_turn (mid ++ last ∷ []))) (sym failed)
        (ap fails_at same ∙ fails, ap (λ n. fails_among turns (n - 1)) same ∙ before))
    known-outcome t timeout ws marked before false fails =
        let y : Event = (entry.Poll timeout, []) in
        let one = count-append t (y ∷ []) in
        let same : count_by is_turn (t ++ y ∷ []) ≡ count_by is_turn t = omega (arith, one) in
        let none : fails_among turns (count_by is_turn t) ≡ false = among-last (count_by is_turn t) ∙ or_from
        (fails_among turns (count_by is_turn t - 1)) (fails_at (count_by is_turn t)) before fails in
        let first : KnownOf (t ++ y ∷ []) =
        subst (λ p. Known p (count_by is_turn (t ++ y ∷ []))) (sym (fold-append poll_by Poll.Idle t (y ∷ [])))
        (ap (fails_among turns) same ∙ none) in
        let second = known-still (t ++ y ∷ []) (want_events ws) (still-wants ws) first in
        let third = known-still ((t ++ y ∷ []) ++ want_events ws) (ready_events marked) (still-readies marked) second in
        subst KnownOf (append_assoc (t ++ y ∷ []) (want_events ws) (ready_events marked) ∙ append_assoc t (y ∷ [])
        (want_events ws ++ ready_events marked)) third

    known-step : (t rest : Trace) (x : PlayStep) → whole ≡ put t x ++ rest → KnownOf t → KnownOf (put t x)
    known-step t rest PlayStep.Now is known =
        known-turn t rest _ (is ∙ append_assoc t (events turns closing_by t PlayStep.Now) rest) known
    known-step t rest (PlayStep.Poll timeout ws) is known =
        let more = want_events ws ++ outcome (poll_fails turns t) (marks turns t ws) in
        let y : Event = (entry.Poll timeout, []) in
        let awaited : poll_in t ≡ Poll.Awaited = behind g whole t y (more ++ rest) legal (is ∙ append_assoc t (y ∷ more) rest) in
        known-outcome t timeout ws (marks turns t ws) (subst (λ p. Known p (count_by is_turn t)) awaited known) (poll_fails turns t) refl
    known-step t rest PlayStep.Accept is known = known-still t _ (still-accepted (opened t) (waiting turns t)) known
    known-step t rest (PlayStep.Check e) is known = known-still t _ (record { poll = λ p. refl; turns = refl }) known
    known-step t rest (PlayStep.Read e room) is known = known-still t _ (record { poll = λ p. refl; turns = refl }) known
    known-step t rest (PlayStep.Write e offered) is known = known-still t _ (record { poll = λ p. refl; turns = refl }) known
    known-step t rest (PlayStep.Own x) is known = known-still t _ (still-own x) known

    -- further steps put something behind
    goes_on : (xs : List PlayStep) (t : Trace) → (rest : Trace) × (fold put t xs ≡ t ++ rest)
    goes_on [] t = ([], sym (append-nil t))
    goes_on (x ∷ xs) t =
        let k = goes_on xs (put t x) in
        (events turns closing_by t x ++ k.0, k.1 ∙ append_assoc t (events turns closing_by t x) k.0)

    known-steps : (xs : List PlayStep) (t : Trace) → whole ≡ fold put t xs → KnownOf t → KnownOf whole
    known-steps [] t is known = subst KnownOf (sym is) known
    known-steps (x ∷ xs) t is known =
        let k = goes_on xs (put t x) in
        known-steps xs (put t x) is (known-step t k.0 x (is ∙ k.1) known)

  left-none : (p : Poll) (n : ℕ) → Known p n → fails_among turns (n - 1) ≡ false
  left-none Poll.Awaited n h = h
  left-none Poll.Failed n h = h.1
  left-none Poll.Idle n h = (or_parts (fails_among turns (n - 1)) (fails_at n) (sym (among-last n) ∙ h)).0

  polls-left : (g : Settings) (answer : TurnAnswer) (t : Trace) (x : Stage) (s : Plain) → LeftAt g answer x s → Known (poll_at x)
      (count_by is_turn t) → PollsFailed answer turns t
  polls-left g TurnAnswer.Went t x s left known = subst (λ z. Known (poll_at z) (count_by is_turn t)) left known
  polls-left g (TurnAnswer.Stopped link) t x s left known = subst (λ z. Known (poll_at z) (count_by is_turn t)) left known
  polls-left g TurnAnswer.PollFault t x s left known = subst (λ z. Known (poll_at z) (count_by is_turn t)) left known
  polls-left g TurnAnswer.OpenFault t (Accepting n marks) s left known = known
  polls-left g TurnAnswer.OpenFault t _ s left known = absurd left
  polls-left g TurnAnswer.Spent t x s left known = subst (λ z. Known (poll_at z) (count_by is_turn t)) left known
  polls-left g TurnAnswer.Memory t x s left known = left-none (poll_at x) (count_by is_turn t) known

pub polls_fail_as_scripted : PollsFailAsScripted
polls_fail_as_scripted g answer turns closing_by t (steps, is) (x, s, r, left) =
    let known : Known turns (poll_in t) (count_by is_turn t) = known-steps turns closing_by g t (at x s, r) steps [] is refl in
    polls-left turns g answer t x s left (subst (λ p. Known turns p (count_by is_turn t)) (poll_is_told g t (at x s) r) known)
