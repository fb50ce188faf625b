-- Of two states to which a trace leads, one leads to the other with no entry, by induction over the trace.
use Rattle.std.proofs.Common.{◌≡◌, ℕ, zero, suc, ◌+◌, ◌≤◌, Bool, true, false, if◌then◌else◌, List, [], ◌∷◌, ◌++◌, length, fold, Option}
use Rattle.std.proofs.Common.{Some, None, ◌⊎◌, inl, inr, refl, sym, ◌∙◌, ap, subst, arith, length-append}
use Rattle.std.specs.Prelude.{⊤}
use Rattle.ev_types.specs.declared.side.SideId.{SideId}
use Rattle.ev_types.specs.declared.act.Act.{Act}
use Rattle.ev_types.specs.declared.answer.AskAnswer.{AskAnswer}
use Rattle.ev_types.specs.declared.answer.AskAnswer.TheVariants as ask
use Rattle.ev_types.specs.declared.entry.Entry.{Entry}
use Rattle.ev_types.specs.declared.entry.Entry.TheVariants as entry
use Rattle.ev_types.specs.Trace.{Event, Trace}
use Rattle.relay_model.specs.Settings.{Settings}
use Rattle.relay_model.specs.Due.{Reason}
use Rattle.relay_model.specs.Plain.{Plain}
use Rattle.relay_model.specs.Past.{Past, past}
use Rattle.relay_model.specs.Rooms.{Want}
use Rattle.relay_model.specs.Asks.{Ask, Answered, refusal}
use Rattle.relay_model.specs.Round.{Part, do_part, round_parts, round}
use Rattle.relay_model.specs.Serve.{Call}
use Rattle.relay_model.specs.Close.{CloseStep}
use Rattle.relay_model.specs.Stages.{Stage, State, at, start, after_ask, Between, Polling, Wanting, Marking, Accepting, Serving, Filtering}
use Rattle.relay_model.specs.Stages.{Dispatching, Firing, Freeing, Passing, Closing, Over, Halt}
use Rattle.relay_model.specs.Turn.{after_fire, Quietly, Puts, Reaches}
use Rattle.relay_model.specs.Onward.{Leads, AllOnOneWay}
use Rattle.relay_model.proofs.KindLemmas.{ClosedKind, closed-kind}
use Rattle.relay_model.proofs.SplitLemmas.{IsLast, IsEarlier, pushed_split}

-- Silent steps in a row

data Steps (g : Settings) (t : Trace) : ℕ → State → State → Type 0 where
  none : {s : State} → Steps g t 0 s s
  step : {n : ℕ} {s mid new : State} → Quietly g t s.stage s.plain mid → Steps g t n mid new → Steps g t (suc n) s new

steps-snoc : (g : Settings) (t : Trace) (n : ℕ) (s mid new : State) → Steps g t n s mid → Quietly g t mid.stage mid.plain new →
    Steps g t (suc n) s new
steps-snoc g t n s mid new Steps.none q = Steps.step {mid = new} q Steps.none
steps-snoc g t n s mid new (Steps.step {n = m} {mid = next} p k) q = Steps.step {mid = next} p (steps-snoc g t m next mid new k q)

steps-add : (g : Settings) (t : Trace) (n m : ℕ) (s mid new : State) → Steps g t n s mid → Steps g t m mid new → Steps g t (n + m) s new
steps-add g t n m s mid new Steps.none k = subst (λ z. Steps g t z s new) (let e : m ≡ 0 + m = omega arith in e) k
steps-add g t n m s mid new (Steps.step {n = i} {mid = next} p h) k =
    subst (λ z. Steps g t z s new) (let e : suc (i + m) ≡ suc i + m = omega arith in e)
    (Steps.step {mid = next} p (steps-add g t i m next mid new h k))

steps-lead : (g : Settings) (t : Trace) (n : ℕ) (a s new : State) → Leads g t a t s → Steps g t n s new → Leads g t a t new
steps-lead g t n a s new l Steps.none = l
steps-lead g t n a s new l (Steps.step {n = m} {mid = mid} q k) = steps-lead g t m a mid new (Leads.goes {mid = s} l q) k

-- some steps lead from one to the other
record Path (g : Settings) (t : Trace) (s new : State) : Type 0 where
  count : ℕ
  steps : Steps g t count s new

abbrev Joined : Settings → Trace → State → State → Type 0
Joined g t a b = Path g t a b ⊎ Path g t b a

path-add : (g : Settings) (t : Trace) (s mid new : State) → Path g t s mid → Path g t mid new → Path g t s new
path-add g t s mid new h k = record { count = h.count + k.count; steps = steps-add g t h.count k.count s mid new h.steps k.steps }

one-step : (g : Settings) (t : Trace) (s new : State) → Quietly g t s.stage s.plain new → Path g t s new
one-step g t s new q = record { count = 1; steps = Steps.step {mid = new} q Steps.none }

-- Two silent steps from one state

-- a direction that a round leaves as it was is passed by one, and has one more round by the other
record Forks (g : Settings) (t : Trace) (x : Stage) (s : Plain) (a b : State) : Type 0 where
  e : SideId
  es : List SideId
  stage : x ≡ Passing [] (e ∷ es)
  still : round g (past g t) e s ≡ s
  first : a ≡ at (Passing [] es) s
  second : b ≡ at (Passing (round_parts g (past g t) e s) (e ∷ es)) s

data Fork (g : Settings) (t : Trace) (x : Stage) (s : Plain) (a b : State) : Type 0 where
  alike : a ≡ b → Fork g t x s a b
  passes : Forks g t x s a b → Fork g t x s a b
  rounds : Forks g t x s b a → Fork g t x s a b

quiet-fork : (g : Settings) (t : Trace) (x : Stage) (s : Plain) (a b : State) → Quietly g t x s a → Quietly g t x s b → Fork g t x s a b
quiet-fork g t (Wanting []) s a b p q = Fork.alike (p ∙ sym q)
quiet-fork g t (Marking (w ∷ ws) marks) s a b p q = Fork.alike (p ∙ sym q)
quiet-fork g t (Marking [] marks) s a b p q = Fork.alike (p ∙ sym q)
quiet-fork g t (Accepting n marks) s a b p q = Fork.alike (p ∙ sym q)
quiet-fork g t (Serving (m ∷ ms)) s a b p q = Fork.alike (p.1 ∙ sym q.1)
quiet-fork g t (Filtering e ms) s a b p q = Fork.alike (p ∙ sym q)
quiet-fork g t (Serving []) s a b p q = Fork.alike (p ∙ sym q)
quiet-fork g t (Firing x rs) s a b p q = Fork.alike (p ∙ sym q)
quiet-fork g t (Dispatching []) s a b p q = Fork.alike (p ∙ sym q)
quiet-fork g t (Passing [] (e ∷ es)) s a b (inl p) (inl q) = Fork.alike (p.1 ∙ sym q.1)
quiet-fork g t (Passing [] (e ∷ es)) s a b (inl p) (inr q) =
    Fork.passes (record { e = e; es = es; stage = refl; still = p.0; first = p.1; second = q })
quiet-fork g t (Passing [] (e ∷ es)) s a b (inr p) (inl q) =
    Fork.rounds (record { e = e; es = es; stage = refl; still = q.0; first = q.1; second = p })
quiet-fork g t (Passing [] (e ∷ es)) s a b (inr p) (inr q) = Fork.alike (p ∙ sym q)
quiet-fork g t (Passing (x ∷ parts) (e ∷ es)) s a b p q = Fork.alike (p ∙ sym q)
quiet-fork g t (Passing [] []) s a b p q = Fork.alike (p ∙ sym q)
quiet-fork g t (Closing (c ∷ cs)) s a b p q = Fork.alike (p.1 ∙ sym q.1)
quiet-fork g t (Closing []) s a b p q = Fork.alike (p ∙ sym q)
quiet-fork g t _ s a b p q = absurd p

-- the rest of a round
abbrev rounded : Settings → Trace → SideId → List Part → Plain → Plain
rounded g t e parts s = fold (λ state x. do_part g (past g t) e x state) s parts

round-path : (g : Settings) (t : Trace) (e : SideId) (es : List SideId) (parts : List Part) (s : Plain) →
    Path g t (at (Passing parts (e ∷ es)) s) (at (Passing [] (e ∷ es)) (rounded g t e parts s))
round-path g t e es [] s = record { count = 0; steps = Steps.none }
round-path g t e es (x ∷ parts) s =
    path-add g t (at (Passing (x ∷ parts) (e ∷ es)) s) (at (Passing parts (e ∷ es)) (do_part g (past g t) e x s)) _
    (one-step g t (at (Passing (x ∷ parts) (e ∷ es)) s) (at (Passing parts (e ∷ es)) (do_part g (past g t) e x s)) refl)
    (round-path g t e es parts (do_part g (past g t) e x s))

-- steps that end within a round, or go on behind it
record Behind (g : Settings) (t : Trace) (n : ℕ) (s new : State) : Type 0 where
  count : ℕ
  fewer : count ≤ n
  steps : Steps g t count s new

round-end : (g : Settings) (t : Trace) (e : SideId) (es : List SideId) (parts : List Part) (s : Plain) (n : ℕ) (x : Stage) (new : State) →
    x ≡ Passing parts (e ∷ es) → Steps g t n (at x s) new →
    Path g t new (at (Passing [] (e ∷ es)) (rounded g t e parts s)) ⊎ Behind g t n (at (Passing [] (e ∷ es)) (rounded g t e parts s)) new
round-end g t e es [] s n x new same k =
    inr (record { count = n; fewer = omega arith; steps = subst (λ v. Steps g t n (at v s) new) same k })
round-end g t e es (p ∷ parts) s n x new same Steps.none =
    inl (subst (λ v. Path g t (at v s) (at (Passing [] (e ∷ es)) (rounded g t e (p ∷ parts) s))) (sym same)
    (round-path g t e es (p ∷ parts) s))
round-end g t e es (p ∷ parts) s n x new same (Steps.step {n = m} {mid = mid} q k) =
    let is : mid ≡ at (Passing parts (e ∷ es)) (do_part g (past g t) e p s) = subst (λ v. Quietly g t v s mid) same q in
    elim (round-end g t e es parts (do_part g (past g t) e p s) m (Passing parts (e ∷ es)) new refl
    (subst (λ v. Steps g t m v new) is k)) [
      | inl h ↦ inl h
      | inr h ↦ inr (record { count = h.count; fewer = (let f = h.fewer in omega arith); steps = h.steps })
    ]

-- two ways from one state
abbrev Both : Settings → Trace → ℕ → Type 0
Both g t fuel = (s a b : State) (n m : ℕ) → n + m ≤ fuel → Steps g t n s a → Steps g t m s b → Joined g t a b

forked : (g : Settings) (t : Trace) (fuel : ℕ) → Both g t fuel → (s a b mid other : State) (n m : ℕ) → suc n + suc m ≤ suc fuel →
    Quietly g t s.stage s.plain mid → Steps g t n mid a → Forks g t s.stage s.plain mid other → Steps g t m other b → Joined g t a b
forked g t fuel ih s a b mid other n m le q k fork h =
    go (round-end g t fork.e fork.es parts s.plain m (Passing parts (fork.e ∷ fork.es)) b refl
    (subst (λ v. Steps g t m v b) fork.second h))
  where
    parts : List Part
    parts = round_parts g (past g t) fork.e s.plain

    back : at (Passing [] (fork.e ∷ fork.es)) (rounded g t fork.e parts s.plain) ≡ s
    back = let st = fork.stage in let stl = fork.still in λ i. record { stage = sym st i; plain = stl i }

    go : Path g t b (at (Passing [] (fork.e ∷ fork.es)) (rounded g t fork.e parts s.plain))
        ⊎ Behind g t m (at (Passing [] (fork.e ∷ fork.es)) (rounded g t fork.e parts s.plain)) b → Joined g t a b
    go (inl p) =
        inr (path-add g t b s a (subst (λ v. Path g t b v) back p) (record { count = suc n; steps = Steps.step {mid = mid} q k }))
    go (inr p) =
        ih s a b (suc n) p.count (let f = p.fewer in omega arith) (Steps.step {mid = mid} q k)
        (subst (λ v. Steps g t p.count v b) back p.steps)

flip : (g : Settings) (t : Trace) (a b : State) → Joined g t a b → Joined g t b a
flip g t a b (inl h) = inr h
flip g t a b (inr h) = inl h

both-ways : (g : Settings) (t : Trace) (fuel : ℕ) → Both g t fuel
both-ways g t fuel s a b n m le Steps.none h = inl (record { count = m; steps = h })
both-ways g t fuel s a b n m le (Steps.step {n = i} {mid = mid} q k) Steps.none =
    inr (record { count = suc i; steps = Steps.step {mid = mid} q k })
both-ways g t zero s a b n m le (Steps.step {n = i} {mid = mid} q k) (Steps.step {n = j} {mid = other} p h) = absurd (omega arith)
both-ways g t (suc fuel) s a b n m le (Steps.step {n = i} {mid = mid} q k) (Steps.step {n = j} {mid = other} p h) =
    elim (quiet-fork g t s.stage s.plain mid other q p) [
      | alike is ↦ both-ways g t fuel mid a b i j (omega arith) k (subst (λ v. Steps g t j v b) (sym is) h)
      | passes fork ↦ forked g t fuel (both-ways g t fuel) s a b mid other i j (omega arith) q k fork h
      | rounds fork ↦ flip g t b a (forked g t fuel (both-ways g t fuel) s b a other mid j i (omega arith) p h fork k)
    ]

paths-join : (g : Settings) (t : Trace) (s a b : State) → Path g t s a → Path g t s b → Joined g t a b
paths-join g t s a b h k = both-ways g t (h.count + k.count) s a b h.count k.count (omega arith) h.steps k.steps

-- Stages in the order of a turn, as far as silent steps go

abbrev rank : Stage → ℕ
rank (Wanting ws) = 0
rank (Marking ws marks) = 1
rank (Accepting n marks) = 2
rank (Serving ms) = 3
rank (Filtering e ms) = 3
rank (Firing x rs) = 4
rank (Dispatching rs) = 5
rank (Passing parts es) = 6
rank (Closing cs) = 7
rank _ = 8

fire-rank : (b : Bool) (k : ℕ) (rs : List Reason) → 5 ≤ rank (if b then Over (Halt.StoppedBy k) else Dispatching rs)
fire-rank true k rs = omega arith
fire-rank false k rs = omega arith

quiet-rank : (g : Settings) (t : Trace) (x : Stage) (s : Plain) (new : State) → Quietly g t x s new → rank x ≤ rank new.stage
quiet-rank g t (Wanting []) s new h = subst (λ z. 0 ≤ rank z.stage) (sym h) (omega arith)
quiet-rank g t (Marking (w ∷ ws) marks) s new h = subst (λ z. 1 ≤ rank z.stage) (sym h) (omega arith)
quiet-rank g t (Marking [] marks) s new h = subst (λ z. 1 ≤ rank z.stage) (sym h) (omega arith)
quiet-rank g t (Accepting n marks) s new h = subst (λ z. 2 ≤ rank z.stage) (sym h) (omega arith)
quiet-rank g t (Serving (m ∷ ms)) s new h = subst (λ z. 3 ≤ rank z.stage) (sym h.1) (omega arith)
quiet-rank g t (Filtering e ms) s new h = subst (λ z. 3 ≤ rank z.stage) (sym h) (omega arith)
quiet-rank g t (Serving []) s new h = subst (λ z. 3 ≤ rank z.stage) (sym h) (omega arith)
quiet-rank g t (Firing x rs) s new h =
    subst (λ z. 4 ≤ rank z.stage) (sym h) (let r = fire-rank x.stopped x.side.link rs in omega arith)
quiet-rank g t (Dispatching []) s new h = subst (λ z. 5 ≤ rank z.stage) (sym h) (omega arith)
quiet-rank g t (Passing [] (e ∷ es)) s new (inl h) = subst (λ z. 6 ≤ rank z.stage) (sym h.1) (omega arith)
quiet-rank g t (Passing [] (e ∷ es)) s new (inr h) = subst (λ z. 6 ≤ rank z.stage) (sym h) (omega arith)
quiet-rank g t (Passing (x ∷ parts) (e ∷ es)) s new h = subst (λ z. 6 ≤ rank z.stage) (sym h) (omega arith)
quiet-rank g t (Passing [] []) s new h = subst (λ z. 6 ≤ rank z.stage) (sym h) (omega arith)
quiet-rank g t (Closing (c ∷ cs)) s new h = subst (λ z. 7 ≤ rank z.stage) (sym h.1) (omega arith)
quiet-rank g t (Closing []) s new h = subst (λ z. 7 ≤ rank z.stage) (sym h) (omega arith)
quiet-rank g t _ s new h = absurd h

steps-rank : (g : Settings) (t : Trace) (n : ℕ) (s new : State) → Steps g t n s new → rank s.stage ≤ rank new.stage
steps-rank g t n s new Steps.none = omega arith
steps-rank g t n s new (Steps.step {n = m} {mid = mid} q k) =
    let a = quiet-rank g t s.stage s.plain mid q in let b = steps-rank g t m mid new k in omega arith

-- the place of an entry in that order, where a silent step may stand for it
abbrev Ranked : Entry → Stage → Type 0
Ranked entry.PollFailed x = rank x ≡ 0
Ranked (entry.Ready side r d) x = rank x ≡ 1
Ranked (entry.Opened link connected) x = rank x ≡ 2
Ranked (entry.Asked side a answer) x = rank x ≡ 4
Ranked _ x = ⊤

closed-ranked : (g : Settings) (p : Past) (s : Plain) (c : CloseStep) (y : Entry) (x : Stage) → ClosedKind g p s c y → Ranked y x
closed-ranked g p s c y x (ClosedKind.faulty a b) = tt
closed-ranked g p s c y x (ClosedKind.write_ended a b) = tt
closed-ranked g p s c y x (ClosedKind.in_done a b d f) = tt
closed-ranked g p s c y x (ClosedKind.out_done) = tt
closed-ranked g p s c y x (ClosedKind.peer_gone a b d) = tt
closed-ranked g p s c y x (ClosedKind.shut a b) = tt

put-ranked : (g : Settings) (t : Trace) (x : Stage) (s : Plain) (y : Entry) (bytes : List ℕ) (new : State) → Puts g t x s y bytes new →
    Ranked y x
put-ranked g t Between s (entry.Turn ms) bytes new h = tt
put-ranked g t Polling s (entry.Poll timeout) bytes new h = tt
put-ranked g t (Wanting (w ∷ ws)) s (entry.Want side r d) bytes new h = tt
put-ranked g t (Wanting []) s entry.PollFailed bytes new h = refl
put-ranked g t (Marking (w ∷ ws) marks) s (entry.Ready side r d) bytes new h = refl
put-ranked g t (Accepting n marks) s (entry.Opened link connected) bytes new h = refl
put-ranked g t (Serving (m ∷ ms)) s (entry.Conn side answer) bytes new h = tt
put-ranked g t (Serving (m ∷ ms)) s (entry.Read side room answer) bytes new h = tt
put-ranked g t (Serving (m ∷ ms)) s (entry.Write side offered answer) bytes new h = tt
put-ranked g t (Dispatching (r ∷ rs)) s (entry.Fired side y) bytes new h = tt
put-ranked g t (Firing x rs) s (entry.Asked side a answer) bytes new h = refl
put-ranked g t (Freeing gone x rs) s y bytes new h = subst (λ v. Ranked v (Freeing gone x rs)) (sym h.0) tt
put-ranked g t (Closing (c ∷ cs)) s y bytes new h =
    closed-ranked g (past g t) s c y (Closing (c ∷ cs)) (closed-kind g (past g t) s c y h.0)
put-ranked g t _ s y bytes new h = absurd h

-- One entry from one state

answer-same : (g : Settings) (p : Past) (s : Plain) (a : Act) (answer : AskAnswer) (x y : Plain) → Ask g p s a answer x →
    Ask g p s a answer y → x ≡ y
answer-same g p s a answer x y h k = go (refusal g s a) h k
  where
    go : (r : Option AskAnswer) → Answered r g p s a answer x → Answered r g p s a answer y → x ≡ y
    go (Some refused) h k = h.1 ∙ sym k.1
    go None (inl h) (inl k) = h.1 ∙ sym k.1
    go None (inr h) (inr k) = h.2 ∙ sym k.2
    go None (inl h) (inr k) = absurd (let e : ask.Ok ≡ ask.Memory = sym h.0 ∙ k.0 in cc)
    go None (inr h) (inl k) = absurd (let e : ask.Memory ≡ ask.Ok = sym h.0 ∙ k.0 in cc)

put-same : (g : Settings) (t : Trace) (x : Stage) (s : Plain) (y : Entry) (bytes : List ℕ) (a b : State) →
    Puts g t x s y bytes a → Puts g t x s y bytes b → a ≡ b
put-same g t Between s (entry.Turn ms) bytes a b h k = h.3 ∙ sym k.3
put-same g t Polling s (entry.Poll timeout) bytes a b h k = h.2 ∙ sym k.2
put-same g t (Wanting (w ∷ ws)) s (entry.Want side r d) bytes a b h k = h.2 ∙ sym k.2
put-same g t (Wanting []) s entry.PollFailed bytes a b h k = h.1 ∙ sym k.1
put-same g t (Marking (w ∷ ws) marks) s (entry.Ready side r d) bytes a b h k = h.3 ∙ sym k.3
put-same g t (Accepting n marks) s (entry.Opened link connected) bytes a b h k = h.4 ∙ sym k.4
put-same g t (Serving (m ∷ ms)) s (entry.Conn side answer) bytes a b h k = h.3 ∙ sym k.3
put-same g t (Serving (m ∷ ms)) s (entry.Read side room answer) bytes a b h k = h.3 ∙ sym k.3
put-same g t (Serving (m ∷ ms)) s (entry.Write side offered answer) bytes a b h k = h.3 ∙ sym k.3
put-same g t (Dispatching (r ∷ rs)) s (entry.Fired side y) bytes a b h k = h.3 ∙ sym k.3
put-same g t (Firing x rs) s (entry.Asked side act answer) bytes a b h k =
    h.5
    ∙ ap (λ v. at (after_ask (record x { asks = x.asks + 1 }) rs act answer) v) (answer-same g (past g t) s act answer h.3 k.3 h.4 k.4)
    ∙ sym k.5
put-same g t (Freeing gone x rs) s y bytes a b h k = h.2 ∙ sym k.2
put-same g t (Closing (c ∷ cs)) s y bytes a b h k = h.2 ∙ sym k.2
put-same g t _ s y bytes a b h k = absurd h

-- One entry from two states of one way

-- marks that are set or left out: what is left out before the one is left out behind it
marking-fork : (g : Settings) (t u : Trace) (n : ℕ) (ws marks : List Want) (s : Plain) (first b : State) (w : Want) (bytes : List ℕ)
    (nb : State) →
    first ≡ at (Marking ws marks) s → Steps g t n first b → Puts g t b.stage b.plain (entry.Ready w.side w.read w.write) bytes nb →
    Path g u (at (Marking ws (marks ++ w ∷ [])) s) nb
marking-fork g t u n [] marks s first b w bytes nb same Steps.none r =
    absurd (subst (λ (v : State). Puts g t v.stage v.plain (entry.Ready w.side w.read w.write) bytes nb) same r)
marking-fork g t u n (v ∷ ws) marks s first b w bytes nb same Steps.none r =
    let put = subst (λ (v : State). Puts g t v.stage v.plain (entry.Ready w.side w.read w.write) bytes nb) same r in
    one-step g u (at (Marking (v ∷ ws) (marks ++ w ∷ [])) s) nb put.3
marking-fork g t u n [] marks s first b w bytes nb same (Steps.step {n = m} {mid = mid} q k) r =
    absurd (
    let is : mid ≡ at (Accepting 0 marks) s = subst (λ (v : State). Quietly g t v.stage v.plain mid) same q in
    let low : rank b.stage ≡ 1 = put-ranked g t b.stage b.plain (entry.Ready w.side w.read w.write) bytes nb r in
    let high = steps-rank g t m mid b k in
    let here : rank mid.stage ≡ 2 = ap (λ (v : State). rank v.stage) is in omega arith)
marking-fork g t u n (v ∷ ws) marks s first b w bytes nb same (Steps.step {n = m} {mid = mid} q k) r =
    let is : mid ≡ at (Marking ws marks) s = subst (λ (v : State). Quietly g t v.stage v.plain mid) same q in
    path-add g u (at (Marking (v ∷ ws) (marks ++ w ∷ [])) s) (at (Marking ws (marks ++ w ∷ [])) s) nb
    (one-step g u (at (Marking (v ∷ ws) (marks ++ w ∷ [])) s) (at (Marking ws (marks ++ w ∷ [])) s) refl)
    (marking-fork g t u m ws marks s mid b w bytes nb is k r)

-- an entry that may be put also behind a silent step
later-fork : (g : Settings) (t : Trace) (x : Stage) (s : Plain) (y : Entry) (bytes : List ℕ) (na mid b nb : State) (n : ℕ) →
    Puts g t x s y bytes na → Quietly g t x s mid → Steps g t n mid b → Puts g t b.stage b.plain y bytes nb →
    Joined g (t ++ (y, bytes) ∷ []) na nb
later-fork g t Between s (entry.Turn ms) bytes na mid b nb n p q k r = absurd q
later-fork g t Polling s (entry.Poll timeout) bytes na mid b nb n p q k r = absurd q
later-fork g t (Wanting (w ∷ ws)) s (entry.Want side rd wr) bytes na mid b nb n p q k r = absurd q
later-fork g t (Wanting []) s entry.PollFailed bytes na mid b nb n p q k r = absurd (
    let low : rank b.stage ≡ 0 = put-ranked g t b.stage b.plain entry.PollFailed bytes nb r in
    let high = steps-rank g t n mid b k in
    let here : rank mid.stage ≡ 1 = ap (λ (v : State). rank v.stage) q in omega arith)
later-fork g t (Marking (w ∷ ws) marks) s (entry.Ready side rd wr) bytes na mid b nb n p q k r =
    let u : Trace = t ++ (entry.Ready side rd wr, bytes) ∷ [] in
    let m : Want = record { side = side; read = rd; write = wr } in
    inl (subst (λ v. Path g u v nb) (sym p.3) (marking-fork g t u n ws marks s mid b m bytes nb q k r))
later-fork g t (Accepting i marks) s (entry.Opened link connected) bytes na mid b nb n p q k r = absurd (
    let low : rank b.stage ≡ 2 = put-ranked g t b.stage b.plain (entry.Opened link connected) bytes nb r in
    let high = steps-rank g t n mid b k in
    let here : rank mid.stage ≡ 3 = ap (λ (v : State). rank v.stage) q in omega arith)
later-fork g t (Serving (m ∷ ms)) s (entry.Conn side answer) bytes na mid b nb n p q k r =
    absurd (let e : Call.Nothing ≡ Call.AskConnect = sym q.0 ∙ p.1 in cc)
later-fork g t (Serving (m ∷ ms)) s (entry.Read side room answer) bytes na mid b nb n p q k r =
    absurd (let e : Call.Nothing ≡ Call.AskRead room = sym q.0 ∙ p.1 in cc)
later-fork g t (Serving (m ∷ ms)) s (entry.Write side offered answer) bytes na mid b nb n p q k r =
    absurd (let e : Call.Nothing ≡ Call.AskWrite offered = sym q.0 ∙ p.1 in cc)
later-fork g t (Dispatching (z ∷ rs)) s (entry.Fired side y) bytes na mid b nb n p q k r = absurd q
later-fork g t (Firing x rs) s (entry.Asked side a answer) bytes na mid b nb n p q k r = absurd (
    let low : rank b.stage ≡ 4 = put-ranked g t b.stage b.plain (entry.Asked side a answer) bytes nb r in
    let high = steps-rank g t n mid b k in
    let fire = fire-rank x.stopped x.side.link rs in
    let here : rank mid.stage ≡ rank (after_fire x rs) = ap (λ (v : State). rank v.stage) q in omega arith)
later-fork g t (Freeing gone x rs) s y bytes na mid b nb n p q k r = absurd q
later-fork g t (Closing (c ∷ cs)) s y bytes na mid b nb n p q k r = absurd (none-some (sym q.0 ∙ p.0))
  where
    none-some : None ≡ Some y → ⊥
    none-some h = cc
later-fork g t _ s y bytes na mid b nb n p q k r = absurd p

put-fork : (g : Settings) (t : Trace) (a b : State) (y : Entry) (bytes : List ℕ) (na nb : State) (n : ℕ) → Steps g t n a b →
    Puts g t a.stage a.plain y bytes na → Puts g t b.stage b.plain y bytes nb → Joined g (t ++ (y, bytes) ∷ []) na nb
put-fork g t a b y bytes na nb n Steps.none p r =
    inl (subst (λ v. Path g (t ++ (y, bytes) ∷ []) na v) (put-same g t a.stage a.plain y bytes na nb p r)
    (record { count = 0; steps = Steps.none }))
put-fork g t a b y bytes na nb n (Steps.step {n = m} {mid = mid} q k) p r =
    later-fork g t a.stage a.plain y bytes na mid b nb m p q k r

-- Where a state comes from

data Origin (g : Settings) (t : Trace) (s : State) : Type 0 where
  begun : t ≡ [] → Path g t start s → Origin g t s
  behind : (u : Trace) (y : Event) (old new : State) → t ≡ u ++ y ∷ [] → Reaches g u old → Puts g u old.stage old.plain y.0 y.1 new →
      Path g t new s → Origin g t s

origin : (g : Settings) (t : Trace) (s : State) → Reaches g t s → Origin g t s
origin g t s (Reaches.begins) = Origin.begun refl (record { count = 0; steps = Steps.none })
origin g t new (Reaches.goes {t = u} {s = old} r q) = go (origin g u old r)
  where
    on : (first : State) → Path g u first old → Path g u first new
    on first p = record { count = suc p.count; steps = steps-snoc g u p.count first old new p.steps q }

    go : Origin g u old → Origin g u new
    go (Origin.begun h p) = Origin.begun h (on start p)
    go (Origin.behind v y was now h k put p) = Origin.behind v y was now h k put (on now p)
origin g t new (Reaches.puts {t = u} {s = old} e bytes r p) =
    Origin.behind u (e, bytes) old new refl r p (record { count = 0; steps = Steps.none })

no-last : (u : Trace) (y : Event) → [] ≡ u ++ y ∷ [] → ⊥
no-last [] y h = cc
no-last (x ∷ u) y h = cc

-- the last event and what stands before it
record LastSame (u v : Trace) (y z : Event) : Type 0 where
  before : v ≡ u
  last : z ≡ y

last-same : (u v : Trace) (y z : Event) → u ++ y ∷ [] ≡ v ++ z ∷ [] → LastSame u v y z
last-same u v y z h = go (pushed_split u y v z [] h)
  where
    go : IsLast u y v z [] ⊎ IsEarlier u y v z [] → LastSame u v y z
    go (inl k) = record { before = k.before_is; last = k.is }
    go (inr k) = absurd (no-last k.rest y k.after_is)

joined-on : (g : Settings) (t : Trace) (a b x y : State) → Joined g t a b → Path g t a x → Path g t b y → Joined g t x y
joined-on g t a b x y (inl h) p q = paths-join g t a x y p (path-add g t a b y h q)
joined-on g t a b x y (inr h) p q = paths-join g t b x y (path-add g t b a x h p) q

abbrev OneWay : Settings → ℕ → Type 0
OneWay g k = (t : Trace) (a b : State) → length t ≤ k → Reaches g t a → Reaches g t b → Joined g t a b

origins-join : (g : Settings) (k : ℕ) (t : Trace) (a b : State) → length t ≤ k →
    ((u : Trace) (y : Event) → t ≡ u ++ y ∷ [] → (x z : State) →
    Reaches g u x → Reaches g u z → Joined g u x z) → Origin g t a → Origin g t b → Joined g t a b
origins-join g k t a b le ih (Origin.begun h p) (Origin.begun i q) = paths-join g t start a b p q
origins-join g k t a b le ih (Origin.begun h p) (Origin.behind v z o2 n2 i r put q) = absurd (no-last v z (sym h ∙ i))
origins-join g k t a b le ih (Origin.behind u y o1 n1 h r put p) (Origin.begun i q) = absurd (no-last u y (sym i ∙ h))
origins-join g k t a b le ih (Origin.behind u y o1 n1 h r1 put1 p) (Origin.behind v z o2 n2 i r2 put2 q) =
    joined-on g t n1 n2 a b (subst (λ w. Joined g w n1 n2) (sym h) (news (ih u y h o1 o2 r1 r2'))) p q
  where
    same : LastSame u v y z
    same = last-same u v y z (sym h ∙ i)

    r2' : Reaches g u o2
    r2' = subst (λ w. Reaches g w o2) same.before r2

    put2' : Puts g u o2.stage o2.plain y.0 y.1 n2
    put2' =
        subst (λ (w : Event). Puts g u o2.stage o2.plain w.0 w.1 n2) same.last
        (subst (λ w. Puts g w o2.stage o2.plain z.0 z.1 n2) same.before put2)

    news : Joined g u o1 o2 → Joined g (u ++ y ∷ []) n1 n2
    news (inl c) = put-fork g u o1 o2 y.0 y.1 n1 n2 c.count c.steps put1 put2'
    news (inr c) = flip g (u ++ y ∷ []) n2 n1 (put-fork g u o2 o1 y.0 y.1 n2 n1 c.count c.steps put2' put1)

one-way : (g : Settings) (k : ℕ) → OneWay g k
one-way g zero t a b le r1 r2 =
    origins-join g 0 t a b le
    (λ u y h x z m n. absurd (let l = ap length h in omega (arith, length-append u (y ∷ [])))) (origin g t a r1) (origin g t b r2)
one-way g (suc k) t a b le r1 r2 =
    origins-join g (suc k) t a b le
    (λ u y h x z m n. one-way g k u x z (let l = ap length h in omega (arith, length-append u (y ∷ []))) m n) (origin g t a r1)
    (origin g t b r2)

pub all_on_one_way : AllOnOneWay
all_on_one_way g t a b r1 r2 = elim (one-way g (length t) t a b (omega arith) r1 r2) [
  | inl h ↦ inl (steps-lead g t h.count a a b Leads.stays h.steps)
  | inr h ↦ inr (steps-lead g t h.count b b a Leads.stays h.steps)
]
