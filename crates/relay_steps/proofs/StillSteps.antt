-- Steps that change nothing that a lane looks at: each lane goes on fitting.
use Rattle.std.proofs.Common.{◌≡◌, ◌≢◌, Bool, false, ℕ, ◌*◌, ◌<◌, List, [], ◌∷◌, ◌++◌, length, slice_index_or, inl, inr, refl, sym, ◌∙◌, ap}
use Rattle.std.proofs.Common.{subst, arith}
use Rattle.std.specs.Prelude.{is_some}
use Rattle.std.proofs.lemmas.Bool.Decides.{eqb_tells}
use Rattle.ev_types.specs.declared.side.SideId.{SideId}
use Rattle.ev_types.specs.declared.why.Why.{Why}
use Rattle.ev_types.specs.declared.entry.Entry.{Entry}
use Rattle.ev_types.specs.Sides.{number, peer}
use Rattle.ev_types.specs.Trace.{Event, Trace}
use Rattle.relay_model.specs.Trace.{read_by, ended_by, bytes_read, has_ended}
use Rattle.relay_model.specs.Settings.{Settings}
use Rattle.relay_model.specs.Due.{Due}
use Rattle.relay_model.specs.Flow.{Flow}
use Rattle.relay_model.specs.Plain.{Plain, PlainSide, side_at, flow_at, is_live, change_side}
use Rattle.relay_model.specs.Stages.{Stage, at}
use Rattle.relay_model.specs.Turn.{Puts, Quietly, Reaches}
use Rattle.relay_model.specs.TurnLaws.{ShapeIsTold}
use Rattle.relay_model.specs.StepLaws.{AccountsFit, TookFirst}
use Rattle.relay_model.specs.Reasons.{raise}
use Rattle.relay_model.proofs.Frames.{rates_of}
use Rattle.relay_model.proofs.KeepsLemmas.{raised}
use Rattle.relay_model.proofs.PlainLemmas.{seen-change}
use Rattle.relay_model.proofs.ReachLemmas.{shape-is_told}
use Rattle.relay_model.proofs.AccountedLemmas.{entries_keep_accounts}
use Rattle.relay_state.specs.State.{State, Lane, no_lane, lane_at, with_plain}
use Rattle.relay_state.specs.Running.{Gauge}
use Rattle.rate_group.specs.GroupValue.{GroupsValue}
use Rattle.relay_steps.specs.Gauges.{Gauged}
use Rattle.relay_steps.specs.Grouped.{Grouped}
use Rattle.relay_steps.specs.Meaning.{LaneFits, StandsFor}
use Rattle.relay_steps.proofs.EndLemmas.{number-below, number-same, read-silent, ended-silent}
use Rattle.relay_steps.proofs.FitLemmas.{sight, fits-same}
use Rattle.relay_steps.proofs.RateLemmas.{Moveless, SameTurns, SameGauged, turns-same, turns-none, gauged-same}
use Rattle.relay_steps.proofs.GroupedSteps.{grouped-same}

-- what lanes look at in the second trace and plain state is what they look at in the first
pub record IsStill (t u : Trace) (p q : Plain) : Type 0 where
  pub opened : q.opened ≡ p.opened
  pub read : (a : SideId) → bytes_read a u ≡ bytes_read a t
  pub ended : (a : SideId) → has_ended a u ≡ has_ended a t
  pub live : (a : SideId) → is_live q a ≡ is_live p a
  pub marked : (a : SideId) → is_some (side_at q a).bad ≡ is_some (side_at p a).bad
  pub flow : (a : SideId) → flow_at q a ≡ flow_at p a
  pub rates : (a : SideId) → rates_of (side_at q a) ≡ rates_of (side_at p a)
  pub time : q.time ≡ p.time
  pub turns : SameTurns t u

pub still-sight : (t u : Trace) (p q : Plain) (e : SideId) → IsStill t u p q → sight u q e ≡ sight t p e
still-sight t u p q e k =
    let a = k.read e in
    let b = k.ended e in
    let c = k.live e in
    let d = k.live (peer e) in
    let f = k.flow e in
    let m = k.marked e in
    let n = k.marked (peer e) in
    λ i. record { read = a i; ended = b i; from_live = c i; to_live = d i; flow = f i; from_marked = m i; to_marked = n i }

-- the shape of the plain state, as its trace tells it
pub stands-shape : (t : Trace) (x : Stage) (s : State) → StandsFor t x s → ShapeIsTold t s.plain
stands-shape t x s k = shape-is_told s.settings t (at x s.plain) k.reached

pub in_sides : (t : Trace) (x : Stage) (s : State) (e : SideId) → StandsFor t x s → e.link < s.plain.opened →
    number e < length s.plain.sides
in_sides t x s e k lt = let a = (stands-shape t x s k).sides in omega (arith, a, number-below e s.plain.opened lt)

pub in_flows : (t : Trace) (x : Stage) (s : State) (e : SideId) → StandsFor t x s → e.link < s.plain.opened →
    number e < length s.plain.flows
in_flows t x s e k lt = let a = (stands-shape t x s k).flows in omega (arith, a, number-below e s.plain.opened lt)

pub in_lanes : (t : Trace) (x : Stage) (s : State) (e : SideId) → StandsFor t x s → e.link < s.plain.opened →
    number e < length s.lanes
in_lanes t x s e k lt = let a = k.many in omega (arith, a, number-below e s.plain.opened lt)

pub still-rates : (t u : Trace) (p q : Plain) → IsStill t u p q → SameGauged p q
still-rates t u p q k = record { opened = k.opened; time = k.time; rates = k.rates; live = k.live }

pub still-gauged : (t u : Trace) (p q : Plain) (xs : List Gauge) → IsStill t u p q → Gauged t p xs → Gauged u q xs
still-gauged t u p q xs k h = gauged-same t u p q xs (still-rates t u p q k) k.turns h

pub still-grouped : (g : Settings) (t u : Trace) (p q : Plain) (x : GroupsValue) → IsStill t u p q → Grouped g t p x → Grouped g u q x
still-grouped g t u p q x k h = grouped-same g t u p q x (still-rates t u p q k) k.turns h

-- the relay stands where the model came to, as lanes are still
pub still-stands : (t u : Trace) (x y : Stage) (s : State) (q : Plain) → StandsFor t x s → IsStill t u s.plain q →
    Reaches s.settings u (at y q) → AccountsFit s.settings u q → StandsFor u y (with_plain q s)
still-stands t u x y s q k still reached accounts = record {
  reached = reached;
  accounts = accounts;
  many = k.many ∙ ap (λ n. 2 * n) (sym still.opened);
  each = λ e lt.
      fits-same s.settings t u s.plain q e (lane_at s e) (lane_at s e) (still-sight t u s.plain q e still) refl
      (k.each e (subst (λ n. e.link < n) still.opened lt));
  groups = k.groups;
  gauged = still-gauged t u s.plain q s.gauges still k.gauged;
  grouped = still-grouped s.settings t u s.plain q s.groups still k.grouped;
}

-- the model put an entry
pub put-stands : (t : Trace) (x y : Stage) (s : State) (q : Plain) (v : Entry) (bytes : List ℕ) → StandsFor t x s →
    Puts s.settings t x s.plain v bytes (at y q) → TookFirst s.settings t s.plain (v, bytes) →
    IsStill t (t ++ (v, bytes) ∷ []) s.plain q → StandsFor (t ++ (v, bytes) ∷ []) y (with_plain q s)
put-stands t x y s q v bytes k puts first still =
    still-stands t (t ++ (v, bytes) ∷ []) x y s q k still (Reaches.puts v bytes k.reached puts)
    (entries_keep_accounts s.settings t (at x s.plain) (at y q) v bytes k.reached puts first k.accounts)

-- the model went on with no entry, from the same plain state
pub quiet-stands : (t : Trace) (x y : Stage) (s : State) → StandsFor t x s → Quietly s.settings t x s.plain (at y s.plain) → StandsFor t y s
quiet-stands t x y s k quiet = record {
  reached = Reaches.goes k.reached quiet;
  accounts = k.accounts;
  many = k.many;
  each = k.each;
  groups = k.groups;
  gauged = k.gauged;
  grouped = k.grouped;
}

-- Which states are still

pub still-same : (t u : Trace) (p : Plain) → ((a : SideId) → bytes_read a u ≡ bytes_read a t) →
    ((a : SideId) → has_ended a u ≡ has_ended a t) → SameTurns t u → IsStill t u p p
still-same t u p read ended turns = record {
  opened = refl;
  read = read;
  ended = ended;
  live = λ a. refl;
  marked = λ a. refl;
  flow = λ a. refl;
  rates = λ a. refl;
  time = refl;
  turns = turns;
}

-- a side was changed, and it lives and is marked as before
pub still-changed : (t u : Trace) (p : Plain) (e : SideId) (change : PlainSide → PlainSide) →
    ((x : PlainSide) → (change x).live ≡ x.live) → ((x : PlainSide) → is_some (change x).bad ≡ is_some x.bad) →
    ((x : PlainSide) → rates_of (change x) ≡ rates_of x) →
    ((a : SideId) → bytes_read a u ≡ bytes_read a t) → ((a : SideId) → has_ended a u ≡ has_ended a t) →
    SameTurns t u → IsStill t u p (change_side e change p)
still-changed t u p e change live marked rates read ended turns = record {
  opened = refl;
  read = read;
  ended = ended;
  live = λ a. seen-change (λ x. x.live) e a change p live;
  marked = λ a. seen-change (λ x. is_some x.bad) e a change p marked;
  flow = λ a. refl;
  rates = λ a. seen-change rates_of e a change p rates;
  time = refl;
  turns = turns;
}

-- pending entries are others
pub still-due : (t u : Trace) (p q r : Plain) → IsStill t u p q → (ds : List Due) → r ≡ record q { due = ds } → IsStill t u p r
still-due t u p q r k ds e = subst (IsStill t u p) (sym e) (record {
  opened = k.opened;
  read = k.read;
  ended = k.ended;
  live = k.live;
  marked = k.marked;
  flow = k.flow;
  rates = k.rates;
  time = k.time;
  turns = k.turns;
})

-- an event tells of no read bytes and no end
pub still-event : (t : Trace) (x : Event) (p q : Plain) → IsStill t t p q → ((a : SideId) → read_by a x ≡ []) →
    ((a : SideId) → ended_by a x ≡ false) → Moveless x → IsStill t (t ++ x ∷ []) p q
still-event t x p q k read ended moves = record {
  opened = k.opened;
  read = λ a. read-silent t x a (read a);
  ended = λ a. ended-silent t x a (ended a);
  live = k.live;
  marked = k.marked;
  flow = k.flow;
  rates = k.rates;
  time = k.time;
  turns = turns-none t x moves;
}

-- a side was changed so, and a reason was raised
pub still-raised : (g : Settings) (t : Trace) (p : Plain) (e : SideId) (change : PlainSide → PlainSide) (y : Why) →
    ((z : PlainSide) → (change z).live ≡ z.live) → ((z : PlainSide) → is_some (change z).bad ≡ is_some z.bad) →
    ((z : PlainSide) → rates_of (change z) ≡ rates_of z) → IsStill t t p (raise g e y (change_side e change p))
still-raised g t p e change y live marked rates =
    let q : Plain = change_side e change p in
    let k = raised g e y q in
    still-due t t p q (raise g e y q) (still-changed t t p e change live marked rates (λ a. refl) (λ a. refl) (turns-same t)) k.0 k.1

-- Steps that change what one lane looks at

-- what a lane looks at, where sides live and are marked as before
pub sight-of : (t u : Trace) (p q : Plain) (a : SideId) (read : List ℕ) (ended : Bool) (f : Flow) →
    bytes_read a u ≡ read → has_ended a u ≡ ended → flow_at q a ≡ f → ((z : SideId) → is_live q z ≡ is_live p z) →
    ((z : SideId) → is_some (side_at q z).bad ≡ is_some (side_at p z).bad) →
    sight u q a ≡ record (sight t p a) { read = read; ended = ended; flow = f }
sight-of t u p q a read ended f is_read is_ended is_flow live marked =
    let c = live a in
    let d = live (peer a) in
    let m = marked a in
    let n = marked (peer a) in
    λ i. record {
      read = is_read i;
      ended = is_ended i;
      from_live = c i;
      to_live = d i;
      flow = is_flow i;
      from_marked = m i;
      to_marked = n i;
    }

abbrev pub lane_in : List Lane → SideId → Lane
lane_in lanes a = slice_index_or lanes (number a) no_lane

-- each lane fits where one does, and the others see what they saw
pub one-fits : (t u : Trace) (x : Stage) (s : State) (q : Plain) (lanes : List Lane) (e : SideId) → StandsFor t x s →
    ((a : SideId) → a ≢ e → sight u q a ≡ sight t s.plain a) → ((a : SideId) → a ≢ e → lane_in lanes a ≡ lane_at s a) →
    LaneFits s.settings u q e (lane_in lanes e) → (a : SideId) → a.link < s.plain.opened → LaneFits s.settings u q a (lane_in lanes a)
one-fits t u x s q lanes e k see same fits a lt = elim (eqb_tells (number a) (number e)) [
  | inl here ↦ subst (λ z. LaneFits s.settings u q z (lane_in lanes z)) (sym (number-same a e here.1)) fits
  | inr there ↦
      let away : a ≢ e = λ h. there.1 (ap number h) in
      fits-same s.settings t u s.plain q a (lane_at s a) (lane_in lanes a) (see a away) (same a away) (k.each a lt)
]
