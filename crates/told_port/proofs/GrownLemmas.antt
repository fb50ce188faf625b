-- What a port tells after a call is what every port says of it.
use Rattle.std.proofs.Common.{◌≡◌, ◌≢◌, ℕ, suc, ◌+◌, ◌-◌, ◌^◌, ◌<◌, Bool, true, false, ◌||◌, ◌&&◌, ◌==◌, List, [], ◌++◌, Option, Some, None}
use Rattle.std.proofs.Common.{refl, sym, ◌∙◌, ap, subst, eqb-true, eq-eqb, if◌then◌else◌}
use Rattle.std.proofs.lemmas.Bool.{and_parts, and_from}
use Rattle.ev_types.specs.declared.side.Side.{Side}
use Rattle.ev_types.specs.declared.side.Side.TheVariants.{In, Out}
use Rattle.ev_types.specs.declared.side.SideId.{SideId}
use Rattle.ev_types.specs.Sides.{same_side, same_end}
use Rattle.ev_types.specs.Told.{EndTold, PortTold, Adds, Raises, Counts, Becomes, Stays}
use Rattle.ev_port.specs.declared.port.Accepted.{Accepted}
use Rattle.ev_port.specs.declared.port.Accepted.TheVariants as accepted
use Rattle.ev_port.specs.Calls.{AcceptedLink}
use Rattle.ev_port.specs.EndSteps.{EndStep, EndWent, EndsWent, AllWent, PortStays, no_step}
use Rattle.told_port.specs.declared.call.Call.TheVariants as call
use Rattle.told_port.specs.Calls.{told_after}
use Rattle.told_port.specs.Grown.{joined, raised, added, grown, step_at}

Adds-joined : (o : Option (List ℕ)) (more : List ℕ) → Adds o (joined more o) more
Adds-joined None more = tt
Adds-joined (Some xs) more = refl

Raises-raised : (o : Option Bool) (flag : Bool) → Raises o (raised flag o) flag
Raises-raised None flag = tt
Raises-raised (Some b) flag = refl

Counts-added : (o : Option ℕ) (more : ℕ) → Counts o (added more o) more
Counts-added None more = tt
Counts-added (Some n) more = λ small. refl

-- an end of which this is told went the step
pub went-grown : (told : EndTold) (step : EndStep) → EndWent told (grown step told) step
went-grown told step = record {
  handed_out = Adds-joined told.handed_out step.got;
  taken = Adds-joined told.taken step.took;
  made_connected = Raises-raised told.made_connected step.made_connected;
  ended = Raises-raised told.ended step.ended;
  connected = Raises-raised told.connected step.connected;
  write_ended = Raises-raised told.write_ended step.write_ended;
  closed = Raises-raised told.closed step.closed;
  reads = Counts-added told.reads step.reads;
  writes = Counts-added told.writes step.writes;
  checks = Counts-added told.checks step.checks;
  rooms = Counts-added told.rooms step.room;
  offers = Counts-added told.offers step.offer;
  read_wants = Counts-added told.read_wants step.read_wants;
  write_wants = Counts-added told.write_wants step.write_wants;
  read_marks = Counts-added told.read_marks step.read_marks;
  write_marks = Counts-added told.write_marks step.write_marks;
}

-- all ends went a step of their own
pub all-grown : (old new : SideId → EndTold) (step : SideId → EndStep) → new ≡ (λ e. grown (step e) (old e)) → AllWent old new step
all-grown old new step is e = subst (λ (f : SideId → EndTold). EndWent (old e) (f e) (step e)) (sym is) (went-grown (old e) (step e))

same_side-eq : (a b : Side) → same_side a b ≡ true → a ≡ b
same_side-eq In In h = refl
same_side-eq Out Out h = refl
same_side-eq In Out h = absurd (cc)
same_side-eq Out In h = absurd (cc)

same_side-refl : (a : Side) → same_side a a ≡ true
same_side-refl In = refl
same_side-refl Out = refl

same_end-eq : (a b : SideId) → same_end a b ≡ true → a ≡ b
same_end-eq a b h =
    let p = and_parts (a.link == b.link) (same_side a.side b.side) h in
    let l : a.link ≡ b.link = eqb-true a.link b.link p.0 in
    let k = same_side-eq a.side b.side p.1 in
    λ i. record { link = l i; side = k i }

same_end-refl : (a : SideId) → same_end a a ≡ true
same_end-refl a = and_from (a.link == a.link) (same_side a.side a.side) (eq-eqb a.link a.link refl) (same_side-refl a.side)

not-true : (b : Bool) → (b ≡ true → ⊥) → b ≡ false
not-true true none = absurd (none refl)
not-true false none = refl

-- the step stands at its end alone
step-here : (end : SideId) (step : EndStep) → step_at end step end ≡ step
step-here end step = ap (λ (b : Bool). if b then step else no_step) (same_end-refl end)

step-else : (end e : SideId) (step : EndStep) → e ≢ end → step_at end step e ≡ no_step
step-else end e step other =
    ap (λ (b : Bool). if b then step else no_step) (not-true (same_end e end) (λ h. other (same_end-eq e end h)))

-- one end went its step, and every other went none
pub one-grown : (old new : SideId → EndTold) (end : SideId) (step : EndStep) → new ≡ (λ e. grown (step_at end step e) (old e))
    → EndsWent old new end step
one-grown old new end step is = record {
  own = subst (λ s. EndWent (old end) (new end) s) (step-here end step) (all-grown old new (step_at end step) is end);
  others = λ e other. subst (λ s. EndWent (old e) (new e) s) (step-else end e step other) (all-grown old new (step_at end step) is e);
}

-- The whole port

Stays-same : {T : Type 0} (o : Option T) → Stays o o
Stays-same None = tt
Stays-same (Some x) = refl

Becomes-some : {T : Type 0} (o : Option T) (x : T) → Becomes o (Some x) x
Becomes-some None x = tt
Becomes-some (Some before) x = refl

closed : (told : PortTold) → PortStays (record told { accepting = None }) (record told { accepting = Some false })
closed told = record {
  accept_polls = Stays-same told.accept_polls;
  timeout = Stays-same told.timeout;
  links = Stays-same told.links;
  accepting = tt;
  readings = Stays-same told.readings;
  reading = Stays-same told.reading;
  started = Stays-same told.started;
}

-- an accept leaves all of it but the number of links, or that accepting stands closed
pub accept-told : (told : PortTold) (link : ℕ) (answer : Accepted) → AcceptedLink told (told_after (call.Accept link answer) told) answer
accept-told told link (accepted.Link connected) = (
  record {
    accept_polls = Stays-same told.accept_polls;
    timeout = Stays-same told.timeout;
    links = tt;
    accepting = Stays-same told.accepting;
    readings = Stays-same told.readings;
    reading = Stays-same told.reading;
    started = Stays-same told.started;
  },
  Counts-added told.links 1,
)
accept-told told link accepted.NotYet = (closed told, Becomes-some told.accepting false)
accept-told told link accepted.Failed = (closed told, Becomes-some told.accepting false)
accept-told told link accepted.NoMemory = (closed told, Becomes-some told.accepting false)
