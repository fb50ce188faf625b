-- A relay that stands for a trace stands for it in the model.
use Rattle.std.proofs.Common.{◌≡◌, ℕ, ◌<◌, false, List, [], ◌∷◌, ◌++◌, length, map, Some, None, refl, sym, ◌∙◌, ap, subst, arith}
use Rattle.std.proofs.Common.{if◌then◌else◌, length-take-le}
use Rattle.std.specs.List.{flat_map, list_any}
use Rattle.std.proofs.lemmas.Bool.{or_parts}
use Rattle.std.proofs.lemmas.List.{get_or-map, length-map}
use Rattle.ev_types.specs.declared.side.SideId.{SideId}
use Rattle.ev_types.specs.declared.answer.ReadAnswer.TheVariants as read
use Rattle.ev_types.specs.declared.answer.WriteAnswer.TheVariants as write
use Rattle.ev_types.specs.declared.entry.Entry.TheVariants as entry
use Rattle.ev_types.specs.Sides.{number, peer}
use Rattle.ev_types.specs.Trace.{Event, Trace}
use Rattle.relay_model.specs.Trace.{read_by, given_by, ended_by, told_moved_by, told_given_by, write_closed_by, bytes_read, bytes_given}
use Rattle.relay_model.specs.Flow.{outcome}
use Rattle.relay_model.specs.Conserved.{Buffers}
use Rattle.relay_model.specs.Plain.{flow_at}
use Rattle.relay_model.specs.Rooms.{read_filter, write_filter}
use Rattle.relay_model.specs.Stages.{Stage, at}
use Rattle.relay_model.specs.Turn.{Reaches}
use Rattle.relay_model.specs.Stands as stands
use Rattle.relay_model.specs.Stands.{Runnings, IsUntold, DirectionHolds}
use Rattle.relay_model.specs.Told.{names}
use Rattle.relay_model.proofs.ToldLemmas.{Kept, kept, none_of}
use Rattle.relay_model.proofs.AccountedLemmas.{nothing_is_accounted}
use Rattle.relay_state.specs.State.{State, Lane, no_lane, lane_at}
use Rattle.relay_steps.specs.Meaning.{StandsFor}
use Rattle.relay_steps.proofs.EndLemmas.{number-below, peer-peer}
use Rattle.relay_steps.proofs.MembershipSteps.{new-grouped}
use Rattle.relay_laws.specs.Laws.{NewRelayStands, kept_of, MeansConserved, LeftIsLegal, CountsAreTold}

-- Of an end that no event names nothing is told

read-unnamed : (e : SideId) (y : Event) → names e y ≡ false → read_by e y ≡ []
read-unnamed e (entry.Read side room (read.Got n), bytes) h = ap (λ b. if b then bytes else []) h
read-unnamed e _ h = refl

given-unnamed : (e : SideId) (y : Event) → names e y ≡ false → given_by e y ≡ []
given-unnamed e (entry.Write side offered (write.Took n), bytes) h = ap (λ b. if b then bytes else []) h
given-unnamed e _ h = refl

ended-unnamed : (e : SideId) (y : Event) → names e y ≡ false → ended_by e y ≡ false
ended-unnamed e (entry.Read side room read.Ended, bytes) h = h
ended-unnamed e _ h = refl

moved-unnamed : (e : SideId) (y : Event) → names e y ≡ false → told_moved_by e y ≡ []
moved-unnamed e (entry.Freed side why moved given, bytes) h = ap (λ b. if b then moved ∷ [] else []) h
moved-unnamed e _ h = refl

given_free-unnamed : (e : SideId) (y : Event) → names e y ≡ false → told_given_by e y ≡ []
given_free-unnamed e (entry.Freed side why moved given, bytes) h = ap (λ b. if b then given ∷ [] else []) h
given_free-unnamed e _ h = refl

closed-unnamed : (e : SideId) (y : Event) → names e y ≡ false → write_closed_by e y ≡ false
closed-unnamed e (entry.CloseWrite side, bytes) h = h
closed-unnamed e _ h = refl

none-told : (e : SideId) (f : Event → List ℕ) → ((y : Event) → names e y ≡ false → f y ≡ []) →
    (t : Trace) → list_any (names e) t ≡ false → flat_map f t ≡ []
none-told e f none [] h = refl
none-told e f none (y ∷ t) h =
    let k = or_parts (names e y) (list_any (names e) t) h in
    let a = none y k.0 in
    let b = none-told e f none t k.1 in
    λ i. a i ++ b i

pub untold : (e : SideId) (t : Trace) → list_any (names e) t ≡ false → IsUntold t e
untold e t h = record {
  read = none-told e (read_by e) (read-unnamed e) t h;
  given = none-told e (given_by e) (given-unnamed e) t h;
  ended = none_of (names e) (ended_by e) (ended-unnamed e) t h;
  moved_at_free = none-told e (told_moved_by e) (moved-unnamed e) t h;
  given_at_free = none-told e (told_given_by e) (given_free-unnamed e) t h;
  write_closed = none_of (names e) (write_closed_by e) (closed-unnamed e) t h;
}

-- In the model

module _ (t : Trace) (x : Stage) (s : State) (k : StandsFor t x s) where
  pub told : Kept s.settings t x s.plain
  told = kept s.settings t (at x s.plain) k.reached

  in-lanes : (e : SideId) → e.link < s.plain.opened → number e < length s.lanes
  in-lanes e lt = let a = number-below e s.plain.opened lt in let b = k.many in omega (arith, a, b)

  abbrev buffers : List Buffers
  buffers = map (λ (l : Lane). l.buffers) s.lanes

  abbrev runs_of : Lane → Runnings
  runs_of l = record { reader = l.reader; writer = l.writer }

  buffers-at : (e : SideId) → e.link < s.plain.opened → stands.buffers_at buffers e ≡ (lane_at s e).buffers
  buffers-at e lt = get_or-map (λ (l : Lane). l.buffers) s.lanes (number e) no_lane stands.no_buffers (in-lanes e lt)

  runnings-at : (e : SideId) → e.link < s.plain.opened → stands.runnings_at (map runs_of s.lanes) e ≡ runs_of (lane_at s e)
  runnings-at e lt = get_or-map runs_of s.lanes (number e) no_lane stands.no_runnings (in-lanes e lt)

  holds : (e : SideId) → e.link < s.plain.opened →
      DirectionHolds s.settings t s.plain e (stands.buffers_at buffers e) (stands.runnings_at (map runs_of s.lanes) e)
  holds e lt =
      let b = sym (buffers-at e lt) in
      let q = sym (runnings-at e lt) in
      subst (λ z. z) (λ i. DirectionHolds s.settings t s.plain e (b i) (q i)) (k.each e lt).holds

  conserved : stands.Stands s.settings t x (kept_of s)
  conserved = record {
    reached = k.reached;
    conserved = record {
      accounted = record {
        sides = told.counts.shape.sides;
        flows = told.counts.shape.flows;
        each = λ e lt. k.accounts e;
        ended = λ e lt. (told.each e lt).ended;
        unopened = λ e le. untold e t (told.counts.named e le);
      };
      buffers_kept = length-map s.lanes (λ (l : Lane). l.buffers) ∙ k.many;
      runnings_kept = length-map s.lanes runs_of ∙ k.many;
      each = holds;
    };
  }

  -- as many bytes were taken as are counted
  pub taken-length : (e : SideId) → length (bytes_given (peer e) t) ≡ (flow_at s.plain e).given
  taken-length e =
      let a = k.accounts e in
      let r = read_filter s.settings s.plain e in
      let w = write_filter s.settings s.plain (peer e) in
      ap length a.given
      ∙ length-take-le (flow_at s.plain e).given (outcome r w (bytes_read e t) (flow_at s.plain e)) a.fits.given

pub means_conserved : MeansConserved
means_conserved t x s k = conserved t x s k

pub new_relay_stands : NewRelayStands
new_relay_stands g has = record {
  reached = Reaches.begins;
  accounts = nothing_is_accounted g;
  many = refl;
  each = λ e lt. absurd (omega (arith, lt));
  groups = has;
  gauged = record {
    many = refl;
    each = λ e y is d. absurd (let unset : None ≡ Some y = is in cc);
  };
  grouped = new-grouped g;
}

pub left_is_legal : LeftIsLegal
left_is_legal answer t s k = (k.stage, s.plain, k.stands.reached, k.left)

pub counts_are_told : CountsAreTold
counts_are_told t x s k e lt =
    ((k.each e lt).read, sym (taken-length t x s k (peer e)) ∙ ap (λ z. length (bytes_given z t)) (peer-peer e))
