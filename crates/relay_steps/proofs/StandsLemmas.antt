-- How a relay goes on standing where what its lanes look at stays: by a silent step, and by an entry that tells nothing of an end.
use Rattle.std.proofs.Common.{◌≡◌, Bool, true, false, if◌then◌else◌, List, [], ◌∷◌, ◌++◌, fold, refl, sym, ◌∙◌, ap, subst, slice_index_or}
use Rattle.std.specs.Prelude.{is_some, length, ◌*◌, ◌<◌}
use Rattle.std.proofs.lemmas.List.{length-set}
use Rattle.ev_types.specs.declared.side.SideId.{SideId}
use Rattle.ev_types.specs.declared.why.Why.{Why}
use Rattle.ev_types.specs.Sides.{number, peer}
use Rattle.ev_types.specs.Trace.{Event, Trace}
use Rattle.relay_model.specs.Trace.{bytes_read}
use Rattle.relay_model.specs.Flow.{no_flow}
use Rattle.relay_model.specs.Conserved.{left}
use Rattle.relay_model.specs.Settings.{Settings}
use Rattle.relay_model.specs.Plain.{Plain, PlainSide, side_at, flow_at, change_side}
use Rattle.relay_model.specs.Past.{past}
use Rattle.token_bucket.specs.declared.limit.Dir.{Dir}
use Rattle.relay_model.specs.Rooms as model
use Rattle.relay_model.specs.Rooms.{read_filter, write_filter}
use Rattle.relay_model.specs.Reasons.{raise}
use Rattle.relay_model.specs.Stages.{Stage, at}
use Rattle.relay_model.specs.StepLaws.{TookFirst}
use Rattle.relay_model.specs.Turn.{Puts, Quietly, Reaches}
use Rattle.relay_model.proofs.AccountedLemmas.{entries_keep_accounts}
use Rattle.relay_model.proofs.Frames.{rates_of}
use Rattle.relay_model.proofs.KeepsLemmas.{raised}
use Rattle.relay_model.proofs.PlainLemmas.{seen-change}
use Rattle.relay_model.proofs.SeenLemmas.{but_expired}
use Rattle.relay_state.specs.Rooms.{allowance}
use Rattle.relay_state.specs.State.{State, Lane, lane_at, with_plain}
use Rattle.rate_group.specs.GroupValue.{GroupsValue}
use Rattle.rate_group.specs.Steps.{share_in}
use Rattle.relay_steps.specs.Gauges.{Gauged}
use Rattle.relay_steps.specs.Grouped.{Grouped}
use Rattle.relay_steps.specs.Meaning.{LaneFits, StandsFor}
use Rattle.relay_steps.proofs.EndLemmas.{SameTold, IsSilent, told-same}
use Rattle.relay_steps.proofs.FitLemmas.{fits-same}
use Rattle.relay_steps.proofs.RateLemmas.{Moveless, SameGauged, turns-none, gauged-same}
use Rattle.relay_steps.proofs.GroupedSteps.{grouped-same}
use Rattle.relay_steps.proofs.RoomLemmas.{SideFits}

-- Two plain states with the same links and directions, and of each side the same but for enabling, activity and expiry.
pub record SameView (p q : Plain) : Type 0 where
  pub opened : q.opened ≡ p.opened
  pub sides : length q.sides ≡ length p.sides
  pub flows : q.flows ≡ p.flows
  pub seen : (e : SideId) → but_expired (side_at q e) ≡ but_expired (side_at p e)
  pub rates : (e : SideId) → rates_of (side_at q e) ≡ rates_of (side_at p e)

pub view-same : (p : Plain) → SameView p p
view-same p = record { opened = refl; sides = refl; flows = refl; seen = λ e. refl; rates = λ e. refl }

pub view-then : (p mid q : Plain) → SameView p mid → SameView mid q → SameView p q
view-then p mid q a b = record {
  opened = b.opened ∙ a.opened;
  sides = b.sides ∙ a.sides;
  flows = b.flows ∙ a.flows;
  seen = λ e. b.seen e ∙ a.seen e;
  rates = λ e. b.rates e ∙ a.rates e;
}

pub view-if : (b : Bool) (p x y : Plain) → SameView p x → SameView p y → SameView p (if b then x else y)
view-if true p x y k h = k
view-if false p x y k h = h

pub view-fold : {A : Type 0} (step : Plain → A → Plain) → ((p : Plain) (x : A) → SameView p (step p x)) → (p : Plain) (xs : List A) →
    SameView p (fold step p xs)
view-fold step h p [] = view-same p
view-fold step h p (x ∷ xs) = view-then p (step p x) (fold step (step p x) xs) (h p x) (view-fold step h (step p x) xs)

pub view-change : (e : SideId) (f : PlainSide → PlainSide) (p : Plain) → ((x : PlainSide) → but_expired (f x) ≡ but_expired x) →
    ((x : PlainSide) → rates_of (f x) ≡ rates_of x) → SameView p (change_side e f p)
view-change e f p seen rates = record {
  opened = refl;
  sides = length-set p.sides (number e) (f (side_at p e));
  flows = refl;
  seen = λ a. seen-change but_expired e a f p seen;
  rates = λ a. seen-change rates_of e a f p rates;
}

pub view-raise : (g : Settings) (e : SideId) (y : Why) (p : Plain) → SameView p (raise g e y p)
view-raise g e y p =
    let r = raised g e y p in
    subst (SameView p) (sym r.1) (record { opened = refl; sides = refl; flows = refl; seen = λ a. refl; rates = λ a. refl })

-- a lane goes on fitting
pub view-fits : (g : Settings) (t u : Trace) (p q : Plain) (e : SideId) (l : Lane) → SameTold t u e → SameView p q →
    LaneFits g t p e l → LaneFits g u q e l
view-fits g t u p q e l told view k =
    let a = view.seen e in
    let b = view.seen (peer e) in
    let f = view.flows in
    let r = told.read in
    let d = told.ended in
    fits-same g t u p q e l l
    (λ i. record {
      read = r i;
      ended = d i;
      from_live = (a i).live;
      to_live = (b i).live;
      flow = slice_index_or (f i) (number e) no_flow;
      from_marked = is_some (a i).bad;
      to_marked = is_some (b i).bad;
    }) refl k

-- what rooms look at of a side stays
pub view-side : (t u : Trace) (s : State) (x : GroupsValue) (p q : Plain) (e : SideId) → ((a : SideId) → SameTold t u a) → SameView p q →
    ((d : Dir) → allowance (with_plain q s) e d ≡ model.allowance (past s.settings u) q e d) →
    ((d : Dir) → share_in (number e) d x ≡ model.share s.settings (past s.settings u) q e d) →
    SideFits t (with_plain p s) e → SideFits u (record (with_plain q s) { groups = x }) e
view-side t u s x p q e told view allowed shared k = record {
  own = k.own ∙ holds e;
  toward = k.toward ∙ holds (peer e);
  allowed = allowed;
  shared = shared;
}
  where
    holds : (a : SideId) →
        left (read_filter s.settings p a) (write_filter s.settings p (peer a)) (bytes_read a t)
        (side_at p a).live (side_at p (peer a)).live (flow_at p a)
        ≡ left (read_filter s.settings q a) (write_filter s.settings q (peer a)) (bytes_read a u)
        (side_at q a).live (side_at q (peer a)).live (flow_at q a)
    holds a =
        let x = sym (view.seen a) in
        let y = sym (view.seen (peer a)) in
        let f = sym view.flows in
        let r = sym (told a).read in
        λ i. left (read_filter s.settings p a) (write_filter s.settings p (peer a)) (r i)
        (x i).live (y i).live (slice_index_or (f i) (number a) no_flow)

-- An entry that tells nothing of an end is put, and the plain state goes on with the same view. Groups may go on too.
pub stands-put : (t : Trace) (x z : Stage) (s : State) (q : Plain) (groups : GroupsValue) (y : Event) → StandsFor t x s →
    Puts s.settings t x s.plain y.0 y.1 (at z q) → TookFirst s.settings t s.plain y → ((a : SideId) → IsSilent y a) → SameView s.plain q →
    Gauged (t ++ y ∷ []) q s.gauges → Grouped s.settings (t ++ y ∷ []) q groups →
    StandsFor (t ++ y ∷ []) z (record (with_plain q s) { groups = groups })
stands-put t x z s q groups y k put took silent view gauged grouped = record {
  reached = Reaches.puts y.0 y.1 k.reached put;
  accounts = entries_keep_accounts s.settings t (at x s.plain) (at z q) y.0 y.1 k.reached put took k.accounts;
  many = k.many ∙ ap (λ n. 2 * n) (sym view.opened);
  each = λ e lt.
      view-fits s.settings t (t ++ y ∷ []) s.plain q e (lane_at s e) (told-same t y e (silent e)) view
      (k.each e (subst (λ n. e.link < n) view.opened lt));
  groups = k.groups;
  gauged = gauged;
  grouped = grouped;
}

-- Only the stage changes.
pub stands-told : (t : Trace) (x z : Stage) (s : State) (y : Event) → StandsFor t x s →
    Puts s.settings t x s.plain y.0 y.1 (at z s.plain) → TookFirst s.settings t s.plain y →
    ((a : SideId) → IsSilent y a) → Moveless y → StandsFor (t ++ y ∷ []) z s
stands-told t x z s y k put took silent moves =
    let same : SameGauged s.plain s.plain = record { opened = refl; time = refl; rates = λ a. refl; live = λ a. refl } in
    stands-put t x z s s.plain s.groups y k put took silent (view-same s.plain)
    (gauged-same t (t ++ y ∷ []) s.plain s.plain s.gauges same (turns-none t y moves) k.gauged)
    (grouped-same s.settings t (t ++ y ∷ []) s.plain s.plain s.groups same (turns-none t y moves) k.grouped)

-- No entry is put, and only the stage changes.
pub stands-quiet : (t : Trace) (x z : Stage) (s : State) → StandsFor t x s →
    Quietly s.settings t x s.plain (at z s.plain) → StandsFor t z s
stands-quiet t x z s k quiet = record {
  reached = Reaches.goes k.reached quiet;
  accounts = k.accounts;
  many = k.many;
  each = k.each;
  groups = k.groups;
  gauged = k.gauged;
  grouped = k.grouped;
}
