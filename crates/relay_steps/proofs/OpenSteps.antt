-- How a link is opened: its two lanes fit as nothing was told of its ends, whatever its filters are, and the other lanes go on fitting.
use Rattle.std.proofs.Common.{◌≢◌, ◌⊎◌, ◌≤◌, option_map, ◌≡◌, inl, inr, ℕ, ◌+◌, ◌*◌, ◌<◌, Bool, true, false, if◌then◌else◌, List, [], ◌∷◌}
use Rattle.std.proofs.Common.{◌++◌, length, drop, Option, Some, None, refl, sym, ◌∙◌, ap, subst, arith, slice_index_or, length-append}
use Rattle.std.specs.Prelude.{is_some}
use Rattle.std.specs.List.{list_any}
use Rattle.std.proofs.lemmas.Bool.{or_parts, cases_lt}
use Rattle.std.proofs.lemmas.Bool.Decides.{eqb_tells}
use Rattle.std.proofs.lemmas.List.{get_or_append_left, get_or-append-add, get_or_past}
use Rattle.ev_types.specs.declared.side.Side.{Side}
use Rattle.ev_types.specs.declared.side.Side.TheVariants.{In, Out}
use Rattle.ev_types.specs.declared.side.SideId.{SideId}
use Rattle.ev_types.specs.declared.answer.ReadAnswer.TheVariants as read
use Rattle.ev_types.specs.declared.entry.Entry.TheVariants as entry
use Rattle.ev_types.specs.declared.filter.FilterKind.{FilterKind}
use Rattle.ev_types.specs.Sides.{other, peer, half, number}
use Rattle.ev_types.specs.Trace.{Event, Trace}
use Rattle.relay_model.specs.Trace.{read_by, ended_by, bytes_read}
use Rattle.filter_model.specs.Filter.{Filter, filter_of}
use Rattle.filter_model.specs.FilterLaws.{BadLaw, last_of}
use Rattle.filter_model.specs.FilterStep.{begun}
use Rattle.relay_model.specs.Flow.{no_flow}
use Rattle.relay_model.specs.Conserved.{all_moved}
use Rattle.filter_model.specs.Running.{StandsAt}
use Rattle.relay_model.specs.Settings.{Settings, rate_set}
use Rattle.relay_model.specs.Plain.{Plain, with_link, side_at, flow_at, Standing, first_limit}
use Rattle.relay_model.specs.Rooms.{Want, read_kind, write_kind}
use Rattle.relay_model.specs.Stages.{Stage, at}
use Rattle.relay_model.specs.Told.{names}
use Rattle.relay_model.specs.Turn.{Reaches, most_opened}
use Rattle.relay_model.proofs.AccountedLemmas.{entries_keep_accounts}
use Rattle.filter_model.proofs.EveryFilter.{every_filter, begins_with_input}
use Rattle.relay_model.proofs.FlowSteps.{left-first}
use Rattle.relay_model.proofs.PlainLemmas.{side_at-new, side_at-old}
use Rattle.relay_model.proofs.ToldLemmas.{kept, ended-names, none_of}
use Rattle.relay_state.specs.State.{State, no_lane, lane_at, gauge_in, gauge_at}
use Rattle.relay_state.specs.Opening.{new_lane, after_opened}
use Rattle.relay_steps.specs.Meaning.{LaneFits, StandsFor}
use Rattle.relay_steps.proofs.EndLemmas.{IsSilent, SameTold, told-same, number-below}
use Rattle.relay_model.proofs.EndLemmas.{number-ge}
use Rattle.relay_model.proofs.SpellLemmas.{spells-count}
use Rattle.relay_model.proofs.ReachLemmas.{shape-is_told}
use Rattle.relay_model.specs.Rates.{side_spells}
use Rattle.token_bucket.specs.declared.limit.Dir.{Dir}
use Rattle.token_bucket.specs.declared.limit.LimitCfg.{LimitCfg}
use Rattle.relay_state.specs.Running.{Gauge, no_gauge, gauge_begun, first_gauge}
use Rattle.relay_steps.specs.Gauges.{BucketFits, Gauged}
use Rattle.relay_steps.proofs.GaugeSteps.{bucket-silent, bucket-first}
use Rattle.relay_steps.proofs.RateLemmas.{beat-none, turns-none}
use Rattle.relay_steps.proofs.MembershipSteps.{opened-grouped}
use Rattle.relay_steps.proofs.FitLemmas.{Sight, sight, FitsSight, fits-seen, fits-same}

silent-opened : (link : ℕ) (connected : Bool) (a : SideId) → IsSilent (entry.Opened link connected, []) a
silent-opened link connected a = record { read = refl; given = refl; ended = refl; moved = refl; given_free = refl; closed = refl }

-- Nothing was read from an end that no event names.

read-names : (e : SideId) (y : Event) → names e y ≡ false → read_by e y ≡ []
read-names e (entry.Read side room (read.Got n), bytes) h = ap (λ b. if b then bytes else []) h
read-names e _ h = refl

unnamed-read : (e : SideId) (t : Trace) → list_any (names e) t ≡ false → bytes_read e t ≡ []
unnamed-read e [] h = refl
unnamed-read e (y ∷ t) h =
    let k = or_parts (names e y) (list_any (names e) t) h in
    ap (λ z. z ++ bytes_read e t) (read-names e y k.0) ∙ unnamed-read e t k.1

-- A filter that begins stands at the first of no bytes.

none_bad : (f : Filter) → BadLaw f → f.bad [] ≡ None
none_bad f law = go (f.bad []) refl
  where
    go : (z : Option ℕ) → f.bad [] ≡ z → f.bad [] ≡ None
    go None h = h
    go (Some place) h = absurd (let l = law.is_there [] place h in omega arith)

begun-stands : (k : FilterKind) (over : Bool) → StandsAt k (filter_of k) [] 0 over false (begun k)
begun-stands k over = record {
  kind = refl;
  since = sym (begins_with_input k);
  begun = (let z = begins_with_input k in omega arith);
  used = refl;
  good = none_bad (filter_of k) (every_filter k).badness;
  last = sym (ap (λ n. last_of (drop n [])) (begins_with_input k));
  finished = refl;
  stopped = tt;
}

-- what a lane of a new link looks at
abbrev first_sight : Sight
first_sight = record { read = []; ended = false; from_live = true; to_live = true; flow = no_flow; from_marked = false; to_marked = false }

new_lane-fits : (g : Settings) (p : Plain) (e : SideId) → FitsSight g p e first_sight (new_lane g e.side (other e.side))
new_lane-fits g p e =
    let r_kind = read_kind g e.side in
    let w_kind = write_kind g (other e.side) in
    let r_empty : (filter_of r_kind).before [] ≡ [] = (every_filter r_kind).prefix.empty in
    let w_empty : (filter_of w_kind).before [] ≡ [] = (every_filter w_kind).prefix.empty in
    record {
      holds = record {
        buffers = sym (left-first (filter_of r_kind) (filter_of w_kind) (every_filter r_kind).prefix (every_filter w_kind).prefix);
        reads = λ live. begun-stands r_kind false;
        writes = λ live. begun-stands w_kind (all_moved (filter_of r_kind) [] no_flow);
      };
      read = refl;
      read_made = sym (ap length r_empty);
      write_made = sym (ap length w_empty);
      reader_marks = λ stopped. absurd (cc);
      writer_marks = λ stopped. absurd (cc);
    }

-- Behind twice as many as there are links stands what belongs to the next.

abbrev pick : {A : Type 0} → Side → A → A → A
pick In a b = a
pick Out a b = b

at_end : {A : Type 0} (xs : List A) (a b d : A) (n : ℕ) (e : SideId) → length xs ≡ 2 * n → n ≡ e.link →
    slice_index_or (xs ++ a ∷ b ∷ []) (number e) d ≡ pick e.side a b
at_end xs a b d n e many here =
    ap (λ k. slice_index_or (xs ++ a ∷ b ∷ []) k d) (let q : number e ≡ length xs + half e.side = omega (arith, many, here) in q)
    ∙ get_or-append-add xs (a ∷ b ∷ []) (half e.side) d
    ∙ by_side e.side
  where
    by_side : (x : Side) → slice_index_or (a ∷ b ∷ []) (half x) d ≡ pick x a b
    by_side In = refl
    by_side Out = refl

at_front : {A : Type 0} (xs : List A) (a b d : A) (n : ℕ) (e : SideId) → length xs ≡ 2 * n → e.link < n →
    slice_index_or (xs ++ a ∷ b ∷ []) (number e) d ≡ slice_index_or xs (number e) d
at_front xs a b d n e many lt = get_or_append_left xs (a ∷ b ∷ []) d (number e) (omega (arith, many, number-below e n lt))

some_same : {A : Type 0} (a b : A) → Some a ≡ Some b → a ≡ b
some_same a b h = cc

module _ (t : Trace) (x : Stage) (s : State) (k : StandsFor t x s) (connected : Bool) where
  abbrev g : Settings
  g = s.settings

  abbrev p : Plain
  p = s.plain

  abbrev u : Trace
  u = t ++ (entry.Opened p.opened connected, []) ∷ []

  abbrev p' : Plain
  p' = with_link g connected p

  abbrev s' : State
  s' = after_opened s connected

  counts : (length p.sides ≡ 2 * p.opened) × (length p.flows ≡ 2 * p.opened)
  counts = let c = (kept g t (at x p) k.reached).counts in (c.shape.sides, c.shape.flows)

  told : (e : SideId) → SameTold t u e
  told e = told-same t (entry.Opened p.opened connected, []) e (silent-opened p.opened connected e)

  -- the lanes of the links before
  old-fits : (e : SideId) → e.link < p.opened → LaneFits g u p' e (lane_at s' e)
  old-fits e lt =
      let a : side_at p' e ≡ side_at p e = side_at-old g connected p e counts.0 (λ h. absurd (omega (arith, h, lt))) in
      let b : side_at p' (peer e) ≡ side_at p (peer e) =
      side_at-old g connected p (peer e) counts.0 (λ h. absurd (omega (arith, h, lt))) in
      let f : flow_at p' e ≡ flow_at p e = at_front p.flows no_flow no_flow no_flow p.opened e counts.1 lt in
      let r = (told e).read in
      let d = (told e).ended in
      fits-same g t u p p' e (lane_at s e) (lane_at s' e)
      (λ i. record {
        read = r i;
        ended = d i;
        from_live = (a i).live;
        to_live = (b i).live;
        flow = f i;
        from_marked = is_some (a i).bad;
        to_marked = is_some (b i).bad;
      })
      (at_front s.lanes (new_lane g In Out) (new_lane g Out In) no_lane p.opened e k.many lt) (k.each e lt)

  -- the two lanes of the new one
  new-fits : (e : SideId) → p.opened ≡ e.link → LaneFits g u p' e (lane_at s' e)
  new-fits e here =
      let no_name = (kept g t (at x p) k.reached).counts.named e (omega (arith, here)) in
      let a = side_at-new g connected p e counts.0 here in
      let b = side_at-new g connected p (peer e) counts.0 here in
      let f : flow_at p' e ≡ no_flow = at_end p.flows no_flow no_flow no_flow p.opened e counts.1 here ∙ none e.side in
      let r = (told e).read ∙ unnamed-read e t no_name in
      let d = (told e).ended ∙ none_of (names e) (ended_by e) (ended-names e) t no_name in
      let l : lane_at s' e ≡ new_lane g e.side (other e.side) =
      at_end s.lanes (new_lane g In Out) (new_lane g Out In) no_lane p.opened e k.many here ∙ by_side e.side in
      let seen : sight u p' e ≡ first_sight = λ i. record {
        read = r i;
        ended = d i;
        from_live = (a i).live;
        to_live = (b i).live;
        flow = f i;
        from_marked = is_some (a i).bad;
        to_marked = is_some (b i).bad;
      } in
      subst (LaneFits g u p' e) (sym l)
      (fits-seen g u p' p' e (new_lane g e.side (other e.side))
      (subst (λ z. FitsSight g p' e z (new_lane g e.side (other e.side))) (sym seen) (new_lane-fits g p' e)))
    where
      none : (z : Side) → pick z no_flow no_flow ≡ no_flow
      none In = refl
      none Out = refl

      by_side : (z : Side) → pick z (new_lane g In Out) (new_lane g Out In) ≡ new_lane g z (other z)
      by_side In = refl
      by_side Out = refl

  opened-fits : (e : SideId) → e.link < p.opened + 1 → LaneFits g u p' e (lane_at s' e)
  opened-fits e lt = elim (eqb_tells p.opened e.link) [
    | inl here ↦ new-fits e here.1
    | inr apart ↦ old-fits e (omega (arith, lt, apart.1))
  ]

  -- the buckets of the new link, and those before
  opened-gauged : Gauged u p' s'.gauges
  opened-gauged = record {
    many = length-append s.gauges (gauge_begun (rate_set g In) p.time ∷ gauge_begun (rate_set g Out) p.time ∷ [])
        ∙ (let a = k.gauged.many in omega arith);
    each = λ e y is d. elim (eqb_tells p.opened e.link) [
      | inl here ↦ new-gauged e here.1 (rate_set g e.side) refl y is d
      | inr apart ↦
          subst (λ z. BucketFits u p.time y e z d) (sym (gauge-old e apart.1))
          (bucket-silent t (entry.Opened p.opened connected, []) p.time y e (gauge_at s e) d
          (beat-none (entry.Opened p.opened connected, []) (λ a. (refl, refl)) e d)
          (k.gauged.each e y (sym (ap (λ z. z.limit) (side_at-old g connected p e counts.0 apart.1)) ∙ is) d))
    ];
  }
    where
      first : Gauge
      first = gauge_begun (rate_set g In) p.time

      second : Gauge
      second = gauge_begun (rate_set g Out) p.time

      gauge-old : (e : SideId) → p.opened ≢ e.link → gauge_in (s.gauges ++ first ∷ second ∷ []) e ≡ gauge_at s e
      gauge-old e apart = by_place (cases_lt e.link p.opened)
        where
          by_place : (e.link < p.opened) ⊎ (p.opened ≤ e.link) → gauge_in (s.gauges ++ first ∷ second ∷ []) e ≡ gauge_at s e
          by_place (inl lt) = at_front s.gauges first second no_gauge p.opened e k.gauged.many lt
          by_place (inr ge) =
              let m = k.gauged.many in
              let l = length-append s.gauges (first ∷ second ∷ []) in
              let n = number-ge e (p.opened + 1) (omega (arith, ge, apart)) in
              get_or_past (s.gauges ++ first ∷ second ∷ []) (number e) no_gauge (omega (arith, m, l, n))
              ∙ sym (get_or_past s.gauges (number e) no_gauge (omega (arith, m, n)))

      by_side : (z : Side) → pick z first second ≡ gauge_begun (rate_set g z) p.time
      by_side In = refl
      by_side Out = refl

      turns : (e : SideId) (d : Dir) → p.turn ≡ length (side_spells e d t)
      turns e d = (shape-is_told g t (at x p) k.reached).turn ∙ sym (spells-count e d t)

      new-gauged : (e : SideId) → p.opened ≡ e.link → (o : Option LimitCfg) → rate_set g e.side ≡ o → (y : Standing) →
          (side_at p' e).limit ≡ Some y → (d : Dir) → BucketFits u p.time y e (gauge_in (s.gauges ++ first ∷ second ∷ []) e) d
      new-gauged e here None is y lim d =
          let none : (side_at p' e).limit ≡ None =
          ap (λ z. z.limit) (side_at-new g connected p e counts.0 here) ∙ ap (option_map (first_limit p.time p.turn)) is in
          absurd (let bad : None ≡ Some y = sym none ∙ lim in cc)
      new-gauged e here (Some cfg) is y lim d =
          let some : (side_at p' e).limit ≡ Some (first_limit p.time p.turn cfg) =
          ap (λ z. z.limit) (side_at-new g connected p e counts.0 here) ∙ ap (option_map (first_limit p.time p.turn)) is in
          let whose : first_limit p.time p.turn cfg ≡ y = some_same (first_limit p.time p.turn cfg) y (sym some ∙ lim) in
          let place : gauge_in (s.gauges ++ first ∷ second ∷ []) e ≡ first_gauge cfg p.time =
          at_end s.gauges first second no_gauge p.opened e k.gauged.many here ∙ by_side e.side ∙ ap (λ o. gauge_begun o p.time) is in
          subst (λ z. BucketFits u p.time z e (gauge_in (s.gauges ++ first ∷ second ∷ []) e) d) whose
          (subst (λ z. BucketFits u p.time (first_limit p.time p.turn cfg) e z d) (sym place)
          (bucket-silent t (entry.Opened p.opened connected, []) p.time (first_limit p.time p.turn cfg) e (first_gauge cfg p.time) d
          (beat-none (entry.Opened p.opened connected, []) (λ a. (refl, refl)) e d)
          (bucket-first t p.time p.turn cfg e d (turns e d))))

-- The next link is opened.
pub opened-stands : (t : Trace) (s : State) (n : ℕ) (marks : List Want) (connected : Bool) → StandsFor t (Stage.Accepting n marks) s →
    n < most_opened → s.plain.opened < s.settings.links →
    StandsFor (t ++ (entry.Opened s.plain.opened connected, []) ∷ []) (Stage.Accepting (n + 1) marks) (after_opened s connected)
opened-stands t s n marks connected k few lt =
    let g = s.settings in
    let x = Stage.Accepting n marks in
    let z = Stage.Accepting (n + 1) marks in
    let y = entry.Opened s.plain.opened connected in
    let p' = with_link g connected s.plain in
    record {
      reached = Reaches.puts y [] k.reached (refl, few, lt, refl, refl);
      accounts = entries_keep_accounts g t (at x s.plain) (at z p') y [] k.reached (refl, few, lt, refl, refl) tt k.accounts;
      many = length-append s.lanes (new_lane g In Out ∷ new_lane g Out In ∷ []) ∙ (let a = k.many in omega arith);
      each = opened-fits t x s k connected;
      groups = k.groups;
      gauged = opened-gauged t x s k connected;
      grouped =
          opened-grouped g k.groups t (t ++ (y, []) ∷ []) s.plain s.groups connected (turns-none t (y, []) (λ a. (refl, refl)))
          (shape-is_told g t (at x s.plain) k.reached).sides k.grouped;
    }
