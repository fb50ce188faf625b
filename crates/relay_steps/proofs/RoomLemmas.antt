-- Where the lanes hold exactly what the counts leave, and buckets and groups fit, rooms, wants and the timeout of the poll are the
-- model's. The first lemmas look at two lanes and one side alone, so that they hold in the midst of a step too.
use Rattle.std.proofs.Common.{◌≡◌, ℕ, zero, suc, ◌+◌, ◌-◌, ◌<◌, Bool, true, false, not, ◌&&◌, ◌||◌, ◌==◌, nat_le, min, if◌then◌else◌, List}
use Rattle.std.proofs.Common.{[], ◌∷◌, ◌++◌, length, map, filter, Option, Some, None, refl, sym, ◌∙◌, ap, subst, arith, max, ◌/◌, ◌*◌}
use Rattle.std.specs.Prelude.{option_map, slice_get}
use Rattle.std.specs.Option.{option_map_or}
use Rattle.std.specs.List.{flat_map}
use Rattle.token_bucket.specs.declared.limit.Dir.{Dir}
use Rattle.token_bucket.specs.declared.limit.Dir.TheVariants as dir
use Rattle.ev_types.specs.declared.side.Side.TheVariants.{In, Out}
use Rattle.ev_types.specs.declared.side.SideId.{SideId}
use Rattle.ev_types.specs.Sides.{peer}
use Rattle.ev_types.specs.Trace.{Trace}
use Rattle.relay_model.specs.Trace.{bytes_read}
use Rattle.relay_model.specs.Flow as flow
use Rattle.relay_model.specs.Conserved.{Buffers, left}
use Rattle.rate_group.specs.GroupValue.{GroupValue, GroupsValue}
use Rattle.rate_group.specs.Steps.{lane_of, share_of, count_in}
use Rattle.relay_model.specs.Settings.{Settings, GroupSet}
use Rattle.relay_model.specs.Groups.{beats_among, group_spells, members, share_among}
use Rattle.relay_model.specs.Plain.{Plain, Standing, side_at, flow_at, is_live, sides_from, all_sides}
use Rattle.relay_model.specs.Past.{Past, past}
use Rattle.relay_model.specs.Rates.{next_tick, side_spells, standing_level}
use Rattle.relay_model.specs.Rooms as model
use Rattle.relay_model.specs.Rooms.{Want, read_filter, write_filter, share_in, at_most, most_at_once, read_mark, may_read}
use Rattle.relay_model.specs.Rooms.{may_write, is_connecting}
use Rattle.relay_model.specs.Moments as moment
use Rattle.relay_model.specs.Moments.{timeout_of, last_activity, is_timed, moment_where, both_ways, earliest, is_pressing}
use Rattle.relay_model.specs.Stages.{Stage, at}
use Rattle.relay_model.proofs.ReachLemmas.{shape-is_told}
use Rattle.relay_model.proofs.PlainLemmas.{and-first}
use Rattle.relay_state.specs.State.{State, lane_at, gauge_at}
use Rattle.relay_state.specs.Rooms.{allowance, share, within_rates, input_length, waiting_for, output_length, read_room, write_room}
use Rattle.relay_state.specs.Rooms.{wants, want_of, wanted}
use Rattle.relay_state.specs.Time.{limit_gain, group_gains, expiry, moments, poll_timeout}
use Rattle.std.proofs.lemmas.Option.{slice_get_within}
use Rattle.relay_steps.specs.BucketLaws.{GroupsTellLevels, GroupsTellShares}
use Rattle.relay_steps.specs.Gauges.{Gauged}
use Rattle.relay_steps.specs.Grouped.{GroupFits, Grouped}
use Rattle.relay_steps.specs.Meaning.{StandsFor}
use Rattle.relay_state.specs.Running.{held_at}
use Rattle.relay_steps.proofs.GaugeSteps.{held-is}
use Rattle.relay_steps.proofs.GroupLemmas.{group_held-is}
use Rattle.relay_steps.proofs.MemberSteps.{members-are}
use Rattle.relay_steps.proofs.EndLemmas.{peer-peer}

-- The lane that begins at a side holds exactly what the counts leave.
abbrev pub HoldsLeft : Trace → State → SideId → Type 0
HoldsLeft t s e =
    (lane_at s e).buffers
    ≡ left (read_filter s.settings s.plain e) (write_filter s.settings s.plain (peer e)) (bytes_read e t)
    (is_live s.plain e) (is_live s.plain (peer e)) (flow_at s.plain e)

-- So do the lanes from a side and to it, its buckets hold what the trace says, and its group leaves to it what the trace says.
pub record SideFits (t : Trace) (s : State) (e : SideId) : Type 0 where
  pub own : HoldsLeft t s e
  pub toward : HoldsLeft t s (peer e)
  pub allowed : (d : Dir) → allowance s e d ≡ model.allowance (past s.settings t) s.plain e d
  pub shared : (d : Dir) → share s e d ≡ model.share s.settings (past s.settings t) s.plain e d

-- A side that may be read lives, and so does its peer; one that may be written lives.

pub may_read-own : (p : Plain) (e : SideId) → may_read p e ≡ true → is_live p e ≡ true
may_read-own p e h =
    let x = side_at p e in
    and-first x.live (not x.connecting)
    (and-first (x.live && not x.connecting) x.reads
    (and-first (x.live && not x.connecting && x.reads) (not x.ended)
    (and-first (x.live && not x.connecting && x.reads && not x.ended) (not x.failed)
    (and-first (x.live && not x.connecting && x.reads && not x.ended && not x.failed) (side_at p (peer e)).live h))))

pub may_write-live : (p : Plain) (e : SideId) → may_write p e ≡ true → is_live p e ≡ true
may_write-live p e h =
    let x = side_at p e in
    and-first x.live (not x.connecting)
    (and-first (x.live && not x.connecting) x.writes
    (and-first (x.live && not x.connecting && x.writes) (not x.failed)
    (and-first (x.live && not x.connecting && x.writes && not x.failed) (not x.write_ended) h)))

-- what is there where a side lives
where_live : {A : Type 0} (b : Bool) (x y z : A) → b ≡ true → z ≡ (if b then x else y) → z ≡ x
where_live b x y z h k = k ∙ ap (λ c. if c then x else y) h

module _ (t : Trace) (s : State) (e : SideId) (k : SideFits t s e) where
  abbrev g : Settings
  g = s.settings

  abbrev p : Plain
  p = s.plain

  abbrev P : Past
  P = past g t

  -- The four buffers

  module _ (live : is_live p e ≡ true) where
    pub raw_input-fits : (lane_at s e).buffers.raw_input ≡ model.raw_input_at P p e
    raw_input-fits = where_live (is_live p e) _ [] _ live (ap (λ (b : Buffers). b.raw_input) k.own)

    pub input-fits : (lane_at s e).buffers.input ≡ model.input_at g P p e
    input-fits = where_live (is_live p e) _ [] _ live (ap (λ (b : Buffers). b.input) k.own)

    to_live : is_live p (peer (peer e)) ≡ true
    to_live = ap (is_live p) (peer-peer e) ∙ live

    pub output-fits : (lane_at s (peer e)).buffers.output ≡ model.output_at g P p e
    output-fits = where_live (is_live p (peer (peer e))) _ [] _ to_live (ap (λ (b : Buffers). b.output) k.toward)

    pub waiting-fits : waiting_for s e ≡ model.raw_output_at g P p e
    waiting-fits =
        where_live (is_live p (peer (peer e))) _ [] _ to_live (ap (λ (b : Buffers). b.raw_output) k.toward)
        ∙ ap (λ z. flow.raw_output (read_filter g p (peer e)) (write_filter g p z) (bytes_read (peer e) t) (flow_at p (peer e)))
        (peer-peer e)

    pub input_length-fits : input_length s e ≡ model.input_length g P p e
    input_length-fits = let a = raw_input-fits in let b = input-fits in λ i. length (a i) + length (b i)

    pub output_length-fits : output_length s e ≡ model.output_length g P p e
    output_length-fits = let a = output-fits in let b = waiting-fits in λ i. length (a i) + length (b i)

  -- Rooms and wants

  limited : (d : Dir) (n : ℕ) → model.within_rates g P p e d n ≡ within_rates s e d n
  limited d n = let a = k.shared d in let b = k.allowed d in λ i. at_most ((sym a) i) (at_most ((sym b) i) n)

  pub read_room-fits : read_room s e ≡ model.read_room g P p e
  read_room-fits = by_test (may_read p e) refl
    where
      by_test : (b : Bool) → may_read p e ≡ b →
          ◌≡◌ {A = ℕ} (if b then within_rates s e dir.Read (min most_at_once (read_mark p e - input_length s e)) else 0)
          (if b then model.within_rates g P p e dir.Read (min most_at_once (read_mark p e - model.input_length g P p e)) else 0)
      by_test true b =
          ap (λ n. within_rates s e dir.Read (min most_at_once (read_mark p e - n))) (input_length-fits (may_read-own p e b))
          ∙ sym (limited dir.Read (min most_at_once (read_mark p e - model.input_length g P p e)))
      by_test false b = refl

  pub write_room-fits : write_room s e ≡ model.write_room g P p e
  write_room-fits = by_test (may_write p e) refl
    where
      by_test : (b : Bool) → may_write p e ≡ b →
          ◌≡◌ {A = ℕ} (if b then within_rates s e dir.Write (min most_at_once (length (waiting_for s e))) else 0)
          (if b then model.within_rates g P p e dir.Write (min most_at_once (length (model.raw_output_at g P p e))) else 0)
      by_test true b =
          ap (λ z. within_rates s e dir.Write (min most_at_once (length z))) (waiting-fits (may_write-live p e b))
          ∙ sym (limited dir.Write (min most_at_once (length (model.raw_output_at g P p e))))
      by_test false b = refl

  pub wants-fits : (d : Dir) → wants s e d ≡ model.wants g P p e d
  wants-fits dir.Read = ap (nat_le 1) read_room-fits
  wants-fits dir.Write = ap (λ n. nat_le 1 n || (is_connecting p e && not (side_at p e).failed)) write_room-fits

  pub want_of-fits : want_of s e ≡ model.want_of g P p e
  want_of-fits = let a = wants-fits dir.Read in let b = wants-fits dir.Write in λ i. record { side = e; read = a i; write = b i }

  pub expiry-fits : (d : Dir) → expiry s e d ≡ moment.expiry g P p e d
  expiry-fits d =
      let x = side_at p e in
      ap (λ b. moment_where (is_timed x d && b) (last_activity x d + timeout_of x d)) (wants-fits d)

-- Where the relay stands for a trace

pub allowed-is : (t : Trace) (s : State) (e : SideId) → Gauged t s.plain s.gauges → (d : Dir) →
    allowance s e d ≡ model.allowance (past s.settings t) s.plain e d
allowed-is t s e k d = by_limit (side_at s.plain e).limit refl
  where
    by_limit : (o : Option Standing) → (side_at s.plain e).limit ≡ o →
        option_map (λ y. held_at y.cfg (gauge_at s e) d s.plain.time) o
        ≡ option_map (λ y. standing_level y d (side_spells e d t) s.plain.time) o
    by_limit None is = refl
    by_limit (Some y) is = ap Some (held-is t s.plain.time y e (gauge_at s e) d (k.each e y is d))

get_some : {A : Type 0} (xs : List A) (n : ℕ) → n < length xs → (x : A) × (slice_get xs n ≡ Some x)
get_some [] n h = absurd (omega (arith, h))
get_some (x ∷ xs) zero h = (x, refl)
get_some (x ∷ xs) (suc n) h = get_some xs n (omega (arith, h))

-- each group's members count themselves as the model counts them
pub counted-is : (g : Settings) (t : Trace) (p : Plain) (x : GroupsValue) → Grouped g t p x → length p.sides ≡ 2 * p.opened → (n : ℕ) →
    count_in n x.members ≡ members p n
counted-is g t p x k size n = k.counted n ∙ sym (members-are p size k.freed n)

-- what a side's group leaves to it is what the model says
pub shared-is : (t : Trace) (s : State) (e : SideId) → Grouped s.settings t s.plain s.groups → length s.plain.sides ≡ 2 * s.plain.opened →
    (d : Dir) → share s e d ≡ model.share s.settings (past s.settings t) s.plain e d
shared-is t s e k size d =
    ap (option_map (λ n. option_map_or (λ v. share_of v d (count_in n s.groups.members)) (slice_get s.groups.groups n) 0)) (k.member e)
    ∙ by_group (side_at s.plain e).group refl
  where
    by_group : (o : Option ℕ) → (side_at s.plain e).group ≡ o →
        option_map (λ n. option_map_or (λ v. share_of v d (count_in n s.groups.members)) (slice_get s.groups.groups n) 0) o
        ≡ share_in s.settings (past s.settings t) s.plain d o
    by_group None is = refl
    by_group (Some n) is =
        let within = k.known e n is in
        let y = get_some s.settings.groups n within in
        let v = get_some s.groups.groups n (let m = k.many in omega (arith, within, m)) in
        let fit = k.each n y.0 v.0 y.1 v.1 in
        let suspended = (fit.each d).suspended in
        let holds = group_held-is y.0 d (beats_among s.settings n d [] t) s.plain.time (lane_of v.0 d) (fit.each d) in
        let count = counted-is s.settings t s.plain s.groups k size n in
        let least = fit.least in
        ap (λ o. Some (option_map_or (λ w. share_of w d (count_in n s.groups.members)) o 0)) v.1
        ∙ (λ i. Some (if suspended i then 0 else max (holds i / count i) (least i)))
        ∙ sym (ap (option_map (λ w. share_among w d (group_spells s.settings n d t) s.plain.time (members s.plain n))) y.1)

pub stands-fits : (t : Trace) (x : Stage) (s : State) (e : SideId) → StandsFor t x s → e.link < s.plain.opened → SideFits t s e
stands-fits t x s e k lt =
    record {
      own = (k.each e lt).holds.buffers;
      toward = (k.each (peer e) lt).holds.buffers;
      allowed = allowed-is t s e k.gauged;
      shared = shared-is t s e k.grouped (shape-is_told s.settings t (at x s.plain) k.reached).sides;
    }

module _ (t : Trace) (x : Stage) (s : State) (e : SideId) (k : StandsFor t x s) (lt : e.link < s.plain.opened) where
  abbrev gs : Settings
  gs = s.settings

  abbrev Ps : Past
  Ps = past gs t

  fits : SideFits t s e
  fits = stands-fits t x s e k lt

  pub input_length-is : is_live s.plain e ≡ true → input_length s e ≡ model.input_length gs Ps s.plain e
  input_length-is live = input_length-fits t s e fits live

  pub output_length-is : is_live s.plain e ≡ true → output_length s e ≡ model.output_length gs Ps s.plain e
  output_length-is live = output_length-fits t s e fits live

  pub waiting-is : is_live s.plain e ≡ true → waiting_for s e ≡ model.raw_output_at gs Ps s.plain e
  waiting-is live = waiting-fits t s e fits live

  pub read_room-is : read_room s e ≡ model.read_room gs Ps s.plain e
  read_room-is = read_room-fits t s e fits

  pub write_room-is : write_room s e ≡ model.write_room gs Ps s.plain e
  write_room-is = write_room-fits t s e fits

-- All sides

module _ {A : Type 0} (f h : SideId → A) where
  -- what is made of each side of some links
  pub map-sides : (k n : ℕ) → ((e : SideId) → e.link < k + n → f e ≡ h e) → map f (sides_from k n) ≡ map h (sides_from k n)
  map-sides k zero same = refl
  map-sides k (suc n) same =
      let i : SideId = record { link = k; side = In } in
      let o : SideId = record { link = k; side = Out } in
      let a = same i (omega arith) in
      let b = same o (omega arith) in
      let c = map-sides (k + 1) n (λ e l. same e (omega (arith, l))) in
      λ j. a j ∷ b j ∷ c j

module _ {A : Type 0} (f h : SideId → List A) where
  pub flat-sides : (k n : ℕ) → ((e : SideId) → e.link < k + n → f e ≡ h e) → flat_map f (sides_from k n) ≡ flat_map h (sides_from k n)
  flat-sides k zero same = refl
  flat-sides k (suc n) same =
      let i : SideId = record { link = k; side = In } in
      let o : SideId = record { link = k; side = Out } in
      let a = same i (omega arith) in
      let b = same o (omega arith) in
      let c = flat-sides (k + 1) n (λ e l. same e (omega (arith, l))) in
      λ j. a j ++ (b j ++ c j)

module _ (t : Trace) (x : Stage) (s : State) (k : StandsFor t x s) where
  abbrev ga : Settings
  ga = s.settings

  abbrev Pa : Past
  Pa = past ga t

  pub wanted-is : wanted s ≡ model.wanted ga Pa s.plain
  wanted-is =
      ap (filter (λ (w : Want). w.read || w.write))
      (map-sides (want_of s) (model.want_of ga Pa s.plain) 0 s.plain.opened
      (λ e l. want_of-fits t s e (stands-fits t x s e k (omega (arith, l)))))

  both-fit : (e : SideId) → e.link < 0 + s.plain.opened →
      flat_map (expiry s e) both_ways ≡ flat_map (moment.expiry ga Pa s.plain e) both_ways
  both-fit e l =
      let q = stands-fits t x s e k (omega (arith, l)) in
      let a = expiry-fits t s e q dir.Read in
      let b = expiry-fits t s e q dir.Write in
      λ i. a i ++ (b i ++ [])

  gain-is : (e : SideId) (o : Option Standing) → (side_at s.plain e).limit ≡ o → limit_gain s e o ≡ moment.limit_gain Pa s.plain e o
  gain-is e None is = refl
  gain-is e (Some y) is =
      let a = held-is t s.plain.time y e (gauge_at s e) dir.Read (k.gauged.each e y is dir.Read) in
      let b = held-is t s.plain.time y e (gauge_at s e) dir.Write (k.gauged.each e y is dir.Write) in
      λ i. moment_where (is_live s.plain e && (a i == 0 || (b i == 0 || false))) (next_tick y.cfg.tick_ms s.plain.time)

  gains-are : flat_map (λ e. limit_gain s e (side_at s.plain e).limit) (all_sides s.plain)
      ≡ flat_map (λ e. moment.limit_gain Pa s.plain e (side_at s.plain e).limit) (all_sides s.plain)
  gains-are =
      flat-sides (λ e. limit_gain s e (side_at s.plain e).limit) (λ e. moment.limit_gain Pa s.plain e (side_at s.plain e).limit)
      0 s.plain.opened (λ e l. gain-is e (side_at s.plain e).limit refl)

  groups-gain : (n : ℕ) (ys : List GroupSet) (vs : List GroupValue) → length vs ≡ length ys →
      ((m : ℕ) (y : GroupSet) (v : GroupValue) → slice_get ys m ≡ Some y → slice_get vs m ≡ Some v →
      GroupFits ga t s.plain.time (n + m) y v) →
      group_gains s n vs ≡ moment.group_gains Pa s.plain n ys
  groups-gain n [] [] many h = refl
  groups-gain n [] (v ∷ vs) many h = absurd (omega (arith, many))
  groups-gain n (y ∷ ys) [] many h = absurd (omega (arith, many))
  groups-gain n (y ∷ ys) (v ∷ vs) many h =
      let same : n + 0 ≡ n = omega arith in
      let fit : GroupFits ga t s.plain.time n y v = subst (λ z. GroupFits ga t s.plain.time z y v) same (h 0 y v refl refl) in
      let count = counted-is ga t s.plain s.groups k.grouped (shape-is_told ga t (at x s.plain) k.reached).sides n in
      let a = (fit.each dir.Read).suspended in
      let b = (fit.each dir.Write).suspended in
      let cfg = fit.cfg in
      let rest = groups-gain (n + 1) ys vs (omega (arith, many))
      (λ m z w p q. subst (λ j. GroupFits ga t s.plain.time j z w) (omega arith) (h (suc m) z w p q)) in
      λ i.
      moment_where (nat_le 1 (count i) && (a i || (b i || false))) (next_tick (cfg i).tick_ms s.plain.time) ++ rest i

  pub moments-is : moments s ≡ moment.moments ga Pa s.plain
  moments-is =
      let timers = map (λ z. z.deadline) s.plain.timers in
      let model_expiries = flat_map (λ e. flat_map (moment.expiry ga Pa s.plain e) both_ways) (all_sides s.plain) in
      let gains = flat_map (λ e. moment.limit_gain Pa s.plain e (side_at s.plain e).limit) (all_sides s.plain) in
      let own = flat_map (λ e. limit_gain s e (side_at s.plain e).limit) (all_sides s.plain) in
      let groups = group_gains s 0 s.groups.groups in
      ap (λ z. ((timers ++ z) ++ own) ++ groups)
      (flat-sides (λ e. flat_map (expiry s e) both_ways)
      (λ e. flat_map (moment.expiry ga Pa s.plain e) both_ways) 0 s.plain.opened both-fit)
      ∙ ap (λ z. ((timers ++ model_expiries) ++ z) ++ groups) gains-are
      ∙ ap (λ z. ((timers ++ model_expiries) ++ gains) ++ z)
      (groups-gain 0 ga.groups s.groups.groups k.grouped.many
      (λ m y v p q. subst (λ j. GroupFits ga t s.plain.time j y v) (omega arith) (k.grouped.each m y v p q)))

  pub poll_timeout-is : poll_timeout s ≡ moment.poll_timeout ga Pa s.plain
  poll_timeout-is = ap (λ z. if is_pressing s.plain then Some 0 else option_map (λ moment. moment - s.plain.time) (earliest z)) moments-is

-- Groups

pub groups_tell_levels : GroupsTellLevels
groups_tell_levels t x s k n y is =
    let many = k.grouped.many in
    let within = slice_get_within s.settings.groups n y is in
    let v = get_some s.groups.groups n (omega (arith, within, many)) in
    let fit = k.grouped.each n y v.0 is v.1 in (
      v.0,
      v.1,
      counted-is s.settings t s.plain s.groups k.grouped (shape-is_told s.settings t (at x s.plain) k.reached).sides n,
      λ d. record {
        holds = group_held-is y d (beats_among s.settings n d [] t) s.plain.time (lane_of v.0 d) (fit.each d);
        suspended = (fit.each d).suspended;
      },
    )

pub groups_tell_shares : GroupsTellShares
groups_tell_shares t x s k e d = shared-is t s e k.grouped (shape-is_told s.settings t (at x s.plain) k.reached).sides d
