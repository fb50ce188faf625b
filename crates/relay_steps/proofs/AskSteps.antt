-- Hooks: a reason is fired, the hook asks of any side, and what the relay stands for goes on.
use Rattle.std.proofs.Common.{◌≡◌, inl, inr, ℕ, ◌+◌, ◌-◌, ◌<◌, Bool, true, false, not, if◌then◌else◌, nat_le, List, [], ◌∷◌, ◌++◌, Option}
use Rattle.std.proofs.Common.{length, Some, None, refl, sym, ◌∙◌, ap, subst, arith, append_assoc}
use Rattle.std.specs.Prelude.{is_some, slice_set}
use Rattle.std.proofs.lemmas.List.{get_or_past}
use Rattle.std.proofs.lemmas.Option.{same_Some}
use Rattle.std.proofs.lemmas.Bool.Decides.{leb_tells}
use Rattle.token_bucket.specs.declared.limit.Dir.TheVariants as dir
use Rattle.ev_types.specs.declared.side.SideId.{SideId}
use Rattle.ev_types.specs.declared.act.Act.{Act}
use Rattle.ev_types.specs.declared.act.Act.TheVariants as act
use Rattle.ev_types.specs.declared.answer.AskAnswer.{AskAnswer}
use Rattle.ev_types.specs.declared.answer.AskAnswer.TheVariants as ask
use Rattle.ev_types.specs.declared.entry.Entry.TheVariants as entry
use Rattle.ev_types.specs.declared.why.Cause.TheVariants as cause
use Rattle.ev_types.specs.declared.why.Why.{Why}
use Rattle.ev_types.specs.declared.why.Why.TheVariants as why
use Rattle.ev_types.specs.Sides.{number}
use Rattle.ev_types.specs.Trace.{Event, Trace}
use Rattle.relay_model.specs.Settings.{Settings}
use Rattle.relay_model.specs.Due.{Reason, without_reasons}
use Rattle.relay_model.specs.Plain as plain
use Rattle.relay_model.specs.Plain.{Plain, PlainSide, no_side, side_at, is_live, change_side, without_timer, placed, Timer}
use Rattle.relay_model.specs.Past.{Past, past}
use Rattle.relay_model.specs.Rooms as rooms
use Rattle.relay_model.specs.Reasons as reasons
use Rattle.relay_model.specs.Reasons.{raise}
use Rattle.relay_model.specs.Asks.{names_no_live, refusal, done, Answered, may_lack, most_asks, enabled, marked}
use Rattle.relay_model.specs.Close.{freed_entry}
use Rattle.relay_model.specs.Stages.{Fire, Stage, at, begun, after_ask}
use Rattle.relay_model.specs.Turn.{Reaches, Puts, after_fire}
use Rattle.relay_model.proofs.AccountedLemmas.{entries_keep_accounts}
use Rattle.relay_model.proofs.KeepsLemmas.{raised_read, raised_write}
use Rattle.relay_model.proofs.RatesTold.{ask-live, not-false}
use Rattle.relay_state.specs.State.{State, lane_at, with_plain, gauge_at}
use Rattle.relay_state.specs.Serving.{raise_read, raise_write}
use Rattle.relay_state.specs.Closing.{freed}
use Rattle.token_bucket.specs.declared.limit.LimitCfg.{LimitCfg}
use Rattle.relay_state.specs.Running.{gauge_set}
use Rattle.rate_group.specs.GroupValue.{GroupsValue}
use Rattle.rate_group.specs.Steps.{joined, left}
use Rattle.relay_steps.specs.Grouped.{Grouped}
use Rattle.relay_steps.proofs.MembershipSteps.{moved_to}
use Rattle.relay_steps.proofs.RateLemmas.{turns-same}
use Rattle.relay_steps.proofs.RateSteps.{change-is, set-fits, set-gauged, set-grouped}
use Rattle.relay_steps.proofs.JoinSteps.{joined-fits, joined-gauged, joined-grouped}
use Rattle.relay_state.specs.Asking.{left_to_fire, asked, ask_events}
use Rattle.relay_steps.specs.Meaning.{StandsFor}
use Rattle.relay_steps.proofs.FitLemmas.{fits-same}
use Rattle.relay_steps.proofs.RoomLemmas.{input_length-is, output_length-is}
use Rattle.relay_steps.proofs.StillSteps.{IsStill, put-stands, quiet-stands, stands-shape, still-same, still-changed, still-due}
use Rattle.relay_steps.proofs.StillSteps.{still-event}
use Rattle.relay_steps.proofs.FreeSteps.{freed-fits, freed-many, freed-gauged, freed-grouped}

-- What is left to fire is looked at by nothing else.
pub batch-stands : (t : Trace) (x : Stage) (s : State) (rs : List Reason) → StandsFor t x s → StandsFor t x (left_to_fire rs s)
batch-stands t x s rs k = record {
  reached = k.reached;
  accounts = k.accounts;
  many = k.many;
  each = λ e lt. fits-same s.settings t t s.plain s.plain e (lane_at s e) (lane_at (left_to_fire rs s) e) refl refl (k.each e lt);
  groups = k.groups;
  gauged = k.gauged;
  grouped = k.grouped;
}

-- a live side is of a link that was opened
pub live-opened : (t : Trace) (x : Stage) (s : State) (e : SideId) → StandsFor t x s → is_live s.plain e ≡ true → e.link < s.plain.opened
live-opened t x s e k live = elim (leb_tells s.plain.opened e.link) [
  | inl past ↦
      let le = past.1 in
      let many = (stands-shape t x s k).sides in
      let none : side_at s.plain e ≡ no_side = get_or_past s.plain.sides (number e) no_side (omega (arith, many, le)) in
      absurd (let bad : false ≡ true = sym (ap (λ (z : PlainSide). z.live) none) ∙ live in cc)
  | inr within ↦ let lt = within.1 in omega (arith, lt)
]

-- The next reason is fired, at a live side.
pub fired-stands : (t : Trace) (s : State) (e : SideId) (y : Why) (rs : List Reason) → StandsFor t (Stage.Dispatching ((e, y) ∷ rs)) s →
    is_live s.plain e ≡ true → StandsFor (t ++ (entry.Fired e y, []) ∷ []) (Stage.Firing (begun e) rs) (left_to_fire rs s)
fired-stands t s e y rs k live =
    let x : Event = (entry.Fired e y, []) in
    batch-stands (t ++ x ∷ []) (Stage.Firing (begun e) rs) s rs
    (put-stands t (Stage.Dispatching ((e, y) ∷ rs)) (Stage.Firing (begun e) rs) s s.plain (entry.Fired e y) [] k
    (refl, live, refl, refl) tt (still-event t x s.plain s.plain (still-same t t s.plain (λ a. refl) (λ a. refl) (turns-same t))
    (λ a. refl) (λ a. refl) (λ a. (refl, refl))))

-- A fire ends.
pub fire_ends-stands : (t : Trace) (s : State) (x : Fire) (rs : List Reason) → StandsFor t (Stage.Firing x rs) s →
    StandsFor t (after_fire x rs) s
fire_ends-stands t s x rs k = quiet-stands t (Stage.Firing x rs) (after_fire x rs) s k refl

-- a group that doesn't exist is refused
no_group-refused : (dead none : Bool) → none ≡ true →
    (if dead then Some ask.NotLive
    else (if false then Some ask.BadValue
    else (if none then Some ask.NoGroup
    else (if false then Some ask.TooManyRefs
    else None)))) ≡ None → ⊥
no_group-refused true none h bad = absurd (cc)
no_group-refused false true h bad = absurd (cc)
no_group-refused false false h bad = absurd (cc)

-- where one more ask was made
abbrev pub more : Fire → Fire
more x = record x { asks = x.asks + 1 }

-- a side's side is not freed by most asks, so that where the ask leaves the hook is told by the ask alone
module _ (t : Trace) (s : State) (x : Fire) (rs : List Reason) (k : StandsFor t (Stage.Firing x rs) s) (few : x.asks < most_asks) where
  abbrev g : Settings
  g = s.settings

  abbrev p : Plain
  p = s.plain

  abbrev P : Past
  P = past s.settings t

  abbrev event : Act → AskAnswer → Event
  event a r = (entry.Asked x.side a r, [])

  -- An ask that is refused changes nothing.
  pub refused-stands : (a : Act) (r : AskAnswer) → refusal g p a ≡ Some r →
      StandsFor (t ++ (entry.Asked x.side a r, []) ∷ []) (after_ask (more x) rs a r) s
  refused-stands a r not_ok =
      put-stands t (Stage.Firing x rs) (after_ask (more x) rs a r) s p (entry.Asked x.side a r) [] k
      (refl, few, refl, p, subst (λ z. Answered z g P p a r p) (sym not_ok) (refl, refl), refl) tt
      (still-event t (event a r) p p (still-same t t p (λ z. refl) (λ z. refl) (turns-same t)) (λ z. refl) (λ z. refl) (λ a. (refl, refl)))

  -- So does one for which there was no memory.
  pub lacking-stands : (a : Act) → refusal g p a ≡ None → may_lack a ≡ true →
      StandsFor (t ++ (entry.Asked x.side a ask.Memory, []) ∷ []) (after_ask (more x) rs a ask.Memory) s
  lacking-stands a ok may =
      put-stands t (Stage.Firing x rs) (after_ask (more x) rs a ask.Memory) s p (entry.Asked x.side a ask.Memory) [] k
      (refl, few, refl, p, subst (λ z. Answered z g P p a ask.Memory p) (sym ok) (inr (refl, may, refl)), refl) tt
      (still-event t (event a ask.Memory) p p (still-same t t p (λ z. refl) (λ z. refl) (turns-same t)) (λ z. refl) (λ z. refl)
      (λ a. (refl, refl)))

  -- what the model puts where nothing refuses the ask
  ok-puts : (a : Act) → refusal g p a ≡ None →
      Puts g t (Stage.Firing x rs) p (entry.Asked x.side a ask.Ok) [] (at (after_ask (more x) rs a ask.Ok) (done g P p a))
  ok-puts a ok = (refl, few, refl, done g P p a, subst (λ z. Answered z g P p a ask.Ok (done g P p a)) (sym ok) (inl (refl, refl)), refl)

  -- an ask that changes nothing that a lane looks at
  still-asked : (a : Act) (q : Plain) → refusal g p a ≡ None → done g P p a ≡ q → IsStill t t p q →
      StandsFor (t ++ (entry.Asked x.side a ask.Ok, []) ∷ []) (after_ask (more x) rs a ask.Ok) (with_plain q s)
  still-asked a q ok is still =
      put-stands t (Stage.Firing x rs) (after_ask (more x) rs a ask.Ok) s q (entry.Asked x.side a ask.Ok) [] k
      (subst (λ z. Puts g t (Stage.Firing x rs) p (entry.Asked x.side a ask.Ok) [] (at (after_ask (more x) rs a ask.Ok) z)) is
      (ok-puts a ok))
      tt (still-event t (event a ask.Ok) p q still (λ z. refl) (λ z. refl) (λ a. (refl, refl)))

  side-asked : (a : Act) (e : SideId) (change : PlainSide → PlainSide) → refusal g p a ≡ None → done g P p a ≡ change_side e change p →
      ((z : PlainSide) → change z ≡ record z {
        reads = (change z).reads;
        writes = (change z).writes;
        marks = (change z).marks;
        timeouts = (change z).timeouts;
        last_read = (change z).last_read;
        last_write = (change z).last_write;
        references = (change z).references;
      }) →
      StandsFor (t ++ (entry.Asked x.side a ask.Ok, []) ∷ []) (after_ask (more x) rs a ask.Ok) (with_plain (change_side e change p) s)
  side-asked a e change ok is only =
      still-asked a (change_side e change p) ok is
      (still-changed t t p e change (λ z. ap (λ (y : PlainSide). y.live) (only z)) (λ z. ap (λ (y : PlainSide). is_some y.bad) (only z))
      (λ z. ap (λ (y : PlainSide). (y.limit, y.group)) (only z)) (λ z. refl) (λ z. refl) (turns-same t))

  timers-asked : (a : Act) (ts : List Timer) → refusal g p a ≡ None → done g P p a ≡ record p { timers = ts } →
      StandsFor (t ++ (entry.Asked x.side a ask.Ok, []) ∷ []) (after_ask (more x) rs a ask.Ok) (with_plain (record p { timers = ts }) s)
  timers-asked a ts ok is =
      still-asked a (record p { timers = ts }) ok is
      (record {
        opened = refl;
        read = λ z. refl;
        ended = λ z. refl;
        live = λ z. refl;
        marked = λ z. refl;
        flow = λ z. refl;
        rates = λ z. refl;
        time = refl;
        turns = turns-same t;
      })

  with_where : (b : Bool) (q : Plain) → (if b then with_plain q s else s) ≡ with_plain (if b then q else p) s
  with_where true q = refl
  with_where false q = refl

  ask-lives : (a : Act) (e : SideId) → refusal g p a ≡ None → names_no_live p a ≡ not (is_live p e) → is_live p e ≡ true
  ask-lives a e ok named = not-false (is_live p e) (sym named ∙ ask-live g p a ok)

  -- a trigger looks at the length that the model looks at
  read-asked : (e : SideId) → refusal g p (act.Trigger e dir.Read) ≡ None →
      StandsFor (t ++ (entry.Asked x.side (act.Trigger e dir.Read) ask.Ok, []) ∷ []) (after_ask (more x) rs (act.Trigger e dir.Read) ask.Ok)
      (raise_read e s)
  read-asked e ok =
      let live = ask-lives (act.Trigger e dir.Read) e ok refl in
      let lt = live-opened t (Stage.Firing x rs) s e k live in
      let r = raised_read g P e p in
      let low = (side_at p e).marks.read_low in
      let is : with_plain (reasons.raise_read g P e p) s ≡ raise_read e s =
      sym (with_where (nat_le low (rooms.input_length g P p e)) (raise g e why.Read p))
      ∙ ap (λ m. if nat_le low m then with_plain (raise g e why.Read p) s else s)
      (sym (input_length-is t (Stage.Firing x rs) s e k lt live)) in
      subst (StandsFor (t ++ event (act.Trigger e dir.Read) ask.Ok ∷ []) (Stage.Firing (more x) rs)) is
      (still-asked (act.Trigger e dir.Read) (reasons.raise_read g P e p) ok refl
      (still-due t t p p (reasons.raise_read g P e p) (still-same t t p (λ z. refl) (λ z. refl) (turns-same t)) r.0 r.1))

  write-asked : (e : SideId) → refusal g p (act.Trigger e dir.Write) ≡ None →
      StandsFor (t ++ (entry.Asked x.side (act.Trigger e dir.Write) ask.Ok, []) ∷ [])
      (after_ask (more x) rs (act.Trigger e dir.Write) ask.Ok)
      (raise_write e s)
  write-asked e ok =
      let live = ask-lives (act.Trigger e dir.Write) e ok refl in
      let lt = live-opened t (Stage.Firing x rs) s e k live in
      let r = raised_write g P e p in
      let low = (side_at p e).marks.write_low in
      let is : with_plain (reasons.raise_write g P e p) s ≡ raise_write e s =
      sym (with_where (nat_le (rooms.output_length g P p e) low) (raise g e why.Write p))
      ∙ ap (λ m. if nat_le m low then with_plain (raise g e why.Write p) s else s)
      (sym (output_length-is t (Stage.Firing x rs) s e k lt live)) in
      subst (StandsFor (t ++ event (act.Trigger e dir.Write) ask.Ok ∷ []) (Stage.Firing (more x) rs)) is
      (still-asked (act.Trigger e dir.Write) (reasons.raise_write g P e p) ok refl
      (still-due t t p p (reasons.raise_write g P e p) (still-same t t p (λ z. refl) (λ z. refl) (turns-same t)) r.0 r.1))

  -- a limit is set
  rate-asked : (e : SideId) (cfg : Option LimitCfg) → refusal g p (act.Rate e cfg) ≡ None →
      StandsFor (t ++ (entry.Asked x.side (act.Rate e cfg) ask.Ok, []) ∷ []) (after_ask (more x) rs (act.Rate e cfg) ask.Ok)
      (asked (act.Rate e cfg) s)
  rate-asked e cfg ok =
      let a : Act = act.Rate e cfg in
      let z : Stage = Stage.Firing x rs in
      let lt = live-opened t z s e k (ask-lives a e ok refl) in
      let q : Plain = done g P p a in
      let gauges = slice_set s.gauges (number e) (gauge_set (side_at p e).limit cfg p.time (gauge_at s e)) in
      subst (λ n. StandsFor (t ++ event a ask.Ok ∷ []) (after_ask (more x) rs a ask.Ok) (record (with_plain n s) { gauges = gauges }))
      (sym (change-is t z s k e lt cfg))
      (record {
        reached = Reaches.puts (entry.Asked x.side a ask.Ok) [] k.reached (ok-puts a ok);
        accounts =
            entries_keep_accounts g t (at z p) (at (after_ask (more x) rs a ask.Ok) q) (entry.Asked x.side a ask.Ok) [] k.reached
            (ok-puts a ok) tt k.accounts;
        many = k.many;
        each = set-fits t z s k e lt cfg (event a ask.Ok) (λ b. (refl, refl)) (λ b. refl) (λ b. refl);
        groups = k.groups;
        gauged = set-gauged t z s k e lt cfg (event a ask.Ok) (λ b. (refl, refl));
        grouped = set-grouped t z s k e lt cfg (event a ask.Ok) (λ b. (refl, refl));
      })

  -- a side joins a group, or leaves it
  module _ (a : Act) (e : SideId) (o : Option ℕ) (groups : GroupsValue) (ok : refusal s.settings s.plain a ≡ None)
      (names : names_no_live s.plain a ≡ not (is_live s.plain e))
      (is : done s.settings (past s.settings t) s.plain a ≡ change_side e (λ z. record z { group = o }) s.plain)
      (within : (n : ℕ) → o ≡ Some n → n < length s.settings.groups) (moved : moved_to o e s.groups ≡ groups) where
    group-asked : StandsFor (t ++ (entry.Asked x.side a ask.Ok, []) ∷ []) (after_ask (more x) rs a ask.Ok)
        (record (with_plain (change_side e (λ z. record z { group = o }) s.plain) s) { groups = groups })
    group-asked =
        let z : Stage = Stage.Firing x rs in
        let live = ask-lives a e ok names in
        let lt = live-opened t z s e k live in
        let q : Plain = change_side e (λ z. record z { group = o }) p in
        let puts = subst (λ n. Puts g t z p (entry.Asked x.side a ask.Ok) [] (at (after_ask (more x) rs a ask.Ok) n)) is (ok-puts a ok) in
        record {
          reached = Reaches.puts (entry.Asked x.side a ask.Ok) [] k.reached puts;
          accounts =
              entries_keep_accounts g t (at z p) (at (after_ask (more x) rs a ask.Ok) q) (entry.Asked x.side a ask.Ok) [] k.reached puts tt
              k.accounts;
          many = k.many;
          each = joined-fits t z s k e lt o (event a ask.Ok) (λ b. (refl, refl)) (λ b. refl) (λ b. refl);
          groups = k.groups;
          gauged = joined-gauged t z s k e lt o (event a ask.Ok) (λ b. (refl, refl));
          grouped =
              subst (Grouped g (t ++ event a ask.Ok ∷ []) q) moved
              (joined-grouped t z s k e lt o (event a ask.Ok) (λ b. (refl, refl)) live within);
        }

  join-asked : (e : SideId) (n : ℕ) → refusal g p (act.Join e n) ≡ None →
      StandsFor (t ++ (entry.Asked x.side (act.Join e n) ask.Ok, []) ∷ []) (after_ask (more x) rs (act.Join e n) ask.Ok)
      (asked (act.Join e n) s)
  join-asked e n ok =
      group-asked (act.Join e n) e (Some n) (joined n (number e) s.groups) ok refl refl
      (λ m same. subst (λ z. z < length g.groups) (same_Some n m same) (there (nat_le (length g.groups) n) refl ok)) refl
    where
      there : (b : Bool) → nat_le (length g.groups) n ≡ b → refusal g p (act.Join e n) ≡ None → n < length g.groups
      there true is h = absurd (let bad = no_group-refused (not (is_live p e)) (nat_le (length g.groups) n) is h in bad)
      there false is h = elim (leb_tells (length g.groups) n) [
        | inl past ↦ absurd (let bad : true ≡ false = sym past.0 ∙ is in cc)
        | inr within ↦ let w = within.1 in omega (arith, w)
      ]

  leave-asked : (e : SideId) → refusal g p (act.Leave e) ≡ None →
      StandsFor (t ++ (entry.Asked x.side (act.Leave e) ask.Ok, []) ∷ []) (after_ask (more x) rs (act.Leave e) ask.Ok)
      (asked (act.Leave e) s)
  leave-asked e ok = group-asked (act.Leave e) e None (left (number e) s.groups) ok refl refl (λ m bad. absurd (cc)) refl

  -- Any side is freed, the running one, its peer, or one that is due later: the ask is recorded, and the free behind it.
  module _ (e : SideId) (ok : refusal s.settings s.plain (act.Free e) ≡ None) where
    abbrev q : Plain
    q = plain.freed e s.plain

    abbrev u : Trace
    u = t ++ (entry.Asked x.side (act.Free e) ask.Ok, []) ∷ []

    abbrev freeing : Stage
    freeing = Stage.Freeing e (more x) (without_reasons e rs)

    lt : e.link < s.plain.opened
    lt = live-opened t (Stage.Firing x rs) s e k (ask-lives (act.Free e) e ok refl)

    asked_for : StandsFor u freeing (freed e s)
    asked_for = record {
      reached = Reaches.puts (entry.Asked x.side (act.Free e) ask.Ok) [] k.reached (ok-puts (act.Free e) ok);
      accounts =
          entries_keep_accounts g t (at (Stage.Firing x rs) p) (at freeing q) (entry.Asked x.side (act.Free e) ask.Ok) [] k.reached
          (ok-puts (act.Free e) ok) tt k.accounts;
      many = freed-many t (Stage.Firing x rs) s e k lt;
      each = freed-fits t (Stage.Firing x rs) s e k lt (event (act.Free e) ask.Ok) (λ z. refl) (λ z. refl);
      groups = k.groups;
      gauged = freed-gauged t (Stage.Firing x rs) s e k lt (event (act.Free e) ask.Ok) (λ a. (refl, refl));
      grouped = freed-grouped t (Stage.Firing x rs) s e k lt (event (act.Free e) ask.Ok) (λ a. (refl, refl));
    }

    pub free-stands :
        StandsFor (t ++ (entry.Asked x.side (act.Free e) ask.Ok, []) ∷ (freed_entry s.plain e cause.Hook, []) ∷ [])
        (Stage.Firing (more x) (without_reasons e rs)) (freed e s)
    free-stands =
        subst (λ z. StandsFor z (Stage.Firing (more x) (without_reasons e rs)) (freed e s))
        (append_assoc t (event (act.Free e) ask.Ok ∷ []) ((freed_entry s.plain e cause.Hook, []) ∷ []))
        (put-stands u freeing (Stage.Firing (more x) (without_reasons e rs)) (freed e s) q (freed_entry s.plain e cause.Hook) [] asked_for
        (refl, refl, refl) tt
        (still-event u (freed_entry s.plain e cause.Hook, []) q q (still-same u u q (λ z. refl) (λ z. refl) (turns-same u)) (λ z. refl)
        (λ z. refl) (λ a. (refl, refl))))

-- the stage behind an ask and its entries, with what is left to fire then
abbrev pub stage_after : Fire → List Reason → Act → AskAnswer → Stage
stage_after x rs (act.Free e) ask.Ok = Stage.Firing (more x) (without_reasons e rs)
stage_after x rs a r = after_ask (more x) rs a r

-- One ask that nothing refuses, of any side: the relay goes on standing for the trace with its entries.
pub asked-stands : (t : Trace) (s : State) (x : Fire) (rs : List Reason) (a : Act) → StandsFor t (Stage.Firing x rs) s →
    x.asks < most_asks → refusal s.settings s.plain a ≡ None →
    StandsFor (t ++ ask_events x.side s a ask.Ok) (stage_after x rs a ask.Ok) (asked a s)
asked-stands t s x rs (act.Free e) k few ok = free-stands t s x rs k few e ok
asked-stands t s x rs (act.Enable e dir.Read) k few ok =
    side-asked t s x rs k few (act.Enable e dir.Read) e (enabled dir.Read true) ok refl (λ z. refl)
asked-stands t s x rs (act.Enable e dir.Write) k few ok =
    side-asked t s x rs k few (act.Enable e dir.Write) e (enabled dir.Write true) ok refl (λ z. refl)
asked-stands t s x rs (act.Disable e dir.Read) k few ok =
    side-asked t s x rs k few (act.Disable e dir.Read) e (enabled dir.Read false) ok refl (λ z. refl)
asked-stands t s x rs (act.Disable e dir.Write) k few ok =
    side-asked t s x rs k few (act.Disable e dir.Write) e (enabled dir.Write false) ok refl (λ z. refl)
asked-stands t s x rs (act.Marks e d low high) k few ok =
    side-asked t s x rs k few (act.Marks e d low high) e (λ z. record z { marks = marked d low high z.marks }) ok refl (λ z. refl)
asked-stands t s x rs (act.Timeouts e read write) k few ok =
    side-asked t s x rs k few (act.Timeouts e read write) e
    (λ z. record z { timeouts = record { read_ms = read; write_ms = write }; last_read = s.plain.time; last_write = s.plain.time }) ok refl
    (λ z. refl)
asked-stands t s x rs (act.Rate e cfg) k few ok = rate-asked t s x rs k few e cfg ok
asked-stands t s x rs (act.Join e n) k few ok = join-asked t s x rs k few e n ok
asked-stands t s x rs (act.Leave e) k few ok = leave-asked t s x rs k few e ok
asked-stands t s x rs (act.Trigger e dir.Read) k few ok = read-asked t s x rs k few e ok
asked-stands t s x rs (act.Trigger e dir.Write) k few ok = write-asked t s x rs k few e ok
asked-stands t s x rs (act.Timer e delay) k few ok =
    timers-asked t s x rs k few (act.Timer e delay)
    (placed (record { side = e; deadline = s.plain.time + delay }) (without_timer e s.plain.timers)) ok refl
asked-stands t s x rs (act.Cancel e) k few ok =
    timers-asked t s x rs k few (act.Cancel e) (without_timer e s.plain.timers) ok refl
asked-stands t s x rs (act.Incref e) k few ok =
    side-asked t s x rs k few (act.Incref e) e (λ z. record z { references = z.references + 1 }) ok refl (λ z. refl)
asked-stands t s x rs (act.Decref e) k few ok =
    side-asked t s x rs k few (act.Decref e) e (λ z. record z { references = z.references - 1 }) ok refl (λ z. refl)
asked-stands t s x rs act.Stop k few ok =
    still-asked t s x rs k few act.Stop s.plain ok refl (still-same t t s.plain (λ z. refl) (λ z. refl) (turns-same t))
