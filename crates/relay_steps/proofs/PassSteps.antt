-- A direction is passed, or some rounds of it are made, or a read filter runs over what was got: the relay goes on standing for its trace.
use Rattle.std.proofs.Common.{◌≡◌, ◌≢◌, ℕ, ◌+◌, ◌*◌, ◌<◌, Bool, true, false, if◌then◌else◌, List, [], ◌∷◌, length, inl, refl, sym, ◌∙◌, ap}
use Rattle.std.proofs.Common.{subst, arith}
use Rattle.std.specs.Prelude.{is_some, nat_le}
use Rattle.std.proofs.lemmas.List.{length-set}
use Rattle.ev_types.specs.declared.side.SideId.{SideId}
use Rattle.ev_types.specs.declared.why.Why.TheVariants as why
use Rattle.ev_types.specs.Sides.{number, peer}
use Rattle.ev_types.specs.Trace.{Trace}
use Rattle.relay_model.specs.Trace.{bytes_read, has_ended}
use Rattle.relay_model.specs.Settings.{Settings}
use Rattle.relay_model.specs.Plain.{Plain, side_at, is_live}
use Rattle.relay_model.specs.Past.{Past, past}
use Rattle.relay_model.specs.Due.{Due}
use Rattle.relay_model.specs.Rooms as model_rooms
use Rattle.relay_model.specs.Rooms.{Want, read_mark, raw_input_at, input_at, read_filter}
use Rattle.relay_model.specs.Reasons as reasons
use Rattle.relay_model.specs.Reasons.{raise}
use Rattle.relay_model.specs.Round as model_round
use Rattle.relay_model.specs.Serve as model
use Rattle.relay_model.specs.Stages.{Stage, at}
use Rattle.relay_model.specs.Turn.{Reaches}
use Rattle.relay_model.specs.StepLaws.{AccountsFit}
use Rattle.relay_model.proofs.Frames.{rates_of}
use Rattle.relay_model.proofs.KeepsLemmas.{raised_read, Keeps-side}
use Rattle.relay_model.proofs.AccountedLemmas.{silent_steps_keep_accounts}
use Rattle.relay_state.specs.State.{State, Lane, lane_at, with_plain}
use Rattle.relay_state.specs.Passage.{Passage, read_part, rounds}
use Rattle.relay_state.specs.Passing.{passage_at, plain_passed, with_passage, PassedFrom, PartlyPassed, read_run}
use Rattle.relay_state.specs.Serving.{raise_read}
use Rattle.relay_steps.specs.Meaning.{LaneFits, StandsFor}
use Rattle.relay_steps.proofs.EndLemmas.{number-below, by_side, peer-apart}
use Rattle.relay_steps.proofs.FitLemmas.{sight, FitsSight, seen-fits, fits-seen, fits-same, lane-set, lane-set_other}
use Rattle.relay_steps.proofs.RateLemmas.{SameGauged, turns-same, live_of, passed-live, passed-rates, gauged-same}
use Rattle.relay_steps.proofs.GroupedSteps.{grouped-same}
use Rattle.relay_steps.proofs.PassedLemmas.{round_of, passed-other_flow, live-same, marks-rise, round-same}
use Rattle.relay_steps.proofs.PassageLemmas.{PassageFits, read_run-is}
use Rattle.relay_steps.proofs.PassRounds.{Rises, read-rises, rounds-rise, sides-told, flows-told, ended-told, near-inside, far-inside, Here}
use Rattle.relay_steps.proofs.PassRounds.{rounds-go, round-stays}

-- a lane goes on fitting where all that it looks at is as before, but that a side may be marked now
pub fits-risen : (g : Settings) (t u : Trace) (p q : Plain) (e : SideId) (l m : Lane) →
    sight u q e ≡ record (sight t p e) { from_marked = is_some (side_at q e).bad; to_marked = is_some (side_at q (peer e)).bad } →
    (is_some (side_at p e).bad ≡ true → is_some (side_at q e).bad ≡ true) →
    (is_some (side_at p (peer e)).bad ≡ true → is_some (side_at q (peer e)).bad ≡ true) →
    m ≡ l → LaneFits g t p e l → LaneFits g u q e m
fits-risen g t u p q e l m same from to z k =
    fits-seen g u q p e m (subst (λ y. FitsSight g p e (sight u q e) y) (sym z) (subst (λ y. FitsSight g p e y l) (sym same) risen))
  where
    old : FitsSight g p e (sight t p e) l
    old = seen-fits g t p e l k

    risen : FitsSight g p e (record (sight t p e) {
      from_marked = is_some (side_at q e).bad;
      to_marked = is_some (side_at q (peer e)).bad;
    }) l
    risen = record {
      holds = old.holds;
      read = old.read;
      read_made = old.read_made;
      write_made = old.write_made;
      reader_marks = λ h. from (old.reader_marks h);
      writer_marks = λ h. to (old.writer_marks h);
    }

-- The direction from a side is another, and marks stay or rise: every lane fits

module _ (t : Trace) (x : Stage) (s : State) (h : StandsFor t x s) (e : SideId) (lt : e.link < s.plain.opened) where
  near_in : number e < length s.plain.sides
  near_in = near-inside s.settings t x s.plain h.reached e lt

  far_in : number (peer e) < length s.plain.sides
  far_in = far-inside s.settings t x s.plain h.reached e lt

  lane_in : number e < length s.lanes
  lane_in = let a = number-below e s.plain.opened lt in let b = h.many in omega (arith, a, b)

  pub passage-fits : PassageFits s.settings t s.plain e (passage_at s e)
  passage-fits = record { flow = refl; from_bad = refl; to_bad = refl; lane = h.each e lt }

  module _ (y : Passage) (rises : Rises (passage_at s e) y) where
    abbrev q : Plain
    q = plain_passed e y s.plain

    other-fits : (a : SideId) → a.link < s.plain.opened → a ≢ e →
        LaneFits s.settings t (plain_passed e y s.plain) a (lane_at (with_passage e y s) a)
    other-fits a inside apart =
        fits-risen s.settings t t s.plain (plain_passed e y s.plain) a (lane_at s a) (lane_at (with_passage e y s) a)
        (let f = passed-other_flow e y s.plain a apart in
        let b = live-same s.settings e y s.plain near_in far_in a in
        let c = live-same s.settings e y s.plain near_in far_in (peer a) in
        λ i. record {
          read = bytes_read a t;
          ended = has_ended a t;
          from_live = b i;
          to_live = c i;
          flow = f i;
          from_marked = is_some (side_at q a).bad;
          to_marked = is_some (side_at q (peer a)).bad;
        })
        (marks-rise s.settings e y s.plain near_in far_in rises.from_bad rises.to_bad a)
        (marks-rise s.settings e y s.plain near_in far_in rises.from_bad rises.to_bad (peer a))
        (lane-set_other (record s { plain = q }) e a y.lane apart) (h.each a inside)

    pub all-fit : PassageFits s.settings t (plain_passed e y s.plain) e y → (a : SideId) → a.link < s.plain.opened →
        LaneFits s.settings t (plain_passed e y s.plain) a (lane_at (with_passage e y s) a)
    all-fit k a =
        by_side e a (λ z. z.link < s.plain.opened → LaneFits s.settings t (plain_passed e y s.plain) z (lane_at (with_passage e y s) z))
        (λ inside. subst (LaneFits s.settings t (plain_passed e y s.plain) e)
        (sym (lane-set (record s { plain = q }) e y.lane lane_in)) k.lane)
        (λ inside. other-fits (peer e) inside (peer-apart e))
        (λ apart far inside. other-fits a inside apart)

    same : SameGauged s.plain (plain_passed e y s.plain)
    same = record {
      opened = refl;
      time = refl;
      rates = λ a. Keeps-side rates_of s.plain _ a (passed-rates e y s.plain);
      live = λ a. Keeps-side live_of s.plain _ a (passed-live e y s.plain);
    }

    pub stands-with : (stage : Stage) → Reaches s.settings t (at stage (plain_passed e y s.plain)) →
        AccountsFit s.settings t (plain_passed e y s.plain) →
        PassageFits s.settings t (plain_passed e y s.plain) e y → StandsFor t stage (with_passage e y s)
    stands-with stage reached accounts k = record {
      reached = reached;
      accounts = accounts;
      many = length-set s.lanes (number e) y.lane ∙ h.many;
      each = all-fit k;
      groups = h.groups;
      gauged =
          gauged-same t t s.plain (plain_passed e y s.plain) s.gauges
          same (turns-same t) h.gauged;
      grouped = grouped-same s.settings t t s.plain (plain_passed e y s.plain) s.groups same (turns-same t) h.grouped;
    }

-- Passing

module _ (t : Trace) (e : SideId) (es : List SideId) (s : State) (lt : e.link < s.plain.opened)
    (h : StandsFor t (Stage.Passing [] (e ∷ es)) s) where
  begins : Here s.settings t e es [] s.plain (passage_at s e)
  begins = record { reached = h.reached; accounts = h.accounts; fits = passage-fits t (Stage.Passing [] (e ∷ es)) s h e lt }

  -- behind so many rounds
  abbrev Behind : Passage → Type 0
  Behind x = Rises (passage_at s e) x × Here s.settings t e es [] (plain_passed e x s.plain) x

  behind : (n : ℕ) (x : Passage) → x ≡ rounds n (round_of s.settings s.plain e) (passage_at s e) → Behind x
  behind n x some =
      subst Behind (sym some) (
        rounds-rise s.settings s.plain e n (passage_at s e),
        rounds-go s.settings t e es n s.plain
            (passage_at s e) lt begins,
      )

  partly-with : (x : Passage) → Behind x → StandsFor t (Stage.Passing [] (e ∷ es)) (with_passage e x s)
  partly-with x b =
      let k : Here s.settings t e es [] (plain_passed e x s.plain) x = b.1 in
      stands-with t (Stage.Passing [] (e ∷ es)) s h e lt x b.0 (Stage.Passing [] (e ∷ es)) k.reached k.accounts k.fits

  -- where one more round changes nothing, the next direction comes
  passed-with : (x : Passage) → Behind x → round_of s.settings s.plain e x ≡ x → StandsFor t (Stage.Passing [] es) (with_passage e x s)
  passed-with x b still =
      let stage : Stage = Stage.Passing [] (e ∷ es) in
      let k : Here s.settings t e es [] (plain_passed e x s.plain) x = b.1 in
      let near_in = near-inside s.settings t stage s.plain h.reached e lt in
      let far_in = far-inside s.settings t stage s.plain h.reached e lt in
      let same : round_of s.settings (plain_passed e x s.plain) e x ≡ x = (λ i. round-same s.settings e x s.plain near_in far_in i x)
      ∙ still in
      let stays = round-stays s.settings t e es (plain_passed e x s.plain) x lt k same in
      stands-with t stage s h e lt x b.0 (Stage.Passing [] es) (Reaches.goes k.reached (inl (stays, refl))) k.accounts k.fits

-- rounds were made until one changes nothing
pub passed-stands : (t : Trace) (e : SideId) (es : List SideId) (s new : State) → e.link < s.plain.opened →
    StandsFor t (Stage.Passing [] (e ∷ es)) s →
    PassedFrom s e new → StandsFor t (Stage.Passing [] es) new
passed-stands t e es s new lt h (x, passed, is) =
    subst (StandsFor t (Stage.Passing [] es)) (sym is)
    (passed-with t e es s lt h x (behind t e es s lt h passed.0 x passed.1) passed.2)

-- some rounds were made
pub partly_passed-stands : (t : Trace) (e : SideId) (es : List SideId) (s new : State) → e.link < s.plain.opened →
    StandsFor t (Stage.Passing [] (e ∷ es)) s →
    PartlyPassed s e new → StandsFor t (Stage.Passing [] (e ∷ es)) new
partly_passed-stands t e es s new lt h (x, some, is) =
    subst (StandsFor t (Stage.Passing [] (e ∷ es))) (sym is)
    (partly-with t e es s lt h x (behind t e es s lt h some.0 x some.1))

-- The read filter's run over what was got

-- how long the input of a live side is
pub input-told : (g : Settings) (t : Trace) (p : Plain) (e : SideId) (l : Lane) → is_live p e ≡ true → LaneFits g t p e l →
    length l.buffers.raw_input + length l.buffers.input ≡ model_rooms.input_length g (past g t) p e
input-told g t p e l live k =
    (let b = k.holds.buffers in λ i. length (b i).raw_input + length (b i).input)
    ∙ (λ i. length (if live i then raw_input_at (past g t) p e else []) + length (if live i then input_at g (past g t) p e else []))

module _ (t : Trace) (e : SideId) (ms : List Want) (s : State) (lt : e.link < s.plain.opened) (from_live : (side_at s.plain e).live ≡ true)
    (to_live : (side_at s.plain (peer e)).live ≡ true) (h : StandsFor t (Stage.Filtering e ms) s) where
  abbrev g : Settings
  g = s.settings

  abbrev P : Past
  P = past s.settings t

  abbrev stage : Stage
  stage = Stage.Filtering e ms

  abbrev y : Passage
  y = read_part (read_mark s.plain e) false (passage_at s e)

  abbrev ran : State
  ran = read_run e s

  abbrev new : Plain
  new = model.after_got s.settings (past s.settings t) e s.plain

  run-is : (model_round.read_run g P e false s.plain ≡ plain_passed e y s.plain)
      × PassageFits g t (model_round.read_run g P e false s.plain) e y
  run-is =
      read_run-is g t s.plain e lt (sides-told g t stage s.plain h.reached e lt) (flows-told g t stage s.plain h.reached e lt)
      (h.accounts e)
      (ended-told g t stage s.plain h.reached e lt) to_live (passage_at s e) (passage-fits t stage s h e lt) from_live

  all-ran : (a : SideId) → a.link < s.plain.opened → LaneFits g t ran.plain a (lane_at ran a)
  all-ran = all-fit t stage s h e lt y (read-rises (read_mark s.plain e) false (passage_at s e))
      (subst (λ z. PassageFits g t z e y) run-is.0 run-is.1)

  ran_live : is_live ran.plain e ≡ true
  ran_live = live-same g e y s.plain (near-inside g t stage s.plain h.reached e lt) (far-inside g t stage s.plain h.reached e lt) e
      ∙ from_live

  -- the relay looks at the low mark as the model does
  raised-is : raise_read e (read_run e s) ≡ with_plain new (read_run e s)
  raised-is =
      (λ i. if nat_le low (input-told g t ran.plain e (lane_at ran e) ran_live (all-ran e lt) i) then with_plain
      (raise g e why.Read ran.plain) ran else ran)
      ∙ either (nat_le low (model_rooms.input_length g P ran.plain e)) (raise g e why.Read ran.plain)
      ∙ (λ i. with_plain (reasons.raise_read g P e (sym run-is.0 i)) ran)
    where
      low : ℕ
      low = (side_at ran.plain e).marks.read_low

      either : (b : Bool) (p : Plain) → (if b then with_plain p ran else ran) ≡ with_plain (if b then p else ran.plain) ran
      either true p = refl
      either false p = refl

  filtered : StandsFor t (Stage.Serving ms) (with_plain new (read_run e s))
  filtered = record {
    reached = Reaches.goes h.reached refl;
    accounts = silent_steps_keep_accounts g t (at stage s.plain) (at (Stage.Serving ms) new) h.reached refl h.accounts;
    many = length-set s.lanes (number e) y.lane ∙ h.many ∙ ap (λ n. 2 * n) (sym opened);
    each = λ a inside. subst (λ z. LaneFits g t z a (lane_at ran a)) (sym new_is)
        (fits-same g t t ran.plain (record (ran.plain) { due = dues.0 }) a (lane_at ran a) (lane_at ran a) refl refl
        (all-ran a (subst (λ n. a.link < n) opened inside)));
    groups = h.groups;
    gauged =
        gauged-same t t s.plain new s.gauges same (turns-same t) h.gauged;
    grouped = grouped-same s.settings t t s.plain new s.groups same (turns-same t) h.grouped;
  }
    where
      dues : (ds : List Due) × (reasons.raise_read g P e ran.plain ≡ record (ran.plain) { due = ds })
      dues = raised_read g P e ran.plain

      new_is : new ≡ record (ran.plain) { due = dues.0 }
      new_is = (λ i. reasons.raise_read g P e (run-is.0 i)) ∙ dues.1

      opened : new.opened ≡ s.plain.opened
      opened = ap (λ z. z.opened) new_is

      same : SameGauged s.plain new
      same = record {
        opened = opened;
        time = ap (λ z. z.time) new_is;
        rates = λ a. ap (λ z. rates_of (side_at z a)) new_is ∙ Keeps-side rates_of s.plain _ a (passed-rates e y s.plain);
        live = λ a. ap (λ z. live_of (side_at z a)) new_is ∙ Keeps-side live_of s.plain _ a (passed-live e y s.plain);
      }

  filtering-there : StandsFor t (Stage.Serving ms) (raise_read e (read_run e s))
  filtering-there = subst (StandsFor t (Stage.Serving ms)) (sym raised-is) filtered

-- the read filter of a side ran over what was got, and the low mark was looked at
pub filtering-stands : (t : Trace) (e : SideId) (ms : List Want) (s : State) → e.link < s.plain.opened → (side_at s.plain e).live ≡ true →
    (side_at s.plain (peer e)).live ≡ true → StandsFor t (Stage.Filtering e ms) s →
    StandsFor t (Stage.Serving ms) (raise_read e (read_run e s))
filtering-stands t e ms s lt from_live to_live h = filtering-there t e ms s lt from_live to_live h
