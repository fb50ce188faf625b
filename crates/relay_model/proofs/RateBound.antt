-- Sides keep to their limits in every legal trace.
use Rattle.std.proofs.Common.{◌≡◌, ◌≢◌, inl, inr, ℕ, ◌+◌, ◌-◌, ◌*◌, ◌/◌, ◌<◌, ◌≤◌, Bool, true, false, cond, List, [], ◌∷◌, ◌++◌, Option}
use Rattle.std.proofs.Common.{Some, None, count_by, refl, sym, ◌∙◌, ap, subst, arith}
use Rattle.std.proofs.Math.Nat.{div-mul-le_self, mul-le-mul_left}
use Rattle.std.proofs.lemmas.Nat.{le-div}
use Rattle.std.proofs.lemmas.Bool.Decides.{eqb_tells}
use Rattle.std.proofs.lemmas.List.{append-nil, append_assoc}
use Rattle.std.proofs.lemmas.List.Sums.{fold-append, sum_by-append, sum_by-cons}
use Rattle.token_bucket.specs.declared.limit.Dir.{Dir}
use Rattle.token_bucket.specs.declared.limit.Dir.TheVariants as dir
use Rattle.token_bucket.specs.declared.limit.LimitCfg.{LimitCfg}
use Rattle.ev_types.specs.declared.side.SideId.{SideId}
use Rattle.ev_types.specs.declared.entry.Entry.{Entry}
use Rattle.ev_types.specs.declared.entry.Entry.TheVariants as entry
use Rattle.ev_types.specs.Trace.{Event, Trace}
use Rattle.relay_model.specs.Settings.{Settings}
use Rattle.relay_model.specs.Plain.{Plain, Standing, side_at}
use Rattle.relay_model.specs.Rates.{moved_by, standing_level, side_spells}
use Rattle.token_bucket.specs.Levels.{limit_of}
use Rattle.relay_model.specs.Stages.{State, start}
use Rattle.relay_model.specs.Turn.{Puts, Quietly, Reaches, begins}
use Rattle.relay_model.specs.RatesKept.{is_turn, time_by, last_time, is_rate_ask, limit_after, moved_over, most_moved}
use Rattle.relay_model.proofs.ListEnds.{split-end, split-at_one, append-empty}
use Rattle.relay_model.proofs.SpellLemmas.{standing-most}
use Rattle.relay_model.proofs.QuietSteps.{kept-quietly}
use Rattle.relay_model.proofs.Shapes.{one_where, one_where-not}
use Rattle.relay_model.proofs.ReachLemmas.{reaches-holds, last_time-push, count-push}
use Rattle.relay_model.proofs.RatesTold.{cfg_of, IsBegun, sets_limit}
use Rattle.relay_model.proofs.RatesLaw.{Rated, rated-goes, rated-puts, rated, rates-puts}
use Rattle.relay_model.proofs.RateSteps.{puts-within, puts-later, sets-none, was_asked, asked_by, is_late, late-quietly, late-puts}
use Rattle.relay_model.proofs.RateSteps.{late-moves_none}

abbrev pub turn_at : ℕ → Event
turn_at ms = (entry.Turn ms, [])

-- the limit that stands, with its values
pub record Stood (s : Plain) (e : SideId) (cfg : LimitCfg) (turns : ℕ) : Type 0 where
  pub standing : Standing
  pub stands : (side_at s e).limit ≡ Some standing
  pub cfg_is : standing.cfg ≡ cfg
  pub begun : standing.turn ≤ turns

pub cfg-some : (o : Option Standing) (cfg : LimitCfg) → cfg_of o ≡ Some cfg → (y : Standing) × (o ≡ Some y) × (y.cfg ≡ cfg)
cfg-some None cfg h = absurd (cc)
cfg-some (Some y) cfg h = (y, refl, let k : y.cfg ≡ cfg = cc in k)

-- A limit that stood as a turn began stands until a hook asks for another.
abbrev pub LimitStays : Settings → SideId → Trace → State → Type 0
LimitStays g e t s = (before rest : Trace) (ms : ℕ) (cfg : LimitCfg) → t ≡ before ++ turn_at ms ∷ rest → limit_after g e before ≡
    Some cfg → count_by (is_rate_ask e) rest ≡ 0 →
    Stood s.plain e cfg (count_by is_turn before)

-- it stood as the turn began
pub stood-first : (g : Settings) (e : SideId) (t : Trace) (s : State) (cfg : LimitCfg) → Rated g t s → limit_after g e t ≡ Some cfg
    → Stood s.plain e cfg (count_by is_turn t)
stood-first g e t s cfg rated limit =
    let y = cfg-some (side_at s.plain e).limit cfg ((rated.told e).limit ∙ limit) in
    let begun : y.0.turn ≤ s.plain.turn = subst (λ z. IsBegun s.plain.turn z) y.1 (rated.begun e) in
    record { standing = y.0; stands = y.1; cfg_is = y.2; begun = omega (arith, begun, rated.shape.turn) }

pub stood-goes : (s new : Plain) (e : SideId) (cfg : LimitCfg) (turns : ℕ) → (side_at new e).limit ≡ (side_at s e).limit → Stood s
    e cfg turns → Stood new e cfg turns
stood-goes s new e cfg turns same h = record { standing = h.standing; stands = same ∙ h.stands; cfg_is = h.cfg_is; begun = h.begun }

pub count-none : (test : Event → Bool) (t : Trace) (x : Event) → count_by test (t ++ x ∷ []) ≡ 0 → (count_by test t ≡ 0) × (test x ≡ false)
count-none test t x h = (let k = count-push test t x in omega (arith, k, h), by_flag (test x) refl)
  where
    by_flag : (b : Bool) → test x ≡ b → test x ≡ false
    by_flag false e = e
    by_flag true e = absurd (let k = count-push test t x in let one : one_where (test x) ≡ 1 = ap one_where e in let no : ⊥ =
        omega (arith, k, h, one) in no)

pub stays-puts : (g : Settings) (e : SideId) (t : Trace) (s new : State) (e' : Entry) (bytes : List ℕ) → Rated g t s → LimitStays g
    e t s → Puts g t s.stage s.plain e' bytes new →
    LimitStays g e (t ++ (e', bytes) ∷ []) new
stays-puts g e t s new e' bytes rated stays p before rest ms cfg split limit none =
    elim (split-at_one t before rest (e', bytes) (turn_at ms) split) [
      | inl at_end ↦
          let step = rates-puts g t s.stage s.plain e' bytes new e rated.shape.sides rated.fits p in
          let limit' : limit_after g e t ≡ Some cfg = ap (λ z. limit_after g e z) (sym at_end.1) ∙ limit in
          let first : Stood s.plain e cfg (count_by is_turn t) = stood-first g e t s cfg rated limit' in
          let free : sets_limit e (e', bytes) ≡ false = ap (λ z. sets_limit e z) (sym at_end.2) in
          subst (λ z. Stood new.plain e cfg (count_by is_turn z)) (sym at_end.1) (stood-goes s.plain new.plain e cfg
          (count_by is_turn t) (step.stays free) first)
      | inr earlier ↦
          let step = rates-puts g t s.stage s.plain e' bytes new e rated.shape.sides rated.fits p in
          let none' = count-none (is_rate_ask e) earlier.0 (e', bytes) (ap (λ z. count_by (is_rate_ask e) z) (sym earlier.1) ∙ none) in
          let was : Stood s.plain e cfg (count_by is_turn before) = stays before earlier.0 ms cfg earlier.2 limit none'.0 in
          let free : sets_limit e (e', bytes) ≡ false = sets-none g t s.stage s.plain e' bytes new e was.standing rated.shape.sides
          p was.stands none'.1 in
          stood-goes s.plain new.plain e cfg (count_by is_turn before) (step.stays free) was
    ]

-- Times and asks within a turn

pub count-cons : (test : Event → Bool) (x : Event) (t : Trace) → count_by test (x ∷ t) ≡ one_where (test x) + count_by test t
count-cons test x t = sum_by-cons (λ z. cond (test z) 1 0) x t

pub none-cons : (test : Event → Bool) (x : Event) (t : Trace) → count_by test (x ∷ t) ≡ 0 → (test x ≡ false) × (count_by test t ≡ 0)
none-cons test x t h = (by_flag (test x) refl, let k = count-cons test x t in omega (arith, k, h))
  where
    by_flag : (b : Bool) → test x ≡ b → test x ≡ false
    by_flag false e = e
    by_flag true e = absurd (let k = count-cons test x t in let one : one_where (test x) ≡ 1 = ap one_where e in let bad : ⊥ =
        omega (arith, k, h, one) in bad)

pub same_time : (x : Event) (time : ℕ) → is_turn x ≡ false → time_by time x ≡ time
same_time (entry.Turn ms, bytes) time h = absurd (cc)
same_time _ time h = refl

pub last_time-none : (time : ℕ) (t : Trace) → count_by is_turn t ≡ 0 → last_time time t ≡ time
last_time-none time [] h = refl
last_time-none time (x ∷ t) h =
    let k = none-cons is_turn x t h in
    ap (λ z. last_time z t) (same_time x time k.0) ∙ last_time-none time t k.1

-- the time of the last turn, where one begins in the middle
pub last_time-cut : (before rest : Trace) (ms time : ℕ) → last_time time (before ++ turn_at ms ∷ rest) ≡ last_time ms rest
last_time-cut before rest ms time = fold-append (λ was y. time_by was y) time before (turn_at ms ∷ rest)

pub asked-stays : (x : Event) (was : Bool) → is_turn x ≡ false → was ≡ true → asked_by was x ≡ true
asked-stays (entry.Turn ms, bytes) was h k = absurd (cc)
asked-stays (entry.Asked side a answer, bytes) was h k = refl
asked-stays _ was h k = k

pub was_asked-stays : (t : Trace) (was : Bool) → count_by is_turn t ≡ 0 → was ≡ true → was_asked was t ≡ true
was_asked-stays [] was h k = k
was_asked-stays (x ∷ t) was h k = let q = none-cons is_turn x t h in was_asked-stays t (asked_by was x) q.1 (asked-stays x was q.0 k)

pub rate_ask-asks : (e : SideId) (x : Event) (was : Bool) → is_rate_ask e x ≡ true → asked_by was x ≡ true
rate_ask-asks e (entry.Asked side a answer, bytes) was h = refl
rate_ask-asks e _ was h = absurd (cc)

-- a rate that was asked for behind the last turn's start is an ask of that turn
pub was_asked-rate : (e : SideId) (t : Trace) (was : Bool) → count_by is_turn t ≡ 0 → count_by (is_rate_ask e) t ≢ 0 → was_asked
    was t ≡ true
was_asked-rate e [] was h some = absurd (some refl)
was_asked-rate e (x ∷ t) was h some = by_flag (λ more. was_asked-rate e t (asked_by was x) (none-cons is_turn x t h).1 more)
    (is_rate_ask e x) refl
  where
    by_flag : (count_by (is_rate_ask e) t ≢ 0 → was_asked was (x ∷ t) ≡ true) → (b : Bool) → is_rate_ask e x ≡ b → was_asked was
        (x ∷ t) ≡ true
    by_flag later true asks = was_asked-stays t (asked_by was x) (none-cons is_turn x t h).1 (rate_ask-asks e x was asks)
    by_flag later false not_asks =
        later (λ zero. some (let k = count-cons (is_rate_ask e) x t in let o = one_where-not (is_rate_ask e x) not_asks in
        omega (arith, k, o, zero)))

-- More time lets more through.

pub div-later : (a b k : ℕ) → 0 < k → a ≤ b → a / k ≤ b / k
div-later a b k pos le = le-div (a / k) b k pos (let q = div-mul-le_self a k in omega (arith, q))

pub most-later : (cfg : LimitCfg) (d : Dir) (ms a b : ℕ) → a ≤ b → most_moved (limit_of cfg d) ms a ≤ most_moved (limit_of cfg d) ms b
most-later cfg dir.Read ms a b le = more cfg.read_rate cfg.read_burst
  where
    more : (rate burst : ℕ) → burst + rate * (a / cfg.tick_ms - ms / cfg.tick_ms) ≤ burst + rate * (b / cfg.tick_ms - ms / cfg.tick_ms)
    more rate burst =
        let q = div-later a b cfg.tick_ms cfg.ticks le in
        let r : rate * (a / cfg.tick_ms - ms / cfg.tick_ms) ≤ rate * (b / cfg.tick_ms - ms / cfg.tick_ms) = mul-le-mul_left rate
        (omega (arith, q)) in
        omega (arith, r)
most-later cfg dir.Write ms a b le = more cfg.write_rate cfg.write_burst
  where
    more : (rate burst : ℕ) → burst + rate * (a / cfg.tick_ms - ms / cfg.tick_ms) ≤ burst + rate * (b / cfg.tick_ms - ms / cfg.tick_ms)
    more rate burst =
        let q = div-later a b cfg.tick_ms cfg.ticks le in
        let r : rate * (a / cfg.tick_ms - ms / cfg.tick_ms) ≤ rate * (b / cfg.tick_ms - ms / cfg.tick_ms) = mul-le-mul_left rate
        (omega (arith, q)) in
        omega (arith, r)

-- The bound

abbrev pub AskedLate : Trace → State → Type 0
AskedLate t s = was_asked false t ≡ true → is_late s.stage ≡ true

abbrev pub Bounded : Settings → SideId → Dir → Trace → Type 0
Bounded g e d t = (cfg : LimitCfg) (before run last : Trace) (ms : ℕ) → t ≡ before ++ turn_at ms ∷ (run ++ last) → limit_after g e
    before ≡ Some cfg →
    count_by (is_rate_ask e) run ≡ 0 → count_by is_turn last ≡ 0 → moved_over e d (run ++ last) ≤ most_moved (limit_of cfg d) ms
    (last_time ms run)

pub moved-push : (e : SideId) (d : Dir) (t : Trace) (x : Event) → moved_over e d (t ++ x ∷ []) ≡ moved_over e d t + moved_by e d x
moved-push e d t x = sum_by-append (λ y. moved_by e d y) t (x ∷ []) ∙ omega arith

-- a step behind a turn that began under a limit, with no other limit asked for since, stays within the bound
pub step-bounded : (g : Settings) (e : SideId) (d : Dir) (t : Trace) (s new : State) (e' : Entry) (bytes : List ℕ) → Rated g t s →
    LimitStays g e t s → Puts g t s.stage s.plain e' bytes new →
    (cfg : LimitCfg) (before rest : Trace) (ms : ℕ) → t ≡ before ++ turn_at ms ∷ rest → limit_after g e before ≡ Some cfg →
    count_by (is_rate_ask e) rest ≡ 0 →
    (most : ℕ) → most ≡ most_moved (limit_of cfg d) ms s.plain.time → moved_over e d rest ≤ most → moved_over e d rest + moved_by e
    d (e', bytes) ≤ most
step-bounded g e d t s new e' bytes rated stays p cfg before rest ms split limit none most most_is was =
    let stood : Stood s.plain e cfg (count_by is_turn before) = stays before rest ms cfg split limit none in
    let a : moved_by e d (e', bytes) ≤ standing_level stood.standing d (side_spells e d t) s.plain.time = puts-within g t s.stage
    s.plain e' bytes new e d stood.standing p stood.stands in
    let b : standing_level stood.standing d (side_spells e d t) s.plain.time ≤ most_moved (limit_of stood.standing.cfg d) ms
    s.plain.time - moved_over e d rest =
    subst (λ z. standing_level stood.standing d (side_spells e d z) s.plain.time ≤ most_moved (limit_of stood.standing.cfg d) ms
    s.plain.time - moved_over e d rest) (sym split)
    (standing-most stood.standing e d before rest ms s.plain.time stood.begun) in
    let c : most_moved (limit_of stood.standing.cfg d) ms s.plain.time ≡ most = ap (λ z. most_moved (limit_of z d) ms s.plain.time)
    stood.cfg_is ∙ sym most_is in
    omega (arith, a, b, c, was)

pub bounded-puts : (g : Settings) (e : SideId) (d : Dir) (t : Trace) (s new : State) (e' : Entry) (bytes : List ℕ) → Rated g t s →
    LimitStays g e t s → AskedLate t s → Bounded g e d t →
    Puts g t s.stage s.plain e' bytes new → Bounded g e d (t ++ (e', bytes) ∷ [])
bounded-puts g e d t s new e' bytes rated stays late bounded p cfg before run last ms split limit none within =
    elim (split-at_one t before (run ++ last) x (turn_at ms) split) [
      | inl at_end ↦ subst (λ z. moved_over e d z ≤ most_moved (limit_of cfg d) ms (last_time ms run)) (sym at_end.0) (omega arith)
      | inr earlier ↦ elim (split-end run last earlier.0 x earlier.1) [
        | inl none_last ↦ in_run earlier.0 earlier.2 none_last.0 none_last.1
        | inr some_last ↦ in_last some_last.0 some_last.1 (earlier.2 ∙ ap (λ z. before ++ turn_at ms ∷ z) some_last.2)
      ]
    ]
  where
    x : Event
    x = (e', bytes)

    -- the time of the state is that of the last turn that begins in the rest
    time-is : (rest : Trace) → t ≡ before ++ turn_at ms ∷ rest → s.plain.time ≡ last_time ms rest
    time-is rest cut = rated.shape.time ∙ ap (λ z. last_time 0 z) cut ∙ last_time-cut before rest ms 0

    -- the step stands behind whole turns, or begins the last one
    in_run : (rest : Trace) → t ≡ before ++ turn_at ms ∷ rest → last ≡ [] → run ≡ rest ++ x ∷ [] → moved_over e d (run ++ last) ≤
        most_moved (limit_of cfg d) ms (last_time ms run)
    in_run rest cut no_last is =
        let none' = count-none (is_rate_ask e) rest x (ap (λ z. count_by (is_rate_ask e) z) (sym is) ∙ none) in
        let time = time-is rest cut in
        let was : moved_over e d (rest ++ []) ≤ most_moved (limit_of cfg d) ms (last_time ms rest) =
        bounded cfg before rest [] ms (cut ∙ ap (λ z. before ++ turn_at ms ∷ z) (sym (append-nil rest))) limit none'.0 refl in
        let was' : moved_over e d rest ≤ most_moved (limit_of cfg d) ms (last_time ms rest) = subst
        (λ z. moved_over e d z ≤ most_moved (limit_of cfg d) ms (last_time ms rest)) (append-nil rest) was in
        let step = step-bounded g e d t s new e' bytes rated stays p cfg before rest ms cut limit none'.0
        (most_moved (limit_of cfg d) ms (last_time ms rest)) (ap (λ z. most_moved (limit_of cfg d) ms z) (sym time)) was' in
        let later : last_time ms rest ≤ last_time ms run =
        let k = puts-later g t s.stage s.plain e' bytes new p in
        let q : last_time ms run ≡ time_by (last_time ms rest) x = ap (λ z. last_time ms z) is ∙ last_time-push ms rest x in
        let r : time_by s.plain.time x ≡ time_by (last_time ms rest) x = ap (λ z. time_by z x) time in
        omega (arith, k, q, r, time) in
        let grows = most-later cfg d ms (last_time ms rest) (last_time ms run) later in
        let all : moved_over e d (run ++ last) ≡ moved_over e d rest + moved_by e d x =
        ap (λ z. moved_over e d (run ++ z)) no_last ∙ ap (λ z. moved_over e d z) (append-nil run ∙ is) ∙ moved-push e d rest x in
        omega (arith, step, grows, all)

    -- the step stands in the last turn
    in_last : (last' : Trace) → last ≡ last' ++ x ∷ [] → t ≡ before ++ turn_at ms ∷ (run ++ last') → moved_over e d (run ++ last) ≤
        most_moved (limit_of cfg d) ms (last_time ms run)
    in_last last' is cut = omega (arith, all, moves)
      where
        none' : (count_by is_turn last' ≡ 0) × (is_turn x ≡ false)
        none' = count-none is_turn last' x (ap (λ z. count_by is_turn z) (sym is) ∙ within)

        was : moved_over e d (run ++ last') ≤ most_moved (limit_of cfg d) ms (last_time ms run)
        was = bounded cfg before run last' ms cut limit none none'.0

        time : s.plain.time ≡ last_time ms run
        time = time-is (run ++ last') cut ∙ fold-append (λ w y. time_by w y) ms run last' ∙ last_time-none (last_time ms run) last' none'.0

        all : moved_over e d (run ++ last) ≡ moved_over e d (run ++ last') + moved_by e d x
        all = ap (λ z. moved_over e d (run ++ z)) is ∙ ap (λ z. moved_over e d z) (sym (append_assoc run last' (x ∷ []))) ∙
            moved-push e d (run ++ last') x

        unasked : count_by (is_rate_ask e) last' ≡ 0 → moved_over e d (run ++ last') + moved_by e d x ≤ most_moved (limit_of cfg d)
            ms (last_time ms run)
        unasked zero =
            let none_all : count_by (is_rate_ask e) (run ++ last') ≡ 0 = let k = sum_by-append (λ z. cond (is_rate_ask e z) 1 0)
            run last' in omega (arith, k, none, zero) in
            step-bounded g e d t s new e' bytes rated stays p cfg before (run ++ last') ms cut limit none_all
            (most_moved (limit_of cfg d) ms (last_time ms run)) (ap (λ z. most_moved (limit_of cfg d) ms z) (sym time)) was

        asked : count_by (is_rate_ask e) last' ≢ 0 → moved_over e d (run ++ last') + moved_by e d x ≤ most_moved (limit_of cfg d)
            ms (last_time ms run)
        asked some =
            let seen : was_asked false t ≡ true =
            ap (λ z. was_asked false z) cut ∙ fold-append (λ b y. asked_by b y) false before (turn_at ms ∷ (run ++ last'))
            ∙ fold-append (λ b y. asked_by b y) false run last' ∙ was_asked-rate e last' (was_asked false run) none'.0 some in
            let still = late-moves_none g t s.stage s.plain e' bytes new e d (late seen) p in
            omega (arith, was, still)

        moves : moved_over e d (run ++ last') + moved_by e d x ≤ most_moved (limit_of cfg d) ms (last_time ms run)
        moves = elim (eqb_tells (count_by (is_rate_ask e) last') 0) [ inl zero ↦ unasked zero.1 | inr some ↦ asked some.1 ]

-- what holds of every state that is reached
pub record Kept (g : Settings) (e : SideId) (d : Dir) (t : Trace) (s : State) : Type 0 where
  pub rated : Rated g t s
  pub stays : LimitStays g e t s
  pub late : AskedLate t s
  pub bounded : Bounded g e d t

pub kept-first : (g : Settings) (e : SideId) (d : Dir) → Kept g e d [] start
kept-first g e d = record {
  rated = rated g begins;
  stays = λ before rest ms cfg split limit none. absurd (let k = append-empty before (turn_at ms ∷ rest) (sym split) in cc);
  late = λ h. refl;
  bounded = λ cfg before run last ms split limit none within. absurd (let k = append-empty before (turn_at ms ∷ (run ++ last))
      (sym split) in cc);
}

pub kept-goes : (g : Settings) (e : SideId) (d : Dir) (t : Trace) (s new : State) → Kept g e d t s → Quietly g t s.stage s.plain
    new → Kept g e d t new
kept-goes g e d t s new h q =
    let k = kept-quietly g t s.stage s.plain new q in
    record {
      rated = rated-goes g t s new h.rated q;
      stays = λ before rest ms cfg split limit none. stood-goes s.plain new.plain e cfg (count_by is_turn before)
          (ap (λ z. z.limit) (k.sides e)) (h.stays before rest ms cfg split limit none);
      late = λ asked. late-quietly g t s.stage s.plain new (h.late asked) q;
      bounded = h.bounded;
    }

pub kept-puts : (g : Settings) (e : SideId) (d : Dir) (t : Trace) (s new : State) (e' : Entry) (bytes : List ℕ) → Kept g e d t s →
    Puts g t s.stage s.plain e' bytes new →
    Kept g e d (t ++ (e', bytes) ∷ []) new
kept-puts g e d t s new e' bytes h p = record {
  rated = rated-puts g t s new e' bytes h.rated p;
  stays = stays-puts g e t s new e' bytes h.rated h.stays p;
  late = λ asked. late-puts g t s.stage s.plain e' bytes new (was_asked false t) h.late p (sym
      (fold-append (λ b y. asked_by b y) false t ((e', bytes) ∷ [])) ∙ asked);
  bounded = bounded-puts g e d t s new e' bytes h.rated h.stays h.late h.bounded p;
}

pub kept : (g : Settings) (e : SideId) (d : Dir) {t : Trace} {s : State} → Reaches g t s → Kept g e d t s
kept g e d r = reaches-holds g (Kept g e d) (kept-first g e d) (λ t s new h q. kept-goes g e d t s new h q)
    (λ t s new e' bytes h p. kept-puts g e d t s new e' bytes h p) r
