-- With no hooks no bucket of a side ever owes anything, by induction over the steps; so it holds a byte a tick later.
use Rattle.std.proofs.Common.{◌≡◌, ℕ, zero, suc, ◌+◌, ◌*◌, ◌/◌, ◌≤◌, Bool, true, false, List, [], ◌∷◌, ◌++◌, length, map, drop, count_by}
use Rattle.std.proofs.Common.{Option, Some, None, ◌⊎◌, inl, inr, refl, sym, ◌∙◌, ap, subst, arith}
use Rattle.std.specs.Prelude.{option_map, slice_index_or, nat_eq}
use Rattle.std.proofs.lemmas.Bool.Decides.{eqb_tells}
use Rattle.std.proofs.lemmas.List.{drop-append-le, get_or_past}
use Rattle.std.proofs.Math.ListN.{drop_of_length-le}
use Rattle.token_bucket.specs.declared.limit.Dir.{Dir}
use Rattle.token_bucket.specs.declared.limit.Dir.TheVariants as dir
use Rattle.token_bucket.specs.declared.limit.LimitCfg.{LimitCfg}
use Rattle.ev_types.specs.declared.side.SideId.{SideId}
use Rattle.ev_types.specs.declared.entry.Entry.{Entry}
use Rattle.ev_types.specs.declared.entry.Entry.TheVariants as entry
use Rattle.ev_types.specs.Sides.{number}
use Rattle.ev_types.specs.Trace.{Event, Trace}
use Rattle.relay_model.specs.Settings.{Settings, HasNoHooks, rate_set}
use Rattle.relay_model.specs.Plain.{Plain, PlainSide, Standing, first_limit, no_side, with_link, side_at}
use Rattle.relay_model.specs.Past.{past}
use Rattle.relay_model.specs.Rates.{moved_by, beat_of, side_spells, held_as_set, level}
use Rattle.token_bucket.specs.Spells.{Spell, Moves, spells}
use Rattle.token_bucket.specs.Levels.{limit_of}
use Rattle.relay_model.specs.Stages.{Stage, State}
use Rattle.relay_model.specs.Turn.{Reaches, Puts}
use Rattle.relay_model.specs.RatesKept.{is_turn, time_by}
use Rattle.relay_model.specs.Refills.{OwesAtMost, beginning, SidesOweNothing, SidesComeBack}
use Rattle.relay_model.proofs.QuietSteps.{kept-quietly}
use Rattle.relay_model.proofs.SpellLemmas.{spells-count}
use Rattle.relay_model.proofs.PlainLemmas.{side_at-new}
use Rattle.relay_model.proofs.Shapes.{ShapeBy, shape-puts}
use Rattle.relay_model.proofs.ReachLemmas.{count-push}
use Rattle.relay_model.proofs.ClosingEntries.{closing-closes}
use Rattle.relay_model.proofs.ToldLemmas.{kept}
use Rattle.relay_model.proofs.KindLemmas.{PutKind, put-kind}
use Rattle.relay_model.proofs.RatesTold.{IsBegun, sets_limit}
use Rattle.relay_model.proofs.RatesLaw.{Rated, rated, rates-puts}
use Rattle.relay_model.proofs.RateSteps.{puts-within, puts-later, closes-sets_none}
use Rattle.relay_model.proofs.RateBound.{div-later, same_time}
use Rattle.relay_model.proofs.HooklessLemmas.{Asleep, asleep}
use Rattle.relay_model.proofs.PastLemmas.{more_moved, spells-moves, beats-push, side_spells-turn}
use Rattle.relay_model.proofs.RefillLemmas.{moved_more, tick_brings_byte, begun-owes, moved-owes}

-- bytes that are moved in the last of some turns
pub more_moved-push : (n : ℕ) (xs : List Spell) (x : Spell) → more_moved n (xs ++ x ∷ []) ≡ xs ++ moved_more n x ∷ []
more_moved-push n [] x = refl
more_moved-push n (y ∷ []) x = refl
more_moved-push n (y ∷ z ∷ xs) x = ap (λ v. y ∷ v) (more_moved-push n (z ∷ xs) x)

pub more_moved-none : (xs : List Spell) → more_moved 0 xs ≡ xs
more_moved-none [] = refl
more_moved-none (x ∷ []) = (let a : x.moved + 0 ≡ x.moved = omega arith in λ i. record { time = x.time; moved = a i } ∷ [])
more_moved-none (x ∷ y ∷ xs) = ap (λ v. x ∷ v) (more_moved-none (y ∷ xs))

drop-nil : (k : ℕ) → drop k (◌++◌ {A = Spell} [] []) ≡ []
drop-nil k = drop_of_length-le {A = Spell} [] (omega arith)

drop-more_moved : (k n : ℕ) (xs : List Spell) → drop k (more_moved n xs) ≡ more_moved n (drop k xs)
drop-more_moved zero n xs = refl
drop-more_moved (suc k) n [] = drop-nil (suc k) ∙ ap (more_moved n) (sym (drop-nil (suc k)))
drop-more_moved (suc k) n (x ∷ []) = drop-nil k ∙ ap (more_moved n) (sym (drop-nil k))
drop-more_moved (suc k) n (x ∷ y ∷ xs) = drop-more_moved k n (y ∷ xs)

-- a list is empty, or ends with an element
pub last-view : (xs : List Spell) → (xs ≡ []) ⊎ ((ys : List Spell) × (x : Spell) × (xs ≡ ys ++ x ∷ []))
last-view [] = inl refl
last-view (x ∷ xs) = elim (last-view xs) [
  | inl none ↦ inr ([], x, ap (λ v. x ∷ v) none)
  | inr k ↦ inr (x ∷ k.0, k.1, ap (λ v. x ∷ v) k.2)
]

pub turn-is : (y : Entry) (bytes : List ℕ) → is_turn (y, bytes) ≡ true → (ms : ℕ) × (y ≡ entry.Turn ms)
turn-is (entry.Turn ms) bytes h = (ms, refl)
turn-is _ bytes h = absurd (cc)

same-number : (a b : ℕ) → nat_eq a b ≡ true → a ≡ b
same-number a b h = elim (eqb_tells a b) [ inl same ↦ same.1 | inr other ↦ absurd (let no = other.0 in cc) ]

module _ (e : SideId) (d : Dir) where
  beat-moves : (y : Event) → is_turn y ≡ false → beat_of e d y ≡ Moves (moved_by e d y)
  beat-moves (entry.Turn ms, bytes) h = absurd (cc)
  beat-moves _ h = refl

  spells-more : (t : Trace) (y : Event) → is_turn y ≡ false →
      side_spells e d (t ++ y ∷ []) ≡ more_moved (moved_by e d y) (side_spells e d t)
  spells-more t y h =
      ap spells (beats-push e d t y) ∙ ap (λ b. spells (map (beat_of e d) t ++ b ∷ [])) (beat-moves y h)
      ∙ spells-moves (map (beat_of e d) t) (moved_by e d y)

  -- the bucket of a side with a limit owes nothing
  abbrev OwesNothing : Trace → Plain → Type 0
  OwesNothing t s = (y : Standing) → (side_at s e).limit ≡ Some y →
      OwesAtMost (limit_of y.cfg d) 0 y.time (held_as_set y d) (drop y.turn (side_spells e d t)) s.time

  tick-later : (cfg : LimitCfg) (a b : ℕ) → a ≤ b → a / (limit_of cfg d).tick ≤ b / (limit_of cfg d).tick
  tick-later cfg a b le = go d
    where
      go : (v : Dir) → a / (limit_of cfg v).tick ≤ b / (limit_of cfg v).tick
      go dir.Read = div-later a b cfg.tick_ms cfg.ticks le
      go dir.Write = div-later a b cfg.tick_ms cfg.ticks le

  module _ (g : Settings) (none : HasNoHooks g) where
    -- the limit of a side whose link opens just now
    new-limit : (s : Plain) (connected : Bool) → length s.sides ≡ 2 * s.opened → s.opened ≡ e.link → (y : Standing) →
        (side_at (with_link g connected s) e).limit ≡ Some y → (y.turn ≡ s.turn) × (y.time ≡ s.time)
    new-limit s connected size here y h =
        from-set (rate_set g e.side) (sym (ap (λ x. x.limit) (side_at-new g connected s e size here)) ∙ h)
      where
        from-set : (o : Option LimitCfg) → option_map (first_limit s.time s.turn) o ≡ Some y → (y.turn ≡ s.turn) × (y.time ≡ s.time)
        from-set None k = absurd (cc)
        from-set (Some cfg) k =
            let same : first_limit s.time s.turn cfg ≡ y = cc in (ap (λ v. v.turn) (sym same), ap (λ v. v.time) (sym same))

    -- where a limit was set just now, nothing counts yet
    fresh : (t : Trace) (y : Event) (time : ℕ) (z : Standing) → z.time ≡ time → z.turn ≡ count_by is_turn (t ++ y ∷ []) →
        OwesAtMost (limit_of z.cfg d) 0 z.time (held_as_set z d) (drop z.turn (side_spells e d (t ++ y ∷ []))) time
    fresh t y time z same count =
        let all = spells-count e d (t ++ y ∷ []) in
        let nothing : drop z.turn (side_spells e d (t ++ y ∷ [])) ≡ [] =
        drop_of_length-le (side_spells e d (t ++ y ∷ [])) (omega (arith, all, count)) in
        subst (λ xs. OwesAtMost (limit_of z.cfg d) 0 z.time (held_as_set z d) xs time) (sym nothing)
        (record { first = omega arith; each = tt; set_before = tick-later z.cfg z.time time (omega arith); began_before = tt })

    -- an entry by which the limit stays
    stays-owing : (t : Trace) (s : State) (y : Entry) (bytes : List ℕ) (new : State) → Rated g t s → Puts g t s.stage s.plain y bytes new →
        new.plain.time ≡ time_by s.plain.time (y, bytes) → s.plain.time ≤ new.plain.time →
        (side_at new.plain e).limit ≡ (side_at s.plain e).limit → OwesNothing t s.plain → OwesNothing (t ++ (y, bytes) ∷ []) new.plain
    stays-owing t s y bytes new rates h time later same covered z is = by-turn (is_turn (y, bytes)) refl
      where
        was : (side_at s.plain e).limit ≡ Some z
        was = sym same ∙ is

        old : OwesAtMost (limit_of z.cfg d) 0 z.time (held_as_set z d) (drop z.turn (side_spells e d t)) s.plain.time
        old = covered z was

        begun : z.turn ≤ length (side_spells e d t)
        begun =
            let a : z.turn ≤ s.plain.turn = subst (IsBegun s.plain.turn) was (rates.begun e) in
            let b = rates.shape.turn in
            let c = spells-count e d t in
            omega (arith, a, b, c)

        Wanted : Type 0
        Wanted =
            OwesAtMost (limit_of z.cfg d) 0 z.time (held_as_set z d) (drop z.turn (side_spells e d (t ++ (y, bytes) ∷ [])))
            new.plain.time

        moves : is_turn (y, bytes) ≡ false → new.plain.time ≡ s.plain.time → Wanted
        moves turns still =
            let n : ℕ = moved_by e d (y, bytes) in
            let within : n ≤ level (limit_of z.cfg d) z.time (held_as_set z d) (drop z.turn (side_spells e d t)) s.plain.time =
            puts-within g t s.stage s.plain y bytes new e d z h was in
            subst (λ k. OwesAtMost (limit_of z.cfg d) 0 z.time (held_as_set z d) (drop z.turn (side_spells e d (t ++ (y, bytes) ∷ []))) k)
            (sym still)
            (subst (λ xs. OwesAtMost (limit_of z.cfg d) 0 z.time (held_as_set z d) xs s.plain.time)
            (sym (ap (drop z.turn) (spells-more t (y, bytes) turns) ∙ drop-more_moved z.turn n (side_spells e d t)))
            (elim (last-view (drop z.turn (side_spells e d t))) [
              | inl nothing ↦
                  subst (λ xs. OwesAtMost (limit_of z.cfg d) 0 z.time (held_as_set z d) xs s.plain.time)
                  (nothing ∙ sym (ap (more_moved n) nothing)) old
              | inr k ↦
                  subst (λ xs. OwesAtMost (limit_of z.cfg d) 0 z.time (held_as_set z d) xs s.plain.time)
                  (sym (ap (more_moved n) k.2 ∙ more_moved-push n k.0 k.1))
                  (moved-owes (limit_of z.cfg d) 0 0 s.plain.time n (omega arith) z.time (held_as_set z d) k.0 k.1
                  (inl (subst (λ xs. n ≤ level (limit_of z.cfg d) z.time (held_as_set z d) xs s.plain.time) k.2 within))
                  (subst (λ xs. OwesAtMost (limit_of z.cfg d) 0 z.time (held_as_set z d) xs s.plain.time) k.2 old))
            ]))

        begins-turn : (ms : ℕ) → y ≡ entry.Turn ms → Wanted
        begins-turn ms v =
            subst (λ xs. OwesAtMost (limit_of z.cfg d) 0 z.time (held_as_set z d) xs new.plain.time)
            (sym (ap (λ u. drop z.turn (side_spells e d (t ++ (u, bytes) ∷ []))) v ∙ ap (drop z.turn) (side_spells-turn e d t ms bytes)
            ∙ drop-append-le z.turn (side_spells e d t) (beginning ms ∷ []) begun))
            (let now : new.plain.time ≡ ms = time ∙ ap (λ u. time_by s.plain.time (u, bytes)) v in
            subst (λ k. OwesAtMost (limit_of z.cfg d) 0 z.time (held_as_set z d) (drop z.turn (side_spells e d t) ++ beginning ms ∷ []) k)
            (sym now)
            (begun-owes (limit_of z.cfg d) 0 s.plain.time ms (tick-later z.cfg s.plain.time ms (omega (arith, now, later))) z.time
            (held_as_set z d) (drop z.turn (side_spells e d t)) old))

        by-turn : (b : Bool) → is_turn (y, bytes) ≡ b → Wanted
        by-turn true k = let at = turn-is y bytes k in begins-turn at.0 at.1
        by-turn false k = moves k (time ∙ same_time (y, bytes) s.plain.time k)

    -- an entry by which it is set, without hooks: the link opens
    set-owing : (t : Trace) (s : State) (y : Event) (new : State) → length s.plain.sides ≡ 2 * s.plain.opened →
        s.plain.turn ≡ count_by is_turn t → (x : Stage) → Asleep g x s.plain → PutKind g t s.plain x y new → sets_limit e y ≡ true →
        OwesNothing (t ++ y ∷ []) new.plain
    set-owing t s y new size turn x a (PutKind.opened {connected = connected}) sets z is =
        let link : s.plain.opened ≡ e.link = same-number s.plain.opened e.link sets in
        let set = new-limit s.plain connected size link z is in
        let count : count_by is_turn (t ++ (entry.Opened s.plain.opened connected, []) ∷ []) ≡ count_by is_turn t + 0 =
        count-push is_turn t (entry.Opened s.plain.opened connected, []) in
        fresh t (entry.Opened s.plain.opened connected, []) s.plain.time z set.1
        (let b = set.0 in omega (arith, b, turn, count))
    set-owing t s y new size turn x a (PutKind.turned {ms = ms} c b) sets z is = absurd (cc)
    set-owing t s y new size turn x a (PutKind.polled) sets z is = absurd (cc)
    set-owing t s y new size turn x a (PutKind.wanted c) sets z is = absurd (cc)
    set-owing t s y new size turn x a (PutKind.poll_failed) sets z is = absurd (cc)
    set-owing t s y new size turn x a (PutKind.readied c) sets z is = absurd (cc)
    set-owing t s y new size turn x a (PutKind.checked c) sets z is = absurd (cc)
    set-owing t s y new size turn x a (PutKind.was_read left c b) sets z is = absurd (cc)
    set-owing t s y new size turn x a (PutKind.written c b k) sets z is = absurd (cc)
    set-owing t s y new size turn x a (PutKind.fired c) sets z is = absurd (cc)
    set-owing t s y new size turn x a (PutKind.frees c b) sets z is = absurd a.idle
    set-owing t s y new size turn x a (PutKind.asked c b k) sets z is = absurd a.idle
    set-owing t s y new size turn x a (PutKind.recorded) sets z is = absurd a.idle
    set-owing t s y new size turn x a (PutKind.closed {c = c} {e = made} b) sets z is =
        absurd (let no = closes-sets_none e made [] (closing-closes g (past g t) s.plain c made b) in cc)

    -- the bucket of a side owes nothing
    owes-nothing : {t : Trace} {s : State} → Reaches g t s → OwesNothing t s.plain
    owes-nothing (Reaches.begins) y h =
        let none_there : List PlainSide = [] in
        absurd (let bare : (slice_index_or none_there (number e) no_side).limit ≡ None =
        ap (λ x. x.limit) (get_or_past none_there (number e) no_side (omega arith)) in cc)
    owes-nothing (Reaches.goes {t = t} {s = s} {new = new} r q) y h =
        let k = kept-quietly g t s.stage s.plain new q in
        subst (λ m. OwesAtMost (limit_of y.cfg d) 0 y.time (held_as_set y d) (drop y.turn (side_spells e d t)) m) (sym k.time)
        (owes-nothing r y (sym (ap (λ x. x.limit) (k.sides e)) ∙ h))
    owes-nothing (Reaches.puts {t = t} {s = s} {new = new} y bytes r p) z is =
        by-set (λ w h. owes-nothing r w h) (sets_limit e (y, bytes)) refl z is
      where
        c : Rated g t s
        c = rated g r

        shape : ShapeBy (y, bytes) s.plain new.plain
        shape = shape-puts g t s.stage s.plain y bytes new p

        by-set : OwesNothing t s.plain → (b : Bool) → sets_limit e (y, bytes) ≡ b → OwesNothing (t ++ (y, bytes) ∷ []) new.plain
        by-set old true sets =
            set-owing t s (y, bytes) new c.shape.sides c.shape.turn s.stage (asleep g t s none r)
            (put-kind g t s.stage s.plain y bytes new (kept g t s r).placed p) sets
        by-set old false stays =
            let later = puts-later g t s.stage s.plain y bytes new p in
            stays-owing t s y bytes new c p shape.time (let k = shape.time in omega (arith, k, later))
            ((rates-puts g t s.stage s.plain y bytes new e c.shape.sides c.fits p).stays stays) old

pub sides_owe_nothing : SidesOweNothing
sides_owe_nothing g t s e d x none r is = owes-nothing e d g none r x is

pub sides_come_back : SidesComeBack
sides_come_back g t s e d x ms none r is tick =
    subst (λ xs. 1 ≤ level (limit_of x.cfg d) x.time (held_as_set x d) xs ms)
    (sym (ap (drop x.turn) (side_spells-turn e d t ms [])
    ∙ drop-append-le x.turn (side_spells e d t) (beginning ms ∷ []) begun))
    (by_dir d (drop x.turn (side_spells e d t)) (owes-nothing e d g none r x is))
  where
    begun : x.turn ≤ length (side_spells e d t)
    begun =
        let c = rated g r in
        let a : x.turn ≤ s.plain.turn = subst (IsBegun s.plain.turn) is (c.begun e) in
        let b = c.shape.turn in
        let n = spells-count e d t in
        omega (arith, a, b, n)

    by_dir : (v : Dir) (xs : List Spell) → OwesAtMost (limit_of x.cfg v) 0 x.time (held_as_set x v) xs s.plain.time →
        1 ≤ level (limit_of x.cfg v) x.time (held_as_set x v) (xs ++ beginning ms ∷ []) ms
    by_dir dir.Read xs k =
        let some = x.cfg.reads in let most = x.cfg.read_within in
        tick_brings_byte (limit_of x.cfg dir.Read) x.time (held_as_set x dir.Read) xs s.plain.time ms (omega (arith, some))
        (omega (arith, some, most)) k tick
    by_dir dir.Write xs k =
        let some = x.cfg.writes in let most = x.cfg.write_within in
        tick_brings_byte (limit_of x.cfg dir.Write) x.time (held_as_set x dir.Write) xs s.plain.time ms (omega (arith, some))
        (omega (arith, some, most)) k tick
