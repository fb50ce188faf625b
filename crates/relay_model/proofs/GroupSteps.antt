-- What members of a group move is at most their share, and what the share leaves of the group's bucket.
use Rattle.std.proofs.Common.{◌≡◌, ◌⊎◌, inl, inr, ℕ, suc, ◌+◌, ◌-◌, ◌*◌, ◌/◌, ◌≤◌, max, Bool, true, false, if◌then◌else◌, List, [], ◌∷◌}
use Rattle.std.proofs.Common.{◌++◌, length, fold, refl, sym, ◌∙◌, ap, subst, arith}
use Rattle.std.specs.Prelude.{nat_eq, ◌||◌, slice_index_or}
use Rattle.std.proofs.lemmas.Bool.Decides.{eqb_tells}
use Rattle.std.proofs.lemmas.List.{append-nil, append_assoc, take_all, length-append}
use Rattle.std.proofs.Math.Nat.{div-le_self}
use Rattle.token_bucket.specs.declared.limit.Dir.{Dir}
use Rattle.ev_types.specs.declared.entry.Entry.TheVariants as entry
use Rattle.ev_types.specs.Trace.{Event, Trace}
use Rattle.relay_model.specs.Settings.{Settings, GroupSet}
use Rattle.token_bucket.specs.Spells.{ticks, Spell, moved_in, Beat, Begins, Moves, moved_first, spells}
use Rattle.token_bucket.specs.Levels.{Limit, limit_of}
use Rattle.relay_model.specs.Groups.{beat_among, beats_among, group_spells, least_share, group_level, no_spell, level_at_end, suspended_in}
use Rattle.relay_model.specs.Groups.{is_suspended, share_among}
use Rattle.relay_model.specs.RatesKept.{time_by, last_time, moved_among, most_moved}
use Rattle.relay_model.proofs.SpellLemmas.{spells-apart, rest_spells, moved_in-rest, least-term}

-- The time of the last spell

abbrev pub last_of_spells : ℕ → List Spell → ℕ
last_of_spells time [] = time
last_of_spells time (x ∷ xs) = last_of_spells x.time xs

abbrev pub beat_time : ℕ → Beat → ℕ
beat_time was (Begins time) = time
beat_time was (Moves n) = was

pub spells-last : (time : ℕ) (bs : List Beat) → last_of_spells time (spells bs) ≡ fold (λ was b. beat_time was b) time bs
spells-last time [] = refl
spells-last time (Begins ms ∷ bs) = spells-last ms bs
spells-last time (Moves n ∷ bs) = spells-last time bs

pub last-at : (x : Spell) (xs : List Spell) → (slice_index_or (x ∷ xs) (length xs) no_spell).time ≡ last_of_spells x.time xs
last-at x [] = refl
last-at x (y ∷ ys) = last-at y ys

pub last-is : (xs : List Spell) → (slice_index_or xs (length xs - 1) no_spell).time ≡ last_of_spells 0 xs
last-is [] = refl
last-is (x ∷ xs) = let n : length (x ∷ xs) - 1 ≡ length xs = omega arith in ap (λ k. (slice_index_or (x ∷ xs) k no_spell).time) n ∙
    last-at x xs

pub beat-time : (g : Settings) (n : ℕ) (d : Dir) (before : Trace) (x : Event) (was : ℕ) → beat_time was (beat_among g n d before x)
    ≡ time_by was x
beat-time g n d before (entry.Turn ms, bytes) was = refl
beat-time g n d before (entry.Read side room answer, bytes) was = refl
beat-time g n d before (entry.Write side offered answer, bytes) was = refl
beat-time g n d before _ was = refl

pub beats-time : (g : Settings) (n : ℕ) (d : Dir) (before t : Trace) (was : ℕ) → fold (λ w b. beat_time w b) was
    (beats_among g n d before t) ≡ last_time was t
beats-time g n d before [] was = refl
beats-time g n d before (x ∷ t) was =
    ap (λ z. fold (λ w b. beat_time w b) z (beats_among g n d (before ++ x ∷ []) t)) (beat-time g n d before x was)
    ∙ beats-time g n d (before ++ x ∷ []) t (time_by was x)

pub group_spells-last : (g : Settings) (n : ℕ) (d : Dir) (t : Trace) → (slice_index_or (group_spells g n d t)
    (length (group_spells g n d t) - 1) no_spell).time ≡ last_time 0 t
group_spells-last g n d t = last-is (group_spells g n d t) ∙ spells-last 0 (beats_among g n d [] t) ∙ beats-time g n d [] t 0

-- A group that isn't suspended has something left.

pub or-false : (a b : Bool) → (a || b) ≡ false → a ≡ false
or-false true b h = h
or-false false b h = refl

pub not_suspended-left : (x : GroupSet) (d : Dir) (all : List Spell) (time : ℕ) (n : ℕ) → length all ≡ n + 1 →
    (slice_index_or all (length all - 1) no_spell).time ≡ time →
    is_suspended x d all ≡ false → 1 ≤ group_level x d all time
not_suspended-left x d all time n count last free = elim (eqb_tells (group_level x d all time) 0)
    [ inl none ↦ absurd (let bad : true ≡ false = sym none.0 ∙ left_over in cc) | inr some ↦ omega (arith, some.1) ]
  where
    by_turn : suspended_in x d all (suc n) ≡ false
    by_turn = let k : length all ≡ suc n = omega (arith, count) in subst (λ m. suspended_in x d all m ≡ false) k free

    at_end : level_at_end x d all (n + 1) ≡ group_level x d all time
    at_end =
        let k : n + 1 - 1 ≡ length all - 1 = omega (arith, count) in
        ap (λ z. group_level x d z (slice_index_or all (n + 1 - 1) no_spell).time) (take_all (n + 1) all (omega (arith, count)))
        ∙ ap (λ m. group_level x d all (slice_index_or all m no_spell).time) k
        ∙ ap (λ m. group_level x d all m) last

    left_over : nat_eq (group_level x d all time) 0 ≡ false
    left_over = ap (λ m. nat_eq m 0) (sym at_end) ∙ or-false (nat_eq (level_at_end x d all (n + 1)) 0) _ by_turn

-- a share is nothing, or at most the greater of what is left and the least share
pub share-parts : (x : GroupSet) (d : Dir) (all : List Spell) (time count : ℕ) →
    (share_among x d all time count ≡ 0) ⊎ ((is_suspended x d all ≡ false) × (share_among x d all time count ≤ max
    (group_level x d all time) (least_share x)))
share-parts x d all time count = by_flag (is_suspended x d all) refl
  where
    by_flag : (b : Bool) → is_suspended x d all ≡ b →
        ((if is_suspended x d all then 0 else max (group_level x d all time / count) (least_share x)) ≡ 0)
        ⊎ ((is_suspended x d all ≡ false) × ((if is_suspended x d all then 0 else max (group_level x d all time / count)
        (least_share x)) ≤ max (group_level x d all time) (least_share x)))
    by_flag true is = inl (ap (λ b. if b then 0 else max (group_level x d all time / count) (least_share x)) is)
    by_flag false is =
        inr (
          is,
          let k : (if is_suspended x d all then 0 else max (group_level x d all time / count) (least_share x)) ≡ max
              (group_level x d all time / count) (least_share x) =
              ap (λ b. if b then 0 else max (group_level x d all time / count) (least_share x)) is in
              let q = div-le_self (group_level x d all time) count in omega (arith, k, q),
        )

-- Cut before a turn

pub beats-cut : (g : Settings) (n : ℕ) (d : Dir) (first before rest : Trace) (ms : ℕ) →
    beats_among g n d first (before ++ (entry.Turn ms, []) ∷ rest) ≡ beats_among g n d first before ++ Begins ms ∷ beats_among g n
    d (first ++ before ++ (entry.Turn ms, []) ∷ []) rest
beats-cut g n d first [] rest ms = ap (λ z. Begins ms ∷ beats_among g n d (z ++ (entry.Turn ms, []) ∷ []) rest) (sym (append-nil first))
beats-cut g n d first (x ∷ before) rest ms =
    ap (λ z. beat_among g n d first x ∷ z)
    (beats-cut g n d (first ++ x ∷ []) before rest ms
    ∙ ap (λ z. beats_among g n d (first ++ x ∷ []) before ++ Begins ms ∷ beats_among g n d (z ++ (entry.Turn ms, []) ∷ []) rest)
    (append_assoc first (x ∷ []) before))

pub group_spells-cut : (g : Settings) (n : ℕ) (d : Dir) (before rest : Trace) (ms : ℕ) →
    group_spells g n d (before ++ (entry.Turn ms, []) ∷ rest) ≡ group_spells g n d before ++ rest_spells
    (beats_among g n d (before ++ (entry.Turn ms, []) ∷ []) rest) ms
group_spells-cut g n d before rest ms =
    ap spells (beats-cut g n d [] before rest ms) ∙ spells-apart (beats_among g n d [] before)
    (beats_among g n d (before ++ (entry.Turn ms, []) ∷ []) rest) ms

-- What a group's bucket holds is at most a burst and what came since the start of any turn, less what members moved since.
pub group-most : (x : GroupSet) (g : Settings) (n : ℕ) (d : Dir) (before rest : Trace) (ms time : ℕ) →
    group_level x d (group_spells g n d (before ++ (entry.Turn ms, []) ∷ rest)) time ≤ most_moved (limit_of x.cfg d) ms time -
    moved_among g n d (before ++ (entry.Turn ms, []) ∷ []) rest
group-most x g n d before rest ms time =
    let l : Limit = limit_of x.cfg d in
    let cs : List Beat = beats_among g n d (before ++ (entry.Turn ms, []) ∷ []) rest in
    let term = least-term l time (l.rate + l.rate * ticks l.tick 0 time - moved_in (group_spells g n d before ++ rest_spells cs
    ms)) (group_spells g n d before) (spells cs) (record { time = ms; moved = moved_first cs }) in
    let total : moved_in (rest_spells cs ms) ≡ moved_among g n d (before ++ (entry.Turn ms, []) ∷ []) rest = moved_in-rest cs ms in
    subst (λ z. group_level x d z time ≤ most_moved l ms time - moved_among g n d (before ++ (entry.Turn ms, []) ∷ []) rest)
    (sym (group_spells-cut g n d before rest ms))
    (subst (λ z. group_level x d (group_spells g n d before ++ rest_spells cs ms) time ≤ most_moved l ms time - z) total term)

-- there is a spell where a turn began
pub group_spells-some : (g : Settings) (n : ℕ) (d : Dir) (before rest : Trace) (ms : ℕ) →
    (k : ℕ) × (length (group_spells g n d (before ++ (entry.Turn ms, []) ∷ rest)) ≡ k + 1)
group_spells-some g n d before rest ms =
    let cs : List Beat = beats_among g n d (before ++ (entry.Turn ms, []) ∷ []) rest in (
      length (group_spells g n d before) + length (spells cs),
      ap (λ z. length z) (group_spells-cut g n d before rest ms) ∙ length-append (group_spells g n d before) (rest_spells cs ms) ∙
          omega arith,
    )
