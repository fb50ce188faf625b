-- Spells of a trace that is cut before a turn, and the terms of a bucket's level.
use Rattle.std.proofs.Common.{◌≡◌, ℕ, ◌+◌, ◌-◌, ◌*◌, ◌≤◌, min, List, [], ◌∷◌, ◌++◌, length, map, drop, sum_by, count_by, refl, sym, ◌∙◌, ap}
use Rattle.std.proofs.Common.{subst, cond, arith}
use Rattle.std.proofs.lemmas.List.{map-append, drop-append-le}
use Rattle.std.proofs.lemmas.List.Sums.{sum_by-cons}
use Rattle.token_bucket.specs.declared.limit.Dir.{Dir}
use Rattle.token_bucket.specs.declared.limit.Dir.TheVariants as dir
use Rattle.ev_types.specs.declared.side.SideId.{SideId}
use Rattle.ev_types.specs.declared.entry.Entry.TheVariants as entry
use Rattle.ev_types.specs.Trace.{Event, Trace}
use Rattle.relay_model.specs.Plain.{Standing}
use Rattle.relay_model.specs.Rates.{level, moved_by, beat_of, side_spells, held_as_set, standing_level}
use Rattle.token_bucket.specs.Spells.{ticks, Spell, moved_in, since_each, least_with, Beat, Begins, Moves, moved_first, spells}
use Rattle.token_bucket.specs.Levels.{Limit, limit_of}
use Rattle.relay_model.specs.RatesKept.{is_turn, bytes_of, moved_over, most_moved}

-- Cut before a turn

pub moved_first-apart : (bs cs : List Beat) (ms : ℕ) → moved_first (bs ++ Begins ms ∷ cs) ≡ moved_first bs
moved_first-apart [] cs ms = refl
moved_first-apart (Begins time ∷ bs) cs ms = refl
moved_first-apart (Moves n ∷ bs) cs ms = ap (λ z. n + z) (moved_first-apart bs cs ms)

pub spells-apart : (bs cs : List Beat) (ms : ℕ) → spells (bs ++ Begins ms ∷ cs) ≡ spells bs ++ spells (Begins ms ∷ cs)
spells-apart [] cs ms = refl
spells-apart (Begins time ∷ bs) cs ms =
    ap (λ z. record { time = time; moved = z } ∷ spells (bs ++ Begins ms ∷ cs)) (moved_first-apart bs cs ms)
    ∙ ap (λ z. record { time = time; moved = moved_first bs } ∷ z) (spells-apart bs cs ms)
spells-apart (Moves n ∷ bs) cs ms = spells-apart bs cs ms

-- the turns behind one that begins
abbrev pub rest_spells : List Beat → ℕ → List Spell
rest_spells cs ms = record { time = ms; moved = moved_first cs } ∷ spells cs

-- all that was moved is in the spells, or before the first of them
pub moved-total : (bs : List Beat) → moved_first bs + moved_in (spells bs) ≡ sum_by bytes_of bs
moved-total [] = refl
moved-total (Begins time ∷ bs) =
    let a = sum_by-cons (λ (x : Spell). x.moved) (record { time = time; moved = moved_first bs }) (spells bs) in
    let b = sum_by-cons bytes_of (Begins time) bs in
    let c = moved-total bs in
    omega (arith, a, b, c)
moved-total (Moves n ∷ bs) =
    let b = sum_by-cons bytes_of (Moves n) bs in
    let c = moved-total bs in
    omega (arith, b, c)

pub moved_in-rest : (cs : List Beat) (ms : ℕ) → moved_in (rest_spells cs ms) ≡ sum_by bytes_of cs
moved_in-rest cs ms = sum_by-cons (λ (x : Spell). x.moved) (record { time = ms; moved = moved_first cs }) (spells cs) ∙ moved-total cs

pub turn_moves-none : (e : SideId) (d : Dir) (ms : ℕ) (bytes : List ℕ) → moved_by e d (entry.Turn ms, bytes) ≡ 0
turn_moves-none e dir.Read ms bytes = refl
turn_moves-none e dir.Write ms bytes = refl

pub beat-bytes : (e : SideId) (d : Dir) (x : Event) → bytes_of (beat_of e d x) ≡ moved_by e d x
beat-bytes e d (entry.Turn ms, bytes) = sym (turn_moves-none e d ms bytes)
beat-bytes e d _ = refl

pub beats-total : (e : SideId) (d : Dir) (t : Trace) → sum_by bytes_of (map (beat_of e d) t) ≡ moved_over e d t
beats-total e d [] = refl
beats-total e d (x ∷ t) =
    sum_by-cons bytes_of (beat_of e d x) (map (beat_of e d) t)
    ∙ ap (λ z. z + sum_by bytes_of (map (beat_of e d) t)) (beat-bytes e d x)
    ∙ ap (λ z. moved_by e d x + z) (beats-total e d t)
    ∙ sym (sum_by-cons (λ y. moved_by e d y) x t)

-- as many spells as turns
pub spells-count : (e : SideId) (d : Dir) (t : Trace) → length (side_spells e d t) ≡ count_by is_turn t
spells-count e d [] = refl
spells-count e d ((entry.Turn ms, bytes) ∷ t) =
    let a = sum_by-cons (λ z. cond (is_turn z) 1 0) (entry.Turn ms, bytes) t in
    let b = spells-count e d t in
    omega (arith, a, b)
spells-count e d (x ∷ t) =
    let a = sum_by-cons (λ z. cond (is_turn z) 1 0) x t in
    let b = spells-count e d t in
    omega (arith, a, b)

pub side_spells-apart : (e : SideId) (d : Dir) (before rest : Trace) (ms : ℕ) →
    side_spells e d (before ++ (entry.Turn ms, []) ∷ rest) ≡ side_spells e d before ++ rest_spells (map (beat_of e d) rest) ms
side_spells-apart e d before rest ms =
    ap spells (map-append (beat_of e d) before ((entry.Turn ms, []) ∷ rest)) ∙ spells-apart (map (beat_of e d) before)
    (map (beat_of e d) rest) ms

-- The level is below each of its terms.

pub least_with-le : (n : ℕ) (ms : List ℕ) → least_with n ms ≤ n
least_with-le n [] = omega arith
least_with-le n (m ∷ ms) = let k = least_with-le (min n m) ms in omega arith

pub least-term : (l : Limit) (time n : ℕ) (pre post : List Spell) (x : Spell) →
    least_with n (since_each l time (pre ++ x ∷ post)) ≤ l.burst + l.rate * ticks l.tick x.time time - moved_in (x ∷ post)
least-term l time n [] post x =
    let term : ℕ = l.burst + l.rate * ticks l.tick x.time time - moved_in (x ∷ post) in
    let k : least_with (min n term) (since_each l time post) ≤ min n term = least_with-le (min n term) (since_each l time post) in
    omega (arith, k)
least-term l time n (p ∷ pre) post x = least-term l time
    (min n (l.burst + l.rate * ticks l.tick p.time time - moved_in (p ∷ pre ++ x ∷ post))) pre post x

-- What a bucket holds is at most a burst and what came since the start of any later turn, less what was moved since.
pub standing-most : (y : Standing) (e : SideId) (d : Dir) (before rest : Trace) (ms time : ℕ) → y.turn ≤ count_by is_turn before →
    standing_level y d (side_spells e d (before ++ (entry.Turn ms, []) ∷ rest)) time ≤ most_moved (limit_of y.cfg d) ms time -
    moved_over e d rest
standing-most y e d before rest ms time begun =
    let l : Limit = limit_of y.cfg d in
    let cs : List Beat = map (beat_of e d) rest in
    let within : y.turn ≤ length (side_spells e d before) = omega (arith, begun, spells-count e d before) in
    let later : drop y.turn (side_spells e d (before ++ (entry.Turn ms, []) ∷ rest)) ≡ drop y.turn (side_spells e d before) ++
    rest_spells cs ms =
    ap (λ z. drop y.turn z) (side_spells-apart e d before rest ms) ∙ drop-append-le y.turn (side_spells e d before)
    (rest_spells cs ms) within in
    let term = least-term l time (held_as_set y d + l.rate * ticks l.tick y.time time - moved_in
    (drop y.turn (side_spells e d before) ++ rest_spells cs ms))
    (drop y.turn (side_spells e d before)) (spells cs) (record { time = ms; moved = moved_first cs }) in
    let total : moved_in (rest_spells cs ms) ≡ moved_over e d rest = moved_in-rest cs ms ∙ beats-total e d rest in
    subst (λ z. level l y.time (held_as_set y d) z time ≤ most_moved l ms time - moved_over e d rest) (sym later)
    (subst (λ z. level l y.time (held_as_set y d) (drop y.turn (side_spells e d before) ++ rest_spells cs ms) time ≤ most_moved l
    ms time - z) total term)
