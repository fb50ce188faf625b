-- What an event at the end of a trace does to the past: most leave it as it was, a turn begins a spell of every bucket,
-- and bytes that are moved count in the last spell.
use Rattle.std.proofs.Common.{◌≡◌, ℕ, ◌+◌, Bool, true, false, if◌then◌else◌, List, [], ◌∷◌, ◌++◌, map, refl, sym, ◌∙◌, ap, arith}
use Rattle.std.proofs.lemmas.List.{append-nil, append_assoc}
use Rattle.token_bucket.specs.declared.limit.Dir.{Dir}
use Rattle.token_bucket.specs.declared.limit.Dir.TheVariants as dir
use Rattle.ev_types.specs.declared.side.SideId.{SideId}
use Rattle.ev_types.specs.declared.answer.ReadAnswer.TheVariants as read
use Rattle.ev_types.specs.declared.answer.WriteAnswer.TheVariants as write
use Rattle.ev_types.specs.declared.entry.Entry.TheVariants as entry
use Rattle.ev_types.specs.Trace.{Event, Trace}
use Rattle.relay_model.specs.Settings.{Settings}
use Rattle.relay_model.specs.Trace.{bytes_read, read_by}
use Rattle.relay_model.specs.Rates.{beat_of, side_spells}
use Rattle.token_bucket.specs.Spells.{Spell, Beat, Begins, Moves, moved_first, spells}
use Rattle.relay_model.specs.Groups.{group_after, same_group, beat_among, beats_among, group_spells}
use Rattle.relay_model.specs.Past.{past}
use Rattle.relay_model.proofs.TraceLemmas.{bytes_read-push}

-- no turn begins with it, and it reads and moves nothing
abbrev pub is_still : Event → Bool
is_still (entry.Turn ms, bytes) = false
is_still (entry.Read side room (read.Got n), bytes) = false
is_still (entry.Write side offered (write.Took n), bytes) = false
is_still _ = true

-- Beats

pub moved_first-still : (bs : List Beat) → moved_first (bs ++ Moves 0 ∷ []) ≡ moved_first bs
moved_first-still [] = refl
moved_first-still (Begins time ∷ bs) = refl
moved_first-still (Moves n ∷ bs) = ap (λ z. n + z) (moved_first-still bs)

pub spells-still : (bs : List Beat) → spells (bs ++ Moves 0 ∷ []) ≡ spells bs
spells-still [] = refl
spells-still (Begins time ∷ bs) =
    ap (λ z. record { time = time; moved = z } ∷ spells (bs ++ Moves 0 ∷ [])) (moved_first-still bs)
    ∙ ap (λ z. record { time = time; moved = moved_first bs } ∷ z) (spells-still bs)
spells-still (Moves n ∷ bs) = spells-still bs

pub moved_first-begins : (bs : List Beat) (ms : ℕ) → moved_first (bs ++ Begins ms ∷ []) ≡ moved_first bs
moved_first-begins [] ms = refl
moved_first-begins (Begins time ∷ bs) ms = refl
moved_first-begins (Moves n ∷ bs) ms = ap (λ z. n + z) (moved_first-begins bs ms)

pub spells-begins : (bs : List Beat) (ms : ℕ) → spells (bs ++ Begins ms ∷ []) ≡ spells bs ++ record { time = ms; moved = 0 } ∷ []
spells-begins [] ms = refl
spells-begins (Begins time ∷ bs) ms =
    ap (λ z. record { time = time; moved = z } ∷ spells (bs ++ Begins ms ∷ [])) (moved_first-begins bs ms)
    ∙ ap (λ z. record { time = time; moved = moved_first bs } ∷ z) (spells-begins bs ms)
spells-begins (Moves n ∷ bs) ms = spells-begins bs ms

-- the spells with so many bytes more in the last one
abbrev pub more_moved : ℕ → List Spell → List Spell
more_moved n [] = []
more_moved n (x ∷ []) = record { time = x.time; moved = x.moved + n } ∷ []
more_moved n (x ∷ y ∷ ys) = x ∷ more_moved n (y ∷ ys)

-- bytes that are moved before any turn begins behind
abbrev pub more_first : ℕ → ℕ → List Spell → ℕ
more_first n m [] = m + n
more_first n m (x ∷ xs) = m

pub moved_first-moves : (bs : List Beat) (n : ℕ) → moved_first (bs ++ Moves n ∷ []) ≡ more_first n (moved_first bs) (spells bs)
moved_first-moves [] n = omega arith
moved_first-moves (Begins time ∷ bs) n = refl
moved_first-moves (Moves m ∷ bs) n = ap (λ z. m + z) (moved_first-moves bs n) ∙ join (spells bs)
  where
    join : (xs : List Spell) → m + more_first n (moved_first bs) xs ≡ more_first n (m + moved_first bs) xs
    join [] = omega arith
    join (x ∷ xs) = refl

pub spells-moves : (bs : List Beat) (n : ℕ) → spells (bs ++ Moves n ∷ []) ≡ more_moved n (spells bs)
spells-moves [] n = refl
spells-moves (Begins time ∷ bs) n =
    ap (λ z. record { time = time; moved = z } ∷ spells (bs ++ Moves n ∷ [])) (moved_first-moves bs n)
    ∙ ap (λ z. record { time = time; moved = more_first n (moved_first bs) (spells bs) } ∷ z) (spells-moves bs n)
    ∙ join (spells bs)
  where
    join : (xs : List Spell) →
        ◌≡◌ {A = List Spell} (record { time = time; moved = more_first n (moved_first bs) xs } ∷ more_moved n xs)
        (more_moved n (record { time = time; moved = moved_first bs } ∷ xs))
    join [] = refl
    join (x ∷ xs) = refl
spells-moves (Moves m ∷ bs) n = spells-moves bs n

-- Sides

pub beats-push : (e : SideId) (d : Dir) (t : Trace) (x : Event) → map (beat_of e d) (t ++ x ∷ []) ≡ map (beat_of e d) t ++ beat_of
    e d x ∷ []
beats-push e d [] x = refl
beats-push e d (y ∷ t) x = ap (λ z. beat_of e d y ∷ z) (beats-push e d t x)

pub beat_of-still : (e : SideId) (d : Dir) (x : Event) → is_still x ≡ true → beat_of e d x ≡ Moves 0
beat_of-still e dir.Read (entry.Turn ms, bytes) h = cc
beat_of-still e dir.Read (entry.Read side room (read.Got n), bytes) h = cc
beat_of-still e dir.Read (entry.Write side offered (write.Took n), bytes) h = cc
beat_of-still e dir.Read _ h = refl
beat_of-still e dir.Write (entry.Turn ms, bytes) h = cc
beat_of-still e dir.Write (entry.Read side room (read.Got n), bytes) h = cc
beat_of-still e dir.Write (entry.Write side offered (write.Took n), bytes) h = cc
beat_of-still e dir.Write _ h = refl

pub side_spells-still : (e : SideId) (d : Dir) (t : Trace) (x : Event) → is_still x ≡ true → side_spells e d (t ++ x ∷ []) ≡
    side_spells e d t
side_spells-still e d t x h =
    ap spells (beats-push e d t x ∙ ap (λ z. map (beat_of e d) t ++ z ∷ []) (beat_of-still e d x h)) ∙ spells-still (map (beat_of e d) t)

pub side_spells-turn : (e : SideId) (d : Dir) (t : Trace) (ms : ℕ) (bytes : List ℕ) → side_spells e d
    (t ++ (entry.Turn ms, bytes) ∷ []) ≡ side_spells e d t ++ record { time = ms; moved = 0 } ∷ []
side_spells-turn e d t ms bytes = ap spells (beats-push e d t (entry.Turn ms, bytes)) ∙ spells-begins (map (beat_of e d) t) ms

-- Groups

pub either_zero : (b : Bool) → ◌≡◌ {A = ℕ} (if b then 0 else 0) 0
either_zero true = refl
either_zero false = refl

pub beats_among-push : (g : Settings) (n : ℕ) (d : Dir) (before t : Trace) (x : Event) →
    beats_among g n d before (t ++ x ∷ []) ≡ beats_among g n d before t ++ beat_among g n d (before ++ t) x ∷ []
beats_among-push g n d before [] x = ap (λ z. beat_among g n d z x ∷ []) (sym (append-nil before))
beats_among-push g n d before (y ∷ t) x =
    ap (λ z. beat_among g n d before y ∷ z)
    (beats_among-push g n d (before ++ y ∷ []) t x ∙ ap (λ z. beats_among g n d (before ++ y ∷ []) t ++ beat_among g n d z x ∷ [])
    (append_assoc before (y ∷ []) t))

pub beat_among-still : (g : Settings) (n : ℕ) (d : Dir) (t : Trace) (x : Event) → is_still x ≡ true → beat_among g n d t x ≡ Moves 0
beat_among-still g n d t (entry.Turn ms, bytes) h = cc
beat_among-still g n d t (entry.Read side room (read.Got k), bytes) h = cc
beat_among-still g n dir.Read t (entry.Read side room _, bytes) h = ap Moves (either_zero (same_group (group_after g side t) n))
beat_among-still g n dir.Write t (entry.Read side room _, bytes) h = ap Moves (either_zero (same_group (group_after g side t) n))
beat_among-still g n d t (entry.Write side offered (write.Took k), bytes) h = cc
beat_among-still g n dir.Read t (entry.Write side offered _, bytes) h = ap Moves (either_zero (same_group (group_after g side t) n))
beat_among-still g n dir.Write t (entry.Write side offered _, bytes) h = ap Moves (either_zero (same_group (group_after g side t) n))
beat_among-still g n d t _ h = refl

pub group_spells-still : (g : Settings) (n : ℕ) (d : Dir) (t : Trace) (x : Event) → is_still x ≡ true → group_spells g n d
    (t ++ x ∷ []) ≡ group_spells g n d t
group_spells-still g n d t x h =
    ap spells (beats_among-push g n d [] t x ∙ ap (λ z. beats_among g n d [] t ++ z ∷ []) (beat_among-still g n d t x h)) ∙
    spells-still (beats_among g n d [] t)

pub group_spells-turn : (g : Settings) (n : ℕ) (d : Dir) (t : Trace) (ms : ℕ) (bytes : List ℕ) →
    group_spells g n d (t ++ (entry.Turn ms, bytes) ∷ []) ≡ group_spells g n d t ++ record { time = ms; moved = 0 } ∷ []
group_spells-turn g n d t ms bytes = ap spells (beats_among-push g n d [] t (entry.Turn ms, bytes)) ∙ spells-begins
    (beats_among g n d [] t) ms

-- The past

pub read_by-still : (e : SideId) (x : Event) → is_still x ≡ true → read_by e x ≡ []
read_by-still e (entry.Turn ms, bytes) h = cc
read_by-still e (entry.Read side room (read.Got n), bytes) h = cc
read_by-still e (entry.Write side offered (write.Took n), bytes) h = refl
read_by-still e _ h = refl

-- an event that is still leaves the past as it was
pub past-still : (g : Settings) (t : Trace) (x : Event) → is_still x ≡ true → past g (t ++ x ∷ []) ≡ past g t
past-still g t x h = λ i. record {
  read = λ e. (bytes_read-push e t x ∙ ap (λ z. bytes_read e t ++ z) (read_by-still e x h) ∙ append-nil (bytes_read e t)) i;
  turns = λ e d. side_spells-still e d t x h i;
  group_turns = λ n d. group_spells-still g n d t x h i;
}
