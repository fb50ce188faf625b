-- Groups keep to their limits in every legal trace, and with them all limits are kept.
use Rattle.std.proofs.Common.{◌≡◌, ◌⊎◌, inl, inr, ℕ, ◌+◌, ◌-◌, ◌≤◌, min, max, Bool, true, false, if◌then◌else◌, List, [], ◌∷◌, ◌++◌, length}
use Rattle.std.proofs.Common.{Option, Some, None, option_map, sum_by, refl, sym, ◌∙◌, ap, subst, arith}
use Rattle.std.specs.Prelude.{slice_get}
use Rattle.std.proofs.lemmas.Bool.{eqb-true}
use Rattle.std.proofs.lemmas.List.{append_assoc}
use Rattle.std.proofs.lemmas.List.Sums.{sum_by-append}
use Rattle.token_bucket.specs.declared.limit.Dir.{Dir}
use Rattle.token_bucket.specs.declared.limit.Dir.TheVariants as dir
use Rattle.ev_types.specs.declared.side.SideId.{SideId}
use Rattle.ev_types.specs.declared.answer.ReadAnswer.{ReadAnswer}
use Rattle.ev_types.specs.declared.answer.WriteAnswer.{WriteAnswer}
use Rattle.ev_types.specs.declared.entry.Entry.{Entry}
use Rattle.ev_types.specs.declared.entry.Entry.TheVariants as entry
use Rattle.ev_types.specs.Trace.{Event, Trace}
use Rattle.relay_model.specs.Settings.{Settings, GroupSet}
use Rattle.relay_model.specs.Plain.{Plain, side_at}
use Rattle.token_bucket.specs.Spells.{Moves}
use Rattle.token_bucket.specs.Levels.{limit_of}
use Rattle.relay_model.specs.Groups.{same_group, group_after, beat_among, beats_among, group_spells, least_share, group_level, members}
use Rattle.relay_model.specs.Groups.{is_suspended, share_among}
use Rattle.relay_model.specs.Past.{past}
use Rattle.relay_model.specs.Rooms.{share_in, share, allowance, at_most, within_rates, read_room, write_room, may_read, may_write}
use Rattle.relay_model.specs.Serve.{CarriesGot, CarriesTook}
use Rattle.relay_model.specs.Stages.{Stage, State}
use Rattle.relay_model.specs.Turn.{Puts, Reaches, begins, IsLegal}
use Rattle.relay_model.specs.RatesKept.{time_by, last_time, bytes_of, moved_among, most_moved, KeepsRate, GroupKeepsRate, RatesKept}
use Rattle.relay_model.proofs.PastLemmas.{is_still, beats_among-push, beat_among-still}
use Rattle.relay_model.proofs.ListEnds.{split-at_one, append-empty}
use Rattle.relay_model.proofs.ClosingEntries.{closing-closes, closes-still}
use Rattle.relay_model.proofs.StepLemmas.{read-called, write-called}
use Rattle.relay_model.proofs.ReachLemmas.{reaches-holds, last_time-push, beginnings-are_legal}
use Rattle.relay_model.proofs.RatesLaw.{Rated, rated-goes, rated-puts, rated}
use Rattle.relay_model.proofs.RateSteps.{room-where, got-within, took-within, puts-later}
use Rattle.relay_model.proofs.RateBound.{turn_at, last_time-cut, most-later, kept}
use Rattle.relay_model.proofs.GroupSteps.{group_spells-last, not_suspended-left, share-parts, group-most, group_spells-some}

-- the group of a number, as it is told
pub group-named : (o : Option ℕ) (n : ℕ) → same_group o n ≡ true → o ≡ Some n
group-named None n h = absurd (cc)
group-named (Some m) n h = ap Some (eqb-true m n h)

module _ (g : Settings) (n : ℕ) (x : GroupSet) (is : slice_get g.groups n ≡ Some x) (t : Trace) (s : Plain) where
  -- what a member may move
  abbrev pub part : Dir → ℕ
  part d = share_among x d (group_spells g n d t) s.time (members s n)

  pub within-share : (e : SideId) (d : Dir) (k : ℕ) → (side_at s e).group ≡ Some n → within_rates g (past g t) s e d k ≤ part d
  within-share e d k in_it =
      let a : share g (past g t) s e d ≡ Some (part d) =
      ap (λ z. share_in g (past g t) s d z) in_it ∙ ap
      (λ z. option_map (λ y. share_among y d (group_spells g n d t) s.time (members s n)) z) is in
      let b : within_rates g (past g t) s e d k ≡ min (part d) (at_most (allowance (past g t) s e d) k) = ap
      (λ z. at_most z (at_most (allowance (past g t) s e d) k)) a in
      omega (arith, b)

  pub read_room-shared : (e : SideId) → (side_at s e).group ≡ Some n → read_room g (past g t) s e ≤ part dir.Read
  read_room-shared e in_it = room-where (may_read s e) _ _ (within-share e dir.Read _ in_it)

  pub write_room-shared : (e : SideId) → (side_at s e).group ≡ Some n → write_room g (past g t) s e ≤ part dir.Write
  write_room-shared e in_it = room-where (may_write s e) _ _ (within-share e dir.Write _ in_it)

  pub beat-where : (b : Bool) (k most : ℕ) → (b ≡ true → k ≤ most) → bytes_of (Moves (if b then k else 0)) ≤ most
  beat-where true k most h = h refl
  beat-where false k most h = omega arith

  -- what a read or a write moves among members is at most the share of its side
  pub read-among : (told : (e : SideId) → (side_at s e).group ≡ group_after g e t) (side : SideId) (d : Dir) (room : ℕ)
      (answer : ReadAnswer) (bytes : List ℕ) →
      room ≡ read_room g (past g t) s side → CarriesGot answer room bytes → bytes_of (beat_among g n d t
      (entry.Read side room answer, bytes)) ≤ part d
  read-among told side dir.Read room answer bytes asked carries =
      beat-where (same_group (group_after g side t) n) _ _
      (λ named. got-within side side room (part dir.Read) answer bytes carries
      (λ same. let k = read_room-shared side (told side ∙ group-named (group_after g side t) n named) in omega (arith, asked, k)))
  read-among told side dir.Write room answer bytes asked carries = beat-where (same_group (group_after g side t) n) 0 _
      (λ named. omega arith)

  pub write-among : (told : (e : SideId) → (side_at s e).group ≡ group_after g e t) (side : SideId) (d : Dir) (offered : ℕ)
      (answer : WriteAnswer) (bytes : List ℕ) →
      offered ≡ write_room g (past g t) s side → CarriesTook answer offered bytes → bytes_of
      (beat_among g n d t (entry.Write side offered answer, bytes)) ≤ part d
  write-among told side dir.Read offered answer bytes asked carries = beat-where (same_group (group_after g side t) n) 0 _
      (λ named. omega arith)
  write-among told side dir.Write offered answer bytes asked carries =
      beat-where (same_group (group_after g side t) n) _ _
      (λ named. took-within side side offered (part dir.Write) answer bytes carries
      (λ same. let k = write_room-shared side (told side ∙ group-named (group_after g side t) n named) in omega (arith, asked, k)))

  pub still-among : (d : Dir) (y : Event) → is_still y ≡ true → bytes_of (beat_among g n d t y) ≤ part d
  still-among d y h = let k = ap bytes_of (beat_among-still g n d t y h) in omega (arith, k)

-- What an entry moves among the members of a group is at most a member's share.
pub puts-shared : (g : Settings) (t : Trace) (x : Stage) (s : Plain) (e' : Entry) (bytes : List ℕ) (new : State) (n : ℕ)
    (y : GroupSet) (d : Dir) → (is : slice_get g.groups n ≡ Some y) →
    ((e : SideId) → (side_at s e).group ≡ group_after g e t) → Puts g t x s e' bytes new → bytes_of
    (beat_among g n d t (e', bytes)) ≤ part g n y is t s d
puts-shared g t Stage.Between s (entry.Turn ms) bytes new n y d is told h = omega arith
puts-shared g t Stage.Polling s (entry.Poll timeout) bytes new n y d is told h = omega arith
puts-shared g t (Stage.Wanting (w ∷ ws)) s (entry.Want side r w') bytes new n y d is told h = omega arith
puts-shared g t (Stage.Wanting []) s entry.PollFailed bytes new n y d is told h = omega arith
puts-shared g t (Stage.Marking (w ∷ ws) marks) s (entry.Ready side r w') bytes new n y d is told h = omega arith
puts-shared g t (Stage.Accepting k marks) s (entry.Opened link connected) bytes new n y d is told h = omega arith
puts-shared g t (Stage.Serving (m ∷ ms)) s (entry.Conn side answer) bytes new n y d is told h = omega arith
puts-shared g t (Stage.Serving (m ∷ ms)) s (entry.Read side room answer) bytes new n y d is told h = let called = read-called g
    (past g t) s m room h.1 in
    read-among g n y is t s told side d room answer bytes (called.is_room ∙ ap (λ z. read_room g (past g t) s z) (sym h.0)) h.2
puts-shared g t (Stage.Serving (m ∷ ms)) s (entry.Write side offered answer) bytes new n y d is told h = let called = write-called
    g (past g t) s m offered h.1 in
    write-among g n y is t s told side d offered answer bytes (called.is_offered ∙ ap (λ z. write_room g (past g t) s z) (sym h.0)) h.2
puts-shared g t (Stage.Dispatching (r ∷ rs)) s (entry.Fired side y') bytes new n y d is told h = omega arith
puts-shared g t (Stage.Firing x rs) s (entry.Asked side a answer) bytes new n y d is told h = omega arith
puts-shared g t (Stage.Freeing gone x rs) s e' bytes new n y d is told h = still-among g n y is t s d (e', bytes)
    (subst (λ z. is_still (z, bytes) ≡ true) (sym h.0) refl)
puts-shared g t (Stage.Closing (c ∷ cs)) s e' bytes new n y d is told h = still-among g n y is t s d (e', bytes)
    (closes-still e' bytes (closing-closes g (past g t) s c e' h.0))
puts-shared g t _ s e' bytes new n y d is told h = absurd h

abbrev pub GroupBounded : Settings → ℕ → GroupSet → Dir → Trace → Type 0
GroupBounded g n y d t = (before run : Trace) (ms : ℕ) → t ≡ before ++ turn_at ms ∷ run →
    moved_among g n d (before ++ turn_at ms ∷ []) run ≤ most_moved (limit_of y.cfg d) ms (last_time ms run) + (least_share y - 1)

pub moved_among-push : (g : Settings) (n : ℕ) (d : Dir) (before t : Trace) (x : Event) →
    moved_among g n d before (t ++ x ∷ []) ≡ moved_among g n d before t + bytes_of (beat_among g n d (before ++ t) x)
moved_among-push g n d before t x =
    ap (λ z. sum_by bytes_of z) (beats_among-push g n d before t x) ∙ sum_by-append bytes_of (beats_among g n d before t)
    (beat_among g n d (before ++ t) x ∷ []) ∙ omega arith

pub group_bounded-puts : (g : Settings) (n : ℕ) (y : GroupSet) (d : Dir) → slice_get g.groups n ≡ Some y → (t : Trace)
    (s new : State) (e' : Entry) (bytes : List ℕ) → Rated g t s →
    GroupBounded g n y d t → Puts g t s.stage s.plain e' bytes new → GroupBounded g n y d (t ++ (e', bytes) ∷ [])
group_bounded-puts g n y d is t s new e' bytes rated bounded p before run ms split =
    elim (split-at_one t before run x (turn_at ms) split) [
      | inl at_end ↦ subst (λ z. moved_among g n d (before ++ turn_at ms ∷ []) z ≤ most_moved (limit_of y.cfg d) ms
          (last_time ms run) + (least_share y - 1)) (sym at_end.0) (omega arith)
      | inr earlier ↦ behind earlier.0 earlier.1 earlier.2
    ]
  where
    x : Event
    x = (e', bytes)

    behind : (rest : Trace) → run ≡ rest ++ x ∷ [] → t ≡ before ++ turn_at ms ∷ rest →
        moved_among g n d (before ++ turn_at ms ∷ []) run ≤ most_moved (limit_of y.cfg d) ms (last_time ms run) + (least_share y - 1)
    behind rest at cut = elim shared [ inl none ↦ omega (arith, all, was, grows, step, none) | inr some ↦ within some.0 some.1 ]
      where
        moved : ℕ
        moved = moved_among g n d (before ++ turn_at ms ∷ []) rest

        time : s.plain.time ≡ last_time ms rest
        time = rated.shape.time ∙ ap (λ z. last_time 0 z) cut ∙ last_time-cut before rest ms 0

        all : moved_among g n d (before ++ turn_at ms ∷ []) run ≡ moved + bytes_of (beat_among g n d t x)
        all =
            ap (λ z. moved_among g n d (before ++ turn_at ms ∷ []) z) at ∙ moved_among-push g n d (before ++ turn_at ms ∷ []) rest x
            ∙ ap (λ z. moved + bytes_of (beat_among g n d z x)) (append_assoc before (turn_at ms ∷ []) rest ∙ sym cut)

        was : moved ≤ most_moved (limit_of y.cfg d) ms (last_time ms rest) + (least_share y - 1)
        was = bounded before rest ms cut

        grows : most_moved (limit_of y.cfg d) ms (last_time ms rest) ≤ most_moved (limit_of y.cfg d) ms (last_time ms run)
        grows =
            let k = puts-later g t s.stage s.plain e' bytes new p in
            let q : last_time ms run ≡ time_by (last_time ms rest) x = ap (λ z. last_time ms z) at ∙ last_time-push ms rest x in
            let r : time_by s.plain.time x ≡ time_by (last_time ms rest) x = ap (λ z. time_by z x) time in
            most-later y.cfg d ms (last_time ms rest) (last_time ms run) (omega (arith, k, q, r, time))

        step : bytes_of (beat_among g n d t x) ≤ part g n y is t s.plain d
        step = puts-shared g t s.stage s.plain e' bytes new n y d is (λ e. (rated.told e).group) p

        shared : (part g n y is t s.plain d ≡ 0) ⊎ ((is_suspended y d (group_spells g n d t) ≡ false) ×
            (part g n y is t s.plain d ≤ max (group_level y d (group_spells g n d t) s.plain.time) (least_share y)))
        shared = share-parts y d (group_spells g n d t) s.plain.time (members s.plain n)

        held : group_level y d (group_spells g n d t) s.plain.time ≤ most_moved (limit_of y.cfg d) ms s.plain.time - moved
        held = subst (λ z. group_level y d (group_spells g n d z) s.plain.time ≤ most_moved (limit_of y.cfg d) ms s.plain.time -
            moved) (sym cut) (group-most y g n d before rest ms s.plain.time)

        within : is_suspended y d (group_spells g n d t) ≡ false → part g n y is t s.plain d ≤ max
            (group_level y d (group_spells g n d t) s.plain.time) (least_share y) →
            moved_among g n d (before ++ turn_at ms ∷ []) run ≤ most_moved (limit_of y.cfg d) ms (last_time ms run) + (least_share y - 1)
        within free le =
            let some = group_spells-some g n d before rest ms in
            let count : length (group_spells g n d t) ≡ some.0 + 1 = ap (λ z. length (group_spells g n d z)) cut ∙ some.1 in
            let last = group_spells-last g n d t ∙ sym rated.shape.time in
            let one = not_suspended-left y d (group_spells g n d t) s.plain.time some.0 count last free in
            let same : most_moved (limit_of y.cfg d) ms s.plain.time ≡ most_moved (limit_of y.cfg d) ms (last_time ms rest) = ap
            (λ z. most_moved (limit_of y.cfg d) ms z) time in
            omega (arith, all, step, le, held, one, same, grows)

pub group_bounded : (g : Settings) (n : ℕ) (y : GroupSet) (d : Dir) → slice_get g.groups n ≡ Some y → {t : Trace} {s : State} →
    Reaches g t s → GroupBounded g n y d t
group_bounded g n y d is r =
    (reaches-holds g (λ t s. Rated g t s × GroupBounded g n y d t)
    (rated g begins, λ before run ms split. absurd (let k = append-empty before (turn_at ms ∷ run) (sym split) in cc))
    (λ t s new h q. (rated-goes g t s new h.0 q, h.1))
    (λ t s new e' bytes h p. (rated-puts g t s new e' bytes h.0 p, group_bounded-puts g n y d is t s new e' bytes h.0 h.1 p))
    r).1

-- All limits are kept.
pub rates-are_kept : (g : Settings) (t : Trace) → IsLegal g t → RatesKept g t
rates-are_kept g t legal = record { sides = sides; groups = groups }
  where
    sides : (e : SideId) (d : Dir) → KeepsRate g t e d
    sides e d cfg before run last after ms split limit none within =
        let start = beginnings-are_legal g (before ++ turn_at ms ∷ run ++ last) after (subst (λ z. IsLegal g z) split legal) in
        (kept g e d start.1).bounded cfg before run last ms (append_assoc before (turn_at ms ∷ run) last) limit none within

    groups : (n : ℕ) (d : Dir) → GroupKeepsRate g t n d
    groups n d y before run after ms is split =
        let start = beginnings-are_legal g (before ++ turn_at ms ∷ run) after (subst (λ z. IsLegal g z) split legal) in
        group_bounded g n y d is start.1 before run ms refl
