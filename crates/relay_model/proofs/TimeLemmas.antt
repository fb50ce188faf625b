-- Which sides expire as a turn begins: those that are wanted and were not active for as long as their timeout then.
use Rattle.std.proofs.Common.{◌≡◌, ℕ, ◌+◌, ◌-◌, ◌<◌, ◌≤◌, min, Bool, true, false, ◌&&◌, ◌||◌, not, if◌then◌else◌, List, [], ◌∷◌, Option}
use Rattle.std.proofs.Common.{Some, None, ◌⊎◌, inl, inr, refl, sym, ◌∙◌, ap, subst, arith, length, map, fold, count_by}
use Rattle.std.specs.Prelude.{nat_le, nat_lt, filter, slice_index_or, option_map, slice_get}
use Rattle.std.proofs.lemmas.Bool.{and_parts, or_right, leb-true, not-false, cases_lt}
use Rattle.std.proofs.lemmas.List.{get_or-set_same, set_past}
use Rattle.std.proofs.lemmas.List.Folds.{fold-map}
use Rattle.token_bucket.specs.declared.limit.Dir.{Dir}
use Rattle.token_bucket.specs.declared.limit.Dir.TheVariants as dir
use Rattle.ev_types.specs.declared.side.SideId.{SideId}
use Rattle.ev_types.specs.declared.why.Why.{Why}
use Rattle.ev_types.specs.declared.why.Why.TheVariants as why
use Rattle.relay_model.specs.Due.{Due}
use Rattle.ev_types.specs.Sides.{peer, same_end, number}
use Rattle.relay_model.specs.Settings.{Settings}
use Rattle.ev_types.specs.declared.settings.Timeouts.{Timeouts}
use Rattle.ev_types.specs.declared.settings.Marks.{Marks}
use Rattle.relay_model.specs.Plain.{Plain, PlainSide, no_side, Standing, Timer, side_at, put_side, change_side, is_live, all_sides}
use Rattle.relay_model.specs.Rates.{standing_level}
use Rattle.relay_model.specs.Groups.{same_group, members, share_among}
use Rattle.relay_model.specs.Past.{Past}
use Rattle.relay_model.specs.Rooms.{most_at_once, mark_or, read_mark, input_length, raw_output_at, allowance, share_in, at_most}
use Rattle.relay_model.specs.Rooms.{within_rates, may_read, may_write, is_connecting, wants}
use Rattle.relay_model.specs.Reasons.{raise, happened, timeout_flag}
use Rattle.relay_model.specs.Asks.{enabled}
use Rattle.relay_model.specs.Moments.{timeout_of, last_activity, active_at, both_ways, timers_taken, timed, side_timed, time_passed}
use Rattle.relay_model.proofs.EndLemmas.{same_end-eq}
use Rattle.relay_model.proofs.KeepsLemmas.{Keeps, Keeps-refl, Keeps-trans, Keeps-side, Keeps-put, Keeps-timers, raised, change_side-other}

-- a direction of a side is wanted and was not active for as long as its timeout
pub record IsLate (g : Settings) (p : Past) (s : Plain) (e : SideId) : Type 0 where
  pub dir : Dir
  pub has_timeout : 1 ≤ timeout_of (side_at s e) dir
  pub wanted : wants g p s e dir ≡ true
  pub idle : timeout_of (side_at s e) dir ≤ s.time - last_activity (side_at s e) dir

abbrev read_mark_of : Marks → ℕ
read_mark_of m = mark_or m.read_high most_at_once

-- What wants look at of a side, but for what time changes

record Core : Type 0 where
  live : Bool
  connecting : Bool
  ended : Bool
  failed : Bool
  write_ended : Bool
  marks : Marks
  timeouts : Timeouts
  limit : Option Standing
  group : Option ℕ

abbrev core : PlainSide → Core
core x = record {
  live = x.live;
  connecting = x.connecting;
  ended = x.ended;
  failed = x.failed;
  write_ended = x.write_ended;
  marks
      = x.marks;
  timeouts = x.timeouts;
  limit = x.limit;
  group = x.group;
}

-- the members of groups are the same
members-same : (s new : Plain) → Keeps core s new → (n : ℕ) → members new n ≡ members s n
members-same s new k n = sym (by_core new.sides) ∙ ap counted k.sides ∙ by_core s.sides
  where
    counted : List Core → ℕ
    counted xs = fold (λ (a : ℕ) (x : Core). a + (if x.live && same_group x.group n then 1 else 0)) 0 xs

    by_core : (xs : List PlainSide) → counted (map core xs) ≡ count_by (λ x. x.live && same_group x.group n) xs
    by_core xs = fold-map (λ (a : ℕ) (x : Core). a + (if x.live && same_group x.group n then 1 else 0)) core 0 xs

-- what limit and group leave stays
within-same : (g : Settings) (p : Past) (s new : Plain) (e : SideId) (d : Dir) (n m : ℕ) → Keeps core s new → n ≡ m → within_rates
    g p new e d n ≡ within_rates g p s e d m
within-same g p s new e d n m k same =
    let c = Keeps-side core s new e k in
    let share : share_in g p new d (side_at new e).group ≡ share_in g p s d (side_at s e).group = ap (share_in g p new d)
    (ap (λ z. z.group) c) ∙ by_group (side_at s e).group in
    let own : allowance p new e d ≡ allowance p s e d =
    ap (λ o. option_map (λ x. standing_level x d (p.turns e d) new.time) o) (ap (λ z. z.limit) c)
    ∙ ap (λ time. option_map (λ x. standing_level x d (p.turns e d) time) (side_at s e).limit) k.time in
    λ i. at_most (share i) (at_most (own i) (same i))
  where
    by_group : (o : Option ℕ) → share_in g p new d o ≡ share_in g p s d o
    by_group None = refl
    by_group (Some group) =
        let time = k.time in
        let count = members-same s new k group in
        λ i. option_map (λ x. share_among x d (p.group_turns group d) (time i) (count i)) (slice_get g.groups group)

input-same : (g : Settings) (p : Past) (s new : Plain) (e : SideId) → new.flows ≡ s.flows → input_length g p new e ≡ input_length g p s e
input-same g p s new e h = ap (λ flows. input_length g p (record s { flows = flows }) e) h

output-same : (g : Settings) (p : Past) (s new : Plain) (e : SideId) → new.flows ≡ s.flows → length (raw_output_at g p new e) ≡
    length (raw_output_at g p s e)
output-same g p s new e h = ap (λ flows. length (raw_output_at g p (record s { flows = flows }) e)) h

-- What the start of a turn has done so far, against the state in which it begins

record Eased (g : Settings) (p : Past) (s new : Plain) : Type 0 where
  keeps : Keeps core s new
  flows : new.flows ≡ s.flows
  reads : (e : SideId) → (side_at new e).reads ≡ true → (side_at s e).reads ≡ true
  writes : (e : SideId) → (side_at new e).writes ≡ true → (side_at s e).writes ≡ true
  last : (e : SideId) (d : Dir) → (last_activity (side_at new e) d ≡ last_activity (side_at s e) d) ⊎
      (last_activity (side_at new e) d ≡ s.time)
  expired : (e : SideId) → (side_at new e).expired ≡ true → ((side_at s e).expired ≡ true) ⊎ IsLate g p s e

may_read-before : (g : Settings) (p : Past) (s new : Plain) (e : SideId) → Eased g p s new → may_read new e ≡ true → may_read s e ≡ true
may_read-before g p s new e k h =
    let c = Keeps-side core s new e k.keeps in
    let d = Keeps-side core s new (peer e) k.keeps in
    let x = side_at new e in
    let parts = and_parts (x.live && not x.connecting && x.reads && not x.ended && not x.failed) (is_live new (peer e)) h in
    let parts2 = and_parts (x.live && not x.connecting && x.reads && not x.ended) (not x.failed) parts.0 in
    let parts3 = and_parts (x.live && not x.connecting && x.reads) (not x.ended) parts2.0 in
    let parts4 = and_parts (x.live && not x.connecting) x.reads parts3.0 in
    let reads : (side_at s e).reads ≡ x.reads = k.reads e parts4.1 ∙ sym parts4.1 in
    (λ i. (sym c i).live && not (sym c i).connecting && reads i && not (sym c i).ended && not (sym c i).failed && (sym d i).live) ∙ h

may_write-before : (g : Settings) (p : Past) (s new : Plain) (e : SideId) → Eased g p s new → may_write new e ≡ true → may_write s e ≡ true
may_write-before g p s new e k h =
    let c = Keeps-side core s new e k.keeps in
    let x = side_at new e in
    let parts = and_parts (x.live && not x.connecting && x.writes && not x.failed) (not x.write_ended) h in
    let parts2 = and_parts (x.live && not x.connecting && x.writes) (not x.failed) parts.0 in
    let parts3 = and_parts (x.live && not x.connecting) x.writes parts2.0 in
    let writes : (side_at s e).writes ≡ x.writes = k.writes e parts3.1 ∙ sym parts3.1 in
    (λ i. (sym c i).live && not (sym c i).connecting && writes i && not (sym c i).failed && not (sym c i).write_ended) ∙ h

-- a direction that is wanted after some was done was wanted before
wanted-before : (g : Settings) (p : Past) (s new : Plain) (e : SideId) (d : Dir) → Eased g p s new → wants g p new e d ≡ true →
    wants g p s e d ≡ true
wanted-before g p s new e dir.Read k h = go (may_read new e) refl (may_read s e) refl h
  where
    room : min most_at_once (read_mark new e - input_length g p new e) ≡ min most_at_once (read_mark s e - input_length g p s e)
    room =
        let marks : read_mark new e ≡ read_mark s e = ap (λ z. read_mark_of z.marks) (Keeps-side core s new e k.keeps) in
        let bytes = input-same g p s new e k.flows in
        λ i. min most_at_once (marks i - bytes i)

    go : (a : Bool) → may_read new e ≡ a → (b : Bool) → may_read s e ≡ b →
        nat_le 1 (if a then within_rates g p new e dir.Read (min most_at_once (read_mark new e - input_length g p new e)) else 0) ≡ true →
        nat_le 1 (if b then within_rates g p s e dir.Read (min most_at_once (read_mark s e - input_length g p s e)) else 0) ≡ true
    go true a true b h = sym (ap (nat_le 1) (within-same g p s new e dir.Read _ _ k.keeps room)) ∙ h
    go true a false b h = absurd (let was = may_read-before g p s new e k a in cc)
    go false a b c h = absurd (cc)
wanted-before g p s new e dir.Write k h = go (may_write new e) refl (may_write s e) refl h
  where
    c : core (side_at new e) ≡ core (side_at s e)
    c = Keeps-side core s new e k.keeps

    room : min most_at_once (length (raw_output_at g p new e)) ≡ min most_at_once (length (raw_output_at g p s e))
    room = ap (min most_at_once) (output-same g p s new e k.flows)

    go : (a : Bool) → may_write new e ≡ a → (b : Bool) → may_write s e ≡ b →
        (nat_le 1 (if a then within_rates g p new e dir.Write (min most_at_once (length (raw_output_at g p new e))) else 0)
        || (is_connecting new e && not (side_at new e).failed)) ≡ true →
        (nat_le 1 (if b then within_rates g p s e dir.Write (min most_at_once (length (raw_output_at g p s e))) else 0)
        || (is_connecting s e && not (side_at s e).failed)) ≡ true
    go true a true b h =
        (λ i. nat_le 1 (sym (within-same g p s new e dir.Write _ _ k.keeps room) i) || ((sym c i).live && (sym c i).connecting &&
        not (sym c i).failed)) ∙ h
    go true a false b h = absurd (let was = may_write-before g p s new e k a in cc)
    go false a true b h = or_right _ _ ((λ i. (sym c i).live && (sym c i).connecting && not (sym c i).failed) ∙ h)
    go false a false b h = (λ i. (sym c i).live && (sym c i).connecting && not (sym c i).failed) ∙ h

-- Steps

pub put-cases : (e z : SideId) (x : PlainSide) (s : Plain) → ((z ≡ e) × (side_at (put_side e x s) z ≡ x)) ⊎
    (side_at (put_side e x s) z ≡ side_at s z)
put-cases e z x s = go (same_end z e) refl (cases_lt (number e) (length s.sides))
  where
    go : (q : Bool) → same_end z e ≡ q → (number e < length s.sides) ⊎ (length s.sides ≤ number e) →
        ((z ≡ e) × (side_at (put_side e x s) z ≡ x)) ⊎ (side_at (put_side e x s) z ≡ side_at s z)
    go false q o = inr (change_side-other e z (λ _. x) s q)
    go true q (inl lt) = let same = same_end-eq z e q in inl (
      same,
      ap (λ v. side_at (put_side e x s) v) same ∙ get_or-set_same
          s.sides (number e) x no_side lt,
    )
    go true q (inr ge) = inr (ap (λ xs. slice_index_or xs (number z) no_side) (set_past s.sides (number e) x ge))

Eased-refl : (g : Settings) (p : Past) (s : Plain) → Eased g p s s
Eased-refl g p s = record {
  keeps = Keeps-refl core s;
  flows = refl;
  reads = λ e h. h;
  writes = λ e h. h;
  last = λ e d. inl refl;
  expired = λ e h. inl h;
}

Eased-due : (g : Settings) (p : Past) (s new : Plain) (ds : List Due) → Eased g p s new → Eased g p s (record new { due = ds })
Eased-due g p s new ds k = record {
  keeps = record { time = k.keeps.time; turn = k.keeps.turn; opened = k.keeps.opened; flows = k.keeps.flows; sides = k.keeps.sides };
  flows = k.flows;
  reads = k.reads;
  writes = k.writes;
  last = k.last;
  expired = k.expired;
}

Eased-raise : (g : Settings) (p : Past) (s new : Plain) (e : SideId) (y : Why) → Eased g p s new → Eased g p s (raise g e y new)
Eased-raise g p s new e y k = let r = raised g e y new in subst (λ z. Eased g p s z) (sym r.1) (Eased-due g p s new r.0 k)

core-active : (time : ℕ) (d : Dir) (x : PlainSide) → core (active_at time d x) ≡ core x
core-active time dir.Read x = refl
core-active time dir.Write x = refl

reads-active : (time : ℕ) (d : Dir) (x : PlainSide) → (active_at time d x).reads ≡ x.reads
reads-active time dir.Read x = refl
reads-active time dir.Write x = refl

writes-active : (time : ℕ) (d : Dir) (x : PlainSide) → (active_at time d x).writes ≡ x.writes
writes-active time dir.Read x = refl
writes-active time dir.Write x = refl

expired-active : (time : ℕ) (d : Dir) (x : PlainSide) → (active_at time d x).expired ≡ x.expired
expired-active time dir.Read x = refl
expired-active time dir.Write x = refl

last-active : (time : ℕ) (d : Dir) (x : PlainSide) (f : Dir) → (last_activity (active_at time d x) f ≡ last_activity x f) ⊎
    (last_activity (active_at time d x) f ≡ time)
last-active time dir.Read x dir.Read = inr refl
last-active time dir.Read x dir.Write = inl refl
last-active time dir.Write x dir.Read = inl refl
last-active time dir.Write x dir.Write = inr refl

Eased-active : (g : Settings) (p : Past) (s new : Plain) (e : SideId) (d : Dir) → Eased g p s new → Eased g p s
    (change_side e (active_at new.time d) new)
Eased-active g p s new e d k = record {
  keeps = Keeps-trans core s new _ k.keeps (Keeps-put core e x new (core-active new.time d (side_at new e)));
  flows = k.flows;
  reads = λ z h. k.reads z (sym (Keeps-side (λ v. v.reads) new _ z (Keeps-put (λ v. v.reads) e x new
      (reads-active new.time d (side_at new e)))) ∙ h);
  writes = λ z h. k.writes z (sym (Keeps-side (λ v. v.writes) new _ z (Keeps-put (λ v. v.writes) e x new
      (writes-active new.time d (side_at new e)))) ∙ h);
  last = λ z f. last z f (put-cases e z x new);
  expired = λ z h. k.expired z (sym (Keeps-side (λ v. v.expired) new _ z (Keeps-put (λ v. v.expired) e x new
      (expired-active new.time d (side_at new e)))) ∙ h);
}
  where
    x : PlainSide
    x = active_at new.time d (side_at new e)

    older : (z : SideId) (f : Dir) (n : ℕ) → n ≡ last_activity (side_at new z) f → (n ≡ last_activity (side_at s z) f) ⊎ (n ≡ s.time)
    older z f n h = go (k.last z f)
      where
        go : (last_activity (side_at new z) f ≡ last_activity (side_at s z) f) ⊎ (last_activity (side_at new z) f ≡ s.time) →
            (n ≡ last_activity (side_at s z) f) ⊎ (n ≡ s.time)
        go (inl a) = inl (h ∙ a)
        go (inr a) = inr (h ∙ a)

    last : (z : SideId) (f : Dir) → ((z ≡ e) × (side_at (put_side e x new) z ≡ x)) ⊎ (side_at (put_side e x new) z ≡ side_at new z) →
        (last_activity (side_at (put_side e x new) z) f ≡ last_activity (side_at s z) f) ⊎
        (last_activity (side_at (put_side e x new) z) f ≡ s.time)
    last z f (inr same) = older z f _ (ap (λ v. last_activity v f) same)
    last z f (inl h) = go (last-active new.time d (side_at new e) f)
      where
        go : (last_activity x f ≡ last_activity (side_at new e) f) ⊎ (last_activity x f ≡ new.time) →
            (last_activity (side_at (put_side e x new) z) f ≡ last_activity (side_at s z) f) ⊎
            (last_activity (side_at (put_side e x new) z) f ≡ s.time)
        go (inl a) = older z f _ (ap (λ v. last_activity v f) h.1 ∙ a ∙ ap (λ v. last_activity (side_at new v) f) (sym h.0))
        go (inr a) = inr (ap (λ v. last_activity v f) h.1 ∙ a ∙ k.keeps.time)

-- a direction is disabled, and its side has expired
abbrev stopped : Dir → PlainSide → PlainSide
stopped d x = record (enabled d false x) { expired = true }

core-stopped : (d : Dir) (x : PlainSide) → core (stopped d x) ≡ core x
core-stopped dir.Read x = refl
core-stopped dir.Write x = refl

reads-stopped : (d : Dir) (x : PlainSide) → (stopped d x).reads ≡ true → x.reads ≡ true
reads-stopped dir.Read x h = absurd (cc)
reads-stopped dir.Write x h = h

writes-stopped : (d : Dir) (x : PlainSide) → (stopped d x).writes ≡ true → x.writes ≡ true
writes-stopped dir.Read x h = h
writes-stopped dir.Write x h = absurd (cc)

last-stopped : (d : Dir) (x : PlainSide) (f : Dir) → last_activity (stopped d x) f ≡ last_activity x f
last-stopped dir.Read x dir.Read = refl
last-stopped dir.Read x dir.Write = refl
last-stopped dir.Write x dir.Read = refl
last-stopped dir.Write x dir.Write = refl

Eased-stopped : (g : Settings) (p : Past) (s new : Plain) (e : SideId) (d : Dir) → IsLate g p s e → Eased g p s new → Eased g p s
    (change_side e (stopped d) new)
Eased-stopped g p s new e d late k = record {
  keeps = Keeps-trans core s new _ k.keeps (Keeps-put core e x new (core-stopped d (side_at new e)));
  flows = k.flows;
  reads = λ z h. reads z h (put-cases e z x new);
  writes = λ z h. writes z h (put-cases e z x new);
  last = λ z f. last z f (k.last z f);
  expired = λ z h. expired z h (put-cases e z x new);
}
  where
    x : PlainSide
    x = stopped d (side_at new e)

    reads : (z : SideId) → (side_at (put_side e x new) z).reads ≡ true → ((z ≡ e) × (side_at (put_side e x new) z ≡ x)) ⊎
        (side_at (put_side e x new) z ≡ side_at new z) → (side_at s z).reads ≡ true
    reads z h (inl a) = k.reads z (ap (λ v. (side_at new v).reads) a.0 ∙ reads-stopped d (side_at new e) (ap (λ v. v.reads) (sym a.1) ∙ h))
    reads z h (inr a) = k.reads z (ap (λ v. v.reads) (sym a) ∙ h)

    writes : (z : SideId) → (side_at (put_side e x new) z).writes ≡ true → ((z ≡ e) × (side_at (put_side e x new) z ≡ x)) ⊎
        (side_at (put_side e x new) z ≡ side_at new z) → (side_at s z).writes ≡ true
    writes z h (inl a) = k.writes z (ap (λ v. (side_at new v).writes) a.0 ∙ writes-stopped d (side_at new e)
        (ap (λ v. v.writes) (sym a.1) ∙ h))
    writes z h (inr a) = k.writes z (ap (λ v. v.writes) (sym a) ∙ h)

    same : (z : SideId) (f : Dir) → last_activity (side_at (put_side e x new) z) f ≡ last_activity (side_at new z) f
    same z f = Keeps-side (λ v. last_activity v f) new (put_side e x new) z (Keeps-put (λ v. last_activity v f) e x new
        (last-stopped d (side_at new e) f))

    last : (z : SideId) (f : Dir) → (last_activity (side_at new z) f ≡ last_activity (side_at s z) f) ⊎
        (last_activity (side_at new z) f ≡ s.time) →
        (last_activity (side_at (put_side e x new) z) f ≡ last_activity (side_at s z) f) ⊎
        (last_activity (side_at (put_side e x new) z) f ≡ s.time)
    last z f (inl a) = inl (same z f ∙ a)
    last z f (inr a) = inr (same z f ∙ a)

    expired : (z : SideId) → (side_at (put_side e x new) z).expired ≡ true → ((z ≡ e) × (side_at (put_side e x new) z ≡ x)) ⊎
        (side_at (put_side e x new) z ≡ side_at new z) → ((side_at s z).expired ≡ true) ⊎ IsLate g p s z
    expired z h (inl a) = inr (subst (λ v. IsLate g p s v) (sym a.0) late)
    expired z h (inr a) = k.expired z (ap (λ v. v.expired) (sym a) ∙ h)

timeout-core : (g : Settings) (p : Past) (s new : Plain) (e : SideId) (d : Dir) → Keeps core s new → timeout_of (side_at new e) d ≡
    timeout_of (side_at s e) d
timeout-core g p s new e dir.Read k = ap (λ z. z.timeouts.read_ms) (Keeps-side core s new e k)
timeout-core g p s new e dir.Write k = ap (λ z. z.timeouts.write_ms) (Keeps-side core s new e k)

-- what is late after some was done was late before
late-before : (g : Settings) (p : Past) (s new : Plain) (e : SideId) (d : Dir) → Eased g p s new → 1 ≤ timeout_of (side_at new e) d
    → wants g p new e d ≡ true →
    timeout_of (side_at new e) d ≤ new.time - last_activity (side_at new e) d → IsLate g p s e
late-before g p s new e d k has wanted idle = record {
  dir = d;
  has_timeout = let t = timeout-core g p s new e d k.keeps in omega arith;
  wanted = wanted-before g p s new e d k wanted;
  idle = go (k.last e d);
}
  where
    go : (last_activity (side_at new e) d ≡ last_activity (side_at s e) d) ⊎ (last_activity (side_at new e) d ≡ s.time) →
        timeout_of (side_at s e) d ≤ s.time - last_activity (side_at s e) d
    go (inl a) = let t = timeout-core g p s new e d k.keeps in let time = k.keeps.time in omega arith
    go (inr a) = let t = timeout-core g p s new e d k.keeps in let time = k.keeps.time in absurd (omega arith)

Eased-timed : (g : Settings) (p : Past) (s new : Plain) (e : SideId) (d : Dir) → Eased g p s new → Eased g p s (timed g p e new d)
Eased-timed g p s new e d k =
    go (not ((side_at new e).live && nat_le 1 (timeout_of (side_at new e) d))) refl (not (wants g p new e d)) refl
    (nat_le (timeout_of (side_at new e) d) (new.time - last_activity (side_at new e) d)) refl
  where
    go : (a : Bool) → not ((side_at new e).live && nat_le 1 (timeout_of (side_at new e) d)) ≡ a → (b : Bool) → not (wants g p new e d) ≡ b →
        (c : Bool) → nat_le (timeout_of (side_at new e) d) (new.time - last_activity (side_at new e) d) ≡ c →
        Eased g p s (if a then new else (if b then change_side e (active_at new.time d) new
        else (if c then raise g e (happened d timeout_flag) (change_side e (stopped d) new) else new)))
    go true a b h c i = k
    go false a true h c i = Eased-active g p s new e d k
    go false a false h false i = k
    go false a false h true i =
        let has = (and_parts (side_at new e).live (nat_le 1 (timeout_of (side_at new e) d)) (not-false _ a)).1 in
        let late = late-before g p s new e d k (leb-true 1 (timeout_of (side_at new e) d) has) (not-false (wants g p new e d) h)
        (leb-true _ _ i) in
        Eased-raise g p s _ e (happened d timeout_flag) (Eased-stopped g p s new e d late k)

Eased-fold : {X : Type 0} (g : Settings) (p : Past) (s : Plain) (step : Plain → X → Plain) →
    ((new : Plain) (x : X) → Eased g p s new → Eased g p s (step new x)) → (new : Plain) (xs : List X) →
    Eased g p s new → Eased g p s (fold step new xs)
Eased-fold g p s step h new [] k = k
Eased-fold g p s step h new (x ∷ xs) k = Eased-fold g p s step h (step new x) xs (h new x k)

Eased-timers : (g : Settings) (p : Past) (s : Plain) → Eased g p s (timers_taken g s)
Eased-timers g p s =
    let later : List Timer = filter (λ x. nat_lt s.time x.deadline) s.timers in
    let come : List Timer = filter (λ x. nat_le x.deadline s.time) s.timers in
    let begin : Eased g p s (record s { timers = later }) = record {
      keeps = Keeps-timers core s later;
      flows = refl;
      reads = λ e h. h;
      writes = λ e h. h;
      last = λ e d. inl refl;
      expired = λ e h. inl h;
    } in
    Eased-fold g p s (λ (state : Plain) (x : Timer). raise g x.side why.Timer state) (λ new x k. Eased-raise g p s new x.side
    why.Timer k) (record s { timers = later }) come begin

time-eased : (g : Settings) (p : Past) (s : Plain) → Eased g p s (time_passed g p s)
time-eased g p s =
    Eased-fold g p s (side_timed g p) (λ new z m. Eased-fold g p s (timed g p z) (λ now d n. Eased-timed g p s now z d n) new
    both_ways m) (timers_taken g s) (all_sides s) (Eased-timers g p s)

pub time-expired : (g : Settings) (p : Past) (s : Plain) (e : SideId) → (side_at (time_passed g p s) e).expired ≡ true →
    ((side_at s e).expired ≡ true) ⊎ IsLate g p s e
time-expired g p s e h = (time-eased g p s).expired e h

pub time-flows : (g : Settings) (p : Past) (s : Plain) → (time_passed g p s).flows ≡ s.flows
time-flows g p s = (time-eased g p s).flows

pub time-marks : (g : Settings) (p : Past) (s : Plain) (e : SideId) → (side_at (time_passed g p s) e).marks ≡ (side_at s e).marks
time-marks g p s e = ap (λ z. z.marks) (Keeps-side core s (time_passed g p s) e (time-eased g p s).keeps)
