-- What is kept of groups goes on fitting as turns begin and bytes are moved.
use Rattle.std.proofs.Common.{◌≡◌, ◌≢◌, ◌⊎◌, inl, inr, ℕ, zero, suc, ◌-◌, ◌/◌, ◌<◌, ◌≤◌, true, false, max, List, [], ◌∷◌}
use Rattle.std.proofs.Common.{◌++◌, length, map, Option, Some, None, refl, sym, ◌∙◌, ap, subst, arith}
use Rattle.std.specs.Prelude.{slice_get, if◌then◌else◌, count_by}
use Rattle.std.specs.Option.{option_map_or}
use Rattle.std.specs.List.{AllByRecursion}
use Rattle.std.proofs.lemmas.Bool.Decides.{eqb_tells}
use Rattle.std.proofs.lemmas.List.{length-map}
use Rattle.std.proofs.lemmas.Option.{same_Some}
use Rattle.token_bucket.specs.declared.limit.Dir.{Dir}
use Rattle.token_bucket.specs.declared.limit.Dir.TheVariants as dir
use Rattle.token_bucket.specs.Levels.{limit_of}
use Rattle.token_bucket.specs.Spells.{ticks, Beat, Begins, Moves, spells}
use Rattle.ev_types.specs.declared.side.SideId.{SideId}
use Rattle.ev_types.specs.declared.entry.Entry.TheVariants as entry
use Rattle.ev_types.specs.Sides.{number}
use Rattle.ev_types.specs.Trace.{Event, Trace}
use Rattle.rate_group.specs.GroupValue.{GroupValue, GroupsValue}
use Rattle.rate_group.specs.Steps.{lane_of, lane_refilled, spent_in, refilled_to, changed_at, group_of, spent}
use Rattle.rate_group.specs.Steps.{all_refilled, lane_less}
use Rattle.rate_group.proofs.KnownMembers.{length-changed}
use Rattle.relay_model.specs.Settings.{Settings, GroupSet}
use Rattle.relay_model.specs.Plain.{Plain, side_at, is_live, sides_from}
use Rattle.relay_model.specs.Groups.{same_group, group_after, beat_among, beats_among, group_spells, least_share}
use Rattle.relay_model.proofs.Frames.{rates_of}
use Rattle.relay_model.proofs.PastLemmas.{beats_among-push}
use Rattle.relay_steps.specs.Grouped.{GroupLaneFits, GroupFits, Grouped}
use Rattle.relay_steps.specs.Meaning.{HasItsGroups}
use Rattle.relay_steps.proofs.BucketLemmas.{div-later}
use Rattle.relay_steps.proofs.GroupLemmas.{direction-same, begins-fits, moves-fits}
use Rattle.relay_steps.proofs.RateLemmas.{SameTurns, SameGauged, turns-same}
use Rattle.relay_steps.proofs.RunSteps.{none-step}

-- Lists of groups

pub get_mapped : {A B : Type 0} (f : A → B) (xs : List A) (n : ℕ) (v : B) → slice_get (map f xs) n ≡ Some v →
    (w : A) × (slice_get xs n ≡ Some w) × (f w ≡ v)
get_mapped f [] n v h = absurd (cc)
get_mapped f (x ∷ xs) zero v h = (x, refl, same_Some (f x) v h)
get_mapped f (x ∷ xs) (suc n) v h = get_mapped f xs n v h

abbrev Changed : List GroupValue → ℕ → ℕ → (GroupValue → GroupValue) → GroupValue → Type 0
Changed gs n k f v =
    ((n ≡ k) × (w : GroupValue) × (slice_get gs n ≡ Some w) × (f w ≡ v)) ⊎ ((n ≢ k) × (slice_get gs n ≡ Some v))

get_changed : (gs : List GroupValue) (n k : ℕ) (f : GroupValue → GroupValue) (v : GroupValue) → slice_get (changed_at k f gs) n ≡ Some v →
    Changed gs n k f v
get_changed [] n k f v h = absurd (cc)
get_changed (g ∷ gs) zero zero f v h = inl (refl, g, refl, same_Some (f g) v h)
get_changed (g ∷ gs) zero (suc k) f v h = inr ((λ e. absurd (omega (arith, e))), h)
get_changed (g ∷ gs) (suc n) zero f v h = inr ((λ e. absurd (omega (arith, e))), h)
get_changed (g ∷ gs) (suc n) (suc k) f v h = elim (get_changed gs n k f v h) [
  | inl q ↦ inl (ap suc q.0, q.1, q.2, q.3)
  | inr q ↦ inr ((λ e. q.0 (omega (arith, e))), q.1)
]

all-get : {A : Type 0} (P : A → Type 0) (xs : List A) → AllByRecursion P xs → (n : ℕ) (x : A) → slice_get xs n ≡ Some x → P x
all-get P [] h n x is = absurd (cc)
all-get P (y ∷ ys) h zero x is = subst P (same_Some y x is) h.0
all-get P (y ∷ ys) h (suc n) x is = all-get P ys h.1 n x is

least-some : (g : Settings) → HasItsGroups g → (n : ℕ) (x : GroupSet) → slice_get g.groups n ≡ Some x → 0 < least_share x
least-some g h n x is =
    let share = all-get (λ (z : GroupSet). 0 < z.share) g.groups h.shares n x is in
    let a = x.cfg.reads in
    let b = x.cfg.writes in
    omega (arith, share, a, b)

-- One group

module _ (g : Settings) (t : Trace) (time n : ℕ) (x : GroupSet) where
  pub group-same : (u : Trace) (v : GroupValue) → ((d : Dir) → group_spells g n d u ≡ group_spells g n d t) → GroupFits g t time n x v →
      GroupFits g u time n x v
  group-same u v same k = record {
    cfg = k.cfg;
    least = k.least;
    tick = k.tick;
    each = λ d. direction-same x d (beats_among g n d [] t) (beats_among g n d [] u) time (lane_of v d) (same d) (k.each d);
  }

  pushed : (d : Dir) (y : Event) (b : Beat) → beat_among g n d t y ≡ b →
      beats_among g n d [] (t ++ y ∷ []) ≡ beats_among g n d [] t ++ b ∷ []
  pushed d y b is = beats_among-push g n d [] t y ∙ ap (λ z. beats_among g n d [] t ++ z ∷ []) is

  group-silent : (y : Event) (v : GroupValue) → ((d : Dir) → beat_among g n d t y ≡ Moves 0) → GroupFits g t time n x v →
      GroupFits g (t ++ y ∷ []) time n x v
  group-silent y v none k =
      group-same (t ++ y ∷ []) v (λ d. ap spells (pushed d y (Moves 0) (none d)) ∙ none-step (beats_among g n d [] t)) k

  -- a turn begins
  group-turn : (ms : ℕ) (v : GroupValue) → time ≤ ms → 0 < least_share x → GroupFits g t time n x v →
      GroupFits g (t ++ (entry.Turn ms, []) ∷ []) ms n x (refilled_to ms v)
  group-turn ms v later some k = record {
    cfg = k.cfg;
    least = k.least;
    tick =
        (λ i. max (k.tick i) (ms / (k.cfg i).tick_ms))
        ∙ (let d = div-later time ms x.cfg.tick_ms x.cfg.ticks later in omega (arith, d));
    each = λ d.
        subst (λ z. GroupLaneFits x d z ms (lane_of (refilled_to ms v) d)) (sym (pushed d (entry.Turn ms, []) (Begins ms) refl))
        (subst (GroupLaneFits x d (beats_among g n d [] t ++ Begins ms ∷ []) ms) (sym (lane-is d))
        (begins-fits x d (beats_among g n d [] t) time ms brought (lane_of v d) later (same d) some (k.each d)));
  }
    where
      brought : ℕ
      brought = ms / x.cfg.tick_ms - time / x.cfg.tick_ms

      same : (d : Dir) → brought ≡ ticks (limit_of x.cfg d).tick time ms
      same dir.Read = refl
      same dir.Write = refl

      lane-is : (d : Dir) → lane_of (refilled_to ms v) d ≡ lane_refilled (limit_of x.cfg d) (least_share x) brought (lane_of v d)
      lane-is dir.Read =
          λ i. lane_refilled (limit_of (k.cfg i) dir.Read) (k.least i) (ms / (k.cfg i).tick_ms - k.tick i) v.read
      lane-is dir.Write =
          λ i. lane_refilled (limit_of (k.cfg i) dir.Write) (k.least i) (ms / (k.cfg i).tick_ms - k.tick i) v.write

  -- bytes are moved in one direction by a member
  group-spent : (f : Dir) (y : Event) (m : ℕ) (v : GroupValue) → beat_among g n f t y ≡ Moves m →
      ((d : Dir) → d ≢ f → beat_among g n d t y ≡ Moves 0) → 0 < length (group_spells g n f t) → GroupFits g t time n x v →
      GroupFits g (t ++ y ∷ []) time n x (spent_in f m v)
  group-spent f y m v own across begun k = by_dir f refl
    where
      some : spells (beats_among g n f [] t) ≡ [] → m ≡ 0
      some empty = let none = ap length empty in absurd (omega (arith, none, begun))

      moved : (d : Dir) → d ≡ f → GroupLaneFits x d (beats_among g n d [] (t ++ y ∷ [])) time (lane_less m (lane_of v d))
      moved d is =
          subst (λ e. GroupLaneFits x e (beats_among g n e [] (t ++ y ∷ [])) time (lane_less m (lane_of v e))) (sym is)
          (subst (λ z. GroupLaneFits x f z time (lane_less m (lane_of v f))) (sym (pushed f y (Moves m) own))
          (moves-fits x f (beats_among g n f [] t) time m (lane_of v f) some (k.each f)))

      stays : (d : Dir) → d ≢ f → GroupLaneFits x d (beats_among g n d [] (t ++ y ∷ [])) time (lane_of v d)
      stays d apart =
          direction-same x d (beats_among g n d [] t) (beats_among g n d [] (t ++ y ∷ [])) time (lane_of v d)
          (ap spells (pushed d y (Moves 0) (across d apart)) ∙ none-step (beats_among g n d [] t)) (k.each d)

      by_dir : (e : Dir) → e ≡ f → GroupFits g (t ++ y ∷ []) time n x (spent_in e m v)
      by_dir dir.Read is = record {
        cfg = k.cfg;
        least = k.least;
        tick = k.tick;
        each = read_each;
      }
        where
          read_each : (d : Dir) → GroupLaneFits x d (beats_among g n d [] (t ++ y ∷ [])) time (lane_of (spent_in dir.Read m v) d)
          read_each dir.Read = moved dir.Read is
          read_each dir.Write = stays dir.Write (λ h. let bad : dir.Write ≡ dir.Read = h ∙ sym is in absurd (cc))
      by_dir dir.Write is = record {
        cfg = k.cfg;
        least = k.least;
        tick = k.tick;
        each = write_each;
      }
        where
          write_each : (d : Dir) → GroupLaneFits x d (beats_among g n d [] (t ++ y ∷ [])) time (lane_of (spent_in dir.Write m v) d)
          write_each dir.Write = moved dir.Write is
          write_each dir.Read = stays dir.Read (λ h. let bad : dir.Read ≡ dir.Write = h ∙ sym is in absurd (cc))

-- All groups

-- where groups of sides, links and the time are as they were
pub record SameMembers (p q : Plain) : Type 0 where
  pub opened : q.opened ≡ p.opened
  pub time : q.time ≡ p.time
  pub group : (a : SideId) → (side_at q a).group ≡ (side_at p a).group
  pub live : (a : SideId) → is_live q a ≡ is_live p a

pub grouped-still : (g : Settings) (t u : Trace) (p q : Plain) (x : GroupsValue) → SameMembers p q → SameTurns t u → Grouped g t p x →
    Grouped g u q x
grouped-still g t u p q x same told k = record {
  many = k.many;
  each = λ n y v a b.
      subst (λ z. GroupFits g u z n y v) (sym same.time) (group-same g t p.time n y u v (told.groups g n) (k.each n y v a b));
  member = λ e. k.member e ∙ sym (same.group e);
  once = k.once;
  counted = λ n.
      k.counted n
      ∙ (λ i. count_by (λ e. same_group ((sym (same.group e)) i) n) (sides_from 0 ((sym same.opened) i)));
  known = λ e n is. k.known e n (sym (same.group e) ∙ is);
  freed = λ e dead. same.group e ∙ k.freed e (sym (same.live e) ∙ dead);
}

pub grouped-same : (g : Settings) (t u : Trace) (p q : Plain) (x : GroupsValue) → SameGauged p q → SameTurns t u → Grouped g t p x →
    Grouped g u q x
grouped-same g t u p q x same told k =
    grouped-still g t u p q x
    (record { opened = same.opened; time = same.time; group = λ a. ap (λ z. z.1) (same.rates a); live = same.live }) told k

-- A turn begins: all groups are refilled.
pub turned-grouped : (g : Settings) (t : Trace) (ms : ℕ) (p q : Plain) (x : GroupsValue) → HasItsGroups g → p.time ≤ ms →
    q.opened ≡ p.opened → q.time ≡ ms → ((a : SideId) → rates_of (side_at q a) ≡ rates_of (side_at p a)) →
    ((a : SideId) → is_live q a ≡ is_live p a) → Grouped g t p x → Grouped g (t ++ (entry.Turn ms, []) ∷ []) q (all_refilled ms x)
turned-grouped g t ms p q x has later opened time rates live k = record {
  many = length-map x.groups (refilled_to ms) ∙ k.many;
  each = λ n y v a b.
      let w = get_mapped (refilled_to ms) x.groups n v b in
      subst (λ z. GroupFits g (t ++ (entry.Turn ms, []) ∷ []) z n y v) (sym time)
      (subst (GroupFits g (t ++ (entry.Turn ms, []) ∷ []) ms n y) w.2
      (group-turn g t p.time n y ms w.0 later (least-some g has n y a) (k.each n y w.0 a w.1)));
  member = λ e. k.member e ∙ sym (ap (λ z. z.1) (rates e));
  once = k.once;
  counted = λ n.
      k.counted n
      ∙ (λ i. count_by (λ e. same_group ((sym (rates e)) i).1 n) (sides_from 0 ((sym opened) i)));
  known = λ e n is. k.known e n (sym (ap (λ z. z.1) (rates e)) ∙ is);
  freed = λ e dead. ap (λ z. z.1) (rates e) ∙ k.freed e (sym (live e) ∙ dead);
}

-- what an event is to each group, by which a side moves bytes in one direction
pub record MovesAmong (g : Settings) (t : Trace) (e : SideId) (d : Dir) (n : ℕ) (y : Event) : Type 0 where
  pub own : (m : ℕ) → beat_among g m d t y ≡ Moves (if same_group (group_after g e t) m then n else 0)
  pub across : (m : ℕ) (f : Dir) → f ≢ d → beat_among g m f t y ≡ Moves 0

module _ (g : Settings) (t : Trace) (p : Plain) (x : GroupsValue) (e : SideId) (d : Dir) (n : ℕ) (y : Event)
    (moves : MovesAmong g t e d n y) (begun : (m : ℕ) → 0 < length (group_spells g m d t)) (k : Grouped g t p x) where
  abbrev u : Trace
  u = t ++ y ∷ []

  not_moved : (o : Option ℕ) → group_after g e t ≡ o → (m : ℕ) → same_group o m ≡ false → (f : Dir) → beat_among g m f t y ≡ Moves 0
  not_moved o is m other f = by_dir f d refl refl
    where
      own : beat_among g m d t y ≡ Moves 0
      own = moves.own m ∙ ap (λ z. Moves (if same_group z m then n else 0)) is ∙ ap (λ b. Moves (if b then n else 0)) other

      by_dir : (a b : Dir) → f ≡ a → d ≡ b → beat_among g m f t y ≡ Moves 0
      by_dir dir.Read dir.Read p q = subst (λ z. beat_among g m z t y ≡ Moves 0) (sym (p ∙ sym q)) own
      by_dir dir.Write dir.Write p q = subst (λ z. beat_among g m z t y ≡ Moves 0) (sym (p ∙ sym q)) own
      by_dir dir.Read dir.Write p q = moves.across m f (λ h. let bad : dir.Read ≡ dir.Write = sym p ∙ h ∙ q in absurd (cc))
      by_dir dir.Write dir.Read p q = moves.across m f (λ h. let bad : dir.Write ≡ dir.Read = sym p ∙ h ∙ q in absurd (cc))

  spent-each : (o : Option ℕ) → group_after g e t ≡ o → (m : ℕ) (z : GroupSet) (w : GroupValue) → slice_get g.groups m ≡ Some z →
      slice_get (option_map_or (λ h. changed_at h (spent_in d n) x.groups) o x.groups) m ≡ Some w → GroupFits g u p.time m z w
  spent-each None is m z w a b = group-silent g t p.time m z y w (not_moved None is m refl) (k.each m z w a b)
  spent-each (Some h) is m z w a b = elim (get_changed x.groups m h (spent_in d n) w b) [
    | inl q ↦
        let here : same_group (Some h) m ≡ true = elim (eqb_tells h m) [ inl r ↦ r.0 | inr r ↦ absurd (r.1 (sym q.0)) ] in
        subst (GroupFits g u p.time m z) q.3
        (group-spent g t p.time m z d y n q.1
        (moves.own m ∙ ap (λ o. Moves (if same_group o m then n else 0)) is ∙ ap (λ b. Moves (if b then n else 0)) here)
        (λ f apart. moves.across m f apart) (begun m) (k.each m z q.1 a q.2))
    | inr q ↦
        let away : same_group (Some h) m ≡ false = elim (eqb_tells h m) [ inl r ↦ absurd (q.0 (sym r.1)) | inr r ↦ r.0 ] in
        group-silent g t p.time m z y w (not_moved (Some h) is m away) (k.each m z w a q.1)
  ]

  spent-long : (o : Option ℕ) → length (option_map_or (λ h. changed_at h (spent_in d n) x.groups) o x.groups) ≡ length x.groups
  spent-long None = refl
  spent-long (Some h) = length-changed h (spent_in d n) x.groups

  -- A side moves bytes: its group is spent.
  pub moved-grouped : (q : Plain) → SameGauged p q → group_after g e t ≡ (side_at p e).group →
      Grouped g (t ++ y ∷ []) q (spent (number e) d n x)
  moved-grouped q same told =
      let mid : Grouped g u p (spent (number e) d n x) = record {
        many = spent-long (group_of (number e) x.members) ∙ k.many;
        each = spent-each (group_of (number e) x.members) (told ∙ sym (k.member e));
        member = k.member;
        once = k.once;
        counted = k.counted;
        known = k.known;
        freed = k.freed;
      } in
      grouped-same g u u p q (spent (number e) d n x) same (turns-same u) mid
