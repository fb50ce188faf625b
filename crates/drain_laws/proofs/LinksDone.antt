-- Where a run ends and no link is open, every link of its script was opened and is done: a link that was opened in the last turn would be
-- open, so all were opened before; and each free was of a side that was done.
use Rattle.std.proofs.Common.{◌≡◌, ℕ, zero, suc, ◌+◌, ◌-◌, ◌<◌, ◌≤◌, Bool, true, false, ◌&&◌, ◌||◌, not, if◌then◌else◌, List, [], ◌∷◌}
use Rattle.std.proofs.Common.{◌++◌, length}
use Rattle.std.proofs.Common.{fold, ◌⊎◌, inl, inr, refl, sym, ◌∙◌, ap, subst, arith}
use Rattle.std.specs.List.{flat_map}
use Rattle.std.proofs.lemmas.Bool.{cases_lt, or_left, or_right, or_cases, or_parts}
use Rattle.std.proofs.lemmas.List.{take_all, length-drop}
use Rattle.std.proofs.lemmas.List.Sums.{sum_by-cons}
use Rattle.ev_types.specs.declared.side.Side.TheVariants.{In, Out}
use Rattle.ev_types.specs.declared.side.SideId.{SideId}
use Rattle.ev_types.specs.declared.why.Cause.{Cause}
use Rattle.ev_types.specs.declared.why.Cause.TheVariants as cause
use Rattle.ev_types.specs.declared.entry.Entry.TheVariants as entry
use Rattle.ev_types.specs.declared.status.LinkState.TheVariants as state
use Rattle.ev_types.specs.ScriptTurn.{ScriptTurn}
use Rattle.ev_types.specs.Sides.{peer}
use Rattle.ev_types.specs.Trace.{Event, Trace}
use Rattle.relay_model.specs.Trace.{has_ended, is_write_closed}
use Rattle.relay_model.specs.Settings.{Settings}
use Rattle.relay_model.specs.Plain.{Plain, is_live}
use Rattle.relay_model.specs.Stages.{Stage, at}
use Rattle.relay_model.specs.Turn.{Reaches}
use Rattle.relay_model.specs.Lines.{links_by}
use Rattle.relay_model.specs.Causes.{HasCause}
use Rattle.relay_model.specs.Told.{freed_by, is_freed, SideTold}
use Rattle.relay_model.specs.Totals.{is_opened, opened, opened_by, opened_in_turn}
use Rattle.relay_model.specs.Scripted.{begun, links, waiting}
use Rattle.relay_model.specs.Plays.{IsAnswered, TookAll}
use Rattle.relay_model.specs.Stands.{AllAccounted}
use Rattle.relay_model.specs.OpenLinks.{is_link_open, open_links_below, open_link_count, FreesAreDone}
use Rattle.relay_model.specs.ClosingTurns.{scripted_links}
use Rattle.relay_model.proofs.EndLemmas.{same_end-eq}
use Rattle.relay_model.proofs.FineCalls.{opens-as-scripted}
use Rattle.relay_model.proofs.ToldLemmas.{kept}
use Rattle.relay_model.proofs.TraceLemmas.{is_write_closed-append}
use Rattle.relay_state.specs.Closing.{in_side, out_side}
use Rattle.relay_laws.specs.Links.{done_by, is_done, link_state_in}
use Rattle.drain_laws.specs.DrainBound.{AllLinksDone}
use Rattle.drain_laws.proofs.FreshLinks.{fresh-links}

-- Frees

-- the free of a side in a trace
record FreeAt (e : SideId) (t : Trace) : Type 0 where
  before : Trace
  after : Trace
  why : Cause
  moved : ℕ
  given : ℕ
  bytes : List ℕ
  is : t ≡ before ++ (entry.Freed e why moved given, bytes) ∷ after

free-at : (e : SideId) (t : Trace) → is_freed e t ≡ true → FreeAt e t
free-at e [] h = absurd (cc)
free-at e (y ∷ t) h = go (λ k. free-at e t k) (or_cases (freed_by e y) (is_freed e t) h)
  where
    here : (y : Event) → freed_by e y ≡ true → FreeAt e (y ∷ t)
    here (entry.Freed side why moved given, bytes) k = record {
      before = [];
      after = t;
      why = why;
      moved = moved;
      given = given;
      bytes = bytes;
      is = ap (λ v. (entry.Freed v why moved given, bytes) ∷ t) (same_end-eq side e k);
    }
    here _ k = absurd (cc)

    go : (is_freed e t ≡ true → FreeAt e t) → (freed_by e y ≡ true) ⊎ (is_freed e t ≡ true) → FreeAt e (y ∷ t)
    go later (inl k) = here y k
    go later (inr k) =
        let f = later k in
        record {
          before = y ∷ f.before;
          after = f.after;
          why = f.why;
          moved = f.moved;
          given = f.given;
          bytes = f.bytes;
          is = ap (λ v. y ∷ v) f.is;
        }

-- a side that was freed was freed as done
freed-done : (e : SideId) (t : Trace) → FreesAreDone t → is_freed e t ≡ true → is_done e t ≡ true
freed-done e [] frees h = absurd (cc)
freed-done e (y ∷ t) frees h =
    go (λ k. freed-done e t (λ before after side why moved given bytes is.
    frees (y ∷ before) after side why moved given bytes (ap (λ v. y ∷ v) is)) k) (or_cases (freed_by e y) (is_freed e t) h)
  where
    here : (z : Event) → y ≡ z → freed_by e z ≡ true → done_by e z ≡ true
    here (entry.Freed side why moved given, bytes) same k =
        subst (λ w. done_by e (entry.Freed side w moved given, bytes) ≡ true)
        (sym (frees [] t side why moved given bytes (ap (λ v. v ∷ t) same))) k
    here _ same k = absurd (cc)

    go : (is_freed e t ≡ true → is_done e t ≡ true) → (freed_by e y ≡ true) ⊎ (is_freed e t ≡ true) → (done_by e y || is_done e t) ≡ true
    go later (inl k) = or_left (done_by e y) (is_done e t) (here y refl k)
    go later (inr k) = or_right (done_by e y) (is_done e t) (later k)

-- Open links

some-open : (s : Plain) (k n : ℕ) → k < n → is_link_open s k ≡ true → 1 ≤ open_links_below s n
some-open s k zero lt h = absurd (omega (arith, lt))
some-open s k (suc n) lt h = elim (cases_lt k n) [
  | inl less ↦ more (is_link_open s n) (some-open s k n less h)
  | inr ge ↦ last (is_link_open s n) (ap (λ m. is_link_open s m) (let a : n ≡ k = omega (arith, lt, ge) in a) ∙ h)
]
  where
    more : (b : Bool) → 1 ≤ open_links_below s n → 1 ≤ open_links_below s n + (if b then 1 else 0)
    more b a = omega (arith, a)

    last : (b : Bool) → b ≡ true → 1 ≤ open_links_below s n + (if b then 1 else 0)
    last true a = omega arith
    last false a = absurd (cc)

-- where no link is open, each is not
none-open : (s : Plain) (n k : ℕ) → open_links_below s n ≡ 0 → k < n → is_link_open s k ≡ false
none-open s n k none lt = go (is_link_open s k) refl
  where
    go : (b : Bool) → is_link_open s k ≡ b → is_link_open s k ≡ false
    go false e = e
    go true e = absurd (let a = some-open s k n lt e in omega (arith, a, none))

one-opened : (y : Event) (n : ℕ) → opened_by n y ≤ n + (if is_opened y then 1 else 0)
one-opened (entry.Turn ms, bytes) n = omega arith
one-opened (entry.Opened link connected, bytes) n = omega arith
one-opened _ n = omega arith

-- no more were opened in the last turn than in all
in-turn-fewer : (t : Trace) (n : ℕ) → fold opened_by n t ≤ n + opened t
in-turn-fewer [] n = omega arith
in-turn-fewer (y ∷ t) n =
    let a = one-opened y n in
    let b = in-turn-fewer t (opened_by n y) in
    let c = sum_by-cons (λ v. if is_opened v then 1 else 0) y t in
    let d : opened (y ∷ t) ≡ (if is_opened y then 1 else 0) + opened t = c in
    omega (arith, a, b, d)

freed-of : (a b c : Bool) → a ≡ not (b || c) → c ≡ false → a ≡ false → b ≡ true
freed-of a true c h k l = refl
freed-of a false true h k l = absurd (cc)
freed-of a false false h k l = absurd (let m : false ≡ true = sym l ∙ h in cc)

module _ (g : Settings) (t : Trace) (s : Plain) (reached : Reaches g t (at Stage.Between s)) (frees : FreesAreDone t) where
  told : (e : SideId) → e.link < s.opened → SideTold t Stage.Between s e
  told e lt = (kept g t (at Stage.Between s) reached).each e lt

  dead-freed : (e : SideId) → e.link < s.opened → is_live s e ≡ false → is_freed e t ≡ true
  dead-freed e lt dead = freed-of (is_live s e) (is_freed e t) false (told e lt).live refl dead

  -- A link that was opened in the last turn lives.
  module _ (accounted : AllAccounted g t s)
      (causes : (before after : Trace) (e : SideId) (why : Cause) (moved given : ℕ) (bytes : List ℕ) →
      t ≡ before ++ (entry.Freed e why moved given, bytes) ∷ after → HasCause g before e why) where
    -- the peer of a side that was freed has ended
    peer-ended : (e : SideId) → e.link < s.opened → peer (peer e) ≡ e → is_freed e t ≡ true → has_ended (peer e) t ≡ true
    peer-ended e lt back h =
        ((accounted.each (peer e) lt).fits.read_done ((accounted.each (peer e) lt).closed closed).read_done).0
      where
        f : FreeAt e t
        f = free-at e t h

        has_cause : HasCause g f.before e cause.Done
        has_cause =
            subst (HasCause g f.before e) (frees f.before f.after e f.why f.moved f.given f.bytes f.is)
            (causes f.before f.after e f.why f.moved f.given f.bytes f.is)

        closed : is_write_closed (peer (peer e)) t ≡ true
        closed =
            ap (λ v. is_write_closed v t) back ∙ ap (is_write_closed e) f.is
            ∙ is_write_closed-append e f.before ((entry.Freed e f.why f.moved f.given, f.bytes) ∷ f.after)
            ∙ or_left (is_write_closed e f.before)
            (is_write_closed e ((entry.Freed e f.why f.moved f.given, f.bytes) ∷ f.after)) has_cause.0

    pub opened-lives : 1 ≤ opened_in_turn t → 1 ≤ open_link_count s
    opened-lives some = go (is_live s e) refl
      where
        counts : s.opened ≡ opened t
        counts = (kept g t (at Stage.Between s) reached).counts.shape.opened

        e : SideId
        e = record { link = opened t - 1; side = In }

        below : e.link < s.opened
        below = let a = in-turn-fewer t 0 in let b = counts in omega (arith, a, b, some)

        unread : has_ended (peer e) t ≡ false
        unread = (fresh-links g t (at Stage.Between s) reached).unread (peer e) (omega (arith, some))

        go : (b : Bool) → is_live s e ≡ b → 1 ≤ open_link_count s
        go true h =
            some-open s e.link s.opened below
            (or_left (is_live s (record { link = e.link; side = In })) (is_live s (record { link = e.link; side = Out })) h)
        go false h = absurd (let ended : true ≡ false = sym (peer-ended e below refl (dead-freed e below h)) ∙ unread in cc)

  -- Where no link is open, all are done.
  pub none-left : (turns : List ScriptTurn) → open_link_count s ≡ 0 → opened t ≡ length (scripted_links turns) → AllLinksDone turns t
  none-left turns none all = record { all_opened = all; done = λ link lt. done link (let a = counts in omega (arith, a, lt)) }
    where
      counts : s.opened ≡ opened t
      counts = (kept g t (at Stage.Between s) reached).counts.shape.opened

      done : (link : ℕ) → link < s.opened → link_state_in t link ≡ state.Done
      done link lt =
          let i = in_side link in
          let o = out_side link in
          let dead = or_parts (is_live s i) (is_live s o) (none-open s s.opened link none lt) in
          let first = dead-freed i lt dead.0 in
          let second = dead-freed o lt dead.1 in
          let one = freed-done i t frees first in
          let two = freed-done o t frees second in
          (λ k. if not (first k && second k) then state.Live else (if one k && two k then state.Done else state.Gone))

-- Once all turns of a script were begun, all its links were opened: none waits, or as many were opened as may be, unless some were in the
-- last turn.
module _ (turns : List ScriptTurn) (step : ℕ) (t : Trace) (answered : IsAnswered turns step t) (all : length turns ≤ begun turns t) where
  links-all : links turns t ≡ scripted_links turns
  links-all = ap (λ ts. flat_map links_by (flat_map (λ turn. turn.1) ts)) (take_all (begun turns t) turns all)

  pub all-taken : (g : Settings) → length (scripted_links turns) ≤ g.links → TookAll turns g.links t → (opened_in_turn t ≡ 64 → ⊥) →
      opened t ≡ length (scripted_links turns)
  all-taken g fit took not_last = go took
    where
      most : opened t ≤ length (scripted_links turns)
      most = (opens-as-scripted turns step t answered).1

      go : TookAll turns g.links t → opened t ≡ length (scripted_links turns)
      go (inl none) =
          (let a = length-drop (opened t) (links turns t) in
          let b : length (waiting turns t) ≡ 0 = ap length none in
          let c = ap length links-all in
          let d = most in
          omega (arith, a, b, c, d))
      go (inr (inl many)) = absurd (not_last many)
      go (inr (inr full)) = (let d = most in omega (arith, full, fit, d))
