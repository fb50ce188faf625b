-- The limit and the group of each side, step by step, against what the trace tells.
use Rattle.std.proofs.Common.{◌≡◌, ◌≢◌, inl, inr, ℕ, ◌+◌, ◌-◌, ◌*◌, ◌≤◌, Bool, true, false, not, if◌then◌else◌, List, [], ◌∷◌, ◌++◌, length}
use Rattle.std.proofs.Common.{Option, Some, None, option_map, refl, sym, ◌∙◌, ap, subst, arith}
use Rattle.std.specs.Prelude.{nat_eq, nat_lt, slice_index_or, ⊤}
use Rattle.std.proofs.lemmas.Bool.{ltb-true, ltb-false}
use Rattle.std.proofs.lemmas.Bool.Decides.{eqb_tells}
use Rattle.std.proofs.lemmas.List.{get_or_past}
use Rattle.std.proofs.lemmas.List.Sums.{fold-append}
use Rattle.token_bucket.specs.declared.limit.LimitCfg.{LimitCfg}
use Rattle.token_bucket.specs.declared.limit.Dir.{Dir}
use Rattle.token_bucket.specs.declared.limit.Dir.TheVariants as dir
use Rattle.ev_types.specs.declared.side.SideId.{SideId}
use Rattle.ev_types.specs.declared.act.Act.{Act}
use Rattle.ev_types.specs.declared.act.Act.TheVariants as act
use Rattle.ev_types.specs.declared.answer.AskAnswer.{AskAnswer}
use Rattle.ev_types.specs.declared.answer.AskAnswer.TheVariants as ask
use Rattle.ev_types.specs.declared.entry.Entry.TheVariants as entry
use Rattle.ev_types.specs.Sides.{number, same_end}
use Rattle.ev_types.specs.Trace.{Event, Trace}
use Rattle.relay_model.specs.Settings.{Settings, rate_set, group_set}
use Rattle.relay_model.specs.Due.{without_due}
use Rattle.relay_model.specs.Plain.{Plain, PlainSide, Standing, first_limit, no_side, with_link, side_at, is_live, change_side, freed}
use Rattle.relay_model.specs.Plain.{without_timer}
use Rattle.relay_model.specs.Groups.{group_by, group_after}
use Rattle.relay_model.specs.Past.{Past}
use Rattle.relay_model.specs.Asks.{Answered, refusal, names_no_live, limit_set, enabled, marked, done}
use Rattle.relay_model.specs.RatesKept.{limit_by, limit_after, is_rate_ask}
use Rattle.relay_model.proofs.PlainLemmas.{seen-change, side_at-change, side_at-same, side_at-other, side_at-new, side_at-old, live-within}
use Rattle.relay_model.proofs.PlainLemmas.{same_end-number}
use Rattle.relay_model.proofs.Frames.{SameFrame, rates_of, frame-same, frame-change, frame-waiting, frame-raise_read, frame-raise_write}

pub limit_after-push : (g : Settings) (e : SideId) (t : Trace) (x : Event) → limit_after g e (t ++ x ∷ []) ≡ limit_by g e
    (limit_after g e t) x
limit_after-push g e t x = fold-append (λ was y. limit_by g e was y) None t (x ∷ [])

pub group_after-push : (g : Settings) (e : SideId) (t : Trace) (x : Event) → group_after g e (t ++ x ∷ []) ≡ group_by g e
    (group_after g e t) x
group_after-push g e t x = fold-append (λ was y. group_by g e was y) None t (x ∷ [])

abbrev pub cfg_of : Option Standing → Option LimitCfg
cfg_of x = option_map (λ y. y.cfg) x

-- a limit was set in a turn that was begun
abbrev pub IsBegun : ℕ → Option Standing → Type 0
IsBegun turn None = ⊤
IsBegun turn (Some x) = x.turn ≤ turn

-- an event by which a limit is set: the side's link opens, or a hook asks for another limit
abbrev pub sets_limit : SideId → Event → Bool
sets_limit e (entry.Opened link connected, bytes) = nat_eq link e.link
sets_limit e x = is_rate_ask e x

-- what an event makes of the limit and the group of a side, by what they were
pub record RatesBy (g : Settings) (e : SideId) (x : Event) (old new : Plain) : Type 0 where
  pub limit : (was : Option LimitCfg) → cfg_of (side_at old e).limit ≡ was → cfg_of (side_at new e).limit ≡ limit_by g e was x
  pub group : (was : Option ℕ) → (side_at old e).group ≡ was → (side_at new e).group ≡ group_by g e was x
  pub begun : IsBegun old.turn (side_at old e).limit → IsBegun new.turn (side_at new e).limit
  pub stays : sets_limit e x ≡ false → (side_at new e).limit ≡ (side_at old e).limit

-- an event by which no limit and no group of a side is changed
pub record IsNeutral (g : Settings) (e : SideId) (x : Event) : Type 0 where
  pub limit : (was : Option LimitCfg) → limit_by g e was x ≡ was
  pub group : (was : Option ℕ) → group_by g e was x ≡ was

pub rates-neutral : (g : Settings) (e : SideId) (x : Event) (old new : Plain) → IsNeutral g e x → SameFrame old new → RatesBy g e x old new
rates-neutral g e x old new neutral same = record {
  limit = λ was h. ap (λ z. cfg_of z.0) (same.rates e) ∙ h ∙ sym (neutral.limit was);
  group = λ was h. ap (λ z. z.1) (same.rates e) ∙ h ∙ sym (neutral.group was);
  begun = λ h. subst (λ z. IsBegun new.turn z) (sym (ap (λ z. z.0) (same.rates e))) (subst (λ n. IsBegun n (side_at old e).limit)
      (sym same.shape.turn) h);
  stays = λ h. ap (λ z. z.0) (same.rates e);
}

-- A free takes the side out of its group and leaves all limits.
pub freed-limit : (e a : SideId) (s : Plain) → (side_at (freed e s) a).limit ≡ (side_at s a).limit
freed-limit e a s = seen-change (λ x. x.limit) e a (λ x. record x { live = false; group = None })
    (record s { timers = without_timer e s.timers; due = without_due e s.due }) (λ x. refl)

pub freed-group : (e a : SideId) (s : Plain) → (side_at (freed e s) a).group ≡ (if same_end e a then None else (side_at s a).group)
freed-group e a s = by_name (same_end e a) refl
  where
    rest : Plain
    rest = record s { timers = without_timer e s.timers; due = without_due e s.due }

    out : PlainSide → PlainSide
    out x = record x { live = false; group = None }

    -- nothing stands at the side: it has no group before and after
    nothing : side_at rest a ≡ no_side → (side_at (freed e s) a).group ≡ None
    nothing none = elim (side_at-change e a out rest) [ inl h ↦ ap (λ x. x.group) (h ∙ none) | inr h ↦ ap (λ x. x.group) h.1 ]

    by_place : (b : Bool) → nat_lt (number e) (length s.sides) ≡ b → same_end e a ≡ true → (side_at (freed e s) a).group ≡ None
    by_place true h same = ap (λ x. x.group) (side_at-same e a out rest (ltb-true (number e) (length s.sides) h) same)
    by_place false h same =
        nothing (ap (λ k. slice_index_or s.sides k no_side) (sym (same_end-number e a same)) ∙ get_or_past s.sides (number e)
        no_side (ltb-false (number e) (length s.sides) h))

    by_name : (b : Bool) → same_end e a ≡ b → (side_at (freed e s) a).group ≡ (if same_end e a then None else (side_at s a).group)
    by_name true same = by_place (nat_lt (number e) (length s.sides)) refl same ∙ sym
        (ap (λ b. if b then None else (side_at s a).group) same)
    by_name false other = ap (λ x. x.group) (side_at-other e a out rest other) ∙ sym
        (ap (λ b. if b then None else (side_at s a).group) other)

pub rates-freed : (g : Settings) (e a : SideId) (x : Event) (s : Plain) →
    ((was : Option LimitCfg) → limit_by g a was x ≡ was) → ((was : Option ℕ) → group_by g a was x ≡
    (if same_end e a then None else was)) → RatesBy g a x s (freed e s)
rates-freed g e a x s limit group = record {
  limit = λ was h. ap cfg_of (freed-limit e a s) ∙ h ∙ sym (limit was);
  group = λ was h. freed-group e a s ∙ ap (λ z. if same_end e a then None else z) h ∙ sym (group was);
  begun = λ h. subst (λ z. IsBegun s.turn z) (sym (freed-limit e a s)) h;
  stays = λ h. freed-limit e a s;
}

-- A link opens: its two sides have what the settings give.

pub set_cfg : (time turn : ℕ) (cfg : Option LimitCfg) → cfg_of (option_map (first_limit time turn) cfg) ≡ cfg
set_cfg time turn None = refl
set_cfg time turn (Some cfg) = refl

pub set_begun : (time turn : ℕ) (cfg : Option LimitCfg) → IsBegun turn (option_map (first_limit time turn) cfg)
set_begun time turn None = tt
set_begun time turn (Some cfg) = omega arith

pub rates-opened : (g : Settings) (a : SideId) (link : ℕ) (connected : Bool) (bytes : List ℕ) (s : Plain) → length s.sides ≡ 2 *
    s.opened → link ≡ s.opened →
    RatesBy g a (entry.Opened link connected, bytes) s (with_link g connected s)
rates-opened g a link connected bytes s paired next = elim (eqb_tells link a.link) [
  | inl same ↦ new_one same.0
      (sym next ∙ same.1)
  | inr other ↦ old_one other.0 (λ h. other.1 (next ∙ h))
]
  where
    x : Event
    x = (entry.Opened link connected, bytes)

    new_one : nat_eq link a.link ≡ true → s.opened ≡ a.link → RatesBy g a x s (with_link g connected s)
    new_one named here =
        let seen = side_at-new g connected s a paired here in
        record {
          limit = λ was h. ap (λ z. cfg_of z.limit) seen ∙ set_cfg s.time s.turn (rate_set g a.side) ∙ sym
              (ap (λ b. if b then rate_set g a.side else was) named);
          group = λ was h. ap (λ z. z.group) seen ∙ sym (ap (λ b. if b then group_set g a.side else was) named);
          begun = λ h. subst (λ z. IsBegun s.turn z) (sym (ap (λ z. z.limit) seen)) (set_begun s.time s.turn (rate_set g a.side));
          stays = λ h. absurd (let bad : true ≡ false = sym named ∙ h in cc);
        }

    old_one : nat_eq link a.link ≡ false → s.opened ≢ a.link → RatesBy g a x s (with_link g connected s)
    old_one named elsewhere =
        let seen = side_at-old g connected s a paired elsewhere in
        record {
          limit = λ was h. ap (λ z. cfg_of z.limit) seen ∙ h ∙ sym (ap (λ b. if b then rate_set g a.side else was) named);
          group = λ was h. ap (λ z. z.group) seen ∙ h ∙ sym (ap (λ b. if b then group_set g a.side else was) named);
          begun = λ h. subst (λ z. IsBegun s.turn z) (sym (ap (λ z. z.limit) seen)) h;
          stays = λ h. ap (λ z. z.limit) seen;
        }

-- Asks

pub first-none : (b : Bool) (r : AskAnswer) (rest : Option AskAnswer) → (if b then Some r else rest) ≡ None → (b ≡ false) × (rest ≡ None)
first-none true r rest h = cc
first-none false r rest h = (refl, h)

pub ask-live : (g : Settings) (s : Plain) (a : Act) → refusal g s a ≡ None → names_no_live s a ≡ false
ask-live g s a h = (first-none (names_no_live s a) ask.NotLive _ h).0

pub not-false : (b : Bool) → not b ≡ false → b ≡ true
not-false true h = refl
not-false false h = cc

-- no refusal is Ok
pub first-not_ok : (b : Bool) (r given : AskAnswer) (rest : Option AskAnswer) → (given ≡ ask.Ok → ⊥) →
    (rest ≡ Some r → r ≡ ask.Ok → ⊥) → (if b then Some given else rest) ≡ Some r → r ≡ ask.Ok → ⊥
first-not_ok true r given rest not_ok others h ok = not_ok (let same : given ≡ r = cc in same ∙ ok)
first-not_ok false r given rest not_ok others h ok = others h ok

pub refusal-not_ok : (g : Settings) (s : Plain) (a : Act) (r : AskAnswer) → refusal g s a ≡ Some r → r ≡ ask.Ok → ⊥
refusal-not_ok g s a r =
    first-not_ok _ r ask.NotLive _ (λ h. cc)
    (first-not_ok _ r ask.BadValue _ (λ h. cc) (first-not_ok _ r ask.NoGroup _ (λ h. cc)
    (first-not_ok _ r ask.TooManyRefs None (λ h. cc) (λ h ok. cc))))

-- an ask that isn't answered Ok changes no limit and no group
pub neutral-refused : (g : Settings) (e me : SideId) (a : Act) (answer : AskAnswer) (bytes : List ℕ) → (answer ≡ ask.Ok → ⊥) →
    IsNeutral g e (entry.Asked me a answer, bytes)
neutral-refused g e me a answer bytes not_ok = record {
  limit = λ was. by_limit a answer not_ok was;
  group = λ was. by_group a
      answer not_ok was;
}
  where
    by_limit : (a : Act) (answer : AskAnswer) → (answer ≡ ask.Ok → ⊥) → (was : Option LimitCfg) → limit_by g e was
        (entry.Asked me a answer, bytes) ≡ was
    by_limit (act.Rate side cfg) ask.Ok not_ok was = absurd (not_ok refl)
    by_limit _ _ not_ok was = refl

    by_group : (a : Act) (answer : AskAnswer) → (answer ≡ ask.Ok → ⊥) → (was : Option ℕ) → group_by g e was
        (entry.Asked me a answer, bytes) ≡ was
    by_group (act.Free side) ask.Ok not_ok was = absurd (not_ok refl)
    by_group (act.Join side n) ask.Ok not_ok was = absurd (not_ok refl)
    by_group (act.Leave side) ask.Ok not_ok was = absurd (not_ok refl)
    by_group _ _ not_ok was = refl

pub set_limit-cfg : (p : Past) (s : Plain) (e : SideId) (was : Option Standing) (cfg : Option LimitCfg) → cfg_of
    (limit_set p s e was cfg) ≡ cfg
set_limit-cfg p s e was None = refl
set_limit-cfg p s e None (Some cfg) = refl
set_limit-cfg p s e (Some was) (Some cfg) = refl

pub set_limit-begun : (p : Past) (s : Plain) (e : SideId) (was : Option Standing) (cfg : Option LimitCfg) → IsBegun s.turn
    (limit_set p s e was cfg)
set_limit-begun p s e was None = tt
set_limit-begun p s e None (Some cfg) = omega arith
set_limit-begun p s e (Some was) (Some cfg) = omega arith

pub enabled-rates : (d : Dir) (on : Bool) (x : PlainSide) → rates_of (enabled d on x) ≡ rates_of x
enabled-rates dir.Read on x = refl
enabled-rates dir.Write on x = refl

module _ (g : Settings) (p : Past) (s : Plain) (me a : SideId) (bytes : List ℕ) where
  pub rates-rate : (e : SideId) (cfg : Option LimitCfg) → is_live s e ≡ true → RatesBy g a
      (entry.Asked me (act.Rate e cfg) ask.Ok, bytes) s (done g p s (act.Rate e cfg))
  rates-rate e cfg live = by_name (same_end e a) refl
    where
      set : PlainSide → PlainSide
      set x = record x { limit = limit_set p s e x.limit cfg }

      by_name : (b : Bool) → same_end e a ≡ b → RatesBy g a (entry.Asked me (act.Rate e cfg) ask.Ok, bytes) s (change_side e set s)
      by_name true same =
          let seen = side_at-same e a set s (live-within s e live) same in
          record {
            limit = λ was h. ap (λ z. cfg_of z.limit) seen ∙ set_limit-cfg p s e (side_at s a).limit cfg ∙ sym
                (ap (λ b. if b then cfg else was) same);
            group = λ was h. ap (λ z. z.group) seen ∙ h;
            begun = λ h. subst (λ z. IsBegun s.turn z) (sym (ap (λ z. z.limit) seen)) (set_limit-begun p s e (side_at s a).limit cfg);
            stays = λ h. absurd (let bad : true ≡ false = sym same ∙ h in cc);
          }
      by_name false other =
          let seen = side_at-other e a set s other in
          record {
            limit = λ was h. ap (λ z. cfg_of z.limit) seen ∙ h ∙ sym (ap (λ b. if b then cfg else was) other);
            group = λ was h. ap (λ z. z.group) seen ∙ h;
            begun = λ h. subst (λ z. IsBegun s.turn z) (sym (ap (λ z. z.limit) seen)) h;
            stays = λ h. ap (λ z. z.limit) seen;
          }

  -- the side is put into a group, or out of one
  pub rates-group : (e : SideId) (n : Option ℕ) (x : Event) → is_live s e ≡ true → ((was : Option LimitCfg) → limit_by g a was x ≡ was) →
      ((was : Option ℕ) → group_by g a was x ≡ (if same_end e a then n else was)) → RatesBy g a x s
      (change_side e (λ x. record x { group = n }) s)
  rates-group e n x live limit group = by_name (same_end e a) refl
    where
      set : PlainSide → PlainSide
      set x = record x { group = n }

      by_name : (b : Bool) → same_end e a ≡ b → RatesBy g a x s (change_side e set s)
      by_name true same =
          let seen = side_at-same e a set s (live-within s e live) same in
          record {
            limit = λ was h. ap (λ z. cfg_of z.limit) seen ∙ h ∙ sym (limit was);
            group = λ was h. ap (λ z. z.group) seen ∙ sym (ap (λ b. if b then n else was) same) ∙ sym (group was);
            begun = λ h. subst (λ z. IsBegun s.turn z) (sym (ap (λ z. z.limit) seen)) h;
            stays = λ h. ap (λ z. z.limit) seen;
          }
      by_name false other =
          let seen = side_at-other e a set s other in
          record {
            limit = λ was h. ap (λ z. cfg_of z.limit) seen ∙ h ∙ sym (limit was);
            group = λ was h. ap (λ z. z.group) seen ∙ h ∙ sym (ap (λ b. if b then n else was) other) ∙ sym (group was);
            begun = λ h. subst (λ z. IsBegun s.turn z) (sym (ap (λ z. z.limit) seen)) h;
            stays = λ h. ap (λ z. z.limit) seen;
          }

  pub rates-done : (ask' : Act) → names_no_live s ask' ≡ false → RatesBy g a (entry.Asked me ask' ask.Ok, bytes) s (done g p s ask')
  rates-done (act.Free e) live = rates-freed g e a _ s (λ was. refl) (λ was. refl)
  rates-done (act.Rate e cfg) live = rates-rate e cfg (not-false (is_live s e) live)
  rates-done (act.Join e n) live = rates-group e (Some n) _ (not-false (is_live s e) live) (λ was. refl) (λ was. refl)
  rates-done (act.Leave e) live = rates-group e None _ (not-false (is_live s e) live) (λ was. refl) (λ was. refl)
  rates-done (act.Enable e d) live = rates-neutral g a _ s _ (record { limit = λ was. refl; group = λ was. refl })
      (frame-change e (enabled d true) s (enabled-rates d true))
  rates-done (act.Disable e d) live = rates-neutral g a _ s _ (record { limit = λ was. refl; group = λ was. refl })
      (frame-change e (enabled d false) s (enabled-rates d false))
  rates-done (act.Marks e d low high) live =
      rates-neutral g a _ s _ (record { limit = λ was. refl; group = λ was. refl }) (frame-change e
      (λ x. record x { marks = marked d low high x.marks }) s (λ x. refl))
  rates-done (act.Timeouts e r w) live =
      rates-neutral g a _ s _ (record { limit = λ was. refl; group = λ was. refl })
      (frame-change e (λ x. record x { timeouts = record { read_ms = r; write_ms = w }; last_read = s.time; last_write = s.time })
      s (λ x. refl))
  rates-done (act.Trigger e dir.Read) live = rates-neutral g a _ s _ (record { limit = λ was. refl; group = λ was. refl })
      (frame-raise_read g p e s)
  rates-done (act.Trigger e dir.Write) live = rates-neutral g a _ s _ (record { limit = λ was. refl; group = λ was. refl })
      (frame-raise_write g p e s)
  rates-done (act.Timer e delay) live = rates-neutral g a _ s _ (record { limit = λ was. refl; group = λ was. refl })
      (frame-waiting s _ s.due)
  rates-done (act.Cancel e) live = rates-neutral g a _ s _ (record { limit = λ was. refl; group = λ was. refl }) (frame-waiting s _ s.due)
  rates-done (act.Incref e) live = rates-neutral g a _ s _ (record { limit = λ was. refl; group = λ was. refl })
      (frame-change e (λ x. record x { references = x.references + 1 }) s (λ x. refl))
  rates-done (act.Decref e) live = rates-neutral g a _ s _ (record { limit = λ was. refl; group = λ was. refl })
      (frame-change e (λ x. record x { references = x.references - 1 }) s (λ x. refl))
  rates-done act.Stop live = rates-neutral g a _ s _ (record { limit = λ was. refl; group = λ was. refl }) (frame-same s)

  pub rates-answered : (r : Option AskAnswer) (ask' : Act) (answer : AskAnswer) (new : Plain) → refusal g s ask' ≡ r → Answered r g
      p s ask' answer new →
      RatesBy g a (entry.Asked me ask' answer, bytes) s new
  rates-answered (Some refused) ask' answer new is h =
      rates-neutral g a _ s new (neutral-refused g a me ask' answer bytes (λ ok. refusal-not_ok g s ask' refused is (sym h.0 ∙ ok)))
      (subst (λ z. SameFrame s z) (sym h.1) (frame-same s))
  rates-answered None ask' answer new is h =
      elim h [
        | inl ok ↦ subst (λ z. RatesBy g a (entry.Asked me ask' z, bytes) s new) (sym ok.0)
            (subst (λ z. RatesBy g a (entry.Asked me ask' ask.Ok, bytes) s z) (sym ok.1) (rates-done ask' (ask-live g s ask' is)))
        | inr lacks ↦ rates-neutral g a _ s new (neutral-refused g a me ask' answer bytes (λ ok. let no : ask.Memory ≡ ask.Ok = sym
            lacks.0 ∙ ok in cc)) (subst (λ z. SameFrame s z) (sym lacks.2) (frame-same s))
      ]
