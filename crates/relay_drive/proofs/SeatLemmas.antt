-- A hook is taken out of its slot, called, and put back where it belongs: what that fire is to the relay, what hooks tell of it, and that
-- they are seated then.
use Rattle.std.proofs.Common.{◌≡◌, ◌≢◌, inl, inr, ℕ, suc, ◌+◌, ◌<◌, ◌≤◌, Bool, true, false, if◌then◌else◌, List, [], ◌∷◌, ◌++◌}
use Rattle.std.proofs.Common.{length, Option, Some, None, refl, sym, ◌∙◌, ap, subst, arith}
use Rattle.std.specs.Prelude.{is_some, slice_set}
use Rattle.std.specs.Option.{option_or}
use Rattle.std.specs.List.{All}
use Rattle.std.proofs.lemmas.Bool.{cases_lt}
use Rattle.std.proofs.lemmas.List.{get_or-set_same, get_or-set_other, get_or_past, length-set}
use Rattle.std.proofs.lemmas.List.Elements.{All-nil, All-cons}
use Rattle.ev_types.specs.declared.entry.Entry.{Entry}
use Rattle.ev_types.specs.declared.entry.Entry.TheVariants as entry
use Rattle.ev_types.specs.declared.side.SideId.{SideId}
use Rattle.ev_types.specs.declared.why.Why.{Why}
use Rattle.ev_types.specs.Sides.{number, same_end}
use Rattle.ev_types.specs.Trace.{Trace, bytes_beside}
use Rattle.relay_core.specs.Fires.{events_of, FiresSide}
use Rattle.relay_core.specs.RelayValue.{RelayValue}
use Rattle.relay_model.proofs.EndLemmas.{number-eq}
use Rattle.relay_model.proofs.PlainLemmas.{half-below, live-within}
use Rattle.relay_model.specs.Due.{Reason}
use Rattle.relay_model.specs.Hooked.{asked_in}
use Rattle.relay_model.specs.Plain.{is_live}
use Rattle.relay_model.specs.Reasons.{has_hook}
use Rattle.relay_state.specs.Asking.{Fires, FiresSome, left_to_fire}
use Rattle.relay_state.specs.State.{State}
use Rattle.relay_drive.specs.Seats.{hook_at, seat, Telling, TellsMore, HooksTell, AreSeated}
use Rattle.relay_drive.proofs.DispatchLemmas.{AllOwn, asks-do}
use Rattle.relay_drive.proofs.EndNames.{same_end-true, same_end-false}
use Rattle.relay_drive.proofs.FreedStays.{IsPaired, Stays, fire-stays}
use Rattle.relay_drive.proofs.HookTells.{asks-told, tells-fire}

-- The fire of a reason that was taken out of the batch

-- one fire more
pub fires-more : (n : ℕ) (s mid new : State) (front back : Trace) → FiresSome n s front mid → Fires false mid back new →
    FiresSome (n + 1) s (front ++ back) new
fires-more n s mid new front back h k =
    let next : suc n ≡ n + 1 = omega arith in
    subst (λ m. FiresSome m s (front ++ back) new) next (mid, front, back, h, k, refl)

-- no entry of what a hook asked has bytes beside it
bare-entries : (es : List Entry) → AllOwn (events_of es) → All (λ e. bytes_beside e ≡ 0) es
bare-entries [] h = All-nil (λ e. bytes_beside e ≡ 0)
bare-entries (entry.Fired side y ∷ es) h = All-cons (λ e. bytes_beside e ≡ 0) (entry.Fired side y) es refl (bare-entries es h.1)
bare-entries (entry.Asked side a r ∷ es) h = All-cons (λ e. bytes_beside e ≡ 0) (entry.Asked side a r) es refl (bare-entries es h.1)
bare-entries (entry.Freed side c m g ∷ es) h = All-cons (λ e. bytes_beside e ≡ 0) (entry.Freed side c m g) es refl (bare-entries es h.1)
bare-entries (_ ∷ es) h = absurd (h.0.0)

pub fire-bare : (e : SideId) (mid new : RelayValue) (es : List Entry) → FiresSide e mid new → events_of es ≡ new.log →
    All (λ x. bytes_beside x ≡ 0) es
fire-bare e mid new es h log = bare-entries es (subst AllOwn (sym log) (asks-do e h.asked mid.state new.state new.log h.does).0.own)

-- there are at most 512
pub fire-most : (e : SideId) (mid new : RelayValue) → FiresSide e mid new → length new.log ≤ 512
fire-most e mid new h =
    let few = (asks-do e h.asked mid.state new.state new.log h.does).0.few in
    let many = h.few in
    omega (arith, few, many)

pub events-length : (es : List Entry) → length (events_of es) ≡ length es
events-length [] = refl
events-length (x ∷ es) = let h = events-length es in omega (arith, h)

-- Slots

-- a slot that is taken is one of the slots
pub slot-there : {H : Type 0} (hooks : List (Option H)) (n : ℕ) (x : H) → hook_at hooks n ≡ Some x → n < length hooks
slot-there hooks n x h = elim (cases_lt n (length hooks)) [
  | inl lt ↦ lt
  | inr past ↦ absurd (let none = get_or_past hooks n None past in let bad : None ≡ Some x = sym none ∙ h in cc)
]

module _ {H : Type 0} (hooks gone hooks' gone' : List (Option H)) (live : Bool) (e : SideId) (was now : H)
    (there : hook_at hooks (number e) ≡ Some was) (level : length gone ≡ length hooks)
    (slots : hooks' ≡ slice_set hooks (number e) (if live then Some now else None))
    (out : gone' ≡ (if live then gone else slice_set gone (number e) (Some now))) where
  -- the hook was in its seat, and is
  pub seat-was : seat hooks gone (number e) ≡ Some was
  seat-was = ap (λ o. option_or o (hook_at gone (number e))) there

  inside : number e < length hooks
  inside = slot-there hooks (number e) was there

  -- its slot is taken exactly while its side lives
  pub slot-now : hook_at hooks' (number e) ≡ (if live then Some now else None)
  slot-now =
      ap (λ xs. hook_at xs (number e)) slots
      ∙ get_or-set_same hooks (number e) (if live then Some now else None) None inside

  pub seat-now : seat hooks' gone' (number e) ≡ Some now
  seat-now = go live refl
    where
      go : (b : Bool) → live ≡ b → seat hooks' gone' (number e) ≡ Some now
      go true is = ap (λ o. option_or o (hook_at gone' (number e))) (slot-now ∙ ap (λ b. if b then Some now else None) is)
      go false is =
          ap (λ o. option_or o (hook_at gone' (number e))) (slot-now ∙ ap (λ b. if b then Some now else None) is)
          ∙ ap (λ xs. hook_at xs (number e)) (out ∙ ap (λ b. if b then gone else slice_set gone (number e) (Some now)) is)
          ∙ get_or-set_same gone (number e) (Some now) None (omega (arith, inside, level))

  -- every other one is where it was
  pub slot-other : (n : ℕ) → n ≢ number e → hook_at hooks' n ≡ hook_at hooks n
  slot-other n other =
      ap (λ xs. hook_at xs n) slots ∙ get_or-set_other hooks (number e) n (if live then Some now else None) None other

  pub gone-other : (n : ℕ) → n ≢ number e → hook_at gone' n ≡ hook_at gone n
  gone-other n other = go live refl
    where
      go : (b : Bool) → live ≡ b → hook_at gone' n ≡ hook_at gone n
      go true is = ap (λ xs. hook_at xs n) (out ∙ ap (λ b. if b then gone else slice_set gone (number e) (Some now)) is)
      go false is =
          ap (λ xs. hook_at xs n) (out ∙ ap (λ b. if b then gone else slice_set gone (number e) (Some now)) is)
          ∙ get_or-set_other gone (number e) n (Some now) None other

  pub seat-other : (n : ℕ) → n ≢ number e → seat hooks' gone' n ≡ seat hooks gone n
  seat-other n other =
      let a = slot-other n other in
      let b = gone-other n other in
      λ i. option_or (a i) (b i)

  pub level-now : length gone' ≡ length hooks'
  level-now =
      let many = ap length slots ∙ length-set hooks (number e) (if live then Some now else None) in
      go live refl many
    where
      go : (b : Bool) → live ≡ b → length hooks' ≡ length hooks → length gone' ≡ length hooks'
      go true is many =
          let same = ap length (out ∙ ap (λ b. if b then gone else slice_set gone (number e) (Some now)) is) in
          omega (arith, same, many, level)
      go false is many =
          let same = ap length (out ∙ ap (λ b. if b then gone else slice_set gone (number e) (Some now)) is)
          ∙ length-set gone (number e) (Some now) in
          omega (arith, same, many, level)

  -- What hooks tell of the fire is what its entries say; but nothing is said of this one where memory was wanting for it.
  pub seat-tells : (tells : Telling H) (short : Option SideId) (y : Why) {stopped : Bool} {s new : State} {a : Trace}
      (h : Fires stopped s a new) → h.side ≡ e → h.reason ≡ y →
      (short ≢ Some e → TellsMore tells was now (y ∷ []) (asked_in e h.behind)) → HooksTell tells short hooks gone hooks' gone' a
  seat-tells tells short y h here why told =
      let at = ap number here in
      tells-fire tells short hooks gone hooks' gone' h
      was now (ap (seat hooks gone) at ∙ seat-was) (ap (seat hooks' gone') at ∙ seat-now)
      (λ other. subst (λ z. TellsMore tells was now (z ∷ []) h.asks) (sym why)
      (subst (λ z. TellsMore tells was now (y ∷ []) z) (ap (λ z. asked_in z h.behind) (sym here) ∙ asks-told h)
      (told (λ p. other (p ∙ ap Some (sym here))))))
      (λ n apart. seat-other n (λ p. apart (p ∙ sym at)))

  -- Where hooks were seated, they are, with the state behind the fire.
  pub seat-seated : {stopped : Bool} {s new : State} {a : Trace} (h : Fires stopped s a new) → h.side ≡ e → live ≡ is_live new.plain e →
      IsPaired s → AreSeated s hooks gone → AreSeated new hooks' gone'
  seat-seated {s = s} {new = new} h here lives pairs seats = record {
    level = level-now;
    hooked = λ x. ap (λ g. has_hook g x) stays.settings ∙ seats.hooked x ∙ sym (kept x (same_end e x) refl);
    freed = λ x has empty. freed_at x (sym (ap (λ g. has_hook g x) stays.settings) ∙ has) empty (same_end e x) refl;
  }
    where
      stays : Stays s new
      stays = fire-stays h

      apart : (x : SideId) → same_end e x ≡ false → number x ≢ number e
      apart x is same = same_end-false e x is (number-eq x e same)

      kept : (x : SideId) (b : Bool) → same_end e x ≡ b → is_some (seat hooks' gone' (number x)) ≡ is_some (seat hooks gone (number x))
      kept x true is =
          let at = ap number (same_end-true e x is) in
          ap (λ n. is_some (seat hooks' gone' n)) at ∙ ap is_some seat-now ∙ sym (ap is_some seat-was)
          ∙ sym (ap (λ n. is_some (seat hooks gone n)) at)
      kept x false is = ap is_some (seat-other (number x) (apart x is))

      -- its side was live as it was fired, and so of an opened link
      opened : e.link < new.plain.opened
      opened =
          let lives : is_live s.plain e ≡ true = subst (λ z. is_live s.plain z ≡ true) here h.live in
          let within = live-within s.plain e lives in
          let half = half-below e.side in
          omega (arith, within, pairs, half, stays.opened)

      dead : is_some (if live then Some now else None) ≡ false → live ≡ false
      dead h = go live h
        where
          go : (b : Bool) → is_some (if b then Some now else None) ≡ false → b ≡ false
          go true k = absurd (cc)
          go false k = refl

      freed_at : (x : SideId) → has_hook s.settings x ≡ true → is_some (hook_at hooks' (number x)) ≡ false → (b : Bool) →
          same_end e x ≡ b → (x.link < new.plain.opened) × (is_live new.plain x ≡ false)
      freed_at x has empty true is =
          let at : x ≡ e = same_end-true e x is in
          let none : is_some (if live then Some now else None) ≡ false =
          sym (ap is_some slot-now) ∙ sym (ap (λ (z : SideId). is_some (hook_at hooks' (number z))) at) ∙ empty in
          let gone_now : is_live new.plain e ≡ false = sym lives ∙ dead none in
          subst (λ (z : SideId). (z.link < new.plain.opened) × (is_live new.plain z ≡ false)) (sym at) (opened, gone_now)
      freed_at x has empty false is =
          let was_empty = sym (ap is_some (slot-other (number x) (apart x is))) ∙ empty in
          let before = seats.freed x has was_empty in
          (let a = stays.opened in let b = before.0 in omega (arith, a, b), stays.freed pairs x before.0 before.1)

-- The slot of a live side with a hook is taken.
pub slot-full : {H : Type 0} (s : State) (hooks gone : List (Option H)) (e : SideId) → AreSeated s hooks gone → is_live s.plain e ≡ true →
    has_hook s.settings e ≡ true → is_some (hook_at hooks (number e)) ≡ true
slot-full s hooks gone e seats live has = go (is_some (hook_at hooks (number e))) refl
  where
    go : (b : Bool) → is_some (hook_at hooks (number e)) ≡ b → is_some (hook_at hooks (number e)) ≡ true
    go true is = is
    go false is = absurd (let dead = (seats.freed e has is).1 in cc)

-- reasons that were taken out of the batch, or not, are in no seat
pub left-seated : {H : Type 0} (s : State) (hooks gone : List (Option H)) (rs : List Reason) → AreSeated s hooks gone →
    AreSeated (left_to_fire rs s) hooks gone
left-seated s hooks gone rs h = record { level = h.level; hooked = h.hooked; freed = h.freed }
