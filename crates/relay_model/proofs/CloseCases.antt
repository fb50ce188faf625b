-- The effect of closing and of what a hook frees.
use Rattle.std.proofs.Common.{◌≡◌, ℕ, ◌*◌, ◌<◌, Bool, true, false, ◌&&◌, ◌||◌, not, if◌then◌else◌, List, length, Option, Some, None, ◌⊎◌}
use Rattle.std.proofs.Common.{inl, inr, refl, sym, ◌∙◌, ap, subst, arith}
use Rattle.std.specs.Prelude.{option_map}
use Rattle.std.proofs.lemmas.Bool.{or_left}
use Rattle.ev_types.specs.declared.side.Side.TheVariants.{In, Out}
use Rattle.ev_types.specs.declared.side.SideId.{SideId}
use Rattle.ev_types.specs.declared.act.Act.{Act}
use Rattle.ev_types.specs.declared.act.Act.TheVariants as act
use Rattle.ev_types.specs.declared.answer.AskAnswer.{AskAnswer}
use Rattle.ev_types.specs.declared.answer.AskAnswer.TheVariants as ask
use Rattle.ev_types.specs.declared.why.Cause.{Cause}
use Rattle.ev_types.specs.declared.why.Cause.TheVariants as cause
use Rattle.ev_types.specs.declared.entry.Entry.{Entry}
use Rattle.ev_types.specs.declared.entry.Entry.TheVariants as entry
use Rattle.ev_types.specs.Sides.{same_end}
use Rattle.ev_types.specs.Trace.{Event}
use Rattle.relay_model.specs.Settings.{Settings}
use Rattle.relay_model.specs.Due.{Reason}
use Rattle.relay_model.specs.Plain.{Plain, PlainSide, side_at, put_side, change_side, is_live, freed}
use Rattle.relay_model.specs.Past.{Past}
use Rattle.relay_model.specs.Asks.{Ask}
use Rattle.relay_model.specs.Close.{CloseStep, fault, freed_entry, entry_where, closing_entry, closed_by}
use Rattle.relay_model.specs.Stages.{Stage, Fire, Firing, Freeing, after_ask}
use Rattle.relay_model.specs.Told.{is_freeing}
use Rattle.relay_model.proofs.EndLemmas.{same_end-eq, same_end-refl}
use Rattle.relay_model.proofs.KeepsLemmas.{Keeps-refl}
use Rattle.relay_model.proofs.SeenLemmas.{seen}
use Rattle.relay_model.proofs.EffectLemmas.{SideEffect, Effect, IsIdle, or_no, or_yes, and_no, and_yes}
use Rattle.relay_model.proofs.PlacedLemmas.{live-there, link_of}
use Rattle.relay_model.proofs.AskLemmas.{Frees, GoesOn, ask-outcome}
use Rattle.relay_model.proofs.ServeCases.{named-one}
use Rattle.relay_model.proofs.PutLemmas.{IsPlainEvent, effect-keeps, effect-at}

-- What is put by closing

-- a step that is done where a test holds
pub where_parts : (b : Bool) (y e : Entry) → entry_where b y ≡ Some e → (b ≡ true) × (e ≡ y)
where_parts true y e h = (refl, cc)
where_parts false y e h = absurd (cc)

pub faulty_parts : (s : Plain) (z : SideId) (b : Bool) (o : Option Cause) (e : Entry) → (if b then option_map (freed_entry s z) o
    else None) ≡ Some e →
    (b ≡ true) × ((why : Cause) × (o ≡ Some why) × (e ≡ freed_entry s z why))
faulty_parts s z true (Some why) e h = (refl, (why, refl, cc))
faulty_parts s z true None e h = absurd (cc)
faulty_parts s z false o e h = absurd (cc)

-- a side is freed and the free is recorded
freed-effect : (g : Settings) (x : Stage) (s : Plain) (after : Stage) (z : SideId) (why : Cause) (moved given : ℕ) (bytes : List ℕ)
    → length s.sides ≡ 2 * s.opened → z.link < s.opened →
    ((e : SideId) → is_freeing after e ≡ false) → ((e : SideId) → is_freeing x e ≡ false) → Effect g x s
    (entry.Freed z why moved given, bytes) after (freed z s)
freed-effect g x s after z why moved given bytes size lt still before =
    effect-at g x s y after (freed z s) z changed (record { time = refl; turn = refl; opened = refl; flows = refl; sides = refl })
    (record { turn = refl; opens = refl; time = λ n. refl }) size lt here
    (λ e q. (record { freed = q; ended = refl; failed = refl; write_ended = refl; closed = refl }, still e))
    before (named-one s z lt)
  where
    y : Event
    y = (entry.Freed z why moved given, bytes)

    changed : PlainSide
    changed = record (side_at s z) { live = false; group = None }

    here : SideEffect z y after (seen (side_at s z)) (seen changed)
    here = record {
      live = and_yes (side_at s z).live (same_end z z) (is_freeing after z) (or_left (same_end z z) (is_freeing after z) (same_end-refl z));
      ended = or_no (side_at s z).ended false refl;
      failed = or_no (side_at s z).failed false refl;
      write_ended = or_no (side_at s z).write_ended false refl;
      closed = or_no (side_at s z).closed false refl;
      bad = refl;
      expired = λ b. refl;
    }

-- writing is ended at an end
write_ended-effect : (g : Settings) (x : Stage) (s : Plain) (after : Stage) (z : SideId) (bytes : List ℕ) → length s.sides ≡ 2 *
    s.opened → z.link < s.opened →
    ((e : SideId) → is_freeing after e ≡ false) → ((e : SideId) → is_freeing x e ≡ false) →
    Effect g x s (entry.CloseWrite z, bytes) after (change_side z (λ v. record v { write_ended = true }) s)
write_ended-effect g x s after z bytes size lt still before =
    effect-at g x s y after _ z changed (Keeps-refl seen (put_side z changed s))
    (record { turn = refl; opens = refl; time = λ n. refl }) size lt here
    (λ e q. (record { freed = refl; ended = refl; failed = refl; write_ended = q; closed = refl }, still e))
    before (named-one s z lt)
  where
    y : Event
    y = (entry.CloseWrite z, bytes)

    changed : PlainSide
    changed = record (side_at s z) { write_ended = true }

    here : SideEffect z y after (seen (side_at s z)) (seen changed)
    here = record {
      live = and_no (side_at s z).live false (is_freeing after z) refl (still z);
      ended = or_no (side_at s z).ended false refl;
      failed = or_no (side_at s z).failed false refl;
      write_ended = or_yes (side_at s z).write_ended (same_end z z) (same_end-refl z);
      closed = or_no (side_at s z).closed false refl;
      bad = refl;
      expired = λ b. refl;
    }

-- an end is closed
closed-effect : (g : Settings) (x : Stage) (s : Plain) (after : Stage) (z : SideId) (bytes : List ℕ) → length s.sides ≡ 2 *
    s.opened → z.link < s.opened →
    ((e : SideId) → is_freeing after e ≡ false) → ((e : SideId) → is_freeing x e ≡ false) →
    Effect g x s (entry.Close z, bytes) after (change_side z (λ v. record v { closed = true }) s)
closed-effect g x s after z bytes size lt still before =
    effect-at g x s y after _ z changed (Keeps-refl seen (put_side z changed s))
    (record { turn = refl; opens = refl; time = λ n. refl }) size lt here
    (λ e q. (record { freed = refl; ended = refl; failed = refl; write_ended = refl; closed = q }, still e))
    before (named-one s z lt)
  where
    y : Event
    y = (entry.Close z, bytes)

    changed : PlainSide
    changed = record (side_at s z) { closed = true }

    here : SideEffect z y after (seen (side_at s z)) (seen changed)
    here = record {
      live = and_no (side_at s z).live false (is_freeing after z) refl (still z);
      ended = or_no (side_at s z).ended false refl;
      failed = or_no (side_at s z).failed false refl;
      write_ended = or_no (side_at s z).write_ended false refl;
      closed = or_yes (side_at s z).closed (same_end z z) (same_end-refl z);
      bad = refl;
      expired = λ b. refl;
    }

-- what closing does, in the words of the entry that it puts
pub closing-effect : (g : Settings) (x : Stage) (p : Past) (s : Plain) (after : Stage) (c : CloseStep) (e : Entry) (bytes : List ℕ)
    → length s.sides ≡ 2 * s.opened → link_of c < s.opened →
    ((z : SideId) → is_freeing after z ≡ false) → ((z : SideId) → is_freeing x z ≡ false) → closing_entry g p s c ≡ Some e → Effect
    g x s (e, bytes) after (closed_by c s)
closing-effect g x p s after (CloseStep.Faulty z) e bytes size lt still before h =
    let k = faulty_parts s z (is_live s z) (fault (side_at s z)) e h in
    subst (λ v. Effect g x s (v, bytes) after (freed z s)) (sym k.1.2) (freed-effect g x s after z k.1.0 _ _ bytes size lt still before)
closing-effect g x p s after (CloseStep.EndWriting z) e bytes size lt still before h =
    subst (λ v. Effect g x s (v, bytes) after (change_side z (λ v. record v { write_ended = true }) s))
    (sym (where_parts _ (entry.CloseWrite z) e h).1)
    (write_ended-effect g x s after z bytes size lt still before)
closing-effect g x p s after (CloseStep.BothDone k) e bytes size lt still before h =
    subst (λ v. Effect g x s (v, bytes) after (freed (record { link = k; side = In }) s)) (sym (where_parts _ _ e h).1)
    (freed-effect g x s after (record { link = k; side = In }) cause.Done _ _ bytes size lt still before)
closing-effect g x p s after (CloseStep.OutDone k) e bytes size lt still before h =
    let same : e ≡ freed_entry s (record { link = k; side = Out }) cause.Done = cc in
    subst (λ v. Effect g x s (v, bytes) after (freed (record { link = k; side = Out }) s)) (sym same)
    (freed-effect g x s after (record { link = k; side = Out }) cause.Done _ _ bytes size lt still before)
closing-effect g x p s after (CloseStep.PeerGone z) e bytes size lt still before h =
    subst (λ v. Effect g x s (v, bytes) after (freed z s)) (sym (where_parts _ _ e h).1) (freed-effect g x s after z cause.PeerGone
    _ _ bytes size lt still before)
closing-effect g x p s after (CloseStep.Shut z) e bytes size lt still before h =
    subst (λ v. Effect g x s (v, bytes) after (change_side z (λ v. record v { closed = true }) s))
    (sym (where_parts _ (entry.Close z) e h).1)
    (closed-effect g x s after z bytes size lt still before)

-- What a hook frees

pub asked-effect : (g : Settings) (p : Past) (s : Plain) (x : Fire) (rs : List Reason) (me : SideId) (a : Act) (answer : AskAnswer)
    (bytes : List ℕ) (next : Fire) (after : Plain) →
    length s.sides ≡ 2 * s.opened → me.link < s.opened → Ask g p s a answer after → Effect g (Firing x rs) s
    (entry.Asked me a answer, bytes) (after_ask next rs a answer) after
asked-effect g p s x rs me a answer bytes next after size lt h = go (ask-outcome g p s next rs a answer after h)
  where
    idle : (a : Act) (answer : AskAnswer) (e : SideId) → IsIdle e (entry.Asked me a answer, bytes)
    idle a answer e = record { freed = refl; ended = refl; failed = refl; write_ended = refl; closed = refl }

    plainly : (a : Act) (answer : AskAnswer) → IsPlainEvent (entry.Asked me a answer, bytes)
    plainly a answer = record { turn = refl; opens = refl; time = λ n. refl }

    freeing : (gone : SideId) → is_live s gone ≡ true → Effect g (Firing x rs) s (entry.Asked me (act.Free gone) ask.Ok, bytes)
        (after_ask next rs (act.Free gone) ask.Ok) (freed gone s)
    freeing gone live =
        effect-at g (Firing x rs) s (entry.Asked me (act.Free gone) ask.Ok, bytes) (after_ask next rs (act.Free gone) ask.Ok)
        (freed gone s) gone (record (side_at s gone) { live = false; group = None })
        (record { time = refl; turn = refl; opened = refl; flows = refl; sides = refl }) (plainly (act.Free gone) ask.Ok) size
        (live-there s gone size live)
        (record {
          live = and_yes (side_at s gone).live false (same_end gone gone) (same_end-refl gone);
          ended = or_no (side_at s gone).ended false refl;
          failed = or_no (side_at s gone).failed false refl;
          write_ended = or_no (side_at s gone).write_ended false refl;
          closed = or_no (side_at s gone).closed false refl;
          bad = refl;
          expired = λ b. refl;
        })
        (λ e q. (idle (act.Free gone) ask.Ok e, q)) (λ e. refl) (named-one s me lt)

    go : Frees s after a answer ⊎ GoesOn next rs s after a answer → Effect g (Firing x rs) s (entry.Asked me a answer, bytes)
        (after_ask next rs a answer) after
    go (inl k) =
        subst (λ z. Effect g (Firing x rs) s (entry.Asked me a answer, bytes) (after_ask next rs a answer) z) (sym k.freed)
        (subst (λ z. Effect g (Firing x rs) s (entry.Asked me z answer, bytes) (after_ask next rs z answer) (freed k.gone s)) (sym k.act)
        (subst (λ z. Effect g (Firing x rs) s (entry.Asked me (act.Free k.gone) z, bytes) (after_ask next rs (act.Free k.gone) z)
        (freed k.gone s)) (sym k.answered) (freeing k.gone k.live)))
    go (inr k) =
        effect-keeps g (Firing x rs) s (entry.Asked me a answer, bytes) (after_ask next rs a answer) after k.keeps
        (plainly a answer) (idle a answer)
        (λ e. ap (λ z. is_freeing z e) k.stage) (λ e. refl) (named-one s me lt)

-- what a hook freed is recorded
pub freeing-effect : (g : Settings) (s : Plain) (x : Fire) (rs : List Reason) (gone : SideId) (why : Cause) (moved given : ℕ)
    (bytes : List ℕ) → gone.link < s.opened → is_live s gone ≡ false →
    Effect g (Freeing gone x rs) s (entry.Freed gone why moved given, bytes) (Firing x rs) s
freeing-effect g s x rs gone why moved given bytes lt dead = record {
  time = refl;
  rises = omega arith;
  until = λ h. h;
  turn = omega arith;
  opened = omega arith;
  links = λ h. h;
  sides = λ h. h;
  flows = λ h. h;
  named = named-one s gone lt;
  each = λ e le. record {
    live = live e (same_end gone e) refl;
    ended = or_no (side_at s e).ended false refl;
    failed = or_no (side_at s e).failed false refl;
    write_ended = or_no (side_at s e).write_ended false refl;
    closed = or_no (side_at s e).closed false refl;
    bad = refl;
    expired = λ b. refl;
  };
  came = λ e h l. absurd (omega arith);
  frees = λ e h. h;
}
  where
    live : (e : SideId) (q : Bool) → same_end gone e ≡ q → is_live s e ≡ (is_live s e && not (same_end gone e || false))
    live e true q = let gone_is : is_live s e ≡ false = ap (λ z. is_live s z) (sym (same_end-eq gone e q)) ∙ dead in gone_is ∙ ap
        (λ z. z && not (same_end gone e || false)) (sym gone_is)
    live e false q = and_no (is_live s e) (same_end gone e) false q refl
