-- The effect of each entry that may be put, case by case.
use Rattle.std.proofs.Common.{◌≡◌, ℕ, ◌+◌, ◌*◌, ◌<◌, ◌≤◌, Bool, true, false, List, [], ◌∷◌, ◌++◌, length, refl, sym, ◌∙◌, ap, subst, arith}
use Rattle.std.proofs.Common.{slice_index_or, length-append}
use Rattle.std.proofs.lemmas.List.{get_or_append_left, get_or-append-add}
use Rattle.ev_types.specs.declared.side.Side.{Side}
use Rattle.ev_types.specs.declared.side.Side.TheVariants.{In, Out}
use Rattle.ev_types.specs.declared.side.SideId.{SideId}
use Rattle.ev_types.specs.declared.entry.Entry.TheVariants as entry
use Rattle.ev_types.specs.Sides.{number, half}
use Rattle.relay_model.specs.Settings.{Settings}
use Rattle.relay_model.specs.Flow.{no_flow}
use Rattle.relay_model.specs.Plain.{Plain, PlainSide, no_side, new_side, with_link, side_at}
use Rattle.relay_model.specs.Past.{Past}
use Rattle.relay_model.specs.Rooms.{Want}
use Rattle.relay_model.specs.Moments.{time_passed}
use Rattle.relay_model.specs.Stages.{Between, Polling, Accepting}
use Rattle.ev_types.specs.Times.{latest}
use Rattle.relay_model.specs.Turn.{turned_to}
use Rattle.relay_model.proofs.EndLemmas.{number-lt}
use Rattle.relay_model.proofs.KeepsLemmas.{Keeps, Keeps-side, Keeps-length}
use Rattle.relay_model.proofs.SeenLemmas.{seen, but_expired, time_passed-keeps}
use Rattle.relay_model.proofs.EffectLemmas.{SideEffect, Effect, idle-still, fresh, or_no, and_no}

-- a turn begins
pub turn-effect : (g : Settings) (s : Plain) (ms : ℕ) (bytes : List ℕ) (p : Past) → s.time ≤ ms → ms ≤ latest → Effect g Between s
    (entry.Turn ms, bytes) Polling (time_passed g p (turned_to ms s))
turn-effect g s ms bytes p le late = record {
  time = k.time;
  rises = let h = k.time in omega arith;
  until = λ h. subst (λ n. n ≤ latest) (sym k.time) late;
  turn = k.turn;
  opened = let h = k.opened in omega arith;
  links = λ h. let o = k.opened in omega arith;
  sides = λ h. let o = k.opened in let l = Keeps-length but_expired (turned_to ms s) new k in omega arith;
  flows = λ h. let o = k.opened in let l = k.flows in omega arith;
  named = λ e h. absurd (cc);
  each = λ e lt. same e (Keeps-side but_expired (turned_to ms s) new e k);
  came = λ e h l. let o = k.opened in absurd (omega arith);
  frees = λ e h. absurd (cc);
}
  where
    new : Plain
    new = time_passed g p (turned_to ms s)

    k : Keeps but_expired (turned_to ms s) new
    k = time_passed-keeps g p (turned_to ms s)

    same : (e : SideId) → but_expired (side_at new e) ≡ but_expired (side_at s e) → SideEffect e (entry.Turn ms, bytes) Polling
        (seen (side_at s e)) (seen (side_at new e))
    same e h = record {
      live = ap (λ z. z.live) h ∙ and_no (side_at s e).live false false refl refl;
      ended = ap (λ z. z.ended) h ∙ or_no (side_at s e).ended false refl;
      failed = ap (λ z. z.failed) h ∙ or_no (side_at s e).failed false refl;
      write_ended = ap (λ z. z.write_ended) h ∙ or_no (side_at s e).write_ended false refl;
      closed = ap (λ z. z.closed) h ∙ or_no (side_at s e).closed false refl;
      bad = ap (λ z. z.bad) h;
      expired = λ b. absurd (cc);
    }

-- the sides of a new link
abbrev in_side : Settings → Plain → PlainSide
in_side g s = new_side g s.time s.turn In true

abbrev out_side : Settings → Plain → Bool → PlainSide
out_side g s connected = new_side g s.time s.turn Out connected

abbrev two : Settings → Plain → Bool → List PlainSide
two g s connected = in_side g s ∷ out_side g s connected ∷ []

-- a link is opened
pub opened-effect : (g : Settings) (s : Plain) (n : ℕ) (marks : List Want) (link : ℕ) (connected : Bool) (bytes : List ℕ) → length
    s.sides ≡ 2 * s.opened → s.opened < g.links →
    Effect g (Accepting n marks) s (entry.Opened link connected, bytes) (Accepting (n + 1) marks) (with_link g connected s)
opened-effect g s n marks link connected bytes size few = record {
  time = refl;
  rises = omega arith;
  until = λ h. h;
  turn = omega arith;
  opened = refl;
  links = λ h. omega arith;
  sides = λ h. omega (arith, length-append s.sides (two g s connected));
  flows = λ h. omega (arith, length-append s.flows (no_flow ∷ no_flow ∷ []));
  named = λ e h. absurd (cc);
  each = λ e lt. idle-still e (entry.Opened link connected, bytes) (Accepting (n + 1) marks) (seen (side_at s e))
      (seen (side_at (with_link g connected s) e))
      (record { freed = refl; ended = refl; failed = refl; write_ended = refl; closed = refl }) refl
      (ap seen (get_or_append_left s.sides (two g s connected) no_side (number e) (omega (arith, number-lt e s.opened lt))));
  came = λ e h l. by_side e (omega arith) e.side refl;
  frees = λ e h. absurd (cc);
}
  where
    by_side : (e : SideId) → e.link ≡ s.opened → (z : Side) → e.side ≡ z → seen (side_at (with_link g connected s) e) ≡ fresh
    by_side e l In z =
        let i : number e ≡ length s.sides + 0 = omega (arith, ap half z) in
        ap (λ v. seen (slice_index_or (s.sides ++ two g s connected) v no_side)) i ∙ ap seen
        (get_or-append-add s.sides (two g s connected) 0 no_side)
    by_side e l Out z =
        let i : number e ≡ length s.sides + 1 = omega (arith, ap half z) in
        ap (λ v. seen (slice_index_or (s.sides ++ two g s connected) v no_side)) i ∙ ap seen
        (get_or-append-add s.sides (two g s connected) 1 no_side)
