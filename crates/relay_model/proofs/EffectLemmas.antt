-- What an entry that is put changes of the plain state, as far as closing looks at it.
use Rattle.std.proofs.Common.{◌≡◌, ◌+◌, ◌*◌, ◌<◌, ◌≤◌, Bool, true, false, ◌&&◌, ◌||◌, not, if◌then◌else◌, length, None, refl, sym, ◌∙◌, ap}
use Rattle.ev_types.specs.declared.side.SideId.{SideId}
use Rattle.ev_types.specs.Trace.{Event}
use Rattle.relay_model.specs.Trace.{ended_by, write_closed_by}
use Rattle.relay_model.specs.Settings.{Settings}
use Rattle.relay_model.specs.Plain.{Plain, side_at}
use Rattle.relay_model.specs.Stages.{Stage}
use Rattle.ev_types.specs.Times.{latest}
use Rattle.relay_model.specs.RatesKept.{is_turn, time_by}
use Rattle.relay_model.specs.Totals.{is_opened}
use Rattle.relay_model.specs.Told.{names, freed_by, end_closed_by, failed_by, is_freeing}
use Rattle.relay_model.proofs.SeenLemmas.{Seen, seen}

-- of one side, by the event that is put and the stage behind it
pub record SideEffect (e : SideId) (y : Event) (after : Stage) (old new : Seen) : Type 0 where
  pub live : new.live ≡ (old.live && not (freed_by e y || is_freeing after e))
  pub ended : new.ended ≡ (old.ended || ended_by e y)
  pub failed : new.failed ≡ (old.failed || failed_by e y)
  pub write_ended : new.write_ended ≡ (old.write_ended || write_closed_by e y)
  pub closed : new.closed ≡ (old.closed || end_closed_by e y)
  pub bad : new.bad ≡ old.bad
  pub expired : is_turn y ≡ false → new.expired ≡ old.expired

-- a side of a link that was opened just now
abbrev pub fresh : Seen
fresh = record { live = true; ended = false; failed = false; expired = false; bad = None; write_ended = false; closed = false }

-- of the whole state
pub record Effect (g : Settings) (x : Stage) (s : Plain) (y : Event) (after : Stage) (new : Plain) : Type 0 where
  pub time : new.time ≡ time_by s.time y
  pub rises : s.time ≤ new.time
  pub until : s.time ≤ latest → new.time ≤ latest
  pub turn : new.turn ≡ (s.turn + (if is_turn y then 1 else 0))
  pub opened : new.opened ≡ (s.opened + (if is_opened y then 1 else 0))
  pub links : s.opened ≤ g.links → new.opened ≤ g.links
  pub sides : length s.sides ≡ 2 * s.opened → length new.sides ≡ 2 * new.opened
  pub flows : length s.flows ≡ 2 * s.opened → length new.flows ≡ 2 * new.opened
  pub named : (e : SideId) → names e y ≡ true → e.link < s.opened
  pub each : (e : SideId) → e.link < s.opened → SideEffect e y after (seen (side_at s e)) (seen (side_at new e))
  pub came : (e : SideId) → s.opened ≤ e.link → e.link < new.opened → seen (side_at new e) ≡ fresh
  pub frees : (e : SideId) → is_freeing x e ≡ true → freed_by e y ≡ true

-- an event that tells nothing that closing looks at
pub record IsIdle (e : SideId) (y : Event) : Type 0 where
  pub freed : freed_by e y ≡ false
  pub ended : ended_by e y ≡ false
  pub failed : failed_by e y ≡ false
  pub write_ended : write_closed_by e y ≡ false
  pub closed : end_closed_by e y ≡ false

pub or_no : (a b : Bool) → b ≡ false → a ≡ (a || b)
or_no true b h = refl
or_no false b h = sym h

pub or_yes : (a b : Bool) → b ≡ true → true ≡ (a || b)
or_yes true b h = refl
or_yes false b h = sym h

pub and_no : (a b c : Bool) → b ≡ false → c ≡ false → a ≡ (a && not (b || c))
and_no true b c h k = cc
and_no false b c h k = refl

pub and_yes : (a b c : Bool) → (b || c) ≡ true → false ≡ (a && not (b || c))
and_yes true b c h = cc
and_yes false b c h = refl

pub idle-still : (e : SideId) (y : Event) (after : Stage) (old new : Seen) → IsIdle e y → is_freeing after e ≡ false → new ≡ old →
    SideEffect e y after old new
idle-still e y after old new i h k = record {
  live = ap (λ z. z.live) k ∙ and_no old.live (freed_by e y) (is_freeing after e) i.freed h;
  ended = ap (λ z. z.ended) k ∙ or_no old.ended (ended_by e y) i.ended;
  failed = ap (λ z. z.failed) k ∙ or_no old.failed (failed_by e y) i.failed;
  write_ended = ap (λ z. z.write_ended) k ∙ or_no old.write_ended (write_closed_by e y) i.write_ended;
  closed = ap (λ z. z.closed) k ∙ or_no old.closed (end_closed_by e y) i.closed;
  bad = ap (λ z. z.bad) k;
  expired = λ b. ap (λ z. z.expired) k;
}
