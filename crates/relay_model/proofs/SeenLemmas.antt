-- What closing looks at of a side, and which steps leave that as it was.
use Rattle.std.proofs.Common.{◌≡◌, ℕ, ◌-◌, Bool, true, false, ◌&&◌, not, if◌then◌else◌, List, Option, None, ◌⊎◌, inl, inr, refl, ap}
use Rattle.std.specs.Prelude.{nat_le, nat_lt, filter}
use Rattle.token_bucket.specs.declared.limit.Dir.{Dir}
use Rattle.token_bucket.specs.declared.limit.Dir.TheVariants as dir
use Rattle.ev_types.specs.declared.side.SideId.{SideId}
use Rattle.ev_types.specs.declared.act.Act.{Act}
use Rattle.ev_types.specs.declared.act.Act.TheVariants as act
use Rattle.ev_types.specs.declared.why.Why.TheVariants as why
use Rattle.ev_types.specs.Sides.{peer}
use Rattle.relay_model.specs.Settings.{Settings}
use Rattle.relay_model.specs.Plain.{Plain, PlainSide, Timer, side_at, change_side, all_sides}
use Rattle.relay_model.specs.Past.{Past}
use Rattle.relay_model.specs.Rooms.{wants}
use Rattle.relay_model.specs.Reasons.{raise, happened, timeout_flag}
use Rattle.relay_model.specs.Asks.{done, enabled}
use Rattle.relay_model.specs.Moments.{timeout_of, last_activity, active_at, both_ways, timers_taken, timed, side_timed, time_passed}
use Rattle.relay_model.specs.Round.{Part, meets, read_run, write_run, do_part}
use Rattle.relay_model.specs.Serve.{after_got}
use Rattle.relay_model.proofs.KeepsLemmas.{Keeps, raised_read, raised_write, Keeps-refl, Keeps-trans, Keeps-timers, Keeps-raise}
use Rattle.relay_model.proofs.KeepsLemmas.{Keeps-raise_read, Keeps-raise_write, Keeps-put, Keeps-flow, Keeps-fold}

pub record Seen : Type 0 where
  pub live : Bool
  pub ended : Bool
  pub failed : Bool
  pub expired : Bool
  pub bad : Option ℕ
  pub write_ended : Bool
  pub closed : Bool

abbrev pub seen : PlainSide → Seen
seen x = record {
  live = x.live;
  ended = x.ended;
  failed = x.failed;
  expired = x.expired;
  bad = x.bad;
  write_ended = x.write_ended;
  closed = x.closed;
}

-- all but the bad place, and all but the expiry
abbrev pub but_bad : PlainSide → Seen
but_bad x = record (seen x) { bad = None }

abbrev pub but_expired : PlainSide → Seen
but_expired x = record (seen x) { expired = false }

-- Asks

enabled-seen : (d : Dir) (on : Bool) (x : PlainSide) → seen (enabled d on x) ≡ seen x
enabled-seen dir.Read on x = refl
enabled-seen dir.Write on x = refl

-- an ask frees a side, or leaves all that closing looks at
abbrev pub FreesOrNot : Act → Type 0
FreesOrNot a = ((e : SideId) × (a ≡ act.Free e)) ⊎ ((g : Settings) (p : Past) (s : Plain) → Keeps seen s (done g p s a) ×
    ((done g p s a).flows ≡ s.flows))

pub frees_or_not : (a : Act) → FreesOrNot a
frees_or_not (act.Free e) = inl (e, refl)
frees_or_not (act.Enable e d) = inr (λ g p s. (Keeps-put seen e _ s (enabled-seen d true (side_at s e)), refl))
frees_or_not (act.Disable e d) = inr (λ g p s. (Keeps-put seen e _ s (enabled-seen d false (side_at s e)), refl))
frees_or_not (act.Marks e d low high) = inr (λ g p s. (Keeps-put seen e _ s refl, refl))
frees_or_not (act.Timeouts e read write) = inr (λ g p s. (Keeps-put seen e _ s refl, refl))
frees_or_not (act.Rate e cfg) = inr (λ g p s. (Keeps-put seen e _ s refl, refl))
frees_or_not (act.Join e group) = inr (λ g p s. (Keeps-put seen e _ s refl, refl))
frees_or_not (act.Leave e) = inr (λ g p s. (Keeps-put seen e _ s refl, refl))
frees_or_not (act.Trigger e dir.Read) = inr (λ g p s. (Keeps-raise_read seen g p e s, ap (λ z. z.flows) (raised_read g p e s).1))
frees_or_not (act.Trigger e dir.Write) = inr (λ g p s. (Keeps-raise_write seen g p e s, ap (λ z. z.flows) (raised_write g p e s).1))
frees_or_not (act.Timer e delay) = inr (λ g p s. (Keeps-timers seen s _, refl))
frees_or_not (act.Cancel e) = inr (λ g p s. (Keeps-timers seen s _, refl))
frees_or_not (act.Incref e) = inr (λ g p s. (Keeps-put seen e _ s refl, refl))
frees_or_not (act.Decref e) = inr (λ g p s. (Keeps-put seen e _ s refl, refl))
frees_or_not act.Stop = inr (λ g p s. (Keeps-refl seen s, refl))

-- Passing

pub meets-keeps : (e : SideId) (place : Option ℕ) (s : Plain) → Keeps but_bad s (meets e place s)
meets-keeps e place s = Keeps-put but_bad e _ s refl

pub read_run-keeps : (g : Settings) (p : Past) (e : SideId) (ended : Bool) (s : Plain) → Keeps but_bad s (read_run g p e ended s)
read_run-keeps g p e ended s = Keeps-trans but_bad s _ _ (Keeps-flow but_bad e _ s) (meets-keeps e _ _)

pub write_run-keeps : (g : Settings) (p : Past) (e : SideId) (may_end : Bool) (s : Plain) → Keeps but_bad s (write_run g p e may_end s)
write_run-keeps g p e may_end s = Keeps-trans but_bad s _ _ (Keeps-flow but_bad e _ s) (meets-keeps (peer e) _ _)

pub do_part-keeps : (g : Settings) (p : Past) (e : SideId) (x : Part) (s : Plain) → Keeps but_bad s (do_part g p e x s)
do_part-keeps g p e Part.Hold s = Keeps-flow but_bad e _ s
do_part-keeps g p e Part.Read s = Keeps-trans but_bad s _ _ (read_run-keeps g p e (side_at s e).ended s) (Keeps-flow but_bad e _ _)
do_part-keeps g p e Part.Move s = Keeps-flow but_bad e _ s
do_part-keeps g p e Part.Write s = Keeps-trans but_bad s _ _ (write_run-keeps g p e true s) (Keeps-flow but_bad e _ _)
do_part-keeps g p e Part.Drain s = write_run-keeps g p e false s

pub after_got-keeps : (g : Settings) (p : Past) (e : SideId) (s : Plain) → Keeps but_bad s (after_got g p e s)
after_got-keeps g p e s = Keeps-trans but_bad s _ _ (read_run-keeps g p e false s) (Keeps-raise_read but_bad g p e _)

-- Time

active_at-seen : (time : ℕ) (d : Dir) (x : PlainSide) → but_expired (active_at time d x) ≡ but_expired x
active_at-seen time dir.Read x = refl
active_at-seen time dir.Write x = refl

expired-seen : (d : Dir) (x : PlainSide) → but_expired (record (enabled d false x) { expired = true }) ≡ but_expired x
expired-seen dir.Read x = refl
expired-seen dir.Write x = refl

pub timers_taken-keeps : {A : Type 0} (f : PlainSide → A) (g : Settings) (s : Plain) → Keeps f s (timers_taken g s)
timers_taken-keeps f g s =
    let later : List Timer = filter (λ x. nat_lt s.time x.deadline) s.timers in
    let come : List Timer = filter (λ x. nat_le x.deadline s.time) s.timers in
    Keeps-trans f s (record s { timers = later }) _ (Keeps-timers f s later)
    (Keeps-fold f (λ (state : Plain) (x : Timer). raise g x.side why.Timer state) (λ state x. Keeps-raise f g x.side why.Timer
    state) (record s { timers = later }) come)

pub timed-keeps : (g : Settings) (p : Past) (e : SideId) (s : Plain) (d : Dir) → Keeps but_expired s (timed g p e s d)
timed-keeps g p e s d = go (not ((side_at s e).live && nat_le 1 (timeout_of (side_at s e) d))) (not (wants g p s e d))
    (nat_le (timeout_of (side_at s e) d) (s.time - last_activity (side_at s e) d))
  where
    go : (a b c : Bool) → Keeps but_expired s (if a then s
        else (if b then change_side e (active_at s.time d) s
        else (if c then raise g e (happened d timeout_flag) (change_side e (λ y. record (enabled d false y) { expired = true }) s) else s)))
    go true b c = Keeps-refl but_expired s
    go false true c = Keeps-put but_expired e _ s (active_at-seen s.time d (side_at s e))
    go false false true = Keeps-trans but_expired s _ _ (Keeps-put but_expired e _ s (expired-seen d (side_at s e)))
        (Keeps-raise but_expired g e (happened d timeout_flag) _)
    go false false false = Keeps-refl but_expired s

pub side_timed-keeps : (g : Settings) (p : Past) (s : Plain) (e : SideId) → Keeps but_expired s (side_timed g p s e)
side_timed-keeps g p s e = Keeps-fold but_expired (timed g p e) (λ x d. timed-keeps g p e x d) s both_ways

pub time_passed-keeps : (g : Settings) (p : Past) (s : Plain) → Keeps but_expired s (time_passed g p s)
time_passed-keeps g p s =
    Keeps-trans but_expired s _ _ (timers_taken-keeps but_expired g s)
    (Keeps-fold but_expired (side_timed g p) (λ x e. side_timed-keeps g p x e) _ (all_sides s))
