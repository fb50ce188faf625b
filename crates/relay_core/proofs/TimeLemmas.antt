-- Where nothing is timed, a turn begins with nothing but its time, and a poll waits for timers alone. Looking at sides opens no link.
use Rattle.std.proofs.Common.{◌≡◌, ◌≢◌, ◌≤◌, ℕ, zero, suc, ◌==◌, ◌+◌, ◌<◌, ◌-◌, Bool, true, false, ◌&&◌, ◌||◌, nat_le, not, if◌then◌else◌}
use Rattle.std.proofs.Common.{List, [], ◌∷◌, ◌++◌}
use Rattle.std.proofs.Common.{length, map, slice_index_or, Option, Some, option_map, refl, sym, ◌∙◌, ap, arith, fold, append-nil}
use Rattle.std.specs.List.{list_any, flat_map}
use Rattle.std.proofs.lemmas.Bool.{le-leb, lt-leb, eqb-true, eqb-false}
use Rattle.token_bucket.specs.declared.limit.Dir.{Dir}
use Rattle.token_bucket.specs.declared.limit.Dir.TheVariants as dir
use Rattle.ev_types.specs.declared.side.Side.TheVariants.{In, Out}
use Rattle.ev_types.specs.declared.side.SideId.{SideId}
use Rattle.ev_types.specs.declared.why.Why.{Why}
use Rattle.ev_types.specs.Sides.{number}
use Rattle.relay_model.specs.Settings.{Settings}
use Rattle.ev_types.specs.Usual.{no_timeouts}
use Rattle.relay_model.specs.Plain.{Plain, PlainSide, Standing, Timer, no_side, side_at, is_live, sides_from, all_sides, change_side}
use Rattle.relay_model.specs.Reasons.{has_hook, raise, happened, timeout_flag}
use Rattle.relay_model.specs.Due.{with_reason}
use Rattle.relay_model.specs.Moments.{timeout_of, last_activity, is_timed, active_at, both_ways, moment_where, earliest, has_run_out}
use Rattle.relay_model.specs.Moments.{is_pressing}
use Rattle.relay_model.specs.Moments.{expire}
use Rattle.relay_state.specs.State.{State, with_plain}
use Rattle.relay_state.specs.Closing.{in_side, out_side}
use Rattle.relay_state.specs.Rooms.{wants}
use Rattle.relay_state.specs.Time.{expiry, limit_gain, group_gains, moments, poll_timeout, timed, side_timed}
use Rattle.relay_core.specs.RelayView.{state_with, IsSound, IsSoundSide}
use Rattle.rate_group.specs.GroupValue.{GroupsValue}
use Rattle.relay_core.specs.Rateless.{HasNoRates}
use Rattle.relay_core.specs.Waits.{wait_until, is_expired}
use Rattle.relay_core.specs.declared.ctl.Ctl.TheInside.{Inside}
use Rattle.relay_core.proofs.RelayLemmas.{sound_at}

no_timeout : (d : Dir) (x : PlainSide) → x.timeouts ≡ no_timeouts → is_timed x d ≡ false
no_timeout d x h = ap (λ t. is_timed (record x { timeouts = t }) d) h ∙ go d x.live
  where
    go : (d : Dir) (b : Bool) → (b && nat_le 1 (timeout_of (record x { timeouts = no_timeouts }) d)) ≡ false
    go dir.Read true = refl
    go dir.Read false = refl
    go dir.Write true = refl
    go dir.Write false = refl

-- no side has a timeout, and none has passed
pub record IsUntimed (s : State) : Type 0 where
  pub timeouts : (e : SideId) → (side_at s.plain e).timeouts ≡ no_timeouts
  pub expired : (e : SideId) → (side_at s.plain e).expired ≡ false

pub untimed_seen : (r : Inside) → IsSound r → r.untimed ≡ true → IsUntimed (state_with r r.sides.links)
untimed_seen r sound h =
    let at : (n : ℕ) → IsSoundSide r.time r.untimed (slice_index_or r.sides.links.sides n no_side) =
    sound_at r.time r.untimed r.sides.links.sides sound.timed.sides in
    record { timeouts = λ e. ((at (number e)).2 h).0; expired = λ e. ((at (number e)).2 h).1 }

module _ (s : State) (u : IsUntimed s) where
  not_timed : (e : SideId) (d : Dir) → is_timed (side_at s.plain e) d ≡ false
  not_timed e d = no_timeout d (side_at s.plain e) (u.timeouts e)

  timed-none : (e : SideId) (d : Dir) → timed e s d ≡ s
  timed-none e d = ap (λ b.
      if not b then s
      else (if not (wants s e d) then with_plain (change_side e (active_at s.plain.time d) s.plain) s
      else (if has_run_out (side_at s.plain e) d s.plain.time
      then with_plain (raise s.settings e (happened d timeout_flag) (change_side e (expire d) s.plain)) s else s))) (not_timed e d)

  side_timed-none : (e : SideId) → side_timed s e ≡ s
  side_timed-none e = ap (λ z. timed e z dir.Write) (timed-none e dir.Read) ∙ timed-none e dir.Write

  -- whichever sides are looked at
  pub all_timed-none : (es : List SideId) → fold side_timed s es ≡ s
  all_timed-none [] = refl
  all_timed-none (e ∷ es) = ap (λ z. fold side_timed z es) (side_timed-none e) ∙ all_timed-none es

  expiry-none : (e : SideId) (d : Dir) → expiry s e d ≡ []
  expiry-none e d =
      ap (λ b. moment_where (b && wants s e d) (last_activity (side_at s.plain e) d + timeout_of (side_at s.plain e) d)) (not_timed e d)

  pub expiries-none : (es : List SideId) → flat_map (λ e. flat_map (expiry s e) both_ways) es ≡ []
  expiries-none [] = refl
  expiries-none (e ∷ es) =
      let a = expiry-none e dir.Read in
      let b = expiry-none e dir.Write in
      (λ i. (a i ++ (b i ++ [])) ++ flat_map (λ e. flat_map (expiry s e) both_ways) es) ∙ expiries-none es

  pub none_expired : (es : List SideId) → list_any (λ e. (side_at s.plain e).live && (side_at s.plain e).expired) es ≡ false
  none_expired [] = refl
  none_expired (e ∷ es) =
      ap (λ b. ((side_at s.plain e).live && b) || list_any (λ e. (side_at s.plain e).live && (side_at s.plain e).expired) es) (u.expired e)
      ∙ go (side_at s.plain e).live ∙ none_expired es
    where
      go : (b : Bool) → ((b && false) || list_any (λ e. (side_at s.plain e).live && (side_at s.plain e).expired) es)
          ≡ list_any (λ e. (side_at s.plain e).live && (side_at s.plain e).expired) es
      go true = refl
      go false = refl

-- no bucket is waited for where no side has a limit
gains-none : (s : State) → HasNoRates s → (es : List SideId) → flat_map (λ e. limit_gain s e (side_at s.plain e).limit) es ≡ []
gains-none s none [] = refl
gains-none s none (e ∷ es) =
    ap (λ (y : Option Standing). limit_gain s e y ++ flat_map (λ e. limit_gain s e (side_at s.plain e).limit) es) (none.limits e)
    ∙ gains-none s none es

-- where nothing is timed a poll wakes up for timers alone
pub moments-untimed : (s : State) → HasNoRates s → IsUntimed s → moments s ≡ map (λ (x : Timer). x.deadline) s.plain.timers
moments-untimed s none u =
    let timers : List ℕ = map (λ (x : Timer). x.deadline) s.plain.timers in
    let expires = expiries-none s u (all_sides s.plain) in
    let gains = gains-none s none (all_sides s.plain) in
    let groups : group_gains s 0 s.groups.groups ≡ [] = ap (λ (z : GroupsValue). group_gains
    (record s { groups = z }) 0 z.groups) none.groups in
    (λ i. ((timers ++ expires i) ++ gains i) ++ groups i)
    ∙ append-nil ((timers ++ []) ++ []) ∙ append-nil (timers ++ []) ∙ append-nil timers

-- where nothing presses, a poll waits for the earliest moment, and else not at all
pub poll_timeout-waits : (s : State) → is_pressing s.plain ≡ false → poll_timeout s ≡ wait_until s.plain.time (moments s)
poll_timeout-waits s none =
    ap (λ b. if b then Some 0 else option_map (λ moment. moment - s.plain.time) (earliest (moments s))) none

pub poll_timeout-presses : (s : State) → is_pressing s.plain ≡ true → poll_timeout s ≡ Some 0
poll_timeout-presses s some =
    ap (λ b. if b then Some 0 else option_map (λ moment. moment - s.plain.time) (earliest (moments s))) some

-- it presses where something is due, and else where a side has expired
pub pressing-due : (s : State) → (length s.plain.due == 0) ≡ false → is_pressing s.plain ≡ true
pressing-due s h =
    let n : ℕ = length s.plain.due in
    ap (λ b. b || list_any (is_expired s) (all_sides s.plain)) (le-leb 1 n (some n (eqb-false n 0 h)))
  where
    some : (n : ℕ) → n ≢ 0 → 1 ≤ n
    some zero e = absurd (e refl)
    some (suc n) e = omega arith

pub pressing-quiet : (s : State) → (length s.plain.due == 0) ≡ true → is_pressing s.plain ≡ list_any (is_expired s) (all_sides s.plain)
pressing-quiet s h =
    let n : ℕ = length s.plain.due in
    ap (λ b. b || list_any (is_expired s) (all_sides s.plain)) (lt-leb 1 n (let e = eqb-true n 0 h in omega (arith, e)))

-- no side changes as it is looked at
pub sides_timed-none : (r : Inside) → IsSound r → r.untimed ≡ true →
    fold side_timed (state_with r r.sides.links) (all_sides (state_with r r.sides.links).plain) ≡ state_with r r.sides.links
sides_timed-none r sound h =
    let s : State = state_with r r.sides.links in all_timed-none s (untimed_seen r sound h) (all_sides s.plain)

-- no link is opened

raise-opened : (g : Settings) (e : SideId) (y : Why) (p : Plain) → (raise g e y p).opened ≡ p.opened
raise-opened g e y p = go (has_hook g e && is_live p e)
  where
    go : (b : Bool) → (if b then record p { due = with_reason e y p.due } else p).opened ≡ p.opened
    go true = refl
    go false = refl

timed-opened : (s : State) (e : SideId) (d : Dir) → (timed e s d).plain.opened ≡ s.plain.opened
timed-opened s e d =
    go (not (is_timed (side_at s.plain e) d)) (not (wants s e d)) (has_run_out (side_at s.plain e) d s.plain.time)
  where
    go : (a b c : Bool) → (if a then s
        else (if b then with_plain (change_side e (active_at s.plain.time d) s.plain) s
        else (if c then with_plain (raise s.settings e (happened d timeout_flag) (change_side e (expire d) s.plain)) s
        else s))).plain.opened ≡ s.plain.opened
    go true b c = refl
    go false true c = refl
    go false false true = raise-opened s.settings e (happened d timeout_flag) (change_side e (expire d) s.plain)
    go false false false = refl

pub side_timed-opened : (s : State) (e : SideId) → (side_timed s e).plain.opened ≡ s.plain.opened
side_timed-opened s e = timed-opened (timed e s dir.Read) e dir.Write ∙ timed-opened s e dir.Read

-- A side stays sound as a direction of it is active, and as one expires, since it has a timeout.

pub active_sound : (time : ℕ) (none : Bool) (d : Dir) (x : PlainSide) → IsSoundSide time none x →
    IsSoundSide time none (active_at time d x)
active_sound time none dir.Read x h = (omega arith, h.1, h.2)
active_sound time none dir.Write x h = (h.0, omega arith, h.2)

untimed_not : (d : Dir) (x : PlainSide) → is_timed x d ≡ true → x.timeouts ≡ no_timeouts → false ≡ true
untimed_not d x is none = sym (no_timeout d x none) ∙ is

pub expire_sound : (time : ℕ) (none : Bool) (d : Dir) (x : PlainSide) → is_timed x d ≡ true → IsSoundSide time none x →
    IsSoundSide time none (expire d x)
expire_sound time none dir.Read x is h =
    (h.0, h.1, λ e. absurd (let wrong : false ≡ true = untimed_not dir.Read x is (h.2 e).0 in cc))
expire_sound time none dir.Write x is h =
    (h.0, h.1, λ e. absurd (let wrong : false ≡ true = untimed_not dir.Write x is (h.2 e).0 in cc))

-- the sides from a link on are those of it and of the links behind
pub sides_from-more : (k n : ℕ) → k < n →
    sides_from k (n - k) ≡ (record { link = k; side = In }) ∷ (record { link = k; side = Out }) ∷ sides_from (k + 1) (n - (k + 1))
sides_from-more k n h = let a : n - k ≡ suc (n - (k + 1)) = omega (arith, h) in ap (sides_from k) a

-- Where a side of a link has, one of the link and of those behind has; where none has, one has where one of those behind has.
pub any-here : (p : SideId → Bool) (k n : ℕ) → k < n → (p (in_side k) || p (out_side k)) ≡ true → list_any p (sides_from k (n - k)) ≡ true
any-here p k n h here = ap (list_any p) (sides_from-more k n h) ∙ go (p (in_side k)) (p (out_side k)) here
  where
    go : (a b : Bool) → (a || b) ≡ true → (a || (b || list_any p (sides_from (k + 1) (n - (k + 1))))) ≡ true
    go true b e = refl
    go false true e = refl
    go false false e = absurd (let wrong : false ≡ true = e in cc)

pub any-more : (p : SideId → Bool) (k n : ℕ) → k < n → (p (in_side k) || p (out_side k)) ≡ false →
    list_any p (sides_from k (n - k)) ≡ list_any p (sides_from (k + 1) (n - (k + 1)))
any-more p k n h none = ap (list_any p) (sides_from-more k n h) ∙ go (p (in_side k)) (p (out_side k)) none
  where
    go : (a b : Bool) → (a || b) ≡ false →
        (a || (b || list_any p (sides_from (k + 1) (n - (k + 1))))) ≡ list_any p (sides_from (k + 1) (n - (k + 1)))
    go true b e = absurd (let wrong : true ≡ false = e in cc)
    go false true e = absurd (let wrong : true ≡ false = e in cc)
    go false false e = refl

-- no direction was active later than the time
pub last_sound : (time : ℕ) (none : Bool) (d : Dir) (x : PlainSide) → IsSoundSide time none x → last_activity x d ≤ time
last_sound time none dir.Read x h = h.0
last_sound time none dir.Write x h = h.1
