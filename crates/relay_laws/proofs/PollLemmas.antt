-- No poll waits longer than a number of 64 bits says: timeouts, delays and ticks are shorter.
use Rattle.std.proofs.Common.{ℕ, ◌+◌, ◌-◌, ◌^◌, ◌<◌, ◌≤◌, min, Bool, true, false, ◌&&◌, if◌then◌else◌, List, [], ◌∷◌, ◌++◌, map, Option}
use Rattle.std.proofs.Common.{Some, None, arith, ◌*◌, ◌/◌, ◌≡◌, suc, ap, ◌∙◌}
use Rattle.std.proofs.Math.Nat.{div-mul-le_self, suc-mul}
use Rattle.std.specs.Prelude.{option_map}
use Rattle.std.specs.List.{AllByRecursion, flat_map}
use Rattle.token_bucket.specs.declared.limit.Dir.{Dir}
use Rattle.token_bucket.specs.declared.limit.Dir.TheVariants as dir
use Rattle.ev_types.specs.declared.side.SideId.{SideId}
use Rattle.ev_types.specs.declared.entry.Entry.TheVariants as entry
use Rattle.ev_types.specs.Trace.{Trace}
use Rattle.script_text.specs.TraceLaws.{IsEntry}
use Rattle.token_bucket.specs.declared.limit.LimitCfg.{LimitCfg}
use Rattle.relay_model.specs.Settings.{Settings, GroupSet}
use Rattle.relay_model.specs.Plain.{Plain, Standing, Timer, side_at, all_sides}
use Rattle.relay_model.specs.Rates.{next_tick}
use Rattle.token_bucket.specs.Spells.{least_with}
use Rattle.relay_model.specs.Past.{Past, past}
use Rattle.relay_model.specs.Rooms.{wants}
use Rattle.relay_model.specs.Moments.{timeout_of, last_activity, is_timed, moment_where, both_ways, expiry, limit_gain, group_gains}
use Rattle.relay_model.specs.Moments.{moments, earliest, is_pressing, poll_timeout}
use Rattle.relay_model.specs.Stages.{State}
use Rattle.relay_model.specs.Turn.{Reaches}
use Rattle.relay_laws.specs.Spelling.{TimeoutsFit}
use Rattle.relay_laws.proofs.SettledLemmas.{settled}
use Rattle.relay_laws.proofs.TimerLemmas.{AllNear, timers-near}

-- moments that are near a time
abbrev AreNear : ℕ → List ℕ → Type 0
AreNear time ms = AllByRecursion (λ m. m < time + 2 ^ 64) ms

near-append : (n : ℕ) (xs ys : List ℕ) → AreNear n xs → AreNear n ys → AreNear n (xs ++ ys)
near-append n [] ys h k = k
near-append n (x ∷ xs) ys h k = (h.0, near-append n xs ys h.1 k)

near-flat : {X : Type 0} (n : ℕ) (f : X → List ℕ) → ((x : X) → AreNear n (f x)) → (xs : List X) → AreNear n (flat_map f xs)
near-flat n f h [] = tt
near-flat n f h (x ∷ xs) = near-append n (f x) (flat_map f xs) (h x) (near-flat n f h xs)

near-where : (n : ℕ) (b : Bool) (m : ℕ) → m < n + 2 ^ 64 → AreNear n (moment_where b m)
near-where n true m h = (h, tt)
near-where n false m h = tt

near-deadlines : (n : ℕ) (ts : List Timer) → AllNear n ts → AreNear n (map (λ x. x.deadline) ts)
near-deadlines n [] h = tt
near-deadlines n (x ∷ xs) h = (let a = h.0 in omega (arith, a), near-deadlines n xs h.1)

-- a tick begins within the length of one
tick-near : (cfg : LimitCfg) (time : ℕ) → next_tick cfg.tick_ms time < time + 2 ^ 64
tick-near cfg time =
    let q : ℕ = time / cfg.tick_ms in
    let on : q + 1 ≡ suc q = omega arith in
    let next : (q + 1) * cfg.tick_ms ≡ q * cfg.tick_ms + cfg.tick_ms = ap (λ n. n * cfg.tick_ms) on ∙ suc-mul q cfg.tick_ms in
    let whole = div-mul-le_self time cfg.tick_ms in
    let short = cfg.tick_within in
    omega (arith, whole, next, short)

least-below : (n : ℕ) (xs : List ℕ) → least_with n xs ≤ n
least-below n [] = omega arith
least-below n (x ∷ xs) = let h = least-below (min n x) xs in omega (arith, h)

near-spelled : (n : ℕ) (ms : List ℕ) → AreNear n ms → IsEntry (entry.Poll (option_map (λ m. m - n) (earliest ms)))
near-spelled n [] h = tt
near-spelled n (x ∷ xs) h = let a = least-below x xs in let b = h.0 in omega (arith, a, b)

module _ (g : Settings) (fit : TimeoutsFit g) (t : Trace) (s : State) (r : Reaches g t s) where
  abbrev p : Plain
  p = s.plain

  abbrev u : Past
  u = past g t

  activity-near : (e : SideId) (d : Dir) → last_activity (side_at p e) d + timeout_of (side_at p e) d < p.time + 2 ^ 64
  activity-near e dir.Read =
      let k = settled g fit t s r e in let a = k.last_read in let b = k.read_ms in omega (arith, a, b)
  activity-near e dir.Write =
      let k = settled g fit t s r e in let a = k.last_write in let b = k.write_ms in omega (arith, a, b)

  expiry-near : (e : SideId) (d : Dir) → AreNear p.time (expiry g u p e d)
  expiry-near e d =
      near-where p.time (is_timed (side_at p e) d && wants g u p e d) (last_activity (side_at p e) d + timeout_of (side_at p e) d)
      (activity-near e d)

  gain-near : (e : SideId) (o : Option Standing) → AreNear p.time (limit_gain u p e o)
  gain-near e None = tt
  gain-near e (Some y) = near-where p.time _ (next_tick y.cfg.tick_ms p.time) (tick-near y.cfg p.time)

  groups-near : (n : ℕ) (xs : List GroupSet) → AreNear p.time (group_gains u p n xs)
  groups-near n [] = tt
  groups-near n (x ∷ xs) =
      near-append p.time (moment_where _ (next_tick x.cfg.tick_ms p.time)) (group_gains u p (n + 1) xs)
      (near-where p.time _ (next_tick x.cfg.tick_ms p.time) (tick-near x.cfg p.time)) (groups-near (n + 1) xs)

  moments-near : AreNear p.time (moments g u p)
  moments-near =
      let timers = near-deadlines p.time p.timers (timers-near g t s r) in
      let groups = groups-near 0 g.groups in
      let expiries = flat_map (λ e. flat_map (expiry g u p e) both_ways) (all_sides p) in
      let gains = flat_map (λ e. limit_gain u p e (side_at p e).limit) (all_sides p) in
      let deadlines = map (λ x. x.deadline) p.timers in
      near-append p.time (deadlines ++ expiries ++ gains) (group_gains u p 0 g.groups)
      (near-append p.time (deadlines ++ expiries) gains
      (near-append p.time deadlines expiries timers
      (near-flat p.time (λ e. flat_map (expiry g u p e) both_ways) (λ e. near-flat p.time (expiry g u p e) (expiry-near e) both_ways)
      (all_sides p)))
      (near-flat p.time (λ e. limit_gain u p e (side_at p e).limit) (λ e. gain-near e (side_at p e).limit) (all_sides p)))
      groups

  pub poll-spelled : IsEntry (entry.Poll (poll_timeout g u p))
  poll-spelled = go (is_pressing p)
    where
      go : (b : Bool) → IsEntry (entry.Poll (if b then Some 0 else option_map (λ m. m - p.time) (earliest (moments g u p))))
      go true = omega arith
      go false = near-spelled p.time (moments g u p) moments-near
