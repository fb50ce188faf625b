-- Links at which no side waits for a moment are left out, where time is held against sides and where a poll asks for how long to wait.
use Rattle.std.specs.List.{list_any}
use Rattle.std.proofs.Common.{◌≡◌, ℕ, zero, suc, ◌+◌, ◌-◌, ◌<◌, ◌≤◌, false, ◌&&◌, ◌||◌, not, if◌then◌else◌}
use Rattle.std.proofs.Common.{List, [], ◌∷◌, ◌++◌, fold, ◌∙◌, ap, arith}
use Rattle.token_bucket.specs.declared.limit.Dir.{Dir}
use Rattle.token_bucket.specs.declared.limit.Dir.TheVariants as dir
use Rattle.ev_types.specs.declared.side.SideId.{SideId}
use Rattle.relay_model.specs.Plain.{side_at, change_side, sides_from}
use Rattle.relay_model.specs.Reasons.{raise, happened, timeout_flag}
use Rattle.relay_model.specs.Moments.{timeout_of, last_activity, is_timed, active_at, moment_where, has_run_out, expire}
use Rattle.relay_state.specs.State.{State, with_plain}
use Rattle.relay_state.specs.Closing.{in_side, out_side}
use Rattle.relay_state.specs.Rooms.{wants}
use Rattle.relay_state.specs.Time.{expiry, timed, side_timed}
use Rattle.relay_core.specs.Timeless.{IsStillSide}
use Rattle.relay_core.specs.Waits.{is_expired, expiries}
use Rattle.relay_core.proofs.TimeLemmas.{sides_from-more}

-- what comes of the sides from one link on comes of those from a later one on, where the sides between them may be left out
pub skips : {A : Type 0} (f : List SideId → A) (n from to : ℕ) → from ≤ to → to ≤ n →
    ((e : SideId) → from ≤ e.link → e.link < to → (es : List SideId) → f (e ∷ es) ≡ f es) →
    f (sides_from from (n - from)) ≡ f (sides_from to (n - to))
skips {A = A} f n from to le within none =
    let gap : from + (to - from) ≡ to = omega (arith, le) in
    go (to - from) from (omega (arith, gap, within)) (λ e a b. none e a (omega (arith, b, gap)))
    ∙ ap (λ k. f (sides_from k (n - k))) gap
  where
    go : (m from : ℕ) → from + m ≤ n → ((e : SideId) → from ≤ e.link → e.link < from + m → (es : List SideId) → f (e ∷ es) ≡ f es) →
        f (sides_from from (n - from)) ≡ f (sides_from (from + m) (n - (from + m)))
    go zero from le none = let same : from ≡ from + zero = omega arith in ap (λ k. f (sides_from k (n - k))) same
    go (suc m) from le none =
        let next : (from + 1) + m ≡ from + suc m = omega arith in
        let rest : List SideId = sides_from (from + 1) (n - (from + 1)) in
        ap f (sides_from-more from n (omega (arith, le)))
        ∙ none (in_side from) (omega arith) (omega arith) (out_side from ∷ rest)
        ∙ none (out_side from) (omega arith) (omega arith) rest
        ∙ go m (from + 1) (omega (arith, le)) (λ e a b. none e (omega (arith, a)) (omega (arith, b)))
        ∙ ap (λ k. f (sides_from k (n - k))) next

-- there is none from the last link on
pub skips-all : {A : Type 0} (f : List SideId → A) (n from : ℕ) → from ≤ n →
    ((e : SideId) → from ≤ e.link → e.link < n → (es : List SideId) → f (e ∷ es) ≡ f es) → f (sides_from from (n - from)) ≡ f []
skips-all f n from le none =
    let over : n - n ≡ 0 = omega arith in
    skips f n from n le (omega arith) none ∙ ap (λ m. f (sides_from n m)) over

module _ (s : State) (e : SideId) (h : IsStillSide s e) where
  not_timed : (d : Dir) → is_timed (side_at s.plain e) d ≡ false
  not_timed dir.Read = h.reads
  not_timed dir.Write = h.writes

  timed-none : (d : Dir) → timed e s d ≡ s
  timed-none d = ap (λ b.
      if not b then s
      else (if not (wants s e d) then with_plain (change_side e (active_at s.plain.time d) s.plain) s
      else (if has_run_out (side_at s.plain e) d s.plain.time
      then with_plain (raise s.settings e (happened d timeout_flag) (change_side e (expire d) s.plain)) s else s))) (not_timed d)

  -- time changes nothing at it
  pub side_timed-none : side_timed s e ≡ s
  side_timed-none = ap (λ z. timed e z dir.Write) (timed-none dir.Read) ∙ timed-none dir.Write

  pub fold-none : (es : List SideId) → fold side_timed s (e ∷ es) ≡ fold side_timed s es
  fold-none es = ap (λ z. fold side_timed z es) side_timed-none

  -- it has not expired
  pub any-none : (es : List SideId) → list_any (is_expired s) (e ∷ es) ≡ list_any (is_expired s) es
  any-none es = ap (λ b. b || list_any (is_expired s) es) h.unexpired

  expiry-none : (d : Dir) → expiry s e d ≡ []
  expiry-none d =
      ap (λ b. moment_where (b && wants s e d) (last_activity (side_at s.plain e) d + timeout_of (side_at s.plain e) d)) (not_timed d)

  -- and won't
  pub expiries-none : (es : List SideId) → expiries s (e ∷ es) ≡ expiries s es
  expiries-none es = (λ i. (expiry-none dir.Read i ++ (expiry-none dir.Write i ++ [])) ++ expiries s es)
