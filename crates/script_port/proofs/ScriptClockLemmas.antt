-- The readings of a script port's clock behind the turns of the script, and what the turns of a plan say.
use Rattle.std.proofs.Common.{◌≡◌, ℕ, zero, suc, ◌+◌, ◌-◌, ◌*◌, ◌≤◌, List, [], ◌∷◌, ◌++◌, length, get_or, take, drop, map, Option}
use Rattle.std.proofs.Common.{Some, None, refl, sym, ap, subst, ◌∙◌, arith, length-append, inl, inr}
use Rattle.std.specs.Prelude.{unwrap_or}
use Rattle.std.specs.List.{last_or}
use Rattle.std.proofs.lemmas.Bool.{cases_lt}
use Rattle.std.proofs.lemmas.List.{length-map, length-replicate, get_or_past, take_all, drop_all}
use Rattle.std.proofs.lemmas.Grind.{flat_map-append}
use Rattle.std.proofs.Common.{append-nil}
use Rattle.ev_types.specs.ScriptTurn.{ScriptTurn, lines_of}
use Rattle.relay_model.specs.Scripted.{reading}
use Rattle.script_port.specs.ScriptPlan.{closings}
use Rattle.script_port.specs.ScriptVouched.{last_reading}

-- The clock

-- the last of some moments, or 0
abbrev pub last_moment : List ScriptTurn → ℕ
last_moment turns = unwrap_or (last_or None (map (λ (turn : ScriptTurn). turn.0) turns)) 0

-- behind the turns of the script the clock goes on by the step
pub reading_behind : (turns : List ScriptTurn) (step n : ℕ) → length turns ≤ n → reading turns step n ≡ last_moment turns + step *
    (n + 1 - length turns)
reading_behind turns step n past =
    let long = length-map turns (λ (turn : ScriptTurn). turn.0) in
    get_or_past (map (λ (turn : ScriptTurn). turn.0) turns) n (last_moment turns + step * (n + 1 - length turns))
    (omega (arith, long, past))

last_at : (m : Option ℕ) (x : ℕ) (xs : List ℕ) (d : ℕ) → get_or (x ∷ xs) (length xs) d ≡ unwrap_or (last_or m (x ∷ xs)) 0
last_at m x [] d = refl
last_at m x (y ∷ ys) d = last_at (Some x) y ys d

last_read : (turns : List ScriptTurn) (n d : ℕ) → length turns ≡ suc n → get_or (map (λ (turn : ScriptTurn). turn.0) turns) n d ≡
    last_moment turns
last_read [] n d h = absurd (omega (arith, h))
last_read (turn ∷ turns) n d h =
    let moments = map (λ (x : ScriptTurn). x.0) turns in
    let long : length moments ≡ n = length-map turns (λ (x : ScriptTurn). x.0) ∙ omega (arith, h) in
    ap (λ k. get_or (turn.0 ∷ moments) k d) (sym long) ∙ last_at None turn.0 moments d

times_none : (step k : ℕ) → k ≡ 0 → step * k ≡ 0
times_none step k h = ap (λ n. step * n) h ∙ omega arith

-- so is the last reading
last_behind : (turns : List ScriptTurn) (step n : ℕ) → length turns ≤ n → last_reading turns step n ≡ last_moment turns + step *
    (n - length turns)
last_behind [] step zero h = let none = times_none step (0 - 0) (omega arith) in omega (arith, none)
last_behind (turn ∷ turns) step zero h = absurd (omega (arith, h))
last_behind turns step (suc n) h =
    elim (cases_lt n (length turns)) [
      | inl last ↦
          let is : length turns ≡ suc n = omega (arith, last, h) in
          let none = times_none step (suc n - length turns) (omega (arith, is)) in
          let read = last_read turns n (last_moment turns + step * (n + 1 - length turns)) is in
          read ∙ omega (arith, none)
      | inr past ↦
          reading_behind turns step n past ∙ ap (λ (k : ℕ). last_moment turns + step * k) (omega (arith, past))
    ]

times_more : (step k m : ℕ) → m ≡ k + 1 → step * m ≡ step * k + step
times_more step k m h = ap (λ n. step * n) h ∙ omega arith

-- A closing turn goes on by the step.
pub reading_goes_on : (turns : List ScriptTurn) (step n : ℕ) → length turns ≤ n → reading turns step n ≡ last_reading turns step n + step
reading_goes_on turns step n past =
    let now = reading_behind turns step n past in
    let before = last_behind turns step n past in
    let more = times_more step (n - length turns) (n + 1 - length turns) (omega (arith, past)) in
    omega (arith, now, before, more)

-- The turns of a plan

closings_say_nothing : (n : ℕ) → lines_of (closings n) ≡ []
closings_say_nothing zero = refl
closings_say_nothing (suc n) = closings_say_nothing n

-- closing turns have no lines
pub lines_of_plan : (turns : List ScriptTurn) (n : ℕ) → lines_of (turns ++ closings n) ≡ lines_of turns
lines_of_plan turns n =
    flat_map-append (λ (turn : ScriptTurn). turn.1) turns (closings n) ∙ ap (λ z. lines_of turns ++ z) (closings_say_nothing n)
    ∙ append-nil (lines_of turns)

pub length_of_plan : (turns : List ScriptTurn) (n : ℕ) → length (turns ++ closings n) ≡ length turns + n
length_of_plan turns n =
    let both = length-append turns (closings n) in
    let long : length (closings n) ≡ n = length-replicate n (0, []) in
    omega (arith, both, long)

-- no lines are left behind the last turn
pub no_lines_now : (turns : List ScriptTurn) (n : ℕ) → length turns ≤ n → lines_of (drop (n + 1 - 1) (take (n + 1) turns)) ≡ []
no_lines_now turns n past =
    ap lines_of (drop_all (n + 1 - 1) (take (n + 1) turns) (subst (λ z. length z ≤ n + 1 - 1) (sym (all turns n past)) (omega
    (arith, past))))
  where
    all : (ts : List ScriptTurn) (m : ℕ) → length ts ≤ m → take (m + 1) ts ≡ ts
    all ts m h = take_all (m + 1) ts (omega (arith, h))
