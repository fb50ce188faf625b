-- The clock can count the closing turns of a small script.
use Rattle.std.proofs.Common.{◌≡◌, ◌≤◌, ◌*◌, ◌^◌, ◌==◌, ℕ, Bool, true, false, max, List, [], ◌∷◌, ◌++◌, Option, Some, None}
use Rattle.std.proofs.Common.{if◌then◌else◌, refl, arith}
use Rattle.std.specs.Prelude.{All, IfSome, fold, map, sum_by, unwrap_or, option_map, option_to_list}
use Rattle.std.specs.List.{last_or}
use Rattle.std.proofs.lemmas.List.Elements.{All-head, All-tail}
use Rattle.std.proofs.lemmas.List.Sums.{sum_by-cons}
use Rattle.token_bucket.specs.declared.limit.LimitCfg.{LimitCfg}
use Rattle.ev_types.specs.ScriptTurn.{ScriptTurn, lines_of}
use Rattle.ev_types.specs.declared.turn_line.TurnLine.{TurnLine}
use Rattle.ev_types.specs.declared.turn_line.TurnLine.TheVariants as turn
use Rattle.script_text.specs.Brought as text
use Rattle.relay_model.specs.Settings.{GroupSet, Settings}
use Rattle.relay_model.specs.Called.{NamesOpened}
use Rattle.relay_model.specs.ClosingTurns.{brought_count}
use Rattle.relay_model.specs.Script.{closing_step, greatest, tick_lengths}
use Rattle.drain_laws.specs.CanDrain.{closing_turn_bound, last_moment, IsCountable, NoneBehind}
use Rattle.evplay.specs.Run.{AreSmall}

-- each number of a list is at most this one
abbrev pub AreWithin : ℕ → List ℕ → Type 0
AreWithin m [] = Unit {0}
AreWithin m (x ∷ xs) = (x ≤ m) × AreWithin m xs

within-append : (m : ℕ) (xs ys : List ℕ) → AreWithin m xs → AreWithin m ys → AreWithin m (xs ++ ys)
within-append m [] ys h k = k
within-append m (x ∷ xs) ys h k = (h.0, within-append m xs ys h.1 k)

-- the greatest of them is too
greatest-from : (m most : ℕ) (xs : List ℕ) → most ≤ m → AreWithin m xs → fold (λ most n. max most n) most xs ≤ m
greatest-from m most [] low h = low
greatest-from m most (x ∷ xs) low h = let one = h.0 in greatest-from m (max most x) xs (omega (arith, low, one)) h.1

-- no tick is longer than 2^20
tick-within : (o : Option LimitCfg) → AreWithin (2 ^ 20) (option_to_list (option_map (λ (cfg : LimitCfg). cfg.tick_ms) o))
tick-within None = tt
tick-within (Some cfg) = (cfg.tick_within, tt)

ticks-within : (xs : List GroupSet) → AreWithin (2 ^ 20) (map (λ (x : GroupSet). x.cfg.tick_ms) xs)
ticks-within [] = tt
ticks-within (x ∷ xs) = (x.cfg.tick_within, ticks-within xs)

pub step-within : (g : Settings) → closing_step g ≤ 2 ^ 20
step-within g = go (greatest (tick_lengths g)) most
  where
    most : greatest (tick_lengths g) ≤ 2 ^ 20
    most = greatest-from (2 ^ 20) 0 (tick_lengths g) (omega arith)
        (within-append (2 ^ 20) _ _ (within-append (2 ^ 20) _ _ (tick-within g.in_rate) (tick-within g.out_rate)) (ticks-within g.groups))

    go : (n : ℕ) → n ≤ 2 ^ 20 → (if n == 0 then 1000 else n) ≤ 2 ^ 20
    go n h = by_case (n == 0)
      where
        by_case : (b : Bool) → (if b then 1000 else n) ≤ 2 ^ 20
        by_case true = omega arith
        by_case false = h

-- what the lines of a script bring in, in the words of its text and in those of its meaning
pub brought-same : (xs : List TurnLine) → sum_by brought_count xs ≡ sum_by text.brought xs
brought-same [] = refl
brought-same (x ∷ xs) =
    let one = by_line x in
    let rest = brought-same xs in
    omega (arith, sum_by-cons brought_count x xs, sum_by-cons text.brought x xs, one, rest)
  where
    by_line : (y : TurnLine) → brought_count y ≡ text.brought y
    by_line (turn.NewLink wait) = refl
    by_line (turn.Conn link made) = refl
    by_line (turn.Pending side bytes) = refl
    by_line (turn.Eof side) = refl
    by_line (turn.ReadFail side) = refl
    by_line (turn.Take side more) = refl
    by_line (turn.WriteFail side) = refl
    by_line (turn.Spur side) = refl
    by_line turn.PollFail = refl

-- the last moment is none of the later ones
last-within : (m : ℕ) (o : Option ℕ) (turns : List ScriptTurn) → IfSome o (λ n. n ≤ m) → All (λ (turn : ScriptTurn). turn.0 ≤ m) turns →
    IfSome (last_or o (map (λ (turn : ScriptTurn). turn.0) turns)) (λ n. n ≤ m)
last-within m o [] h all = h
last-within m o (x ∷ turns) h all = last-within m (Some x.0) turns (All-head (λ (turn : ScriptTurn). turn.0 ≤ m) x turns all)
    (All-tail (λ (turn : ScriptTurn). turn.0 ≤ m) x turns all)

or-zero : (m : ℕ) (o : Option ℕ) → IfSome o (λ n. n ≤ m) → unwrap_or o 0 ≤ m
or-zero m None h = omega arith
or-zero m (Some n) h = h

pub moment-within : (turns : List ScriptTurn) → AreSmall turns → last_moment turns ≤ 2 ^ 40
moment-within turns small = or-zero (2 ^ 40) _ (last-within (2 ^ 40) None turns tt small.moments)

pub bound-within : (turns : List ScriptTurn) → AreSmall turns → closing_turn_bound turns ≤ 2 ^ 29
bound-within turns small =
    let bytes = small.bytes in
    let links = small.links in
    let same = brought-same (lines_of turns) in
    omega (arith, bytes, links, same)

pub product-within : (a b m n : ℕ) → a ≤ m → b ≤ n → a * b ≤ m * n
product-within a b m n h k = grind (arith, h, k)

pub countable : (g : Settings) (turns : List ScriptTurn) → AreSmall turns → NamesOpened 0 (lines_of turns) →
    NoneBehind (lines_of turns) → g.links ≡ 256 → IsCountable g turns
countable g turns small names behind many =
    let all : closing_step g * closing_turn_bound turns ≤ 2 ^ 20 * 2 ^ 29 =
    product-within (closing_step g) (closing_turn_bound turns) (2 ^ 20) (2 ^ 29) (step-within g) (bound-within turns small) in
    let links = small.links in
    record {
      names = names;
      none_behind = behind;
      links = omega (arith, links, many);
      clock = omega (arith, all, moment-within turns small);
    }
