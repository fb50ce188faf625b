use Rattle.std.proofs.Common.{◌≡◌, ◌==◌, ◌++◌, ◌∷◌, [], ℕ, Bool, true, false, List, max, Option, Some, None, map, refl, sym, ap, ◌∙◌}
use Rattle.std.proofs.Common.{if◌then◌else◌, arith}
use Rattle.std.specs.Prelude.{fold, option_map, option_to_list}
use Rattle.std.specs.Option.{option_map_or}
use Rattle.std.proofs.lemmas.Bool.{eqb-true}
use Rattle.token_bucket.specs.declared.limit.LimitCfg.{LimitCfg}
use Rattle.rate_group.specs.declared.group_set.GroupSet.{GroupSet}
use Rattle.relay_core.specs.GivenGroups.{group_given}
use Rattle.relay_model.specs.Script.{greatest}
use Rattle.evplay.proofs.closing.closing_step.Goals as goal

abbrev longest : ℕ → List ℕ → ℕ
longest n xs = fold (λ (most n : ℕ). max most n) n xs

longest-append : (n : ℕ) (xs ys : List ℕ) → longest n (xs ++ ys) ≡ longest (longest n xs) ys
longest-append n [] ys = refl
longest-append n (x ∷ xs) ys = longest-append (max n x) xs ys

-- the tick of a limit, where one is set
longest-option : (n : ℕ) (o : Option LimitCfg) →
    longest n (option_to_list (option_map (λ (cfg : LimitCfg). cfg.tick_ms) o))
    ≡ max n (option_map_or (λ (cfg : LimitCfg). cfg.tick_ms) o 0)
longest-option n None = omega arith
longest-option n (Some cfg) = refl

groups-same : (n : ℕ) (groups : List GroupSet) →
    longest n (map (λ x. x.cfg.tick_ms) (map group_given groups)) ≡ longest n (map (λ (x : GroupSet). x.cfg.tick_ms) groups)
groups-same n [] = refl
groups-same n (x ∷ groups) = groups-same (max n x.cfg.tick_ms) groups

-- the greatest tick length is the longest tick of the sides and then of the groups
greatest-is : (ins outs : Option LimitCfg) (groups : List GroupSet) →
    greatest (option_to_list (option_map (λ (cfg : LimitCfg). cfg.tick_ms) ins)
    ++ option_to_list (option_map (λ (cfg : LimitCfg). cfg.tick_ms) outs) ++ map (λ x. x.cfg.tick_ms) (map group_given groups))
    ≡ longest (max (max 0 (option_map_or (λ (cfg : LimitCfg). cfg.tick_ms) ins 0)) (option_map_or (λ (cfg : LimitCfg). cfg.tick_ms) outs 0))
    (map (λ (x : GroupSet). x.cfg.tick_ms) groups)
greatest-is ins outs groups =
    let of_in = option_to_list (option_map (λ (cfg : LimitCfg). cfg.tick_ms) ins) in
    let of_out = option_to_list (option_map (λ (cfg : LimitCfg). cfg.tick_ms) outs) in
    let of_groups = map (λ x. x.cfg.tick_ms) (map group_given groups) in
    longest-append 0 (of_in ++ of_out) of_groups
    ∙ ap (λ n. longest n of_groups) (longest-append 0 of_in of_out
    ∙ ap (λ n. longest n of_out) (longest-option 0 ins)
    ∙ longest-option (max 0 (option_map_or (λ (cfg : LimitCfg). cfg.tick_ms) ins 0)) outs)
    ∙ groups-same _ groups

not-zero : (n : ℕ) → (n ≡ 0 → ⊥) → (n == 0) ≡ false
not-zero n far = go (n == 0) refl
  where
    go : (b : Bool) → (n == 0) ≡ b → (n == 0) ≡ false
    go true is = absurd (far (eqb-true n 0 is))
    go false is = is

pub returns-else-longest-eq0 : goal.returns-else-longest-eq0
returns-else-longest-eq0 c = λ hooks.
    let n = c.longest_tick-longest.result in
    let ins = c.args.settings.now.in_rate in
    let outs = c.args.settings.now.out_rate in
    let sides = c.longer_tick-of_sides.ensures ∙ ap (λ m. max m (option_map_or (λ
    (cfg : LimitCfg). cfg.tick_ms) outs 0)) c.longer_tick.ensures in
    let groups = c.deref.ensures.value in
    let whole : n ≡ longest (max (max 0 (option_map_or (λ (cfg : LimitCfg). cfg.tick_ms) ins 0))
    (option_map_or (λ (cfg : LimitCfg). cfg.tick_ms) outs 0)) (map (λ (x : GroupSet). x.cfg.tick_ms) c.args.given.now.groups.items) =
    c.longest_tick-longest.ensures ∙ (λ i. longest (sides i) (map (λ (x : GroupSet). x.cfg.tick_ms) (groups i))) in
    sym (ap (λ b. if b then 1000 else n) (not-zero n c.if-longest-eq0.false))
    ∙ ap (λ m. if m == 0 then 1000 else m) (whole ∙ sym (greatest-is ins outs c.args.given.now.groups.items))
