use Rattle.std.proofs.Common.{◌≡◌, ◌<◌, ◌+◌, ◌∷◌, ℕ, List, max, length, drop, get_or, map, sym, ap, ◌∙◌}
use Rattle.std.specs.Prelude.{fold}
use Rattle.std.proofs.lemmas.List.{drop_more, drop_all}
use Rattle.rate_group.specs.declared.group_set.GroupSet.{GroupSet}
use Rattle.evplay.proofs.closing.longest_tick.Goals as goal

-- the longest of a number and the ticks of some groups
abbrev longest_from : ℕ → List GroupSet → ℕ
longest_from n groups = fold (λ (most n : ℕ). max most n) n (map (λ (x : GroupSet). x.cfg.tick_ms) groups)

one_more : (groups : List GroupSet) (i n more start : ℕ) (x : GroupSet) → i < length groups → x ≡ get_or groups i x →
    more ≡ max n x.cfg.tick_ms → longest_from n (drop i groups) ≡ longest_from start groups →
    longest_from more (drop (i + 1) groups) ≡ longest_from start groups
one_more groups i n more start x lt is larger h =
    ap (λ m. longest_from m (drop (i + 1) groups)) larger
    ∙ ap (λ z. longest_from n z) (ap (λ y. y ∷ drop (i + 1) groups) is ∙ sym (drop_more groups i x lt)) ∙ h

pub loop-group-preserved : goal.loop-group-preserved
loop-group-preserved c =
    one_more c.args.groups.now c.loop-group.group-index c.loop-group.longest c.max-longest.result c.args.tick c.group-item.result
    c.loop-group-test.true c.group-item.is (c.max-longest.ensures ∙ ap (λ n. max c.loop-group.longest n) c.tick_ms.ensures)
    c.loop-group.invariant

pub returns : goal.returns
returns c =
    ap (λ z. longest_from c.loop-group.longest z) (sym (drop_all c.loop-group.group-index c.args.groups.now c.loop-group-test.false))
    ∙ c.loop-group.invariant
