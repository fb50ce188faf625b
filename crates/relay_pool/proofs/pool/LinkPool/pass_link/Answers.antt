use Rattle.std.proofs.Common.{◌≡◌, ◌<◌, Bool, true, false, Result, Ok, Err, sym, subst}
use Rattle.std.specs.Result.{MatchResult}
use Rattle.relay_state.specs.Closing.{in_side, out_side}
use Rattle.ev_types.specs.declared.side.Side.TheVariants.{In, Out}
use Rattle.relay_sides.specs.Progress.{is_settled_from}
use Rattle.relay_sides.specs.LinkPasses.{PassedLink, PartlyPassedLink, NoRoundOfLinkChanges}
use Rattle.relay_pool.specs.PoolValue.{PoolValue}
use Rattle.relay_pool.specs.PoolView.{links_seen}
use Rattle.relay_pool.proofs.BayLemmas.{live_over}
use Rattle.relay_pool.proofs.PassLemmas.{passed_in, partly_in, still_in, settled_in, dead_still, dead_link}
use Rattle.relay_pool.proofs.pool.LinkPool.pass_link.Goals as goal

-- what was answered tells what to lift
lifted : {E : Type 0} {P Q : Bool → Type 0} {A B : Type 0} (r : Result Bool E) → ((c : Bool) → P c → Q c) → (A → B) →
    MatchResult r P (λ _. A) → MatchResult r Q (λ _. B)
lifted (Ok c) f g h = f c h
lifted (Err e) f g h = g h

pub returns-in-Some-clause-passed : goal.returns-in-Some-clause-passed
returns-in-Some-clause-passed c =
    let r = c.self.inside in
    let k = c.pass_link.new.self.links in
    let hold = c.args.hold in
    let b = subst (λ (z : PoolValue). c.args.link < z.links.opened) (sym c.self.view_is) c.requires in
    let there = subst (λ n. MatchResult c.pass_link.result (λ changed. PassedLink hold r.sides.links n changed k)
    (λ _. PartlyPassedLink hold r.sides.links n k)) c.in-Some.ensures.1 c.pass_link.ensures.passed in
    subst (λ (z : PoolValue). MatchResult c.pass_link.result
    (λ changed. PassedLink hold z.links c.args.link changed (links_seen r.links.items k))
    (λ _. PartlyPassedLink hold z.links c.args.link (links_seen r.links.items k))) c.self.view_is
    (lifted c.pass_link.result (λ changed. passed_in r c.self.invariant c.args.link b c.in-Some.ensures.0 hold changed k)
    (partly_in r c.self.invariant c.args.link b c.in-Some.ensures.0 hold k) there)

pub returns-in-Some-clause-still : goal.returns-in-Some-clause-still
returns-in-Some-clause-still c = λ said.
    let r = c.self.inside in
    let b = subst (λ (z : PoolValue). c.args.link < z.links.opened) (sym c.self.view_is) c.requires in
    let there = subst (λ n. NoRoundOfLinkChanges c.args.hold r.sides.links n) c.in-Some.ensures.1 (c.pass_link.ensures.still said) in
    subst (λ (z : PoolValue). NoRoundOfLinkChanges c.args.hold z.links c.args.link) c.self.view_is
    (still_in r c.self.invariant c.args.link b c.in-Some.ensures.0 c.args.hold there)

pub returns-in-Some-clause-settled : goal.returns-in-Some-clause-settled
returns-in-Some-clause-settled c = λ near far.
    let r = c.self.inside in
    let b = subst (λ (z : PoolValue). c.args.link < z.links.opened) (sym c.self.view_is) c.requires in
    let settled = settled_in r c.self.invariant c.args.link b c.in-Some.ensures.0 c.args.hold in
    let there = subst (λ n. is_settled_from c.args.hold r.sides.links (in_side n) ≡ true →
    is_settled_from c.args.hold r.sides.links (out_side n) ≡ true → c.pass_link.result ≡ Ok false) c.in-Some.ensures.1
    c.pass_link.ensures.settled in
    there
    (settled In (subst (λ (z : PoolValue). is_settled_from c.args.hold z.links (in_side c.args.link) ≡ true) (sym c.self.view_is) near))
    (settled Out (subst (λ (z : PoolValue). is_settled_from c.args.hold z.links (out_side c.args.link) ≡ true) (sym c.self.view_is) far))

pub returns-in-None-clause-passed : goal.returns-in-None-clause-passed
returns-in-None-clause-passed c =
    let v = c.args.self.now in
    let near = live_over v c.self.inside c.self.view_is c.self.invariant (in_side c.args.link) c.requires c.in-None.ensures in
    let far = live_over v c.self.inside c.self.view_is c.self.invariant (out_side c.args.link) c.requires c.in-None.ensures in
    dead_link c.args.hold v.links c.args.link near far

pub returns-in-None-clause-still : goal.returns-in-None-clause-still
returns-in-None-clause-still c = λ _.
    let v = c.args.self.now in
    let near = live_over v c.self.inside c.self.view_is c.self.invariant (in_side c.args.link) c.requires c.in-None.ensures in
    let far = live_over v c.self.inside c.self.view_is c.self.invariant (out_side c.args.link) c.requires c.in-None.ensures in
    (dead_still c.args.hold v.links (in_side c.args.link) near far, dead_still c.args.hold v.links (out_side c.args.link) far near)
