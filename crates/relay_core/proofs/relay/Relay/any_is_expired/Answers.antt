use Rattle.std.proofs.Common.{◌∙◌, sym, arith}
use Rattle.std.specs.List.{list_any}
use Rattle.relay_core.specs.Waits.{is_expired}
use Rattle.relay_core.proofs.TimeLemmas.{any-here, any-more}
use Rattle.relay_core.proofs.SkipLemmas.{skips, skips-all, any-none}
use Rattle.relay_core.proofs.relay.Relay.any_is_expired.Goals as goal

pub returns-then-link_is_expired : goal.returns-then-link_is_expired
returns-then-link_is_expired c =
    let inv = c.loop-link.invariant in
    let s = c.args.self.now.state in
    let n = s.plain.opened in
    let found = c.in-Some.ensures.links in
    sym (any-here (is_expired s) c.in-Some.link n found.1 (sym c.link_is_expired.ensures ∙ c.if-link_is_expired.true))
    ∙ sym (skips (list_any (is_expired s)) n c.loop-link.from c.in-Some.link found.0 (let lt = found.1 in omega (arith, lt))
    (λ e a b. any-none s e (found.3 e a b)))
    ∙ inv.rest

pub loop-link-preserved : goal.loop-link-preserved
loop-link-preserved c =
    let inv = c.loop-link.invariant in
    let s = c.args.self.now.state in
    let n = s.plain.opened in
    let found = c.in-Some.ensures.links in
    record {
      within = (let lt = found.1 in omega (arith, lt));
      rest = sym (any-more (is_expired s) c.in-Some.link n found.1 (sym c.link_is_expired.ensures ∙ c.if-link_is_expired.false))
          ∙ sym (skips (list_any (is_expired s)) n c.loop-link.from c.in-Some.link found.0 (let lt = found.1 in omega (arith, lt))
          (λ e a b. any-none s e (found.3 e a b)))
          ∙ inv.rest;
    }

pub returns : goal.returns
returns c =
    let inv = c.loop-link.invariant in
    let s = c.args.self.now.state in
    sym (skips-all (list_any (is_expired s)) s.plain.opened c.loop-link.from inv.within
    (λ e a b. any-none s e (c.in_default.ensures.links e a b)))
    ∙ inv.rest
