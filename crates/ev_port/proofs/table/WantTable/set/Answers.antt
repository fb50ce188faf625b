use Rattle.std.proofs.Common.{◌≡◌, ◌≢◌, ◌∙◌, ℕ, ◌*◌, ◌<◌, ◌≤◌, ap, sym, subst, arith}
use Rattle.ev_port.specs.Table.{WantsValue}
use Rattle.ev_port.proofs.TableViewLemmas.{counted-few, counted-some, flag-other, number-within, recounted}
use Rattle.ev_port.proofs.table.WantTable.set.Goals as goal

pub recount-self-inside-requires-clause-there : goal.recount-self-inside-requires-clause-there
recount-self-inside-requires-clause-there c =
    let a = c.self.inside in
    let links = ap (λ (t : WantsValue). t.links) c.self.view_is in
    let within = subst (λ n. n < 2 * a.links) (sym c.number-number.ensures)
    (number-within c.args.side a.links (subst (λ n. c.args.side.link < n) (sym links) c.requires)) in
    λ did. counted-some a c.self.invariant c.number-number.result within (sym c.has_want-did.ensures ∙ did)

pub recount-self-inside-requires-clause-few : goal.recount-self-inside-requires-clause-few
recount-self-inside-requires-clause-few c = counted-few c.self.inside c.self.invariant

pub invariant_of-self : goal.invariant_of-self
invariant_of-self c =
    let a = c.self.inside in
    let kept = c.self.invariant in
    let n = c.number-number.result in
    let links = ap (λ (t : WantsValue). t.links) c.self.view_is in
    let within = subst (λ n. n < 2 * a.links) (sym c.number-number.ensures)
    (number-within c.args.side a.links (subst (λ n. c.args.side.link < n) (sym links) c.requires)) in
    let reads = λ (k : ℕ) (h : k ≢ n). c.put.ensures.members k ∙ flag-other k n c.args.read (a.read.has k) h in
    let writes = λ (k : ℕ) (h : k ≢ n). c.put-2.ensures.members k ∙ flag-other k n c.args.write (a.write.has k) h in
    let past = λ (k : ℕ) (l : 2 * a.links ≤ k) (e : k ≡ n). let z : ⊥ = omega (arith, l, e, within) in z in
    let read_long = kept.read_long in
    let write_long = kept.write_long in
    record {
      read_long = omega (arith, read_long, c.put.ensures.len);
      write_long = omega (arith, write_long, c.put-2.ensures.len);
      read_end = λ k l. reads k (past k l) ∙ kept.read_end k l;
      write_end = λ k l. writes k (past k l) ∙ kept.write_end k l;
      counted = recounted a.read.has a.write.has c.put.new.self.has c.put-2.new.self.has n (2 * a.links) a.count c.recount-self-inside.result
          c.has_want-did.result c.has_want-does.result within kept.counted reads writes c.has_want-did.ensures c.has_want-does.ensures
          c.recount-self-inside.ensures;
      room = kept.room;
      few = kept.few;
    }
