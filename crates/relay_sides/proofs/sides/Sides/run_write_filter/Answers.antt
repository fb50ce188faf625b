use Rattle.std.proofs.Common.{◌≡◌, ℕ, Bool, true, false, ◌&&◌, if◌then◌else◌, ◌∙◌, ap}
use Rattle.relay_state.specs.Passage.{Passage, write_step, written_by, write_part, has_moved_all}
use Rattle.relay_sides.specs.Links.{with_passage, passage_at}
use Rattle.relay_sides.proofs.sides.Sides.run_write_filter.Goals as goal

-- what a direction that isn't held makes of its output
free : (hold : ℕ) (may_end : Bool) (x : Passage) (h : Bool) → h ≡ x.flow.held → h ≡ false →
    written_by (write_step hold (may_end && has_moved_all x) x.lane) x ≡ write_part hold may_end x
free hold may_end x true is h = absurd (let wrong : true ≡ false = h in cc)
free hold may_end x false is h = λ i. if is i then x else written_by (write_step hold (may_end && has_moved_all x) x.lane) x

pub returns-then-not-is_held : goal.returns-then-not-is_held
returns-then-not-is_held c =
    let k = c.args.self.now.links in
    let e = c.args.from in
    let x = passage_at k e in
    c.write.ensures
    ∙ (λ i. with_passage e (written_by (write_step c.args.hold (c.may_finish-over.ensures i) x.lane) x) k)
    ∙ ap (λ z. with_passage e z k) (free c.args.hold c.args.may_end x c.is_held.result c.is_held.ensures c.if-not-is_held.true)
