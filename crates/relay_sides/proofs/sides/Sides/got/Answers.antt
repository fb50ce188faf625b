use Rattle.std.proofs.Common.{◌≡◌, ℕ, zero, suc, false, List, [], ◌∷◌, take, slice_index_or, slice_set, refl, sym, ◌∙◌, ap}
use Rattle.token_bucket.specs.declared.limit.Dir.TheVariants.{Read}
use Rattle.ev_types.specs.Sides.{number}
use Rattle.relay_model.specs.Plain.{PlainSide, no_side}
use Rattle.relay_model.specs.Rooms.{most_at_once, mark_or}
use Rattle.relay_model.specs.Moments.{active_at}
use Rattle.relay_state.specs.Passage.{read_part}
use Rattle.relay_sides.specs.Links.{Links, passage_at, with_passage, with_got}
use Rattle.relay_sides.proofs.sides.Sides.got.Goals as goal

-- a read leaves the mark of its side
mark_stays : (time : ℕ) (xs : List PlainSide) (n : ℕ) →
    (slice_index_or (slice_set xs n (active_at time Read (slice_index_or xs n no_side))) n no_side).marks.read_high
    ≡ (slice_index_or xs n no_side).marks.read_high
mark_stays time [] n = refl
mark_stays time (x ∷ xs) zero = refl
mark_stays time (x ∷ xs) (suc n) = mark_stays time xs n

pub returns-clause-links : goal.returns-clause-links
returns-clause-links c =
    let e = c.args.side in
    let k : Links = c.args.self.now.links in
    let j : Links = with_got c.args.time e (take c.args.n c.args.block.now.items) k in
    let mark = c.read_mark-mark.ensures
    ∙ ap (λ z. mark_or z most_at_once) (sym (mark_stays c.args.time k.sides (number e))) in
    c.run_read_filter.ensures.links
    ∙ ap (λ (z : Links). with_passage e (read_part c.read_mark-mark.result false (passage_at z e)) z) c.bring.ensures.links
    ∙ ap (λ z. with_passage e (read_part z false (passage_at j e)) j) mark
