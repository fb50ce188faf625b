-- What the two filters of a direction look at as they run.
use Rattle.std.proofs.Common.{◌≡◌, ◌∙◌, ℕ, ◌+◌, Bool, false, ◌||◌, if◌then◌else◌, List, length, take, drop, ap, arith}
use Rattle.std.specs.Prelude.{is_some, nat_le}
use Rattle.ev_types.specs.declared.filter.FilterKind.{FilterKind}
use Rattle.filter_model.specs.Filter.{Filter, filter_of}
use Rattle.relay_model.specs.Flow.{Flow, middle}
use Rattle.relay_model.specs.Pass.{read_stops, write_stops}
use Rattle.filter_model.proofs.FilterRunLemmas.{LooksAt}

-- The read filter looks at what was read and at the input, the write filter at what was moved and at the raw output. Nothing
-- else stands in these.
pub read-looks : (k : FilterKind) (read : List ℕ) (mark : ℕ) (flow : Flow) → flow.read_done ≡ false →
    LooksAt k (read_stops (filter_of k) read mark flow) mark 0 flow.moved read
read-looks k read mark flow open_still n =
    let r : Filter = filter_of k in
    let held : List ℕ = drop flow.moved (r.before (take n read)) in
    let plus : length held ≡ length held + 0 = omega arith in
    ap (λ b. nat_le mark (length (drop flow.moved (if b then r.at_end (take n read) else r.before (take n read)))) || is_some
    (r.bad (take (n + 1) read))) open_still
    ∙ ap (λ m. nat_le mark m || is_some (r.bad (take (n + 1) read))) plus

pub write-looks : (r : Filter) (k : FilterKind) (read : List ℕ) (hold : ℕ) (flow : Flow) → flow.write_done ≡ false →
    LooksAt k (write_stops r (filter_of k) read hold flow) hold 0 flow.given (middle r read flow)
write-looks r k read hold flow open_still n =
    let w : Filter = filter_of k in
    let ys : List ℕ = middle r read flow in
    let held : List ℕ = drop flow.given (w.before (take n ys)) in
    let plus : length held ≡ length held + 0 = omega arith in
    ap (λ b. nat_le hold (length (drop flow.given (if b then w.at_end (take n ys) else w.before (take n ys)))) || is_some
    (w.bad (take (n + 1) ys))) open_still
    ∙ ap (λ m. nat_le hold m || is_some (w.bad (take (n + 1) ys))) plus
