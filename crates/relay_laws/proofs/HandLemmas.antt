-- Where no filter is set, all bytes are handed on.
use Rattle.std.proofs.Common.{◌≡◌, ℕ, Bool, true, false, List, refl}
use Rattle.ev_types.specs.declared.filter.FilterKind.{FilterKind}
use Rattle.ev_types.specs.declared.filter.FilterKind.TheVariants as kind
use Rattle.ev_types.specs.Sides.{other}
use Rattle.filter_model.specs.Filter.{filter_of}
use Rattle.relay_model.specs.Flow as flow
use Rattle.relay_model.specs.Rooms.{read_kind, write_kind}
use Rattle.relay_laws.specs.Plainly.{PlainlyHandsOn}
use Rattle.relay_laws.proofs.PlainlyLemmas.{read_kind-none, write_kind-none}

passes-on : (k l : FilterKind) (ended : Bool) (xs : List ℕ) → k ≡ kind.None → l ≡ kind.None →
    flow.passed (filter_of k) (filter_of l) ended xs ≡ xs
passes-on k l true xs p q = rw (p, q) refl
passes-on k l false xs p q = rw (p, q) refl

passes-whole : (k l : FilterKind) (xs : List ℕ) → k ≡ kind.None → l ≡ kind.None → flow.passed_at_end (filter_of k) (filter_of l) xs ≡ xs
passes-whole k l xs p q = rw (p, q) refl

pub plainly_hands_on : PlainlyHandsOn
plainly_hands_on g h e xs = record {
  passed = λ ended. passes-on (read_kind g e.side) (write_kind g (other e.side)) ended xs (read_kind-none g h e.side)
      (write_kind-none g h (other e.side));
  whole =
      passes-whole (read_kind g e.side) (write_kind g (other e.side)) xs (read_kind-none g h e.side) (write_kind-none g h (other e.side));
}
