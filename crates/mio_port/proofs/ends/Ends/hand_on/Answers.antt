use Rattle.std.proofs.Common.{◌≡◌, ◌∙◌, ◌<◌, None, length, get_or, set, sym, ap, rules}
use Rattle.std.proofs.lemmas.Bool.{ne_eqb}
use Rattle.mio_port.specs.EndPlaces.{is_at_number}
use Rattle.mio_port.proofs.HandedOnLemmas.{hand, all_handed_on-none, all_handed_on-one}
use Rattle.mio_port.proofs.ends.Ends.hand_on.Goals as goal

pub returns-in_default-clause-ends : goal.returns-in_default-clause-ends
returns-in_default-clause-ends c =
    let ends = c.args.self.now in
    let none = sym c.take.ensures.value ∙ c.in_default.is in
    all_handed_on-none ends.ends.items (λ n. ends.pendings n ∙ ap (λ at. is_at_number at n) none)

pub returns-in-Some-get_mut-clause-ends : goal.returns-in-Some-get_mut-clause-ends
returns-in-Some-get_mut-clause-ends c =
    let ends = c.args.self.now in
    let at = c.in-Some.number in
    let one = sym c.take.ensures.value ∙ c.in-Some.is in
    let within : at < length ends.ends.items = search rules in
    let here : c.in-Some-get_mut.place.now ≡ get_or ends.ends.items at None = search rules in
    ap (set ends.ends.items at) (c.hand_on_at.ensures ∙ ap hand here)
    ∙ all_handed_on-one ends.ends.items at within (λ n differ. ends.pendings n ∙ ap (λ p. is_at_number p n) one ∙ ne_eqb n at differ)
