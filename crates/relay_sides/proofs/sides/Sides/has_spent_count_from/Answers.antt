use Rattle.std.proofs.Common.{◌≡◌, ℕ, Bool, true, false, ◌||◌, nat_le, refl, ap, sym, ◌∙◌}
use Rattle.std.proofs.lemmas.Bool.{le-leb, lt-leb}
use Rattle.token_bucket.specs.declared.limit.Dir.TheVariants.{Read, Write}
use Rattle.ev_types.specs.Sides.{number}
use Rattle.filter_model.specs.Running.{Running}
use Rattle.relay_state.specs.Counting.{spent, has_flown_far, has_read_far}
use Rattle.relay_sides.specs.Bevs.{upper_of, twin}
use Rattle.relay_sides.specs.declared.side.SideState.{SideState}
use Rattle.relay_sides.proofs.SidesLemmas.{flow_seen, lane_seen, peer_number}
use Rattle.relay_sides.proofs.ReaderLemmas.{own_state, filter_found}
use Rattle.relay_sides.proofs.sides.Sides.has_spent_count_from.Goals as goal
use Rattle.relay_sides.proofs.sides.Sides.has_spent_count_from.Goals.{then-used-ge-SPENT, else-used-ge-SPENT, then-own-ge-SPENT}
use Rattle.relay_sides.proofs.sides.Sides.has_spent_count_from.Goals.{else-own-ge-SPENT, then-used-ge-SPENT-2, else-used-ge-SPENT-2}
use Rattle.relay_sides.proofs.sides.Sides.has_spent_count_from.Goals.{then-own-ge-SPENT-2, else-own-ge-SPENT-2, then-own-ge-SPENT-3}
use Rattle.relay_sides.proofs.sides.Sides.has_spent_count_from.Goals.{else-own-ge-SPENT-3}

or_first : (a b v : Bool) → a ≡ true → v ≡ a → v ≡ (a || b)
or_first true b v h is = is
or_first false b v h is = absurd (let wrong : false ≡ true = h in cc)

or_second : (a b v : Bool) → a ≡ false → v ≡ b → v ≡ (a || b)
or_second true b v h is = absurd (let wrong : true ≡ false = h in cc)
or_second false b v h is = is

in_order : (a b c d e f g : Bool) → ((((((a || b) || c) || d) || e) || f) || g) ≡ ((((a || b) || c) || d) || ((e || f) || g))
in_order true b c d e f g = refl
in_order false true c d e f g = refl
in_order false false true d e f g = refl
in_order false false false true e f g = refl
in_order false false false false true f g = refl
in_order false false false false false true g = refl
in_order false false false false false false g = refl

abbrev far : ℕ → Running → SideState → Bool
far used writer s =
    (((nat_le spent used || nat_le spent s.moved) || nat_le spent writer.used) || nat_le spent s.given)
    || ((nat_le spent s.read || nat_le spent s.read_made) || nat_le spent s.write_made)

pub returns-then-own-ge-SPENT-4 : goal.returns-then-own-ge-SPENT-4
returns-then-own-ge-SPENT-4 c =
    let r = c.self.inside in
    let e = c.args.side in
    let x : SideState = c.index-own.result.now in
    let writer : Running = c.filter-writer.result.now in
    let used : ℕ = c.used.result in
    let u : Bool = nat_le spent used in
    let m : Bool = nat_le spent x.moved in
    let t : Bool = nat_le spent writer.used in
    let g : Bool = nat_le spent x.given in
    let d : Bool = nat_le spent x.read in
    let k : Bool = nat_le spent x.read_made in
    let w1 : c.if-used-ge-SPENT.value ≡ (u || m) = elim c.if-used-ge-SPENT.branch [
      | then-used-ge-SPENT w ↦ or_first u m c.if-used-ge-SPENT.value (le-leb spent used w.if-used-ge-SPENT.true) w.value-is
      | else-used-ge-SPENT w ↦ or_second u m c.if-used-ge-SPENT.value (lt-leb spent used w.if-used-ge-SPENT.false) w.value-is
    ] in
    let w2 : c.if-own-ge-SPENT.value ≡ ((u || m) || t) = elim c.if-own-ge-SPENT.branch [
      | then-own-ge-SPENT w ↦ or_first (u || m) t c.if-own-ge-SPENT.value (sym w1 ∙ w.if-own-ge-SPENT.true) (w.value-is ∙ w1)
      | else-own-ge-SPENT w ↦
          or_second (u || m) t c.if-own-ge-SPENT.value (sym w1 ∙ w.if-own-ge-SPENT.false)
          (w.value-is ∙ ap (nat_le spent) w.used-else-own-ge-SPENT.ensures)
    ] in
    let w3 : c.if-used-ge-SPENT-2.value ≡ (((u || m) || t) || g) = elim c.if-used-ge-SPENT-2.branch [
      | then-used-ge-SPENT-2 w ↦ or_first ((u || m) || t) g c.if-used-ge-SPENT-2.value (sym w2 ∙ w.if-used-ge-SPENT-2.true)
          (w.value-is ∙ w2)
      | else-used-ge-SPENT-2 w ↦ or_second ((u || m) || t) g c.if-used-ge-SPENT-2.value (sym w2 ∙ w.if-used-ge-SPENT-2.false) w.value-is
    ] in
    let w4 : c.if-own-ge-SPENT-2.value ≡ ((((u || m) || t) || g) || d) = elim c.if-own-ge-SPENT-2.branch [
      | then-own-ge-SPENT-2 w ↦ or_first (((u || m) || t) || g) d c.if-own-ge-SPENT-2.value (sym w3 ∙ w.if-own-ge-SPENT-2.true)
          (w.value-is ∙ w3)
      | else-own-ge-SPENT-2 w ↦
          or_second (((u || m) || t) || g) d c.if-own-ge-SPENT-2.value (sym w3 ∙ w.if-own-ge-SPENT-2.false) w.value-is
    ] in
    let w5 : c.if-own-ge-SPENT-3.value ≡ (((((u || m) || t) || g) || d) || k) = elim c.if-own-ge-SPENT-3.branch [
      | then-own-ge-SPENT-3 w ↦
          or_first ((((u || m) || t) || g) || d) k c.if-own-ge-SPENT-3.value (sym w4 ∙ w.if-own-ge-SPENT-3.true) (w.value-is ∙ w4)
      | else-own-ge-SPENT-3 w ↦
          or_second ((((u || m) || t) || g) || d) k c.if-own-ge-SPENT-3.value (sym w4 ∙ w.if-own-ge-SPENT-3.false) w.value-is
    ] in
    let b : Bool = nat_le spent x.write_made in
    let all = or_first (((((u || m) || t) || g) || d) || k) b c.if-own-ge-SPENT-3.value (sym w5 ∙ c.if-own-ge-SPENT-4.true) w5 in
    let s = own_state c.args.self.now r c.self.view_is c.self.invariant e c.requires c.number.result x c.number.ensures
    c.index-own.ensures in
    let reader = filter_found r.world (number e) c.upper.result c.filter-reader.result.now Read c.upper.ensures c.filter-reader.ensures in
    let writes = filter_found r.world (twin (number e)) c.upper-2.result writer Write
    (c.upper-2.ensures ∙ ap upper_of (peer_number e c.peer.result c.peer.ensures)) c.filter-writer.ensures in
    let f = flow_seen c.args.self.now r c.self.view_is e c.requires in
    let l = lane_seen c.args.self.now r c.self.view_is e c.requires in
    all ∙ in_order u m t g d k b
    ∙ (λ i. far ((c.used.ensures ∙ ap (λ (z : Running). z.used) reader) i) (writes i) (s i))
    ∙ (λ i. has_flown_far (sym f i) || has_read_far (sym l i))

pub returns-else-own-ge-SPENT-4 : goal.returns-else-own-ge-SPENT-4
returns-else-own-ge-SPENT-4 c =
    let r = c.self.inside in
    let e = c.args.side in
    let x : SideState = c.index-own.result.now in
    let writer : Running = c.filter-writer.result.now in
    let used : ℕ = c.used.result in
    let u : Bool = nat_le spent used in
    let m : Bool = nat_le spent x.moved in
    let t : Bool = nat_le spent writer.used in
    let g : Bool = nat_le spent x.given in
    let d : Bool = nat_le spent x.read in
    let k : Bool = nat_le spent x.read_made in
    let w1 : c.if-used-ge-SPENT.value ≡ (u || m) = elim c.if-used-ge-SPENT.branch [
      | then-used-ge-SPENT w ↦ or_first u m c.if-used-ge-SPENT.value (le-leb spent used w.if-used-ge-SPENT.true) w.value-is
      | else-used-ge-SPENT w ↦ or_second u m c.if-used-ge-SPENT.value (lt-leb spent used w.if-used-ge-SPENT.false) w.value-is
    ] in
    let w2 : c.if-own-ge-SPENT.value ≡ ((u || m) || t) = elim c.if-own-ge-SPENT.branch [
      | then-own-ge-SPENT w ↦ or_first (u || m) t c.if-own-ge-SPENT.value (sym w1 ∙ w.if-own-ge-SPENT.true) (w.value-is ∙ w1)
      | else-own-ge-SPENT w ↦
          or_second (u || m) t c.if-own-ge-SPENT.value (sym w1 ∙ w.if-own-ge-SPENT.false)
          (w.value-is ∙ ap (nat_le spent) w.used-else-own-ge-SPENT.ensures)
    ] in
    let w3 : c.if-used-ge-SPENT-2.value ≡ (((u || m) || t) || g) = elim c.if-used-ge-SPENT-2.branch [
      | then-used-ge-SPENT-2 w ↦ or_first ((u || m) || t) g c.if-used-ge-SPENT-2.value (sym w2 ∙ w.if-used-ge-SPENT-2.true)
          (w.value-is ∙ w2)
      | else-used-ge-SPENT-2 w ↦ or_second ((u || m) || t) g c.if-used-ge-SPENT-2.value (sym w2 ∙ w.if-used-ge-SPENT-2.false) w.value-is
    ] in
    let w4 : c.if-own-ge-SPENT-2.value ≡ ((((u || m) || t) || g) || d) = elim c.if-own-ge-SPENT-2.branch [
      | then-own-ge-SPENT-2 w ↦ or_first (((u || m) || t) || g) d c.if-own-ge-SPENT-2.value (sym w3 ∙ w.if-own-ge-SPENT-2.true)
          (w.value-is ∙ w3)
      | else-own-ge-SPENT-2 w ↦
          or_second (((u || m) || t) || g) d c.if-own-ge-SPENT-2.value (sym w3 ∙ w.if-own-ge-SPENT-2.false) w.value-is
    ] in
    let w5 : c.if-own-ge-SPENT-3.value ≡ (((((u || m) || t) || g) || d) || k) = elim c.if-own-ge-SPENT-3.branch [
      | then-own-ge-SPENT-3 w ↦
          or_first ((((u || m) || t) || g) || d) k c.if-own-ge-SPENT-3.value (sym w4 ∙ w.if-own-ge-SPENT-3.true) (w.value-is ∙ w4)
      | else-own-ge-SPENT-3 w ↦
          or_second ((((u || m) || t) || g) || d) k c.if-own-ge-SPENT-3.value (sym w4 ∙ w.if-own-ge-SPENT-3.false) w.value-is
    ] in
    let b : Bool = nat_le spent x.write_made in
    let all = or_second (((((u || m) || t) || g) || d) || k) b b (sym w5 ∙ c.if-own-ge-SPENT-4.false) refl in
    let s = own_state c.args.self.now r c.self.view_is c.self.invariant e c.requires c.number.result x c.number.ensures
    c.index-own.ensures in
    let reader = filter_found r.world (number e) c.upper.result c.filter-reader.result.now Read c.upper.ensures c.filter-reader.ensures in
    let writes = filter_found r.world (twin (number e)) c.upper-2.result writer Write
    (c.upper-2.ensures ∙ ap upper_of (peer_number e c.peer.result c.peer.ensures)) c.filter-writer.ensures in
    let f = flow_seen c.args.self.now r c.self.view_is e c.requires in
    let l = lane_seen c.args.self.now r c.self.view_is e c.requires in
    all ∙ in_order u m t g d k b
    ∙ (λ i. far ((c.used.ensures ∙ ap (λ (z : Running). z.used) reader) i) (writes i) (s i))
    ∙ (λ i. has_flown_far (sym f i) || has_read_far (sym l i))
