use Rattle.std.proofs.Common.{◌≡◌, ◌≢◌, ℕ, ◌<◌, List, [], length, slice_set, refl, sym, ◌∙◌, ap, subst, arith}
use Rattle.std.proofs.lemmas.List.{nil_from_length}
use Rattle.ev_types.specs.Sides.{number, peer}
use Rattle.relay_state.specs.State.{Lane}
use Rattle.bev_world.specs.ByNumber.{output_swapped, input_swapped, swapped_across}
use Rattle.bev_world.specs.WorldValue.{WorldValue, slot_at, bev_at}
use Rattle.bev_world.specs.declared.slot.Slot.{Slot}
use Rattle.relay_sides.specs.Bevs.{bevs_at, lower_of, upper_of, twin}
use Rattle.relay_sides.specs.SidesValue.{SidesValue}
use Rattle.relay_sides.proofs.BevsLemmas.{number-lt, twin-number, twin-apart, set_upper-other}
use Rattle.relay_sides.proofs.ChangeLemmas.{left_of, right_of}
use Rattle.relay_sides.proofs.SidesLemmas.{here, lane_seen, peer_number}
use Rattle.relay_sides.proofs.RoomLemmas.{Quiet, seen_of, then_quiet, lower_quiet, upper_quiet, quiet_links, quiet_sound, sound_unread}
use Rattle.relay_sides.proofs.sides.Sides.exchange_rooms.Goals as goal

-- an input and an output without a byte are exchanged
quiet_exchange : (w new : WorldValue) (n t from to : ℕ) → n ≢ t → from ≡ lower_of n → to ≡ upper_of t →
    lower_of n < length w.slots → upper_of t < length w.slots →
    (bevs_at w.slots n).lower.bev.input.bytes ≡ [] → (bevs_at w.slots t).upper.bev.output.bytes ≡ [] → new ≡ swapped_across w from to →
    Quiet w.slots new.slots
quiet_exchange w new n t from to apart from_is to_is in_n in_t input output is =
    let a : Slot = (bevs_at w.slots n).lower in
    let b : Slot = (bevs_at w.slots t).upper in
    let up : Slot = output_swapped a b in
    let lo : Slot = input_swapped a b in
    let mid : List Slot = slice_set w.slots (upper_of t) up in
    let are : new.slots ≡ slice_set mid (lower_of n) lo =
    ap (λ (z : WorldValue). z.slots) is
    ∙ (λ i. (let p = from_is i in let q = to_is i in
    slice_set (slice_set w.slots q (output_swapped (slot_at w p) (slot_at w q))) p (input_swapped (slot_at w p) (slot_at w q)))) in
    let here : bevs_at mid n ≡ bevs_at w.slots n = set_upper-other w.slots t up n apart in
    let first : Quiet w.slots mid = upper_quiet w.slots t up in_t
    (let z = bevs_at w.slots t in let s = seen_of z in
    λ i. record s { right = (let r = right_of z in record r { output = (input ∙ sym output) i }) }) in
    let second : Quiet mid (slice_set mid (lower_of n) lo) = lower_quiet mid n lo (omega (arith, in_n, first.count))
    ((λ i. seen_of (let z = here i in record z { lower = lo }))
    ∙ (let z = bevs_at w.slots n in let s = seen_of z in
    λ i. record s { left = (let l = left_of z in record l { raw_input = (output ∙ sym input) i }) })
    ∙ ap seen_of (sym here)) in
    subst (λ zs. Quiet w.slots zs) (sym are) (then_quiet w.slots mid (slice_set mid (lower_of n) lo) first second)

pub move_at-requires-clause-empty : goal.move_at-requires-clause-empty
move_at-requires-clause-empty c =
    let v = c.args.self.now in
    let r = c.self.inside in
    let e = c.args.from in
    let to_is = c.upper.ensures ∙ ap upper_of (peer_number e c.peer.result c.peer.ensures) in
    let empty = ap (λ (l : Lane). length l.buffers.output) (sym (lane_seen v r c.self.view_is e c.requires.opened)) ∙ c.requires.output in
    ap (λ a. (bev_at r.world a).output.bytes) to_is
    ∙ nil_from_length (bevs_at r.world.slots (twin (number e))).upper.bev.output.bytes empty

pub invariant_of-self : goal.invariant_of-self
invariant_of-self c =
    let v = c.args.self.now in
    let r = c.self.inside in
    let e = c.args.from in
    let w = c.move_at.new.self in
    let h = here v r c.self.view_is e c.requires.opened in
    let lt = number-lt e r.opened h in
    let lt2 = number-lt (peer e) r.opened h in
    let to_is = c.upper.ensures ∙ ap upper_of (peer_number e c.peer.result c.peer.ensures) in
    let lane = lane_seen v r c.self.view_is e c.requires.opened in
    let raw = nil_from_length (bevs_at r.world.slots (number e)).lower.bev.input.bytes
    (ap (λ (l : Lane). length l.buffers.raw_input) (sym lane) ∙ c.requires.raw_input) in
    let out = nil_from_length (bevs_at r.world.slots (twin (number e))).upper.bev.output.bytes
    (ap (λ (l : Lane). length l.buffers.output) (sym lane) ∙ c.requires.output) in
    let q = quiet_exchange r.world w (number e) (twin (number e)) c.lower.result c.upper.result (λ p. twin-apart (number e) (sym p))
    c.lower.ensures to_is (omega (arith, lt, c.self.invariant.slots)) (omega (arith, lt2, twin-number e, c.self.invariant.slots)) raw out
    c.move_at.ensures in
    let s = quiet_sound r.world.slots w.slots r.sides.items q r c.self.invariant refl refl in
    sound_unread _ s (ap (λ (z : WorldValue). z.chunked) c.move_at.ensures ∙ c.self.invariant.one_piece) refl

pub returns : goal.returns
returns c =
    let v = c.args.self.now in
    let r = c.self.inside in
    let e = c.args.from in
    let w = c.move_at.new.self in
    let h = here v r c.self.view_is e c.requires.opened in
    let lt = number-lt e r.opened h in
    let lt2 = number-lt (peer e) r.opened h in
    let to_is = c.upper.ensures ∙ ap upper_of (peer_number e c.peer.result c.peer.ensures) in
    let lane = lane_seen v r c.self.view_is e c.requires.opened in
    let raw = nil_from_length (bevs_at r.world.slots (number e)).lower.bev.input.bytes
    (ap (λ (l : Lane). length l.buffers.raw_input) (sym lane) ∙ c.requires.raw_input) in
    let out = nil_from_length (bevs_at r.world.slots (twin (number e))).upper.bev.output.bytes
    (ap (λ (l : Lane). length l.buffers.output) (sym lane) ∙ c.requires.output) in
    let q = quiet_exchange r.world w (number e) (twin (number e)) c.lower.result c.upper.result (λ p. twin-apart (number e) (sym p))
    c.lower.ensures to_is (omega (arith, lt, c.self.invariant.slots)) (omega (arith, lt2, twin-number e, c.self.invariant.slots)) raw out
    c.move_at.ensures in
    quiet_links r.world.slots w.slots r.sides.items q r.opened ∙ ap (λ (z : SidesValue). z.links) c.self.view_is
