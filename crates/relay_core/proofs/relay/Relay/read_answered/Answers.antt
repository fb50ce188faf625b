use Rattle.std.proofs.Common.{◌≤◌, ℕ, true, false, refl, List, take, length-take-le, vec_len, arith, slice_index_or, sym, ◌∙◌, ap, subst}
use Rattle.ev_types.specs.Sides.{number}
use Rattle.relay_model.specs.Plain.{PlainSide}
use Rattle.relay_state.specs.Serving.{after_read, after_got, raise_read}
use Rattle.relay_sides.specs.Links.{Links}
use Rattle.relay_core.specs.declared.relay.Relay.TheInside.{Inside}
use Rattle.relay_core.specs.Answered.{BringsWithin, arrived_count}
use Rattle.relay_core.specs.RelayValue.{RelayValue, spare_read}
use Rattle.relay_core.proofs.RelayLemmas.{got_sound, got_seen, got_spent}
use Rattle.relay_core.proofs.WatchLemmas.{watching-got, changed_sound, grouping-at}
use Rattle.relay_core.proofs.relay.Relay.read_answered.Goals as goal

pub got-requires-clause-room : goal.got-requires-clause-room
got-requires-clause-room c =
    let same = ap (λ (z : RelayValue). z.spare_reads) (sym c.self.view_is) ∙ sym c.spend.ensures.reads
    ∙ ap (λ (z : RelayValue). z.spare_reads) (sym (ap (λ (z : Inside). z.ctl) c.self-inside.view_is)) in
    subst (λ (xs : List ℕ). c.in-Got.count ≤ slice_index_or xs (number c.args.side) 0) same
    (subst (λ a. arrived_count a ≤ spare_read c.args.self.now c.args.side) c.in-Got.is c.requires.room)

pub invariant_of-self-inside : goal.invariant_of-self-inside
invariant_of-self-inside c =
    let h = c.self-inside.invariant in
    record {
      timed = got_sound _ _ _ _ _ c.args.side (take c.in-Got.count c.args.block.now.items) h.timed c.got.ensures.links;
      grouped = h.grouped;
      grouping = grouping-at _ _ _ _ (ap (λ (z : Links). z.opened) c.got.ensures.links) h.grouping;
      watching = watching-got _ _ _ _ c.args.side (take c.in-Got.count c.args.block.now.items) h.watching c.got.ensures.links;
      time = h.time;
      few = h.few;
      room = h.room;
      limits = h.limits;
    }

pub invariant_of-self-inside-in-Ended : goal.invariant_of-self-inside-in-Ended
invariant_of-self-inside-in-Ended c =
    changed_sound c.self-inside-in-Ended.inside.0.0 c.ended.new.self c.args.side
    (λ (x : PlainSide). record x { ended = true; reads = false })
    c.self-inside-in-Ended.invariant c.ended.ensures.links
    (λ x. record { alike = record { live = refl; timeouts = refl; expired = refl; limit = refl }; read = refl; write = refl })

pub invariant_of-self-inside-in-Failed : goal.invariant_of-self-inside-in-Failed
invariant_of-self-inside-in-Failed c =
    changed_sound c.self-inside-in-Failed.inside.0.0 c.read_failed.new.self c.args.side
    (λ (x : PlainSide). record x { failed = true; reads = false })
    c.self-inside-in-Failed.invariant c.read_failed.ensures.links
    (λ x. record { alike = record { live = refl; timeouts = refl; expired = refl; limit = refl }; read = refl; write = refl })

pub returns-in-Got-clause-state : goal.returns-in-Got-clause-state
returns-in-Got-clause-state c =
    let e = c.args.side in
    let bytes = take c.in-Got.count c.args.block.now.items in
    let is = ap (λ (z : Inside). z.ctl) c.self-inside.view_is in
    let within = subst (BringsWithin (vec_len c.args.block.now)) c.in-Got.is c.requires.some in
    let len = sym (length-take-le c.in-Got.count c.args.block.now.items (omega (arith, within.1, c.args.block.now.ok.0))) in
    c.raise_read.ensures.state
    ∙ ap (raise_read e) (got_seen c.spend.new.self c.self-inside.inside.0.0 is c.got.new.self.links e bytes c.got.ensures.links
    ∙ got_spent _ _ e bytes c.in-Got.count len c.spend.ensures.state)
    ∙ ap (λ (z : RelayValue). after_got z.state e bytes) c.self.view_is
    ∙ ap (λ answer. after_read c.args.self.now.state e answer (take (arrived_count answer) c.args.block.now.items)) (sym c.in-Got.is)
