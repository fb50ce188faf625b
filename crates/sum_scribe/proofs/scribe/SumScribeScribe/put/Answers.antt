use Rattle.std.proofs.Common.{◌-◌, ◌^◌, sym, ap, ◌∙◌, min}
use Rattle.ev_types.specs.Trace.{Event, Trace}
use Rattle.sum_scribe.specs.Sums.{turns_in, read_in, written_in, sum_of}
use Rattle.sum_scribe.proofs.SumLemmas.{turns_in-push, read_in-push, written_in-push, sum_of-push}
use Rattle.sum_scribe.proofs.scribe.SumScribeScribe.put.Goals as goal

-- each number goes on with the entry
pub invariant_of-self : goal.invariant_of-self
invariant_of-self c =
    let s = c.self.inside in
    let t : Trace = s.told.trace in
    let x : Event = (c.args.entry, c.args.bytes.now) in
    let told = sym c.then-self-inside.ensures in
    record {
      turns =
          c.turns_with-self-inside.ensures
          ∙ turns_in-push s.turns t x c.self.invariant.turns
          ∙ ap (λ (all : Trace). min (turns_in all) (2 ^ 64 - 1)) told;
      read =
          c.read_with-self-inside.ensures
          ∙ read_in-push s.read t x c.self.invariant.read
          ∙ ap (λ (all : Trace). min (read_in all) (2 ^ 64 - 1)) told;
      written =
          c.written_with-self-inside.ensures
          ∙ written_in-push s.written t x c.self.invariant.written
          ∙ ap (λ (all : Trace). min (written_in all) (2 ^ 64 - 1)) told;
      sum = c.sum_with-self-inside.ensures.sum ∙ sum_of-push s.sum t x c.self.invariant.sum ∙ ap sum_of told;
      small = c.sum_with-self-inside.ensures.fits;
    }
