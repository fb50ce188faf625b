use Rattle.std.proofs.Common.{◌<◌, ◌∙◌, ap, refl, length, arith}
use Rattle.ev_port.specs.declared.port.Want.{Want}
use Rattle.script_port.specs.ScriptState.{LinksKept}
use Rattle.script_port.specs.ScriptLinks.{marked}
use Rattle.script_port.proofs.LinkLemmas.{marks_more, marked_alike, marked-wanted, wanted_more}
use Rattle.script_port.proofs.script_links.ScriptLinks.poll.Goals as goal

pub loop-want-preserved : goal.loop-want-preserved
loop-want-preserved c =
    let xs = c.args.wants.now in
    let i = c.loop-want.want-index in
    let f : Want → Want = λ w. marked c.args.self.now.state w in
    let so_far = c.loop-want.invariant in
    let within : i < length xs = omega arith in
    let also : i < length c.loop-want.wants = omega arith in
    let polled = marked_alike (λ w. marked c.loop-want.self.state w) f so_far.alike c.loop-want.wants i _ c.poll_want.result
    c.poll_want.ensures.marks in
    let after = ap (λ (l : LinksKept). l.state) c.poll_want.ensures.after in record {
      marks = marks_more f xs c.loop-want.wants i _ c.poll_want.result within also so_far.marks polled;
      alike = λ w. ap (λ l. marked l w) after ∙ marked-wanted c.loop-want.self.state _ c.poll_want.result w ∙ so_far.alike w;
      state = wanted_more f xs c.loop-want.wants i _ c.poll_want.result c.loop-want.self.state _ _ (λ w. refl) within so_far.marks polled
          after so_far.state;
      to_open = ap (λ (l : LinksKept). l.to_open) c.poll_want.ensures.after ∙ so_far.to_open;
      to_come = ap (λ (l : LinksKept). l.to_come) c.poll_want.ensures.after ∙ so_far.to_come;
    }
