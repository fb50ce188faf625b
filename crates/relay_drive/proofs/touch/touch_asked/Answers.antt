use Rattle.std.proofs.Common.{◌∙◌, sym, refl, arith}
use Rattle.relay_drive.proofs.TouchLemmas.{rest-begins, rest-next, rest-ends}
use Rattle.relay_drive.proofs.touch.touch_asked.Goals as goal

pub touch_entry-requires-clause-pass : goal.touch_entry-requires-clause-pass
touch_entry-requires-clause-pass c = let a = c.requires.pass in let b = c.loop-entry.invariant.pass_len in omega (arith, a, b)

pub touch_entry-requires-clause-close : goal.touch_entry-requires-clause-close
touch_entry-requires-clause-close c = let a = c.requires.close in let b = c.loop-entry.invariant.close_len in omega (arith, a, b)

pub touch_entry-requires-clause-want : goal.touch_entry-requires-clause-want
touch_entry-requires-clause-want c = let a = c.requires.want in let b = c.loop-entry.invariant.want_len in omega (arith, a, b)

pub touch_entry-requires-clause-live : goal.touch_entry-requires-clause-live
touch_entry-requires-clause-live c = let a = c.requires.live in let b = c.loop-entry.invariant.live_len in omega (arith, a, b)

pub loop-entry-init : goal.loop-entry-init
loop-entry-init c = record {
  pass_len = refl;
  close_len = refl;
  want_len = refl;
  live_len = refl;
  to_pass = rest-begins c.args.log.now c.args.opened c.args.agenda.now.to_pass;
  to_close = rest-begins c.args.log.now c.args.opened c.args.agenda.now.to_close;
  to_name = rest-begins c.args.log.now c.args.opened c.args.agenda.now.to_name;
  maybe_open = rest-begins c.args.log.now c.args.opened c.args.agenda.now.maybe_open;
}

pub loop-entry-preserved : goal.loop-entry-preserved
loop-entry-preserved c =
    let inv = c.loop-entry.invariant in
    let step = c.touch_entry.ensures in
    let log = c.args.log.now in
    let i = c.loop-entry.entry-index in
    let x = c.entry-item.result in
    let lt = c.loop-entry-test.true in
    let at = sym c.entry-item.is in
    record {
      pass_len = step.pass_len ∙ inv.pass_len;
      close_len = step.close_len ∙ inv.close_len;
      want_len = step.want_len ∙ inv.want_len;
      live_len = step.live_len ∙ inv.live_len;
      to_pass = rest-next log i c.args.opened x c.args.agenda.now.to_pass c.loop-entry.agenda.to_pass c.touch_entry.new.agenda.to_pass
          lt at inv.to_pass step.to_pass;
      to_close = rest-next log i c.args.opened x c.args.agenda.now.to_close c.loop-entry.agenda.to_close
          c.touch_entry.new.agenda.to_close lt at inv.to_close step.to_close;
      to_name = rest-next log i c.args.opened x c.args.agenda.now.to_name c.loop-entry.agenda.to_name c.touch_entry.new.agenda.to_name
          lt at inv.to_name step.to_name;
      maybe_open = rest-next log i c.args.opened x c.args.agenda.now.maybe_open c.loop-entry.agenda.maybe_open
          c.touch_entry.new.agenda.maybe_open lt at inv.maybe_open step.maybe_open;
    }

pub returns : goal.returns
returns c =
    let inv = c.loop-entry.invariant in
    let log = c.args.log.now in
    let i = c.loop-entry.entry-index in
    let end = c.loop-entry-test.false in
    record {
      pass_len = inv.pass_len;
      close_len = inv.close_len;
      want_len = inv.want_len;
      live_len = inv.live_len;
      to_pass = rest-ends log i c.args.opened c.args.agenda.now.to_pass c.loop-entry.agenda.to_pass end inv.to_pass;
      to_close = rest-ends log i c.args.opened c.args.agenda.now.to_close c.loop-entry.agenda.to_close end inv.to_close;
      to_name = rest-ends log i c.args.opened c.args.agenda.now.to_name c.loop-entry.agenda.to_name end inv.to_name;
      maybe_open = rest-ends log i c.args.opened c.args.agenda.now.maybe_open c.loop-entry.agenda.maybe_open end inv.maybe_open;
    }
