use Rattle.std.proofs.Common.{◌∙◌, refl, arith}
use Rattle.relay_drive.proofs.AgendaLemmas.{touched-none, touched-next, touched-all}
use Rattle.relay_drive.proofs.agenda.Agenda.touch_each.Goals as goal

pub loop-link-init : goal.loop-link-init
loop-link-init c = record {
  within = omega arith;
  pass_len = refl;
  close_len = refl;
  want_len = refl;
  live_len = refl;
  to_pass = touched-none c.args.set.now c.args.self.now.to_pass;
  to_close = touched-none c.args.set.now c.args.self.now.to_close;
  to_name = touched-none c.args.set.now c.args.self.now.to_name;
  maybe_open = touched-none c.args.set.now c.args.self.now.maybe_open;
}

pub loop-link-preserved : goal.loop-link-preserved
loop-link-preserved c =
    let inv = c.loop-link.invariant in
    let set = c.args.set.now in
    let k = c.in-Some.link in
    let from = c.loop-link.from in
    let t = c.touch.ensures in
    let le = c.in-Some.ensures.0 in
    let own = c.in-Some.ensures.2 in
    let between = c.in-Some.ensures.3 in
    record {
      within = (let lt = c.in-Some.ensures.1 in omega (arith, lt));
      pass_len = t.pass_len ∙ inv.pass_len;
      close_len = t.close_len ∙ inv.close_len;
      want_len = t.want_len ∙ inv.want_len;
      live_len = t.live_len ∙ inv.live_len;
      to_pass = touched-next set c.args.self.now.to_pass c.loop-link.self.to_pass c.touch.new.self.to_pass
          from k t.to_pass le own between inv.to_pass;
      to_close = touched-next set c.args.self.now.to_close c.loop-link.self.to_close c.touch.new.self.to_close
          from k t.to_close le own between inv.to_close;
      to_name = touched-next set c.args.self.now.to_name c.loop-link.self.to_name c.touch.new.self.to_name
          from k t.to_name le own between inv.to_name;
      maybe_open = touched-next set c.args.self.now.maybe_open c.loop-link.self.maybe_open c.touch.new.self.maybe_open
          from k t.maybe_open le own between inv.maybe_open;
    }

pub returns : goal.returns
returns c =
    let inv = c.loop-link.invariant in
    let set = c.args.set.now in
    let from = c.loop-link.from in
    let rest = c.in_default.ensures in
    record {
      pass_len = inv.pass_len;
      close_len = inv.close_len;
      want_len = inv.want_len;
      live_len = inv.live_len;
      to_pass = touched-all set c.args.self.now.to_pass c.loop-link.self.to_pass from c.args.opened inv.within rest inv.to_pass;
      to_close = touched-all set c.args.self.now.to_close c.loop-link.self.to_close from c.args.opened inv.within rest inv.to_close;
      to_name = touched-all set c.args.self.now.to_name c.loop-link.self.to_name from c.args.opened inv.within rest inv.to_name;
      maybe_open = touched-all set c.args.self.now.maybe_open c.loop-link.self.maybe_open from c.args.opened inv.within rest inv.maybe_open;
    }
