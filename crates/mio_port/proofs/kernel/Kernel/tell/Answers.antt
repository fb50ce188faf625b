use Rattle.std.proofs.Common.{◌∙◌, ◌==◌, ◌-◌, ◌^◌, sym, ap, subst}
use Rattle.std.specs.Slice.Iter.{iter_rest}
use Rattle.mio.specs.Events.{items}
use Rattle.mio.specs.declared.token.Token.{Token}
use Rattle.mio_port.specs.EndPlaces.{PlaceWent}
use Rattle.mio_port.specs.OneEnd.{noticed_end}
use Rattle.mio_port.proofs.HeardLemmas.{all_heard_more}
use Rattle.mio_port.proofs.ReportLemmas.{tell-end}
use Rattle.mio_port.proofs.kernel.Kernel.tell.Goals as goal

pub loop-event-preserved : goal.loop-event-preserved
loop-event-preserved c =
    let was = c.loop-event.invariant in
    let notice = c.notice-else-eq.ensures in
    let ends = c.loop-event.ends.ends.items in
    let now_ends = c.notice-else-eq.new.self.ends.items in
    let seen = c.in-Some.event.now in
    let went = subst (λ (t : Token). PlaceWent ends now_ends t.0 (λ end. noticed_end end seen)) c.token-else-eq.ensures notice.went in
    let other = ap (λ (t : Token). t.0 == 2 ^ 64 - 1) (sym c.token.ensures) ∙ sym c.if-eq.ensures in
    record {
      ends = λ n. notice.counts n ∙ was.ends n;
      acceptor = was.acceptor;
      heard = all_heard_more _ _ _ _ seen was.heard notice.went;
      listener = was.listener;
      waits = was.waits;
      told = tell-end (iter_rest c.loop-event.event-iterator) (iter_rest c.next.new.self) (items c.args.self.now.events) seen
          c.args.ends.now.ends.items ends now_ends c.args.acceptor.now.ready c.loop-event.acceptor.ready c.in-Some.ensures.steps was.told other went;
    }
