use Rattle.std.proofs.Common.{◌∙◌, refl, ap}
use Rattle.ev_port.specs.declared.port.Polled.TheVariants as polled
use Rattle.mio_port.specs.declared.acceptor.Acceptor.{Acceptor}
use Rattle.mio_port.specs.declared.ends.Ends.{Ends}
use Rattle.mio_port.proofs.LookLemmas.{looked-at}
use Rattle.mio_port.proofs.mio_port.MioPort.wait.Goals as goal

pub returns-then-not-look-clause-looked : goal.returns-then-not-look-clause-looked
returns-then-not-look-clause-looked g c =
    let mid = c.pause_left-pause.new.self in
    let was = c.pause_left-pause.ensures in
    let ends = ap (λ (e : Ends). e.ends.items) was.ends ∙ c.hand_on.ensures.ends in
    let now = c.look.new.self in
    looked-at c.args.is_any_ready c.args.accept c.args.timeout c.args.self.now mid
    (record now { polling_faults = c.saturating_add-self.result }) polled.Failed mid.clock.last c.is_any_asked-is_any.result c.pause_left-pause.result
    c.longest_wait.result now.kernel now.ends.ends.items now.acceptor.ready c.look.result was.steady was.kernel ends
    was.listener was.left c.is_any_asked-is_any.ensures c.longest_wait.ensures c.look.ensures.looked refl refl refl c.if-not-look.true

pub returns-then-accept-clause-looked : goal.returns-then-accept-clause-looked
returns-then-accept-clause-looked g c =
    let mid = c.pause_left-pause.new.self in
    let was = c.pause_left-pause.ensures in
    let ends = ap (λ (e : Ends). e.ends.items) was.ends ∙ c.hand_on.ensures.ends in
    let now = c.look.new.self in
    let last = c.pause_left.ensures in
    looked-at c.args.is_any_ready c.args.accept c.args.timeout c.args.self.now mid c.pause_left.new.self
    (polled.Ready c.is_open.result) mid.clock.last c.is_any_asked-is_any.result c.pause_left-pause.result
    c.longest_wait.result now.kernel now.ends.ends.items now.acceptor.ready c.look.result was.steady was.kernel ends
    was.listener was.left c.is_any_asked-is_any.ensures c.longest_wait.ensures c.look.ensures.looked last.kernel
    (ap (λ (e : Ends). e.ends.items) last.ends) (ap (λ (d : Acceptor). d.ready) last.listener) c.if-not-look.false

pub returns-else-accept-clause-looked : goal.returns-else-accept-clause-looked
returns-else-accept-clause-looked g c =
    let mid = c.pause_left-pause.new.self in
    let was = c.pause_left-pause.ensures in
    let ends = ap (λ (e : Ends). e.ends.items) was.ends ∙ c.hand_on.ensures.ends in
    let now = c.look.new.self in
    let last = c.pause_left.ensures in
    looked-at c.args.is_any_ready c.args.accept c.args.timeout c.args.self.now mid c.pause_left.new.self
    (polled.Ready c.args.accept) mid.clock.last c.is_any_asked-is_any.result c.pause_left-pause.result
    c.longest_wait.result now.kernel now.ends.ends.items now.acceptor.ready c.look.result was.steady was.kernel ends
    was.listener was.left c.is_any_asked-is_any.ensures c.longest_wait.ensures c.look.ensures.looked last.kernel
    (ap (λ (e : Ends). e.ends.items) last.ends) (ap (λ (d : Acceptor). d.ready) last.listener) c.if-not-look.false
