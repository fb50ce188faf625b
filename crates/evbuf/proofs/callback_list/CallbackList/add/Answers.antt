use Rattle.std.proofs.Common.{◌≡◌, ◌≤◌, ◌∷◌, [], length, drop, false, ap, ◌∙◌, arith}
use Rattle.std.proofs.lemmas.List.{drop-append-le}
use Rattle.evbuf.specs.Evbuffered.{Called}
use Rattle.evbuf.specs.Callbacks.{newest_waiting, waits}
use Rattle.evbuf.proofs.CallbackLemmas.{newest_waiting-push}
use Rattle.evbuf.proofs.callback_list.CallbackList.add.Goals as goal

pub invariant_of-self-2 : goal.invariant_of-self-2
invariant_of-self-2 c =
    let kept = c.self.inside.items.items in
    let within : c.self.inside.waiting ≤ length kept = omega (arith, c.self.inside.items.ok.0, c.self.invariant.0) in
    let quiet : waits c.new.result ≡ false = ap waits c.new.ensures in (
      omega (arith, c.self.invariant.0, c.push.ensures.lower_bound),
      ap (λ items. newest_waiting (drop c.self.inside.waiting items)) c.in_ok-push.ensures.items
          ∙ ap newest_waiting (drop-append-le c.self.inside.waiting kept (c.new.result ∷ []) within)
          ∙ newest_waiting-push (drop c.self.inside.waiting kept) c.new.result c.self.invariant.1 quiet,
      omega (arith, ap (λ (v : Called). v.next) c.self.view_is, c.requires, c.ranges.number),
    )
