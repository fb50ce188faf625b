use Rattle.std.proofs.Common.{ap, ◌∙◌, rules, ◌==◌, not}
use Rattle.std.proofs.lemmas.Fn.{filter_same}
use Rattle.evbuf.specs.Evbuffered.{Called}
use Rattle.evbuf.specs.Callbacks.{without}
use Rattle.evbuf.proofs.callback_list.CallbackList.remove.Goals as goal

pub returns-clause-callbacks : goal.returns-clause-callbacks
returns-clause-callbacks c =
    filter_same _ (λ callback. not (callback.number == c.args.cb)) _ (λ x b f' k. search rules) _ _ c.retain.ensures.filtered
    ∙ ap (λ (v : Called). without c.args.cb v.callbacks) c.self.view_is
