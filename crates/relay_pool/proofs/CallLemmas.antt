-- The changes that calls make of a side, each of which can be lifted from a bay, or from what is remembered, to the pool.
use Rattle.std.proofs.Common.{ℕ, true, false, List}
use Rattle.std.specs.Prelude.{Option}
use Rattle.token_bucket.specs.declared.limit.Dir.{Dir}
use Rattle.token_bucket.specs.declared.limit.LimitCfg.{LimitCfg}
use Rattle.relay_model.specs.Plain.{PlainSide}
use Rattle.relay_sides.specs.Links.{change_side, bucket_spent, limited, after_got, after_took, freed}
use Rattle.relay_pool.specs.Over.{with_change}
use Rattle.relay_pool.specs.declared.change.Change.{Change}
use Rattle.relay_pool.specs.declared.change.Change.TheVariants as change
use Rattle.relay_pool.proofs.LiftLemmas.{image_change, image_spent, image_limited, image_took, image_freed, image_got}
use Rattle.relay_pool.proofs.LiftLemmas.{touches_change, touches_spent, touches_limited, touches_took, touches_freed, touches_got}
use Rattle.relay_pool.proofs.BayLemmas.{Lifts}

pub lifts_change : (f : PlainSide → PlainSide) → Lifts (λ e k. change_side e f k)
lifts_change f = record {
  touches = λ e k. touches_change e k f;
  image = λ from to old new i s. image_change from to old new i s f;
}

pub lifts_spent : (time : ℕ) (d : Dir) (n : ℕ) → Lifts (λ e k. bucket_spent time e d n k)
lifts_spent time d n = record {
  touches = λ e k. touches_spent e k time d n;
  image = λ from to old new i s. image_spent from to old new i s time d n;
}

pub lifts_limited : (time turn : ℕ) (cfg : Option LimitCfg) → Lifts (λ e k. limited time turn e cfg k)
lifts_limited time turn cfg = record {
  touches = λ e k. touches_limited e k time turn cfg;
  image = λ from to old new i s. image_limited from to old new i s time turn cfg;
}

pub lifts_took : (time n : ℕ) → Lifts (λ e k. after_took time e n k)
lifts_took time n = record {
  touches = λ e k. touches_took e k time n;
  image = λ from to old new i s. image_took from to old new i s time n;
}

pub lifts_freed : Lifts (λ e k. freed e k)
lifts_freed = record {
  touches = λ e k. touches_freed e k;
  image = λ from to old new i s. image_freed from to old new i s;
}

pub lifts_got : (time : ℕ) (bytes : List ℕ) → Lifts (λ e k. after_got time e bytes k)
lifts_got time bytes = record {
  touches = λ e k. touches_got e k time bytes;
  image = λ from to old new i s. image_got from to old new i s time bytes;
}

-- a change of what is remembered
pub lifts_changed : (x : Change) → Lifts (λ e k. with_change x e k)
lifts_changed change.Ended = lifts_change (λ x. record x { ended = true; reads = false })
lifts_changed change.ReadFailed = lifts_change (λ x. record x { failed = true; reads = false })
lifts_changed change.WriteFailed = lifts_change (λ x. record x { failed = true; writes = false })
lifts_changed change.Connected = lifts_change (λ x. record x { connecting = false })
lifts_changed change.WriteEnded = lifts_change (λ x. record x { write_ended = true })
lifts_changed change.Closed = lifts_change (λ x. record x { closed = true })
lifts_changed change.Freed = lifts_freed
lifts_changed (change.Spent d n time) = lifts_spent time d n
lifts_changed (change.TookNone time) = lifts_took time 0
