-- A step of any filter whose output is made beside the buffers.
use Rattle.std.proofs.Common.{◌≡◌, ℕ, ◌-◌, List, [], ◌++◌, length, take, Some, Ok, Err, ap, sym, subst, ◌∙◌}
use Rattle.token_bucket.specs.declared.limit.Dir.{Dir}
use Rattle.ev_types.specs.declared.filter.Mode.{Mode}
use Rattle.filter_model.specs.Filter.{Filter}
use Rattle.stream_filters.specs.declared.stream_filter.Step.{Step}
use Rattle.stream_filters.specs.declared.fault.FilterFault.TheVariants.{BadByte}
use Rattle.stream_filters.specs.StepAnswers.{is_last}
use Rattle.stream_filters.specs.StreamSteps.{Reached, Taken, taken, MakesStep, Tells, Comes, is_beyond}
use Rattle.stream_filters.proofs.StreamShift.{taken-shift}
use Rattle.bev_core.specs.BevValue.{BevValue}
use Rattle.bev_core.specs.Steps.{held, with_held, more, less}
use Rattle.bev_filter.specs.declared.fault.PassFault.TheVariants.{Filter as Bad}
use Rattle.bev_filter.specs.PassingBy.{Between, Trades, CrossedBy, PassesBy}

module _ {S : Type 0} (filter : S → Filter) (reached : S → Reached) (known : S → List ℕ → Type 0) (dir : Dir) (limit : ℕ) (mode : Mode)
    (before : Between S) (copy next : S) (room : ℕ) (src target filled bytes : List ℕ) (from_after to_after : BevValue)
    (same : copy ≡ before.by) (all : src ≡ (held before.from dir).bytes) (left : room ≡ limit - length (held before.to dir).bytes)
    (empty : target ≡ []) (put : bytes ≡ filled) where
  abbrev after : Between S
  after = record { from = from_after; to = to_after; by = next }

  abbrev step_of : List ℕ → Taken
  step_of past = taken (filter before.by) past (reached before.by) (is_last mode) limit (length (held before.to dir).bytes)
      (held before.from dir).bytes

  step-is : (past : List ℕ) → taken (filter copy) past (reached copy) (is_last mode) room (length target) src ≡ step_of past
  step-is past =
      (λ i. taken (filter (same i)) past (reached (same i)) (is_last mode) (left i) (length (empty i)) (all i))
      ∙ taken-shift (filter before.by) past (held before.from dir).bytes limit (length (held before.to dir).bytes) (reached before.by)
      (is_last mode)

  crossed : (past : List ℕ) (used : ℕ) → used ≡ (step_of past).used →
      Comes (known next) (step_of past) past src (reached next) target filled
      → Trades dir used bytes before.from before.to from_after to_after →
      CrossedBy reached known dir (step_of past) past before after
  crossed past used count comes trades =
      let made : bytes ≡ (step_of past).made = put ∙ comes.filled_by ∙ (λ i. empty i ++ (step_of past).made) in
      record {
        trades = record {
          gone = trades.gone ∙ (λ i. with_held before.from dir (less (held before.from dir) (count i) (held from_after dir).spare));
          come = trades.come ∙ (λ i. with_held before.to dir (more (held before.to dir) (made i) (held to_after dir).spare));
        };
        came = comes.reached;
        knows = subst (λ z. known next (past ++ take (step_of past).used z)) all comes.knows;
      }

  pub passed-on : (step : Step) → MakesStep filter reached known mode room src (Ok step) copy next target filled →
      Trades dir step.used bytes before.from before.to from_after to_after →
      PassesBy filter reached known dir limit mode (Ok step) before after
  passed-on step steps trades = record {
    same = steps.same ∙ ap filter same;
    trades = (bytes, trades);
    tells = λ past k.
        let h = subst (λ t. Tells (Ok step) (known next) t past src (reached next) target filled) (step-is past)
        (steps.tells past (subst (λ x. known x past) (sym same) k)) in
        (h.0, crossed past step.used h.0.used h.1 trades);
    refused = _;
    spent = steps.spent ∙ (λ i. is_beyond (reached (same i)) (length (all i)));
  }

  pub passed-bad : (used place : ℕ) → MakesStep filter reached known mode room src (Err (BadByte used place)) copy next target filled →
      Trades dir used bytes before.from before.to from_after to_after →
      PassesBy filter reached known dir limit mode (Err (Bad place)) before after
  passed-bad used place steps trades = record {
    same = steps.same ∙ ap filter same;
    trades = (used, bytes, trades);
    tells = λ past k.
        let h = subst (λ t. Tells (Err (BadByte used place)) (known next) t past src (reached next) target filled) (step-is past)
        (steps.tells past (subst (λ x. known x past) (sym same) k)) in
        (h.1, crossed past used h.0 h.2 trades);
    refused = _;
    spent = steps.spent ∙ (λ i. is_beyond (reached (same i)) (length (all i)));
  }
