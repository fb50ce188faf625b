use Rattle.std.proofs.Common.{◌≡◌, ◌∷◌, [], ◌++◌, ℕ, List, sym, ap, ◌∙◌, arith}
use Rattle.big_script.specs.Generated.{next_number, byte_given, generated, number_after}
use Rattle.big_script.proofs.GeneratedLemmas.{generated-zero, number_after-zero, generated-more, number_after-more}
use Rattle.big_script.proofs.generator.take_bytes.Goals as goal

-- no step was made
pub loop-i-init : goal.loop-i-init
loop-i-init c = record {
  bytes = c.in_ok-reserve.ensures.items ∙ c.new-bytes.ensures.items ∙ sym (generated-zero c.args.from);
  number = sym (number_after-zero c.args.from);
  small = c.requires;
}

-- one step more was made
pub loop-i-preserved : goal.loop-i-preserved
loop-i-preserved c =
    let i = c.loop-i.i in
    let from = c.args.from in
    let stepped : c.next-x.result ≡ next_number (number_after i from) =
    c.next-x.ensures.next ∙ ap next_number c.loop-i.invariant.number in
    let gave : c.byte_of.result ≡ byte_given (next_number (number_after i from)) = c.byte_of.ensures ∙ ap byte_given stepped in
    record {
      bytes =
          c.in_ok-push.ensures.items
          ∙ ap (λ (xs : List ℕ). xs ++ c.byte_of.result ∷ []) c.loop-i.invariant.bytes
          ∙ ap (λ (b : ℕ). generated i from ++ b ∷ []) gave
          ∙ sym (generated-more i from);
      number = stepped ∙ sym (number_after-more i from);
      small = omega (arith, c.next-x.ensures.small);
    }
