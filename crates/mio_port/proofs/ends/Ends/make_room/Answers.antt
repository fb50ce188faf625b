use Rattle.std.proofs.Common.{◌≡◌, ◌∙◌, ◌++◌, ◌∷◌, [], List, Option, None, get_or, ap, sym, ℕ, rules}
use Rattle.mio_port.specs.declared.end.End.{End}
use Rattle.mio_port.specs.EndPlaces.{is_bulky, is_ending, is_prompt, is_write_ready}
use Rattle.mio_port.proofs.PutLemmas.{get_or-with_absent}
use Rattle.mio_port.proofs.ends.Ends.make_room.Goals as goal

-- one more place is absent
same : (ends new : List (Option End)) → new ≡ ends ++ None ∷ [] → (n : ℕ) → get_or new n None ≡ get_or ends n None
same ends new is n = ap (λ places. get_or places n None) is ∙ get_or-with_absent ends n

pub invariant_of-self-in-loop-place-clause-prompts : goal.invariant_of-self-in-loop-place-clause-prompts
invariant_of-self-in-loop-place-clause-prompts c = λ n.
    c.loop-place.self.prompts n ∙ sym (ap is_prompt (same _ _ c.push_reserved.ensures.items n))

pub invariant_of-self-in-loop-place-clause-bulks : goal.invariant_of-self-in-loop-place-clause-bulks
invariant_of-self-in-loop-place-clause-bulks c = λ n.
    c.loop-place.self.bulks n ∙ sym (ap is_bulky (same _ _ c.push_reserved.ensures.items n))

pub invariant_of-self-in-loop-place-clause-writes : goal.invariant_of-self-in-loop-place-clause-writes
invariant_of-self-in-loop-place-clause-writes c = λ n.
    c.loop-place.self.writes n ∙ sym (ap is_write_ready (same _ _ c.push_reserved.ensures.items n))

pub invariant_of-self-in-loop-place-clause-pendings : goal.invariant_of-self-in-loop-place-clause-pendings
invariant_of-self-in-loop-place-clause-pendings c = λ n.
    ap is_ending (same _ _ c.push_reserved.ensures.items n) ∙ c.loop-place.self.pendings n

pub loop-place-preserved : goal.loop-place-preserved
loop-place-preserved c =
    let was = c.loop-place.invariant in
    record {
      places = λ n. same _ _ c.push_reserved.ensures.items n ∙ was.places n;
      grown = search rules;
      room = search rules;
      prompt_room = was.prompt_room;
      bulky_room = was.bulky_room;
      write_room = was.write_room;
    }
