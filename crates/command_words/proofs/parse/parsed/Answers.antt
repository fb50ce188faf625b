use Rattle.std.proofs.Common.{◌≢◌, ◌∙◌, sym, subst, inl, inr, []}
use Rattle.clap.specs.Kinds.{IsAmong, Kinds}
use Rattle.clap.specs.declared.error.kind.ErrorKind.{ErrorKind}
use Rattle.command_words.proofs.parse.parsed.Goals as goal

-- where a kind is among them, there are some
not_empty : (k : ErrorKind) (ks : Kinds) → IsAmong k ks → ks ≢ []
not_empty k ks among none = subst (IsAmong k) none among

pub returns-then-has_bare-clause-refused : goal.returns-then-has_bare-clause-refused
returns-then-has_bare-clause-refused c = λ usage simple. inl (sym c.has_bare.ensures ∙ c.if-has_bare.true)

pub returns-in-Ok-clause-taken : goal.returns-in-Ok-clause-taken
returns-in-Ok-clause-taken c = record {
  full = sym c.has_bare.ensures ∙ c.if-has_bare.false;
  fine = c.in-Ok.ensures.kinds;
  matches = c.in-Ok.ensures.matches;
}

pub returns-in-Err-clause-refused : goal.returns-in-Err-clause-refused
returns-in-Err-clause-refused c = λ usage simple. elim (c.in-Err.ensures.kinds simple) [
  | inl memory ↦ absurd (c.words_fault.ensures.usage usage memory)
  | inr among ↦ inr (sym c.has_bare.ensures ∙ c.if-has_bare.false, not_empty _ _ among)
]
