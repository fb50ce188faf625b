-- The laws on each direction, of a whole relay.
use Rattle.std.proofs.Common.{◌≡◌, ◌⊎◌, inl, inr, ℕ, ◌<◌, ◌≤◌, Bool, true, false, refl, sym, subst}
use Rattle.std.specs.Prelude.{nat_lt}
use Rattle.std.proofs.lemmas.Bool.{ltb-true, ltb-false}
use Rattle.ev_types.specs.Sides.{peer}
use Rattle.relay_model.specs.Trace.{bytes_read, bytes_given, has_ended}
use Rattle.filter_model.specs.FilterLaws.{IsPrefixOf}
use Rattle.relay_model.specs.Flow.{passed}
use Rattle.relay_model.specs.Conserved as direction
use Rattle.relay_model.specs.Plain.{flow_at, is_live}
use Rattle.relay_model.specs.Rooms.{read_kind, write_kind, read_filter, write_filter}
use Rattle.relay_model.specs.Stands.{buffers_at, runnings_at}
use Rattle.relay_model.specs.StandsLaws.{BytesGivenBegin, ClosedIsWhole, BuffersHoldTheRest, FreeAccountsForTheRest}
use Rattle.filter_model.proofs.EveryFilter.{every_filter}
use Rattle.relay_model.proofs.ConservedLemmas.{given_begins, all_is_there, rest_after_free}

-- a link is opened or not
opened_or : (n m : ℕ) → (n < m) ⊎ (m ≤ n)
opened_or n m = go (nat_lt n m) refl
  where
    go : (b : Bool) → nat_lt n m ≡ b → (n < m) ⊎ (m ≤ n)
    go true h = inl (ltb-true n m h)
    go false h = inr (ltb-false n m h)

pub bytes_given_begin : BytesGivenBegin
bytes_given_begin g t s c e = elim (opened_or e.link s.opened) [
  | inl lt ↦ given_begins (read_filter g s e) (write_filter g s (peer e)) t e (bytes_read e t) (bytes_given (peer e) t)
      (has_ended e t) (flow_at s e)
      (every_filter (read_kind g e.side)) (every_filter (write_kind g (peer e).side)) (c.each e lt)
  | inr le ↦ subst (λ z. IsPrefixOf z (passed (read_filter g s e) (write_filter g s (peer e)) (has_ended e t) (bytes_read e t)))
      (sym (c.unopened (peer e) le).given) refl
]

pub closed_is_whole : ClosedIsWhole
closed_is_whole g t s c e closed = elim (opened_or e.link s.opened) [
  | inl lt ↦ ((c.each e lt).closed closed).all
  | inr le ↦ absurd (let k = (c.unopened (peer e) le).write_closed in cc)
]

pub buffers_hold_the_rest : BuffersHoldTheRest
buffers_hold_the_rest g t v c e lt live peer_live =
    let r = read_filter g v.plain e in
    let w = write_filter g v.plain (peer e) in
    let f = flow_at v.plain e in
    let b = buffers_at v.buffers e in
    let x = runnings_at v.runnings e in
    let shape = λ (p q : Bool). direction.Holds (read_kind g e.side) (write_kind g (peer e).side) r w (bytes_read e t)
    (has_ended e t) p q f b x.reader x.writer in
    let holds : shape true true = subst (λ q. shape true q) peer_live (subst (λ p. shape p (is_live v.plain (peer e))) live
    (c.each e lt)) in
    all_is_there (read_kind g e.side) (write_kind g (peer e).side) r w t e (bytes_read e t) (bytes_given (peer e) t)
    (has_ended e t) f b x.reader x.writer
    (every_filter (read_kind g e.side)) (every_filter (write_kind g (peer e).side)) (c.accounted.each e lt) holds

pub free_accounts_for_the_rest : FreeAccountsForTheRest
free_accounts_for_the_rest g t s c e lt moved told open_still =
    rest_after_free (read_filter g s e) (write_filter g s (peer e)) t e (bytes_read e t) (bytes_given (peer e) t) (has_ended e t)
    (flow_at s e) moved
    (every_filter (read_kind g e.side)) (every_filter (write_kind g (peer e).side)) (c.each e lt) told open_still
