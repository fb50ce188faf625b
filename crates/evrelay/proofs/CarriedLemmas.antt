-- What `serve` says of a run, of a port that was new as it began and tells everything.
use Rattle.std.proofs.Common.{◌≡◌, ◌⊎◌, inl, inr, ℕ, ◌+◌, ◌-◌, ◌^◌, ◌<◌, Bool, true, false, List, [], ◌++◌, Option, Some, None, refl}
use Rattle.std.proofs.Common.{sym, ◌∙◌, ap, subst, zero-add}
use Rattle.std.specs.Prelude.{⊤, Result, Ok, Err, IfOk, IsSomeAnd, MatchOption}
use Rattle.ev_types.specs.declared.side.SideId.{SideId}
use Rattle.ev_types.specs.declared.status.LinkCount.{LinkCount}
use Rattle.ev_types.specs.declared.status.Status.{Status}
use Rattle.ev_types.specs.declared.status.Status.TheVariants as status
use Rattle.ev_types.specs.Growth.{Grew}
use Rattle.ev_types.specs.Sides.{peer}
use Rattle.ev_types.specs.Told.{EndTold, PortTold, Adds, Raises, Counts, Becomes, Stays}
use Rattle.ev_types.specs.Trace.{Trace}
use Rattle.relay_laws.specs.Relayed.{IsRelayed}
use Rattle.relay_model.specs.Answers.{TurnAnswer}
use Rattle.filter_model.specs.Filter.{filter_of}
use Rattle.filter_model.specs.FilterLaws.{IsPrefixOf}
use Rattle.relay_model.specs.Flow.{passed, passed_at_end}
use Rattle.relay_model.specs.Rooms.{read_kind, write_kind}
use Rattle.relay_model.specs.Settings.{Settings}
use Rattle.relay_model.specs.Totals.{opened}
use Rattle.relay_model.specs.Trace.{is_write_closed}
use Rattle.ev_types.specs.declared.route.Route.{Route}
use Rattle.relay_serve.specs.Seen.{Seen, Drained}
use Rattle.relay_serve.specs.Served.{IsServed, EndedAs, RanOut, Did, DidWith, settings_on}
use Rattle.told_port.specs.Calls.{first_told, first_end}
use Rattle.evrelay.specs.Carried.{Carried, IsPassedOn, IsStartedBy}

-- What is told goes on from nothing

adds-from : (b c : Option (List ℕ)) (bytes : List ℕ) → b ≡ Some [] → Adds b c bytes → c ≡ Some bytes
adds-from b c bytes is h = subst (λ z. Adds z c bytes) is h

raises-from : (b c : Option Bool) (flag : Bool) → b ≡ Some false → Raises b c flag → c ≡ Some flag
raises-from b c flag is h = subst (λ z. Raises z c flag) is h

counts-from : (b c : Option ℕ) (more : ℕ) → b ≡ Some 0 → Counts b c more → more < 2 ^ 64 - 1 → c ≡ Some more
counts-from b c more is h small =
    let k : 0 + more < 2 ^ 64 - 1 → c ≡ Some (0 + more) = subst (λ z. Counts z c more) is h in
    k (subst (λ n. n < 2 ^ 64 - 1) (sym (zero-add more)) small) ∙ ap Some (zero-add more)

some-eq : {T : Type 0} {x y : T} → Some x ≡ Some y → x ≡ y
some-eq h = cc h

-- the trace that a scribe of no entry grew by is the one that it has
grown-by : (a b t : Trace) → a ≡ [] → Grew (Some a) (Some b) t → b ≡ t
grown-by a b t none h = some-eq (h ∙ ap (λ (x : Trace). Some (x ++ t)) none)

-- what holds of three values holds of those that are told
all-some : {A B C : Type 0} (P : A → B → C → Type 0) (a : Option A) (b : Option B) (c : Option C) (x : A) (y : B) (z : C)
    → a ≡ Some x → b ≡ Some y → c ≡ Some z → P x y z → IsSomeAnd a (λ x. IsSomeAnd b (λ y. IsSomeAnd c (λ z. P x y z)))
all-some P a b c x y z is_a is_b is_c h =
    subst (λ o. IsSomeAnd o (λ x. IsSomeAnd b (λ y. IsSomeAnd c (λ z. P x y z)))) (sym is_a)
    (subst (λ o. IsSomeAnd o (λ y. IsSomeAnd c (λ z. P x y z))) (sym is_b) (subst (λ o. IsSomeAnd o (λ z. P x y z)) (sym is_c) h))

-- What a call made

-- a run over the port, or all is as it was
abbrev Made : Route → Seen → Seen → Type 0
Made route old new =
    ((answer : TurnAnswer) × (failed : Bool) × (t : Trace) × (links : List LinkCount) × IsServed route [] answer failed old new t links)
    ⊎ (new ≡ old)

made-ended : (route : Route) (ended : Status) (old new : Seen) (t : Trace) (links : List LinkCount) → EndedAs route [] ended old new t links
    → Made route old new
made-ended route status.Ok old new t links k = inl (TurnAnswer.Went, false, t, links, k.0)
made-ended route status.PollFault old new t links k = inl (TurnAnswer.PollFault, false, t, links, k.0)
made-ended route status.OpenFault old new t links (inl k, rose) = inl (TurnAnswer.OpenFault, true, t, links, k)
made-ended route status.OpenFault old new t links (inr k, rose) = inl (TurnAnswer.Went, true, t, links, k.1)
made-ended route status.Spent old new t links k = inl (TurnAnswer.Went, false, t, links, k.0)
made-ended route status.Usage old new t links k = absurd k
made-ended route (status.BadScript line) old new t links k = absurd k
made-ended route status.ReadFault old new t links k = absurd k
made-ended route status.WriteFault old new t links k = absurd k
made-ended route (status.Stopped link turn) old new t links k = absurd (k.2 refl)
made-ended route status.TooLong old new t links k = absurd k
made-ended route status.Memory old new t links k = absurd k

made-out : (route : Route) (old new : Seen) → RanOut route [] old new → Made route old new
made-out route old new (inl k) = inl (TurnAnswer.Memory, false, k.0, k.1, k.2)
made-out route old new (inr (inl k)) = made-ended route k.2 old new k.0 k.1 k.3
made-out route old new (inr (inr same)) = inr same

made-did : (route : Route) (ended : Status) (old new : Seen) (before after : Drained) → Did route [] ended old new before after
    → Made route old new
made-did route status.Ok old new before after k = made-ended route status.Ok old new k.0 k.1 k.2
made-did route status.PollFault old new before after k = made-ended route status.PollFault old new k.0 k.1 k.2
made-did route status.OpenFault old new before after k = made-ended route status.OpenFault old new k.0 k.1 k.2
made-did route status.Spent old new before after k = made-ended route status.Spent old new k.0 k.1 k.2
made-did route status.WriteFault old new before after k = made-ended route k.0.2 old new k.0.0 k.0.1 k.0.4
made-did route status.Memory old new before after k = made-out route old new k
made-did route status.Usage old new before after k = absurd k
made-did route (status.BadScript line) old new before after k = absurd k
made-did route status.ReadFault old new before after k = absurd k
made-did route (status.Stopped link turn) old new before after k = made-ended route (status.Stopped link turn) old new k.0 k.1 k.2
made-did route status.TooLong old new before after k = absurd k

-- What it carried

-- a port that was new, and a scribe of no entry
pub record WasNew (old : Seen) : Type 0 where
  pub told : old.told ≡ first_told
  pub ends : (e : SideId) → old.ends e ≡ first_end
  pub log : old.log ≡ Some []

module _ (old new : Seen) (trace : Trace) (n : WasNew old) (log : new.log ≡ Some trace) where
  abbrev IsCarried : Option Route → Type 0
  IsCarried o = Carried trace new.told new.ends × MatchOption o ⊤ (λ route. IsPassedOn (settings_on route []) new.ends)

  carried-of : (route : Route) (answer : TurnAnswer) (failed : Bool) (t : Trace) (links : List LinkCount)
      → IsServed route [] answer failed old new t links → Carried t new.told new.ends
  carried-of route answer failed t links k =
      let start = k.start in
      let began : (e : SideId) → EndTold = k.ends_began in
      let links_began : k.began.links ≡ Some 0 =
      subst (λ z. Stays z k.began.links) (ap (λ (z : PortTold). z.links) n.told) start.told_of_start.links in
      record {
        got = λ e. adds-from (began e).handed_out (new.ends e).handed_out _
            (adds-from (old.ends e).handed_out (began e).handed_out [] (ap (λ (z : EndTold). z.handed_out) (n.ends e))
            (start.ends_stay e).handed_out)
            (k.tied.ends e).handed_out;
        took = λ e. adds-from (began e).taken (new.ends e).taken _
            (adds-from (old.ends e).taken (began e).taken [] (ap (λ (z : EndTold). z.taken) (n.ends e)) (start.ends_stay e).taken)
            (k.tied.ends e).taken;
        ended = λ e. raises-from (began e).ended (new.ends e).ended _
            (raises-from (old.ends e).ended (began e).ended false (ap (λ (z : EndTold). z.ended) (n.ends e)) (start.ends_stay e).ended)
            (k.tied.ends e).ended;
        write_ended = λ e. raises-from (began e).write_ended (new.ends e).write_ended _
            (raises-from (old.ends e).write_ended (began e).write_ended false (ap (λ (z : EndTold). z.write_ended) (n.ends e))
            (start.ends_stay e).write_ended)
            (k.tied.ends e).write_ended;
        closed = λ e. raises-from (began e).closed (new.ends e).closed _
            (raises-from (old.ends e).closed (began e).closed false (ap (λ (z : EndTold). z.closed) (n.ends e)) (start.ends_stay e).closed)
            (k.tied.ends e).closed;
        links = counts-from k.began.links new.told.links (opened t) links_began k.tied.port.links;
      }

  -- a relay passed on what was carried
  passed-of : (g : Settings) (answer : TurnAnswer) (t : Trace) (links : List LinkCount) → IsRelayed g answer t links
      → Carried t new.told new.ends → IsPassedOn g new.ends
  passed-of g answer t links relayed c = record {
    begins = λ e. all-some
        (λ (got : List ℕ) (ended : Bool) (took : List ℕ). IsPrefixOf took
        (passed (filter_of (read_kind g e.side)) (filter_of (write_kind g (peer e).side)) ended got))
        (new.ends e).handed_out (new.ends e).ended (new.ends (peer e)).taken _ _ _ (c.got e) (c.ended e) (c.took (peer e))
        (relayed.begins e);
    whole = λ e over.
        let is_over : is_write_closed (peer e) t ≡ true = some-eq (sym (c.write_ended (peer e)) ∙ over) in
        subst (λ o. IsSomeAnd o (λ got.
        (new.ends (peer e)).taken ≡ Some (passed_at_end (filter_of (read_kind g e.side)) (filter_of (write_kind g (peer e).side)) got)))
        (sym (c.got e)) (c.took (peer e) ∙ ap Some (relayed.whole e is_over));
  }

  carried-served : (route : Route) (answer : TurnAnswer) (failed : Bool) (t : Trace) (links : List LinkCount)
      → IsServed route [] answer failed old new t links → IsCarried (Some route)
  carried-served route answer failed t links k =
      let is : trace ≡ t = grown-by [] trace t refl (subst (λ z. Grew (Some []) z t) log (subst (λ z. Grew z new.log t) n.log k.list)) in
      let c : Carried t new.told new.ends = carried-of route answer failed t links k in
      (subst (λ z. Carried z new.told new.ends) (sym is) c, passed-of (settings_on route []) answer t links k.relayed c)

  -- nothing was done
  module _ (same : new ≡ old) where
    first : (e : SideId) → new.ends e ≡ first_end
    first e = ap (λ (z : Seen). z.ends e) same ∙ n.ends e

    carried-nothing : Carried trace new.told new.ends
    carried-nothing =
        let none : trace ≡ [] = some-eq (sym log ∙ ap (λ (z : Seen). z.log) same ∙ n.log) in
        let told : new.told ≡ first_told = ap (λ (z : Seen). z.told) same ∙ n.told in
        subst (λ z. Carried z new.told new.ends) (sym none)
        (record {
          got = λ e. ap (λ (z : EndTold). z.handed_out) (first e);
          took = λ e. ap (λ (z : EndTold). z.taken) (first e);
          ended = λ e. ap (λ (z : EndTold). z.ended) (first e);
          write_ended = λ e. ap (λ (z : EndTold). z.write_ended) (first e);
          closed = λ e. ap (λ (z : EndTold). z.closed) (first e);
          links = λ small. ap (λ (z : PortTold). z.links) told;
        })

    passed-nothing : (g : Settings) → IsPassedOn g new.ends
    passed-nothing g = record {
      begins = λ e. all-some
          (λ (got : List ℕ) (ended : Bool) (took : List ℕ). IsPrefixOf took
          (passed (filter_of (read_kind g e.side)) (filter_of (write_kind g (peer e).side)) ended got))
          (new.ends e).handed_out (new.ends e).ended (new.ends (peer e)).taken [] false []
          (ap (λ (z : EndTold). z.handed_out) (first e)) (ap (λ (z : EndTold). z.ended) (first e))
          (ap (λ (z : EndTold). z.taken) (first (peer e))) refl;
      whole = λ e over. absurd (never (sym (ap (λ (z : EndTold). z.write_ended) (first (peer e))) ∙ over));
    }
      where
        never : Some false ≡ Some true → ⊥
        never h = cc h

  carried-made : (route : Route) → Made route old new → IsCarried (Some route)
  carried-made route (inl k) = carried-served route k.0 k.1 k.2 k.3 k.4
  carried-made route (inr same) = (carried-nothing same, passed-nothing same (settings_on route []))

  -- the port was started with the words' addresses
  started-served : (route : Route) (ended : Status) (answer : TurnAnswer) (failed : Bool) (t : Trace) (links : List LinkCount)
      → IsServed route [] answer failed old new t links → IsStartedBy route ended new.told
  started-served route ended answer failed t links k =
      let before : old.told.started ≡ Some None = ap (λ (z : PortTold). z.started) n.told in
      let began : k.began.started ≡ Some (Some (route.listen, route.to)) =
      subst (λ z. Becomes z k.began.started (Some (route.listen, route.to))) before k.start.told_of_start.started in
      inl (subst (λ z. Stays z new.told.started) began k.tied.port.started)

  started-out : (route : Route) → Made route old new → IsStartedBy route status.Memory new.told
  started-out route (inl k) = started-served route status.Memory k.0 k.1 k.2 k.3 k.4
  started-out route (inr same) = inr (refl, ap (λ (z : Seen). z.told.started) same ∙ ap (λ (z : PortTold). z.started) n.told)

  started-ended : (route : Route) (ended own : Status) (t : Trace) (links : List LinkCount) → EndedAs route [] own old new t links
      → IsStartedBy route ended new.told
  started-ended route ended status.Ok t links k = started-served route ended TurnAnswer.Went false t links k.0
  started-ended route ended status.PollFault t links k = started-served route ended TurnAnswer.PollFault false t links k.0
  started-ended route ended status.OpenFault t links (inl k, rose) = started-served route ended TurnAnswer.OpenFault true t links k
  started-ended route ended status.OpenFault t links (inr k, rose) = started-served route ended TurnAnswer.Went true t links k.1
  started-ended route ended status.Spent t links k = started-served route ended TurnAnswer.Went false t links k.0
  started-ended route ended status.Usage t links k = absurd k
  started-ended route ended (status.BadScript line) t links k = absurd k
  started-ended route ended status.ReadFault t links k = absurd k
  started-ended route ended status.WriteFault t links k = absurd k
  started-ended route ended (status.Stopped link turn) t links k = absurd (k.2 refl)
  started-ended route ended status.TooLong t links k = absurd k
  started-ended route ended status.Memory t links k = absurd k

  started-did : (route : Route) (ended : Status) (before after : Drained) → Did route [] ended old new before after
      → IsStartedBy route ended new.told
  started-did route status.Memory before after k = started-out route (made-out route old new k)
  started-did route status.Ok before after k = started-ended route status.Ok status.Ok k.0 k.1 k.2
  started-did route status.PollFault before after k = started-ended route status.PollFault status.PollFault k.0 k.1 k.2
  started-did route status.OpenFault before after k = started-ended route status.OpenFault status.OpenFault k.0 k.1 k.2
  started-did route status.Spent before after k = started-ended route status.Spent status.Spent k.0 k.1 k.2
  started-did route status.WriteFault before after k = started-ended route status.WriteFault k.0.2 k.0.0 k.0.1 k.0.4
  started-did route (status.Stopped link turn) before after k = absurd (k.2.2 refl)
  started-did route status.Usage before after k = absurd k
  started-did route (status.BadScript line) before after k = absurd k
  started-did route status.ReadFault before after k = absurd k
  started-did route status.TooLong before after k = absurd k

  -- whatever the words were
  pub carried-with : (o : Option Route) (ended : Status) (before after : Drained) → DidWith o [] ended old new before after → IsCarried o
  carried-with None ended before after k = (carried-nothing k.1, tt)
  carried-with (Some route) ended before after k = carried-made route (made-did route ended old new before after k)

  pub started-with : (o : Option Route) (ended : Status) (before after : Drained) → DidWith o [] ended old new before after
      → MatchOption o ⊤ (λ route. IsStartedBy route ended new.told)
  started-with None ended before after k = tt
  started-with (Some route) ended before after k = started-did route ended before after k

-- what follows of each value of a success
pub if_ok-on : {T E : Type 0} {P Q : T → Type 0} (r : Result T E) → IfOk r P → ((x : T) → P x → Q x) → IfOk r Q
if_ok-on (Ok x) h f = f x h
if_ok-on (Err e) h f = tt
