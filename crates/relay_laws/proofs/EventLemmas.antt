-- What each entry of a legal trace says: its numbers are bounded by the number of links and the most bytes of one call, a poll's timeout
-- can be spelled, flags fit a byte, and exactly the bytes stand beside it that were got or taken.
use Rattle.std.proofs.Common.{◌≡◌, ℕ, ◌-◌, ◌<◌, ◌≤◌, min, Bool, true, false, ◌&&◌, ◌||◌, nat_le, if◌then◌else◌, List, [], ◌∷◌, ◌++◌, length}
use Rattle.std.proofs.Common.{map, Option, Some, None, inl, inr, refl, sym, ◌∙◌, ap, subst, arith}
use Rattle.std.specs.Prelude.{⊤, filter, All}
use Rattle.std.proofs.lemmas.List.Elements.{All-head}
use Rattle.std.specs.List.{AllByRecursion}
use Rattle.std.proofs.lemmas.Bool.{and_parts}
use Rattle.token_bucket.specs.declared.limit.Dir.TheVariants as dir
use Rattle.ev_types.specs.declared.side.Side.{Side}
use Rattle.ev_types.specs.declared.side.Side.TheVariants.{In, Out}
use Rattle.ev_types.specs.declared.side.SideId.{SideId}
use Rattle.ev_types.specs.declared.answer.ReadAnswer.{ReadAnswer}
use Rattle.ev_types.specs.declared.answer.ReadAnswer.TheVariants as read
use Rattle.ev_types.specs.declared.entry.Entry.{Entry}
use Rattle.ev_types.specs.declared.entry.Entry.TheVariants as entry
use Rattle.ev_types.specs.Trace.{Event, Trace}
use Rattle.ev_types.specs.Times.{latest}
use Rattle.script_text.specs.TraceLaws.{IsEntry}
use Rattle.relay_model.specs.Settings.{Settings}
use Rattle.relay_model.specs.Due.{Reason}
use Rattle.relay_model.specs.Plain.{Plain, side_at, all_sides}
use Rattle.relay_model.specs.Past.{Past, past}
use Rattle.relay_model.specs.Rooms.{Want, want_of, wanted, may_read, may_write, read_room, write_room, is_connecting, within_rates, at_most}
use Rattle.relay_model.specs.Rooms.{share, allowance, most_at_once, read_mark, input_length, raw_output_at}
use Rattle.relay_model.specs.Moments.{poll_timeout}
use Rattle.relay_model.specs.Serve.{Call, call_for, CarriesGot, CarriesTook}
use Rattle.relay_model.specs.Close.{CloseStep}
use Rattle.relay_model.specs.Stages.{Stage, State, Between, Polling, Wanting, Marking, Accepting, Serving, Filtering, Dispatching, Firing}
use Rattle.relay_model.specs.Stages.{Freeing, Passing, Closing, Over, Halt}
use Rattle.relay_model.specs.Turn.{after_reading, Puts, Quietly, Reaches, IsLegal}
use Rattle.relay_model.specs.Told.{names}
use Rattle.relay_model.proofs.EndLemmas.{same_end-refl}
use Rattle.relay_model.proofs.StepLemmas.{read-called, write-called, put-effect}
use Rattle.relay_model.proofs.KindLemmas.{ClosedKind, closed-kind, PutKind, put-kind}
use Rattle.relay_model.proofs.SplitLemmas.{reaches_split}
use Rattle.relay_model.proofs.ToldLemmas.{kept}
use Rattle.relay_steps.specs.ToFire.{FlagsFit, left_in, ReasonOf}
use Rattle.relay_steps.proofs.HookedSteps.{waits_are_hooked}
use Rattle.relay_laws.specs.Spelling.{TimeoutsFit}
use Rattle.relay_laws.proofs.SettledLemmas.{in_connected}
use Rattle.relay_laws.proofs.PollLemmas.{poll-spelled}

-- what an entry says, with so many links
abbrev pub Says : ℕ → Event → Type 0
Says n (entry.Turn ms, bytes) = (ms ≤ latest) × (bytes ≡ [])
Says n (entry.Poll timeout, bytes) = IsEntry (entry.Poll timeout) × (bytes ≡ [])
Says n (entry.Want side read write, bytes) = (side.link < n) × ((read || write) ≡ true) × (bytes ≡ [])
Says n (entry.Ready side read write, bytes) = (side.link < n) × ((read || write) ≡ true) × (bytes ≡ [])
Says n (entry.PollFailed, bytes) = bytes ≡ []
Says n (entry.Opened link connected, bytes) = (link < n) × (bytes ≡ [])
Says n (entry.Conn side answer, bytes) = (side.link < n) × (side.side ≡ Out) × (bytes ≡ [])
Says n (entry.Read side room answer, bytes) = (side.link < n) × (room ≤ most_at_once) × CarriesGot answer room bytes
Says n (entry.Write side offered answer, bytes) = (side.link < n) × (offered ≤ most_at_once) × CarriesTook answer offered bytes
Says n (entry.Fired side why, bytes) = (side.link < n) × FlagsFit why × (bytes ≡ [])
Says n (entry.Asked side act answer, bytes) = (side.link < n) × (bytes ≡ [])
Says n (entry.Freed side cause moved given, bytes) = (side.link < n) × (bytes ≡ [])
Says n (entry.CloseWrite side, bytes) = (side.link < n) × (bytes ≡ [])
Says n (entry.Close side, bytes) = (side.link < n) × (bytes ≡ [])

-- Wants name a direction

abbrev some : Want → Bool
some w = w.read || w.write

abbrev AllSome : List Want → Type 0
AllSome ws = AllByRecursion (λ w. some w ≡ true) ws

abbrev pub WantsSome : Stage → Type 0
WantsSome (Wanting ws) = AllSome ws
WantsSome (Marking ws marks) = AllSome ws
WantsSome _ = ⊤

filter-some : (ws : List Want) → AllSome (filter some ws)
filter-some [] = tt
filter-some (w ∷ ws) = keep (filter-some ws) (some w) refl
  where
    keep : AllSome (filter some ws) → (b : Bool) → some w ≡ b → AllSome (if b then w ∷ filter some ws else filter some ws)
    keep h true k = (k, h)
    keep h false k = h

module _ (g : Settings) where
  wanted-some : (p : Past) (s : Plain) → AllSome (wanted g p s)
  wanted-some p s = filter-some (map (want_of g p s) (all_sides s))

  put-some : (t : Trace) (s : Plain) (x : Stage) (y : Event) (new : State) → PutKind g t s x y new → Puts g t x s y.0 y.1 new →
      WantsSome x → WantsSome new.stage
  put-some t s x y new (PutKind.turned a b) put h = tt
  put-some t s x y new PutKind.polled put h = subst (λ z. WantsSome z.stage) (sym put.2) (wanted-some (past g t) s)
  put-some t s x y new (PutKind.wanted a) put h = h.1
  put-some t s x y new PutKind.poll_failed put h = tt
  put-some t s x y new (PutKind.readied a) put h = h.1
  put-some t s x y new PutKind.opened put h = tt
  put-some t s x y new (PutKind.checked a) put h = tt
  put-some t s x y new (PutKind.was_read {side = side} {answer = answer} left a b) put h = reading answer
    where
      reading : (answer : ReadAnswer) → WantsSome (after_reading side answer left)
      reading (read.Got n) = tt
      reading read.Ended = tt
      reading read.NotYet = tt
      reading read.Failed = tt
  put-some t s x y new (PutKind.written a b c) put h = tt
  put-some t s x y new (PutKind.fired a) put h = tt
  put-some t s x y new (PutKind.frees a same) put h = tt
  put-some t s x y new (PutKind.asked same k l) put h = tt
  put-some t s x y new PutKind.recorded put h = tt
  put-some t s x y new (PutKind.closed a) put h = tt

  fire-some : (b : Bool) (k : ℕ) (rs : List Reason) → WantsSome (if b then Over (Halt.StoppedBy k) else Dispatching rs)
  fire-some true k rs = tt
  fire-some false k rs = tt

  quiet-some : (t : Trace) (x : Stage) (s : Plain) (new : State) → Quietly g t x s new → WantsSome x → WantsSome new.stage
  quiet-some t (Wanting []) s new h k = subst (λ z. WantsSome z.stage) (sym h) (wanted-some (past g t) s)
  quiet-some t (Marking (w ∷ ws) marks) s new h k = subst (λ z. WantsSome z.stage) (sym h) k.1
  quiet-some t (Marking [] marks) s new h k = subst (λ z. WantsSome z.stage) (sym h) tt
  quiet-some t (Accepting n marks) s new h k = subst (λ z. WantsSome z.stage) (sym h) tt
  quiet-some t (Serving (m ∷ ms)) s new h k = subst (λ z. WantsSome z.stage) (sym h.1) tt
  quiet-some t (Filtering e ms) s new h k = subst (λ z. WantsSome z.stage) (sym h) tt
  quiet-some t (Serving []) s new h k = subst (λ z. WantsSome z.stage) (sym h) tt
  quiet-some t (Dispatching []) s new h k = subst (λ z. WantsSome z.stage) (sym h) tt
  quiet-some t (Passing [] (e ∷ es)) s new (inl h) k = subst (λ z. WantsSome z.stage) (sym h.1) tt
  quiet-some t (Passing [] (e ∷ es)) s new (inr h) k = subst (λ z. WantsSome z.stage) (sym h) tt
  quiet-some t (Passing (x ∷ xs) (e ∷ es)) s new h k = subst (λ z. WantsSome z.stage) (sym h) tt
  quiet-some t (Passing [] []) s new h k = subst (λ z. WantsSome z.stage) (sym h) tt
  quiet-some t (Closing (d ∷ ds)) s new h k = subst (λ z. WantsSome z.stage) (sym h.1) tt
  quiet-some t (Closing []) s new h k = subst (λ z. WantsSome z.stage) (sym h) tt
  quiet-some t (Firing x rs) s new h k = subst (λ z. WantsSome z.stage) (sym h) (fire-some x.stopped x.side.link rs)
  quiet-some t _ s new h k = absurd h

  wants_some : (t : Trace) (s : State) → Reaches g t s → WantsSome s.stage
  wants_some t s Reaches.begins = tt
  wants_some t new (Reaches.goes {t = u} {s = old} r h) = quiet-some u old.stage old.plain new h (wants_some u old r)
  wants_some t new (Reaches.puts {t = u} {s = old} e bytes r h) =
      put-some u old.plain old.stage (e, bytes) new (put-kind g u old.stage old.plain e bytes new (kept g u old r).placed h) h
      (wants_some u old r)

  -- What is put says so

  module _ (t : Trace) (s : Plain) where
    abbrev p : Past
    p = past g t

    within : (o : Option ℕ) (m : ℕ) → at_most o m ≤ m
    within None m = omega arith
    within (Some k) m = omega arith

    read-most : (e : SideId) → read_room g p s e ≤ most_at_once
    read-most e = go (may_read s e)
      where
        m : ℕ
        m = min most_at_once (read_mark s e - input_length g p s e)

        go : (b : Bool) → (if b then within_rates g p s e dir.Read m else 0) ≤ most_at_once
        go true =
            let a = within (share g p s e dir.Read) (at_most (allowance p s e dir.Read) m) in
            let b = within (allowance p s e dir.Read) m in
            omega (arith, a, b)
        go false = omega arith

    write-most : (e : SideId) → write_room g p s e ≤ most_at_once
    write-most e = go (may_write s e)
      where
        m : ℕ
        m = min most_at_once (length (raw_output_at g p s e))

        go : (b : Bool) → (if b then within_rates g p s e dir.Write m else 0) ≤ most_at_once
        go true =
            let a = within (share g p s e dir.Write) (at_most (allowance p s e dir.Write) m) in
            let b = within (allowance p s e dir.Write) m in
            omega (arith, a, b)
        go false = omega arith

    asked-connecting : (m : Want) → call_for g p s m ≡ Call.AskConnect → is_connecting s m.side ≡ true
    asked-connecting m h =
        go (is_connecting s m.side) m.write m.read (nat_le 1 (read_room g p s m.side)) (nat_le 1 (write_room g p s m.side)) h
      where
        go : (a b c d f : Bool) → (if a then (if b then Call.AskConnect else Call.Nothing)
            else (if c then (if d then Call.AskRead (read_room g p s m.side) else Call.Nothing)
            else (if b && f then Call.AskWrite (write_room g p s m.side) else Call.Nothing))) ≡ Call.AskConnect → a ≡ true
        go true b c d f h = refl
        go false b true true f h = absurd (cc)
        go false b true false f h = absurd (cc)
        go false true false d true h = absurd (cc)
        go false true false d false h = absurd (cc)
        go false false false d f h = absurd (cc)

    module _ (bytes : List ℕ) (ins : (e : SideId) → e.side ≡ In → (side_at s e).connecting ≡ false) where
      asked-out : (m : Want) → is_connecting s m.side ≡ true → m.side.side ≡ Out
      asked-out m h = go m.side.side refl
        where
          go : (z : Side) → m.side.side ≡ z → m.side.side ≡ Out
          go Out k = k
          go In k = absurd (
              let none = ins m.side k in
              let both = (and_parts (side_at s m.side).live (side_at s m.side).connecting h).1 in cc)

      abbrev Named : Entry → Type 0
      Named e = (z : SideId) → names z (e, bytes) ≡ true → z.link < g.links

      closed-says : (c : CloseStep) (e : Entry) → ClosedKind g p s c e → Named e → bytes ≡ [] → Says g.links (e, bytes)
      closed-says c e (ClosedKind.faulty {z = z} a b) named none = (named z (same_end-refl z), none)
      closed-says c e (ClosedKind.write_ended {z = z} a b) named none = (named z (same_end-refl z), none)
      closed-says c e (ClosedKind.in_done {k = k} a b d f) named none =
          let z : SideId = record { link = k; side = In } in (named z (same_end-refl z), none)
      closed-says c e (ClosedKind.out_done {k = k}) named none =
          let z : SideId = record { link = k; side = Out } in (named z (same_end-refl z), none)
      closed-says c e (ClosedKind.peer_gone {z = z} a b d) named none = (named z (same_end-refl z), none)
      closed-says c e (ClosedKind.shut {z = z} a b) named none = (named z (same_end-refl z), none)

      put-says : (x : Stage) (e : Entry) (new : State) → Puts g t x s e bytes new → Named e → All (ReasonOf g s) (left_in x) → WantsSome x →
          IsEntry (entry.Poll (poll_timeout g p s)) → Says g.links (e, bytes)
      put-says Between (entry.Turn ms) new h named left want poll = (h.1, h.2)
      put-says Polling (entry.Poll timeout) new h named left want poll = (subst (λ o. IsEntry (entry.Poll o)) (sym h.0) poll, h.1)
      put-says (Wanting (w ∷ ws)) (entry.Want side r d) new h named left want poll =
          (named side (same_end-refl side), sym (ap some h.0) ∙ want.0, h.1)
      put-says (Wanting []) entry.PollFailed new h named left want poll = h.0
      put-says (Marking (w ∷ ws) marks) (entry.Ready side r d) new h named left want poll = (named side (same_end-refl side), h.1.2, h.2)
      put-says (Accepting n marks) (entry.Opened link connected) new h named left want poll = (h.2, h.3)
      put-says (Serving (m ∷ ms)) (entry.Conn side answer) new h named left want poll =
          (named side (same_end-refl side), ap (λ z. z.side) h.0 ∙ asked-out m (asked-connecting m h.1), h.2)
      put-says (Serving (m ∷ ms)) (entry.Read side room answer) new h named left want poll =
          let is = (read-called g p s m room h.1).is_room in
          (named side (same_end-refl side), subst (λ n. n ≤ most_at_once) (sym is) (read-most m.side), h.2)
      put-says (Serving (m ∷ ms)) (entry.Write side offered answer) new h named left want poll =
          let is = (write-called g p s m offered h.1).is_offered in
          (named side (same_end-refl side), subst (λ n. n ≤ most_at_once) (sym is) (write-most m.side), h.2)
      put-says (Dispatching (r ∷ rs)) (entry.Fired side y) new h named left want poll =
          let own = All-head (ReasonOf g s) r rs left in
          (named side (same_end-refl side), subst (λ z. FlagsFit z.1) h.0 own.1, h.2)
      put-says (Firing x rs) (entry.Asked side a answer) new h named left want poll = (named side (same_end-refl side), h.2)
      put-says (Freeing gone x rs) e new h named left want poll =
          subst (λ z. Named z → Says g.links (z, bytes)) (sym h.0) (λ own. (own gone (same_end-refl gone), h.1)) named
      put-says (Closing (c ∷ cs)) e new h named left want poll = closed-says c e (closed-kind g p s c e h.0) named h.1
      put-says _ e new h named left want poll = absurd h

  -- Each entry of a legal trace says so.
  pub all-say : TimeoutsFit g → (t : Trace) → IsLegal g t → (before after : Trace) (y : Event) → t ≡ before ++ y ∷ after →
      Says g.links y
  all-say fit t legal before after y is =
      let k = reaches_split g t legal.0 legal.1 before y after is in
      let c = kept g before k.old k.reached in
      let effect = put-effect g before k.old.stage k.old.plain y.0 y.1 k.new c.counts.shape.sides c.placed k.put in
      put-says before k.old.plain y.1 (in_connected g before k.old k.reached) k.old.stage y.0 k.new k.put
      (λ z n. let lt = effect.named z n in let le = c.counts.links in omega (arith, lt, le))
      (waits_are_hooked g before k.old k.reached).left (wants_some before k.old k.reached) (poll-spelled g fit before k.old k.reached)
