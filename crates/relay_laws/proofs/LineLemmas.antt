-- What each entry of a trace for which a relay stands has fits a line of text.
use Rattle.std.proofs.Common.{◌≡◌, ℕ, suc, ◌+◌, ◌*◌, ◌^◌, ◌%◌, ◌<◌, ◌≤◌, Bool, true, false, ◌==◌, ◌||◌, if◌then◌else◌, List, [], ◌∷◌, ◌++◌}
use Rattle.std.proofs.Common.{length, take, Option, Some, None, refl, sym, ◌∙◌, ap, subst, arith, length-append, inl, inr}
use Rattle.std.specs.Prelude.{All}
use Rattle.std.specs.List.{flat_map}
use Rattle.std.proofs.lemmas.List.{length-take}
use Rattle.std.proofs.lemmas.List.Elements.{All-head, All-take}
use Rattle.ev_types.specs.declared.side.Side.TheVariants.{Out}
use Rattle.ev_types.specs.declared.side.SideId.{SideId}
use Rattle.ev_types.specs.declared.filter.FilterKind.{FilterKind}
use Rattle.ev_types.specs.declared.filter.FilterKind.TheVariants as kind
use Rattle.ev_types.specs.declared.answer.ReadAnswer.{ReadAnswer}
use Rattle.ev_types.specs.declared.answer.ReadAnswer.TheVariants as read
use Rattle.ev_types.specs.declared.answer.WriteAnswer.{WriteAnswer}
use Rattle.ev_types.specs.declared.answer.WriteAnswer.TheVariants as write
use Rattle.ev_types.specs.declared.why.Cause.{Cause}
use Rattle.ev_types.specs.declared.why.Cause.TheVariants as cause
use Rattle.ev_types.specs.declared.entry.Entry.TheVariants as entry
use Rattle.ev_types.specs.Sides.{peer}
use Rattle.ev_types.specs.Trace.{Event, Trace}
use Rattle.script_text.specs.TraceLaws.{IsAct, IsCause, IsEntry}
use Rattle.relay_model.specs.Trace.{told_moved_by, told_given_by, bytes_read, bytes_given}
use Rattle.filter_model.specs.Filter.{is_hex, not_hex_from, or_else, odd_end, filter_of}
use Rattle.relay_model.specs.Flow.{Flow, middle, outcome}
use Rattle.relay_model.specs.Plain.{Plain, flow_at}
use Rattle.relay_model.specs.Rooms.{most_at_once, read_kind, write_kind, read_filter, write_filter}
use Rattle.relay_model.specs.Serve.{CarriesGot, CarriesTook}
use Rattle.relay_model.specs.Stages.{Stage, at}
use Rattle.relay_model.specs.Turn.{IsLegal}
use Rattle.relay_model.specs.Causes.{IsBadPlace, HasCause}
use Rattle.relay_model.proofs.EndLemmas.{same_end-refl}
use Rattle.relay_model.proofs.TraceLemmas.{bytes_read-append}
use Rattle.relay_model.proofs.CauseLemmas.{frees_have_causes}
use Rattle.relay_state.specs.State.{State}
use Rattle.relay_steps.specs.Meaning.{StandsFor}
use Rattle.relay_steps.proofs.EndLemmas.{peer-peer}
use Rattle.relay_steps.proofs.SizeLemmas.{middle-most, outcome-most}
use Rattle.relay_steps.specs.ToFire.{FlagsFit}
use Rattle.relay_laws.specs.Spelling.{AskFits, AsksFit, ReadsFit}
use Rattle.relay_laws.proofs.EventLemmas.{Says}
use Rattle.relay_laws.proofs.ByteLemmas.{IsByte, AllBytes, outcome-bytes, all-at, all-event, all-got, all-took}

-- Bad places

hex-place : (from : ℕ) (xs : List ℕ) (place : ℕ) → not_hex_from from xs ≡ Some place → place ≤ from + length xs
hex-place from [] place h = absurd (cc)
hex-place from (x ∷ xs) place h = go (is_hex x) (λ k. hex-place (from + 1) xs place k) h
  where
    go : (b : Bool) → (not_hex_from (from + 1) xs ≡ Some place → place ≤ from + 1 + length xs) →
        (if b then not_hex_from (from + 1) xs else Some from) ≡ Some place → place ≤ from + suc (length xs)
    go true rest k = let a = rest k in omega (arith, a)
    go false rest k = let same : from ≡ place = cc in omega (arith, same)

odd-place : (xs : List ℕ) (place : ℕ) → odd_end xs ≡ Some place → place ≤ length xs
odd-place xs place h = go (length xs % 2 == 1) h
  where
    go : (b : Bool) → (if b then Some (length xs) else None) ≡ Some place → place ≤ length xs
    go true k = let same : length xs ≡ place = cc in omega (arith, same)
    go false k = absurd (cc)

-- the bad place of an end is within what the filter was given
bad-place : (k : FilterKind) (xs : List ℕ) (place : ℕ) → (filter_of k).bad_at_end xs ≡ Some place → place ≤ length xs
bad-place kind.None xs place h = absurd (cc)
bad-place kind.ToCrlf xs place h = absurd (cc)
bad-place kind.ToLf xs place h = absurd (cc)
bad-place kind.HexOut xs place h = absurd (cc)
bad-place kind.HexIn xs place h = go (not_hex_from 0 xs) refl h
  where
    go : (o : Option ℕ) → not_hex_from 0 xs ≡ o → or_else o (odd_end xs) ≡ Some place → place ≤ length xs
    go (Some p) q k = let a = hex-place 0 xs place (q ∙ k) in omega (arith, a)
    go None q k = odd-place xs place k

-- Each entry

-- What an entry has fits a line of text: links below 2^32, other numbers below 2^64, and beside it exactly the bytes that were got or
-- taken, at least one, or none.
abbrev pub FitsLine : Event → Type 0
FitsLine (entry.Turn ms, bytes) = (ms < 2 ^ 64) × (bytes ≡ [])
FitsLine (entry.Poll timeout, bytes) = IsEntry (entry.Poll timeout) × (bytes ≡ [])
FitsLine (entry.Want side read write, bytes) = (side.link < 2 ^ 32) × ((read || write) ≡ true) × (bytes ≡ [])
FitsLine (entry.Ready side read write, bytes) = (side.link < 2 ^ 32) × ((read || write) ≡ true) × (bytes ≡ [])
FitsLine (entry.PollFailed, bytes) = bytes ≡ []
FitsLine (entry.Opened link connected, bytes) = (link < 2 ^ 32) × (bytes ≡ [])
FitsLine (entry.Conn side answer, bytes) = (side.link < 2 ^ 32) × (side.side ≡ Out) × (bytes ≡ [])
FitsLine (entry.Read side room (read.Got n), bytes) =
    (side.link < 2 ^ 32) × (room < 2 ^ 64) × (length bytes ≡ n) × (1 ≤ n) × All (λ b. b < 256) bytes
FitsLine (entry.Read side room answer, bytes) = (side.link < 2 ^ 32) × (room < 2 ^ 64) × (bytes ≡ [])
FitsLine (entry.Write side offered (write.Took n), bytes) =
    (side.link < 2 ^ 32) × (offered < 2 ^ 64) × (length bytes ≡ n) × (1 ≤ n) × All (λ b. b < 256) bytes
FitsLine (entry.Write side offered write.NoMemory, bytes) = ⊥
FitsLine (entry.Write side offered answer, bytes) = (side.link < 2 ^ 32) × (offered < 2 ^ 64) × (bytes ≡ [])
FitsLine (entry.Fired side why, bytes) = (side.link < 2 ^ 32) × FlagsFit why × (bytes ≡ [])
FitsLine (entry.Asked side act answer, bytes) = (side.link < 2 ^ 32) × IsAct act × (bytes ≡ [])
FitsLine (entry.Freed side why moved given, bytes) =
    (side.link < 2 ^ 32) × IsCause why × (moved < 2 ^ 64) × (given < 2 ^ 64) × (bytes ≡ [])
FitsLine (entry.CloseWrite side, bytes) = (side.link < 2 ^ 32) × (bytes ≡ [])
FitsLine (entry.Close side, bytes) = (side.link < 2 ^ 32) × (bytes ≡ [])

module _ (t : Trace) (x : Stage) (s : State) (k : StandsFor t x s) (few : s.settings.links ≤ 2 ^ 32) (asks : AsksFit t)
    (fit : ReadsFit t) where
  legal : IsLegal s.settings t
  legal = (at x s.plain, k.reached)

  below : (link : ℕ) → link < s.settings.links → link < 2 ^ 32
  below link lt = omega (arith, lt, few)

  -- what was read before is no more than what was read
  read-before : (before after : Trace) (y : Event) → t ≡ before ++ y ∷ after → (e : SideId) → 4 * length (bytes_read e before) + 3 < 2 ^ 64
  read-before before after y is e =
      let all = (fit e).count in
      let parts : length (bytes_read e t) ≡ length (bytes_read e before) + length (bytes_read e (y ∷ after)) =
      ap (λ z. length (bytes_read e z)) is ∙ ap length (bytes_read-append e before (y ∷ after))
      ∙ length-append (bytes_read e before) (bytes_read e (y ∷ after)) in
      omega (arith, all, parts)

  -- no more was moved from a side than its read filter made, and no more given than the write filter made of that
  moved-fits : (e : SideId) → (flow_at s.plain e).moved ≤ 2 * length (bytes_read e t) + 1
  moved-fits e =
      let f : Flow = flow_at s.plain e in
      let a : length (middle (read_filter s.settings s.plain e) (bytes_read e t) f) ≤ 2 * length (bytes_read e t) + 1 =
      middle-most (read_kind s.settings e.side) (bytes_read e t) f in
      let b : f.moved ≤ length (middle (read_filter s.settings s.plain e) (bytes_read e t) f) = (k.accounts e).fits.moved in
      omega (arith, a, b)

  given-fits : (e : SideId) → (flow_at s.plain e).given ≤ 4 * length (bytes_read e t) + 3
  given-fits e =
      let f : Flow = flow_at s.plain e in
      let r = read_filter s.settings s.plain e in
      let w = write_filter s.settings s.plain (peer e) in
      let a : length (outcome r w (bytes_read e t) f) ≤ 2 * f.turned + 1 =
      outcome-most (read_kind s.settings e.side) (write_kind s.settings (peer e).side) (bytes_read e t) f in
      let b : f.given ≤ length (outcome r w (bytes_read e t) f) = (k.accounts e).fits.given in
      let c : f.turned ≤ f.moved = (k.accounts e).fits.turned in
      let d = moved-fits e in
      omega (arith, a, b, c, d)

  -- what was given is what the filters made of what was read
  given-bytes : (e : SideId) → AllBytes (bytes_given (peer e) t)
  given-bytes e =
      let f : Flow = flow_at s.plain e in
      let r = read_filter s.settings s.plain e in
      let w = write_filter s.settings s.plain (peer e) in
      subst AllBytes (sym (k.accounts e).given)
      (All-take IsByte f.given (outcome r w (bytes_read e t) f)
      (outcome-bytes (read_kind s.settings e.side) (write_kind s.settings (peer e).side) (bytes_read e t) f (fit e).each))

  read-fits : (before after : Trace) (e : SideId) (room : ℕ) (answer : ReadAnswer) (bytes : List ℕ) →
      t ≡ before ++ (entry.Read e room answer, bytes) ∷ after →
      (e.link < s.settings.links) × (room ≤ most_at_once) × CarriesGot answer room bytes → FitsLine (entry.Read e room answer, bytes)
  read-fits before after e room (read.Got n) bytes is h =
      let most = h.1 in
      let all = all-got (λ b. b < 256) t before after e room n bytes is (fit e).each in
      (below e.link h.0, omega (arith, most), h.2.0, h.2.1, all)
  read-fits before after e room read.Ended bytes is h = let most = h.1 in (below e.link h.0, omega (arith, most), h.2)
  read-fits before after e room read.NotYet bytes is h = let most = h.1 in (below e.link h.0, omega (arith, most), h.2)
  read-fits before after e room read.Failed bytes is h = let most = h.1 in (below e.link h.0, omega (arith, most), h.2)

  write-fits : (before after : Trace) (e : SideId) (offered : ℕ) (answer : WriteAnswer) (bytes : List ℕ) →
      t ≡ before ++ (entry.Write e offered answer, bytes) ∷ after →
      (e.link < s.settings.links) × (offered ≤ most_at_once) × CarriesTook answer offered bytes →
      FitsLine (entry.Write e offered answer, bytes)
  write-fits before after e offered (write.Took n) bytes is h =
      let most = h.1 in
      let given = subst (λ z. AllBytes (bytes_given z t)) (peer-peer e) (given-bytes (peer e)) in
      let all = all-took (λ b. b < 256) t before after e offered n bytes is given in
      (below e.link h.0, omega (arith, most), h.2.0, h.2.1, all)
  write-fits before after e offered write.NotYet bytes is h = let most = h.1 in (below e.link h.0, omega (arith, most), h.2)
  write-fits before after e offered write.Failed bytes is h = let most = h.1 in (below e.link h.0, omega (arith, most), h.2)
  write-fits before after e offered write.NoMemory bytes is h = absurd h.2

  -- the place in the cause of a free
  place-fits : (before after : Trace) (y : Event) → t ≡ before ++ y ∷ after → (p : Plain) (e : SideId) (place : ℕ) →
      IsBadPlace s.settings before p e place → place < 2 ^ 64
  place-fits before after y is p e place (inl h) =
      let a = bad-place (read_kind s.settings e.side) (bytes_read e before) place h.at_end in
      let b = read-before before after y is e in
      omega (arith, a, b)
  place-fits before after y is p e place (inr h) =
      let read : List ℕ = bytes_read (peer e) before in
      let f : Flow = flow_at p (peer e) in
      let m = middle (read_filter s.settings p (peer e)) read f in
      let a : place ≤ length (take f.moved m) = bad-place (write_kind s.settings e.side) (take f.moved m) place h.at_end in
      let b = length-take f.moved m in
      let c : length m ≤ 2 * length read + 1 = middle-most (read_kind s.settings (peer e).side) read f in
      let d = read-before before after y is (peer e) in
      omega (arith, a, b, c, d)

  cause-fits : (before after : Trace) (y : Event) → t ≡ before ++ y ∷ after → (e : SideId) (why : Cause) →
      HasCause s.settings before e why → IsCause why
  cause-fits before after y is e cause.Done h = tt
  cause-fits before after y is e cause.Failed h = tt
  cause-fits before after y is e cause.PeerGone h = tt
  cause-fits before after y is e cause.Hook h = tt
  cause-fits before after y is e cause.Timeout h = tt
  cause-fits before after y is e (cause.Filter place) h = place-fits before after y is h.0 e place h.4

  freed-fits : (before after : Trace) (e : SideId) (why : Cause) (moved given : ℕ) (bytes : List ℕ) →
      t ≡ before ++ (entry.Freed e why moved given, bytes) ∷ after → (e.link < s.settings.links) × (bytes ≡ []) →
      FitsLine (entry.Freed e why moved given, bytes)
  freed-fits before after e why moved given bytes is h =
      let y : Event = (entry.Freed e why moved given, bytes) in
      let own = k.accounts e in
      let far = k.accounts (peer e) in
      let same = same_end-refl e in
      let Moved : ℕ → Type 0 = λ n. n ≡ (flow_at s.plain e).moved in
      let Given : ℕ → Type 0 = λ n. n ≡ (flow_at s.plain (peer e)).given in
      let told_moved : moved ≡ (flow_at s.plain e).moved =
      All-head Moved moved []
      (subst (λ b. All Moved (if b then moved ∷ [] else [])) same
      (all-event Moved (told_moved_by e) t before y after is own.side_freed)) in
      let peer_freed = subst (λ z. All Given (flat_map (told_given_by z) t)) (peer-peer e) far.peer_freed in
      let told_given : given ≡ (flow_at s.plain (peer e)).given =
      All-head Given given []
      (subst (λ b. All Given (if b then given ∷ [] else [])) same
      (all-event Given (told_given_by e) t before y after is peer_freed)) in
      let a = moved-fits e in
      let b = given-fits (peer e) in
      let c = (fit e).count in
      let d = (fit (peer e)).count in (
        below e.link h.0,
        cause-fits before after y is e why (frees_have_causes s.settings t before after e why moved given bytes legal is),
        omega (arith, told_moved, a, c),
        omega (arith, told_given, b, d),
        h.1,
      )

  pub line-fits : (before after : Trace) (y : Event) → t ≡ before ++ y ∷ after → Says s.settings.links y → FitsLine y
  line-fits before after (entry.Turn ms, bytes) is h = let le = h.0 in (omega (arith, le), h.1)
  line-fits before after (entry.Poll timeout, bytes) is h = h
  line-fits before after (entry.Want side r w, bytes) is h = (below side.link h.0, h.1, h.2)
  line-fits before after (entry.Ready side r w, bytes) is h = (below side.link h.0, h.1, h.2)
  line-fits before after (entry.PollFailed, bytes) is h = h
  line-fits before after (entry.Opened link connected, bytes) is h = (below link h.0, h.1)
  line-fits before after (entry.Conn side answer, bytes) is h = (below side.link h.0, h.1, h.2)
  line-fits before after (entry.Read side room answer, bytes) is h = read-fits before after side room answer bytes is h
  line-fits before after (entry.Write side offered answer, bytes) is h = write-fits before after side offered answer bytes is h
  line-fits before after (entry.Fired side why, bytes) is h = (below side.link h.0, h.1, h.2)
  line-fits before after (entry.Asked side act answer, bytes) is h =
      let y : Event = (entry.Asked side act answer, bytes) in
      (below side.link h.0, all-at AskFits before y after (subst AsksFit is asks), h.1)
  line-fits before after (entry.Freed side why moved given, bytes) is h = freed-fits before after side why moved given bytes is h
  line-fits before after (entry.CloseWrite side, bytes) is h = (below side.link h.0, h.1)
  line-fits before after (entry.Close side, bytes) is h = (below side.link h.0, h.1)
