-- Serving a side, passing a direction and looking at a step of closing keep what the relay stands for.
use Rattle.std.proofs.Common.{◌≡◌, ◌≢◌, inl, inr, ℕ, zero, suc, ◌+◌, ◌<◌, ◌≤◌, Bool, true, false, ◌||◌, if◌then◌else◌, List, [], ◌∷◌, ◌++◌}
use Rattle.std.proofs.Common.{length, map, refl, sym, ◌∙◌, ap, subst, arith, append_assoc, append-nil, length-take-le}
use Rattle.std.specs.Prelude.{nat_lt, MatchBool, Option, Some, None, is_some, option_map}
use Rattle.ev_types.specs.declared.side.SideId.{SideId}
use Rattle.ev_types.specs.declared.answer.ConnAnswer.{ConnAnswer}
use Rattle.ev_types.specs.declared.answer.ReadAnswer.{ReadAnswer}
use Rattle.ev_types.specs.declared.answer.ReadAnswer.TheVariants as read
use Rattle.ev_types.specs.declared.answer.WriteAnswer.{WriteAnswer}
use Rattle.ev_types.specs.declared.answer.WriteAnswer.TheVariants as write
use Rattle.ev_types.specs.declared.entry.Entry.{Entry}
use Rattle.ev_types.specs.declared.entry.Entry.TheVariants as entry
use Rattle.ev_types.specs.declared.why.Cause.TheVariants as cause
use Rattle.token_bucket.specs.declared.limit.Dir.TheVariants as dir
use Rattle.ev_types.specs.Trace.{Trace}
use Rattle.ev_port.specs.declared.port.Want.{Want}
use Rattle.ev_port.specs.Ends.{conn_events, ReadWithin, got_bytes, WriteWithin, took_bytes, write_events}
use Rattle.relay_model.specs.Rooms as rooms
use Rattle.relay_model.specs.Serve.{CarriesGot}
use Rattle.relay_model.specs.Plain.{side_at, is_live, sides_from}
use Rattle.relay_model.specs.Rooms.{is_connecting}
use Rattle.relay_model.specs.Close as model
use Rattle.relay_model.specs.Close.{CloseStep, closing_from, fault, freed_entry, entry_where}
use Rattle.relay_model.specs.Stages.{Stage}
use Rattle.relay_model.specs.Answers.{TurnAnswer, MayLack}
use Rattle.relay_core.specs.declared.close.Closing.{Closing}
use Rattle.relay_core.specs.declared.close.Closing.TheVariants as closing
use Rattle.relay_state.specs.State.{State}
use Rattle.relay_state.specs.Rooms.{read_room, write_room, offer, wants}
use Rattle.relay_state.specs.Closing.{in_side, out_side, closing_entry, closed}
use Rattle.relay_core.specs.Steps.{link_of_step, steps_of, close_step, after_closing, entry_events}
use Rattle.relay_drive.specs.Steps.{Nothing, Then}
use Rattle.relay_drive.specs.Calls.{Checks, Reads, Writes, is_memory}
use Rattle.relay_drive.specs.Phases.{links_from, ReadsSide, WritesSide, ConnectsSide, ReadsWithRoom, ServesSide, CutServing, PassesSide}
use Rattle.relay_drive.specs.Phases.{CutPassing, PassesLink, CutPassingLink, closing_events, Closes, LooksAt, ClosesLink, CutClosingLink}
use Rattle.relay_steps.specs.Meaning.{StandsFor, LeftFor}
use Rattle.relay_steps.proofs.FrameLemmas.{frame-conn, frame-read, frame-write, frame-passed}
use Rattle.relay_steps.proofs.ServeSteps.{mark, one_or_more, conn-stands, waiting-skipped, read-skipped, write-skipped}
use Rattle.relay_steps.proofs.ReadSteps.{read-stands}
use Rattle.relay_steps.proofs.WaitLemmas.{read-waits}
use Rattle.relay_steps.proofs.WriteSteps.{write-stands, offer-length}
use Rattle.relay_steps.proofs.PassSteps.{passed-stands, partly_passed-stands}
use Rattle.relay_steps.proofs.CloseSteps.{closed-stands, not_closed-stands}
use Rattle.relay_steps.proofs.PollSteps.{marks_of}
use Rattle.relay_drive.proofs.MeantFolds.{StandsWith, Each_is, stands-nothing, Keeps, each-keeps, all-keeps, cut-leaves}

-- a want of memory may come while a side is served, while a direction is passed, and before a step of closing
pub left-stands : (n : ℕ) (t : Trace) (x : Stage) (s : State) → MayLack x → StandsWith n t x s → LeftFor TurnAnswer.Memory t s
left-stands n t x s may k = record { stage = x; stands = k.stands; left = may }

-- Serving

abbrev pub IsBelow : ℕ → Want → Type 0
IsBelow n w = w.side.link < n

abbrev pub serving : List Want → Stage
serving ws = Stage.Serving (marks_of ws)

-- the marks that are left of a side, before others
abbrev marks_with : SideId → Bool → Bool → List rooms.Want → List rooms.Want
marks_with e r c ms = if r || c then mark e r c ∷ ms else ms

not-memory : (answer : WriteAnswer) → is_memory answer ≡ false → answer ≢ write.NoMemory
not-memory answer h = λ e. absurd (let k = ap is_memory e in cc)

carries : (answer : ReadAnswer) (into : List ℕ) (room : ℕ) → length into ≡ room → ReadWithin answer (length into) →
    CarriesGot answer room (got_bytes answer into)
carries (read.Got n) into room h within =
    (length-take-le n into within.1, (let a = within.0 in omega arith), (let a = within.1 in omega (arith, h)))
carries read.Ended into room h within = refl
carries read.NotYet into room h within = refl
carries read.Failed into room h within = refl

module _ (n : ℕ) (e : SideId) (ms : List rooms.Want) where
  here : (t : Trace) (x : Stage) (s : State) → e.link < n → StandsWith n t x s → e.link < s.plain.opened
  here t x s lt k = let a = k.opened in omega (arith, a)

  asked : (r : Bool) (t : Trace) (s new : State) (a : Trace) → e.link < n → is_connecting s.plain e ≡ true →
      StandsWith n t (Stage.Serving (mark e r true ∷ ms)) s → (answer : ConnAnswer) →
      Checks e answer s a new → StandsWith n (t ++ a) (Stage.Serving ms) new
  asked r t s new a lt q k answer h =
      let stands = conn-stands t s e r true ms k.stands (here t (Stage.Serving (mark e r true ∷ ms)) s lt k) answer q refl in
      subst (λ z. StandsWith n (t ++ z) (Stage.Serving ms) new) (sym h.entries)
      (subst (StandsWith n (t ++ conn_events e answer) (Stage.Serving ms)) (sym h.state)
      (record { stands = stands; opened = (frame-conn s e answer).opened ∙ k.opened }))

  -- a connecting side
  connects : (r c : Bool) (t : Trace) (s new : State) (a : Trace) → e.link < n → is_connecting s.plain e ≡ true →
      StandsWith n t (Stage.Serving (marks_with e r c ms)) s →
      ConnectsSide e c s a new → StandsWith n (t ++ a) (Stage.Serving ms) new
  connects true true t s new a lt q k h = asked true t s new a lt q k h.0 h.1
  connects false true t s new a lt q k h = asked false t s new a lt q k h.0 h.1
  connects true false t s new a lt q k h =
      stands-nothing n t (Stage.Serving ms) s new a
      (record {
        stands = waiting-skipped t s e true false ms k.stands (here t (Stage.Serving (mark e true false ∷ ms)) s lt k)
            q refl;
        opened = k.opened;
      }) h
  connects false false t s new a lt q k h = stands-nothing n t (Stage.Serving ms) s new a k h

  -- what is left of a side behind its read
  abbrev ReadDone : Bool → Trace → State → Type 0
  ReadDone c t s = StandsWith n t (Stage.Serving (marks_with e false c ms)) s × (is_connecting s.plain e ≡ false)

  -- a mark for reading alone is done with where the read is
  drop-mark : (c : Bool) (t : Trace) (s : State) → e.link < n → is_connecting s.plain e ≡ false →
      StandsWith n t (Stage.Serving (mark e false c ∷ ms)) s → ReadDone c t s
  drop-mark true t s lt q k = (k, q)
  drop-mark false t s lt q k = (
    record {
      stands = write-skipped t s e false false ms k.stands (here t (Stage.Serving (mark e false false ∷ ms)) s lt k) q
          refl refl;
      opened = k.opened;
    },
    q,
  )

  reads-marked : (c : Bool) (t : Trace) (s new : State) (a : Trace) → e.link < n → is_connecting s.plain e ≡ false →
      StandsWith n t (Stage.Serving (mark e true c ∷ ms)) s →
      (b : Bool) → wants s e dir.Read ≡ b → MatchBool b (ReadsWithRoom e s a new) (Nothing s a new) → ReadDone c (t ++ a) new
  reads-marked c t s new a lt q k true some h =
      let answer = h.0 in
      let into = h.1 in
      let inside = here t (Stage.Serving (mark e true c ∷ ms)) s lt k in
      let r : Reads e answer into s a new = h.3 in
      let bytes : List ℕ = got_bytes answer into in
      let stands = read-stands t s e true c ms k.stands inside q refl (sym (one_or_more (read_room s e)) ∙ some) answer bytes
      (carries answer into (read_room s e) h.2 r.within) in
      let same : (t ++ (entry.Read e (read_room s e) answer, bytes) ∷ []) ≡ t ++ a =
      ap (λ m. t ++ (entry.Read e m answer, bytes) ∷ []) (sym h.2) ∙ ap (λ z. t ++ z) (sym r.entries) in
      let after : StandsWith n (t ++ a) (Stage.Serving (mark e false c ∷ ms)) new =
      subst (λ z. StandsWith n z (Stage.Serving (mark e false c ∷ ms)) new) same
      (subst (StandsWith n (t ++ (entry.Read e (read_room s e) answer, bytes) ∷ []) (Stage.Serving (mark e false c ∷ ms))) (sym r.state)
      (record {
        stands = stands;
        opened = (frame-read s e answer bytes).opened ∙ k.opened;
      })) in
      drop-mark c (t ++ a) new lt
      (ap (λ z. is_connecting z.plain e) r.state ∙ read-waits s e answer bytes ∙ q) after
  reads-marked c t s new a lt q k false none h =
      let after = stands-nothing n t (Stage.Serving (mark e false c ∷ ms)) s new a
      (record {
        stands = read-skipped t s e true c ms k.stands (here t (Stage.Serving (mark e true c ∷ ms)) s lt k) q refl
            (sym (one_or_more (read_room s e)) ∙ none);
        opened = k.opened;
      }) h in
      drop-mark c (t ++ a) new lt (ap (λ z. is_connecting z.plain e) h.1 ∙ q) after

  reads : (r c : Bool) (t : Trace) (s new : State) (a : Trace) → e.link < n → is_connecting s.plain e ≡ false →
      StandsWith n t (Stage.Serving (marks_with e r c ms)) s →
      ReadsSide e r s a new → ReadDone c (t ++ a) new
  reads true c t s new a lt q k h = reads-marked c t s new a lt q k (wants s e dir.Read) refl h
  reads false c t s new a lt q k h =
      (stands-nothing n t (Stage.Serving (marks_with e false c ms)) s new a k h, ap (λ z. is_connecting z.plain e) h.1 ∙ q)

  writes-marked : (t : Trace) (s new : State) (a : Trace) → e.link < n → is_connecting s.plain e ≡ false →
      StandsWith n t (Stage.Serving (mark e false true ∷ ms)) s →
      (b : Bool) → nat_lt 0 (write_room s e) ≡ b →
      MatchBool b ((answer : WriteAnswer) × Writes e answer s a new) (Nothing s a new) → StandsWith n (t ++ a) (Stage.Serving ms) new
  writes-marked t s new a lt q k true some h =
      let answer = h.0 in
      let w : Writes e answer s a new = h.1 in
      let inside = here t (Stage.Serving (mark e false true ∷ ms)) s lt k in
      let many = offer-length s e in
      let stands = write-stands t s e true ms k.stands inside q refl some answer (subst (WriteWithin answer) many w.within)
      (not-memory answer w.done) in
      let same : (t ++ (entry.Write e (write_room s e) answer, took_bytes answer (offer s e)) ∷ []) ≡ t ++ a =
      ap (λ m. t ++ (entry.Write e m answer, took_bytes answer (offer s e)) ∷ []) (sym many)
      ∙ ap (λ z. t ++ z) (events answer (not-memory answer w.done) ∙ sym w.entries) in
      subst (λ z. StandsWith n z (Stage.Serving ms) new) same
      (subst (StandsWith n (t ++ (entry.Write e (write_room s e) answer, took_bytes answer (offer s e)) ∷ []) (Stage.Serving ms))
      (sym w.state)
      (record {
        stands = stands;
        opened = (frame-write s e answer).opened ∙ k.opened;
      }))
    where
      events : (answer : WriteAnswer) → answer ≢ write.NoMemory →
          (entry.Write e (length (offer s e)) answer, took_bytes answer (offer s e)) ∷ [] ≡ write_events e (offer s e) answer
      events (write.Took m) done = refl
      events write.NotYet done = refl
      events write.Failed done = refl
      events write.NoMemory done = absurd (done refl)
  writes-marked t s new a lt q k false none h =
      stands-nothing n t (Stage.Serving ms) s new a
      (record {
        stands = write-skipped t s e false true ms k.stands (here t (Stage.Serving (mark e false true ∷ ms)) s lt k) q
            refl none;
        opened = k.opened;
      }) h

  writes : (c : Bool) (t : Trace) (s new : State) (a : Trace) → e.link < n → is_connecting s.plain e ≡ false →
      StandsWith n t (Stage.Serving (marks_with e false c ms)) s →
      WritesSide e c s a new → StandsWith n (t ++ a) (Stage.Serving ms) new
  writes true t s new a lt q k h = writes-marked t s new a lt q k (nat_lt 0 (write_room s e)) refl h
  writes false t s new a lt q k h = stands-nothing n t (Stage.Serving ms) s new a k h

  serves : (r c : Bool) (t : Trace) (s new : State) (a : Trace) → e.link < n → StandsWith n t (Stage.Serving (marks_with e r c ms)) s →
      (b : Bool) → is_connecting s.plain e ≡ b →
      MatchBool b (ConnectsSide e c s a new) (Then (ReadsSide e r) (WritesSide e c) s a new) →
      StandsWith n (t ++ a) (Stage.Serving ms) new
  serves r c t s new a lt k true q h = connects r c t s new a lt q k h
  serves r c t s new a lt k false q h =
      let read = reads r c t s h.middle h.front lt q k h.first in
      subst (λ z. StandsWith n z (Stage.Serving ms) new) (append_assoc t h.front h.back ∙ ap (λ z. t ++ z) (sym h.joined))
      (writes c (t ++ h.front) h.middle new h.back lt read.1 read.0 h.second)

pub serving-keeps : (n : ℕ) → Keeps n (IsBelow n) serving ServesSide
serving-keeps n w ws t s new a lt k h = serves n w.side (marks_of ws) w.can_read w.can_write t s new a lt k
    (is_connecting s.plain w.side) refl h

pub serving-cut : (n : ℕ) (w : Want) (ws : List Want) (t : Trace) (s new : State) (a : Trace) → IsBelow n w →
    StandsWith n t (serving (w ∷ ws)) s → CutServing w s a new → LeftFor TurnAnswer.Memory (t ++ a) new
serving-cut n w ws t s new a lt k (inl h) =
    left-stands n (t ++ a) (serving (w ∷ ws)) new tt (stands-nothing n t (serving (w ∷ ws)) s new a k h)
serving-cut n w ws t s new a lt k (inr h) =
    left-stands n (t ++ a) (Stage.Serving (marks_with w.side false w.can_write (marks_of ws))) new tt
    (reads n w.side (marks_of ws) w.can_read w.can_write t s new a lt h.0 k h.1).0

-- Passing

abbrev pub is_below : ℕ → SideId → Type 0
is_below n e = e.link < n

abbrev pub passing : List SideId → Stage
passing es = Stage.Passing [] es

pub passing-keeps : (n : ℕ) → Keeps n (is_below n) passing PassesSide
passing-keeps n e es t s new a lt k h =
    let stands = passed-stands t e es s new (let b = k.opened in omega (arith, b)) k.stands h.1 in
    subst (λ z. StandsWith n z (passing es) new) (sym (ap (λ b. t ++ b) h.0 ∙ append-nil t))
    (record { stands = stands; opened = (frame-passed s e new h.1).opened ∙ k.opened })

pub passing-cut : (n : ℕ) (e : SideId) (es : List SideId) (t : Trace) (s new : State) (a : Trace) → is_below n e →
    StandsWith n t (passing (e ∷ es)) s → CutPassing e s a new → LeftFor TurnAnswer.Memory (t ++ a) new
passing-cut n e es t s new a lt k h =
    let stands = partly_passed-stands t e es s new (let b = k.opened in omega (arith, b)) k.stands h.1 in
    subst (λ z. LeftFor TurnAnswer.Memory z new) (sym (ap (λ b. t ++ b) h.0 ∙ append-nil t))
    (record { stage = passing (e ∷ es); stands = stands; left = tt })

-- the sides of some links
abbrev pub sides_of : List ℕ → List SideId
sides_of [] = []
sides_of (k ∷ ks) = in_side k ∷ out_side k ∷ sides_of ks

pub sides_of-links : (k n : ℕ) → sides_of (links_from k n) ≡ sides_from k n
sides_of-links k zero = refl
sides_of-links k (suc n) = ap (λ z. in_side k ∷ out_side k ∷ z) (sides_of-links (k + 1) n)

abbrev pub link_below : ℕ → ℕ → Type 0
link_below n k = k < n

pub links-below : (k m n : ℕ) → k + m ≤ n → Each_is (link_below n) (links_from k m)
links-below k zero n h = tt
links-below k (suc m) n h = (omega (arith, h), links-below (k + 1) m n (omega (arith, h)))

abbrev pub passing_links : List ℕ → Stage
passing_links ks = passing (sides_of ks)

pub passing_links-keep : (n : ℕ) → Keeps n (link_below n) passing_links PassesLink
passing_links-keep n k ks t s new a lt w h =
    each-keeps n (is_below n) passing PassesSide (passing-keeps n) (in_side k ∷ out_side k ∷ []) (sides_of ks) t s new a (lt, (lt, tt)) w h

pub passing_links-cut : (n : ℕ) (k : ℕ) (ks : List ℕ) (t : Trace) (s new : State) (a : Trace) → link_below n k →
    StandsWith n t (passing_links (k ∷ ks)) s → CutPassingLink k s a new →
    LeftFor TurnAnswer.Memory (t ++ a) new
passing_links-cut n k ks t s new a lt w h =
    cut-leaves n (is_below n) (λ es. passing (es ++ sides_of ks)) PassesSide
    (λ e es u s' new' a' b w' h'. passing-keeps n e (es ++ sides_of ks) u s' new' a' b w' h')
    CutPassing (LeftFor TurnAnswer.Memory)
    (λ e es u s' new' a' b w' h'. passing-cut n e (es ++ sides_of ks) u s' new' a' b w' h')
    (in_side k ∷ out_side k ∷ []) t s new a (lt, (lt, tt)) w h

-- Closing

closing-opened : (s : State) (c : Closing) → (after_closing s c).plain.opened ≡ s.plain.opened
closing-opened s (closing.Faulty e) = refl
closing-opened s (closing.EndWriting e) = refl
closing-opened s (closing.BothDone k) = refl
closing-opened s (closing.PeerGone e) = refl
closing-opened s (closing.Shut e) = refl

none_where : (o : Option Entry) → is_some o ≡ false → o ≡ None
none_where None h = refl
none_where (Some y) h = absurd (cc)

where_some : (b : Bool) (y : Entry) → is_some (entry_where b y) ≡ true → entry_where b y ≡ Some y
where_some true y h = refl
where_some false y h = absurd (cc)

-- what is put of a faulty side that lives
faulty-entry : (live : Bool) (o : Option Entry) → is_some (if live then o else None) ≡ true →
    (y : Entry) × ((if live then o else None) ≡ Some y) × (entry_events o ≡ (y, []) ∷ [])
faulty-entry true (Some y) h = (y, refl, refl)
faulty-entry true None h = absurd (cc)
faulty-entry false o h = absurd (cc)

-- a step that is called for
called-stands : (t : Trace) (s : State) (cs : List CloseStep) (c : Closing) → link_of_step c < s.plain.opened →
    StandsFor t (Stage.Closing (close_step c ∷ cs)) s → is_some (closing_entry s (close_step c)) ≡ true →
    StandsFor (t ++ closing_events s c) (Stage.Closing cs) (after_closing s c)
called-stands t s cs (closing.Faulty e) lt k called =
    let f = faulty-entry (is_live s.plain e) (option_map (freed_entry s.plain e) (fault (side_at s.plain e))) called in
    subst (λ z. StandsFor (t ++ z) (Stage.Closing cs) (closed (CloseStep.Faulty e) s)) (sym f.2)
    (closed-stands t s (CloseStep.Faulty e) cs f.0 lt k f.1)
called-stands t s cs (closing.EndWriting e) lt k called =
    closed-stands t s (CloseStep.EndWriting e) cs (entry.CloseWrite e) lt k (where_some _ (entry.CloseWrite e) called)
called-stands t s cs (closing.BothDone l) lt k called =
    let i : SideId = in_side l in
    let o : SideId = out_side l in
    let first = closed-stands t s (CloseStep.BothDone l) cs (freed_entry s.plain i cause.Done) lt k
    (where_some _ (freed_entry s.plain i cause.Done) called) in
    let second = closed-stands (t ++ (freed_entry s.plain i cause.Done, []) ∷ []) (closed (CloseStep.BothDone l) s) (CloseStep.OutDone l) cs
    (freed_entry s.plain o cause.Done) lt first refl in
    subst (λ z. StandsFor z (Stage.Closing cs) (after_closing s (closing.BothDone l)))
    (append_assoc t ((freed_entry s.plain i cause.Done, []) ∷ []) ((freed_entry s.plain o cause.Done, []) ∷ [])) second
called-stands t s cs (closing.PeerGone e) lt k called =
    closed-stands t s (CloseStep.PeerGone e) cs (freed_entry s.plain e cause.PeerGone) lt k
    (where_some _ (freed_entry s.plain e cause.PeerGone) called)
called-stands t s cs (closing.Shut e) lt k called =
    closed-stands t s (CloseStep.Shut e) cs (entry.Close e) lt k (where_some _ (entry.Close e) called)

-- and one that is not
not_called-stands : (t : Trace) (s : State) (cs : List CloseStep) (c : Closing) → link_of_step c < s.plain.opened →
    StandsFor t (Stage.Closing (close_step c ∷ cs)) s → is_some (closing_entry s (close_step c)) ≡ false → StandsFor t (Stage.Closing cs) s
not_called-stands t s cs (closing.Faulty e) lt k off = not_closed-stands t s (CloseStep.Faulty e) cs lt k (none_where _ off)
not_called-stands t s cs (closing.EndWriting e) lt k off = not_closed-stands t s (CloseStep.EndWriting e) cs lt k (none_where _ off)
not_called-stands t s cs (closing.BothDone l) lt k off = not_closed-stands t s (CloseStep.BothDone l) cs lt k (none_where _ off)
not_called-stands t s cs (closing.PeerGone e) lt k off = not_closed-stands t s (CloseStep.PeerGone e) cs lt k (none_where _ off)
not_called-stands t s cs (closing.Shut e) lt k off = not_closed-stands t s (CloseStep.Shut e) cs lt k (none_where _ off)

abbrev pub step_below : ℕ → Closing → Type 0
step_below n c = link_of_step c < n

-- some steps of a link, before those of others
abbrev pub closing_then : List CloseStep → List Closing → Stage
closing_then rest cs = Stage.Closing (map close_step cs ++ rest)

pub closing-keeps : (n : ℕ) (rest : List CloseStep) → Keeps n (step_below n) (closing_then rest) LooksAt
closing-keeps n rest c cs t s new a lt k h = by_call (is_some (closing_entry s (close_step c))) refl h
  where
    inside : link_of_step c < s.plain.opened
    inside = let b = k.opened in omega (arith, b)

    by_call : (b : Bool) → is_some (closing_entry s (close_step c)) ≡ b → MatchBool b (Closes c s a new) (Nothing s a new) →
        StandsWith n (t ++ a) (closing_then rest cs) new
    by_call true called w =
        let stands = called-stands t s (map close_step cs ++ rest) c inside k.stands called in
        subst (λ z. StandsWith n (t ++ z) (closing_then rest cs) new) (sym w.entries)
        (subst (StandsWith n (t ++ closing_events s c) (closing_then rest cs)) (sym w.state)
        (record { stands = stands; opened = closing-opened s c ∙ k.opened }))
    by_call false off w =
        stands-nothing n t (closing_then rest cs) s new a
        (record { stands = not_called-stands t s (map close_step cs ++ rest) c inside k.stands off; opened = k.opened }) w

may-lack : (c : Closing) (cs : List CloseStep) → MayLack (Stage.Closing (close_step c ∷ cs))
may-lack (closing.Faulty e) cs = tt
may-lack (closing.EndWriting e) cs = tt
may-lack (closing.BothDone k) cs = tt
may-lack (closing.PeerGone e) cs = tt
may-lack (closing.Shut e) cs = tt

pub closing-cut : (n : ℕ) (rest : List CloseStep) (c : Closing) (cs : List Closing) (t : Trace) (s new : State) (a : Trace) →
    step_below n c → StandsWith n t (closing_then rest (c ∷ cs)) s →
    Nothing s a new → LeftFor TurnAnswer.Memory (t ++ a) new
closing-cut n rest c cs t s new a lt k h =
    left-stands n (t ++ a) (closing_then rest (c ∷ cs)) new (may-lack c (map close_step cs ++ rest))
    (stands-nothing n t (closing_then rest (c ∷ cs)) s new a k h)

-- the steps of some links
abbrev pub model_steps : List ℕ → List CloseStep
model_steps [] = []
model_steps (k ∷ ks) = model.closing_of k ++ model_steps ks

pub model_steps-links : (k n : ℕ) → model_steps (links_from k n) ≡ closing_from k n
model_steps-links k zero = refl
model_steps-links k (suc n) = ap (λ z. model.closing_of k ++ z) (model_steps-links (k + 1) n)

abbrev pub closing_links : List ℕ → Stage
closing_links ks = Stage.Closing (model_steps ks)

pub closing_links-keep : (n : ℕ) → Keeps n (link_below n) closing_links ClosesLink
closing_links-keep n k ks t s new a lt w h =
    all-keeps n (step_below n) (closing_then (model_steps ks)) LooksAt (closing-keeps n (model_steps ks)) (steps_of k) t s new a
    (lt, (lt, (lt, (lt, (lt, (lt, (lt, (lt, (lt, tt))))))))) w h

pub closing_links-cut : (n : ℕ) (k : ℕ) (ks : List ℕ) (t : Trace) (s new : State) (a : Trace) → link_below n k →
    StandsWith n t (closing_links (k ∷ ks)) s → CutClosingLink k s a new →
    LeftFor TurnAnswer.Memory (t ++ a) new
closing_links-cut n k ks t s new a lt w h =
    cut-leaves n (step_below n) (closing_then (model_steps ks)) LooksAt (closing-keeps n (model_steps ks)) (λ _. Nothing)
    (LeftFor TurnAnswer.Memory)
    (closing-cut n (model_steps ks)) (steps_of k) t s new a (lt, (lt, (lt, (lt, (lt, (lt, (lt, (lt, (lt, tt))))))))) w h
