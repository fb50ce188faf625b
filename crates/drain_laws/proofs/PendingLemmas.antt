-- What a script brings in and what a run reads of it, summed over all sides of the script's links.
use Rattle.std.proofs.Common.{◌≡◌, ℕ, ◌+◌, ◌<◌, ◌≤◌, Bool, true, false, if◌then◌else◌, List, [], ◌∷◌, ◌++◌, length, take, drop}
use Rattle.std.proofs.Common.{refl, sym, ◌∙◌, ap, arith, length-append, take-append-drop, take_all}
use Rattle.std.specs.Prelude.{sum_by}
use Rattle.std.specs.List.{flat_map}
use Rattle.std.proofs.lemmas.Grind.{flat_map-append}
use Rattle.std.proofs.lemmas.List.Sums.{sum_by-cons, sum_by_push, sum_by-le-sum_by}
use Rattle.ev_types.specs.declared.side.SideId.{SideId}
use Rattle.ev_types.specs.declared.answer.ReadAnswer.{ReadAnswer}
use Rattle.ev_types.specs.declared.answer.ReadAnswer.TheVariants as read
use Rattle.ev_types.specs.declared.entry.Entry.{Entry}
use Rattle.ev_types.specs.declared.entry.Entry.TheVariants as entry
use Rattle.ev_types.specs.declared.turn_line.TurnLine.{TurnLine}
use Rattle.ev_types.specs.declared.turn_line.TurnLine.TheVariants as line
use Rattle.ev_types.specs.ScriptTurn.{ScriptTurn, lines_of}
use Rattle.ev_types.specs.Sides.{same_end}
use Rattle.ev_types.specs.Trace.{Event, Trace}
use Rattle.relay_model.specs.Trace.{bytes_read, read_by}
use Rattle.relay_model.specs.Settings.{Settings}
use Rattle.relay_model.specs.Plain.{Plain, sides_from}
use Rattle.relay_model.specs.Past.{Past, past}
use Rattle.relay_model.specs.Serve.{CarriesGot}
use Rattle.relay_model.specs.Close.{CloseStep}
use Rattle.relay_model.specs.Stages.{Stage, State}
use Rattle.relay_model.specs.Turn.{Reaches}
use Rattle.relay_model.specs.Totals.{is_opened}
use Rattle.relay_model.specs.Told.{names}
use Rattle.relay_model.specs.Lines.{links_by, brings}
use Rattle.relay_model.specs.Called.{NamesOpened}
use Rattle.relay_model.specs.Scripted.{begun, lines, pending}
use Rattle.relay_model.specs.Plays.{IsAnswered}
use Rattle.relay_model.specs.ClosingTurns.{scripted_links, brought_count, got_count}
use Rattle.relay_model.proofs.EndLemmas.{same_end-refl}
use Rattle.relay_model.proofs.StepLemmas.{put-effect}
use Rattle.relay_model.proofs.KindLemmas.{ClosedKind, closed-kind, PutKind, put-kind}
use Rattle.relay_model.proofs.ToldLemmas.{kept}
use Rattle.relay_model.proofs.PlayedReads.{reads_what_comes}
use Rattle.relay_model.proofs.FineCalls.{opens-as-scripted}
use Rattle.drain_laws.specs.DrainBound.{UnreadIsPending}
use Rattle.drain_laws.proofs.SumLemmas.{zeros, sum-same, sum-both, exchange, one-side, at_side}

length-if : (b : Bool) (xs : List ℕ) (n : ℕ) → length xs ≡ n → length (if b then xs else []) ≡ (if b then n else 0)
length-if true xs n h = h
length-if false xs n h = refl

-- What a script brings in

abbrev brought_by : ℕ → TurnLine → ℕ
brought_by n l = sum_by (λ e. length (brings e l)) (sides_from 0 n)

add-line : (n : ℕ) (l : TurnLine) (ls : List TurnLine) → brought_by n l ≡ brought_count l →
    sum_by (brought_by n) ls ≡ sum_by brought_count ls → sum_by (brought_by n) (l ∷ ls) ≡ sum_by brought_count (l ∷ ls)
add-line n l ls one rest =
    let a = sum_by-cons (brought_by n) l ls in
    let b = sum_by-cons brought_count l ls in
    omega (arith, a, b, one, rest)

-- where each line names a link that was opened before it, all that it brings in comes at one of the first links' sides
brought-all : (n : ℕ) (ls : List TurnLine) (k : ℕ) → NamesOpened k ls → k + length (flat_map links_by ls) ≤ n →
    sum_by (brought_by n) ls ≡ sum_by brought_count ls
brought-all n [] k h le = refl
brought-all n (line.NewLink wait ∷ ls) k h le =
    let size = length-append (wait ∷ []) (flat_map links_by ls) in
    add-line n (line.NewLink wait) ls (zeros (sides_from 0 n)) (brought-all n ls (k + 1) h (omega (arith, size, le)))
brought-all n (line.Conn link connected ∷ ls) k h le =
    add-line n (line.Conn link connected) ls (zeros (sides_from 0 n)) (brought-all n ls k h.1 le)
brought-all n (line.Pending side bytes ∷ ls) k h le =
    add-line n (line.Pending side bytes) ls
    (sum-same (λ e. length (brings e (line.Pending side bytes))) (at_side side (length bytes))
    (λ e. length-if (same_end side e) bytes (length bytes) refl) (sides_from 0 n)
    ∙ one-side side (length bytes) 0 n (omega arith) (let here = h.0 in omega (arith, here, le))) (brought-all n ls k h.1 le)
brought-all n (line.Eof side ∷ ls) k h le = add-line n (line.Eof side) ls (zeros (sides_from 0 n)) (brought-all n ls k h.1 le)
brought-all n (line.ReadFail side ∷ ls) k h le =
    add-line n (line.ReadFail side) ls (zeros (sides_from 0 n)) (brought-all n ls k h.1 le)
brought-all n (line.Take side more ∷ ls) k h le =
    add-line n (line.Take side more) ls (zeros (sides_from 0 n)) (brought-all n ls k h.1 le)
brought-all n (line.WriteFail side ∷ ls) k h le =
    add-line n (line.WriteFail side) ls (zeros (sides_from 0 n)) (brought-all n ls k h.1 le)
brought-all n (line.Spur side ∷ ls) k h le = add-line n (line.Spur side) ls (zeros (sides_from 0 n)) (brought-all n ls k h.1 le)
brought-all n (line.PollFail ∷ ls) k h le = add-line n line.PollFail ls (zeros (sides_from 0 n)) (brought-all n ls k h le)

pub brought-total : (turns : List ScriptTurn) → NamesOpened 0 (lines_of turns) →
    sum_by (λ e. length (flat_map (brings e) (lines_of turns))) (sides_from 0 (length (scripted_links turns)))
    ≡ sum_by brought_count (lines_of turns)
brought-total turns names =
    exchange brings (sides_from 0 (length (scripted_links turns))) (lines_of turns)
    ∙ brought-all (length (scripted_links turns)) (lines_of turns) 0 names (omega arith)

-- What a run reads

module _ (n : ℕ) where
  abbrev read_count : Event → ℕ
  read_count y = sum_by (λ e. length (read_by e y)) (sides_from 0 n)

  none-read : sum_by (λ (e : SideId). 0) (sides_from 0 n) ≡ 0
  none-read = zeros (sides_from 0 n)

  got-counted : (side : SideId) (room : ℕ) (answer : ReadAnswer) (bytes : List ℕ) → side.link < n → CarriesGot answer room bytes →
      read_count (entry.Read side room answer, bytes) ≡ got_count (entry.Read side room answer, bytes)
  got-counted side room (read.Got m) bytes lt c =
      sum-same (λ e. length (read_by e (entry.Read side room (read.Got m), bytes))) (at_side side m)
      (λ e. length-if (same_end side e) bytes m c.0) (sides_from 0 n) ∙ one-side side m 0 n (omega arith) (omega (arith, lt))
  got-counted side room read.Ended bytes lt c = none-read
  got-counted side room read.NotYet bytes lt c = none-read
  got-counted side room read.Failed bytes lt c = none-read

  closed-counted : (g : Settings) (p : Past) (s : Plain) (c : CloseStep) (e : Entry) → ClosedKind g p s c e →
      read_count (e, []) ≡ got_count (e, [])
  closed-counted g p s c e (ClosedKind.faulty a b) = none-read
  closed-counted g p s c e (ClosedKind.write_ended a b) = none-read
  closed-counted g p s c e (ClosedKind.in_done a b d f) = none-read
  closed-counted g p s c e ClosedKind.out_done = none-read
  closed-counted g p s c e (ClosedKind.peer_gone a b d) = none-read
  closed-counted g p s c e (ClosedKind.shut a b) = none-read

  put-counted : (g : Settings) (t : Trace) (s : Plain) (x : Stage) (y : Event) (new : State) → PutKind g t s x y new →
      ((e : SideId) → names e y ≡ true → e.link < n) → read_count y ≡ got_count y
  put-counted g t s x y new (PutKind.turned a b) h = none-read
  put-counted g t s x y new PutKind.polled h = none-read
  put-counted g t s x y new (PutKind.wanted a) h = none-read
  put-counted g t s x y new PutKind.poll_failed h = none-read
  put-counted g t s x y new (PutKind.readied a) h = none-read
  put-counted g t s x y new PutKind.opened h = none-read
  put-counted g t s x y new (PutKind.checked a) h = none-read
  put-counted g t s x y new (PutKind.was_read {side = side} {room = room} {answer = answer} {bytes = bytes} left a b) h =
      got-counted side room answer bytes (h side (same_end-refl side)) b
  put-counted g t s x y new (PutKind.written a b c) h = none-read
  put-counted g t s x y new (PutKind.fired a) h = none-read
  put-counted g t s x y new (PutKind.frees a same) h = none-read
  put-counted g t s x y new (PutKind.asked same k l) h = none-read
  put-counted g t s x y new PutKind.recorded h = none-read
  put-counted g t s x y new (PutKind.closed {c = c} {e = e} a) h = closed-counted g (past g t) s c e (closed-kind g (past g t) s c e a)

  all-counted : (g : Settings) (t : Trace) (s : State) → Reaches g t s → s.plain.opened ≤ n → sum_by read_count t ≡ sum_by got_count t
  all-counted g t s Reaches.begins le = refl
  all-counted g t new (Reaches.goes {t = u} {s = old} r h) le =
      let was = (kept g u old r).counts.shape.opened in
      let is = (kept g u new (Reaches.goes {s = old} r h)).counts.shape.opened in
      all-counted g u old r (omega (arith, was, is, le))
  all-counted g t new (Reaches.puts {t = u} {s = old} e bytes r h) le =
      let c = kept g u old r in
      let effect = put-effect g u old.stage old.plain e bytes new c.counts.shape.sides c.placed h in
      let was = c.counts.shape.opened in
      let is = (kept g (u ++ (e, bytes) ∷ []) new (Reaches.puts {s = old} e bytes r h)).counts.shape.opened in
      let more = sum_by_push (λ v. if is_opened v then 1 else 0) u (e, bytes) in
      let before : old.plain.opened ≤ n = omega (arith, was, is, more, le) in
      let one = put-counted g u old.plain old.stage (e, bytes) new (put-kind g u old.stage old.plain e bytes new c.placed h)
      (λ z named. let lt = effect.named z named in omega (arith, lt, before)) in
      let rest = all-counted g u old r before in
      let a = sum_by_push read_count u (e, bytes) in
      let b = sum_by_push got_count u (e, bytes) in
      omega (arith, one, rest, a, b)

-- all that a run reads, at the sides of so many links as it opened or more
pub read-total : (g : Settings) (t : Trace) (s : State) (n : ℕ) → Reaches g t s → s.plain.opened ≤ n →
    sum_by (λ e. length (bytes_read e t)) (sides_from 0 n) ≡ sum_by got_count t
read-total g t s n r le = exchange read_by (sides_from 0 n) t ∙ all-counted n g t s r le

-- Lines so far

abbrev pub lines_later : List ScriptTurn → Trace → List TurnLine
lines_later turns t = flat_map (λ turn. turn.1) (drop (begun turns t) turns)

pub lines-split : (turns : List ScriptTurn) (t : Trace) → lines_of turns ≡ lines turns t ++ lines_later turns t
lines-split turns t =
    ap (λ z. flat_map (λ turn. turn.1) z) (sym (take-append-drop (begun turns t) turns))
    ∙ flat_map-append (λ turn. turn.1) (take (begun turns t) turns) (drop (begun turns t) turns)

pub lines-whole : (turns : List ScriptTurn) (t : Trace) → length turns ≤ begun turns t → lines turns t ≡ lines_of turns
lines-whole turns t all = ap (λ z. flat_map (λ turn. turn.1) z) (take_all (begun turns t) turns all)

-- Read and pending

module _ (turns : List ScriptTurn) (closing_by : ℕ) (t : Trace) (answered : IsAnswered turns closing_by t) where
  came-size : (e : SideId) →
      length (bytes_read e t) + length (pending turns t e) ≡ length (flat_map (brings e) (lines turns t))
  came-size e = sym (length-append (bytes_read e t) (pending turns t e)) ∙ ap length (reads_what_comes turns closing_by t e answered)

  pub read-within : (e : SideId) → length (bytes_read e t) ≤ length (flat_map (brings e) (lines_of turns))
  read-within e =
      let a = came-size e in
      let b = ap (λ ls. length (flat_map (brings e) ls)) (lines-split turns t) in
      let c = ap length (flat_map-append (brings e) (lines turns t) (lines_later turns t)) in
      let d = length-append (flat_map (brings e) (lines turns t)) (flat_map (brings e) (lines_later turns t)) in
      omega (arith, a, b, c, d)

  pub links-opened : (g : Settings) (s : State) → Reaches g t s → s.plain.opened ≤ length (scripted_links turns)
  links-opened g s r =
      let a = (kept g t s r).counts.shape.opened in
      let b = (opens-as-scripted turns closing_by t answered).1 in
      omega (arith, a, b)

  -- no more is read than the script brings in
  pub got-within : (g : Settings) (s : State) → Reaches g t s → NamesOpened 0 (lines_of turns) →
      sum_by got_count t ≤ sum_by brought_count (lines_of turns)
  got-within g s r names =
      let n = length (scripted_links turns) in
      let a = read-total g t s n r (links-opened g s r) in
      let b = brought-total turns names in
      let c = sum_by-le-sum_by (λ e. length (bytes_read e t)) (λ e. length (flat_map (brings e) (lines_of turns))) (sides_from 0 n)
      read-within in
      omega (arith, a, b, c)

pub unread_is_pending : UnreadIsPending
unread_is_pending g turns closing_by t names legal answered all =
    let es = sides_from 0 (length (scripted_links turns)) in
    let whole = lines-whole turns t all in
    let a = read-total g t legal.0 (length (scripted_links turns)) legal.1 (links-opened turns closing_by t answered g legal.0 legal.1) in
    let b = brought-total turns names in
    let c = sum-same (λ e. length (bytes_read e t) + length (pending turns t e)) (λ e. length (flat_map (brings e) (lines_of turns)))
    (λ e. came-size turns closing_by t answered e ∙ ap (λ ls. length (flat_map (brings e) ls)) whole) es in
    let d = sum-both (λ e. length (bytes_read e t)) (λ e. length (pending turns t e)) es in
    omega (arith, a, b, c, d)
