-- What is read in a played run is what the script brought in.
use Rattle.std.proofs.Common.{◌≡◌, ℕ, zero, suc, ◌+◌, Bool, true, false, if◌then◌else◌, List, [], ◌∷◌, ◌++◌, length, take, drop, min, fold}
use Rattle.std.proofs.Common.{count_by, nat_le, append_assoc, refl, sym, ◌∙◌, ap, subst, arith}
use Rattle.std.specs.List.{flat_map}
use Rattle.std.proofs.lemmas.Grind.{flat_map-append}
use Rattle.std.proofs.lemmas.List.{append-nil, take-append-drop, take-take}
use Rattle.std.proofs.lemmas.List.Sums.{sum_by-append}
use Rattle.ev_types.specs.declared.side.SideId.{SideId}
use Rattle.ev_types.specs.declared.answer.ReadAnswer.{ReadAnswer}
use Rattle.ev_types.specs.declared.answer.ReadAnswer.TheVariants as read
use Rattle.ev_types.specs.declared.entry.Entry.{Entry}
use Rattle.ev_types.specs.declared.entry.Entry.TheVariants as entry
use Rattle.ev_types.specs.Sides.{same_end}
use Rattle.ev_types.specs.Trace.{Event, Trace}
use Rattle.relay_model.specs.Trace.{bytes_read}
use Rattle.filter_model.specs.FilterLaws.{IsPrefixOf}
use Rattle.relay_model.specs.Rooms.{Want}
use Rattle.relay_model.specs.RatesKept.{is_turn}
use Rattle.relay_model.specs.Lines.{brings}
use Rattle.ev_types.specs.ScriptTurn.{ScriptTurn}
use Rattle.relay_model.specs.Totals.{opened}
use Rattle.relay_model.specs.Scripted.{pending, waiting, poll_fails, marks, reads_fail, is_ended}
use Rattle.relay_model.specs.Plays.{PlayStep, want_events, ready_events, accepted, own_events, events, IsAnswered, ReadsWhatComes}
use Rattle.filter_model.proofs.ListLemmas.{IsPrefixOf-append, IsPrefixOf-rest, IsPrefixOf-trans}
use Rattle.relay_model.proofs.TraceLemmas.{bytes_read-append}
use Rattle.relay_model.proofs.EndLemmas.{same_end-eq}

module _ (e : SideId) where
  -- no turn begins, and nothing is read from the end
  record IsSilent (t : Trace) : Type 0 where
    pub reads : bytes_read e t ≡ []
    pub turns : count_by is_turn t ≡ 0

  silent-append : (t u : Trace) → IsSilent t → IsSilent u → IsSilent (t ++ u)
  silent-append t u h k = record {
    reads = bytes_read-append e t u ∙ ap (λ z. z ++ bytes_read e u) h.reads ∙ k.reads;
    turns = let parts = sum_by-append (λ x. if is_turn x then 1 else 0) t u in let left = h.turns in let right = k.turns in
        omega (arith, parts, left, right);
  }

  silent-cons : (x : Event) (t : Trace) → IsSilent (x ∷ []) → IsSilent t → IsSilent (x ∷ t)
  silent-cons x t h k = silent-append (x ∷ []) t h k

  silent-wants : (ws : List Want) → IsSilent (want_events ws)
  silent-wants [] = record { reads = refl; turns = refl }
  silent-wants (w ∷ ws) = silent-cons (entry.Want w.side w.read w.write, []) (want_events ws)
      (record { reads = refl; turns = refl }) (silent-wants ws)

  silent-readies : (ws : List Want) → IsSilent (ready_events ws)
  silent-readies [] = record { reads = refl; turns = refl }
  silent-readies (w ∷ ws) = silent-cons (entry.Ready w.side w.read w.write, []) (ready_events ws)
      (record { reads = refl; turns = refl }) (silent-readies ws)

  silent-polled : (fails : Bool) (ws : List Want) → IsSilent (if fails then (entry.PollFailed, []) ∷ [] else ready_events ws)
  silent-polled true ws = record { reads = refl; turns = refl }
  silent-polled false ws = silent-readies ws

  silent-accepted : (link : ℕ) (links : List Bool) → IsSilent (accepted link links)
  silent-accepted link [] = record { reads = refl; turns = refl }
  silent-accepted link (undecided ∷ later) = record { reads = refl; turns = refl }

  silent-own : (x : Entry) → IsSilent (own_events x)
  silent-own (entry.Fired side why) = record { reads = refl; turns = refl }
  silent-own (entry.Asked side act answer) = record { reads = refl; turns = refl }
  silent-own (entry.Freed side cause moved given) = record { reads = refl; turns = refl }
  silent-own (entry.CloseWrite side) = record { reads = refl; turns = refl }
  silent-own (entry.Close side) = record { reads = refl; turns = refl }
  silent-own _ = record { reads = refl; turns = refl }

  module _ (turns : List ScriptTurn) (closing_by : ℕ) where
    -- what came in at the end in so many turns
    abbrev came : ℕ → List ℕ
    came n = flat_map (brings e) (flat_map (λ turn. turn.1) (take n turns))

    abbrev Fits : Trace → Type 0
    Fits t = IsPrefixOf (bytes_read e t) (came (count_by is_turn t))

    fits-silent : (t u : Trace) → IsSilent u → Fits t → Fits (t ++ u)
    fits-silent t u h fits =
        let same : bytes_read e (t ++ u) ≡ bytes_read e t = bytes_read-append e t u ∙ ap (λ z. bytes_read e t ++ z) h.reads ∙
        append-nil (bytes_read e t) in
        let parts = sum_by-append (λ x. if is_turn x then 1 else 0) t u in
        let none = h.turns in
        let count : count_by is_turn (t ++ u) ≡ count_by is_turn t = omega (arith, parts, none) in
        subst (λ z. IsPrefixOf z (came (count_by is_turn (t ++ u)))) (sym same) (subst (λ n. IsPrefixOf (bytes_read e t) (came n))
        (sym count) fits)

    came-more : (n : ℕ) → IsPrefixOf (came n) (came (n + 1))
    came-more n =
        let ys = take (n + 1) turns in
        let halves : take n turns ++ drop n ys ≡ ys = ap (λ z. z ++ drop n ys) (sym (take-take n (n + 1) turns (omega arith))) ∙
        take-append-drop n ys in
        let ls = λ (z : List ScriptTurn). flat_map (λ turn. turn.1) z in
        IsPrefixOf-append (came n) (flat_map (brings e) (ls (drop n ys))) (came (n + 1))
        (sym (flat_map-append (brings e) (ls (take n turns)) (ls (drop n ys)))
        ∙ ap (flat_map (brings e)) (sym (flat_map-append (λ turn. turn.1) (take n turns) (drop n ys)))
        ∙ ap (λ z. flat_map (brings e) (ls z)) halves)

    fits-turn : (t : Trace) (ms : ℕ) → Fits t → Fits (t ++ (entry.Turn ms, []) ∷ [])
    fits-turn t ms fits =
        let u : Trace = (entry.Turn ms, []) ∷ [] in
        let same : bytes_read e (t ++ u) ≡ bytes_read e t = bytes_read-append e t u ∙ append-nil (bytes_read e t) in
        let parts = sum_by-append (λ x. if is_turn x then 1 else 0) t u in
        let count : count_by is_turn (t ++ u) ≡ count_by is_turn t + 1 = omega (arith, parts) in
        subst (λ z. IsPrefixOf z (came (count_by is_turn (t ++ u)))) (sym same)
        (subst (λ n. IsPrefixOf (bytes_read e t) (came n)) (sym count) (IsPrefixOf-trans _ _ _ fits (came-more (count_by is_turn t))))

    take-nil : (n : ℕ) → take {A = ℕ} n [] ≡ []
    take-nil zero = refl
    take-nil (suc n) = refl

    same_both : (c : Bool) (xs : List ℕ) → xs ≡ [] → [] ≡ (if c then xs else [])
    same_both true xs h = sym h
    same_both false xs h = refl

    abbrev answer : List ℕ → Bool → Bool → Bool → ℕ → ReadAnswer × List ℕ
    answer xs some fail end room =
        if some then (read.Got (min room (length xs)), take room xs) else (if fail then (read.Failed, [])
        else (if end then (read.Ended, []) else (read.NotYet, [])))

    -- a read gives what is pending, up to its room
    read_of : (s : SideId) (room : ℕ) (xs : List ℕ) (some fail end : Bool) → nat_le 1 (length xs) ≡ some →
        bytes_read e ((entry.Read s room (answer xs some fail end room).0, (answer xs some fail end room).1) ∷ []) ≡
        (if same_end s e then take room xs else [])
    read_of s room xs true fail end h = append-nil (if same_end s e then take room xs else [])
    read_of s room [] false true end h = same_both (same_end s e) (take room []) (take-nil room)
    read_of s room [] false false true h = same_both (same_end s e) (take room []) (take-nil room)
    read_of s room [] false false false h = same_both (same_end s e) (take room []) (take-nil room)
    read_of s room (x ∷ xs) false fail end h = absurd (grind arith)

    fits-read : (t : Trace) (s : SideId) (room : ℕ) → Fits t → Fits (t ++ events turns closing_by t (PlayStep.Read s room))
    fits-read t s room fits = go (same_end s e) refl
      where
        whole : bytes_read e (events turns closing_by t (PlayStep.Read s room)) ≡ (if same_end s e then take room (pending turns t s) else [])
        whole = read_of s room (pending turns t s) (nat_le 1 (length (pending turns t s))) (reads_fail turns t s) (is_ended turns t s) refl

        go : (c : Bool) → same_end s e ≡ c → Fits (t ++ events turns closing_by t (PlayStep.Read s room))
        go false h = fits-silent t (events turns closing_by t (PlayStep.Read s room))
            (record { reads = whole ∙ ap (λ c. if c then take room (pending turns t s) else []) h; turns = refl }) fits
        go true h =
            let gone = bytes_read e t in
            let u = events turns closing_by t (PlayStep.Read s room) in
            let all = came (count_by is_turn t) in
            let rest = drop (length gone) all in
            let own : pending turns t s ≡ rest = ap (λ z. pending turns t z) (same_end-eq s e h) in
            let now : bytes_read e (t ++ u) ≡ gone ++ take room rest =
            bytes_read-append e t u ∙ ap (λ z. gone ++ z) (whole ∙ ap (λ c. if c then take room (pending turns t s) else []) h ∙ ap
            (take room) own) in
            let parts = sum_by-append (λ x. if is_turn x then 1 else 0) t u in
            let count : count_by is_turn (t ++ u) ≡ count_by is_turn t = omega (arith, parts) in
            let fit : IsPrefixOf (gone ++ take room rest) all =
            IsPrefixOf-append (gone ++ take room rest) (drop room rest) all
            (append_assoc gone (take room rest) (drop room rest) ∙ ap (λ z. gone ++ z) (take-append-drop room rest) ∙
            IsPrefixOf-rest gone all fits) in
            subst (λ z. IsPrefixOf z (came (count_by is_turn (t ++ u)))) (sym now)
            (subst (λ n. IsPrefixOf (gone ++ take room rest) (came n)) (sym count) fit)

    fits-step : (t : Trace) (x : PlayStep) → Fits t → Fits (t ++ events turns closing_by t x)
    fits-step t PlayStep.Now fits = fits-turn t _ fits
    fits-step t (PlayStep.Poll timeout wants) fits =
        let end = (if poll_fails turns t then (entry.PollFailed, []) ∷ [] else ready_events (marks turns t wants)) in
        fits-silent t ((entry.Poll timeout, []) ∷ (want_events wants ++ end))
        (silent-cons (entry.Poll timeout, []) (want_events wants ++ end) (record { reads = refl; turns = refl })
        (silent-append (want_events wants) end (silent-wants wants) (silent-polled (poll_fails turns t) (marks turns t wants)))) fits
    fits-step t PlayStep.Accept fits = fits-silent t (accepted (opened t) (waiting turns t)) (silent-accepted (opened t) (waiting turns t)) fits
    fits-step t (PlayStep.Check s) fits = fits-silent t (events turns closing_by t (PlayStep.Check s)) (record { reads = refl; turns = refl }) fits
    fits-step t (PlayStep.Read s room) fits = fits-read t s room fits
    fits-step t (PlayStep.Write s offered) fits = fits-silent t (events turns closing_by t (PlayStep.Write s offered))
        (record { reads = refl; turns = refl }) fits
    fits-step t (PlayStep.Own x) fits = fits-silent t (own_events x) (silent-own x) fits

    fits-steps : (xs : List PlayStep) (t : Trace) → Fits t → Fits (fold (λ z x. z ++ events turns closing_by z x) t xs)
    fits-steps [] t fits = fits
    fits-steps (x ∷ xs) t fits = fits-steps xs (t ++ events turns closing_by t x) (fits-step t x fits)

    fits-answered : (t : Trace) → IsAnswered turns closing_by t → Fits t
    fits-answered t (steps, is) = subst Fits (sym is) (fits-steps steps [] refl)

pub reads_what_comes : ReadsWhatComes
reads_what_comes turns closing_by t e answered = IsPrefixOf-rest (bytes_read e t) (came e turns closing_by (count_by is_turn t))
    (fits-answered e turns closing_by t answered)
