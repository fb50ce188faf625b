-- A trace for which a relay stands can be spelled.
use Rattle.std.proofs.Common.{◌≡◌, ℕ, ◌<◌, ◌≤◌, false, List, [], ◌∷◌, ◌++◌, length, take, drop, refl, sym, ◌∙◌, ap, subst, arith}
use Rattle.std.proofs.Common.{append_assoc, length-append, get_or, ◌⊎◌, inl, inr}
use Rattle.std.specs.Prelude.{All}
use Rattle.std.specs.List.{flat_map}
use Rattle.std.proofs.lemmas.Bool.{cases_lt}
use Rattle.std.proofs.lemmas.Grind.{flat_map-append}
use Rattle.std.proofs.lemmas.List.{take-append-drop, get_or_past}
use Rattle.std.proofs.lemmas.List.Elements.{All-weaker}
use Rattle.ev_types.specs.declared.side.Side.{Side}
use Rattle.ev_types.specs.declared.side.Side.TheVariants.{Out}
use Rattle.ev_types.specs.declared.answer.ReadAnswer.TheVariants as read
use Rattle.ev_types.specs.declared.answer.WriteAnswer.TheVariants as write
use Rattle.ev_types.specs.declared.why.Why.{Why}
use Rattle.ev_types.specs.declared.why.Why.TheVariants as why
use Rattle.ev_types.specs.declared.entry.Entry.TheVariants as entry
use Rattle.ev_types.specs.Trace.{Event, Trace}
use Rattle.script_text.specs.TraceLaws.{IsOut, IsWhy, IsEntry, StandBeside, IsSpellable}
use Rattle.relay_model.specs.Trace.{bytes_read}
use Rattle.relay_model.specs.Settings.{Settings, HasNoHooks}
use Rattle.relay_model.specs.Stages.{at}
use Rattle.relay_model.specs.Turn.{IsLegal}
use Rattle.relay_model.specs.Lines.{brings}
use Rattle.relay_model.specs.Scripted.{begun, pending}
use Rattle.relay_model.proofs.PlayedReads.{reads_what_comes}
use Rattle.relay_steps.specs.ToFire.{FlagsFit}
use Rattle.relay_laws.specs.Frees.{is_of_hook}
use Rattle.relay_laws.specs.Spelling.{FewBytes, AskFits, AsksFit, ReadsFitAsScripted, StoodIsSpellable}
use Rattle.relay_laws.proofs.FreeLemmas.{nothing_is_of_hooks}
use Rattle.relay_laws.proofs.EventLemmas.{all-say}
use Rattle.relay_laws.proofs.ByteLemmas.{all-part}
use Rattle.relay_laws.proofs.LineLemmas.{FitsLine, line-fits}

-- a beginning of bytes is bytes
bytes-front : (xs ys : List ℕ) → FewBytes (xs ++ ys) → FewBytes xs
bytes-front xs ys h = record {
  each = all-part (λ b. b < 256) [] xs ys h.each;
  count = let all = h.count in omega (arith, all, length-append xs ys);
}

pub reads_fit_as_scripted : ReadsFitAsScripted
reads_fit_as_scripted turns closing_by t fit answered e =
    let n : ℕ = begun turns t in
    let rest : List ℕ = flat_map (brings e) (flat_map (λ turn. turn.1) (drop n turns)) in
    let all : List ℕ = flat_map (brings e) (flat_map (λ turn. turn.1) turns) in
    let whole : all ≡ bytes_read e t ++ (pending turns t e ++ rest) =
    ap (λ z. flat_map (brings e) (flat_map (λ turn. turn.1) z)) (sym (take-append-drop n turns))
    ∙ ap (flat_map (brings e)) (flat_map-append (λ turn. turn.1) (take n turns) (drop n turns))
    ∙ flat_map-append (brings e) (flat_map (λ turn. turn.1) (take n turns)) (flat_map (λ turn. turn.1) (drop n turns))
    ∙ ap (λ z. z ++ rest) (sym (reads_what_comes turns closing_by t e answered))
    ∙ append_assoc (bytes_read e t) (pending turns t e) rest in
    bytes-front (bytes_read e t) (pending turns t e ++ rest) (subst FewBytes whole (fit e))

-- What fits a line is spelled

are-bytes : (xs : List ℕ) → All (λ b. b < 256) xs → (i : ℕ) → get_or xs i 0 < 256
are-bytes xs h i = go (cases_lt i (length xs))
  where
    go : (i < length xs) ⊎ (length xs ≤ i) → get_or xs i 0 < 256
    go (inl lt) = h i 0 lt
    go (inr ge) = let none = get_or_past xs i 0 ge in omega (arith, none)

out-is_out : (side : Side) → side ≡ Out → IsOut side
out-is_out side h = subst IsOut (sym h) tt

why-spelled : (y : Why) → FlagsFit y → IsWhy y
why-spelled (why.Event flags) h = h
why-spelled _ h = tt

entry-spelled : (y : Event) → FitsLine y → IsEntry y.0
entry-spelled (entry.Turn ms, bytes) h = h.0
entry-spelled (entry.Poll timeout, bytes) h = h.0
entry-spelled (entry.Want side r w, bytes) h = (h.0, h.1)
entry-spelled (entry.Ready side r w, bytes) h = (h.0, h.1)
entry-spelled (entry.PollFailed, bytes) h = tt
entry-spelled (entry.Opened link connected, bytes) h = h.0
entry-spelled (entry.Conn side answer, bytes) h = (h.0, out-is_out side.side h.1)
entry-spelled (entry.Read side room (read.Got n), bytes) h = (h.0, h.1)
entry-spelled (entry.Read side room answer, bytes) h = (h.0, h.1)
entry-spelled (entry.Write side offered (write.Took n), bytes) h = (h.0, h.1)
entry-spelled (entry.Write side offered write.NoMemory, bytes) h = absurd h
entry-spelled (entry.Write side offered answer, bytes) h = (h.0, h.1)
entry-spelled (entry.Fired side why, bytes) h = (h.0, why-spelled why h.1)
entry-spelled (entry.Asked side act answer, bytes) h = (h.0, h.1)
entry-spelled (entry.Freed side why moved given, bytes) h = (h.0, h.1, h.2, h.3)
entry-spelled (entry.CloseWrite side, bytes) h = h.0
entry-spelled (entry.Close side, bytes) h = h.0

beside-spelled : (y : Event) → FitsLine y → StandBeside y.1 y.0
beside-spelled (entry.Turn ms, bytes) h = h.1
beside-spelled (entry.Poll timeout, bytes) h = h.1
beside-spelled (entry.Want side r w, bytes) h = h.2
beside-spelled (entry.Ready side r w, bytes) h = h.2
beside-spelled (entry.PollFailed, bytes) h = h
beside-spelled (entry.Opened link connected, bytes) h = h.1
beside-spelled (entry.Conn side answer, bytes) h = h.2
beside-spelled (entry.Read side room (read.Got n), bytes) h = (h.3, h.2, are-bytes bytes h.4)
beside-spelled (entry.Read side room answer, bytes) h = h.2
beside-spelled (entry.Write side offered (write.Took n), bytes) h = (h.3, h.2, are-bytes bytes h.4)
beside-spelled (entry.Write side offered write.NoMemory, bytes) h = absurd h
beside-spelled (entry.Write side offered answer, bytes) h = h.2
beside-spelled (entry.Fired side why, bytes) h = h.2
beside-spelled (entry.Asked side act answer, bytes) h = h.2
beside-spelled (entry.Freed side why moved given, bytes) h = h.4
beside-spelled (entry.CloseWrite side, bytes) h = h.1
beside-spelled (entry.Close side, bytes) h = h.1

-- where each entry fits a line, wherever it stands, the whole trace is spelled
all-spelled : (t : Trace) → ((before after : Trace) (y : Event) → t ≡ before ++ y ∷ after → FitsLine y) → IsSpellable t
all-spelled [] h = tt
all-spelled (y ∷ t) h =
    let first = h [] t y refl in
    let rest = all-spelled t (λ before after z k. h (y ∷ before) after z (ap (λ v. y ∷ v) k)) in
    (entry-spelled y first, beside-spelled y first, rest)

pub stood_is_spellable : StoodIsSpellable
stood_is_spellable t x s k few timeouts asks fit =
    all-spelled t (λ before after y is.
    line-fits t x s k few asks fit before after y is (all-say s.settings timeouts t (at x s.plain, k.reached) before after y is))

-- where no side has a hook, all asks fit, since there are none
pub asks-fit_hookless : (g : Settings) (t : Trace) → HasNoHooks g → IsLegal g t → AsksFit t
asks-fit_hookless g t none legal = All-weaker (λ y. is_of_hook y ≡ false) AskFits fits t (nothing_is_of_hooks g t none legal)
  where
    fits : (y : Event) → is_of_hook y ≡ false → AskFits y
    fits (entry.Asked me act answer, bytes) h = absurd (cc)
    fits _ h = tt
