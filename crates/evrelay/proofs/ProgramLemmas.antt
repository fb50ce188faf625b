-- What the program says of its end, from what its writes came to.
use Rattle.std.proofs.Common.{◌≡◌, ◌⊎◌, inl, inr, ℕ, true, false, if◌then◌else◌, List, [], ◌++◌, Option, refl, subst, sym, ◌∙◌, ap}
use Rattle.ev_types.specs.declared.entry.Entry.{Entry}
use Rattle.ev_types.specs.declared.status.Status.{Status}
use Rattle.ev_types.specs.declared.status.Status.TheVariants as status
use Rattle.ev_port.specs.FaultCounts.{Rose}
use Rattle.ev_port.specs.StreamBytes.{TookOn}
use Rattle.ev_port.proofs.StreamLemmas.{TookOn-join}
use Rattle.program_end.specs.Complains.{Complains, TookPart}
use Rattle.program_end.specs.EndStatus.{complaint}
use Rattle.program_end.proofs.ComplaintLemmas.{part-first, part-second}
use Rattle.relay_drive.specs.Seats.{seated_sides}
use Rattle.evrelay.specs.Program.{shows, said, Says}
use Rattle.evrelay.specs.RingText.{ring_text}

-- where there are no hooks no side has one
pub none-seated : {H : Type 0} (hooks : List (Option H)) → hooks ≡ [] → seated_sides hooks ≡ []
none-seated hooks none = ap (λ z. seated_sides z) none

-- the lines of the entries stand in front of that of the status
said-shown : (ended : Status) (es : List Entry) → shows ended ≡ true → ring_text es ++ complaint ended ≡ said ended es
said-shown ended es shown = ap (λ b. (if b then ring_text es else []) ++ complaint ended) (sym shown)

-- where no lines are shown that of the status is all
pub says-line : (ended : Status) (es : List Entry) (a b : Option (List ℕ)) (f g : ℕ) → shows ended ≡ false → Complains ended a b f g
    → Says ended es a b f g
says-line ended es a b f g shown line =
    let same : complaint ended ≡ said ended es = ap (λ b. (if b then ring_text es else []) ++ complaint ended) (sym shown) in
    subst (λ text. (TookOn a b text × (g ≡ f)) ⊎ (TookPart a b text × Rose f g)) same line

-- the lines were cut off
pub says-cut : (ended : Status) (es : List Entry) (a b : Option (List ℕ)) (f g : ℕ) → shows ended ≡ true → TookPart a b (ring_text es) → Rose f g
    → Says ended es a b f g
says-cut ended es a b f g shown part rose =
    inr (subst (λ text. TookPart a b text) (said-shown ended es shown) (part-first a b (ring_text es) (complaint ended) part), rose)

-- behind the lines that of the status followed
pub says-behind : (ended : Status) (es : List Entry) (a b c : Option (List ℕ)) (f m g : ℕ) → shows ended ≡ true
    → TookOn a b (ring_text es) → m ≡ f → Complains ended b c m g → Says ended es a c f g
says-behind ended es a b c f m g shown lines calm (inl (line, still)) =
    inl (subst (λ text. TookOn a c text) (said-shown ended es shown) (TookOn-join a b c (ring_text es) (complaint ended) lines line), still ∙ calm)
says-behind ended es a b c f m g shown lines calm (inr (part, rose)) =
    inr (
      subst (λ text. TookPart a c text) (said-shown ended es shown) (part-second a b c (ring_text es) (complaint ended) lines part),
      subst (λ n. Rose n g) calm rose,
    )
