-- What is kept of the ends as a line more is read.
use Rattle.std.proofs.Common.{◌≡◌, ◌≢◌, ◌<◌, ◌+◌, ◌*◌, ℕ, zero, suc, ltb-true, Bool, true, false, cond, eqb, ◌||◌, List, [], ◌∷◌, ◌++◌}
use Rattle.std.proofs.Common.{length, set, refl, ap, sym, ◌∙◌, arith, inl, inr, append-nil, length-append, length-set, get_or-set_same}
use Rattle.std.proofs.Common.{get_or-set_other}
use Rattle.std.proofs.lemmas.Bool.Decides.{eqb_tells}
use Rattle.std.proofs.lemmas.List.Folds.{list_any-append}
use Rattle.std.proofs.lemmas.Grind.{flat_map-append}
use Rattle.ev_types.specs.Sides.{number, half}
use Rattle.ev_types.specs.declared.side.Side.TheVariants.{In, Out}
use Rattle.ev_types.specs.declared.side.SideId.{SideId}
use Rattle.ev_types.specs.declared.turn_line.TurnLine.{TurnLine}
use Rattle.ev_types.specs.declared.turn_line.TurnLine.TheVariants.{NewLink, Conn, Pending, Eof, ReadFail, Take, WriteFail, Spur, PollFail}
use Rattle.script_text.specs.Order.{opened, opened_by, opened_links, is_end_of, is_ended, may_follow}
use Rattle.script_text.specs.Tally.{IsTally, closed, counted, kept_of}

or-false : (b : Bool) → (b || false) ≡ b
or-false true = refl
or-false false = refl

or-true : (b : Bool) → (b || true) ≡ true
or-true true = refl
or-true false = refl

-- two ends of which no line has spoken
pub kept_of-padded : (ended : List Bool) (e : ℕ) → kept_of (ended ++ false ∷ false ∷ []) e ≡ kept_of ended e
kept_of-padded [] zero = refl
kept_of-padded [] (suc zero) = refl
kept_of-padded [] (suc (suc e)) = refl
kept_of-padded (x ∷ xs) zero = refl
kept_of-padded (x ∷ xs) (suc e) = kept_of-padded xs e

pub kept_of-set : (ended : List Bool) (k e : ℕ) (v : Bool) → k < length ended →
    kept_of (set ended k v) e ≡ cond (eqb k e) v (kept_of ended e)
kept_of-set ended k e v lt = elim (eqb_tells k e) [
  | inl h ↦ rw (h.0, ← h.1) (get_or-set_same ended k v false lt)
  | inr h ↦ let other : e ≢ k = λ same. h.1 (sym same) in rw h.0 (get_or-set_other ended k e v false other)
]

-- the links that a line more opens
pub opened_links-more : (before : List TurnLine) (line : TurnLine) →
    opened_links (before ++ line ∷ []) ≡ opened_links before ++ opened_by line
opened_links-more before line =
    flat_map-append opened_by before (line ∷ []) ∙ ap (λ (more : List Bool). opened_links before ++ more) (append-nil (opened_by line))

pub opened-more : (before : List TurnLine) (line : TurnLine) → opened (before ++ line ∷ []) ≡ opened before + length (opened_by line)
opened-more before line = ap length (opened_links-more before line) ∙ length-append (opened_links before) (opened_by line)

-- the ends of an opened link are kept
pub number-within : (side : SideId) (ended : List Bool) (links : ℕ) → length ended ≡ 2 * links → side.link < links →
    number side < length ended
number-within side ended links e lt =
    elim side.side as (λ s. 2 * side.link + half s < length ended) [ In ↦ omega arith | Out ↦ omega arith ]

-- a line that ends no end
pub is_ended-other : (e : ℕ) (before : List TurnLine) (line : TurnLine) → is_end_of e line ≡ false →
    is_ended e (before ++ line ∷ []) ≡ is_ended e before
is_ended-other e before line silent =
    list_any-append (is_end_of e) before (line ∷ []) ∙ ap (λ b. is_ended e before || (b || false)) silent ∙ or-false (is_ended e before)

-- a link that opens
pub IsTally-opened : (ended : List Bool) (before : List TurnLine) (wait : Bool) → IsTally ended before →
    IsTally (counted ended (NewLink wait)) (before ++ NewLink wait ∷ [])
IsTally-opened ended before wait t = record {
  count = omega (arith, length-append ended (false ∷ false ∷ []), opened-more before (NewLink wait), t.count);
  said = λ e. kept_of-padded ended e ∙ t.said e ∙ sym (is_ended-other e before (NewLink wait) refl);
}

-- an end that is kept, and gets no more bytes from this line on, which opens no link
pub IsTally-closed : (ended : List Bool) (before : List TurnLine) (line : TurnLine) (k : ℕ) → IsTally ended before → k < length ended →
    opened_by line ≡ [] → ((e : ℕ) → is_end_of e line ≡ eqb k e) → IsTally (closed ended k) (before ++ line ∷ [])
IsTally-closed ended before line k t lt opens closes = record {
  count = length-set ended k true ∙ t.count ∙ sym (omega (arith, opened-more before line, ap length opens));
  said = λ e. kept_of-set ended k e true lt ∙ elim (eqb_tells k e) [
    | inl h ↦ rw (list_any-append (is_end_of e) before (line ∷ []), closes e, h.0) (sym (or-true (is_ended e before)))
    | inr h ↦ rw (list_any-append (is_end_of e) before (line ∷ []), closes e, h.0) (t.said e ∙ sym (or-false (is_ended e before)))
  ];
}

-- a line that opens no link and closes no end
pub IsTally-silent : (ended : List Bool) (before : List TurnLine) (line : TurnLine) → IsTally ended before →
    opened_by line ≡ [] → ((e : ℕ) → is_end_of e line ≡ false) → IsTally ended (before ++ line ∷ [])
IsTally-silent ended before line t opens closes = record {
  count = t.count ∙ sym (omega (arith, opened-more before line, ap length opens));
  said = λ e. t.said e ∙ sym (is_ended-other e before line (closes e));
}

-- what is kept goes on with a line that may stand there
pub IsTally-counted : (ended : List Bool) (before : List TurnLine) (line : TurnLine) → IsTally ended before →
    may_follow before line ≡ true → IsTally (counted ended line) (before ++ line ∷ [])
IsTally-counted ended before (NewLink wait) t ok = IsTally-opened ended before wait t
IsTally-counted ended before (Conn link made) t ok = IsTally-silent ended before (Conn link made) t refl (λ e. refl)
IsTally-counted ended before (Pending side bytes) t ok = IsTally-silent ended before (Pending side bytes) t refl (λ e. refl)
IsTally-counted ended before (Eof side) t ok =
    IsTally-closed ended before (Eof side) (number side) t
    (number-within side ended (opened before) t.count (ltb-true side.link (opened before) ok)) refl (λ e. refl)
IsTally-counted ended before (ReadFail side) t ok =
    IsTally-closed ended before (ReadFail side) (number side) t
    (number-within side ended (opened before) t.count (ltb-true side.link (opened before) ok)) refl (λ e. refl)
IsTally-counted ended before (Take side more) t ok = IsTally-silent ended before (Take side more) t refl (λ e. refl)
IsTally-counted ended before (WriteFail side) t ok = IsTally-silent ended before (WriteFail side) t refl (λ e. refl)
IsTally-counted ended before (Spur side) t ok = IsTally-silent ended before (Spur side) t refl (λ e. refl)
IsTally-counted ended before PollFail t ok = IsTally-silent ended before PollFail t refl (λ e. refl)
