-- What the counts say after one step of a direction: what the filters have made grows at its end, and the four buffers change
-- as they do in a relay. Each step changes one count or one flag.
use Rattle.std.proofs.Common.{◌≡◌, ℕ, ◌+◌, ◌≤◌, Bool, true, false, if◌then◌else◌, List, [], ◌++◌, length, take, drop, sym, ◌∙◌, ap, arith}
use Rattle.std.proofs.lemmas.List.{append-nil, take-take, take-append-le, drop-append-le, drop-drop, length-take-le}
use Rattle.std.proofs.Math.Seq.{take-add}
use Rattle.filter_model.specs.Filter.{Filter}
use Rattle.filter_model.specs.FilterLaws.{PrefixLaw, more, more_at_end}
use Rattle.relay_model.specs.Flow.{Flow, Fits, no_flow, middle, outcome, raw_input, input, output, raw_output}
use Rattle.relay_model.specs.Conserved.{left, no_buffers}
use Rattle.relay_model.proofs.ConservedLemmas.{before-more, before-more_at_end}

-- as a direction begins it holds nothing
pub left-first : (r w : Filter) → PrefixLaw r → PrefixLaw w → left r w [] true true no_flow ≡ no_buffers
left-first r w r_law w_law = λ i. record {
  raw_input = [];
  input = r_law.empty i;
  output = [];
  raw_output = w_law.empty i;
}

-- While the read filter isn't finished

pub middle-open : (r : Filter) (read : List ℕ) (f : Flow) → f.read_done ≡ false → middle r read f ≡ r.before (take f.used read)
middle-open r read f h = ap (λ b. if b then r.at_end (take f.used read) else r.before (take f.used read)) h

pub middle-done : (r : Filter) (read : List ℕ) (f : Flow) → f.read_done ≡ true → middle r read f ≡ r.at_end (take f.used read)
middle-done r read f h = ap (λ b. if b then r.at_end (take f.used read) else r.before (take f.used read)) h

-- the read filter used n more bytes of the raw input
pub middle-used : (r : Filter) → PrefixLaw r → (read : List ℕ) (f : Flow) (n : ℕ) → f.read_done ≡ false →
    middle r read (record f { used = f.used + n }) ≡ middle r read f ++ more r (take f.used read) (take n (raw_input read f))
middle-used r law read f n h =
    middle-open r read (record f { used = f.used + n }) h
    ∙ ap r.before (take-add f.used n read)
    ∙ sym (before-more r law (take f.used read) (take n (drop f.used read)))
    ∙ ap (λ z. z ++ more r (take f.used read) (take n (raw_input read f))) (sym (middle-open r read f h))

-- it finished
pub middle-finished : (r : Filter) → PrefixLaw r → (read : List ℕ) (f : Flow) → f.read_done ≡ false →
    middle r read (record f { read_done = true }) ≡ middle r read f ++ more_at_end r (take f.used read) []
middle-finished r law read f h =
    ap r.at_end (sym (append-nil (take f.used read)))
    ∙ sym (before-more_at_end r law (take f.used read) [])
    ∙ ap (λ z. z ++ more_at_end r (take f.used read) []) (sym (middle-open r read f h))

-- more was read
pub middle-got : (r : Filter) (read bytes : List ℕ) (f : Flow) → f.used ≤ length read → middle r (read ++ bytes) f ≡ middle r read f
middle-got r read bytes f h = ap (λ xs. if f.read_done then r.at_end xs else r.before xs) (take-append-le f.used read bytes h)

pub raw_input-used : (read : List ℕ) (f : Flow) (n : ℕ) → raw_input read (record f { used = f.used + n }) ≡ drop n (raw_input read f)
raw_input-used read f n = sym (drop-drop n f.used read)

pub raw_input-got : (read bytes : List ℕ) (f : Flow) → f.used ≤ length read → raw_input (read ++ bytes) f ≡ raw_input read f ++ bytes
raw_input-got read bytes f h = drop-append-le f.used read bytes h

-- Where what the read filter made grows, by any step that changes no count behind it

module _ (r w : Filter) (read read' : List ℕ) (ended : Bool) (f : Flow) (fits : Fits r w read ended f) (used' : ℕ) (done' : Bool)
    (z : List ℕ)
    (grown : middle r read' (record f { used = used'; read_done = done' }) ≡ middle r read f ++ z) where
  turned_is_there : f.turned ≤ length (middle r read f)
  turned_is_there = let a = fits.turned in let b = fits.moved in omega arith

  pub outcome-grown : outcome r w read' (record f { used = used'; read_done = done' }) ≡ outcome r w read f
  outcome-grown =
      ap (λ xs. if f.write_done then w.at_end xs else w.before xs)
      (ap (take f.turned) grown ∙ take-append-le f.turned (middle r read f) z turned_is_there)

  pub input-grown : input r read' (record f { used = used'; read_done = done' }) ≡ input r read f ++ z
  input-grown = ap (drop f.moved) grown ∙ drop-append-le f.moved (middle r read f) z fits.moved

  pub output-grown : output r read' (record f { used = used'; read_done = done' }) ≡ output r read f
  output-grown = ap (drop f.turned) (ap (take f.moved) grown ∙ take-append-le f.moved (middle r read f) z fits.moved)

  pub raw_output-grown : raw_output r w read' (record f { used = used'; read_done = done' }) ≡ raw_output r w read f
  raw_output-grown = ap (drop f.given) outcome-grown

-- n bytes were moved from the input to the output

pub input-moved : (r : Filter) (read : List ℕ) (f : Flow) (n : ℕ) → input r read (record f { moved = f.moved + n }) ≡ drop n
    (input r read f)
input-moved r read f n = sym (drop-drop n f.moved (middle r read f))

pub output-moved : (r w : Filter) (read : List ℕ) (ended : Bool) (f : Flow) → Fits r w read ended f → (n : ℕ) →
    output r read (record f { moved = f.moved + n }) ≡ output r read f ++ take n (input r read f)
output-moved r w read ended f fits n =
    let xs : List ℕ = middle r read f in
    let here : length (take f.moved xs) ≡ f.moved = length-take-le f.moved xs fits.moved in
    let le : f.turned ≤ length (take f.moved xs) = let k = fits.turned in omega arith in
    ap (drop f.turned) (take-add f.moved n xs) ∙ drop-append-le f.turned (take f.moved xs) (take n (drop f.moved xs)) le

-- While the write filter isn't finished

pub outcome-open : (r w : Filter) (read : List ℕ) (f : Flow) → f.write_done ≡ false → outcome r w read f ≡ w.before
    (take f.turned (middle r read f))
outcome-open r w read f h = ap (λ b. if b then w.at_end (take f.turned (middle r read f)) else w.before (take f.turned (middle r read f))) h

pub outcome-done : (r w : Filter) (read : List ℕ) (f : Flow) → f.write_done ≡ true → outcome r w read f ≡ w.at_end
    (take f.turned (middle r read f))
outcome-done r w read f h = ap (λ b. if b then w.at_end (take f.turned (middle r read f)) else w.before (take f.turned (middle r read f))) h

-- n more bytes of what was moved
take-output : (r : Filter) (read : List ℕ) (f : Flow) (n : ℕ) → f.turned + n ≤ f.moved →
    take (f.turned + n) (middle r read f) ≡ take f.turned (middle r read f) ++ take n (output r read f)
take-output r read f n h =
    let xs : List ℕ = middle r read f in
    let le : f.turned ≤ f.moved = omega arith in
    sym (take-take (f.turned + n) f.moved xs h)
    ∙ take-add f.turned n (take f.moved xs)
    ∙ ap (λ z. z ++ take n (drop f.turned (take f.moved xs))) (take-take f.turned f.moved xs le)

-- the write filter used n more bytes of the output
pub outcome-turned : (r w : Filter) → PrefixLaw w → (read : List ℕ) (f : Flow) (n : ℕ) → f.turned + n ≤ f.moved → f.write_done ≡ false →
    outcome r w read (record f { turned = f.turned + n }) ≡ outcome r w read f ++ more w (take f.turned (middle r read f))
    (take n (output r read f))
outcome-turned r w law read f n le h =
    outcome-open r w read (record f { turned = f.turned + n }) h
    ∙ ap w.before (take-output r read f n le)
    ∙ sym (before-more w law (take f.turned (middle r read f)) (take n (output r read f)))
    ∙ ap (λ z. z ++ more w (take f.turned (middle r read f)) (take n (output r read f))) (sym (outcome-open r w read f h))

-- it finished
pub outcome-finished : (r w : Filter) → PrefixLaw w → (read : List ℕ) (f : Flow) → f.write_done ≡ false →
    outcome r w read (record f { write_done = true }) ≡ outcome r w read f ++ more_at_end w (take f.turned (middle r read f)) []
outcome-finished r w law read f h =
    ap w.at_end (sym (append-nil (take f.turned (middle r read f))))
    ∙ sym (before-more_at_end w law (take f.turned (middle r read f)) [])
    ∙ ap (λ z. z ++ more_at_end w (take f.turned (middle r read f)) []) (sym (outcome-open r w read f h))

pub output-turned : (r : Filter) (read : List ℕ) (f : Flow) (n : ℕ) → output r read (record f { turned = f.turned + n }) ≡ drop n
    (output r read f)
output-turned r read f n = sym (drop-drop n f.turned (take f.moved (middle r read f)))

-- where what the write filter made grows, so does the raw output
pub raw_output-turned : (r w : Filter) (read : List ℕ) (ended : Bool) (f : Flow) → Fits r w read ended f → (turned' : ℕ)
    (done' : Bool) (z : List ℕ) →
    outcome r w read (record f { turned = turned'; write_done = done' }) ≡ outcome r w read f ++ z →
    raw_output r w read (record f { turned = turned'; write_done = done' }) ≡ raw_output r w read f ++ z
raw_output-turned r w read ended f fits turned' done' z e = ap (drop f.given) e ∙ drop-append-le f.given (outcome r w read f) z fits.given

-- the peer's end took n bytes of the raw output
pub raw_output-given : (r w : Filter) (read : List ℕ) (f : Flow) (n : ℕ) → raw_output r w read (record f { given = f.given + n }) ≡
    drop n (raw_output r w read f)
raw_output-given r w read f n = sym (drop-drop n f.given (outcome r w read f))
