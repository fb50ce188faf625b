-- Where filters hand bytes on as they are, the four buffers of a direction hold what was read and not given.
use Rattle.std.proofs.Common.{◌≡◌, ℕ, ◌+◌, ◌-◌, ◌≤◌, Bool, true, false, if◌then◌else◌, List, length, take, refl, sym, ◌∙◌, ap, subst, arith}
use Rattle.std.proofs.Common.{length-drop, length-take-le}
use Rattle.ev_types.specs.declared.side.Side.{Side}
use Rattle.ev_types.specs.declared.side.Side.TheVariants.{In, Out}
use Rattle.ev_types.specs.declared.filter.FilterKind.{FilterKind}
use Rattle.ev_types.specs.declared.filter.FilterKind.TheVariants as kind
use Rattle.filter_model.specs.Filter.{Filter, filter_of}
use Rattle.relay_model.specs.Flow.{Flow, Fits, middle, outcome, raw_input, input, output, raw_output}
use Rattle.relay_model.specs.Settings.{Settings}
use Rattle.relay_model.specs.Rooms.{read_kind, write_kind}
use Rattle.relay_laws.specs.Plainly.{HasNoFilters}

abbrev pub plainly : Filter
plainly = filter_of kind.None

pub read_kind-none : (g : Settings) → HasNoFilters g → (x : Side) → read_kind g x ≡ kind.None
read_kind-none g h In = h.in_read
read_kind-none g h Out = h.out_read

pub write_kind-none : (g : Settings) → HasNoFilters g → (x : Side) → write_kind g x ≡ kind.None
write_kind-none g h In = h.in_write
write_kind-none g h Out = h.out_write

either : (b : Bool) (xs : List ℕ) → (if b then xs else xs) ≡ xs
either true xs = refl
either false xs = refl

pub middle-none : (read : List ℕ) (f : Flow) → middle plainly read f ≡ take f.used read
middle-none read f = either f.read_done (take f.used read)

pub outcome-none : (read : List ℕ) (f : Flow) → outcome plainly plainly read f ≡ take f.turned (middle plainly read f)
outcome-none read f = either f.write_done (take f.turned (middle plainly read f))

module _ (read : List ℕ) (f : Flow) (used : f.used ≤ length read) (moved : f.moved ≤ f.used) (turned : f.turned ≤ f.moved) where
  pub middle-length : length (middle plainly read f) ≡ f.used
  middle-length = ap length (middle-none read f) ∙ length-take-le f.used read used

  pub output-length : length (output plainly read f) ≡ f.moved - f.turned
  output-length =
      length-drop f.turned (take f.moved (middle plainly read f))
      ∙ ap (λ n. n - f.turned) (length-take-le f.moved (middle plainly read f) (let m = middle-length in omega (arith, m, moved)))

  outcome-length : length (outcome plainly plainly read f) ≡ f.turned
  outcome-length =
      ap length (outcome-none read f)
      ∙ length-take-le f.turned (middle plainly read f) (let m = middle-length in omega (arith, m, moved, turned))

  pub raw_output-length : length (raw_output plainly plainly read f) ≡ f.turned - f.given
  raw_output-length = length-drop f.given (outcome plainly plainly read f) ∙ ap (λ n. n - f.given) outcome-length

abbrev all_held : FilterKind → FilterKind → List ℕ → Flow → ℕ
all_held j k read f =
    let r : Filter = filter_of j in
    (length (raw_input read f) + length (input r read f)) + (length (output r read f) + length (raw_output r (filter_of k) read f))

held-none : (read : List ℕ) (ended : Bool) (f : Flow) → Fits plainly plainly read ended f →
    all_held kind.None kind.None read f ≡ length read - f.given
held-none read ended f h =
    let u = h.used in
    let all : length (middle plainly read f) ≡ f.used = ap length (middle-none read f) ∙ length-take-le f.used read u in
    let a = h.moved in
    let m : f.moved ≤ f.used = omega (arith, all, a) in
    let v = h.turned in
    let w = h.given in
    let o = outcome-length read f u m v in
    let x = length-drop f.used read in
    let y = length-drop f.moved (middle plainly read f) in
    let i = output-length read f u m v in
    let z = raw_output-length read f u m v in
    omega (arith, u, all, m, v, w, o, x, y, i, z)

pub plainly-held : (j k : FilterKind) → j ≡ kind.None → k ≡ kind.None → (read : List ℕ) (ended : Bool) (f : Flow) →
    Fits (filter_of j) (filter_of k) read ended f → all_held j k read f ≡ length read - f.given
plainly-held j k a b read ended f =
    subst (λ z. Fits (filter_of j) (filter_of z) read ended f → all_held j z read f ≡ length read - f.given) (sym b)
    (subst (λ z. Fits (filter_of z) plainly read ended f → all_held z kind.None read f ≡ length read - f.given) (sym a)
    (held-none read ended f))
