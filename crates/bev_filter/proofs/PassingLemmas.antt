-- A step whose output is made beside the buffers.
use Rattle.std.proofs.Common.{◌≡◌, ℕ, ◌-◌, List, [], ◌++◌, length, Bool, ap, sym, ◌∙◌}
use Rattle.token_bucket.specs.declared.limit.Dir.{Dir}
use Rattle.token_bucket.specs.declared.limit.Dir.TheVariants.{Read, Write}
use Rattle.ev_types.specs.declared.filter.Mode.{Mode}
use Rattle.filter_model.specs.Running.{Running}
use Rattle.filter_model.specs.FilterStep.{Stepped, stepped}
use Rattle.stream_filters.specs.StepAnswers.{is_last, WasMade}
use Rattle.stream_filters.proofs.ShiftLemmas.{step-shift}
use Rattle.bev_core.specs.BevValue.{BevValue}
use Rattle.bev_core.specs.Steps.{held, with_held, more, less}
use Rattle.bev_filter.specs.Passing.{Crossing, stepping, passing, Crossed}

-- the step into a target that holds nothing, with what the limit leaves
pub step-near : (dir : Dir) (p : Crossing) (limit room none : ℕ) (at_end : Bool) (copy : Running) (src : List ℕ) → copy ≡ p.filter →
    src ≡ (held p.from dir).bytes → none ≡ 0 → room ≡ limit - length (held p.to dir).bytes →
    stepped copy at_end room none src ≡ stepping dir p limit at_end
step-near dir p limit room none at_end copy src same bytes zero left =
    (λ i. stepped (same i) at_end (left i) (zero i) (bytes i))
    ∙ step-shift p.filter at_end limit (length (held p.to dir).bytes) (held p.from dir).bytes

-- what was made beside the buffers is what the step makes
pub made-near : (dir : Dir) (p : Crossing) (limit : ℕ) (at_end : Bool) (after : Running) (target filled : List ℕ) → target ≡ [] →
    WasMade (stepping dir p limit at_end) after target filled → filled ≡ (stepping dir p limit at_end).made
made-near dir p limit at_end after target filled empty made =
    made.filled_by_it ∙ (λ i. empty i ++ (stepping dir p limit at_end).made)

-- the step of a copy into an empty target, with what the limit leaves, is the step that passes
pub step-beside : (dir : Dir) (p : Crossing) (limit room : ℕ) (mode : Mode) (copy : Running) (src target : List ℕ) →
    copy ≡ p.filter → src ≡ (held p.from dir).bytes → target ≡ [] → room ≡ limit - length (held p.to dir).bytes →
    stepped copy (is_last mode) room (length target) src ≡ passing dir p limit mode
step-beside dir p limit room mode copy src target same bytes empty left =
    step-near dir p limit room (length target) (is_last mode) copy src same bytes (ap length empty) left

-- what is spare behind bytes that came can be read off the result
pub fed-spare : (dir : Dir) (to to' : BevValue) (bytes : List ℕ) (left : ℕ) →
    to' ≡ with_held to dir (more (held to dir) bytes left) →
    to' ≡ with_held to dir (more (held to dir) bytes (held to' dir).spare)
fed-spare Read to to' bytes left is =
    is ∙ ap (λ n. with_held to Read (more (held to Read) bytes n)) (sym (ap (λ (b : BevValue). (held b Read).spare) is))
fed-spare Write to to' bytes left is =
    is ∙ ap (λ n. with_held to Write (more (held to Write) bytes n)) (sym (ap (λ (b : BevValue). (held b Write).spare) is))

-- what it made was put behind the target, and what it used was taken off
pub passed-beside : (dir : Dir) (p : Crossing) (s : Stepped) (used : ℕ) (after : Running) (target filled bytes : List ℕ)
    (from' to' : BevValue) → used ≡ s.used → WasMade s after target filled → target ≡ [] → bytes ≡ filled →
    from' ≡ with_held p.from dir (less (held p.from dir) used (held from' dir).spare) →
    to' ≡ with_held p.to dir (more (held p.to dir) bytes (held to' dir).spare) →
    Crossed dir s p (record { from = from'; to = to'; filter = after })
passed-beside dir p s used after target filled bytes from' to' count made empty put gone come =
    let all : bytes ≡ s.made = put ∙ made.filled_by_it ∙ (λ i. empty i ++ s.made) in
    record {
      gone = gone ∙ (λ i. with_held p.from dir (less (held p.from dir) (count i) (held from' dir).spare));
      come = come ∙ (λ i. with_held p.to dir (more (held p.to dir) (all i) (held to' dir).spare));
      filter = made.after_it;
    }
