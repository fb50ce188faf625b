-- Where its ends stand as the script and the trace say, a script port answers what the script answers.
use Rattle.std.proofs.Common.{◌≡◌, ℕ, ◌+◌, ◌-◌, ◌^◌, ◌<◌, min, Bool, true, false, ◌==◌, not, nat_le, if◌then◌else◌, List, [], ◌∷◌, length}
use Rattle.std.proofs.Common.{take, Option, Some, None, refl, ap, ◌∙◌, arith, inl, inr}
use Rattle.std.proofs.lemmas.Bool.{cases_Bool}
use Rattle.std.proofs.lemmas.Bool.Decides.{eqb_tells, leb_tells}
use Rattle.std.proofs.Math.Seq.{take-nil}
use Rattle.std.proofs.Math.Nat.{min_comm}
use Rattle.ev_types.specs.declared.answer.ReadAnswer.{ReadAnswer}
use Rattle.ev_types.specs.declared.answer.ReadAnswer.TheVariants as read
use Rattle.ev_types.specs.declared.answer.WriteAnswer.{WriteAnswer}
use Rattle.ev_types.specs.declared.answer.WriteAnswer.TheVariants as write
use Rattle.relay_model.specs.Rooms.{at_most}
use Rattle.ev_port.specs.Ends.{took_bytes}
use Rattle.script_port.specs.ScriptState.{EndState}
use Rattle.script_port.specs.ScriptEnds.{read_answer, taken_of, write_answer}
use Rattle.script_port.specs.ScriptVouched.{MayTake}

pub one_le : (n : ℕ) → nat_le 1 n ≡ not (n == 0)
one_le n =
    elim (leb_tells 1 n) [
      | inl t ↦ elim (eqb_tells n 0) [ inl e ↦ absurd (let a = t.1 in let b = e.1 in omega (arith, a, b)) | inr e ↦ rw (t.0, e.0) refl ]
      | inr t ↦ elim (eqb_tells n 0) [ inl e ↦ rw (t.0, e.0) refl | inr e ↦ absurd (e.1 (let a = t.1 in omega (arith, a))) ]
    ]

-- Reads

abbrev pub reads : List ℕ → Bool → Bool → ℕ → ReadAnswer × List ℕ
reads xs fail end room =
    if nat_le 1 (length xs) then (read.Got (min room (length xs)), take room xs) else (if fail then (read.Failed, [])
    else (if end then (read.Ended, []) else (read.NotYet, [])))

empty : (xs : List ℕ) → length xs ≡ 0 → xs ≡ []
empty [] h = refl
empty (x ∷ xs) h = absurd (omega (arith, h))

pub reads_same : (s : EndState) (room : ℕ) → reads s.pending s.read_fails s.eof room ≡ (read_answer s room, take room s.pending)
reads_same s room =
    elim (eqb_tells (length s.pending) 0) [
      | inl none ↦
          let nothing : take room s.pending ≡ [] = ap (take room) (empty s.pending none.1) ∙ take-nil room in
          let test : nat_le 1 (length s.pending) ≡ false = one_le (length s.pending) ∙ ap not none.0 in
          elim (cases_Bool s.read_fails) [
            | inl fails ↦ rw (test, none.0, fails, nothing) refl
            | inr fails ↦ elim (cases_Bool s.eof) [
              | inl eof ↦ rw (test, none.0, fails, eof, nothing) refl
              | inr eof
                  ↦ rw (test, none.0, fails, eof, nothing) refl
            ]
          ]
      | inr some ↦
          let test : nat_le 1 (length s.pending) ≡ true = one_le (length s.pending) ∙ ap not some.0 in
          let least = min_comm room (length s.pending) in
          rw (test, some.0, least) refl
    ]

-- Writes

abbrev pub writes : Option ℕ → Bool → List ℕ → WriteAnswer × List ℕ
writes most fail offered =
    let n = at_most most (length offered) in
    if nat_le 1 n then (write.Took n, take n offered) else (if fail then (write.Failed, []) else (write.NotYet, []))

pub writes_same : (most : Option ℕ) (s : EndState) (from : List ℕ) → at_most most (length from) ≡ taken_of s.may_take (length from)
    → writes most s.write_fails from ≡ (write_answer s (length from), took_bytes (write_answer s (length from)) from)
writes_same most s from same =
    elim (eqb_tells (taken_of s.may_take (length from)) 0) [
      | inl none ↦
          let test : nat_le 1 (at_most most (length from)) ≡ false = one_le (at_most most (length from)) ∙ ap (λ n. not (n == 0))
          same ∙ ap not none.0 in
          elim (cases_Bool s.write_fails) [ inl fails ↦ rw (test, none.0, fails) refl | inr fails ↦ rw (test, none.0, fails) refl ]
      | inr some ↦
          let test : nat_le 1 (at_most most (length from)) ≡ true = one_le (at_most most (length from)) ∙ ap (λ n. not (n == 0))
          same ∙ ap not some.0 in
          rw (test, some.0, same) refl
    ]

-- what the script lets an end take, by what is allowed and what was given
abbrev pub lets : Bool → ℕ → ℕ → Option ℕ
lets any allowed given = if any then None else Some (allowed - given)

pub takes_same : (o : Option ℕ) (any : Bool) (allowed taken offer : ℕ) → MayTake o any allowed taken → taken + taken_of o offer < 2
    ^ 64 - 1 → at_most (lets any allowed taken) offer ≡ taken_of o offer
takes_same None any allowed taken offer h fits = rw h refl
takes_same (Some k) any allowed taken offer h fits = let least = h.1.least in let most = h.1.most in rw h.0
    (omega (arith, least, most, fits))

pub takes_any : (o : Option ℕ) (any : Bool) (allowed taken : ℕ) → MayTake o any allowed taken → nat_le 1
    (at_most (lets any allowed taken) 1) ≡ not (taken_of o 1 == 0)
takes_any None any allowed taken h = rw h refl
takes_any (Some k) any allowed taken h =
    let least = h.1.least in
    let most = h.1.most in
    let within = h.1.within in
    rw h.0
    (elim (leb_tells 1 (min (allowed - taken) 1)) [
      | inl t ↦ elim (eqb_tells (min 1 k) 0) [
        | inl e ↦ absurd (let a = t.1 in let b = e.1 in
            omega (arith, a, b, least, most, within))
        | inr e ↦ rw (t.0, e.0) refl
      ]
      | inr t ↦ elim (eqb_tells (min 1 k) 0) [
        | inl e ↦ rw (t.0, e.0) refl
        | inr e ↦ absurd
            (e.1 (let a = t.1 in omega (arith, a, least, most, within)))
      ]
    ])
