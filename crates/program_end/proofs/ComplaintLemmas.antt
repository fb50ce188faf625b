-- A sink that takes a text by two writes.
use Rattle.std.proofs.Common.{◌≡◌, ◌+◌, ℕ, List, ◌++◌, length, take, Option, Result, Ok, Err, OnOk, OnErr, subst, sym, arith, length-append}
use Rattle.std.proofs.lemmas.List.{take-append-le}
use Rattle.std.proofs.Math.Seq.{take-append-add}
use Rattle.ev_port.specs.StreamBytes.{TookOn}
use Rattle.ev_port.proofs.StreamLemmas.{TookOn-join}
use Rattle.program_end.specs.Complains.{TookPart}

-- what was taken before, and what the last write took, is what is owed
pub ok-join : {A E : Type 0} (r : Result A E) (a b c : Option (List ℕ)) (xs ys zs : List ℕ) → TookOn a b xs → xs ++ ys ≡ zs →
    OnOk r (TookOn b c ys) → OnOk r (TookOn a c zs)
ok-join (Ok done) a b c xs ys zs p same q = subst (λ bytes. TookOn a c bytes) same (TookOn-join a b c xs ys p q)
ok-join (Err why) a b c xs ys zs p same q = tt

-- a part of the first of two texts is a part of both
pub part-first : (a b : Option (List ℕ)) (xs ys : List ℕ) → TookPart a b xs → TookPart a b (xs ++ ys)
part-first a b xs ys (n, short, took) =
    let whole = length-append xs ys in
    (n, omega (arith, short, whole), subst (λ bytes. TookOn a b bytes) (sym (take-append-le n xs ys (omega (arith, short)))) took)

-- the first of two texts, and a part of the second behind it
pub part-second : (a b c : Option (List ℕ)) (xs ys : List ℕ) → TookOn a b xs → TookPart b c ys → TookPart a c (xs ++ ys)
part-second a b c xs ys p (n, short, took) =
    let whole = length-append xs ys in
    (length xs + n, omega (arith, short, whole), subst (λ bytes. TookOn a c bytes) (sym (take-append-add xs ys n)) (TookOn-join a b c xs (take n ys) p took))

-- the same of the answer of the last write
pub err-join : {A E : Type 0} (r : Result A E) (a b c : Option (List ℕ)) (xs ys zs : List ℕ) → TookOn a b xs → xs ++ ys ≡ zs →
    OnErr r (TookPart b c ys) → OnErr r (TookPart a c zs)
err-join (Ok done) a b c xs ys zs p same q = tt
err-join (Err why) a b c xs ys zs p same q = subst (λ text. TookPart a c text) same (part-second a b c xs ys p q)

-- what holds whatever the answer is
pub on-err : {A E P : Type 0} (r : Result A E) → P → OnErr r P
on-err (Ok done) p = tt
on-err (Err why) p = p
