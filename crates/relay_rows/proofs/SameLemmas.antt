-- What passes a test for the same value is the same value.
use Rattle.std.proofs.Common.{◌≡◌, ℕ, Bool, true, false, ◌==◌, ◌&&◌, List, [], ◌∷◌, Option, Some, None, refl, ap, eqb-true}
use Rattle.std.proofs.lemmas.Bool.{and_parts}
use Rattle.ev_types.specs.declared.side.Side.{Side}
use Rattle.ev_types.specs.declared.side.Side.TheVariants.{In, Out}
use Rattle.ev_types.specs.declared.side.SideId.{SideId}
use Rattle.ev_types.specs.declared.why.Cause.{Cause}
use Rattle.ev_types.specs.declared.why.Cause.TheVariants as cause
use Rattle.ev_types.specs.declared.why.Why.{Why}
use Rattle.ev_types.specs.declared.why.Why.TheVariants as why
use Rattle.ev_types.specs.declared.answer.AskAnswer.{AskAnswer}
use Rattle.ev_types.specs.declared.answer.AskAnswer.TheVariants as ask
use Rattle.ev_types.specs.declared.entry.Entry.{Entry}
use Rattle.ev_types.specs.declared.entry.Entry.TheVariants as entry
use Rattle.ev_types.specs.Sides.{same_side, same_end}
use Rattle.relay_model.specs.Flow.{Flow}
use Rattle.relay_rows.specs.Same.{is_empty, same_flag, same_number, same_cause, same_why, same_answer, same_end_of, same_flow}

pub is_empty-is : (xs : List ℕ) → is_empty xs ≡ true → xs ≡ []
is_empty-is [] h = refl
is_empty-is (x ∷ xs) h = absurd (cc)

pub same_flag-is : (a b : Bool) → same_flag a b ≡ true → a ≡ b
same_flag-is true true h = refl
same_flag-is false false h = refl
same_flag-is true false h = absurd (cc)
same_flag-is false true h = absurd (cc)

pub same_number-is : (a b : Option ℕ) → same_number a b ≡ true → a ≡ b
same_number-is None None h = refl
same_number-is (Some a) (Some b) h = ap Some (eqb-true a b h)
same_number-is None (Some b) h = absurd (cc)
same_number-is (Some a) None h = absurd (cc)

same_side-is : (a b : Side) → same_side a b ≡ true → a ≡ b
same_side-is In In h = refl
same_side-is Out Out h = refl
same_side-is In Out h = absurd (cc)
same_side-is Out In h = absurd (cc)

pub same_end-is : (a b : SideId) → same_end a b ≡ true → a ≡ b
same_end-is a b h =
    let p = and_parts (a.link == b.link) (same_side a.side b.side) h in
    let k = eqb-true a.link b.link p.0 in
    let s = same_side-is a.side b.side p.1 in
    λ i. record { link = k i; side = s i }

pub same_cause-is : (a b : Cause) → same_cause a b ≡ true → a ≡ b
same_cause-is cause.Hook cause.Hook h = refl
same_cause-is cause.Done cause.Done h = refl
same_cause-is cause.PeerGone cause.PeerGone h = refl
same_cause-is cause.Failed cause.Failed h = refl
same_cause-is cause.Timeout cause.Timeout h = refl
same_cause-is (cause.Filter a) (cause.Filter b) h = ap cause.Filter (eqb-true a b h)
same_cause-is _ _ h = absurd (cc)

pub same_why-is : (a b : Why) → same_why a b ≡ true → a ≡ b
same_why-is why.Connected why.Connected h = refl
same_why-is why.Read why.Read h = refl
same_why-is why.Write why.Write h = refl
same_why-is why.Timer why.Timer h = refl
same_why-is (why.Event a) (why.Event b) h = ap (λ n. why.Event (record { 0 = n })) (eqb-true a.0 b.0 h)
same_why-is _ _ h = absurd (cc)

pub same_answer-is : (a b : AskAnswer) → same_answer a b ≡ true → a ≡ b
same_answer-is ask.Ok ask.Ok h = refl
same_answer-is ask.NotLive ask.NotLive h = refl
same_answer-is ask.NoGroup ask.NoGroup h = refl
same_answer-is ask.BadValue ask.BadValue h = refl
same_answer-is ask.TooManyRefs ask.TooManyRefs h = refl
same_answer-is ask.Memory ask.Memory h = refl
same_answer-is _ _ h = absurd (cc)

pub same_end_of-is : (a b : Entry) → same_end_of a b ≡ true → a ≡ b
same_end_of-is (entry.Freed a b c d) (entry.Freed w x y z) h =
    let p = and_parts (same_end a w && same_cause b x && c == y) (d == z) h in
    let q = and_parts (same_end a w && same_cause b x) (c == y) p.0 in
    let r = and_parts (same_end a w) (same_cause b x) q.0 in
    let side = same_end-is a w r.0 in
    let why = same_cause-is b x r.1 in
    let moved = eqb-true c y q.1 in
    let given = eqb-true d z p.1 in
    λ i. entry.Freed (side i) (why i) (moved i) (given i)
same_end_of-is (entry.CloseWrite a) (entry.CloseWrite b) h = ap entry.CloseWrite (same_end-is a b h)
same_end_of-is (entry.Close a) (entry.Close b) h = ap entry.Close (same_end-is a b h)
same_end_of-is _ _ h = absurd (cc)

pub same_flow-is : (a b : Flow) → same_flow a b ≡ true → a ≡ b
same_flow-is a b h =
    let held = and_parts (a.used == b.used && a.moved == b.moved && a.turned == b.turned && a.given == b.given && same_flag
    a.read_done b.read_done && same_flag a.write_done b.write_done) (same_flag a.held b.held) h in
    let write = and_parts (a.used == b.used && a.moved == b.moved && a.turned == b.turned && a.given == b.given && same_flag
    a.read_done b.read_done) (same_flag a.write_done b.write_done) held.0 in
    let read = and_parts (a.used == b.used && a.moved == b.moved && a.turned == b.turned && a.given == b.given)
    (same_flag a.read_done b.read_done) write.0 in
    let given = and_parts (a.used == b.used && a.moved == b.moved && a.turned == b.turned) (a.given == b.given) read.0 in
    let turned = and_parts (a.used == b.used && a.moved == b.moved) (a.turned == b.turned) given.0 in
    let used = and_parts (a.used == b.used) (a.moved == b.moved) turned.0 in
    let e1 = eqb-true a.used b.used used.0 in
    let e2 = eqb-true a.moved b.moved used.1 in
    let e3 = eqb-true a.turned b.turned turned.1 in
    let e4 = eqb-true a.given b.given given.1 in
    let e5 = same_flag-is a.read_done b.read_done read.1 in
    let e6 = same_flag-is a.write_done b.write_done write.1 in
    let e7 = same_flag-is a.held b.held held.1 in
    λ i. record { used = e1 i; moved = e2 i; turned = e3 i; given = e4 i; read_done = e5 i; write_done = e6 i; held = e7 i }
