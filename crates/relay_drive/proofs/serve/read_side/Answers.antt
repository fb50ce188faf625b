use Rattle.std.proofs.Common.{◌≡◌, ◌≢◌, ℕ, nat_le, arith, true, false, ◌&&◌, refl, sym, ◌∙◌, ap, subst}
use Rattle.std.specs.Prelude.{MatchBool}
use Rattle.std.proofs.lemmas.Bool.{not-true, not-false, le-leb}
use Rattle.token_bucket.specs.declared.limit.Dir.TheVariants as dir
use Rattle.ev_port.specs.Ends.{got_bytes}
use Rattle.relay_state.specs.State.{State}
use Rattle.relay_state.specs.Rooms.{read_room, wants}
use Rattle.relay_steps.proofs.FrameLemmas.{frame-read}
use Rattle.relay_drive.specs.Steps.{Nothing}
use Rattle.relay_drive.specs.Phases.{ReadsWithRoom}
use Rattle.relay_drive.proofs.GoesLemmas.{Grew-none, goes_as, goes_nowhere}
use Rattle.relay_drive.proofs.serve.read_side.Goals as goal

some_room : (n : ℕ) → n ≢ 0 → nat_le 1 n ≡ true
some_room n h = le-leb 1 n (omega (arith, h))

pub returns-then-room-eq0-clause-went : goal.returns-then-room-eq0-clause-went
returns-then-room-eq0-clause-went g c =
    let s = c.args.run.now.relay.state in
    let e = c.args.want.side in
    let none : read_room s e ≡ 0 = sym c.read_room-room.ensures ∙ c.if-room-eq0.true in
    let no : c.args.want.can_read && wants s e dir.Read ≡ false =
    ap (λ b. b && wants s e dir.Read) (not-false c.args.want.can_read c.if-not-want.false) ∙ ap (nat_le 1) none in
    goes_as (λ a p. subst (λ b. MatchBool b (ReadsWithRoom e s a s) (Nothing s a s)) (sym no) p)
    (goes_nowhere refl refl (Grew-none (g.S.Scribe.trace c.args.scribe.now)) (λ s t x k. k))

pub returns-then-not-want-clause-went : goal.returns-then-not-want-clause-went
returns-then-not-want-clause-went g c =
    let s = c.args.run.now.relay.state in
    let e = c.args.want.side in
    let no : c.args.want.can_read && wants s e dir.Read ≡ false =
    ap (λ b. b && wants s e dir.Read) (not-true c.args.want.can_read c.if-not-want.true) in
    goes_as (λ a p. subst (λ b. MatchBool b (ReadsWithRoom e s a s) (Nothing s a s)) (sym no) p)
    (goes_nowhere refl refl (Grew-none (g.S.Scribe.trace c.args.scribe.now)) (λ s t x k. k))

pub returns-clause-went : goal.returns-clause-went
returns-clause-went g c =
    let s = c.args.run.now.relay.state in
    let e = c.args.want.side in
    let new = c.ask_read.new.run.relay.state in
    let yes : c.args.want.can_read && wants s e dir.Read ≡ true =
    ap (λ b. b && wants s e dir.Read) (not-false c.args.want.can_read c.if-not-want.false)
    ∙ some_room (read_room s e) (λ none. c.if-room-eq0.false (c.read_room-room.ensures ∙ none)) in
    goes_as (λ a p. subst (λ b. MatchBool b (ReadsWithRoom e s a new) (Nothing s a new)) (sym yes)
    (c.in_ok-ask_read.field-0, p.0, p.1 ∙ c.read_room-room.ensures, p.2)) c.in_ok-ask_read.ensures.went

pub returns-clause-kept : goal.returns-clause-kept
returns-clause-kept g c =
    let s = c.args.run.now.relay.state in
    let e = c.args.want.side in
    let r = c.in_ok-ask_read.ensures.went.does in
    ap (λ (z : State). z.plain.opened) r.2.state
    ∙ (frame-read s e c.in_ok-ask_read.field-0 (got_bytes c.in_ok-ask_read.field-0 r.0)).opened
