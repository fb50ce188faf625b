-- What a side wants by what was noted of its group, which is the same as long as its limit leaves it alike.
use Rattle.std.specs.Prelude.{◌||◌, min, ◌-◌, ◌<◌, length, not, List}
use Rattle.std.proofs.Common.{◌≡◌, ℕ, zero, suc, Bool, true, false, ◌&&◌, nat_le, if◌then◌else◌, Option, Some, None, refl, sym, ◌∙◌, ap}
use Rattle.std.proofs.Common.{subst, arith}
use Rattle.std.proofs.lemmas.Bool.{le-leb}
use Rattle.token_bucket.specs.declared.limit.Dir.{Dir}
use Rattle.token_bucket.specs.declared.limit.Dir.TheVariants as dir
use Rattle.ev_types.specs.declared.side.SideId.{SideId}
use Rattle.ev_types.specs.Sides.{number, peer}
use Rattle.ev_port.specs.Table.{WantsValue}
use Rattle.rate_group.specs.Steps.{group_of}
use Rattle.relay_model.specs.Plain.{PlainSide, side_at, is_live}
use Rattle.relay_model.specs.Rooms.{at_most, most_at_once, read_mark, may_read, may_write, is_connecting}
use Rattle.relay_state.specs.State.{State}
use Rattle.relay_state.specs.Rooms.{share, allowance, input_length, waiting_for}
use Rattle.relay_state.specs.Closing.{in_side, out_side}
use Rattle.relay_core.specs.Halts.{is_free}
use Rattle.relay_core.specs.Timeless.{leaves_some, IsLeftAlike}
use Rattle.relay_core.specs.declared.halts.Halts.{Halts}
use Rattle.relay_drive.specs.declared.naming.Naming.{Naming}
use Rattle.relay_drive.specs.Agenda.{IsNamedRight, WouldSayOf}
use Rattle.relay_drive.specs.Links.{WantsAsSeen, would_want, at_time}

-- what is cut leaves some where there is some, and the bound leaves some
at_most-some : (o : Option ℕ) (n : ℕ) → leaves_some o ≡ true → nat_le 1 (at_most o n) ≡ nat_le 1 n
at_most-some None n h = refl
at_most-some (Some zero) n h = absurd (let wrong : false ≡ true = h in cc)
at_most-some (Some (suc m)) zero h = let none : min (suc m) 0 ≡ 0 = omega arith in ap (nat_le 1) none
at_most-some (Some (suc m)) (suc n) h = le-leb 1 (min (suc m) (suc n)) (omega arith) ∙ sym (le-leb 1 (suc n) (omega arith))

-- it leaves some where both do
at_most-and : (o : Option ℕ) (n : ℕ) → nat_le 1 (at_most o n) ≡ (leaves_some o && nat_le 1 n)
at_most-and None n = refl
at_most-and (Some zero) n = let none : min 0 n ≡ 0 = omega arith in ap (nat_le 1) none
at_most-and (Some (suc m)) n =
    let some : leaves_some (Some (suc m)) ≡ true = le-leb 1 (suc m) (omega arith) in
    at_most-some (Some (suc m)) n some ∙ sym (ap (λ c. c && nat_le 1 n) some)

-- a room that is open or not, which is cut to what is left
room-and : (b : Bool) (o : Option ℕ) (n : ℕ) → nat_le 1 (if b then at_most o n else 0) ≡ (leaves_some o && nat_le 1 (if b then n else 0))
room-and true o n = at_most-and o n
room-and false o n = none (leaves_some o)
  where
    none : (c : Bool) → false ≡ (c && false)
    none true = refl
    none false = refl

-- and to what is left alike
room-alike : (b : Bool) (o p : Option ℕ) (n : ℕ) → (b ≡ true → leaves_some o ≡ leaves_some p) →
    nat_le 1 (if b then at_most o n else 0) ≡ nat_le 1 (if b then at_most p n else 0)
room-alike true o p n h = at_most-and o n ∙ ap (λ c. c && nat_le 1 n) (h refl) ∙ sym (at_most-and p n)
room-alike false o p n h = refl

-- only a live side may be read, and written
read-live : (s : State) (e : SideId) → may_read s.plain e ≡ true → is_live s.plain e ≡ true
read-live s e h = go (is_live s.plain e) refl
  where
    x : PlainSide
    x = side_at s.plain e

    go : (b : Bool) → is_live s.plain e ≡ b → is_live s.plain e ≡ true
    go true is = is
    go false is =
        let wrong : false ≡ true = sym (ap (λ b.
        b && not x.connecting && x.reads && not x.ended && not x.failed && (side_at s.plain (peer e)).live) is) ∙ h in
        absurd (cc wrong)

write-live : (s : State) (e : SideId) → may_write s.plain e ≡ true → is_live s.plain e ≡ true
write-live s e h = go (is_live s.plain e) refl
  where
    x : PlainSide
    x = side_at s.plain e

    go : (b : Bool) → is_live s.plain e ≡ b → is_live s.plain e ≡ true
    go true is = is
    go false is =
        let wrong : false ≡ true = sym (ap (λ b. b && not x.connecting && x.writes && not x.failed && not x.write_ended) is) ∙ h in
        absurd (cc wrong)

-- What each side wants, by what was noted of its group.
module _ (seen : List Halts) (s : State)
    (shares : (e : SideId) (d : Dir) → leaves_some (share s e d) ≡ is_free seen d (group_of (number e) s.groups.members))
    (member : (e : SideId) → group_of (number e) s.groups.members ≡ (side_at s.plain e).group) where
  left-seen : (e : SideId) (d : Dir) → leaves_some (share s e d) ≡ is_free seen d (side_at s.plain e).group
  left-seen e d = shares e d ∙ ap (is_free seen d) (member e)

  pub wants-seen : WantsAsSeen seen s
  wants-seen e dir.Read =
      let n = at_most (allowance s e dir.Read) (min most_at_once (read_mark s.plain e - input_length s e)) in
      room-and (may_read s.plain e) (share s e dir.Read) n
      ∙ ap (λ b. b && nat_le 1 (if may_read s.plain e then n else 0)) (left-seen e dir.Read)
  wants-seen e dir.Write =
      let n = at_most (allowance s e dir.Write) (min most_at_once (length (waiting_for s e))) in
      ap (λ b. b || (is_connecting s.plain e && not (side_at s.plain e).failed))
      (room-and (may_write s.plain e) (share s e dir.Write) n
      ∙ ap (λ b. b && nat_le 1 (if may_write s.plain e then n else 0)) (left-seen e dir.Write))

-- A side would want the same at a time until which its limit leaves it alike.
would-later : (seen : List Halts) (ms : ℕ) (s : State) (e : SideId) → IsLeftAlike ms s e → (d : Dir) →
    would_want seen (at_time ms s) e d ≡ would_want seen s e d
would-later seen ms s e h dir.Read =
    ap (λ b. is_free seen dir.Read (side_at s.plain e).group && b)
    (room-alike (may_read s.plain e) (allowance (at_time ms s) e dir.Read) (allowance s e dir.Read)
    (min most_at_once (read_mark s.plain e - input_length s e)) (λ on. h (read-live s e on) dir.Read))
would-later seen ms s e h dir.Write =
    ap (λ b. (is_free seen dir.Write (side_at s.plain e).group && b) || (is_connecting s.plain e && not (side_at s.plain e).failed))
    (room-alike (may_write s.plain e) (allowance (at_time ms s) e dir.Write) (allowance s e dir.Write)
    (min most_at_once (length (waiting_for s e))) (λ on. h (write-live s e on) dir.Write))

-- and the table is right of its link
pub named-later : (t : Naming) (ms k : ℕ) (s : State) → ((e : SideId) → e.link ≡ k → IsLeftAlike ms s e) → IsNamedRight t s k →
    IsNamedRight t (at_time ms s) k
named-later t ms k s h right = (right.0, says (in_side k) refl right.1, says (out_side k) refl right.2, right.3)
  where
    says : (e : SideId) → e.link ≡ k → WouldSayOf t s e → WouldSayOf t (at_time ms s) e
    says e here x = (
      x.0 ∙ sym (would-later t.seen.items ms s e (h e here) dir.Read),
      x.1 ∙ sym (would-later t.seen.items ms s e (h e here) dir.Write),
    )

-- It is right by another note too that says the same of the groups of its sides.
pub named-noted : (t t' : Naming) (k : ℕ) (s : State) → t'.table ≡ t.table →
    ((e : SideId) → e.link ≡ k → (d : Dir) →
    is_free t'.seen.items d (side_at s.plain e).group ≡ is_free t.seen.items d (side_at s.plain e).group) →
    IsNamedRight t s k → IsNamedRight t' s k
named-noted t t' k s same alike right = (
  subst (λ (z : WantsValue). k < z.links) (sym same) right.0,
  says (in_side k) refl right.1,
  says (out_side k) refl right.2,
  right.3,
)
  where
    would : (e : SideId) → e.link ≡ k → (d : Dir) → would_want t.seen.items s e d ≡ would_want t'.seen.items s e d
    would e here dir.Read = ap (λ b. b && nat_le 1 (if may_read s.plain e then at_most (allowance s e dir.Read)
        (min most_at_once (read_mark s.plain e - input_length s e)) else 0)) (sym (alike e here dir.Read))
    would e here dir.Write = ap (λ b. (b && nat_le 1 (if may_write s.plain e then at_most (allowance s e dir.Write)
        (min most_at_once (length (waiting_for s e))) else 0)) || (is_connecting s.plain e && not (side_at s.plain e).failed))
        (sym (alike e here dir.Write))

    says : (e : SideId) → e.link ≡ k → WouldSayOf t s e → WouldSayOf t' s e
    says e here x = (
      ap (λ (z : WantsValue). z.reads (number e)) same ∙ x.0 ∙ would e here dir.Read,
      ap (λ (z : WantsValue). z.writes (number e)) same ∙ x.1 ∙ would e here dir.Write,
    )
