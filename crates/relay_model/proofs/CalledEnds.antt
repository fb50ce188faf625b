-- Which call a mark calls for: where it calls for nothing, the side wants nothing that it marks, or the rest of the mark is left.
use Rattle.std.proofs.Common.{◌≡◌, ℕ, Bool, true, false, ◌&&◌, not, if◌then◌else◌, List, ◌∷◌, ◌⊎◌, inl, inr, refl, sym, ◌∙◌, ap, subst}
use Rattle.std.specs.Prelude.{nat_le}
use Rattle.std.specs.List.{list_any}
use Rattle.std.proofs.lemmas.Bool.{or_left, or_right, or_cases, and_parts, and_from}
use Rattle.token_bucket.specs.declared.limit.Dir.{Dir}
use Rattle.token_bucket.specs.declared.limit.Dir.TheVariants as dir
use Rattle.ev_types.specs.declared.side.SideId.{SideId}
use Rattle.ev_types.specs.Sides.{peer, same_end}
use Rattle.ev_types.specs.Trace.{Trace}
use Rattle.relay_model.specs.Settings.{Settings}
use Rattle.relay_model.specs.Plain.{Plain, side_at, is_live}
use Rattle.relay_model.specs.Past.{Past, past}
use Rattle.relay_model.specs.Rooms.{Want, wants, is_connecting, read_room, write_room, may_read, may_write}
use Rattle.relay_model.specs.Serve.{Call, call_for, marks_left}
use Rattle.relay_model.proofs.EndLemmas.{same_end-eq}
use Rattle.relay_model.proofs.PlacedLemmas.{room-read, room-write}
use Rattle.relay_model.proofs.PlainWants.{flag, has, HasWant}

-- A mark that calls for something

-- a check is called for at an end that is connecting, and a write where there is something to write
pub call-connect : (g : Settings) (t : Trace) (s : Plain) (m : Want) → call_for g (past g t) s m ≡ Call.AskConnect →
    is_connecting s m.side ≡ true
call-connect g t s m h =
    go (is_connecting s m.side) m.write m.read (nat_le 1 (read_room g (past g t) s m.side)) (nat_le 1 (write_room g (past g t) s m.side)) h
  where
    go : (a b c d f : Bool) → (if a then (if b then Call.AskConnect else Call.Nothing)
        else (if c then (if d then Call.AskRead (read_room g (past g t) s m.side) else Call.Nothing)
        else (if b && f then Call.AskWrite (write_room g (past g t) s m.side) else Call.Nothing))) ≡ Call.AskConnect → a ≡ true
    go true b c d f h = refl
    go false b true true f h = absurd (cc)
    go false b true false f h = absurd (cc)
    go false true false d true h = absurd (cc)
    go false true false d false h = absurd (cc)
    go false false false d f h = absurd (cc)

pub call-write : (g : Settings) (t : Trace) (s : Plain) (m : Want) (offered : ℕ) → call_for g (past g t) s m ≡ Call.AskWrite offered →
    nat_le 1 offered ≡ true
call-write g t s m offered h =
    go (is_connecting s m.side) m.write m.read (nat_le 1 (read_room g (past g t) s m.side))
    (nat_le 1 (write_room g (past g t) s m.side)) refl h
  where
    go : (a b c d f : Bool) → nat_le 1 (write_room g (past g t) s m.side) ≡ f → (if a then (if b then Call.AskConnect else Call.Nothing)
        else (if c then (if d then Call.AskRead (read_room g (past g t) s m.side) else Call.Nothing)
        else (if b && f then Call.AskWrite (write_room g (past g t) s m.side) else Call.Nothing))) ≡ Call.AskWrite offered →
        nat_le 1 offered ≡ true
    go true true c d f e h = absurd (cc)
    go true false c d f e h = absurd (cc)
    go false b true true f e h = absurd (cc)
    go false b true false f e h = absurd (cc)
    go false true false d true e h = let same : write_room g (past g t) s m.side ≡ offered = cc in ap (nat_le 1) (sym same) ∙ e
    go false true false d false e h = absurd (cc)
    go false false false d f e h = absurd (cc)

-- A mark that calls for nothing

not-idle : (s : Plain) (z : SideId) → ((side_at s z).live && not (side_at s z).connecting) ≡ true → is_connecting s z ≡ false
not-idle s z h = go (side_at s z).live (side_at s z).connecting h
  where
    go : (a b : Bool) → (a && not b) ≡ true → (a && b) ≡ false
    go true true h = absurd (cc)
    go true false h = refl
    go false b h = refl

reads-idle : (s : Plain) (z : SideId) → may_read s z ≡ true → is_connecting s z ≡ false
reads-idle s z h =
    let x = side_at s z in
    let a = and_parts (x.live && not x.connecting && x.reads && not x.ended && not x.failed) (is_live s (peer z)) h in
    let b = and_parts (x.live && not x.connecting && x.reads && not x.ended) (not x.failed) a.0 in
    let c = and_parts (x.live && not x.connecting && x.reads) (not x.ended) b.0 in
    not-idle s z (and_parts (x.live && not x.connecting) x.reads c.0).0

writes-idle : (s : Plain) (z : SideId) → may_write s z ≡ true → is_connecting s z ≡ false
writes-idle s z h =
    let x = side_at s z in
    let a = and_parts (x.live && not x.connecting && x.writes && not x.failed) (not x.write_ended) h in
    let b = and_parts (x.live && not x.connecting && x.writes) (not x.failed) a.0 in
    not-idle s z (and_parts (x.live && not x.connecting) x.writes b.0).0

-- it isn't that of a want, or it is left
module _ (g : Settings) (p : Past) (s : Plain) (m : Want) (ms : List Want) (nothing : call_for g p s m ≡ Call.Nothing) where
  calls-read : is_connecting s m.side ≡ false → m.read ≡ true → nat_le 1 (read_room g p s m.side) ≡ true → ⊥
  calls-read idle marked room =
      let is : call_for g p s m ≡ Call.AskRead (read_room g p s m.side) =
      λ i. if idle i then (if m.write then Call.AskConnect else Call.Nothing)
      else (if marked i then (if room i then Call.AskRead (read_room g p s m.side) else Call.Nothing)
      else (if m.write && nat_le 1 (write_room g p s m.side) then Call.AskWrite (write_room g p s m.side) else Call.Nothing)) in cc

  calls-write : is_connecting s m.side ≡ false → m.read ≡ false → m.write ≡ true → nat_le 1 (write_room g p s m.side) ≡ true → ⊥
  calls-write idle unmarked marked room =
      let is : call_for g p s m ≡ Call.AskWrite (write_room g p s m.side) =
      λ i. if idle i then (if m.write then Call.AskConnect else Call.Nothing)
      else (if unmarked i then (if nat_le 1 (read_room g p s m.side) then Call.AskRead (read_room g p s m.side) else Call.Nothing)
      else (if marked i && room i then Call.AskWrite (write_room g p s m.side) else Call.Nothing)) in cc

  calls-check : is_connecting s m.side ≡ true → m.write ≡ true → ⊥
  calls-check connecting marked =
      let is : call_for g p s m ≡ Call.AskConnect =
      λ i. if connecting i then (if marked i then Call.AskConnect else Call.Nothing)
      else (if m.read then (if nat_le 1 (read_room g p s m.side) then Call.AskRead (read_room g p s m.side) else Call.Nothing)
      else (if m.write && nat_le 1 (write_room g p s m.side) then Call.AskWrite (write_room g p s m.side) else Call.Nothing)) in cc

  later-left : (z : SideId) (d : Dir) → HasWant z d ms → HasWant z d (marks_left s m ms)
  later-left z d h = go (not (is_connecting s m.side) && m.read)
    where
      go : (b : Bool) → HasWant z d (if b then record m { read = false } ∷ ms else ms)
      go true = or_right (has z d (record m { read = false })) (list_any (has z d) ms) h
      go false = h

  own-left : (d : Dir) → wants g p s m.side d ≡ true → flag d m ≡ true → same_end m.side m.side ≡ true →
      HasWant m.side d (marks_left s m ms)
  own-left dir.Read w marked same =
      absurd (calls-read (reads-idle s m.side (room-read g p s m.side w)) marked w)
  own-left dir.Write w marked same =
      go (or_cases (nat_le 1 (write_room g p s m.side)) (is_connecting s m.side && not (side_at s m.side).failed) w)
    where
      go : (nat_le 1 (write_room g p s m.side) ≡ true) ⊎ ((is_connecting s m.side && not (side_at s m.side).failed) ≡ true) →
          HasWant m.side dir.Write (marks_left s m ms)
      go (inr k) = absurd (calls-check (and_parts (is_connecting s m.side) (not (side_at s m.side).failed) k).0 marked)
      go (inl room) = by_read m.read refl
        where
          idle : is_connecting s m.side ≡ false
          idle = writes-idle s m.side (room-write g p s m.side room)

          by_read : (b : Bool) → m.read ≡ b → HasWant m.side dir.Write (marks_left s m ms)
          by_read true e =
              let is : marks_left s m ms ≡ record m { read = false } ∷ ms =
              λ i. if not (idle i) && e i then record m { read = false } ∷ ms else ms in
              subst (λ v. HasWant m.side dir.Write v) (sym is)
              (or_left (has m.side dir.Write (record m { read = false })) (list_any (has m.side dir.Write) ms)
              (and_from (same_end m.side m.side) m.write same marked))
          by_read false e = absurd (calls-write idle e marked room)

  pub mark-left : (z : SideId) (d : Dir) → wants g p s z d ≡ true → HasWant z d (m ∷ ms) → HasWant z d (marks_left s m ms)
  mark-left z d w h = elim (or_cases (has z d m) (list_any (has z d) ms) h) [
    | inr rest ↦ later-left z d rest
    | inl own ↦
        (let parts = and_parts (same_end m.side z) (flag d m) own in
        let is = same_end-eq m.side z parts.0 in
        subst (λ v. HasWant v d (marks_left s m ms)) is
        (own-left d (ap (λ v. wants g p s v d) is ∙ w) parts.1 (ap (λ v. same_end m.side v) is ∙ parts.0)))
  ]
