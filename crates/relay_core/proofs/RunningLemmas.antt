-- A link both of whose sides run has nothing to be closed.
use Rattle.std.proofs.Common.{◌≡◌, ℕ, Bool, true, false, ◌&&◌, not, if◌then◌else◌, [], ◌∷◌, Option, Some, None, option_map, refl}
use Rattle.std.specs.Prelude.{is_some, List, ◌==◌}
use Rattle.std.proofs.lemmas.Bool.{and_parts}
use Rattle.std.proofs.lemmas.List.Elements.{All-cons, All-nil}
use Rattle.ev_types.specs.declared.side.SideId.{SideId}
use Rattle.ev_types.specs.declared.entry.Entry.{Entry}
use Rattle.ev_types.specs.declared.entry.Entry.TheVariants as entry
use Rattle.ev_types.specs.declared.why.Cause.{Cause}
use Rattle.ev_types.specs.declared.why.Cause.TheVariants as cause
use Rattle.ev_types.specs.Sides.{peer}
use Rattle.relay_model.specs.Plain.{PlainSide, side_at, is_live}
use Rattle.relay_model.specs.Close.{fault, entry_where, freed_entry}
use Rattle.relay_state.specs.State.{State}
use Rattle.relay_state.specs.Closing.{in_side, out_side, is_complete}
use Rattle.relay_state.specs.Rooms.{output_length}
use Rattle.relay_core.specs.declared.close.Closing.{Closing}
use Rattle.relay_core.specs.declared.close.Closing.TheVariants as closing
use Rattle.relay_core.specs.Steps.{IsUncalled, IsSettled, is_running_side, is_running}

-- what is so of a side that runs
record Runs (x : PlainSide) : Type 0 where
  pub live : x.live ≡ true
  pub unended : x.ended ≡ false
  pub writing : x.write_ended ≡ false
  pub sound : is_some (fault x) ≡ false

not-true : (b : Bool) → not b ≡ true → b ≡ false
not-true true h = absurd (cc h)
not-true false h = refl

runs : (x : PlainSide) → is_running_side x ≡ true → Runs x
runs x h =
    let a = and_parts _ _ h in
    let b = and_parts _ _ a.1 in
    let c = and_parts _ _ b.1 in
    record { live = a.0; unended = not-true x.ended b.0; writing = not-true x.write_ended c.0; sound = not-true (is_some (fault x)) c.1 }

faultless : (b : Bool) (o : Option Cause) (f : Cause → Entry) → is_some o ≡ false →
    is_some (if b then option_map f o else None) ≡ false
faultless false o f h = refl
faultless true None f h = refl
faultless true (Some why) f h = absurd (cc h)

where-not : (b : Bool) (x : Entry) → b ≡ false → is_some (entry_where b x) ≡ false
where-not true x h = absurd (cc h)
where-not false x h = refl

third : (a b c d e : Bool) → c ≡ false → (a && b && c && d && e) ≡ false
third a b true d e h = absurd (cc h)
third false b false d e h = refl
third true false false d e h = refl
third true true false d e h = refl

both-third : (a b c d : Bool) → c ≡ false → (a && b && c && d) ≡ false
both-third a b true d h = absurd (cc h)
both-third false b false d h = refl
both-third true false false d h = refl
both-third true true false d h = refl

second : (a b c : Bool) → b ≡ true → (a && not b && c) ≡ false
second a false c h = absurd (cc h)
second false true c h = refl
second true true c h = refl

gone : (a b : Bool) → a ≡ true → (not a && b) ≡ false
gone true b h = refl
gone false b h = absurd (cc h)

unfinished : (s : State) (e : SideId) → (side_at s.plain e).ended ≡ false → is_complete s e ≡ false
unfinished s e h = rw h

faulty : (s : State) (e : SideId) → is_some (fault (side_at s.plain e)) ≡ false → IsUncalled s (closing.Faulty e)
faulty s e h = faultless (is_live s.plain e) (fault (side_at s.plain e)) (freed_entry s.plain e) h

ending : (s : State) (e : SideId) → (side_at s.plain (peer e)).ended ≡ false → IsUncalled s (closing.EndWriting e)
ending s e h =
    let x = side_at s.plain e in
    where-not (x.live && is_live s.plain (peer e) && is_complete s (peer e) && not x.connecting && not x.write_ended)
    (entry.CloseWrite e)
    (third x.live (is_live s.plain (peer e)) (is_complete s (peer e)) (not x.connecting) (not x.write_ended)
    (unfinished s (peer e) h))

done : (s : State) (k : ℕ) → (side_at s.plain (in_side k)).write_ended ≡ false → IsUncalled s (closing.BothDone k)
done s k h =
    let x = side_at s.plain (in_side k) in
    let y = side_at s.plain (out_side k) in
    where-not (x.live && y.live && x.write_ended && y.write_ended) (freed_entry s.plain (in_side k) cause.Done)
    (both-third x.live y.live x.write_ended y.write_ended h)

left : (s : State) (e : SideId) → is_live s.plain (peer e) ≡ true → IsUncalled s (closing.PeerGone e)
left s e h =
    where-not (is_live s.plain e && not (is_live s.plain (peer e)) && output_length s e == 0) (freed_entry s.plain e cause.PeerGone)
    (second (is_live s.plain e) (is_live s.plain (peer e)) (output_length s e == 0) h)

not-shut : (s : State) (e : SideId) → is_live s.plain e ≡ true → IsUncalled s (closing.Shut e)
not-shut s e h =
    where-not (not (is_live s.plain e) && not (side_at s.plain e).closed) (entry.Close e)
    (gone (is_live s.plain e) (not (side_at s.plain e).closed) h)

pub running-settled : (s : State) (k : ℕ) → is_running s k ≡ true → IsSettled s k
running-settled s k h =
    let both = and_parts (is_running_side (side_at s.plain (in_side k))) (is_running_side (side_at s.plain (out_side k))) h in
    let a = runs (side_at s.plain (in_side k)) both.0 in
    let b = runs (side_at s.plain (out_side k)) both.1 in
    let P : Closing → Type 0 = IsUncalled s in
    let l1 : List Closing = closing.Shut (out_side k) ∷ [] in
    let l2 : List Closing = closing.Shut (in_side k) ∷ l1 in
    let l3 : List Closing = closing.PeerGone (out_side k) ∷ l2 in
    let l4 : List Closing = closing.PeerGone (in_side k) ∷ l3 in
    let l5 : List Closing = closing.BothDone k ∷ l4 in
    let l6 : List Closing = closing.EndWriting (in_side k) ∷ l5 in
    let l7 : List Closing = closing.EndWriting (out_side k) ∷ l6 in
    let l8 : List Closing = closing.Faulty (out_side k) ∷ l7 in
    All-cons P (closing.Faulty (in_side k)) l8 (faulty s (in_side k) a.sound)
    (All-cons P (closing.Faulty (out_side k)) l7 (faulty s (out_side k) b.sound)
    (All-cons P (closing.EndWriting (out_side k)) l6 (ending s (out_side k) a.unended)
    (All-cons P (closing.EndWriting (in_side k)) l5 (ending s (in_side k) b.unended)
    (All-cons P (closing.BothDone k) l4 (done s k a.writing)
    (All-cons P (closing.PeerGone (in_side k)) l3 (left s (in_side k) b.live)
    (All-cons P (closing.PeerGone (out_side k)) l2 (left s (out_side k) a.live)
    (All-cons P (closing.Shut (in_side k)) l1 (not-shut s (in_side k) a.live)
    (All-cons P (closing.Shut (out_side k)) [] (not-shut s (out_side k) b.live) (All-nil P)))))))))
