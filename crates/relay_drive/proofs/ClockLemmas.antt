-- What is so of groups and their members as a turn has begun.
use Rattle.std.proofs.Common.{◌≡◌, ◌++◌, Bool, true, false, ◌&&◌, not, List, None, min, max, ◌^◌, length, refl, sym, ◌∙◌, ap}
use Rattle.token_bucket.specs.declared.limit.Dir.{Dir}
use Rattle.ev_types.specs.declared.side.SideId.{SideId}
use Rattle.ev_types.specs.Sides.{number}
use Rattle.ev_types.specs.Trace.{Trace}
use Rattle.number_set.specs.Numbers.{NumberSetValue}
use Rattle.rate_group.specs.Steps.{group_of}
use Rattle.relay_model.specs.Plain.{side_at}
use Rattle.relay_model.specs.Settings.{Settings}
use Rattle.relay_state.specs.State.{State}
use Rattle.relay_steps.specs.Grouped.{Grouped}
use Rattle.relay_steps.proofs.FrameLemmas.{frame-begun}
use Rattle.relay_core.specs.Halts.{is_free}
use Rattle.relay_core.specs.declared.halts.Halts.{Halts}
use Rattle.relay_drive.specs.DriveStands.{StandsBetween}
use Rattle.relay_drive.specs.Phases.{TicksOnce}
use Rattle.relay_drive.proofs.MeantTurn.{tick-stands}

-- the groups fit the trace, and there are as many
module _ (t : Trace) (s new : State) (a : Trace) (st : StandsBetween t s) (h : TicksOnce s a new) where
  pub begun-grouped : Grouped new.settings (t ++ a) new.plain new.groups
  begun-grouped = (tick-stands t s new a h.0 st h.1).stands.grouped

  settings : new.settings ≡ s.settings
  settings = ap (λ (z : State). z.settings) h.1.state ∙ (frame-begun s (max s.plain.time (min h.0 (2 ^ 62)))).settings

  pub begun-many : length new.groups.groups ≡ length s.groups.groups
  begun-many = begun-grouped.many ∙ ap (λ (g : Settings). length g.groups) settings ∙ sym st.grouped.many

-- of two of which not both are so one isn't, and else both are
both : (a b : Bool) → not (a && b) ≡ false → (a ≡ true) × (b ≡ true)
both true true h = (refl, refl)
both true false h = absurd (let wrong : true ≡ false = h in cc)
both false b h = absurd (let wrong : true ≡ false = h in cc)

-- Where the note is as it was, or the side's link isn't among those with members, it says of the side's group what it said.
pub free-alike : (known same : Bool) (was seen : List Halts) (set : NumberSetValue) (s : State) (e : SideId) (d : Dir) →
    (known ≡ true → same ≡ true → seen ≡ was) → (not (known && same) ≡ true → set.has e.link ≡ false) →
    (set.has e.link ≡ false → group_of (number e) s.groups.members ≡ None) →
    group_of (number e) s.groups.members ≡ (side_at s.plain e).group →
    is_free seen d (side_at s.plain e).group ≡ is_free was d (side_at s.plain e).group
free-alike known same was seen set s e d as_was out none member = go (not (known && same)) refl
  where
    go : (b : Bool) → not (known && same) ≡ b → is_free seen d (side_at s.plain e).group ≡ is_free was d (side_at s.plain e).group
    go false is = let p = both known same is in ap (λ xs. is_free xs d (side_at s.plain e).group) (as_was p.0 p.1)
    go true is =
        let alone : (side_at s.plain e).group ≡ None = sym member ∙ none (out is) in
        ap (is_free seen d) alone ∙ sym (ap (is_free was d) alone)
