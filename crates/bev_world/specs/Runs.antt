-- The run of a batch: which calls are started, in which order, and what becomes of the boxes that are called.
use Rattle.std.specs.Prelude.{◌≡◌, length, ℕ, Bool, true, false, ◌&&◌, if◌then◌else◌, List, [], ◌∷◌, ◌++◌, ◌-◌, ◌^◌, min, count_by, Result}
use Rattle.std.specs.Prelude.{Ok, Err, slice_index_or, slice_set, Option, option_map, Some, None, is_some}
use Rattle.std.specs.Bool.{MatchBool}
use Rattle.std.specs.declared.alloc.Global.{Global}
use Rattle.std.specs.declared.dyn_box.DynBox.{DynBox}
use Rattle.ev_types.specs.declared.why.Why.{Why}
use Rattle.deferred_cb.specs.DueCalls.{Call}
use Rattle.bev_world.specs.declared.fault.WorldFault.{WorldFault}
use Rattle.bev_world.specs.declared.fault.WorldFault.TheVariants.{Memory}
use Rattle.bev_world.specs.declared.roster.Roster.{Roster}
use Rattle.bev_world.specs.Batches.{batch_begun}
use Rattle.bev_world.specs.WorldValue.{WorldValue, is_live}
use Rattle.bev_world.specs.Went.{Went}

-- who tells, tells this more
abbrev pub told_more : {A : Type 0} → Option (List A) → List A → Option (List A)
told_more told more = option_map (λ xs. xs ++ more) told

-- A world with its boxes by number: those in their slots, and those that were taken out for good since their bufferevent was freed.
pub record Served (H : Type 0) : Type 0 where
  pub world : WorldValue
  pub serving : List (Option H)
  pub retired : List (Option H)

-- a world with the boxes of a roster
abbrev pub served : {X : Type 0} {F : X → Type 0} → WorldValue → Roster X F → Served (DynBox X Global F)
served w r = record { world = w; serving = r.serving.items; retired = r.retired.items }

-- a roster has as many slots for boxes that serve as for those that were taken out for good
abbrev pub IsLevel : {X : Type 0} {F : X → Type 0} → Roster X F → Type 0
IsLevel r = length r.retired.items ≡ length r.serving.items

-- the box of this number
abbrev pub box_at : {H : Type 0} → List (Option H) → ℕ → Option H
box_at boxes n = slice_index_or boxes n None

-- is there a box in the slot of this number
abbrev pub has_box : {H : Type 0} → List (Option H) → ℕ → Bool
has_box boxes n = is_some (box_at boxes n)

-- a call is started where its bufferevent is live and has a box
abbrev pub is_started : {H : Type 0} → Served H → Call → Bool
is_started s call = is_live s.world call.0 && has_box s.serving call.0

-- the call is the first of the batch, and is taken out of it
abbrev pub taken_out : {H : Type 0} → Served H → List Call → Served H
taken_out s rest = record s { world = record s.world { batch = rest } }

-- what boxes may do, as they tell it: to the world before, called at this number for this reason, so that the world is this one after
abbrev pub MayDo : Type 0 → Type 1
MayDo H = H → ℕ → Why → WorldValue → WorldValue → Type 0

-- The box of a call was called: it was out of its slot, heard the reason where it answers Ok, and lies where it belongs: in its
-- slot, where its bufferevent is live then, and else among those that were taken out for good. The world is what the box made of it,
-- and nothing else was done.
pub record Called {H : Type 0} (heard : H → Option (List Why)) (did : MayDo H) (ok : Bool) (call : Call) (s new : Served H) : Type 0 where
  pub was : H
  pub box : H
  pub there : box_at s.serving call.0 ≡ Some was
  pub went : Went s.world new.world
  pub does : did was call.0 call.1 s.world new.world
  pub hears : ok ≡ true → heard box ≡ told_more (heard was) (call.1 ∷ [])
  pub serving : new.serving ≡ slice_set s.serving call.0 (if is_live new.world call.0 then Some box else None)
  pub retired : new.retired ≡ (if is_live new.world call.0 then s.retired else slice_set s.retired call.0 (Some box))

-- a call that is out of the batch was started where it is to be, and else nothing was done
abbrev pub Done : {H : Type 0} → (H → Option (List Why)) → MayDo H → Call → Served H → Served H → Type 0
Done heard did call s new = MatchBool (is_started s call) (Called heard did true call s new) (new ≡ s)

-- A call that is out of the batch was started, and its box wanted memory: the batch is cut off behind that call.
pub record DoneShort {H : Type 0} (heard : H → Option (List Why)) (did : MayDo H) (call : Call) (s new : Served H) : Type 0 where
  pub left : Served H
  pub start : is_started s call ≡ true
  pub called : Called heard did false call s left
  pub cut : new ≡ record left { world = record left.world { cut = true } }

-- the first call of the batch was taken, and started where it is to be
pub record Took {H : Type 0} (heard : H → Option (List Why)) (did : MayDo H) (call : Call) (s new : Served H) : Type 0 where
  pub rest : List Call
  pub first : s.world.batch ≡ call ∷ rest
  pub done : Done heard did call (taken_out s rest) new

-- Calls of the batch were taken one after the other. Each stands beside whether it was started.
abbrev pub TookAll : {H : Type 0} → (H → Option (List Why)) → MayDo H → List (Call × Bool) → Served H → Served H → Type 0
TookAll heard did [] s new = new ≡ s
TookAll {H = H} heard did (c ∷ cs) s new =
    (mid : Served H) × (c.1 ≡ is_started s c.0) × Took heard did c.0 s mid × TookAll heard did cs mid new

-- how many of them were started
abbrev pub started : List (Call × Bool) → ℕ
started cs = count_by (λ c. c.1) cs

-- The batch was run to its end: all its calls were taken, and the answer is how many were started, up to the greatest u32.
pub record RanAll {H : Type 0} (heard : H → Option (List Why)) (did : MayDo H) (n : ℕ) (s new : Served H) : Type 0 where
  pub calls : List (Call × Bool)
  pub took : TookAll heard did calls (record s { world = batch_begun s.world }) new
  pub over : new.world.batch ≡ []
  pub many : n ≡ min (started calls) (2 ^ 32 - 1)

-- The box of a call wanted memory: the batch ends behind that call, and its rest is left.
pub record RanShort {H : Type 0} (heard : H → Option (List Why)) (did : MayDo H) (s new : Served H) : Type 0 where
  pub calls : List (Call × Bool)
  pub last : Call
  pub rest : List Call
  pub mid : Served H
  pub took : TookAll heard did calls (record s { world = batch_begun s.world }) mid
  pub first : mid.world.batch ≡ last ∷ rest
  pub short : DoneShort heard did last (taken_out mid rest) new

-- the run of a batch, by its answer
abbrev pub Ran : {H : Type 0} → (H → Option (List Why)) → MayDo H → Result ℕ WorldFault → Served H → Served H → Type 0
Ran heard did (Ok n) s new = RanAll heard did n s new
Ran heard did (Err fault) s new = (fault ≡ Memory) × RanShort heard did s new
