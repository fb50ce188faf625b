-- For how long a poll may wait for the sides' timeouts.
use Rattle.std.specs.Prelude.{ℕ, ◌-◌, min, Bool, ◌&&◌, List, Option, Some, None, option_map}
use Rattle.std.specs.List.{flat_map}
use Rattle.ev_types.specs.declared.side.SideId.{SideId}
use Rattle.relay_model.specs.Plain.{side_at}
use Rattle.relay_model.specs.Moments.{both_ways, earliest}
use Rattle.relay_state.specs.State.{State}
use Rattle.relay_state.specs.Time.{expiry, limit_gain}

-- the lesser of two waits, of which none is for ever
abbrev pub earlier : Option ℕ → Option ℕ → Option ℕ
earlier None w = w
earlier (Some n) None = Some n
earlier (Some n) (Some m) = Some (min n m)

-- how long it is from a time until the earliest of some moments
abbrev pub wait_until : ℕ → List ℕ → Option ℕ
wait_until time moments = option_map (λ moment. moment - time) (earliest moments)

-- a live side has expired
abbrev pub is_expired : State → SideId → Bool
is_expired s e = (side_at s.plain e).live && (side_at s.plain e).expired

-- when these sides expire
abbrev pub expiries : State → List SideId → List ℕ
expiries s sides = flat_map (λ e. flat_map (expiry s e) both_ways) sides

-- when a bucket of a side that holds nothing gains again, and when buckets of these sides do
abbrev pub gain_of : State → SideId → List ℕ
gain_of s e = limit_gain s e (side_at s.plain e).limit

abbrev pub gains : State → List SideId → List ℕ
gains s sides = flat_map (gain_of s) sides
