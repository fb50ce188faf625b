-- Whether a timeout is set again as a callback starts, which takes memory.
use Rattle.std.specs.Prelude.{Bool, false, slice_get}
use Rattle.std.specs.Option.{option_map_or}
use Rattle.event_base.specs.Base.{BaseValue}
use Rattle.event_base.specs.Calls.{next_call}
use Rattle.event_base.specs.Fires.{is_set_again}

-- does the start of the next callback set a timeout again
abbrev pub sets_again : BaseValue → Bool
sets_again b = option_map_or (λ number. option_map_or is_set_again (slice_get b.events number) false) (next_call b) false
