-- When a reason becomes due. Only live sides with a hook have reasons.
use Rattle.std.specs.Prelude.{ℕ, ◌+◌, Bool, ◌&&◌, nat_le, if◌then◌else◌}
use Rattle.std.specs.List.{list_any}
use Rattle.token_bucket.specs.declared.limit.Dir.{Dir}
use Rattle.token_bucket.specs.declared.limit.Dir.TheVariants as dir
use Rattle.ev_types.specs.declared.side.SideId.{SideId}
use Rattle.ev_types.specs.declared.why.Why.{Why}
use Rattle.ev_types.specs.declared.why.Why.TheVariants as why
use Rattle.ev_types.specs.Sides.{same_end}
use Rattle.relay_model.specs.Settings.{Settings}
use Rattle.relay_model.specs.Due.{event, with_reason}
use Rattle.relay_model.specs.Plain.{Plain, side_at, is_live}
use Rattle.relay_model.specs.Past.{Past}
use Rattle.relay_model.specs.Rooms.{input_length, output_length}

-- The flags of an event: its direction, and what happened there.
abbrev pub direction_flag : Dir → ℕ
direction_flag dir.Read = 1
direction_flag dir.Write = 2

abbrev pub end_flag : ℕ
end_flag = 16

abbrev pub error_flag : ℕ
error_flag = 32

abbrev pub timeout_flag : ℕ
timeout_flag = 64

abbrev pub happened : Dir → ℕ → Why
happened d flag = event (direction_flag d + flag)

abbrev pub has_hook : Settings → SideId → Bool
has_hook g e = list_any (λ x. same_end x e) g.hooks

-- a reason becomes due for a side, where it is live and has a hook
abbrev pub raise : Settings → SideId → Why → Plain → Plain
raise g e y s = if has_hook g e && is_live s e then record s { due = with_reason e y s.due } else s

-- the read reason becomes due where the input length is at least the read low mark
abbrev pub raise_read : Settings → Past → SideId → Plain → Plain
raise_read g p e s = if nat_le (side_at s e).marks.read_low (input_length g p s e) then raise g e why.Read s else s

-- the write reason becomes due where the output length is at most the write low mark
abbrev pub raise_write : Settings → Past → SideId → Plain → Plain
raise_write g p e s = if nat_le (output_length g p s e) (side_at s e).marks.write_low then raise g e why.Write s else s
