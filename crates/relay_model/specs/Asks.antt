-- What a hook may ask while it runs: when an ask is refused, and what it changes where it isn't.
use Rattle.std.specs.Prelude.{◌≡◌, ◌⊎◌, ℕ, ◌+◌, ◌-◌, ◌^◌, ◌≤◌, min, Bool, true, false, ◌==◌, ◌&&◌, ◌||◌, not, nat_lt, nat_le, if◌then◌else◌}
use Rattle.std.specs.Prelude.{List, [], ◌∷◌, length, Option, Some, None, is_none}
use Rattle.token_bucket.specs.declared.limit.Dir.{Dir}
use Rattle.token_bucket.specs.declared.limit.Dir.TheVariants as dir
use Rattle.token_bucket.specs.declared.limit.LimitCfg.{LimitCfg}
use Rattle.ev_types.specs.declared.side.SideId.{SideId}
use Rattle.ev_types.specs.declared.act.Act.{Act}
use Rattle.ev_types.specs.declared.act.Act.TheVariants as act
use Rattle.ev_types.specs.declared.answer.AskAnswer.{AskAnswer}
use Rattle.ev_types.specs.declared.answer.AskAnswer.TheVariants as ask
use Rattle.relay_model.specs.Settings.{Settings}
use Rattle.ev_types.specs.declared.settings.Marks.{Marks}
use Rattle.relay_model.specs.Plain.{Plain, PlainSide, Standing, first_limit, side_at, change_side, is_live, freed, without_timer, placed}
use Rattle.relay_model.specs.Rates.{standing_level}
use Rattle.relay_model.specs.Past.{Past}
use Rattle.relay_model.specs.Reasons.{raise_read, raise_write}

-- the greatest mark in bytes, the longest timeout or delay in milliseconds, and the most references of a side
abbrev pub most_mark : ℕ
most_mark = 2 ^ 24

abbrev pub most_ms : ℕ
most_ms = 2 ^ 40

abbrev pub most_references : ℕ
most_references = 2 ^ 32 - 1

-- how many asks of one fire are heard
abbrev pub most_asks : ℕ
most_asks = 256

-- Refusals

-- The side that it names was never opened or is freed. A reference may be given up at a freed side that has one, and
-- to stop the run names no side.
abbrev pub names_no_live : Plain → Act → Bool
names_no_live s (act.Free e) = not (is_live s e)
names_no_live s (act.Enable e d) = not (is_live s e)
names_no_live s (act.Disable e d) = not (is_live s e)
names_no_live s (act.Marks e d low high) = not (is_live s e)
names_no_live s (act.Timeouts e read write) = not (is_live s e)
names_no_live s (act.Rate e cfg) = not (is_live s e)
names_no_live s (act.Join e group) = not (is_live s e)
names_no_live s (act.Leave e) = not (is_live s e)
names_no_live s (act.Trigger e d) = not (is_live s e)
names_no_live s (act.Timer e delay) = not (is_live s e)
names_no_live s (act.Cancel e) = not (is_live s e)
names_no_live s (act.Incref e) = not (is_live s e)
names_no_live s (act.Decref e) = not (is_live s e) && (side_at s e).references == 0
names_no_live s act.Stop = false

-- A mark, timeout or delay is too great, a side that is in no group is to leave it, or a live side that has no
-- reference is to give one up.
abbrev pub has_bad_value : Plain → Act → Bool
has_bad_value s (act.Marks e d low high) = nat_lt most_mark low || nat_lt most_mark high
has_bad_value s (act.Timeouts e read write) = nat_lt most_ms read || nat_lt most_ms write
has_bad_value s (act.Leave e) = is_none (side_at s e).group
has_bad_value s (act.Timer e delay) = nat_lt most_ms delay
has_bad_value s (act.Decref e) = (side_at s e).references == 0
has_bad_value s _ = false

-- the group that it names doesn't exist
abbrev pub names_no_group : Settings → Act → Bool
names_no_group g (act.Join e group) = nat_le (length g.groups) group
names_no_group g _ = false

-- there would be one reference too many
abbrev pub has_too_many : Plain → Act → Bool
has_too_many s (act.Incref e) = (side_at s e).references == most_references
has_too_many s _ = false

-- the first refusal whose condition holds, or none
abbrev pub refusal : Settings → Plain → Act → Option AskAnswer
refusal g s a =
    if names_no_live s a then Some ask.NotLive
    else (if has_bad_value s a then Some ask.BadValue
    else (if names_no_group g a then Some ask.NoGroup
    else (if has_too_many s a then Some ask.TooManyRefs
    else None)))

-- to set a timer and to join a group may take memory
abbrev pub may_lack : Act → Bool
may_lack (act.Timer e delay) = true
may_lack (act.Join e group) = true
may_lack _ = false

-- What asks change

abbrev pub enabled : Dir → Bool → PlainSide → PlainSide
enabled dir.Read on x = record x { reads = on }
enabled dir.Write on x = record x { writes = on }

abbrev pub marked : Dir → ℕ → ℕ → Marks → Marks
marked dir.Read low high m = record m { read_low = low; read_high = high }
marked dir.Write low high m = record m { write_low = low; write_high = high }

-- Another limit takes what the bucket holds with it, cut to the new burst.
abbrev pub next_limit : Past → Plain → SideId → Standing → LimitCfg → Standing
next_limit p s e was cfg = record {
  cfg = cfg;
  turn = s.turn;
  time = s.time;
  read_level = min (standing_level was dir.Read (p.turns e dir.Read) s.time) cfg.read_burst;
  write_level = min (standing_level was dir.Write (p.turns e dir.Write) s.time) cfg.write_burst;
}

-- the limit that stands once this one is asked for
abbrev pub limit_set : Past → Plain → SideId → Option Standing → Option LimitCfg → Option Standing
limit_set p s e was None = None
limit_set p s e None (Some cfg) = Some (first_limit s.time s.turn cfg)
limit_set p s e (Some was) (Some cfg) = Some (next_limit p s e was cfg)

-- what an ask that is answered Ok changes, and nothing else
abbrev pub done : Settings → Past → Plain → Act → Plain
done g p s (act.Free e) = freed e s
done g p s (act.Enable e d) = change_side e (enabled d true) s
done g p s (act.Disable e d) = change_side e (enabled d false) s
done g p s (act.Marks e d low high) = change_side e (λ x. record x { marks = marked d low high x.marks }) s
done g p s (act.Timeouts e read write) =
    change_side e (λ x. record x { timeouts = record { read_ms = read; write_ms = write }; last_read = s.time; last_write = s.time }) s
done g p s (act.Rate e cfg) = change_side e (λ x. record x { limit = limit_set p s e x.limit cfg }) s
done g p s (act.Join e group) = change_side e (λ x. record x { group = Some group }) s
done g p s (act.Leave e) = change_side e (λ x. record x { group = None }) s
done g p s (act.Trigger e dir.Read) = raise_read g p e s
done g p s (act.Trigger e dir.Write) = raise_write g p e s
done g p s (act.Timer e delay) = record s { timers = placed (record { side = e; deadline = s.time + delay }) (without_timer e s.timers) }
done g p s (act.Cancel e) = record s { timers = without_timer e s.timers }
done g p s (act.Incref e) = change_side e (λ x. record x { references = x.references + 1 }) s
done g p s (act.Decref e) = change_side e (λ x. record x { references = x.references - 1 }) s
done g p s act.Stop = s

-- One ask: the first refusal, and nothing is changed; or Ok, and exactly the act's change; or no memory, where the act
-- may take some, and nothing is changed.
abbrev pub Answered : Option AskAnswer → Settings → Past → Plain → Act → AskAnswer → Plain → Type 0
Answered (Some refused) g p old a answer new = (answer ≡ refused) × (new ≡ old)
Answered None g p old a answer new =
    ((answer ≡ ask.Ok) × (new ≡ done g p old a)) ⊎ ((answer ≡ ask.Memory) × (may_lack a ≡ true) × (new ≡ old))

abbrev pub Ask : Settings → Past → Plain → Act → AskAnswer → Plain → Type 0
Ask g p old a answer new = Answered (refusal g old a) g p old a answer new

-- asks in a row
abbrev pub Asks : Settings → Past → Plain → List (Act × AskAnswer) → Plain → Type 0
Asks g p old [] new = new ≡ old
Asks g p old (x ∷ xs) new = (mid : Plain) × Ask g p old x.0 x.1 mid × Asks g p mid xs new

-- what a hook does in one fire: so many asks in a row, or none
abbrev pub HookStep : Settings → Past → Plain → List (Act × AskAnswer) → Plain → Type 0
HookStep g p old asks new = (length asks ≤ most_asks) × Asks g p old asks new
