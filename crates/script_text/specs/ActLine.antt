-- What a hook asked and what it was answered, as words.
use Rattle.std.specs.Prelude.{ℕ, List, [], ◌∷◌, codes, Option, Some, None}
use Rattle.std.specs.Fmt.{decimal}
use Rattle.token_bucket.specs.declared.limit.LimitCfg.{LimitCfg}
use Rattle.ev_types.specs.declared.act.Act.{Act}
use Rattle.ev_types.specs.declared.act.Act.TheVariants.{Free, Enable, Disable, Marks, Timeouts, Rate, Join, Leave, Trigger, Timer, Cancel}
use Rattle.ev_types.specs.declared.act.Act.TheVariants.{Incref, Decref, Stop}
use Rattle.ev_types.specs.declared.answer.AskAnswer.{AskAnswer}
use Rattle.ev_types.specs.declared.answer.AskAnswer.TheVariants as answer
use Rattle.script_text.specs.Lines.{side_word, dir_word}

-- a limit: rate and burst for reading, rate and burst for writing, and the tick
abbrev pub limit_words : Option LimitCfg → List (List ℕ)
limit_words None = codes "none" ∷ []
limit_words (Some limit) =
    decimal limit.read_rate ∷ decimal limit.read_burst ∷ decimal limit.write_rate ∷ decimal limit.write_burst ∷ decimal limit.tick_ms ∷ []

-- an ask: its name, the end that it names, and its numbers
abbrev pub act_words : Act → List (List ℕ)
act_words (Free end) = codes "free" ∷ decimal end.link ∷ side_word end.side ∷ []
act_words (Enable end dir) = codes "enable" ∷ decimal end.link ∷ side_word end.side ∷ dir_word dir ∷ []
act_words (Disable end dir) = codes "disable" ∷ decimal end.link ∷ side_word end.side ∷ dir_word dir ∷ []
act_words (Marks end dir low high) = codes "marks" ∷ decimal end.link ∷ side_word end.side ∷ dir_word dir ∷ decimal low ∷ decimal high ∷ []
act_words (Timeouts end read write) = codes "timeouts" ∷ decimal end.link ∷ side_word end.side ∷ decimal read ∷ decimal write ∷ []
act_words (Rate end limit) = codes "rate" ∷ decimal end.link ∷ side_word end.side ∷ limit_words limit
act_words (Join end group) = codes "join" ∷ decimal end.link ∷ side_word end.side ∷ decimal group ∷ []
act_words (Leave end) = codes "leave" ∷ decimal end.link ∷ side_word end.side ∷ []
act_words (Trigger end dir) = codes "trigger" ∷ decimal end.link ∷ side_word end.side ∷ dir_word dir ∷ []
act_words (Timer end ms) = codes "timer" ∷ decimal end.link ∷ side_word end.side ∷ decimal ms ∷ []
act_words (Cancel end) = codes "cancel" ∷ decimal end.link ∷ side_word end.side ∷ []
act_words (Incref end) = codes "incref" ∷ decimal end.link ∷ side_word end.side ∷ []
act_words (Decref end) = codes "decref" ∷ decimal end.link ∷ side_word end.side ∷ []
act_words Stop = codes "stop" ∷ []

abbrev pub ask_word : AskAnswer → List ℕ
ask_word answer.Ok = codes "ok"
ask_word answer.NotLive = codes "notlive"
ask_word answer.NoGroup = codes "nogroup"
ask_word answer.BadValue = codes "badvalue"
ask_word answer.TooManyRefs = codes "toomanyrefs"
ask_word answer.Memory = codes "memory"
