-- A run with closing turns brings every link to its end, where the script and its settings let it.
use Rattle.std.proofs.Common.{◌≡◌, ◌⊎◌, inl, inr, ◌+◌, ℕ, length, [], List, refl}
use Rattle.ev_types.specs.ScriptTurn.{ScriptTurn, lines_of}
use Rattle.ev_types.specs.Trace.{Trace}
use Rattle.ev_types.specs.declared.status.LinkCount.{LinkCount}
use Rattle.command_words.specs.declared.mode.Ending.{Ending}
use Rattle.command_words.specs.declared.mode.Ending.TheVariants as ending
use Rattle.relay_model.specs.Settings.{Settings}
use Rattle.relay_model.specs.Answers.{TurnAnswer}
use Rattle.relay_model.specs.Called.{NamesOpened}
use Rattle.relay_model.specs.Plays.{AlwaysTookAll, EndsPlayed, IsAnswered}
use Rattle.relay_model.specs.Script.{closing_step}
use Rattle.relay_model.proofs.DrainLemmas.{drains_in_most}
use Rattle.relay_laws.specs.Relayed.{IsRelayed}
use Rattle.drain_laws.specs.CanDrain.{CanDrain, LeavesRoom, NoneBehind}
use Rattle.drain_laws.proofs.BufferedLemmas.{most_is_bounded}
use Rattle.drain_laws.proofs.DrainedLemmas.{drained_links_are_done}
use Rattle.drain_laws.proofs.FewTurnLemmas.{closing_turns_are_few}
use Rattle.drain_laws.proofs.FreeCauseLemmas.{frees_are_of_done}
use Rattle.evplay.specs.Headline.{DrainsByTurns, EndsAs, EndedEarly, IsDrained, DrainsWhereItCan}
use Rattle.evplay.specs.Run.{AreSmall}
use Rattle.evplay.proofs.CountableLemmas.{countable}

drained-so : (turns : List ScriptTurn) (g : Settings) (t : Trace) (links : List LinkCount) (closing : ℕ) → AreSmall turns →
    NamesOpened 0 (lines_of turns) → NoneBehind (lines_of turns) → g.links ≡ 256 → LeavesRoom g → IsRelayed g TurnAnswer.Went t links →
    IsAnswered turns (closing_step g) t →
    AlwaysTookAll turns g.links [] t → EndsPlayed turns g.links (length turns + closing) TurnAnswer.Went t → CanDrain g turns →
    DrainsByTurns turns g TurnAnswer.Went t ⊎ EndedEarly turns TurnAnswer.Went t → IsDrained turns g t
drained-so turns g t links closing small names behind many room relayed answered took played can (inl drains) = record {
  drains = drains.0;
  few = drains_in_most turns g TurnAnswer.Went t drains.0;
  done = drained_links_are_done frees_are_of_done most_is_bounded (closing_turns_are_few frees_are_of_done) g turns t links can room
      (countable g turns small names behind many) relayed answered took played.1 drains.0 drains.1;
}
drained-so turns g t links closing small names behind many room relayed answered took played can (inr early) = absurd (early.ended refl)

pub drained-where : (how : Ending) (turns : List ScriptTurn) (g : Settings) (answer : TurnAnswer) (t : Trace) (links : List LinkCount)
    (closing : ℕ) → AreSmall turns → NamesOpened 0 (lines_of turns) → NoneBehind (lines_of turns) → g.links ≡ 256 →
    LeavesRoom g → IsRelayed g answer t links → IsAnswered turns (closing_step g) t →
    AlwaysTookAll turns g.links [] t → EndsPlayed turns g.links (length turns + closing) answer t →
    EndsAs how turns g answer closing t → DrainsWhereItCan how turns g answer t
drained-where ending.LastTurn turns g answer t links _ _ _ _ _ _ _ _ _ _ _ is _ _ = absurd (cc is)
drained-where ending.Drained turns g TurnAnswer.Went t links closing small names behind many room relayed answered took played ends _ _
    can =
    drained-so turns g t links closing small names behind many room relayed answered took played can ends
drained-where ending.Drained turns g TurnAnswer.PollFault t links _ _ _ _ _ _ _ _ _ _ _ _ went _ = absurd (cc went)
drained-where ending.Drained turns g (TurnAnswer.Stopped link) t links _ _ _ _ _ _ _ _ _ _ _ _ went _ = absurd (cc went)
drained-where ending.Drained turns g TurnAnswer.OpenFault t links _ _ _ _ _ _ _ _ _ _ _ _ went _ = absurd (cc went)
drained-where ending.Drained turns g TurnAnswer.Spent t links _ _ _ _ _ _ _ _ _ _ _ _ went _ = absurd (cc went)
drained-where ending.Drained turns g TurnAnswer.Memory t links _ _ _ _ _ _ _ _ _ _ _ _ went _ = absurd (cc went)
