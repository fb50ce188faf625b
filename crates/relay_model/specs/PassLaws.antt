-- What passing leaves of a direction between two live sides, once a round changes nothing.
use Rattle.std.specs.Prelude.{◌≡◌, ℕ, ◌/◌, ◌<◌, Bool, true, false, List, [], length, None}
use Rattle.filter_model.specs.Filter.{Filter}
use Rattle.relay_model.specs.Flow.{Flow, Fits, raw_input, input, output, raw_output}
use Rattle.relay_model.specs.Pass.{with_held, with_used, with_read_done, with_moved, with_turned, with_write_done, read_place, write_place}

-- the parts of a round, one after another
abbrev pub whole_round : Filter → Filter → List ℕ → Bool → ℕ → ℕ → Flow → Flow
whole_round r w read ended mark hold f =
    with_write_done r w read hold
    (with_turned r w read hold (with_moved r read (with_read_done r read mark ended (with_used r read mark (with_held r w read hold f)))))

-- A direction that isn't held has its first three buffers empty; a held one has more than half of the hold mark in its raw
-- output. Where the end has come and the direction isn't held, both filters are finished.
pub record IsPassed (r w : Filter) (read : List ℕ) (ended : Bool) (hold : ℕ) (f : Flow) : Type 0 where
  pub free : f.held ≡ false → (raw_input read f ≡ []) × (input r read f ≡ []) × (output r read f ≡ [])
  pub held : f.held ≡ true → hold / 2 < length (raw_output r w read f)
  pub finished : ended ≡ true → f.held ≡ false → (f.read_done ≡ true) × (f.write_done ≡ true)

-- So it is where a round changes nothing and no bad place is met; a side that met one is freed in the same turn.
abbrev pub PassingEnds : Type 0
PassingEnds = (r w : Filter) (read : List ℕ) (ended : Bool) (mark hold : ℕ) (f : Flow) → 0 < mark → 0 < hold → Fits r w read ended f →
    read_place r read mark ended f ≡ None → write_place r w read hold true f ≡ None → whole_round r w read ended mark hold f ≡ f →
    IsPassed r w read ended hold f
