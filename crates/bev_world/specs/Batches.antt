-- The batch that runs.
use Rattle.std.specs.Prelude.{◌≡◌, false, if◌then◌else◌, []}
use Rattle.deferred_cb.specs.DueCalls.{all_calls}
use Rattle.bev_world.specs.WorldValue.{WorldValue}

-- A batch begins: what is pending is the batch, unless the one before was cut off; then its rest is the batch.
abbrev pub batch_begun : WorldValue → WorldValue
batch_begun w = if w.cut then record w { cut = false } else record w { pending = []; batch = all_calls w.pending }

-- no batch runs: none was cut off, and so none is left
abbrev pub IsIdle : WorldValue → Type 0
IsIdle w = w.cut ≡ false → w.batch ≡ []
