-- What is asked of a drive and its hooks before each turn.
use Rattle.std.specs.Prelude.{◌≡◌, List, Option, None}
use Rattle.relay_drive.specs.DriveValue.{DriveValue}
use Rattle.relay_drive.specs.Seats.{AreSeated}

-- the hooks are those of the drive, unless an answer is kept
abbrev pub MayTurn : {H : Type 0} → DriveValue → List (Option H) → List (Option H) → Type 0
MayTurn d hooks gone = d.kept ≡ None → AreSeated d.state hooks gone
