-- Of which sides an ask that is not refused speaks, and that a reference more can be counted.
use Rattle.std.specs.Prelude.{◌≡◌, ℕ, ◌<◌, ⊤, true}
use Rattle.ev_types.specs.declared.act.Act.{Act}
use Rattle.ev_types.specs.declared.act.Act.TheVariants as act
use Rattle.relay_model.specs.Asks.{most_references}
use Rattle.relay_model.specs.Plain.{Plain, is_live, side_at}

-- the link of the side that it names is one of the first, so many
abbrev pub NamesLinkBelow : ℕ → Act → Type 0
NamesLinkBelow opened (act.Free e) = e.link < opened
NamesLinkBelow opened (act.Enable e d) = e.link < opened
NamesLinkBelow opened (act.Disable e d) = e.link < opened
NamesLinkBelow opened (act.Marks e d low high) = e.link < opened
NamesLinkBelow opened (act.Timeouts e read write) = e.link < opened
NamesLinkBelow opened (act.Rate e cfg) = e.link < opened
NamesLinkBelow opened (act.Join e group) = e.link < opened
NamesLinkBelow opened (act.Leave e) = e.link < opened
NamesLinkBelow opened (act.Trigger e d) = e.link < opened
NamesLinkBelow opened (act.Timer e delay) = e.link < opened
NamesLinkBelow opened (act.Cancel e) = e.link < opened
NamesLinkBelow opened (act.Incref e) = e.link < opened
NamesLinkBelow opened (act.Decref e) = e.link < opened
NamesLinkBelow opened act.Stop = ⊤

-- the side that it names is live; a reference may be given up at a freed one
abbrev pub NamesLive : Plain → Act → Type 0
NamesLive s (act.Free e) = is_live s e ≡ true
NamesLive s (act.Enable e d) = is_live s e ≡ true
NamesLive s (act.Disable e d) = is_live s e ≡ true
NamesLive s (act.Marks e d low high) = is_live s e ≡ true
NamesLive s (act.Timeouts e read write) = is_live s e ≡ true
NamesLive s (act.Rate e cfg) = is_live s e ≡ true
NamesLive s (act.Join e group) = is_live s e ≡ true
NamesLive s (act.Leave e) = is_live s e ≡ true
NamesLive s (act.Trigger e d) = is_live s e ≡ true
NamesLive s (act.Timer e delay) = is_live s e ≡ true
NamesLive s (act.Cancel e) = is_live s e ≡ true
NamesLive s (act.Incref e) = is_live s e ≡ true
NamesLive s (act.Decref e) = ⊤
NamesLive s act.Stop = ⊤

-- an ask for one reference more finds fewer than the most
abbrev pub HasRoomForReference : Plain → Act → Type 0
HasRoomForReference s (act.Incref e) = (side_at s e).references < most_references
HasRoomForReference s _ = ⊤
