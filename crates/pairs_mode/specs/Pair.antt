-- A pair of halves: what a line does to it, and which bytes move after the line.
use Rattle.std.specs.Prelude.{ℕ, ◌&&◌, Bool, true, false, if◌then◌else◌, Option, Some, None, List, [], ◌++◌, length, take, drop}
use Rattle.token_bucket.specs.declared.limit.Dir.{Dir}
use Rattle.token_bucket.specs.declared.limit.Dir.TheVariants as dir
use Rattle.ev_types.specs.declared.filter.Mode.{Mode}
use Rattle.ev_types.specs.declared.filter.Mode.TheVariants as mode
use Rattle.bev_core.specs.BevValue.{BevValue}
use Rattle.bev_pair.specs.Transfer.{up_to}
use Rattle.pairs_mode.specs.declared.line.PairAsk.{PairAsk}
use Rattle.pairs_mode.specs.declared.line.PairAsk.TheVariants as ask
use Rattle.pairs_mode.specs.declared.answer.Refusal.{Refusal}
use Rattle.pairs_mode.specs.declared.answer.Refusal.TheVariants.{NotLive, NoPartner}

-- A half: whether it is live, what is enabled, the read high mark, where 0 is none, and two lists of bytes.
pub record HalfValue : Type 0 where
  pub live : Bool
  pub reading : Bool
  pub writing : Bool
  pub high : ℕ
  pub input : List ℕ
  pub output : List ℕ

-- what answers show of a bufferevent
abbrev pub shown : BevValue → HalfValue
shown bev = record {
  live = bev.live;
  reading = bev.reading;
  writing = bev.writing;
  high = bev.read_high;
  input = bev.input.bytes;
  output = bev.output.bytes;
}

-- a half and the other one
abbrev pub Halves : Type 0
Halves = HalfValue × HalfValue

-- the first n bytes of the one's output go to the end of the other's input
abbrev pub passed : ℕ → HalfValue → HalfValue → Halves
passed n half other = (record half { output = drop n half.output }, record other { input = other.input ++ take n half.output })

-- how many bytes go of themselves: none unless the one writes and the other reads, and no more than the other takes
abbrev pub goes : HalfValue → HalfValue → ℕ
goes half other = if half.writing && other.reading then up_to other.high (length other.input) (length half.output) else 0

-- the bytes that go of themselves have gone from the one to the other, where both are live
abbrev pub moved : HalfValue → HalfValue → Halves
moved half other = if half.live && other.live then passed (goes half other) half other else (half, other)

-- a direction is enabled, or not, as said
abbrev pub with_enabled : HalfValue → Dir → Bool → HalfValue
with_enabled half dir.Read on = record half { reading = on }
with_enabled half dir.Write on = record half { writing = on }

-- a flush moves all bytes, whatever the marks and flags; in normal mode it moves none of its own
abbrev pub flushed : Mode → HalfValue → HalfValue → Halves
flushed mode.Normal half other = (half, other)
flushed mode.Flush half other = passed (length half.output) half other
flushed mode.Finished half other = passed (length half.output) half other

-- what a line does to its half and the other one, where it isn't refused
abbrev pub asked : PairAsk → HalfValue → HalfValue → Halves
asked (ask.Write bytes) half other = (record half { output = half.output ++ bytes }, other)
asked (ask.Drain n) half other = (record half { input = drop n half.input }, other)
asked (ask.Enable d) half other = (with_enabled half d true, other)
asked (ask.Disable d) half other = (with_enabled half d false, other)
asked (ask.High n) half other = (record half { high = n }, other)
asked (ask.Flush m) half other = flushed m half other
asked ask.Free half other = (record half { live = false; input = []; output = [] }, other)

-- a flush other than normal has no partner where the other half is freed
abbrev pub partner_refusal : PairAsk → HalfValue → Option Refusal
partner_refusal (ask.Flush mode.Flush) other = if other.live then None else Some NoPartner
partner_refusal (ask.Flush mode.Finished) other = if other.live then None else Some NoPartner
partner_refusal _ other = None

-- why a line is refused: its half is freed, or there is no partner
abbrev pub refusal_of : PairAsk → HalfValue → HalfValue → Option Refusal
refusal_of asked half other = if half.live then partner_refusal asked other else Some NotLive

-- whether a line raises end of file at the other half, where it isn't refused
abbrev pub raises_end : PairAsk → Bool
raises_end (ask.Flush mode.Finished) = true
raises_end _ = false
