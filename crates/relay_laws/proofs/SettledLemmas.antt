-- Where nothing is set, no side has a timeout; an In side is never connecting; no activity is later than the time, and timeouts fit.
use Rattle.std.proofs.Common.{◌≡◌, ℕ, ◌^◌, ◌<◌, ◌≤◌, Bool, false, refl, arith}
use Rattle.ev_types.specs.declared.side.Side.{Side}
use Rattle.ev_types.specs.declared.side.Side.TheVariants.{In, Out}
use Rattle.ev_types.specs.declared.side.SideId.{SideId}
use Rattle.ev_types.specs.Trace.{Trace}
use Rattle.relay_model.specs.Settings.{Settings, timeouts_set}
use Rattle.ev_types.specs.Usual.{no_timeouts}
use Rattle.relay_model.specs.Plain.{side_at, new_side}
use Rattle.relay_model.specs.Stages.{State}
use Rattle.relay_model.specs.Turn.{Reaches}
use Rattle.relay_model.proofs.PlainLemmas.{is_connected}
use Rattle.relay_laws.specs.Frees.{IsPlainly}
use Rattle.relay_laws.specs.Spelling.{TimeoutsFit}
use Rattle.relay_laws.proofs.SideLemmas.{Looks, looks, all-hold}

-- No timeouts

abbrev Untimed : ℕ → SideId → Looks → Type 0
Untimed n e x = x.timeouts ≡ no_timeouts

none-set : (g : Settings) → IsPlainly g → (x : Side) → timeouts_set g x ≡ no_timeouts
none-set g h In = h.in_timeouts
none-set g h Out = h.out_timeouts

pub untimed : (g : Settings) → IsPlainly g → (t : Trace) (s : State) → Reaches g t s → (e : SideId) →
    (side_at s.plain e).timeouts ≡ no_timeouts
untimed g plainly t s r = all-hold g Untimed (record {
  later = λ n m e x le h. h;
  unopened = λ n e. refl;
  fresh = λ n turn e connected. none-set g plainly e.side;
  was_read = λ n e x h. h;
  written = λ n e x h. h;
  connected = λ n e x h. h;
  asked = λ n e x r w hooked a b h. absurd (hooked plainly.hooks);
}) t s r

-- In sides

abbrev InConnected : ℕ → SideId → Looks → Type 0
InConnected n e x = e.side ≡ In → x.connecting ≡ false

new-connected : (g : Settings) (n turn : ℕ) (x : Side) (connected : Bool) → x ≡ In →
    (new_side g n turn x (is_connected x connected)).connecting ≡ false
new-connected g n turn In connected h = refl
new-connected g n turn Out connected h = absurd (cc)

pub in_connected : (g : Settings) (t : Trace) (s : State) → Reaches g t s → (e : SideId) → e.side ≡ In →
    (side_at s.plain e).connecting ≡ false
in_connected g t s r = all-hold g InConnected (record {
  later = λ n m e x le h. h;
  unopened = λ n e h. refl;
  fresh = λ n turn e connected h. new-connected g n turn e.side connected h;
  was_read = λ n e x h. h;
  written = λ n e x h. h;
  connected = λ n e x h i. refl;
  asked = λ n e x r w hooked a b h. h;
}) t s r

-- Last activities and timeouts

pub record Settled (n : ℕ) (e : SideId) (x : Looks) : Type 0 where
  pub last_read : x.last_read ≤ n
  pub last_write : x.last_write ≤ n
  pub read_ms : x.timeouts.read_ms < 2 ^ 64
  pub write_ms : x.timeouts.write_ms < 2 ^ 64

new-settled : (g : Settings) → TimeoutsFit g → (n turn : ℕ) (e : SideId) (x : Side) (connected : Bool) →
    Settled n e (looks (new_side g n turn x connected))
new-settled g fit n turn e In connected =
    record { last_read = omega arith; last_write = omega arith; read_ms = fit.in_read; write_ms = fit.in_write }
new-settled g fit n turn e Out connected =
    record { last_read = omega arith; last_write = omega arith; read_ms = fit.out_read; write_ms = fit.out_write }

pub settled : (g : Settings) → TimeoutsFit g → (t : Trace) (s : State) → Reaches g t s → (e : SideId) →
    Settled s.plain.time e (looks (side_at s.plain e))
settled g fit t s r = all-hold g Settled (record {
  later = λ n m e x le h. record {
    last_read = let a = h.last_read in omega (arith, a, le);
    last_write = let a = h.last_write in omega (arith, a, le);
    read_ms = h.read_ms;
    write_ms = h.write_ms;
  };
  unopened = λ n e. record { last_read = omega arith; last_write = omega arith; read_ms = omega arith; write_ms = omega arith };
  fresh = λ n turn e connected. new-settled g fit n turn e e.side (is_connected e.side connected);
  was_read = λ n e x h. record { last_read = omega arith; last_write = h.last_write; read_ms = h.read_ms; write_ms = h.write_ms };
  written = λ n e x h. record { last_read = h.last_read; last_write = omega arith; read_ms = h.read_ms; write_ms = h.write_ms };
  connected = λ n e x h. record { last_read = h.last_read; last_write = h.last_write; read_ms = h.read_ms; write_ms = h.write_ms };
  asked = λ n e x r w hooked a b h.
      record { last_read = omega arith; last_write = omega arith; read_ms = omega (arith, a); write_ms = omega (arith, b) };
}) t s r
