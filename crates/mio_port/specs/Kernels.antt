-- What a call leaves of the kernel, by which sockets are watched: all but the descriptor that is kept.
use Rattle.std.specs.Prelude.{◌≡◌, ℕ, true, [], ◌∷◌, Option, IsSomeAnd, is_some, option_map, Result, Ok, Err}
use Rattle.mio.specs.declared.poll.Poll.{Poll}
use Rattle.mio_port.specs.declared.acceptor.NoLink.{NoLink}
use Rattle.mio_port.specs.declared.kernel.Kernel.{Kernel}
use Rattle.mio_port.specs.declared.socket_call.SocketCall.TheVariants as call

-- by what sockets are watched, how many polls went by, and how long the last wait was to last
abbrev pub watch : Kernel → Poll × ℕ × Option ℕ
watch k = (k.poll, k.skipped, k.most)

-- the same where there is a kernel
abbrev pub watch_of : Option Kernel → Option (Poll × ℕ × Option ℕ)
watch_of kernel = option_map watch kernel

-- a descriptor is kept for the second end of a link
abbrev pub HasSpare : Option Kernel → Type 0
HasSpare kernel = IsSomeAnd kernel (λ k. is_some k.spare ≡ true)

-- of a call on the way to a link that the system refused it tells what that means
abbrev pub told_link : {T : Type 0} → Kernel → Result T NoLink → Kernel
told_link k (Ok made) = k
told_link k (Err why) = record k { log = record { calls = (call.NoLink why, []) ∷ k.log.calls } }
