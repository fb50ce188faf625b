-- The entries of owners whose callbacks are due, and the calls that they come to. An owner is a number, so that these words
-- serve any owners; the words of a relay's sides are its own.
use Rattle.std.specs.Prelude.{ℕ, Bool, true, false, not, if◌then◌else◌, List, [], ◌∷◌, ◌++◌, filter, Option, Some, None, bit_or, nat_eq}
use Rattle.std.specs.Prelude.{option_map, is_some, ◌||◌}
use Rattle.std.specs.List.{flat_map, list_any}
use Rattle.std.specs.Bool.{then_some}
use Rattle.ev_types.specs.declared.why.Why.{Why}
use Rattle.ev_types.specs.declared.why.Why.TheVariants as why
use Rattle.ev_types.specs.declared.why.Flags.{Flags}
use Rattle.deferred_cb.specs.declared.reasons.Reasons.{Reasons}

-- an owner and the reasons for which its callback is due
abbrev pub Entry : Type 0
Entry = ℕ × Reasons

-- one call: whose, and why
abbrev pub Call : Type 0
Call = ℕ × Why

abbrev pub no_reasons : Reasons
no_reasons = record { connected = false; read = false; write = false; event = None; timer = false }

-- the joined flags of events
abbrev pub joined_flags : Option Flags → Flags → Option Flags
joined_flags None flags = Some flags
joined_flags (Some before) flags = Some (record { 0 = bit_or before.0 flags.0 })

-- is there a reason
abbrev pub has_reason : Reasons → Bool
has_reason r = (((r.connected || r.read) || r.write) || is_some r.event) || r.timer

-- the reasons with one more
abbrev pub joined : Reasons → Why → Reasons
joined r why.Connected = record r { connected = true }
joined r why.Read = record r { read = true }
joined r why.Write = record r { write = true }
joined r why.Timer = record r { timer = true }
joined r (why.Event flags) = record r { event = joined_flags r.event flags }

-- The entries after a reason becomes due for an owner: it joins the owner's entry where there is one, and else makes a new one
-- behind the others.
abbrev pub with_reason : ℕ → Why → List Entry → List Entry
with_reason owner y [] = (owner, joined no_reasons y) ∷ []
with_reason owner y (e ∷ es) = if nat_eq owner e.0 then (e.0, joined e.1 y) ∷ es else e ∷ with_reason owner y es

-- does the owner have an entry
abbrev pub has_entry : ℕ → List Entry → Bool
has_entry owner es = list_any (λ e. nat_eq owner e.0) es

-- the entries of other owners
abbrev pub without : ℕ → List Entry → List Entry
without owner es = filter (λ e. not (nat_eq owner e.0)) es

-- the calls of other owners
abbrev pub without_calls : ℕ → List Call → List Call
without_calls owner calls = filter (λ call. not (nat_eq owner call.0)) calls

-- an owner's call for a reason, where there is one
abbrev pub call_for : ℕ → Option Why → List Call
call_for owner None = []
call_for owner (Some y) = (owner, y) ∷ []

-- the calls of one entry, in their order: connected, read, write, other events, timer
abbrev pub calls_of : Entry → List Call
calls_of e =
    call_for e.0 (then_some e.1.connected why.Connected)
    ++ call_for e.0 (then_some e.1.read why.Read)
    ++ call_for e.0 (then_some e.1.write why.Write)
    ++ call_for e.0 (option_map why.Event e.1.event)
    ++ call_for e.0 (then_some e.1.timer why.Timer)

-- the calls of all entries, entry by entry
abbrev pub all_calls : List Entry → List Call
all_calls es = flat_map calls_of es
