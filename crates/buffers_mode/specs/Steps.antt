-- A buffer as answers show it.
use Rattle.evbuf.specs.Evbuffered.{Evbuffered}
use Rattle.evbuf.specs.Callbacks.{Callbacks}

-- all but how many more bytes fit without taking memory, which no answer tells
abbrev pub shown : Evbuffered → Evbuffered
shown buf = record buf { spare = 0 }

-- a buffer with these callbacks
abbrev pub with_callbacks : Evbuffered → Callbacks → Evbuffered
with_callbacks buf now = record buf { callbacks = now }
