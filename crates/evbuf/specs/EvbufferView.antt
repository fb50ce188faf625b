-- How an evbuffer keeps what it shows.
use Rattle.evbuf.specs.Evbuffered.{Evbuffered}
use Rattle.evbuf.specs.declared.evbuffer.Evbuffer.TheInside.{Inside}

abbrev pub evbuffered : Inside → Evbuffered
evbuffered buf = record {
  bytes = buf.chain.bytes;
  marks = buf.chain.marks;
  spare = buf.chain.spare;
  released = buf.chain.released;
  front_frozen = buf.front_frozen;
  end_frozen = buf.end_frozen;
  callbacks = buf.callbacks.callbacks;
  next = buf.callbacks.next;
}
