-- What each call leaves of a buffer. The last argument is what is spare afterwards.
use Rattle.std.specs.Prelude.{ℕ, ◌==◌, min, if◌then◌else◌, Bool, false, List, [], ◌∷◌, ◌++◌, length, take, drop}
use Rattle.evbuf_chain.specs.Mark.{unmarked, reference_marks, ended_tickets, uncut_marks}
use Rattle.evbuf.specs.Evbuffered.{Evbuffered}
use Rattle.evbuf.specs.Callbacks.{all_after_change}
use Rattle.evbuf.specs.declared.place.Place.{Place}
use Rattle.evbuf.specs.declared.place.Place.TheVariants.{Front, End}

-- a new buffer is empty, is frozen at no end and has no callback
abbrev pub new_buffer : Evbuffered
new_buffer = record {
  bytes = [];
  marks = [];
  spare = 0;
  released = [];
  front_frozen = false;
  end_frozen = false;
  callbacks = [];
  next = 0;
}

-- a buffer of which an end is frozen or not, as said
abbrev pub with_frozen : Evbuffered → Place → Bool → Evbuffered
with_frozen buf Front frozen = record buf { front_frozen = frozen }
with_frozen buf End frozen = record buf { end_frozen = frozen }

-- Is this end of the buffer frozen?
abbrev pub is_frozen : Evbuffered → Place → Bool
is_frozen buf Front = buf.front_frozen
is_frozen buf End = buf.end_frozen

-- the room of a buffer that has no byte was freed
abbrev pub given_up : Evbuffered → Evbuffered
given_up buf = if length buf.bytes == 0 then record buf { spare = 0 } else buf

-- bytes of the buffer's own come in behind
abbrev pub after_add : Evbuffered → List ℕ → ℕ → Evbuffered
after_add buf bytes left = record buf {
  bytes = buf.bytes ++ bytes;
  marks = buf.marks ++ unmarked (length bytes);
  spare = left;
  callbacks = all_after_change (length buf.bytes) (length bytes) 0 buf.callbacks;
}

-- bytes of the buffer's own come in before all others
abbrev pub after_prepend : Evbuffered → List ℕ → ℕ → Evbuffered
after_prepend buf bytes left = record buf {
  bytes = bytes ++ buf.bytes;
  marks = unmarked (length bytes) ++ buf.marks;
  spare = left;
  callbacks = all_after_change (length buf.bytes) (length bytes) 0 buf.callbacks;
}

-- a reference comes in behind; one of no bytes is released at once
abbrev pub after_reference : Evbuffered → List ℕ → ℕ → ℕ → Evbuffered
after_reference buf bytes ticket left = record buf {
  bytes = buf.bytes ++ bytes;
  marks = buf.marks ++ reference_marks ticket (length bytes);
  spare = left;
  released = buf.released ++ (if length bytes == 0 then ticket ∷ [] else []);
  callbacks = all_after_change (length buf.bytes) (length bytes) 0 buf.callbacks;
}

-- the first n bytes go, or all where there are fewer, and the references that end among them are released
abbrev pub after_drain : Evbuffered → ℕ → ℕ → Evbuffered
after_drain buf n left = record buf {
  bytes = drop n buf.bytes;
  marks = drop n buf.marks;
  spare = left;
  released = buf.released ++ ended_tickets (take n buf.marks);
  callbacks = all_after_change (length buf.bytes) 0 (min n (length buf.bytes)) buf.callbacks;
}

-- the first n bytes, or all where there are fewer, go to another buffer; no reference is released
abbrev pub after_giving : Evbuffered → ℕ → ℕ → Evbuffered
after_giving buf n left = record buf {
  bytes = drop n buf.bytes;
  marks = drop n buf.marks;
  spare = left;
  callbacks = all_after_change (length buf.bytes) 0 (min n (length buf.bytes)) buf.callbacks;
}

-- The first n bytes of another buffer, or all where there are fewer, come in behind, with the marks of the references
-- that end among them.
abbrev pub after_taking : Evbuffered → Evbuffered → ℕ → ℕ → Evbuffered
after_taking buf from n left = record buf {
  bytes = buf.bytes ++ take n from.bytes;
  marks = buf.marks ++ uncut_marks (take n from.marks);
  spare = left;
  callbacks = all_after_change (length buf.bytes) (min n (length from.bytes)) 0 buf.callbacks;
}

-- all bytes of another buffer come in behind, with their marks
abbrev pub after_taking_all : Evbuffered → Evbuffered → ℕ → Evbuffered
after_taking_all buf from left = record buf {
  bytes = buf.bytes ++ from.bytes;
  marks = buf.marks ++ from.marks;
  spare = left;
  callbacks = all_after_change (length buf.bytes) (length from.bytes) 0 buf.callbacks;
}

-- all bytes go to another buffer
abbrev pub after_giving_all : Evbuffered → ℕ → Evbuffered
after_giving_all buf left = record buf {
  bytes = [];
  marks = [];
  spare = left;
  callbacks = all_after_change (length buf.bytes) 0 (length buf.bytes) buf.callbacks;
}

-- the first n bytes are contiguous in the buffer's own memory: no mark is on them, and the references that end among
-- them are released
abbrev pub pulled_up : Evbuffered → ℕ → ℕ → Evbuffered
pulled_up buf n left = record buf {
  marks = unmarked n ++ drop n buf.marks;
  spare = left;
  released = buf.released ++ ended_tickets (take n buf.marks);
}
