use Rattle.std.proofs.Common.{◌≡◌, ◌+◌, ◌≤◌}
use Rattle.std.specs.Prelude.{vec_len, vec_capacity}
use Rattle.mio_port.specs.EndPlaces.{PlacesStay}
use Rattle.mio_port.proofs.ends.Ends.make_room.Given as goal

-- one absent place was added a turn, and each that is still to come has room in the list and in the sets
abbrev pub invariant-loop-place : goal.invariant-loop-place
invariant-loop-place l = record {
  places : PlacesStay l.initial.self.ends.items l.self.ends.items;
  grown : vec_len l.self.ends ≡ vec_len l.initial.self.ends + l._place;
  room : vec_len l.initial.self.ends + l.missing ≤ vec_capacity l.self.ends;
  prompt_room : vec_len l.initial.self.ends + l.missing ≤ l.self.ready.prompt.len;
  bulky_room : vec_len l.initial.self.ends + l.missing ≤ l.self.ready.bulky.len;
  write_room : vec_len l.initial.self.ends + l.missing ≤ l.self.ready.writable.len;
}
