-- How a table keeps what it shows.
use Rattle.std.specs.Prelude.{◌≡◌, ℕ, ◌*◌, ◌^◌, ◌<◌, ◌≤◌, Bool, false, ◌&&◌, nat_lt, length, vec_capacity}
use Rattle.std.proofs.lemmas.Bool.{and_left, le-ltb}
use Rattle.ev_port.specs.declared.table.WantTable.TheInside.{Inside}
use Rattle.ev_port.specs.Table.{WantsValue, rows_before}

-- the flags below a number
abbrev pub below : ℕ → (ℕ → Bool) → ℕ → Bool
below end flags n = nat_lt n end && flags n

abbrev pub table_of : Inside → WantsValue
table_of a = record {
  links = a.links;
  reads = below (2 * a.links) a.read.has;
  writes = below (2 * a.links) a.write.has;
  list = a.list.items;
  reads_end = λ n past. and_left _ _ (le-ltb n (2 * a.links) past);
  writes_end = λ n past. and_left _ _ (le-ltb n (2 * a.links) past);
}

-- both sets have a number for each side, and flag none from there on
pub record IsTable (a : Inside) : Type 0 where
  pub read_long : 2 * a.links ≤ a.read.len
  pub write_long : 2 * a.links ≤ a.write.len
  pub read_end : (n : ℕ) → 2 * a.links ≤ n → a.read.has n ≡ false
  pub write_end : (n : ℕ) → 2 * a.links ≤ n → a.write.has n ≡ false
  pub counted : a.count ≡ length (rows_before a.read.has a.write.has (2 * a.links))
  pub room : 2 * a.links ≤ vec_capacity a.list
  pub few : a.links < 2 ^ 32
