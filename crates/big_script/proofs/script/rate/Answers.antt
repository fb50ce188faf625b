use Rattle.big_script.proofs.PutLemmas.{rate-is}
use Rattle.big_script.proofs.script.rate.Goals as goal

-- the limit has those numbers
pub returns : goal.returns
returns c =
    rate-is c.unwrap.result 500 1000 500 1000 1000
    (rw c.unwrap.ensures at c.new.ensures.read_rate)
    (rw c.unwrap.ensures at c.new.ensures.read_burst)
    (rw c.unwrap.ensures at c.new.ensures.write_rate)
    (rw c.unwrap.ensures at c.new.ensures.write_burst)
    (rw c.unwrap.ensures at c.new.ensures.tick_ms)
