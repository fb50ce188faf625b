use Rattle.std.proofs.Common.{ap, ◌==◌, false}
use Rattle.std.proofs.lemmas.Nat.Bits.{shr_and_one}
use Rattle.ev_port.proofs.want_word.WantWord.row.Goals as goal

pub returns : goal.returns
returns c =
    let side = c.side_of.ensures in
    let read = ap (λ b. b == 1) (shr_and_one c.args.self.now.read c.args.bit) in
    let write = ap (λ b. b == 1) (shr_and_one c.args.self.now.write c.args.bit) in
    λ i. record { side = side i; read = read i; write = write i; can_read = false; can_write = false }
