use Rattle.std.proofs.Common.{◌≡◌, ◌≢◌, ◌<◌, ◌+◌, ◌*◌, ◌||◌, false, length, None, Some, get_or, set, arith, rules}
use Rattle.mio_port.specs.EndPlaces.{is_at_number, is_bulky, is_prompt, is_there, is_write_ready}
use Rattle.mio_port.proofs.PutLemmas.{put-both, put-one}
use Rattle.mio_port.proofs.ends.Ends.put.Goals as goal

pub invariant_of-self-clause-prompts : goal.invariant_of-self-clause-prompts
invariant_of-self-clause-prompts c =
    let ends = c.args.self.now.ends.items in
    let near = c.number-near.result in
    let one = put-one is_prompt ends c.deref.result.now near
    (Some c.args.inside) c.args.self.now.ready.prompt.has c.keep_up.new.self.prompt.has
    c.deref.ensures.value c.args.self.now.prompts c.keep_up.ensures.prompts in
    put-one is_prompt (set ends near (Some c.args.inside)) c.deref-2.result.now c.number-far.result (Some c.args.outside)
    c.keep_up.new.self.prompt.has c.keep_up-2.new.self.prompt.has c.deref-2.ensures.value one c.keep_up-2.ensures.prompts

pub invariant_of-self-clause-bulks : goal.invariant_of-self-clause-bulks
invariant_of-self-clause-bulks c =
    let ends = c.args.self.now.ends.items in
    let near = c.number-near.result in
    let one = put-one is_bulky ends c.deref.result.now near
    (Some c.args.inside) c.args.self.now.ready.bulky.has c.keep_up.new.self.bulky.has
    c.deref.ensures.value c.args.self.now.bulks c.keep_up.ensures.bulks in
    put-one is_bulky (set ends near (Some c.args.inside)) c.deref-2.result.now c.number-far.result (Some c.args.outside)
    c.keep_up.new.self.bulky.has c.keep_up-2.new.self.bulky.has c.deref-2.ensures.value one c.keep_up-2.ensures.bulks

pub invariant_of-self-clause-writes : goal.invariant_of-self-clause-writes
invariant_of-self-clause-writes c =
    let ends = c.args.self.now.ends.items in
    let near = c.number-near.result in
    let one = put-one is_write_ready ends c.deref.result.now near
    (Some c.args.inside) c.args.self.now.ready.writable.has c.keep_up.new.self.writable.has
    c.deref.ensures.value c.args.self.now.writes c.keep_up.ensures.writes in
    put-one is_write_ready (set ends near (Some c.args.inside)) c.deref-2.result.now c.number-far.result (Some c.args.outside)
    c.keep_up.new.self.writable.has c.keep_up-2.new.self.writable.has c.deref-2.ensures.value one c.keep_up-2.ensures.writes

pub invariant_of-self-clause-pendings : goal.invariant_of-self-clause-pendings
invariant_of-self-clause-pendings c =
    let ends = c.args.self.now in
    let items = ends.ends.items in
    let near = c.number-near.result in
    let far = c.number-far.result in
    let near_is : near ≡ 2 * c.args.link + 0 = search rules in
    let far_is : far ≡ 2 * c.args.link + 1 = search rules in
    let room = c.requires.room in
    let differ : far ≢ near = omega (arith, near_is, far_is) in
    let within : near < length items = omega (arith, near_is, room) in
    let also : far < length items = omega (arith, far_is, room) in
    let none : (is_there (get_or items near None) || is_there (get_or items far None)) ≡ false = rw near_is (rw far_is c.requires.new) in
    put-both items near far c.args.inside c.args.outside (is_at_number ends.pending) differ within also ends.pendings none
    c.requires.not_ending_in c.requires.not_ending_out
