use Rattle.std.proofs.Common.{◌≡◌, length, arith, rules}
use Rattle.std.specs.Prelude.{vec_len}
use Rattle.charmlet_merge.proofs.shelves.put_if.Goals as goal

pub index_mut-requires : goal.index_mut-requires
index_mut-requires g c =
    let within = c.requires in
    let long : vec_len c.args.shelves.now ≡ length c.args.shelves.now.items = search rules in
    omega (arith, within, long)
