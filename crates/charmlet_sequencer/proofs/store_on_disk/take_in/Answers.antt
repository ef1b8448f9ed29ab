use Rattle.std.proofs.Common.{◌≡◌, ◌<◌, ℕ, length, arith, subst, rules}
use Rattle.std.specs.Prelude.{Option, Some, None, slice_get}
use Rattle.charmlet_sequencer.specs.Part.{Part, part_on}
use Rattle.charmlet_sequencer.proofs.Authorities.{there_at}
use Rattle.charmlet_sequencer.proofs.store_on_disk.take_in.Goals as goal

pub index_mut-requires : goal.index_mut-requires
index_mut-requires g c =
    let s = c.args.locked in
    let parts = c.args.parts.now in
    let there : slice_get parts s.number ≡ Some (Some (part_on s)) = subst (λ (fragment : ℕ × Option Part). slice_get parts fragment.0 ≡ Some fragment.1) c.into_parts-shelf.ensures.fragment c.take_back.ensures.agrees in
    let place : c.from-place.result ≡ s.number = search rules in
    let less : s.number < length parts = (there_at parts s.number (Some (part_on s)) None there).0 in
    let many = c.requires in
    let fits = c.args.slots.now.ok.0 in
    omega arith
