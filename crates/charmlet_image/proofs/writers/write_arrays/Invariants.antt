use Rattle.std.proofs.Common.{◌≡◌, ◌+◌, ◌*◌, ◌≤◌, ◌++◌, length, take, vec_capacity}
use Rattle.std.specs.List.{flat_map}
use Rattle.charmlet_pup.specs.Fields.{number_bytes}
use Rattle.charmlet_image.specs.declared.header.Mark.TheVariants.{Third}
use Rattle.charmlet_image.specs.Images.{spell_array}
use Rattle.charmlet_image.proofs.writers.write_arrays.Given as goal

abbrev pub invariant-loop-array : goal.invariant-loop-array
invariant-loop-array l = record {
  bytes : l.out.items ≡ (l.fn.out.items ++ number_bytes 4 (length l.arrays)) ++ flat_map (spell_array Third) (take l.array-index l.arrays);
  capacity : vec_capacity l.fn.out ≤ vec_capacity l.out;
  size : length l.out.items ≡ length l.fn.out.items + 4 + 6 * l.array-index;
}
