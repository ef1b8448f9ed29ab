use Rattle.std.proofs.Common.{◌++◌, ℕ, List, length, take, get_or, sym, ap, ◌∙◌, append_assoc, length-append, arith}
use Rattle.std.specs.List.{flat_map}
use Rattle.std.proofs.lemmas.List.{append-nil}
use Rattle.charmlet_pup.specs.Fields.{number_bytes}
use Rattle.charmlet_pup.specs.ReadsBack.{length-number_bytes}
use Rattle.charmlet_model.specs.declared.kind_version.KindVersion.{KindVersion}
use Rattle.charmlet_model.specs.declared.kind_version.KindVersion.TheVariants.{Counter}
use Rattle.charmlet_image.specs.declared.header.Mark.TheVariants.{Third}
use Rattle.charmlet_image.specs.Images.{spell_array}
use Rattle.charmlet_image.proofs.NewStoreLemmas.{length-spell_array, one_more}
use Rattle.charmlet_image.proofs.writers.write_arrays.Goals as goal

pub loop-array-init : goal.loop-array-init
loop-array-init c =
    let count = number_bytes 4 (length c.args.arrays.now) in
    record {
      bytes = c.write_u32.ensures.bytes ∙ sym (append-nil (c.args.out.now.items ++ count));
      capacity = c.write_u32.ensures.capacity;
      size = omega (arith, ap (length {A = ℕ}) c.write_u32.ensures.bytes, length-append c.args.out.now.items count, length-number_bytes 4 (length c.args.arrays.now));
    }

pub loop-array-preserved : goal.loop-array-preserved
loop-array-preserved c =
    let arrays = c.args.arrays.now in
    let at = c.loop-array.array-index in
    let here : ℕ × KindVersion = get_or arrays at (0, Counter) in
    let front = c.args.out.now.items ++ number_bytes 4 (length arrays) in
    let before = flat_map (spell_array Third) (take at arrays) in
    record {
      bytes =
          c.write_array.ensures.bytes ∙ ap (λ (t : List ℕ). t ++ spell_array Third here) c.loop-array.invariant.bytes ∙ append_assoc front before (spell_array Third here)
          ∙ ap (λ (t : List ℕ). front ++ t) (sym (one_more (spell_array Third) arrays at (0, Counter) c.loop-array-test.true));
      capacity = omega (arith, c.loop-array.invariant.capacity, c.write_array.ensures.capacity);
      size = omega (arith, ap (length {A = ℕ}) c.write_array.ensures.bytes, length-append c.loop-array.out.items (spell_array Third here), length-spell_array here, c.loop-array.invariant.size);
    }
