use Rattle.std.proofs.Common.{◌≡◌, ◌+◌, ◌*◌, ◌++◌, ◌∷◌, [], ℕ, List, length, ap, ◌∙◌, length-append, arith}
use Rattle.charmlet_model.specs.Spelling.{spell_list}
use Rattle.charmlet_image.specs.declared.header.Header.{Header}
use Rattle.charmlet_image.specs.declared.header.Mark.TheVariants.{Third}
use Rattle.charmlet_image.specs.Images.{spell_array, spell_header}
use Rattle.charmlet_image.specs.NewStores.{empty_lists}
use Rattle.charmlet_image.proofs.HalfViews.{length-spell_header}
use Rattle.charmlet_image.proofs.NewStoreLemmas.{length-spell_arrays, length-empty_lists, new_half_is}
use Rattle.charmlet_image.proofs.writers.new_store.Goals as goal

pub write_arrays-requires-clause-room : goal.write_arrays-requires-clause-room
write_arrays-requires-clause-room c =
    let h : Header = record { mark = Third; generation = 1; events = 0; size = 20 + 6 * c.len.result } in
    omega (arith, ap (length {A = ℕ}) c.write_header.ensures.bytes, length-append c.in_ok-out.out.items (spell_header h), length-spell_header h, ap (length {A = ℕ}) c.in_ok-out.ensures.items, c.in_ok-out.ensures.capacity, c.write_header.ensures.capacity, ap length c.deref.ensures.value, c.len.ensures)

pub write_empty_lists-requires : goal.write_empty_lists-requires
write_empty_lists-requires c =
    let h : Header = record { mark = Third; generation = 1; events = 0; size = 20 + 6 * c.len.result } in
    let arrays = spell_list (spell_array Third) c.deref.result.now in
    omega (arith, ap (length {A = ℕ}) c.write_header.ensures.bytes, length-append c.in_ok-out.out.items (spell_header h), length-spell_header h, ap (length {A = ℕ}) c.in_ok-out.ensures.items, c.in_ok-out.ensures.capacity, c.write_header.ensures.capacity, ap length c.deref.ensures.value, c.len.ensures, ap (length {A = ℕ}) c.write_arrays.ensures.bytes, length-append c.write_header.new.out.items arrays, length-spell_arrays c.deref.result.now, c.write_arrays.ensures.capacity)

pub write_bytes-requires : goal.write_bytes-requires
write_bytes-requires c =
    let h : Header = record { mark = Third; generation = 1; events = 0; size = 20 + 6 * c.len.result } in
    let arrays = spell_list (spell_array Third) c.deref.result.now in
    omega (arith, ap (length {A = ℕ}) c.write_header.ensures.bytes, length-append c.in_ok-out.out.items (spell_header h), length-spell_header h, ap (length {A = ℕ}) c.in_ok-out.ensures.items, c.in_ok-out.ensures.capacity, c.write_header.ensures.capacity, ap length c.deref.ensures.value, c.len.ensures, ap (length {A = ℕ}) c.write_arrays.ensures.bytes, length-append c.write_header.new.out.items arrays, length-spell_arrays c.deref.result.now, c.write_arrays.ensures.capacity, ap (length {A = ℕ}) c.write_empty_lists.ensures.bytes, length-append c.write_arrays.new.out.items empty_lists, length-empty_lists, c.write_empty_lists.ensures.capacity)

pub returns : goal.returns
returns c =
    let size = 20 + 6 * c.len.result in
    let h : Header = record { mark = Third; generation = 1; events = 0; size = size } in
    let kinds : c.deref.result.now ≡ c.args.manifest.now = c.deref.ensures.value ∙ c.in_ok-arrays.ensures in
    let many : size ≡ 20 + 6 * length c.args.manifest.now = omega (arith, ap length kinds, ap length c.deref.ensures.value, c.len.ensures) in
    c.write_bytes.ensures.bytes
    ∙ ap (λ (t : List ℕ). t ++ 0 ∷ []) (c.write_empty_lists.ensures.bytes ∙ ap (λ (t : List ℕ). t ++ empty_lists) (c.write_arrays.ensures.bytes ∙ (λ i. (c.write_header.ensures.bytes ∙ ap (λ (t : List ℕ). t ++ spell_header h) c.in_ok-out.ensures.items) i ++ spell_list (spell_array Third) (kinds i))))
    ∙ new_half_is c.args.manifest.now size many
