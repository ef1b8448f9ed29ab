use Rattle.std.proofs.Common.{◌≡◌, ◌&&◌, List, get_or, length, map, ap, ◌∙◌, arith}
use Rattle.std.specs.Prelude.{None}
use Rattle.std.proofs.lemmas.List.{length-map}
use Rattle.charmlet_image.specs.declared.entries.Entry.{Entry}
use Rattle.charmlet_image.specs.Views.{entry_said}
use Rattle.charmlet_recovery.specs.Blanks.{array_is, one_if, wanted_by_records}
use Rattle.charmlet_recover.proofs.Held.{few_of_records, still_some}
use Rattle.charmlet_recover.proofs.Steps.{next_at}
use Rattle.charmlet_recover.proofs.entries.count_entries.Goals as goal

pub count-requires : goal.count-requires
count-requires c = λ kind.
    let manifest = c.args.manifest.now in
    let es : List Entry = c.args.entries.now in
    let at = c.loop-entry.entry-index in
    let none : Entry = record { element = record { array = 0; index = 0 }; sent = 0; received = 0; packed = None } in
    let e : Entry = get_or es at none in
    let made = ap one_if (c.kind_version_held.ensures kind ∙ ap (λ b. b && array_is manifest kind e.element.array) (still_some manifest e)) in
    let split = ap (λ (xs : List Entry). wanted_by_records manifest kind (map (entry_said manifest) xs)) (next_at es at none c.loop-entry-test.true) in
    let few = few_of_records manifest kind (map (entry_said manifest) es) in
    let long : length (map (entry_said manifest) es) ≡ length es = length-map es (entry_said manifest) in
    let sum = c.loop-entry.invariant kind in
    omega arith
