use Rattle.std.proofs.Common.{[], ◌∷◌, map}
use Rattle.std.proofs.lemmas.Result.{err_from_is_err_and}
use Rattle.std.proofs.lemmas.List.{map-append}
use Rattle.charmlet_record.specs.declared.reader.ReadError.TheVariants.{Damaged}
use Rattle.charmlet_image.specs.After.{read_after}
use Rattle.charmlet_image.specs.Reading.{read_entry}
use Rattle.charmlet_image.specs.Views.{IsPacked, entry_said}
use Rattle.charmlet_model.proofs.Reactions.{AllByRecursion-append}
use Rattle.charmlet_image.proofs.Loops.{after_on, after_ends, after_done}
use Rattle.charmlet_image.proofs.entries.entries_of.Goals as goal

pub returns-in_err-entry-clause-gives : goal.returns-in_err-entry-clause-gives
returns-in_err-entry-clause-gives c =
    let e = err_from_is_err_and c.from_residual.result c.from_residual.ensures.1 in
    let kinds = c.args.manifest.now in
    let read = read_entry kinds in
    rw (e.1, e.2) (after_ends (Damaged c.in_err-entry.field-0.0) read (map (entry_said kinds) c.loop.entries.items) c.args.count c.loop.counter c.loop.reader (read_after read c.args.count [] c.args.reader.now) c.loop-test.true (rw (← c.as_slice.ensures.value) c.in_err-entry.ensures.gives) c.loop.invariant.gives)

pub loop-preserved : goal.loop-preserved
loop-preserved c =
    let kinds = c.args.manifest.now in
    let read = read_entry kinds in
    record {
      gives = rw (c.in_ok-push.ensures.items, map-append (entry_said kinds) c.loop.entries.items (c.in_ok-entry.entry ∷ []))
          (after_on read (map (entry_said kinds) c.loop.entries.items) c.args.count c.loop.counter c.loop.reader (entry_said kinds c.in_ok-entry.entry) c.read_entry.new.reader (read_after read c.args.count [] c.args.reader.now) c.loop-test.true (rw (← c.as_slice.ensures.value) c.in_ok-entry.ensures.gives) c.loop.invariant.gives);
      packed = rw c.in_ok-push.ensures.items (AllByRecursion-append (IsPacked kinds) c.loop.entries.items (c.in_ok-entry.entry ∷ []) c.loop.invariant.packed (c.in_ok-entry.ensures.packed, tt));
    }

pub returns-clause-gives : goal.returns-clause-gives
returns-clause-gives c =
    let kinds = c.args.manifest.now in
    let read = read_entry kinds in
    after_done read (map (entry_said kinds) c.loop.entries.items) c.args.count c.loop.counter c.loop.reader (read_after read c.args.count [] c.args.reader.now) c.loop-test.false c.loop.invariant.gives
