-- Restarts from lawful outcomes.
use Rattle.std.proofs.Common.{◌+◌, take, refl, sym, ap, ◌∙◌}
use Rattle.charmlet_model.specs.declared.half.Half.TheVariants.{Zero, One}
use Rattle.charmlet_model.specs.World.{world}
use Rattle.charmlet_image.specs.Halves.{taken}
use Rattle.charmlet_recovery.specs.Restarts.{taken_refusal}
use Rattle.charmlet_recovery.specs.WritingLaws.{NothingIsRefused, LawfulLacksBlanksAlone}
use Rattle.charmlet_recovery.proofs.Files.{closed_is_nothing}
use Rattle.charmlet_recovery.proofs.Restarting.{restarts_are_taken, found_lacks_blanks_alone}
use Rattle.charmlet_recovery.proofs.Stored.{recovered_is_taken, nothing_was_closed, found-from}

pub nothing_is_refused : NothingIsRefused
nothing_is_refused given outcome e =
    let closed = nothing_was_closed outcome e in
    restarts_are_taken given outcome ∙ ap (taken_refusal given) (closed_is_nothing (outcome Zero) (outcome One) (closed Zero) (closed One))

pub lawful_lacks_blanks_alone : LawfulLacksBlanksAlone
lawful_lacks_blanks_alone given w before history durable outcome is =
    let v = world w (take is.kept history) in
    let count = before + is.kept in
    let found = found-from outcome (taken (outcome Zero) (outcome One)) v count is.generation (sym (recovered_is_taken outcome) ∙ is.is) refl in
    record { half = found.0; saved = found.1; is_taken = found.2; refusal = found_lacks_blanks_alone given outcome v count is.generation found.0 found.1 is.is found.2 }
