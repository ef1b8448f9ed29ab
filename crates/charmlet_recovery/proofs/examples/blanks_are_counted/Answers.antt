use Rattle.std.proofs.Common.{refl}
use Rattle.charmlet_recovery.proofs.examples.blanks_are_counted.Goals as goal

pub returns : goal.returns
returns c = record { last = refl; not_first = refl; origin = refl; unknown = refl; pending = refl; greatest = refl; greatest_again = refl; skipped = refl }
