use Rattle.std.proofs.Common.{◌≤◌, length, sym, subst}
use Rattle.std.specs.List.Sorted.{IsStrictlySortedBy}
use Rattle.std.specs.Map.{keys_of}
use Rattle.std.specs.Ordering.{nat_cmp}
use Rattle.charmlet_model.proofs.SoundLemmas.{sound_fit}
use Rattle.charmlet_history.specs.Kept.{core_in}
use Rattle.charmlet_requests.proofs.calls.target.Goals as goal

pub array_not_in-requires-clause-rising : goal.array_not_in-requires-clause-rising
array_not_in-requires-clause-rising c =
    subst (λ manifest. IsStrictlySortedBy nat_cmp (keys_of manifest)) (sym c.manifest.ensures) (sound_fit (core_in c.args.history.now) c.facts.ensures.sound).rising_arrays

pub array_not_in-requires-clause-few : goal.array_not_in-requires-clause-few
array_not_in-requires-clause-few c =
    subst (λ manifest. length manifest ≤ 64) (sym c.manifest.ensures) (sound_fit (core_in c.args.history.now) c.facts.ensures.sound).few_arrays
