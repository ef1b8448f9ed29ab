-- What a receiver sends and replies.
use Rattle.std.proofs.Common.{◌≡◌, true, refl, sym, ap, ◌∙◌}
use Rattle.std.specs.Prelude.{Option, Some, None, is_some, unwrap_or}
use Rattle.charmlet_model.specs.declared.reaction.Reaction.{Reaction}
use Rattle.charmlet_chare.specs.declared.output.Output.{Output}
use Rattle.charmlet_chare.specs.Output.{output_of}
use Rattle.charmlet_shelf.specs.Count.{objects_on}
use Rattle.charmlet_shelf.specs.Due.{Due, reaction_in}
use Rattle.charmlet_shelf.specs.Shelf.{View, done_by, output_in, performed, settled, without_output}
use Rattle.charmlet_shelf.specs.declared.phase.Phase.{Phase}
use Rattle.charmlet_shelf.specs.declared.phase.Phase.TheVariants as phases
use Rattle.charmlet_shard.specs.Receiving.{IsOutputOf}

some_of : {A : Type 0} (o : Option A) → is_some o ≡ true → (x : A) × (o ≡ Some x)
some_of None h = absurd (let never : ⊥ = cc in never)
some_of (Some x) h = (x, refl)

due_in : Due → Phase → Due
due_in d (phases.Assigned e) = e
due_in d phases.Idle = d
due_in d (phases.Done done) = d

-- there is an output, once the receiver has reacted
pub output_made : (due : Due) (phase : Phase) → is_some (reaction_in due) ≡ true → phase ≡ phases.Assigned due → (o : Reaction) × (reaction_in due ≡ Some o) × (output_in (performed phase) ≡ Some (output_of o))
output_made due phase reacts is =
    let made = some_of (reaction_in due) reacts in
    (made.0, made.1, ap (λ p. output_in (performed p)) is ∙ ap (λ r. output_in (done_by due r)) made.1)

-- and it is the one of the delivery that was assigned
pub output_of_due : (due other : Due) (phase : Phase) → is_some (reaction_in due) ≡ true → phase ≡ phases.Assigned due → phase ≡ phases.Assigned other → (output : Output) → output_in (performed phase) ≡ Some output → IsOutputOf other output
unfolding due_in
output_of_due due other phase reacts is also output taken =
    let made = output_made due phase reacts is in
    let both : phases.Assigned due ≡ phases.Assigned other = sym is ∙ also in
    let same : due ≡ other = ap (due_in due) both in
    let one : Some output ≡ Some (output_of made.0) = sym taken ∙ made.2 in
    let equal : output ≡ output_of made.0 = ap (λ o. unwrap_or o output) one in
    (made.0, ap reaction_in (sym same) ∙ made.1, equal)

-- a delivery whose output was taken is settled as before
pub settled_taken : (v : View) → settled (record v { phase = without_output v.phase }) ≡ settled v
settled_taken v = by v.phase
  where
    by : (p : Phase) → settled (record v { phase = without_output p }) ≡ settled (record v { phase = p })
    by phases.Idle = refl
    by (phases.Assigned due) = refl
    by (phases.Done done) = refl

pub objects_taken : (v taken : View) → taken ≡ record v { phase = without_output v.phase } → objects_on taken ≡ objects_on v
objects_taken v taken is = ap objects_on is ∙ by v.phase
  where
    by : (p : Phase) → objects_on (record v { phase = without_output p }) ≡ objects_on (record v { phase = p })
    by phases.Idle = refl
    by (phases.Assigned due) = refl
    by (phases.Done done) = refl
