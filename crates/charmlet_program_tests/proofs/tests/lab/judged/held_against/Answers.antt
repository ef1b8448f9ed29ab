use Rattle.std.proofs.Common.{sym, subst, ◌∙◌}
use Rattle.charmlet_model.specs.Sound.{new_world}
use Rattle.charmlet_model.specs.World.{IsLegal}
use Rattle.charmlet_lab.specs.Rounds.{arrays_of}
use Rattle.charmlet_lab.proofs.Folded.{legal_front}
use Rattle.charmlet_program_tests.proofs.tests.lab.judged.held_against.Goals as goal

-- the first events of a run are legal too
pub lab_outcome-requires-clause-legal : goal.lab_outcome-requires-clause-legal
lab_outcome-requires-clause-legal g c κs lives =
    let w = new_world (arrays_of c.in_ok-script.script) in
    subst (IsLegal w 0) (sym (c.deref.ensures.value ∙ c.truncate.ensures.items)) (legal_front w _ c.args.count c.in_ok-disk.ensures.ok.legal)
