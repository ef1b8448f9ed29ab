use Rattle.std.proofs.Common.{sym, ap, subst, ◌∙◌}
use Rattle.charmlet_model.specs.Core.{Core}
use Rattle.charmlet_sequencer.specs.Sequencer.{IsOf}
use Rattle.charmlet_workers.specs.Runtime.{shown_of}
use Rattle.charmlet_runtime.proofs.reopened_store.open_reopened.Goals as goal

pub invariant_of-begun : goal.invariant_of-begun
invariant_of-begun g c = (ap (λ (k : Core). k.history) c.in-Ok-resume.ensures.opens, ap (λ (k : Core). k.assigned) c.in-Ok-resume.ensures.opens)

pub open_in-requires-clause-named : goal.open_in-requires-clause-named
open_in-requires-clause-named g c = λ _ _. subst (IsOf g.B.RuntimeName.opening g.B.RuntimeName.before g.B.RuntimeName.processors) (sym c.in-Ok-resume.ensures.core) c.requires.named

pub open_in-requires-clause-generation : goal.open_in-requires-clause-generation
open_in-requires-clause-generation g c = λ _ _. c.requires.generation ∙ sym (ap (λ (k : Core). k.generation) c.in-Ok-resume.ensures.core)

pub returns-in-Ok-resume-clause-shown : goal.returns-in-Ok-resume-clause-shown
returns-in-Ok-resume-clause-shown g c = c.open_in.ensures ∙ ap shown_of c.in-Ok-resume.ensures.core

pub returns-in-Ok-resume-clause-restarts : goal.returns-in-Ok-resume-clause-restarts
returns-in-Ok-resume-clause-restarts g c = λ processors blanks first its. record {
  engine = c.in-Ok-resume.engine;
  restarted = c.in-Ok-resume.ensures.restarts processors blanks first its;
  core_is = c.in-Ok-resume.ensures.core;
  shown = c.open_in.ensures ∙ ap shown_of c.in-Ok-resume.ensures.core;
}
