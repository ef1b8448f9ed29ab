use Rattle.std.proofs.Common.{◌≡◌, ◌∙◌, Bool, true, false, ◌&&◌, refl, subst}
use Rattle.std.specs.Prelude.{IfErr}
use Rattle.charmlet_locate.specs.Locations.{is_processor_count}
use Rattle.charmlet_recover.specs.Restart.{IsRefused}
use Rattle.charmlet_recover.proofs.restarted.restart.Goals as goal

-- as many workers as processors are as good a count
and_same : (is_count : Bool) → (is_count && is_count) ≡ is_count
and_same true = refl
and_same false = refl

pub returns-clause-answer : goal.returns-clause-answer
returns-clause-answer g c = λ honest good. c.restart_by.ensures.answer honest (and_same (is_processor_count c.args.processors) ∙ good)

pub returns-clause-bad : goal.returns-clause-bad
returns-clause-bad g c = λ bad. c.restart_by.ensures.bad (and_same (is_processor_count c.args.processors) ∙ bad)

pub returns-clause-err : goal.returns-clause-err
returns-clause-err g c = subst (λ is_count. IfErr c.restart_by.result (IsRefused is_count c.args.blanks)) (and_same (is_processor_count c.args.processors)) c.restart_by.ensures.err
