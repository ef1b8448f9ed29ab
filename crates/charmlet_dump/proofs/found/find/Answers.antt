use Rattle.std.proofs.Common.{sym, subst, ◌∙◌}
use Rattle.charmlet_image.specs.Halves.{Takes}
use Rattle.charmlet_dump.specs.Answers.{Comes, read_of}
use Rattle.charmlet_dump.proofs.Findings.{answered_so, recovered_so, refused_so}
use Rattle.charmlet_dump.proofs.found.find.Goals as goal

pub returns-in-Ok-clause-found : goal.returns-in-Ok-clause-found
returns-in-Ok-clause-found g c = λ honest.
    let outcome = read_of (g.D.Disk.file c.args.disk.now) in
    let s = c.in-Ok.ensures.reads.0 in
    let says = c.in-Ok.ensures.reads.1 in
    let taken = (c.in-Ok.ensures.finds honest).2 s says in
    let comes = subst (λ there. Comes there c.found_in.result) (sym (recovered_so outcome (Takes c.in-Ok.survey.half s) taken)) (c.found_in.ensures.answer s says) in
    answered_so c.args.processors outcome c.found_in.result (sym c.is_processor_count.ensures ∙ c.if-not-is_processor_count.false) c.found_in.ensures.err comes

pub returns-in-Ok-clause-counted : goal.returns-in-Ok-clause-counted
returns-in-Ok-clause-counted g c = rw c.found_in.ensures.no_failure c.in-Ok.ensures.disk.counted

pub returns-in-Err-clause-found : goal.returns-in-Err-clause-found
returns-in-Err-clause-found g c = λ honest.
    refused_so c.args.processors (read_of (g.D.Disk.file c.args.disk.now)) c.in-Err.refusal (sym c.is_processor_count.ensures ∙ c.if-not-is_processor_count.false) c.in-Err.ensures.err (c.in-Err.ensures.finds honest)
