use Rattle.std.proofs.Common.{◌≡◌, ap, subst, ◌∙◌, [], List, ℕ}
use Rattle.std.specs.Prelude.{IfOk}
use Rattle.charmlet_reference.specs.Recovery.Views.{files, seen}
use Rattle.charmlet_reference.specs.Recovery.Written.{recovered_as_written}
use Rattle.charmlet_dump.proofs.Findings.{alone_one, alone_zero}
use Rattle.charmlet_dump.proofs.found.recover_taken.Goals as goal

pub returns-in-Zero-clause-taken : goal.returns-in-Zero-clause-taken
returns-in-Zero-clause-taken c = λ s says.
    rw c.in-Zero.is
    (subst (λ there. IfOk c.recover_as_written.result (λ r. seen r ≡ there))
    (ap (λ (bytes : List ℕ). recovered_as_written (files bytes [])) c.as_slice-bytes.ensures.value ∙ alone_zero c.args.survey.now.bytes.items s says.found) c.recover_as_written.ensures)

pub returns-in-One-clause-taken : goal.returns-in-One-clause-taken
returns-in-One-clause-taken c = λ s says.
    rw c.in-One.is
    (subst (λ there. IfOk c.recover_as_written-in-One.result (λ r. seen r ≡ there))
    (ap (λ (bytes : List ℕ). recovered_as_written (files [] bytes)) c.as_slice-bytes.ensures.value ∙ alone_one c.args.survey.now.bytes.items s says.found) c.recover_as_written-in-One.ensures)
