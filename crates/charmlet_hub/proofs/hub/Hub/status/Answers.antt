use Rattle.std.proofs.Common.{◌≡◌, refl, subst}
use Rattle.std.specs.Prelude.{IfOk, OnErr, take, is_some}
use Rattle.charmlet_model.specs.Core.{Core, Status, Steps}
use Rattle.charmlet_model.specs.Run.{Goes}
use Rattle.charmlet_model.specs.Told.{Holds}
use Rattle.charmlet_sequencer.specs.Sequencer.{store_of}
use Rattle.charmlet_history.specs.Kept.{plenty, told_or_refused}
use Rattle.charmlet_sequencer.proofs.Calls.{told_holds}
use Rattle.charmlet_hub.specs.Hub.{HubShown, shown_by, store_in, while_busy}
use Rattle.charmlet_hub.proofs.Hubs.{refused_question}
use Rattle.charmlet_hub.proofs.Busy.{busy_goes}
use Rattle.charmlet_hub.proofs.hub.Hub.status.Goals as goal

pub returns-clause-err : goal.returns-clause-err
returns-clause-err g c =
    let h = c.self.inside in
    let done = c.status in
    subst (λ (v : HubShown _). OnErr done.result (shown_by h.sequencer (is_some h.running) h.seats done.new.self ≡ v)) c.self.view_is
    (refused_question h.sequencer (is_some h.running) h.seats h.passes done.new.self c.args.pass.now done.new.pass done.result done.ensures.answered.err done.ensures.kept)

pub returns-clause-holds : goal.returns-clause-holds
returns-clause-holds g c =
    let h = c.self.inside in
    let core = h.sequencer.core in
    let client = c.args.pass.now.pass.client in
    let number = c.args.number in
    let steps : Steps core plenty (Status client number) (record { answer = told_or_refused c.status.result; core = core; blanks = plenty }) =
    subst (λ (k : Core). Steps k plenty (Status client number) (record { answer = told_or_refused c.status.result; core = k; blanks = plenty })) c.history.ensures (c.status.ensures.steps plenty) in
    subst (λ (v : HubShown _). IfOk c.status.result (λ told. Holds v.core.opening (take v.core.durable v.core.history) client number told)) c.self.view_is
    (told_holds core core plenty (Status client number) client number c.status.result (refl, refl) steps)

pub returns-clause-goes : goal.returns-clause-goes
returns-clause-goes g c =
    let h = c.self.inside in
    let store = store_of h.sequencer in
    let step = Status c.args.pass.now.pass.client c.args.number in
    let answer = told_or_refused c.status.result in
    let goes : Goes store step answer store =
    subst (λ (k : Core). Steps k store.blanks step (record { answer = answer; core = k; blanks = store.blanks })) c.history.ensures (c.status.ensures.steps store.blanks) in
    subst (λ (v : HubShown _). Goes (store_in v) step answer (while_busy (is_some h.running) store)) c.self.view_is (busy_goes (is_some h.running) store store step answer tt goes)
