use Rattle.std.proofs.Common.{sym, ap, subst, ◌∙◌, if◌then◌else◌}
use Rattle.std.specs.Prelude.{Some, None, IfSome, unwrap_or}
use Rattle.std.proofs.lemmas.Option.{IfSome_then}
use Rattle.std.specs.BTreeMap.{insert_entry}
use Rattle.charmlet_model.specs.Core.{home}
use Rattle.charmlet_model.specs.Names.{elem_cmp}
use Rattle.charmlet_model.specs.World.{message_among}
use Rattle.charmlet_model.specs.declared.message.Message.{Message}
use Rattle.charmlet_world.specs.Changed.{counted}
use Rattle.charmlet_world.specs.Seen.{element_at}
use Rattle.charmlet_world.specs.Standing.{risen}
use Rattle.charmlet_world.specs.Tied.{Takes}
use Rattle.charmlet_world.proofs.scheduler.Scheduler.deliver.Goals as goal

pub take-message-requires-clause-receiver : goal.take-message-requires-clause-receiver
take-message-requires-clause-receiver c = IfSome_then (message_among c.args.id c.args.self.now.pending) c.requires.takes (λ m takes. takes.receiver)

pub advance-sent-requires-clause-takes : goal.advance-sent-requires-clause-takes
advance-sent-requires-clause-takes c =
    let m = c.take-message.result.message in
    let takes : Takes c.args.self.now.rows c.args.slot c.args.sends m.to = subst (λ o. IfSome o (λ (m : Message). Takes c.args.self.now.rows c.args.slot c.args.sends m.to)) c.take-message.ensures.message c.requires.takes in
    subst (λ rows. Takes rows c.args.slot c.args.sends m.to) (sym c.take-message.ensures.rows) takes

pub returns-clause-sent : goal.returns-clause-sent
returns-clause-sent c = c.advance-sent.ensures.sent ∙ ap (λ rows. (element_at (risen rows) c.take-message.result.message.to).sent) c.take-message.ensures.rows

pub returns-clause-risen : goal.returns-clause-risen
returns-clause-risen c =
    let x = c.take-message.result.message.to in
    c.advance-sent.ensures.risen
    ∙ (λ i. insert_entry elem_cmp (risen (c.take-message.ensures.rows i)) x (counted (element_at (risen (c.take-message.ensures.rows i)) x) (if c.args.is_destroyed then None else Some (unwrap_or (element_at (risen (c.take-message.ensures.rows i)) x).place (home x (c.take-message.ensures.processors i)))) c.args.sends))
