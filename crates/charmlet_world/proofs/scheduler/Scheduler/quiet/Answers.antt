use Rattle.std.proofs.Common.{◌≡◌, sym, ap, ◌∙◌}
use Rattle.std.specs.Prelude.{is_none}
use Rattle.charmlet_world.specs.Seen.{oldest}
use Rattle.charmlet_world.specs.Standing.{risen}
use Rattle.charmlet_world.specs.Tied.{Scheduled}
use Rattle.charmlet_world.proofs.Tying.{seq_nos_in, quiet_found}
use Rattle.charmlet_world.proofs.scheduler.Scheduler.quiet.Goals as goal

pub returns : goal.returns
returns c = λ k processors elements.
    let own = c.self.inside in
    let p = own.processors in
    let rows = own.elements.entries in
    let w = own.pending in
    let h = c.self.invariant in
    let pe : k.processors ≡ p = processors ∙ sym (ap (λ (d : Scheduled). d.processors) c.self.view_is) in
    let ee : k.elements ≡ risen rows = elements ∙ sym (ap (λ (d : Scheduled). risen d.rows) c.self.view_is) in
    quiet_found k p rows w own.index h pe ee c.quiet.result (c.quiet.ensures w.seq_nos h.place h.index (seq_nos_in p rows w own.index h))
    ∙ ap (λ (d : Scheduled). is_none (oldest k d.pending)) c.self.view_is
