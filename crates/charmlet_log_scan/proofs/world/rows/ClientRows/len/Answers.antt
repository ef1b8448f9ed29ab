use Rattle.std.proofs.Common.{length, sym, ap, ◌∙◌}
use Rattle.charmlet_log_scan.proofs.WorldLemmas.RisenClients.{risen_long}
use Rattle.charmlet_log_scan.proofs.world.rows.ClientRows.len.Goals as goal

pub returns : goal.returns
returns c = c.len.ensures.len ∙ sym (risen_long c.self.inside.rows.entries c.len.ensures.unique) ∙ ap length c.self.view_is
