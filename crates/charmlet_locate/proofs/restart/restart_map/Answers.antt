use Rattle.std.proofs.Common.{ℕ, arith}
use Rattle.std.proofs.lemmas.Grind.{common_steps}
use Rattle.charmlet_model.specs.declared.names.Elem.{Elem}
use Rattle.charmlet_model.specs.Names.{elem_cmp}
use Rattle.charmlet_model.proofs.Maps.{elem_total, rising-insert_entry}
use Rattle.charmlet_locate.proofs.AtHome.{next_at_home}
use Rattle.charmlet_locate.proofs.restart.restart_map.Goals as goal

pub loop-elem-preserved : goal.loop-elem-preserved
loop-elem-preserved c =
    let none : Elem = record { array = 0; index = 0 } in
    let next = next_at_home c.args.processors c.args.elems.now c.loop-elem.elem-index none c.loop-elem.locations c.loop-elem-test.true c.loop-elem.invariant.at_home in
    record {
      rising = grind (arith, common_steps, rising-insert_entry {X = ℕ} elem_cmp elem_total);
      at_home = λ q. grind (arith, common_steps, next q);
    }
