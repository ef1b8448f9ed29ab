use Rattle.std.proofs.Common.{sym, ap, subst, ◌∙◌}
use Rattle.charmlet_model.specs.Core.{Core, present}
use Rattle.charmlet_model.specs.Shelves.{Shows}
use Rattle.charmlet_migrate.specs.Moving.{records_on}
use Rattle.charmlet_replay.specs.Home.{AreHome}
use Rattle.charmlet_replay.proofs.Standing.{shows_home}
use Rattle.charmlet_merge.proofs.reopened.reopen.Goals as goal

pub invariant_of-result : goal.invariant_of-result
invariant_of-result g c =
    let opening = c.args.opening in
    let shelves = c.merge_replayers-joined.result.shelves.items in
    let opens = c.open-history.ensures.opens in
    let home : AreHome opening.processors opening.world.records shelves =
    subst (λ n. AreHome n opening.world.records shelves) (sym c.requires.on) (c.merge_replayers-joined.ensures.home opening.world.records c.requires.joinable) in
    record {
      count = home.count ∙ sym (ap (λ (core : Core). core.processors) opens);
      numbers = home.numbers;
      idle = home.idle;
      objects = subst (λ (core : Core). Shows (records_on shelves) core.places (present core)) (sym opens)
          (shows_home opening.processors opening.world c.requires.fit shelves home);
      census = c.merge_replayers-joined.ensures.counted;
    }
