use Rattle.std.proofs.Common.{sym, ap, subst, ◌∙◌}
use Rattle.charmlet_model.specs.Core.{Core, present}
use Rattle.charmlet_model.specs.Shelves.{Shows}
use Rattle.charmlet_history.specs.Kept.{core_in}
use Rattle.charmlet_store.specs.Moving.{records_on}
use Rattle.charmlet_replay.proofs.Standing.{is_opened, shows_home}
use Rattle.charmlet_replay.proofs.opened_store.open_store.Goals as goal

pub invariant_of-result : goal.invariant_of-result
invariant_of-result g c =
    let opening = c.args.opening in
    let shelves = c.args.shelves.items in
    let opens = c.open-history.ensures.opens in
    let home = c.requires.home in
    record {
      count = home.count ∙ sym (ap (λ (core : Core). core.processors) opens);
      numbers = home.numbers;
      idle = home.idle;
      objects = subst (λ (core : Core). Shows (records_on shelves) core.places (present core)) (sym opens)
          (shows_home opening.processors opening.world c.requires.fit shelves home);
      census = c.requires.counted;
    }

pub returns-clause-ready : goal.returns-clause-ready
returns-clause-ready g c =
    let opening = c.args.opening in
    record { opened = is_opened (core_in c.open-history.result) opening.processors opening.world c.args.before c.args.generation c.args.log_end c.open-history.ensures.opens }
