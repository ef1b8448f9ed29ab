use Rattle.std.proofs.Common.{◌≡◌, List, refl, sym, subst}
use Rattle.charmlet_model.specs.declared.logged.CatchUpEntry.{CatchUpEntry}
use Rattle.charmlet_record.specs.declared.positioned.Positioned.{Positioned}
use Rattle.charmlet_image.specs.Positioned.{items_of}
use Rattle.charmlet_stock.specs.Stock.{blanks_in}
use Rattle.charmlet_shard.specs.RestoredShard.{HasBlanksAgain, StayGood}
use Rattle.charmlet_replayers.proofs.ReplayerLemmas.ReplayerLemmas.{caught_again}
use Rattle.charmlet_replayers.proofs.replayer.each.catch_up_replayer.Goals as goal

pub catch_up-requires-clause-restored : goal.catch_up-requires-clause-restored
catch_up-requires-clause-restored g c κs within =
    let known = c.requires.known in
    let manifest = c.args.manifest.now in
    let records = c.requires.records in
    let is : c.args.replayer.now.deliveries.items ≡ c.replace-deliveries.result.items = λ i. (sym c.replace-deliveries.ensures.value i).items in (
      records,
      known.restored,
      subst (λ (ps : List (Positioned CatchUpEntry)). StayGood manifest records (items_of ps)) is known.good,
      subst (λ (ps : List (Positioned CatchUpEntry)). HasBlanksAgain (blanks_in c.args.replayer.now.restored.stock) manifest records (items_of ps)) is known.blanks,
    )

pub returns : goal.returns
returns g c =
    caught_again c.args.manifest.now c.args.replayer.now _ c.catch_up.result c.stop_of-replayer.ensures c.catch_up.ensures.held c.catch_up.ensures.processors c.catch_up.ensures.supplied
    refl c.replace-deliveries.result.items (λ i. (c.replace-deliveries.ensures.value i).items)
    (λ records known. c.catch_up.ensures.ok records known.restored known.good known.blanks)
    (λ records known. c.catch_up.ensures.blanks records known.restored known.good known.blanks)
    (λ records known fault is. c.catch_up.ensures.fault records known.restored known.good known.blanks fault is)
