use Rattle.std.proofs.Common.{◌≡◌, ◌<◌, ℕ, List, length, map, sym, ap, subst, ◌∙◌}
use Rattle.charmlet_model.specs.declared.names.Elem.{Elem}
use Rattle.charmlet_image.specs.Views.{entry_said}
use Rattle.charmlet_stock.specs.Stock.{blanks_in}
use Rattle.charmlet_replayers.specs.Dispatch.Sharing.{worker_of}
use Rattle.charmlet_replayers.proofs.DispatchLemmas.ReplayerLists.{keeps_then}
use Rattle.charmlet_parallel_replay.specs.Image.Filled.{AreFilled}
use Rattle.charmlet_parallel_replay.proofs.ImageLemmas.Brought.{all_held, are_good, can_be_filled, keeps_given}
use Rattle.charmlet_parallel_replay.proofs.ImageLemmas.Results.{ok_then}
use Rattle.charmlet_parallel_replay.proofs.image.give_all.Goals as goal

pub give_deliveries-requires-clause-held : goal.give_deliveries-requires-clause-held
give_deliveries-requires-clause-held g c κs within =
    all_held c.args.processors c.args.manifest.now (map (entry_said c.args.manifest.now) c.args.entries.now) c.args.caught_up.items c.args.stock.now c.args.replayers.now c.requires.some c.requires.empty c.requires.image

pub returns-in_err-give_deliveries-clause-keeps : goal.returns-in_err-give_deliveries-clause-keeps
returns-in_err-give_deliveries-clause-keeps g c = keeps_given c.args.stock.now c.args.replayers.now c.give_deliveries.new.replayers c.give_deliveries.ensures.keeps

pub fill_replayers-requires-clause-some : goal.fill_replayers-requires-clause-some
fill_replayers-requires-clause-some g c κs within = subst (λ n. 0 < n) (sym c.give_deliveries.ensures.keeps.count) c.requires.some

pub fill_replayers-requires-clause-good : goal.fill_replayers-requires-clause-good
fill_replayers-requires-clause-good g c κs within =
    are_good c.args.processors c.args.manifest.now (map (entry_said c.args.manifest.now) c.args.entries.now) c.args.caught_up.items c.args.stock.now c.args.replayers.now c.requires.some c.requires.empty c.requires.image

pub fill_replayers-requires-clause-can : goal.fill_replayers-requires-clause-can
fill_replayers-requires-clause-can g c κs within = (
  c.args.processors,
  c.args.caught_up.items,
  can_be_filled c.args.processors c.args.manifest.now (map (entry_said c.args.manifest.now) c.args.entries.now) c.args.caught_up.items c.args.stock.now c.args.replayers.now c.requires.some c.requires.empty c.requires.image
      c.give_deliveries.new.replayers c.give_deliveries.ensures.keeps c.in_ok-give_deliveries.ensures.ok,
)

pub returns-clause-keeps : goal.returns-clause-keeps
returns-clause-keeps g c =
    keeps_then c.args.stock.now c.args.stock.now c.fill_replayers.new.stock c.args.replayers.now c.give_deliveries.new.replayers c.fill_replayers.new.replayers
    (keeps_given c.args.stock.now c.args.replayers.now c.give_deliveries.new.replayers c.give_deliveries.ensures.keeps) c.fill_replayers.ensures.keeps

pub returns-clause-ok : goal.returns-clause-ok
returns-clause-ok g c =
    let n = c.args.processors in
    let kinds = c.args.manifest.now in
    let records = map (entry_said kinds) c.args.entries.now in
    let ds = c.args.caught_up.items in
    let mids = c.give_deliveries.new.replayers in
    let count = c.give_deliveries.ensures.keeps.count in
    let can = can_be_filled n kinds records ds c.args.stock.now c.args.replayers.now c.requires.some c.requires.empty c.requires.image mids c.give_deliveries.ensures.keeps c.in_ok-give_deliveries.ensures.ok in
    ok_then c.fill_replayers.result (AreFilled (worker_of n (length mids)) kinds records ds n (blanks_in c.args.stock.now) (blanks_in c.fill_replayers.new.stock) c.fill_replayers.new.replayers)
    (AreFilled (worker_of n (length c.args.replayers.now)) kinds records ds n (blanks_in c.args.stock.now) (blanks_in c.fill_replayers.new.stock) c.fill_replayers.new.replayers)
    (λ h. subst (λ (m : ℕ). AreFilled (worker_of n m) kinds records ds n (blanks_in c.args.stock.now) (blanks_in c.fill_replayers.new.stock) c.fill_replayers.new.replayers) count h) (c.fill_replayers.ensures.ok n ds can)
