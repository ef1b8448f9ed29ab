use Rattle.std.proofs.Common.{List, ◌++◌, ◌∷◌, [], ◌∙◌, ap}
use Rattle.charmlet_disk.specs.declared.mem_disk.call.Call.{Call}
use Rattle.charmlet_disk.specs.declared.mem_disk.call.Call.TheVariants.{Sync}
use Rattle.charmlet_disk.specs.Memory.{file_of}
use Rattle.charmlet_disk.proofs.Records.{sync_adds, still_replayed, other_replayed}
use Rattle.charmlet_disk.proofs.mem_disk.sync_to.Goals as goal

pub returns-clause-replayed : goal.returns-clause-replayed
returns-clause-replayed c =
    let pushed = c.push_reserved.ensures.items ∙ ap (λ (l : List Call). l ++ Sync c.args.half ∷ []) c.reserve.ensures.items in
    still_replayed c.args.half (file_of c.args.file.now) (file_of c.make_sure.new.self) c.args.calls.now.items c.push_reserved.new.self.items (sync_adds c.args.half _ _ _ _ pushed c.make_sure.ensures)

pub returns-clause-other : goal.returns-clause-other
returns-clause-other c =
    let pushed = c.push_reserved.ensures.items ∙ ap (λ (l : List Call). l ++ Sync c.args.half ∷ []) c.reserve.ensures.items in
    other_replayed c.args.half (file_of c.args.file.now) (file_of c.make_sure.new.self) c.args.calls.now.items c.push_reserved.new.self.items (sync_adds c.args.half _ _ _ _ pushed c.make_sure.ensures)
