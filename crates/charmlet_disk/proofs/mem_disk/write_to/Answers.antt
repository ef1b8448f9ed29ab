use Rattle.std.proofs.Common.{◌≡◌, List, ◌++◌, ◌∷◌, [], ◌∙◌, ap, rules}
use Rattle.charmlet_disk.specs.declared.mem_disk.call.Call.{Call}
use Rattle.charmlet_disk.specs.declared.mem_disk.call.Call.TheVariants.{Write}
use Rattle.charmlet_disk.specs.Memory.{file_of}
use Rattle.charmlet_disk.proofs.Records.{write_adds, still_replayed, other_replayed}
use Rattle.charmlet_disk.proofs.mem_disk.write_to.Goals as goal

pub returns-clause-replayed : goal.returns-clause-replayed
returns-clause-replayed c =
    let old = file_of c.args.file.now in
    let new = file_of c.write.new.self in
    let pushed = c.push_reserved.ensures.items ∙ ap (λ (l : List Call). l ++ Write c.args.half c.args.offset c.in_ok-written.written ∷ []) c.reserve.ensures.items in
    let copied : c.in_ok-written.written.items ≡ c.args.bytes.now = search rules in
    still_replayed c.args.half old new c.args.calls.now.items c.push_reserved.new.self.items
    (write_adds c.args.half c.args.offset c.in_ok-written.written c.args.bytes.now old new c.args.calls.now.items c.push_reserved.new.self.items pushed c.in_ok-write.ensures.ok copied)

pub returns-clause-other : goal.returns-clause-other
returns-clause-other c =
    let old = file_of c.args.file.now in
    let new = file_of c.write.new.self in
    let pushed = c.push_reserved.ensures.items ∙ ap (λ (l : List Call). l ++ Write c.args.half c.args.offset c.in_ok-written.written ∷ []) c.reserve.ensures.items in
    let copied : c.in_ok-written.written.items ≡ c.args.bytes.now = search rules in
    other_replayed c.args.half old new c.args.calls.now.items c.push_reserved.new.self.items
    (write_adds c.args.half c.args.offset c.in_ok-written.written c.args.bytes.now old new c.args.calls.now.items c.push_reserved.new.self.items pushed c.in_ok-write.ensures.ok copied)
