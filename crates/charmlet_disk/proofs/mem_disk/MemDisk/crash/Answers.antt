use Rattle.std.proofs.Common.{refl, ap}
use Rattle.charmlet_model.specs.declared.half.Half.TheVariants.{Zero, One}
use Rattle.charmlet_disk.specs.File.{File}
use Rattle.charmlet_disk.specs.Memory.{file_of}
use Rattle.charmlet_disk.specs.MemDisk.{files}
use Rattle.charmlet_disk.specs.MemDiskLaws.{files_are_sound}
use Rattle.charmlet_disk.proofs.Leaving.{untouched_stays, left_by_may}
use Rattle.charmlet_disk.proofs.Records.{crash_replayed}
use Rattle.charmlet_disk.proofs.mem_disk.MemDisk.crash.Goals as goal

pub leave-requires : goal.leave-requires
leave-requires c = files_are_sound c.args.self Zero

pub leave-requires-2 : goal.leave-requires-2
leave-requires-2 c = files_are_sound c.args.self One

pub returns-then-is_sure-clause-left : goal.returns-then-is_sure-clause-left
returns-then-is_sure-clause-left c = λ half.
    untouched_stays c.args.choice (files c.args.self half) (files_are_sound c.args.self half) (c.if-is_sure.ensures.sure refl half)

pub returns-then-is_sure-clause-lawful : goal.returns-then-is_sure-clause-lawful
returns-then-is_sure-clause-lawful c = elim [
  | Zero ↦ left_by_may c.args.choice (file_of c.args.self.zero) (files_are_sound c.args.self Zero) refl
  | One ↦ left_by_may c.args.choice (file_of c.args.self.one) (files_are_sound c.args.self One) refl
]

pub returns-clause-lawful : goal.returns-clause-lawful
returns-clause-lawful c = elim [
  | Zero ↦ left_by_may c.args.choice (file_of c.args.self.zero) (files_are_sound c.args.self Zero) refl
  | One ↦ left_by_may c.args.choice (file_of c.args.self.one) (files_are_sound c.args.self One) refl
]

pub invariant_of-result : goal.invariant_of-result
invariant_of-result c =
    let disk = c.args.self in record {
      zero_replayed = crash_replayed Zero c.args.choice (file_of disk.zero) (file_of c.leave.new.self) disk.calls.items c.push_reserved.new.self.items c.push_reserved.ensures.items c.leave.ensures disk.zero_replayed;
      one_replayed = crash_replayed One c.args.choice (file_of disk.one) (file_of c.leave-2.new.self) disk.calls.items c.push_reserved.new.self.items c.push_reserved.ensures.items c.leave-2.ensures disk.one_replayed;
      room = λ full. (ap (λ (f : File). f.ranges) c.leave.ensures, ap (λ (f : File). f.ranges) c.leave-2.ensures);
    }
