use Rattle.std.proofs.Common.{rules}
use Rattle.charmlet_reference.proofs.RecoveryLemmas.PartLemmas.{fault_offset}
use Rattle.charmlet_reference.proofs.recovery.recovered.recover_parts.Goals as goal

pub returns : goal.returns
returns c = λ s parts. fault_offset c.args.half s c.args.parts c.in-Faulty.place c.offset_of-offset.result parts (search rules) c.offset_of-offset.ensures
