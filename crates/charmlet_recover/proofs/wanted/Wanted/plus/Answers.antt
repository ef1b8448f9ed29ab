use Rattle.std.proofs.Common.{◌+◌, ◌<◌, ◌^◌, arith}
use Rattle.charmlet_model.specs.declared.kind.Kind.TheVariants as kinds
use Rattle.charmlet_recover.proofs.wanted.Wanted.plus.Goals as goal

pub overflow_add-result : goal.overflow_add-result
overflow_add-result c = let room : c.args.self.counters + c.args.other.counters < 2 ^ 64 = c.requires kinds.Counter in omega arith

pub overflow_add-result-2 : goal.overflow_add-result-2
overflow_add-result-2 c = let room : c.args.self.rings + c.args.other.rings < 2 ^ 64 = c.requires kinds.Ring in omega arith

pub overflow_add-result-3 : goal.overflow_add-result-3
overflow_add-result-3 c = let room : c.args.self.accounts + c.args.other.accounts < 2 ^ 64 = c.requires kinds.Account in omega arith

pub overflow_add-result-4 : goal.overflow_add-result-4
overflow_add-result-4 c = let room : c.args.self.sums + c.args.other.sums < 2 ^ 64 = c.requires kinds.Sum in omega arith

pub overflow_add-result-5 : goal.overflow_add-result-5
overflow_add-result-5 c = let room : c.args.self.trees + c.args.other.trees < 2 ^ 64 = c.requires kinds.Tree in omega arith

pub overflow_add-result-6 : goal.overflow_add-result-6
overflow_add-result-6 c = let room : c.args.self.tapes + c.args.other.tapes < 2 ^ 64 = c.requires kinds.Tape in omega arith
