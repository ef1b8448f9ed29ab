use Rattle.std.proofs.Common.{ap, arith}
use Rattle.std.specs.Cmp.{nat_eq_equiv}
use Rattle.charmlet_model.specs.KindVersion.{kind_of_version}
use Rattle.charmlet_model.specs.Kind.{kind_number}
use Rattle.charmlet_recovery.specs.Blanks.{one_if}
use Rattle.charmlet_recover.specs.Wanted.{blanks_in}
use Rattle.charmlet_recover.proofs.wanted.Wanted.count.Goals as goal

pub count_one-requires : goal.count_one-requires
count_one-requires c =
    let kind = kind_of_version c.in-Some.kind_version in
    let room = rw c.in-Some.is at (c.requires kind) in
    let one = ap one_if (nat_eq_equiv.refl (kind_number kind)) in
    let same = ap (blanks_in c.args.self.now) c.kind.ensures in
    omega arith
