use Rattle.std.proofs.Common.{rules, ◌≡◌, sym, subst}
use Rattle.charmlet_model.specs.Reaction.{kind_of}
use Rattle.charmlet_stock.specs.ByKind.{with_at}
use Rattle.charmlet_stock.specs.Pile.{IsOut, with_one_back, with_out}
use Rattle.charmlet_stock.specs.Stock.{census_of, tally_in}
use Rattle.charmlet_stock.proofs.AbsorptionLemmas.GoneOver.{back_retired, back_supplied, blanks_over, can_come, one_fewer, same_retired}
use Rattle.charmlet_stock.proofs.absorption.give_one.Goals as goal

pub give_back-requires-after_bounds : goal.give_back-requires-after_bounds
give_back-requires-after_bounds g c κs within =
    let is : kind_of (g.C.Chare.state c.in-Some.object) ≡ c.args.kind = search rules in
    subst (λ k. IsOut (tally_in c.args.stock.now k)) (sym is) (can_come (tally_in c.args.source.now c.args.kind) (tally_in c.args.stock.now c.args.kind) c.requires.some c.requires.room)

pub returns : goal.returns
returns g c =
    let k = c.args.kind in
    let old = census_of c.args.source.now in
    let new = census_of c.take.new.self in
    let before = census_of c.args.stock.now in
    let after = census_of c.give_back.new.self in
    let is : kind_of (g.C.Chare.state c.in-Some.object) ≡ k = search rules in
    let out : new ≡ with_at old k (with_out (tally_in c.args.source.now k) 1) = search rules in
    let went : after ≡ with_at before k (with_one_back (tally_in c.args.stock.now k)) =
    subst (λ j. after ≡ with_at before j (with_one_back (tally_in c.args.stock.now j))) is c.give_back.ensures.census in
    let some = c.requires.some in
    record {
      blanks = blanks_over old new k out some before after went;
      retired = back_retired old new k out some before after went;
      fewer = one_fewer old new k out some;
      rest = record {
        retired = same_retired old new k out some;
        supplied = back_supplied old new k out some before after went;
        keeping = c.take.ensures.keeping;
        keeping_there = c.give_back.ensures.keeping;
      };
    }
