use Rattle.std.proofs.Common.{◌≡◌, ◌+◌, ap, ◌∙◌, arith}
use Rattle.charmlet_model.specs.declared.kind.Kind.{Kind}
use Rattle.charmlet_stock.specs.declared.by_kind.ByKind.{ByKind}
use Rattle.charmlet_stock.specs.declared.pile.Tally.{Tally}
use Rattle.charmlet_stock.specs.ByKind.{at}
use Rattle.charmlet_stock.specs.Stock.{blanks_in, census_of}
use Rattle.charmlet_stock.specs.Absorption.Absorbed.{retired_in}
use Rattle.charmlet_stock.proofs.AbsorptionLemmas.GoneOver.{all_back, none_retired}
use Rattle.charmlet_stock.proofs.absorption.absorb.Goals as goal

pub give_one-requires-clause-room : goal.give_one-requires-clause-room
give_one-requires-clause-room g c κs within =
    let k = c.in-Some.kind in
    let room = c.requires.room k in
    let both = c.blanks.invariant.blanks k in
    let here = c.blanks.invariant.retired k in
    let there = c.blanks.invariant.retired_there k in
    let supplied = c.blanks.invariant.supplied k in
    omega (arith, room, both, here, there, supplied)

pub blanks-preserved : goal.blanks-preserved
blanks-preserved g c = record {
  blanks = λ k. c.give_one.ensures.blanks k ∙ c.blanks.invariant.blanks k;
  retired = λ k. c.give_one.ensures.rest.retired k ∙ c.blanks.invariant.retired k;
  retired_there = λ k. c.give_one.ensures.retired k ∙ c.blanks.invariant.retired_there k;
  supplied = λ k. c.give_one.ensures.rest.supplied k ∙ c.blanks.invariant.supplied k;
  keeping = c.give_one.ensures.rest.keeping ∙ c.blanks.invariant.keeping;
  keeping_there = c.give_one.ensures.rest.keeping_there ∙ c.blanks.invariant.keeping_there;
}

pub retired-init : goal.retired-init
retired-init g c =
    let left = census_of c.blanks.source in
    let none : (kind : Kind) → blanks_in c.blanks.source kind ≡ 0 = c.kind_left.ensures.none c.in_default.is in
    record {
      blanks = λ k.
          let both = c.blanks.invariant.blanks k in
          let nothing = none k in
          omega (arith, both, nothing);
      none = λ k. ap (λ (v : ByKind Tally). (at v k).retired) c.take_back.ensures.census ∙ none_retired left k;
      retired = λ k.
          let back : blanks_in c.take_back.new.self k ≡ blanks_in c.blanks.source k + retired_in c.blanks.source k =
          ap (λ (v : ByKind Tally). (at v k).in_stock) c.take_back.ensures.census ∙ all_back left k in
          let nothing = none k in
          let here = c.blanks.invariant.retired k in
          let there = c.blanks.invariant.retired_there k in
          omega (arith, back, nothing, here, there);
      supplied = c.blanks.invariant.supplied;
      keeping_there = c.blanks.invariant.keeping_there;
    }

pub retire_one-requires-clause-room : goal.retire_one-requires-clause-room
retire_one-requires-clause-room g c κs within =
    let k = c.in-Some-kind_left.kind in
    let room = c.requires.room k in
    let blanks = c.retired.invariant.blanks k in
    let none = c.retired.invariant.none k in
    let both = c.retired.invariant.retired k in
    let supplied = c.retired.invariant.supplied k in
    omega (arith, room, blanks, none, both, supplied)

pub retired-preserved : goal.retired-preserved
retired-preserved g c = record {
  blanks = λ k. c.retire_one.ensures.blanks k ∙ c.retired.invariant.blanks k;
  none = λ k. c.retire_one.ensures.rest.retired k ∙ c.retired.invariant.none k;
  retired = λ k. c.retire_one.ensures.retired k ∙ c.retired.invariant.retired k;
  supplied = λ k. c.retire_one.ensures.rest.supplied k ∙ c.retired.invariant.supplied k;
  keeping_there = c.retire_one.ensures.rest.keeping_there ∙ c.retired.invariant.keeping_there;
}

pub returns : goal.returns
returns g c =
    let none : (kind : Kind) → blanks_in c.retired.source kind ≡ 0 = c.kind_left-in-retired.ensures.none c.in_default-kind_left.is in
    record {
      absorbed = record {
        blanks = c.retired.invariant.blanks;
        retired = λ k.
            let both = c.retired.invariant.retired k in
            let nothing = none k in
            omega (arith, both, nothing);
        supplied = c.retired.invariant.supplied;
        keeping = c.retired.invariant.keeping_there;
      };
    }
