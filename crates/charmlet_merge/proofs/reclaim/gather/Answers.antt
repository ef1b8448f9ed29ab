use Rattle.std.proofs.Common.{rules, ◌≡◌, ◌∷◌, ◌+◌, length, arith, refl, sym, ap, subst, ◌∙◌}
use Rattle.std.specs.List.{All}
use Rattle.std.proofs.lemmas.List.{nil_from_length}
use Rattle.charmlet_migrate.specs.Moving.{IsCountedAmong, IsIdle}
use Rattle.charmlet_replay.proofs.Cleared.{first_within, next_reclaimed}
use Rattle.charmlet_merge.proofs.ReclaimLemmas.Gathered.{all_in}
use Rattle.charmlet_merge.proofs.reclaim.gather.Goals as goal

pub loop-shelf-init : goal.loop-shelf-init
loop-shelf-init g c =
    let is : c.into_iter-shelf-iterator.result.rest.items ≡ c.args.shelves.items = c.into_iter-shelf-iterator.ensures.into_iter_gives.0 in
    record {
      left = search rules;
      so_far = record {
        idle = subst (All IsIdle) (sym is) c.requires.idle;
        counted = subst (λ vs. IsCountedAmong vs c.args.stock) (sym is) c.requires.counted;
        supplied = refl;
        keeping = c.requires.keeping;
      };
    }

pub clear_shelf-requires-clause-supply : goal.clear_shelf-requires-clause-supply
clear_shelf-requires-clause-supply g c = λ κs within.
    let is : c.loop-shelf.shelf-iterator.rest.items ≡ c.in-Some.shelf ∷ c.next.new.self.rest.items = search rules in
    first_within c.args.stock c.loop-shelf.shelf-iterator.rest.items c.loop-shelf.stock c.loop-shelf.invariant.so_far c.in-Some.shelf c.next.new.self.rest.items is

pub loop-shelf-preserved : goal.loop-shelf-preserved
loop-shelf-preserved g c =
    let is : c.loop-shelf.shelf-iterator.rest.items ≡ c.in-Some.shelf ∷ c.next.new.self.rest.items = search rules in
    let fewer : c.next.new.self.rest.len + 1 ≡ c.loop-shelf.shelf-iterator.rest.len = search rules in
    let as_many = c.loop-shelf.invariant.left ∙ ap length is in
    record {
      left = omega arith;
      so_far = next_reclaimed c.args.stock c.loop-shelf.shelf-iterator.rest.items c.loop-shelf.stock c.loop-shelf.invariant.so_far c.in-Some.shelf c.next.new.self.rest.items is
          c.clear_shelf.new.shelf c.clear_shelf.new.stock c.clear_shelf.ensures.shelf c.clear_shelf.ensures.held c.clear_shelf.ensures.supplied c.clear_shelf.ensures.keeping;
    }

pub returns-clause-all : goal.returns-clause-all
returns-clause-all g c = λ kind.
    let none : c.loop-shelf.shelf-iterator.rest.len ≡ 0 = search rules in
    let nothing = nil_from_length c.loop-shelf.shelf-iterator.rest.items (sym c.loop-shelf.invariant.left ∙ none) in
    all_in c.args.stock c.loop-shelf.stock c.loop-shelf.shelf-iterator.rest.items c.loop-shelf.invariant.so_far nothing kind
