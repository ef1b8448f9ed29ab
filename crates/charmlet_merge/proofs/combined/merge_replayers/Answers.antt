use Rattle.std.proofs.Common.{rules, ◌≡◌, ◌+◌, List, ◌∷◌, length, sym, ap, subst, ◌∙◌, arith}
use Rattle.std.proofs.lemmas.List.{nil_from_length}
use Rattle.charmlet_model.specs.declared.names.Elem.{Elem}
use Rattle.charmlet_model.specs.declared.state.Record.{Record}
use Rattle.charmlet_replayers.specs.declared.replayer.replayer.Replayer.{Replayer}
use Rattle.charmlet_merge.specs.Combined.{IsJoinable}
use Rattle.charmlet_merge.specs.Taken.{HaveTaken}
use Rattle.charmlet_merge.proofs.Joins.{IsJoining, all_blanks_are, all_counted, all_home, as_many, joining_begins, keeps, one_joined, room}
use Rattle.charmlet_merge.proofs.combined.merge_replayers.Goals as goal

pub replayers-init : goal.replayers-init
replayers-init g c =
    let is : c.into_iter-replayer-iterator.result.rest.items ≡ c.args.replayers.items = c.into_iter-replayer-iterator.ensures.into_iter_gives.0 in
    record {
      left = search rules;
      place = let size = ap length is in let many : c.len-workers.result ≡ length c.args.replayers.items = search rules in omega (arith, size, many);
      many = search rules;
      so_far = λ records can.
          subst (λ (ls : List (Replayer _ _)). IsJoining c.args.processors records c.args.replayers.items c.args.shelves.items c.args.stock 0 ls c.args.shelves.items c.args.stock) (sym is)
          (joining_begins c.args.processors records c.args.replayers.items c.args.shelves.items c.args.stock can);
    }

pub merge_replayer-requires-clause-long : goal.merge_replayer-requires-clause-long
merge_replayer-requires-clause-long g c κs within =
    let records = c.requires.joinable.0 in
    let can = c.requires.joinable.1 in
    let more = c.next.new.self.rest.items in
    let is : c.replayers.replayer-iterator.rest.items ≡ c.in-Some.replayer ∷ more = search rules in
    let joining = subst (λ (ls : List (Replayer _ _)). IsJoining c.args.processors records c.args.replayers.items c.args.shelves.items c.args.stock c.replayers.worker ls c.replayers.shelves.items c.replayers.stock) is (c.replayers.invariant.so_far records can) in
    as_many c.args.processors records c.args.replayers.items c.args.shelves.items c.args.stock can c.replayers.worker c.in-Some.replayer more c.replayers.shelves.items c.replayers.stock joining

pub merge_replayer-requires-clause-room : goal.merge_replayer-requires-clause-room
merge_replayer-requires-clause-room g c κs within =
    let records = c.requires.joinable.0 in
    let can = c.requires.joinable.1 in
    let more = c.next.new.self.rest.items in
    let is : c.replayers.replayer-iterator.rest.items ≡ c.in-Some.replayer ∷ more = search rules in
    let joining = subst (λ (ls : List (Replayer _ _)). IsJoining c.args.processors records c.args.replayers.items c.args.shelves.items c.args.stock c.replayers.worker ls c.replayers.shelves.items c.replayers.stock) is (c.replayers.invariant.so_far records can) in
    room c.args.processors records c.args.replayers.items c.args.shelves.items c.args.stock can c.replayers.worker c.in-Some.replayer more c.replayers.shelves.items c.replayers.stock joining

pub merge_replayer-requires-clause-keeping : goal.merge_replayer-requires-clause-keeping
merge_replayer-requires-clause-keeping g c κs within =
    let records = c.requires.joinable.0 in
    let can = c.requires.joinable.1 in
    let more = c.next.new.self.rest.items in
    let is : c.replayers.replayer-iterator.rest.items ≡ c.in-Some.replayer ∷ more = search rules in
    let joining = subst (λ (ls : List (Replayer _ _)). IsJoining c.args.processors records c.args.replayers.items c.args.shelves.items c.args.stock c.replayers.worker ls c.replayers.shelves.items c.replayers.stock) is (c.replayers.invariant.so_far records can) in
    keeps c.args.processors records c.args.replayers.items c.args.shelves.items c.args.stock can c.replayers.worker c.in-Some.replayer more c.replayers.shelves.items c.replayers.stock joining

pub replayers-preserved : goal.replayers-preserved
replayers-preserved g c =
    let more = c.next.new.self.rest.items in
    let all = c.args.replayers.items in
    let is : c.replayers.replayer-iterator.rest.items ≡ c.in-Some.replayer ∷ more = search rules in
    let fewer : c.next.new.self.rest.len + 1 ≡ c.replayers.replayer-iterator.rest.len = search rules in
    let before = c.replayers.invariant.left ∙ ap length is in
    record {
      left = omega (arith, fewer, before);
      place = let place = c.replayers.invariant.place in let size = ap length is in omega (arith, place, size);
      many = c.replayers.invariant.many;
      so_far = λ records can.
          let joining = subst (λ (ls : List (Replayer _ _)). IsJoining c.args.processors records all c.args.shelves.items c.args.stock c.replayers.worker ls c.replayers.shelves.items c.replayers.stock) is (c.replayers.invariant.so_far records can) in
          one_joined c.args.processors records all c.args.shelves.items c.args.stock can c.replayers.worker c.in-Some.replayer more c.replayers.shelves.items c.replayers.stock joining
          c.merge_replayer.new.shelves.items c.merge_replayer.new.stock
          (subst (λ n. HaveTaken c.replayers.worker n c.replayers.shelves.items c.in-Some.replayer.restored.shelves.items c.merge_replayer.new.shelves.items) c.replayers.invariant.many c.merge_replayer.ensures.taken)
          c.merge_replayer.ensures.absorbed;
    }

pub returns : goal.returns
returns g c =
    let none : c.replayers.replayer-iterator.rest.len ≡ 0 = search rules in
    let nothing = nil_from_length c.replayers.replayer-iterator.rest.items (sym c.replayers.invariant.left ∙ none) in
    let joining = λ (records : List (Elem × Record)) (can : IsJoinable c.args.processors records c.args.replayers.items c.args.shelves.items c.args.stock).
    subst (λ (ls : List (Replayer _ _)). IsJoining c.args.processors records c.args.replayers.items c.args.shelves.items c.args.stock c.replayers.worker ls c.replayers.shelves.items c.replayers.stock) nothing (c.replayers.invariant.so_far records can) in
    let its = c.requires.joinable in
    let last = joining its.0 its.1 in
    record {
      home = λ records can. all_home c.args.processors records c.args.replayers.items c.args.shelves.items c.args.stock can c.replayers.worker c.replayers.shelves.items c.replayers.stock (joining records can);
      counted = all_counted c.args.processors its.0 c.args.replayers.items c.args.shelves.items c.args.stock its.1 c.replayers.worker c.replayers.shelves.items c.replayers.stock last;
      blanks = all_blanks_are c.args.processors its.0 c.args.replayers.items c.args.shelves.items c.args.stock its.1 c.replayers.worker c.replayers.shelves.items c.replayers.stock last;
      supplied = last.supplied;
      keeping = last.keeping;
    }
