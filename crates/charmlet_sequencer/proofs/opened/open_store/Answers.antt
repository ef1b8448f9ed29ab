use Rattle.std.proofs.Common.{◌≡◌, ◌∷◌, ◌+◌, ◌++◌, [], false, List, length, ap, sym, ◌∙◌, subst, arith, rules}
use Rattle.std.proofs.lemmas.List.{nil_from_length}
use Rattle.charmlet_halves.specs.Halves.{disk_of}
use Rattle.charmlet_history.specs.Kept.{core_in}
use Rattle.charmlet_persist.specs.Writes.Rest.{Agrees, IsCurrent, IsKept}
use Rattle.charmlet_shelf.specs.Shelf.{View}
use Rattle.charmlet_store.specs.Store.{StoreShown}
use Rattle.charmlet_sequencer.specs.Authority.{IsAuthorityOf}
use Rattle.charmlet_sequencer.specs.Opened.{AreShelvesOf}
use Rattle.charmlet_sequencer.specs.Sequencer.{HasOpened}
use Rattle.charmlet_sequencer.specs.Together.{shown_by}
use Rattle.charmlet_sequencer.proofs.Reopened.{idle_at, none_left, number_at, one_more, parts_more, parts_of, split, store_authority, store_shelves, within}
use Rattle.charmlet_sequencer.proofs.opened.open_store.Goals as goal

pub loop-shelf-init : goal.loop-shelf-init
loop-shelf-init g c =
    let left = c.into_iter-shelf-iterator.result.rest.items in
    let items : left ≡ c.into_parts-history.result.shelves.items = c.into_iter-shelf-iterator.ensures.into_iter_gives.0 in
    let empty : c.args.shelves.items ≡ [] = nil_from_length _ (sym c.args.shelves.ok.0 ∙ c.requires.none) in
    let shown = ap (λ (v : StoreShown). (core_in v.history).processors) c.into_parts-history.ensures.shown in
    let many : length left ≡ g.B.RuntimeName.processors = ap (length {A = View}) items ∙ c.into_parts-history.ensures.fit.count ∙ shown ∙ c.requires.named.processors_are in
    let room = c.requires.room in
    record {
      shelves = ap (λ (ss : List View). ss ++ left) empty;
      parts = c.requires.parts ∙ ap parts_of (sym empty);
      left = search rules;
      room = omega arith;
    }

pub add_idle-requires-clause-number : goal.add_idle-requires-clause-number
add_idle-requires-clause-number g c κs lives =
    let all = c.into_parts-history.result.shelves.items in
    let before = c.loop-shelf.shelves.items in
    let shelf = c.in-Some.shelf in
    let after = c.next.new.self.rest.items in
    let is : c.loop-shelf.shelf-iterator.rest.items ≡ shelf ∷ after = search rules in
    let so_far = c.loop-shelf.invariant.shelves ∙ c.into_iter-shelf-iterator.ensures.into_iter_gives.0 in
    number_at before shelf after all (split before c.loop-shelf.shelf-iterator.rest.items after before all shelf so_far is) c.loop-shelf.parts c.loop-shelf.invariant.parts c.into_parts-history.ensures.fit.numbers

pub add_idle-requires-clause-idle : goal.add_idle-requires-clause-idle
add_idle-requires-clause-idle g c κs lives =
    let all = c.into_parts-history.result.shelves.items in
    let before = c.loop-shelf.shelves.items in
    let shelf = c.in-Some.shelf in
    let after = c.next.new.self.rest.items in
    let is : c.loop-shelf.shelf-iterator.rest.items ≡ shelf ∷ after = search rules in
    let so_far = c.loop-shelf.invariant.shelves ∙ c.into_iter-shelf-iterator.ensures.into_iter_gives.0 in
    idle_at before shelf after all (split before c.loop-shelf.shelf-iterator.rest.items after before all shelf so_far is) c.into_parts-history.ensures.fit.idle

pub add_idle-requires-clause-room : goal.add_idle-requires-clause-room
add_idle-requires-clause-room g c κs lives =
    let all = c.into_iter-shelf-iterator.result.rest.items in
    let before = c.loop-shelf.shelves.items in
    let shelf = c.in-Some.shelf in
    let after = c.next.new.self.rest.items in
    let is : c.loop-shelf.shelf-iterator.rest.items ≡ shelf ∷ after = search rules in
    let less = within before shelf after all (split before c.loop-shelf.shelf-iterator.rest.items after before all shelf c.loop-shelf.invariant.shelves is) in
    let len = c.loop-shelf.shelves.ok.0 in
    let room = c.loop-shelf.invariant.room in
    omega arith

pub loop-shelf-preserved : goal.loop-shelf-preserved
loop-shelf-preserved g c =
    let so_far = c.loop-shelf.invariant in
    let before = c.loop-shelf.shelves.items in
    let rest = c.loop-shelf.shelf-iterator.rest.items in
    let shelf = c.in-Some.shelf in
    let after = c.next.new.self.rest.items in
    let now = c.add_idle.new.shelves.items in
    let is : rest ≡ shelf ∷ after = search rules in
    let fewer : c.next.new.self.rest.len + 1 ≡ c.loop-shelf.shelf-iterator.rest.len = search rules in
    let as_many = so_far.left ∙ ap (length {A = View}) is in
    let room = so_far.room in
    let capacity = c.add_idle.ensures.capacity in
    record {
      shelves = one_more before rest after now c.into_iter-shelf-iterator.result.rest.items shelf so_far.shelves is c.add_idle.ensures.shelves;
      parts = parts_more before now shelf c.loop-shelf.parts c.add_idle.new.parts so_far.parts c.add_idle.ensures.parts c.add_idle.ensures.shelves;
      left = omega arith;
      room = omega arith;
    }

pub invariant_of-sequencer : goal.invariant_of-sequencer
invariant_of-sequencer g c =
    let h = c.into_parts-history.result in
    let so_far = c.loop-shelf.invariant in
    let rest = c.loop-shelf.shelf-iterator.rest in
    let none : rest.len ≡ 0 = search rules in
    let all : c.loop-shelf.shelves.items ≡ h.shelves.items = none_left c.loop-shelf.shelves.items rest.items h.shelves.items (so_far.shelves ∙ c.into_iter-shelf-iterator.ensures.into_iter_gives.0) (sym so_far.left ∙ none) in
    let shown = sym c.into_parts-history.ensures.shown in
    let unassigned = ap (λ (v : StoreShown). (core_in v.history).assigned) c.into_parts-history.ensures.shown ∙ c.requires.unassigned in (
      subst (λ (v : StoreShown). HasOpened g.B.RuntimeName.opening g.B.RuntimeName.before g.B.RuntimeName.processors g.B.RuntimeName.generation (core_in v.history)) shown (record { of = c.requires.named; later = (let same = c.requires.generation in omega (arith, same)) }),
      record {
        authority = subst (IsAuthorityOf h.history h.stock) (sym (so_far.parts ∙ ap parts_of all)) (store_authority h.history h.shelves.items h.stock c.into_parts-history.ensures.fit unassigned);
        dropping = ap (λ (v : StoreShown). v.keeping) c.into_parts-history.ensures.shown ∙ c.requires.dropping;
        agrees = subst (λ (v : StoreShown). Agrees (core_in v.history) c.args.halves) shown c.requires.agrees;
        keeps = subst (λ (v : StoreShown). g.D.Disk.honest (disk_of c.args.halves) → IsKept (core_in v.history) c.args.halves) shown c.requires.kept;
        current = subst (λ (v : StoreShown). g.D.Disk.honest (disk_of c.args.halves) → (core_in v.history).halted ≡ false → IsCurrent c.args.halves) shown c.requires.current;
      },
    )

pub returns-clause-shelves : goal.returns-clause-shelves
returns-clause-shelves g c =
    let h = c.into_parts-history.result in
    let rest = c.loop-shelf.shelf-iterator.rest in
    let none : rest.len ≡ 0 = search rules in
    let all : c.loop-shelf.shelves.items ≡ h.shelves.items = none_left c.loop-shelf.shelves.items rest.items h.shelves.items (c.loop-shelf.invariant.shelves ∙ c.into_iter-shelf-iterator.ensures.into_iter_gives.0) (sym c.loop-shelf.invariant.left ∙ none) in
    subst (AreShelvesOf (shown_by h.history h.stock c.args.halves)) (sym all) (store_shelves h.history h.shelves.items h.stock c.args.halves c.into_parts-history.ensures.fit)
