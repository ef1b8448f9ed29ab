use Rattle.std.proofs.Common.{rules, ◌≡◌, ℕ, ◌+◌, List, ◌∷◌, length, refl, sym, ap, subst, ◌∙◌, arith}
use Rattle.std.specs.List.{AllByRecursion}
use Rattle.std.proofs.lemmas.List.{nil_from_length}
use Rattle.std.proofs.lemmas.List.Sums.{sum_by-cons}
use Rattle.charmlet_model.specs.declared.kind.Kind.{Kind}
use Rattle.charmlet_merge.specs.replayer.Replayer.{Replayer}
use Rattle.charmlet_stock.specs.Stock.{blanks_in, supplied_to}
use Rattle.charmlet_stock.specs.Absorption.Absorbed.{retired_in}
use Rattle.charmlet_replay.specs.RestoredShard.{IsHeld}
use Rattle.charmlet_replay.proofs.OpenHalves.{supplied_back, unused_back}
use Rattle.charmlet_merge.specs.Combined.{drawn_by_replayers}
use Rattle.charmlet_merge.proofs.ReclaimLemmas.Gathered.{all_blank}
use Rattle.charmlet_merge.proofs.reclaim.reclaim_objects.Goals as goal

pub replayers-init : goal.replayers-init
replayers-init g c =
    let is : c.into_iter-replayer-iterator.result.rest.items ≡ c.args.replayers.items = c.into_iter-replayer-iterator.ensures.into_iter_gives.0 in
    record {
      left = search rules;
      held = subst (λ (ls : List (Replayer _ _)). AllByRecursion (λ replayer. IsHeld replayer.restored) ls) (sym is) c.requires.held;
      shared = λ kind. c.requires.shared kind ∙ ap (λ (ls : List (Replayer _ _)). drawn_by_replayers ls kind + blanks_in c.args.stock kind + retired_in c.args.stock kind) (sym is);
      supplied = λ kind. refl;
      keeping = c.requires.keeping;
    }

pub reclaim_replayer-requires-clause-held : goal.reclaim_replayer-requires-clause-held
reclaim_replayer-requires-clause-held g c κs within =
    let is : c.replayers.replayer-iterator.rest.items ≡ c.in-Some.replayer ∷ c.next.new.self.rest.items = search rules in
    (subst (λ (ls : List (Replayer _ _)). AllByRecursion (λ replayer. IsHeld replayer.restored) ls) is c.replayers.invariant.held).0

pub reclaim_replayer-requires-clause-room : goal.reclaim_replayer-requires-clause-room
reclaim_replayer-requires-clause-room g c κs within = λ kind.
    let is : c.replayers.replayer-iterator.rest.items ≡ c.in-Some.replayer ∷ c.next.new.self.rest.items = search rules in
    let shared = c.replayers.invariant.shared kind in
    let sum = ap (λ (ls : List (Replayer _ _)). drawn_by_replayers ls kind) is ∙ sum_by-cons (λ (l : Replayer _ _). supplied_to l.restored.stock kind) c.in-Some.replayer c.next.new.self.rest.items in
    omega (arith, shared, sum)

pub replayers-preserved : goal.replayers-preserved
replayers-preserved g c =
    let more = c.next.new.self.rest.items in
    let is : c.replayers.replayer-iterator.rest.items ≡ c.in-Some.replayer ∷ more = search rules in
    let fewer : c.next.new.self.rest.len + 1 ≡ c.replayers.replayer-iterator.rest.len = search rules in
    let before = c.replayers.invariant.left ∙ ap length is in
    record {
      left = omega (arith, fewer, before);
      held = (subst (λ (ls : List (Replayer _ _)). AllByRecursion (λ replayer. IsHeld replayer.restored) ls) is c.replayers.invariant.held).1;
      shared = λ kind.
          let shared = c.replayers.invariant.shared kind in
          let sum = ap (λ (ls : List (Replayer _ _)). drawn_by_replayers ls kind) is ∙ sum_by-cons (λ (l : Replayer _ _). supplied_to l.restored.stock kind) c.in-Some.replayer more in
          let back = c.reclaim_replayer.ensures.back kind in
          let supplied = c.reclaim_replayer.ensures.supplied kind in
          omega (arith, shared, sum, back, supplied);
      supplied = λ kind. c.reclaim_replayer.ensures.supplied kind ∙ c.replayers.invariant.supplied kind;
      keeping = c.reclaim_replayer.ensures.keeping ∙ c.replayers.invariant.keeping;
    }

pub returns : goal.returns
returns g c =
    let none : c.replayers.replayer-iterator.rest.len ≡ 0 = search rules in
    let nothing = nil_from_length c.replayers.replayer-iterator.rest.items (sym c.replayers.invariant.left ∙ none) in
    let all = λ (kind : Kind).
    (let shared = c.replayers.invariant.shared kind in
    let drawn : drawn_by_replayers c.replayers.replayer-iterator.rest.items kind ≡ 0 = ap (λ (ls : List (Replayer _ _)). drawn_by_replayers ls kind) nothing in
    let sum : supplied_to c.replayers.stock kind ≡ blanks_in c.replayers.stock kind + retired_in c.replayers.stock kind = omega (arith, shared, drawn) in
    sum) in
    let tally = all_blank c.replayers.stock c.take_back.new.self c.drop_retired.new.self all c.replayers.invariant.keeping c.take_back.ensures.census c.drop_retired.ensures.census in
    record {
      unused = unused_back c.drop_retired.new.self (supplied_to c.replayers.stock) tally c.drop_retired.ensures.keeping;
      supplied = λ kind. ap (λ (f : Kind → ℕ). f kind) (supplied_back c.drop_retired.new.self (supplied_to c.replayers.stock) tally) ∙ c.replayers.invariant.supplied kind;
    }
