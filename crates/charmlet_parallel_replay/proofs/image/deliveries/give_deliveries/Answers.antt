use Rattle.std.proofs.Common.{rules, ◌≡◌, ◌+◌, List, [], ◌∷◌, length, sym, ap, subst, ◌∙◌, arith}
use Rattle.std.proofs.lemmas.List.{nil_from_length}
use Rattle.charmlet_model.specs.declared.logged.CatchUpEntry.{CatchUpEntry}
use Rattle.charmlet_record.specs.declared.positioned.Positioned.{Positioned}
use Rattle.charmlet_replayers.specs.Dispatch.Sharing.{worker_of}
use Rattle.charmlet_parallel_replay.specs.Image.Given.{AreGivenOne}
use Rattle.charmlet_parallel_replay.proofs.ImageLemmas.Giving.{GivenSoFar, all_given, begins, one_given, then_keeps}
use Rattle.charmlet_parallel_replay.proofs.image.deliveries.give_deliveries.Goals as goal

pub deliveries-init : goal.deliveries-init
deliveries-init g c =
    let is : c.into_iter-placed-iterator.result.rest.items ≡ c.args.deliveries.items = c.into_iter-placed-iterator.ensures.into_iter_gives.0 in
    let replayers = c.args.replayers.now in
    let worker = worker_of c.args.processors (length replayers) in
    record {
      left = search rules;
      so_far = subst (λ (ps : List (Positioned CatchUpEntry)). GivenSoFar worker c.args.deliveries.items ps replayers replayers) (sym is) (begins worker c.args.deliveries.items replayers c.requires.held);
    }

pub worker_of-worker-requires-clause-some : goal.worker_of-worker-requires-clause-some
worker_of-worker-requires-clause-some g c =
    let some = c.requires.some in
    let count = c.deliveries.invariant.so_far.keeps.count in
    omega (arith, some, count)

pub give_delivery-requires-clause-held : goal.give_delivery-requires-clause-held
give_delivery-requires-clause-held g c κs within = c.deliveries.invariant.so_far.keeps.held

pub deliveries-preserved : goal.deliveries-preserved
deliveries-preserved g c =
    let olds = c.args.replayers.now in
    let worker = worker_of c.args.processors (length olds) in
    let more = c.next.new.self.rest.items in
    let p = c.in-Some.placed in
    let is : c.deliveries.placed-iterator.rest.items ≡ p ∷ more = search rules in
    let fewer : c.next.new.self.rest.len + 1 ≡ c.deliveries.placed-iterator.rest.len = search rules in
    let before = c.deliveries.invariant.left ∙ ap length is in
    let so_far = subst (λ (ps : List (Positioned CatchUpEntry)). GivenSoFar worker c.args.deliveries.items ps olds c.deliveries.replayers) is c.deliveries.invariant.so_far in
    let its : c.worker_of-worker.result ≡ worker p.item.message.to = c.worker_of-worker.ensures.worker ∙ ap (λ n. worker_of c.args.processors n p.item.message.to) so_far.keeps.count in
    record {
      left = omega (arith, fewer, before);
      so_far = one_given worker c.args.deliveries.items olds p more c.deliveries.replayers c.give_delivery.new.replayers so_far c.give_delivery.ensures.keeps
          (subst (λ n. AreGivenOne n p c.deliveries.replayers c.give_delivery.new.replayers) its c.in_ok-give_delivery.ensures.ok);
    }

pub returns-in_err-give_delivery-clause-keeps : goal.returns-in_err-give_delivery-clause-keeps
returns-in_err-give_delivery-clause-keeps g c = then_keeps c.args.replayers.now c.deliveries.replayers c.give_delivery.new.replayers c.deliveries.invariant.so_far.keeps c.give_delivery.ensures.keeps

pub returns-clause-ok : goal.returns-clause-ok
returns-clause-ok g c =
    let none : c.deliveries.placed-iterator.rest.len ≡ 0 = search rules in
    let nothing = nil_from_length c.deliveries.placed-iterator.rest.items (sym c.deliveries.invariant.left ∙ none) in
    let olds = c.args.replayers.now in
    let worker = worker_of c.args.processors (length olds) in
    all_given worker c.args.deliveries.items olds c.deliveries.replayers (subst (λ (ps : List (Positioned CatchUpEntry)). GivenSoFar worker c.args.deliveries.items ps olds c.deliveries.replayers) nothing c.deliveries.invariant.so_far)
