use Rattle.std.proofs.Common.{rules, ◌≡◌, ◌<◌, ◌≤◌, ℕ, List, [], ◌++◌, length, take, drop, refl, sym, ap, subst, ◌∙◌, arith}
use Rattle.std.specs.Prelude.{Err}
use Rattle.std.specs.List.{All}
use Rattle.charmlet_model.specs.declared.kind.Kind.{Kind}
use Rattle.charmlet_recovery.specs.Blanks.{wanted}
use Rattle.charmlet_recovery.specs.Restarts.{wanted_of}
use Rattle.charmlet_stock.specs.declared.stock.Stock.{Stock}
use Rattle.charmlet_stock.specs.Stock.{blanks_in, supplied_to}
use Rattle.charmlet_parallel_replay.specs.replayer.Replayer.{Replayer}
use Rattle.charmlet_replayers.specs.Dispatch.Keeping.{IsHeldReplayer, KeepsAll}
use Rattle.charmlet_parallel_replay.specs.Image.Filled.{IsEmptyReplayer}
use Rattle.charmlet_replay.proofs.OpenHalves.{few_generations, some_generation}
use Rattle.charmlet_record.specs.declared.reader.ReadError.TheVariants as errors
use Rattle.charmlet_recovery.specs.RestartLaws.{IsEnough}
use Rattle.charmlet_parallel_replay.specs.declared.log.replay_error.ReplayError.{ReplayError}
use Rattle.charmlet_parallel_replay.specs.declared.log.replay_error.ReplayError.TheVariants.{OutOfBlanks, Read}
use Rattle.charmlet_parallel_replay.proofs.Redone.{few_events}
use Rattle.charmlet_parallel_replay.proofs.Repeating.{all_done, arrays_are, given_back, joinable, repeated, shared_back, some_workers, written_back}
use Rattle.charmlet_parallel_replay.proofs.Sharing.{all_held, none_supplied, same_blanks, same_supplied, shared_left, shared_none, supplied_left}
use Rattle.charmlet_parallel_replay.proofs.repeated.repeat_by.Goals as goal

pub returns-in_default-clause-kept : goal.returns-in_default-clause-kept
returns-in_default-clause-kept g c =
    let blanks = c.args.blanks in
    let first = c.keep_retired.new.self in
    let unused = c.requires.unused in
    let census = c.keep_retired.ensures.census in
    given_back c.refuse.result.blanks first blanks c.refuse.ensures.supplied (same_supplied blanks first unused census)

pub refuse-requires-in_default-empty_shelves-clause-held : goal.refuse-requires-in_default-empty_shelves-clause-held
refuse-requires-in_default-empty_shelves-clause-held g c κs within =
    let blanks = c.args.blanks in
    let first = c.keep_retired.new.self in
    let unused = c.requires.unused in
    let census = c.keep_retired.ensures.census in
    let n = c.args.processors in
    let replayers = c.in-Ok.replayers.items in
    let none = none_supplied n replayers c.in-Ok.ensures.empty in
    all_held n replayers c.in-Ok.ensures.empty

pub refuse-requires-in_default-empty_shelves-clause-shared : goal.refuse-requires-in_default-empty_shelves-clause-shared
refuse-requires-in_default-empty_shelves-clause-shared g c κs within =
    let blanks = c.args.blanks in
    let first = c.keep_retired.new.self in
    let unused = c.requires.unused in
    let census = c.keep_retired.ensures.census in
    let n = c.args.processors in
    let replayers = c.in-Ok.replayers.items in
    let none = none_supplied n replayers c.in-Ok.ensures.empty in
    shared_none blanks first unused census replayers none

pub returns-in_default-empty_shelves-clause-kept : goal.returns-in_default-empty_shelves-clause-kept
returns-in_default-empty_shelves-clause-kept g c =
    let blanks = c.args.blanks in
    let first = c.keep_retired.new.self in
    let unused = c.requires.unused in
    let census = c.keep_retired.ensures.census in
    given_back c.refuse-in_default-empty_shelves.result.blanks first blanks c.refuse-in_default-empty_shelves.ensures.supplied (same_supplied blanks first unused census)

pub redo_half-done-requires-clause-half : goal.redo_half-done-requires-clause-half
redo_half-done-requires-clause-half g c κs within =
    let blanks = c.args.blanks in
    let first = c.keep_retired.new.self in
    let unused = c.requires.unused in
    let census = c.keep_retired.ensures.census in
    let its = c.requires.half in
    (its.0, its.1, its.2, λ kind. subst (λ (k : ℕ). wanted its.1.image [] kind ≤ k) (sym (same_blanks blanks first unused census kind)) (its.3 kind))

pub redo_half-done-requires-clause-empty : goal.redo_half-done-requires-clause-empty
redo_half-done-requires-clause-empty g c κs within =
    subst (λ (ls : List (Replayer _ _)). All (IsEmptyReplayer c.args.processors) ls) (sym c.as_mut_slice.ensures.value) c.in-Ok.ensures.empty

pub overflow_add-count : goal.overflow_add-count
overflow_add-count g c =
    let its = c.requires.half in
    let few = few_events its.0 its.1 c.args.half its.2 c.in-Ok-done.ensures.ok.faultless in
    omega (arith, few)

pub build_store-joined-requires-clause-done : goal.build_store-joined-requires-clause-done
build_store-joined-requires-clause-done g c κs within =
    let blanks = c.args.blanks in
    let first = c.keep_retired.new.self in
    let unused = c.requires.unused in
    let census = c.keep_retired.ensures.census in
    let n = c.args.processors in
    let replayers = c.in-Ok.replayers.items in
    let none = none_supplied n replayers c.in-Ok.ensures.empty in
    let news = c.redo_half-done.new.replayers in
    let stock = c.redo_half-done.new.stock in
    let keeps = subst (λ (ls : List (Replayer _ _)). KeepsAll first stock ls news) c.as_mut_slice.ensures.value c.redo_half-done.ensures.keeps in
    let many : c.in-Ok.replayers.len ≡ length replayers = search rules in
    let all = take c.in-Ok.replayers.len (news ++ drop (length news) replayers) in
    let back : all ≡ news = written_back c.in-Ok.replayers.len news replayers many keeps.count in
    let redone = c.in-Ok-done.ensures.ok in
    let half = c.args.half in
    let given = blanks_in first in
    let left = blanks_in stock in
    let kept = c.in-Ok-done.kept in
    let seen = c.of-seen.result.world in
    all_done half n given left kept news redone seen c.of-seen.ensures all back

pub build_store-joined-requires-clause-manifest : goal.build_store-joined-requires-clause-manifest
build_store-joined-requires-clause-manifest g c κs within =
    let blanks = c.args.blanks in
    let first = c.keep_retired.new.self in
    let unused = c.requires.unused in
    let census = c.keep_retired.ensures.census in
    let n = c.args.processors in
    let replayers = c.in-Ok.replayers.items in
    let none = none_supplied n replayers c.in-Ok.ensures.empty in
    let news = c.redo_half-done.new.replayers in
    let stock = c.redo_half-done.new.stock in
    let keeps = subst (λ (ls : List (Replayer _ _)). KeepsAll first stock ls news) c.as_mut_slice.ensures.value c.redo_half-done.ensures.keeps in
    let many : c.in-Ok.replayers.len ≡ length replayers = search rules in
    let all = take c.in-Ok.replayers.len (news ++ drop (length news) replayers) in
    let back : all ≡ news = written_back c.in-Ok.replayers.len news replayers many keeps.count in
    let redone = c.in-Ok-done.ensures.ok in
    let half = c.args.half in
    let given = blanks_in first in
    let left = blanks_in stock in
    let kept = c.in-Ok-done.kept in
    let seen = c.of-seen.result.world in
    arrays_are half n given left kept news redone seen c.of-seen.ensures ∙ sym c.in-Ok-done.ensures.manifest

pub build_store-joined-requires-clause-joinable : goal.build_store-joined-requires-clause-joinable
build_store-joined-requires-clause-joinable g c κs within =
    let blanks = c.args.blanks in
    let first = c.keep_retired.new.self in
    let unused = c.requires.unused in
    let census = c.keep_retired.ensures.census in
    let n = c.args.processors in
    let replayers = c.in-Ok.replayers.items in
    let none = none_supplied n replayers c.in-Ok.ensures.empty in
    let news = c.redo_half-done.new.replayers in
    let stock = c.redo_half-done.new.stock in
    let keeps = subst (λ (ls : List (Replayer _ _)). KeepsAll first stock ls news) c.as_mut_slice.ensures.value c.redo_half-done.ensures.keeps in
    let many : c.in-Ok.replayers.len ≡ length replayers = search rules in
    let all = take c.in-Ok.replayers.len (news ++ drop (length news) replayers) in
    let back : all ≡ news = written_back c.in-Ok.replayers.len news replayers many keeps.count in
    let redone = c.in-Ok-done.ensures.ok in
    let half = c.args.half in
    let given = blanks_in first in
    let left = blanks_in stock in
    let kept = c.in-Ok-done.kept in
    let seen = c.of-seen.result.world in
    let some : 0 < length news = let size = keeps.count in let workers = c.requires.workers in let sized = c.in-Ok.ensures.count in some_workers c.args.workers (length news) workers (size ∙ sized) in
    joinable half n given left kept news redone seen c.of-seen.ensures stock c.in-Ok-empty_shelves.shelves.items some keeps.held c.in-Ok-empty_shelves.ensures (shared_left blanks first unused census stock replayers news none keeps) all back

pub build_store-joined-requires-clause-before : goal.build_store-joined-requires-clause-before
build_store-joined-requires-clause-before g c κs within =
    let its = c.requires.half in
    let few = few_events its.0 its.1 c.args.half its.2 c.in-Ok-done.ensures.ok.faultless in
    few

pub build_store-joined-requires-clause-some_generation : goal.build_store-joined-requires-clause-some_generation
build_store-joined-requires-clause-some_generation g c κs within =
    let its = c.requires.half in some_generation its.0 its.1 c.args.half its.2

pub build_store-joined-requires-clause-few_generations : goal.build_store-joined-requires-clause-few_generations
build_store-joined-requires-clause-few_generations g c κs within =
    let its = c.requires.half in few_generations its.0 its.1 c.args.half its.2

pub returns-in-Ok-joined-clause-ok : goal.returns-in-Ok-joined-clause-ok
returns-in-Ok-joined-clause-ok g c =
    let blanks = c.args.blanks in
    let first = c.keep_retired.new.self in
    let unused = c.requires.unused in
    let census = c.keep_retired.ensures.census in
    let n = c.args.processors in
    let replayers = c.in-Ok.replayers.items in
    let none = none_supplied n replayers c.in-Ok.ensures.empty in
    let news = c.redo_half-done.new.replayers in
    let stock = c.redo_half-done.new.stock in
    let keeps = subst (λ (ls : List (Replayer _ _)). KeepsAll first stock ls news) c.as_mut_slice.ensures.value c.redo_half-done.ensures.keeps in
    let many : c.in-Ok.replayers.len ≡ length replayers = search rules in
    let all = take c.in-Ok.replayers.len (news ++ drop (length news) replayers) in
    let back : all ≡ news = written_back c.in-Ok.replayers.len news replayers many keeps.count in
    let redone = c.in-Ok-done.ensures.ok in
    let half = c.args.half in
    let given = blanks_in first in
    let left = blanks_in stock in
    let kept = c.in-Ok-done.kept in
    let seen = c.of-seen.result.world in
    λ bytes s is.
    repeated half n given left kept news redone seen c.of-seen.ensures bytes s is c.in-Ok-joined.store c.in-Ok-joined.ensures.ready c.in-Ok-joined.ensures.core stock (λ kind. refl) all back c.in-Ok-joined.ensures.blanks (blanks_in blanks) (same_blanks blanks first unused census)

pub returns-in-Ok-joined-clause-supplied : goal.returns-in-Ok-joined-clause-supplied
returns-in-Ok-joined-clause-supplied g c =
    let blanks = c.args.blanks in
    let first = c.keep_retired.new.self in
    let unused = c.requires.unused in
    let census = c.keep_retired.ensures.census in
    let n = c.args.processors in
    let replayers = c.in-Ok.replayers.items in
    let none = none_supplied n replayers c.in-Ok.ensures.empty in
    let news = c.redo_half-done.new.replayers in
    let stock = c.redo_half-done.new.stock in
    let keeps = subst (λ (ls : List (Replayer _ _)). KeepsAll first stock ls news) c.as_mut_slice.ensures.value c.redo_half-done.ensures.keeps in
    let many : c.in-Ok.replayers.len ≡ length replayers = search rules in
    let all = take c.in-Ok.replayers.len (news ++ drop (length news) replayers) in
    let back : all ≡ news = written_back c.in-Ok.replayers.len news replayers many keeps.count in
    λ i kind. (c.in-Ok-joined.ensures.supplied kind ∙ supplied_left blanks first unused census stock replayers news none keeps kind) i

pub refuse-requires-in-Err-joined-clause-held : goal.refuse-requires-in-Err-joined-clause-held
refuse-requires-in-Err-joined-clause-held g c κs within =
    let blanks = c.args.blanks in
    let first = c.keep_retired.new.self in
    let unused = c.requires.unused in
    let census = c.keep_retired.ensures.census in
    let n = c.args.processors in
    let replayers = c.in-Ok.replayers.items in
    let none = none_supplied n replayers c.in-Ok.ensures.empty in
    let news = c.redo_half-done.new.replayers in
    let stock = c.redo_half-done.new.stock in
    let keeps = subst (λ (ls : List (Replayer _ _)). KeepsAll first stock ls news) c.as_mut_slice.ensures.value c.redo_half-done.ensures.keeps in
    let many : c.in-Ok.replayers.len ≡ length replayers = search rules in
    let all = take c.in-Ok.replayers.len (news ++ drop (length news) replayers) in
    let back : all ≡ news = written_back c.in-Ok.replayers.len news replayers many keeps.count in
    subst (λ (ls : List (Replayer _ _)). All IsHeldReplayer ls) (sym (c.in-Err-joined.ensures.err.0 ∙ back)) keeps.held

pub refuse-requires-in-Err-joined-clause-shared : goal.refuse-requires-in-Err-joined-clause-shared
refuse-requires-in-Err-joined-clause-shared g c κs within =
    let blanks = c.args.blanks in
    let first = c.keep_retired.new.self in
    let unused = c.requires.unused in
    let census = c.keep_retired.ensures.census in
    let n = c.args.processors in
    let replayers = c.in-Ok.replayers.items in
    let none = none_supplied n replayers c.in-Ok.ensures.empty in
    let news = c.redo_half-done.new.replayers in
    let stock = c.redo_half-done.new.stock in
    let keeps = subst (λ (ls : List (Replayer _ _)). KeepsAll first stock ls news) c.as_mut_slice.ensures.value c.redo_half-done.ensures.keeps in
    let many : c.in-Ok.replayers.len ≡ length replayers = search rules in
    let all = take c.in-Ok.replayers.len (news ++ drop (length news) replayers) in
    let back : all ≡ news = written_back c.in-Ok.replayers.len news replayers many keeps.count in
    shared_back c.in-Err-joined.field-0.replayers.items c.in-Err-joined.field-0.stock news stock (c.in-Err-joined.ensures.err.0 ∙ back) c.in-Err-joined.ensures.err.1 (shared_left blanks first unused census stock replayers news none keeps)

pub returns-in-Ok-done-clause-kept : goal.returns-in-Ok-done-clause-kept
returns-in-Ok-done-clause-kept g c =
    let blanks = c.args.blanks in
    let first = c.keep_retired.new.self in
    let unused = c.requires.unused in
    let census = c.keep_retired.ensures.census in
    let n = c.args.processors in
    let replayers = c.in-Ok.replayers.items in
    let none = none_supplied n replayers c.in-Ok.ensures.empty in
    let news = c.redo_half-done.new.replayers in
    let stock = c.redo_half-done.new.stock in
    let keeps = subst (λ (ls : List (Replayer _ _)). KeepsAll first stock ls news) c.as_mut_slice.ensures.value c.redo_half-done.ensures.keeps in
    let many : c.in-Ok.replayers.len ≡ length replayers = search rules in
    let all = take c.in-Ok.replayers.len (news ++ drop (length news) replayers) in
    let back : all ≡ news = written_back c.in-Ok.replayers.len news replayers many keeps.count in
    given_back c.refuse-in-Err-joined.result.blanks c.in-Err-joined.field-0.stock blanks c.refuse-in-Err-joined.ensures.supplied (λ kind. ap (λ (t : Stock _ _). supplied_to t kind) c.in-Err-joined.ensures.err.1 ∙ supplied_left blanks first unused census stock replayers news none keeps kind)

pub refuse-requires-in-Err-clause-held : goal.refuse-requires-in-Err-clause-held
refuse-requires-in-Err-clause-held g c κs within =
    let blanks = c.args.blanks in
    let first = c.keep_retired.new.self in
    let unused = c.requires.unused in
    let census = c.keep_retired.ensures.census in
    let n = c.args.processors in
    let replayers = c.in-Ok.replayers.items in
    let none = none_supplied n replayers c.in-Ok.ensures.empty in
    let news = c.redo_half-done.new.replayers in
    let stock = c.redo_half-done.new.stock in
    let keeps = subst (λ (ls : List (Replayer _ _)). KeepsAll first stock ls news) c.as_mut_slice.ensures.value c.redo_half-done.ensures.keeps in
    let many : c.in-Ok.replayers.len ≡ length replayers = search rules in
    let all = take c.in-Ok.replayers.len (news ++ drop (length news) replayers) in
    let back : all ≡ news = written_back c.in-Ok.replayers.len news replayers many keeps.count in
    subst (λ (ls : List (Replayer _ _)). All IsHeldReplayer ls) (sym back) keeps.held

pub refuse-requires-in-Err-clause-shared : goal.refuse-requires-in-Err-clause-shared
refuse-requires-in-Err-clause-shared g c κs within =
    let blanks = c.args.blanks in
    let first = c.keep_retired.new.self in
    let unused = c.requires.unused in
    let census = c.keep_retired.ensures.census in
    let n = c.args.processors in
    let replayers = c.in-Ok.replayers.items in
    let none = none_supplied n replayers c.in-Ok.ensures.empty in
    let news = c.redo_half-done.new.replayers in
    let stock = c.redo_half-done.new.stock in
    let keeps = subst (λ (ls : List (Replayer _ _)). KeepsAll first stock ls news) c.as_mut_slice.ensures.value c.redo_half-done.ensures.keeps in
    let many : c.in-Ok.replayers.len ≡ length replayers = search rules in
    let all = take c.in-Ok.replayers.len (news ++ drop (length news) replayers) in
    let back : all ≡ news = written_back c.in-Ok.replayers.len news replayers many keeps.count in
    shared_back all stock news stock back refl (shared_left blanks first unused census stock replayers news none keeps)

pub returns-clause-fault : goal.returns-clause-fault
returns-clause-fault g c = λ bytes s is fault why.
    let failed : c.in-Err.why ≡ Read (errors.Damaged fault) = sym c.refuse-in-Err.ensures.why ∙ why in
    c.in-Err.ensures.fault bytes s is fault (ap (λ (u : ReplayError). Err u) failed)

pub returns-clause-lack : goal.returns-clause-lack
returns-clause-lack g c = λ bytes s is why enough.
    let blanks = c.args.blanks in
    let first = c.keep_retired.new.self in
    let same = same_blanks blanks first c.requires.unused c.keep_retired.ensures.census in
    let lack : c.in-Err.why ≡ OutOfBlanks = sym c.refuse-in-Err.ensures.why ∙ why in
    let still : IsEnough (blanks_in first) (wanted_of s) = λ (kind : Kind). subst (λ (k : ℕ). wanted_of s kind ≤ k) (sym (same kind)) (enough kind) in
    c.in-Err.ensures.lack bytes s is (ap (λ (u : ReplayError). Err u) lack) still

pub returns-clause-kept : goal.returns-clause-kept
returns-clause-kept g c =
    let blanks = c.args.blanks in
    let first = c.keep_retired.new.self in
    let unused = c.requires.unused in
    let census = c.keep_retired.ensures.census in
    let n = c.args.processors in
    let replayers = c.in-Ok.replayers.items in
    let none = none_supplied n replayers c.in-Ok.ensures.empty in
    let news = c.redo_half-done.new.replayers in
    let stock = c.redo_half-done.new.stock in
    let keeps = subst (λ (ls : List (Replayer _ _)). KeepsAll first stock ls news) c.as_mut_slice.ensures.value c.redo_half-done.ensures.keeps in
    let many : c.in-Ok.replayers.len ≡ length replayers = search rules in
    let all = take c.in-Ok.replayers.len (news ++ drop (length news) replayers) in
    let back : all ≡ news = written_back c.in-Ok.replayers.len news replayers many keeps.count in
    given_back c.refuse-in-Err.result.blanks stock blanks c.refuse-in-Err.ensures.supplied (supplied_left blanks first unused census stock replayers news none keeps)
