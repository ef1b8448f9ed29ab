use Rattle.std.proofs.Common.{◌≡◌, ℕ, ◌+◌, ◌-◌, ◌≤◌, length, sym, ap, subst, ◌∙◌}
use Rattle.std.specs.Prelude.{Err}
use Rattle.std.specs.List.{AllByRecursion}
use Rattle.charmlet_model.specs.declared.kind.Kind.{Kind}
use Rattle.charmlet_model.specs.Core.{Blanks}
use Rattle.charmlet_model.specs.Fit.{IsFit}
use Rattle.charmlet_model.specs.Sound.{opened}
use Rattle.charmlet_model.specs.World.{World}
use Rattle.charmlet_record.specs.declared.reader.Fault.{Fault}
use Rattle.charmlet_record.specs.declared.reader.ReadError.TheVariants.{Damaged}
use Rattle.charmlet_record.specs.Reading.{read_log}
use Rattle.charmlet_record.specs.Written.{IsLogged}
use Rattle.charmlet_image.specs.Views.{image_said}
use Rattle.charmlet_recovery.specs.Bases.{base, events_of}
use Rattle.charmlet_recovery.specs.Blanks.{made_by_events}
use Rattle.charmlet_recovery.specs.Faults.{event_tests}
use Rattle.charmlet_recovery.specs.Restarts.{wanted_of}
use Rattle.charmlet_history.specs.Kept.{core_in}
use Rattle.charmlet_stock.specs.Pile.{nothing, supplied_more}
use Rattle.charmlet_stock.specs.Stock.{blanks_in, supplied_to, tally_in}
use Rattle.charmlet_replay.specs.declared.not_replayed.NotReplayed.{NotReplayed}
use Rattle.charmlet_shard.specs.Places.{IsFirstFault, events_in, places_in}
use Rattle.charmlet_replay.specs.Lists.{AreMade, HasBlanksFor}
use Rattle.charmlet_replay.specs.Ready.{IsReady}
use Rattle.charmlet_replay.specs.Replayed.{IsFaultAt, IsRepeated}
use Rattle.charmlet_shard.proofs.Results.{all_then, refused_then}
use Rattle.charmlet_replay.proofs.OpenHalves.{blanks_for_image, event_at_fault, few_before, few_generations, fit, good_bytes, good_events, has_blanks, image_at_fault, is_repeated, some_generation, supplied_back, unused_back}
use Rattle.charmlet_replay.proofs.replayed.repeat.Goals as goal
use Rattle.charmlet_store.specs.Store.{blanks_of, StoreShown}

pub bring_image_back-requires-clause-blanks : goal.bring_image_back-requires-clause-blanks
bring_image_back-requires-clause-blanks g c κs within =
    let its = c.requires.half in
    blanks_for_image its.0 its.1 c.args.half its.2 (blanks_in c.in-Ok.restored.stock) (λ kind. subst (λ (b : Blanks). wanted_of its.1 kind ≤ b kind) (sym c.in-Ok.ensures.blanks) (its.3 kind))

pub replay_log-requires-clause-fit : goal.replay_log-requires-clause-fit
replay_log-requires-clause-fit g c κs within =
    let its = c.requires.half in
    let world : c.in-Ok-opening.opening.world ≡ base (image_said c.args.half.image) = c.in-Ok-opening.ensures.world ∙ c.of-seen.ensures in
    subst IsFit (sym world) (fit its.0 its.1 c.args.half its.2 (blanks_in c.in-Ok.restored.stock) (λ kind. subst (λ (b : Blanks). wanted_of its.1 kind ≤ b kind) (sym c.in-Ok.ensures.blanks) (its.3 kind))
    c.bring_image_back.new.restored _ c.in-Ok-bring_image_back.ensures.ok (good_events its.0 its.1 c.args.half its.2))

pub replay_log-requires-clause-before : goal.replay_log-requires-clause-before
replay_log-requires-clause-before g c κs within = let its = c.requires.half in few_before its.0 its.1 c.args.half its.2

pub replay_log-requires-clause-some_generation : goal.replay_log-requires-clause-some_generation
replay_log-requires-clause-some_generation g c κs within = let its = c.requires.half in some_generation its.0 its.1 c.args.half its.2

pub replay_log-requires-clause-few_generations : goal.replay_log-requires-clause-few_generations
replay_log-requires-clause-few_generations g c κs within = let its = c.requires.half in few_generations its.0 its.1 c.args.half its.2

pub replay_log-requires-clause-bytes : goal.replay_log-requires-clause-bytes
replay_log-requires-clause-bytes g c κs within = let its = c.requires.half in good_bytes its.0 its.1 c.args.half its.2

pub replay_log-requires-clause-logged : goal.replay_log-requires-clause-logged
replay_log-requires-clause-logged g c κs within =
    let its = c.requires.half in
    let world : c.in-Ok-opening.opening.world ≡ base (image_said c.args.half.image) = c.in-Ok-opening.ensures.world ∙ c.of-seen.ensures in
    subst (λ (w : World). AllByRecursion (IsLogged w.manifest) (events_in w.manifest c.args.half.log.rest.now)) (sym world) (good_events its.0 its.1 c.args.half its.2)

pub replay_log-requires-clause-blanks : goal.replay_log-requires-clause-blanks
replay_log-requires-clause-blanks g c κs within =
    let its = c.requires.half in
    let world : c.in-Ok-opening.opening.world ≡ base (image_said c.args.half.image) = c.in-Ok-opening.ensures.world ∙ c.of-seen.ensures in
    subst (λ (w : World). HasBlanksFor (blanks_in c.bring_image_back.new.restored.stock) w c.args.half.header.events (events_in w.manifest c.args.half.log.rest.now)) (sym world)
    (has_blanks its.0 its.1 c.args.half its.2 (blanks_in c.in-Ok.restored.stock) (λ kind. subst (λ (b : Blanks). wanted_of its.1 kind ≤ b kind) (sym c.in-Ok.ensures.blanks) (its.3 kind))
    c.bring_image_back.new.restored _ c.in-Ok-bring_image_back.ensures.ok (good_events its.0 its.1 c.args.half its.2))

pub returns-in-Ok-opening-clause-ok : goal.returns-in-Ok-opening-clause-ok
returns-in-Ok-opening-clause-ok g c = λ bytes s is.
    let half = c.args.half in
    let n = c.args.processors in
    let r = c.bring_image_back.new.restored in
    let rest = half.log.rest.now in
    let world : c.in-Ok-opening.opening.world ≡ base (image_said half.image) = c.in-Ok-opening.ensures.world ∙ c.of-seen.ensures in
    all_then c.replay_log.result
    (λ (store : StoreShown). IsReady store)
    (λ (store : StoreShown). AreMade (opened c.in-Ok-opening.opening.processors c.in-Ok-opening.opening.world half.header.events half.header.generation half.log.ends) (events_in c.in-Ok-opening.opening.world.manifest rest) (core_in store.history))
    (λ (store : StoreShown). (kind : Kind) → blanks_of store kind + made_by_events kind c.in-Ok-opening.opening.world (events_of (events_in c.in-Ok-opening.opening.world.manifest rest)) ≡ blanks_in r.stock kind)
    (IsRepeated n (blanks_in c.args.blanks) s)
    (λ store ready made left.
    subst (λ (b : Blanks). IsRepeated n b s store) c.in-Ok.ensures.blanks
    (is_repeated bytes s half is (blanks_in c.in-Ok.restored.stock) r _ c.in-Ok-bring_image_back.ensures.ok n store ready
    (subst (λ (m : ℕ). AreMade (opened m (base (image_said half.image)) half.header.events half.header.generation half.log.ends) (events_in (base (image_said half.image)).manifest rest) (core_in store.history)) c.in-Ok-opening.ensures.on
    (subst (λ (w : World). AreMade (opened c.in-Ok-opening.opening.processors w half.header.events half.header.generation half.log.ends) (events_in w.manifest rest) (core_in store.history)) world made))
    (λ kind. subst (λ (w : World). blanks_of store kind + made_by_events kind w (events_of (events_in w.manifest rest)) ≡ blanks_in r.stock kind) world (left kind))))
    c.replay_log.ensures.ready c.replay_log.ensures.made c.replay_log.ensures.blanks

pub returns-in-Ok-opening-clause-fault : goal.returns-in-Ok-opening-clause-fault
returns-in-Ok-opening-clause-fault g c = λ bytes s is.
    let half = c.args.half in
    let rest = half.log.rest.now in
    let world : c.in-Ok-opening.opening.world ≡ base (image_said half.image) = c.in-Ok-opening.ensures.world ∙ c.of-seen.ensures in
    refused_then c.replay_log.result
    (λ (refused : NotReplayed _ _). (fault : Fault) → refused.why ≡ Damaged fault →
    IsFirstFault (event_tests c.in-Ok-opening.opening.world half.header.events (events_in c.in-Ok-opening.opening.world.manifest rest)) (places_in (read_log c.in-Ok-opening.opening.world.manifest rest)) fault.bytes_left)
    (λ (refused : NotReplayed _ _). (fault : Fault) → refused.why ≡ Damaged fault → IsFaultAt s (length bytes - fault.bytes_left))
    (λ refused found fault why.
    event_at_fault bytes s half is (blanks_in c.in-Ok.restored.stock) c.bring_image_back.new.restored _ c.in-Ok-bring_image_back.ensures.ok fault.bytes_left
    (subst (λ (w : World). IsFirstFault (event_tests w half.header.events (events_in w.manifest rest)) (places_in (read_log w.manifest rest)) fault.bytes_left) world (found fault why)))
    c.replay_log.ensures.fault

pub returns-in-Ok-opening-clause-kept : goal.returns-in-Ok-opening-clause-kept
returns-in-Ok-opening-clause-kept g c =
    refused_then c.replay_log.result
    (λ (refused : NotReplayed _ _). (kind : Kind) → tally_in refused.blanks kind ≡ supplied_more nothing (supplied_to c.bring_image_back.new.restored.stock kind))
    (λ (refused : NotReplayed _ _). supplied_to refused.blanks ≡ supplied_to c.args.blanks)
    (λ refused all. supplied_back refused.blanks (supplied_to c.bring_image_back.new.restored.stock) all ∙ c.bring_image_back.ensures.supplied ∙ c.in-Ok.ensures.supplied)
    c.replay_log.ensures.tally

pub returns-in-Err-bring_image_back-clause-fault : goal.returns-in-Err-bring_image_back-clause-fault
returns-in-Err-bring_image_back-clause-fault g c = λ bytes s is fault why.
    image_at_fault bytes s c.args.half is fault.bytes_left (c.bring_image_back.ensures.fault fault (c.in-Err-bring_image_back.is ∙ ap Err why))

pub returns-in-Err-bring_image_back-clause-back : goal.returns-in-Err-bring_image_back-clause-back
returns-in-Err-bring_image_back-clause-back g c = unused_back c.reclaim-in-Err-bring_image_back.result (supplied_to c.bring_image_back.new.restored.stock) c.reclaim-in-Err-bring_image_back.ensures.tally c.reclaim-in-Err-bring_image_back.ensures.keeping

pub returns-in-Err-bring_image_back-clause-kept : goal.returns-in-Err-bring_image_back-clause-kept
returns-in-Err-bring_image_back-clause-kept g c =
    supplied_back c.reclaim-in-Err-bring_image_back.result (supplied_to c.bring_image_back.new.restored.stock) c.reclaim-in-Err-bring_image_back.ensures.tally ∙ c.bring_image_back.ensures.supplied ∙ c.in-Ok.ensures.supplied

pub with-opening-requires-clause-fit : goal.with-opening-requires-clause-fit
with-opening-requires-clause-fit g c =
    let its = c.requires.half in
    subst IsFit (sym c.of-seen.ensures) (fit its.0 its.1 c.args.half its.2 (blanks_in c.in-Ok.restored.stock) (λ kind. subst (λ (b : Blanks). wanted_of its.1 kind ≤ b kind) (sym c.in-Ok.ensures.blanks) (its.3 kind))
    c.bring_image_back.new.restored _ c.in-Ok-bring_image_back.ensures.ok (good_events its.0 its.1 c.args.half its.2))

pub returns-in-Err-opening-clause-back : goal.returns-in-Err-opening-clause-back
returns-in-Err-opening-clause-back g c = unused_back c.reclaim.result (supplied_to c.bring_image_back.new.restored.stock) c.reclaim.ensures.tally c.reclaim.ensures.keeping

pub returns-in-Err-opening-clause-kept : goal.returns-in-Err-opening-clause-kept
returns-in-Err-opening-clause-kept g c =
    supplied_back c.reclaim.result (supplied_to c.bring_image_back.new.restored.stock) c.reclaim.ensures.tally ∙ c.bring_image_back.ensures.supplied ∙ c.in-Ok.ensures.supplied
