use Rattle.std.proofs.Common.{◌≡◌, ◌∙◌, ℕ, ap, false, Result, Ok, Err, Option, Some, None, refl, subst, rules}
use Rattle.std.specs.Prelude.{IfOk}
use Rattle.charmlet_model.specs.declared.refusal.Refusal.{Refusal}
use Rattle.charmlet_model.specs.declared.refusal.Refusal.TheVariants as refusals
use Rattle.charmlet_model.specs.declared.kind_version.KindVersion.{KindVersion}
use Rattle.charmlet_model.specs.Core.{Move, Refuses, checks, first_refusal}
use Rattle.charmlet_model.specs.Run.{Goes}
use Rattle.charmlet_history.specs.Kept.{blank_of_move, core_in, plenty}
use Rattle.charmlet_stock.specs.Stock.{blanks_in}
use Rattle.charmlet_migrate.proofs.MoveChecks.{refused_so}
use Rattle.charmlet_sequencer.specs.Relocating.{IsAway, StaysOrLeaves}
use Rattle.charmlet_sequencer.specs.Sequencer.{SequencerShown, store_of}
use Rattle.charmlet_sequencer.proofs.Relocations.{not_here, not_refused, stays}
use Rattle.charmlet_sequencer.proofs.sequencer.Sequencer.locate_for_move.Given.{Over}
use Rattle.charmlet_sequencer.proofs.sequencer.Sequencer.locate_for_move.Goals.{In-Ok-None}
use Rattle.charmlet_sequencer.proofs.sequencer.Sequencer.locate_for_move.Goals as goal

-- there is no refusal, and no blank is wanted
unwanted : (g : Over) (c : In-Ok-None g) → (None ≡ blank_of_move (core_in c.self.inside.history) c.args.elem c.args.processor) × (first_refusal (checks (core_in c.self.inside.history) plenty (Move c.args.elem c.args.processor)) ≡ None)
unwanted g c =
    let core = core_in c.self.inside.history in
    let step = Move c.args.elem c.args.processor in
    subst (λ (r : Result (Option KindVersion) Refusal). IfOk r (λ kind_version. (kind_version ≡ blank_of_move core c.args.elem c.args.processor) × (first_refusal (checks core plenty step) ≡ None))) (c.in-Ok-None.is ∙ ap Ok c.in-Ok-None.field-0-is) c.test_move.ensures.ok

pub returns-in-Ok-None-clause-ok : goal.returns-in-Ok-None-clause-ok
returns-in-Ok-None-clause-ok g c =
    let h = c.self.inside in
    let tested = unwanted g c in
    subst (λ (v : SequencerShown _). StaysOrLeaves (store_of v) c.args.elem c.args.processor None) c.self.view_is
    (stays (core_in h.history) c.args.elem c.args.processor c.facts.ensures.sound (blanks_in h.stock) tested.0 tested.1)

pub returns-in-Ok-None-clause-away : goal.returns-in-Ok-None-clause-away
returns-in-Ok-None-clause-away g c =
    let h = c.self.inside in
    let tested = unwanted g c in
    subst (λ (v : SequencerShown _). (place : ℕ) → IsAway v.core c.args.elem place c.args.processor → v.core.halted ≡ false → ◌≡◌ {A = Result (Option ℕ) Refusal} (Ok None) (Ok (Some place))) c.self.view_is
    (λ place away going. absurd (not_here (core_in h.history) c.args.elem c.args.processor c.facts.ensures.sound place away tested.0 tested.1))

pub returns-in-Err-clause-err : goal.returns-in-Err-clause-err
returns-in-Err-clause-err g c =
    let h = c.self.inside in
    subst (λ (v : SequencerShown _). Goes (store_of v) (Move c.args.elem c.args.processor) (Refuses c.in-Err.refusal) (store_of v)) c.self.view_is
    (refused_so (core_in h.history) c.args.elem c.args.processor (blanks_in h.stock) c.in-Err.refusal c.in-Err.ensures.err)

pub returns-in-Err-clause-away : goal.returns-in-Err-clause-away
returns-in-Err-clause-away g c =
    let h = c.self.inside in
    let other : c.in-Err.refusal ≡ refusals.Uncommitted → ⊥ = search rules in
    subst (λ (v : SequencerShown _). (place : ℕ) → IsAway v.core c.args.elem place c.args.processor → v.core.halted ≡ false → ◌≡◌ {A = Result (Option ℕ) Refusal} (Err c.in-Err.refusal) (Ok (Some place))) c.self.view_is
    (λ place away going. absurd (other (not_refused (core_in h.history) c.args.elem c.args.processor c.facts.ensures.sound place away going refl c.in-Err.refusal c.in-Err.ensures.err)))
