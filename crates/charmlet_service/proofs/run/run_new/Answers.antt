use Rattle.std.proofs.Common.{inl, inr, refl, sym, ap, subst, ◌∙◌}
use Rattle.std.specs.Prelude.{if◌then◌else◌}
use Rattle.charmlet_model.specs.declared.refusal.Refusal.TheVariants.{BadPes, Memory}
use Rattle.charmlet_model.specs.Core.{Core}
use Rattle.charmlet_sequencer.specs.Sequencer.{IsOf}
use Rattle.charmlet_workers.specs.Runtime.{RuntimeShown}
use Rattle.charmlet_service.specs.Serving.{IsRunOver}
use Rattle.charmlet_service.proofs.Left.{left_of}
use Rattle.charmlet_service.proofs.run.run_new.Goals as goal

pub open_in-runtime-requires-clause-named : goal.open_in-runtime-requires-clause-named
open_in-runtime-requires-clause-named g c = λ _ _. subst (IsOf g.B.RuntimeName.opening g.B.RuntimeName.before g.B.RuntimeName.processors) (sym c.in-Ok-create.ensures.ok.opens) c.requires.named

pub open_in-runtime-requires-clause-generation : goal.open_in-runtime-requires-clause-generation
open_in-runtime-requires-clause-generation g c = λ _ _. c.requires.generation ∙ sym (ap (λ (k : Core). k.generation) c.in-Ok-create.ensures.ok.opens)

pub open_in-runtime-requires-clause-honest : goal.open_in-runtime-requires-clause-honest
open_in-runtime-requires-clause-honest g c = λ _ _ honest. c.in-Ok-create.ensures.disk.honest.0 (c.requires.honest honest)

pub returns-in_default : goal.returns-in_default
returns-in_default g c = inl (record { why = sym (ap (λ b. if b then Memory else BadPes) c.requires.count); disk = refl })

pub returns-in-Ok-create : goal.returns-in-Ok-create
returns-in-Ok-create g c =
    let new = c.in-Ok-create.ensures in
    let run = left_of g.D.Disk c.requires.only_honest c.run_over.ensures in (
      c.in-Ok-create.begun,
      record { ok = new.ok; files = new.files; bad = tt; err = tt; cause = λ _. tt; leaves = new.leaves; after = new.disk },
      subst (λ (v : RuntimeShown). IsRunOver g.D.Disk (g.D.Disk.honest c.args.disk) v c.run_over.result.disk) c.open_in-runtime.ensures run,
    )

pub returns-in-Err : goal.returns-in-Err
returns-in-Err g c =
    let old = c.in-Err.ensures in
    inr (record { ok = tt; files = λ _. tt; bad = old.bad; err = old.err; cause = old.cause; leaves = old.leaves; after = old.disk })
