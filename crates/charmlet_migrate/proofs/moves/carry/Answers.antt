use Rattle.std.proofs.Common.{◌≡◌, Bool, sym, ap, ◌∙◌, if◌then◌else◌}
use Rattle.std.specs.Prelude.{◌&&◌, Some, None}
use Rattle.charmlet_model.specs.declared.refusal.Refusal.TheVariants as refusals
use Rattle.charmlet_shelf.specs.Shelf.{is_idle}
use Rattle.charmlet_stock.proofs.Results.{when_err}
use Rattle.charmlet_migrate.specs.Copying.{copy_refusal}
use Rattle.charmlet_migrate.proofs.Leaving.{copy_can_leave, copy_kind_version, copy_leaves}
use Rattle.charmlet_migrate.proofs.moves.carry.Goals as goal

pub unreachable-requires : goal.unreachable-requires
unreachable-requires g c =
    let copy = c.in_ok-place_copy.ensures in
    let none = copy_can_leave c.args.elem c.args.source.now c.args.destination.now c.place_copy.new.destination copy.ok copy.idle.1 in
    let no : Some c.in_default.field-0 ≡ None = c.in_default.ensures.err ∙ none in
    let never : ⊥ = cc in never

pub returns-then-is_err-clause-err : goal.returns-then-is_err-clause-err
returns-then-is_err-clause-err g c =
    let copy = c.in_ok-place_copy.ensures in
    let source = c.args.source.now in
    let destination = c.args.destination.now in
    let memory : copy_refusal source destination ≡ refusals.Memory =
    ap (λ (b : Bool). if b && is_idle destination.phase then refusals.Memory else refusals.Uncommitted) copy.idle.0
    ∙ ap (λ (b : Bool). if b then refusals.Memory else refusals.Uncommitted) copy.idle.1 in
    let old = c.in-Ok.copy in (
      sym memory,
      copy_kind_version c.args.elem source destination c.place_copy.new.destination copy.ok _ c.requires.here
          (g.C.Chare.state old.object) old.sent old.received c.in-Ok.ensures.ok.1,
    )

pub returns-then-is_err-clause-same : goal.returns-then-is_err-clause-same
returns-then-is_err-clause-same g c =
    let copy = c.in_ok-place_copy.ensures in (
      copy_leaves c.args.elem c.args.source.now c.args.destination.now c.place_copy.new.destination copy.ok c.requires.rising c.requires.absent c.lift.new.self c.in-Ok.ensures.ok.2,
      when_err (c.relocate.new.self ≡ c.args.history.now) c.relocate.result (sym c.is_err.ensures.value ∙ c.if-is_err.true) c.relocate.ensures.err,
    )
