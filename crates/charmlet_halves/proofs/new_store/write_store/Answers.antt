use Rattle.std.proofs.Common.{◌≡◌, ◌∷◌, ◌∙◌, subst, arith, rules}
use Rattle.charmlet_model.specs.declared.half.Half.TheVariants.{Zero}
use Rattle.charmlet_disk.proofs.Moments.{after_that}
use Rattle.charmlet_image.specs.Images.{spell_half}
use Rattle.charmlet_image.specs.NewStores.{new_saved}
use Rattle.charmlet_image.specs.Spelled.{Spells}
use Rattle.charmlet_halves.specs.Bytes.{before_gate}
use Rattle.charmlet_halves.specs.Steps.{NothingOrNew}
use Rattle.charmlet_halves.proofs.NewHalves.{leaves_read, new_text, new_end, not_open, nothing_new, new_so}
use Rattle.charmlet_halves.proofs.new_store.write_store.Goals as goal

pub returns-in_err-gates-clause-leaves : goal.returns-in_err-gates-clause-leaves
returns-in_err-gates-clause-leaves g c = λ honest.
    leaves_read g.D.Disk c.args.disk.now c.closed_gates.new.disk (spell_half (new_saved c.args.manifest.now)) (c.requires.settled honest) (c.closed_gates.ensures.only_read honest) c.from_residual.result

pub returns-in_err-image-clause-leaves : goal.returns-in_err-image-clause-leaves
returns-in_err-image-clause-leaves g c = λ honest.
    leaves_read g.D.Disk c.args.disk.now c.closed_gates.new.disk (spell_half (new_saved c.args.manifest.now)) (c.requires.settled honest) (c.closed_gates.ensures.only_read honest) c.from_residual-in_err-image.result

pub returns-in_err-put_image-clause-leaves : goal.returns-in_err-put_image-clause-leaves
returns-in_err-put_image-clause-leaves g c = λ honest.
    let files = g.D.Disk.file in
    let old = c.args.disk.now in
    let mid = c.closed_gates.new.disk in
    let text = spell_half (new_saved c.args.manifest.now) in
    let is : 1 ∷ before_gate c.as_slice.result.now ≡ text = new_text c.args.manifest.now c.as_slice.result.now (c.as_slice.ensures.value ∙ c.in_ok-image.ensures) in
    let read = c.closed_gates.ensures.only_read honest in
    let zero = c.in_ok-gates.ensures.zero honest in
    let one = c.in_ok-gates.ensures.one honest in
    record {
      any_moment = λ closed.
          after_that g.D.Disk.moment g.D.Disk.since old mid c.put_image.new.disk _ _ (NothingOrNew (files old) text)
          read.any_moment (c.put_image.ensures.any_moment (c.closed_gates.ensures.disk.honest.0 honest))
          (nothing_new (files old) text (c.requires.settled honest) closed)
          (new_so (files old) (files mid) text _ read.same is);
      open_kept = λ any. absurd (not_open (files old) (record { zero = zero.0; one = one.0 }) any);
      unwritten = search rules;
    }

pub returns-clause-leaves : goal.returns-clause-leaves
returns-clause-leaves g c = λ honest.
    let files = g.D.Disk.file in
    let old = c.args.disk.now in
    let mid = c.closed_gates.new.disk in
    let text = spell_half (new_saved c.args.manifest.now) in
    let is : 1 ∷ before_gate c.as_slice.result.now ≡ text = new_text c.args.manifest.now c.as_slice.result.now (c.as_slice.ensures.value ∙ c.in_ok-image.ensures) in
    let read = c.closed_gates.ensures.only_read honest in
    let zero = c.in_ok-gates.ensures.zero honest in
    let one = c.in_ok-gates.ensures.one honest in
    record {
      any_moment = λ closed.
          after_that g.D.Disk.moment g.D.Disk.since old mid c.put_image.new.disk _ _ (NothingOrNew (files old) text)
          read.any_moment (c.put_image.ensures.any_moment (c.closed_gates.ensures.disk.honest.0 honest))
          (nothing_new (files old) text (c.requires.settled honest) closed)
          (new_so (files old) (files mid) text _ read.same is);
      open_kept = λ any. absurd (not_open (files old) (record { zero = zero.0; one = one.0 }) any);
      unwritten = tt;
    }

pub returns-clause-says : goal.returns-clause-says
returns-clause-says g c = λ honest.
    let is : 1 ∷ before_gate c.as_slice.result.now ≡ spell_half (new_saved c.args.manifest.now) = new_text c.args.manifest.now c.as_slice.result.now (c.as_slice.ensures.value ∙ c.in_ok-image.ensures) in
    subst (λ t. Spells (g.D.Disk.file c.put_image.new.disk Zero).now t) is (c.in_ok-put_image.ensures.says (c.closed_gates.ensures.disk.honest.0 honest))

pub returns-clause-log_end : goal.returns-clause-log_end
returns-clause-log_end g c =
    let end = new_end c.args.manifest.now c.as_slice.result.now (c.as_slice.ensures.value ∙ c.in_ok-image.ensures) in
    omega (arith, c.len.ensures, c.as_slice.ensures.len, end)
