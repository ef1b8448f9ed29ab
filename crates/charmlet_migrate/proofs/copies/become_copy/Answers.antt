use Rattle.std.proofs.Common.{◌≡◌, sym, ap, subst, ◌∙◌}
use Rattle.std.specs.Prelude.{Some}
use Rattle.charmlet_model.specs.Packed.{pupped}
use Rattle.charmlet_shelf.specs.Image.{IsImage, IsImageIf}
use Rattle.charmlet_migrate.proofs.Unpacked.{image_is, unpacked_is}
use Rattle.charmlet_migrate.proofs.copies.become_copy.Goals as goal

pub returns-clause-ok : goal.returns-clause-ok
returns-clause-ok g c =
    let state = g.C.Chare.state in
    let x = c.args.elem in
    let image = c.in-Some.image in
    let r = c.requires.here.0 in
    let s = c.requires.here.1 in
    let here = c.requires.here.2 in
    let its : IsImage image x r =
    subst (λ o. IsImageIf o x (Some image)) here (subst (IsImageIf _ x) c.in-Some.is c.in-Ok.ensures.ok.1) in
    let bytes : c.as_slice.result.now ≡ pupped s = c.as_slice.ensures.value ∙ image_is image x r s its c.requires.here.3 in
    let same : state c.unpack.new.self ≡ s =
    unpacked_is (state c.args.blank) (state c.unpack.new.self) s c.as_slice.result.now c.unpack.result (sym c.is_err.ensures.value ∙ c.if-is_err.false) c.unpack.ensures.unpacks c.unpack.ensures.is_state bytes
    c.requires.here.4 c.requires.here.5 in
    let record_is : r ≡ record { state = Some (state c.unpack.new.self); sent = image.sent; received = image.received } = λ i. record {
      state = (c.requires.here.3 ∙ ap Some (sym same)) i;
      sent = sym its.sent i;
      received = sym its.received i;
    } in
    here ∙ ap Some record_is
