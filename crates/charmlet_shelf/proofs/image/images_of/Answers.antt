use Rattle.std.proofs.Common.{rules, ◌≡◌, ℕ, ◌+◌, ◌≤◌, ◌++◌, [], ◌∷◌, List, suc, length, take, slice_get, refl, sym, subst, ◌∙◌, arith}
use Rattle.std.specs.Prelude.{Some}
use Rattle.std.proofs.lemmas.List.{take_all}
use Rattle.charmlet_model.specs.declared.names.Elem.{Elem}
use Rattle.charmlet_model.specs.declared.state.Record.{Record}
use Rattle.charmlet_model.specs.Shelves.{records_of}
use Rattle.charmlet_shelf.specs.declared.image.Image.{Image}
use Rattle.charmlet_shelf.proofs.Images.{AreOf, images_more, risen_still, table_images}
use Rattle.charmlet_shelf.proofs.Newest.{length_shown}
use Rattle.charmlet_shelf.proofs.image.images_of.Goals as goal

pub loop-index-init : goal.loop-index-init
loop-index-init g c = record {
  long = refl;
  same = refl;
  so_far = subst (λ (images : List Image). AreOf (take 0 (records_of g.C.Chare.state c.args.residents.now.entries)) images) (sym c.take_list-images.ensures) tt;
}

pub loop-index-preserved : goal.loop-index-preserved
loop-index-preserved g c =
    let state = g.C.Chare.state in
    let rs = records_of state c.args.residents.now.entries in
    let i = c.loop-index.index in
    let image = c.in_ok-image.image in
    let one = c.in_ok-image.ensures.ok in
    let here : slice_get rs i ≡ Some one.0 = subst (λ (es : List (Elem × Record)). slice_get es i ≡ Some one.0) c.loop-index.invariant.same one.1 in
    let pushed : c.push.new.self.items ≡ c.loop-index.images.items ++ image ∷ [] = search rules in
    let next : suc i ≡ i + 1 = omega arith in
    record {
      long = c.image_standing.ensures.len ∙ c.loop-index.invariant.long;
      same = c.image_standing.ensures.same ∙ c.loop-index.invariant.same;
      so_far = subst (λ (n : ℕ). AreOf (take n rs) c.push.new.self.items) next
          (subst (λ (images : List Image). AreOf (take (suc i) rs) images) (sym pushed)
          (images_more rs i c.loop-index.images.items one.0 image here c.loop-index.invariant.so_far one.2));
    }

pub returns-in_err-image-clause-same : goal.returns-in_err-image-clause-same
returns-in_err-image-clause-same g c =
    risen_still g.C.Chare.state c.args.residents.now.entries c.image_standing.new.residents.entries (c.image_standing.ensures.same ∙ c.loop-index.invariant.same)

pub returns-in_err-push-clause-same : goal.returns-in_err-push-clause-same
returns-in_err-push-clause-same g c =
    risen_still g.C.Chare.state c.args.residents.now.entries c.image_standing.new.residents.entries (c.image_standing.ensures.same ∙ c.loop-index.invariant.same)

pub returns-clause-ok : goal.returns-clause-ok
returns-clause-ok g c =
    let state = g.C.Chare.state in
    let es = c.args.residents.now.entries in
    let rs = records_of state es in
    let whole : length rs ≤ c.loop-index.index = omega (arith, c.loop-index.auto.index-end, c.loop-index-test.false, c.len-index-end.ensures.len, length_shown state es) in
    table_images state es c.loop-index.images.items c.len-index-end.ensures.unique
    (subst (λ (records : List (Elem × Record)). AreOf records c.loop-index.images.items) (take_all c.loop-index.index rs whole) c.loop-index.invariant.so_far)

pub returns-clause-same : goal.returns-clause-same
returns-clause-same g c = risen_still g.C.Chare.state c.args.residents.now.entries c.loop-index.residents.entries c.loop-index.invariant.same
