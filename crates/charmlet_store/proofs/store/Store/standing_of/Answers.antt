use Rattle.std.proofs.Common.{◌≡◌, ◌<◌, refl, sym, ap, subst, ◌∙◌, length}
use Rattle.std.specs.Prelude.{Some, is_some, slice_set}
use Rattle.std.specs.BTreeMap.{is_at}
use Rattle.std.specs.Map.{lookup}
use Rattle.std.proofs.lemmas.List.{set-get_or}
use Rattle.charmlet_model.specs.Core.{place_of}
use Rattle.charmlet_model.specs.Names.{elem_cmp}
use Rattle.charmlet_model.specs.World.{record_of}
use Rattle.charmlet_history.specs.Kept.{core_in}
use Rattle.charmlet_shelf.specs.Image.{IsImageIf}
use Rattle.charmlet_store.specs.Look.{StandsWith}
use Rattle.charmlet_store.specs.Store.{StoreShown, world_in}
use Rattle.charmlet_migrate.specs.StoreParts.{FitTogether}
use Rattle.charmlet_store.proofs.Looks.{has_image, stands_so}
use Rattle.charmlet_store.proofs.Shelved.{world_of, same_item, seen_at}
use Rattle.charmlet_store.proofs.store.Store.standing_of.Goals as goal

pub invariant_of-self : goal.invariant_of-self
invariant_of-self g c =
    let old = c.self.inside in
    let items = old.shelves.items in
    let p = c.from.result in
    let same : slice_set items p c.image.new.self ≡ items = ap (slice_set items p) (c.image.ensures.same ∙ c.in-Some-get_mut.ensures.value) ∙ set-get_or items p c.in-Some-get_mut.shelf.now in
    subst (λ shelves. FitTogether old.history shelves.items old.stock) (sym (same_item old.shelves p c.image.new.self same)) c.self.invariant

pub invariant_of-self-2 : goal.invariant_of-self-2
invariant_of-self-2 g c =
    let old = c.self.inside in
    let items = old.shelves.items in
    let p = c.from.result in
    let same : slice_set items p c.image.new.self ≡ items = ap (slice_set items p) (c.image.ensures.same ∙ c.in-Some-get_mut.ensures.value) ∙ set-get_or items p c.in-Some-get_mut.shelf.now in
    subst (λ shelves. FitTogether old.history shelves.items old.stock) (sym (same_item old.shelves p c.image.new.self same)) c.self.invariant

pub unreachable-requires-in_default-image-2 : goal.unreachable-requires-in_default-image-2
unreachable-requires-in_default-image-2 g c =
    let old = c.self.inside in
    let p = c.from.result in
    let x = c.args.elem in
    let place = c.in-Some.processor in
    let shelf = c.in-Some-get_mut.shelf.now in
    let less : p < length old.shelves.items = subst (λ n. p < n) old.shelves.ok.0 (c.in-Some-get_mut.ensures.variant.0 refl) in
    let on : place_of (core_in old.history) x ≡ Some place = sym c.where_is.ensures ∙ c.in-Some.is in
    let seen = seen_at old c.self.invariant p shelf less c.in-Some-get_mut.ensures.value x place c.from.ensures on in
    has_image (record_of (world_of old) x) x place (lookup (is_at (elem_cmp x)) shelf.records) seen (subst (IsImageIf (lookup (is_at (elem_cmp x)) shelf.records) x) c.in_default-image-2.is c.in-Ok.ensures.ok.1)

pub returns-clause-ok : goal.returns-clause-ok
returns-clause-ok g c =
    let old = c.self.inside in
    let p = c.from.result in
    let x = c.args.elem in
    let r = record_of (world_of old) x in
    let place = c.in-Some.processor in
    let shelf = c.in-Some-get_mut.shelf.now in
    let image = c.in-Some-image.image in
    let less : p < length old.shelves.items = subst (λ n. p < n) old.shelves.ok.0 (c.in-Some-get_mut.ensures.variant.0 refl) in
    let on : place_of (core_in old.history) x ≡ Some place = sym c.where_is.ensures ∙ c.in-Some.is in
    let seen = seen_at old c.self.invariant p shelf less c.in-Some-get_mut.ensures.value x place c.from.ensures on in
    let its = subst (IsImageIf (lookup (is_at (elem_cmp x)) shelf.records) x) c.in-Some-image.is c.in-Ok.ensures.ok.1 in
    let there : is_some r.state ≡ is_some (Some place) = sym (c.facts.ensures.sound.placed x).there ∙ ap is_some on in
    subst (λ (s : StoreShown). StandsWith (place_of (core_in s.history) x) (record_of (world_in s) x).state (Some (record { processor = place; packed = image.packed }))) c.self.view_is
    (subst (λ o. StandsWith o r.state (Some (record { processor = place; packed = image.packed }))) (sym on) (stands_so r x place image there (lookup (is_at (elem_cmp x)) shelf.records) seen its))
