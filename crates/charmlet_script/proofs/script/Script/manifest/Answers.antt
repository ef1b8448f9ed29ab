use Rattle.std.proofs.Common.{◌≡◌, ◌∙◌, ap, sym, None}
use Rattle.charmlet_model.specs.Manifest.{manifest_of}
use Rattle.charmlet_script.specs.Script.{pairs_of}
use Rattle.charmlet_script.proofs.script.Script.manifest.Goals as goal

pub unreachable-requires : goal.unreachable-requires
unreachable-requires c =
    let made : c.in_ok-manifest.field-0 ≡ manifest_of (pairs_of c.self.inside.arrays.items) =
    c.in_ok-manifest.ensures.manifest ∙ ap manifest_of (c.deref-2.ensures.value ∙ c.in_ok-pairs.ensures ∙ ap pairs_of c.deref.ensures.value) in
    let none : manifest_of (pairs_of c.self.inside.arrays.items) ≡ None = sym made ∙ c.in-None.is in
    let some = rw none at c.self.invariant.declared in
    absurd (cc)

pub returns-clause-manifest : goal.returns-clause-manifest
returns-clause-manifest c =
    let made : c.in_ok-manifest.field-0 ≡ manifest_of (pairs_of c.self.inside.arrays.items) =
    c.in_ok-manifest.ensures.manifest ∙ ap manifest_of (c.deref-2.ensures.value ∙ c.in_ok-pairs.ensures ∙ ap pairs_of c.deref.ensures.value) in
    rw (sym c.self.view_is) (sym made ∙ c.in-Some.is)
