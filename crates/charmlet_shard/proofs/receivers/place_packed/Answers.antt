use Rattle.std.proofs.Common.{◌≡◌, refl, sym, ap, subst, ◌∙◌}
use Rattle.std.specs.Prelude.{Some, IsSome}
use Rattle.std.specs.BTreeMap.{insert_entry}
use Rattle.charmlet_model.specs.KindVersion.{kind_of_version}
use Rattle.charmlet_model.specs.Names.{elem_cmp}
use Rattle.charmlet_model.specs.Reaction.{kind_version_of}
use Rattle.charmlet_model.specs.Unpacked.{state_at}
use Rattle.charmlet_stock.proofs.Blanks.{taken_blanks}
use Rattle.charmlet_migrate.proofs.Counting.{placed_as_before}
use Rattle.charmlet_shard.proofs.OnShelf.{one_more, unpacked_at, unpacked_kind_version}
use Rattle.charmlet_shard.proofs.receivers.place_packed.Goals as goal

pub returns-in-Ok-clause-ok : goal.returns-in-Ok-clause-ok
returns-in-Ok-clause-ok g c =
    let state = g.C.Chare.state in
    let new = state c.unpack.new.self in
    let its : new ≡ state_at c.args.kind_version c.args.packed.now =
    unpacked_at c.args.kind_version (state c.in-Some.object) new c.args.packed.now c.unpack.result (sym c.is_err.ensures.value ∙ c.if-is_err.false) c.unpack.ensures.unpacks c.unpack.ensures.is_state c.in-Some.ensures.kind_version in
    c.in-Ok.ensures.ok.1
    ∙ ap (λ s. record c.args.shelf.now { records = insert_entry elem_cmp c.args.shelf.now.records c.args.elem (record { state = Some s; sent = c.args.counts.sent; received = c.args.counts.received }) }) its

pub returns-in-Ok-clause-blanks : goal.returns-in-Ok-clause-blanks
returns-in-Ok-clause-blanks g c =
    let some = c.take_as.ensures.some (subst IsSome (sym c.in-Some.is) refl) in
    taken_blanks c.args.stock.now c.take_as.new.self c.args.kind_version some.0

pub returns-in-Ok-clause-held : goal.returns-in-Ok-clause-held
returns-in-Ok-clause-held g c =
    let state = g.C.Chare.state in
    let object = c.unpack.new.self in
    let some = c.take_as.ensures.some (subst IsSome (sym c.in-Some.is) refl) in
    let its : kind_version_of (state object) ≡ c.args.kind_version =
    unpacked_kind_version c.args.kind_version (state c.in-Some.object) (state object) c.args.packed.now c.unpack.result (sym c.is_err.ensures.value ∙ c.if-is_err.false) c.unpack.ensures.unpacks c.in-Some.ensures.kind_version in
    placed_as_before state object c.args.shelf.now c.place.new.self c.args.stock.now c.take_as.new.self (kind_of_version c.args.kind_version) (ap kind_of_version its) some.0 some.1
    (one_more state object c.args.shelf.now c.place.new.self c.args.elem _ c.requires.idle c.requires.rising c.requires.absent refl c.in-Ok.ensures.ok.1)
