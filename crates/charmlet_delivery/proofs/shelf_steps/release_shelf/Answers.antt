use Rattle.std.proofs.Common.{◌≡◌, true, refl, sym, ap, ◌∙◌, arith}
use Rattle.std.specs.Prelude.{Option, Some, None, is_none, is_some, if◌then◌else◌}
use Rattle.charmlet_model.specs.declared.kind_version.KindVersion.{KindVersion}
use Rattle.charmlet_model.specs.declared.state.State.{State}
use Rattle.charmlet_model.specs.Core.{with_given}
use Rattle.charmlet_model.specs.Reaction.{kind_version_of, kind_of}
use Rattle.charmlet_shelf.specs.Shelf.{has_newcomer, receiver_kind_version}
use Rattle.charmlet_shelf.specs.declared.phase.Phase.{Phase}
use Rattle.charmlet_shelf.specs.declared.phase.Phase.TheVariants as phases
use Rattle.charmlet_stock.specs.Stock.{blanks_in}
use Rattle.charmlet_stock.proofs.Blanks.{given_blanks, same_supplied}
use Rattle.charmlet_delivery.specs.UnderWay.{blank_in}
use Rattle.charmlet_delivery.specs.Workplace.{held_in}
use Rattle.charmlet_delivery.proofs.Counting.{each_same, given_held}
use Rattle.charmlet_delivery.proofs.shelf_steps.release_shelf.Goals as goal

-- the blank that comes out is the one that was to construct the receiver
blank_out : (phase : Phase) (kind_version : KindVersion) → has_newcomer phase ≡ true → Some kind_version ≡ receiver_kind_version phase → blank_in phase ≡ Some kind_version
blank_out phases.Idle kind_version new is = absurd (let never : ⊥ = cc in never)
blank_out (phases.Assigned due) kind_version new is = by due.receiver.state new ∙ sym is
  where
    by : (o : Option State) → is_none o ≡ true → (if is_some o then None else Some due.kind_version) ≡ Some due.kind_version
    by None h = refl
    by (Some s) h = absurd (let never : ⊥ = cc in never)
blank_out (phases.Done done) kind_version new is = absurd (let never : ⊥ = cc in never)

pub returns-in-Some-clause-blanks : goal.returns-in-Some-clause-blanks
returns-in-Some-clause-blanks g c =
    let old = c.args.stock.now in
    let kind_version = kind_version_of (g.C.Chare.state c.in-Some.blank) in
    let phase = c.args.shelf.now.phase in
    let newcomer : has_newcomer phase ≡ true = sym (ap is_some (sym c.in-Some.is) ∙ c.release.ensures.newcomer) in
    given_blanks old c.give_back.new.self kind_version c.give_back.ensures.census
    ∙ ap (λ o. with_given o (blanks_in old)) (sym (blank_out phase kind_version newcomer c.in-Some.ensures.kind_version))

pub returns-in-Some-clause-held : goal.returns-in-Some-clause-held
returns-in-Some-clause-held g c =
    let state = g.C.Chare.state in
    let object = c.in-Some.blank in
    each_same (held_in c.release.new.self c.give_back.new.self) (held_in c.args.shelf.now c.args.stock.now)
    (λ kind.
    let back = given_held state object c.release.new.self c.args.stock.now c.give_back.new.self c.give_back.ensures.census kind in
    let fewer = c.in-Some.ensures.count kind in
    omega arith)

pub returns-in-Some-clause-supplied : goal.returns-in-Some-clause-supplied
returns-in-Some-clause-supplied g c = same_supplied c.args.stock.now c.give_back.new.self (kind_of (g.C.Chare.state c.in-Some.blank)) _ c.give_back.ensures.census refl
