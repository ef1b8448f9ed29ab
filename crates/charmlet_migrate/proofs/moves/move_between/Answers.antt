use Rattle.std.proofs.Common.{◌≡◌, refl, sym, ap, subst, ◌∙◌, rules}
use Rattle.std.specs.Prelude.{Some, None, Err}
use Rattle.std.specs.BTreeMap.{is_at}
use Rattle.std.specs.Map.{lookup}
use Rattle.charmlet_model.specs.declared.kind.Kind.{Kind}
use Rattle.charmlet_model.specs.declared.refusal.Refusal.{Refusal}
use Rattle.charmlet_model.specs.declared.refusal.Refusal.TheVariants as refusals
use Rattle.charmlet_model.specs.KindVersion.{kind_of_version}
use Rattle.charmlet_model.specs.Names.{elem_cmp}
use Rattle.charmlet_model.specs.Reaction.{kind_of}
use Rattle.charmlet_model.specs.Core.{Blanks, Core, Done, Move, Refuses, checks, first_refusal, next_core}
use Rattle.charmlet_model.specs.Run.{Goes, StoreView}
use Rattle.charmlet_delivery.specs.history.History.{History}
use Rattle.charmlet_delivery.specs.Kept.{blank_of_move, core_in, plenty}
use Rattle.charmlet_shelf.specs.Shelf.{View}
use Rattle.charmlet_stock.specs.Stock.{blanks_in, census_of, tally_in}
use Rattle.charmlet_stock.specs.ByKind.{with_at}
use Rattle.charmlet_stock.specs.Pile.{IsOut, with_one_retired, with_out}
use Rattle.charmlet_stock.proofs.Blanks.{retired_blanks, same_blanks, same_supplied, taken_blanks}
use Rattle.charmlet_delivery.specs.Workplace.{done_or_refused}
use Rattle.charmlet_migrate.specs.Copying.{with_copy}
use Rattle.charmlet_migrate.specs.Moving.{IsShelfOf, held_in_both}
use Rattle.charmlet_migrate.proofs.CanMove.{CanGo, array_is, as_many_stay, destination_stays, here_as, idle_both, is_elsewhere, is_wanted, kind_then, lacks_memory_then, source_stays, without}
use Rattle.charmlet_migrate.proofs.MoveCensus.{given_then, moved_held, moved_tally, retired_then}
use Rattle.charmlet_migrate.proofs.MoveChecks.{goes_away, lacks_blank_for, lacks_memory_for, refused_so}
use Rattle.charmlet_migrate.proofs.moves.move_between.Given.{Over}
use Rattle.charmlet_migrate.proofs.moves.move_between.Goals.{In_ok-kind_version, In-Some, In-Ok}
use Rattle.charmlet_migrate.proofs.moves.move_between.Goals as goal

-- the element can go to the other processor
going : (g : Over) (c : In_ok-kind_version g) → CanGo (core_in c.args.history.now) c.args.elem c.args.source.now.number c.args.destination.now.number
going g c = record {
  sound = c.facts.ensures.sound;
  place = c.requires.place;
  apart = c.requires.apart;
  can = subst (λ n. first_refusal (checks (core_in c.args.history.now) plenty (Move c.args.elem n)) ≡ None) c.number-processor.ensures c.in_ok-kind_version.ensures.ok.1;
}

-- and a blank of this kind version is wanted
wanted : (g : Over) (c : In-Some g) → blank_of_move (core_in c.args.history.now) c.args.elem c.args.destination.now.number ≡ Some c.in-Some.kind_version
wanted g c = ap (blank_of_move (core_in c.args.history.now) c.args.elem) (sym c.number-processor.ensures) ∙ sym c.in_ok-kind_version.ensures.ok.0 ∙ c.in-Some.is

pub returns-in_err-kind_version-clause-goes : goal.returns-in_err-kind_version-clause-goes
returns-in_err-kind_version-clause-goes g c =
    let core = core_in c.args.history.now in
    let blanks = blanks_in c.args.stock.now in
    let store : StoreView = record { core = core; blanks = blanks } in
    let is : Err c.in_err-kind_version.field-0.0 ≡ c.from_residual.result = search rules in
    subst (λ r. Goes store (Move c.args.elem c.args.destination.now.number) (done_or_refused r) store) is
    (refused_so core c.args.elem c.args.destination.now.number blanks c.in_err-kind_version.field-0.0
    (subst (λ n. first_refusal (checks core plenty (Move c.args.elem n)) ≡ Some c.in_err-kind_version.field-0.0) c.number-processor.ensures c.in_err-kind_version.ensures.err))

pub unreachable-requires : goal.unreachable-requires
unreachable-requires g c =
    let core = core_in c.args.history.now in
    is_wanted core c.args.elem c.args.source.now.number c.args.destination.now.number (going g (goal.at.unreachable-requires g c).In_ok-kind_version)
    (ap (blank_of_move core c.args.elem) (sym c.number-processor.ensures) ∙ sym c.in_ok-kind_version.ensures.ok.0 ∙ c.in_default.is)

pub returns-in_default-take_as-clause-goes : goal.returns-in_default-take_as-clause-goes
returns-in_default-take_as-clause-goes g c =
    let core = core_in c.args.history.now in
    let x = c.args.elem in
    let p = c.args.source.now.number in
    let q = c.args.destination.now.number in
    let kind_version = c.in-Some.kind_version in
    let old = blanks_in c.args.stock.now in
    let on = going g (goal.at.returns-in_default-take_as-clause-goes g c).In_ok-kind_version in
    let none = c.in_default-take_as.ensures.none refl in
    subst (λ (k : Kind). Goes (record { core = core; blanks = old }) (Move x q) (Refuses (refusals.NoBlank k)) (record { core = core; blanks = blanks_in c.take_as.new.self })) (sym c.kind.ensures)
    (subst (λ (b : Blanks). Goes (record { core = core; blanks = old }) (Move x q) (Refuses (refusals.NoBlank (kind_of_version kind_version))) (record { core = core; blanks = b }))
    (sym (same_blanks c.args.stock.now c.take_as.new.self none.1))
    (lacks_blank_for core x q on.can old kind_version (is_elsewhere core x p q on) (array_is core x p q on kind_version (wanted g (goal.at.returns-in_default-take_as-clause-goes g c).In-Some)) none.0))

pub carry-requires-clause-here : goal.carry-requires-clause-here
carry-requires-clause-here g c κs within =
    let core = core_in c.args.history.now in
    let p = c.args.source.now.number in
    let q = c.args.destination.now.number in
    let on = going g (goal.at.carry-requires-clause-here g c).In_ok-kind_version in
    let h = here_as core c.args.elem p q on c.in-Some.kind_version (wanted g (goal.at.carry-requires-clause-here g c).In-Some) c.args.source.now.records c.requires.source.part.objects in
    (h.0, h.1, h.2, h.3, h.4, h.5 ∙ sym c.in-Some-take_as.ensures.kind_version)

pub carry-requires-clause-can : goal.carry-requires-clause-can
carry-requires-clause-can g c κs within = (going g (goal.at.carry-requires-clause-can g c).In_ok-kind_version).can

pub returns-in-Err-clause-goes : goal.returns-in-Err-clause-goes
returns-in-Err-clause-goes g c =
    let core = core_in c.args.history.now in
    let x = c.args.elem in
    let p = c.args.source.now.number in
    let q = c.args.destination.now.number in
    let kind_version = c.in-Some.kind_version in
    let old = blanks_in c.args.stock.now in
    let on = going g (goal.at.returns-in-Err-clause-goes g c).In_ok-kind_version in
    let taken = c.in-Some-take_as.ensures.some refl in
    let idle = idle_both c.args.history.now x c.args.source.now c.args.destination.now on c.requires.source c.requires.destination in
    let memory : c.in-Err.refusal ≡ refusals.Memory = c.in-Err.ensures.err.0 ∙ lacks_memory_then c.args.source.now c.args.destination.now idle.0 idle.1 in
    let same : census_of c.give_back.new.self ≡ census_of c.args.stock.now =
    given_then c.args.stock.now c.take_as.new.self c.give_back.new.self (kind_of_version kind_version) taken.0 (kind_of (g.C.Chare.state c.in-Err.blank)) (ap kind_of_version (c.in-Err.ensures.err.1 ∙ c.in-Some-take_as.ensures.kind_version)) taken.1 c.give_back.ensures.census in
    subst (λ (h : History). Goes (record { core = core; blanks = old }) (Move x q) (Refuses c.in-Err.refusal) (record { core = core_in h; blanks = blanks_in c.give_back.new.self })) (sym c.in-Err.ensures.same.1)
    (subst (λ (r : Refusal). Goes (record { core = core; blanks = old }) (Move x q) (Refuses r) (record { core = core; blanks = blanks_in c.give_back.new.self })) (sym memory)
    (subst (λ (b : Blanks). Goes (record { core = core; blanks = old }) (Move x q) (Refuses refusals.Memory) (record { core = core; blanks = b })) (sym (same_blanks c.args.stock.now c.give_back.new.self same))
    (lacks_memory_for core x q on.can old kind_version (is_elsewhere core x p q on) (array_is core x p q on kind_version (wanted g (goal.at.returns-in-Err-clause-goes g c).In-Some)) taken.1)))

-- the old object is of the blank's kind
its : (g : Over) (c : In-Ok g) → CanGo (core_in c.args.history.now) c.args.elem c.args.source.now.number c.args.destination.now.number →
    blank_of_move (core_in c.args.history.now) c.args.elem c.args.destination.now.number ≡ Some c.in-Some.kind_version → kind_of (g.C.Chare.state c.in-Ok.old.object) ≡ kind_of_version c.in-Some.kind_version
its g c on wanted =
    let old = c.in-Ok.old in
    let here = ap (λ (v : View). lookup (is_at (elem_cmp c.args.elem)) v.records) (sym c.in_default-carry.ensures.source) ∙ c.in-Ok.ensures.ok.1 in
    ap kind_of_version (kind_then (core_in c.args.history.now) c.args.elem c.args.source.now.number c.args.destination.now.number on c.in-Some.kind_version wanted c.args.source.now.records c.requires.source.part.objects
    (g.C.Chare.state old.object) old.sent old.received here)

pub retire-requires-after_bounds : goal.retire-requires-after_bounds
retire-requires-after_bounds g c κs within =
    let at = goal.at.retire-requires-after_bounds g c in
    subst (λ k. IsOut (tally_in c.take_as.new.self k)) (sym (its g at.In-Ok (going g at.In_ok-kind_version) (wanted g at.In-Some))) (c.in-Some-take_as.ensures.out refl)

-- the place changes
moved : (g : Over) (c : In-Ok g) → core_in c.carry.new.history ≡ next_core (core_in c.args.history.now) (Move c.args.elem c.args.destination.now.number)
moved g c = c.in_default-carry.ensures.place

pub returns-clause-goes : goal.returns-clause-goes
returns-clause-goes g c =
    let at = goal.at.returns-clause-goes g c in
    let core = core_in c.args.history.now in
    let x = c.args.elem in
    let p = c.args.source.now.number in
    let q = c.args.destination.now.number in
    let kind_version = c.in-Some.kind_version in
    let old = blanks_in c.args.stock.now in
    let on = going g at.In_ok-kind_version in
    let taken = c.in-Some-take_as.ensures.some refl in
    subst (λ (after : Core). Goes (record { core = core; blanks = old }) (Move x q) Done (record { core = after; blanks = blanks_in c.retire.new.self })) (sym (moved g at.In-Ok))
    (subst (λ (b : Blanks). Goes (record { core = core; blanks = old }) (Move x q) Done (record { core = next_core core (Move x q); blanks = b }))
    (sym (retired_blanks c.take_as.new.self c.retire.new.self (kind_of (g.C.Chare.state c.in-Ok.old.object)) c.retire.ensures.census ∙ taken_blanks c.args.stock.now c.take_as.new.self kind_version taken.0))
    (goes_away core x q on.can old kind_version (is_elsewhere core x p q on) (array_is core x p q on kind_version (wanted g at.In-Some)) taken.1))

pub returns-clause-source : goal.returns-clause-source
returns-clause-source g c =
    let at = goal.at.returns-clause-source g c in
    let copy = c.in_default-carry.ensures in
    let source = c.args.source.now in
    let last : c.lift.new.self ≡ without source c.args.elem = c.in-Ok.ensures.ok.2 ∙ ap (λ (v : View). without v c.args.elem) copy.source in
    subst (IsShelfOf c.carry.new.history) (sym last)
    (source_stays c.args.history.now c.carry.new.history c.args.elem source c.args.destination.now (going g at.In_ok-kind_version) (moved g at.In-Ok) c.requires.source c.requires.destination copy.copy.0 copy.copy.1)

pub returns-clause-destination : goal.returns-clause-destination
returns-clause-destination g c =
    let at = goal.at.returns-clause-destination g c in
    let copy = c.in_default-carry.ensures.copy in
    subst (IsShelfOf c.carry.new.history) (sym copy.2)
    (destination_stays c.args.history.now c.carry.new.history c.args.elem c.args.source.now c.args.destination.now (going g at.In_ok-kind_version) (moved g at.In-Ok) c.requires.source c.requires.destination copy.0 copy.1)

pub returns-clause-held : goal.returns-clause-held
returns-clause-held g c =
    let at = goal.at.returns-clause-held g c in
    let copy = c.in_default-carry.ensures in
    let x = c.args.elem in
    let source = c.args.source.now in
    let destination = c.args.destination.now in
    let stock = c.args.stock.now in
    let kind = kind_of_version c.in-Some.kind_version in
    let on = going g at.In_ok-kind_version in
    let taken = c.in-Some-take_as.ensures.some refl in
    let last : c.lift.new.self ≡ without source x = c.in-Ok.ensures.ok.2 ∙ ap (λ (v : View). without v x) copy.source in
    let retired : census_of c.retire.new.self ≡ with_at (census_of stock) kind (moved_tally (tally_in stock kind)) =
    retired_then stock c.take_as.new.self c.retire.new.self kind taken.0 (kind_of (g.C.Chare.state c.in-Ok.old.object)) (its g at.In-Ok on (wanted g at.In-Some)) c.retire.ensures.census in
    (λ i. held_in_both (last i) (copy.copy.2 i) c.retire.new.self)
    ∙ moved_held stock c.retire.new.self kind retired source destination (without source x) (with_copy destination x copy.copy.0)
    (as_many_stay c.args.history.now c.carry.new.history x source destination on (moved g at.In-Ok) c.requires.source c.requires.destination copy.copy.0 copy.copy.1) taken.1

pub returns-clause-supplied : goal.returns-clause-supplied
returns-clause-supplied g c =
    let its = kind_of (g.C.Chare.state c.in-Ok.old.object) in
    let kind = kind_of_version c.in-Some.kind_version in
    same_supplied c.take_as.new.self c.retire.new.self its (with_one_retired (tally_in c.take_as.new.self its)) c.retire.ensures.census refl
    ∙ same_supplied c.args.stock.now c.take_as.new.self kind (with_out (tally_in c.args.stock.now kind) 1) (c.in-Some-take_as.ensures.some refl).0 refl
