use Rattle.std.proofs.Common.{◌≡◌, ◌+◌, ◌≤◌, List, [], ◌∷◌, ◌++◌, length, vec_len, refl, ap, sym, ◌∙◌, subst, arith, rules}
use Rattle.std.specs.Prelude.{Option, Some, None, slice_get, slice_set}
use Rattle.std.specs.List.{AllByRecursion}
use Rattle.std.proofs.lemmas.List.Elements.{recursion_from_All}
use Rattle.charmlet_model.specs.Sound.{IsSound}
use Rattle.charmlet_history.specs.Kept.{core_in}
use Rattle.charmlet_migrate.specs.Moving.{IsIdle}
use Rattle.charmlet_recovery.proofs.Outcomes.{kept_is_lawful}
use Rattle.charmlet_sequencer.specs.Part.{Part, part_on}
use Rattle.charmlet_sequencer.specs.Sequencer.{SequencerShown}
use Rattle.charmlet_sequencer.proofs.Endings.{AreBack, back_end, back_slots, back_start, back_step, back_unassigned, closed_fits, last_idle, left_in, left_most, left_step}
use Rattle.charmlet_sequencer.proofs.sequencer.Sequencer.take_apart.Goals as goal

pub loop-locked-init : goal.loop-locked-init
loop-locked-init g c =
    let h = c.into_parts-history.result in
    let of = c.into_parts-history.ensures.of in
    let authority = c.into_parts-history.ensures.tied.authority in
    let slots = c.args.empty.items in
    let many : length h.parts ≡ length slots = authority.count ∙ of.processors_are ∙ sym c.requires.empty.count in
    record {
      back = back_start 0 h.parts slots many;
      count = refl {a = left_in h.parts + vec_len c.args.shelves};
      idle = recursion_from_All IsIdle c.args.shelves.items c.requires.idle;
    }

pub take_in-requires-clause-count : goal.take_in-requires-clause-count
take_in-requires-clause-count g c κs within =
    let slots = c.loop-locked.slots in
    let same = back_slots 0 c.into_parts-history.result.parts c.loop-locked.parts slots.items c.loop-locked.invariant.back in
    omega (arith, same, slots.ok.0)

pub loop-locked-preserved : goal.loop-locked-preserved
loop-locked-preserved g c =
    let all = c.into_parts-history.result.parts in
    let so_far = c.loop-locked.invariant in
    let parts = c.loop-locked.parts in
    let slots = c.loop-locked.slots.items in
    let locked = c.in-Some.locked in
    let there : slice_get parts locked.number ≡ Some (Some (part_on locked)) = c.take_in.ensures.agrees in
    let last : c.loop-locked.shelves.items ≡ c.pop.new.self.items ++ locked ∷ [] = search rules in
    let fewer : vec_len c.pop.new.self + 1 ≡ vec_len c.loop-locked.shelves = search rules in
    let idle = last_idle c.pop.new.self.items locked (subst (AllByRecursion IsIdle) last so_far.idle) in
    let gone = left_step parts locked.number (part_on locked) there in
    let here : left_in c.take_in.new.parts ≡ left_in (slice_set parts locked.number None) = ap left_in c.take_in.ensures.parts in
    let back = back_step 0 all parts slots locked.number locked there (omega arith) idle.1 so_far.back in
    record {
      back =
          subst (AreBack 0 all c.take_in.new.parts) (sym c.take_in.ensures.slots)
          (subst (λ (left : List (Option Part)). AreBack 0 all left (slice_set slots locked.number locked)) (sym c.take_in.ensures.parts) back);
      count = omega (arith, gone, here, fewer, so_far.count);
      idle = idle.0;
    }

pub invariant_of-store : goal.invariant_of-store
invariant_of-store g c =
    let h = c.into_parts-history.result in
    let of = c.into_parts-history.ensures.of in
    let authority = c.into_parts-history.ensures.tied.authority in
    let parts = c.loop-locked.parts in
    let so_far = c.loop-locked.invariant in
    let none : vec_len c.loop-locked.shelves ≡ 0 = search rules in
    let many : vec_len c.args.shelves ≡ length h.parts = c.requires.count ∙ sym of.processors_are ∙ sym authority.count in
    let most = left_most h.parts in
    let all : length h.parts ≤ left_in h.parts = omega (arith, none, many, most, so_far.count) in
    let gone : left_in parts ≡ 0 = omega (arith, none, many, most, so_far.count) in
    let slots = c.loop-locked.slots.items in
    closed_fits h.history slots h.stock h.parts authority (back_end 0 h.parts parts slots all gone so_far.back)

pub returns-clause-unassigned : goal.returns-clause-unassigned
returns-clause-unassigned g c =
    let h = c.into_parts-history.result in
    let of = c.into_parts-history.ensures.of in
    let authority = c.into_parts-history.ensures.tied.authority in
    let parts = c.loop-locked.parts in
    let so_far = c.loop-locked.invariant in
    let none : vec_len c.loop-locked.shelves ≡ 0 = search rules in
    let many : vec_len c.args.shelves ≡ length h.parts = c.requires.count ∙ sym of.processors_are ∙ sym authority.count in
    let most = left_most h.parts in
    let all : length h.parts ≤ left_in h.parts = omega (arith, none, many, most, so_far.count) in
    let gone : left_in parts ≡ 0 = omega (arith, none, many, most, so_far.count) in
    let slots = c.loop-locked.slots.items in
    let core : core_in c.self.inside.history ≡ core_in h.history = ap (λ (v : SequencerShown _). v.core) (c.self.view_is ∙ sym c.into_parts-history.ensures.shown) in
    back_unassigned h.history slots h.stock h.parts (subst IsSound core c.facts.ensures.sound) authority (back_end 0 h.parts parts slots all gone so_far.back)

pub returns-clause-agrees : goal.returns-clause-agrees
returns-clause-agrees g c = c.into_parts-history.ensures.tied.agrees

pub returns-clause-lawful : goal.returns-clause-lawful
returns-clause-lawful g c = λ honest outcome left.
    let core = core_in c.into_parts-history.result.history in
    let disk = ap (λ (v : SequencerShown _). v.disk) c.into_parts-history.ensures.shown in
    kept_is_lawful core.opening core.before core.history core.durable outcome ((c.into_parts-history.ensures.tied.keeps (subst g.D.Disk.honest (sym disk) honest)).now outcome left)
