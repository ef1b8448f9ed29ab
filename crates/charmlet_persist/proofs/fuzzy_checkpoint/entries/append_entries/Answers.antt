use Rattle.std.proofs.Common.{◌≡◌, ◌++◌, [], ◌∷◌, sym, ◌∙◌, append_assoc}
use Rattle.std.specs.Prelude.{IfSome, Option}
use Rattle.std.specs.List.{flat_map}
use Rattle.std.proofs.lemmas.List.Elements.{All-head, All-tail, All-same}
use Rattle.charmlet_pup.specs.Fields.{number_bytes}
use Rattle.charmlet_model.specs.declared.names.Elem.{Elem}
use Rattle.charmlet_persist.proofs.SnapshotLemmas.Lists.{all_appended, one_appended}
use Rattle.charmlet_persist.specs.declared.fuzzy_checkpoint.captured_element.CapturedElement.{CapturedElement}
use Rattle.charmlet_persist.specs.FuzzyCheckpoint.Sealing.{IsShort, count_kept, spell_captured}
use Rattle.charmlet_persist.proofs.fuzzy_checkpoint.entries.append_entries.Goals as goal

abbrev IsShortIf : Elem × Option CapturedElement → Type 0
IsShortIf e = IfSome e.1 IsShort

pub loop-elem-init : goal.loop-elem-init
loop-elem-init c =
    let entries : c.into_iter-elem-iterator.result ≡ c.args.table.now.entries = c.into_iter-elem-iterator.ensures.into_iter_gives.0 in
    record {
      bytes = λ i. (c.write_u32.ensures.bytes ∙ (λ j. c.in_ok-reserve.ensures.items j ++ number_bytes 4 (c.requires.count j))) i ++ flat_map spell_captured (entries i);
      short = All-same IsShortIf c.into_iter-elem-iterator.result c.args.table.now.entries entries c.requires.short;
    }

pub append_entry_if-requires : goal.append_entry_if-requires
append_entry_if-requires c =
    let e : Elem × Option CapturedElement = (c.in-Some.elem.now, c.in-Some.captured.now) in
    All-head IsShortIf e c.next.new.self (All-same IsShortIf (e ∷ c.next.new.self) c.loop-elem.elem-iterator (sym c.in-Some.ensures.steps) c.loop-elem.invariant.short)

pub loop-elem-preserved : goal.loop-elem-preserved
loop-elem-preserved c =
    let e : Elem × Option CapturedElement = (c.in-Some.elem.now, c.in-Some.captured.now) in
    let is : c.loop-elem.elem-iterator ≡ e ∷ c.next.new.self = c.in-Some.ensures.steps in
    record {
      bytes = one_appended spell_captured c.loop-elem.out.items _ c.loop-elem.elem-iterator e c.next.new.self c.append_entry_if.new.out.items is c.loop-elem.invariant.bytes c.in_ok-append_entry_if.ensures;
      short = All-tail IsShortIf e c.next.new.self (All-same IsShortIf (e ∷ c.next.new.self) c.loop-elem.elem-iterator (sym is) c.loop-elem.invariant.short);
    }

pub returns : goal.returns
returns c =
    let is : c.loop-elem.elem-iterator ≡ [] = c.in-None.ensures.steps.0 in
    all_appended spell_captured c.loop-elem.out.items _ c.loop-elem.elem-iterator is c.loop-elem.invariant.bytes
    ∙ append_assoc c.args.out.now.items (number_bytes 4 (count_kept c.args.table.now.entries)) (flat_map spell_captured c.args.table.now.entries)
