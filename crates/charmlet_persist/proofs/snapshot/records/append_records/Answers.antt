use Rattle.std.proofs.Common.{◌≡◌, ◌++◌, List, [], ◌∷◌, length, refl, sym, ap, ◌∙◌, append_assoc}
use Rattle.std.specs.Prelude.{Option}
use Rattle.std.specs.List.{flat_map}
use Rattle.std.proofs.lemmas.List.Elements.{All-head, All-tail, All-same}
use Rattle.charmlet_pup.specs.Fields.{number_bytes}
use Rattle.charmlet_model.specs.declared.names.Elem.{Elem}
use Rattle.charmlet_model.specs.declared.state.State.{State}
use Rattle.charmlet_model.specs.declared.state.Record.{Record}
use Rattle.charmlet_model.specs.Core.{present}
use Rattle.charmlet_image.specs.Images.{spell_entry}
use Rattle.charmlet_world.specs.declared.element.Element.{Element}
use Rattle.charmlet_history.specs.Kept.{core_in}
use Rattle.charmlet_history.specs.Records.{record_with, records_from}
use Rattle.charmlet_history.proofs.RecordLists.{records_are}
use Rattle.charmlet_persist.specs.Snapshot.Showing.{state_in}
use Rattle.charmlet_persist.proofs.SnapshotLemmas.Lists.{IsOwn, all_own, all_appended, one_appended, records_less, records_more}
use Rattle.charmlet_persist.proofs.snapshot.records.append_records.Goals as goal

pub loop-elem-init : goal.loop-elem-init
loop-elem-init g c =
    let elements = c.args.history.now.elements in
    let state : Elem → Option State = state_in c.args.history.now in
    let entries : c.into_iter-elem-iterator.result ≡ elements = c.into_iter-elem-iterator.ensures.into_iter_gives.0 ∙ c.requires.elements in
    record {
      bytes = λ i. (c.write_u32.ensures.bytes ∙ (λ j. c.in_ok-reserve.ensures.items j ++ number_bytes 4 (c.requires.count j))) i ++ flat_map spell_entry (records_from state (entries i));
      own = All-same (IsOwn elements) c.into_iter-elem-iterator.result elements entries (all_own elements c.facts.ensures.rising);
      same = refl;
    }

pub append_record-requires-clause-element : goal.append_record-requires-clause-element
append_record-requires-clause-element g c κs within =
    let elements = c.args.history.now.elements in
    let e : Elem × Element = (c.in-Some.elem.now, c.in-Some.element.now) in
    let is : c.loop-elem.elem-iterator ≡ e ∷ c.next.new.self = c.in-Some.ensures.steps in
    All-head (IsOwn elements) e c.next.new.self (All-same (IsOwn elements) (e ∷ c.next.new.self) c.loop-elem.elem-iterator (sym is) c.loop-elem.invariant.own)

pub loop-elem-preserved : goal.loop-elem-preserved
loop-elem-preserved g c =
    let elements = c.args.history.now.elements in
    let state : Elem → Option State = state_in c.args.history.now in
    let e : Elem × Element = (c.in-Some.elem.now, c.in-Some.element.now) in
    let is : c.loop-elem.elem-iterator ≡ e ∷ c.next.new.self = c.in-Some.ensures.steps in
    let item : Elem × Record = (e.0, record_with (state e.0) e.1) in
    record {
      bytes = one_appended spell_entry c.loop-elem.out.items _ (records_from state c.loop-elem.elem-iterator) item (records_from state c.next.new.self) c.append_record.new.out.items
          (ap (records_from state) is ∙ records_more state e c.next.new.self (sym c.if-not-is_written.ensures)) c.loop-elem.invariant.bytes c.in_ok-append_record.ensures.ok;
      own = All-tail (IsOwn elements) e c.next.new.self (All-same (IsOwn elements) (e ∷ c.next.new.self) c.loop-elem.elem-iterator (sym is) c.loop-elem.invariant.own);
      same = c.append_record.ensures.same ∙ c.loop-elem.invariant.same;
    }

pub loop-elem-preserved-then-not-is_written : goal.loop-elem-preserved-then-not-is_written
loop-elem-preserved-then-not-is_written g c =
    let elements = c.args.history.now.elements in
    let state : Elem → Option State = state_in c.args.history.now in
    let e : Elem × Element = (c.in-Some.elem.now, c.in-Some.element.now) in
    let is : c.loop-elem.elem-iterator ≡ e ∷ c.next.new.self = c.in-Some.ensures.steps in
    record {
      bytes = ap (λ (rs : List (Elem × Record)). c.loop-elem.out.items ++ flat_map spell_entry rs) (sym (ap (records_from state) is ∙ records_less state e c.next.new.self (sym c.if-not-is_written.ensures))) ∙ c.loop-elem.invariant.bytes;
      own = All-tail (IsOwn elements) e c.next.new.self (All-same (IsOwn elements) (e ∷ c.next.new.self) c.loop-elem.elem-iterator (sym is) c.loop-elem.invariant.own);
      same = c.loop-elem.invariant.same;
    }

pub returns-clause-ok : goal.returns-clause-ok
returns-clause-ok g c =
    let kept = c.args.history.now in
    let state : Elem → Option State = state_in c.args.history.now in
    let is : c.loop-elem.elem-iterator ≡ [] = c.in-None.ensures.steps.0 in
    let count = number_bytes 4 (length (present (core_in c.args.history.now)).records) in
    all_appended spell_entry c.loop-elem.out.items _ (records_from state c.loop-elem.elem-iterator) (ap (records_from state) is) c.loop-elem.invariant.bytes
    ∙ append_assoc c.args.out.now.items count (flat_map spell_entry (records_from state kept.elements))
    ∙ ap (λ (rs : List (Elem × Record)). c.args.out.now.items ++ (count ++ flat_map spell_entry rs)) (records_are kept c.facts.ensures)
