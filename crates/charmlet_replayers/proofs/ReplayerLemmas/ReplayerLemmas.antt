-- What becomes of a replayer.
use Rattle.std.proofs.Common.{◌≡◌, ◌+◌, ◌++◌, List, sym, ap, subst, ◌∙◌, Result, Ok, Err, OnOk}
use Rattle.std.specs.Prelude.{Some, None}
use Rattle.charmlet_model.specs.declared.kind.Kind.{Kind}
use Rattle.charmlet_model.specs.declared.names.Elem.{Elem}
use Rattle.charmlet_model.specs.declared.logged.CatchUpEntry.{CatchUpEntry}
use Rattle.charmlet_model.specs.declared.state.Record.{Record}
use Rattle.charmlet_record.specs.declared.positioned.Positioned.{Positioned}
use Rattle.charmlet_record.specs.declared.reader.Fault.{Fault}
use Rattle.charmlet_record.specs.declared.reader.ReadError.{ReadError}
use Rattle.charmlet_record.specs.declared.reader.ReadError.TheVariants.{Damaged}
use Rattle.charmlet_record.specs.Reading.{Kinds}
use Rattle.charmlet_image.specs.Positioned.{items_of}
use Rattle.charmlet_recovery.specs.Blanks.{made_by_catch_up}
use Rattle.charmlet_recovery.specs.Faults.{catch_up_tests}
use Rattle.charmlet_chare.specs.declared.chare.Chare.{Ghosts}
use Rattle.charmlet_stock.specs.Stock.{blanks_in, supplied_to}
use Rattle.charmlet_log_scan.specs.declared.partition.task.Task.{Task}
use Rattle.charmlet_log_scan.specs.Partition.Parts.{Stopped, worked}
use Rattle.charmlet_shard.specs.Places.{IsFirstFault}
use Rattle.charmlet_replayers.specs.Replies.Replies.{replies_of}
use Rattle.charmlet_replayers.specs.Replayer.Replayers.{IsCaughtUpReplayer, IsKnownBy}
use Rattle.charmlet_shard.specs.RestoredShard.{AreRedelivered, IsHeld}
use Rattle.charmlet_replayers.specs.Replayer.Tasks.{AreDone, CanDo, HasNoTask, IsDoneReplayer, taken_by_all}
use Rattle.charmlet_replayers.specs.Replayer.Workers.{stop_from}
use Rattle.charmlet_replayers.specs.declared.replayer.replayer.Replayer.{Replayer}

ok_from : {T : Type 0} (r : Result T ReadError) (P : Type 0) → stop_from r ≡ None → OnOk r P → P
ok_from (Ok x) P is h = h
ok_from (Err why) P is h = absurd (let no : ⊥ = cc in no)

err_from : {T : Type 0} (r : Result T ReadError) (fault : Fault) → stop_from r ≡ Some (Damaged fault) → r ≡ Err (Damaged fault)
err_from (Ok x) fault is = absurd (let no : ⊥ = cc in no)
err_from (Err why) fault is = let same : why ≡ Damaged fault = cc in ap Err same

module _ {C : Type 0} {G : Ghosts C} {T : Type 0} (manifest : Kinds) (old new : Replayer C G) (result : Result T ReadError) (stopped : new.stopped ≡ stop_from result) (held : IsHeld new.restored)
    (processors : new.restored.processors ≡ old.restored.processors) (supplied : supplied_to new.restored.stock ≡ supplied_to old.restored.stock) where
  pub caught_again : new.tasks ≡ old.tasks → (ps : List (Positioned CatchUpEntry)) → ps ≡ old.deliveries.items →
      ((records : List (Elem × Record)) → IsKnownBy manifest old.restored ps records → OnOk result (AreRedelivered manifest records (items_of ps) new.restored)) →
      ((records : List (Elem × Record)) → IsKnownBy manifest old.restored ps records → OnOk result ((kind : Kind) → blanks_in new.restored.stock kind + made_by_catch_up manifest kind records (items_of ps) ≡ blanks_in old.restored.stock kind)) →
      ((records : List (Elem × Record)) → IsKnownBy manifest old.restored ps records → (fault : Fault) → result ≡ Err (Damaged fault) → IsFirstFault (catch_up_tests manifest records (items_of ps)) ps fault.bytes_left) → IsCaughtUpReplayer manifest old new
  caught_again tasks ps is ok taken fault =
      let oks = subst (λ qs. (records : List (Elem × Record)) → IsKnownBy manifest old.restored qs records → OnOk result (AreRedelivered manifest records (items_of qs) new.restored)) is ok in
      let takens = subst (λ qs. (records : List (Elem × Record)) → IsKnownBy manifest old.restored qs records → OnOk result ((kind : Kind) → blanks_in new.restored.stock kind + made_by_catch_up manifest kind records (items_of qs) ≡ blanks_in old.restored.stock kind)) is taken in
      let faults = subst (λ qs. (records : List (Elem × Record)) → IsKnownBy manifest old.restored qs records → (f : Fault) → result ≡ Err (Damaged f) → IsFirstFault (catch_up_tests manifest records (items_of qs)) qs f.bytes_left) is fault in
      record {
        held = held;
        done = λ none records known. ok_from result (AreRedelivered manifest records (items_of old.deliveries.items) new.restored) (sym stopped ∙ none) (oks records known);
        taken = λ none records known. ok_from result ((kind : Kind) → blanks_in new.restored.stock kind + made_by_catch_up manifest kind records (items_of old.deliveries.items) ≡ blanks_in old.restored.stock kind) (sym stopped ∙ none) (takens records known);
        fault = λ f at records known. faults records known f (err_from result f (sym stopped ∙ at));
        tasks = tasks;
        processors = processors;
        supplied = supplied;
      }

  pub done_again : (ts : List Task) → ts ≡ old.tasks.items →
      ((records : List (Elem × Record)) → CanDo manifest old.restored ts records → OnOk result (AreDone manifest records ts new.restored)) →
      OnOk result ((kind : Kind) → blanks_in new.restored.stock kind + taken_by_all manifest ts kind ≡ blanks_in old.restored.stock kind) →
      ((records : List (Elem × Record)) → CanDo manifest old.restored ts records → (fault : Fault) → result ≡ Err (Damaged fault) → worked manifest records ts ≡ Stopped fault.bytes_left) →
      ((records : List (Elem × Record)) → CanDo manifest old.restored ts records → OnOk result (new.replies.items ≡ old.replies.items ++ replies_of manifest records ts)) → HasNoTask new → IsDoneReplayer manifest old new
  done_again ts is ok taken fault said idle =
      let oks = subst (λ us. (records : List (Elem × Record)) → CanDo manifest old.restored us records → OnOk result (AreDone manifest records us new.restored)) is ok in
      let takens = subst (λ us. OnOk result ((kind : Kind) → blanks_in new.restored.stock kind + taken_by_all manifest us kind ≡ blanks_in old.restored.stock kind)) is taken in
      let faults = subst (λ us. (records : List (Elem × Record)) → CanDo manifest old.restored us records → (f : Fault) → result ≡ Err (Damaged f) → worked manifest records us ≡ Stopped f.bytes_left) is fault in
      let saids = subst (λ us. (records : List (Elem × Record)) → CanDo manifest old.restored us records → OnOk result (new.replies.items ≡ old.replies.items ++ replies_of manifest records us)) is said in
      record {
        held = held;
        done = λ none records can. ok_from result (AreDone manifest records old.tasks.items new.restored) (sym stopped ∙ none) (oks records can);
        replies = λ none records can. ok_from result (new.replies.items ≡ old.replies.items ++ replies_of manifest records old.tasks.items) (sym stopped ∙ none) (saids records can);
        taken = λ none. ok_from result ((kind : Kind) → blanks_in new.restored.stock kind + taken_by_all manifest old.tasks.items kind ≡ blanks_in old.restored.stock kind) (sym stopped ∙ none) takens;
        fault = λ f at records can. faults records can f (err_from result f (sym stopped ∙ at));
        idle = idle;
        processors = processors;
        supplied = supplied;
      }
