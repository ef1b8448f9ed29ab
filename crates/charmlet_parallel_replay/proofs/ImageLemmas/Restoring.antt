-- A replayer's elements that came back so far.
use Rattle.std.proofs.Common.{◌≡◌, ℕ, ◌+◌, ◌<◌, ◌≤◌, ◌&&◌, Bool, true, false, List, length, take, get_or, sym, ap, subst, ◌∙◌, arith}
use Rattle.std.specs.Prelude.{is_some}
use Rattle.std.specs.BTreeMap.{insert_entry}
use Rattle.std.proofs.lemmas.Bool.{eq-eqb, ne_eqb}
use Rattle.charmlet_model.specs.declared.kind.Kind.{Kind}
use Rattle.charmlet_model.specs.declared.names.Elem.{Elem}
use Rattle.charmlet_model.specs.Names.{elem_cmp}
use Rattle.charmlet_record.specs.Reading.{Kinds}
use Rattle.charmlet_image.specs.declared.entries.Entry.{Entry}
use Rattle.charmlet_image.specs.Views.{entry_said}
use Rattle.charmlet_image.specs.Written.{AreRecords}
use Rattle.charmlet_recovery.specs.Blanks.{array_is, one_if, wanted_by_records}
use Rattle.charmlet_chare.specs.declared.chare.Chare.{Ghosts}
use Rattle.charmlet_stock.specs.declared.stock.Stock.{Stock}
use Rattle.charmlet_stock.specs.Stock.{blanks_in}
use Rattle.charmlet_log_scan.specs.Partition.Parts.{is_of_worker, part}
use Rattle.charmlet_replayers.specs.Dispatch.Sharing.{worker_of}
use Rattle.charmlet_replay.specs.RestoredShard.{IsRestored}
use Rattle.charmlet_replay.specs.restored_shard.RestoredShard.{RestoredShard}
use Rattle.charmlet_parallel_replay.specs.Image.Keeping.{KeepsOne}
use Rattle.charmlet_parallel_replay.proofs.ImageLemmas.Keeping.{keeps_then}
use Rattle.charmlet_parallel_replay.proofs.ImageLemmas.Own.{inserted, others, said, wanted_more, wanted_within}

-- Those of these entries that are its own came back, and the stock has as many blanks fewer.
pub record OwnBrought {C : Type 0} {G : Ghosts C} (mine : Elem → Bool) (manifest : Kinds) (old_stock : Stock C G) (old : RestoredShard C G) (front : List Entry) (stock : Stock C G) (now : RestoredShard C G) : Type 0 where
  pub keeps : KeepsOne old_stock stock old now
  pub restored : IsRestored (part mine (said manifest front)) now
  pub own : (kind : Kind) → blanks_in now.stock kind ≡ blanks_in old.stock kind
  pub given : (kind : Kind) → blanks_in stock kind + wanted_by_records manifest kind (part mine (said manifest front)) ≡ blanks_in old_stock kind

module _ {C : Type 0} {G : Ghosts C} (mine : Elem → Bool) (manifest : Kinds) (old_stock : Stock C G) (old : RestoredShard C G) (entries : List Entry) (i : ℕ) (e : Entry) (lt : i < length entries) (is : e ≡ get_or entries i e)
    (good : AreRecords manifest (said manifest entries)) (stock : Stock C G) (now : RestoredShard C G) (way : OwnBrought mine manifest old_stock old (take i entries) stock now) where
  -- another replayer's entry is passed over
  pub passed_over : mine e.element ≡ false → OwnBrought mine manifest old_stock old (take (i + 1) entries) stock now
  passed_over other =
      let same = others manifest entries i e lt is good mine other in
      record {
        keeps = way.keeps;
        restored = subst (λ es. IsRestored es now) (sym same) way.restored;
        own = way.own;
        given = λ kind. ap (λ es. blanks_in stock kind + wanted_by_records manifest kind es) same ∙ way.given kind;
      }

  -- there is a blank for one of its own
  pub has_blank : mine e.element ≡ true → ((kind : Kind) → wanted_by_records manifest kind (part mine (said manifest entries)) ≤ blanks_in old_stock kind) →
      (kind : Kind) → (is_some e.packed && array_is manifest kind e.element.array) ≡ true → 1 ≤ blanks_in stock kind
  has_blank own enough kind needs =
      let all = enough kind in
      let within = wanted_within manifest entries i e lt is good mine own kind in
      let one : one_if (is_some e.packed && array_is manifest kind e.element.array) ≡ 1 = ap one_if needs in
      let before = way.given kind in
      omega (arith, all, within, one, before)

  -- it comes back too
  pub one_more : mine e.element ≡ true → (after : Stock C G) (new : RestoredShard C G) → KeepsOne stock after now new → IsRestored (insert_entry elem_cmp (part mine (said manifest (take i entries))) e.element (entry_said manifest e).1) new →
      ((kind : Kind) → blanks_in new.stock kind ≡ blanks_in now.stock kind) → ((kind : Kind) → blanks_in after kind + one_if (is_some e.packed && array_is manifest kind e.element.array) ≡ blanks_in stock kind) →
      OwnBrought mine manifest old_stock old (take (i + 1) entries) after new
  one_more own after new keeps restored same given = record {
    keeps = keeps_then old_stock stock after old now new way.keeps keeps;
    restored = subst (λ es. IsRestored es new) (inserted manifest entries i e lt is good mine own) restored;
    own = λ kind. same kind ∙ way.own kind;
    given = λ kind.
        let more = wanted_more manifest entries i e lt is good mine own kind in
        let one = given kind in
        let before = way.given kind in
        omega (arith, more, one, before);
  }

-- ---- whose an element is

pub its_own : (n m workers worker r : ℕ) (x : Elem) → r ≡ worker_of m workers x → m ≡ n → r ≡ worker → is_of_worker (worker_of n workers) worker x ≡ true
its_own n m workers worker r x is same here = eq-eqb (worker_of n workers x) worker (ap (λ k. worker_of k workers x) (sym same) ∙ sym is ∙ here)

pub not_own : (n m workers worker r : ℕ) (x : Elem) → r ≡ worker_of m workers x → m ≡ n → (r ≡ worker → ⊥) → is_of_worker (worker_of n workers) worker x ≡ false
not_own n m workers worker r x is same apart = ne_eqb (worker_of n workers x) worker (λ here. apart (is ∙ ap (λ k. worker_of k workers x) same ∙ here))
