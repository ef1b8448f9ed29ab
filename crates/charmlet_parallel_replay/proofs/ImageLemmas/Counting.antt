-- The blanks for a replayer's deliveries so far.
use Rattle.std.proofs.Common.{◌≡◌, ℕ, ◌+◌, ◌<◌, ◌≤◌, ◌&&◌, max, Bool, true, false, cond, not, List, [], ◌∷◌, length, drop, refl, sym, ap, subst, ◌∙◌, arith}
use Rattle.std.specs.Prelude.{Option, Some, None, nat_le, unwrap_or}
use Rattle.std.proofs.lemmas.Bool.{leb-true}
use Rattle.std.proofs.lemmas.Bool.Decides.{nat_tests}
use Rattle.std.proofs.lemmas.Map.Views.{tells_apart}
use Rattle.std.specs.Ordering.{eq_by_cmp}
use Rattle.std.specs.BTreeMap.{insert_entry, is_at}
use Rattle.std.specs.Map.{lookup}
use Rattle.charmlet_model.specs.declared.kind.Kind.{Kind}
use Rattle.charmlet_model.specs.declared.logged.CatchUpEntry.{CatchUpEntry}
use Rattle.charmlet_model.specs.declared.names.Elem.{Elem}
use Rattle.charmlet_model.specs.declared.state.Record.{Record}
use Rattle.charmlet_model.specs.Names.{elem_cmp}
use Rattle.charmlet_model.specs.World.{record_at}
use Rattle.charmlet_model.proofs.Histories.{record_at-insert}
use Rattle.charmlet_model.proofs.Maps.{elem_exact, elem_total, lookup-insert_entry}
use Rattle.charmlet_record.specs.Reading.{Kinds}
use Rattle.charmlet_recovery.specs.Bases.{is_skipped}
use Rattle.charmlet_recovery.specs.Blanks.{wanted_by_catch_up, with_count}
use Rattle.charmlet_world.specs.declared.element.Element.{Element}
use Rattle.charmlet_world.specs.Seen.{element_at}
use Rattle.charmlet_parallel_replay.specs.Image.Counts.{AreCountsOf, count_at}

pub within_is : (a b : ℕ) → a ≤ b → nat_le a b ≡ true
within_is a b less = grind (arith, nat_tests)

pub above_is : (a b : ℕ) → b < a → nat_le a b ≡ false
above_is a b less = grind (arith, nat_tests)

-- a record of which only the count of received messages is known
abbrev count_of : ℕ → Record
count_of received = record { state = None; sent = 0; received = received }

module _ (counts : List (Elem × ℕ)) (elements : List (Elem × Element)) (records : List (Elem × Record)) (d : CatchUpEntry) (are : AreCountsOf counts elements records) where
  abbrev to : Elem
  to = d.message.to

  abbrev before : ℕ
  before = (record_at records to).received

  -- a delivery that isn't skipped is the greatest so far
  pub noted : before < d.received → AreCountsOf (insert_entry elem_cmp counts to d.received) elements (with_count records d)
  noted less x =
      let most : d.received ≡ max before d.received = omega (arith, less) in
      ap (λ o. unwrap_or o (element_at elements x).received) (lookup-insert_entry elem_cmp elem_total x to d.received counts)
      ∙ elim (eq_by_cmp elem_cmp x to) as (λ b. unwrap_or (cond b (Some d.received) (lookup (is_at (elem_cmp x)) counts)) (element_at elements x).received ≡ (cond b (count_of (max before d.received)) (record_at records x)).received) [
        | true ↦ most
        | false ↦ are x
      ]
      ∙ ap (λ (r : Record). r.received) (sym (record_at-insert records to (count_of (max before d.received)) x))

  -- one that is skipped changes no count
  pub passed_over : d.received ≤ before → AreCountsOf counts elements (with_count records d)
  passed_over less x =
      let most : before ≡ max before d.received = omega (arith, less) in
      are x
      ∙ elim (eq_by_cmp elem_cmp x to) as (λ b. eq_by_cmp elem_cmp x to ≡ b → (record_at records x).received ≡ (cond b (count_of (max before d.received)) (record_at records x)).received) [
        | true ↦ λ tie. ap (λ y. (record_at records y).received) (tells_apart elem_exact x to tie) ∙ most
        | false ↦ λ _. refl
      ] refl
      ∙ ap (λ (r : Record). r.received) (sym (record_at-insert records to (count_of (max before d.received)) x))

-- the need of one delivery, and that of those behind it
pub one_then : (manifest : Kinds) (kind : Kind) (counts : List (Elem × Record)) (d : CatchUpEntry) (ds : List CatchUpEntry) →
    wanted_by_catch_up manifest kind counts (d ∷ ds) ≡ wanted_by_catch_up manifest kind counts (d ∷ []) + wanted_by_catch_up manifest kind (with_count counts d) ds
one_then manifest kind counts d ds = omega arith
