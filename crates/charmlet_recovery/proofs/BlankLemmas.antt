-- The blanks that are wanted are those that a recovery uses.
use Rattle.charmlet_record.specs.Reading.{Kinds}
use Rattle.std.proofs.Common.{◌≡◌, ◌+◌, true, false, cond, not, ◌&&◌, ◌||◌, List, [], ◌∷◌, refl, sym, ap, ◌∙◌, arith}
use Rattle.std.proofs.lemmas.Bool.{leb-true}
use Rattle.std.specs.Prelude.{Option, Some, None, nat_le, ◌==◌}
use Rattle.std.specs.Ordering.{eq_by_cmp}
use Rattle.std.specs.BTreeMap.{insert_entry}
use Rattle.std.proofs.lemmas.Map.Views.{exact_unsigned_eq, tells_apart}
use Rattle.charmlet_model.specs.declared.names.Elem.{Elem}
use Rattle.charmlet_model.specs.declared.kind.Kind.{Kind}
use Rattle.charmlet_model.specs.declared.state.Record.{Record}
use Rattle.charmlet_model.specs.declared.reaction.Reaction.{Reaction}
use Rattle.charmlet_model.specs.Names.{elem_cmp}
use Rattle.charmlet_model.specs.World.{record_at, advanced}
use Rattle.charmlet_model.proofs.Maps.{both_parts, elem_exact}
use Rattle.charmlet_model.proofs.Histories.{record_at-insert}
use Rattle.charmlet_recovery.proofs.Faultless.{AllPass}
use Rattle.charmlet_recovery.proofs.Sound.{exact-effect}
use Rattle.charmlet_model.specs.declared.logged.Effect.{Effect}
use Rattle.charmlet_model.specs.declared.logged.Effect.TheVariants.{Constructed}
use Rattle.charmlet_model.specs.declared.logged.CatchUpEntry.{CatchUpEntry}
use Rattle.charmlet_recovery.specs.Bases.{reaction, records_after, redelivered}
use Rattle.charmlet_model.specs.Logging.{effect_between}
use Rattle.charmlet_recovery.specs.Faults.{same_effect, has_effect, is_caught_up, is_next_delivery, catch_up_tests}
use Rattle.charmlet_recovery.specs.Blanks.{array_is, one_if, with_count, wanted_by_catch_up, made_by_catch_up, constructs}

-- ---- the catch-up list

abbrev pub SameCounts : List (Elem × Record) → List (Elem × Record) → Type 0
SameCounts counts entries = (x : Elem) → (record_at counts x).received ≡ (record_at entries x).received

count-step : (counts entries : List (Elem × Record)) (y x : Elem) (r s : Record) → r.received ≡ s.received → SameCounts counts entries →
    (record_at (insert_entry elem_cmp counts y r) x).received ≡ (record_at (insert_entry elem_cmp entries y s) x).received
count-step counts entries y x r s same h =
    ap (λ (r : Record). r.received) (record_at-insert counts y r x)
    ∙ elim (eq_by_cmp elem_cmp x y) as (λ b. (cond b r (record_at counts x)).received ≡ (cond b s (record_at entries x)).received) [ true ↦ same | false ↦ h x ]
    ∙ ap (λ (r : Record). r.received) (sym (record_at-insert entries y s x))

count-stays : (counts entries : List (Elem × Record)) (y x : Elem) (r : Record) → r.received ≡ (record_at entries y).received → SameCounts counts entries →
    (record_at (insert_entry elem_cmp counts y r) x).received ≡ (record_at entries x).received
count-stays counts entries y x r same h =
    ap (λ (r : Record). r.received) (record_at-insert counts y r x)
    ∙ elim (eq_by_cmp elem_cmp x y) as (λ b. eq_by_cmp elem_cmp x y ≡ b → (cond b r (record_at counts x)).received ≡ (record_at entries x).received) [
      | true ↦ λ tie. same ∙ ap (λ z. (record_at entries z).received) (sym (tells_apart elem_exact x y tie))
      | false ↦ λ _. h x
    ] refl

module _ (manifest : Kinds) (kind : Kind) where
  outcome-step : (counts entries : List (Elem × Record)) (d : CatchUpEntry) (o : Option Reaction) → (d.received == (record_at entries d.message.to).received + 1) ≡ true → has_effect (record_at entries d.message.to) o d.effect ≡ true → SameCounts counts entries →
      SameCounts (with_count counts d) (records_after entries d.message.to (record_at entries d.message.to) o)
  outcome-step counts entries d None count effect h = absurd (let no : ⊥ = cc in no)
  outcome-step counts entries d (Some o) count effect h = λ x.
      let is = exact_unsigned_eq d.received ((record_at entries d.message.to).received + 1) count in
      let same = h d.message.to in
      count-step counts entries d.message.to x _ (advanced (record_at entries d.message.to) o) (omega arith) h

  pub counts-step : (counts entries : List (Elem × Record)) (d : CatchUpEntry) → is_caught_up manifest (record_at entries d.message.to) d ≡ true → SameCounts counts entries → SameCounts (with_count counts d) (redelivered manifest entries d)
  counts-step counts entries d fits h =
      let r = record_at entries d.message.to in
      elim (nat_le d.received r.received) as (λ b. nat_le d.received r.received ≡ b → (b || is_next_delivery manifest r d) ≡ true → SameCounts (with_count counts d) (cond b entries (records_after entries d.message.to r (reaction manifest r d.message)))) [
        | true ↦ λ late _ x. let less = leb-true d.received r.received late in let same = h d.message.to in count-stays counts entries d.message.to x _ (omega arith) h
        | false ↦ λ _ next. let parts = both_parts _ _ next in outcome-step counts entries d (reaction manifest r d.message) (both_parts _ _ parts.0).0 parts.1 h
      ] refl fits

  effect-is : (r : Record) (o : Option Reaction) (effect : Effect) → has_effect r o effect ≡ true → same_effect effect Constructed ≡ constructs r o
  effect-is r None effect h = absurd (let no : ⊥ = cc in no)
  effect-is r (Some o) effect h = ap (λ e. same_effect e Constructed) (sym (exact-effect (effect_between r.state o.state) effect h))

  same-wanted : (r : Record) (d : CatchUpEntry) → is_caught_up manifest r d ≡ true →
      (not (nat_le d.received r.received) && same_effect d.effect Constructed && array_is manifest kind d.message.to.array)
      ≡ (not (nat_le d.received r.received) && constructs r (reaction manifest r d.message) && array_is manifest kind d.message.to.array)
  same-wanted r d fits =
      elim (nat_le d.received r.received) as (λ b. (b || is_next_delivery manifest r d) ≡ true →
      (not b && same_effect d.effect Constructed && array_is manifest kind d.message.to.array) ≡ (not b && constructs r (reaction manifest r d.message) && array_is manifest kind d.message.to.array)) [
        | true ↦ λ _. refl
        | false ↦ λ next. ap (λ b. (true && b) && array_is manifest kind d.message.to.array) (effect-is r (reaction manifest r d.message) d.effect (both_parts _ _ next).1)
      ] fits

  pub catch-up-made : (counts entries : List (Elem × Record)) (ds : List CatchUpEntry) → AllPass (catch_up_tests manifest entries ds) → SameCounts counts entries →
      wanted_by_catch_up manifest kind counts ds ≡ made_by_catch_up manifest kind entries ds
  catch-up-made counts entries [] scan h = refl
  catch-up-made counts entries (d ∷ ds) scan h =
      let here = ap (λ n. one_if (not (nat_le d.received n) && same_effect d.effect Constructed && array_is manifest kind d.message.to.array)) (h d.message.to)
      ∙ ap one_if (same-wanted (record_at entries d.message.to) d scan.0) in
      let rest = catch-up-made (with_count counts d) (redelivered manifest entries d) ds scan.1 (counts-step counts entries d scan.0 h) in
      λ i. here i + rest i
