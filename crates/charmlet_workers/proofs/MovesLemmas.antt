-- Where an element stands that was moved.
use Rattle.std.proofs.Common.{◌≡◌, ℕ, ◌==◌, true, false, cond, inl, inr, refl, sym, ap, subst, ◌∙◌}
use Rattle.std.specs.Prelude.{Option, Some, None, Result, Ok, IfOk, is_some, unwrap_or}
use Rattle.std.specs.BTreeMap.{insert_entry}
use Rattle.std.proofs.lemmas.Map.Views.{exact_unsigned_eq}
use Rattle.charmlet_model.specs.declared.names.Elem.{Elem}
use Rattle.charmlet_model.specs.declared.refusal.Refusal.{Refusal}
use Rattle.charmlet_model.specs.declared.refusal.Refusal.TheVariants as refusals
use Rattle.charmlet_model.specs.Core as core
use Rattle.charmlet_model.specs.Core.{Blanks, Core, Done, Stepped, checks, first_refusal, home, is_present, next_core, place_of, place_or_home, stepped_unless}
use Rattle.charmlet_model.specs.Names.{elem_cmp}
use Rattle.charmlet_model.specs.Run.{Goes, StoreView}
use Rattle.charmlet_model.proofs.CanLemmas.{all_pass, not_not}
use Rattle.charmlet_model.proofs.Maps.{elem_total, lookup-insert_entry, tied_elem}
use Rattle.charmlet_sequencer.specs.Relocating.{StaysOrLeaves}

-- an element that is there stands where it is said to stand or to belong
stands_at : (place : Option ℕ) (belongs processor : ℕ) → is_some place ≡ true → (unwrap_or place belongs == processor) ≡ true → place ≡ Some processor
stands_at None belongs processor there same = absurd (let never : ⊥ = cc in never)
stands_at (Some place) belongs processor there same = ap Some (exact_unsigned_eq place processor same)

-- what is done isn't refused
done_is : (refusal : Refusal) → Done ≡ core.Refuses refusal → ⊥
done_is refusal same = let never : ⊥ = cc in never

module _ (k : Core) (blanks : Blanks) (x : Elem) (processor : ℕ) (placed : is_some (place_of k x) ≡ is_present k x) where
  abbrev step : core.CoreStep
  step = core.Move x processor

  next_place : is_present k x ≡ true → place_of (next_core k step) x ≡ Some processor
  next_place there = elim (place_or_home k x == processor) as (λ b. (place_or_home k x == processor) ≡ b → place_of (cond b k (record k { places = insert_entry elem_cmp k.places x processor })) x ≡ Some processor) [
    | true ↦ λ same. stands_at (place_of k x) (home x k.processors) processor (placed ∙ there) same
    | false ↦ λ _. lookup-insert_entry elem_cmp elem_total x x processor k.places ∙ ap (λ b. cond b (Some processor) (place_of k x)) (tied_elem x)
  ] refl

  unless : (first : Option Refusal) → first_refusal (checks k blanks step) ≡ first → (next : Stepped) → next.answer ≡ Done → next ≡ stepped_unless k blanks step first → place_of next.core x ≡ Some processor
  unless None can next done is = ap (λ (n : Stepped). place_of n.core x) is ∙ next_place (not_not (is_present k x) (all_pass (checks k blanks step) can).1.1.1.0)
  unless (Some refusal) can next done is = absurd (done_is refusal (sym done ∙ ap (λ (n : Stepped). n.answer) is))

  -- once its move is done it stands there
  pub stands_moved : (next : Stepped) → next.answer ≡ Done → core.Steps k blanks step next → place_of next.core x ≡ Some processor
  stands_moved next done steps = elim steps.1 [
    | inl stepped ↦ unless (first_refusal (checks k blanks step)) refl next done stepped
    | inr lacking ↦ elim lacking [
      | inl memory ↦ absurd (done_is refusals.Memory (sym done ∙ ap (λ (n : Stepped). n.answer) memory.1))
      | inr device ↦ absurd (done_is refusals.Device (sym done ∙ ap (λ (n : Stepped). n.answer) device.1))
    ]
  ]

-- and so it does where it is found there already
pub stays_there : (store : StoreView) (x : Elem) (processor : ℕ) (r : Result (Option ℕ) Refusal) → is_some (place_of store.core x) ≡ is_present store.core x → IfOk r (StaysOrLeaves store x processor) → r ≡ Ok None → place_of store.core x ≡ Some processor
stays_there store x processor r placed ok is =
    let goes : Goes store (core.Move x processor) Done store = subst (λ (r : Result (Option ℕ) Refusal). IfOk r (StaysOrLeaves store x processor)) is ok in
    stands_moved store.core store.blanks x processor placed (record { answer = Done; core = store.core; blanks = store.blanks }) refl goes
