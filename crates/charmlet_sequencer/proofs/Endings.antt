-- Shelves that are handed back, one after another.
use Rattle.std.proofs.Common.{◌≡◌, ◌⊎◌, ℕ, zero, suc, ◌+◌, ◌<◌, ◌≤◌, List, [], ◌∷◌, ◌++◌, length, get_or, inl, inr, refl, ap, sym, ◌∙◌, arith, subst}
use Rattle.std.specs.Prelude.{Option, Some, None, IfSome, slice_get, slice_set}
use Rattle.std.specs.List.{AllByRecursion}
use Rattle.std.proofs.lemmas.Bool.{cases_lt}
use Rattle.std.proofs.lemmas.Cmp.{eq_by_cmp_equiv, nat_cmp_total}
use Rattle.std.proofs.lemmas.List.Elements.{All-from_recursion}
use Rattle.std.proofs.lemmas.List.Sums.{sum_by-cons}
use Rattle.std.proofs.lemmas.Map.Made.{nil_from_lookup}
use Rattle.charmlet_model.specs.declared.kind.Kind.{Kind}
use Rattle.charmlet_model.specs.declared.names.MsgId.{MsgId}
use Rattle.charmlet_shelf.specs.Count.{objects_on}
use Rattle.charmlet_shelf.specs.Shelf.{View}
use Rattle.charmlet_shelf.specs.declared.phase.Phase.TheVariants.{Idle}
use Rattle.charmlet_migrate.specs.Moving.{IsIdle, objects_among, records_on}
use Rattle.charmlet_chare.specs.declared.chare.Chare.{Ghosts}
use Rattle.charmlet_model.specs.Core.{Core, assigned_to, present}
use Rattle.charmlet_model.specs.Shelves.{Shows}
use Rattle.charmlet_model.specs.Sound.{IsAssigned, IsSound}
use Rattle.charmlet_history.specs.Kept.{core_in}
use Rattle.charmlet_stock.specs.Stock.{blanks_in, tally_in}
use Rattle.charmlet_history.specs.declared.history.History.{History}
use Rattle.charmlet_stock.specs.declared.stock.Stock.{Stock}
use Rattle.charmlet_migrate.specs.StoreParts.{FitTogether}
use Rattle.charmlet_delivery.specs.UnderWay.{due_in}
use Rattle.charmlet_sequencer.specs.Authority.{IsAuthorityOf, IsDueOn, objects_in_all, part_at, part_in, records_in}
use Rattle.charmlet_sequencer.specs.Part.{Part, objects_in, part_on}
use Rattle.charmlet_sequencer.proofs.Authorities.{objects_are}

-- the shelf is back in the place of its processor, idle, and shows what the authority had of it
pub record IsBack (n : ℕ) (part : Option Part) (shelf : View) : Type 0 where
  pub number_is : shelf.number ≡ n
  pub part_is : part ≡ Some (part_on shelf)
  pub idle : shelf.phase ≡ Idle

-- from the n-th on each part that the authority had is either still there, or its shelf is back
abbrev pub AreBack : ℕ → List (Option Part) → List (Option Part) → List View → Type 0
AreBack n [] [] [] = Unit {0}
AreBack n (o ∷ os) (b ∷ bs) (s ∷ ss) = ((b ≡ o) ⊎ ((b ≡ None) × IsBack n o s)) × AreBack (suc n) os bs ss
AreBack n _ _ _ = ⊥

-- how many parts are still in the authority
abbrev pub left_in : List (Option Part) → ℕ
left_in [] = 0
left_in (None ∷ bs) = left_in bs
left_in (Some b ∷ bs) = suc (left_in bs)

-- a shelf comes back in its place
pub back_step : (n : ℕ) (os bs : List (Option Part)) (ss : List View) (p : ℕ) (v : View) → slice_get bs p ≡ Some (Some (part_on v)) → v.number ≡ n + p → v.phase ≡ Idle → AreBack n os bs ss → AreBack n os (slice_set bs p None) (slice_set ss p v)
back_step n [] [] [] p v e at idle w = absurd (let never : ⊥ = cc in never)
back_step n [] [] (s ∷ ss) p v e at idle w = absurd w
back_step n [] (b ∷ bs) ss p v e at idle w = absurd w
back_step n (o ∷ os) [] ss p v e at idle w = absurd w
back_step n (o ∷ os) (b ∷ bs) [] p v e at idle w = absurd w
back_step n (o ∷ os) (b ∷ bs) (s ∷ ss) zero v e at idle w =
    let here : b ≡ Some (part_on v) = cc in (
      elim w.0 [
        | inl same ↦ inr (refl, record { number_is = omega arith; part_is = sym same ∙ here; idle = idle })
        | inr back ↦ absurd (let gone = back.0 in let never : ⊥ = cc in never)
      ],
      w.1,
    )
back_step n (o ∷ os) (b ∷ bs) (s ∷ ss) (suc p) v e at idle w = (w.0, back_step (suc n) os bs ss p v e (omega arith) idle w.1)

pub left_step : (bs : List (Option Part)) (p : ℕ) (x : Part) → slice_get bs p ≡ Some (Some x) → left_in (slice_set bs p None) + 1 ≡ left_in bs
left_step [] p x e = absurd (let never : ⊥ = cc in never)
left_step (None ∷ bs) zero x e = absurd (let never : ⊥ = cc in never)
left_step (Some b ∷ bs) zero x e = omega arith
left_step (None ∷ bs) (suc p) x e = left_step bs p x e
left_step (Some b ∷ bs) (suc p) x e = let rest = left_step bs p x e in omega arith

pub left_most : (bs : List (Option Part)) → left_in bs ≤ length bs
left_most [] = omega arith
left_most (None ∷ bs) = let rest = left_most bs in omega arith
left_most (Some b ∷ bs) = let rest = left_most bs in omega arith

-- there is a slot for each part
pub back_slots : (n : ℕ) (os bs : List (Option Part)) (ss : List View) → AreBack n os bs ss → length ss ≡ length bs
back_slots n [] [] [] w = refl
back_slots n [] [] (s ∷ ss) w = absurd w
back_slots n [] (b ∷ bs) ss w = absurd w
back_slots n (o ∷ os) [] ss w = absurd w
back_slots n (o ∷ os) (b ∷ bs) [] w = absurd w
back_slots n (o ∷ os) (b ∷ bs) (s ∷ ss) w = ap suc (back_slots (suc n) os bs ss w.1)

pub back_start : (n : ℕ) (os : List (Option Part)) (ss : List View) → length os ≡ length ss → AreBack n os os ss
back_start n [] [] e = tt
back_start n [] (s ∷ ss) e = absurd (omega arith)
back_start n (o ∷ os) [] e = absurd (omega arith)
back_start n (o ∷ os) (s ∷ ss) e = (inl refl, back_start (suc n) os ss (omega arith))

-- all shelves are back
abbrev pub AllBack : ℕ → List (Option Part) → List View → Type 0
AllBack n [] [] = Unit {0}
AllBack n (o ∷ os) (s ∷ ss) = IsBack n o s × AllBack (suc n) os ss
AllBack n _ _ = ⊥

pub back_end : (n : ℕ) (os bs : List (Option Part)) (ss : List View) → length os ≤ left_in os → left_in bs ≡ 0 → AreBack n os bs ss → AllBack n os ss
back_end n [] [] [] all e w = tt
back_end n [] [] (s ∷ ss) all e w = absurd w
back_end n [] (b ∷ bs) ss all e w = absurd w
back_end n (o ∷ os) [] ss all e w = absurd w
back_end n (o ∷ os) (b ∷ bs) [] all e w = absurd w
back_end n (o ∷ os) (Some b ∷ bs) (s ∷ ss) all e w = absurd (omega arith)
back_end n (None ∷ os) (None ∷ bs) (s ∷ ss) all e w = let most = left_most os in absurd (omega arith)
back_end n (Some x ∷ os) (None ∷ bs) (s ∷ ss) all e w = (
  elim w.0 [
    | inl same ↦ absurd (let never : ⊥ = cc in never)
    | inr back ↦ back.1
  ],
  back_end (suc n) os bs ss (omega arith) e w.1,
)

-- ---- what they show then

pub back_rows : (n : ℕ) (os : List (Option Part)) (ss : List View) → AllBack n os ss → records_on ss ≡ records_in os
back_rows n [] [] b = refl
back_rows n [] (s ∷ ss) b = absurd b
back_rows n (o ∷ os) [] b = absurd b
back_rows n (o ∷ os) (s ∷ ss) b = λ i. ap (λ (o : Option Part). (part_in o).records) (sym b.0.part_is) i ∷ back_rows (suc n) os ss b.1 i

pub back_objects : (n : ℕ) (os : List (Option Part)) (ss : List View) (kind : Kind) → AllBack n os ss → objects_among ss kind ≡ objects_in_all os kind
back_objects n [] [] kind b = refl
back_objects n [] (s ∷ ss) kind b = absurd b
back_objects n (o ∷ os) [] kind b = absurd b
back_objects n (o ∷ os) (s ∷ ss) kind b =
    let here : objects_on s kind ≡ objects_in (part_in o) kind = objects_are s kind ∙ ap (λ (o : Option Part). objects_in (part_in o) kind) (sym b.0.part_is) in
    sum_by-cons (λ (v : View). objects_on v kind) s ss ∙ (λ i. here i + back_objects (suc n) os ss kind b.1 i) ∙ sym (sum_by-cons (λ (o : Option Part). objects_in (part_in o) kind) o os)

pub back_idle : (n : ℕ) (os : List (Option Part)) (ss : List View) → AllBack n os ss → AllByRecursion IsIdle ss
back_idle n [] [] b = tt
back_idle n [] (s ∷ ss) b = absurd b
back_idle n (o ∷ os) [] b = absurd b
back_idle n (o ∷ os) (s ∷ ss) b = (b.0.idle, back_idle (suc n) os ss b.1)

pub back_length : (n : ℕ) (os : List (Option Part)) (ss : List View) → AllBack n os ss → length ss ≡ length os
back_length n [] [] b = refl
back_length n [] (s ∷ ss) b = absurd b
back_length n (o ∷ os) [] b = absurd b
back_length n (o ∷ os) (s ∷ ss) b = ap suc (back_length (suc n) os ss b.1)

pub back_number : (n : ℕ) (os : List (Option Part)) (ss : List View) (p : ℕ) (d : View) → AllBack n os ss → p < length ss → (get_or ss p d).number ≡ n + p
back_number n [] [] p d b less = absurd (omega arith)
back_number n [] (s ∷ ss) p d b less = absurd b
back_number n (o ∷ os) [] p d b less = absurd b
back_number n (o ∷ os) (s ∷ ss) zero d b less = let at = b.0.number_is in omega arith
back_number n (o ∷ os) (s ∷ ss) (suc p) d b less = let rest = back_number (suc n) os ss p d b.1 (omega arith) in omega arith

pub closed_fits : {C : Type 0} {G : Ghosts C} (history : History) (shelves : List View) (stock : Stock C G) (parts : List (Option Part)) → IsAuthorityOf history stock parts → AllBack 0 parts shelves → FitTogether history shelves stock
closed_fits history shelves stock parts authority back =
    let places = (core_in history).places in
    let w = present (core_in history) in
    record {
      count = back_length 0 parts shelves back ∙ authority.count;
      numbers = λ p d less. let at = back_number 0 parts shelves p d back less in omega arith;
      idle = All-from_recursion IsIdle shelves (back_idle 0 parts shelves back);
      objects = subst (λ rows. Shows rows places w) (sym (back_rows 0 parts shelves back)) authority.shows;
      census = λ kind. authority.census kind ∙ ap (λ n. n + blanks_in stock kind + (tally_in stock kind).retired) (sym (back_objects 0 parts shelves kind back));
    }

-- ---- nothing is assigned then

back_due : (n : ℕ) (os : List (Option Part)) (ss : List View) (p : ℕ) → AllBack n os ss → p < length os → (part_at os p).due ≡ None
back_due n [] [] p b less = absurd (omega arith)
back_due n [] (s ∷ ss) p b less = absurd b
back_due n (o ∷ os) [] p b less = absurd b
back_due n (o ∷ os) (s ∷ ss) zero b less = ap (λ (o : Option Part). (part_in o).due) b.0.part_is ∙ ap due_in b.0.idle
back_due n (o ∷ os) (s ∷ ss) (suc p) b less = back_due (suc n) os ss p b.1 (omega arith)

-- nor to a processor that there isn't
none_past : (core : Core) (p : ℕ) → core.processors ≤ p → (o : Option MsgId) → IfSome o (IsAssigned core p) → o ≡ None
none_past core p past None assigned = refl
none_past core p past (Some id) assigned = absurd (let on = assigned.on_processor in omega arith)

pub back_unassigned : {C : Type 0} {G : Ghosts C} (history : History) (shelves : List View) (stock : Stock C G) (parts : List (Option Part)) → IsSound (core_in history) → IsAuthorityOf history stock parts → AllBack 0 parts shelves → (core_in history).assigned ≡ []
back_unassigned history shelves stock parts sound authority back =
    let core = core_in history in
    nil_from_lookup (eq_by_cmp_equiv nat_cmp_total) core.assigned (λ p. elim (cases_lt p core.processors) [
      | inl on ↦ (let less : p < length parts = omega (arith, authority.count, on) in subst (IsDueOn core p) (back_due 0 parts shelves p back less) (authority.dues p less))
      | inr past ↦ none_past core p past (assigned_to core p) (sound.assigned p)
    ])

-- ---- shelves that are idle

pub last_idle : (ss : List View) (s : View) → AllByRecursion IsIdle (ss ++ s ∷ []) → AllByRecursion IsIdle ss × (s.phase ≡ Idle)
last_idle [] s all = (tt, all.0)
last_idle (x ∷ ss) s all = let rest = last_idle ss s all.1 in ((all.0, rest.0), rest.1)
