-- The refusals of moves, with a stock of any size.
use Rattle.std.proofs.Common.{◌≡◌, ℕ, ◌<◌, ◌==◌, Bool, true, false, cond, not, ◌||◌, List, [], ◌∷◌, ◌++◌, refl, ap, subst, ◌∙◌, arith}
use Rattle.std.specs.Prelude.{Option, Some, None, is_some}
use Rattle.std.specs.BTreeMap.{insert_entry}
use Rattle.charmlet_model.specs.declared.names.Elem.{Elem}
use Rattle.charmlet_model.specs.declared.kind_version.KindVersion.{KindVersion}
use Rattle.charmlet_model.specs.KindVersion.{kind_of_version}
use Rattle.charmlet_model.specs.declared.refusal.Refusal.{Refusal}
use Rattle.charmlet_model.specs.declared.refusal.Refusal.TheVariants as refusals
use Rattle.charmlet_model.specs.Names.{elem_cmp}
use Rattle.charmlet_model.specs.World.{version_of_array}
use Rattle.charmlet_model.specs.Core.{Core, present, Blanks, Check, When, MayLackMemory, CoreStep, Move, Done, Refuses, checks, away_checks, lacks_blank, assigned_to, first_refusal, may_lack_memory, next_core, with_taken, is_present, is_processor, place_or_home}
use Rattle.charmlet_model.specs.Run.{StoreView, Goes}
use Rattle.charmlet_delivery.specs.Kept.{plenty}
use Rattle.charmlet_delivery.proofs.Orders.{none_of_both, some_of_first, in_front, none_in_front, memory_after, is_refused, lacks_memory, is_done}
use Rattle.std.proofs.lemmas.Bool.{ne_eqb}

-- ---- the blank

abbrev rest : Blanks → Option KindVersion → List Check
rest blanks wanted = lacks_blank blanks wanted ++ MayLackMemory ∷ []

rest_passes : (blanks : Blanks) (kind : KindVersion) → 0 < blanks (kind_of_version kind) → first_refusal (rest blanks (Some kind)) ≡ None
rest_passes blanks kind has = ap (λ b. first_refusal (When b (refusals.NoBlank (kind_of_version kind)) ∷ MayLackMemory ∷ [])) (ne_eqb (blanks (kind_of_version kind)) 0 (λ none. omega arith))

rest_may_lack : (blanks : Blanks) (kind : KindVersion) → 0 < blanks (kind_of_version kind) → may_lack_memory (rest blanks (Some kind)) ≡ true
rest_may_lack blanks kind has = ap (λ b. may_lack_memory (When b (refusals.NoBlank (kind_of_version kind)) ∷ MayLackMemory ∷ [])) (ne_eqb (blanks (kind_of_version kind)) 0 (λ none. omega arith))

rest_lacks : (blanks : Blanks) (kind : KindVersion) → blanks (kind_of_version kind) ≡ 0 → first_refusal (rest blanks (Some kind)) ≡ Some (refusals.NoBlank (kind_of_version kind))
rest_lacks blanks kind none = ap (λ n. first_refusal (When (n == 0) (refusals.NoBlank (kind_of_version kind)) ∷ MayLackMemory ∷ [])) none

plenty_passes : (wanted : Option KindVersion) → first_refusal (rest plenty wanted) ≡ None
plenty_passes None = refl
plenty_passes (Some kind) = rest_passes plenty kind (omega arith)

-- ---- a move, up to the blank and from it on

module _ (core : Core) (x : Elem) (processor : ℕ) where
  abbrev step : CoreStep
  step = Move x processor

  -- the element is there already
  abbrev stays : Bool
  stays = place_or_home core x == processor

  -- the kind of the blank that is wanted for a move elsewhere
  abbrev wanted : Option KindVersion
  wanted = version_of_array (present core) x.array

  abbrev start : List Check
  start =
      When core.halted refusals.Halted
      ∷ When core.busy refusals.Checkpointing
      ∷ When (not (is_processor core processor)) refusals.BadPes
      ∷ When (not (is_present core x)) refusals.Absent ∷ []

  abbrev front : List Check
  front = start ++ When (is_some (assigned_to core (place_or_home core x)) || is_some (assigned_to core processor)) refusals.Uncommitted ∷ []

  -- by whether it is there already
  abbrev order : Bool → Blanks → List Check
  order here blanks = start ++ cond here [] (away_checks core blanks x processor)

  refused_by : (here : Bool) (blanks : Blanks) (refusal : Refusal) → first_refusal (order here plenty) ≡ Some refusal → first_refusal (order here blanks) ≡ Some refusal
  refused_by true blanks refusal h = h
  refused_by false blanks refusal h = some_of_first front (rest blanks wanted) refusal (in_front front (rest plenty wanted) refusal (plenty_passes wanted) h)

  -- what is refused where blanks are plenty is refused with any stock
  pub refused_so : (blanks : Blanks) (refusal : Refusal) → first_refusal (checks core plenty step) ≡ Some refusal → Goes (record { core = core; blanks = blanks }) step (Refuses refusal) (record { core = core; blanks = blanks })
  refused_so blanks refusal h = is_refused core blanks step refl refusal (refused_by stays blanks refusal h)

  module _ (can : first_refusal (checks core plenty step) ≡ None) (blanks : Blanks) where
    abbrev store : StoreView
    store = record { core = core; blanks = blanks }

    passes_there : (here : Bool) → here ≡ true → first_refusal (order here plenty) ≡ None → first_refusal (order here blanks) ≡ None
    passes_there true is h = h
    passes_there false is h = absurd (let never : ⊥ = cc in never)

    -- a move to the own processor changes nothing
    pub stays_there : stays ≡ true → Goes store step Done store
    stays_there here =
        subst (λ (s : StoreView). Goes store step Done s)
        (ap (λ b. record { core = cond b core (record core { places = insert_entry elem_cmp core.places x processor }); blanks = cond b blanks (with_taken wanted blanks) }) here)
        (is_done core blanks step refl (passes_there stays here can))

    module _ (kind : KindVersion) where
      passes_front : first_refusal (order false plenty) ≡ None → first_refusal front ≡ None
      passes_front h = none_in_front front (rest plenty wanted) h

      -- from the blank on the order is that of the rest
      later : (here : Bool) → here ≡ false → first_refusal (order here plenty) ≡ None → (o : Option Refusal) → wanted ≡ Some kind → first_refusal (rest blanks (Some kind)) ≡ o → first_refusal (order here blanks) ≡ o
      later true is h o of then = absurd (let never : ⊥ = cc in never)
      later false is h o of then = none_of_both front (rest blanks wanted) (passes_front h) ∙ ap (λ k. first_refusal (rest blanks k)) of ∙ then

      may_lack : (here : Bool) → here ≡ false → first_refusal (order here plenty) ≡ None → wanted ≡ Some kind → 0 < blanks (kind_of_version kind) → may_lack_memory (order here blanks) ≡ true
      may_lack true is h of has = absurd (let never : ⊥ = cc in never)
      may_lack false is h of has = memory_after front (rest blanks wanted) (passes_front h) (ap (λ k. may_lack_memory (rest blanks k)) of ∙ rest_may_lack blanks kind has)

      module _ (elsewhere : stays ≡ false) (of : wanted ≡ Some kind) where
        pub lacks_blank_for : blanks (kind_of_version kind) ≡ 0 → Goes store step (Refuses (refusals.NoBlank (kind_of_version kind))) store
        lacks_blank_for none = is_refused core blanks step refl (refusals.NoBlank (kind_of_version kind)) (later stays elsewhere can (Some (refusals.NoBlank (kind_of_version kind))) of (rest_lacks blanks kind none))

        pub lacks_memory_for : 0 < blanks (kind_of_version kind) → Goes store step (Refuses refusals.Memory) store
        lacks_memory_for has = lacks_memory core blanks step refl (may_lack stays elsewhere can of has)

        pub goes_away : 0 < blanks (kind_of_version kind) → Goes store step Done (record { core = next_core core step; blanks = with_taken (Some kind) blanks })
        goes_away has =
            subst (λ (b : Blanks). Goes store step Done (record { core = next_core core step; blanks = b }))
            (ap (λ b. cond b blanks (with_taken wanted blanks)) elsewhere ∙ ap (λ k. with_taken k blanks) of)
            (is_done core blanks step refl (later stays elsewhere can None of (rest_passes blanks kind has)))
