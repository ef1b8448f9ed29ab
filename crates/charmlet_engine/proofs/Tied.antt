-- Stores and halves that stay tied.
use Rattle.std.proofs.Common.{Vec, ◌≡◌, ◌≢◌, inl, inr, ℕ, true, false, Result, Ok, Err, IfErr, OnOk, List, length, sym, ap, subst, ◌∙◌}
use Rattle.std.specs.Vec.{with_items}
use Rattle.std.proofs.Math.Nat.{ℕ_set}
use Rattle.std.proofs.Math.Path.{path_j}
use Rattle.std.proofs.lemmas.List.{with_items_is}
use Rattle.charmlet_model.specs.declared.refusal.Refusal.{Refusal}
use Rattle.charmlet_model.specs.declared.refusal.Refusal.TheVariants as refusals
use Rattle.charmlet_model.specs.Core.{Core}
use Rattle.charmlet_model.specs.Sound.{IsSound}
use Rattle.charmlet_chare.specs.declared.chare.Chare as chares
use Rattle.charmlet_disk.specs.declared.disk.Disk.{Ghosts}
use Rattle.charmlet_halves.specs.declared.halves.Halves.{Halves}
use Rattle.charmlet_halves.specs.Halves.{disk_of, is_halted}
use Rattle.charmlet_history.specs.Kept.{Kept, core_in}
use Rattle.charmlet_persist.specs.Writes.Quiet.{Quiet}
use Rattle.charmlet_persist.specs.Writes.Rest.{Agrees, IsCurrent, IsKept}
use Rattle.charmlet_persist.proofs.WritesLemmas.Quietness.{still_agrees, still_kept}
use Rattle.charmlet_stock.specs.declared.stock.Stock.{Stock}
use Rattle.charmlet_store.specs.Store.{StoreShown}
use Rattle.charmlet_store.specs.Together as stores
use Rattle.charmlet_engine.specs.declared.engine.Engine.TheInside.{Inside}
use Rattle.charmlet_engine.specs.Engine.{EngineShown}
use Rattle.charmlet_engine.specs.Together.{AreTied, shown_by}
use Rattle.charmlet_engine.proofs.Onward.{device_or_not}

module _ {D : Type 0} {G : Ghosts D} (old new : StoreShown) (halves : Halves D G) (tied : AreTied old halves) where
  -- steps that write nothing leave the halves as they are
  pub quiet_tied : IsSound (core_in old.history) → new.keeping ≡ old.keeping → Quiet (core_in old.history) (core_in new.history) → AreTied new halves
  quiet_tied sound keeping quiet =
      let before = core_in old.history in
      let after = core_in new.history in
      record {
        dropping = keeping ∙ tied.dropping;
        agrees = still_agrees {G = G} before after quiet halves tied.agrees;
        keeps = λ honest. still_kept {G = G} before after quiet sound.durable halves (tied.keeps honest);
        current = λ honest going. tied.current honest (quiet.going going);
      }

  -- and so do steps that leave the core
  pub core_tied : new.keeping ≡ old.keeping → core_in new.history ≡ core_in old.history → AreTied new halves
  core_tied keeping same = record {
    dropping = keeping ∙ tied.dropping;
    agrees = subst (λ (core : Core). Agrees core halves) (sym same) tied.agrees;
    keeps = λ honest. subst (λ (core : Core). IsKept core halves) (sym same) (tied.keeps honest);
    current = λ honest going. tied.current honest (ap (λ (core : Core). core.halted) (sym same) ∙ going);
  }

module _ {D : Type 0} {G : Ghosts D} (old : StoreShown) (was : Halves D G) (tied : AreTied old was) (history : Kept) (halves : Halves D G) where
  -- where no image is written, the half is as current as it was
  pub refused_current : (refusal : Refusal) → (refusal ≢ refusals.Device → (history ≡ old.history) × (halves ≡ was)) → (refusal ≡ refusals.Device → is_halted halves ≡ true) →
      Agrees (core_in history) halves → (G.honest (disk_of halves) → G.honest (disk_of was)) → G.honest (disk_of halves) → (core_in history).halted ≡ false → IsCurrent halves
  refused_current refusal same failed agrees back honest going = elim (device_or_not refusal) [
    | inl is ↦ (let no : true ≡ false = sym (failed is) ∙ (agrees going).going in absurd cc)
    | inr other ↦
        (let both = same other in
        subst (λ (its : Halves D G). IsCurrent its) (sym both.1) (tied.current (back honest) (ap (λ (h : Kept). (core_in h).halted) (sym both.0) ∙ going)))
  ]

  -- and where one is, it is current
  pub taken_current : (result : Result ℕ Refusal) → (G.honest (disk_of was) → OnOk result (IsCurrent halves)) → IfErr result (λ refusal. refusal ≢ refusals.Device → (history ≡ old.history) × (halves ≡ was)) →
      IfErr result (λ refusal. refusal ≡ refusals.Device → is_halted halves ≡ true) →
      Agrees (core_in history) halves → (G.honest (disk_of halves) → G.honest (disk_of was)) → G.honest (disk_of halves) → (core_in history).halted ≡ false → IsCurrent halves
  taken_current (Ok generation) current same failed agrees back honest going = current (back honest)
  taken_current (Err refusal) current same failed agrees back honest going = refused_current refusal same failed agrees back honest going

-- a store that is opened where its engine is
module _ {D C : Type 0} {G : Ghosts D} {H : chares.Ghosts C} (engine : Inside D C G) (history : Kept) (stock : Stock C H) (halves : Halves D G)
    (opens : record { store = stores.shown_by history stock; halves = halves } ≡ engine) where
  pub tied_inside : AreTied engine.store engine.halves → AreTied (stores.shown_by history stock) halves
  tied_inside tied = subst (λ (its : Inside D C G). AreTied its.store its.halves) (sym opens) tied

  pub view_inside : (shown : EngineShown D) → shown_by engine.store engine.halves ≡ shown → shown_by (stores.shown_by history stock) halves ≡ shown
  view_inside shown view_is = ap (λ (its : Inside D C G). shown_by its.store its.halves) opens ∙ view_is

-- items that are written back as they were
module _ {X Z : Type 0} (v : Vec X Z) where
  abbrev refilled : (items : List X) (fits : v.len ≡ length items) → Vec X Z
  refilled items fits = record { ptr = v.ptr; len = v.len; cap = v.cap; alloc = v.alloc; items = items; ok = (fits, v.ok.1); small = v.small }

  refilled_same : {items : List X} → v.items ≡ items → (fits : v.len ≡ length items) → refilled items fits ≡ v
  refilled_same = path_j (λ items _. (fits : v.len ≡ length items) → refilled items fits ≡ v) (λ fits j. record { ptr = v.ptr; len = v.len; cap = v.cap; alloc = v.alloc; items = v.items; ok = (ℕ_set _ _ fits v.ok.0 j, v.ok.1); small = v.small })

  pub same_items : (items : List X) → items ≡ v.items → with_items v items ≡ v
  same_items items same = refilled_same (sym (with_items_is v items (ap (length {A = X}) same ∙ sym v.ok.0) ∙ same)) (with_items v items).ok.0
