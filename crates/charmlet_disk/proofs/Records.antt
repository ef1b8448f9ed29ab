-- One call more on the record of a disk in memory.
use Rattle.std.proofs.Common.{◌≡◌, inl, inr, ⊎_elim, ℕ, ◌+◌, ◌≤◌, List, [], ◌∷◌, ◌++◌, length, take, refl, sym, ◌∙◌, ap, subst, arith, length-append, Result, Ok, Err, OnOk, OnErr, Vec}
use Rattle.std.proofs.lemmas.Bool.{cases_lt}
use Rattle.std.proofs.lemmas.List.{take-append-le, take_all}
use Rattle.charmlet_model.specs.declared.half.Half.{Half}
use Rattle.charmlet_disk.specs.declared.mem_disk.MemDisk.{MemDisk}
use Rattle.charmlet_disk.specs.declared.mem_disk.call.Call.{Call}
use Rattle.charmlet_model.specs.declared.half.Half.TheVariants.{Zero, One}
use Rattle.charmlet_model.specs.Half.{other}
use Rattle.charmlet_disk.specs.declared.crash.CrashChoice.{CrashChoice}
use Rattle.charmlet_disk.specs.declared.mem_disk.call.Call.TheVariants.{Write, Sync, Crash}
use Rattle.charmlet_disk.specs.Crash.{left_by}
use Rattle.charmlet_disk.specs.File.{File, MayBeLeft, MayLeave, clean, wrote}
use Rattle.std.specs.declared.alloc.Global.{Global}
use Rattle.charmlet_disk.specs.Disk.{Elapses}
use Rattle.charmlet_disk.specs.Memory.{after_call, replayed, files_after, LeftSince, Adds}
use Rattle.charmlet_disk.specs.MemDisk.{files, calls_of, Records, Keeps}
use Rattle.charmlet_disk.specs.MemDiskLaws.{files_replayed}

replayed-push : (half : Half) (calls : List Call) (call : Call) (file : File) → replayed half (calls ++ call ∷ []) file ≡ after_call half call (replayed half calls file)
replayed-push half [] call file = refl
replayed-push half (c ∷ calls) call file = replayed-push half calls call (after_call half c file)

-- a write and a sync on record
pub write_adds : (half : Half) (at : ℕ) (bytes : Vec ℕ Global) (written : List ℕ) (old new : File) (calls calls_then : List Call) → calls_then ≡ calls ++ Write half at bytes ∷ []
    → new ≡ wrote at written old → bytes.items ≡ written → Adds half old new calls calls_then
write_adds Zero at bytes written old new calls calls_then pushed done same =
    record { call = Write Zero at bytes; pushed = pushed; done = done ∙ ap (λ (l : List ℕ). wrote at l old) (sym same); apart = λ file. refl }
write_adds One at bytes written old new calls calls_then pushed done same =
    record { call = Write One at bytes; pushed = pushed; done = done ∙ ap (λ (l : List ℕ). wrote at l old) (sym same); apart = λ file. refl }

pub sync_adds : (half : Half) (old new : File) (calls calls_then : List Call) → calls_then ≡ calls ++ Sync half ∷ [] → new ≡ clean old.now → Adds half old new calls calls_then
sync_adds Zero old new calls calls_then pushed done = record { call = Sync Zero; pushed = pushed; done = done; apart = λ file. refl }
sync_adds One old new calls calls_then pushed done = record { call = Sync One; pushed = pushed; done = done; apart = λ file. refl }

-- a crash on record
pub crash_replayed : (half : Half) (choice : CrashChoice) (old new : File) (calls calls_then : List Call) → calls_then ≡ calls ++ Crash choice ∷ []
    → new ≡ clean (left_by choice old) → old ≡ replayed half calls (clean []) → new ≡ replayed half calls_then (clean [])
crash_replayed half choice old new calls calls_then pushed done was =
    done ∙ ap (λ (f : File). clean (left_by choice f)) was
    ∙ sym (crashed half)
    ∙ sym (replayed-push half calls (Crash choice) (clean []))
    ∙ ap (λ (l : List Call). replayed half l (clean [])) (sym pushed)
  where
    crashed : (h : Half) → after_call h (Crash choice) (replayed half calls (clean [])) ≡ clean (left_by choice (replayed half calls (clean [])))
    crashed Zero = refl
    crashed One = refl

-- a half is what the record makes of it, with one call more
pub still_replayed : (half : Half) (old new : File) (calls calls_then : List Call) → Adds half old new calls calls_then
    → old ≡ replayed half calls (clean []) → new ≡ replayed half calls_then (clean [])
still_replayed half old new calls calls_then adds was =
    adds.done ∙ ap (λ (f : File). after_call half adds.call f) was
    ∙ sym (replayed-push half calls adds.call (clean []))
    ∙ ap (λ (l : List Call). replayed half l (clean [])) (sym adds.pushed)

-- and so is the other one
pub other_replayed : (half : Half) (old new : File) (calls calls_then : List Call) → Adds half old new calls calls_then
    → (file : File) → file ≡ replayed (other half) calls (clean []) → file ≡ replayed (other half) calls_then (clean [])
other_replayed half old new calls calls_then adds file was =
    was ∙ sym (adds.apart (replayed (other half) calls (clean [])))
    ∙ sym (replayed-push (other half) calls adds.call (clean []))
    ∙ ap (λ (l : List Call). replayed (other half) l (clean [])) (sym adds.pushed)

module _ (old new : MemDisk) where
  kept : Keeps old new → Elapses (length (calls_of old)) (length (calls_of new)) (LeftSince (calls_of old)) (LeftSince (calls_of new)) (MayLeave (files new))
  kept keeps = record {
    later = omega (arith, ap (λ (l : List Call). length l) keeps.calls);
    nothing_else = λ t c le left. inl (left.0, left.1, omega (arith, left.2, ap (λ (l : List Call). length l) keeps.calls), λ half. subst (λ f. MayBeLeft f (c half)) (same left.0 half) (left.3 half));
    keeps = λ t c le left. (left.0, left.1, omega (arith, left.2, ap (λ (l : List Call). length l) keeps.calls), λ half. subst (λ f. MayBeLeft f (c half)) (sym (same left.0 half)) (left.3 half));
  }
    where
      same : (k : ℕ) (half : Half) → files_after (take k (calls_of new)) half ≡ files_after (take k (calls_of old)) half
      same k half =
          ap (λ (l : List Call). files_after (take k l) half) keeps.calls

  recorded : Records old new → Elapses (length (calls_of old)) (length (calls_of new)) (LeftSince (calls_of old)) (LeftSince (calls_of new)) (MayLeave (files new))
  recorded records = record {
    later = omega (arith, longer);
    nothing_else = λ t c le left. ⊎_elim (λ past. inr (λ half. subst (λ f. MayBeLeft f (c half)) (last left.0 (omega (arith, past, left.2, longer)) half) (left.3 half)))
        (λ below. inl (left.0, left.1, below, λ half. subst (λ f. MayBeLeft f (c half)) (same left.0 below half) (left.3 half)))
        (cases_lt (length (calls_of old)) left.0);
    keeps = λ t c le left. (left.0, left.1, omega (arith, left.2, longer), λ half. subst (λ f. MayBeLeft f (c half)) (sym (same left.0 left.2 half)) (left.3 half));
  }
    where
      longer : length (calls_of new) ≡ length (calls_of old) + 1
      longer = ap (λ (l : List Call). length l) records.1 ∙ length-append (calls_of old) (records.0 ∷ [])

      same : (k : ℕ) → k ≤ length (calls_of old) → (half : Half) → files_after (take k (calls_of new)) half ≡ files_after (take k (calls_of old)) half
      same k le half =
          ap (λ (l : List Call). files_after (take k l) half) records.1
          ∙ ap (λ (l : List Call). files_after l half) (take-append-le k (calls_of old) (records.0 ∷ []) le)

      last : (k : ℕ) → k ≡ length (calls_of new) → (half : Half) → files_after (take k (calls_of new)) half ≡ files new half
      last k is half =
          ap (λ (l : List Call). files_after l half) (take_all k (calls_of new) (omega (arith, is))) ∙ sym (files_replayed new half)

  -- whether it was done or not
  pub elapses : {T E : Type 0} (result : Result T E) → OnOk result (Records old new) → OnErr result (Keeps old new)
      → Elapses (length (calls_of old)) (length (calls_of new)) (LeftSince (calls_of old)) (LeftSince (calls_of new)) (MayLeave (files new))
  elapses (Ok x) records none = recorded records
  elapses (Err e) none keeps = kept keeps
