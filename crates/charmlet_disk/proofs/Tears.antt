-- What a crash leaves of a write to a file that was all on the disk.
use Rattle.std.proofs.Common.{◌≡◌, ◌⊎◌, ℕ, false, ◌+◌, ◌<◌, ◌≤◌, List, [], ◌∷◌, length, take, drop, inl, inr, sym, ◌∙◌, subst, arith, refl, length-drop, Result, Ok, Err, OnOk, OnErr}
use Rattle.std.proofs.lemmas.List.{length-take, get_or-take, get_or-drop}
use Rattle.std.proofs.lemmas.Grind.{same_number_lists}
use Rattle.charmlet_model.specs.declared.half.Half.{Half}
use Rattle.charmlet_model.specs.declared.half.Half.TheVariants.{Zero, One}
use Rattle.charmlet_model.specs.Half.{other}
use Rattle.charmlet_disk.specs.File.{File, CrashBytes, MayBeLeft, MayLeave, covers, wrote, clean}
use Rattle.charmlet_disk.specs.Disk.{IsSettled}
use Rattle.charmlet_disk.specs.Torn.{Torn, TearsHalf}
use Rattle.charmlet_disk.specs.Places.{covers_one, not_within}

-- nothing written leaves nothing else
pub clean_left : (old c : List ℕ) → MayBeLeft (clean old) c → c ≡ old
clean_left old c out =
    same_number_lists c old (omega (arith, out.no_shorter, out.no_longer))
    (λ k lt. out.outside k (omega (arith, lt, out.no_longer)) refl)

pub old_torn : (at n : ℕ) (old : List ℕ) → Torn at n old old
old_torn at n old = record { front = refl; later = refl; no_shorter = omega arith; no_longer = omega arith }

module _ (at : ℕ) (bytes old c : List ℕ) (inside : at ≤ length old) (out : MayBeLeft (wrote at bytes (clean old)) c) where
  apart : (k : ℕ) → (k < at) ⊎ (at + length bytes ≤ k) → covers ((at, length bytes) ∷ []) k ≡ false
  apart k side = covers_one (at, length bytes) k ∙ not_within k at (length bytes) side

  front : take at c ≡ take at old
  front = same_number_lists (take at c) (take at old)
      (omega (arith, length-take at c, length-take at old, out.no_shorter))
      (λ k lt. let below : k < at = omega (arith, lt, length-take at c) in
      get_or-take at c k 0 below ∙ out.outside k (omega (arith, below, inside)) (apart k (inl below)) ∙ sym (get_or-take at old k 0 below))

  later : drop (at + length bytes) c ≡ drop (at + length bytes) old
  later = same_number_lists (drop (at + length bytes) c) (drop (at + length bytes) old)
      (omega (arith, length-drop (at + length bytes) c, length-drop (at + length bytes) old, out.no_shorter, out.no_longer))
      (λ k lt. let below : at + length bytes + k < length old = omega (arith, lt, length-drop (at + length bytes) c, out.no_longer) in
      get_or-drop (at + length bytes) c k 0 ∙ out.outside (at + length bytes + k) below (apart (at + length bytes + k) (inr (omega arith))) ∙ sym (get_or-drop (at + length bytes) old k 0))

  pub torn : Torn at (length bytes) old c
  torn = record { front = front; later = later; no_shorter = out.no_shorter; no_longer = out.no_longer }

-- the same of both halves, over a settled disk
module _ (files files_then : Half → File) (half : Half) (at : ℕ) (bytes : List ℕ) (settled : IsSettled files) where
  other_kept : (c : CrashBytes) → files_then (other half) ≡ files (other half) → MayLeave files_then c → c (other half) ≡ (files (other half)).now
  other_kept c same left =
      clean_left (files (other half)).now (c (other half)) (subst (λ f. MayBeLeft f (c (other half))) (same ∙ settled (other half)) (left (other half)))

  pub tears : at ≤ length (files half).now → ((b : List ℕ) → MayBeLeft (files_then half) b → MayBeLeft (wrote at bytes (files half)) b)
      → files_then (other half) ≡ files (other half) → (c : CrashBytes) → MayLeave files_then c → TearsHalf files half at (length bytes) c
  tears inside spread same c left = record {
    torn = torn at bytes (files half).now (c half) inside (subst (λ f. MayBeLeft (wrote at bytes f) (c half)) (settled half) (spread (c half) (left half)));
    kept = other_kept c same left;
  }

-- before the write
pub not_torn : (files : Half → File) (half : Half) (at n : ℕ) → IsSettled files → (c : CrashBytes) → MayLeave files c → TearsHalf files half at n c
not_torn files half at n settled c left =
    let is : (h : Half) → c h ≡ (files h).now = λ h. clean_left (files h).now (c h) (subst (λ f. MayBeLeft f (c h)) (settled h) (left h)) in record {
      torn = subst (λ b. Torn at n (files half).now b) (sym (is half)) (old_torn at n (files half).now);
      kept = is (other half);
    }

-- what holds of a half and of the other holds of both
pub by_half : (P : Half → Type 0) (half : Half) → P half → P (other half) → (h : Half) → P h
by_half P Zero this that Zero = this
by_half P Zero this that One = that
by_half P One this that Zero = that
by_half P One this that One = this

-- a sync leaves nothing that might not have been left before
pub sync_narrows : {T E : Type 0} (result : Result T E) (files files_then : Half → File) (half : Half) → MayBeLeft (files half) (files half).now
    → OnOk result (files_then half ≡ clean (files half).now) → OnErr result (files_then half ≡ files half) → files_then (other half) ≡ files (other half)
    → (c : CrashBytes) → MayLeave files_then c → MayLeave files c
sync_narrows result files files_then half stands durable failed same c left =
    by_half (λ h. MayBeLeft (files h) (c h)) half
    (this result durable failed)
    (subst (λ f. MayBeLeft f (c (other half))) same (left (other half)))
  where
    this : {T E : Type 0} (r : Result T E) → OnOk r (files_then half ≡ clean (files half).now) → OnErr r (files_then half ≡ files half) → MayBeLeft (files half) (c half)
    this (Ok x) is none =
        let all_sure : c half ≡ (files half).now = clean_left (files half).now (c half) (subst (λ f. MayBeLeft f (c half)) is (left half)) in
        subst (λ b. MayBeLeft (files half) b) (sym all_sure) stands
    this (Err e) none is = subst (λ f. MayBeLeft f (c half)) is (left half)
