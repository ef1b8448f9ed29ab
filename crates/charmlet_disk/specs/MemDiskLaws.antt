-- The laws of a disk, of the one in memory.
use Rattle.std.specs.Prelude.{◌≡◌, ◌⊎◌, ℕ, ◌+◌, ◌-◌, ◌<◌, ◌≤◌, max, List, [], ◌∷◌, ◌++◌, length, take, drop}
use Rattle.std.proofs.Common.{inl, inr, ⊎_elim, get_or, refl, sym, ◌∙◌, ap, subst, arith, length-append, length-drop}
use Rattle.std.proofs.lemmas.List.{length-take, take_all, get_or-take, get_or-drop, get_or_append_left, get_or-append_right}
use Rattle.std.proofs.lemmas.Bool.{or_parts, true≢false}
use Rattle.charmlet_model.specs.declared.half.Half.{Half}
use Rattle.charmlet_model.specs.declared.half.Half.TheVariants.{Zero, One}
use Rattle.charmlet_disk.specs.declared.mem_disk.MemDisk.{MemDisk}
use Rattle.charmlet_disk.specs.declared.mem_disk.call.Call.{Call}
use Rattle.charmlet_disk.specs.declared.mem_disk.call.Call.TheVariants.{Write, Sync, Crash}
use Rattle.charmlet_disk.specs.File.{File, CrashBytes, MayBeLeft, MayLeave, covers, is_within, wrote, clean, overwritten}
use Rattle.charmlet_disk.specs.Crash.{left_by}
use Rattle.charmlet_disk.specs.Memory.{after_call, replayed, files_after, LeftSince}
use Rattle.charmlet_disk.specs.MemDisk.{files, calls_of}
use Rattle.charmlet_disk.specs.Sound.{IsSound}
use Rattle.charmlet_disk.specs.Places.{tells_place, covers_push}
use Rattle.charmlet_disk.specs.Ends.{last_end-wrote}

-- a disk in memory is what its calls make of an empty one
pub files_replayed : (disk : MemDisk) (half : Half) →
    files disk half ≡ files_after (calls_of disk) half
files_replayed disk Zero = disk.zero_replayed
files_replayed disk One = disk.one_replayed

all_taken : (disk : MemDisk) (half : Half) →
    files_after (take (length (calls_of disk)) (calls_of disk)) half ≡ files disk half
all_taken disk half =
    ap (λ (calls : List Call). files_after calls half)
    (take_all (length (calls_of disk)) (calls_of disk) (omega arith)) ∙ sym
    (files_replayed disk half)

length-overwritten : (at : ℕ) (bytes old : List ℕ) →
    (length old ≤ length (overwritten at bytes old))
    × (length (overwritten at bytes old) ≤ max (length old) (at + length bytes))
length-overwritten at bytes old =
    let front = length-append (take at old ++ bytes) (drop (at + length bytes) old) in
    let middle = length-append (take at old) bytes in (
      omega (arith, front, middle, length-take at old, length-drop (at + length bytes) old),
      omega
          (arith, front, middle, length-take at old, length-drop (at + length bytes) old),
    )

-- a write leaves what stands outside its range
pub overwritten_apart : (at : ℕ) (bytes old : List ℕ) (k : ℕ) → k < length old → (k < at)
    ⊎ (at + length bytes ≤ k) → get_or (overwritten at bytes old) k 0 ≡ get_or old k 0
overwritten_apart at bytes old k lt (inl below) =
    let middle = length-append (take at old) bytes in
    get_or_append_left (take at old ++ bytes)
    (drop (at + length bytes) old) 0 k (omega (arith, middle, length-take at old))
    ∙ get_or_append_left (take at old) bytes 0 k (omega (arith, length-take at old)) ∙ get_or-take
    at old k 0 below
overwritten_apart at bytes old k lt (inr above) =
    let front : length (take at old ++ bytes) ≡ at + length bytes =
    omega (arith, length-append (take at old) bytes, length-take at old) in
    let there : at + length bytes + (k - (at + length bytes)) ≡ k = omega arith in
    get_or-append_right (take at old ++ bytes) (drop (at + length bytes) old)
    (at + length bytes) k 0 front above
    ∙ get_or-drop (at + length bytes) old (k - (at + length bytes)) 0 ∙ ap
    (λ (i : ℕ). get_or old i 0) there

clean_sound : (bytes : List ℕ) → IsSound (clean bytes)
clean_sound bytes = record {
  left = record { no_shorter = omega arith; no_longer = omega arith; outside = λ k lt apart. refl };
  inside = omega arith;
  untouched = λ none. refl;
}

-- what was written since the last sync isn't nothing
push_is_some : (ranges : List (ℕ × ℕ)) (range : ℕ × ℕ) → ranges ++ range ∷ [] ≡ [] → ⊥
push_is_some ranges range none =
    omega (arith, length-append ranges (range ∷ []), ap (λ (rs : List (ℕ × ℕ)). length rs) none)

wrote_sound : (at : ℕ) (bytes : List ℕ) (file : File) → IsSound file → IsSound (wrote at bytes file)
wrote_sound at bytes file sound =
    let lengths = length-overwritten at bytes file.now in record {
      left = record {
        no_shorter = omega (arith, lengths.0, sound.left.no_shorter);
        no_longer = omega (arith, lengths.1, sound.left.no_longer);
        outside = λ k lt apart.
            let parts = or_parts (covers file.ranges k) (is_within k (at, length bytes))
            (sym (covers_push file.ranges (at, length bytes) k) ∙ apart) in
            ⊎_elim
            (λ now. absurd (true≢false (sym now.0 ∙ parts.1)))
            (λ beside. overwritten_apart at bytes file.now k
            (omega (arith, lt, sound.left.no_shorter)) beside.1 ∙ sound.left.outside k lt parts.0)
            (tells_place k at (length bytes));
      };
      inside = last_end-wrote file.ranges (at, length bytes) (max file.greatest (at + length bytes))
          (omega (arith, sound.inside)) (omega arith);
      untouched = λ none. absurd (push_is_some file.ranges (at, length bytes) none);
    }

after_call_sound : (half : Half) (call : Call) (file : File) → IsSound file →
    IsSound (after_call half call file)
after_call_sound Zero (Write Zero at bytes) file sound = wrote_sound at bytes.items file sound
after_call_sound Zero (Write One at bytes) file sound = sound
after_call_sound One (Write Zero at bytes) file sound = sound
after_call_sound One (Write One at bytes) file sound = wrote_sound at bytes.items file sound
after_call_sound Zero (Sync Zero) file sound = clean_sound file.now
after_call_sound Zero (Sync One) file sound = sound
after_call_sound One (Sync Zero) file sound = sound
after_call_sound One (Sync One) file sound = clean_sound file.now
after_call_sound Zero (Crash choice) file sound = clean_sound (left_by choice file)
after_call_sound One (Crash choice) file sound = clean_sound (left_by choice file)

replayed_sound : (half : Half) (calls : List Call) (file : File) → IsSound file →
    IsSound (replayed half calls file)
replayed_sound half [] file sound = sound
replayed_sound half (call ∷ calls) file sound =
    replayed_sound half calls (after_call half call file) (after_call_sound half call file sound)

pub files_are_sound : (disk : MemDisk) (half : Half) → IsSound (files disk half)
files_are_sound disk half = subst (λ f. IsSound f) (sym (files_replayed disk half))
    (replayed_sound half (calls_of disk) (clean []) (clean_sound []))

-- what a read gives is one of the outcomes
pub files_are_left : (disk : MemDisk) (half : Half) → MayBeLeft (files disk half)
    (files disk half).now
files_are_left disk half = (files_are_sound disk half).left

-- this moment is one of those since an earlier one
pub counts_among : (disk : MemDisk) (t : ℕ) (c : CrashBytes) → t ≤ length (calls_of disk) →
    MayLeave (files disk) c → LeftSince (calls_of disk) t c
counts_among disk t c le left = (
  length (calls_of disk),
  le,
  omega arith,
  λ half. subst (λ f. MayBeLeft f (c half))
      (sym (all_taken disk half)) (left half),
)

-- since this moment there is no other
pub only_last : (disk : MemDisk) (c : CrashBytes) → LeftSince (calls_of disk)
    (length (calls_of disk)) c → MayLeave (files disk) c
only_last disk c left =
    let last : left.0 ≡ length (calls_of disk) = omega (arith, left.1, left.2) in
    λ half. subst (λ f. MayBeLeft f (c half))
    (ap (λ (k : ℕ). files_after (take k (calls_of disk)) half) last ∙ all_taken disk half)
    (left.3 half)
