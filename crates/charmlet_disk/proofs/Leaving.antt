-- What a crash leaves of a file, from how its bytes are put together.
use Rattle.std.proofs.Common.{◌≡◌, inl, inr, ⊎_elim, ℕ, ◌-◌, ◌/◌, ◌<◌, ◌≤◌, max, Bool, true, false, List, [], ◌∷◌, ◌++◌, length, take, drop, replicate, get_or, refl, sym, ◌∙◌, ap, arith, length-append, length-drop, if◌then◌else◌}
use Rattle.std.proofs.lemmas.Bool.{cases_Bool, cases_lt, or_parts, or_from, true≢false}
use Rattle.std.proofs.lemmas.Grind.{same_number_lists}
use Rattle.std.proofs.lemmas.List.{length-take, length-replicate, take_all, get_or-take, get_or-drop, get_or-replicate, get_or_past, get_or_append_left, get_or-append_right}
use Rattle.std.proofs.lemmas.List.FromFn.{length-map-range_with_len, get_or-map-range_with_len}
use Rattle.charmlet_disk.specs.declared.crash.CrashChoice.{CrashChoice}
use Rattle.charmlet_disk.specs.declared.crash.CrashChoice.TheVariants.{Old, New, Zeros, Ones, Sevens, FirstHalves}
use Rattle.charmlet_disk.specs.File.{File, MayBeLeft, covers, is_within, clean}
use Rattle.charmlet_disk.specs.Crash.{by_place, filled, half_written, first_halves, last_end, left_by}
use Rattle.charmlet_disk.specs.Overlay.{IsOverlaid}
use Rattle.charmlet_disk.specs.Sound.{IsSound}
use Rattle.charmlet_disk.specs.Ends.{last_end-halves}
use Rattle.charmlet_disk.specs.Places.{tells_place, not_within}

length-by_place : (n : ℕ) (f : ℕ → ℕ) → length (by_place n f) ≡ n
length-by_place n f = length-map-range_with_len f 0 n

get_or-by_place : (n : ℕ) (f : ℕ → ℕ) (k : ℕ) → k < n → get_or (by_place n f) k 0 ≡ f k
get_or-by_place n f k lt = get_or-map-range_with_len f 0 n k k 0 lt (omega arith)

-- a choice by a test
if_true : (b : Bool) (x y : ℕ) → b ≡ true → (if b then x else y) ≡ x
if_true b x y is = ap (λ (t : Bool). if t then x else y) is

if_false : (b : Bool) (x y : ℕ) → b ≡ false → (if b then x else y) ≡ y
if_false b x y is = ap (λ (t : Bool). if t then x else y) is

-- bytes are those of their places
is_by_place : (bytes : List ℕ) (n : ℕ) (f : ℕ → ℕ) → length bytes ≡ n → ((k : ℕ) → k < n → get_or bytes k 0 ≡ f k) → bytes ≡ by_place n f
is_by_place bytes n f long each =
    same_number_lists bytes (by_place n f) (long ∙ sym (length-by_place n f))
    (λ k lt. let below : k < n = omega (arith, lt, long) in each k below ∙ sym (get_or-by_place n f k below))

-- one byte in the ranges
pub is_filled : (file : File) (byte : ℕ) (bytes : List ℕ) → IsOverlaid file.ranges (λ _. byte) file.now bytes → bytes ≡ filled byte file
is_filled file byte bytes overlaid =
    is_by_place bytes (length file.now) (λ k. if covers file.ranges k then byte else get_or file.now k 0) overlaid.long
    (λ k lt. ⊎_elim
    (λ is. overlaid.inside k lt is ∙ sym (if_true (covers file.ranges k) byte (get_or file.now k 0) is))
    (λ not. overlaid.outside k not ∙ sym (if_false (covers file.ranges k) byte (get_or file.now k 0) not))
    (cases_Bool (covers file.ranges k)))

-- bytes with the end of others
pub appended : (new sure lent now : List ℕ) (k n : ℕ) → new ≡ sure ++ take n (drop k lent) → lent ≡ now → k ≡ length sure → length now - k ≤ n → new ≡ sure ++ drop (length sure) now
appended new sure lent now k n is same place enough =
    is
    ∙ ap (λ (l : List ℕ). sure ++ take n (drop k l)) same
    ∙ ap (λ (l : List ℕ). sure ++ l) (take_all n (drop k now) (omega (arith, length-drop k now, enough)))
    ∙ ap (λ (i : ℕ). sure ++ drop i now) place

-- the old bytes and the new ones past them, with the new ones in the ranges
pub made_sure : (file : File) → MayBeLeft file file.now → (bytes : List ℕ) → IsOverlaid file.ranges (λ k. get_or file.now k 0) (file.sure ++ drop (length file.sure) file.now) bytes
    → bytes ≡ file.now
made_sure file left bytes overlaid = same_number_lists bytes file.now whole each
  where
    longer : length (file.sure ++ drop (length file.sure) file.now) ≡ length file.now
    longer = omega (arith, length-append file.sure (drop (length file.sure) file.now), length-drop (length file.sure) file.now, left.no_shorter)

    whole : length bytes ≡ length file.now
    whole = overlaid.long ∙ longer

    same_above : (k : ℕ) → length file.sure ≤ k → get_or (file.sure ++ drop (length file.sure) file.now) k 0 ≡ get_or file.now k 0
    same_above k above =
        get_or-append_right file.sure (drop (length file.sure) file.now) (length file.sure) k 0 refl above
        ∙ get_or-drop (length file.sure) file.now (k - length file.sure) 0
        ∙ ap (λ (i : ℕ). get_or file.now i 0) (omega (arith, above))

    untouched : (k : ℕ) → covers file.ranges k ≡ false → get_or (file.sure ++ drop (length file.sure) file.now) k 0 ≡ get_or file.now k 0
    untouched k not = ⊎_elim
        (λ below. get_or_append_left file.sure (drop (length file.sure) file.now) 0 k below ∙ sym (left.outside k below not))
        (same_above k)
        (cases_lt k (length file.sure))

    each : (k : ℕ) → k < length bytes → get_or bytes k 0 ≡ get_or file.now k 0
    each k lt = ⊎_elim
        (λ is. overlaid.inside k (omega (arith, lt, overlaid.long)) is)
        (λ not. overlaid.outside k not ∙ untouched k not)
        (cases_Bool (covers file.ranges k))

-- the old bytes, with zeros past them, and the new ones in the first halves
pub is_half_written : (file : File) → IsSound file → file.greatest ≡ length file.now → (bytes : List ℕ)
    → IsOverlaid (first_halves file.ranges) (λ k. get_or file.now k 0) (file.sure ++ replicate (length file.now - length file.sure) 0) bytes
    → take (max (length file.sure) (last_end (first_halves file.ranges))) bytes ≡ half_written file
is_half_written file sound whole bytes overlaid =
    is_by_place (take end bytes) end (λ k. if covers (first_halves file.ranges) k then get_or file.now k 0 else get_or file.sure k 0) cut each
  where
    end : ℕ
    end = max (length file.sure) (last_end (first_halves file.ranges))

    zeros : List ℕ
    zeros = replicate (length file.now - length file.sure) 0

    longer : length (file.sure ++ zeros) ≡ length file.now
    longer = omega (arith, length-append file.sure zeros, length-replicate {A = ℕ} (length file.now - length file.sure) 0, sound.left.no_shorter)

    cut : length (take end bytes) ≡ end
    cut = omega (arith, length-take end bytes, overlaid.long, longer, last_end-halves file.ranges, sound.inside, sound.left.no_shorter, whole)

    padded : (k : ℕ) → k < length file.now → get_or (file.sure ++ zeros) k 0 ≡ get_or file.sure k 0
    padded k lt = ⊎_elim
        (λ below. get_or_append_left file.sure zeros 0 k below)
        (λ above. get_or-append_right file.sure zeros (length file.sure) k 0 refl above
        ∙ get_or-replicate (length file.now - length file.sure) (k - length file.sure) 0 0 (omega (arith, lt, above))
        ∙ sym (get_or_past file.sure k 0 above))
        (cases_lt k (length file.sure))

    each : (k : ℕ) → k < end → get_or (take end bytes) k 0 ≡ (if covers (first_halves file.ranges) k then get_or file.now k 0 else get_or file.sure k 0)
    each k lt =
        let below : k < length file.now = omega (arith, lt, last_end-halves file.ranges, sound.inside, sound.left.no_shorter, whole) in
        get_or-take end bytes k 0 lt
        ∙ ⊎_elim
        (λ is. overlaid.inside k (omega (arith, below, longer)) is ∙ sym (if_true (covers (first_halves file.ranges) k) (get_or file.now k 0) (get_or file.sure k 0) is))
        (λ not. overlaid.outside k not ∙ padded k below ∙ sym (if_false (covers (first_halves file.ranges) k) (get_or file.now k 0) (get_or file.sure k 0) not))
        (cases_Bool (covers (first_halves file.ranges) k))

-- a file of which all is sure
abbrev pub file_with : List ℕ → List ℕ → List (ℕ × ℕ) → File
file_with now sure ranges = record { now = now; sure = sure; ranges = ranges; greatest = length now }

pub is_clean : (now sure : List ℕ) (ranges : List (ℕ × ℕ)) (bytes : List ℕ) → now ≡ bytes → sure ≡ bytes → ranges ≡ [] → file_with now sure ranges ≡ clean bytes
is_clean now sure ranges bytes first second third =
    ap (λ (l : List ℕ). file_with l sure ranges) first ∙ ap (λ (l : List ℕ). file_with bytes l ranges) second ∙ ap (λ (l : List (ℕ × ℕ)). file_with bytes bytes l) third

-- a crash of such a file leaves it
same_by_place : (bytes : List ℕ) (n : ℕ) (f : ℕ → ℕ) → n ≡ length bytes → ((k : ℕ) → f k ≡ get_or bytes k 0) → by_place n f ≡ bytes
same_by_place bytes n f long each = sym (is_by_place bytes n f (sym long) (λ k lt. sym (each k)))

clean_stays : (choice : CrashChoice) (bytes : List ℕ) → left_by choice (clean bytes) ≡ bytes
clean_stays Old bytes = refl
clean_stays New bytes = refl
clean_stays Zeros bytes = same_by_place bytes (length bytes) (λ k. get_or bytes k 0) refl (λ k. refl)
clean_stays Ones bytes = same_by_place bytes (length bytes) (λ k. get_or bytes k 0) refl (λ k. refl)
clean_stays Sevens bytes = same_by_place bytes (length bytes) (λ k. get_or bytes k 0) refl (λ k. refl)
clean_stays FirstHalves bytes = same_by_place bytes (max (length bytes) 0) (λ k. get_or bytes k 0) (omega arith) (λ k. refl)

filled_may : (file : File) (byte : ℕ) → IsSound file → file.greatest ≡ length file.now → MayBeLeft file (filled byte file)
filled_may file byte sound whole = record {
  no_shorter = omega (arith, long, sound.left.no_shorter);
  no_longer = omega (arith, long, sound.left.no_longer);
  outside = λ k lt not. get_or-by_place (length file.now) each k (omega (arith, lt, sound.left.no_shorter))
      ∙ if_false (covers file.ranges k) byte (get_or file.now k 0) not ∙ sound.left.outside k lt not;
}
  where
    each : ℕ → ℕ
    each k = if covers file.ranges k then byte else get_or file.now k 0

    long : length (filled byte file) ≡ length file.now
    long = length-by_place (length file.now) each

-- a crash of a file that was not written leaves it
pub untouched_stays : (choice : CrashChoice) (file : File) → IsSound file → file.ranges ≡ [] → file ≡ clean (left_by choice file)
untouched_stays choice file sound none =
    let is = sound.untouched none in
    is ∙ ap (λ (l : List ℕ). clean l) (sym (clean_stays choice file.now)) ∙ ap (λ (f : File). clean (left_by choice f)) (sym is)

-- a place in a first half is in the range
halves_cover_less : (ranges : List (ℕ × ℕ)) (k : ℕ) → covers ranges k ≡ false → covers (first_halves ranges) k ≡ false
halves_cover_less [] k not = refl
halves_cover_less (range ∷ ranges) k not =
    let parts = or_parts (is_within k range) (covers ranges k) not in
    or_from (is_within k (range.0, range.1 / 2)) (covers (first_halves ranges) k)
    (⊎_elim
    (λ now. absurd (true≢false (sym now.0 ∙ parts.0)))
    (λ beside. not_within k range.0 (range.1 / 2) (⊎_elim (λ below. inl below) (λ above. inr (omega (arith, above))) beside.1))
    (tells_place k range.0 range.1))
    (halves_cover_less ranges k parts.1)

-- what a crash leaves may be left
pub left_by_may : (choice : CrashChoice) (file : File) → IsSound file → file.greatest ≡ length file.now → MayBeLeft file (left_by choice file)
left_by_may Old file sound whole = record { no_shorter = omega arith; no_longer = omega (arith, sound.left.no_shorter, sound.left.no_longer); outside = λ k lt not. refl }
left_by_may New file sound whole = sound.left
left_by_may Zeros file sound whole = filled_may file 0 sound whole
left_by_may Ones file sound whole = filled_may file 1 sound whole
left_by_may Sevens file sound whole = filled_may file 7 sound whole
left_by_may FirstHalves file sound whole = record {
  no_shorter = omega (arith, length-half_written);
  no_longer = omega (arith, length-half_written, last_end-halves file.ranges, sound.inside, sound.left.no_shorter, sound.left.no_longer);
  outside = λ k lt not. get_or-by_place end each k (omega (arith, lt))
      ∙ if_false (covers (first_halves file.ranges) k) (get_or file.now k 0) (get_or file.sure k 0) (halves_cover_less file.ranges k not);
}
  where
    end : ℕ
    end = max (length file.sure) (last_end (first_halves file.ranges))

    each : ℕ → ℕ
    each k = if covers (first_halves file.ranges) k then get_or file.now k 0 else get_or file.sure k 0

    length-half_written : length (half_written file) ≡ end
    length-half_written = length-by_place end each
