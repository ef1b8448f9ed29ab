-- Halves are read as they are spelled, and were spelled so.
use Rattle.std.proofs.Common.{◌≡◌, ◌≢◌, ℕ, ◌+◌, ◌<◌, ◌≤◌, Bool, true, false, cond, eqb, leb, List, [], ◌∷◌, ◌++◌, length, drop, Result, Ok, Err, refl, sym, ap, subst, ◌∙◌, append_assoc, length-append, arith}
use Rattle.std.proofs.lemmas.Bool.{le-leb, lt-leb, eqb-true, eq-eqb, ne_eqb}
use Rattle.charmlet_pup.specs.Fields.{number_bytes}
use Rattle.charmlet_pup.specs.ReadsBack.{length-number_bytes}
use Rattle.charmlet_record.specs.Reading.{then_read, ◌>>=◌, yield, exactly, read_log}
use Rattle.std.specs.List.{flat_map, AllByRecursion}
use Rattle.std.proofs.lemmas.List.{append-nil}
use Rattle.std.proofs.lemmas.List.Concat.{flat_map-append}
use Rattle.charmlet_model.specs.declared.half.Half.TheVariants.{Zero, One}
use Rattle.charmlet_model.specs.declared.logged.Logged.{Logged}
use Rattle.charmlet_model.specs.Spelling.{spell_batch, spell_open, spell_log}
use Rattle.charmlet_record.specs.Written.{IsBatch}
use Rattle.charmlet_record.specs.Lawful.{IsBytes}
use Rattle.charmlet_record.proofs.Formats.{go_ok, ok_parts, exactly-lawful, IsBytes-drop, IsBytes-after}
use Rattle.charmlet_record.proofs.Records.{logs_are_read, logs_end, read_logs_were_spelled}
use Rattle.charmlet_image.specs.declared.header.Header.{Header}
use Rattle.charmlet_image.specs.Images.{Saved, spell_image, spell_header, spell_half}
use Rattle.charmlet_image.specs.Reading.{read_image, read_header}
use Rattle.charmlet_image.specs.Written.{IsHeader}
use Rattle.charmlet_image.specs.Halves.{Top, Shut, Begun, Broken, Open, begun, top, read_body, read_saved, named, found_from, found, IsSaved, HalvesAreRead, HalvesAreOne, ReadHalvesWereSpelled, taken_half, choice, taken, LaterHalvesAreTaken, with_batch, BatchesAreAppended}
use Rattle.charmlet_image.proofs.ImageLemmas.{image-lawful, header-lawful}

-- ---- the image and the batches

body_again : (s : Saved) (closing rest : List ℕ) → IsSaved s → read_log s.image.manifest (spell_log s.batches ++ closing) ≡ Ok (s.batches, rest) →
    read_saved s.header (spell_image s.header.mark s.image ++ (spell_log s.batches ++ closing)) ≡ Ok (s, rest)
unfolding read_saved read_body then_read
body_again s closing rest is log =
    let after = spell_log s.batches ++ closing in
    let room : leb s.header.size (length (spell_image s.header.mark s.image ++ after)) ≡ true =
    le-leb _ _ (omega (arith, is.size, length-append (spell_image s.header.mark s.image) after)) in
    rw (room, (exactly-lawful (image-lawful s.header.mark) s.header.size).read_back s.image after (is.image, is.size), log) refl

abbrev Follows : Header → List ℕ → Saved × List ℕ → Type 0
Follows h bytes x =
    (x.0.header ≡ h) × (gate : ℕ) × (gate < 256) × (gate ≢ 1) × (bytes ≡ spell_image x.0.header.mark x.0.image ++ (spell_log x.0.batches ++ (number_bytes 1 gate ++ x.1))) × (IsHeader h → IsSaved x.0)

body_taken : (h : Header) (bytes : List ℕ) (x : Saved × List ℕ) → IsBytes bytes → read_saved h bytes ≡ Ok x → Follows h bytes x
unfolding read_saved read_body then_read
body_taken h bytes x fits e =
    let read = given (leb h.size (length bytes)) (read_body h bytes) x (length bytes + 4) e in
    let a = go_ok (exactly h.size (read_image h.mark) bytes) (λ image. read_log image.manifest >>= λ batches. yield (record { header = h; image = image; batches = batches })) x read in
    let image = (exactly-lawful (image-lawful h.mark) h.size).spelled_so bytes a.0 fits a.1 in
    let b = go_ok (read_log a.0.0.manifest a.0.1) (λ batches. yield (record { header = h; image = a.0.0; batches = batches })) x a.2 in
    let log = read_logs_were_spelled a.0.0.manifest a.0.1 b.0 (IsBytes-after bytes (spell_image h.mark a.0.0) a.0.1 image.0 fits) b.1 in
    let made : Saved × List ℕ = (record { header = h; image = a.0.0; batches = b.0.0 }, b.0.1) in
    let is : made ≡ x = same made x b.2 in
    subst (Follows h bytes) is
    (refl, log.0, log.1, log.2, image.0 ∙ ap (λ (t : List ℕ). spell_image h.mark a.0.0 ++ t) log.3, λ is_h. record { header = is_h; image = image.1.0; size = image.1.1; batches = log.4 })
  where
    given : (b : Bool) (r : Result (Saved × List ℕ) ℕ) (x : Saved × List ℕ) (left : ℕ) → cond b r (Err left) ≡ Ok x → r ≡ Ok x
    given true r x left e = e
    given false r x left e = absurd cc

    same : (made x : Saved × List ℕ) → (let r : Result (Saved × List ℕ) ℕ = Ok made in r) ≡ Ok x → made ≡ x
    same made x e = cc

-- ---- halves

top_again : (h : Header) (rest : List ℕ) → IsHeader h → 1 ≤ length rest → top (1 ∷ (spell_header h ++ rest)) ≡ Begun h rest
top_again h rest is some =
    let long : leb (length (1 ∷ (spell_header h ++ rest))) 1 ≡ false = lt-leb _ _ (omega (arith, length-append (spell_header h) rest)) in
    rw (long, header-lawful.read_back h rest is) refl

-- a half is found where its log ends
half_again : (s : Saved) (closing rest : List ℕ) → IsSaved s → 1 ≤ length closing → read_log s.image.manifest (spell_log s.batches ++ closing) ≡ Ok (s.batches, rest) →
    found (spell_half s ++ closing) ≡ Open s
unfolding spell_half
half_again s closing rest is some log =
    let image = spell_image s.header.mark s.image in
    let after = image ++ (spell_log s.batches ++ closing) in
    let long : 1 ≤ length after = omega (arith, some, length-append image (spell_log s.batches ++ closing), length-append (spell_log s.batches) closing) in
    let regrouped : (1 ∷ (spell_header s.header ++ (image ++ spell_log s.batches))) ++ closing ≡ 1 ∷ (spell_header s.header ++ after) = ap (λ (t : List ℕ). 1 ∷ t) (simp append_assoc) in
    ap found regrouped
    ∙ ap (found_from (length (1 ∷ (spell_header s.header ++ after)))) (top_again s.header after is.header long)
    ∙ ap (named (length (1 ∷ (spell_header s.header ++ after)))) (body_again s closing rest is log)

pub halves_are_read : HalvesAreRead
halves_are_read = λ s gate rest is lt closed.
    half_again s (number_bytes 1 gate ++ rest) rest is (omega (arith, length-append (number_bytes 1 gate) rest, length-number_bytes 1 gate)) (logs_are_read s.image.manifest s.batches gate rest is.batches lt closed)

-- the same before any first item that isn't an open gate
pub halves_end : (s : Saved) (gate : ℕ) (rest : List ℕ) → IsSaved s → gate ≢ 1 → found (spell_half s ++ (gate ∷ rest)) ≡ Open s
halves_end s gate rest is closed = half_again s (gate ∷ rest) rest is (omega arith) (logs_end s.image.manifest s.batches gate rest is.batches closed)

named_open : (size : ℕ) (r : Result (Saved × List ℕ) ℕ) (s : Saved) → named size r ≡ Open s → (left : List ℕ) × (r ≡ Ok (s, left))
named_open size (Ok x) s e = (x.1, let same : x.0 ≡ s = cc in ap (λ (y : Saved). Ok (y, x.1)) same)
named_open size (Err left) s e = absurd cc

from_open : (size : ℕ) (t : Top) (s : Saved) → found_from size t ≡ Open s → (h : Header) × (bytes : List ℕ) × (left : List ℕ) × (t ≡ Begun h bytes) × (read_saved h bytes ≡ Ok (s, left))
from_open size Shut s e = absurd cc
from_open size (Begun h bytes) s e = let n = named_open size (read_saved h bytes) s e in (h, bytes, n.0, refl, n.1)
from_open size (Broken offset) s e = absurd cc

begun_is : (size : ℕ) (r : Result (Header × List ℕ) ℕ) (h : Header) (bytes : List ℕ) → begun size r ≡ Begun h bytes → r ≡ Ok (h, bytes)
begun_is size (Ok x) h bytes e = let a : x.0 ≡ h = cc in let b : x.1 ≡ bytes = cc in λ i. Ok (a i, b i)
begun_is size (Err left) h bytes e = absurd cc

top_is : (bytes : List ℕ) (h : Header) (rest : List ℕ) → top bytes ≡ Begun h rest → (bytes ≡ 1 ∷ drop 1 bytes) × (read_header (drop 1 bytes) ≡ Ok (h, rest))
top_is [] h rest e = absurd cc
top_is (x ∷ xs) h rest e = by (leb (length (x ∷ xs)) 1) (eqb x 1) refl e
  where
    by : (b c : Bool) → eqb x 1 ≡ c → cond b Shut (cond c (begun (length (x ∷ xs)) (read_header xs)) Shut) ≡ Begun h rest → ((x ∷ xs) ≡ 1 ∷ xs) × (read_header xs ≡ Ok (h, rest))
    by true c is e = absurd cc
    by false true is e = (ap (λ (n : ℕ). n ∷ xs) (eqb-true _ _ is), begun_is (length (x ∷ xs)) (read_header xs) h rest e)
    by false false is e = absurd cc

pub read_halves_were_spelled : ReadHalvesWereSpelled
unfolding spell_half
read_halves_were_spelled = λ bytes s fits e.
    let t = from_open (length bytes) (top bytes) s e in
    let begins = top_is bytes t.0 t.1 t.3 in
    let fits_rest = IsBytes-drop 1 bytes fits in
    let header = header-lawful.spelled_so (drop 1 bytes) (t.0, t.1) fits_rest begins.1 in
    let body = body_taken t.0 t.1 (s, t.2) (IsBytes-after (drop 1 bytes) (spell_header t.0) t.1 header.0 fits_rest) t.4 in
    let image = spell_image s.header.mark s.image in
    let closing = number_bytes 1 body.1 ++ t.2 in
    let whole : bytes ≡ (1 ∷ (spell_header s.header ++ (image ++ spell_log s.batches))) ++ closing =
    begins.0 ∙ ap (λ (text : List ℕ). 1 ∷ text) (header.0 ∙ ap (λ (h : Header). spell_header h ++ t.1) (sym body.0) ∙ ap (λ (text : List ℕ). spell_header s.header ++ text) body.4 ∙ sym (simp append_assoc)) in
    (body.1, body.2, body.3, t.2, whole, body.5 header.1)

pub halves_are_one : HalvesAreOne
halves_are_one = λ s t gate other rest more is_s is_t lt closed lt_other closed_other e.
    let same : Open s ≡ Open t = sym (halves_are_read s gate rest is_s lt closed) ∙ ap found e ∙ halves_are_read t other more is_t lt_other closed_other in
    cc

-- ---- two halves

store_header : (h : Header) (bytes : List ℕ) (x : Saved × List ℕ) → read_saved h bytes ≡ Ok x → x.0.header ≡ h
unfolding read_saved read_body then_read
store_header h bytes x e =
    let read = given (leb h.size (length bytes)) (read_body h bytes) x (length bytes + 4) e in
    let a = go_ok (exactly h.size (read_image h.mark) bytes) (λ image. read_log image.manifest >>= λ batches. yield (record { header = h; image = image; batches = batches })) x read in
    let b = go_ok (read_log a.0.0.manifest a.0.1) (λ batches. yield (record { header = h; image = a.0.0; batches = batches })) x a.2 in
    ap (λ (s : Saved). s.header) (sym (ok_parts (record { header = h; image = a.0.0; batches = b.0.0 }) b.0.1 x b.2).0)
  where
    given : (b : Bool) (r : Result (Saved × List ℕ) ℕ) (x : Saved × List ℕ) (left : ℕ) → cond b r (Err left) ≡ Ok x → r ≡ Ok x
    given true r x left e = e
    given false r x left e = absurd cc

-- an open found begins with its header
pub record Opens (bytes : List ℕ) (s : Saved) : Type 0 where
  pub rest : List ℕ
  pub begins : top bytes ≡ Begun s.header rest
  pub read : found_from (length bytes) (Begun s.header rest) ≡ Open s

pub opens : (bytes : List ℕ) (s : Saved) → found bytes ≡ Open s → Opens bytes s
opens bytes s e =
    let t = from_open (length bytes) (top bytes) s e in
    let same = store_header t.0 t.1 (s, t.2) t.4 in
    let begins : top bytes ≡ Begun s.header t.1 = t.3 ∙ ap (λ (h : Header). Begun h t.1) (sym same) in
    record { rest = t.1; begins = begins; read = ap (found_from (length bytes)) (sym begins) ∙ e }

-- What an open half is read from, part by part.
pub record OpenParts (bytes : List ℕ) (s : Saved) : Type 0 where
  pub body : List ℕ
  pub after : List ℕ
  pub gate : bytes ≡ 1 ∷ drop 1 bytes
  pub header : read_header (drop 1 bytes) ≡ Ok (s.header, body)
  pub saved : read_saved s.header body ≡ Ok (s, after)

pub open_parts : (bytes : List ℕ) (s : Saved) → found bytes ≡ Open s → OpenParts bytes s
open_parts bytes s e =
    let o = opens bytes s e in
    let begins = top_is bytes s.header o.rest o.begins in
    let read = named_open (length bytes) (read_saved s.header o.rest) s o.read in
    record { body = o.rest; after = read.0; gate = begins.0; header = begins.1; saved = read.1 }

pub later_halves_are_taken : LaterHalvesAreTaken
later_halves_are_taken = λ first second s t open_s open_t.
    let a = opens first s open_s in
    let b = opens second t open_t in
    let start : taken first second ≡ choice (length first) (Begun s.header a.rest) (length second) (Begun t.header b.rest) = λ i. choice (length first) (a.begins i) (length second) (b.begins i) in (
      λ next. let is : eqb t.header.generation (s.header.generation + 1) ≡ true = eq-eqb _ _ next in
          start ∙ rw is (ap (taken_half One) b.read),
      λ next. let no : eqb t.header.generation (s.header.generation + 1) ≡ false = ne_eqb _ _ (λ e. absurd (omega (arith, e, next))) in
          let is : eqb s.header.generation (t.header.generation + 1) ≡ true = eq-eqb _ _ next in
          start ∙ rw (no, is) (ap (taken_half Zero) a.read),
    )

-- ---- one more batch

all_more : {X : Type 0} (P : X → Type 0) (xs : List X) (x : X) → AllByRecursion P xs → P x → AllByRecursion P (xs ++ x ∷ [])
all_more P [] x all here = (here, tt)
all_more P (y ∷ ys) x all here = (all.0, all_more P ys x all.1 here)

log_more : (batches : List (List Logged)) (events : List Logged) → spell_log (batches ++ events ∷ []) ≡ spell_log batches ++ (number_bytes 1 1 ++ spell_batch events)
unfolding spell_log
log_more batches events = flat_map-append spell_open batches (events ∷ []) ∙ ap (λ (t : List ℕ). flat_map spell_open batches ++ t) (append-nil (spell_open events))

pub batches_are_appended : BatchesAreAppended
unfolding spell_half
batches_are_appended = λ s events gate rest is batch lt closed.
    let closing = number_bytes 1 gate ++ rest in
    let header = spell_header s.header in
    let image = spell_image s.header.mark s.image in
    let log = spell_log s.batches in
    let one = number_bytes 1 1 in
    let more = with_batch s events in
    let is_more : IsSaved more = record { header = is.header; image = is.image; size = is.size; batches = all_more (IsBatch s.image.manifest) s.batches events is.batches batch } in
    let regrouped : (1 ∷ (header ++ (image ++ log))) ++ (one ++ (spell_batch events ++ closing)) ≡ (1 ∷ (header ++ (image ++ (log ++ (one ++ spell_batch events))))) ++ closing = ap (λ (t : List ℕ). 1 ∷ t) (simp append_assoc) in
    ap found (regrouped ∙ ap (λ (t : List ℕ). (1 ∷ (header ++ (image ++ t))) ++ closing) (sym (log_more s.batches events)))
    ∙ halves_are_read more gate rest is_more lt closed
