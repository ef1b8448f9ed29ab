-- Reading items one after the other, each by those before it, as a loop does.
use Rattle.std.proofs.Common.{◌≡◌, ℕ, suc, ◌-◌, ◌+◌, ◌≤◌, ◌<◌, List, [], ◌∷◌, ◌++◌, Result, Ok, Err, refl, sym, ◌∙◌, arith}
use Rattle.charmlet_record.specs.declared.reader.ReadError.{ReadError}
use Rattle.charmlet_record.specs.declared.reader.ReadError.TheVariants.{Memory, Damaged}
use Rattle.charmlet_record.specs.Reading.{Reads, then_read}
use Rattle.charmlet_record.specs.Gives.{Stops}
use Rattle.charmlet_image.specs.After.{read_after}

pub after_on : {X : Type 0} (read : List X → Reads X) (before : List X) (count i : ℕ) (bytes : List ℕ) (x : X) (rest : List ℕ) (total : Result (List X × List ℕ) ℕ) →
    i < count → read before bytes ≡ Ok (x, rest) → read_after read (count - i) before bytes ≡ total →
    read_after read (count - (i + 1)) (before ++ x ∷ []) rest ≡ total
unfolding read_after then_read
after_on read before count i bytes x rest total lt h so_far =
    let k : count - i ≡ suc (count - (i + 1)) = omega arith in
    let one : read_after read (count - i) before bytes ≡ read_after read (count - (i + 1)) (before ++ x ∷ []) rest = rw (k, h) refl in
    sym one ∙ so_far

pub after_ends : {X : Type 0} (e : ReadError) (read : List X → Reads X) (before : List X) (count i : ℕ) (bytes : List ℕ) (total : Result (List X × List ℕ) ℕ) →
    i < count → Stops e (read before bytes) → read_after read (count - i) before bytes ≡ total → Stops e total
unfolding read_after then_read
after_ends Memory read before count i bytes total lt h so_far = tt
after_ends (Damaged fault) read before count i bytes total lt h so_far =
    let k : count - i ≡ suc (count - (i + 1)) = omega arith in
    let one : read_after read (count - i) before bytes ≡ Err fault.bytes_left = rw (k, h) refl in
    sym so_far ∙ one

pub after_done : {X : Type 0} (read : List X → Reads X) (before : List X) (count i : ℕ) (bytes : List ℕ) (total : Result (List X × List ℕ) ℕ) →
    count ≤ i → read_after read (count - i) before bytes ≡ total → total ≡ Ok (before, bytes)
unfolding read_after then_read
after_done read before count i bytes total le so_far =
    let k : count - i ≡ 0 = omega arith in
    let one : read_after read (count - i) before bytes ≡ Ok (before, bytes) = rw k refl in
    sym so_far ∙ one
