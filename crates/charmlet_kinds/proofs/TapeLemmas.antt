-- What a tape's fields hold.
use Rattle.std.proofs.Common.{ℕ, ◌≡◌, ◌≤◌, List, [], ◌∷◌, length, slice_index, suc, refl, arith}
use Rattle.std.specs.List.{AllByRecursion}
use Rattle.charmlet_pup.specs.Fields.{words_bytes}
use Rattle.charmlet_pup.proofs.ListLemmas.{length-words_bytes}
use Rattle.charmlet_model.specs.Packed.{IsWord, IsState}
use Rattle.charmlet_kinds.specs.declared.tape.Tape.{Tape}
use Rattle.charmlet_kinds.specs.Tape.{state_of}
use Rattle.charmlet_kinds.proofs.States.{same_state}

-- 64-bit numbers, place by place
all_words : (ws : List ℕ) → ((at : ℕ) → IsWord (slice_index ws at)) → AllByRecursion IsWord ws
all_words [] fits = tt
all_words (w ∷ ws) fits = (fits 0, all_words ws (λ at. fits (suc at)))

pub is_state : (t : Tape) → IsState (state_of t)
is_state t =
    let few : length t.items.items ≤ 64 = omega (arith, t.within, t.items.ok.0) in
    (few, all_words t.items.items t.words)

pub same_tape : (s t : Tape) → words_bytes s.items.items ≡ words_bytes t.items.items → state_of s ≡ state_of t
same_tape s t e = same_state (state_of s) (state_of t) (is_state s) (is_state t) refl e

-- what the proofs of `size` and `pack` stand on
pub ruleset tapes = (same_tape, length-words_bytes)
