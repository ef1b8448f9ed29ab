-- Sequence numbers that climb, in a table.
use Rattle.std.proofs.Common.{◌≡◌, ℕ, ◌+◌, ◌<◌, ◌≤◌, suc, false, List, [], ◌∷◌, length, take, drop, refl, ap, subst, arith, slice_get, add-one}
use Rattle.std.specs.Prelude.{Some, ◌==◌}
use Rattle.std.specs.Map.{values_of}
use Rattle.charmlet_model.specs.declared.names.MsgId.{MsgId}
use Rattle.charmlet_ready_queue.specs.SeqNos.SeqNos.{AllAfter, AllBefore, Climbs}
use Rattle.charmlet_ready_queue.proofs.SeqNosLemmas.Rising.{all_weaker, from_one}
use Rattle.charmlet_ready_queue.specs.Index.Index.{holds}
use Rattle.charmlet_ready_queue.proofs.IndexLemmas.Numbers.{none_after}
use Rattle.charmlet_world.specs.declared.envelope.Envelope.{Envelope}
use Rattle.charmlet_world.specs.Waiting.{seqs}

pub length_seqs : (es : List (MsgId × Envelope)) → length (seqs es) ≡ length es
length_seqs [] = refl
length_seqs (e ∷ es) = ap suc (length_seqs es)

pub seq_there : (es : List (MsgId × Envelope)) (i : ℕ) (s : Envelope) → slice_get (values_of es) i ≡ Some s → slice_get (seqs es) i ≡ Some s.seq
seq_there [] i s is = cc
seq_there (e ∷ es) Prim.Native.Nat.zero s is = let same : e.1 ≡ s = cc in ap (λ (t : Envelope). Some t.seq) same
seq_there (e ∷ es) (suc i) s is = seq_there es i s is

-- those from one on that is after a number are after it
pub after_one : (xs : List ℕ) (i m n : ℕ) → Climbs xs → slice_get xs i ≡ Some m → n < m → AllAfter n (drop i xs)
after_one xs i m n c is lt = all_weaker (λ k. n + 1 ≤ k) (λ k. n < k) (λ k le. omega (arith, le)) (drop i xs) (from_one xs i m (n + 1) c is (omega (arith, lt)))

none_either : (xs : List ℕ) (p n : ℕ) → AllBefore n (take p xs) → AllAfter n (drop p xs) → holds n xs ≡ false
none_either xs Prim.Native.Nat.zero n b a = none_after n xs a
none_either [] (suc p) n b a = refl
none_either (x ∷ xs) (suc p) n b a = rw (unlike x n b.0) (none_either xs p n b.1 a)
  where
    unlike : (x n : ℕ) → x < n → (x == n) ≡ false
    unlike x n h = grind arith

-- a number between two places that are one is nowhere
pub nowhere : (xs : List ℕ) (low high n : ℕ) → low ≤ high → high ≤ low → AllBefore n (take low xs) → AllAfter n (drop high xs) → holds n xs ≡ false
nowhere xs low high n le ge b a = let same : high ≡ low = omega (arith, le, ge) in none_either xs low n b (subst (λ p. AllAfter n (drop p xs)) same a)

pub nothing_after : (xs : List ℕ) (p n : ℕ) → length xs ≤ p → AllAfter n (drop p xs)
nothing_after [] Prim.Native.Nat.zero n h = tt
nothing_after [] (suc p) n h = tt
nothing_after (x ∷ xs) Prim.Native.Nat.zero n h = grind arith
nothing_after (x ∷ xs) (suc p) n h = nothing_after xs p n (omega (arith, h))

-- and those behind a number are after it
pub after_this : (xs : List ℕ) (i n : ℕ) → Climbs xs → slice_get xs i ≡ Some n → AllAfter n (drop (i + 1) xs)
after_this xs i n c is = rw add-one (behind xs i n c is)
  where
    behind : (xs : List ℕ) (i n : ℕ) → Climbs xs → slice_get xs i ≡ Some n → AllAfter n (drop (suc i) xs)
    behind [] i n c is = cc
    behind (x ∷ xs) Prim.Native.Nat.zero n c is = let same : x ≡ n = cc in subst (λ k. AllAfter k xs) same c.0
    behind (x ∷ xs) (suc i) n c is = behind xs i n c.1 is
