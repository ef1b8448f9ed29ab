use Rattle.std.proofs.Common.{◌≡◌, ◌-◌, ◌≤◌, ◌∷◌, replicate}
use Rattle.charmlet_locks.proofs.room.vacant_words.Given as goal

abbrev pub invariant-loop-words : goal.invariant-loop-words
invariant-loop-words l = record {
  items : l.words.items ≡ 0 ∷ replicate (l.words.len - 1) 1;
  some : 1 ≤ l.words.len;
  within : l.words.len ≤ l.len;
  room : l.len ≤ l.words.cap;
}

abbrev pub decreases-loop-words : goal.decreases-loop-words
decreases-loop-words l = l.len - l.words.len
