use Rattle.std.proofs.Common.{◌≡◌, length}
use Rattle.charmlet_lab.proofs.same.is_same_list.Given as goal

-- the messages so far are the same, and as many are left of both
abbrev pub invariant-loop-message : goal.invariant-loop-message
invariant-loop-message l = record {
  so_far : l.message-iterator.a.rest.now ≡ l.message-iterator.b.rest.now → l.one ≡ l.other;
  left : l.one ≡ l.other → l.message-iterator.a.rest.now ≡ l.message-iterator.b.rest.now;
  as_many : length l.message-iterator.a.rest.now ≡ length l.message-iterator.b.rest.now;
}
