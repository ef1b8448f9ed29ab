use Rattle.charmlet_recovery.proofs.Lists.{replayed-world, listed-world, scan-ends}
use Rattle.charmlet_recovery.proofs.Replies.{replies_are_last}
use Rattle.charmlet_recovery.proofs.laws.lists_give_records.Goals as goal

pub returns : goal.returns
returns c = record {
  records = λ w before history xs fit legal receivers. replayed-world w history xs fit legal.events legal.each_can receivers;
  lists = λ w before history scan x fit legal begin. listed-world w history scan x fit legal.events legal.each_can begin;
  scan = λ w before history scan fit legal begin. scan-ends w history scan fit legal.events legal.each_can begin;
  replies = replies_are_last;
}
