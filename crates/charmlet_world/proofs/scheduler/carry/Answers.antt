use Rattle.std.proofs.Common.{◌<◌, ◌+◌, sym, subst, ◌∙◌, length, arith}
use Rattle.std.specs.Prelude.{IfSome, OnErr, Result, Ok, Err}
use Rattle.charmlet_ready_queue.specs.Index.Index.{HaveRoom, IsRoomy}
use Rattle.charmlet_ready_queue.proofs.IndexLemmas.Standing.{rooms_made}
use Rattle.charmlet_world.proofs.Ties.{some_seq_nos}
use Rattle.charmlet_world.proofs.Tying.{indexed_none}
use Rattle.charmlet_world.proofs.scheduler.carry.Goals as goal

pub returns-then-count-eq0-clause-ok : goal.returns-then-count-eq0-clause-ok
returns-then-count-eq0-clause-ok c = indexed_none c.args.to c.args.old c.args.new c.args.pending.now.seq_nos c.args.pending.now.messages c.args.index.now.lists (sym c.count_to-count.ensures ∙ c.if-count-eq0.true)

pub reserve_on-requires : goal.reserve_on-requires
reserve_on-requires c =
    let some = some_seq_nos c.args.to c.args.pending.now.seq_nos c.args.pending.now.messages (omega (arith, c.count_to-count.ensures, c.if-count-eq0.false)) in
    c.requires.new_on some

pub update_readiness-requires-clause-old_on : goal.update_readiness-requires-clause-old_on
update_readiness-requires-clause-old_on c =
    let some = some_seq_nos c.args.to c.args.pending.now.seq_nos c.args.pending.now.messages (omega (arith, c.count_to-count.ensures, c.if-count-eq0.false)) in
    subst (λ n. c.args.old.on < n) (sym c.in_ok-reserve_on.ensures.len) (c.requires.old_on some)

pub update_readiness-requires-clause-new_on : goal.update_readiness-requires-clause-new_on
update_readiness-requires-clause-new_on c =
    let some = some_seq_nos c.args.to c.args.pending.now.seq_nos c.args.pending.now.messages (omega (arith, c.count_to-count.ensures, c.if-count-eq0.false)) in
    subst (λ n. c.args.new.on < n) (sym c.in_ok-reserve_on.ensures.len) (c.requires.new_on some)

pub update_readiness-requires-clause-old_home : goal.update_readiness-requires-clause-old_home
update_readiness-requires-clause-old_home c =
    let some = some_seq_nos c.args.to c.args.pending.now.seq_nos c.args.pending.now.messages (omega (arith, c.count_to-count.ensures, c.if-count-eq0.false)) in
    subst (λ n. c.args.old.home < n) (sym c.in_ok-reserve_on.ensures.len) (c.requires.old_home some)

pub update_readiness-requires-clause-new_home : goal.update_readiness-requires-clause-new_home
update_readiness-requires-clause-new_home c =
    let some = some_seq_nos c.args.to c.args.pending.now.seq_nos c.args.pending.now.messages (omega (arith, c.count_to-count.ensures, c.if-count-eq0.false)) in
    subst (λ n. c.args.new.home < n) (sym c.in_ok-reserve_on.ensures.len) (subst (λ n. n < length c.args.index.now.lists) (sym c.requires.home) (c.requires.old_home some))

pub update_readiness-requires-clause-called : goal.update_readiness-requires-clause-called
update_readiness-requires-clause-called c =
    let h = c.requires.called in
    (h.0, h.1, h.2, c.in_ok-reserve_on.ensures.index c.args.pending.now.seq_nos h.0 h.3, h.4, h.5)

pub update_readiness-requires-clause-room : goal.update_readiness-requires-clause-room
update_readiness-requires-clause-room c =
    let lists = c.reserve_on.new.self.lists in
    let headroom = c.reserve_on.new.self.headroom in
    subst (λ n. HaveRoom headroom c.args.old c.args.new n lists) c.count_to-count.ensures
    (rooms_made headroom c.args.old c.args.new c.count_to-count.result lists (sym c.requires.home) (λ l at. subst (λ o. IfSome o (IsRoomy (headroom + c.count_to-count.result))) at c.in_ok-reserve_on.ensures.ok))

pub returns-clause-ok : goal.returns-clause-ok
returns-clause-ok c = λ place stands news are index climbs was now differs.
    c.update_readiness.ensures.index place stands news are (c.in_ok-reserve_on.ensures.index c.args.pending.now.seq_nos place index) climbs was now differs

on_err : {T E P : Type 0} (r : Result T E) → P → OnErr r P
on_err (Ok t) p = tt
on_err (Err e) p = p

pub returns-in_err-reserve_on-clause-err : goal.returns-in_err-reserve_on-clause-err
returns-in_err-reserve_on-clause-err c = on_err c.from_residual.result (λ place is. c.reserve_on.ensures.index c.args.pending.now.seq_nos place is)
