use Rattle.std.proofs.Common.{◌≡◌, suc, ◌+◌, ◌∷◌, Bool, true, false, List, length, cond, refl, sym, ap, ◌∙◌, arith}
use Rattle.std.specs.Prelude.{count_by}
use Rattle.std.proofs.lemmas.List.Sums.{sum_by-cons}
use Rattle.charmlet_model.specs.declared.message.Message.{Message}
use Rattle.charmlet_model.specs.Core.{blank_for}
use Rattle.charmlet_history.specs.Kept.{core_in}
use Rattle.charmlet_history.specs.Wanting.{is_of_kind}
use Rattle.charmlet_history.proofs.history.History.wanted_blanks.Goals as goal

-- a first message counts as 1, or doesn't
counts_first : (f : Message → Bool) (all rest : List Message) (m : Message) (b : Bool) → all ≡ m ∷ rest → f m ≡ b → count_by f all ≡ cond b 1 0 + count_by f rest
counts_first f all rest m b split is = ap (count_by f) split ∙ sum_by-cons (λ (x : Message). cond (f x) 1 0) m rest ∙ ap (λ (b : Bool). cond b 1 0 + count_by f rest) is

pub loop-id-preserved-then-takes_blank : goal.loop-id-preserved-then-takes_blank
loop-id-preserved-then-takes_blank c =
    let pending_message = c.in-Some.pending_message.now in
    let m : Message = record { id = c.in-Some._id; to = pending_message.to; entry = pending_message.entry; words = pending_message.words } in
    let f = λ (m : Message). is_of_kind (blank_for (core_in c.args.self.now) m) c.args.kind in
    let all = c.loop-id._id-iterator in
    let rest = c.next.new.self in
    let split : all ≡ m ∷ rest = c.in-Some.ensures.steps in
    let takes : f m ≡ true = sym (c.takes_blank.ensures m refl refl) ∙ c.if-takes_blank.true in
    let counts : count_by f all ≡ 1 + count_by f rest = counts_first f all rest m true split takes in
    let shorter : length all ≡ suc (length rest) = ap length split in
    let so_far = c.loop-id.invariant.so_far in
    let room = c.loop-id.invariant.room in
    record { can_next = tt; is_finite = tt; so_far = omega arith; room = omega arith }

pub loop-id-preserved : goal.loop-id-preserved
loop-id-preserved c =
    let pending_message = c.in-Some.pending_message.now in
    let m : Message = record { id = c.in-Some._id; to = pending_message.to; entry = pending_message.entry; words = pending_message.words } in
    let f = λ (m : Message). is_of_kind (blank_for (core_in c.args.self.now) m) c.args.kind in
    let all = c.loop-id._id-iterator in
    let rest = c.next.new.self in
    let split : all ≡ m ∷ rest = c.in-Some.ensures.steps in
    let takes : f m ≡ false = sym (c.takes_blank.ensures m refl refl) ∙ c.if-takes_blank.false in
    let counts : count_by f all ≡ 0 + count_by f rest = counts_first f all rest m false split takes in
    let shorter : length all ≡ suc (length rest) = ap length split in
    let so_far = c.loop-id.invariant.so_far in
    let room = c.loop-id.invariant.room in
    record { can_next = tt; is_finite = tt; so_far = omega arith; room = omega arith }
