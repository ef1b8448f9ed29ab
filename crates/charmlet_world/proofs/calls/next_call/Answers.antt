use Rattle.std.proofs.Common.{◌≡◌, ℕ, ◌-◌, ◌<◌, suc, List, sym, ap, subst, ◌∙◌, arith, length, take, slice_get}
use Rattle.std.specs.Prelude.{Option, option_and_then}
use Rattle.charmlet_model.specs.declared.names.Elem.{Elem}
use Rattle.charmlet_model.specs.declared.names.MsgId.{MsgId}
use Rattle.charmlet_ready_queue.specs.declared.index.chain.Call.{Call}
use Rattle.charmlet_world.specs.declared.envelope.Envelope.{Envelope}
use Rattle.charmlet_world.specs.Envelopes.{call_of, calls_in}
use Rattle.charmlet_world.proofs.Enveloped.{calls_step, first_call}
use Rattle.charmlet_world.proofs.calls.next_call.Goals as goal

-- the last envelope before a place has this call, or none
stepped : (x : Elem) (es : List (MsgId × Envelope)) (n : ℕ) (r : Option Call) → 0 < n → r ≡ option_and_then (λ (e : MsgId × Envelope). call_of x e.1.seq e.1.pending_message) (slice_get es (n - 1)) → calls_in x (take n es) ≡ first_call r (calls_in x (take (n - 1) es))
stepped x es n r some is =
    let next : suc (n - 1) ≡ n = omega (arith, some) in
    subst (λ m. calls_in x (take m es) ≡ first_call r (calls_in x (take (n - 1) es))) next
    (calls_step x es (n - 1) ∙ ap (λ o. first_call o (calls_in x (take (n - 1) es))) (sym is))

pub overflow_sub-count : goal.overflow_sub-count
overflow_sub-count c =
    let es = c.args.envelopes.now.entries in
    let step = stepped c.args.to es c.loop-end.end c.call_at.result c.loop-end-test.true c.call_at.ensures ∙ ap (λ r. first_call r (calls_in c.args.to (take (c.loop-end.end - 1) es))) c.in-Some.is in
    let len = ap length (sym c.loop-end.invariant.same ∙ step) in
    omega (arith, len, c.requires, c.loop-end.invariant.count)

pub returns-in-Some-clause-count : goal.returns-in-Some-clause-count
returns-in-Some-clause-count c =
    let es = c.args.envelopes.now.entries in
    let step = stepped c.args.to es c.loop-end.end c.call_at.result c.loop-end-test.true c.call_at.ensures ∙ ap (λ r. first_call r (calls_in c.args.to (take (c.loop-end.end - 1) es))) c.in-Some.is in
    let len = ap length (sym c.loop-end.invariant.same ∙ step) in
    omega (arith, len, c.requires, c.loop-end.invariant.count)

pub returns-in-Some-clause-next : goal.returns-in-Some-clause-next
returns-in-Some-clause-next c =
    let es = c.args.envelopes.now.entries in
    let step = stepped c.args.to es c.loop-end.end c.call_at.result c.loop-end-test.true c.call_at.ensures ∙ ap (λ r. first_call r (calls_in c.args.to (take (c.loop-end.end - 1) es))) c.in-Some.is in
    sym c.loop-end.invariant.same ∙ step

pub loop-end-preserved : goal.loop-end-preserved
loop-end-preserved c =
    let es = c.args.envelopes.now.entries in
    let step = stepped c.args.to es c.loop-end.end c.call_at.result c.loop-end-test.true c.call_at.ensures ∙ ap (λ r. first_call r (calls_in c.args.to (take (c.loop-end.end - 1) es))) c.in_default.is in
    record { same = sym step ∙ c.loop-end.invariant.same; count = c.loop-end.invariant.count }
