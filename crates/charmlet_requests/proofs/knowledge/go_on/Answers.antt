use Rattle.std.proofs.Common.{◌≡◌, ◌+◌, ◌-◌, suc, sym, ap, subst, ◌∙◌, arith}
use Rattle.charmlet_model.specs.declared.client.ClientRow.{ClientRow}
use Rattle.charmlet_model.specs.Row.{with_request}
use Rattle.charmlet_requests.specs.Knowing.{IsWindowed, gone_on}
use Rattle.charmlet_requests.proofs.Covering.{windowed-request}
use Rattle.charmlet_requests.proofs.knowledge.go_on.Goals as goal

pub loop-last-preserved : goal.loop-last-preserved
loop-last-preserved c =
    let row = c.loop-last.row in
    let last = c.loop-last.last in
    let kept = c.loop-last.invariant in
    let less = c.loop-last-test.true in
    let rest = c.args.number - (last + 1) in
    let more : c.args.number - last ≡ suc rest = omega arith in (
      ap (λ r. gone_on r rest) (c.accept.ensures ∙ ap (λ n. with_request row (n + 1)) (sym kept.1)) ∙ sym (ap (gone_on row) more) ∙ kept.0,
      ap (λ (r : ClientRow). r.last) c.accept.ensures,
      subst IsWindowed (sym c.accept.ensures) (windowed-request row (last + 1) (ap (λ n. n + 1) (sym kept.1)) kept.2),
    )
