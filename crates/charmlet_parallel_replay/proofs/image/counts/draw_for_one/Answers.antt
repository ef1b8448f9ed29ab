use Rattle.std.proofs.Common.{◌≡◌, ◌+◌, ◌&&◌, Bool, not, ap, ◌∙◌, arith, OnOk}
use Rattle.charmlet_model.specs.declared.kind.Kind.{Kind}
use Rattle.charmlet_model.specs.declared.logged.Effect.TheVariants.{Constructed}
use Rattle.charmlet_model.specs.World.{record_at}
use Rattle.charmlet_recovery.specs.Bases.{is_skipped}
use Rattle.charmlet_recovery.specs.Blanks.{array_is, one_if}
use Rattle.charmlet_recovery.specs.Faults.{same_effect}
use Rattle.charmlet_stock.specs.Stock.{blanks_in}
use Rattle.charmlet_parallel_replay.proofs.ImageLemmas.Results.{each_then}
use Rattle.charmlet_parallel_replay.proofs.image.counts.draw_for_one.Goals as goal

pub returns-clause-own : goal.returns-clause-own
returns-clause-own g c = λ records are.
    let d = c.args.delivery.now in
    let kinds = c.args.manifest.now in
    let wanted : c.wants_blank-is_wanted.result ≡ (not (is_skipped (record_at records d.message.to) d) && same_effect d.effect Constructed) =
    c.wants_blank-is_wanted.ensures ∙ ap (λ b. b && same_effect d.effect Constructed) (c.in_ok-is_new.ensures.new records are) in
    each_then c.draw_if.result
    (λ (kind : Kind). blanks_in c.draw_if.new.restored.stock kind ≡ blanks_in c.args.restored.now.stock kind + one_if (c.wants_blank-is_wanted.result && array_is kinds kind d.message.to.array))
    (λ (kind : Kind). blanks_in c.draw_if.new.restored.stock kind ≡ blanks_in c.args.restored.now.stock kind
    + (one_if (not (is_skipped (record_at records d.message.to) d) && same_effect d.effect Constructed && array_is kinds kind d.message.to.array) + 0))
    (λ kind h. let same : one_if (c.wants_blank-is_wanted.result && array_is kinds kind d.message.to.array) ≡ one_if (not (is_skipped (record_at records d.message.to) d) && same_effect d.effect Constructed && array_is kinds kind d.message.to.array) =
    ap (λ b. one_if (b && array_is kinds kind d.message.to.array)) wanted in omega (arith, h, same)) c.draw_if.ensures.own

pub returns-clause-given : goal.returns-clause-given
returns-clause-given g c = λ records are.
    let d = c.args.delivery.now in
    let kinds = c.args.manifest.now in
    let wanted : c.wants_blank-is_wanted.result ≡ (not (is_skipped (record_at records d.message.to) d) && same_effect d.effect Constructed) =
    c.wants_blank-is_wanted.ensures ∙ ap (λ b. b && same_effect d.effect Constructed) (c.in_ok-is_new.ensures.new records are) in
    each_then c.draw_if.result
    (λ (kind : Kind). blanks_in c.draw_if.new.stock kind + one_if (c.wants_blank-is_wanted.result && array_is kinds kind d.message.to.array) ≡ blanks_in c.args.stock.now kind)
    (λ (kind : Kind). blanks_in c.draw_if.new.stock kind
    + (one_if (not (is_skipped (record_at records d.message.to) d) && same_effect d.effect Constructed && array_is kinds kind d.message.to.array) + 0) ≡ blanks_in c.args.stock.now kind)
    (λ kind h. let same : one_if (c.wants_blank-is_wanted.result && array_is kinds kind d.message.to.array) ≡ one_if (not (is_skipped (record_at records d.message.to) d) && same_effect d.effect Constructed && array_is kinds kind d.message.to.array) =
    ap (λ b. one_if (b && array_is kinds kind d.message.to.array)) wanted in omega (arith, h, same)) c.draw_if.ensures.given
