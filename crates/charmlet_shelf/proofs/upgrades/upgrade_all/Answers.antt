use Rattle.std.proofs.Common.{◌≡◌, ℕ, ◌+◌, ◌≤◌, suc, length, refl, sym, ap, subst, ◌∙◌, arith}
use Rattle.std.specs.Prelude.{Some}
use Rattle.indexmap.specs.IndexMap.{set_value_at}
use Rattle.indexmap.specs.Layout.{length-set_value_at}
use Rattle.charmlet_model.specs.declared.state.Record.{Record}
use Rattle.charmlet_model.specs.declared.state.Resident.{Resident}
use Rattle.charmlet_model.specs.Shelves.{record_in, records_of}
use Rattle.charmlet_model.specs.Upgrade.{up_record}
use Rattle.charmlet_shelf.proofs.Newest.{ups, ups_all, all_up, length_shown, one_up}
use Rattle.charmlet_shelf.proofs.upgrades.upgrade_all.Goals as goal

pub loop-index-init : goal.loop-index-init
loop-index-init g c = (refl, refl)

pub loop-index-preserved : goal.loop-index-preserved
loop-index-preserved g c =
    let state = g.C.Chare.state in
    let entries = c.loop-index.residents.entries in
    let at = c.loop-index.index in
    let rs = records_of state c.args.residents.now.entries in
    let old = c.pair_mut-resident.result.1.now in
    let new : Resident g.row.C.Denot = record { object = c.upgrade.new.self; sent = old.sent; received = old.received } in
    let upgraded = c.upgrade.ensures in
    let made : record_in state new ≡ up_record (record_in state old) = λ i. record { state = Some (upgraded i); sent = old.sent; received = old.received } in
    let next : suc at ≡ at + 1 = omega arith in (
      length-set_value_at entries at new ∙ c.loop-index.invariant.0,
      subst (λ (n : ℕ). records_of state (set_value_at entries at new) ≡ ups n rs) next
          (one_up state entries rs at c.pair_mut-resident.result.0.now old new c.loop-index.invariant.1 c.pair_mut-resident.ensures.value made),
    )

pub returns : goal.returns
returns g c =
    let state = g.C.Chare.state in
    let es = c.args.residents.now.entries in
    let rs = records_of state es in
    let whole : c.loop-index.index ≡ length rs = omega (arith, c.loop-index.auto.index-end, c.loop-index-test.false, c.len-index-end.ensures.len, length_shown state es) in
    all_up state es c.loop-index.residents.entries (c.loop-index.invariant.1 ∙ ap (λ (n : ℕ). ups n rs) whole ∙ ups_all rs)
