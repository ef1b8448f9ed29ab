use Rattle.std.proofs.Common.{◌≡◌, ◌-◌, suc, sym, ap, ◌∙◌, arith, drop}
use Rattle.std.specs.BTreeMap.{insert_entry}
use Rattle.std.specs.Ordering.{nat_cmp}
use Rattle.charmlet_world.specs.Seen.{present_rows}
use Rattle.charmlet_log_scan.specs.World.Clients.{risen_clients}
use Rattle.charmlet_log_scan.proofs.WorldLemmas.RisenClients.{one_more_present}
use Rattle.charmlet_log_scan.proofs.world.rows.present_of.Goals as goal

pub loop-place-preserved-in_ok-insert : goal.loop-place-preserved-in_ok-insert
loop-place-preserved-in_ok-insert c =
    let es = c.args.rows.now.entries in
    let step : c.loop-place.place ≡ suc (c.loop-place.place - 1) = omega (arith, c.loop-place-test.true) in
    let before = c.loop-place.invariant.so_far ∙ ap (λ k. present_rows (risen_clients (drop k es))) step in
    let row = c.in_ok-copy.ensures ∙ c.present.ensures in
    record {
      within = omega (arith, c.loop-place.invariant.within);
      so_far = c.in_ok-insert.ensures.entries
          ∙ (λ i. insert_entry nat_cmp (before i) c.in-Some.client.now (row i))
          ∙ sym (one_more_present es (c.loop-place.place - 1) c.in-Some.client.now c.in-Some.row.now (sym c.in-Some.ensures.entry));
    }

pub loop-place-preserved : goal.loop-place-preserved
loop-place-preserved c =
    let es = c.args.rows.now.entries in
    let step : c.loop-place.place ≡ suc (c.loop-place.place - 1) = omega (arith, c.loop-place-test.true) in
    let before = c.loop-place.invariant.so_far ∙ ap (λ k. present_rows (risen_clients (drop k es))) step in
    let row = c.in_ok-copy.ensures ∙ c.present.ensures in
    record {
      within = omega (arith, c.loop-place.invariant.within);
      so_far = c.in_ok-insert.ensures.entries
          ∙ (λ i. insert_entry nat_cmp (before i) c.in-Some.client.now (row i))
          ∙ sym (one_more_present es (c.loop-place.place - 1) c.in-Some.client.now c.in-Some.row.now (sym c.in-Some.ensures.entry));
    }
