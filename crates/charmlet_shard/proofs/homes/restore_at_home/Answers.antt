use Rattle.std.proofs.Common.{◌≡◌, sym, ap, subst, ◌∙◌}
use Rattle.std.specs.Prelude.{Option, None, Some, option_map, is_some, if◌then◌else◌}
use Rattle.std.specs.BTreeMap.{insert_entry}
use Rattle.charmlet_model.specs.declared.state.Record.{Record}
use Rattle.charmlet_model.specs.declared.state.State.{State}
use Rattle.charmlet_model.specs.Core.{home}
use Rattle.charmlet_history.specs.Opened.{opened_element}
use Rattle.charmlet_model.specs.Names.{elem_cmp}
use Rattle.charmlet_model.specs.Unpacked.{state_at}
use Rattle.charmlet_shard.specs.Home.{AreHome}
use Rattle.charmlet_shard.specs.Receiving.{entry_record}
use Rattle.charmlet_shard.proofs.AtHome.{kept_absent}
use Rattle.charmlet_shard.proofs.homes.restore_at_home.Goals as goal

pub returns-in_default-clause-ok : goal.returns-in_default-clause-ok
returns-in_default-clause-ok g c = λ records are unknown.
    let e = c.args.entry.now in
    let none : (entry_record c.args.kind_version e).state ≡ None = ap (option_map (λ packed. state_at c.args.kind_version packed.now)) c.in_default.is in (
      ap (λ (o : Option State). record { place = if is_some o then Some (home e.element c.args.processors) else None; sent = e.sent; received = e.received }) (sym none),
      kept_absent c.args.processors records c.args.shelves.now are e.element (entry_record c.args.kind_version e) unknown none,
    )

pub returns-clause-ok : goal.returns-clause-ok
returns-clause-ok g c = λ records are unknown.
    let e = c.args.entry.now in
    let some : (entry_record c.args.kind_version e).state ≡ Some (state_at c.args.kind_version c.in-Some.packed.now) = ap (option_map (λ packed. state_at c.args.kind_version packed.now)) c.in-Some.is in
    let made : Record = record { state = Some (state_at c.args.kind_version c.in-Some.packed.now); sent = e.sent; received = e.received } in
    let same : made ≡ entry_record c.args.kind_version e = λ i. record { state = sym some i; sent = e.sent; received = e.received } in (
      ap (λ h. record { place = Some h; sent = e.sent; received = e.received }) c.home_on.ensures.home ∙ ap (opened_element c.args.processors e.element) same,
      subst (λ r. AreHome c.args.processors (insert_entry elem_cmp records e.element r) c.place_at_home.new.shelves) same (c.in_ok-place_at_home.ensures.ok records are),
    )
