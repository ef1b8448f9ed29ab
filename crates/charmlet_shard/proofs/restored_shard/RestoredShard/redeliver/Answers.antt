use Rattle.std.proofs.Common.{rules, ◌≡◌, ◌+◌, ◌<◌, ◌≤◌, true, false, length, refl, sym, ap, subst, ◌∙◌, arith}
use Rattle.std.specs.Prelude.{Err, Some, None, is_some, option_and_then}
use Rattle.std.specs.BTreeMap.{insert_entry}
use Rattle.std.specs.Vec.{with_items}
use Rattle.std.proofs.lemmas.Bool.{le-leb}
use Rattle.std.proofs.lemmas.List.{with_items_is}
use Rattle.charmlet_model.specs.Core.{with_taken}
use Rattle.charmlet_model.specs.Names.{elem_cmp}
use Rattle.charmlet_model.specs.World.{advanced, record_at}
use Rattle.charmlet_world.specs.Seen.{element_at}
use Rattle.charmlet_history.specs.Opened.{opened_element}
use Rattle.charmlet_recovery.specs.Bases.{is_skipped, reaction}
use Rattle.charmlet_model.specs.Reaction.{react}
use Rattle.charmlet_stock.specs.Stock.{blanks_in}
use Rattle.charmlet_stock.proofs.Results.{when_ok}
use Rattle.charmlet_shard.specs.Home.{AreHome}
use Rattle.charmlet_shard.specs.RestoredShard.{IsRestored, effect_of, is_next, taken_again}
use Rattle.charmlet_shard.specs.Receiving.{IsKnownAs, IsOutputIf, blank_for}
use Rattle.charmlet_world.specs.declared.element.Element.{Element}
use Rattle.charmlet_recovery.specs.Faults.{same_effect}
use Rattle.charmlet_shard.specs.declared.stopped.Stopped.TheVariants as stops
use Rattle.charmlet_shard.proofs.Redelivered.{held_so, not_skipped, blank_taken, can, is_known, known_element, lacks_blank, no_array, not_next, other_effect, redelivered_is, same_passes, skipped_leaves, skipped_passes, skipped_takes, restored_so}
use Rattle.charmlet_shard.proofs.restored_shard.RestoredShard.redeliver.Goals as goal

pub returns-then-received-before-clause-ok : goal.returns-then-received-before-clause-ok
returns-then-received-before-clause-ok g c = λ records restored good.
    let old = c.args.self.now in
    let d = c.args.delivery in
    let m = d.message in
    let n = old.processors in
    let manifest = c.args.manifest.now in
    let r = record_at records m.to in
    let before : c.element-before.result ≡ opened_element n m.to r =
    c.element-before.ensures ∙ ap (λ es. element_at es m.to) restored.elements ∙ known_element n records m.to in
    let skip : is_skipped r d ≡ true = le-leb d.received r.received (subst (λ (e : Element). d.received ≤ e.received) before c.if-received-before.true) in (
      skipped_passes manifest records d n skip,
      subst (λ rs. IsRestored rs old) (sym (skipped_leaves manifest records d n skip)) restored,
    )

pub returns-then-received-before-clause-blanks : goal.returns-then-received-before-clause-blanks
returns-then-received-before-clause-blanks g c = λ records restored good has kind.
    let old = c.args.self.now in
    let d = c.args.delivery in
    let m = d.message in
    let n = old.processors in
    let manifest = c.args.manifest.now in
    let r = record_at records m.to in
    let before : c.element-before.result ≡ opened_element n m.to r =
    c.element-before.ensures ∙ ap (λ es. element_at es m.to) restored.elements ∙ known_element n records m.to in
    let skip : is_skipped r d ≡ true = le-leb d.received r.received (subst (λ (e : Element). d.received ≤ e.received) before c.if-received-before.true) in
    let none = skipped_takes manifest records d n skip kind in
    omega (arith, none)

pub returns-then-not-is_next-clause-fault : goal.returns-then-not-is_next-clause-fault
returns-then-not-is_next-clause-fault g c = λ records restored good has _.
    let old = c.args.self.now in
    let d = c.args.delivery in
    let m = d.message in
    let n = old.processors in
    let manifest = c.args.manifest.now in
    let r = record_at records m.to in
    let before : c.element-before.result ≡ opened_element n m.to r =
    c.element-before.ensures ∙ ap (λ es. element_at es m.to) restored.elements ∙ known_element n records m.to in
    let new : is_skipped r d ≡ false =
    not_skipped d.received r.received (subst (λ (e : Element). e.received < d.received) before c.if-received-before.false) in
    not_next manifest records d n new (ap (λ e. is_next e d.received m.entry) (sym before) ∙ sym c.is_next.ensures ∙ c.if-not-is_next.true)

pub returns-in_default-clause-fault : goal.returns-in_default-clause-fault
returns-in_default-clause-fault g c = λ records restored good has _.
    let old = c.args.self.now in
    let d = c.args.delivery in
    let m = d.message in
    let n = old.processors in
    let manifest = c.args.manifest.now in
    let r = record_at records m.to in
    let before : c.element-before.result ≡ opened_element n m.to r =
    c.element-before.ensures ∙ ap (λ es. element_at es m.to) restored.elements ∙ known_element n records m.to in
    let new : is_skipped r d ≡ false =
    not_skipped d.received r.received (subst (λ (e : Element). e.received < d.received) before c.if-received-before.false) in
    no_array manifest records d n new (sym c.kind_version_of.ensures ∙ c.in_default.is)

pub receive_at_home-requires-clause-known : goal.receive_at_home-requires-clause-known
receive_at_home-requires-clause-known g c κs within =
    let records = c.requires.restored.0 in
    let restored = c.requires.restored.1 in
    let good = c.requires.restored.2 in
    let old = c.args.self.now in
    let d = c.args.delivery in
    let m = d.message in
    let n = old.processors in
    let manifest = c.args.manifest.now in
    let r = record_at records m.to in
    let before : c.element-before.result ≡ opened_element n m.to r =
    c.element-before.ensures ∙ ap (λ es. element_at es m.to) restored.elements ∙ known_element n records m.to in
    let new : is_skipped r d ≡ false =
    not_skipped d.received r.received (subst (λ (e : Element). e.received < d.received) before c.if-received-before.false) in
    let next : is_next (opened_element n m.to r) d.received m.entry ≡ true =
    ap (λ e. is_next e d.received m.entry) (sym before) ∙ sym c.is_next.ensures ∙ c.if-not-is_next.false in
    let kind_version = c.in-Some.kind_version in
    let is = sym c.kind_version_of.ensures ∙ c.in-Some.is in (
      records,
      subst (AreHome n records) (sym c.as_mut_slice.ensures.value) restored.home,
      subst (IsKnownAs kind_version r) (sym before) (is_known manifest records d n new next kind_version is good),
      can manifest records d n new next kind_version is,
    )

pub returns-in_err-done-clause-held : goal.returns-in_err-done-clause-held
returns-in_err-done-clause-held g c =
    let old = c.args.self.now in
    let count : length c.receive_at_home.new.shelves ≡ length old.shelves.items = c.receive_at_home.ensures.count ∙ ap length c.as_mut_slice.ensures.value in
    held_so old _ c.receive_at_home.new.shelves c.requires.held refl (with_items_is old.shelves c.receive_at_home.new.shelves (count ∙ sym old.shelves.ok.0)) count
    c.receive_at_home.ensures.idle c.receive_at_home.ensures.counted c.receive_at_home.ensures.keeping

pub returns-in_err-done-clause-fault : goal.returns-in_err-done-clause-fault
returns-in_err-done-clause-fault g c = λ records restored good has fault.
    let old = c.args.self.now in
    let d = c.args.delivery in
    let m = d.message in
    let n = old.processors in
    let manifest = c.args.manifest.now in
    let r = record_at records m.to in
    let before : c.element-before.result ≡ opened_element n m.to r =
    c.element-before.ensures ∙ ap (λ es. element_at es m.to) restored.elements ∙ known_element n records m.to in
    let new : is_skipped r d ≡ false =
    not_skipped d.received r.received (subst (λ (e : Element). e.received < d.received) before c.if-received-before.false) in
    let next : is_next (opened_element n m.to r) d.received m.entry ≡ true =
    ap (λ e. is_next e d.received m.entry) (sym before) ∙ sym c.is_next.ensures ∙ c.if-not-is_next.false in
    let kind_version = c.in-Some.kind_version in
    let is = sym c.kind_version_of.ensures ∙ c.in-Some.is in
    let failed : c.receive_at_home.result ≡ Err stops.Fault = search rules in
    let lacks = c.receive_at_home.ensures.fault failed in
    lacks_blank manifest records d n new next kind_version is (blanks_in old.stock) has (ap (λ (e : Element). e.place) (sym before) ∙ lacks.0) lacks.1

pub returns-then-not-has_effect-clause-held : goal.returns-then-not-has_effect-clause-held
returns-then-not-has_effect-clause-held g c =
    let old = c.args.self.now in
    let count : length c.receive_at_home.new.shelves ≡ length old.shelves.items = c.receive_at_home.ensures.count ∙ ap length c.as_mut_slice.ensures.value in
    held_so old _ c.receive_at_home.new.shelves c.requires.held refl (with_items_is old.shelves c.receive_at_home.new.shelves (count ∙ sym old.shelves.ok.0)) count
    c.receive_at_home.ensures.idle c.receive_at_home.ensures.counted c.receive_at_home.ensures.keeping

pub returns-then-not-has_effect-clause-fault : goal.returns-then-not-has_effect-clause-fault
returns-then-not-has_effect-clause-fault g c = λ records restored good has _.
    let old = c.args.self.now in
    let d = c.args.delivery in
    let m = d.message in
    let n = old.processors in
    let manifest = c.args.manifest.now in
    let r = record_at records m.to in
    let before : c.element-before.result ≡ opened_element n m.to r =
    c.element-before.ensures ∙ ap (λ es. element_at es m.to) restored.elements ∙ known_element n records m.to in
    let new : is_skipped r d ≡ false =
    not_skipped d.received r.received (subst (λ (e : Element). e.received < d.received) before c.if-received-before.false) in
    let next : is_next (opened_element n m.to r) d.received m.entry ≡ true =
    ap (λ e. is_next e d.received m.entry) (sym before) ∙ sym c.is_next.ensures ∙ c.if-not-is_next.false in
    let kind_version = c.in-Some.kind_version in
    let is = sym c.kind_version_of.ensures ∙ c.in-Some.is in
    let both = c.in_ok-done.ensures.ok records (subst (AreHome n records) (sym c.as_mut_slice.ensures.value) restored.home)
    (subst (IsKnownAs kind_version r) (sym before) (is_known manifest records d n new next kind_version is good)) (can manifest records d n new next kind_version is) in
    let at = both.0 in
    let o = at.0 in
    let after : c.in_ok-done.done.0 ≡ opened_element n m.to (advanced r o) = at.2 in
    other_effect manifest records d n new next kind_version is o at.1
    ((λ i. same_effect (effect_of (is_some (sym before i).place) (is_some (sym after i).place)) d.effect) ∙ sym c.has_effect.ensures ∙ c.if-not-has_effect.true)

pub returns-then-is_err-clause-held : goal.returns-then-is_err-clause-held
returns-then-is_err-clause-held g c =
    let old = c.args.self.now in
    let count : length c.receive_at_home.new.shelves ≡ length old.shelves.items = c.receive_at_home.ensures.count ∙ ap length c.as_mut_slice.ensures.value in
    held_so old _ c.receive_at_home.new.shelves c.requires.held refl (with_items_is old.shelves c.receive_at_home.new.shelves (count ∙ sym old.shelves.ok.0)) count
    c.receive_at_home.ensures.idle c.receive_at_home.ensures.counted c.receive_at_home.ensures.keeping

pub returns-clause-held : goal.returns-clause-held
returns-clause-held g c =
    let old = c.args.self.now in
    let count : length c.receive_at_home.new.shelves ≡ length old.shelves.items = c.receive_at_home.ensures.count ∙ ap length c.as_mut_slice.ensures.value in
    held_so old _ c.receive_at_home.new.shelves c.requires.held refl (with_items_is old.shelves c.receive_at_home.new.shelves (count ∙ sym old.shelves.ok.0)) count
    c.receive_at_home.ensures.idle c.receive_at_home.ensures.counted c.receive_at_home.ensures.keeping

pub returns-clause-ok : goal.returns-clause-ok
returns-clause-ok g c = λ records restored good.
    let old = c.args.self.now in
    let d = c.args.delivery in
    let m = d.message in
    let n = old.processors in
    let manifest = c.args.manifest.now in
    let r = record_at records m.to in
    let before : c.element-before.result ≡ opened_element n m.to r =
    c.element-before.ensures ∙ ap (λ es. element_at es m.to) restored.elements ∙ known_element n records m.to in
    let new : is_skipped r d ≡ false =
    not_skipped d.received r.received (subst (λ (e : Element). e.received < d.received) before c.if-received-before.false) in
    let next : is_next (opened_element n m.to r) d.received m.entry ≡ true =
    ap (λ e. is_next e d.received m.entry) (sym before) ∙ sym c.is_next.ensures ∙ c.if-not-is_next.false in
    let kind_version = c.in-Some.kind_version in
    let is = sym c.kind_version_of.ensures ∙ c.in-Some.is in
    let both = c.in_ok-done.ensures.ok records (subst (AreHome n records) (sym c.as_mut_slice.ensures.value) restored.home)
    (subst (IsKnownAs kind_version r) (sym before) (is_known manifest records d n new next kind_version is good)) (can manifest records d n new next kind_version is) in
    let at = both.0 in
    let o = at.0 in
    let after : c.in_ok-done.done.0 ≡ opened_element n m.to (advanced r o) = at.2 in
    let same : same_effect (effect_of (is_some (opened_element n m.to r).place) (is_some (opened_element n m.to (advanced r o)).place)) d.effect ≡ true =
    (λ i. same_effect (effect_of (is_some (sym before i).place) (is_some (sym after i).place)) d.effect) ∙ sym c.has_effect.ensures ∙ c.if-not-has_effect.false in
    let count : length c.receive_at_home.new.shelves ≡ length old.shelves.items = c.receive_at_home.ensures.count ∙ ap length c.as_mut_slice.ensures.value in
    let shelves = with_items_is old.shelves c.receive_at_home.new.shelves (count ∙ sym old.shelves.ok.0) in
    let new_one = record old { elements = c.insert.new.self; shelves = with_items old.shelves c.receive_at_home.new.shelves; stock = c.receive_at_home.new.stock } in
    let written : c.insert.new.self.entries ≡ insert_entry elem_cmp old.elements.entries m.to c.in_ok-done.done.0 =
    when_ok (c.insert.new.self.entries ≡ insert_entry elem_cmp old.elements.entries m.to c.in_ok-done.done.0) c.insert.result (sym c.is_err.ensures.value ∙ c.if-is_err.false) c.insert.ensures.entries in (
      same_passes manifest records d n new next kind_version is o at.1 same,
      subst (λ rs. IsRestored rs new_one) (sym (redelivered_is manifest records d n new next kind_version is o at.1))
          (restored_so records old new_one m.to (advanced r o) c.in_ok-done.done.0 restored refl written after (subst (AreHome n (insert_entry elem_cmp records m.to (advanced r o))) (sym shelves) at.3)),
    )

pub returns-clause-blanks : goal.returns-clause-blanks
returns-clause-blanks g c = λ records restored good has k.
    let old = c.args.self.now in
    let d = c.args.delivery in
    let m = d.message in
    let n = old.processors in
    let manifest = c.args.manifest.now in
    let r = record_at records m.to in
    let before : c.element-before.result ≡ opened_element n m.to r =
    c.element-before.ensures ∙ ap (λ es. element_at es m.to) restored.elements ∙ known_element n records m.to in
    let new : is_skipped r d ≡ false =
    not_skipped d.received r.received (subst (λ (e : Element). e.received < d.received) before c.if-received-before.false) in
    let next : is_next (opened_element n m.to r) d.received m.entry ≡ true =
    ap (λ e. is_next e d.received m.entry) (sym before) ∙ sym c.is_next.ensures ∙ c.if-not-is_next.false in
    let kind_version = c.in-Some.kind_version in
    let is = sym c.kind_version_of.ensures ∙ c.in-Some.is in
    let both = c.in_ok-done.ensures.ok records (subst (AreHome n records) (sym c.as_mut_slice.ensures.value) restored.home)
    (subst (IsKnownAs kind_version r) (sym before) (is_known manifest records d n new next kind_version is good)) (can manifest records d n new next kind_version is) in
    let at = both.0 in
    let o = at.0 in
    let after : c.in_ok-done.done.0 ≡ opened_element n m.to (advanced r o) = at.2 in
    let same : same_effect (effect_of (is_some (opened_element n m.to r).place) (is_some (opened_element n m.to (advanced r o)).place)) d.effect ≡ true =
    (λ i. same_effect (effect_of (is_some (sym before i).place) (is_some (sym after i).place)) d.effect) ∙ sym c.has_effect.ensures ∙ c.if-not-has_effect.false in
    (λ i. (c.in_ok-done.ensures.blanks i) k + taken_again manifest records d k)
    ∙ ap (λ e. with_taken (blank_for kind_version e) (blanks_in old.stock) k + taken_again manifest records d k) before
    ∙ blank_taken manifest records d n new next kind_version is o at.1 (blanks_in old.stock) has same k

pub returns-then-received-before-clause-output : goal.returns-then-received-before-clause-output
returns-then-received-before-clause-output g c = λ records restored good.
    let d = c.args.delivery in
    let m = d.message in
    let n = c.args.self.now.processors in
    let r = record_at records m.to in
    let before : c.element-before.result ≡ opened_element n m.to r =
    c.element-before.ensures ∙ ap (λ es. element_at es m.to) restored.elements ∙ known_element n records m.to in
    let skip : is_skipped r d ≡ true = le-leb d.received r.received (subst (λ (e : Element). d.received ≤ e.received) before c.if-received-before.true) in
    subst (λ b. IsOutputIf b (reaction c.args.manifest.now r m) None) (sym skip) refl

pub returns-clause-output : goal.returns-clause-output
returns-clause-output g c = λ records restored good.
    let old = c.args.self.now in
    let d = c.args.delivery in
    let m = d.message in
    let n = old.processors in
    let manifest = c.args.manifest.now in
    let r = record_at records m.to in
    let before : c.element-before.result ≡ opened_element n m.to r =
    c.element-before.ensures ∙ ap (λ es. element_at es m.to) restored.elements ∙ known_element n records m.to in
    let new : is_skipped r d ≡ false =
    not_skipped d.received r.received (subst (λ (e : Element). e.received < d.received) before c.if-received-before.false) in
    let next : is_next (opened_element n m.to r) d.received m.entry ≡ true =
    ap (λ e. is_next e d.received m.entry) (sym before) ∙ sym c.is_next.ensures ∙ c.if-not-is_next.false in
    let kind_version = c.in-Some.kind_version in
    let is = sym c.kind_version_of.ensures ∙ c.in-Some.is in
    let both = c.in_ok-done.ensures.ok records (subst (AreHome n records) (sym c.as_mut_slice.ensures.value) restored.home)
    (subst (IsKnownAs kind_version r) (sym before) (is_known manifest records d n new next kind_version is good)) (can manifest records d n new next kind_version is) in
    let made = both.1 in
    subst (λ b. IsOutputIf b (reaction manifest r m) (Some c.in_ok-done.done.1)) (sym new)
    (made.0, ap (option_and_then (λ k. react k m.to r.state m.entry m.words)) is ∙ made.1, ap Some made.2)
