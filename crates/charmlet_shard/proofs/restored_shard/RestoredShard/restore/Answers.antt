use Rattle.std.proofs.Common.{◌≡◌, ◌+◌, length, refl, sym, ap, subst, ◌∙◌}
use Rattle.std.specs.Prelude.{Option, Some, None, IsSome, if◌then◌else◌, is_some, ◌&&◌, unwrap_or}
use Rattle.std.specs.BTreeMap.{insert_entry, is_at}
use Rattle.std.specs.Map.{lookup}
use Rattle.std.proofs.lemmas.List.{with_items_is}
use Rattle.std.specs.Ordering.{nat_cmp}
use Rattle.charmlet_model.specs.declared.kind_version.KindVersion.{KindVersion}
use Rattle.charmlet_model.specs.declared.kind_version.KindVersion.TheVariants as kind_versions
use Rattle.charmlet_model.specs.Core.{Blanks, with_taken}
use Rattle.charmlet_model.specs.Names.{elem_cmp}
use Rattle.charmlet_model.proofs.Maps.{elem_total, rising-insert_entry}
use Rattle.charmlet_history.specs.Opened.{opened_element}
use Rattle.charmlet_image.specs.Reading.{kind_version_in}
use Rattle.charmlet_recovery.specs.Blanks.{array_is, one_if}
use Rattle.charmlet_stock.specs.Stock.{blanks_in}
use Rattle.charmlet_shard.specs.Home.{AreHome}
use Rattle.charmlet_shard.specs.Receiving.{blank_of_entry, entry_record}
use Rattle.charmlet_shard.proofs.Entries.{opened_insert, taken_of_array}
use Rattle.charmlet_shard.proofs.restored_shard.RestoredShard.restore.Goals as goal

pub returns-clause-ok : goal.returns-clause-ok
returns-clause-ok g c = λ records restored unknown.
    let old = c.args.self.now in
    let n = old.processors in
    let entry = c.args.entry.now in
    let kind_version = kind_version_in c.args.manifest.now entry.element.array in
    let same : c.unwrap_or-kind_version.result ≡ kind_version = c.unwrap_or-kind_version.ensures ∙ ap (λ (o : Option KindVersion). unwrap_or o kind_versions.Counter) c.kind_version_of.ensures in
    let x = entry.element in
    let r = entry_record kind_version entry in
    let at = c.in_ok-element.ensures.ok records (subst (AreHome n records) (sym c.as_mut_slice.ensures.value) restored.home) unknown in
    let fits : length c.restore_at_home.new.shelves ≡ old.shelves.len = c.restore_at_home.ensures.count ∙ ap length c.as_mut_slice.ensures.value ∙ sym old.shelves.ok.0 in
    record {
      rising = rising-insert_entry elem_cmp elem_total x r records restored.rising;
      elements =
          c.in_ok-insert.ensures.entries
          ∙ (λ i. insert_entry elem_cmp (restored.elements i) x ((at.0 ∙ ap (λ k. opened_element n x (entry_record k entry)) same) i))
          ∙ sym (opened_insert n records x r);
      home = subst (AreHome n (insert_entry elem_cmp records x r)) (sym (with_items_is old.shelves c.restore_at_home.new.shelves fits))
          (subst (λ k. AreHome n (insert_entry elem_cmp records x (entry_record k entry)) c.restore_at_home.new.shelves) same at.1);
    }

pub returns-clause-blanks : goal.returns-clause-blanks
returns-clause-blanks g c = λ known kind.
    let old = c.args.self.now in
    let entry = c.args.entry.now in
    let array = entry.element.array in
    let manifest = c.args.manifest.now in
    let k = kind_version_in manifest array in
    let same : c.unwrap_or-kind_version.result ≡ k = c.unwrap_or-kind_version.ensures ∙ ap (λ (o : Option KindVersion). unwrap_or o kind_versions.Counter) c.kind_version_of.ensures in
    let taken : blanks_in c.restore_at_home.new.stock ≡ with_taken (if is_some entry.packed then Some k else None) (blanks_in old.stock) =
    c.in_ok-element.ensures.blanks ∙ ap (λ j. with_taken (blank_of_entry j entry) (blanks_in old.stock)) same in
    ap (λ (b : Blanks). b kind + one_if (is_some entry.packed && array_is manifest kind array)) taken
    ∙ taken_of_array (blanks_in old.stock) manifest array k (is_some entry.packed) (known_kind_version (lookup (is_at (nat_cmp array)) manifest) known) c.requires.blank kind
  where
    known_kind_version : (o : Option KindVersion) → IsSome o → o ≡ Some (unwrap_or o kind_versions.Counter)
    known_kind_version None h = absurd (let never : ⊥ = cc in never)
    known_kind_version (Some k) h = refl
