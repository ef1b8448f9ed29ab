-- Records that stay good.
use Rattle.std.proofs.Common.{◌≡◌, ℕ, suc, ◌+◌, ◌≤◌, ◌||◌, Bool, true, false, cond, List, [], ◌∷◌, ◌++◌, refl, sym, ap, subst, ◌∙◌, arith}
use Rattle.std.specs.Prelude.{Option, Some, None, IfSome, option_and_then, option_map, unwrap_or}
use Rattle.std.specs.List.{AllByRecursion}
use Rattle.std.specs.Ordering.{eq_by_cmp, nat_cmp}
use Rattle.std.specs.BTreeMap.{is_at}
use Rattle.std.specs.Map.{lookup}
use Rattle.std.proofs.lemmas.Bool.{leb-true}
use Rattle.charmlet_model.proofs.Fits.{IfSome-map}
use Rattle.std.proofs.lemmas.Map.Views.{tells_apart}
use Rattle.charmlet_model.specs.declared.names.Elem.{Elem}
use Rattle.charmlet_model.specs.declared.kind.Kind.{Kind}
use Rattle.charmlet_model.specs.declared.kind_version.KindVersion.{KindVersion}
use Rattle.charmlet_model.specs.declared.message.Message.{Message}
use Rattle.charmlet_model.specs.declared.logged.CatchUpEntry.{CatchUpEntry}
use Rattle.charmlet_model.specs.declared.reaction.Reaction.{Reaction}
use Rattle.charmlet_model.specs.declared.state.Record.{Record}
use Rattle.charmlet_model.specs.Fit.{IsRecord}
use Rattle.charmlet_model.specs.Names.{elem_cmp}
use Rattle.charmlet_model.specs.Packed.{IsState}
use Rattle.charmlet_model.specs.Reaction.{kind_version_of, greatest, react}
use Rattle.charmlet_model.specs.World.{advanced, no_record, record_at}
use Rattle.charmlet_model.proofs.Histories.{record_at-insert}
use Rattle.charmlet_model.proofs.Maps.{both_parts, elem_exact}
use Rattle.charmlet_model.proofs.Reactions.{IsReaction, react-reaction}
use Rattle.charmlet_record.specs.Reading.{Kinds}
use Rattle.charmlet_image.specs.Images.{Image}
use Rattle.charmlet_recovery.specs.Blanks.{array_is, one_if, wanted_by_catch_up}
use Rattle.charmlet_recovery.proofs.BlankNext.{catch-up-next}
use Rattle.charmlet_model.specs.Core.{Blanks}
use Rattle.charmlet_recovery.specs.Bases.{is_skipped, reaction, records_after, redelivered, redelivered_all}
use Rattle.charmlet_recovery.specs.Faults.{catch_up_tests, first_failure, is_caught_up, is_next_delivery, takes}
use Rattle.charmlet_log_scan.specs.declared.partition.task.Task.{Task}
use Rattle.charmlet_log_scan.specs.Partition.Parts.{Worked, Stopped, Done, done, fits_task, part, worked}
use Rattle.charmlet_log_scan.proofs.PartitionLemmas.Parts.{record-part}
use Rattle.charmlet_shard.specs.RestoredShard.{AreGood, HasBlanksAgain, StayGood}
use Rattle.charmlet_replayers.specs.Replayer.Staying.{HasWords}
use Rattle.charmlet_replayers.specs.Replayer.Tasks.{StayGoodTo}

abbrev kind_version_at : Kinds → Elem → Option KindVersion
kind_version_at manifest x = lookup (is_at (nat_cmp x.array)) manifest

-- ---- one delivery

module _ (manifest : Kinds) (records : List (Elem × Record)) (good : AreGood manifest records) (m : Message) (words : HasWords m) (can : takes (record_at records m.to) m.entry ≡ true) where
  abbrev r : Record
  r = record_at records m.to

  room : (r.received + 1 ≤ greatest) × (r.sent + 16 ≤ greatest)
  room =
      let parts = both_parts _ _ can in
      (leb-true (r.received + 1) greatest (both_parts _ _ parts.0).1, leb-true (r.sent + 16) greatest parts.1)

  by-kind_version : (k : Option KindVersion) → kind_version_at manifest m.to ≡ k → IfSome (option_and_then (λ kind_version. react kind_version m.to r.state m.entry m.words) k) (λ o. IsRecord k (advanced r o))
  by-kind_version None is = tt
  by-kind_version (Some kind_version) is =
      let here : IsRecord (Some kind_version) r = subst (λ k. IsRecord k r) is (good m.to) in
      IfSome-map (IsReaction kind_version m.to) (λ o. IsRecord (Some kind_version) (advanced r o)) (react kind_version m.to r.state m.entry m.words)
      (λ o made. record {
        state = IfSome-map (λ s. (kind_version_of s ≡ kind_version) × IsState s) (λ s. (Some kind_version ≡ Some (kind_version_of s)) × IsState s) o.state (λ s k. (ap Some (sym k.0), k.1)) made.state;
        sent = let few = made.count in let enough = room.1 in omega (arith, few, enough);
        received = room.0;
      })
      (react-reaction kind_version m.to r.state m.entry m.words
      (IfSome-map (λ s. (Some kind_version ≡ Some (kind_version_of s)) × IsState s) (λ s. (kind_version_of s ≡ kind_version) × IsState s) r.state (λ s k. (ap (λ o. unwrap_or o kind_version) (sym k.0), k.1)) here.state) words)

  by-reaction : (o : Option Reaction) → IfSome o (λ o. IsRecord (kind_version_at manifest m.to) (advanced r o)) → AreGood manifest (records_after records m.to r o)
  by-reaction None h = good
  by-reaction (Some o) h = λ x.
      subst (IsRecord (kind_version_at manifest x)) (sym (record_at-insert records m.to (advanced r o) x))
      (elim (eq_by_cmp elem_cmp x m.to) as (λ b. eq_by_cmp elem_cmp x m.to ≡ b → IsRecord (kind_version_at manifest x) (cond b (advanced r o) (record_at records x))) [
        | true ↦ λ same. subst (λ y. IsRecord (kind_version_at manifest y) (advanced r o)) (sym (tells_apart elem_exact x m.to same)) h
        | false ↦ λ _. good x
      ] refl)

  pub good-after : AreGood manifest (records_after records m.to r (reaction manifest r m))
  good-after = by-reaction (reaction manifest r m) (by-kind_version (kind_version_at manifest m.to) refl)

front : {X : Type 0} (P : X → Type 0) (xs ys : List X) → AllByRecursion P (xs ++ ys) → AllByRecursion P xs
front P [] ys h = tt
front P (x ∷ xs) ys h = (h.0, front P xs ys h.1)

-- ---- tasks

abbrev ended : Worked → List (Elem × Record)
ended (Stopped left) = []
ended (Done rs) = rs

stays : (manifest : Kinds) (ts : List Task) (records : List (Elem × Record)) → AreGood manifest records → AllByRecursion (λ t. HasWords t.message) ts → (es : List (Elem × Record)) → worked manifest records ts ≡ Done es → AreGood manifest es
stays manifest [] records good words es is = subst (AreGood manifest) (ap ended is) good
stays manifest (t ∷ ts) records good words es is =
    elim (fits_task manifest (record_at records t.message.to) t) as (λ b. fits_task manifest (record_at records t.message.to) t ≡ b → cond b (worked manifest (done manifest records t) ts) (Stopped t.bytes_left) ≡ Done es → AreGood manifest es) [
      | true ↦ λ fits on. stays manifest ts (done manifest records t) (good-after manifest records good t.message words.0 (both_parts _ _ fits).0) words.1 es on
      | false ↦ λ _ never. absurd (let no : ⊥ = cc in no)
    ] refl is

pub tasks-stay-good : (manifest : Kinds) (records : List (Elem × Record)) (ts : List Task) → AreGood manifest records → AllByRecursion (λ t. HasWords t.message) ts → StayGoodTo manifest records ts
tasks-stay-good manifest records ts good words = λ sooner later es is reach.
    stays manifest sooner records good (front (λ (t : Task). HasWords t.message) sooner later (subst (AllByRecursion (λ (t : Task). HasWords t.message)) is words)) es reach

-- ---- deliveries of a catch-up list

none-first : (p : Bool) (tests : List Bool) → first_failure (p ∷ tests) ≡ None → (p ≡ true) × (first_failure tests ≡ None)
none-first true tests h = (refl, none_more (first_failure tests) h)
  where
    none_more : (o : Option ℕ) → option_map suc o ≡ None → o ≡ None
    none_more None h = refl
    none_more (Some j) h = absurd (let no : ⊥ = cc in no)
none-first false tests h = absurd (let no : ⊥ = cc in no)

good-redelivered : (manifest : Kinds) (records : List (Elem × Record)) (d : CatchUpEntry) → AreGood manifest records → HasWords d.message → is_caught_up manifest (record_at records d.message.to) d ≡ true → AreGood manifest (redelivered manifest records d)
good-redelivered manifest records d good words passes =
    let r = record_at records d.message.to in
    elim (is_skipped r d) as (λ b. (b || is_next_delivery manifest r d) ≡ true → AreGood manifest (cond b records (records_after records d.message.to r (reaction manifest r d.message)))) [
      | true ↦ λ _. good
      | false ↦ λ next. good-after manifest records good d.message words (both_parts _ _ (both_parts _ _ next).0).1
    ] passes

caught : (manifest : Kinds) (ds : List CatchUpEntry) (records : List (Elem × Record)) → AreGood manifest records → AllByRecursion (λ d. HasWords d.message) ds → first_failure (catch_up_tests manifest records ds) ≡ None → AreGood manifest (redelivered_all manifest records ds)
caught manifest [] records good words none = good
caught manifest (d ∷ ds) records good words none =
    let parts = none-first (is_caught_up manifest (record_at records d.message.to) d) (catch_up_tests manifest (redelivered manifest records d) ds) none in
    caught manifest ds (redelivered manifest records d) (good-redelivered manifest records d good words.0 parts.0) words.1 parts.1

pub catch-ups-stay-good : (manifest : Kinds) (records : List (Elem × Record)) (ds : List CatchUpEntry) → AreGood manifest records → AllByRecursion (λ d. HasWords d.message) ds → StayGood manifest records ds
catch-ups-stay-good manifest records ds good words = λ earlier later is none.
    caught manifest earlier records good (front (λ (d : CatchUpEntry). HasWords d.message) earlier later (subst (AllByRecursion (λ (d : CatchUpEntry). HasWords d.message)) is words)) none

-- ---- parts

nothing-at : (mine : Elem → Bool) (records : List (Elem × Record)) (x : Elem) → mine x ≡ false → lookup (is_at (elem_cmp x)) (part mine records) ≡ None
nothing-at mine [] x other = refl
nothing-at mine (e ∷ es) x other =
    elim (mine e.0) as (λ b. mine e.0 ≡ b → lookup (is_at (elem_cmp x)) (cond b (e ∷ part mine es) (part mine es)) ≡ None) [
      | true ↦ λ own.
          elim (eq_by_cmp elem_cmp x e.0) as (λ b. eq_by_cmp elem_cmp x e.0 ≡ b → cond b (Some e.1) (lookup (is_at (elem_cmp x)) (part mine es)) ≡ None) [
            | true ↦ λ same. absurd (let is : mine x ≡ mine e.0 = ap mine (tells_apart elem_exact x e.0 same) in let never : false ≡ true = sym other ∙ is ∙ own in let no : ⊥ = cc in no)
            | false ↦ λ _. nothing-at mine es x other
          ] refl
      | false ↦ λ _. nothing-at mine es x other
    ] refl

pub parts-are-good : (manifest : Kinds) (records : List (Elem × Record)) (mine : Elem → Bool) → AreGood manifest records → AreGood manifest (part mine records)
parts-are-good manifest records mine good = λ x.
    elim (mine x) as (λ b. mine x ≡ b → IsRecord (kind_version_at manifest x) (record_at (part mine records) x)) [
      | true ↦ λ own. subst (IsRecord (kind_version_at manifest x)) (sym (record-part mine records x own)) (good x)
      | false ↦ λ other.
          subst (IsRecord (kind_version_at manifest x)) (sym (ap (λ o. unwrap_or o no_record) (nothing-at mine records x other)))
          (record { state = tt; sent = omega arith; received = omega arith })
    ] refl

-- ---- blanks

pub replayers-have-blanks : (manifest : Kinds) (records : List (Elem × Record)) (ds : List CatchUpEntry) (given : Blanks) → ((kind : Kind) → wanted_by_catch_up manifest kind records ds ≤ given kind) → HasBlanksAgain given manifest records ds
replayers-have-blanks manifest records ds given enough = λ earlier later d is none kind new written of_kind.
    let image : Image = record { manifest = manifest; clients = []; pending = []; records = records; caught_up = ds } in
    let next = catch-up-next image kind earlier later d [] is none new written in
    let one : one_if (array_is manifest kind d.message.to.array) ≡ 1 = ap one_if of_kind in
    let all = enough kind in
    omega (arith, next, one, all)
