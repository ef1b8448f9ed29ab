-- An image that replayers bring back, from their first elements to the end of its catch-up list.
use Rattle.std.proofs.Common.{◌≡◌, ℕ, zero, suc, ◌+◌, ◌<◌, ◌≤◌, Bool, true, false, cond, List, [], ◌∷◌, ◌++◌, length, get_or, refl, sym, ap, subst, ◌∙◌, arith, mod-lt}
use Rattle.std.specs.Prelude.{None, Some, slice_get}
use Rattle.std.specs.List.{All, AllByRecursion, AllZip}
use Rattle.std.proofs.lemmas.List.Elements.{All-cons, All-nil}
use Rattle.std.proofs.lemmas.List.Sums.{sum_by-cons}
use Rattle.std.proofs.lemmas.Option.{slice_get-get_or, slice_get_within}
use Rattle.charmlet_model.specs.declared.kind.Kind.{Kind}
use Rattle.charmlet_model.specs.declared.logged.CatchUpEntry.{CatchUpEntry}
use Rattle.charmlet_model.specs.declared.names.Elem.{Elem}
use Rattle.charmlet_model.specs.declared.state.Record.{Record}
use Rattle.charmlet_model.specs.Core.{Blanks, home}
use Rattle.charmlet_model.specs.World.{record_at}
use Rattle.charmlet_record.specs.declared.positioned.Positioned.{Positioned}
use Rattle.charmlet_record.specs.Reading.{Kinds}
use Rattle.charmlet_record.specs.Written.{IsCaughtUp}
use Rattle.charmlet_image.specs.Positioned.{items_of}
use Rattle.charmlet_image.specs.Written.{AreRecords}
use Rattle.charmlet_recovery.specs.Bases.{redelivered, redelivered_all}
use Rattle.charmlet_recovery.specs.Blanks.{made_by_catch_up, wanted_by_catch_up, wanted_by_records}
use Rattle.charmlet_recovery.specs.Faults.{catch_up_tests, first_failure, is_caught_up}
use Rattle.charmlet_recovery.proofs.BlankLemmas.{catch-up-made}
use Rattle.charmlet_recovery.proofs.Faultless.{AllPass}
use Rattle.charmlet_recovery.proofs.Moments.{rising-caught_up}
use Rattle.charmlet_recovery.proofs.Sound.{all-pass}
use Rattle.charmlet_chare.specs.declared.chare.Chare.{Ghosts}
use Rattle.charmlet_stock.specs.declared.stock.Stock.{Stock}
use Rattle.charmlet_stock.specs.Stock.{blanks_in, supplied_to}
use Rattle.charmlet_log_scan.specs.Partition.Parts.{Done, Falls, Stopped, catch_ups, caught_up, is_of_worker, part}
use Rattle.charmlet_log_scan.proofs.PartitionLemmas.CatchUps.{catch-ups-stop}
use Rattle.charmlet_log_scan.proofs.PartitionLemmas.Stops.{none-left}
use Rattle.charmlet_replay.specs.Images.{AreOfImage}
use Rattle.charmlet_replay.specs.RestoredShard.{AreGood, IsHeld, IsRestored}
use Rattle.charmlet_replay.specs.restored_shard.RestoredShard.{RestoredShard}
use Rattle.charmlet_replay.proofs.Whole.{parts_are_records, parts_stay_good}
use Rattle.charmlet_replayers.specs.declared.replayer.replayer.Replayer.{Replayer}
use Rattle.charmlet_replayers.specs.Replayer.Replayers.{HasTakenAgain, IsKnownBy, IsReadyReplayer}
use Rattle.charmlet_replayers.specs.Replayer.Staying.{HasWords}
use Rattle.charmlet_replayers.specs.Replayer.Workers.{AreDispatched, AreParts, HasSameTasks, IsWhole}
use Rattle.charmlet_replayers.proofs.ReplayerLemmas.StaysGood.{catch-ups-stay-good, replayers-have-blanks, parts-are-good}
use Rattle.charmlet_replayers.specs.Dispatch.Keeping.{IsHeldReplayer, KeepsAll, supplied_by}
use Rattle.charmlet_replayers.specs.Dispatch.Sharing.{worker_of}
use Rattle.charmlet_merge.specs.Merged.{ArePartsOn}
use Rattle.charmlet_parallel_replay.specs.Image.Filled.{AreFilled, CanBeFilled, IsEmptyReplayer, IsFilled, IsToFill, wanted_by_worker}
use Rattle.charmlet_replayers.specs.Shares.Laws.{together}
use Rattle.charmlet_parallel_replay.specs.Image.Given.{HaveDeliveries, KeepsSupply}
use Rattle.charmlet_parallel_replay.specs.Image.ImageRestored.{AreCaughtUp, IsAtRest}
use Rattle.charmlet_parallel_replay.proofs.ImageLemmas.Wanted.{all-wanted}

-- ---- what is kept

module _ {C : Type 0} {G : Ghosts C} where
  -- what the replayers were given, no stock gave
  pub keeps_given : (a : Stock C G) (olds news : List (Replayer C G)) → KeepsSupply olds news → KeepsAll a a olds news
  keeps_given a olds news keeps = record {
    count = keeps.count;
    held = keeps.held;
    total = λ kind. ap (λ n. n + blanks_in a kind) (keeps.supplied kind);
    drawn = λ kind. refl;
    keeping = refl;
  }

-- what relates two lists relates what stands at one place
pub zip_at : {A B : Type 0} (R : A → B → Type 0) (xs : List A) (ys : List B) → AllZip R xs ys → (v : ℕ) (x : A) (y : B) → slice_get xs v ≡ Some x → slice_get ys v ≡ Some y → R x y
zip_at R [] ys zip v x y at found = absurd (let never : ⊥ = cc in never)
zip_at R (a ∷ xs) [] zip v x y at found = absurd zip
zip_at R (a ∷ xs) (b ∷ ys) zip zero x y at found =
    let one : a ≡ x = cc in
    let other : b ≡ y = cc in
    subst (λ c. R c y) one (subst (R a) other zip.0)
zip_at R (a ∷ xs) (b ∷ ys) zip (suc v) x y at found = zip_at R xs ys zip.1 v x y at found

sum_is : {C : Type 0} {G : Ghosts C} (olds news : List (Replayer C G)) (kind : Kind) → AllZip IsWhole olds news → supplied_by news kind ≡ supplied_by olds kind
sum_is [] [] kind zip = refl
sum_is [] (new ∷ news) kind zip = absurd zip
sum_is (old ∷ olds) [] kind zip = absurd zip
sum_is {C} {G} (old ∷ olds) (new ∷ news) kind zip =
    let f : Replayer C G → ℕ = λ replayer. supplied_to replayer.restored.stock kind in
    let one : f new ≡ f old = ap (λ (b : Blanks). b kind) zip.0.supplied in
    let rest = sum_is olds news kind zip.1 in
    sum_by-cons f new news ∙ (λ i. one i + rest i) ∙ sym (sum_by-cons f old olds)

held_whole : {C : Type 0} {G : Ghosts C} (olds news : List (Replayer C G)) → AllZip IsWhole olds news → All IsHeldReplayer news
held_whole [] [] zip = All-nil IsHeldReplayer
held_whole [] (new ∷ news) zip = absurd zip
held_whole (old ∷ olds) [] zip = absurd zip
held_whole (old ∷ olds) (new ∷ news) zip = All-cons IsHeldReplayer new news zip.0.held (held_whole olds news zip.1)

zip_count : {A B : Type 0} (R : A → B → Type 0) (xs : List A) (ys : List B) → AllZip R xs ys → length ys ≡ length xs
zip_count R [] [] zip = refl
zip_count R [] (b ∷ ys) zip = absurd zip
zip_count R (a ∷ xs) [] zip = absurd zip
zip_count R (a ∷ xs) (b ∷ ys) zip = ap suc (zip_count R xs ys zip.1)

-- what the replayers do with what they have, no object is lost
pub keeps_whole : {C : Type 0} {G : Ghosts C} (a b : Stock C G) (olds mids news : List (Replayer C G)) → KeepsAll a b olds mids → AllZip IsWhole mids news → KeepsAll a b olds news
keeps_whole a b olds mids news keeps zip = record {
  count = zip_count IsWhole mids news zip ∙ keeps.count;
  held = held_whole mids news zip;
  total = λ kind. ap (λ n. n + blanks_in b kind) (sum_is mids news kind zip) ∙ keeps.total kind;
  drawn = keeps.drawn;
  keeping = keeps.keeping;
}

-- ---- a replayer who comes to its end finds no fault

done_passes : (manifest : Kinds) (records : List (Elem × Record)) (ps : List (Positioned CatchUpEntry)) (es : List (Elem × Record)) → caught_up manifest records ps ≡ Done es → AllPass (catch_up_tests manifest records (items_of ps))
done_passes manifest records [] es h = tt
done_passes manifest records (p ∷ ps) es h =
    let next = redelivered manifest records p.item in
    elim (is_caught_up manifest (record_at records p.item.message.to) p.item) as (λ b. cond b (caught_up manifest next ps) (Stopped p.bytes_left) ≡ Done es → AllPass (b ∷ catch_up_tests manifest next (items_of ps))) [
      | true ↦ λ on. (refl, done_passes manifest next ps es on)
      | false ↦ λ never. absurd (let no : ⊥ = cc in no)
    ] h

module _ {C : Type 0} {G : Ghosts C} (processors : ℕ) (manifest : Kinds) (records : List (Elem × Record)) (ds : List (Positioned CatchUpEntry)) (stock : Stock C G) (olds : List (Replayer C G))
    (some : 0 < length olds) (empty : All (IsEmptyReplayer processors) olds) (are : AreOfImage manifest records (items_of ds) (blanks_in stock)) where
  abbrev worker : Elem → ℕ
  worker = worker_of processors (length olds)

  within : (x : Elem) → worker x < length olds
  within x = mod-lt (home x processors) some

  good_records : AreRecords manifest records
  good_records = parts_are_records manifest records (items_of ds) (blanks_in stock) are

  pub are_good : AreRecords manifest records
  are_good = good_records

  pub all_held : All IsHeldReplayer olds
  all_held v d less = (empty v d less).held

  typed : AllByRecursion (IsCaughtUp manifest) (items_of ds)
  typed = subst (AllByRecursion (IsCaughtUp manifest)) are.deliveries_are (subst (λ (kinds : Kinds). AllByRecursion (IsCaughtUp kinds) are.image.caught_up) are.manifest_is are.good.caught_up.each)

  enough : (kind : Kind) → wanted_by_records manifest kind records + wanted_by_catch_up manifest kind records (items_of ds) ≤ blanks_in stock kind
  enough kind =
      let all = are.enough kind in
      let one : wanted_by_records are.image.manifest kind are.image.records ≡ wanted_by_records manifest kind records = λ i. wanted_by_records (are.manifest_is i) kind (are.records_are i) in
      let two : wanted_by_catch_up are.image.manifest kind are.image.records are.image.caught_up ≡ wanted_by_catch_up manifest kind records (items_of ds) =
      λ i. wanted_by_catch_up (are.manifest_is i) kind (are.records_are i) (are.deliveries_are i) in
      omega (arith, all, one, two)

  -- ---- once the deliveries are given

  pub can_be_filled : (replayers : List (Replayer C G)) → KeepsSupply olds replayers → HaveDeliveries worker ds olds replayers → CanBeFilled processors manifest records ds (blanks_in stock) replayers
  can_be_filled replayers keeps have = record {
    to_fill = λ v d less. to_fill v (get_or replayers v d) (slice_get-get_or replayers v d less);
    typed = typed;
    theirs = λ v replayer at.
        let old = was v replayer at in
        let none : old.0.deliveries.items ≡ [] = old.2.deliveries in
        subst (λ n. replayer.deliveries.items ≡ catch_ups (is_of_worker (worker_of processors n) v) ds) (sym keeps.count)
        ((have v old.0 replayer old.1 at).deliveries ∙ ap (λ (ps : List (Positioned CatchUpEntry)). ps ++ catch_ups (is_of_worker worker v) ds) none);
    enough = λ kind. subst (λ n. together n (wanted_by_worker (worker_of processors n) manifest records ds kind) ≤ blanks_in stock kind) (sym keeps.count)
        (let all = all-wanted worker (length olds) manifest kind records ds within good_records.rising in let given = enough kind in omega (arith, all, given));
  }
    where
      was : (v : ℕ) (replayer : Replayer C G) → slice_get replayers v ≡ Some replayer → (old : Replayer C G) × (slice_get olds v ≡ Some old) × IsEmptyReplayer processors old
      was v replayer at =
          let less : v < length olds = (let within = slice_get_within replayers v replayer at in let count = keeps.count in omega (arith, within, count)) in
          (get_or olds v replayer, slice_get-get_or olds v replayer less, empty v replayer less)

      moved : (old new : Replayer C G) → new.restored ≡ old.restored → new.tasks ≡ old.tasks → IsToFill processors old → IsToFill processors new
      moved old new same tasks h =
          record {
            held = subst IsHeld (sym same) h.held;
            on = ap (λ (r : RestoredShard C G). r.processors) same ∙ h.on;
            nothing = subst (IsRestored []) (sym same) h.nothing;
            spare = λ kind. ap (λ (r : RestoredShard C G). blanks_in r.stock kind) same ∙ h.spare kind;
            tasks = (λ j. (tasks j).items) ∙ h.tasks;
          }

      to_fill : (v : ℕ) (replayer : Replayer C G) → slice_get replayers v ≡ Some replayer → IsToFill processors replayer
      to_fill v replayer at =
          let old = was v replayer at in
          let more = have v old.0 replayer old.1 at in
          let before : IsToFill processors old.0 = record { held = old.2.held; on = old.2.on; nothing = old.2.nothing; spare = old.2.spare; tasks = old.2.tasks } in
          moved old.0 replayer more.restored more.tasks before

  -- ---- once all have their elements

  module _ (falls : Falls ds) (left : Stock C G) (replayers : List (Replayer C G)) (count : length replayers ≡ length olds) (held : All IsHeldReplayer replayers) (filled : AreFilled worker manifest records ds processors (blanks_in stock) (blanks_in left) replayers) where
    good : AreGood manifest records
    good = parts_stay_good manifest records (items_of ds) (blanks_in stock) are [] (items_of ds) refl refl

    module _ (v : ℕ) (replayer : Replayer C G) (at : slice_get replayers v ≡ Some replayer) where
      abbrev mine : Elem → Bool
      mine = is_of_worker worker v

      abbrev its : IsFilled worker manifest records ds processors v replayer
      its = filled.each v replayer at

      own_words : (ps : List (Positioned CatchUpEntry)) → AllByRecursion (IsCaughtUp manifest) (items_of ps) → AllByRecursion (λ d. HasWords d.message) (items_of (catch_ups mine ps))
      own_words [] h = tt
      own_words (p ∷ ps) h =
          elim (mine p.item.message.to) as (λ b. AllByRecursion (λ (d : CatchUpEntry). HasWords d.message) (items_of (cond b (p ∷ catch_ups mine ps) (catch_ups mine ps)))) [
            | true ↦ (h.0.0.3.1, own_words ps h.1)
            | false ↦ own_words ps h.1
          ]

      pub known : IsKnownBy manifest replayer.restored replayer.deliveries.items (part mine records)
      known = subst (λ ps. IsKnownBy manifest replayer.restored ps (part mine records)) (sym its.deliveries) (record {
        restored = its.restored;
        good = catch-ups-stay-good manifest (part mine records) (items_of (catch_ups mine ds)) (parts-are-good manifest records mine good) (own_words ds typed);
        blanks = replayers-have-blanks manifest (part mine records) (items_of (catch_ups mine ds)) (blanks_in replayer.restored.stock) (λ kind. let same = its.blanks kind in omega (arith, same));
      })

    pub are_ready : All (IsReadyReplayer manifest) replayers
    are_ready v d less = record {
      held = held v d less;
      records = part (is_of_worker worker v) records;
      known = known v (get_or replayers v d) (slice_get-get_or replayers v d less);
    }

    pub are_dispatched : AreDispatched worker manifest records ds replayers
    are_dispatched = record {
      falls = falls;
      rising = good_records.rising;
      within = λ x. subst (λ n. worker x < n) (sym count) (within x);
      known = known;
      deliveries = λ v replayer at. (filled.each v replayer at).deliveries;
    }

    -- ---- once the deliveries are made again

    module _ (news : List (Replayer C G)) (pass : first_failure (catch_up_tests manifest records (items_of ds)) ≡ None) (parts : AreParts worker (redelivered_all manifest records (items_of ds)) news)
        (took : AllZip (HasTakenAgain manifest) replayers news) (same : AllZip HasSameTasks replayers news) (whole : AllZip IsWhole replayers news) where
      passes_own : (v : ℕ) → AllPass (catch_up_tests manifest (part (is_of_worker worker v) records) (items_of (catch_ups (is_of_worker worker v) ds)))
      passes_own v =
          let mine = is_of_worker worker v in
          let tests = catch_up_tests manifest records (items_of ds) in
          let stops = catch-ups-stop manifest records ds falls good_records.rising in
          done_passes manifest (part mine records) (catch_ups mine ds) (part mine (redelivered_all manifest records (items_of ds))) (stops.whole (none-left tests ds pass) mine)

      at_rest : (v : ℕ) (new : Replayer C G) → slice_get news v ≡ Some new → IsAtRest processors new
      at_rest v new at =
          let mine = is_of_worker worker v in
          let less : v < length replayers = (let within = slice_get_within news v new at in let many = zip_count IsWhole replayers news whole in omega (arith, within, many)) in
          let old = get_or replayers v new in
          let there : slice_get replayers v ≡ Some old = slice_get-get_or replayers v new less in
          let its = filled.each v old there in
          record {
            on = (zip_at IsWhole replayers news whole v old new there at).processors ∙ its.on;
            spare = λ kind.
                let taken = zip_at (HasTakenAgain manifest) replayers news took v old new there at (part mine records) (known v old there) kind in
                let own = its.blanks kind in
                let made : wanted_by_catch_up manifest kind (part mine records) (items_of (catch_ups mine ds)) ≡ made_by_catch_up manifest kind (part mine records) (items_of old.deliveries.items) =
                catch-up-made manifest kind (part mine records) (part mine records) (items_of (catch_ups mine ds)) (passes_own v) (λ x. refl)
                ∙ ap (λ ps. made_by_catch_up manifest kind (part mine records) (items_of ps)) (sym its.deliveries) in
                omega (arith, taken, own, made);
            tasks = (λ j. (zip_at HasSameTasks replayers news same v old new there at j).items) ∙ its.tasks;
          }

      pub are_caught_up : AreCaughtUp worker manifest records (items_of ds) processors (blanks_in stock) (blanks_in left) news
      are_caught_up = record {
        pass = pass;
        parts = parts;
        rest = at_rest;
        taken = λ kind.
            let all = subst (λ n. blanks_in left kind + together n (wanted_by_worker worker manifest records ds kind) ≡ blanks_in stock kind) count (filled.taken kind) in
            let sum = all-wanted worker (length olds) manifest kind records ds within good_records.rising in
            let made = catch-up-made manifest kind records records (items_of ds) (all-pass (catch_up_tests manifest records (items_of ds)) pass) (λ x. refl) in
            omega (arith, all, sum, made);
      }

      -- each replayer has its part on so many processors
      pub are_parts_on : ArePartsOn (worker_of processors (length news)) processors (redelivered_all manifest records (items_of ds)) news
      are_parts_on =
          let many : length news ≡ length olds = zip_count IsWhole replayers news whole ∙ count in
          record {
            rising = rising-caught_up manifest records (items_of ds) good_records.rising;
            within = λ x. mod-lt (home x processors) (subst (λ n. 0 < n) (sym many) some);
            parts = subst (λ n. AreParts (worker_of processors n) (redelivered_all manifest records (items_of ds)) news) (sym many) parts;
            on = λ v replayer at. (at_rest v replayer at).on;
          }
