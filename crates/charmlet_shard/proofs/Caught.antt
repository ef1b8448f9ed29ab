-- Deliveries of a catch-up list that were made again, and those that are left.
use Rattle.std.proofs.Common.{◌≡◌, ℕ, ◌+◌, ◌-◌, true, false, List, [], ◌∷◌, ◌++◌, length, refl, sym, ap, subst, ◌∙◌, arith, append_assoc}
use Rattle.std.specs.Prelude.{Some, slice_get}
use Rattle.std.proofs.lemmas.List.{length-map, map-append}
use Rattle.charmlet_model.specs.declared.names.Elem.{Elem}
use Rattle.charmlet_model.specs.declared.kind.Kind.{Kind}
use Rattle.charmlet_model.specs.declared.logged.CatchUpEntry.{CatchUpEntry}
use Rattle.charmlet_model.specs.declared.state.Record.{Record}
use Rattle.charmlet_model.specs.Core.{Blanks}
use Rattle.charmlet_model.specs.World.{record_at}
use Rattle.charmlet_record.specs.declared.positioned.Positioned.{Positioned}
use Rattle.charmlet_record.specs.Reading.{Kinds}
use Rattle.charmlet_image.specs.Positioned.{items_of}
use Rattle.charmlet_recovery.specs.Bases.{redelivered, redelivered_all}
use Rattle.charmlet_recovery.specs.Blanks.{made_by_catch_up}
use Rattle.charmlet_recovery.specs.Faults.{catch_up_tests, first_failure, is_caught_up}
use Rattle.charmlet_chare.specs.declared.chare.Chare.{Ghosts}
use Rattle.charmlet_stock.specs.Stock.{blanks_in, supplied_to}
use Rattle.charmlet_shard.specs.Places.{IsFirstFault}
use Rattle.charmlet_shard.specs.RestoredShard.{AreGood, AreRedelivered, HasBlankAgain, HasBlanksAgain, IsHeld, IsRestored, StayGood, taken_again}
use Rattle.charmlet_shard.specs.declared.restored_shard.RestoredShard.{RestoredShard}
use Rattle.charmlet_shard.proofs.Tests.{fails_later, none_fails}

-- ---- a list in two parts

tests_after : (manifest : Kinds) (records : List (Elem × Record)) (xs ys : List CatchUpEntry) → catch_up_tests manifest records (xs ++ ys) ≡ catch_up_tests manifest records xs ++ catch_up_tests manifest (redelivered_all manifest records xs) ys
tests_after manifest records [] ys = refl
tests_after manifest records (d ∷ xs) ys = ap (λ ts. is_caught_up manifest (record_at records d.message.to) d ∷ ts) (tests_after manifest (redelivered manifest records d) xs ys)

records_after : (manifest : Kinds) (records : List (Elem × Record)) (xs ys : List CatchUpEntry) → redelivered_all manifest records (xs ++ ys) ≡ redelivered_all manifest (redelivered_all manifest records xs) ys
records_after manifest records [] ys = refl
records_after manifest records (d ∷ xs) ys = records_after manifest (redelivered manifest records d) xs ys

made_after : (manifest : Kinds) (kind : Kind) (records : List (Elem × Record)) (xs ys : List CatchUpEntry) →
    made_by_catch_up manifest kind records (xs ++ ys) ≡ made_by_catch_up manifest kind records xs + made_by_catch_up manifest kind (redelivered_all manifest records xs) ys
made_after manifest kind records [] ys = omega arith
made_after manifest kind records (d ∷ xs) ys = let more = made_after manifest kind (redelivered manifest records d) xs ys in omega arith

many_tests : (manifest : Kinds) (records : List (Elem × Record)) (xs : List CatchUpEntry) → length (catch_up_tests manifest records xs) ≡ length xs
many_tests manifest records [] = refl
many_tests manifest records (d ∷ xs) = let more = many_tests manifest (redelivered manifest records d) xs in omega arith

-- ---- what was made again

-- These deliveries were made again: the records are those after them, and the blanks that they took
-- are gone.
pub record Gone {C : Type 0} {G : Ghosts C} (manifest : Kinds) (records : List (Elem × Record)) (old : RestoredShard C G) (front : List CatchUpEntry) (new : RestoredShard C G) : Type 0 where
  pub made : AreRedelivered manifest records front new
  pub taken : (kind : Kind) → blanks_in new.stock kind + made_by_catch_up manifest kind records front ≡ blanks_in old.stock kind

-- what is known of the records before all of them
pub record Known {C : Type 0} {G : Ghosts C} (manifest : Kinds) (records : List (Elem × Record)) (old : RestoredShard C G) (all : List CatchUpEntry) : Type 0 where
  pub restored : IsRestored records old
  pub good : StayGood manifest records all
  pub blanks : HasBlanksAgain (blanks_in old.stock) manifest records all

-- Between two deliveries: those before are made, and the others are left.
pub record IsUnderWay {C : Type 0} {G : Ghosts C} (manifest : Kinds) (old now : RestoredShard C G) (all rest : List (Positioned CatchUpEntry)) : Type 0 where
  pub earlier : List (Positioned CatchUpEntry)
  pub whole : all ≡ earlier ++ rest
  pub held : IsHeld now
  pub gone : (records : List (Elem × Record)) → Known manifest records old (items_of all) → Gone manifest records old (items_of earlier) now
  pub processors : now.processors ≡ old.processors
  pub supplied : supplied_to now.stock ≡ supplied_to old.stock

module _ {C : Type 0} {G : Ghosts C} (manifest : Kinds) (old : RestoredShard C G) (all : List (Positioned CatchUpEntry)) where
  pub begins : IsHeld old → IsUnderWay manifest old old all all
  begins held = record {
    earlier = [];
    whole = refl;
    held = held;
    gone = λ records known. record { made = record { pass = refl; restored = known.restored }; taken = λ kind. omega arith };
    processors = refl;
    supplied = refl;
  }

  module _ (now : RestoredShard C G) (p : Positioned CatchUpEntry) (rest : List (Positioned CatchUpEntry)) (way : IsUnderWay manifest old now all (p ∷ rest)) (records : List (Elem × Record)) (known : Known manifest records old (items_of all)) where
    abbrev front : List CatchUpEntry
    front = items_of way.earlier

    abbrev here : List (Elem × Record)
    here = redelivered_all manifest records front

    gone : Gone manifest records old front now
    gone = way.gone records known

    whole : items_of all ≡ front ++ p.item ∷ items_of rest
    whole = ap items_of way.whole ∙ map-append (λ (q : Positioned CatchUpEntry). q.item) way.earlier (p ∷ rest)

    pub now_restored : IsRestored here now
    now_restored = gone.made.restored

    pub now_good : AreGood manifest here
    now_good = known.good front (p.item ∷ items_of rest) whole gone.made.pass

    pub now_blank : HasBlankAgain (blanks_in now.stock) manifest here p.item
    now_blank =
        let same : ◌≡◌ {A = Blanks} (λ kind. blanks_in old.stock kind - made_by_catch_up manifest kind records front) (blanks_in now.stock) = λ i kind. each kind i in
        subst (λ blanks. HasBlankAgain blanks manifest here p.item) same (known.blanks front (items_of rest) p.item whole gone.made.pass)
      where
        each : (kind : Kind) → blanks_in old.stock kind - made_by_catch_up manifest kind records front ≡ blanks_in now.stock kind
        each kind = let taken = gone.taken kind in omega arith

    -- the next one is the first that is at fault
    pub next_fault : is_caught_up manifest (record_at here p.item.message.to) p.item ≡ false → (left : ℕ) → left ≡ p.bytes_left → IsFirstFault (catch_up_tests manifest records (items_of all)) all left
    next_fault fails left is =
        let i : ℕ = length way.earlier in
        let place : length (catch_up_tests manifest records front) + 0 ≡ i = let many = many_tests manifest records front in let same = length-map way.earlier (λ (q : Positioned CatchUpEntry). q.item) in omega arith in
        let tests = catch_up_tests manifest (redelivered manifest here p.item) (items_of rest) in
        let first : first_failure (catch_up_tests manifest records (items_of all)) ≡ Some i =
        ap (λ ds. first_failure (catch_up_tests manifest records ds)) whole
        ∙ ap first_failure (tests_after manifest records front (p.item ∷ items_of rest))
        ∙ fails_later (catch_up_tests manifest records front) (is_caught_up manifest (record_at here p.item.message.to) p.item ∷ tests) 0 gone.made.pass (ap (λ b. first_failure (b ∷ tests)) fails)
        ∙ ap (λ (n : ℕ). Some n) place in
        (i, p, first, ap (λ ps. slice_get ps i) way.whole ∙ at_end way.earlier, is)
      where
        at_end : (xs : List (Positioned CatchUpEntry)) → slice_get (xs ++ p ∷ rest) (length xs) ≡ Some p
        at_end [] = refl
        at_end (x ∷ xs) = at_end xs

    pub next_gone : (new : RestoredShard C G) → is_caught_up manifest (record_at here p.item.message.to) p.item ≡ true → IsRestored (redelivered manifest here p.item) new →
        ((kind : Kind) → blanks_in new.stock kind + taken_again manifest here p.item kind ≡ blanks_in now.stock kind) → Gone manifest records old (items_of (way.earlier ++ p ∷ [])) new
    next_gone new passes restored taken =
        let list : items_of (way.earlier ++ p ∷ []) ≡ front ++ p.item ∷ [] = map-append (λ (q : Positioned CatchUpEntry). q.item) way.earlier (p ∷ []) in
        subst (λ ds. Gone manifest records old ds new) (sym list) (record {
          made = record {
            pass = ap first_failure (tests_after manifest records front (p.item ∷ []))
                ∙ none_fails (catch_up_tests manifest records front) (is_caught_up manifest (record_at here p.item.message.to) p.item ∷ []) gone.made.pass (ap (λ b. first_failure (b ∷ [])) passes);
            restored = subst (λ rs. IsRestored rs new) (sym (records_after manifest records front (p.item ∷ []))) restored;
          };
          taken = λ kind.
              let one = taken kind in
              let before = gone.taken kind in
              let sum = made_after manifest kind records front (p.item ∷ []) in
              omega arith;
        })

  -- one more is made
  pub goes_on : (now : RestoredShard C G) (p : Positioned CatchUpEntry) (rest : List (Positioned CatchUpEntry)) (way : IsUnderWay manifest old now all (p ∷ rest)) (new : RestoredShard C G) → IsHeld new → new.processors ≡ now.processors → supplied_to new.stock ≡ supplied_to now.stock →
      ((records : List (Elem × Record)) → Known manifest records old (items_of all) → Gone manifest records old (items_of (way.earlier ++ p ∷ [])) new) → IsUnderWay manifest old new all rest
  goes_on now p rest way new held processors supplied more = record {
    earlier = way.earlier ++ p ∷ [];
    whole = way.whole ∙ sym (append_assoc way.earlier (p ∷ []) rest);
    held = held;
    gone = more;
    processors = processors ∙ way.processors;
    supplied = supplied ∙ way.supplied;
  }
