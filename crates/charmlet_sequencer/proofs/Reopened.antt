-- The authority of a store that came back.
use Rattle.std.proofs.Common.{◌≡◌, ℕ, zero, suc, ◌+◌, ◌<◌, List, [], ◌∷◌, ◌++◌, length, map, get_or, refl, ap, sym, ◌∙◌, arith, subst}
use Rattle.std.proofs.Math.Seq.{get_or-append_seam}
use Rattle.std.proofs.lemmas.List.{append_assoc, append-nil, length-map, map-append, nil_from_length}
use Rattle.std.proofs.lemmas.List.Elements.{All-get_or, recursion_from_All}
use Rattle.std.proofs.lemmas.List.Sums.{sum_by-cons}
use Rattle.std.specs.Prelude.{Option, Some, None, slice_set}
use Rattle.std.specs.List.{All, AllByRecursion}
use Rattle.std.specs.Map.{lookup}
use Rattle.std.specs.BTreeMap.{is_at}
use Rattle.std.specs.Ordering.{nat_cmp}
use Rattle.charmlet_model.specs.declared.kind.Kind.{Kind}
use Rattle.charmlet_model.specs.Core.{present}
use Rattle.charmlet_model.specs.Shelves.{Shows}
use Rattle.charmlet_chare.specs.declared.chare.Chare.{Ghosts}
use Rattle.charmlet_history.specs.declared.history.History.{History}
use Rattle.charmlet_history.specs.Kept.{core_in}
use Rattle.charmlet_disk.specs.declared.disk.Disk as disks
use Rattle.charmlet_halves.specs.declared.halves.Halves.{Halves}
use Rattle.charmlet_shelf.specs.Count.{objects_on}
use Rattle.charmlet_shelf.specs.Shelf.{View}
use Rattle.charmlet_stock.specs.declared.stock.Stock.{Stock}
use Rattle.charmlet_stock.specs.Stock.{blanks_in, tally_in}
use Rattle.charmlet_migrate.specs.Moving.{IsIdle, objects_among, records_on}
use Rattle.charmlet_delivery.specs.UnderWay.{due_in}
use Rattle.charmlet_migrate.specs.StoreParts.{AreNumbered, FitTogether}
use Rattle.charmlet_sequencer.specs.Authority.{IsAuthorityOf, IsDueOn, objects_in_all, part_at, part_in, records_in}
use Rattle.charmlet_sequencer.specs.Opened.{AreShelvesOf}
use Rattle.charmlet_sequencer.specs.Part.{Part, objects_in, part_on}
use Rattle.charmlet_sequencer.specs.Together.{shown_by}
use Rattle.charmlet_sequencer.proofs.Authorities.{objects_are}

-- the part of each shelf
abbrev pub parts_of : List View → List (Option Part)
parts_of = map (λ (shelf : View). Some (part_on shelf))

-- ---- shelves that come back one after another

module _ (before rest after now all : List View) (shelf : View) (so_far : before ++ rest ≡ all) (is : rest ≡ shelf ∷ after) where
  pub split : before ++ shelf ∷ after ≡ all
  split = ap (λ (ss : List View). before ++ ss) (sym is) ∙ so_far

  pub one_more : now ≡ before ++ shelf ∷ [] → now ++ after ≡ all
  one_more new = ap (λ (ss : List View). ss ++ after) new ∙ append_assoc before (shelf ∷ []) after ∙ split

pub parts_more : (before now : List View) (shelf : View) (old new : List (Option Part)) → old ≡ parts_of before → new ≡ old ++ Some (part_on shelf) ∷ [] → now ≡ before ++ shelf ∷ [] → new ≡ parts_of now
parts_more before now shelf old new so_far more shelves =
    more ∙ ap (λ (ps : List (Option Part)). ps ++ Some (part_on shelf) ∷ []) so_far ∙ sym (map-append (λ (s : View). Some (part_on s)) before (shelf ∷ [])) ∙ ap parts_of (sym shelves)

pub none_left : (shelves rest all : List View) → shelves ++ rest ≡ all → length rest ≡ 0 → shelves ≡ all
none_left shelves rest all so_far none =
    sym (append-nil shelves) ∙ ap (λ (ss : List View). shelves ++ ss) (sym (nil_from_length rest none)) ∙ so_far

-- the last of a list is written over
pub write_last : {X : Type 0} (xs : List X) (x y : X) → slice_set (xs ++ x ∷ []) (length xs) y ≡ xs ++ y ∷ []
write_last [] x y = refl
write_last (a ∷ xs) x y = ap (λ rest. a ∷ rest) (write_last xs x y)

-- ---- a shelf of a store

module _ (before : List View) (shelf : View) (after all : List View) (is : before ++ shelf ∷ after ≡ all) where
  pub within : length before < length all
  within = subst (λ (ss : List View). length before < length ss) is (less before)
    where
      less : (ss : List View) → length ss < length (ss ++ shelf ∷ after)
      less [] = omega arith
      less (s ∷ ss) = let rest = less ss in omega arith

  here : get_or all (length before) shelf ≡ shelf
  here = subst (λ (ss : List View). get_or ss (length before) shelf ≡ shelf) is (get_or-append_seam before shelf after shelf)

  pub number_at : (parts : List (Option Part)) → parts ≡ parts_of before → AreNumbered all → length parts ≡ shelf.number
  number_at parts so_far numbers =
      ap (length {A = Option Part}) so_far ∙ length-map before (λ (s : View). Some (part_on s)) ∙ sym (numbers (length before) shelf within) ∙ ap (λ (s : View). s.number) here

  pub idle_at : All IsIdle all → IsIdle shelf
  idle_at idle = subst IsIdle here (All-get_or IsIdle all (length before) shelf within idle)

-- ---- what the authority has of all of them

pub rows_are : (shelves : List View) → records_on shelves ≡ records_in (parts_of shelves)
rows_are [] = refl
rows_are (s ∷ ss) = ap (λ rows. s.records ∷ rows) (rows_are ss)

objects_all : (shelves : List View) (kind : Kind) → objects_among shelves kind ≡ objects_in_all (parts_of shelves) kind
objects_all [] kind = refl
objects_all (s ∷ ss) kind =
    let here = objects_are s kind in
    let rest = objects_all ss kind in
    let one = sum_by-cons (λ (v : View). objects_on v kind) s ss in
    let other = sum_by-cons (λ (o : Option Part). objects_in (part_in o) kind) (Some (part_on s)) (parts_of ss) in
    omega arith

no_dues : (shelves : List View) (p : ℕ) → AllByRecursion IsIdle shelves → (part_at (parts_of shelves) p).due ≡ None
no_dues [] p idle = refl
no_dues (s ∷ ss) zero idle = ap due_in idle.0
no_dues (s ∷ ss) (suc p) idle = no_dues ss p idle.1

pub store_authority : {C : Type 0} {G : Ghosts C} (history : History) (shelves : List View) (stock : Stock C G) → FitTogether history shelves stock → (core_in history).assigned ≡ [] → IsAuthorityOf history stock (parts_of shelves)
store_authority history shelves stock fits none =
    let core = core_in history in
    record {
      count = length-map shelves (λ (shelf : View). Some (part_on shelf)) ∙ fits.count;
      shows = subst (λ rows. Shows rows core.places (present core)) (rows_are shelves) fits.objects;
      dues = λ p less. subst (λ o. IsDueOn core p o) (sym (no_dues shelves p (recursion_from_All IsIdle shelves fits.idle))) (ap (lookup (is_at (nat_cmp p))) none);
      census = λ kind. fits.census kind ∙ ap (λ n. n + blanks_in stock kind + (tally_in stock kind).retired) (objects_all shelves kind);
    }

-- ---- what is seen of them

pub store_shelves : {D C : Type 0} {H : disks.Ghosts D} {G : Ghosts C} (history : History) (shelves : List View) (stock : Stock C G) (halves : Halves D H) → FitTogether history shelves stock → AreShelvesOf (shown_by history stock halves) shelves
store_shelves history shelves stock halves fits = record {
  count = fits.count;
  numbers = fits.numbers;
  idle = fits.idle;
  objects = fits.objects;
  counted = fits.census;
}
