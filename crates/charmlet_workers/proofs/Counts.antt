-- How many objects there are, by the authority of shelves.
use Rattle.std.proofs.Common.{◌≡◌, ℕ, zero, suc, ◌+◌, ◌<◌, ◌==◌, ◌&&◌, Bool, true, false, List, [], ◌∷◌, length, refl, sym, ap, ◌∙◌, arith, if◌then◌else◌}
use Rattle.std.specs.Option.{option_map_or}
use Rattle.std.specs.Prelude.{Option, Some, None, is_none, option_and_then, sum_by}
use Rattle.std.proofs.lemmas.List.Sums.{sum_by-cons}
use Rattle.charmlet_model.specs.declared.kind_version.KindVersion.{KindVersion}
use Rattle.charmlet_model.specs.declared.kind.Kind.{Kind}
use Rattle.charmlet_model.specs.declared.message.Message.{Message}
use Rattle.charmlet_model.specs.declared.names.MsgId.{MsgId}
use Rattle.charmlet_model.specs.Core.{Core, pending_message, present}
use Rattle.charmlet_model.specs.KindVersion.{kind_of_version}
use Rattle.charmlet_model.specs.Kind.{kind_number}
use Rattle.charmlet_model.specs.Shelves.{on_shelves, there_in}
use Rattle.charmlet_model.specs.Sound.{IsSound}
use Rattle.charmlet_model.specs.World.{version_of_array, record_of}
use Rattle.charmlet_model.proofs.ShelfCounts.{shelves_count}
use Rattle.charmlet_model.proofs.SoundLemmas.{sound_fit}
use Rattle.charmlet_shelf.specs.Due.{Due}
use Rattle.charmlet_stock.specs.declared.by_kind.ByKind.{ByKind}
use Rattle.charmlet_stock.specs.declared.pile.Tally.{Tally}
use Rattle.charmlet_stock.specs.ByKind.{at}
use Rattle.charmlet_sequencer.specs.Authority.{IsAuthorityIn, IsDueOn, objects_in_all, part_at, part_in, records_in}
use Rattle.charmlet_sequencer.specs.Part.{Part, brings, objects_in}
use Rattle.charmlet_workers.specs.Runtime.{IsTallyOf, brings_on, coming_on}

-- how many objects of the kind come by a delivery that is under way there
abbrev comes : Kind → Option Due → ℕ
comes kind due = if brings kind due then 1 else 0

-- how many come by all of them
abbrev coming_in : List (Option Part) → Kind → ℕ
coming_in parts kind = sum_by (λ o. comes kind (part_in o).due) parts

first_comes : (o : Option Part) (parts : List (Option Part)) (kind : Kind) → coming_in (o ∷ parts) kind ≡ comes kind (part_in o).due + coming_in parts kind
first_comes o parts kind = sum_by-cons (λ o. comes kind (part_in o).due) o parts

-- what is on shelves stands there or comes
stands_or_comes : (parts : List (Option Part)) (kind : Kind) → objects_in_all parts kind ≡ on_shelves (records_in parts) kind + coming_in parts kind
stands_or_comes [] kind = refl
stands_or_comes (o ∷ parts) kind =
    let objects = sum_by-cons (λ o. objects_in (part_in o) kind) o parts in
    let standing = sum_by-cons (λ records. there_in records kind) (part_in o).records (records_in parts) in
    omega (arith, objects, standing, first_comes o parts kind, stands_or_comes parts kind)

-- ---- a count of what comes on each processor

-- the sum of what a test gives for the first numbers
abbrev up_to : (ℕ → Bool) → ℕ → ℕ
up_to test zero = 0
up_to test (suc n) = up_to test n + (if test n then 1 else 0)

up_to-first : (test : ℕ → Bool) (n : ℕ) → up_to test (suc n) ≡ (if test 0 then 1 else 0) + up_to (λ k. test (suc k)) n
up_to-first test zero = omega arith
up_to-first test (suc n) = let before = up_to-first test n in omega (arith, before)

-- it is that of the parts, where the test is what each part brings
all_come : (parts : List (Option Part)) (kind : Kind) (test : ℕ → Bool) → ((processor : ℕ) → processor < length parts → brings kind (part_at parts processor).due ≡ test processor) →
    coming_in parts kind ≡ up_to test (length parts)
all_come [] kind test same = refl
all_come (o ∷ parts) kind test same =
    let first : comes kind (part_in o).due ≡ (if test 0 then 1 else 0) = ap (λ b. if b then 1 else 0) (same 0 (omega arith)) in
    let others = all_come parts kind (λ k. test (suc k)) (λ processor within. same (suc processor) (omega (arith, within))) in
    omega (arith, first_comes o parts kind, first, others, up_to-first test (length parts))

-- ---- what is under way on a processor

module _ (core : Core) (processor : ℕ) (kind : Kind) where
  abbrev of_kind : Option KindVersion → Bool
  of_kind o = option_map_or (λ kind_version. kind_number (kind_of_version kind_version) == kind_number kind) o false

  abbrev is_newcomer : Option Message → Bool
  is_newcomer o = option_map_or (λ m. is_none (record_of (present core) m.to).state && of_kind (version_of_array (present core) m.to.array)) o false

  brings-due : (due : Option Due) → IsDueOn core processor due → brings kind due ≡ brings_on core kind processor
  brings-due None none = sym (ap (λ (o : Option MsgId). is_newcomer (option_and_then (pending_message core) o)) none)
  brings-due (Some due) on =
      let its : brings_on core kind processor ≡ (is_none (record_of (present core) due.message.to).state && of_kind (version_of_array (present core) due.message.to.array)) = ap is_newcomer on.message in
      let seen : (is_none (record_of (present core) due.message.to).state && of_kind (version_of_array (present core) due.message.to.array)) ≡ brings kind (Some due) = (λ i. is_none (on.receiver i).state && of_kind (on.kind_version i)) in
      sym (its ∙ seen)

-- so each tally is that of its kind
pub tally_of : (core : Core) (census : ByKind Tally) (parts : List (Option Part)) → IsSound core → IsAuthorityIn core census parts → (kind : Kind) → IsTallyOf core kind (at census kind)
tally_of core census parts sound authority kind =
    let tally = at census kind in
    let there = shelves_count (records_in parts) core.places (present core) kind (sound_fit core sound).rising_records authority.shows in
    let come = all_come parts kind (brings_on core kind) (λ processor within. brings-due core processor kind (part_at parts processor).due (authority.dues processor within)) in
    let count = ap (up_to (brings_on core kind)) authority.count in
    let all : up_to (brings_on core kind) core.processors ≡ coming_on core kind core.processors = same_count core kind core.processors in
    omega (arith, authority.counted kind, stands_or_comes parts kind, there, come, count, all)
  where
    same_count : (core : Core) (kind : Kind) (n : ℕ) → up_to (brings_on core kind) n ≡ coming_on core kind n
    same_count core kind zero = refl
    same_count core kind (suc n) = ap (λ m. m + (if brings_on core kind n then 1 else 0)) (same_count core kind n)
