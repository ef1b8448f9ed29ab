-- The arrays of a script that is read make a manifest.
use Rattle.std.proofs.Common.{◌≡◌, ◌==◌, ◌+◌, ◌<◌, ◌≤◌, ◌∷◌, ◌++◌, ◌||◌, ◌&&◌, ◌⊎◌, not, nat_lt, subst, length-append, [], ℕ, List, Bool, true, false, cond, length, refl, sym, ap, ◌∙◌, arith, inl, inr, Option, Some, None, Ok, Err, option_and_then, if◌then◌else◌, is_some}
use Rattle.std.specs.List.{list_any}
use Rattle.std.specs.Option.{option_map_or}
use Rattle.std.proofs.lemmas.Bool.Decides.{nat_tests}
use Rattle.std.specs.Ordering.{nat_cmp}
use Rattle.std.specs.Cmp.{nat_cmp_total, nat_eq_equiv, unsigned_tied}
use Rattle.std.proofs.lemmas.List.{length-map, map-append}
use Rattle.std.proofs.lemmas.List.Folds.{list_any-append}
use Rattle.std.specs.Map.{lookup}
use Rattle.std.specs.BTreeMap.{insert_entry, is_at}
use Rattle.charmlet_model.specs.declared.kind.Kind.{Kind}
use Rattle.charmlet_model.specs.declared.kind.Kind.TheVariants.{Counter, Ring, Account, Sum, Tree, Tape}
use Rattle.charmlet_model.specs.declared.kind_version.KindVersion.{KindVersion}
use Rattle.charmlet_model.specs.Kind.{kind_number}
use Rattle.charmlet_model.specs.KindVersion.{newest_of, numbered_version}
use Rattle.charmlet_model.specs.Manifest.{manifest_of, with_array as with_entry, with_pairs}
use Rattle.charmlet_model.proofs.Maps.{lookup-insert_entry}
use Rattle.charmlet_model.proofs.ManifestLemmas.{manifest-bounded, with_pairs-at}
use Rattle.charmlet_script.specs.declared.script.ArrayLine.{ArrayLine}
use Rattle.charmlet_script.specs.declared.script.HandlerLine.{HandlerLine}
use Rattle.charmlet_model.specs.Texts.{Text}
use Rattle.charmlet_script.specs.declared.draft.Purpose.{Purpose}
use Rattle.charmlet_script.specs.declared.line.Item.{Item}
use Rattle.charmlet_script.specs.declared.line.Item.TheVariants as items
use Rattle.charmlet_script.specs.Script.{Contents, no_lines, pairs_of}
use Rattle.charmlet_script.specs.Line.{◌>>=◌, is_empty, item_of}
use Rattle.charmlet_script.specs.Reading.{has_array, is_array, is_array_line, may_add, may_declare, may_follow, with_array, with_handler, with_item, with_line, with_lines, with_processors}

-- a kind's number names its newest version
numbered-number : (kind : Kind) → Some (newest_of kind) ≡ numbered_version (kind_number kind)
numbered-number Counter = refl
numbered-number Ring = refl
numbered-number Account = refl
numbered-number Sum = refl
numbered-number Tree = refl
numbered-number Tape = refl

-- one step of `with_pairs`, and what follows it
then-append : (pairs : List (ℕ × ℕ)) (last : ℕ × ℕ) (more : Option (List (ℕ × KindVersion)))
    → ((entries : List (ℕ × KindVersion)) → with_pairs entries (pairs ++ last ∷ []) ≡ option_and_then (λ more. with_pairs more (last ∷ [])) (with_pairs entries pairs))
    → option_and_then (λ more. with_pairs more (pairs ++ last ∷ [])) more ≡ option_and_then (λ more. with_pairs more (last ∷ [])) (option_and_then (λ more. with_pairs more pairs) more)
then-append pairs last None rest = refl
then-append pairs last (Some entries) rest = rest entries

known-append : (entries : List (ℕ × KindVersion)) (array : ℕ) (pairs : List (ℕ × ℕ)) (last : ℕ × ℕ) (kind_version : Option KindVersion)
    → ((entries : List (ℕ × KindVersion)) → with_pairs entries (pairs ++ last ∷ []) ≡ option_and_then (λ more. with_pairs more (last ∷ [])) (with_pairs entries pairs))
    → option_and_then (λ kind_version. option_and_then (λ more. with_pairs more (pairs ++ last ∷ [])) (with_entry entries array kind_version)) kind_version
    ≡ option_and_then (λ more. with_pairs more (last ∷ [])) (option_and_then (λ kind_version. option_and_then (λ more. with_pairs more pairs) (with_entry entries array kind_version)) kind_version)
known-append entries array pairs last None rest = refl
known-append entries array pairs last (Some kind_version) rest = then-append pairs last (with_entry entries array kind_version) rest

-- one more pair comes after the others
with_pairs-append : (entries : List (ℕ × KindVersion)) (pairs : List (ℕ × ℕ)) (last : ℕ × ℕ) →
    with_pairs entries (pairs ++ last ∷ []) ≡ option_and_then (λ more. with_pairs more (last ∷ [])) (with_pairs entries pairs)
with_pairs-append entries [] last = refl
with_pairs-append entries (pair ∷ pairs) last =
    known-append entries pair.0 pairs last (numbered_version pair.1) (λ entries. with_pairs-append entries pairs last)

-- the entries that the arrays make, which have just these arrays
pub record AreEntries (arrays : List ArrayLine) (entries : List (ℕ × KindVersion)) : Type 0 where
  pub made : with_pairs [] (pairs_of arrays) ≡ Some entries
  pub same : (array : ℕ) → is_some (lookup (is_at (nat_cmp array)) entries) ≡ has_array array arrays

none_has : AreEntries [] []
none_has = record { made = refl; same = λ array. refl }

found-or : {X : Type 0} (here : Bool) (x : X) (found : Option X) → is_some (cond here (Some x) found) ≡ (is_some found || (here || false))
found-or true x None = refl
found-or true x (Some y) = refl
found-or false x None = refl
found-or false x (Some y) = refl

-- an array that has no line yet adds an entry
one_more : (arrays : List ArrayLine) (entries : List (ℕ × KindVersion)) (line : ArrayLine) → AreEntries arrays entries → has_array line.array arrays ≡ false
    → AreEntries (arrays ++ line ∷ []) (insert_entry nat_cmp entries line.array (newest_of line.kind))
one_more arrays entries line so_far new = record {
  made =
      let pair : ℕ × ℕ = (line.array, kind_number line.kind) in
      let last : with_pairs entries (pair ∷ []) ≡ Some (insert_entry nat_cmp entries line.array (newest_of line.kind)) =
      with_pairs-at entries (pair ∷ []) 0 (newest_of line.kind) false (omega arith) (numbered-number line.kind) (so_far.same line.array ∙ new) in
      ap (with_pairs []) (map-append (λ line. (line.array, kind_number line.kind)) arrays (line ∷ []))
      ∙ with_pairs-append [] (pairs_of arrays) pair
      ∙ ap (option_and_then (λ more. with_pairs more (pair ∷ []))) so_far.made
      ∙ last;
  same = λ array.
      ap is_some (lookup-insert_entry nat_cmp nat_cmp_total array line.array (newest_of line.kind) entries)
      ∙ ap (λ here. is_some (cond here (Some (newest_of line.kind)) (lookup (is_at (nat_cmp array)) entries))) (unsigned_tied array line.array ∙ nat_eq_equiv.symm array line.array)
      ∙ found-or (line.array == array) (newest_of line.kind) (lookup (is_at (nat_cmp array)) entries)
      ∙ ap (λ found. found || ((line.array == array) || false)) (so_far.same array)
      ∙ sym (list_any-append (λ other. other.array == array) arrays (line ∷ []));
}

-- at least one array and at most 64 make a manifest
pub manifest-is : (arrays : List ArrayLine) (entries : List (ℕ × KindVersion)) → AreEntries arrays entries → 1 ≤ length arrays → length arrays ≤ 64
    → is_some (manifest_of (pairs_of arrays)) ≡ true
manifest-is arrays entries h some few =
    let count : length (pairs_of arrays) ≡ length arrays = length-map arrays (λ line. (line.array, kind_number line.kind)) in
    ap is_some (manifest-bounded (pairs_of arrays) (omega arith) (omega arith) ∙ h.made)

-- ---- along the lines of a script

-- the arrays so far make entries, and are at most 64
pub record IsDeclared (script : Contents) : Type 0 where
  pub entries : List (ℕ × KindVersion)
  pub are : AreEntries script.arrays entries
  pub few : length script.arrays ≤ 64

pub no_lines-declared : IsDeclared no_lines
no_lines-declared = record { entries = []; are = none_has; few = omega arith }

both_parts : (a b : Bool) → (a && b) ≡ true → (a ≡ true) × (b ≡ true)
both_parts true b e = (refl, e)
both_parts false b e = absurd (cc)

not-true : (b : Bool) → not b ≡ true → b ≡ false
not-true false e = refl
not-true true e = absurd (cc)

-- the next script is declared too, and has an array where the last one or the item has
record GoesOn (script : Contents) (item : Item) (next : Contents) : Type 0 where
  declared : IsDeclared next
  keeps : 1 ≤ length script.arrays → 1 ≤ length next.arrays
  gets : is_array item ≡ true → 1 ≤ length next.arrays

with_array-goes_on : (purpose : Purpose) (script next : Contents) (line : ArrayLine) → IsDeclared script → with_array purpose script line ≡ Some next → GoesOn script (items.Array line) next
unfolding with_array
with_array-goes_on purpose script next line so_far e = if_added (may_add purpose script line) refl e
  where
    if_added : (may : Bool) → may_add purpose script line ≡ may → (if may then Some (record script { arrays = script.arrays ++ line ∷ [] }) else None) ≡ Some next
        → GoesOn script (items.Array line) next
    if_added false may none = absurd (cc)
    if_added true may added =
        let same : record script { arrays = script.arrays ++ line ∷ [] } ≡ next = cc in
        let header = both_parts purpose.describes_store (is_empty script.lines && (nat_lt (length script.arrays) 64 && not (has_array line.array script.arrays))) may in
        let parts = both_parts (is_empty script.lines) (nat_lt (length script.arrays) 64 && not (has_array line.array script.arrays)) header.1 in
        let ends = both_parts (nat_lt (length script.arrays) 64) (not (has_array line.array script.arrays)) parts.1 in
        let room : length script.arrays < 64 = grind (arith, nat_tests, ends.0) in
        let count : length (script.arrays ++ line ∷ []) ≡ length script.arrays + 1 = length-append script.arrays (line ∷ []) in
        subst (GoesOn script (items.Array line)) same (record {
          declared = record {
            entries = insert_entry nat_cmp so_far.entries line.array (newest_of line.kind);
            are = one_more script.arrays so_far.entries line so_far.are (not-true _ ends.1);
            few = omega arith;
          };
          keeps = λ some. omega arith;
          gets = λ is. omega arith;
        })

with_processors-goes_on : (purpose : Purpose) (script next : Contents) (processors : ℕ) → IsDeclared script → with_processors purpose script processors ≡ Some next → GoesOn script (items.Processors processors) next
unfolding with_processors
with_processors-goes_on purpose script next processors so_far e = if_declared (may_declare purpose script) e
  where
    if_declared : (may : Bool) → (if may then Some (record script { declared_processors = Some processors }) else None) ≡ Some next
        → GoesOn script (items.Processors processors) next
    if_declared false none = absurd (cc)
    if_declared true declared =
        let same : record script { declared_processors = Some processors } ≡ next = cc in
        subst (GoesOn script (items.Processors processors)) same (record {
          declared = record { entries = so_far.entries; are = so_far.are; few = so_far.few };
          keeps = λ some. some;
          gets = λ is. absurd (cc);
        })

with_handler-goes_on : (script next : Contents) (line : HandlerLine) → IsDeclared script → with_handler script line ≡ Some next → GoesOn script (items.Handler line) next
unfolding with_handler
with_handler-goes_on script next line so_far e = if_added (is_empty script.lines) e
  where
    if_added : (may : Bool) → (if may then Some (record script { handlers = script.handlers ++ line ∷ [] }) else None) ≡ Some next
        → GoesOn script (items.Handler line) next
    if_added false none = absurd (cc)
    if_added true added =
        let same : record script { handlers = script.handlers ++ line ∷ [] } ≡ next = cc in
        subst (GoesOn script (items.Handler line)) same (record {
          declared = record { entries = so_far.entries; are = so_far.are; few = so_far.few };
          keeps = λ some. some;
          gets = λ is. absurd (cc);
        })

with_item-goes_on : (purpose : Purpose) (script next : Contents) (item : Item) → IsDeclared script → with_item purpose script item ≡ Some next → GoesOn script item next
unfolding with_item
with_item-goes_on purpose script next items.Skipped so_far e =
    let same : script ≡ next = cc in
    subst (GoesOn script items.Skipped) same (record { declared = so_far; keeps = λ some. some; gets = λ is. absurd (cc) })
with_item-goes_on purpose script next (items.Processors processors) so_far e = with_processors-goes_on purpose script next processors so_far e
with_item-goes_on purpose script next (items.Array line) so_far e = with_array-goes_on purpose script next line so_far e
with_item-goes_on purpose script next (items.Handler line) so_far e = with_handler-goes_on script next line so_far e
with_item-goes_on purpose script next (items.Line line) so_far e = if_added (may_follow purpose.runner line) e
  where
    if_added : (may : Bool) → (if may then Some (record script { lines = script.lines ++ line ∷ [] }) else None) ≡ Some next
        → GoesOn script (items.Line line) next
    if_added false none = absurd (cc)
    if_added true added =
        let same : record script { lines = script.lines ++ line ∷ [] } ≡ next = cc in
        subst (GoesOn script (items.Line line)) same (record {
          declared = record { entries = so_far.entries; are = so_far.are; few = so_far.few };
          keeps = λ some. some;
          gets = λ is. absurd (cc);
        })

or-true : (a b : Bool) → (a || b) ≡ true → (a ≡ true) ⊎ (b ≡ true)
or-true true b e = inl refl
or-true false b e = inr e

-- one line of a script, by what it spells
if_read : (purpose : Purpose) (lines : List Text) (number : ℕ) (script final : Contents) → IsDeclared script → (spelled : Option Item)
    → (1 ≤ length script.arrays) ⊎ ((option_map_or is_array spelled false || list_any is_array_line lines) ≡ true)
    → option_map_or (λ next. with_lines purpose next (number + 1) lines) (spelled >>= with_item purpose script) (Err number) ≡ Ok final
    → ((next : Contents) → IsDeclared next → (1 ≤ length next.arrays) ⊎ (list_any is_array_line lines ≡ true) → with_lines purpose next (number + 1) lines ≡ Ok final → is_some (manifest_of (pairs_of final.arrays)) ≡ true)
    → is_some (manifest_of (pairs_of final.arrays)) ≡ true
if_read purpose lines number script final so_far None some e rest = absurd (cc)
if_read purpose lines number script final so_far (Some item) some e rest = if_added (with_item purpose script item) refl e
  where
    if_added : (added : Option Contents) → with_item purpose script item ≡ added → option_map_or (λ next. with_lines purpose next (number + 1) lines) added (Err number) ≡ Ok final
        → is_some (manifest_of (pairs_of final.arrays)) ≡ true
    if_added None is e = absurd (cc)
    if_added (Some next) is e =
        let step = with_item-goes_on purpose script next item so_far is in
        let later : (1 ≤ length next.arrays) ⊎ (list_any is_array_line lines ≡ true) = elim some [
          | inl here ↦ inl (step.keeps here)
          | inr found ↦ elim (or-true (is_array item) (list_any is_array_line lines) found) [
            | inl now ↦ inl (step.gets now)
            | inr follows ↦ inr follows
          ]
        ] in
        rest next step.declared later e

-- a script that was read to its end has a manifest, if it has an array or a line that is still to
-- come spells one
pub manifest-of_lines : (purpose : Purpose) (lines : List Text) (number : ℕ) (script final : Contents) → IsDeclared script
    → (1 ≤ length script.arrays) ⊎ (list_any is_array_line lines ≡ true) → with_lines purpose script number lines ≡ Ok final
    → is_some (manifest_of (pairs_of final.arrays)) ≡ true
unfolding with_lines with_line
manifest-of_lines purpose [] number script final so_far some e =
    let same : script ≡ final = cc in
    let one : 1 ≤ length script.arrays = elim some [ inl here ↦ here | inr later ↦ absurd (cc) ] in
    subst (λ (s : Contents). is_some (manifest_of (pairs_of s.arrays)) ≡ true) same (manifest-is script.arrays so_far.entries so_far.are one so_far.few)
manifest-of_lines purpose (line ∷ lines) number script final so_far some e =
    if_read purpose lines number script final so_far (item_of line) some e (λ next declared later rest. manifest-of_lines purpose lines (number + 1) next final declared later rest)
