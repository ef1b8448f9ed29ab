-- A delivery of a catch-up list that is made again, or skipped.
use Rattle.std.proofs.Common.{◌≡◌, ℕ, ◌+◌, ◌<◌, ◌≤◌, ◌==◌, ◌&&◌, ◌||◌, Bool, true, false, not, cond, List, [], ◌∷◌, length, refl, sym, ap, subst, ◌∙◌, arith, if◌then◌else◌}
use Rattle.std.specs.Prelude.{Option, Some, None, IfSome, is_some, nat_le, option_and_then, unwrap_or}
use Rattle.std.specs.Ordering.{nat_cmp}
use Rattle.std.specs.BTreeMap.{insert_entry, is_at}
use Rattle.std.specs.Map.{lookup}
use Rattle.std.proofs.lemmas.Map.Views.{tells_apart}
use Rattle.charmlet_model.specs.declared.names.Elem.{Elem}
use Rattle.charmlet_model.specs.declared.kind.Kind.{Kind}
use Rattle.charmlet_model.specs.declared.kind_version.KindVersion.{KindVersion}
use Rattle.charmlet_model.specs.declared.kind_version.KindVersion.TheVariants as kind_versions
use Rattle.charmlet_model.specs.declared.logged.CatchUpEntry.{CatchUpEntry}
use Rattle.charmlet_model.specs.declared.logged.Effect.{Effect}
use Rattle.charmlet_model.specs.declared.logged.Effect.TheVariants.{Constructed, Destroyed, Stayed}
use Rattle.charmlet_model.specs.declared.reaction.Reaction.{Reaction}
use Rattle.charmlet_model.specs.declared.state.Record.{Record}
use Rattle.charmlet_model.specs.declared.state.State.{State}
use Rattle.charmlet_model.specs.declared.TheConstants.{CONSTRUCT}
use Rattle.charmlet_model.specs.Core.{Blanks, home, with_taken}
use Rattle.charmlet_model.specs.Kind.{kind_number}
use Rattle.charmlet_model.specs.KindVersion.{kind_of_version}
use Rattle.charmlet_model.specs.Logging.{effect_between}
use Rattle.charmlet_model.specs.Names.{elem_cmp}
use Rattle.charmlet_model.specs.Packed.{IsState}
use Rattle.charmlet_model.specs.Reaction.{constructed, kind_version_of, greatest, react}
use Rattle.charmlet_model.specs.World.{advanced, no_record, record_at}
use Rattle.charmlet_model.proofs.Maps.{both_parts, elem_exact, elem_total, rising-insert_entry}
use Rattle.charmlet_shard.specs.Home.{AreHome}
use Rattle.charmlet_world.specs.declared.element.Element.{Element}
use Rattle.charmlet_world.specs.Seen.{element_at, no_element}
use Rattle.charmlet_history.specs.Opened.{opened_element, opened_elements}
use Rattle.charmlet_record.specs.Reading.{Kinds}
use Rattle.charmlet_recovery.specs.Bases.{is_skipped, reaction, records_after, redelivered}
use Rattle.charmlet_recovery.specs.Blanks.{array_is, constructs, is_of, one_if}
use Rattle.charmlet_recovery.specs.Faults.{has_effect, is_caught_up, is_next_delivery, same_effect, takes}
use Rattle.charmlet_shard.specs.Receiving.{IsKnownAs, blank_for}
use Rattle.charmlet_shard.specs.RestoredShard.{AreGood, HasBlankAgain, IsHeld, IsRestored, effect_of, is_next, taken_again}
use Rattle.charmlet_shard.proofs.Entries.{opened_insert, taken_of_array}
use Rattle.std.specs.Cmp.{nat_eq_equiv}
use Rattle.charmlet_locate.specs.Locations.{is_processor_count}
use Rattle.std.specs.List.{All}
use Rattle.std.proofs.lemmas.Bool.{leb-true}
use Rattle.charmlet_chare.specs.declared.chare.Chare.{Ghosts}
use Rattle.charmlet_migrate.specs.Moving.{IsCountedAmong, IsIdle}
use Rattle.charmlet_shelf.specs.Shelf.{View}
use Rattle.charmlet_stock.specs.Stock.{keeping_of}
use Rattle.charmlet_shard.specs.declared.restored_shard.RestoredShard.{RestoredShard}

-- ---- what is kept of an element is what its record says

pub known_element : (n : ℕ) (records : List (Elem × Record)) (x : Elem) → element_at (opened_elements n records) x ≡ opened_element n x (record_at records x)
known_element n [] x = refl
known_element n (e ∷ es) x =
    elim (is_at (elem_cmp x) e.0) as (λ b. is_at (elem_cmp x) e.0 ≡ b →
    unwrap_or (cond b (Some (opened_element n e.0 e.1)) (lookup (is_at (elem_cmp x)) (opened_elements n es))) no_element
    ≡ opened_element n x (unwrap_or (cond b (Some e.1) (lookup (is_at (elem_cmp x)) es)) no_record)) [
      | true ↦ λ same. ap (λ y. opened_element n y e.1) (sym (tells_apart elem_exact x e.0 same))
      | false ↦ λ _. known_element n es x
    ] refl

there_is : (n : ℕ) (x : Elem) (r : Record) → is_some (opened_element n x r).place ≡ is_some r.state
there_is n x r = elim (is_some r.state) as (λ b. is_some (if b then Some (home x n) else None) ≡ b) [ true ↦ refl | false ↦ refl ]

-- ---- effects

effect_is : (s t : Option State) → effect_of (is_some s) (is_some t) ≡ effect_between s t
effect_is None None = refl
effect_is None (Some t) = refl
effect_is (Some s) None = refl
effect_is (Some s) (Some t) = refl

apart : (a b : Effect) → (a ≡ b → ⊥) → same_effect a b ≡ false
apart Stayed Stayed other = absurd (other refl)
apart Constructed Constructed other = absurd (other refl)
apart Destroyed Destroyed other = absurd (other refl)
apart Stayed Constructed other = refl
apart Stayed Destroyed other = refl
apart Constructed Stayed other = refl
apart Constructed Destroyed other = refl
apart Destroyed Stayed other = refl
apart Destroyed Constructed other = refl

exact : (a b : Effect) → same_effect a b ≡ true → a ≡ b
exact Stayed Stayed h = refl
exact Constructed Constructed h = refl
exact Destroyed Destroyed h = refl
exact Stayed Constructed h = absurd (let never : ⊥ = cc in never)
exact Stayed Destroyed h = absurd (let never : ⊥ = cc in never)
exact Constructed Stayed h = absurd (let never : ⊥ = cc in never)
exact Constructed Destroyed h = absurd (let never : ⊥ = cc in never)
exact Destroyed Stayed h = absurd (let never : ⊥ = cc in never)
exact Destroyed Constructed h = absurd (let never : ⊥ = cc in never)

is_constructed : (kind_version : KindVersion) (me : Elem) (words : List ℕ) → is_some (constructed kind_version me words).state ≡ true
is_constructed kind_versions.Counter me words = refl
is_constructed kind_versions.Ring me words = refl
is_constructed kind_versions.Account me words = refl
is_constructed kind_versions.Sum me words = refl
is_constructed kind_versions.Tree me words = refl
is_constructed kind_versions.Tape me words = refl
is_constructed kind_versions.FirstCounter me words = refl

-- a receiver that isn't there is constructed, and no other one is
constructs_absent : (kind_version : KindVersion) (x : Elem) (s : Option State) (entry : ℕ) (words : List ℕ) (o : Reaction) → react kind_version x s entry words ≡ Some o → same_effect (effect_between s o.state) Constructed ≡ not (is_some s)
constructs_absent kind_version x (Some s) entry words o is = by o.state
  where
    by : (t : Option State) → same_effect (effect_between (Some s) t) Constructed ≡ false
    by None = refl
    by (Some t) = refl
constructs_absent kind_version x None entry words o is =
    elim (entry == CONSTRUCT) as (λ b. (if b then Some (constructed kind_version x words) else None) ≡ Some o → same_effect (effect_between None o.state) Constructed ≡ true) [
      | true ↦ λ same.
          let made : constructed kind_version x words ≡ o = cc in
          by o.state (ap (λ (v : Reaction). is_some v.state) (sym made) ∙ is_constructed kind_version x words)
      | false ↦ λ none. absurd (let never : ⊥ = cc in never)
    ] is
  where
    by : (t : Option State) → is_some t ≡ true → same_effect (effect_between None t) Constructed ≡ true
    by None h = absurd (let never : ⊥ = cc in never)
    by (Some t) h = refl

-- ---- one delivery

both_false : (a b : Bool) → a ≡ false → (a && b) ≡ false
both_false a b h = ap (λ t. t && b) h

right_false : (a b : Bool) → b ≡ false → (a && b) ≡ false
right_false true b h = h
right_false false b h = refl

module _ (manifest : Kinds) (records : List (Elem × Record)) (d : CatchUpEntry) (n : ℕ) where
  abbrev x : Elem
  x = d.message.to

  abbrev r : Record
  r = record_at records x

  abbrev e : Element
  e = opened_element n x r

  -- it is skipped
  pub skipped_passes : is_skipped r d ≡ true → is_caught_up manifest r d ≡ true
  skipped_passes h = ap (λ b. b || is_next_delivery manifest r d) h

  pub skipped_leaves : is_skipped r d ≡ true → redelivered manifest records d ≡ records
  skipped_leaves h = ap (λ b. if b then records else records_after records x r (reaction manifest r d.message)) h

  pub skipped_takes : is_skipped r d ≡ true → (kind : Kind) → taken_again manifest records d kind ≡ 0
  skipped_takes h kind = ap (λ b. one_if (not b && constructs r (reaction manifest r d.message) && array_is manifest kind x.array)) h

  module _ (new : is_skipped r d ≡ false) where
    -- the test of its number and of its receiver
    abbrev tested : Bool
    tested = (d.received == r.received + 1) && takes r d.message.entry

    tested_is : is_next e d.received d.message.entry ≡ tested
    tested_is = ap (λ b. (d.received == r.received + 1) && ((b || (d.message.entry == CONSTRUCT)) && nat_le (r.received + 1) greatest && nat_le (r.sent + 16) greatest)) (there_is n x r)

    caught_up_is : is_caught_up manifest r d ≡ (tested && has_effect r (reaction manifest r d.message) d.effect)
    caught_up_is = ap (λ b. b || is_next_delivery manifest r d) new

    -- one that isn't the next one is a fault
    pub not_next : is_next e d.received d.message.entry ≡ false → is_caught_up manifest r d ≡ false
    not_next h = caught_up_is ∙ both_false tested (has_effect r (reaction manifest r d.message) d.effect) (sym tested_is ∙ h)

    -- so is one to an array that isn't there
    pub no_array : lookup (is_at (nat_cmp x.array)) manifest ≡ None → is_caught_up manifest r d ≡ false
    no_array h =
        caught_up_is
        ∙ right_false tested (has_effect r (reaction manifest r d.message) d.effect)
        (ap (λ o. has_effect r (option_and_then (λ k. react k x r.state d.message.entry d.message.words) o) d.effect) h)

    module _ (next : is_next e d.received d.message.entry ≡ true) (kind_version : KindVersion) (is : lookup (is_at (nat_cmp x.array)) manifest ≡ Some kind_version) where
      passes : tested ≡ true
      passes = sym tested_is ∙ next

      pub can : takes r d.message.entry ≡ true
      can = (both_parts (d.received == r.received + 1) (takes r d.message.entry) passes).1

      pub is_known : AreGood manifest records → IsKnownAs kind_version r e
      is_known good = record {
        there = there_is n x r;
        counts = record { sent = refl; received = refl };
        kind_version_is = kind_version_known r.state (subst (λ o. IfSome r.state (λ s. (o ≡ Some (kind_version_of s)) × IsState s)) is (good x).state);
      }
        where
          kind_version_known : (o : Option State) → IfSome o (λ s. (Some kind_version ≡ Some (kind_version_of s)) × IsState s) → IfSome o (λ s. kind_version_of s ≡ kind_version)
          kind_version_known None h = tt
          kind_version_known (Some s) h = let same : Some kind_version ≡ Some (kind_version_of s) = h.0 in let one : kind_version_of s ≡ kind_version = cc in one

      reaction_is : reaction manifest r d.message ≡ react kind_version x r.state d.message.entry d.message.words
      reaction_is = ap (option_and_then (λ k. react k x r.state d.message.entry d.message.words)) is

      -- a construction that lacks its blank is a fault
      pub lacks_blank : (blanks : Blanks) → HasBlankAgain blanks manifest records d → e.place ≡ None → blanks (kind_of_version kind_version) ≡ 0 → is_caught_up manifest r d ≡ false
      lacks_blank blanks has absent none =
          caught_up_is ∙ right_false tested (has_effect r (reaction manifest r d.message) d.effect) (ap (λ o. has_effect r o d.effect) reaction_is ∙ by (react kind_version x r.state d.message.entry d.message.words) refl)
        where
          gone : is_some r.state ≡ false
          gone = sym (there_is n x r) ∙ ap is_some absent

          of_kind : array_is manifest (kind_of_version kind_version) x.array ≡ true
          of_kind = ap (is_of (kind_of_version kind_version)) is ∙ nat_eq_equiv.refl (kind_number (kind_of_version kind_version))

          by : (o : Option Reaction) → react kind_version x r.state d.message.entry d.message.words ≡ o → has_effect r o d.effect ≡ false
          by None same = refl
          by (Some o) same =
              let makes : same_effect (effect_between r.state o.state) Constructed ≡ true = constructs_absent kind_version x r.state d.message.entry d.message.words o same ∙ ap not gone in
              let made : effect_between r.state o.state ≡ Constructed = exact (effect_between r.state o.state) Constructed makes in
              ap (λ f. same_effect f d.effect) made
              ∙ apart Constructed d.effect (λ written. let some : 1 ≤ blanks (kind_of_version kind_version) = has (kind_of_version kind_version) new (sym written) of_kind in let no : ⊥ = omega arith in no)

      module _ (o : Reaction) (made : react kind_version x r.state d.message.entry d.message.words ≡ Some o) where
        reaction_some : reaction manifest r d.message ≡ Some o
        reaction_some = reaction_is ∙ made

        effect_made : effect_of (is_some e.place) (is_some (opened_element n x (advanced r o)).place) ≡ effect_between r.state o.state
        effect_made = (λ i. effect_of (there_is n x r i) (there_is n x (advanced r o) i)) ∙ effect_is r.state o.state

        -- one with another effect is a fault
        pub other_effect : same_effect (effect_of (is_some e.place) (is_some (opened_element n x (advanced r o)).place)) d.effect ≡ false → is_caught_up manifest r d ≡ false
        other_effect other =
            caught_up_is ∙ right_false tested (has_effect r (reaction manifest r d.message) d.effect)
            (ap (λ v. has_effect r v d.effect) reaction_some ∙ ap (λ f. same_effect f d.effect) (sym effect_made) ∙ other)

        -- and else it passes
        pub same_passes : same_effect (effect_of (is_some e.place) (is_some (opened_element n x (advanced r o)).place)) d.effect ≡ true → is_caught_up manifest r d ≡ true
        same_passes same =
            caught_up_is
            ∙ (λ i. passes i && has_effect r (reaction_some i) d.effect)
            ∙ ap (λ f. same_effect f d.effect) (sym effect_made) ∙ same

        pub redelivered_is : redelivered manifest records d ≡ insert_entry elem_cmp records x (advanced r o)
        redelivered_is = ap (λ b. if b then records else records_after records x r (reaction manifest r d.message)) new ∙ ap (records_after records x r) reaction_some

        -- the blank that it took
        pub blank_taken : (blanks : Blanks) → HasBlankAgain blanks manifest records d → same_effect (effect_of (is_some e.place) (is_some (opened_element n x (advanced r o)).place)) d.effect ≡ true → (k : Kind) →
            with_taken (blank_for kind_version e) blanks k + taken_again manifest records d k ≡ blanks k
        blank_taken blanks has same k =
            let makes : constructs r (reaction manifest r d.message) ≡ not (is_some r.state) =
            ap (constructs r) reaction_some ∙ constructs_absent kind_version x r.state d.message.entry d.message.words o made in
            let there = there_is n x r in
            (λ i. with_taken (if there i then None else Some kind_version) blanks k + one_if (not (new i) && makes i && array_is manifest k x.array))
            ∙ by (is_some r.state) refl
          where
            by : (b : Bool) → is_some r.state ≡ b → with_taken (if b then None else Some kind_version) blanks k + one_if (not b && array_is manifest k x.array) ≡ blanks k
            by true there = omega arith
            by false gone =
                taken_of_array blanks manifest x.array kind_version true is
                (λ _. has (kind_of_version kind_version) new
                (sym (exact (effect_of (is_some e.place) (is_some (opened_element n x (advanced r o)).place)) d.effect same) ∙ effect_made ∙ exact (effect_between r.state o.state) Constructed (constructs_absent kind_version x r.state d.message.entry d.message.words o made ∙ ap not gone))
                (ap (is_of (kind_of_version kind_version)) is ∙ nat_eq_equiv.refl (kind_number (kind_of_version kind_version)))) k

-- ---- what is held

pub not_skipped : (m n : ℕ) → n < m → nat_le m n ≡ false
not_skipped m n more = elim (nat_le m n) as (λ b. nat_le m n ≡ b → b ≡ false) [ true ↦ λ less. absurd (let h = leb-true m n less in let no : ⊥ = omega arith in no) | false ↦ λ _. refl ] refl

pub held_so : {C : Type 0} {G : Ghosts C} (old new : RestoredShard C G) (shelves : List View) → IsHeld old → new.processors ≡ old.processors → new.shelves.items ≡ shelves → length shelves ≡ length old.shelves.items →
    All IsIdle shelves → IsCountedAmong shelves new.stock → keeping_of new.stock ≡ keeping_of old.stock → IsHeld new
held_so old new shelves held processors is count idle counted keeping = record {
  processors = ap (λ n. is_processor_count n) processors ∙ held.processors;
  count = ap length is ∙ count ∙ held.count ∙ sym processors;
  idle = subst (All IsIdle) (sym is) idle;
  census = subst (λ vs. IsCountedAmong vs new.stock) (sym is) counted;
  keeping = keeping ∙ held.keeping;
}

-- ---- one element more, or another record of one

pub restored_so : {C : Type 0} {G : Ghosts C} (records : List (Elem × Record)) (old new : RestoredShard C G) (x : Elem) (r : Record) (e : Element) → IsRestored records old → new.processors ≡ old.processors →
    new.elements.entries ≡ insert_entry elem_cmp old.elements.entries x e → e ≡ opened_element old.processors x r → AreHome old.processors (insert_entry elem_cmp records x r) new.shelves.items →
    IsRestored (insert_entry elem_cmp records x r) new
restored_so records old new x r e restored processors written is home = record {
  rising = rising-insert_entry elem_cmp elem_total x r records restored.rising;
  elements =
      written ∙ (λ i. insert_entry elem_cmp (restored.elements i) x (is i)) ∙ sym (opened_insert old.processors records x r)
      ∙ ap (λ n. opened_elements n (insert_entry elem_cmp records x r)) (sym processors);
  home = subst (λ n. AreHome n (insert_entry elem_cmp records x r) new.shelves.items) (sym processors) home;
}
