-- Replayers that become one, one after the other.
use Rattle.std.proofs.Common.{◌≡◌, ℕ, zero, suc, ◌+◌, ◌%◌, ◌<◌, ◌≤◌, ◌==◌, Bool, true, false, cond, List, [], ◌∷◌, length, get_or, drop, refl, sym, ap, subst, ◌∙◌, arith, if◌then◌else◌, lt-ltb}
use Rattle.std.specs.Prelude.{Option, Some, is_some, nat_lt, slice_get, unwrap_or}
use Rattle.std.proofs.lemmas.Bool.{eq-eqb, eqb-true, ltb-false, ltb-true}
use Rattle.std.proofs.lemmas.List.Sums.{sum_by-cons}
use Rattle.std.proofs.lemmas.Nat.{mod_below}
use Rattle.charmlet_model.specs.declared.kind.Kind.{Kind}
use Rattle.charmlet_model.specs.declared.names.Elem.{Elem}
use Rattle.charmlet_model.specs.declared.state.Record.{Record}
use Rattle.charmlet_model.specs.Core.{home}
use Rattle.charmlet_chare.specs.declared.chare.Chare.{Ghosts}
use Rattle.charmlet_shelf.specs.Count.{objects_on}
use Rattle.charmlet_shelf.specs.Shelf.{View}
use Rattle.charmlet_stock.specs.declared.stock.Stock.{Stock}
use Rattle.charmlet_stock.specs.ByKind.{for_all}
use Rattle.charmlet_stock.specs.Stock.{blanks_in, keeping_of, supplied_to}
use Rattle.charmlet_migrate.specs.Copying.{empty_shelf}
use Rattle.charmlet_migrate.specs.Moving.{IsCountedAmong, objects_among}
use Rattle.charmlet_stock.specs.Absorption.Absorbed.{HasRoomThere, IsAbsorbed, retired_in}
use Rattle.charmlet_log_scan.specs.Partition.Parts.{is_of_worker, part}
use Rattle.charmlet_replay.specs.Home.{AreHome}
use Rattle.charmlet_replay.proofs.Begun.{none_home}
use Rattle.charmlet_replayers.specs.declared.replayer.replayer.Replayer.{Replayer}
use Rattle.charmlet_replayers.proofs.ReplayerLemmas.Combined.{joined_are_home}
use Rattle.charmlet_merge.specs.Combined.{IsJoinable, blanks_of_replayers, drawn_by_replayers, worker_at_home}
use Rattle.charmlet_merge.specs.Taken.{HaveTaken}
use Rattle.charmlet_merge.proofs.Counts.{bare, none-there, sum-three}

module _ {C : Type 0} {G : Ghosts C} where
  -- the shelves of the replayer with this number
  abbrev shelves_at : List (Replayer C G) → ℕ → List View
  shelves_at [] v = []
  shelves_at (replayer ∷ replayers) zero = replayer.restored.shelves.items
  shelves_at (replayer ∷ replayers) (suc v) = shelves_at replayers v

  replayer-at : (replayers : List (Replayer C G)) (v : ℕ) → v < length replayers → (replayer : Replayer C G) × (slice_get replayers v ≡ Some replayer) × (shelves_at replayers v ≡ replayer.restored.shelves.items)
  replayer-at [] v within = absurd (omega (arith, within))
  replayer-at (replayer ∷ replayers) zero within = (replayer, refl, refl)
  replayer-at (replayer ∷ replayers) (suc v) within = replayer-at replayers v (omega (arith, within))

  -- the first of those that are left
  first-left : (replayers : List (Replayer C G)) (v : ℕ) (replayer : Replayer C G) (more : List (Replayer C G)) → drop v replayers ≡ replayer ∷ more → (slice_get replayers v ≡ Some replayer) × (drop (suc v) replayers ≡ more)
  first-left [] zero replayer more is = absurd (let size = ap length is in let never : ⊥ = omega (arith, size) in never)
  first-left [] (suc v) replayer more is = absurd (let size = ap length is in let never : ⊥ = omega (arith, size) in never)
  first-left (l ∷ replayers) zero replayer more is = (ap (λ (ls : List (Replayer C G)). slice_get ls 0) is, ap (λ (ls : List (Replayer C G)). drop 1 ls) is)
  first-left (l ∷ replayers) (suc v) replayer more is = first-left replayers v replayer more is

  same-replayer : (replayers : List (Replayer C G)) (v : ℕ) (replayer : Replayer C G) → slice_get replayers v ≡ Some replayer → shelves_at replayers v ≡ replayer.restored.shelves.items
  same-replayer [] v replayer is = absurd (let contra : false ≡ true = ap is_some is in let never : ⊥ = cc in never)
  same-replayer (l ∷ replayers) zero replayer is = ap (λ (o : Option (Replayer C G)). (unwrap_or o l).restored.shelves.items) is
  same-replayer (l ∷ replayers) (suc v) replayer is = same-replayer replayers v replayer is

  module _ (n : ℕ) (records : List (Elem × Record)) (all : List (Replayer C G)) (empties : List View) (start : Stock C G) where
    abbrev workers : ℕ
    workers = length all

    -- the first replayers are in
    pub record IsJoining (v : ℕ) (left : List (Replayer C G)) (shelves : List View) (stock : Stock C G) : Type 0 where
      pub place : v + length left ≡ workers
      pub rest : drop v all ≡ left
      pub count : length shelves ≡ n
      pub taken : (p : ℕ) (d : View) → p < n → get_or shelves p d ≡ (if nat_lt (p % workers) v then get_or (shelves_at all (p % workers)) p d else empty_shelf p)
      pub counted : (kind : Kind) → supplied_to stock kind ≡ objects_among shelves kind + blanks_in stock kind + retired_in stock kind + drawn_by_replayers left kind
      pub blanks : (kind : Kind) → blanks_in stock kind + blanks_of_replayers left kind ≡ blanks_in start kind + blanks_of_replayers all kind
      pub supplied : (kind : Kind) → supplied_to stock kind ≡ supplied_to start kind
      pub keeping : keeping_of stock ≡ keeping_of start

    module _ (can : IsJoinable n records all empties start) where
      abbrev mine : ℕ → Elem → Bool
      mine = is_of_worker (worker_at_home n workers)

      no-objects : (p : ℕ) (kind : Kind) → objects_on (empty_shelf p) kind ≡ 0
      no-objects p kind = bare (empty_shelf p) kind refl refl

      none-yet : (kind : Kind) (k : ℕ) (shelves : List View) → ((p : ℕ) (d : View) → p < length shelves → get_or shelves p d ≡ empty_shelf (k + p)) → objects_among shelves kind ≡ 0
      none-yet kind k [] each = refl
      none-yet kind k (s ∷ shelves) each =
          let here : objects_on s kind ≡ 0 = ap (λ (v : View). objects_on v kind) (each 0 s (omega arith)) ∙ no-objects (k + 0) kind in
          let rest = none-yet kind (k + 1) shelves (λ p d within. let same : k + suc p ≡ k + 1 + p = omega arith in each (suc p) d (omega (arith, within)) ∙ ap empty_shelf same) in
          let sum = sum_by-cons (λ (v : View). objects_on v kind) s shelves in
          omega (arith, here, rest, sum)

      never-first : (p : ℕ) → nat_lt p 0 ≡ false
      never-first p = elim (nat_lt p 0) as (λ b. nat_lt p 0 ≡ b → b ≡ false) [ true ↦ λ less. let is = ltb-true p 0 less in absurd (let never : ⊥ = omega (arith, is) in never) | false ↦ λ _. refl ] refl

      pub joining_begins : IsJoining 0 all empties start
      joining_begins = record {
        place = omega arith;
        rest = refl;
        count = can.empty.count;
        taken = λ p d within. can.empty.empty p d within ∙ sym (ap (λ b. if b then get_or (shelves_at all (p % workers)) p d else empty_shelf p) (never-first (p % workers)));
        counted = λ kind.
            let shared = can.shared kind in
            let none = none-yet kind 0 empties (λ p d within. let count = can.empty.count in let same : p ≡ 0 + p = omega arith in can.empty.empty p d (omega (arith, within, count)) ∙ ap empty_shelf same) in
            omega (arith, shared, none);
        blanks = λ kind. refl;
        supplied = λ kind. refl;
        keeping = refl;
      }

      module _ (v : ℕ) (replayer : Replayer C G) (more : List (Replayer C G)) (shelves : List View) (stock : Stock C G) (joining : IsJoining v (replayer ∷ more) shelves stock) where
        its : slice_get all v ≡ Some replayer
        its = (first-left all v replayer more joining.rest).0

        pub its_home : AreHome n (part (mine v) records) replayer.restored.shelves.items
        its_home = subst (λ m. AreHome m (part (mine v) records) replayer.restored.shelves.items) (can.on v replayer its) (can.parts v replayer its).home

        pub as_many : length shelves ≡ length replayer.restored.shelves.items
        as_many = joining.count ∙ sym its_home.count

        pub keeps : keeping_of replayer.restored.stock ≡ for_all true
        keeps = (can.held v replayer its).keeping

        abbrev sums : (kind : Kind) → supplied_to replayer.restored.stock kind ≡ objects_among replayer.restored.shelves.items kind + blanks_in replayer.restored.stock kind + retired_in replayer.restored.stock kind
        sums kind = (can.held v replayer its).census kind

        drawn : (kind : Kind) → drawn_by_replayers (replayer ∷ more) kind ≡ supplied_to replayer.restored.stock kind + drawn_by_replayers more kind
        drawn kind = sum_by-cons (λ (l : Replayer C G). supplied_to l.restored.stock kind) replayer more

        pub room : (kind : Kind) → HasRoomThere replayer.restored.stock stock kind
        room kind =
            let counted = joining.counted kind in
            let out = drawn kind in
            let own = sums kind in
            omega (arith, counted, out, own)

        module _ (new : List View) (last : Stock C G) (taken : HaveTaken v workers shelves replayer.restored.shelves.items new) (absorbed : IsAbsorbed replayer.restored.stock stock last) where
          theirs : shelves_at all v ≡ replayer.restored.shelves.items
          theirs = same-replayer all v replayer its

          -- a processor of this replayer had an empty shelf until now
          was-empty : (p : ℕ) (d : View) → p < n → (p % workers == v) ≡ true → get_or shelves p d ≡ empty_shelf p
          was-empty p d within its_own =
              let same = eqb-true (p % workers) v its_own in
              let low : nat_lt (p % workers) v ≡ false = (elim (nat_lt (p % workers) v) as (λ b. nat_lt (p % workers) v ≡ b → b ≡ false) [ true ↦ λ less. let is = ltb-true (p % workers) v less in absurd (let never : ⊥ = omega (arith, is, same) in never) | false ↦ λ _. refl ] refl) in
              joining.taken p d within ∙ ap (λ b. if b then get_or (shelves_at all (p % workers)) p d else empty_shelf p) low

          one-shelf : (kind : Kind) (p : ℕ) (d : View) → p < length new → objects_on (get_or new p d) kind ≡ objects_on (get_or shelves p d) kind + objects_on (get_or replayer.restored.shelves.items p d) kind
          one-shelf kind p d within =
              let count = taken.count in
              let among = joining.count in
              let many = as_many in
              let inside : p < length shelves = omega (arith, within, count) in
              let on : p < n = omega (arith, inside, among) in
              let in_replayer : p < length replayer.restored.shelves.items = omega (arith, inside, many) in
              ap (λ (s : View). objects_on s kind) (taken.each p d inside)
              ∙ (elim (p % workers == v) as (λ b. (p % workers == v) ≡ b → objects_on (if b then get_or replayer.restored.shelves.items p d else get_or shelves p d) kind ≡ objects_on (get_or shelves p d) kind + objects_on (get_or replayer.restored.shelves.items p d) kind) [
                | true ↦ λ own.
                    let none : objects_on (get_or shelves p d) kind ≡ 0 = ap (λ (s : View). objects_on s kind) (was-empty p d on own) ∙ no-objects p kind in
                    omega (arith, none)
                | false ↦ λ other.
                    let none : objects_on (get_or replayer.restored.shelves.items p d) kind ≡ 0 =
                    bare (get_or replayer.restored.shelves.items p d) kind (none-there n workers v records replayer.restored.shelves.items its_home p d in_replayer other) (its_home.idle p d in_replayer) in
                    omega (arith, none)
              ] refl)

          all-shelves : (kind : Kind) → objects_among new kind ≡ objects_among shelves kind + objects_among replayer.restored.shelves.items kind
          all-shelves kind =
              let count = taken.count in
              let many = as_many in
              sum-three (λ (s : View). objects_on s kind) shelves replayer.restored.shelves.items new (omega (arith, count)) (omega (arith, count, many)) (one-shelf kind)

          next-low : (k : ℕ) → (k == v) ≡ false → nat_lt k (v + 1) ≡ nat_lt k v
          next-low k apart =
              elim (nat_lt k v) as (λ b. nat_lt k v ≡ b → nat_lt k (v + 1) ≡ b) [
                | true ↦ λ less. let is = ltb-true k v less in lt-ltb k (v + 1) (omega (arith, is))
                | false ↦ λ over.
                    let is = ltb-false k v over in
                    elim (nat_lt k (v + 1)) as (λ b. nat_lt k (v + 1) ≡ b → b ≡ false) [
                      | true ↦ λ less.
                          let below = ltb-true k (v + 1) less in
                          let one : k ≡ v = omega (arith, is, below) in
                          absurd (let contra : true ≡ false = sym (eq-eqb k v one) ∙ apart in let never : ⊥ = cc in never)
                      | false ↦ λ _. refl
                    ] refl
              ] refl

          pub one_joined : IsJoining (v + 1) more new last
          one_joined = record {
            place = let place = joining.place in omega (arith, place);
            rest = let same : v + 1 ≡ suc v = omega arith in ap (λ k. drop k all) same ∙ (first-left all v replayer more joining.rest).1;
            count = taken.count ∙ joining.count;
            taken = λ p d on.
                let count = joining.count in
                taken.each p d (omega (arith, on, count))
                ∙ (elim (p % workers == v) as (λ b. (p % workers == v) ≡ b → (if b then get_or replayer.restored.shelves.items p d else get_or shelves p d) ≡ (if nat_lt (p % workers) (v + 1) then get_or (shelves_at all (p % workers)) p d else empty_shelf p)) [
                  | true ↦ λ own.
                      let same = eqb-true (p % workers) v own in
                      let low : nat_lt (p % workers) (v + 1) ≡ true = lt-ltb (p % workers) (v + 1) (omega (arith, same)) in
                      ap (λ ss. get_or ss p d) (sym theirs) ∙ ap (λ k. get_or (shelves_at all k) p d) (sym same)
                      ∙ sym (ap (λ b. if b then get_or (shelves_at all (p % workers)) p d else empty_shelf p) low)
                  | false ↦ λ other.
                      joining.taken p d on ∙ ap (λ b. if b then get_or (shelves_at all (p % workers)) p d else empty_shelf p) (sym (next-low (p % workers) other))
                ] refl);
            counted = λ kind.
                let counted = joining.counted kind in
                let out = drawn kind in
                let own = sums kind in
                let objects = all-shelves kind in
                let blanks = absorbed.blanks kind in
                let retired = absorbed.retired kind in
                let supplied = absorbed.supplied kind in
                omega (arith, counted, out, own, objects, blanks, retired, supplied);
            blanks = λ kind.
                let before = joining.blanks kind in
                let blanks = absorbed.blanks kind in
                let sum = sum_by-cons (λ (l : Replayer C G). blanks_in l.restored.stock kind) replayer more in
                omega (arith, before, blanks, sum);
            supplied = λ kind. absorbed.supplied kind ∙ joining.supplied kind;
            keeping = absorbed.keeping ∙ joining.keeping;
          }

      -- ---- all of them

      module _ (v : ℕ) (shelves : List View) (stock : Stock C G) (joining : IsJoining v [] shelves stock) where
        pub all_counted : IsCountedAmong shelves stock
        all_counted = λ kind. let counted = joining.counted kind in omega (arith, counted)

        pub all_blanks_are : (kind : Kind) → blanks_in stock kind ≡ blanks_of_replayers all kind + blanks_in start kind
        all_blanks_are kind = let blanks = joining.blanks kind in omega (arith, blanks)

        -- the shelves of a replayer, and empty ones behind the last one
        abbrev lists : ℕ → List View
        lists w = if nat_lt w workers then shelves_at all w else empties

        no-part : (w : ℕ) (es : List (Elem × Record)) → workers ≤ w → part (mine w) es ≡ []
        no-part w [] past = refl
        no-part w (e ∷ es) past =
            let less = mod_below (home e.0 n) workers can.some in
            elim (mine w e.0) as (λ b. mine w e.0 ≡ b → cond b (e ∷ part (mine w) es) (part (mine w) es) ≡ []) [
              | true ↦ λ own. absurd (let same = eqb-true (home e.0 n % workers) w own in let never : ⊥ = omega (arith, same, less, past) in never)
              | false ↦ λ _. no-part w es past
            ] refl

        each-home : (w : ℕ) → AreHome n (part (mine w) records) (lists w)
        each-home w =
            elim (nat_lt w workers) as (λ b. nat_lt w workers ≡ b → AreHome n (part (mine w) records) (if b then shelves_at all w else empties)) [
              | true ↦ λ less.
                  let at = replayer-at all w (ltb-true w workers less) in
                  subst (AreHome n (part (mine w) records)) (sym at.2) (subst (λ m. AreHome m (part (mine w) records) at.0.restored.shelves.items) (can.on w at.0 at.1) (can.parts w at.0 at.1).home)
              | false ↦ λ over. subst (λ rs. AreHome n rs empties) (sym (no-part w records (ltb-false w workers over))) (none_home n empties can.empty)
            ] refl

        pub all_home : AreHome n records shelves
        all_home =
            joined_are_home n records (worker_at_home n workers) (λ p. p % workers) lists shelves (λ x. refl) each-home joining.count
            (λ p d on.
            let below = mod_below p workers can.some in
            let all_in : v ≡ workers = (let place = joining.place in omega (arith, place)) in
            let low : nat_lt (p % workers) workers ≡ true = lt-ltb (p % workers) workers below in
            let in_too : nat_lt (p % workers) v ≡ true = ap (nat_lt (p % workers)) all_in ∙ low in
            joining.taken p d on
            ∙ ap (λ b. if b then get_or (shelves_at all (p % workers)) p d else empty_shelf p) in_too
            ∙ sym (ap (λ b. get_or (if b then shelves_at all (p % workers) else empties) p d) low))
