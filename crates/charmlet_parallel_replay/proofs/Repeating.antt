-- A store that is made of what several replayers brought back.
use Rattle.std.proofs.Common.{◌≡◌, ℕ, ◌+◌, ◌<◌, suc, true, List, [], ◌∷◌, ◌++◌, length, take, drop, refl, sym, ap, subst, ◌∙◌, arith}
use Rattle.std.specs.Prelude.{Some, slice_get}
use Rattle.std.specs.List.{All}
use Rattle.std.proofs.lemmas.List.{append-nil, drop_all, take_all}
use Rattle.std.proofs.lemmas.List.Sums.{sum_by-cons}
use Rattle.std.proofs.lemmas.Bool.{leb-true}
use Rattle.charmlet_locate.specs.Locations.{is_processor_count}
use Rattle.charmlet_model.proofs.Maps.{both_parts}
use Rattle.std.proofs.lemmas.Option.{get_or_from_slice_get, slice_get_within}
use Rattle.charmlet_model.specs.declared.kind.Kind.{Kind}
use Rattle.charmlet_model.specs.declared.logged.Logged.{Logged}
use Rattle.charmlet_model.specs.Core.{Blanks}
use Rattle.charmlet_model.specs.Sound.{opened}
use Rattle.charmlet_model.specs.World.{World}
use Rattle.charmlet_record.specs.declared.positioned.Positioned.{Positioned}
use Rattle.charmlet_record.specs.Reading.{read_log}
use Rattle.charmlet_image.specs.declared.half.OpenHalf.{OpenHalf}
use Rattle.charmlet_image.specs.Images.{Image, Saved}
use Rattle.charmlet_image.specs.Positioned.{items_of}
use Rattle.charmlet_image.specs.Views.{image_said}
use Rattle.charmlet_recovery.specs.Bases.{base, events_of, recovered_world}
use Rattle.charmlet_recovery.specs.Blanks.{made}
use Rattle.charmlet_recovery.specs.Faults.{first_fault}
use Rattle.charmlet_recovery.specs.Replays.{LogScan}
use Rattle.charmlet_recovery.proofs.Recovered.{manifest-world}
use Rattle.charmlet_chare.specs.declared.chare.Chare.{Ghosts}
use Rattle.charmlet_history.specs.Kept.{core_in}
use Rattle.charmlet_shelf.specs.Shelf.{View}
use Rattle.charmlet_stock.specs.declared.stock.Stock.{Stock}
use Rattle.charmlet_stock.specs.Stock.{blanks_in, supplied_to}
use Rattle.charmlet_store.specs.Store.{AreEmpty, StoreShown, blanks_of}
use Rattle.charmlet_stock.specs.Absorption.Absorbed.{retired_in}
use Rattle.charmlet_world.specs.Seen.{Seen}
use Rattle.charmlet_replay.specs.Places.{events_in, places_in}
use Rattle.charmlet_replay.specs.Ready.{IsReady}
use Rattle.charmlet_replay.specs.Replayed.{IsOpenIn, IsRepeated}
use Rattle.charmlet_replay.specs.RestoredShard.{IsHeld}
use Rattle.charmlet_parallel_replay.specs.replayer.Replayer.{Replayer}
use Rattle.charmlet_parallel_replay.specs.Workers.{AreParts}
use Rattle.charmlet_replayers.specs.Dispatch.Keeping.{IsHeldReplayer}
use Rattle.charmlet_replayers.specs.Dispatch.Sharing.{worker_of}
use Rattle.charmlet_parallel_replay.specs.Combined.{IsJoinable, blanks_of_replayers, drawn_by_replayers}
use Rattle.charmlet_merge.specs.Store.Done.{AreAllDone}
use Rattle.charmlet_merge.proofs.StoreLemmas.Repeated.{is-repeated}
use Rattle.charmlet_parallel_replay.proofs.LogLemmas.LogPlaces.{items_are}
use Rattle.charmlet_parallel_replay.specs.Redone.{IsRedone}
use Rattle.charmlet_parallel_replay.proofs.Redone.{events_are}

-- ---- replayers that were lent

pub written_back : {X : Type 0} (len : ℕ) (xs ys : List X) → len ≡ length ys → length xs ≡ length ys → take len (xs ++ drop (length xs) ys) ≡ xs
written_back len xs ys many same =
    ap (λ zs. take len (xs ++ zs)) (drop_all (length xs) ys (omega (arith, same))) ∙ ap (take len) (append-nil xs) ∙ take_all len xs (omega (arith, many, same))

-- ---- no replayer has a blank

none_spare : {C : Type 0} {G : Ghosts C} (replayers : List (Replayer C G)) (kind : Kind) → ((v : ℕ) (replayer : Replayer C G) → slice_get replayers v ≡ Some replayer → blanks_in replayer.restored.stock kind ≡ 0) → blanks_of_replayers replayers kind ≡ 0
none_spare [] kind none = refl
none_spare {C} {G} (replayer ∷ replayers) kind none =
    let sum = sum_by-cons (λ (l : Replayer C G). blanks_in l.restored.stock kind) replayer replayers in
    let here = none 0 replayer refl in
    let rest = none_spare replayers kind (λ v l at. none (suc v) l at) in
    omega (arith, sum, here, rest)

module _ {C : Type 0} {G : Ghosts C} (half : OpenHalf) (n : ℕ) (given left : Blanks) (kept : Seen) (news : List (Replayer C G)) where
  abbrev image : Image
  image = image_said half.image

  abbrev log : List Logged
  log = events_in half.image.manifest half.log.rest.now

  abbrev placed : List (Positioned Logged)
  placed = places_in (read_log half.image.manifest half.log.rest.now)

  same_items : items_of placed ≡ log
  same_items = items_are half.image.manifest half.log.rest.now

  module _ (redone : IsRedone image half.header.events placed n given left kept news) (seen : World) (is_seen : seen ≡ recovered_world image log) where
    world_is : seen ≡ recovered_world image (items_of placed)
    world_is = is_seen ∙ ap (recovered_world image) (sym same_items)

    pub arrays_are : seen.manifest ≡ half.image.manifest
    arrays_are = ap (λ (w : World). w.manifest) is_seen ∙ manifest-world (base image) (events_of log)

    pub all_done : (replayers : List (Replayer C G)) → replayers ≡ news → (w : World) × (count : ℕ) × (scan : LogScan) × (ps : List (Positioned Logged)) × AreAllDone w count scan ps seen kept replayers
    all_done replayers same = (
      base image,
      half.header.events,
      redone.scan,
      placed,
      subst (AreAllDone (base image) half.header.events redone.scan placed seen kept) (sym same) (subst (λ w. AreAllDone (base image) half.header.events redone.scan placed w kept news) (sym world_is) redone.done),
    )

    pub joinable : (stock : Stock C G) (shelves : List View) → 0 < length news → All IsHeldReplayer news → AreEmpty n shelves →
        ((kind : Kind) → supplied_to stock kind ≡ drawn_by_replayers news kind + blanks_in stock kind + retired_in stock kind) → (replayers : List (Replayer C G)) → replayers ≡ news → IsJoinable kept.processors seen.records replayers shelves stock
    joinable stock shelves some held empty shared replayers same =
        subst (λ ls. IsJoinable kept.processors seen.records ls shelves stock) (sym same) (record {
          some = some;
          parts = subst (λ (w : World). AreParts (worker_of kept.processors (length news)) w.records news) (sym world_is)
              (subst (λ m. AreParts (worker_of m (length news)) (recovered_world image (items_of placed)).records news) (sym redone.on) redone.parts);
          on = λ v replayer at. redone.there v replayer at ∙ sym redone.on;
          held = λ v replayer at. subst (λ (l : Replayer C G). IsHeld l.restored) (get_or_from_slice_get news v replayer replayer at) (held v replayer (slice_get_within news v replayer at));
          empty = subst (λ m. AreEmpty m shelves) (sym redone.on) empty;
          shared = shared;
        })

    pub repeated : (bytes : List ℕ) (s : Saved) → IsOpenIn bytes s half → (store : StoreShown) → IsReady store → core_in store.history ≡ opened kept.processors seen (half.header.events + half.log.events) half.header.generation half.log.ends →
        (stock : Stock C G) → ((kind : Kind) → blanks_in stock kind ≡ left kind) → (replayers : List (Replayer C G)) → replayers ≡ news → ((kind : Kind) → blanks_of store kind ≡ blanks_of_replayers replayers kind + blanks_in stock kind) →
        (blanks : Blanks) → ((kind : Kind) → given kind ≡ blanks kind) → IsRepeated n blanks s store
    repeated bytes s is store ready core stock lefts replayers same sums blanks givens =
        is-repeated bytes s half n blanks store is (ap (first_fault image half.header.events) (sym same_items) ∙ redone.faultless) ready
        (core ∙ (λ i. opened (redone.on i) (is_seen i) (half.header.events + events_are bytes s half is i) half.header.generation half.log.ends))
        (λ kind.
        let sum = sums kind in
        let none = ap (λ ls. blanks_of_replayers ls kind) same ∙ none_spare news kind (λ v replayer at. redone.spare v replayer at kind) in
        let its = lefts kind in
        let took : left kind + made image log kind ≡ given kind = ap (λ ls. left kind + made image ls kind) (sym same_items) ∙ redone.taken kind in
        let all = givens kind in
        omega (arith, sum, none, its, took, all))

-- ---- blanks that come back

module _ {C : Type 0} {G : Ghosts C} where
  pub given_back : (back stock blanks : Stock C G) → ((kind : Kind) → supplied_to back kind ≡ supplied_to stock kind) → ((kind : Kind) → supplied_to stock kind ≡ supplied_to blanks kind) → supplied_to back ≡ supplied_to blanks
  given_back back stock blanks one two = λ i kind. (one kind ∙ two kind) i

  pub shared_back : (replayers : List (Replayer C G)) (stock : Stock C G) (news : List (Replayer C G)) (left : Stock C G) → replayers ≡ news → stock ≡ left →
      ((kind : Kind) → supplied_to left kind ≡ drawn_by_replayers news kind + blanks_in left kind + retired_in left kind) → (kind : Kind) → supplied_to stock kind ≡ drawn_by_replayers replayers kind + blanks_in stock kind + retired_in stock kind
  shared_back replayers stock news left same is shared kind =
      subst (λ ls. supplied_to stock kind ≡ drawn_by_replayers ls kind + blanks_in stock kind + retired_in stock kind) (sym same)
      (subst (λ (t : Stock C G). supplied_to t kind ≡ drawn_by_replayers news kind + blanks_in t kind + retired_in t kind) (sym is) (shared kind))

-- there is a replayer
pub some_workers : (workers count : ℕ) → is_processor_count workers ≡ true → count ≡ workers → 0 < count
some_workers workers count some same = let least = leb-true 1 workers (both_parts _ _ some).0 in omega (arith, least, same)
