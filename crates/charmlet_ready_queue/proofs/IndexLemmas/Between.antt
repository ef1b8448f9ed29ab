-- What holds while the sequence numbers of an element are shifted one after another.
use Rattle.std.proofs.Common.{◌≡◌, ◌≢◌, ℕ, ◌+◌, false, List, [], ◌∷◌, length, arith, slice_get}
use Rattle.std.specs.Prelude.{◌==◌, IfSome}
use Rattle.std.specs.List.{AllByRecursion}
use Rattle.std.proofs.lemmas.Option.{slice_get_within}
use Rattle.charmlet_ready_queue.specs.declared.index.chain.Call.{Call}
use Rattle.charmlet_ready_queue.specs.declared.index.lists.Lists.{Lists}
use Rattle.charmlet_ready_queue.specs.declared.index.place.QueuePlace.{QueuePlace}
use Rattle.charmlet_ready_queue.specs.declared.index.place.Readiness.{Readiness}
use Rattle.charmlet_ready_queue.specs.Index.Index.{AreApart, ArePositioned, HaveRoom, IsIndexOf, IsRoomy, holds, moved, place_by, stood}
use Rattle.charmlet_ready_queue.proofs.IndexLemmas.Steps.{less_room, some_at}

-- the sequence numbers that are left are where the old stand says; once they are where the new one says, all
-- are
pub record Between (old new : Readiness) (all left : List Call) (seq_nos : List ℕ) (place : ℕ → QueuePlace) (lists : List Lists) : Type 0 where
  pub now : ℕ → QueuePlace
  pub index : IsIndexOf seq_nos now lists
  pub placed : ArePositioned old left seq_nos now
  pub ends : stood new left now ≡ stood new all place

unlike : (a b : ℕ) → a ≢ b → (a == b) ≡ false
unlike a b h = grind arith

-- sequence numbers other than one that is moved stay
others_stay : (old : Readiness) (n : ℕ) (at : QueuePlace) (calls : List Call) (seq_nos : List ℕ) (place : ℕ → QueuePlace) → AllByRecursion (λ (d : Call). d.number ≢ n) calls → ArePositioned old calls seq_nos place → ArePositioned old calls seq_nos (moved n at place)
others_stay old n at [] seq_nos place apart placed = tt
others_stay old n at (d ∷ calls) seq_nos place apart placed = (placed.0, rw (unlike d.number n apart.0) placed.1, others_stay old n at calls seq_nos place apart.1 placed.2)

pub between_step : (old new : Readiness) (all : List Call) (c : Call) (calls : List Call) (seq_nos : List ℕ) (place : ℕ → QueuePlace) (lists news : List Lists) → AreApart (c ∷ calls) → (b : Between old new all (c ∷ calls) seq_nos place lists) → IsIndexOf seq_nos (moved c.number (place_by new c.constructs) b.now) news → Between old new all calls seq_nos place news
between_step old new all c calls seq_nos place lists news apart b is = record {
  now = moved c.number (place_by new c.constructs) b.now;
  index = is;
  placed = others_stay old c.number (place_by new c.constructs) calls seq_nos b.now apart.0 b.placed.2;
  ends = b.ends;
}

pub room_step : (headroom : ℕ) (old new : Readiness) (c : Call) (calls : List Call) (lists news : List Lists) → length news ≡ length lists → ((p n : ℕ) → IfSome (slice_get lists p) (IsRoomy (n + 1)) → IfSome (slice_get news p) (IsRoomy n)) → HaveRoom headroom old new (length (c ∷ calls)) lists → HaveRoom headroom old new (length calls) news
room_step headroom old new c calls lists news len less room p l there was is =
    let within = slice_get_within news p l there in
    let own = some_at lists p (omega (arith, within, len)) in
    let had = less_room (headroom + length calls + 1) (headroom + length (c ∷ calls)) own.0 (omega arith) (room p own.0 own.1 was is) in
    let before : IfSome (slice_get lists p) (IsRoomy (headroom + length calls + 1)) = rw own.1 had in
    let after = less p (headroom + length calls) before in
    rw there at after
