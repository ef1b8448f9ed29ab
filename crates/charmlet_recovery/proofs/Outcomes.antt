-- Lawful outcomes stay lawful.
use Rattle.std.proofs.Common.{[], ◌≤◌, ◌≡◌, ◌∷◌, zero, suc, true, refl, subst, ℕ, ◌+◌, ◌-◌, List, ◌++◌, length, take, sym, ap, ◌∙◌, arith, length-append}
use Rattle.std.proofs.lemmas.List.{take-append-le}
use Rattle.std.proofs.Math.Seq.{take-append-add}
use Rattle.charmlet_model.specs.declared.event.Event.{Event}
use Rattle.charmlet_model.specs.Told.{Holds}
use Rattle.charmlet_model.specs.World.{World, world, can_all}
use Rattle.charmlet_model.proofs.Lasts.{holds_later}
use Rattle.charmlet_recovery.proofs.Sealed.{can-take}
use Rattle.charmlet_model.proofs.Histories.{world-append}
use Rattle.charmlet_recovery.specs.Recovered.{Found}
use Rattle.charmlet_recovery.specs.FileLaws.{ToldIsRecovered, KeptIsLawful, LawfulIsKept, LawfulGrows, LawfulJoins, LawfulParts, OpenedIsLawful}
use Rattle.charmlet_recovery.proofs.Stored.{stored_is_recovered, recovered_was_stored}

pub kept_is_lawful : KeptIsLawful
kept_is_lawful w before history durable outcome h = record {
  kept = h.kept;
  durable_kept = h.durable_kept;
  none_invented = h.none_invented;
  generation = h.generation;
  is = stored_is_recovered outcome (world w (take h.kept history)) (before + h.kept) h.generation h.stores;
}

pub lawful_is_kept : LawfulIsKept
lawful_is_kept w before history durable outcome bytes h = record {
  kept = h.kept;
  durable_kept = h.durable_kept;
  none_invented = h.none_invented;
  generation = h.generation;
  stores = recovered_was_stored outcome (world w (take h.kept history)) (before + h.kept) h.generation bytes h.is;
}

pub lawful_grows : LawfulGrows
lawful_grows w before history more durable fewer outcome less h =
    let few = h.durable_kept in
    let within = h.none_invented in
    let sum = length-append history more in
    record {
      kept = h.kept;
      durable_kept = omega arith;
      none_invented = omega arith;
      generation = h.generation;
      is = h.is ∙ ap (λ es. Found (world w es) (before + h.kept) h.generation) (sym (take-append-le h.kept history more within));
    }

-- the world after the first events is the one after some of the later ones, from the world in
-- between
same-world : (w : World) (earlier history : List Event) (k : ℕ) → world w (take (length earlier + k) (earlier ++ history)) ≡ world (world w earlier) (take k history)
same-world w earlier history k = ap (world w) (take-append-add earlier history k) ∙ world-append w earlier (take k history)

same-found : (w : World) (before : ℕ) (earlier history : List Event) (k g : ℕ) →
    Found (world (world w earlier) (take k history)) (before + length earlier + k) g ≡ Found (world w (take (length earlier + k) (earlier ++ history))) (before + (length earlier + k)) g
same-found w before earlier history k g =
    let same = same-world w earlier history k in
    let count : before + length earlier + k ≡ before + (length earlier + k) = omega arith in
    λ i. Found (sym same i) (count i) g

pub lawful_joins : LawfulJoins
lawful_joins w before earlier history durable outcome h =
    let few = h.durable_kept in
    let within = h.none_invented in
    let sum = length-append earlier history in
    record {
      kept = length earlier + h.kept;
      durable_kept = omega arith;
      none_invented = omega arith;
      generation = h.generation;
      is = h.is ∙ same-found w before earlier history h.kept h.generation;
    }

pub lawful_parts : LawfulParts
lawful_parts w before earlier history durable outcome h =
    let few = h.durable_kept in
    let within = h.none_invented in
    let sum = length-append earlier history in
    let k : ℕ = h.kept - length earlier in
    let whole : h.kept ≡ length earlier + k = omega arith in
    record {
      kept = k;
      durable_kept = omega arith;
      none_invented = omega arith;
      generation = h.generation;
      is = h.is ∙ ap (λ n. Found (world w (take n (earlier ++ history))) (before + n) h.generation) whole ∙ sym (same-found w before earlier history k h.generation);
    }

pub opened_is_lawful : OpenedIsLawful
opened_is_lawful w count generation outcome e =
    let none : count ≡ count + 0 = omega arith in
    record { kept = 0; durable_kept = omega arith; none_invented = omega arith; generation = generation; is = e ∙ ap (λ n. Found w n generation) none }

-- ---- what clients were told

take-more : (d k : ℕ) (es : List Event) → d ≤ k → (more : List Event) × (take k es ≡ take d es ++ more)
take-more zero k es less = (take k es, refl)
take-more (suc d) zero es less = absurd (omega arith)
take-more (suc d) (suc k) [] less = ([], refl)
take-more (suc d) (suc k) (e ∷ es) less = let more = take-more d k es (omega arith) in (more.0, ap (λ fs. e ∷ fs) more.1)

pub told_is_recovered : ToldIsRecovered
told_is_recovered w before history durable outcome client number told lawful legal h =
    let more = take-more durable lawful.kept history lawful.durable_kept in
    let able = subst (λ es. can_all w es ≡ true) more.1 (can-take w lawful.kept history legal.each_can) in
    subst (λ es. Holds w es client number told) (sym more.1) (holds_later w (take durable history) more.0 client number told able h)
