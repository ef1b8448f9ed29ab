-- What is left of the blanks that a restart was given.
use Rattle.std.proofs.Common.{◌≡◌, ℕ, ◌+◌, List, [], ◌∷◌, Option, Some, None, refl, ap, ◌∙◌, arith}
use Rattle.std.specs.List.{AllByRecursion, flat_map}
use Rattle.charmlet_model.specs.declared.kind.Kind.{Kind}
use Rattle.charmlet_model.specs.declared.logged.Logged.{Logged}
use Rattle.charmlet_model.specs.Core.{Blanks}
use Rattle.charmlet_model.specs.World.{World}
use Rattle.charmlet_model.proofs.Reactions.{AllByRecursion-append}
use Rattle.charmlet_record.specs.Reading.{Kinds}
use Rattle.charmlet_record.specs.Written.{IsBatch, IsLogged}
use Rattle.charmlet_image.specs.Images.{Saved}
use Rattle.charmlet_image.specs.Halves.{IsSaved}
use Rattle.charmlet_recovery.specs.Blanks.{made}
use Rattle.charmlet_recovery.specs.Faults.{Place, first_fault}
use Rattle.charmlet_recovery.specs.Meanings.{Whole, meaning, unless_faulty}
use Rattle.charmlet_recovery.specs.Recovered.{log_of, meaning_of}
use Rattle.charmlet_recovery.proofs.Saving.{went_on}
use Rattle.charmlet_recovery.specs.RestartLaws.{IsEnough}
use Rattle.charmlet_recovery.specs.Restarts.{wanted_of}
use Rattle.charmlet_recovery.proofs.Good.{image-good, log-events}
use Rattle.charmlet_recovery.proofs.BlankLogs.{blanks-made}

-- the events of good batches are good
pub events_logged : (kinds : Kinds) (batches : List (List Logged)) → AllByRecursion (IsBatch kinds) batches → AllByRecursion (IsLogged kinds) (flat_map (λ batch. batch) batches)
events_logged kinds [] all = tt
events_logged kinds (batch ∷ batches) all = AllByRecursion-append (IsLogged kinds) batch (flat_map (λ (b : List Logged). b) batches) all.0.each (events_logged kinds batches all.1)

no_fault : (fault : Option Place) (v w : World) (n count : ℕ) → unless_faulty fault v n ≡ Whole w count → fault ≡ None
no_fault None v w n count e = refl
no_fault (Some place) v w n count e = absurd cc

-- a half that means a world has no fault
pub whole_is_faultless : (s : Saved) (w : World) (count : ℕ) → meaning_of s ≡ Whole w count → first_fault s.image s.header.events (log_of s) ≡ None
whole_is_faultless s w count means =
    let went = went_on (meaning s.image s.header.events (log_of s)) w count means in
    no_fault (first_fault s.image s.header.events (log_of s)) _ went.old _ count went.whole

-- then as many blanks are wanted of each kind as objects are made
pub wanted_are_made : (s : Saved) (w : World) (count : ℕ) → IsSaved s → meaning_of s ≡ Whole w count → (kind : Kind) → wanted_of s kind ≡ made s.image (log_of s) kind
wanted_are_made s w count good means kind =
    blanks-made s.image s.header.events (log_of s) kind (image-good s.header.mark s.image good.image)
    (log-events s.image.manifest (log_of s) (events_logged s.image.manifest s.batches good.batches)) (whole_is_faultless s w count means)

-- and what is left is what wasn't wanted
pub left_unwanted : (s : Saved) (w : World) (count : ℕ) → IsSaved s → meaning_of s ≡ Whole w count → (given left : Blanks) →
    ((kind : Kind) → left kind + made s.image (log_of s) kind ≡ given kind) → (kind : Kind) → left kind + wanted_of s kind ≡ given kind
left_unwanted s w count good means given left taken kind = ap (λ (n : ℕ). left kind + n) (wanted_are_made s w count good means kind) ∙ taken kind

-- so there were enough
pub were_enough : (s : Saved) (w : World) (count : ℕ) → IsSaved s → meaning_of s ≡ Whole w count → (given left : Blanks) → ((kind : Kind) → left kind + made s.image (log_of s) kind ≡ given kind) → IsEnough given (wanted_of s)
were_enough s w count good means given left taken kind = let sum = left_unwanted s w count good means given left taken kind in omega (arith, sum)
