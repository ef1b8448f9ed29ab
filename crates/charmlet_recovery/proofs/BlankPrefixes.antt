-- Up to the first fault no more blanks are used than are wanted.
use Rattle.charmlet_record.specs.Reading.{Kinds}
use Rattle.std.proofs.Common.{◌≡◌, ℕ, zero, suc, ◌+◌, ◌≤◌, List, [], ◌∷◌, ◌++◌, take, refl, arith}
use Rattle.std.specs.Prelude.{None, nat_le, not, ◌&&◌, if◌then◌else◌}
use Rattle.std.specs.List.{AllByRecursion}
use Rattle.charmlet_model.specs.declared.names.Elem.{Elem}
use Rattle.charmlet_model.specs.declared.message.Message.{Message}
use Rattle.charmlet_model.specs.declared.kind.Kind.{Kind}
use Rattle.charmlet_model.specs.declared.state.Record.{Record}
use Rattle.charmlet_model.specs.World.{IsEvent, record_at, request}
use Rattle.charmlet_recovery.proofs.Sound.{all-pass}
use Rattle.charmlet_recovery.proofs.BlankLemmas.{catch-up-made}
use Rattle.charmlet_recovery.proofs.BlankLogs.{blanks-made}
use Rattle.charmlet_model.specs.declared.logged.Effect.TheVariants.{Constructed}
use Rattle.charmlet_model.specs.declared.logged.CatchUpEntry.{CatchUpEntry}
use Rattle.charmlet_model.specs.declared.logged.Logged.{Logged}
use Rattle.charmlet_model.specs.declared.logged.Logged.TheVariants.{Accept, Deliver}
use Rattle.charmlet_image.specs.Images.{Image}
use Rattle.charmlet_recovery.specs.Bases.{events_of}
use Rattle.charmlet_recovery.specs.Faults.{same_effect, catch_up_tests, first_failure, first_fault}
use Rattle.charmlet_recovery.proofs.Grammar.{IsGoodImage}
use Rattle.charmlet_recovery.specs.Blanks.{array_is, array_of, sender_array, one_if, with_count, wanted_by_records, wanted_by_catch_up, wanted_of_array, wanted_by_log, wanted, made_by_catch_up, made}

-- ---- what the first records want is no more than what all want

catch-up-more : (manifest : Kinds) (kind : Kind) (i : ℕ) (counts : List (Elem × Record)) (ds : List CatchUpEntry) →
    wanted_by_catch_up manifest kind counts (take i ds) ≤ wanted_by_catch_up manifest kind counts ds
catch-up-more manifest kind zero counts ds = omega arith
catch-up-more manifest kind (suc i) counts [] = omega arith
catch-up-more manifest kind (suc i) counts (d ∷ ds) =
    let one = one_if (not (nat_le d.received (record_at counts d.message.to).received) && same_effect d.effect Constructed && array_is manifest kind d.message.to.array) in
    let rest = catch-up-more manifest kind i (with_count counts d) ds in
    sum-more one (wanted_by_catch_up manifest kind (with_count counts d) (take i ds)) (wanted_by_catch_up manifest kind (with_count counts d) ds) rest
  where
    sum-more : (n a b : ℕ) → a ≤ b → n + a ≤ n + b
    sum-more n a b h = omega arith

log-more : (manifest : Kinds) (kind : Kind) (i : ℕ) (ms : List Message) (log : List Logged) →
    wanted_by_log manifest kind ms (take i log) ≤ wanted_by_log manifest kind ms log
log-more manifest kind zero ms log = omega arith
log-more manifest kind (suc i) ms [] = omega arith
log-more manifest kind (suc i) ms (Accept client number to entry words ∷ log) = log-more manifest kind i (ms ++ request client number to entry words ∷ []) log
log-more manifest kind (suc i) ms (Deliver id count effect sends ∷ log) =
    let one = (if same_effect effect Constructed then wanted_of_array manifest kind (array_of id ms (sender_array id.origin)) else 0) in
    sum-more one (wanted_by_log manifest kind ms (take i log)) (wanted_by_log manifest kind ms log) (log-more manifest kind i ms log)
  where
    sum-more : (n a b : ℕ) → a ≤ b → n + a ≤ n + b
    sum-more n a b h = omega arith

events-front : (i : ℕ) (log : List Logged) → AllByRecursion IsEvent (events_of log) → AllByRecursion IsEvent (events_of (take i log))
events-front zero log h = tt
events-front (suc i) [] h = tt
events-front (suc i) (l ∷ log) h = (h.0, events-front i log h.1)

-- ---- what is made is no more

pub catch-up-suffices : (image : Image) (log : List Logged) (kind : Kind) (i : ℕ) → first_failure (catch_up_tests image.manifest image.records (take i image.caught_up)) ≡ None →
    wanted_by_records image.manifest kind image.records + made_by_catch_up image.manifest kind image.records (take i image.caught_up) ≤ wanted image log kind
catch-up-suffices image log kind i none =
    let same = catch-up-made image.manifest kind image.records image.records (take i image.caught_up) (all-pass _ none) (λ x. refl) in
    sums (wanted_by_records image.manifest kind image.records) (made_by_catch_up image.manifest kind image.records (take i image.caught_up))
    (wanted_by_catch_up image.manifest kind image.records (take i image.caught_up)) (wanted_by_catch_up image.manifest kind image.records image.caught_up)
    (wanted_by_log image.manifest kind image.pending log) same (catch-up-more image.manifest kind i image.records image.caught_up)
  where
    sums : (e m p c l : ℕ) → p ≡ m → p ≤ c → e + m ≤ e + c + l
    sums e m p c l same less = omega arith

pub events-suffice : (image : Image) (before : ℕ) (log : List Logged) (kind : Kind) (i : ℕ) → IsGoodImage image → AllByRecursion IsEvent (events_of log) →
    first_fault image before (take i log) ≡ None → made image (take i log) kind ≤ wanted image log kind
events-suffice image before log kind i good typed none =
    let same = blanks-made image before (take i log) kind good (events-front i log typed) none in
    sums (wanted_by_records image.manifest kind image.records) (wanted_by_catch_up image.manifest kind image.records image.caught_up)
    (wanted_by_log image.manifest kind image.pending (take i log)) (wanted_by_log image.manifest kind image.pending log) (made image (take i log) kind)
    same (log-more image.manifest kind i image.pending log)
  where
    sums : (e c p l m : ℕ) → e + c + p ≡ m → p ≤ l → m ≤ e + c + l
    sums e c p l m same less = omega arith
