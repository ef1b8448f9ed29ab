-- What rows of clients come to know.
use Rattle.std.proofs.Common.{◌≡◌, ℕ, ◌<◌, ◌≤◌, true, false, Some, None, ◌++◌, drop, take, refl, sym, ap, subst, ◌∙◌, arith, le_refl, if◌then◌else◌, nat_lt, take-append-drop}
use Rattle.std.proofs.lemmas.Bool.{ltb-false, ltb-true}
use Rattle.charmlet_model.specs.declared.client.ClientRow.{ClientRow}
use Rattle.charmlet_model.specs.declared.told.Told.{Told}
use Rattle.charmlet_model.specs.declared.told.Told.TheVariants.{Unknown, Accepted, Replied, Past}
use Rattle.charmlet_model.specs.Core.{Core}
use Rattle.charmlet_model.specs.Row.{awaits, in_window, reply_to, with_reply}
use Rattle.charmlet_model.specs.Sound.{IsSound}
use Rattle.charmlet_model.specs.Told.{Holds, told_of, told_of_item}
use Rattle.charmlet_model.specs.World.{can_all, client_of, world}
use Rattle.charmlet_model.proofs.Lasts.{holds_later}
use Rattle.charmlet_model.proofs.Windows.{inside-parts}
use Rattle.charmlet_recovery.proofs.Sealed.{can-take}
use Rattle.charmlet_requests.specs.Knowing.{IsNoLess, heard, is_unknown, reached}
use Rattle.charmlet_requests.proofs.Covering.{replied-parts}
use Rattle.charmlet_workers.proofs.Rows.{greater_least, reached_least}

pub test_true : (a b : ℕ) → a < b → nat_lt a b ≡ true
test_true a b less = elim (nat_lt a b) as (λ t. nat_lt a b ≡ t → t ≡ true) [ true ↦ λ _. refl | false ↦ λ off. let more = ltb-false a b off in absurd (omega (arith, less, more)) ] refl

pub test_false : (a b : ℕ) → b ≤ a → nat_lt a b ≡ false
test_false a b more = elim (nat_lt a b) as (λ t. nat_lt a b ≡ t → t ≡ false) [ true ↦ λ up. let less = ltb-true a b up in absurd (omega (arith, less, more)) | false ↦ λ _. refl ] refl

-- ---- the last number of a row only grows

pub heard_least : (row : ClientRow) (number : ℕ) (told : Told) → row.last ≤ (heard row number told).last
heard_least row number Unknown = le_refl row.last
heard_least row number Accepted = (reached_least row number).1
heard_least row number (Replied reply) =
    let there = reached row number in
    elim (awaits there number) as (λ b. row.last ≤ (if b then with_reply there number reply else there).last) [ true ↦ (reached_least row number).1 | false ↦ (reached_least row number).1 ]
heard_least row number Past = greater_least row.last number

-- ---- its last number was accepted

pub last_known : (row : ClientRow) → IsNoLess Accepted (told_of row row.last)
last_known row =
    let inside = in_window row row.last in
    subst (λ b. IsNoLess Accepted (if b then Unknown else if inside then told_of_item (reply_to row row.last) else Past)) (sym (test_false row.last row.last (le_refl row.last)))
    (elim inside as (λ b. IsNoLess Accepted (if b then told_of_item (reply_to row row.last) else Past)) [
      | true ↦ elim (reply_to row row.last) as (λ item. IsNoLess Accepted (told_of_item item)) [ None ↦ tt | Some reply ↦ tt ]
      | false ↦ tt
    ])

-- and so was each of which it knows anything
pub told_within : (row : ClientRow) (number : ℕ) → is_unknown (told_of row number) ≡ false → number ≤ row.last
told_within row number known =
    elim (nat_lt row.last number) as (λ b. nat_lt row.last number ≡ b → is_unknown (if b then Unknown else if in_window row number then told_of_item (reply_to row number) else Past) ≡ false → number ≤ row.last) [
      | true ↦ λ _ no. let never : ⊥ = cc in absurd never
      | false ↦ λ off _. ltb-false row.last number off
    ] refl known

-- what is so of a request that isn't unknown: it is accepted
pub accepted_of : (core : Core) (client number : ℕ) (told : Told) → IsSound core → IsNoLess Accepted told → Holds core.opening (take core.durable core.history) client number told → Holds core.opening (take core.durable core.history) client number Accepted
accepted_of core client number Unknown sound known holds = absurd known
accepted_of core client number Accepted sound known holds = holds
accepted_of core client number (Replied reply) sound known holds =
    let first = take core.durable core.history in
    let early = take holds.0 first in
    let row = client_of (world core.opening early) client in
    let inside = inside-parts row number (replied-parts row number reply holds.2).0 in
    let here : Holds core.opening early client number Accepted = inside.1 in
    let split : early ++ drop holds.0 first ≡ first = take-append-drop holds.0 first in
    let can : can_all core.opening (early ++ drop holds.0 first) ≡ true = ap (can_all core.opening) split ∙ can-take core.opening core.durable core.history sound.legal.each_can in
    subst (λ es. Holds core.opening es client number Accepted) split (holds_later core.opening early (drop holds.0 first) client number Accepted can here)
accepted_of core client number Past sound known holds = omega (arith, holds)
