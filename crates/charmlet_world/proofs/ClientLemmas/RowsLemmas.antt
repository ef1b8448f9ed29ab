-- What a call makes of a client's two rows.
use Rattle.std.proofs.Common.{◌≡◌, ℕ, ◌≤◌, ◌<◌, ◌∙◌, List, [], ◌∷◌, ◌++◌, length, get_or, set, replicate, refl, ap, arith, Bool, true, false}
use Rattle.std.specs.Prelude.{drop, nat_lt, Option, Some, None}
use Rattle.std.proofs.Common.{lt-ltb, le-ltb}
use Rattle.charmlet_model.specs.declared.client.ClientRow.{ClientRow}
use Rattle.charmlet_model.specs.Row.{below, in_window, item_of, item_place, with_place, with_reply, with_request}
use Rattle.charmlet_model.specs.Told.{told_of, told_of_item}
use Rattle.charmlet_model.proofs.Windows.{inside-true}
use Rattle.charmlet_world.specs.Client.Client.{Rows, durable_row, shown}
use Rattle.charmlet_world.proofs.ClientLemmas.ShownLemmas.{shown-append, shown-set, shown-all}

abbrev pub row : ℕ → List (Option (List ℕ)) → ClientRow
row last window = record { last = last; window = window }

abbrev pub rows : ClientRow → ClientRow → Rows
rows present durable = record { present = present; durable = durable }

pub rows-same : (p q d e : ClientRow) → p ≡ q → d ≡ e → rows p d ≡ rows q e
rows-same p q d e h k = cc

pub row-same : (l : ℕ) (v w : List (Option (List ℕ))) → v ≡ w → row l v ≡ row l w
row-same l v w h = ap (row l) h

-- a flush
pub rows-flushed : (p : ClientRow) (dropped : List (Option (List ℕ))) (bs : List Bool) → dropped ≡ [] → bs ≡ replicate (length p.window) true →
    rows p (durable_row p p.last dropped bs) ≡ rows p p
rows-flushed p dropped bs none all =
    let whole : dropped ++ shown bs p.window ≡ p.window = rw (none, all) (shown-all p.window) in
    rows-same p p (durable_row p p.last dropped bs) p refl (row-same p.last (dropped ++ shown bs p.window) p.window whole)

-- a reply
pub rows-replied : (p : ClientRow) (last : ℕ) (dropped : List (Option (List ℕ))) (bs bs' : List Bool) (window : List (Option (List ℕ))) (number place : ℕ) (reply : List ℕ) →
    place ≡ item_place p number → item_of p number ≡ None → window ≡ set p.window place (Some reply) → bs' ≡ set bs place false →
    rows (row p.last window) (durable_row (row p.last window) last dropped bs') ≡ rows (with_reply p number reply) (durable_row p last dropped bs)
rows-replied p last dropped bs bs' window number place reply at none is_window is_bs =
    let none_at : get_or p.window place None ≡ None = rw at none in
    let same : shown bs' window ≡ shown bs p.window = rw (is_window, is_bs) (shown-set bs p.window place (Some reply) none_at) in
    rows-same (row p.last window) (with_reply p number reply) (durable_row (row p.last window) last dropped bs') (durable_row p last dropped bs)
    (row-same p.last window (set p.window (item_place p number) (Some reply)) (is_window ∙ ap (λ (i : ℕ). set p.window i (Some reply)) at))
    (row-same last (dropped ++ shown bs' window) (dropped ++ shown bs p.window) (ap (λ (r : List (Option (List ℕ))). dropped ++ r) same))

-- a full window loses its first item
pub place-full : (w : List (Option (List ℕ))) → length w ≡ 8 → drop 1 w ≡ with_place w
place-full w h = rw h refl

-- and no other
pub place-other : (w : List (Option (List ℕ))) → length w ≤ 8 → (length w ≡ 8 → ⊥) → w ≡ with_place w
place-other w few other =
    let less : length w < 8 = omega arith in
    let is : nat_lt (length w) 8 ≡ true = lt-ltb (length w) 8 less in
    rw is refl

-- a request, for which the first items were dropped already
pub rows-requested : (p : ClientRow) (number last : ℕ) (before after : List (Option (List ℕ))) (bs bs' : List Bool) (left window : List (Option (List ℕ))) →
    left ≡ with_place p.window → after ++ shown bs' left ≡ before ++ shown bs p.window → length bs' ≤ length left → window ≡ left ++ None ∷ [] →
    rows (row number window) (durable_row (row number window) last after bs') ≡ rows (with_request p number) (durable_row p last before bs)
rows-requested p number last before after bs bs' left window is_left same shared is_window =
    let still : shown bs' window ≡ shown bs' left = rw is_window (shown-append bs' left (None ∷ []) shared) in
    rows-same (row number window) (with_request p number) (durable_row (row number window) last after bs') (durable_row p last before bs)
    (row-same number window (with_place p.window ++ None ∷ []) (is_window ∙ ap (λ (r : List (Option (List ℕ))). r ++ None ∷ []) is_left))
    (row-same last (after ++ shown bs' window) (before ++ shown bs p.window) (ap (λ (r : List (Option (List ℕ))). after ++ r) still ∙ same))

-- ---- what is told

-- of a request of the window
pub told-at : (p : ClientRow) (number : ℕ) → number ≤ p.last → below p < number → told_of_item (item_of p number) ≡ told_of p number
told-at p number within above =
    let known : nat_lt p.last number ≡ false = le-ltb p.last number within in
    let inside : in_window p number ≡ true = inside-true p number above within in
    rw (known, inside) refl
