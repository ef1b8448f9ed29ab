use Rattle.std.proofs.Common.{◌≡◌, ℕ, ◌+◌, ◌∷◌, ◌++◌, List, drop, get_or, sym, ap, subst, ◌∙◌}
use Rattle.std.specs.Prelude.{None}
use Rattle.std.specs.List.Sorted.{IsStrictlySortedBy}
use Rattle.std.specs.Map.{keys_of}
use Rattle.charmlet_model.specs.declared.names.Elem.{Elem}
use Rattle.charmlet_model.specs.Names.{elem_cmp}
use Rattle.charmlet_model.proofs.Maps.{elem_total}
use Rattle.charmlet_image.specs.declared.entries.Entry.{Entry}
use Rattle.charmlet_recover.specs.Maps.{counts_in}
use Rattle.charmlet_recover.proofs.Rising.{goes_last}
use Rattle.charmlet_recover.proofs.Steps.{next_at}
use Rattle.charmlet_recover.proofs.entries.received_of.Goals as goal

pub loop-entry-preserved : goal.loop-entry-preserved
loop-entry-preserved c =
    let es : List Entry = c.args.entries.now in
    let at = c.loop-entry.entry-index in
    let none : Entry = record { element = record { array = 0; index = 0 }; sent = 0; received = 0; packed = None } in
    let e : Entry = get_or es at none in
    let left : List (Elem × ℕ) = counts_in (drop (at + 1) es) in
    let here : List (Elem × ℕ) = c.loop-entry.received.entries in
    let all : here ++ (e.element, e.received) ∷ left ≡ counts_in es =
    ap (λ (xs : List Entry). here ++ counts_in xs) (sym (next_at es at none c.loop-entry-test.true)) ∙ c.loop-entry.invariant in
    ap (λ (xs : List (Elem × ℕ)). xs ++ left) c.in_ok-insert.ensures.entries
    ∙ goes_last elem_cmp elem_total here e.element e.received left (subst (λ (xs : List (Elem × ℕ)). IsStrictlySortedBy elem_cmp (keys_of xs)) (sym all) c.requires)
    ∙ all
