use Rattle.std.proofs.Common.{◌≡◌, List, ◌∷◌, ◌++◌, sym, ap, subst, ◌∙◌, rules}
use Rattle.std.specs.List.Sorted.{IsStrictlySortedBy}
use Rattle.std.specs.Map.{keys_of}
use Rattle.std.proofs.Common.{ℕ}
use Rattle.std.specs.Ordering.{nat_cmp}
use Rattle.std.specs.Cmp.{nat_cmp_total}
use Rattle.charmlet_model.specs.declared.client.ClientRow.{ClientRow}
use Rattle.charmlet_reference.proofs.RisingMaps.{goes_last}
use Rattle.charmlet_reference.proofs.world.map_of_rows.Goals as goal

pub loop-client-preserved : goal.loop-client-preserved
loop-client-preserved c =
    let es = c.loop-client.map.entries in
    let rest = c.next.new.self.rest.items in
    let here : c.loop-client.client-iterator.rest.items ≡ (c.in-Some.client, c.in-Some.row) ∷ rest = search rules in
    let all = ap (λ (more : List (ℕ × ClientRow)). es ++ more) (sym here) ∙ c.loop-client.invariant in
    ap (λ (more : List (ℕ × ClientRow)). more ++ rest) c.in_ok-put_row.ensures
    ∙ goes_last nat_cmp nat_cmp_total es c.in-Some.client c.in-Some.row rest (subst (λ (all : List (ℕ × ClientRow)). IsStrictlySortedBy nat_cmp (keys_of all)) (sym all) c.requires)
    ∙ all
