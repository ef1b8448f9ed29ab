use Rattle.std.proofs.Common.{◌≡◌, List, ◌∷◌, ◌++◌, sym, ap, subst, ◌∙◌, rules}
use Rattle.std.specs.List.Sorted.{IsStrictlySortedBy}
use Rattle.std.specs.Map.{keys_of}
use Rattle.charmlet_model.specs.declared.names.Elem.{Elem}
use Rattle.charmlet_model.specs.declared.state.Record.{Record}
use Rattle.charmlet_model.specs.Names.{elem_cmp}
use Rattle.charmlet_model.proofs.Maps.{elem_total}
use Rattle.charmlet_reference.proofs.RisingMaps.{goes_last}
use Rattle.charmlet_reference.proofs.world.map_of_records.Goals as goal

pub loop-elem-preserved : goal.loop-elem-preserved
loop-elem-preserved c =
    let es = c.loop-elem.map.entries in
    let rest = c.next.new.self.rest.items in
    let here : c.loop-elem.elem-iterator.rest.items ≡ (c.in-Some.elem, c.in-Some.record) ∷ rest = search rules in
    let all = ap (λ (more : List (Elem × Record)). es ++ more) (sym here) ∙ c.loop-elem.invariant in
    ap (λ (more : List (Elem × Record)). more ++ rest) c.in_ok-put_record.ensures
    ∙ goes_last elem_cmp elem_total es c.in-Some.elem c.in-Some.record rest (subst (λ (all : List (Elem × Record)). IsStrictlySortedBy elem_cmp (keys_of all)) (sym all) c.requires)
    ∙ all
