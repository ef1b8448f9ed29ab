use Rattle.std.proofs.Common.{◌≡◌, ◌==◌, ℕ, Bool, true, List, [], ◌∷◌, take, refl, ap, ◌∙◌, arith}
use Rattle.std.specs.Prelude.{zero, suc}
use Rattle.std.specs.List.{list_all}
use Rattle.charmlet_model.specs.Kind.{kind_number}
use Rattle.charmlet_model.specs.Reaction.{kind_of}
use Rattle.charmlet_stock.proofs.pile.Pile.drop_retired.Goals as goal

-- what holds for all of them holds for the first ones
all_taken : {X : Type 0} (p : X → Bool) (n : ℕ) (xs : List X) → list_all p xs ≡ true → list_all p (take n xs) ≡ true
all_taken p zero xs all = refl
all_taken p (suc n) [] all = refl
all_taken p (suc n) (x ∷ xs) all = grind (arith, all_taken p n xs)

pub invariant_of-self-clause-sorted : goal.invariant_of-self-clause-sorted
invariant_of-self-clause-sorted g c =
    let is = λ (object : g.row.C.Denot). kind_number (kind_of (g.C.Chare.state object)) == kind_number c.args.self.now.kind in
    ap (list_all is) c.truncate.ensures.items ∙ all_taken is _ c.args.self.now.objects.items c.args.self.now.sorted
