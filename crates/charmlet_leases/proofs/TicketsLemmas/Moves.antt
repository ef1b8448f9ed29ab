-- Each step keeps the rule of the queue.
use Rattle.std.proofs.Common.{◌≡◌, ℕ, zero, suc, List, [], ◌∷◌, ◌++◌, Option, Some, None, refl, sym, ap, ◌∙◌, subst, ⊎_elim, inl, inr}
use Rattle.std.specs.Prelude.{slice_set}
use mathlib.Core.Option.{some, some-injective, some-ne-none}
use lib.ListN.{get_elem?}
use Rattle.crossbeam_queue.specs.Fifo.{Pushes, Pops, Forks}
use Rattle.charmlet_leases.specs.declared.tickets.rule.Ticket.{Ticket}
use Rattle.charmlet_leases.specs.Tickets.Tickets.{AreFor, AllKnow, HasOneProcessor}

one_more : (place : ℕ) (items : List Ticket) (t : Ticket) → t.processor ≡ place → AreFor place items → AreFor place (items ++ t ∷ [])
one_more place [] t e all = (e, tt)
one_more place (x ∷ xs) t e all = (all.0, one_more place xs t e all.1)

knows : (place : ℕ) (views : List (Option ℕ)) (pass : ℕ) (v : Option ℕ) → AllKnow place views → get_elem? views pass ≡ some v → v ≡ Some place
knows place [] pass v all at = absurd (some-ne-none v (sym at))
knows place (x ∷ xs) zero v all at = sym (some-injective x v at) ∙ all.0
knows place (x ∷ xs) (suc pass) v all at = knows place xs pass v all.1 at

know_set : (place : ℕ) (views : List (Option ℕ)) (pass : ℕ) (w : Option ℕ) → w ≡ Some place → AllKnow place views → AllKnow place (slice_set views pass w)
know_set place [] pass w e all = tt
know_set place (x ∷ xs) zero w e all = (e, all.1)
know_set place (x ∷ xs) (suc pass) w e all = (all.0, know_set place xs pass w e all.1)

know_more : (place : ℕ) (views : List (Option ℕ)) (w : Option ℕ) → w ≡ Some place → AllKnow place views → AllKnow place (views ++ w ∷ [])
know_more place [] w e all = (e, tt)
know_more place (x ∷ xs) w e all = (all.0, know_more place xs w e all.1)

-- a pass of the queue that has no processor yet knows none
blank : (views : List (Option ℕ)) (pass : ℕ) (v : Option ℕ) → views ≡ None ∷ [] → get_elem? views pass ≡ some v → (v ≡ None) × (pass ≡ 0)
blank views pass v is at = first pass (subst (λ l. get_elem? l pass ≡ some v) is at)
  where
    first : (pass : ℕ) → get_elem? (None ∷ []) pass ≡ some v → (v ≡ None) × (pass ≡ 0)
    first zero at' = (sym (some-injective _ _ at'), refl)
    first (suc p) at' = absurd (some-ne-none v (sym at'))

pub begins : HasOneProcessor [] (None ∷ [])
begins = inl (refl, refl)

pub pushes : (n pass : ℕ) (v : Option ℕ) (x : Ticket) → v ≡ Some x.processor → Pushes HasOneProcessor n pass v x (λ w. (w ≡ v) × (v ≡ Some x.processor))
pushes n pass v x is items views room h at =
    ⊎_elim
    (λ (b : (items ≡ []) × (views ≡ None ∷ [])). let none = (blank views pass v b.1 at).0 in absurd (cc (none, is)))
    (λ (k : (place : ℕ) × AreFor place items × AllKnow place views).
    let known = knows k.0 views pass v k.2 at in
    let same : x.processor ≡ k.0 = cc (known, is) in
    (v, inr (k.0, one_more k.0 items x same k.1, know_set k.0 views pass v known k.2), (refl, is)))
    h

pub pops : (pass : ℕ) (v : Option ℕ) → Pops HasOneProcessor pass v (λ x w. (w ≡ v) × (v ≡ Some x.processor))
pops pass v x items views h at =
    ⊎_elim
    (λ (b : (x ∷ items ≡ []) × (views ≡ None ∷ [])). absurd (cc (b.0)))
    (λ (k : (place : ℕ) × AreFor place (x ∷ items) × AllKnow place views).
    let known = knows k.0 views pass v k.2 at in
    (v, inr (k.0, k.1.1, know_set k.0 views pass v known k.2), (refl, known ∙ ap Some (sym k.1.0))))
    h

pub names : (pass place : ℕ) (v : Option ℕ) → v ≡ None → Forks HasOneProcessor pass v (Some place) (Some place)
names pass place v none items views h at =
    ⊎_elim
    (λ (b : (items ≡ []) × (views ≡ None ∷ [])).
    let first = (blank views pass v b.1 at).1 in
    inr (place, subst (AreFor place) (sym b.0) tt, subst (λ (p : List (Option ℕ) × ℕ). AllKnow place (slice_set p.0 p.1 (Some place) ++ Some place ∷ [])) (λ i. (sym b.1 i, sym first i)) (refl, (refl, tt))))
    (λ (k : (p : ℕ) × AreFor p items × AllKnow p views). let known = knows k.0 views pass v k.2 at in absurd (cc (known, none)))
    h

pub copies : (pass : ℕ) (v : Option ℕ) (p : ℕ) → v ≡ Some p → Forks HasOneProcessor pass v v v
copies pass v p is items views h at =
    ⊎_elim
    (λ (b : (items ≡ []) × (views ≡ None ∷ [])). let none = (blank views pass v b.1 at).0 in absurd (cc (none, is)))
    (λ (k : (place : ℕ) × AreFor place items × AllKnow place views).
    let known = knows k.0 views pass v k.2 at in
    inr (k.0, k.1, know_more k.0 (slice_set views pass v) v known (know_set k.0 views pass v known k.2)))
    h
