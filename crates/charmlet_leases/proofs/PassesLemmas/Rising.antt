-- What a pass's client is told rises.
use Rattle.std.proofs.Common.{◌≡◌, inr, ⊎_elim, ℕ, not, false, List, [], ◌∷◌, ◌++◌, sym, subst}
use Rattle.charmlet_model.specs.declared.told.Told.{Told}
use Rattle.charmlet_model.specs.declared.told.Told.TheVariants.{Unknown, Accepted, Replied, Past}
use Rattle.charmlet_requests.specs.Knowing.{IsNoLess, is_unknown}
use Rattle.charmlet_requests.specs.Pass.{Pass, known}
use Rattle.charmlet_leases.specs.Passes.Passes.{HeldPass, AreKnown, AreRising}
use Rattle.charmlet_leases.proofs.PassesLemmas.Places.{all-last}

no_less-then : (a b c : Told) → IsNoLess a b → IsNoLess b c → IsNoLess a c
no_less-then Unknown b c one two = tt
no_less-then Accepted Unknown c one two = absurd one
no_less-then Accepted Accepted c one two = two
no_less-then Accepted (Replied reply) c one two = ⊎_elim (λ (is : c ≡ Replied reply). subst (IsNoLess Accepted) (sym is) tt) (λ (is : c ≡ Past). subst (IsNoLess Accepted) (sym is) tt) two
no_less-then Accepted Past c one two = subst (IsNoLess Accepted) (sym two) tt
no_less-then (Replied reply) b c one two = ⊎_elim (λ (is : b ≡ Replied reply). subst (λ t. IsNoLess t c) is two) (λ (is : b ≡ Past). inr (subst (λ t. IsNoLess t c) is two)) one
no_less-then Past b c one two = subst (λ t. IsNoLess t c) one two

-- an answer that says nothing is no more than any other
pub unknown_is_least : (t later : Told) → not (is_unknown t) ≡ false → IsNoLess t later
unknown_is_least Unknown later none = tt
unknown_is_least Accepted later none = absurd (let no : ⊥ = cc in no)
unknown_is_least (Replied reply) later none = absurd (let no : ⊥ = cc in no)
unknown_is_least Past later none = absurd (let no : ⊥ = cc in no)

-- a pass that knows no less than another knows what it does
known-still : (p q : Pass) → ((other : ℕ) → IsNoLess (known p other) (known q other)) → (answers : List (ℕ × Told)) → AreKnown p answers → AreKnown q answers
known-still p q kept [] all = tt
known-still p q kept (answer ∷ answers) all = (no_less-then answer.1 (known p answer.0) (known q answer.0) all.0 (kept answer.0), known-still p q kept answers all.1)

-- an answer that is no less than what the pass knew is no less than each earlier one
rising-append : (p : Pass) (number : ℕ) (t : Told) → IsNoLess (known p number) t → (answers : List (ℕ × Told)) → AreKnown p answers → AreRising answers → AreRising (answers ++ (number, t) ∷ [])
rising-append p number t more [] all rising = (tt, tt)
rising-append p number t more (answer ∷ answers) all rising =
    let P : ℕ × Told → Type 0 = λ next. next.0 ≡ answer.0 → IsNoLess answer.1 next.1 in (
      all-last P answers (number, t) rising.0 (λ same. no_less-then answer.1 (known p answer.0) t all.0 (subst (λ n. IsNoLess (known p n) t) same more)),
      rising-append p number t more answers all.1 rising.1,
    )

-- one more answer
module _ (h : HeldPass) (q : Pass) (number : ℕ) (t : Told) (more : IsNoLess (known h.pass number) t) (less : IsNoLess t (known q number)) (kept : (other : ℕ) → IsNoLess (known h.pass other) (known q other)) (all : AreKnown h.pass h.heard) where
  pub rising-answered : AreRising h.heard → AreRising (h.heard ++ (number, t) ∷ [])
  rising-answered rising = rising-append h.pass number t more h.heard all rising

  pub known-answered : AreKnown q (h.heard ++ (number, t) ∷ [])
  known-answered =
      let P : ℕ × Told → Type 0 = λ answer. IsNoLess answer.1 (known q answer.0) in
      all-last P h.heard (number, t) (known-still h.pass q kept h.heard all) less
