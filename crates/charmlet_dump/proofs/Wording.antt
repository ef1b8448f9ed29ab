-- The words of a command line, one after the other.
use Rattle.std.proofs.Common.{◌≡◌, ◌+◌, ◌<◌, ◌∙◌, ℕ, List, ◌∷◌, drop, get_or, length, ap, arith, sym}
use Rattle.std.specs.Prelude.{Result, Ok, Err, IsErrAnd, map}
use Rattle.std.proofs.lemmas.List.{drop_more, get_or-map, length-map}
use Rattle.charmlet_model.specs.Texts.{Text}
use Rattle.charmlet_dump.specs.declared.arguments.BadLine as lines
use Rattle.charmlet_dump.specs.declared.arguments.Request as requests
use Rattle.charmlet_dump.specs.Arguments.{Asked, Bad, asked_all, asked_next, bad_in, request_or_bad, then_so}

pub one_word : {S : Type 0} (text : S → Text) (words : List S) (n : ℕ) (x : S) → n < length words → drop n (map text words) ≡ text (get_or words n x) ∷ drop (n + 1) (map text words)
one_word text words n x within =
    drop_more (map text words) n (text x) (omega (arith, within, length-map words text))
    ∙ ap (λ (word : Text). word ∷ drop (n + 1) (map text words)) (get_or-map text words n x (text x) within)

pub next_word : {S : Type 0} (text : S → Text) (words : List S) (n : ℕ) (x : S) (asked : Asked) (word : Text) (r : Result Asked Bad) → n < length words → x ≡ get_or words n x → word ≡ text x → r ≡ asked_next asked word →
    asked_all asked (drop n (map text words)) ≡ then_so r (λ next. asked_all next (drop (n + 1) (map text words)))
next_word text words n x asked word r within is says read =
    let rest = drop (n + 1) (map text words) in
    let here : text (get_or words n x) ≡ word = ap text (sym is) ∙ sym says in
    ap (asked_all asked) (one_word text words n x within)
    ∙ ap (λ (w : Text). then_so (asked_next asked w) (λ next. asked_all next rest)) here
    ∙ ap (λ (q : Result Asked Bad). then_so q (λ next. asked_all next rest)) (sym read)

pub bad_word : (r : Result requests.Request lines.BadLine) (bad : lines.BadLine) → IsErrAnd r (λ x. x ≡ bad) → request_or_bad r ≡ Err (bad_in bad)
bad_word (Ok x) bad is = absurd is
bad_word (Err x) bad is = ap (λ (b : lines.BadLine). Err (bad_in b)) is
