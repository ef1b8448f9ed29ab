-- A text is read up to one byte past the limit.
use Rattle.std.proofs.Common.{map, sym, ◌≡◌, ◌==◌, ◌+◌, ◌≤◌, ◌∷◌, ◌++◌, [], ℕ, List, take, length, get_or, ◌∙◌, ap, subst, refl, arith, inl, inr, Option, Some, None, Result, Err, IfSome}
use Rattle.std.specs.Option.{option_map}
use Rattle.std.proofs.lemmas.Bool.{cases_lt}
use Rattle.std.proofs.lemmas.Bool.Decides.{nat_tests}
use Rattle.std.proofs.lemmas.List.{length-map, length-take-le, take-append-le, take_all, take_more}
use Rattle.std.proofs.lemmas.List.Splits.{length-slice_split}
use Rattle.std.proofs.lemmas.List.Sums.{count_by-le-length}
use Rattle.charmlet_script.specs.Script.{most_lines}
use Rattle.charmlet_script.specs.Line.{parts_of}
use Rattle.charmlet_script.specs.Reading.{Answers, IsUnread, lines_of, max_length, within}
use Rattle.charmlet_script.specs.declared.error.ReadError.{ReadError}
use Rattle.charmlet_script.specs.declared.error.ReadError.TheVariants as errors

-- the bytes past the first one beyond the limit make no difference
pub within-take : (most : ℕ) (bytes : List ℕ) → within most (take (most + 1) bytes) ≡ within most bytes
unfolding within
within-take most bytes =
    elim (cases_lt most (length bytes)) [
      | inl longer ↦
          let more = take_more bytes most 0 longer in
          let front : length (take most bytes) ≡ most = length-take-le most bytes (omega arith) in
          let all : length (take (most + 1) bytes) ≡ most + 1 = length-take-le (most + 1) bytes (omega arith) in
          let again : take most (take (most + 1) bytes) ≡ take most bytes = ap (take most) more ∙ take-append-le most (take most bytes) (get_or bytes most 0 ∷ []) (omega arith) ∙ take_all most (take most bytes) (omega arith) in
          grind (arith, nat_tests)
      | inr whole ↦ rw (take_all (most + 1) bytes (omega arith)) refl
    ]

-- what a limited reader gave, appended to nothing
pub start_is : (known limited : Option (List ℕ)) (n limit : ℕ) (old new : List ℕ) → limited ≡ known → limit ≡ n → old ≡ []
    → IfSome (option_map (take limit) limited) (λ xs. new ≡ old ++ xs) → IfSome known (λ bytes. new ≡ take n bytes)
start_is known limited n limit old new k l o h =
    let read = subst (λ (x : Option (List ℕ)). IfSome (option_map (take limit) x) (λ xs. new ≡ old ++ xs)) k h in
    from_known known n limit old new l o read
  where
    from_known : (known : Option (List ℕ)) (n limit : ℕ) (old new : List ℕ) → limit ≡ n → old ≡ []
        → IfSome (option_map (take limit) known) (λ xs. new ≡ old ++ xs) → IfSome known (λ bytes. new ≡ take n bytes)
    from_known None n limit old new l o h = tt
    from_known (Some bytes) n limit old new l o h = h ∙ ap (λ xs. xs ++ take limit bytes) o ∙ ap (λ m. take m bytes) l

-- the text up to the limit, cut, is the bytes cut
pub text_is : (known : Option (List ℕ)) (text cut : List ℕ) → IfSome known (λ bytes. text ≡ take (max_length + 1) bytes) → cut ≡ within max_length text
    → IfSome known (λ bytes. cut ≡ within max_length bytes)
text_is None text cut h c = tt
text_is (Some bytes) text cut h c = c ∙ ap (within max_length) h ∙ within-take max_length bytes

-- what the lines of the text spell is what the bytes spell
pub spelled_is : {A : Type 0} (spell : List (List ℕ) → Result A ℕ) (known : Option (List ℕ)) (text : List ℕ) (lines : List (List ℕ)) (r : Result A ReadError)
    → IfSome known (λ bytes. text ≡ within max_length bytes) → lines ≡ parts_of 10 text
    → Answers r (spell lines) → IfSome known (λ bytes. Answers r (spell (lines_of (within max_length bytes))))
spelled_is spell None text lines r h l a = tt
spelled_is spell (Some bytes) text lines r h l a = subst (λ ls. Answers r (spell ls)) (l ∙ ap (parts_of 10) h) a

-- where nothing was read, it is ignored what the bytes spell
pub unread_is : {A : Type 0} (known : Option (List ℕ)) (error : ReadError) (spell : List ℕ → Result A ℕ) → IsUnread error
    → IfSome known (λ bytes. Answers (Err error) (spell bytes))
unread_is None error spell unread = tt
unread_is (Some bytes) (errors.Malformed number) spell unread = absurd unread
unread_is (Some bytes) errors.Memory spell unread = tt
unread_is (Some bytes) (errors.Failed error) spell unread = tt

-- a text has at most one part more than it has bytes
pub length-parts_of : (separator : ℕ) (text : List ℕ) → length (parts_of separator text) ≤ length text + 1
length-parts_of separator text = omega (arith, length-slice_split (λ b. b == separator) text, count_by-le-length (λ b. b == separator) text)

-- a text up to the limit has few lines
pub few_lines : {W : Type 0} (line : W → List ℕ) (text : List ℕ) (lines : List W) → map line lines ≡ parts_of 10 text → length text ≤ max_length + 1
    → length lines ≤ most_lines
few_lines line text lines parts short =
    let count : length (parts_of 10 text) ≡ length lines = ap length (sym parts) ∙ length-map lines line in
    omega (arith, length-parts_of 10 text)
