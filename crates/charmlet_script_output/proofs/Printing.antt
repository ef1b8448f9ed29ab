-- Lines and what they print.
use Rattle.std.proofs.Common.{◌≡◌, ℕ, ◌+◌, ◌-◌, ◌<◌, List, [], ◌∷◌, ◌++◌, length, get_or, take, drop, refl, sym, ap, subst, ◌∙◌, length-drop, arith}
use Rattle.std.specs.Prelude.{Option, Some, None, IfSome, Result, Ok, Err, IsErrAnd}
use Rattle.std.specs.Fmt.{with_newline}
use Rattle.std.specs.Io.KnownBytes.{Appends, Keeps}
use Rattle.std.proofs.lemmas.List.{append_assoc, append-nil, flat_map_more, drop_more, take-append-drop, take_all}
use Rattle.std.specs.List.{flat_map}
use Rattle.std.proofs.lemmas.List.Concat.{flat_map-append}
use Rattle.charmlet_model.specs.Texts.{Text}
use Rattle.charmlet_script_output.specs.Writing.{in_lines, AppendsBeginning, Writes}

-- ---- what a writer holds

pub appends_then : (a b c : Option (List ℕ)) (xs ys : List ℕ) → Appends a b xs → Appends b c ys → Appends a c (xs ++ ys)
appends_then None b c xs ys h k = tt
appends_then (Some a) None c xs ys h k = absurd h
appends_then (Some a) (Some b) None xs ys h k = absurd k
appends_then (Some a) (Some b) (Some c) xs ys h k = k ∙ ap (λ zs. zs ++ ys) h ∙ append_assoc a xs ys

pub appends_nothing : (a : Option (List ℕ)) → Appends a a []
appends_nothing None = tt
appends_nothing (Some a) = sym (append-nil a)

pub appends_kept : (a b c : Option (List ℕ)) (xs : List ℕ) → Appends a b xs → Keeps b c → Appends a c xs
appends_kept None b c xs h k = tt
appends_kept (Some a) None c xs h k = absurd h
appends_kept (Some a) (Some b) None xs h k = absurd k
appends_kept (Some a) (Some b) (Some c) xs h k = k ∙ h

pub kept_appends : (a b c : Option (List ℕ)) (xs : List ℕ) → Keeps a b → Appends b c xs → Appends a c xs
kept_appends None b c xs k h = tt
kept_appends (Some a) None c xs k h = absurd k
kept_appends (Some a) (Some b) None xs k h = absurd h
kept_appends (Some a) (Some b) (Some c) xs k h = h ∙ ap (λ ys. ys ++ xs) k

-- ---- what is written where a call may fail

-- what was there before stays, and a beginning comes after it
pub kept_begins : (a b c : Option Text) (text : Text) → Keeps a b → AppendsBeginning b c text → AppendsBeginning a c text
kept_begins a b c text k h = (h.0, h.1, h.2, kept_appends a b c h.0 k h.3)

-- all is written, whatever a last flush answers
pub all_written : {T E : Type 0} (r : Result T E) (a b : Option Text) (text : Text) → Appends a b text → Writes r a b text
all_written (Ok x) a b text h = h
all_written (Err e) a b text h = (text, [], sym (append-nil text), h)

-- a beginning is written, where there is an error
pub beginning_written : {T E : Type 0} (r : Result T E) (P : E → Type 0) (a b : Option Text) (text : Text) → IsErrAnd r P → AppendsBeginning a b text → Writes r a b text
beginning_written (Ok x) P a b text is h = absurd is
beginning_written (Err e) P a b text is h = h

-- nothing is written, where there is an error before
pub none_written : {T E : Type 0} (r : Result T E) (P : E → Type 0) (a : Option Text) (line : Option Text) → IsErrAnd r P → IfSome line (λ text. Writes r a a (in_lines (text ∷ [])))
none_written r P a None is = tt
none_written (Ok x) P a (Some text) is = absurd is
none_written (Err e) P a (Some text) is = ([], in_lines (text ∷ []), refl, appends_nothing a)

-- the bytes of a line are those of its text and a line feed
pub line_written : {T E : Type 0} (r : Result T E) (a b : Option Text) (line : Option Text) (bytes : Text) → IfSome (with_newline line) (λ bs. bytes ≡ bs) → Writes r a b bytes →
    IfSome line (λ text. Writes r a b (in_lines (text ∷ [])))
line_written r a b None bytes is written = tt
line_written r a b (Some text) bytes is written = subst (Writes r a b) (is ∙ sym (append-nil (text ++ 10 ∷ []))) written

-- the rest, as the code takes it
pub rest_dropped : (count : ℕ) (xs : List ℕ) → take (length xs - count) (drop count xs) ≡ drop count xs
rest_dropped count xs = take_all (length xs - count) (drop count xs) (simp length-drop (omega arith))

-- more is written
pub more_written : (a b c : Option Text) (bytes written rest next : Text) (count : ℕ) → bytes ≡ written ++ rest → Appends a b written → Appends b c (take count rest) → next ≡ drop count rest →
    (all : Text) × (bytes ≡ all ++ next) × Appends a c all
more_written a b c bytes written rest next count split before here dropped = (
  written ++ take count rest,
  split ∙ ap (λ xs. written ++ xs) (sym (take-append-drop count rest)) ∙ sym (append_assoc written (take count rest) (drop count rest)) ∙ ap (λ xs. (written ++ take count rest) ++ xs) (sym dropped),
  appends_then a b c written (take count rest) before here,
)

-- a beginning, of more
pub begins_more : (a b : Option Text) (xs ys : Text) → AppendsBeginning a b xs → AppendsBeginning a b (xs ++ ys)
begins_more a b xs ys h = (h.0, h.1 ++ ys, ap (λ zs. zs ++ ys) h.2 ∙ append_assoc h.0 h.1 ys, h.3)

-- a beginning, after what is written whole
pub begins_then : (a b c : Option Text) (xs ys : Text) → Appends a b xs → AppendsBeginning b c ys → AppendsBeginning a c (xs ++ ys)
begins_then a b c xs ys h k = (xs ++ k.0, k.1, ap (λ zs. xs ++ zs) k.2 ∙ sym (append_assoc xs k.0 k.1), appends_then a b c xs k.0 h k.3)

-- lines after lines
pub in_lines-append : (xs ys : List Text) → in_lines (xs ++ ys) ≡ in_lines xs ++ in_lines ys
in_lines-append xs ys = flat_map-append (λ text. text ++ 10 ∷ []) xs ys

pub lines_then : (a b c : Option Text) (xs ys : List Text) → Appends a b (in_lines xs) → Appends b c (in_lines ys) → Appends a c (in_lines (xs ++ ys))
lines_then a b c xs ys h k = subst (Appends a c) (sym (in_lines-append xs ys)) (appends_then a b c (in_lines xs) (in_lines ys) h k)

pub line_then : {T E : Type 0} (r : Result T E) (a b c : Option Text) (xs ys : List Text) → Appends a b (in_lines xs) → Writes r b c (in_lines ys) → Writes r a c (in_lines (xs ++ ys))
line_then (Ok x) a b c xs ys h k = lines_then a b c xs ys h k
line_then (Err e) a b c xs ys h k = subst (AppendsBeginning a c) (sym (in_lines-append xs ys)) (begins_then a b c (in_lines xs) (in_lines ys) h k)

pub line_begins : (a b : Option Text) (xs ys : List Text) → AppendsBeginning a b (in_lines xs) → AppendsBeginning a b (in_lines (xs ++ ys))
line_begins a b xs ys h = subst (AppendsBeginning a b) (sym (in_lines-append xs ys)) (begins_more a b (in_lines xs) (in_lines ys) h)

pub lines_more : {X : Type 0} (f : X → List Text) (a b c : Option Text) (xs : List X) (x : X) → Appends a b (in_lines (flat_map f xs)) → Appends b c (in_lines (f x)) →
    Appends a c (in_lines (flat_map f (xs ++ x ∷ [])))
lines_more f a b c xs x h k = subst (λ texts. Appends a c (in_lines texts)) (flat_map_more f [] xs x) (lines_then a b c (flat_map f xs) (f x) h k)

-- a beginning of all lines, in one of them
pub split_at : {X : Type 0} (xs : List X) (n : ℕ) (x : X) → n < length xs → xs ≡ take n xs ++ get_or xs n x ∷ drop (n + 1) xs
split_at xs n x within = sym (take-append-drop n xs) ∙ ap (λ zs. take n xs ++ zs) (drop_more xs n x within)

pub lines_begin : {X : Type 0} (f : X → List Text) (a b c : Option Text) (xs : List X) (n : ℕ) (x : X) → n < length xs → Appends a b (in_lines (flat_map f (take n xs))) →
    AppendsBeginning b c (in_lines (f (get_or xs n x))) → AppendsBeginning a c (in_lines (flat_map f xs))
lines_begin f a b c xs n x within h k =
    let before = flat_map f (take n xs) in
    let here = f (get_or xs n x) in
    let rest = flat_map f (drop (n + 1) xs) in
    let all : flat_map f xs ≡ before ++ (here ++ rest) =
    ap (flat_map f) (split_at xs n x within) ∙ flat_map-append f (take n xs) (get_or xs n x ∷ drop (n + 1) xs) in
    subst (λ texts. AppendsBeginning a c (in_lines texts)) (sym all)
    (subst (AppendsBeginning a c) (sym (in_lines-append before (here ++ rest))) (begins_then a b c (in_lines before) (in_lines (here ++ rest)) h (line_begins b c here rest k)))
