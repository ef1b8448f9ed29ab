-- Lines and what is written of them.
use Rattle.std.proofs.Common.{◌≡◌, ℕ, ◌+◌, ◌-◌, ◌<◌, ◌≤◌, List, [], ◌∷◌, ◌++◌, length, get_or, take, drop, refl, sym, ap, subst, ◌∙◌, length-drop, arith}
use Rattle.std.specs.Prelude.{Option, Some, None, IfSome, Result, Ok, Err, IsErrAnd, slice_index_or}
use Rattle.std.specs.Fmt.{with_newline}
use Rattle.std.specs.Io.KnownBytes.{Appends, Keeps}
use Rattle.std.specs.List.{flat_map}
use Rattle.std.proofs.lemmas.List.{append_assoc, append-nil, drop_all, drop_more, take-append-drop, take_all}
use Rattle.std.proofs.lemmas.List.Concat.{flat_map-append}
use Rattle.charmlet_model.specs.Texts.{Text}
use Rattle.charmlet_model.specs.Row.{Item}
use Rattle.charmlet_dump.specs.Facts.{Request, window_facts}
use Rattle.charmlet_dump.specs.Writing.{AppendsBeginning, Writes}

-- ---- what a writer holds

pub appends_then : (a b c : Option (List ℕ)) (xs ys : List ℕ) → Appends a b xs → Appends b c ys → Appends a c (xs ++ ys)
appends_then None b c xs ys h k = tt
appends_then (Some a) None c xs ys h k = absurd h
appends_then (Some a) (Some b) None xs ys h k = absurd k
appends_then (Some a) (Some b) (Some c) xs ys h k = k ∙ ap (λ zs. zs ++ ys) h ∙ append_assoc a xs ys

pub appends_nothing : (a : Option (List ℕ)) → Appends a a []
appends_nothing None = tt
appends_nothing (Some a) = sym (append-nil a)

pub appends_kept : (a b c : Option (List ℕ)) (xs : List ℕ) → Appends a b xs → Keeps b c → Appends a c xs
appends_kept None b c xs h k = tt
appends_kept (Some a) None c xs h k = absurd h
appends_kept (Some a) (Some b) None xs h k = absurd k
appends_kept (Some a) (Some b) (Some c) xs h k = k ∙ h

-- ---- what is written where a call may fail

-- a beginning is written, where there is an error
pub beginning_written : {T E : Type 0} (r : Result T E) (P : E → Type 0) (a b : Option Text) (text : Text) → IsErrAnd r P → AppendsBeginning a b text → Writes r a b text
beginning_written (Ok x) P a b text is h = absurd is
beginning_written (Err e) P a b text is h = h

-- nothing is written, where there is an error before
pub none_written : {T E : Type 0} (r : Result T E) (P : E → Type 0) (a : Option Text) (line : Option Text) → IsErrAnd r P → IfSome line (λ text. Writes r a a (text ++ 10 ∷ []))
none_written r P a None is = tt
none_written (Ok x) P a (Some text) is = absurd is
none_written (Err e) P a (Some text) is = ([], text ++ 10 ∷ [], refl, appends_nothing a)

-- the bytes of a line are those of its text and a line feed
pub line_written : {T E : Type 0} (r : Result T E) (a b : Option Text) (line : Option Text) (bytes : Text) → IfSome (with_newline line) (λ bs. bytes ≡ bs) → Writes r a b bytes →
    IfSome line (λ text. Writes r a b (text ++ 10 ∷ []))
line_written r a b None bytes is written = tt
line_written r a b (Some text) bytes is written = subst (Writes r a b) is written

-- the rest, as the code takes it
pub rest_dropped : (count : ℕ) (xs : List ℕ) → take (length xs - count) (drop count xs) ≡ drop count xs
rest_dropped count xs = take_all (length xs - count) (drop count xs) (simp length-drop (omega arith))

-- more is written
pub more_written : (a b c : Option Text) (bytes written rest next : Text) (count : ℕ) → bytes ≡ written ++ rest → Appends a b written → Appends b c (take count rest) → next ≡ drop count rest →
    (all : Text) × (bytes ≡ all ++ next) × Appends a c all
more_written a b c bytes written rest next count split before here dropped = (
  written ++ take count rest,
  split ∙ ap (λ xs. written ++ xs) (sym (take-append-drop count rest)) ∙ sym (append_assoc written (take count rest) (drop count rest)) ∙ ap (λ xs. (written ++ take count rest) ++ xs) (sym dropped),
  appends_then a b c written (take count rest) before here,
)

-- ---- facts, of which those so far are written

module _ {X : Type 0} (line : X → Text) where
  -- of all of them some are written, and the rest isn't
  pub record IsUnderWay (before now : Option Text) (all rest : List X) : Type 0 where
    pub done : List X
    pub split : all ≡ done ++ rest
    pub written : Appends before now (flat_map line done)

  pub begun : (a : Option Text) (all : List X) → IsUnderWay a a all all
  begun a all = record { done = []; split = refl; written = appends_nothing a }

  -- some more
  pub goes_on : (a b c : Option Text) (all rest these next : List X) → IsUnderWay a b all rest → rest ≡ these ++ next → Appends b c (flat_map line these) → IsUnderWay a c all next
  goes_on a b c all rest these next so_far is here = record {
    done = so_far.done ++ these;
    split = so_far.split ∙ ap (λ xs. so_far.done ++ xs) is ∙ sym (append_assoc so_far.done these next);
    written = subst (Appends a c) (sym (flat_map-append line so_far.done these)) (appends_then a b c (flat_map line so_far.done) (flat_map line these) so_far.written here);
  }

  -- a beginning of some more
  pub breaks_off : (a b c : Option Text) (all rest these next : List X) → IsUnderWay a b all rest → rest ≡ these ++ next → AppendsBeginning b c (flat_map line these) →
      AppendsBeginning a c (flat_map line all)
  breaks_off a b c all rest these next so_far is here =
      let done = flat_map line so_far.done in
      let whole : flat_map line all ≡ done ++ (flat_map line these ++ flat_map line next) =
      ap (flat_map line) (so_far.split ∙ ap (λ xs. so_far.done ++ xs) is) ∙ flat_map-append line so_far.done (these ++ next) ∙ ap (λ text. done ++ text) (flat_map-append line these next) in (
        done ++ here.0,
        here.1 ++ flat_map line next,
        whole ∙ ap (λ text. done ++ (text ++ flat_map line next)) here.2 ∙ ap (λ text. done ++ text) (append_assoc here.0 here.1 (flat_map line next)) ∙ sym (append_assoc done here.0 (here.1 ++ flat_map line next)),
        appends_then a b c done here.0 so_far.written here.3,
      )

  -- all of them
  pub ended : (a b : Option Text) (all rest : List X) → IsUnderWay a b all rest → rest ≡ [] → Appends a b (flat_map line all)
  ended a b all rest so_far none =
      subst (Appends a b) (ap (flat_map line) (sym (so_far.split ∙ ap (λ xs. so_far.done ++ xs) none ∙ append-nil so_far.done))) so_far.written

  -- the last ones are written, or a beginning of them
  pub ends_so : {T E : Type 0} (r : Result T E) (a b c : Option Text) (all rest : List X) → IsUnderWay a b all rest → Writes r b c (flat_map line rest) → Writes r a c (flat_map line all)
  ends_so (Ok x) a b c all rest so_far here = ended a c all [] (goes_on a b c all rest rest [] so_far (sym (append-nil rest)) here) refl
  ends_so (Err e) a b c all rest so_far here = breaks_off a b c all rest rest [] so_far (sym (append-nil rest)) here

-- what is left of a list, one step on and at its end
pub left_over : {X Y : Type 0} (f : X → List Y) (xs : List X) (n : ℕ) (x : X) → n < length xs → flat_map f (drop n xs) ≡ f (get_or xs n x) ++ flat_map f (drop (n + 1) xs)
left_over f xs n x within = ap (flat_map f) (drop_more xs n x within)

pub none_left : {X Y : Type 0} (f : X → List Y) (xs : List X) (n : ℕ) → length xs ≤ n → flat_map f (drop n xs) ≡ []
none_left f xs n past = ap (flat_map f) (drop_all n xs past)

pub window_left : (client before : ℕ) (items : List Item) (n : ℕ) → n < length items →
    window_facts client (before + n) (drop n items) ≡ Request client (before + n + 1) (slice_index_or items n None) ∷ window_facts client (before + (n + 1)) (drop (n + 1) items)
window_left client before items n within =
    let more : before + n + 1 ≡ before + (n + 1) = omega arith in
    ap (window_facts client (before + n)) (drop_more items n None within)
    ∙ ap (λ (k : ℕ). Request client (before + n + 1) (slice_index_or items n None) ∷ window_facts client k (drop (n + 1) items)) more
