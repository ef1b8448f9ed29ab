-- Rows that are filled with replies, one after the other.
use Rattle.std.proofs.Common.{◌≡◌, ◌≢◌, ℕ, ◌-◌, ◌≤◌, ◌==◌, Bool, true, false, cond, ◌&&◌, List, [], ◌∷◌, ◌++◌, length, get_or, set, refl, sym, ap, subst, ◌∙◌, arith, zero, suc, if◌then◌else◌, Some, None}
use Rattle.std.specs.Prelude.{Option, is_some, map, option_map, unwrap_or}
use Rattle.std.specs.List.{AllByRecursion}
use Rattle.std.specs.List.Sorted.{IsStrictlySortedBy}
use Rattle.std.specs.BTreeMap.{is_at}
use Rattle.std.specs.Cmp.{nat_cmp_total}
use Rattle.std.specs.Map.{keys_of, lookup, set_value}
use Rattle.std.specs.Ordering.{nat_cmp}
use Rattle.std.proofs.lemmas.Bool.{eq-eqb, eqb-true}
use Rattle.std.proofs.lemmas.Map.Lookups.{exact_unsigned}
use Rattle.std.proofs.lemmas.Map.Views.{tells_apart}
use Rattle.charmlet_model.specs.declared.client.ClientRow.{ClientRow}
use Rattle.charmlet_model.specs.Row.{Item, in_window, item_of, item_place, no_client, reply_to, with_reply}
use Rattle.charmlet_model.specs.World.{row_of}
use Rattle.charmlet_model.proofs.Maps.{same_maps}
use Rattle.charmlet_model.proofs.Windows.{inside-parts}
use Rattle.charmlet_recovery.specs.Replays.{blank_item, blank_row, blank_rows}
use Rattle.charmlet_recovery.proofs.Lists.{blank-row_of, length-blanked}
use Rattle.charmlet_replayers.specs.declared.replies.reply.Reply.{Reply}
use Rattle.charmlet_replayers.specs.Replies.Filled.{filled, put_at, put_reply, with_words}
use Rattle.charmlet_replayers.specs.Replies.Replies.{given}
use Rattle.charmlet_replayers.proofs.RepliesLemmas.Rows.{AreAlike, alike-inside, in-item, out-none, reply-here, reply-other, same-row}

-- ---- rows without their words

pub alike-blank : (a b : ClientRow) → blank_row a ≡ blank_row b → AreAlike a b
alike-blank a b h = record {
  last = ap (λ (r : ClientRow). r.last) h;
  long = sym (length-blanked a.window) ∙ ap (λ (r : ClientRow). length r.window) h ∙ length-blanked b.window;
}

pub alike-rows : (rows target : List (ℕ × ClientRow)) (c : ℕ) → blank_rows rows ≡ blank_rows target → AreAlike (row_of rows c) (row_of target c)
alike-rows rows target c h = alike-blank (row_of rows c) (row_of target c) (blank-row_of rows c ∙ ap (λ rs. row_of rs c) h ∙ sym (blank-row_of target c))

get_or-blank : (xs : List Item) (i : ℕ) → get_or (map blank_item xs) i None ≡ blank_item (get_or xs i None)
get_or-blank [] i = refl
get_or-blank (x ∷ xs) zero = refl
get_or-blank (x ∷ xs) (suc i) = get_or-blank xs i

-- whether a request has a reply is seen there too
pub blank-reply : (row : ClientRow) (n : ℕ) → reply_to (blank_row row) n ≡ blank_item (reply_to row n)
blank-reply row n =
    let same : AreAlike (blank_row row) row = record { last = refl; long = length-blanked row.window } in
    let inside = alike-inside (blank_row row) row n same in
    elim (in_window row n) as (λ b. in_window row n ≡ b → reply_to (blank_row row) n ≡ blank_item (reply_to row n)) [
      | false ↦ λ out. out-none (blank_row row) n (inside ∙ out) ∙ sym (ap blank_item (out-none row n out))
      | true ↦ λ here.
          in-item (blank_row row) n (inside ∙ here)
          ∙ ap (λ k. get_or (map blank_item row.window) (n - (row.last - k) - 1) None) same.long
          ∙ get_or-blank row.window (item_place row n) ∙ sym (ap blank_item (in-item row n here))
    ] refl

lookup-blank : (test : ℕ → Bool) (rows : List (ℕ × ClientRow)) → lookup test (blank_rows rows) ≡ option_map blank_row (lookup test rows)
lookup-blank test [] = refl
lookup-blank test (e ∷ es) =
    elim (test e.0) as (λ b. cond b (Some (blank_row e.1)) (lookup test (blank_rows es)) ≡ option_map blank_row (cond b (Some e.1) (lookup test es))) [
      | true ↦ refl
      | false ↦ lookup-blank test es
    ]

keys-blank : (rows : List (ℕ × ClientRow)) → keys_of (blank_rows rows) ≡ keys_of rows
keys-blank [] = refl
keys-blank (e ∷ es) = ap (λ ks. e.0 ∷ ks) (keys-blank es)

-- ---- rows of the same clients, with the same replies

module _ (rows target : List (ℕ × ClientRow)) (blank : blank_rows rows ≡ blank_rows target) (rising : IsStrictlySortedBy nat_cmp (keys_of target))
    (bounded : (c : ℕ) → length (row_of target c).window ≤ (row_of target c).last) (same : (c n : ℕ) → reply_to (row_of rows c) n ≡ reply_to (row_of target c) n) where
  one-row : (c : ℕ) → row_of rows c ≡ row_of target c
  one-row c =
      let alike = alike-rows rows target c blank in
      let last = alike.last in
      let long = alike.long in
      let within = bounded c in
      same-row (row_of rows c) (row_of target c) alike (omega (arith, last, long, within)) (same c)

  one-found : (c : ℕ) (a b : Option ClientRow) → option_map blank_row a ≡ option_map blank_row b → unwrap_or a no_client ≡ unwrap_or b no_client → a ≡ b
  one-found c None None h is = refl
  one-found c None (Some b) h is = absurd (let never : ⊥ = cc in never)
  one-found c (Some a) None h is = absurd (let never : ⊥ = cc in never)
  one-found c (Some a) (Some b) h is = ap Some is

  pub same-rows : rows ≡ target
  same-rows =
      let keys : keys_of target ≡ keys_of rows = sym (keys-blank target) ∙ ap keys_of (sym blank) ∙ keys-blank rows in
      same_maps nat_cmp nat_cmp_total exact_unsigned rows target (subst (IsStrictlySortedBy nat_cmp) keys rising) rising
      (λ c. one-found c (lookup (is_at (nat_cmp c)) rows) (lookup (is_at (nat_cmp c)) target)
      (sym (lookup-blank (is_at (nat_cmp c)) rows) ∙ ap (lookup (is_at (nat_cmp c))) blank ∙ lookup-blank (is_at (nat_cmp c)) target) (one-row c))

-- ---- one row that is set

module _ (c : ℕ) (new : ClientRow) where
  abbrev test : ℕ → Bool
  test = is_at (nat_cmp c)

  set-here : (rows : List (ℕ × ClientRow)) (row : ClientRow) → lookup test rows ≡ Some row → row_of (set_value test rows new) c ≡ new
  set-here [] row h = absurd (let never : ⊥ = cc in never)
  set-here (e ∷ es) row h =
      elim (test e.0) as (λ b. test e.0 ≡ b → cond b (Some e.1) (lookup test es) ≡ Some row → unwrap_or (lookup test (cond b ((e.0, new) ∷ es) (e ∷ set_value test es new))) no_client ≡ new) [
        | true ↦ λ at _. ap (λ b. unwrap_or (cond b (Some new) (lookup test es)) no_client) at
        | false ↦ λ past found. ap (λ b. unwrap_or (cond b (Some e.1) (lookup test (set_value test es new))) no_client) past ∙ set-here es row found
      ] refl h

  set-apart : (other : ℕ → Bool) → ((k : ℕ) → test k ≡ true → other k ≡ false) → (rows : List (ℕ × ClientRow)) → lookup other (set_value test rows new) ≡ lookup other rows
  set-apart other apart [] = refl
  set-apart other apart (e ∷ es) =
      elim (test e.0) as (λ b. test e.0 ≡ b → lookup other (cond b ((e.0, new) ∷ es) (e ∷ set_value test es new)) ≡ cond (other e.0) (Some e.1) (lookup other es)) [
        | true ↦ λ at. ap (λ b. cond b (Some new) (lookup other es)) (apart e.0 at) ∙ sym (ap (λ b. cond b (Some e.1) (lookup other es)) (apart e.0 at))
        | false ↦ λ _. ap (cond (other e.0) (Some e.1)) (set-apart other apart es)
      ] refl

  set-blank : (rows : List (ℕ × ClientRow)) (row : ClientRow) → lookup test rows ≡ Some row → blank_row new ≡ blank_row row → blank_rows (set_value test rows new) ≡ blank_rows rows
  set-blank [] row h same = refl
  set-blank (e ∷ es) row h same =
      elim (test e.0) as (λ b. cond b (Some e.1) (lookup test es) ≡ Some row → blank_rows (cond b ((e.0, new) ∷ es) (e ∷ set_value test es new)) ≡ blank_rows (e ∷ es)) [
        | true ↦ λ found. let is : e.1 ≡ row = cc in ap (λ r. (e.0, r) ∷ blank_rows es) (same ∙ ap blank_row (sym is))
        | false ↦ λ found. ap (λ rs. (e.0, blank_row e.1) ∷ rs) (set-blank es row found same)
      ] h

-- ---- one reply that is put into its client's row

differ : (b : Bool) → b ≡ true → b ≡ false → ⊥
differ b is not = let contra : true ≡ false = sym is ∙ not in let never : ⊥ = cc in never

empty-outside : (n : ℕ) → in_window no_client n ≡ false
empty-outside n =
    elim (in_window no_client n) as (λ b. in_window no_client n ≡ b → b ≡ false) [
      | true ↦ λ here. let parts = inside-parts no_client n here in let above = parts.0 in let within = parts.1 in absurd (let never : ⊥ = omega (arith, above, within) in never)
      | false ↦ λ _. refl
    ] refl

put-nothing : (words : List ℕ) (n : ℕ) → with_words no_client n words ≡ no_client
put-nothing words n = ap (λ b. if b then with_reply no_client n words else no_client) (empty-outside n)

module _ (rows : List (ℕ × ClientRow)) (r : Reply) where
  put-here : row_of (put_reply rows r) r.client ≡ with_words (row_of rows r.client) r.number r.words
  put-here =
      elim (lookup (is_at (nat_cmp r.client)) rows) as (λ o. lookup (is_at (nat_cmp r.client)) rows ≡ o → row_of (put_at rows r o) r.client ≡ with_words (unwrap_or o no_client) r.number r.words) [
        | None ↦ λ none. ap (λ o. unwrap_or o no_client) none ∙ sym (put-nothing r.words r.number)
        | Some row ↦ λ is. set-here r.client (with_words row r.number r.words) rows row is
      ] refl

  put-apart : (c : ℕ) → c ≢ r.client → row_of (put_reply rows r) c ≡ row_of rows c
  put-apart c apart =
      elim (lookup (is_at (nat_cmp r.client)) rows) as (λ o. row_of (put_at rows r o) c ≡ row_of rows c) [
        | None ↦ refl
        | Some row ↦ ap (λ o. unwrap_or o no_client) (set-apart r.client (with_words row r.number r.words) (is_at (nat_cmp c)) not_both rows)
      ]
    where
      not_both : (k : ℕ) → is_at (nat_cmp r.client) k ≡ true → is_at (nat_cmp c) k ≡ false
      not_both k at =
          elim (is_at (nat_cmp c) k) as (λ b. is_at (nat_cmp c) k ≡ b → b ≡ false) [
            | true ↦ λ too. absurd (apart (tells_apart exact_unsigned c k too ∙ sym (tells_apart exact_unsigned r.client k at)))
            | false ↦ λ _. refl
          ] refl

  put-blank : blank_row (with_words (row_of rows r.client) r.number r.words) ≡ blank_row (row_of rows r.client) → blank_rows (put_reply rows r) ≡ blank_rows rows
  put-blank same =
      elim (lookup (is_at (nat_cmp r.client)) rows) as (λ o. lookup (is_at (nat_cmp r.client)) rows ≡ o → blank_row (with_words (unwrap_or o no_client) r.number r.words) ≡ blank_row (unwrap_or o no_client) → blank_rows (put_at rows r o) ≡ blank_rows rows) [
        | None ↦ λ _ _. refl
        | Some row ↦ λ is blank. set-blank r.client (with_words row r.number r.words) rows row is blank
      ] refl same

blank-set : (xs : List Item) (i : ℕ) (words : List ℕ) → is_some (get_or xs i None) ≡ true → map blank_item (set xs i (Some words)) ≡ map blank_item xs
blank-set [] i words is = absurd (let never : ⊥ = cc in never)
blank-set (None ∷ xs) zero words is = absurd (let never : ⊥ = cc in never)
blank-set (Some x ∷ xs) zero words is = refl
blank-set (x ∷ xs) (suc i) words is = ap (λ bs. blank_item x ∷ bs) (blank-set xs i words is)

-- ---- all of them

-- the rows are those of the target but for the words of these replies, which are right
pub record IsToFill (target rows : List (ℕ × ClientRow)) (rs : List Reply) : Type 0 where
  pub blank : blank_rows rows ≡ blank_rows target
  pub each : AllByRecursion (λ r. in_window (row_of target r.client) r.number ≡ true → reply_to (row_of target r.client) r.number ≡ Some r.words) rs
  pub others : (c n : ℕ) → given c n rs ≡ None → reply_to (row_of rows c) n ≡ reply_to (row_of target c) n

module _ (target rows : List (ℕ × ClientRow)) (r : Reply) (rs : List Reply) (fill : IsToFill target rows (r ∷ rs)) where
  abbrev row : ClientRow
  row = row_of rows r.client

  same_window : (n : ℕ) → in_window row n ≡ in_window (row_of target r.client) n
  same_window n = alike-inside row (row_of target r.client) n (alike-rows rows target r.client fill.blank)

  -- the request has a reply already, which is put over
  had : in_window row r.number ≡ true → is_some (item_of row r.number) ≡ true
  had here =
      let right = fill.each.0 (sym (same_window r.number) ∙ here) in
      let seen : blank_item (reply_to row r.number) ≡ Some [] =
      sym (blank-reply row r.number) ∙ ap (λ (b : ClientRow). reply_to b r.number) (blank-row_of rows r.client ∙ ap (λ rs. row_of rs r.client) fill.blank ∙ sym (blank-row_of target r.client))
      ∙ blank-reply (row_of target r.client) r.number ∙ ap blank_item right in
      ap is_some (sym (in-item row r.number here)) ∙ was (reply_to row r.number) seen
    where
      was : (o : Item) → blank_item o ≡ Some [] → is_some o ≡ true
      was None h = absurd (let never : ⊥ = cc in never)
      was (Some x) h = refl

  same_blank : blank_row (with_words row r.number r.words) ≡ blank_row row
  same_blank =
      elim (in_window row r.number) as (λ b. in_window row r.number ≡ b → blank_row (if b then with_reply row r.number r.words else row) ≡ blank_row row) [
        | false ↦ λ _. refl
        | true ↦ λ here. ap (λ items. record { last = row.last; window = items }) (blank-set row.window (item_place row r.number) r.words (had here))
      ] refl

  others_apart : (c n : ℕ) → ((r.client == c) && (r.number == n)) ≡ false → given c n rs ≡ None → reply_to (row_of rows c) n ≡ reply_to (row_of target c) n
  others_apart c n apart none = fill.others c n (ap (λ b. if b then Some r.words else given c n rs) apart ∙ none)

  in_row : (n : ℕ) → given r.client n rs ≡ None → reply_to (with_words row r.number r.words) n ≡ reply_to (row_of target r.client) n
  in_row n none =
      elim (in_window row r.number) as (λ b. in_window row r.number ≡ b → reply_to (if b then with_reply row r.number r.words else row) n ≡ reply_to (row_of target r.client) n) [
        | false ↦ λ out.
            elim (r.number == n) as (λ b. (r.number == n) ≡ b → reply_to row n ≡ reply_to (row_of target r.client) n) [
              | true ↦ λ is.
                  let same = eqb-true r.number n is in
                  let out_n : in_window row n ≡ false = ap (in_window row) (sym same) ∙ out in
                  out-none row n out_n ∙ sym (out-none (row_of target r.client) n (sym (same_window n) ∙ out_n))
              | false ↦ λ apart. others_apart r.client n (ap (λ b. b && (r.number == n)) (eq-eqb r.client r.client refl) ∙ apart) none
            ] refl
        | true ↦ λ here.
            elim (r.number == n) as (λ b. (r.number == n) ≡ b → reply_to (with_reply row r.number r.words) n ≡ reply_to (row_of target r.client) n) [
              | true ↦ λ is.
                  let same = eqb-true r.number n is in
                  subst (λ k. reply_to (with_reply row r.number r.words) k ≡ reply_to (row_of target r.client) k) same
                  (reply-here row r.number r.words here ∙ sym (fill.each.0 (sym (same_window r.number) ∙ here)))
              | false ↦ λ apart.
                  reply-other row r.number n r.words here (λ one. differ (r.number == n) (eq-eqb r.number n (sym one)) apart)
                  ∙ others_apart r.client n (ap (λ b. b && (r.number == n)) (eq-eqb r.client r.client refl) ∙ apart) none
            ] refl
      ] refl

  pub one-filled : IsToFill target (put_reply rows r) rs
  one-filled = record {
    blank = put-blank rows r same_blank ∙ fill.blank;
    each = fill.each.1;
    others = λ c n none.
        elim (r.client == c) as (λ b. (r.client == c) ≡ b → reply_to (row_of (put_reply rows r) c) n ≡ reply_to (row_of target c) n) [
          | true ↦ λ is.
              let same = eqb-true r.client c is in
              subst (λ d. reply_to (row_of (put_reply rows r) d) n ≡ reply_to (row_of target d) n) same
              (ap (λ (b : ClientRow). reply_to b n) (put-here rows r) ∙ in_row n (subst (λ d. given d n rs ≡ None) (sym same) none))
          | false ↦ λ apart.
              ap (λ (b : ClientRow). reply_to b n) (put-apart rows r c (λ one. differ (r.client == c) (eq-eqb r.client c (sym one)) apart))
              ∙ others_apart c n (ap (λ b. b && (r.number == n)) apart) none
        ] refl;
  }

pub filled-is : (target rows : List (ℕ × ClientRow)) (rs : List Reply) → IsStrictlySortedBy nat_cmp (keys_of target) → ((c : ℕ) → length (row_of target c).window ≤ (row_of target c).last) →
    IsToFill target rows rs → filled rows rs ≡ target
filled-is target rows [] rising bounded fill = same-rows rows target fill.blank rising bounded (λ c n. fill.others c n refl)
filled-is target rows (r ∷ rs) rising bounded fill = filled-is target (put_reply rows r) rs rising bounded (one-filled target rows r rs fill)

-- lists that are put in one after the other
pub filled-append : (rows : List (ℕ × ClientRow)) (xs ys : List Reply) → filled rows (xs ++ ys) ≡ filled (filled rows xs) ys
filled-append rows [] ys = refl
filled-append rows (x ∷ xs) ys = filled-append (put_reply rows x) xs ys
