-- What clients know by their passes, line after line.
use Rattle.std.proofs.Common.{◌≡◌, ℕ, zero, suc, ◌==◌, Bool, true, false, List, [], ◌∷◌, ◌++◌, map, ⊎_elim, refl, sym, ap, subst, ◌∙◌, arith, Some, Result, Ok, Err, if◌then◌else◌, nat_lt}
use Rattle.std.specs.Prelude.{◌&&◌, IfOk, OnErr, slice_get, slice_set}
use Rattle.std.specs.List.{AllByRecursion}
use Rattle.std.proofs.lemmas.Map.Views.{exact_unsigned_eq}
use Rattle.charmlet_model.specs.declared.client.ClientRow.{ClientRow}
use Rattle.charmlet_model.specs.declared.names.MsgId.{MsgId}
use Rattle.charmlet_model.specs.declared.refusal.Refusal.{Refusal}
use Rattle.charmlet_model.specs.declared.told.Told.{Told}
use Rattle.charmlet_model.specs.declared.told.Told.TheVariants.{Accepted}
use Rattle.charmlet_model.specs.Row.{no_client}
use Rattle.charmlet_model.specs.Told.{told_of}
use Rattle.charmlet_requests.specs.Knowing.{IsNoLess, heard, is_unknown}
use Rattle.charmlet_requests.specs.Pass.{Pass, known, with_accept, with_told}
use Rattle.charmlet_leases.specs.Passes.Passes.{HeldPass, IsAnswered, with_answer, with_flush}
use Rattle.charmlet_cli_workers.specs.Heard.{AreTidy, IsCounted, IsDoneBy, IsToldBy, KnowTheSame, accepts_by, row_by}
use Rattle.charmlet_cli_workers.specs.Said.{Deeds, flushed_row, having_flushed, last_of}
use Rattle.charmlet_cli_workers.proofs.Rows.{test_false, test_true}
use Rattle.charmlet_cli_workers.proofs.Asking.{IsAt, accepts_flushed, differs, flushed_alike, last_cases, tidy_at, ties}

-- ---- the client's pass among others

row_at : (client : ℕ) (passes : List HeldPass) (place : ℕ) (old : HeldPass) → IsAt client passes place → slice_get passes place ≡ Some old → row_by client passes ≡ old.pass.row
row_at client [] place old at got = absurd at
row_at client (held ∷ passes) zero old at got =
    let same : held ≡ old = cc in
    ap (λ b. if b then held.pass.row else row_by client passes) (ties held.pass.client client at) ∙ ap (λ (h : HeldPass). h.pass.row) same
row_at client (held ∷ passes) (suc place) old at got =
    ap (λ b. if b then held.pass.row else row_by client passes) at.0 ∙ row_at client passes place old at.1 got

-- what one client was told only it knows
rows_told : (asking number : ℕ) (told : Told) (passes : List HeldPass) (place : ℕ) (old new : HeldPass) → IsAt asking passes place → slice_get passes place ≡ Some old → new.pass.client ≡ asking →
    new.pass.row ≡ heard old.pass.row number told → (client : ℕ) → row_by client (slice_set passes place new) ≡ (if asking == client then heard (row_by client passes) number told else row_by client passes)
rows_told asking number told [] place old new at got its row client = absurd at
rows_told asking number told (held ∷ passes) zero old new at got its row client =
    let was = held.pass.row in
    let rest = row_by client passes in
    let is : held ≡ old = cc in
    let here : new.pass.row ≡ heard was number told = row ∙ ap (λ (h : HeldPass). heard h.pass.row number told) (sym is) in
    (λ i. if its i == client then here i else rest)
    ∙ elim (asking == client) as (λ b. (if b then heard was number told else rest) ≡ (if b then heard (if b then was else rest) number told else (if b then was else rest))) [ true ↦ refl | false ↦ refl ]
    ∙ (λ i. if asking == client then heard (if sym at i == client then was else rest) number told else (if sym at i == client then was else rest))
rows_told asking number told (held ∷ passes) (suc place) old new at got its row client =
    let was = held.pass.row in
    let next = row_by client (slice_set passes place new) in
    let rest = row_by client passes in
    let step : next ≡ (if asking == client then heard rest number told else rest) = rows_told asking number told passes place old new at.1 got its row client in
    elim (held.pass.client == client) as (λ b. (held.pass.client == client) ≡ b → (if b then was else next) ≡ (if asking == client then heard (if b then was else rest) number told else (if b then was else rest))) [
      | true ↦ λ same.
          let is : held.pass.client ≡ client = exact_unsigned_eq held.pass.client client same in
          let off : (asking == client) ≡ false = differs asking client (λ one. let tied : (held.pass.client == asking) ≡ true = ties held.pass.client asking (is ∙ sym one) in let off : (held.pass.client == asking) ≡ false = at.0 in let never : ⊥ = cc in never) in
          ap (λ b. if b then heard was number told else was) (sym off)
      | false ↦ λ _. step
    ] refl

set_same : (passes : List HeldPass) (place : ℕ) (old : HeldPass) → slice_get passes place ≡ Some old → slice_set passes place old ≡ passes
set_same [] place old got = refl
set_same (held ∷ passes) zero old got = let same : held ≡ old = cc in ap (λ h. h ∷ passes) (sym same)
set_same (held ∷ passes) (suc place) old got = ap (λ ps. held ∷ ps) (set_same passes place old got)

-- one more pass that was told nothing
pub rows_pushed : (passes : List HeldPass) (held : HeldPass) → held.pass.row ≡ no_client → KnowTheSame passes (passes ++ held ∷ [])
rows_pushed [] held none client =
    ap (λ row. if held.pass.client == client then row else no_client) none ∙ elim (held.pass.client == client) as (λ b. (if b then no_client else no_client) ≡ no_client) [ true ↦ refl | false ↦ refl ]
rows_pushed (h ∷ passes) held none client = ap (λ row. if h.pass.client == client then h.pass.row else row) (rows_pushed passes held none client)

-- ---- a request or a question by the pass at this place

module _ (first passes : List HeldPass) (places : List (ℕ × ℕ)) (place : ℕ) (old new : HeldPass) (client : ℕ) (tidy : AreTidy passes places) (got : slice_get passes place ≡ Some old) (of : old.pass.client ≡ client) (since : KnowTheSame first passes) where
  its_place : IsAt client passes place
  its_place = tidy_at client passes places place tidy (old, got, of)

  its_row : row_by client first ≡ old.pass.row
  its_row = sym (since client) ∙ row_at client passes place old its_place got

  told_new : (number : ℕ) (told : Told) → new.pass.client ≡ old.pass.client → new.pass.row ≡ heard old.pass.row number told → IsNoLess (known old.pass number) told → IsToldBy client number first (slice_set passes place new) told
  told_new number told its row less = (
    subst (λ r. IsNoLess (told_of r number) told) (sym its_row) less,
    λ other. rows_told client number told passes place old new its_place got (its ∙ of) row other ∙ ap (λ r. if client == other then heard r number told else r) (since other),
  )

  pub asked_told : (number : ℕ) (r : Result Told Refusal) → IfOk r (λ told. new.pass ≡ with_accept (with_told old.pass number told) number) → IsAnswered old new number r → IfOk r (IsToldBy client number first (slice_set passes place new))
  asked_told number (Ok told) is answered = told_new number told (ap (λ (p : Pass). p.client) is) (ap (λ (p : Pass). p.row) is) answered.no_less.0
  asked_told number (Err refusal) is answered = tt

  pub stated_told : (number : ℕ) (r : Result Told Refusal) → IfOk r (λ told. new.pass ≡ with_told old.pass number told) → IsAnswered old new number r → IfOk r (IsToldBy client number first (slice_set passes place new))
  stated_told number (Ok told) is answered = told_new number told (ap (λ (p : Pass). p.client) is) (ap (λ (p : Pass). p.row) is) answered.no_less.0
  stated_told number (Err refusal) is answered = tt

  pub untold : (number : ℕ) (r : Result Told Refusal) → IsAnswered old new number r → OnErr r (KnowTheSame first (slice_set passes place new))
  untold number (Ok told) answered = tt
  untold number (Err refusal) answered = λ other. ap (row_by other) (ap (slice_set passes place) answered.err ∙ set_same passes place old got) ∙ since other

-- ---- a flush

-- what is known where a flush tells, or doesn't
abbrev row_if : Bool → ClientRow → ℕ → ClientRow
row_if b row number = if b && is_unknown (told_of row number) then heard row number Accepted else row

row_flushed : (count : ℕ) (held : HeldPass) → IsCounted held → (with_flush count held).pass.row ≡ flushed_row held.pass.row (last_of 0 held.accepts)
row_flushed count held counted =
    let row = held.pass.row in
    let from = held.pass.lent_at in
    let last = held.pass.last in
    let mine = last_of 0 held.accepts in
    let last_is = counted.last in
    let told : (with_flush count held).pass.row ≡ row_if (nat_lt from last) row last =
    elim (nat_lt from last && is_unknown (told_of row last)) as (λ b. (if b then with_answer held (with_told held.pass last Accepted) last Accepted else held).pass.row ≡ (if b then heard row last Accepted else row)) [ true ↦ refl | false ↦ refl ] in
    told
    ∙ ⊎_elim
    (λ none.
    let at = none.0 in
    let zero_mine = none.1 in
    let off = test_false from last (omega (arith, last_is, at)) in
    let none_off = test_false 0 mine (omega (arith, zero_mine)) in
    ap (λ b. row_if b row last) off ∙ ap (λ b. row_if b row mine) (sym none_off))
    (λ above.
    let more = above.0 in
    let there = above.1 in
    let same : last ≡ mine = omega (arith, last_is, there) in
    let on = test_true from last (omega (arith, last_is, more)) in
    let mine_on = test_true 0 mine (omega (arith, more, there)) in
    ap (λ b. row_if b row last) on ∙ ap (row_if true row) same ∙ ap (λ b. row_if b row mine) (sym mine_on))
    (last_cases from held.accepts counted.rising)

rows_flushed : (count : ℕ) (passes : List HeldPass) (client : ℕ) → AllByRecursion IsCounted passes → row_by client (map (with_flush count) passes) ≡ flushed_row (row_by client passes) (last_of 0 (accepts_by client passes))
rows_flushed count [] client all = refl
rows_flushed count (held ∷ passes) client all =
    let rest = row_by client passes in
    let events = accepts_by client passes in
    (λ i. if (flushed_alike count held).client i == client then row_flushed count held all.0 i else rows_flushed count passes client all.1 i)
    ∙ elim (held.pass.client == client) as (λ b. (if b then flushed_row held.pass.row (last_of 0 held.accepts) else flushed_row rest (last_of 0 events)) ≡ flushed_row (if b then held.pass.row else rest) (last_of 0 (if b then held.accepts else events))) [ true ↦ refl | false ↦ refl ]

-- it tells clients of their accepts, and does nothing else
pub done_flushed : (count : ℕ) (passes : List HeldPass) (lists : List (List MsgId)) (deeds : Deeds) → AllByRecursion IsCounted passes → IsDoneBy passes lists deeds → IsDoneBy (map (with_flush count) passes) lists (having_flushed deeds)
done_flushed count passes lists deeds all done = record {
  accepts = λ client. done.accepts client ∙ sym (accepts_flushed count passes client);
  delivered = done.delivered;
  knows = λ client. (λ i. flushed_row (done.knows client i) (last_of 0 (done.accepts client i))) ∙ sym (rows_flushed count passes client all);
}
