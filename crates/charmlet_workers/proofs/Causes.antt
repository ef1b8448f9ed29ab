-- What is known of why a request or a move is refused.
use Rattle.std.proofs.Common.{◌≡◌, ℕ, ◌+◌, ◌<◌, ◌≤◌, ◌≢◌, ◌==◌, ◌||◌, List, [], ◌∷◌, length, refl, sym, ap, subst, ◌∙◌, true, false, Bool, Option, Some, None, Result, Ok, Err, arith}
use borrow.Author.Tests.{leb-false}
use Rattle.std.proofs.lemmas.Bool.Decides.{nat_tests}
use Rattle.std.proofs.lemmas.Map.Views.{IfSome-lookup_from_All, exact_unsigned_eq}
use Rattle.std.specs.BTreeMap.{is_at}
use Rattle.std.specs.Cmp.{nat_eq_equiv}
use Rattle.std.specs.Cmp.Derive.{both_true}
use Rattle.std.specs.Map.{lookup}
use Rattle.std.specs.Ordering.{nat_cmp}
use Rattle.std.specs.Prelude.{IfErr, IfSome, if◌then◌else◌, is_none, is_some, nat_le, nat_lt, not, option_map, unwrap_or}
use Rattle.charmlet_model.specs.declared.client.ClientRow.{ClientRow}
use Rattle.charmlet_model.specs.declared.kind_version.KindVersion.{KindVersion}
use Rattle.charmlet_model.specs.declared.names.Elem.{Elem}
use Rattle.charmlet_model.specs.declared.names.MsgId.{MsgId}
use Rattle.charmlet_model.specs.declared.refusal.Refusal.{Refusal}
use Rattle.charmlet_model.specs.declared.refusal.Refusal.TheVariants as refusals
use Rattle.charmlet_model.specs.declared.told.Told.{Told}
use Rattle.charmlet_model.specs.Core as core
use Rattle.charmlet_model.specs.Core.{Blanks, Core, MayLackMemory, assigned_to, away_checks, home, is_present, is_processor, is_repeat, move_checks, new_request_checks, place_of, place_or_home, present, request_checks}
use Rattle.charmlet_model.specs.KindVersion.{kind_of_version}
use Rattle.charmlet_model.specs.Reaction.{greatest}
use Rattle.charmlet_model.specs.Row.{below, follows_last, in_window, no_client}
use Rattle.charmlet_model.specs.Run.{Goes, StoreView}
use Rattle.charmlet_model.specs.Sound.{IsSound}
use Rattle.charmlet_model.specs.World.{World, client_of, version_of_array}
use Rattle.charmlet_model.proofs.CanLemmas.{not_not}
use Rattle.charmlet_model.proofs.Maps.{both_parts}
use Rattle.charmlet_model.proofs.SoundLemmas.{sound_fit}
use Rattle.charmlet_model.proofs.Windows.{inside-true}
use Rattle.charmlet_history.specs.declared.request.Request.{Request}
use Rattle.charmlet_history.specs.Kept.{told_or_refused}
use Rattle.charmlet_leases.specs.Passes.Passes.{HeldPass, IsCurrent}
use Rattle.charmlet_sequencer.specs.Relocating.{IsAway}
use Rattle.charmlet_hub.specs.Hub.{HubShown, store_in}
use Rattle.charmlet_workers.specs.Refusals.{IsMoveCause, IsRecent, IsRequestCause, is_move_refusal}
use Rattle.charmlet_workers.specs.Runtime.{RuntimeShown}
use Rattle.charmlet_workers.proofs.Refusals.{Fit, blank_fit, no_more, refusal_fits}
use Rattle.charmlet_workers.proofs.Runtimes.{kept_arrays}
use Rattle.charmlet_workers.proofs.Windows.{reaches}

-- ---- a client's row

-- what is kept of a client has a last number above 0 only with something in its window
some_window : (o : Option ClientRow) → IfSome o (λ (row : ClientRow). 0 < length row.window) → (number : ℕ) → number ≢ 0 → number ≡ (unwrap_or o no_client).last → 0 < length (unwrap_or o no_client).window
some_window None some number above is = absurd (above is)
some_window (Some row) some number above is = some

-- so its last number is in the window
last_inside : (row : ClientRow) (number : ℕ) → 0 < length row.window → number ≢ 0 → number ≡ row.last → in_window row number ≡ true
last_inside row number some above is = inside-true row number (omega (arith, some, above, is)) (omega (arith, is))

-- a client that isn't kept has last number 0
no_room : (o : Option ClientRow) (b : Bool) → not (is_some o || b) ≡ true → (unwrap_or o no_client).last ≡ 0
no_room None b full = refl
no_room (Some row) b full = let never : ⊥ = cc in absurd never

full_window : (n : ℕ) (b : Bool) → not (nat_lt n 8 || b) ≡ true → 8 ≤ n
full_window n b full = elim (nat_lt n 8) as (λ t. nat_lt n 8 ≡ t → not (t || b) ≡ true → 8 ≤ n) [
  | true ↦ λ _ no. absurd (let never : ⊥ = cc in never)
  | false ↦ λ many _. grind (arith, nat_tests)
] refl full

-- it isn't the next one, unless there are no more numbers
no_next : (row : ClientRow) (number : ℕ) → not (follows_last row number) ≡ true → number ≡ row.last + 1 → greatest ≤ row.last
no_next row number turn same = elim (nat_le number greatest) as (λ b. nat_le number greatest ≡ b → greatest ≤ row.last) [
  | true ↦ λ small. no_more (follows_last row number) (both_true (subst (λ n. (number == n) ≡ true) same (nat_eq_equiv.refl number)) small) turn
  | false ↦ λ past. let above = leb-false number greatest past in omega (arith, same, above)
] refl

next : (row : ClientRow) (number : ℕ) → not (follows_last row number) ≡ false → number ≡ row.last + 1
next row number turn = exact_unsigned_eq number (row.last + 1) (both_parts (number == row.last + 1) (nat_le number greatest) (not_not (follows_last row number) turn)).0

no_kind_version : (o : Option KindVersion) → is_none o ≡ true → o ≡ None
no_kind_version None none = refl
no_kind_version (Some kind_version) none = let never : ⊥ = cc in absurd never

not_there : (b : Bool) → not b ≡ true → b ≡ false
not_there true isnt = let never : ⊥ = cc in absurd never
not_there false isnt = refl

-- ---- requests

module _ (k : Core) (sound : IsSound k) (opening : World) (same : k.opening ≡ opening) (held : HeldPass) (current : IsCurrent held k) (request : Request) where
  abbrev w : World
  w = present k

  abbrev client : ℕ
  client = held.pass.client

  abbrev row : ClientRow
  row = client_of w client

  arrays : w.manifest ≡ opening.manifest
  arrays = kept_arrays k.opening k.history ∙ ap (λ (w : World). w.manifest) same

  by_pass : row.last ≡ held.pass.last
  by_pass = current.up_to_date

  is_next : not (follows_last row request.number) ≡ false → request.number ≡ held.pass.last + 1
  is_next turn = next row request.number turn ∙ ap (λ n. n + 1) by_pass

  -- one that isn't a repeat isn't the last one
  not_last : is_repeat k client request.number ≡ false → request.number ≡ held.pass.last → request.number ≢ 0 → ⊥
  not_last fresh last above =
      let found = lookup (is_at (nat_cmp client)) w.clients in
      let its : request.number ≡ row.last = last ∙ sym by_pass in
      let kept = IfSome-lookup_from_All (λ (r : ClientRow). 0 < length r.window) (is_at (nat_cmp client)) w.clients (sound_fit k sound).no_empty_row in
      let no : false ≡ true = sym fresh ∙ last_inside row request.number (some_window found kept request.number above its) above its in
      let never : ⊥ = cc in
      never

  -- nor one of the pass's own among the last eight
  not_own : is_repeat k client request.number ≡ false → held.pass.lent_at < request.number → IsRecent held.pass.last request.number → ⊥
  not_own fresh own recent =
      let first = current.lent_at in
      let few = recent.2 in
      let under : below row < request.number = reaches k.opening k.history client request.number sound.legal.each_can (omega (arith, own, first)) (omega (arith, few, by_pass)) in
      let no : false ≡ true = sym fresh ∙ inside-true row request.number under (omega (arith, recent.1, by_pass)) in
      let never : ⊥ = cc in
      never

  zero_or_not : (n : ℕ) → (n ≢ 0 → ⊥) → n ≡ 0
  zero_or_not n above = elim (n == 0) as (λ b. (n == 0) ≡ b → n ≡ 0) [
    | true ↦ λ is. exact_unsigned_eq n 0 is
    | false ↦ λ is. absurd (above (λ zero. let none : true ≡ false = sym (nat_eq_equiv.refl 0) ∙ ap (λ q. q == 0) (sym zero) ∙ is in let never : ⊥ = cc in never))
  ] refl

  pub request_causes : Fit (IsRequestCause opening held request) (request_checks k client request.number request.to request.words.now)
  request_causes = (
    λ _. tt,
    λ _. elim (is_repeat k client request.number) as (λ b. is_repeat k client request.number ≡ b → Fit (IsRequestCause opening held request) (if b then MayLackMemory ∷ [] else new_request_checks k row client request.number request.to request.words.now)) [
      | true ↦ λ _. (tt, tt)
      | false ↦ λ fresh. (
        λ turn. (
          λ follows. subst (λ n. greatest ≤ n) by_pass (no_next row request.number turn (follows ∙ ap (λ n. n + 1) (sym by_pass))),
          λ last. zero_or_not request.number (not_last fresh last),
          not_own fresh,
        ),
        λ turn.
            let follows = is_next turn in (
              λ waits. (follows, (let many = full_window (length row.window) _ waits in let numbered = ((sound_fit k sound).clients client).numbered in omega (arith, many, numbered, by_pass))),
              λ _. (
                λ none. (follows, subst (λ (m : List (ℕ × KindVersion)). lookup (is_at (nat_cmp request.to.array)) m ≡ None) arrays (no_kind_version (version_of_array w request.to.array) none)),
                λ _. (
                  λ long. (follows, grind (arith, nat_tests)),
                  λ _. (λ full. (follows, sym by_pass ∙ no_room (lookup (is_at (nat_cmp client)) w.clients) _ full), λ _. (λ _. follows, λ _. (tt, tt))),
                ),
              ),
            ),
      )
    ] refl,
  )

pub request_caused : {D : Type 0} (hub : HubShown D) (next : StoreView) (opening : World) (held : HeldPass) (request : Request) (r : Result Told Refusal) → IsSound hub.core → hub.core.opening ≡ opening → IsCurrent held hub.core →
    Goes (store_in hub) (core.Request held.pass.client request.number request.to request.entry request.words.now) (told_or_refused r) next → IfErr r (IsRequestCause opening held request)
request_caused hub next opening held request (Ok told) sound same current goes = tt
request_caused hub next opening held request (Err refusal) sound same current goes =
    let store = store_in hub in
    let step = core.Request held.pass.client request.number request.to request.entry request.words.now in
    refusal_fits (IsRequestCause opening held request) store.core store.blanks step _ refusal (request_causes hub.core sound opening same held current request) goes refl

-- ---- moves

-- a move is `Uncommitted` only where a message is assigned and the element has to leave
module _ (P : Refusal → Type 0) (memory : P refusals.Memory) (halted : P refusals.Halted) (busy : P refusals.Checkpointing) (absent : P refusals.Absent) where
  move_fit : (k : Core) (blanks : Blanks) (x : Elem) (processor : ℕ) → (is_processor k processor ≡ false → P refusals.BadPes) →
      ((kind_version : KindVersion) → version_of_array (present k) x.array ≡ Some kind_version → P (refusals.NoBlank (kind_of_version kind_version))) →
      (k.halted ≡ false → k.busy ≡ false → is_processor k processor ≡ true → is_present k x ≡ true → (place_or_home k x == processor) ≡ false →
      (is_some (assigned_to k (place_or_home k x)) || is_some (assigned_to k processor)) ≡ true → ⊥) → Fit P (move_checks k blanks x processor)
  move_fit k blanks x processor bad blank none = (
    λ _. halted,
    λ going. (
      λ _. busy,
      λ free. (
        λ nowhere. bad (not_there (is_processor k processor) nowhere),
        λ there. (
          λ _. absent,
          λ stands. elim (place_or_home k x == processor) as (λ b. (place_or_home k x == processor) ≡ b → Fit P (if b then [] else away_checks k blanks x processor)) [
            | true ↦ λ _. tt
            | false ↦ λ away. (
              λ assigned. absurd (none going free (not_not (is_processor k processor) there) (not_not (is_present k x) stands) away assigned),
              λ _. blank_fit P blanks (version_of_array (present k) x.array) blank memory,
            )
          ] refl,
        ),
      ),
    ),
  )

-- an element that is there and has to leave is away
away_from : (k : Core) (x : Elem) (processor : ℕ) (o : Option ℕ) → place_of k x ≡ o → is_some o ≡ true → IfSome o (λ place. place < k.processors) → is_processor k processor ≡ true → (unwrap_or o (home x k.processors) == processor) ≡ false → (place : ℕ) × IsAway k x place processor
away_from k x processor None is there within on away = let never : ⊥ = cc in absurd never
away_from k x processor (Some place) is there within on away = (
  place,
  record {
    stands = is;
    within = within;
    apart = λ same. let no : true ≡ false = sym (nat_eq_equiv.refl place) ∙ ap (λ q. place == q) same ∙ away in let never : ⊥ = cc in never;
    there = grind (arith, nat_tests);
  },
)

module _ {D : Type 0} (hub : HubShown D) (shown : RuntimeShown) (opening : hub.core.opening ≡ shown.opening) where
  -- a blank of the array's kind
  own_kind : (x : Elem) (kind_version : KindVersion) → version_of_array (present hub.core) x.array ≡ Some kind_version → option_map kind_of_version (version_of_array shown.opening x.array) ≡ Some (kind_of_version kind_version)
  own_kind x kind_version is =
      let arrays : (present hub.core).manifest ≡ shown.opening.manifest = kept_arrays hub.core.opening hub.core.history ∙ ap (λ (w : World). w.manifest) opening in
      ap (λ (m : List (ℕ × KindVersion)). option_map kind_of_version (lookup (is_at (nat_cmp x.array)) m)) (sym arrays) ∙ ap (option_map kind_of_version) is

  -- a move that is refused where it is asked for, or there it is found where the element stands
  pub source_caused : (x : Elem) (processor : ℕ) (r : Result (Option ℕ) Refusal) → hub.core.processors ≡ shown.processors → IsSound hub.core → IfErr r (λ refusal. Goes (store_in hub) (core.Move x processor) (core.Refuses refusal) (store_in hub)) →
      ((place : ℕ) → IsAway hub.core x place processor → hub.core.halted ≡ false → hub.busy ≡ false → r ≡ Ok (Some place)) → IfErr r (IsMoveCause shown x processor)
  source_caused x processor (Ok source) count sound goes away = tt
  source_caused x processor (Err refusal) count sound goes away =
      let store = store_in hub in
      let placed = sound.placed x in
      let P : Refusal → Type 0 = IsMoveCause shown x processor in
      let past : is_processor hub.core processor ≡ false → shown.processors ≤ processor = λ bad. grind (arith, nat_tests) in
      refusal_fits P store.core store.blanks (core.Move x processor) _ refusal (move_fit P tt tt tt tt store.core store.blanks x processor past (own_kind x)
      (λ going free on there leaves assigned.
      let it = away_from hub.core x processor (place_of hub.core x) refl (placed.there ∙ there) placed.on_processor on leaves in
      let no : Err refusal ≡ Ok (Some it.0) = away it.0 it.1 going free in
      let never : ⊥ = cc in
      never)) goes refl

  -- one where nothing is assigned, to a processor that is there
  pub relocation_caused : (next : StoreView) (x : Elem) (from to : ℕ) (refusal : Refusal) (any : ℕ) → to < hub.core.processors → place_of hub.core x ≡ Some from → assigned_to hub.core from ≡ None → assigned_to hub.core to ≡ None → Goes (store_in hub) (core.Move x to) (core.Refuses refusal) next → IsMoveCause shown x any refusal
  relocation_caused next x from to refusal any within stands from_none to_none goes =
      let store = store_in hub in
      let home_of = home x hub.core.processors in
      let neither : (is_some (assigned_to hub.core (place_or_home hub.core x)) || is_some (assigned_to hub.core to)) ≡ false =
      (λ i. is_some (assigned_to hub.core (unwrap_or (stands i) home_of)) || is_some (to_none i)) ∙ ap (λ (o : Option MsgId). is_some o || false) from_none in
      let P : Refusal → Type 0 = IsMoveCause shown x any in
      let inside : is_processor hub.core to ≡ true = grind (arith, nat_tests) in
      refusal_fits P store.core store.blanks (core.Move x to) _ refusal (move_fit P tt tt tt tt store.core store.blanks x to (λ bad. let same : true ≡ false = sym inside ∙ bad in let never : ⊥ = cc in absurd never) (own_kind x)
      (λ going free on there leaves assigned. let no : false ≡ true = sym neither ∙ assigned in let never : ⊥ = cc in never)) goes refl

-- each cause is that of one of a move's refusals
pub cause_is_one : (shown : RuntimeShown) (x : Elem) (processor : ℕ) (refusal : Refusal) → IsMoveCause shown x processor refusal → is_move_refusal refusal ≡ true
cause_is_one shown x processor refusals.Memory cause = refl
cause_is_one shown x processor refusals.Halted cause = refl
cause_is_one shown x processor refusals.Absent cause = refl
cause_is_one shown x processor refusals.Checkpointing cause = refl
cause_is_one shown x processor refusals.BadPes cause = refl
cause_is_one shown x processor (refusals.NoBlank kind) cause = refl
cause_is_one shown x processor refusal cause = absurd cause
