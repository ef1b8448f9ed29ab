-- What each step leaves of the processors that it isn't about.
use Rattle.std.proofs.Common.{◌≡◌, ℕ, ◌==◌, true, false, cond, List, [], ◌∷◌, ◌++◌, refl, sym, ap, subst, ◌∙◌, if◌then◌else◌}
use Rattle.std.specs.Prelude.{Option, Some, None, IfSome, unwrap_or}
use Rattle.std.specs.Cmp.{nat_cmp_total, nat_eq_equiv}
use Rattle.std.specs.Ordering.{eq_by_cmp, is_eq, nat_cmp}
use Rattle.std.specs.BTreeMap.{insert_entry, is_at}
use Rattle.std.specs.Map.{lookup}
use Rattle.std.proofs.lemmas.Cmp.{tied_itself}
use Rattle.std.proofs.lemmas.Map.Lookups.{exact_unsigned}
use Rattle.std.proofs.lemmas.Map.Views.{tells_apart}
use Rattle.charmlet_model.specs.declared.names.Elem.{Elem}
use Rattle.charmlet_model.specs.declared.names.MsgId.{MsgId}
use Rattle.charmlet_model.specs.declared.message.Message.{Message}
use Rattle.charmlet_model.specs.declared.event.Event.TheVariants.{Accept}
use Rattle.charmlet_model.specs.declared.reaction.Reaction.{Reaction}
use Rattle.charmlet_model.specs.Names.{elem_cmp, same_id}
use Rattle.charmlet_model.specs.World.{World, after, message_among, numbered, performed, reaction_of, record_of, request, without, world}
use Rattle.charmlet_model.specs.Core.{Assign, Blanks, Commit, Core, CoreStep, Flush, Move, Release, Request, Stepped, Steps, assigned_to, committed, is_repeat, next_core, pending_message, place_of, place_or_home, present}
use Rattle.charmlet_model.specs.Sound.{IsAssigned, IsSound}
use Rattle.charmlet_model.specs.Shelves.{if_here}
use Rattle.charmlet_model.proofs.Deliveries.{message-append, message_of, receiver_is}
use Rattle.charmlet_model.proofs.Fits.{found-id, same_id-is}
use Rattle.charmlet_model.proofs.Histories.{world-append}
use Rattle.charmlet_model.proofs.Maps.{elem_exact, elem_total, lookup-insert_entry, tied_elem}
use Rattle.charmlet_model.proofs.Removals.{lookup-removed}
use Rattle.charmlet_delivery.specs.Leaves.{Leaves}
use Rattle.charmlet_delivery.proofs.Places.{commit_elsewhere, others_stay, present_next, stepped_core}

-- two numbers that aren't equal aren't tied
pub not_tied : (p q : ℕ) → (p == q) ≡ false → eq_by_cmp nat_cmp q p ≡ false
not_tied p q apart =
    elim (eq_by_cmp nat_cmp q p) as (λ b. eq_by_cmp nat_cmp q p ≡ b → b ≡ false) [
      | true ↦ λ same. sym (nat_eq_equiv.refl p) ∙ ap (λ n. p == n) (sym (tells_apart exact_unsigned q p same)) ∙ apart
      | false ↦ λ _. refl
    ] refl

-- ---- messages of other processors

message-without : (id gone : MsgId) (ms : List Message) → same_id id gone ≡ false → message_among id (without gone ms) ≡ message_among id ms
message-without id gone [] apart = refl
message-without id gone (n ∷ ms) apart =
    elim (same_id gone n.id) as (λ b. same_id gone n.id ≡ b → message_among id (if b then ms else n ∷ without gone ms) ≡ message_among id (n ∷ ms)) [
      | true ↦ λ same. ap (λ b. if b then Some n else message_among id ms) (sym (subst (λ i. same_id id i ≡ false) (same_id-is gone n.id same) apart))
      | false ↦ λ _. ap (λ o. if same_id id n.id then Some n else o) (message-without id gone ms apart)
    ] refl

-- a message stays pending while another one is delivered
message-performed : (w : World) (m : Message) (o : Option Reaction) (id : MsgId) (n : Message) → same_id id m.id ≡ false →
    message_among id w.pending ≡ Some n → message_among id (performed w m o).pending ≡ Some n
message-performed w m None id n apart is = is
message-performed w m (Some o) id n apart is =
    message-append id (without m.id w.pending) (numbered m.to (record_of w m.to).sent o.sends) n (message-without id m.id w.pending apart ∙ is)

-- messages that are assigned to two processors have two receivers
apart_receivers : (core : Core) (p q : ℕ) (id other : MsgId) (m n : Message) → IsAssigned core p id → IsAssigned core q other →
    pending_message core id ≡ Some m → pending_message core other ≡ Some n → eq_by_cmp nat_cmp q p ≡ false → eq_by_cmp elem_cmp n.to m.to ≡ false
apart_receivers core p q id other m n a b is_m is_n apart =
    elim (eq_by_cmp elem_cmp n.to m.to) as (λ t. eq_by_cmp elem_cmp n.to m.to ≡ t → t ≡ false) [
      | true ↦ λ same.
          let place = sym (receiver_is core q other n b is_n) ∙ ap (place_or_home core) (tells_apart elem_exact n.to m.to same) ∙ receiver_is core p id m a is_m in
          sym (ap is_eq (tied_itself nat_cmp_total p)) ∙ ap (λ k. eq_by_cmp nat_cmp k p) (sym place) ∙ apart
      | false ↦ λ _. refl
    ] refl

-- and two ids
apart_ids : (core : Core) (id other : MsgId) (m n : Message) → pending_message core id ≡ Some m → pending_message core other ≡ Some n →
    eq_by_cmp elem_cmp n.to m.to ≡ false → same_id other id ≡ false
apart_ids core id other m n is_m is_n apart =
    elim (same_id other id) as (λ t. same_id other id ≡ t → t ≡ false) [
      | true ↦ λ same.
          let one = ap (λ o. (unwrap_or o m).to) (sym is_n ∙ ap (pending_message core) (same_id-is other id same) ∙ is_m) in
          sym (tied_elem m.to) ∙ ap (λ x. eq_by_cmp elem_cmp x m.to) (sym one) ∙ apart
      | false ↦ λ _. refl
    ] refl

-- ---- one step after another

pub leaves_itself : (q : ℕ) (core : Core) → Leaves q core core
leaves_itself q core = record {
  assigned = refl;
  pending = λ id m there is. is;
  receiver = λ id m there is. refl;
  manifest = refl;
  processors = refl;
  before = refl;
  seen = λ x. refl;
}

pub leaves_on : (q : ℕ) (first mid last : Core) → Leaves q first mid → Leaves q mid last → Leaves q first last
leaves_on q first mid last a b = record {
  assigned = b.assigned ∙ a.assigned;
  pending = λ id m there is. b.pending id m (a.assigned ∙ there) (a.pending id m there is);
  receiver = λ id m there is. b.receiver id m (a.assigned ∙ there) (a.pending id m there is) ∙ a.receiver id m there is;
  manifest = b.manifest ∙ a.manifest;
  processors = b.processors ∙ a.processors;
  before = b.before ∙ a.before;
  seen = λ x. b.seen x ∙ a.seen x;
}

-- ---- a commit

module _ (core : Core) (sound : IsSound core) (p : ℕ) (id : MsgId) (m : Message) (here : assigned_to core p ≡ Some id) (is : pending_message core id ≡ Some m) (q : ℕ) (apart : (p == q) ≡ false) where
  abbrev next : Core
  next = next_core core (Commit p)

  its : IsAssigned core p id
  its = subst (λ o. IfSome o (IsAssigned core p)) here (sound.assigned p)

  assigned_stays : assigned_to next q ≡ assigned_to core q
  assigned_stays =
      ap (λ o. assigned_to (committed core p o) q) here
      ∙ lookup-removed nat_cmp_total q p core.assigned sound.rising_assigned
      ∙ ap (λ b. cond b None (assigned_to core q)) (not_tied p q apart)

  module _ (other : MsgId) (n : Message) (there : assigned_to core q ≡ Some other) (its_message : pending_message core other ≡ Some n) where
    receivers : eq_by_cmp elem_cmp n.to m.to ≡ false
    receivers = apart_receivers core p q id other m n its (subst (λ o. IfSome o (IsAssigned core q)) there (sound.assigned q)) is its_message (not_tied p q apart)

    still_pending : pending_message next other ≡ Some n
    still_pending =
        ap (λ (w : World). message_among other w.pending) (present_next core sound p id m here is)
        ∙ message-performed (present core) m (reaction_of (present core) m) other n
        (subst (λ i. same_id other i ≡ false) (found-id id (present core).pending m is) (apart_ids core id other m n is its_message receivers)) its_message

  manifest_performed : (o : Option Reaction) → (performed (present core) m o).manifest ≡ (present core).manifest
  manifest_performed None = refl
  manifest_performed (Some r) = refl

  committed_leaves : Leaves q core next
  committed_leaves = record {
    assigned = assigned_stays;
    pending = λ other n there its_message. still_pending other n there its_message;
    receiver = λ other n there its_message. (others_stay core sound p id m here is n.to (receivers other n there its_message)).1;
    manifest = ap (λ (w : World). w.manifest) (present_next core sound p id m here is) ∙ manifest_performed (reaction_of (present core) m);
    processors = ap (λ o. (committed core p o).processors) here;
    before = ap (λ o. (committed core p o).before) here;
    seen = commit_elsewhere core sound p id m here is q apart;
  }

pub commit_leaves : (core : Core) → IsSound core → (p q : ℕ) → (p == q) ≡ false → Leaves q core (next_core core (Commit p))
commit_leaves core sound p q apart = by (assigned_to core p) refl
  where
    by : (o : Option MsgId) → assigned_to core p ≡ o → Leaves q core (next_core core (Commit p))
    by None none = subst (λ o. Leaves q core (committed core p o)) (sym none) (leaves_itself q core)
    by (Some id) some =
        let its : IsAssigned core p id = subst (λ o. IfSome o (IsAssigned core p)) some (sound.assigned p) in
        let m = message_of (present core) id its.can_be in
        committed_leaves core sound p id m.0 some m.1 q apart

-- ---- steps that change what is assigned, or how much is durable

module _ (core next : Core) (q : ℕ) (assigned : assigned_to next q ≡ assigned_to core q) (opening : next.opening ≡ core.opening) (history : next.history ≡ core.history) (places : next.places ≡ core.places) (processors : next.processors ≡ core.processors) (before : next.before ≡ core.before) where
  same_world : present next ≡ present core
  same_world = λ i. world (opening i) (history i)

  pub same_leaves : Leaves q core next
  same_leaves = record {
    assigned = assigned;
    pending = λ id m there is. ap (λ (w : World). message_among id w.pending) same_world ∙ is;
    receiver = λ id m there is. ap (λ (w : World). record_of w m.to) same_world;
    manifest = ap (λ (w : World). w.manifest) same_world;
    processors = processors;
    before = before;
    seen = λ x i. if_here (lookup (is_at (elem_cmp x)) (places i)) q (record_of (same_world i) x);
  }

pub assign_leaves : (core : Core) (p : ℕ) (id : MsgId) (q : ℕ) → (p == q) ≡ false → Leaves q core (next_core core (Assign p id))
assign_leaves core p id q apart =
    same_leaves core (next_core core (Assign p id)) q
    (lookup-insert_entry nat_cmp nat_cmp_total q p id core.assigned ∙ ap (λ b. cond b (Some id) (assigned_to core q)) (not_tied p q apart))
    refl refl refl refl refl

pub release_leaves : (core : Core) → IsSound core → (p q : ℕ) → (p == q) ≡ false → Leaves q core (next_core core (Release p))
release_leaves core sound p q apart =
    same_leaves core (next_core core (Release p)) q
    (lookup-removed nat_cmp_total q p core.assigned sound.rising_assigned ∙ ap (λ b. cond b None (assigned_to core q)) (not_tied p q apart))
    refl refl refl refl refl

pub flush_leaves : (core : Core) (q : ℕ) → Leaves q core (next_core core Flush)
flush_leaves core q = same_leaves core (next_core core Flush) q refl refl refl refl refl refl

-- ---- a request

accepted_leaves : (core : Core) (client number : ℕ) (to : Elem) (entry : ℕ) (words : List ℕ) (q : ℕ) →
    Leaves q core (record core { history = core.history ++ Accept client number to entry words ∷ [] })
accepted_leaves core client number to entry words q =
    let e = Accept client number to entry words in
    let next : Core = record core { history = core.history ++ e ∷ [] } in
    let is : present next ≡ after (present core) e = world-append core.opening core.history (e ∷ []) in
    record {
      assigned = refl;
      pending = λ id m there its.
          ap (λ (w : World). message_among id w.pending) is ∙ message-append id (present core).pending (request client number to entry words ∷ []) m its;
      receiver = λ id m there its. ap (λ (w : World). record_of w m.to) is;
      manifest = ap (λ (w : World). w.manifest) is;
      processors = refl;
      before = refl;
      seen = λ x i. if_here (place_of core x) q (record_of (is i) x);
    }

pub request_leaves : (core : Core) (client number : ℕ) (to : Elem) (entry : ℕ) (words : List ℕ) (q : ℕ) → Leaves q core (next_core core (Request client number to entry words))
request_leaves core client number to entry words q = elim (is_repeat core client number) as (λ b. Leaves q core (cond b core (record core { history = core.history ++ Accept client number to entry words ∷ [] }))) [
  | true ↦ leaves_itself q core
  | false ↦ accepted_leaves core client number to entry words q
]

-- ---- a move leaves the processors that the element neither leaves nor comes to

module _ (core : Core) (x : Elem) (place to : ℕ) (stood : place_of core x ≡ Some place) (q : ℕ) (not_from : (place == q) ≡ false) (not_to : (to == q) ≡ false) where
  abbrev moved : Core
  moved = record core { places = insert_entry elem_cmp core.places x to }

  found : (y : Elem) → place_of moved y ≡ cond (eq_by_cmp elem_cmp y x) (Some to) (place_of core y)
  found y = lookup-insert_entry elem_cmp elem_total y x to core.places

  seen_still : (y : Elem) → if_here (place_of moved y) q (record_of (present core) y) ≡ if_here (place_of core y) q (record_of (present core) y)
  seen_still y = elim (eq_by_cmp elem_cmp y x) as (λ b. eq_by_cmp elem_cmp y x ≡ b → if_here (place_of moved y) q (record_of (present core) y) ≡ if_here (place_of core y) q (record_of (present core) y)) [
    | true ↦ λ same.
        let r = record_of (present core) y in
        ap (λ o. if_here o q r) (found y ∙ ap (λ b. cond b (Some to) (place_of core y)) same) ∙ ap (λ b. cond b (Some r) None) not_to
        ∙ sym (ap (λ o. if_here o q r) (ap (place_of core) (tells_apart elem_exact y x same) ∙ stood) ∙ ap (λ b. cond b (Some r) None) not_from)
    | false ↦ λ other. ap (λ o. if_here o q (record_of (present core) y)) (found y ∙ ap (λ b. cond b (Some to) (place_of core y)) other)
  ] refl

  moved_leaves : Leaves q core moved
  moved_leaves = record {
    assigned = refl;
    pending = λ id m there is. is;
    receiver = λ id m there is. refl;
    manifest = refl;
    processors = refl;
    before = refl;
    seen = seen_still;
  }

  pub move_leaves : Leaves q core (next_core core (Move x to))
  move_leaves = elim (place_or_home core x == to) as (λ b. Leaves q core (cond b core moved)) [ true ↦ leaves_itself q core | false ↦ moved_leaves ]

-- ---- a step as it goes

-- a step that leaves the processor where it isn't refused leaves it however it goes
pub step_leaves : (q : ℕ) (core : Core) (blanks : Blanks) (step : CoreStep) → Leaves q core (next_core core step) → (last : Stepped) → Steps core blanks step last → Leaves q core last.core
step_leaves q core blanks step done last steps =
    stepped_core (Leaves q core) core blanks step (leaves_itself q core) (same_leaves core (record core { halted = true }) q refl refl refl refl refl refl) done last steps
