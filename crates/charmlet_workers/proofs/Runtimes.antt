-- What a runtime lends and shows.
use Rattle.std.proofs.Common.{◌≡◌, ℕ, ◌+◌, ◌≤◌, List, [], ◌∷◌, map, refl, sym, ap, subst, ◌∙◌, arith, Option, Some, None, Result, Ok, Err}
use Rattle.std.specs.Prelude.{IfOk}
use Rattle.std.specs.BTreeMap.{is_at}
use Rattle.std.specs.Global.{Vec}
use Rattle.std.specs.Map.{lookup}
use Rattle.std.specs.Ordering.{nat_cmp}
use Rattle.charmlet_model.specs.declared.kind_version.KindVersion.{KindVersion}
use Rattle.charmlet_model.specs.declared.event.Event.{Event}
use Rattle.charmlet_model.specs.declared.names.Elem.{Elem}
use Rattle.charmlet_model.specs.declared.names.MsgId.{MsgId}
use Rattle.charmlet_model.specs.Core.{Core, present}
use Rattle.charmlet_model.specs.World.{World, after, world}
use Rattle.charmlet_model.proofs.Histories.{manifest-after}
use Rattle.charmlet_requests.specs.declared.handlers.Handler.{Handler}
use Rattle.charmlet_requests.specs.Handlers.{IsTarget}
use Rattle.charmlet_model.specs.declared.refusal.Refusal.{Refusal}
use Rattle.charmlet_leases.specs.Passes.Passes.{HeldPass, lent_since}
use Rattle.charmlet_workers.specs.Runtime.{ArePendingIds, IsLent, IsMoment, RuntimeShown, WasTrue}

-- a pass that is lent after no fewer events
pub lent_if : (client before last since : ℕ) (r : Result HeldPass Refusal) → before ≤ since → IfOk r (λ pass. pass ≡ lent_since client last since) → IfOk r (IsLent client before)
lent_if client before last since (Ok pass) least is =
    let same : pass.since ≡ since = ap (λ (h : HeldPass). h.since) is in
    record {
      last = last;
      new = is ∙ ap (lent_since client last) (sym same);
      since = subst (λ n. before ≤ n) (sym same) least;
    }
lent_if client before last since (Err refusal) least is = tt

-- what is true of a core that is a moment's was true at a moment
pub seen_at : {shown : RuntimeShown} {core seen : Core} → IsMoment shown core → seen ≡ core → (property : Core → Type 0) → property seen → WasTrue shown property
seen_at {shown} {core} {seen} moment same property is = record { core = seen; moment = subst (IsMoment shown) (sym same) moment; was = is }

-- the ids of messages that are pending at a moment
pub pending_if : {E : Type 0} (shown : RuntimeShown) (core : Core) (r : Result (Vec MsgId) E) → IsMoment shown core → IfOk r (λ ids. ids.items ≡ map (λ m. m.id) (present core).pending) → IfOk r (λ ids. ArePendingIds shown ids.items)
pending_if shown core (Ok ids) moment are = record { core = core; moment = moment; was = are }
pending_if shown core (Err e) moment are = tt

-- no event changes the arrays
pub kept_arrays : (w : World) (history : List Event) → (world w history).manifest ≡ w.manifest
kept_arrays w [] = refl
kept_arrays w (e ∷ es) = kept_arrays (after w e) es ∙ manifest-after w e

-- so a handler goes where it would have gone at the opening
same_target : (w v : World) (index : ℕ) (handler : Option Handler) (to : Elem) (entry : ℕ) → w.manifest ≡ v.manifest → IsTarget w index handler to entry → IsTarget v index handler to entry
same_target w v index (Some handler) to entry same target = target
same_target w v index None to entry same target = subst (λ (m : List (ℕ × KindVersion)). lookup (is_at (nat_cmp to.array)) m ≡ None) same target

pub target_since : (core : Core) (opening : World) (index : ℕ) (handler : Option Handler) (to : Elem) (entry : ℕ) → core.opening ≡ opening →
    IsTarget (present core) index handler to entry → IsTarget opening index handler to entry
target_since core opening index handler to entry is target =
    same_target (present core) opening index handler to entry (kept_arrays core.opening core.history ∙ ap (λ (w : World). w.manifest) is) target
