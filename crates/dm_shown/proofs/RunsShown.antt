-- The namespace goes along with a run.
use Rattle.std.proofs.Common.{◌≡◌, ℕ, Bool, true, false, cond, Some, None, Option, option_map, List, [], ◌∷◌, ◌++◌, refl, sym, ap, subst, ◌∙◌}
use Rattle.std.specs.FinMap as map
use Rattle.std.specs.List.{AllByRecursion}
use Rattle.dm_tables.proofs.Orders.{paths}
use Rattle.dm_tables.proofs.Rows.{same_rows}
use Rattle.dm_durable.specs.Dumps.{is_young_at}
use Rattle.dm_model.specs.declared.answer.Answer.{Answer}
use Rattle.dm_model.specs.declared.call.Event.{Event}
use Rattle.dm_model.specs.declared.state.Joint.{Joint}
use Rattle.dm_model.specs.Project.{event_steps, plain_run, run_steps}
use Rattle.dm_model.specs.Step.{RunEntry, Run, Stepped, state_after, step}
use Rattle.dm_plain.specs.declared.step.PlainStep.{PlainStep}
use Rattle.dm_plain.specs.Namespace.{Namespace, PlainDump}
use Rattle.dm_plain.specs.Steps.{namespace_after}
use Rattle.dm_invariant.specs.Kept.{InvariantHolds}
use Rattle.dm_invariant.specs.StandsFor.{plain_of, shown_namespace}
use Rattle.dm_effects.specs.OfDaemon.{IsOfDaemon}
use Rattle.dm_effects.proofs.DaemonEvents.{event_keeps}
use Rattle.dm_shown.specs.Along.{KeptAlong}
use Rattle.dm_shown.proofs.DumpsShown.{dump_shown, young_in}
use Rattle.dm_shown.proofs.EventsShown.{event_agrees}
use Rattle.dm_shown.proofs.NamespaceShown.{agrees_of, get-plain_dump, get-seen, seen_of}
use Rattle.dm_shown.proofs.PlansShown.{AgreesWith, files_of}

-- ---- what is seen of what is seen

seen_twice : (now : ℕ) (d : PlainDump) (b : Bool) → is_young_at now d.made d.least ≡ b → young_in now (cond b (Some d) None) ≡ cond b (Some d) None
seen_twice now d true is = ap (λ b. cond b (Some d) None) is
seen_twice now d false is = refl

young_twice : (now : ℕ) (o : Option PlainDump) → young_in now (young_in now o) ≡ young_in now o
young_twice now None = refl
young_twice now (Some d) = seen_twice now d (is_young_at now d.made d.least) refl

-- users see of what they see all of it
pub shown_twice : (ns : Namespace) → shown_namespace (shown_namespace ns) ≡ shown_namespace ns
shown_twice ns =
    ap (λ dumps. record ns { dumps = dumps }) (same_rows paths _ _ (λ name.
    get-seen (shown_namespace ns) name ∙ ap (young_in ns.now) (get-seen ns name) ∙ young_twice ns.now (map.get ns.dumps name) ∙ sym (get-seen ns name)))

-- a kept state stands for what users may see
pub plain_is_shown : (j : Joint) → InvariantHolds j → plain_of j ≡ shown_namespace (plain_of j)
plain_is_shown j kept =
    ap (λ dumps. record (plain_of j) { dumps = dumps }) (same_rows paths _ _ (λ name.
    get-plain_dump j kept name
    ∙ sym (get-seen (plain_of j) name ∙ ap (young_in j.daemon.tables.time.0) (get-plain_dump j kept name)
    ∙ young_twice j.daemon.tables.time.0 (option_map (dump_shown j.history.contents) (map.get j.daemon.tables.dumps name)))))

-- ---- an event, and a run

-- an event does its plain steps
pub event_plain : (j k : Joint) (w : ℕ) (e : Event) (a : Answer) (ns : Namespace) → InvariantHolds j → InvariantHolds k → step j w e ≡ Stepped k a → plain_of j ≡ shown_namespace ns
    → plain_of k ≡ shown_namespace (plain_run (event_steps j e) ns)
event_plain j k w e a ns kept later is same =
    seen_of k later (plain_run (event_steps j e) ns) (event_agrees j w ns kept (agrees_of j kept ns same) e k a is)

run_joined : (ss ts : List PlainStep) (ns : Namespace) → plain_run (ss ++ ts) ns ≡ plain_run ts (plain_run ss ns)
run_joined [] ts ns = refl
run_joined (s ∷ ss) ts ns = run_joined ss ts (namespace_after s ns)

-- the rest of a run that is kept along
pub along_rest : (j mid : Joint) (e : RunEntry) (es : List RunEntry) → KeptAlong j (e ∷ es) → step j e.worker e.event ≡ Stepped mid e.answer
    → KeptAlong mid es
along_rest j mid e es kept is = subst (λ o. KeptAlong (state_after j o) es) is kept.1

-- what is kept along a run is kept at its end
pub kept_last : (j : Joint) (entries : List RunEntry) (k : Joint) → KeptAlong j entries → Run j entries k → InvariantHolds k
kept_last j [] k kept run = subst InvariantHolds run kept
kept_last j (e ∷ es) k kept run =
    kept_last run.0 es k (subst (λ o. KeptAlong (state_after j o) es) run.1 kept.1) run.2

-- a run does its plain steps to what the tables show
pub run_agrees : (j : Joint) (entries : List RunEntry) (k : Joint) (ns : Namespace) → KeptAlong j entries → Run j entries k → AgreesWith (files_of j) ns
    → AgreesWith (files_of k) (plain_run (run_steps j entries) ns)
run_agrees j [] k ns kept run a = subst (λ i. AgreesWith (files_of i) ns) run a
run_agrees j (e ∷ es) k ns kept run a =
    let mid = run.0 in
    let steps = event_steps j e.event in
    let on : run_steps (state_after j (step j e.worker e.event)) es ≡ run_steps mid es = ap (λ o. run_steps (state_after j o) es) run.1 in
    subst (λ m. AgreesWith (files_of k) m)
    (sym (ap (λ rest. plain_run (steps ++ rest) ns) on ∙ run_joined steps (run_steps mid es) ns))
    (run_agrees mid es k (plain_run steps ns) (subst (λ o. KeptAlong (state_after j o) es) run.1 kept.1) run.2
    (event_agrees j e.worker ns kept.0 a e.event mid e.answer run.1))

pub kept_first : (j : Joint) (entries : List RunEntry) → KeptAlong j entries → InvariantHolds j
kept_first j [] kept = kept
kept_first j (e ∷ es) kept = kept.0

-- and so to what users see
pub run_plain : (j : Joint) (entries : List RunEntry) (k : Joint) (ns : Namespace) → KeptAlong j entries → Run j entries k → plain_of j ≡ shown_namespace ns
    → plain_of k ≡ shown_namespace (plain_run (run_steps j entries) ns)
run_plain j entries k ns kept run same =
    seen_of k (kept_last j entries k kept run) (plain_run (run_steps j entries) ns)
    (run_agrees j entries k ns kept run (agrees_of j (kept_first j entries kept) ns same))

-- each state of a run of the daemon's events keeps the invariant
pub daemon_along : (j : Joint) (entries : List RunEntry) (k : Joint) → InvariantHolds j → AllByRecursion (λ e. IsOfDaemon e.event) entries → Run j entries k
    → KeptAlong j entries
daemon_along j [] k kept of run = kept
daemon_along j (e ∷ es) k kept of run = (
  kept,
  subst (λ o. KeptAlong (state_after j o) es) (sym run.1)
      (daemon_along run.0 es k (event_keeps j kept e.worker run.0 e.answer e.event of.0 run.1) of.1 run.2),
)
