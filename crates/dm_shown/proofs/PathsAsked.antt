-- A path goes on leading to the file of a recall that was begun at it, as long as nobody changes the file.
use Rattle.std.proofs.Common.{◌≡◌, ◌≢◌, ℕ, ◌<◌, ◌≤◌, Bool, true, false, cond, nat_eq, Some, None, Option, List, refl, sym, ap, subst, ◌∙◌, inl, inr, arith}
use Rattle.std.proofs.lemmas.Bool.{eqb-false}
use Rattle.std.specs.FinMap as map
use Rattle.dm_base.specs.declared.identifier.Bfid.{Bfid}
use Rattle.dm_base.specs.declared.identifier.GroupId.{GroupId}
use Rattle.dm_base.specs.declared.identifier.Ino.{Ino}
use Rattle.dm_base.specs.declared.identifier.Secs.{Secs}
use Rattle.dm_tables.specs.Rows.{EachRow}
use Rattle.dm_tables.proofs.Orders.{numbers, paths, same_or}
use Rattle.dm_tables.proofs.Rows.{get-here, get-beside, removed, removed-beside}
use Rattle.dm_tables.proofs.Adjusted.{each-map}
use Rattle.dm_durable.specs.declared.daemon.DaemonRecord.{DaemonRecord}
use Rattle.dm_durable.specs.declared.daemon.DaemonStep.{DaemonStep}
use Rattle.dm_durable.specs.declared.daemon.DaemonStep.TheVariants.{Write, Remove, BeginPut, Stored, EndPut, Release, Taken, Dump, Undump, Restore, HardDelete, Dropped, Restart, Age}
use Rattle.dm_durable.specs.declared.daemon.DaemonTables.{DaemonTables}
use Rattle.dm_durable.specs.declared.daemon.DumpInode.{DumpInode}
use Rattle.dm_durable.specs.declared.daemon.Inode.{Inode}
use Rattle.dm_durable.specs.Daemon.{after_begin_put, after_begin_put_at, after_release, after_remove, after_restore, after_step, number_or}
use Rattle.dm_durable.specs.DaemonConditions.{MayStep}
use Rattle.dm_durable.specs.Dumps.{file_in}
use Rattle.dm_durable.specs.Tables.{ByNumber, ByName}
use Rattle.dm_model.specs.declared.call.Component.{Component}
use Rattle.dm_model.specs.declared.call.Component.TheVariants as component
use Rattle.dm_model.specs.declared.plan.Ending.{Ending}
use Rattle.dm_model.specs.declared.plan.Ending.TheVariants as ending
use Rattle.dm_model.specs.declared.plan.Opening.{Opening}
use Rattle.dm_model.specs.declared.plan.Opening.TheVariants as opening
use Rattle.dm_model.specs.declared.plan.Payload.{Payload}
use Rattle.dm_model.specs.declared.plan.Payload.TheVariants as payload
use Rattle.dm_model.specs.declared.plan.Prepared.{Prepared}
use Rattle.dm_model.specs.declared.state.Daemon.{Daemon}
use Rattle.dm_model.specs.declared.state.OpenRequest.{OpenRequest}
use Rattle.dm_model.specs.DaemonShare.{daemon_after_call, daemon_after_ending, daemon_after_opening, daemon_after_payload, daemon_doubting, daemon_without_doubt}
use Rattle.dm_model.specs.DaemonShare.{requests_after_step, with_change, with_change_on, with_request}
use Rattle.dm_landing.proofs.RequestsLanded.{was_request}

-- ---- a request, and the path at which it was begun

-- the number of the request is below the next one; and where the request is open and found no change, the path leads to its inode
pub record Asked (path : List ℕ) (k : ℕ) (d : Daemon) : Type 0 where
  pub below : k < d.next_request
  pub leads : (r : OpenRequest) → map.get d.requests k ≡ Some r → r.found ≡ None → map.get d.tables.names path ≡ Some r.ino

-- ---- names after a step

removed_names : (t : DaemonTables) (p path : List ℕ) (change : ℕ) (o : Option Ino) → path ≢ p
    → map.get (after_remove t p change o).names path ≡ map.get t.names path
removed_names t p path change None differ = refl
removed_names t p path change (Some n) differ = removed-beside paths t.names p path differ

begun_names : (t : DaemonTables) (b : Bfid) (groups : List GroupId) (n : ℕ) (o : Option Inode) → (after_begin_put t b groups n o).names ≡ t.names
begun_names t b groups n None = refl
begun_names t b groups n (Some i) = refl

begun_names_at : (t : DaemonTables) (b : Bfid) (groups : List GroupId) (o : Option Ino) → (after_begin_put_at t b groups o).names ≡ t.names
begun_names_at t b groups None = refl
begun_names_at t b groups (Some n) = begun_names t b groups n.0 (map.get t.inodes n.0)

released_names : (t : DaemonTables) (o : Option Ino) → (after_release t o).names ≡ t.names
released_names t None = refl
released_names t (Some n) = refl

restored_names : (t : DaemonTables) (target path : List ℕ) (change : ℕ) (o : Option DumpInode) → path ≢ target
    → map.get (after_restore t target change o).names path ≡ map.get t.names path
restored_names t target path change None differ = refl
restored_names t target path change (Some f) differ = get-beside paths t.names target (record { 0 = change }) path differ

-- a file that is written keeps its number
written_names : (names : ByName Ino) (p path : List ℕ) (change : ℕ) (n : Ino) → map.get names path ≡ Some n
    → map.get (map.insert names p (record { 0 = number_or (map.get names p) change })) path ≡ Some n
written_names names p path change n is =
    let new : Ino = record { 0 = number_or (map.get names p) change } in
    elim (same_or paths p path) [
      | inl same ↦
          ap (map.get (map.insert names p new)) same ∙ get-here paths names p new
          ∙ ap (λ o. Some (record { 0 = number_or o change })) (ap (map.get names) (sym same) ∙ is)
      | inr differ ↦ get-beside paths names p new path differ ∙ is
    ]

-- ---- a request that found no change

unfound_of : (b : Bool) (change : ℕ) (found : Option ℕ) → cond b (Some change) found ≡ None → b ≡ false
unfound_of true change found e = absurd (cc)
unfound_of false change found e = refl

-- is not on the inode that was changed
noted_apart : (requests : ByNumber OpenRequest) (change : ℕ) (n : Ino)
    → EachRow (with_change_on requests change (Some n)) (λ k r. r.found ≡ None → r.ino.0 ≡ n.0 → ⊥)
noted_apart requests change n =
    each-map numbers (λ k r. r.found ≡ None → r.ino.0 ≡ n.0 → ⊥) (λ k. with_change n.0 change) requests
    (λ k r e u same. eqb-false r.ino.0 n.0 (unfound_of (nat_eq r.ino.0 n.0) change r.found u) same)

ino_is : (n m : Ino) → Some n ≡ Some m → n.0 ≡ m.0
ino_is n m e = ap (λ o. number_or o 0) e

module _ (d : Daemon) (path : List ℕ) (k : ℕ) (time : Secs) where
  abbrev Later : DaemonTables
  Later = record d.tables { time = time }

  -- of a request that found no change after the step the path led to its inode before
  led_before : (s : DaemonStep) → Asked path k d → (r : OpenRequest) → map.get (requests_after_step d s) k ≡ Some r → r.found ≡ None
      → map.get d.tables.names path ≡ Some r.ino
  led_before s a r is none =
      let was = was_request d s k r is in
      a.leads (record r { found = was.found }) was.is (was.unfound none)

  removed_apart : (p : List ℕ) (change : ℕ) (o : Option Ino) (r : OpenRequest) → map.get d.tables.names p ≡ o
      → map.get (with_change_on d.requests change o) k ≡ Some r → r.found ≡ None → map.get d.tables.names path ≡ Some r.ino → path ≢ p
  removed_apart p change None r name is none led same = let e = ap (map.get d.tables.names) same in cc
  removed_apart p change (Some n) r name is none led same =
      let e = ap (map.get d.tables.names) same in
      let number : Some r.ino ≡ Some n = sym led ∙ e ∙ name in
      noted_apart d.requests change n k r is none (ino_is r.ino n number)

  -- the path leads where it did
  leads_after : (s : DaemonStep) → MayStep d.tables time.0 s → Asked path k d → (r : OpenRequest) → map.get (requests_after_step d s) k ≡ Some r
      → r.found ≡ None → map.get (after_step Later s).names path ≡ Some r.ino
  leads_after (Write p change bytes) may a r is none =
      written_names d.tables.names p path change r.ino (led_before (Write p change bytes) a r is none)
  leads_after (Remove p change) may a r is none =
      let led = led_before (Remove p change) a r is none in
      removed_names Later p path change (map.get d.tables.names p) (removed_apart p change (map.get d.tables.names p) r refl is none led) ∙ led
  leads_after (BeginPut p b groups) may a r is none =
      ap (λ names. map.get names path) (begun_names_at Later b groups (map.get d.tables.names p)) ∙ led_before (BeginPut p b groups) a r is none
  leads_after (Stored b g) may a r is none = led_before (Stored b g) a r is none
  leads_after (EndPut n b dual) may a r is none = led_before (EndPut n b dual) a r is none
  leads_after (Release p) may a r is none =
      ap (λ names. map.get names path) (released_names Later (map.get d.tables.names p)) ∙ led_before (Release p) a r is none
  leads_after (Taken n bytes) may a r is none = led_before (Taken n bytes) a r is none
  leads_after (Dump name) may a r is none = led_before (Dump name) a r is none
  leads_after (Undump name) may a r is none = led_before (Undump name) a r is none
  leads_after (Restore name p target change) may a r is none =
      let led = led_before (Restore name p target change) a r is none in
      let new : map.get d.tables.names target ≡ None = may.new in
      restored_names Later target path change (file_in (map.get d.tables.dumps name) p)
      (λ same. let e = ap (map.get d.tables.names) same in cc) ∙ led
  leads_after (HardDelete bfids) may a r is none = led_before (HardDelete bfids) a r is none
  leads_after (Dropped b) may a r is none = led_before (Dropped b) a r is none
  leads_after Restart may a r is none = led_before Restart a r is none
  leads_after (Age age) may a r is none = led_before (Age age) a r is none

-- ---- the parts of a plan

-- a record of the daemon that is journalled may be done to these tables
abbrev pub PayloadMay : DaemonTables → Option Payload → Type 0
PayloadMay t None = Unit {0}
PayloadMay t (Some (payload.Daemon r)) = MayStep t r.time.0 r.step
PayloadMay t (Some (payload.Group g r)) = Unit {0}

-- the number of a request that is made is new
abbrev pub IsNewOf : ℕ → Opening → Type 0
IsNewOf next opening.Nothing = Unit {0}
IsNewOf next (opening.Put k r len groups) = next ≤ k
IsNewOf next (opening.Recall k r recall) = next ≤ k
IsNewOf next (opening.Reservation g n r) = Unit {0}
IsNewOf next (opening.Mount g m vsn epoch made) = Unit {0}
IsNewOf next (opening.Move g job moving source_epoch target_epoch) = Unit {0}
IsNewOf next (opening.Reuse g m epoch reusing reading) = Unit {0}

module _ (path : List ℕ) (k : ℕ) where
  fewer : (d : Daemon) (l : ℕ) → Asked path k d → Asked path k (record d { requests = map.remove d.requests l })
  fewer d l a = record { below = a.below; leads = λ r is none. a.leads r (removed numbers d.requests l k r is).1 none }

  pub ended_asked : (d : Daemon) (e : Ending) → Asked path k d → Asked path k (daemon_after_ending e d)
  ended_asked d ending.Nothing a = a
  ended_asked d (ending.Put l b groups) a = fewer d l a
  ended_asked d (ending.Recall l) a = fewer d l a
  ended_asked d (ending.Reservation g n b) a = a
  ended_asked d (ending.Mount g m) a = a
  ended_asked d (ending.Move g job source target) a = a

  with_doubt : (d : Daemon) (o : Option DaemonRecord) → Asked path k d → Asked path k (record d { doubt = o })
  with_doubt d o a = record { below = a.below; leads = a.leads }

  pub healed_asked : (d : Daemon) (heals : Bool) (c : Component) → Asked path k d → Asked path k (daemon_without_doubt heals c d)
  healed_asked d true component.Daemon a = with_doubt d None a
  healed_asked d false component.Daemon a = a
  healed_asked d heals (component.Group g) a = a

  pub doubted_asked : (d : Daemon) (p : Option Payload) → Asked path k d → Asked path k (daemon_doubting p d)
  doubted_asked d None a = a
  doubted_asked d (Some (payload.Daemon r)) a = with_doubt d (Some r) a
  doubted_asked d (Some (payload.Group g r)) a = a

  pub paid_asked : (d : Daemon) (p : Option Payload) → PayloadMay d.tables p → Asked path k d → Asked path k (daemon_after_payload p d)
  paid_asked d None may a = a
  paid_asked d (Some (payload.Daemon r)) may a = record { below = a.below; leads = leads_after d path k r.time r.step may a }
  paid_asked d (Some (payload.Group g r)) may a = a

  one_more : (d : Daemon) (l : ℕ) (r : OpenRequest) → d.next_request ≤ l → Asked path k d → Asked path k (with_request l r d)
  one_more d l r new a =
      let low = a.below in
      let apart : k ≢ l = λ same. omega (arith, low, new, same) in
      record {
        below = omega (arith, low, new);
        leads = λ q is none. a.leads q (sym (get-beside numbers d.requests l r k apart) ∙ is) none;
      }

  pub opened_asked : (d : Daemon) (o : Opening) → IsNewOf d.next_request o → Asked path k d → Asked path k (daemon_after_opening o d)
  opened_asked d opening.Nothing new a = a
  opened_asked d (opening.Put l r len groups) new a = one_more d l r new a
  opened_asked d (opening.Recall l r recall) new a = one_more d l r new a
  opened_asked d (opening.Reservation g n r) new a = a
  opened_asked d (opening.Mount g m vsn epoch made) new a = a
  opened_asked d (opening.Move g job moving source_epoch target_epoch) new a = a
  opened_asked d (opening.Reuse g m epoch reusing reading) new a = a

-- ---- what they leave

pub ended_tables : (d : Daemon) (e : Ending) → (daemon_after_ending e d).tables ≡ d.tables
ended_tables d ending.Nothing = refl
ended_tables d (ending.Put l b groups) = refl
ended_tables d (ending.Recall l) = refl
ended_tables d (ending.Reservation g n b) = refl
ended_tables d (ending.Mount g m) = refl
ended_tables d (ending.Move g job source target) = refl

ended_next : (d : Daemon) (e : Ending) → (daemon_after_ending e d).next_request ≡ d.next_request
ended_next d ending.Nothing = refl
ended_next d (ending.Put l b groups) = refl
ended_next d (ending.Recall l) = refl
ended_next d (ending.Reservation g n b) = refl
ended_next d (ending.Mount g m) = refl
ended_next d (ending.Move g job source target) = refl

healed_tables : (d : Daemon) (heals : Bool) (c : Component) → (daemon_without_doubt heals c d).tables ≡ d.tables
healed_tables d true component.Daemon = refl
healed_tables d false component.Daemon = refl
healed_tables d heals (component.Group g) = refl

healed_next : (d : Daemon) (heals : Bool) (c : Component) → (daemon_without_doubt heals c d).next_request ≡ d.next_request
healed_next d true component.Daemon = refl
healed_next d false component.Daemon = refl
healed_next d heals (component.Group g) = refl

paid_next : (d : Daemon) (p : Option Payload) → (daemon_after_payload p d).next_request ≡ d.next_request
paid_next d None = refl
paid_next d (Some (payload.Daemon r)) = refl
paid_next d (Some (payload.Group g r)) = refl

-- ---- a whole call

-- a call whose record may be done and whose request is new leaves the path leading where it did
pub call_asked : (path : List ℕ) (k : ℕ) (d : Daemon) (p : Prepared) → PayloadMay d.tables p.payload → IsNewOf d.next_request p.opens → Asked path k d
    → Asked path k (daemon_after_call p d)
call_asked path k d p may new a =
    let spent = daemon_after_ending p.ends d in
    let settled = daemon_without_doubt p.heals p.component spent in
    let tables : settled.tables ≡ d.tables = healed_tables spent p.heals p.component ∙ ended_tables d p.ends in
    let next : (daemon_after_payload p.payload settled).next_request ≡ d.next_request =
    paid_next settled p.payload ∙ healed_next spent p.heals p.component ∙ ended_next d p.ends in
    opened_asked path k (daemon_after_payload p.payload settled) p.opens (subst (λ n. IsNewOf n p.opens) (sym next) new)
    (paid_asked path k settled p.payload (subst (λ t. PayloadMay t p.payload) (sym tables) may)
    (healed_asked path k spent p.heals p.component (ended_asked path k d p.ends a)))
