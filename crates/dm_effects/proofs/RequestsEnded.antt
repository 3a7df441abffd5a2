-- Open requests and recalls after a request ends.
use Rattle.std.proofs.Common.{◌≡◌, ℕ, ◌<◌, true, false, Option, Some, None, List, refl, sym, ap, subst, ◌∙◌, inl, inr}
use Rattle.std.specs.FinMap as map
use Rattle.dm_base.specs.declared.identifier.Bfid.{Bfid}
use Rattle.dm_tables.specs.Rows.{adjust}
use Rattle.dm_tables.proofs.Orders.{numbers}
use Rattle.dm_tables.proofs.Rows.{removed, removed-beside, each-remove, one_row}
use Rattle.dm_tables.proofs.Adjusted.{adjusted}
use Rattle.dm_durable.specs.Tables.{ByNumber}
use Rattle.dm_durable.specs.declared.daemon.DaemonRecord.{DaemonRecord}
use Rattle.dm_durable.specs.declared.daemon.DaemonStep.{DaemonStep}
use Rattle.dm_durable.specs.declared.daemon.DaemonStep.TheVariants.{Write, Remove, BeginPut, Stored, EndPut, Release, Taken, Dump, Undump, Restore, HardDelete, Dropped, Restart, Age}
use Rattle.dm_durable.specs.declared.daemon.DaemonTables.{DaemonTables}
use Rattle.dm_durable.specs.declared.daemon.Entry.{Entry}
use Rattle.dm_durable.specs.declared.daemon.Inode.{Inode}
use Rattle.dm_model.specs.declared.state.OpenRequest.{OpenRequest}
use Rattle.dm_model.specs.declared.state.Recall.{Recall}
use Rattle.dm_model.specs.declared.state.RequestKind.{RequestKind}
use Rattle.dm_model.specs.declared.state.RequestKind.TheVariants as kind
use Rattle.dm_model.specs.declared.state.Side.{Side}
use Rattle.dm_model.specs.declared.state.Worker.{Worker}
use Rattle.dm_model.specs.Effects.{without_recall}
use Rattle.dm_model.specs.Files.{is_put, is_recall}
use Rattle.dm_invariant.specs.Doubts.{NoPutOf, NoRequestOf, StepNeeds, MayLandIf}
use Rattle.dm_invariant.specs.Requests.{RequestEntry, PutOpen, LivePut, LiveRecall, RequestContent, RequestsKept, RecallKept, RecallsKept}

-- ---- requests

-- a recall is no put
pub recall_no_put : (k : RequestKind) → is_recall k ≡ true → is_put k ≡ false
recall_no_put kind.Put e = cc
recall_no_put kind.Recall e = refl

-- what is kept of open requests is kept without one of them
pub requests_without : (requests : ByNumber OpenRequest) (next k : ℕ) (inodes : ByNumber Inode) (entries : ByNumber Entry)
    (contents : ByNumber (List ℕ))
    → RequestsKept requests next inodes entries contents → RequestsKept (map.remove requests k) next inodes entries contents
requests_without requests next k inodes entries contents kept = record {
  numbers = each-remove numbers (λ q r. q < next) requests k kept.numbers;
  entry = each-remove numbers (λ q r. RequestEntry entries r) requests k kept.entry;
  content = each-remove numbers (λ q (r : OpenRequest). RequestContent entries contents r.bfid.0) requests k kept.content;
  puts =
      each-remove numbers (λ q (r : OpenRequest). is_put r.kind ≡ true → r.found ≡ None → LivePut inodes r.ino.0 r.was r.bfid) requests k kept.puts;
  recalls =
      each-remove numbers (λ q (r : OpenRequest). is_recall r.kind ≡ true → r.found ≡ None → LiveRecall inodes r.ino.0 r.was r.bfid)
      requests k kept.recalls;
  puts_apart =
      λ p q r s e f put other same. kept.puts_apart p q r s (removed numbers requests k p r e).1 (removed numbers requests k q s f).1 put other same;
}

-- ---- a step in doubt

-- a put that is open without a request was open
put_was : (requests : ByNumber OpenRequest) (k b : ℕ) → PutOpen (map.remove requests k) b → PutOpen requests b
put_was requests k b put = record {
  number = put.number;
  request = put.request;
  is = (removed numbers requests k put.number put.request put.is).1;
  put = put.put;
  same = put.same;
}

needs_without : (t : DaemonTables) (requests : ByNumber OpenRequest) (k : ℕ) (contents : ByNumber (List ℕ)) (cap : ℕ) (sides : ByNumber Side)
    (s : DaemonStep) → StepNeeds t requests contents cap sides s → StepNeeds t (map.remove requests k) contents cap sides s
needs_without t requests k contents cap sides (Write path change bytes) needs = needs
needs_without t requests k contents cap sides (Remove path change) needs = needs
needs_without t requests k contents cap sides (BeginPut path b groups) needs =
    (λ n i bytes c name is form put. needs.0 n i bytes c name is form (put_was requests k c.0 put), needs.1)
needs_without t requests k contents cap sides (Stored b g) needs = needs
needs_without t requests k contents cap sides (EndPut n b dual) needs = λ put. needs (put_was requests k b.0 put)
needs_without t requests k contents cap sides (Release path) needs = needs
needs_without t requests k contents cap sides (Taken n bytes) needs = needs
needs_without t requests k contents cap sides (Dump name) needs = needs
needs_without t requests k contents cap sides (Undump name) needs = needs
needs_without t requests k contents cap sides (Restore name path target change) needs = needs
needs_without t requests k contents cap sides (HardDelete bfids) needs =
    λ b among. each-remove numbers (λ q (r : OpenRequest). r.bfid.0 ≡ b.0 → ⊥) requests k (needs b among)
needs_without t requests k contents cap sides (Dropped b) needs = needs
needs_without t requests k contents cap sides Restart needs = needs
needs_without t requests k contents cap sides (Age age) needs = needs

-- a step in doubt may still land
pub doubt_without : (t : DaemonTables) (requests : ByNumber OpenRequest) (k : ℕ) (contents : ByNumber (List ℕ)) (cap : ℕ) (sides : ByNumber Side)
    (o : Option DaemonRecord) → MayLandIf t requests contents cap sides o → MayLandIf t (map.remove requests k) contents cap sides o
doubt_without t requests k contents cap sides None lands = tt
doubt_without t requests k contents cap sides (Some r) lands =
    record { follow = lands.follow; needs = needs_without t requests k contents cap sides r.step lands.needs }

-- ---- recalls

-- a recall is kept where its request is the same
pub recall_still : (requests later : ByNumber OpenRequest) (entries : ByNumber Entry) (contents : ByNumber (List ℕ)) (q : ℕ) (recall : Recall)
    → (k : RecallKept requests entries contents q recall) → map.get later q ≡ Some k.request → RecallKept later entries contents q recall
recall_still requests later entries contents q recall k is = record {
  request = k.request;
  is = is;
  kind = k.kind;
  same = k.same;
  bytes = k.bytes;
  content = k.content;
  len = k.len;
  asked = k.asked;
  reads = k.reads;
}

-- a recall is kept where another request ends
recall_beside : (requests : ByNumber OpenRequest) (k q : ℕ) (recall : Recall) (entries : ByNumber Entry) (contents : ByNumber (List ℕ)) → (q ≡ k → ⊥)
    → RecallKept requests entries contents q recall → RecallKept (map.remove requests k) entries contents q recall
recall_beside requests k q recall entries contents differ kept =
    recall_still requests (map.remove requests k) entries contents q recall kept (removed-beside numbers requests k q differ ∙ kept.is)

-- the recalls of workers are kept where a put ends
pub recalls_put_ended : (workers : ByNumber Worker) (requests : ByNumber OpenRequest) (k : ℕ) (r : OpenRequest) (entries : ByNumber Entry)
    (contents : ByNumber (List ℕ))
    → map.get requests k ≡ Some r → is_put r.kind ≡ true
    → RecallsKept workers requests entries contents → RecallsKept workers (map.remove requests k) entries contents
recalls_put_ended workers requests k r entries contents is put kept = record {
  kept = λ w x e q recall has.
      let old = kept.kept w x e q recall has in
      recall_beside requests k q recall entries contents
      (λ same.
      let one : old.request ≡ r = one_row requests q k old.request r same old.is is in
      let none : is_put old.request.kind ≡ false = recall_no_put old.request.kind old.kind in
      let some : is_put old.request.kind ≡ true = ap (λ (s : OpenRequest). is_put s.kind) one ∙ put in
      absurd (cc))
      old;
  apart = kept.apart;
}

-- the recalls of a worker are those that it had
had_left : (workers : ByNumber Worker) (w k v q : ℕ) (y : Worker) (s : Recall) → map.get (adjust workers w (without_recall k)) v ≡ Some y
    → map.get y.recalls q ≡ Some s → (x : Worker) × (map.get workers v ≡ Some x) × (map.get x.recalls q ≡ Some s)
had_left workers w k v q y s e has =
    elim (adjusted numbers workers w (without_recall k) v y e) [
      | inl at ↦
          let x : Worker = at.1.0 in
          let here : map.get (map.remove x.recalls k) q ≡ Some s = subst (λ (z : Worker). map.get z.recalls q ≡ Some s) at.1.2 has in
          (x, ap (map.get workers) at.0 ∙ at.1.1, (removed numbers x.recalls k q s here).1)
      | inr other ↦ (y, other.1, has)
    ]

-- and none of them is the one that ended
left_beside : (workers : ByNumber Worker) (w k v q : ℕ) (y : Worker) (s : Recall) → map.get (adjust workers w (without_recall k)) v ≡ Some y
    → map.get y.recalls q ≡ Some s → v ≡ w → q ≡ k → ⊥
left_beside workers w k v q y s e has same =
    elim (adjusted numbers workers w (without_recall k) v y e) [
      | inl at ↦
          let x : Worker = at.1.0 in
          let here : map.get (map.remove x.recalls k) q ≡ Some s = subst (λ (z : Worker). map.get z.recalls q ≡ Some s) at.1.2 has in
          (removed numbers x.recalls k q s here).0
      | inr other ↦ absurd (other.0 same)
    ]

-- the recalls of workers are kept where a recall of one of them ends
pub recalls_recall_ended : (workers : ByNumber Worker) (requests : ByNumber OpenRequest) (w k : ℕ) (x : Worker) (recall : Recall)
    (entries : ByNumber Entry) (contents : ByNumber (List ℕ))
    → map.get workers w ≡ Some x → map.get x.recalls k ≡ Some recall
    → RecallsKept workers requests entries contents
    → RecallsKept (adjust workers w (without_recall k)) (map.remove requests k) entries contents
recalls_recall_ended workers requests w k x recall entries contents there has kept = record {
  kept = λ v y e q s at.
      let old = had_left workers w k v q y s e at in
      recall_beside requests k q s entries contents
      (λ same.
      let here : map.get old.0.recalls k ≡ Some s = ap (map.get old.0.recalls) (sym same) ∙ old.2 in
      left_beside workers w k v q y s e at (kept.apart v w k old.0 x s recall old.1 there here has) same)
      (kept.kept v old.0 old.1 q s old.2);
  apart = λ u v q y z r s e f at other.
      let old = had_left workers w k u q y r e at in
      let was = had_left workers w k v q z s f other in
      kept.apart u v q old.0 was.0 r s old.1 was.1 old.2 was.2;
}
