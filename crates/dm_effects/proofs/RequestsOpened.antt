-- Open requests and recalls after a request opens.
use Rattle.std.proofs.Common.{◌≡◌, ◌⊎◌, ℕ, ◌+◌, ◌<◌, ◌≤◌, true, false, Some, None, Option, List, length, refl, sym, ap, subst, ◌∙◌, inl, inr, nat_cmp, arith}
use Rattle.std.specs.FinMap.{get-empty}
use Rattle.std.specs.FinMap as map
use Rattle.dm_base.specs.declared.identifier.Bfid.{Bfid}
use Rattle.dm_base.specs.declared.identifier.GroupId.{GroupId}
use Rattle.dm_tables.specs.Rows.{EachRow}
use Rattle.dm_tables.proofs.Orders.{numbers}
use Rattle.dm_tables.proofs.Rows.{each-empty, each-insert, inserted, get-here}
use Rattle.dm_durable.specs.Tables.{ByNumber}
use Rattle.dm_durable.specs.declared.daemon.Entry.{Entry}
use Rattle.dm_durable.specs.declared.daemon.Inode.{Inode}
use Rattle.dm_model.specs.declared.state.OpenRequest.{OpenRequest}
use Rattle.dm_model.specs.declared.state.Recall.{Recall}
use Rattle.dm_model.specs.declared.state.Worker.{Worker}
use Rattle.dm_model.specs.Effects.{worker_or, with_recall}
use Rattle.dm_model.specs.Files.{is_put, is_recall, asked_by}
use Rattle.dm_invariant.specs.Doubts.{NoPutOf}
use Rattle.dm_invariant.specs.Requests.{RequestEntry, PutOpen, LivePut, LiveRecall, RequestContent, RequestsKept, PartAt, RecallKept, RecallsKept}
use Rattle.dm_invariant.proofs.LookUps.{beside_free}
use Rattle.dm_effects.proofs.RequestsEnded.{recall_no_put, recall_still}

-- ---- requests

-- what a new request needs: its entry and content are there, its file is as it says, and it is the one put of its bitfile
pub record RequestOpens (requests : ByNumber OpenRequest) (next : ℕ) (inodes : ByNumber Inode) (entries : ByNumber Entry)
    (contents : ByNumber (List ℕ)) (k : ℕ) (r : OpenRequest) : Type 0 where
  pub new : next ≤ k
  pub entry : RequestEntry entries r
  pub content : RequestContent entries contents r.bfid.0
  pub put : is_put r.kind ≡ true → r.found ≡ None → LivePut inodes r.ino.0 r.was r.bfid
  pub recall : is_recall r.kind ≡ true → r.found ≡ None → LiveRecall inodes r.ino.0 r.was r.bfid
  pub alone : is_put r.kind ≡ true → NoPutOf requests r.bfid.0

-- a number that is not below the next is free
free_if : (requests : ByNumber OpenRequest) (next k : ℕ) (o : Option OpenRequest) → EachRow requests (λ q r. q < next) → next ≤ k
    → map.get requests k ≡ o → o ≡ None
free_if requests next k None below new is = refl
free_if requests next k (Some r) below new is = let b = below k r is in absurd (omega (arith, b, new))

pub number_free : (requests : ByNumber OpenRequest) (next k : ℕ) → EachRow requests (λ q r. q < next) → next ≤ k → map.get requests k ≡ None
number_free requests next k below new = free_if requests next k (map.get requests k) below new refl

-- a put of the bitfile of a new request is the new one, where no put of it was open
put_among : (requests : ByNumber OpenRequest) (k q : ℕ) (r s : OpenRequest) → NoPutOf requests r.bfid.0 → map.get (map.insert requests k r) q ≡ Some s
    → is_put s.kind ≡ true → s.bfid.0 ≡ r.bfid.0 → q ≡ k
put_among requests k q r s alone e put same =
    elim (inserted numbers requests k r q s e) [
      | inl at ↦ at.0
      | inr other ↦ absurd (alone (record { number = q; request = s; is = other.1; put = put; same = same }))
    ]

-- a bitfile has one put, where the new request is no put or is the only one of its bitfile
puts_apart_with : (requests : ByNumber OpenRequest) (k : ℕ) (r : OpenRequest) → (is_put r.kind ≡ true → NoPutOf requests r.bfid.0)
    → ((p q : ℕ) (s u : OpenRequest) → map.get requests p ≡ Some s → map.get requests q ≡ Some u → is_put s.kind ≡ true
    → is_put u.kind ≡ true → s.bfid.0 ≡ u.bfid.0 → p ≡ q)
    → (p q : ℕ) (s u : OpenRequest) → map.get (map.insert requests k r) p ≡ Some s → map.get (map.insert requests k r) q ≡ Some u
    → is_put s.kind ≡ true → is_put u.kind ≡ true → s.bfid.0 ≡ u.bfid.0 → p ≡ q
puts_apart_with requests k r alone apart p q s u e f put other same =
    elim (inserted numbers requests k r p s e) [
      | inl at ↦
          let mine : is_put r.kind ≡ true = ap (λ (x : OpenRequest). is_put x.kind) (sym at.1) ∙ put in
          at.0 ∙ sym (put_among requests k q r u (alone mine) f other (sym same ∙ ap (λ (x : OpenRequest). x.bfid.0) at.1))
      | inr left ↦ elim (inserted numbers requests k r q u f) [
        | inl at ↦
            let mine : is_put r.kind ≡ true = ap (λ (x : OpenRequest). is_put x.kind) (sym at.1) ∙ other in
            put_among requests k p r s (alone mine) e put (same ∙ ap (λ (x : OpenRequest). x.bfid.0) at.1) ∙ sym at.0
        | inr right ↦ apart p q s u left.1 right.1 put other same
      ]
    ]

number_below : (requests : ByNumber OpenRequest) (next k : ℕ) (r : OpenRequest) → next ≤ k → EachRow requests (λ q s. q < next)
    → EachRow (map.insert requests k r) (λ q s. q < k + 1)
number_below requests next k r new below = λ q s is.
    elim (inserted numbers requests k r q s is) [
      | inl at ↦ let same = at.0 in omega (arith, same)
      | inr other ↦ let b = below q s other.1 in omega (arith, b, new)
    ]

-- what is kept of open requests is kept with one more
pub requests_with : (requests : ByNumber OpenRequest) (next k : ℕ) (r : OpenRequest) (inodes : ByNumber Inode) (entries : ByNumber Entry)
    (contents : ByNumber (List ℕ))
    → RequestOpens requests next inodes entries contents k r → RequestsKept requests next inodes entries contents
    → RequestsKept (map.insert requests k r) (k + 1) inodes entries contents
requests_with requests next k r inodes entries contents opens kept = record {
  numbers = number_below requests next k r opens.new kept.numbers;
  entry = each-insert numbers (λ q s. RequestEntry entries s) requests k r opens.entry kept.entry;
  content = each-insert numbers (λ q (s : OpenRequest). RequestContent entries contents s.bfid.0) requests k r opens.content kept.content;
  puts =
      each-insert numbers (λ q (s : OpenRequest). is_put s.kind ≡ true → s.found ≡ None → LivePut inodes s.ino.0 s.was s.bfid)
      requests k r opens.put kept.puts;
  recalls =
      each-insert numbers (λ q (s : OpenRequest). is_recall s.kind ≡ true → s.found ≡ None
      → LiveRecall inodes s.ino.0 s.was s.bfid) requests k r opens.recall
      kept.recalls;
  puts_apart = puts_apart_with requests k r opens.alone kept.puts_apart;
}

-- ---- recalls

recall_with : (requests : ByNumber OpenRequest) (k q : ℕ) (r : OpenRequest) (recall : Recall) (entries : ByNumber Entry)
    (contents : ByNumber (List ℕ))
    → map.get requests k ≡ None → RecallKept requests entries contents q recall → RecallKept (map.insert requests k r) entries contents q recall
recall_with requests k q r recall entries contents free kept =
    recall_still requests (map.insert requests k r) entries contents q recall kept (beside_free numbers requests k q r kept.request free kept.is)

-- the recalls of workers are kept where a request opens
pub recalls_request_opened : (workers : ByNumber Worker) (requests : ByNumber OpenRequest) (k : ℕ) (r : OpenRequest) (entries : ByNumber Entry)
    (contents : ByNumber (List ℕ))
    → RecallsKept workers requests entries contents → map.get requests k ≡ None
    → RecallsKept workers (map.insert requests k r) entries contents
recalls_request_opened workers requests k r entries contents kept free = record {
  kept = λ w x e q recall has. recall_with requests k q r recall entries contents free (kept.kept w x e q recall has);
  apart = kept.apart;
}

-- a recall that opens has the request's bitfile, its length and its groups, and no reads yet
pub record RecallOpens (entries : ByNumber Entry) (contents : ByNumber (List ℕ)) (r : OpenRequest) (recall : Recall) : Type 0 where
  pub kind : is_recall r.kind ≡ true
  pub same : r.bfid ≡ recall.bfid
  pub bytes : List ℕ
  pub content : map.get contents recall.bfid.0 ≡ Some bytes
  pub len : recall.len ≡ length bytes
  pub asked : recall.asked ≡ asked_by (map.get entries recall.bfid.0)
  pub reads : recall.reads ≡ map.empty

-- a recall of a worker of which something is known
worker_has : (workers : ByNumber Worker) (w q : ℕ) (s : Recall) (o : Option Worker) → map.get workers w ≡ o → map.get (worker_or o).recalls q ≡ Some s
    → (x : Worker) × (map.get workers w ≡ Some x) × (map.get x.recalls q ≡ Some s)
worker_has workers w q s None e has = let none = get-empty {X = Recall} nat_cmp q in absurd (cc)
worker_has workers w q s (Some x) e has = (x, e, has)

-- each recall of a worker is the new one of that worker, or one that it had
had_or : (workers : ByNumber Worker) (w k : ℕ) (recall : Recall) (v q : ℕ) (y : Worker) (s : Recall)
    → map.get (map.insert workers w (with_recall k recall (worker_or (map.get workers w)))) v ≡ Some y → map.get y.recalls q ≡ Some s
    → ((v ≡ w) × (q ≡ k) × (s ≡ recall)) ⊎ ((x : Worker) × (map.get workers v ≡ Some x) × (map.get x.recalls q ≡ Some s))
had_or workers w k recall v q y s e has =
    elim (inserted numbers workers w (with_recall k recall (worker_or (map.get workers w))) v y e) [
      | inl at ↦
          let old : ByNumber Recall = (worker_or (map.get workers w)).recalls in
          let here : map.get (map.insert old k recall) q ≡ Some s = subst (λ (z : Worker). map.get z.recalls q ≡ Some s) at.1 has in
          elim (inserted numbers old k recall q s here) [
            | inl new ↦ inl (at.0, new.0, new.1)
            | inr was ↦
                let had = worker_has workers w q s (map.get workers w) refl was.1 in
                inr (had.0, ap (map.get workers) at.0 ∙ had.1, had.2)
          ]
      | inr other ↦ inr (y, other.1, has)
    ]

module _ (workers : ByNumber Worker) (requests : ByNumber OpenRequest) (entries : ByNumber Entry) (contents : ByNumber (List ℕ)) (w k : ℕ)
    (r : OpenRequest) (recall : Recall) (kept : RecallsKept workers requests entries contents) (free : map.get requests k ≡ None)
    (opens : RecallOpens entries contents r recall) where
  -- no worker has a recall of a free number
  free_of : (v q : ℕ) (x : Worker) (s : Recall) → map.get workers v ≡ Some x → map.get x.recalls q ≡ Some s → q ≡ k → ⊥
  free_of v q x s there has same =
      let is = (kept.kept v x there q s has).is in
      let none = ap (map.get requests) same in
      absurd (cc)

  opened_recall : RecallKept (map.insert requests k r) entries contents k recall
  opened_recall = record {
    request = r;
    is = get-here numbers requests k r;
    kind = opens.kind;
    same = opens.same;
    bytes = opens.bytes;
    content = opens.content;
    len = opens.len;
    asked = opens.asked;
    reads =
        subst (λ (m : ByNumber (ByNumber (List ℕ))). EachRow m (λ g parts. EachRow parts (λ offset part. PartAt opens.bytes offset part)))
        (sym opens.reads) (each-empty _ _);
  }

  -- the recalls of workers, with one more
  pub recalls_recall_opened : RecallsKept (map.insert workers w (with_recall k recall (worker_or (map.get workers w)))) (map.insert requests k r)
      entries contents
  recalls_recall_opened = record {
    kept = λ v y e q s has.
        elim (had_or workers w k recall v q y s e has) [
          | inl new ↦
              subst (λ p. RecallKept (map.insert requests k r) entries contents p s) (sym new.1)
              (subst (λ t. RecallKept (map.insert requests k r) entries contents k t) (sym new.2) opened_recall)
          | inr old ↦ recall_with requests k q r s entries contents free (kept.kept v old.0 old.1 q s old.2)
        ];
    apart = λ u v q y z s t e f has other.
        elim (had_or workers w k recall u q y s e has) [
          | inl new ↦ elim (had_or workers w k recall v q z t f other) [
            | inl too ↦ new.0 ∙ sym too.0
            | inr old ↦ absurd (free_of v q old.0 t old.1 old.2 new.1)
          ]
          | inr old ↦ elim (had_or workers w k recall v q z t f other) [
            | inl new ↦ absurd (free_of u q old.0 s old.1 old.2 new.1)
            | inr was ↦ kept.apart u v q old.0 was.0 s t old.1 was.1 old.2 was.2
          ]
        ];
  }
