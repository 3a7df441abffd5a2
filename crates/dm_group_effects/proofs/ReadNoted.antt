-- A read of a chunk that counts is kept with the recalls of its worker: what is kept of recalls is, where the bytes are a part
-- of the content.
use Rattle.std.proofs.Common.{◌≡◌, ℕ, true, false, Bool, cond, nat_eq, Option, Some, None, List, eqb-true, inl, inr, sym, ap, subst, ◌∙◌, refl}
use Rattle.std.specs.FinMap as map
use Rattle.dm_base.specs.declared.identifier.Bfid.{Bfid}
use Rattle.dm_base.specs.declared.identifier.GroupId.{GroupId}
use Rattle.dm_tables.specs.Rows.{EachRow, adjust}
use Rattle.dm_tables.proofs.Adjusted.{adjusted, each-adjust, each-map, mapped}
use Rattle.dm_tables.proofs.Orders.{numbers}
use Rattle.dm_tables.proofs.Rows.{each-empty, each-insert}
use Rattle.dm_durable.specs.declared.daemon.Entry.{Entry}
use Rattle.dm_durable.specs.Tables.{ByNumber}
use Rattle.dm_model.specs.declared.plan.Mark.TheVariants as mark
use Rattle.dm_model.specs.declared.state.Joint.{Joint}
use Rattle.dm_model.specs.declared.state.OpenRequest.{OpenRequest}
use Rattle.dm_model.specs.declared.state.Recall.{Recall}
use Rattle.dm_model.specs.declared.state.Worker.{Worker}
use Rattle.dm_model.specs.DaemonCalls.{reads_or}
use Rattle.dm_model.specs.Effects.{after_mark, with_read, with_read_of, worker_with_read}
use Rattle.dm_invariant.specs.Kept.{InvariantHolds}
use Rattle.dm_invariant.specs.Requests.{PartAt, RecallKept, RecallsKept}

-- bytes that are read at an offset are a part of the bitfile's content
abbrev pub ReadFits : ByNumber (List ℕ) → ℕ → ℕ → List ℕ → Type 0
ReadFits contents b offset bytes = (whole : List ℕ) → map.get contents b ≡ Some whole → PartAt whole offset bytes

-- each part that was read from a group is one of the whole, also where none was read
reads_kept : (whole : List ℕ) (r : Option (ByNumber (List ℕ)))
    → ((parts : ByNumber (List ℕ)) → r ≡ Some parts → EachRow parts (λ offset part. PartAt whole offset part))
    → EachRow (reads_or r) (λ offset part. PartAt whole offset part)
reads_kept whole None each = each-empty _ _
reads_kept whole (Some parts) each = each parts refl

-- a recall with one more read
noted_kept : (requests : ByNumber OpenRequest) (entries : ByNumber Entry) (contents : ByNumber (List ℕ)) (k g offset : ℕ)
    (bytes : List ℕ) (recall : Recall)
    → ReadFits contents recall.bfid.0 offset bytes → RecallKept requests entries contents k recall
    → RecallKept requests entries contents k (with_read g offset bytes recall)
noted_kept requests entries contents k g offset bytes recall part kept = record {
  request = kept.request;
  is = kept.is;
  kind = kept.kind;
  same = kept.same;
  bytes = kept.bytes;
  content = kept.content;
  len = kept.len;
  asked = kept.asked;
  reads =
      each-insert numbers (λ (h : ℕ) (parts : ByNumber (List ℕ)). EachRow parts (λ at some. PartAt kept.bytes at some)) recall.reads g _
      (each-insert numbers (λ at some. PartAt kept.bytes at some) (reads_or (map.get recall.reads g)) offset bytes (part kept.bytes kept.content)
      (reads_kept kept.bytes (map.get recall.reads g) (kept.reads g)))
      kept.reads;
}

noted_if : (same : Bool) (requests : ByNumber OpenRequest) (entries : ByNumber Entry) (contents : ByNumber (List ℕ)) (k b g offset : ℕ)
    (bytes : List ℕ) (recall : Recall)
    → nat_eq recall.bfid.0 b ≡ same
    → ReadFits contents b offset bytes → RecallKept requests entries contents k recall
    → RecallKept requests entries contents k (cond same (with_read g offset bytes recall) recall)
noted_if true requests entries contents k b g offset bytes recall is part kept =
    noted_kept requests entries contents k g offset bytes recall
    (λ whole e. part whole (ap (map.get contents) (sym (eqb-true recall.bfid.0 b is)) ∙ e)) kept
noted_if false requests entries contents k b g offset bytes recall is part kept = kept

-- the recalls of a worker are those that it had
had_recall : (workers : ByNumber Worker) (w b g offset : ℕ) (bytes : List ℕ) (v k : ℕ) (y : Worker) (s : Recall)
    → map.get (adjust workers w (worker_with_read b g offset bytes)) v ≡ Some y → map.get y.recalls k ≡ Some s
    → (x : Worker) × (r : Recall) × (map.get workers v ≡ Some x) × (map.get x.recalls k ≡ Some r)
had_recall workers w b g offset bytes v k y s e has =
    elim (adjusted numbers workers w (worker_with_read b g offset bytes) v y e) [
      | inl at ↦
          let x : Worker = at.1.0 in
          let here : map.get (worker_with_read b g offset bytes x).recalls k ≡ Some s =
          subst (λ (z : Worker). map.get z.recalls k ≡ Some s) at.1.2 has in
          let row = mapped numbers (λ k. with_read_of b g offset bytes) x.recalls k s here in
          (x, row.0, ap (map.get workers) at.0 ∙ at.1.1, row.1)
      | inr other ↦ (y, s, other.1, has)
    ]

recalls_read_noted : (workers : ByNumber Worker) (requests : ByNumber OpenRequest) (entries : ByNumber Entry) (contents : ByNumber (List ℕ))
    → RecallsKept workers requests entries contents → (w g b offset : ℕ) (bytes : List ℕ) → ReadFits contents b offset bytes
    → RecallsKept (adjust workers w (worker_with_read b g offset bytes)) requests entries contents
recalls_read_noted workers requests entries contents kept w g b offset bytes part = record {
  kept =
      each-adjust numbers (λ v (x : Worker). EachRow x.recalls (λ k recall. RecallKept requests entries contents k recall)) workers w
      (worker_with_read b g offset bytes)
      (λ x e. each-map numbers (λ k recall. RecallKept requests entries contents k recall) (λ k. with_read_of b g offset bytes) x.recalls
      (λ k recall has. noted_if (nat_eq recall.bfid.0 b) requests entries contents k b g offset bytes recall refl part
      (kept.kept w x e k recall has)))
      kept.kept;
  apart = λ v u k x y r s e f has other.
      let was = had_recall workers w b g offset bytes v k x r e has in
      let old = had_recall workers w b g offset bytes u k y s f other in
      kept.apart v u k was.0 old.0 was.1 old.1 was.2 old.2 was.3 old.3;
}

-- a read that counts keeps the state
pub read_keeps : (j : Joint) → InvariantHolds j → (w : ℕ) (g : GroupId) (b : Bfid) (offset : ℕ) (bytes : List ℕ)
    → ReadFits j.history.contents b.0 offset bytes → InvariantHolds (after_mark w (mark.Read g b offset bytes) j)
read_keeps j kept w g b offset bytes part = record {
  files = kept.files;
  dumps = kept.dumps;
  taken = kept.taken;
  requests = kept.requests;
  recalls = recalls_read_noted j.workers j.daemon.requests j.daemon.tables.entries j.history.contents kept.recalls w g.0 b.0 offset bytes part;
  configured = kept.configured;
  sides = kept.sides;
  doubt = kept.doubt;
}
