-- The legal calls that begin a put and a recall keep the invariant.
use Rattle.std.proofs.Common.{◌≡◌, ℕ, Bool, ◌≤◌, true, false, Option, Some, None, List, [], ◌∷◌, ◌++◌, length, refl, sym, ap, subst, ◌∙◌}
use Rattle.std.specs.Prelude.{cond}
use Rattle.std.specs.FinMap as map
use Rattle.std.proofs.lemmas.Bool.{leb-true}
use Rattle.dm_base.specs.declared.identifier.Bfid.{Bfid}
use Rattle.dm_base.specs.declared.identifier.GroupId.{GroupId}
use Rattle.dm_base.specs.declared.identifier.Secs.{Secs}
use Rattle.dm_tables.proofs.Orders.{numbers}
use Rattle.dm_tables.proofs.Rows.{get-here, one_row}
use Rattle.dm_durable.specs.Daemon.{after_begin_put, after_begin_put_at, bfid_of}
use Rattle.dm_durable.specs.Entries.{groups_asked, new_entry}
use Rattle.dm_durable.specs.Inodes.{as_making, bytes_online, with_contents}
use Rattle.dm_durable.specs.declared.daemon.Contents.{Contents}
use Rattle.dm_durable.specs.declared.daemon.Contents.TheVariants.{Regular, Making, Dual, Offline}
use Rattle.dm_durable.specs.declared.daemon.DaemonRecord.{DaemonRecord}
use Rattle.dm_durable.specs.declared.daemon.DaemonStep.TheVariants.{BeginPut}
use Rattle.dm_durable.specs.declared.daemon.DaemonTables.{DaemonTables}
use Rattle.dm_durable.specs.declared.daemon.Entry.{Entry}
use Rattle.dm_durable.specs.declared.daemon.Inode.{Inode}
use Rattle.dm_durable.specs.Tables.{ByNumber}
use Rattle.dm_model.specs.declared.answer.Answer.{Answer}
use Rattle.dm_model.specs.declared.call.Component.TheVariants as component
use Rattle.dm_model.specs.declared.call.DaemonCall.TheVariants as call
use Rattle.dm_model.specs.declared.plan.Mark.TheVariants as mark
use Rattle.dm_model.specs.declared.plan.Opening.TheVariants as opening
use Rattle.dm_model.specs.declared.plan.Payload.TheVariants as payload
use Rattle.dm_model.specs.declared.state.Joint.{Joint}
use Rattle.dm_model.specs.declared.state.OpenRequest.{OpenRequest}
use Rattle.dm_model.specs.declared.state.Recall.{Recall}
use Rattle.dm_model.specs.declared.state.RequestKind.TheVariants as kind
use Rattle.dm_model.specs.DaemonCalls.{begin_put, begin_put_needs, begin_recall, begin_recall_of, daemon_needs, daemon_plan, recall_of_away, time_at}
use Rattle.dm_model.specs.Effects.{after_ending, after_healing, after_mark, after_opening, after_payload, contents_with}
use Rattle.dm_model.specs.Files.{File, asked_by, file_at, file_named, file_of, groups_of}
use Rattle.dm_model.specs.Guards.{Guarded, AllHold}
use Rattle.dm_model.specs.Plan.{Plan, Needs, guards_always, guards_of, if_accepted, no_needs, prepared_plan, refusal_of}
use Rattle.dm_model.specs.Step.{after_call}
use Rattle.dm_invariant.specs.Doubts.{NoPutOf}
use Rattle.dm_invariant.specs.Files.{FilesKept, NamedWhole, HeldRightly}
use Rattle.dm_invariant.specs.Kept.{InvariantHolds}
use Rattle.dm_invariant.specs.Requests.{IsStoredAs, RequestsKept}
use Rattle.dm_landing.proofs.CallFiles.{Found, found}
use Rattle.dm_landing.proofs.CallRecalls.{ContentThere, named_content}
use Rattle.dm_landing.proofs.CopiesStored.{new_asked}
use Rattle.dm_landing.proofs.NamedRows.{next_not_given}
use Rattle.dm_effects.proofs.DaemonCalls.{daemon_call_served, opens_nothing, served, with_daemon_doubt}
use Rattle.dm_effects.proofs.PutOpened.{put_opened}
use Rattle.dm_effects.proofs.RecallsKeep.{recall_opened}
use Rattle.dm_effects.proofs.RequestsOpened.{RequestOpens, RecallOpens}

-- ---- guards

-- where all of two lists hold, so do those of each
pub front_holds : (ts us : List Guarded) → AllHold (ts ++ us) → AllHold ts
front_holds [] us all = tt
front_holds (t ∷ ts) us all = (all.0, front_holds ts us all.1)

back_holds : (ts us : List Guarded) → AllHold (ts ++ us) → AllHold us
back_holds [] us all = all
back_holds (t ∷ ts) us all = back_holds ts us all.1

-- ---- calls that make something

-- what a call leaves before it makes anything, where this is its refusal
abbrev served_if : ℕ → Plan → Option Answer → Joint → Joint
served_if w p o j =
    after_mark w (if_accepted o mark.Nothing p.mark)
    (after_payload (if_accepted o None p.payload) (after_healing p.heals p.component (after_ending w p.ends j)))

-- a call keeps the invariant where what it makes does if it is accepted
made_if : (j : Joint) (w : ℕ) (p : Plan) (n : Needs) (o : Option Answer) → InvariantHolds (served_if w p o j)
    → (InvariantHolds (served_if w p None j) → AllHold (guards_always p n ++ p.making) → InvariantHolds (after_opening w p.opens (served_if w p None j)))
    → AllHold (guards_of o p n) → InvariantHolds (after_opening w (if_accepted o opening.Nothing p.opens) (served_if w p o j))
made_if j w p n None kept makes legal = makes kept legal
made_if j w p n (Some a) kept makes legal = kept

pub always_hold : (p : Plan) (n : Needs) (o : Option Answer) → AllHold (guards_of o p n) → AllHold (guards_always p n)
always_hold p n None legal = front_holds (guards_always p n) p.making legal
always_hold p n (Some a) legal = legal

-- ---- a put begins

-- the bitfile of the next number has no put
next_is_new : (j : Joint) → InvariantHolds j → NoPutOf j.daemon.requests (bfid_of j.daemon.tables.site j.daemon.tables.counter)
next_is_new j kept put =
    let t = j.daemon.tables in
    let entry = kept.requests.entry put.number put.request put.is in
    next_not_given t.site t.counter put.request.bfid.0 put.same (kept.files.state.entries put.request.bfid.0 entry.entry entry.is).given

-- the request of the new put
abbrev new_request : ℕ → Inode → Bfid → OpenRequest
new_request n i b = record { ino = record { 0 = n }; bfid = b; was = i.change; found = None; kind = kind.Put }

-- after a put began the inode names the bitfile, which has an entry and its content
record PutLanded (j : Joint) (n : ℕ) (i : Inode) (b : Bfid) (groups : List GroupId) : Type 0 where
  pub inodes : ByNumber Inode
  pub named : j.daemon.tables.inodes ≡ map.insert inodes n (with_contents (as_making b) i)
  pub entries : ByNumber Entry
  pub put : j.daemon.tables.entries ≡ map.insert entries b.0 (new_entry (length (bytes_online i.contents)) groups)
  pub contents : ByNumber (List ℕ)
  pub noted : j.history.contents ≡ map.insert contents b.0 (bytes_online i.contents)

put_landed : (j : Joint) (path : List ℕ) (groups : List GroupId) (b : Bfid) (time : Secs) (f : File) → Found j path f
    → PutLanded (after_payload (Some (payload.Daemon (record { time = time; step = BeginPut path b groups }))) (with_daemon_doubt None j)) f.number f.inode b groups
put_landed j path groups b time f at =
    let t : DaemonTables = record j.daemon.tables { time = time } in
    let named = ap (after_begin_put_at t b groups) at.name ∙ ap (after_begin_put t b groups at.n.0) at.is in
    let numbered = named ∙ ap (λ m. after_begin_put t b groups m (Some f.inode)) (sym at.number) in
    let file = ap (file_named j.daemon.tables.inodes) at.name ∙ ap (file_of at.n.0) at.is in
    record {
      inodes = j.daemon.tables.inodes;
      named = ap (λ x. x.inodes) numbered;
      entries = _;
      put = ap (λ x. x.entries) numbered;
      contents = j.history.contents;
      noted = ap (λ o. contents_with b.0 o j.history.contents) file;
    }

-- so its request may open
request_opens : (j : Joint) (next k n : ℕ) (i : Inode) (b : Bfid) (groups : List GroupId) → next ≤ k → NoPutOf j.daemon.requests b.0
    → PutLanded j n i b groups
    → RequestOpens j.daemon.requests next j.daemon.tables.inodes j.daemon.tables.entries j.history.contents k (new_request n i b)
request_opens j next k n i b groups new alone landed =
    let bytes = bytes_online i.contents in
    let entry : Entry = new_entry (length bytes) groups in
    let there : map.get j.daemon.tables.entries b.0 ≡ Some entry = ap (λ m. map.get m b.0) landed.put ∙ get-here numbers landed.entries b.0 entry in
    record {
      new = new;
      entry = record { entry = entry; is = there; lasting = refl; whole = λ e. cc };
      content = record {
        bytes = bytes;
        is = ap (λ m. map.get m b.0) landed.noted ∙ get-here numbers landed.contents b.0 bytes;
        len = λ e is. ap (λ x. x.len) (one_row j.daemon.tables.entries b.0 b.0 e entry refl is there);
      };
      put = λ is found. record { bytes = bytes; is = ap (λ m. map.get m n) landed.named ∙ get-here numbers landed.inodes n (with_contents (as_making b) i) };
      recall = λ e. cc;
      alone = λ e. alone;
    }

put_made : (j : Joint) → InvariantHolds j → (w : ℕ) (path : List ℕ) (asked : List (Option GroupId)) (now k : ℕ) (f : File) → Found j path f
    → InvariantHolds (served_if w (begin_put j.daemon path asked now k (Some f)) None j)
    → AllHold (guards_always (begin_put j.daemon path asked now k (Some f)) (begin_put_needs j.sides asked)
    ++ (begin_put j.daemon path asked now k (Some f)).making)
    → InvariantHolds (after_opening w (begin_put j.daemon path asked now k (Some f)).opens (served_if w (begin_put j.daemon path asked now k (Some f)) None j))
unfolding request_opens
put_made j kept w path asked now k f at kept_served legal =
    let t = j.daemon.tables in
    let b : Bfid = record { 0 = bfid_of t.site t.counter } in
    let groups = groups_of asked in
    let time : Secs = record { 0 = time_at j.daemon now } in
    let r : DaemonRecord = record { time = time; step = BeginPut path b groups } in
    let after = after_payload (Some (payload.Daemon r)) (with_daemon_doubt None j) in
    let len = length (bytes_online f.inode.contents) in
    let opens = request_opens after j.daemon.next_request k f.number f.inode b groups (leb-true _ _ legal.1.1.0) (next_is_new j kept) (put_landed j path groups b time f at) in
    subst (λ gs. InvariantHolds (after_opening w (opening.Put k (new_request f.number f.inode b) len gs) after)) (new_asked len groups)
    (put_opened after kept_served refl w k (new_request f.number f.inode b) len refl opens refl)

begin_put_if : (j : Joint) → InvariantHolds j → (w : ℕ) (path : List ℕ) (asked : List (Option GroupId)) (now k : ℕ) (o : Option File) → file_at j.daemon path ≡ o
    → InvariantHolds (served w (prepared_plan (begin_put j.daemon path asked now k o)) j)
    → AllHold (guards_of (refusal_of (begin_put j.daemon path asked now k o)) (begin_put j.daemon path asked now k o) (begin_put_needs j.sides asked))
    → InvariantHolds (after_call w (prepared_plan (begin_put j.daemon path asked now k o)) j)
begin_put_if j kept w path asked now k None at served legal = served
begin_put_if j kept w path asked now k (Some f) at served legal =
    let p = begin_put j.daemon path asked now k (Some f) in
    made_if j w p (begin_put_needs j.sides asked) (refusal_of p) served (put_made j kept w path asked now k f (found j path f at)) legal

pub put_unspent : (j : Joint) → InvariantHolds j → (w : ℕ) (path : List ℕ) (asked : List (Option GroupId)) (now k : ℕ) (o : Option File)
    → InvariantHolds (after_ending w (begin_put j.daemon path asked now k o).ends j)
put_unspent j kept w path asked now k None = kept
put_unspent j kept w path asked now k (Some f) = kept

pub begin_put_keeps : (j : Joint) → InvariantHolds j → (w : ℕ) (path : List ℕ) (asked : List (Option GroupId)) (now : Secs) (k : ℕ)
    → AllHold (guards_of (refusal_of (daemon_plan j.daemon (call.BeginPut path asked now k))) (daemon_plan j.daemon (call.BeginPut path asked now k))
    (daemon_needs j.sides (map.get j.workers w) j.history j.daemon (call.BeginPut path asked now k)))
    → InvariantHolds (after_call w (prepared_plan (daemon_plan j.daemon (call.BeginPut path asked now k))) j)
begin_put_keeps j kept w path asked now k legal =
    let c = call.BeginPut path asked now k in
    let p = daemon_plan j.daemon c in
    let always = always_hold p (begin_put_needs j.sides asked) (refusal_of p) legal in
    begin_put_if j kept w path asked now.0 k (file_at j.daemon path) refl
    (daemon_call_served j kept w c always (put_unspent j kept w path asked now.0 k (file_at j.daemon path))) legal

-- ---- a recall begins

-- the file is away, and so its inode names the bitfile rightly
away_named : (j : Joint) (path : List ℕ) (f : File) (len : ℕ) (b : Bfid) → InvariantHolds j → Found j path f → f.inode.contents ≡ Offline len b
    → NamedWhole j.daemon.tables.entries b.0 len
away_named j path f len b kept at form = subst (HeldRightly j.daemon.tables.entries j.history.contents) form (kept.files.held at.n.0 f.inode at.is)

-- the request of the new recall, and the recall
abbrev recall_request : ℕ → Inode → Bfid → OpenRequest
recall_request n i b = record { ino = record { 0 = n }; bfid = b; was = i.change; found = None; kind = kind.Recall }

recall_made : (j : Joint) → InvariantHolds j → (w k : ℕ) (path : List ℕ) (f : File) (len : ℕ) (b : Bfid) → Found j path f → f.inode.contents ≡ Offline len b
    → InvariantHolds (served_if w (recall_of_away j.daemon k f len b) None j)
    → AllHold (guards_always (recall_of_away j.daemon k f len b) no_needs ++ (recall_of_away j.daemon k f len b).making)
    → InvariantHolds (after_opening w (recall_of_away j.daemon k f len b).opens (served_if w (recall_of_away j.daemon k f len b) None j))
recall_made j kept w k path f len b at form served legal =
    let t = j.daemon.tables in
    let named = away_named j path f len b kept at form in
    let content = named_content j b.0 len kept named in
    let e = named.named.entry in
    let r = recall_request f.number f.inode b in
    let opens : RequestOpens j.daemon.requests j.daemon.next_request t.inodes t.entries j.history.contents k r = record {
      new = leb-true _ _ legal.0;
      entry = record { entry = e; is = named.named.is; lasting = named.named.lasting; whole = λ _. named.whole };
      content = record {
        bytes = content.bytes;
        is = content.is;
        len = λ x is. ap (λ y. y.len) (one_row t.entries b.0 b.0 x e refl is named.named.is) ∙ named.named.sized ∙ sym content.sized;
      };
      put = λ e. cc;
      recall = λ _ found. record {
        inode = f.inode;
        is = ap (map.get t.inodes) at.number ∙ at.is;
        change = refl;
        form = subst (λ c. IsStoredAs c b) (sym form) refl;
      };
      alone = λ e. cc;
    } in
    let recalls : RecallOpens t.entries j.history.contents r (record { bfid = b; len = len; asked = asked_by (map.get t.entries b.0); reads = map.empty }) = record {
      kind = refl;
      same = refl;
      bytes = content.bytes;
      content = content.is;
      len = sym content.sized;
      asked = refl;
      reads = refl;
    } in
    recall_opened (with_daemon_doubt None j) served refl w k r
    (record { bfid = b; len = len; asked = asked_by (map.get t.entries b.0); reads = map.empty }) opens recalls

begin_recall_of_if : (j : Joint) → InvariantHolds j → (w k : ℕ) (path : List ℕ) (f : File) (c : Contents) → Found j path f → f.inode.contents ≡ c
    → InvariantHolds (served w (prepared_plan (begin_recall_of j.daemon k f c)) j)
    → AllHold (guards_of (refusal_of (begin_recall_of j.daemon k f c)) (begin_recall_of j.daemon k f c) no_needs)
    → InvariantHolds (after_call w (prepared_plan (begin_recall_of j.daemon k f c)) j)
begin_recall_of_if j kept w k path f (Regular bytes) at form served legal = served
begin_recall_of_if j kept w k path f (Making bytes b) at form served legal = served
begin_recall_of_if j kept w k path f (Dual bytes b) at form served legal = served
begin_recall_of_if j kept w k path f (Offline len b) at form served legal = recall_made j kept w k path f len b at form served legal

begin_recall_if : (j : Joint) → InvariantHolds j → (w k : ℕ) (path : List ℕ) (o : Option File) → file_at j.daemon path ≡ o
    → InvariantHolds (served w (prepared_plan (begin_recall j.daemon k o)) j)
    → AllHold (guards_of (refusal_of (begin_recall j.daemon k o)) (begin_recall j.daemon k o) no_needs)
    → InvariantHolds (after_call w (prepared_plan (begin_recall j.daemon k o)) j)
begin_recall_if j kept w k path None at served legal = served
begin_recall_if j kept w k path (Some f) at served legal = begin_recall_of_if j kept w k path f f.inode.contents (found j path f at) refl served legal

recall_unspent_of : (j : Joint) → InvariantHolds j → (w k : ℕ) (f : File) (c : Contents) → InvariantHolds (after_ending w (begin_recall_of j.daemon k f c).ends j)
recall_unspent_of j kept w k f (Regular bytes) = kept
recall_unspent_of j kept w k f (Making bytes b) = kept
recall_unspent_of j kept w k f (Dual bytes b) = kept
recall_unspent_of j kept w k f (Offline len b) = kept

pub recall_unspent : (j : Joint) → InvariantHolds j → (w k : ℕ) (o : Option File) → InvariantHolds (after_ending w (begin_recall j.daemon k o).ends j)
recall_unspent j kept w k None = kept
recall_unspent j kept w k (Some f) = recall_unspent_of j kept w k f f.inode.contents

pub begin_recall_keeps : (j : Joint) → InvariantHolds j → (w : ℕ) (path : List ℕ) (k : ℕ)
    → AllHold (guards_of (refusal_of (daemon_plan j.daemon (call.BeginRecall path k))) (daemon_plan j.daemon (call.BeginRecall path k))
    (daemon_needs j.sides (map.get j.workers w) j.history j.daemon (call.BeginRecall path k)))
    → InvariantHolds (after_call w (prepared_plan (daemon_plan j.daemon (call.BeginRecall path k))) j)
begin_recall_keeps j kept w path k legal =
    let c = call.BeginRecall path k in
    let p = daemon_plan j.daemon c in
    let always = always_hold p no_needs (refusal_of p) legal in
    begin_recall_if j kept w k path (file_at j.daemon path) refl
    (daemon_call_served j kept w c always (recall_unspent j kept w k (file_at j.daemon path))) legal
