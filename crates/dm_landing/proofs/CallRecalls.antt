-- What the end of a recall journals, where it is legal and isn't refused, may land.
use Rattle.std.proofs.Common.{◌≡◌, ℕ, ◌+◌, ◌≤◌, true, Option, None, Some, is_some, List, [], ◌∷◌, ◌++◌, length}
use Rattle.std.proofs.Common.{take, drop, refl, sym, ap, subst, ◌∙◌, arith}
use Rattle.std.specs.Prelude.{nat_eq}
use Rattle.std.specs.List.{AllByRecursion}
use Rattle.std.specs.FinMap as map
use Rattle.std.proofs.lemmas.Bool.{and_parts, eqb-true}
use Rattle.std.proofs.lemmas.List.{length-drop, drop-drop, take-append-drop}
use Rattle.std.proofs.lemmas.Option.{same_Some}
use Rattle.std.proofs.Math.ListN.{drop_of_length-le}
use Rattle.dm_base.specs.declared.identifier.Bfid.{Bfid}
use Rattle.dm_base.specs.declared.identifier.GroupId.{GroupId}
use Rattle.dm_tables.specs.Rows.{EachRow}
use Rattle.dm_tables.proofs.Entries.{entries-each}
use Rattle.dm_tables.proofs.Orders.{numbers}
use Rattle.dm_tables.proofs.Rows.{one_row, each-empty}
use Rattle.dm_durable.specs.Tables.{ByNumber, same_text}
use Rattle.dm_durable.specs.DaemonConditions.{MayTake}
use Rattle.dm_durable.specs.Inodes.{bitfile_of}
use Rattle.dm_durable.specs.declared.daemon.Contents.TheVariants.{Offline}
use Rattle.dm_durable.specs.declared.daemon.DaemonStep.TheVariants.{Taken}
use Rattle.dm_durable.specs.declared.daemon.DaemonTables.{DaemonTables}
use Rattle.dm_durable.specs.declared.daemon.Inode.{Inode}
use Rattle.dm_model.specs.declared.state.Joint.{Joint}
use Rattle.dm_model.specs.declared.state.OpenRequest.{OpenRequest}
use Rattle.dm_model.specs.declared.state.Recall.{Recall}
use Rattle.dm_model.specs.declared.state.Side.{Side}
use Rattle.dm_model.specs.declared.state.Worker.{Worker}
use Rattle.dm_model.specs.DaemonCalls.{joins, reads_or, was_read, recall_in, contents_of, end_recall, end_recall_needs}
use Rattle.dm_model.specs.Files.{is_recall}
use Rattle.dm_model.specs.Guards.{AllHold, NoneHold}
use Rattle.dm_model.specs.Plan.{guards_always}
use Rattle.dm_invariant.specs.Doubts.{TakenRight}
use Rattle.dm_invariant.specs.Files.{NamedWhole, HeldRightly}
use Rattle.dm_invariant.specs.Kept.{InvariantHolds}
use Rattle.dm_invariant.specs.Requests.{IsStoredAs, PartAt}
use Rattle.dm_invariant.proofs.Assembled.{first_copy_is_content}
use Rattle.dm_invariant.proofs.Lists.{passing}
use Rattle.dm_invariant.proofs.Options.{value_of}
use Rattle.dm_invariant.proofs.Texts.{texts_equal}
use Rattle.dm_invariant.proofs.Times.{time_kept}
use Rattle.dm_landing.proofs.CallFiles.{unchanged, contents_there, LandsBeside}

-- ---- what was read

-- the reads of a group that are there are parts of the whole, and so are those of one of which there is none
reads_kept : (whole : List ℕ) (r : Option (ByNumber (List ℕ)))
    → ((parts : ByNumber (List ℕ)) → r ≡ Some parts → EachRow parts (λ at part. PartAt whole at part))
    → EachRow (reads_or r) (λ at part. PartAt whole at part)
reads_kept whole None each = each-empty _ _
reads_kept whole (Some parts) each = each parts refl

ended_there : (whole : List ℕ) (at : ℕ) (bytes : List ℕ) → length bytes ≡ 0 → at + length bytes ≡ length whole → bytes ≡ drop at whole
ended_there whole at [] none ends = sym (drop_of_length-le whole (omega arith))
ended_there whole at (x ∷ xs) none ends = absurd (omega arith)

-- parts of the whole that join to these bytes make them its part from there on
joined_part : (whole : List ℕ) (at : ℕ) (parts : List (ℕ × List ℕ)) (bytes : List ℕ) → joins at parts bytes ≡ true
    → AllByRecursion (λ e. PartAt whole e.0 e.1) parts → at + length bytes ≡ length whole → bytes ≡ drop at whole
joined_part whole at [] bytes test each ends = ended_there whole at bytes (eqb-true _ _ test) ends
joined_part whole at (part ∷ rest) bytes test each ends =
    let n = length part.1 in
    let both = and_parts _ (joins (at + n) rest (drop n bytes)) test in
    let here = and_parts (nat_eq part.0 at) (same_text (take n bytes) part.1) both.0 in
    let place = eqb-true part.0 at here.0 in
    let bound : part.0 + n ≤ length whole = each.0.within in
    let size = length-drop n bytes in
    let first : take n bytes ≡ take n (drop at whole) =
    texts_equal (take n bytes) part.1 here.1 ∙ sym each.0.part ∙ ap (λ k. take n (drop k whole)) place in
    let later : drop n bytes ≡ drop (at + n) whole = joined_part whole (at + n) rest (drop n bytes) both.1 each.1 (omega arith) in
    sym (take-append-drop n bytes) ∙ (λ i. first i ++ later i)
    ∙ ap (λ l. take n (drop at whole) ++ l) (sym (drop-drop n at whole)) ∙ take-append-drop n (drop at whole)

-- what was read from one group is the whole
read_whole : (whole bytes : List ℕ) (recall : Recall) → recall.len ≡ length whole
    → EachRow recall.reads (λ g parts. EachRow parts (λ at part. PartAt whole at part)) → was_read (Some recall) bytes ≡ true → bytes ≡ whole
read_whole whole bytes recall len reads test =
    let both = and_parts (nat_eq (length bytes) recall.len) _ test in
    let size = eqb-true (length bytes) recall.len both.0 in
    let from = passing (λ (g : GroupId). joins 0 (map.entries (reads_or (map.get recall.reads g.0))) bytes) recall.asked both.1 in
    let parts : ByNumber (List ℕ) = reads_or (map.get recall.reads from.0.0) in
    let each = entries-each numbers (λ at part. PartAt whole at part) parts (reads_kept whole (map.get recall.reads from.0.0) (reads from.0.0)) in
    joined_part whole 0 (map.entries parts) bytes from.2 each (omega arith)

-- the recall that a worker has under a number
record RecallThere (workers : ByNumber Worker) (w k : ℕ) : Type 0 where
  pub worker : Worker
  pub there : map.get workers w ≡ Some worker
  pub recall : Recall
  pub has : map.get worker.recalls k ≡ Some recall

recall_there : (workers : ByNumber Worker) (w k : ℕ) (o : Option Worker)
    → map.get workers w ≡ o → is_some (recall_in o k) ≡ true → RecallThere workers w k
recall_there workers w k None at is = cc
recall_there workers w k (Some x) at is =
    let found = value_of (map.get x.recalls k) is in
    record { worker = x; there = at; recall = found.0; has = found.1 }

-- ---- what is taken

-- the content of a bitfile that every group has stored is known, with its entry's length
pub record ContentThere (contents : ByNumber (List ℕ)) (b len : ℕ) : Type 0 where
  pub bytes : List ℕ
  pub is : map.get contents b ≡ Some bytes
  pub sized : length bytes ≡ len

pub named_content : (j : Joint) (b len : ℕ) → InvariantHolds j → NamedWhole j.daemon.tables.entries b len → ContentThere j.history.contents b len
named_content j b len kept named =
    let e = named.named.entry in
    let asked = (kept.files.state.entries b e named.named.is).asked in
    let content = first_copy_is_content j kept b e named.named.is asked named.whole named.named.lasting in
    record { bytes = content.0; is = content.1; sized = content.2 ∙ named.named.sized }

-- the bytes that the worker read of a request's bitfile are its content
was_content : (j : Joint) (w k : ℕ) (r : OpenRequest) (bytes : List ℕ) → InvariantHolds j → map.get j.daemon.requests k ≡ Some r → RecallThere j.workers w k
    → was_read (recall_in (map.get j.workers w) k) bytes ≡ true → map.get j.history.contents r.bfid.0 ≡ Some bytes
was_content j w k r bytes kept at found test =
    let recall = kept.recalls.kept w found.worker found.there k found.recall found.has in
    let bitfile = ap (λ x. x.bfid) (one_row j.daemon.requests k k r recall.request refl at recall.is) ∙ recall.same in
    let of_recall = ap (λ o. recall_in o k) found.there ∙ found.has in
    let same = read_whole recall.bytes bytes found.recall recall.len recall.reads (ap (λ o. was_read o bytes) (sym of_recall) ∙ test) in
    ap (λ b. map.get j.history.contents b.0) bitfile ∙ recall.content ∙ ap (λ x. Some x) (sym same)

-- what is taken, of an inode that is away
record TakesRightly (t : DaemonTables) (contents : ByNumber (List ℕ)) (n : ℕ) (bytes : List ℕ) : Type 0 where
  pub may : MayTake t n bytes
  pub right : TakenRight t.inodes contents n bytes

takes : (j : Joint) (n len : ℕ) (i : Inode) (b : Bfid) (bytes : List ℕ)
    → InvariantHolds j → map.get j.daemon.tables.inodes n ≡ Some i → i.contents ≡ Offline len b
    → map.get j.history.contents b.0 ≡ Some bytes → TakesRightly j.daemon.tables j.history.contents n bytes
takes j n len i b bytes kept is form content =
    let named = subst (HeldRightly j.daemon.tables.entries j.history.contents) form (kept.files.held n i is) in
    let known = named_content j b.0 len kept named in
    let same = one_row j.history.contents b.0 b.0 known.bytes bytes refl known.is content in
    let size = sym known.sized ∙ ap (λ l. length l) same in
    record {
      may = record { inode = i; is = is; b = b; form = form ∙ ap (λ m. Offline m b) size };
      right = λ x c m there away.
          let here = ap (λ y. y.contents) (one_row j.daemon.tables.inodes n n x i refl there is) in
          let bitfile = same_Some c.0 b.0 (ap bitfile_of (sym away ∙ here ∙ form)) in
          ap (map.get j.history.contents) bitfile ∙ content;
    }

taken_rightly : (j : Joint) (w k : ℕ) (r : OpenRequest) (bytes : List ℕ) (len : ℕ) (b : Bfid) → InvariantHolds j → map.get j.daemon.requests k ≡ Some r
    → is_recall r.kind ≡ true → RecallThere j.workers w k → was_read (recall_in (map.get j.workers w) k) bytes ≡ true → r.found ≡ None
    → contents_of (map.get j.daemon.tables.inodes r.ino.0) ≡ Offline len b → TakesRightly j.daemon.tables j.history.contents r.ino.0 bytes
taken_rightly j w k r bytes len b kept at is found test none here =
    let live = kept.requests.recalls k r at is none in
    let form = sym (contents_there j.daemon.tables.inodes r.ino.0 live.inode live.is) ∙ here in
    let same = subst (λ c. IsStoredAs c r.bfid) form live.form in
    let content = was_content j w k r bytes kept at found test in
    takes j r.ino.0 len live.inode b bytes kept live.is form (ap (λ x. map.get j.history.contents x.0) same ∙ content)

-- ---- a recall ends

-- what it takes, of an inode that is away: its request is spent first
pub end_recall_lands : (j : Joint) → InvariantHolds j → (requests : ByNumber OpenRequest) (sides : ByNumber Side) (w k : ℕ) (bytes : List ℕ) (now : ℕ)
    (r : OpenRequest) (len : ℕ) (b : Bfid) → map.get j.daemon.requests k ≡ Some r
    → contents_of (map.get j.daemon.tables.inodes r.ino.0) ≡ Offline len b
    → AllHold (guards_always (end_recall j.daemon k bytes now (Some r)) (end_recall_needs (map.get j.workers w) k bytes))
    → NoneHold (end_recall j.daemon k bytes now (Some r)).refusals → LandsBeside requests sides j now (Taken r.ino bytes)
end_recall_lands j kept requests sides w k bytes now r len b at here legal none =
    let there = recall_there j.workers w k (map.get j.workers w) refl legal.1.0 in
    let taken = taken_rightly j w k r bytes len b kept at legal.0 there legal.1.1.0 (unchanged r none) here in
    record { follow = record { time = time_kept now j.daemon.tables.time.0; step = taken.may }; needs = taken.right }
