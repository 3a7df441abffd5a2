-- The namespace that a kept state stands for is the one that its tables and contents show.
use Rattle.std.proofs.Common.{◌≡◌, ℕ, Bool, true, false, cond, not, Some, None, Option, option_map, List, refl, sym, ap, subst, ◌∙◌}
use Rattle.std.proofs.lemmas.Bool.{and_parts}
use Rattle.std.specs.FinMap as map
use Rattle.dm_base.specs.declared.identifier.Ino.{Ino}
use Rattle.dm_tables.specs.Rows.{passes}
use Rattle.dm_tables.proofs.Orders.{paths}
use Rattle.dm_tables.proofs.Rows.{same_rows}
use Rattle.dm_tables.proofs.Adjusted.{get-mapped}
use Rattle.dm_durable.specs.declared.daemon.Contents.{Contents}
use Rattle.dm_durable.specs.declared.daemon.Contents.TheVariants.{Regular, Making, Dual, Offline}
use Rattle.dm_durable.specs.declared.daemon.DaemonTables.{DaemonTables}
use Rattle.dm_durable.specs.declared.daemon.Dump.{Dump}
use Rattle.dm_durable.specs.declared.daemon.DumpInode.{DumpInode}
use Rattle.dm_durable.specs.declared.daemon.DumpInode.TheVariants.{Kept as KeptFile, Named as NamedFile}
use Rattle.dm_durable.specs.declared.daemon.Entry.{Entry}
use Rattle.dm_durable.specs.declared.daemon.Inode.{Inode}
use Rattle.dm_durable.specs.Dumps.{is_young, is_young_at}
use Rattle.dm_durable.specs.Entries.{is_stored}
use Rattle.dm_durable.specs.Tables.{ByNumber, ByName}
use Rattle.dm_model.specs.declared.state.Joint.{Joint}
use Rattle.dm_model.specs.Files.{asked_by}
use Rattle.dm_plain.specs.Namespace.{Namespace, PlainDump, Dumps, Files}
use Rattle.dm_invariant.specs.Files.{DumpedRightly, HeldRightly}
use Rattle.dm_invariant.specs.Kept.{InvariantHolds}
use Rattle.dm_invariant.specs.StandsFor.{bitfile_bytes, copy_or, dump_of, dumped_bytes as bytes_of_dumped, file_bytes, first_copy, inode_bytes, plain_of, shown_namespace, young_dumps}
use Rattle.dm_invariant.proofs.Assembled.{first_copy_is_content}
use Rattle.dm_shown.proofs.DumpsShown.{SameYoung, dump_shown, dumped_bytes, young_in}
use Rattle.dm_shown.proofs.FilesShown.{bytes_in, bytes_named, content_bytes, files_shown, get-shown}

-- ---- a namespace agrees with tables and contents

-- it has the files that they show, of each name a dump that is young where they have it, and the time and age in force
pub record Agrees (t : DaemonTables) (contents : ByNumber (List ℕ)) (ns : Namespace) : Type 0 where
  pub files : ns.files ≡ files_shown t.names t.inodes contents
  pub dumps : (name : List ℕ) → SameYoung t.time.0 (map.get ns.dumps name) (option_map (dump_shown contents) (map.get t.dumps name))
  pub now : ns.now ≡ t.time.0
  pub age : ns.age ≡ t.age

-- ---- dumps that are kept for being young

abbrev young_row : ℕ → Option Dump → Option Dump
young_row now None = None
young_row now (Some d) = cond (is_young now d) (Some d) None

row_if : (now : ℕ) (name : List ℕ) (o : Option Dump) → cond (passes (λ k d. is_young now d) name o) o None ≡ young_row now o
row_if now name None = refl
row_if now name (Some d) = refl

get-young : (now : ℕ) (dumps : ByName Dump) (name : List ℕ) → map.get (young_dumps now dumps) name ≡ young_row now (map.get dumps name)
get-young now dumps name =
    map.get-retain_keys dumps (λ q. passes (λ k d. is_young now d) q (map.get dumps q)) name
    (λ x tied. ap (λ q. passes (λ k d. is_young now d) q (map.get dumps q)) (sym (paths.same name x tied)))
    ∙ row_if now name (map.get dumps name)

dump_if : (now : ℕ) (name : List ℕ) (o : Option PlainDump)
    → cond (passes (λ k d. is_young_at now d.made d.least) name o) o None ≡ young_in now o
dump_if now name None = refl
dump_if now name (Some d) = refl

-- the dumps of a namespace that users may see
pub get-seen : (ns : Namespace) (name : List ℕ) → map.get (shown_namespace ns).dumps name ≡ young_in ns.now (map.get ns.dumps name)
get-seen ns name =
    let keeps : List ℕ → Bool = λ q. passes (λ k d. is_young_at ns.now d.made d.least) q (map.get ns.dumps q) in
    map.get-retain_keys ns.dumps keeps name (λ x tied. ap keeps (sym (paths.same name x tied)))
    ∙ dump_if ns.now name (map.get ns.dumps name)

-- ---- what copies assemble to is the content

is_false : (b : Bool) → not b ≡ true → b ≡ false
is_false true is = cc
is_false false is = refl

-- a dump with other files, and a namespace of its parts
abbrev dump_with : Dump → Files → PlainDump
dump_with d files = record { made = d.made.0; least = d.least; files = files }

abbrev namespace_of : Files → Dumps → ℕ → ℕ → Namespace
namespace_of files dumps now age = record { files = files; dumps = dumps; now = now; age = age }

module _ (j : Joint) (kept : InvariantHolds j) where
  -- a bitfile whose entry has every copy stored and isn't being dropped
  whole_bytes : (b : ℕ) (e : Entry) → map.get j.daemon.tables.entries b ≡ Some e → is_stored e ≡ true → e.dropping ≡ false
      → bitfile_bytes j b ≡ copy_or (map.get j.history.contents b)
  whole_bytes b e is whole lasting =
      let first = first_copy_is_content j kept b e is (kept.files.state.entries b e is).asked whole lasting in
      ap (λ o. first_copy j.sides b (asked_by o)) is ∙ first.3 ∙ sym (ap copy_or first.1)

  -- a file that holds what it should
  held_bytes : (c : Contents) → HeldRightly j.daemon.tables.entries j.history.contents c → file_bytes j c ≡ content_bytes j.history.contents c
  held_bytes (Regular bytes) held = refl
  held_bytes (Making bytes b) held = refl
  held_bytes (Dual bytes b) held = refl
  held_bytes (Offline len b) held = whole_bytes b.0 held.named.entry held.named.is held.whole held.named.lasting

  inode_held : (n : ℕ) (o : Option Inode) → map.get j.daemon.tables.inodes n ≡ o → inode_bytes j o ≡ bytes_in j.history.contents o
  inode_held n None is = refl
  inode_held n (Some i) is = held_bytes i.contents (kept.files.held n i is)

  name_held : (o : Option Ino)
      → option_map (λ n. inode_bytes j (map.get j.daemon.tables.inodes n.0)) o ≡ bytes_named j.history.contents j.daemon.tables.inodes o
  name_held None = refl
  name_held (Some n) = ap (λ x. Some x) (inode_held n.0 (map.get j.daemon.tables.inodes n.0) refl)

  -- the files of the namespace that the state stands for
  pub get-plain : (path : List ℕ)
      → map.get (plain_of j).files path ≡ bytes_named j.history.contents j.daemon.tables.inodes (map.get j.daemon.tables.names path)
  get-plain path =
      get-mapped paths (λ q n. inode_bytes j (map.get j.daemon.tables.inodes n.0)) j.daemon.tables.names path
      ∙ name_held (map.get j.daemon.tables.names path)

  pub plain_files : (plain_of j).files ≡ files_shown j.daemon.tables.names j.daemon.tables.inodes j.history.contents
  plain_files =
      same_rows paths _ _ (λ q. get-plain q ∙ sym (get-shown j.daemon.tables.names j.daemon.tables.inodes j.history.contents q))

  -- a file of a young dump
  dumped_held : (made : ℕ) (f : DumpInode) → DumpedRightly j.daemon.tables.entries made f → bytes_of_dumped j f ≡ dumped_bytes j.history.contents f
  dumped_held made (KeptFile bytes) right = refl
  dumped_held made (NamedFile len b) right =
      let parts = and_parts (is_stored right.entry) (not right.entry.dropping) right.complete in
      whole_bytes b.0 right.entry right.is parts.0 (is_false right.entry.dropping parts.1)

  file_held : (made : ℕ) (o : Option DumpInode) → ((f : DumpInode) → o ≡ Some f → DumpedRightly j.daemon.tables.entries made f)
      → option_map (bytes_of_dumped j) o ≡ option_map (dumped_bytes j.history.contents) o
  file_held made None right = refl
  file_held made (Some f) right = ap (λ x. Some x) (dumped_held made f (right f refl))

  dump_held : (name : List ℕ) (d : Dump) → map.get j.daemon.tables.dumps name ≡ Some d → is_young j.daemon.tables.time.0 d ≡ true
      → dump_of j d ≡ dump_shown j.history.contents d
  dump_held name d is young =
      let right = kept.dumps.young name d is young in
      ap (dump_with d) (same_rows paths _ _ (λ q.
      get-mapped paths (λ path f. bytes_of_dumped j f) d.files q ∙ file_held d.made.0 (map.get d.files q) (λ f at. right q f at)
      ∙ sym (get-mapped paths (λ path f. dumped_bytes j.history.contents f) d.files q)))

  young_held : (name : List ℕ) (d : Dump) (b : Bool) → map.get j.daemon.tables.dumps name ≡ Some d → is_young j.daemon.tables.time.0 d ≡ b
      → option_map (dump_of j) (cond b (Some d) None) ≡ cond b (Some (dump_shown j.history.contents d)) None
  young_held name d true is young = ap (λ x. Some x) (dump_held name d is young)
  young_held name d false is young = refl

  row_held : (name : List ℕ) (o : Option Dump) → map.get j.daemon.tables.dumps name ≡ o
      → option_map (dump_of j) (young_row j.daemon.tables.time.0 o) ≡ young_in j.daemon.tables.time.0 (option_map (dump_shown j.history.contents) o)
  row_held name None is = refl
  row_held name (Some d) is = young_held name d (is_young j.daemon.tables.time.0 d) is refl

  -- the dumps of the namespace that the state stands for
  pub get-plain_dump : (name : List ℕ) → map.get (plain_of j).dumps name
      ≡ young_in j.daemon.tables.time.0 (option_map (dump_shown j.history.contents) (map.get j.daemon.tables.dumps name))
  get-plain_dump name =
      get-mapped paths (λ q d. dump_of j d) (young_dumps j.daemon.tables.time.0 j.daemon.tables.dumps) name
      ∙ ap (option_map (dump_of j)) (get-young j.daemon.tables.time.0 j.daemon.tables.dumps name)
      ∙ row_held name (map.get j.daemon.tables.dumps name) refl

  -- ---- both ways

  -- a namespace of which users see what the state stands for agrees with its tables
  pub agrees_of : (ns : Namespace) → plain_of j ≡ shown_namespace ns → Agrees j.daemon.tables j.history.contents ns
  agrees_of ns same =
      let now : ns.now ≡ j.daemon.tables.time.0 = sym (ap (λ (n : Namespace). n.now) same) in
      record {
        files = sym (ap (λ (n : Namespace). n.files) same) ∙ plain_files;
        dumps = λ name.
            sym (subst (λ n. map.get (shown_namespace ns).dumps name ≡ young_in n (map.get ns.dumps name)) now (get-seen ns name))
            ∙ sym (ap (λ (n : Namespace). map.get n.dumps name) same) ∙ get-plain_dump name;
        now = now;
        age = sym (ap (λ (n : Namespace). n.age) same);
      }

  -- and one that agrees is such a one
  pub seen_of : (ns : Namespace) → Agrees j.daemon.tables j.history.contents ns → plain_of j ≡ shown_namespace ns
  seen_of ns a =
      let dumps : (plain_of j).dumps ≡ (shown_namespace ns).dumps =
      same_rows paths _ _ (λ name. get-plain_dump name ∙ sym (a.dumps name) ∙ sym (ap (λ n. young_in n (map.get ns.dumps name)) a.now)
      ∙ sym (get-seen ns name)) in
      ap (λ d. namespace_of (plain_of j).files d j.daemon.tables.time.0 j.daemon.tables.age) dumps
      ∙ ap (λ f. namespace_of f (shown_namespace ns).dumps j.daemon.tables.time.0 j.daemon.tables.age) (plain_files ∙ sym a.files)
      ∙ ap (λ n. namespace_of ns.files (shown_namespace ns).dumps n j.daemon.tables.age) (sym a.now)
      ∙ ap (λ n. namespace_of ns.files (shown_namespace ns).dumps ns.now n) (sym a.age)
