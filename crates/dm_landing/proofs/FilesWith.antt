-- Files are kept where entries go on, and inodes are those that were there or are right: once for all steps.
use Rattle.std.proofs.Common.{◌≡◌, ◌⊎◌, ℕ, ◌+◌, ◌≤◌, true, false, Some, IsSome, List, arith, inl, inr}
use Rattle.std.specs.FinMap as map
use Rattle.dm_base.specs.declared.identifier.Ino.{Ino}
use Rattle.dm_base.specs.Limits.{age_limit, dumps_limit, entries_limit, files_limit, number_limit}
use Rattle.dm_tables.specs.Rows.{EachRow}
use Rattle.dm_durable.specs.declared.daemon.DaemonTables.{DaemonTables}
use Rattle.dm_durable.specs.declared.daemon.Dump.{Dump}
use Rattle.dm_durable.specs.declared.daemon.Entry.{Entry}
use Rattle.dm_durable.specs.declared.daemon.Inode.{Inode}
use Rattle.dm_durable.specs.Tables.{ByNumber, ByName}
use Rattle.dm_durable.specs.Inodes.{is_named}
use Rattle.dm_durable.specs.Daemon.{size_of_files, size_of_dumps}
use Rattle.dm_durable.specs.DaemonJournal.{IsGiven, MayBeEntry, MayBeInode, MayBeDump}
use Rattle.dm_model.specs.declared.state.OpenRequest.{OpenRequest}
use Rattle.dm_model.specs.declared.state.Side.{Side}
use Rattle.dm_invariant.specs.Files.{HeldRightly, FilesKept}
use Rattle.dm_invariant.proofs.LettingGo.{named_by}
use Rattle.dm_landing.proofs.Fates.{EntriesGo}
use Rattle.dm_landing.proofs.FatesFiles.{held_go, lengths_go, entries_go}
use Rattle.dm_landing.proofs.NamedRows.{LengthsFrom, inodes_onward, inode_onward, dumps_onward}

-- an inode's bitfile is named by one of these
abbrev pub NamedIn : ByNumber Inode → ℕ → Type 0
NamedIn inodes b = is_named inodes b ≡ true

-- no entry comes
abbrev pub NoneComes : ℕ → Entry → Type 0
NoneComes b f = ⊥

-- each name leads to an inode, no two names to one, and each inode has a name
pub record NamesKept (names : ByName Ino) (inodes : ByNumber Inode) : Type 0 where
  pub names_lead : EachRow names (λ path n. IsSome (map.get inodes n.0))
  pub apart : (p q : List ℕ) (n m : Ino) → map.get names p ≡ Some n → map.get names q ≡ Some m → n.0 ≡ m.0 → p ≡ q
  pub named : EachRow inodes (λ n i. (path : List ℕ) × (ino : Ino) × (map.get names path ≡ Some ino) × (ino.0 ≡ n))

pub names_kept : (t : DaemonTables) (contents : ByNumber (List ℕ)) (cap : ℕ) → FilesKept t contents cap → NamesKept t.names t.inodes
names_kept t contents cap k = record { names_lead = k.state.names; apart = k.state.names_apart; named = k.state.named }

-- ---- files stay, and entries, dumps or the age change

pub record SameFiles (t : DaemonTables) (contents : ByNumber (List ℕ)) (cap : ℕ) (sides : ByNumber Side) (requests : ByNumber OpenRequest)
    (time age : ℕ) (entries : ByNumber Entry) (dumps : ByName Dump) : Type 0 where
  pub on : t.time.0 ≤ time
  pub old : age ≤ age_limit
  pub go : EntriesGo (NamedIn t.inodes) sides requests time t.age NoneComes t.entries entries
  pub unnamed : EachRow entries (λ b e. is_named t.inodes b ≡ false → IsSome e.gone)
  pub many : map.len entries ≤ entries_limit
  pub few : map.len dumps ≤ dumps_limit
  pub rows : EachRow dumps (λ name d. MayBeDump t.site t.counter time age entries d)
  pub size : size_of_files t.inodes + size_of_dumps dumps ≤ cap

pub files_same : (t : DaemonTables) (contents : ByNumber (List ℕ)) (cap : ℕ) (sides : ByNumber Side) (requests : ByNumber OpenRequest)
    (time age : ℕ) (entries : ByNumber Entry) (dumps : ByName Dump) → FilesKept t contents cap
    → SameFiles t contents cap sides requests time age entries dumps
    → FilesKept (record t { time = record { 0 = time }; age = age; entries = entries; dumps = dumps }) contents cap
files_same t contents cap sides requests time age entries dumps k f =
    let from : LengthsFrom t.site t.counter t.entries entries =
    lengths_go (NamedIn t.inodes) sides requests time t.age NoneComes t.entries entries t.site t.counter f.go (λ b e none given. none) in
    record {
      state = record {
        change = k.state.change;
        counter_least = k.state.counter_least;
        counter_most = k.state.counter_most;
        site = k.state.site;
        first = k.state.first;
        begun_age = k.state.begun_age;
        age = f.old;
        files_most = k.state.files_most;
        entries_most = f.many;
        dumps_most = f.few;
        names = k.state.names;
        names_apart = k.state.names_apart;
        named = k.state.named;
        inodes = inodes_onward t.site t.counter t.counter t.change t.change t.entries entries t.inodes (omega arith) (omega arith) from k.state.inodes;
        entries =
            entries_go (NamedIn t.inodes) sides requests time t.age NoneComes t.entries entries t.site t.counter t.counter t.time.0 (omega arith) f.on
            f.go (λ b e none. absurd none) k.state.entries;
        dumps = f.rows;
      };
      held = λ n i is.
          held_go (NamedIn t.inodes) sides requests time t.age NoneComes t.entries entries contents contents i.contents f.go (λ b bytes at. at)
          (λ b names. named_by t.inodes n i b is names) (k.held n i is);
      unnamed = f.unnamed;
      contents_given = k.contents_given;
      size = f.size;
    }

-- ---- files change, and dumps stay

-- a new inode, or one that is changed
pub record NewInode (site next last : ℕ) (entries : ByNumber Entry) (contents : ByNumber (List ℕ)) (n : ℕ) (i : Inode) : Type 0 where
  pub may : MayBeInode site next last entries n i
  pub held : HeldRightly entries contents i.contents

pub record OtherFiles (IsFresh : ℕ → Entry → Type 0) (t : DaemonTables) (before contents : ByNumber (List ℕ)) (cap : ℕ) (sides : ByNumber Side)
    (requests : ByNumber OpenRequest) (time change counter : ℕ) (names : ByName Ino) (inodes : ByNumber Inode) (entries : ByNumber Entry) : Type 0 where
  pub on : t.time.0 ≤ time
  pub last : t.change ≤ change
  pub last_most : change ≤ number_limit
  pub next : t.counter ≤ counter
  pub next_most : counter ≤ number_limit + 1
  pub go : EntriesGo (NamedIn inodes) sides requests time t.age IsFresh t.entries entries
  pub fresh : (b : ℕ) (f : Entry) → IsFresh b f → MayBeEntry t.site counter time b f
  pub fresh_apart : (b : ℕ) (f : Entry) → IsFresh b f → IsGiven t.site t.counter b → ⊥
  pub names_kept : NamesKept names inodes
  pub from : EachRow inodes (λ n i. (map.get t.inodes n ≡ Some i) ⊎ NewInode t.site counter change entries contents n i)
  pub unnamed : EachRow entries (λ b e. is_named inodes b ≡ false → IsSome e.gone)
  pub most : map.len names ≤ files_limit
  pub many : map.len entries ≤ entries_limit
  pub more : EachRow before (λ b bytes. map.get contents b ≡ Some bytes)
  pub given : EachRow contents (λ b bytes. IsGiven t.site counter b)
  pub size : size_of_files inodes + size_of_dumps t.dumps ≤ cap

module _ (IsFresh : ℕ → Entry → Type 0) (t : DaemonTables) (before contents : ByNumber (List ℕ)) (cap : ℕ) (sides : ByNumber Side) (requests : ByNumber OpenRequest)
    (time change counter : ℕ) (names : ByName Ino) (inodes : ByNumber Inode) (entries : ByNumber Entry) where
  lengths_other : OtherFiles IsFresh t before contents cap sides requests time change counter names inodes entries
      → LengthsFrom t.site t.counter t.entries entries
  lengths_other f =
      lengths_go (NamedIn inodes) sides requests time t.age IsFresh t.entries entries t.site t.counter f.go
      f.fresh_apart

  inode_of : FilesKept t before cap → OtherFiles IsFresh t before contents cap sides requests time change counter names inodes entries
      → (n : ℕ) (i : Inode) → map.get inodes n ≡ Some i
      → (map.get t.inodes n ≡ Some i) ⊎ NewInode t.site counter change entries contents n i
      → MayBeInode t.site counter change entries n i × HeldRightly entries contents i.contents
  inode_of k f n i is (inl was) = (
    inode_onward t.site t.counter counter t.change change n t.entries entries i f.next f.last (lengths_other f) (k.state.inodes n i was),
    held_go (NamedIn inodes) sides requests time t.age IsFresh t.entries entries before contents i.contents
        f.go f.more (λ b named. named_by inodes n i b is named) (k.held n i was),
  )
  inode_of k f n i is (inr new) = (new.may, new.held)

  pub files_other : FilesKept t before cap → OtherFiles IsFresh t before contents cap sides requests time change counter names inodes entries
      → FilesKept (record t {
        time = record { 0 = time };
        change = change;
        counter = counter;
        names = names;
        inodes = inodes;
        entries = entries;
      }) contents cap
  files_other k f = record {
    state = record {
      change = f.last_most;
      counter_least = let a = k.state.counter_least in let b = f.next in omega (arith, a, b);
      counter_most = f.next_most;
      site = k.state.site;
      first = k.state.first;
      begun_age = k.state.begun_age;
      age = k.state.age;
      files_most = f.most;
      entries_most = f.many;
      dumps_most = k.state.dumps_most;
      names = f.names_kept.names_lead;
      names_apart = f.names_kept.apart;
      named = f.names_kept.named;
      inodes = λ n i is. (inode_of k f n i is (f.from n i is)).0;
      entries =
          entries_go (NamedIn inodes) sides requests time t.age IsFresh t.entries entries t.site t.counter counter
          t.time.0 f.next f.on f.go f.fresh k.state.entries;
      dumps = dumps_onward t.site t.counter counter t.time.0 time t.age t.entries entries t.dumps f.next f.on (lengths_other f) k.state.dumps;
    };
    held = λ n i is. (inode_of k f n i is (f.from n i is)).1;
    unnamed = f.unnamed;
    contents_given = f.given;
    size = f.size;
  }
