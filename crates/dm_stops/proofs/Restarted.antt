-- What a restart leaves of the daemon's tables: each put that has not ended is over, its inode is regular, and its bitfile is
-- let go.
use Rattle.std.proofs.Common.{◌≡◌, ◌⊎◌, ◌≤◌, ℕ, Bool, true, false, cond, not, ◌&&◌, Option, Some, IsSome, List, option_map, refl, sym, ap, subst, ◌∙◌, inl, inr, arith}
use Rattle.std.specs.FinMap as map
use Rattle.std.proofs.lemmas.Bool.{and_parts}
use Rattle.dm_base.specs.Limits.{file_limit}
use Rattle.dm_base.specs.declared.identifier.Ino.{Ino}
use Rattle.dm_tables.specs.Rows.{map_values}
use Rattle.dm_tables.proofs.Orders.{numbers}
use Rattle.dm_tables.proofs.Adjusted.{get-mapped, mapped, each-map}
use Rattle.dm_tables.proofs.Any.{any-none, any-false}
use Rattle.dm_durable.specs.declared.daemon.Contents.{Contents}
use Rattle.dm_durable.specs.declared.daemon.Contents.TheVariants.{Regular, Making, Dual, Offline}
use Rattle.dm_durable.specs.declared.daemon.DaemonStep.TheVariants.{Restart}
use Rattle.dm_durable.specs.declared.daemon.DaemonTables.{DaemonTables}
use Rattle.dm_durable.specs.declared.daemon.Entry.{Entry}
use Rattle.dm_durable.specs.declared.daemon.Inode.{Inode}
use Rattle.dm_durable.specs.Tables.{ByNumber}
use Rattle.dm_durable.specs.Daemon.{after_ending_puts, after_record}
use Rattle.dm_durable.specs.Entries.{with_deletion_time}
use Rattle.dm_durable.specs.Inodes.{as_ended, bitfile_made, bitfile_of, has_making, is_bitfile, is_made, is_making, is_named, length_of, with_contents}
use Rattle.dm_durable.proofs.Sizes.{size_restarted}
use Rattle.dm_model.specs.declared.state.OpenRequest.{OpenRequest}
use Rattle.dm_model.specs.declared.state.Side.{Side}
use Rattle.dm_invariant.specs.Files.{DumpsKept, FilesKept}
use Rattle.dm_invariant.proofs.Counts.{counted_mapped}
use Rattle.dm_invariant.proofs.Options.{mapped_value, there_as}
use Rattle.dm_landing.proofs.Fates.{EntriesGo, Fate, LetGo, Stays}
use Rattle.dm_landing.proofs.FatesFiles.{dumps_go}
use Rattle.dm_landing.proofs.FilesWith.{NamedIn, NamesKept, NewInode, NoneComes, OtherFiles, files_other, names_kept}

-- ---- inodes

-- a bitfile that no file names after the restart, and that was not being made, was named by none
names_none : (b : ℕ) (c : Contents) → is_bitfile b (bitfile_made c) ≡ false → is_bitfile b (bitfile_of (as_ended false c)) ≡ false
    → is_bitfile b (bitfile_of c) ≡ false
names_none b (Regular bytes) made named = refl
names_none b (Making bytes d) made named = made
names_none b (Dual bytes d) made named = named
names_none b (Offline len d) made named = named

-- none is being made
none_making : (c : Contents) → is_making (as_ended false c) ≡ false
none_making (Regular bytes) = refl
none_making (Making bytes b) = refl
none_making (Dual bytes b) = refl
none_making (Offline len b) = refl

abbrev pub Over : ByNumber Inode → ByNumber Inode
Over inodes = map_values (λ n i. with_contents (as_ended false) i) inodes

pub ended_all : (inodes : ByNumber Inode) → has_making (Over inodes) ≡ false
ended_all inodes =
    any-none (λ n i. is_making i.contents) (Over inodes)
    (each-map numbers (λ n i. is_making i.contents ≡ false) (λ n i. with_contents (as_ended false) i) inodes (λ n i is. none_making i.contents))

still_unnamed : (inodes : ByNumber Inode) (b : ℕ) → is_made inodes b ≡ false → is_named (Over inodes) b ≡ false → is_named inodes b ≡ false
still_unnamed inodes b unmade unnamed =
    let made = any-false numbers (λ n i. is_bitfile b (bitfile_made i.contents)) inodes unmade in
    let named = any-false numbers (λ n i. is_bitfile b (bitfile_of i.contents)) (Over inodes) unnamed in
    any-none (λ n i. is_bitfile b (bitfile_of i.contents)) inodes (λ n i is.
    names_none b i.contents (made n i is)
    (named n (with_contents (as_ended false) i)
    (get-mapped numbers (λ n i. with_contents (as_ended false) i) inodes n ∙ ap (option_map (with_contents (as_ended false))) is)))

-- names lead where they led
names_over : (t : DaemonTables) → NamesKept t.names t.inodes → NamesKept t.names (Over t.inodes)
names_over t k = record {
  names_lead = λ path n is.
      there_as _ _ (sym (get-mapped numbers (λ n i. with_contents (as_ended false) i) t.inodes n.0))
      (mapped_value (with_contents (as_ended false)) (map.get t.inodes n.0) (k.names_lead path n is));
  apart = k.apart;
  named =
      each-map numbers (λ n i. (path : List ℕ) × (ino : Ino) × (map.get t.names path ≡ Some ino) × (ino.0 ≡ n))
      (λ n i. with_contents (as_ended false) i) t.inodes (λ n i is. k.named n i is);
}

-- ---- entries

not_both : (v : Bool) → not v ≡ true → v ≡ true → ⊥
not_both true e f = cc
not_both false e f = cc

-- an entry that is let go has its deletion time, and another one had it
gone_over : (made named : Bool) (time : ℕ) (e : Entry) → named ≡ false → (made ≡ false → IsSome e.gone)
    → IsSome (cond (made && not named) (with_deletion_time time e) e).gone
gone_over true false time e none was = refl
gone_over true true time e none was = cc
gone_over false named time e none was = was refl

module _ (t : DaemonTables) (contents : ByNumber (List ℕ)) (cap : ℕ) (sides : ByNumber Side) (requests : ByNumber OpenRequest) (time : ℕ)
    (k : FilesKept t contents cap) (on : t.time.0 ≤ time) where
  abbrev pub Entries : ByNumber Entry
  Entries = after_ending_puts t.entries t.inodes (Over t.inodes) time

  abbrev lets_go : ℕ → Bool
  lets_go b = is_made t.inodes b && not (is_named (Over t.inodes) b)

  abbrev pub Goes : Type 0
  Goes = EntriesGo (NamedIn (Over t.inodes)) sides requests time t.age NoneComes t.entries Entries

  fate_over : (v : Bool) (b : ℕ) (e : Entry) (o : Option Entry) → (v ≡ true → is_named (Over t.inodes) b ≡ true → ⊥)
      → o ≡ Some (cond v (with_deletion_time time e) e) → Fate (NamedIn (Over t.inodes)) sides requests time t.age b e o
  fate_over true b e o apart is = LetGo (apart refl) is
  fate_over false b e o apart is = Stays is

  entry_over : (b : ℕ) (e : Entry) → map.get t.entries b ≡ Some e → map.get Entries b ≡ Some (cond (lets_go b) (with_deletion_time time e) e)
  entry_over b e is =
      get-mapped numbers (λ b e. cond (lets_go b) (with_deletion_time time e) e) t.entries b
      ∙ ap (option_map (λ e. cond (lets_go b) (with_deletion_time time e) e)) is

  pub goes_over : Goes
  goes_over = record {
    fates = λ b e is.
        fate_over (lets_go b) b e (map.get Entries b)
        (λ goes named. not_both (is_named (Over t.inodes) b) (and_parts (is_made t.inodes b) (not (is_named (Over t.inodes) b)) goes).1 named)
        (entry_over b e is);
    comes = λ b f is.
        let was = mapped numbers (λ b e. cond (lets_go b) (with_deletion_time time e) e) t.entries b f is in
        inl (was.0, was.1);
  }

  -- ---- files

  -- a file that was being put is regular, and any other stays
  from_over : (n : ℕ) (i : Inode) (c : Contents) → i.contents ≡ c → map.get t.inodes n ≡ Some i
      → (map.get t.inodes n ≡ Some (record i { contents = as_ended false c }))
      ⊎ NewInode t.site t.counter t.change Entries contents n (record i { contents = as_ended false c })
  from_over n i (Regular bytes) form is = inl (is ∙ ap (λ c. Some (record i { contents = c })) form)
  from_over n i (Dual bytes b) form is = inl (is ∙ ap (λ c. Some (record i { contents = c })) form)
  from_over n i (Offline len b) form is = inl (is ∙ ap (λ c. Some (record i { contents = c })) form)
  from_over n i (Making bytes b) form is =
      let may = k.state.inodes n i is in
      inr (record {
        may = record { number = may.number; change = may.change; short = subst (λ c. length_of c ≤ file_limit) form may.short; names = tt };
        held = tt;
      })

  other_over : OtherFiles NoneComes t contents contents cap sides requests time t.change t.counter t.names (Over t.inodes) Entries
  other_over =
      let size = k.size in
      let same = size_restarted t.inodes in
      let count = counted_mapped numbers (λ b e. cond (lets_go b) (with_deletion_time time e) e) t.entries in
      let limit = k.state.entries_most in
      record {
        on = on;
        last = omega arith;
        last_most = k.state.change;
        next = omega arith;
        next_most = k.state.counter_most;
        go = goes_over;
        fresh = λ b f none. absurd none;
        fresh_apart = λ b f none given. none;
        names_kept = names_over t (names_kept t contents cap k);
        from = λ n i is.
            let was = mapped numbers (λ n i. with_contents (as_ended false) i) t.inodes n i is in
            subst (λ x. (map.get t.inodes n ≡ Some x) ⊎ NewInode t.site t.counter t.change Entries contents n x) (sym was.2)
            (from_over n was.0 was.0.contents refl was.1);
        unnamed =
            each-map numbers (λ b e. is_named (Over t.inodes) b ≡ false → IsSome e.gone)
            (λ b e. cond (lets_go b) (with_deletion_time time e) e) t.entries
            (λ b e is none. gone_over (is_made t.inodes b) (is_named (Over t.inodes) b) time e none
            (λ unmade. k.unnamed b e is (still_unnamed t.inodes b unmade none)));
        most = k.state.files_most;
        many = omega (arith, count, limit);
        more = λ b bytes at. at;
        given = k.contents_given;
        size = omega (arith, size, same);
      }

  abbrev pub Restarted : DaemonTables
  Restarted = after_record t (record { time = record { 0 = time }; step = Restart })

  -- files are kept by a restart
  pub files_restarted : FilesKept Restarted contents cap
  files_restarted = files_other NoneComes t contents contents cap sides requests time t.change t.counter t.names (Over t.inodes) Entries k other_over

  -- so are dumps
  pub dumps_restarted : DumpsKept t.time.0 t.entries t.dumps → DumpsKept time Restarted.entries Restarted.dumps
  dumps_restarted dumps =
      dumps_go (NamedIn (Over t.inodes)) sides requests time t.age NoneComes t.entries Entries t.time.0 t.dumps on goes_over
      (λ name x is. (k.state.dumps name x is).made) (λ name x is. (k.state.dumps name x is).least) dumps
