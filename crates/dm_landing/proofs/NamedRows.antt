-- The rows of files, entries and dumps stay ones that may be of a state, where entries keep their lengths and counts go on.
use Rattle.std.proofs.Common.{◌≡◌, ◌⊎◌, ℕ, ◌+◌, ◌≤◌, Option, None, Some, refl, ◌∙◌, arith, inl, inr}
use Rattle.std.specs.FinMap as map
use Rattle.dm_tables.specs.Rows.{EachRow}
use Rattle.dm_durable.specs.declared.daemon.Dump.{Dump}
use Rattle.dm_durable.specs.declared.daemon.DumpInode.{DumpInode}
use Rattle.dm_durable.specs.declared.daemon.Entry.{Entry}
use Rattle.dm_durable.specs.declared.daemon.Inode.{Inode}
use Rattle.dm_durable.specs.Tables.{ByNumber, ByName}
use Rattle.dm_durable.specs.Daemon.{bfid_of}
use Rattle.dm_durable.specs.DaemonJournal.{IsGiven, HasLength, MayBeNamed, IsChange, MayBeInode, MayBeEntry, MayBeDumpFile, MayBeDump}
use Rattle.dm_invariant.proofs.Times.{still_past}

-- each entry is one that was there with this length, or of a bitfile that wasn't given yet
abbrev pub LengthsFrom : ℕ → ℕ → ByNumber Entry → ByNumber Entry → Type 0
LengthsFrom site next old new =
    EachRow new (λ b f. ((e : Entry) × (map.get old b ≡ Some e) × (f.len ≡ e.len)) ⊎ (IsGiven site next b → ⊥))

pub lengths_same : (site next : ℕ) (entries : ByNumber Entry) → LengthsFrom site next entries entries
lengths_same site next entries = λ b f is. inl (f, is, refl)

-- what was given stays given
pub given_longer : (site next more b : ℕ) → next ≤ more → IsGiven site next b → IsGiven site more b
given_longer site next more b le g = record { counter = g.counter; is = g.is; used = let u = g.used in omega (arith, le, u) }

-- the next identifier isn't given
pub next_not_given : (site next b : ℕ) → b ≡ bfid_of site next → IsGiven site next b → ⊥
next_not_given site next b e g = let is = g.is in let u = g.used in omega (arith, e, is, u)

-- and is, once the counter has passed it
pub next_given : (site next b : ℕ) → b ≡ bfid_of site next → IsGiven site (next + 1) b
next_given site next b e = record { counter = next; is = e; used = omega arith }

pub length_onward : (site next b len : ℕ) (old new : ByNumber Entry) → LengthsFrom site next old new → IsGiven site next b → HasLength old len b
    → HasLength new len b
length_onward site next b len old new from given has = λ f is.
    elim (from b f is) [
      | inl was ↦ was.2 ∙ has was.0 was.1
      | inr not ↦ absurd (not given)
    ]

pub named_onward : (site next more len : ℕ) (old new : ByNumber Entry) (o : Option ℕ) → next ≤ more → LengthsFrom site next old new
    → MayBeNamed site next old len o → MayBeNamed site more new len o
named_onward site next more len old new None le from n = tt
named_onward site next more len old new (Some b) le from n = (given_longer site next more b le n.0, length_onward site next b len old new from n.0 n.1)

pub change_onward : (last later n : ℕ) → last ≤ later → IsChange last n → IsChange later n
change_onward last later n le c = record { least = c.least; most = let m = c.most in omega (arith, le, m) }

pub inode_onward : (site next more last later n : ℕ) (old new : ByNumber Entry) (i : Inode) → next ≤ more → last ≤ later
    → LengthsFrom site next old new → MayBeInode site next last old n i → MayBeInode site more later new n i
inode_onward site next more last later n old new i le on from k = record {
  number = change_onward last later n on k.number;
  change = change_onward last later i.change on k.change;
  short = k.short;
  names = named_onward site next more _ old new _ le from k.names;
}

-- so do all inodes
pub inodes_onward : (site next more last later : ℕ) (old new : ByNumber Entry) (inodes : ByNumber Inode) → next ≤ more → last ≤ later
    → LengthsFrom site next old new → EachRow inodes (MayBeInode site next last old) → EachRow inodes (MayBeInode site more later new)
inodes_onward site next more last later old new inodes le on from each = λ n i is.
    inode_onward site next more last later n old new i le on from (each n i is)

dump_file_onward : (site next more : ℕ) (old new : ByNumber Entry) (f : DumpInode) → next ≤ more → LengthsFrom site next old new
    → MayBeDumpFile site next old f → MayBeDumpFile site more new f
dump_file_onward site next more old new f le from k = record { short = k.short; names = named_onward site next more _ old new _ le from k.names }

pub dump_onward : (site next more now later age : ℕ) (old new : ByNumber Entry) (d : Dump) → next ≤ more → now ≤ later
    → LengthsFrom site next old new → MayBeDump site next now age old d → MayBeDump site more later age new d
dump_onward site next more now later age old new d le on from k = record {
  made = let m = k.made in omega (arith, on, m);
  least = k.least;
  files = λ path f is. dump_file_onward site next more old new f le from (k.files path f is);
}

-- and all dumps
pub dumps_onward : (site next more now later age : ℕ) (old new : ByNumber Entry) (dumps : ByName Dump) → next ≤ more → now ≤ later
    → LengthsFrom site next old new → EachRow dumps (λ name d. MayBeDump site next now age old d)
    → EachRow dumps (λ name d. MayBeDump site more later age new d)
dumps_onward site next more now later age old new dumps le on from each = λ name d is.
    dump_onward site next more now later age old new d le on from (each name d is)

-- an entry stays one, as time and counts go on
pub entry_onward : (site next more now later b : ℕ) (e : Entry) → next ≤ more → now ≤ later → MayBeEntry site next now b e
    → MayBeEntry site more later b e
entry_onward site next more now later b e le on k = record {
  given = given_longer site next more b le k.given;
  short = k.short;
  asked = k.asked;
  numbers = k.numbers;
  deleted = still_past now later e.gone on k.deleted;
}
