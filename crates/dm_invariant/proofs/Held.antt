-- What an inode holds, over entries and contents that change.
use Rattle.std.proofs.Common.{◌≡◌, ℕ, Some, None, List, refl, sym, ap, ◌∙◌}
use Rattle.std.specs.FinMap as map
use Rattle.dm_tables.proofs.Orders.{numbers}
use Rattle.dm_tables.proofs.Rows.{get-beside}
use Rattle.dm_durable.specs.Tables.{ByNumber}
use Rattle.dm_durable.specs.Inodes.{bitfile_of}
use Rattle.dm_durable.specs.declared.daemon.Contents.{Contents}
use Rattle.dm_durable.specs.declared.daemon.Contents.TheVariants.{Regular, Making, Dual, Offline}
use Rattle.dm_durable.specs.declared.daemon.Entry.{Entry}
use Rattle.dm_invariant.specs.Files.{NamedEntry, NamedWhole, HeldRightly}
use Rattle.dm_invariant.proofs.LookUps.{key_differs}

-- the bitfile of an inode that holds rightly has an entry
held_entry : (entries : ByNumber Entry) (contents : ByNumber (List ℕ)) (c : Contents) (b : ℕ) → bitfile_of c ≡ Some b
    → HeldRightly entries contents c → (e : Entry) × (map.get entries b ≡ Some e)
held_entry entries contents (Regular bytes) b names h = cc
held_entry entries contents (Making bytes f) b names h = let same : f.0 ≡ b = cc in (h.0.entry, ap (map.get entries) (sym same) ∙ h.0.is)
held_entry entries contents (Dual bytes f) b names h = let same : f.0 ≡ b = cc in (h.0.named.entry, ap (map.get entries) (sym same) ∙ h.0.named.is)
held_entry entries contents (Offline len f) b names h = let same : f.0 ≡ b = cc in (h.named.entry, ap (map.get entries) (sym same) ∙ h.named.is)

entry_same : (old new : ByNumber Entry) (b len : ℕ) → map.get new b ≡ map.get old b → NamedEntry old b len → NamedEntry new b len
entry_same old new b len same h = record { entry = h.entry; is = same ∙ h.is; sized = h.sized; there = h.there; lasting = h.lasting }

whole_same : (old new : ByNumber Entry) (b len : ℕ) → map.get new b ≡ map.get old b → NamedWhole old b len → NamedWhole new b len
unfolding entry_same
whole_same old new b len same h = record { named = entry_same old new b len same h.named; whole = h.whole }

-- it still holds rightly where the entry and content of its bitfile stay
pub held_same : (old new : ByNumber Entry) (before after : ByNumber (List ℕ)) (c : Contents)
    → ((b : ℕ) → bitfile_of c ≡ Some b → (map.get new b ≡ map.get old b) × (map.get after b ≡ map.get before b)) → HeldRightly old before c
    → HeldRightly new after c
held_same old new before after (Regular bytes) same h = tt
held_same old new before after (Making bytes b) same h = (entry_same old new b.0 _ (same b.0 refl).0 h.0, (same b.0 refl).1 ∙ h.1)
held_same old new before after (Dual bytes b) same h = (whole_same old new b.0 _ (same b.0 refl).0 h.0, (same b.0 refl).1 ∙ h.1)
held_same old new before after (Offline len b) same h = whole_same old new b.0 len (same b.0 refl).0 h

-- also where a new bitfile gets an entry and a content
pub held_beside : (entries : ByNumber Entry) (contents : ByNumber (List ℕ)) (c : Contents) (b : ℕ) (v : Entry) (bytes : List ℕ)
    → map.get entries b ≡ None → HeldRightly entries contents c → HeldRightly (map.insert entries b v) (map.insert contents b bytes) c
held_beside entries contents c b v bytes none h =
    held_same entries (map.insert entries b v) contents (map.insert contents b bytes) c
    (λ q names.
    let e = held_entry entries contents c q names h in
    let apart = key_differs entries b q e.0 none e.1 in
    (get-beside numbers entries b v q apart, get-beside numbers contents b bytes q apart)) h
