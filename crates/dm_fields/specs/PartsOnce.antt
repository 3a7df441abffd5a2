-- The parts of rows tell what they are of.
use Rattle.std.proofs.Common.{◌≡◌, Bool, ℕ, suc, ◌<◌, ◌^◌, List, [], ◌∷◌, ◌++◌, length, refl, sym, ap, ◌∙◌, arith, append_assoc}
use Rattle.std.specs.List.{AllByRecursion, flat_map}
use Rattle.dm_base.specs.declared.identifier.Bfid.{Bfid}
use Rattle.dm_durable.specs.Fields.{FitsContents, FitsDumpInode, FitsEntry, FitsCopy, IsTimeOrNone}
use Rattle.dm_durable.specs.declared.daemon.AskedCopy.{AskedCopy}
use Rattle.dm_durable.specs.declared.daemon.Contents.TheVariants.{Regular, Making, Dual, Offline}
use Rattle.dm_durable.specs.declared.daemon.DumpInode.TheVariants.{Kept, Named}
use Rattle.dm_fields.specs.Fields.{flag_field, moment_field}
use Rattle.dm_fields.specs.Numbers.{be64, be128}
use Rattle.dm_fields.specs.Parts.{long_content_field, contents_field, dump_inode_field, copy_group, copy_stored, copies_field, FitCopies, entry_field}
use Rattle.dm_fields.specs.Reading.{IsSpelledOnce}
use Rattle.dm_fields.specs.Once.{front_once, number_once, text_once, byte_once, flag_once, pair_once, moment_once, bfid_once}
use Rattle.dm_fields.specs.declared.copies.Copies.{Copies}
use Rattle.dm_fields.specs.declared.texts.LongBytes.{LongBytes}

pub long_content_once : IsSpelledOnce long_content_field (λ bytes. length bytes < 2 ^ 64)
long_content_once x y r s p q e = text_once 8 x y r s p q e

pub long_bytes_once : IsSpelledOnce {X = LongBytes} (λ l. long_content_field l.bytes) (λ l. length l.bytes < 2 ^ 64)
long_bytes_once x y r s p q e = let n = long_content_once x.bytes y.bytes r s p q e in (λ i. record { bytes = n.0 i }, n.1)

-- a bitfile and bytes, and a bitfile and a length
bytes_pair : IsSpelledOnce {X = Bfid × List ℕ} (λ x. be128 x.0.0 ++ long_content_field x.1) (λ x. (x.0.0 < 2 ^ 128) × (length x.1 < 2 ^ 64))
bytes_pair = pair_once (λ (b : Bfid). be128 b.0) (λ b. b.0 < 2 ^ 128) long_content_field (λ bytes. length bytes < 2 ^ 64) bfid_once long_content_once

length_pair : IsSpelledOnce {X = Bfid × ℕ} (λ x. be128 x.0.0 ++ be64 x.1) (λ x. (x.0.0 < 2 ^ 128) × (x.1 < 2 ^ 64))
length_pair = pair_once (λ (b : Bfid). be128 b.0) (λ b. b.0 < 2 ^ 128) be64 (λ n. n < 2 ^ 64) bfid_once (number_once 8)

zeros : Bfid
zeros = record { 0 = 0 }

other : {A : Type 0} (m n : ℕ) (a b : List ℕ) → (m ≡ n → ⊥) → m ∷ a ≡ n ∷ b → A
other m n a b differ e = absurd (differ (byte_once m n a b e).0)

rest_of : (m n : ℕ) (a b : List ℕ) → m ∷ a ≡ n ∷ b → a ≡ b
rest_of m n a b e = (byte_once m n a b e).1

pub contents_once : IsSpelledOnce contents_field FitsContents
unfolding zeros
contents_once (Regular x) (Regular y) r s p q e =
    let n = bytes_pair (zeros, x) (zeros, y) r s (omega arith, p) (omega arith, q) (rest_of 0 0 _ _ e) in
    (λ i. Regular ((n.0 i).1), n.1)
contents_once (Making x b) (Making y d) r s p q e =
    let n = bytes_pair (b, x) (d, y) r s (p.1, p.0) (q.1, q.0) (rest_of 1 1 _ _ e) in
    (λ i. Making ((n.0 i).1) ((n.0 i).0), n.1)
contents_once (Dual x b) (Dual y d) r s p q e =
    let n = bytes_pair (b, x) (d, y) r s (p.1, p.0) (q.1, q.0) (rest_of 2 2 _ _ e) in
    (λ i. Dual ((n.0 i).1) ((n.0 i).0), n.1)
contents_once (Offline x b) (Offline y d) r s p q e =
    let n = length_pair (b, x) (d, y) r s (p.1, p.0) (q.1, q.0) (rest_of 3 3 _ _ e) in
    (λ i. Offline ((n.0 i).1) ((n.0 i).0), n.1)
contents_once (Regular x) (Making y d) r s p q e = other 0 1 _ _ (λ h. omega arith) e
contents_once (Regular x) (Dual y d) r s p q e = other 0 2 _ _ (λ h. omega arith) e
contents_once (Regular x) (Offline y d) r s p q e = other 0 3 _ _ (λ h. omega arith) e
contents_once (Making x b) (Regular y) r s p q e = other 1 0 _ _ (λ h. omega arith) e
contents_once (Making x b) (Dual y d) r s p q e = other 1 2 _ _ (λ h. omega arith) e
contents_once (Making x b) (Offline y d) r s p q e = other 1 3 _ _ (λ h. omega arith) e
contents_once (Dual x b) (Regular y) r s p q e = other 2 0 _ _ (λ h. omega arith) e
contents_once (Dual x b) (Making y d) r s p q e = other 2 1 _ _ (λ h. omega arith) e
contents_once (Dual x b) (Offline y d) r s p q e = other 2 3 _ _ (λ h. omega arith) e
contents_once (Offline x b) (Regular y) r s p q e = other 3 0 _ _ (λ h. omega arith) e
contents_once (Offline x b) (Making y d) r s p q e = other 3 1 _ _ (λ h. omega arith) e
contents_once (Offline x b) (Dual y d) r s p q e = other 3 2 _ _ (λ h. omega arith) e

pub dump_inode_once : IsSpelledOnce dump_inode_field FitsDumpInode
unfolding zeros
dump_inode_once (Kept x) (Kept y) r s p q e =
    let n = bytes_pair (zeros, x) (zeros, y) r s (omega arith, p) (omega arith, q) (rest_of 0 0 _ _ e) in
    (λ i. Kept ((n.0 i).1), n.1)
dump_inode_once (Named x b) (Named y d) r s p q e =
    let n = length_pair (b, x) (d, y) r s (p.1, p.0) (q.1, q.0) (rest_of 1 1 _ _ e) in
    (λ i. Named ((n.0 i).1) ((n.0 i).0), n.1)
dump_inode_once (Kept x) (Named y d) r s p q e = other 0 1 _ _ (λ h. omega arith) e
dump_inode_once (Named x b) (Kept y) r s p q e = other 1 0 _ _ (λ h. omega arith) e

-- ---- the copies of a bitfile

-- groups and flags of the same copies
same_copies : (xs ys : List AskedCopy) (r s : List ℕ) → length xs ≡ length ys → flat_map copy_group xs ≡ flat_map copy_group ys → flat_map copy_stored xs ++ r ≡ flat_map copy_stored ys ++ s → (xs ≡ ys) × (r ≡ s)
same_copies [] [] r s same g e = (refl, e)
same_copies [] (y ∷ ys) r s same g e = absurd (omega arith)
same_copies (x ∷ xs) [] r s same g e = absurd (omega arith)
same_copies (x ∷ xs) (y ∷ ys) r s same g e =
    let group = byte_once x.group.0 y.group.0 (flat_map copy_group xs) (flat_map copy_group ys) g in
    let stored = flag_once x.stored y.stored (flat_map copy_stored xs ++ r) (flat_map copy_stored ys ++ s) e in
    let rest = same_copies xs ys r s (omega arith) group.1 stored.1 in
    (λ i. record { group = record { 0 = group.0 i }; stored = stored.0 i } ∷ rest.0 i, rest.1)

pub length-groups : (xs : List AskedCopy) → length (flat_map copy_group xs) ≡ length xs
length-groups [] = refl
length-groups (x ∷ xs) = ap suc (length-groups xs)

pub copies_once : IsSpelledOnce copies_field (λ cs. (length cs < 2 ^ 8) × AllByRecursion FitsCopy cs)
copies_once x y r s p q e =
    let count = byte_once (length x) (length y) ((flat_map copy_group x ++ flat_map copy_stored x) ++ r) ((flat_map copy_group y ++ flat_map copy_stored y) ++ s) e in
    let split = sym (append_assoc (flat_map copy_group x) (flat_map copy_stored x) r) ∙ count.1 ∙ append_assoc (flat_map copy_group y) (flat_map copy_stored y) s in
    let groups = front_once (flat_map copy_group x) (flat_map copy_group y) (flat_map copy_stored x ++ r) (flat_map copy_stored y ++ s) (length-groups x ∙ count.0 ∙ sym (length-groups y)) split in
    same_copies x y r s count.0 groups.0 groups.1

pub wrapped_copies_once : IsSpelledOnce {X = Copies} (λ c. copies_field c.items) (λ c. FitCopies c.items)
wrapped_copies_once x y r s p q e = let n = copies_once x.items y.items r s p q e in (λ i. record { items = n.0 i }, n.1)

pub entry_once : IsSpelledOnce entry_field FitsEntry
entry_once x y r s p q e =
    let n = pair_once be64 (λ n. n < 2 ^ 64) (λ (t : List AskedCopy × (_ × Bool)). copies_field t.0 ++ (moment_field t.1.0 ++ flag_field t.1.1)) _ (number_once 8)
    (pair_once copies_field (λ cs. (length cs < 2 ^ 8) × AllByRecursion FitsCopy cs) (λ t. moment_field t.0 ++ flag_field t.1) (λ t. IsTimeOrNone t.0 × Unit {0}) copies_once
    (pair_once moment_field IsTimeOrNone flag_field (λ _. Unit {0}) moment_once (λ a b r s p q e. flag_once a b r s e)))
    (x.len, (x.copies, (x.gone, x.dropping))) (y.len, (y.copies, (y.gone, y.dropping))) r s
    (p.len, ((p.few, p.copies), (p.gone, tt))) (q.len, ((q.few, q.copies), (q.gone, tt))) e in
    (λ i. record { len = (n.0 i).0; copies = (n.0 i).1.0; gone = (n.0 i).1.1.0; dropping = (n.0 i).1.1.1 }, n.1)
