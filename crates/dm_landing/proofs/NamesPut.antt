-- Names and inodes stay one for one, as one is put, goes or changes.
use Rattle.std.proofs.Common.{◌≡◌, ◌≢◌, ℕ, Some, IsSome, is_some, List, refl, sym, ap, ◌∙◌, inl, inr}
use Rattle.std.specs.FinMap.{get, insert, remove}
use Rattle.dm_base.specs.declared.identifier.Ino.{Ino}
use Rattle.dm_tables.specs.Rows.{EachRow}
use Rattle.dm_tables.proofs.Orders.{numbers, paths}
use Rattle.dm_tables.proofs.Rows.{get-here, get-beside, inserted, removed, removed-beside, each-insert, each-beside, each-left}
use Rattle.dm_durable.specs.Tables.{ByNumber, ByName}
use Rattle.dm_durable.specs.declared.daemon.Inode.{Inode}
use Rattle.dm_invariant.proofs.LookUps.{still_there}
use Rattle.dm_landing.proofs.FilesWith.{NamesKept}

-- ---- a name is put

lead_put : (names : ByName Ino) (inodes : ByNumber Inode) (path : List ℕ) (n : Ino) (i : Inode)
    → EachRow names (λ p m. IsSome (get inodes m.0)) → EachRow (insert names path n) (λ p m. IsSome (get (insert inodes n.0 i) m.0))
lead_put names inodes path n i each =
    each-insert paths (λ p m. IsSome (get (insert inodes n.0 i) m.0)) names path n
    (ap is_some (get-here numbers inodes n.0 i)) (λ p m is. still_there numbers inodes n.0 i m.0 (each p m is))

apart_put : (names : ByName Ino) (path : List ℕ) (n : Ino) → ((q : List ℕ) (m : Ino) → get names q ≡ Some m → m.0 ≡ n.0 → q ≡ path)
    → ((p q : List ℕ) (k m : Ino) → get names p ≡ Some k → get names q ≡ Some m → k.0 ≡ m.0 → p ≡ q) → (p q : List ℕ) (k m : Ino)
    → get (insert names path n) p ≡ Some k → get (insert names path n) q ≡ Some m → k.0 ≡ m.0 → p ≡ q
apart_put names path n alone apart p q k m at_p at_q same =
    elim (inserted paths names path n p k at_p) [
      | inl here ↦ elim (inserted paths names path n q m at_q) [
        | inl too ↦ here.0 ∙ sym too.0
        | inr other ↦ here.0 ∙ sym (alone q m other.1 (sym same ∙ ap (λ x. x.0) here.1))
      ]
      | inr was ↦ elim (inserted paths names path n q m at_q) [
        | inl too ↦ alone p k was.1 (same ∙ ap (λ x. x.0) too.1) ∙ sym too.0
        | inr other ↦ apart p q k m was.1 other.1 same
      ]
    ]

named_put : (names : ByName Ino) (inodes : ByNumber Inode) (path : List ℕ) (n : Ino) (i : Inode)
    → ((m : Ino) → get names path ≡ Some m → m.0 ≡ n.0)
    → EachRow inodes (λ k x. (p : List ℕ) × (m : Ino) × (get names p ≡ Some m) × (m.0 ≡ k))
    → EachRow (insert inodes n.0 i) (λ k x. (p : List ℕ) × (m : Ino) × (get (insert names path n) p ≡ Some m) × (m.0 ≡ k))
named_put names inodes path n i was each =
    each-beside numbers (λ k x. (p : List ℕ) × (m : Ino) × (get (insert names path n) p ≡ Some m) × (m.0 ≡ k)) inodes n.0 i
    (path, n, get-here paths names path n, refl)
    (λ k x differ is.
    let name = each k x is in
    let other : name.0 ≢ path = λ same. differ (sym name.3 ∙ was name.1 (ap (get names) (sym same) ∙ name.2)) in
    (name.0, name.1, get-beside paths names path n name.0 other ∙ name.2, name.3))

-- the name leads to the number, which no other name leads to
pub names_put : (names : ByName Ino) (inodes : ByNumber Inode) (path : List ℕ) (n : Ino) (i : Inode) → NamesKept names inodes
    → ((q : List ℕ) (m : Ino) → get names q ≡ Some m → m.0 ≡ n.0 → q ≡ path) → ((m : Ino) → get names path ≡ Some m → m.0 ≡ n.0)
    → NamesKept (insert names path n) (insert inodes n.0 i)
names_put names inodes path n i k alone was = record {
  names_lead = lead_put names inodes path n i k.names_lead;
  apart = apart_put names path n alone k.apart;
  named = named_put names inodes path n i was k.named;
}

-- ---- a name goes

lead_left : (names : ByName Ino) (inodes : ByNumber Inode) (path : List ℕ) (n : ℕ)
    → ((q : List ℕ) (m : Ino) → get names q ≡ Some m → m.0 ≡ n → q ≡ path) → EachRow names (λ p m. IsSome (get inodes m.0))
    → EachRow (remove names path) (λ p m. IsSome (get (remove inodes n) m.0))
lead_left names inodes path n alone each =
    each-left paths (λ p m. IsSome (get (remove inodes n) m.0)) names path
    (λ q m differ is. ap is_some (removed-beside numbers inodes n m.0 (λ same. differ (alone q m is same))) ∙ each q m is)

named_left : (names : ByName Ino) (inodes : ByNumber Inode) (path : List ℕ) (n : ℕ) → ((m : Ino) → get names path ≡ Some m → m.0 ≡ n)
    → EachRow inodes (λ k x. (p : List ℕ) × (m : Ino) × (get names p ≡ Some m) × (m.0 ≡ k))
    → EachRow (remove inodes n) (λ k x. (p : List ℕ) × (m : Ino) × (get (remove names path) p ≡ Some m) × (m.0 ≡ k))
named_left names inodes path n was each =
    each-left numbers (λ k x. (p : List ℕ) × (m : Ino) × (get (remove names path) p ≡ Some m) × (m.0 ≡ k)) inodes n
    (λ k x differ is.
    let name = each k x is in
    let other : name.0 ≢ path = λ same. differ (sym name.3 ∙ was name.1 (ap (get names) (sym same) ∙ name.2)) in
    (name.0, name.1, removed-beside paths names path name.0 other ∙ name.2, name.3))

-- name and inode go
pub names_left : (names : ByName Ino) (inodes : ByNumber Inode) (path : List ℕ) (n : ℕ) → NamesKept names inodes
    → ((q : List ℕ) (m : Ino) → get names q ≡ Some m → m.0 ≡ n → q ≡ path) → ((m : Ino) → get names path ≡ Some m → m.0 ≡ n)
    → NamesKept (remove names path) (remove inodes n)
names_left names inodes path n k alone was = record {
  names_lead = lead_left names inodes path n alone k.names_lead;
  apart = λ p q a b at_p at_q same. k.apart p q a b (removed paths names path p a at_p).1 (removed paths names path q b at_q).1 same;
  named = named_left names inodes path n was k.named;
}

-- ---- an inode changes in its place

pub names_changed : (names : ByName Ino) (inodes : ByNumber Inode) (n : ℕ) (i j : Inode) → get inodes n ≡ Some i → NamesKept names inodes
    → NamesKept names (insert inodes n j)
names_changed names inodes n i j is k = record {
  names_lead = λ p m at. still_there numbers inodes n j m.0 (k.names_lead p m at);
  apart = k.apart;
  named = each-insert numbers (λ q x. (p : List ℕ) × (m : Ino) × (get names p ≡ Some m) × (m.0 ≡ q)) inodes n j (k.named n i is) k.named;
}
