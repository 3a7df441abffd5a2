-- The daemon's tables after a step's changes, one after another.
use Rattle.std.proofs.Common.{◌≡◌, ℕ, List, Option, Result, IfOk, ap, ◌∙◌}
use Rattle.std.proofs.lemmas.Result.{IfOk-weaker}
use Rattle.std.specs.FinMap.{get, insert}
use Rattle.dm_base.specs.declared.identifier.Ino.{Ino}
use Rattle.dm_durable.specs.declared.daemon.Contents.TheVariants.{Regular}
use Rattle.dm_durable.specs.declared.daemon.DaemonTables.{DaemonTables}
use Rattle.dm_durable.specs.declared.daemon.Entry.{Entry}
use Rattle.dm_durable.specs.declared.daemon.Inode.{Inode}
use Rattle.dm_durable.specs.Daemon.{number_or, with_inode, after_write}
use Rattle.dm_durable.specs.Entries.{after_letting_go_if}
use Rattle.dm_durable.specs.Tables.{ByNumber, ByName}

-- what a call gives is also what is equal to it
pub same_ok : {X E : Type 0} (r : Result X E) (a b : X) → a ≡ b → IfOk r (λ x. x ≡ a) → IfOk r (λ x. x ≡ b)
same_ok r a b e h = IfOk-weaker r (λ x. x ≡ a) (λ x. x ≡ b) (λ x is. is ∙ e) h

abbrev pub with_rows : DaemonTables → ByNumber Inode → ByNumber Entry → DaemonTables
with_rows t inodes entries = record t { inodes = inodes; entries = entries }

pub freed : (t : DaemonTables) (inodes whole : ByNumber Inode) (entries : ByNumber Entry) (named was : Option ℕ) → inodes ≡ whole → named ≡ was → entries ≡ after_letting_go_if t.entries inodes t.time.0 named → with_rows t inodes entries ≡ with_rows t whole (after_letting_go_if t.entries whole t.time.0 was)
freed t inodes whole entries named was changed is left =
    ap (with_rows t inodes) (left ∙ ap (after_letting_go_if t.entries inodes t.time.0) is)
    ∙ ap (λ m. with_rows t m (after_letting_go_if t.entries m t.time.0 was)) changed

pub written : (t : DaemonTables) (names : ByName Ino) (path name : List ℕ) (change : ℕ) (ino : Ino) (bytes : List ℕ) → names ≡ insert t.names name ino → name ≡ path → ino.0 ≡ number_or (get t.names path) change → with_inode (record t { change = change; names = names }) ino.0 (record { change = change; contents = Regular bytes }) ≡ after_write t path change bytes
written t names path name change ino bytes put named number =
    let made : ByName Ino → ℕ → DaemonTables = λ m n. with_inode (record t { change = change; names = m }) n (record { change = change; contents = Regular bytes }) in
    let fresh : ℕ = number_or (get t.names path) change in
    let numbered : ℕ → ByName Ino = λ n. insert t.names path (record { 0 = n }) in
    ap (λ m. made m ino.0) (put ∙ ap (λ k. insert t.names k ino) named ∙ ap numbered number)
    ∙ ap (made (numbered fresh)) number
