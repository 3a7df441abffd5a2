-- A text has one answer.
use Rattle.std.proofs.Common.{◌≡◌, inl, inr, ℕ, ◌≤◌, ◌<◌, List, length, Some, None, ap, sym, ◌∙◌, arith}
use Rattle.std.proofs.lemmas.Option.{same_Some}
use Rattle.dm_base.specs.declared.conf.ConfKey.{ConfKey}
use Rattle.toml.specs.Data.{Members}
use Rattle.dm_config.specs.declared.config.Config.{Config}
use Rattle.dm_config.specs.Rows.{first_violated, rows_of}
use Rattle.dm_config.specs.Config.{Configures, IsNoToml, IsRefusedFor, Reads, Violates}

same_table : {text : List ℕ} (t u : Members) → Reads text t → Reads text u → t ≡ u
same_table t u a b = same_Some t u (sym a.document ∙ b.document)

no_table : {text : List ℕ} (t : Members) → IsNoToml text → Reads text t → ⊥
no_table t none reads = let e : None ≡ Some t = sym (none.refused reads.is_text) ∙ reads.document in cc

long_short : (text : List ℕ) → 65536 < length text → length text ≤ 65536 → ⊥
long_short text long short = absurd (omega arith)

same_violated : {text : List ℕ} {k l : ConfKey} → Violates text k → Violates text l → k ≡ l
same_violated {text} {k} {l} v w =
    same_Some k l (sym v.first ∙ ap (λ t. first_violated (rows_of t)) (same_table v.table w.table v.reads w.reads) ∙ w.first)

pub one_key : (text : List ℕ) (k l : ConfKey) → IsRefusedFor text k → IsRefusedFor text l → k ≡ l
one_key text k l (inl (long, e)) (inl (also, f)) = e ∙ sym f
one_key text k l (inl (long, e)) (inr (inl (none, f))) = absurd (long_short text long none.short)
one_key text k l (inl (long, e)) (inr (inr v)) = absurd (long_short text long v.reads.short)
one_key text k l (inr (inl (none, e))) (inl (long, f)) = absurd (long_short text long none.short)
one_key text k l (inr (inl (none, e))) (inr (inl (also, f))) = e ∙ sym f
one_key text k l (inr (inl (none, e))) (inr (inr v)) = absurd (no_table v.table none v.reads)
one_key text k l (inr (inr v)) (inl (long, f)) = absurd (long_short text long v.reads.short)
one_key text k l (inr (inr v)) (inr (inl (none, f))) = absurd (no_table v.table none v.reads)
one_key text k l (inr (inr v)) (inr (inr w)) = same_violated v w

pub none_configured : (text : List ℕ) (k : ConfKey) (c : Config) → IsRefusedFor text k → Configures text c → ⊥
none_configured text k c (inl (long, e)) r = long_short text long r.reads.short
none_configured text k c (inr (inl (none, e))) r = no_table r.table none r.reads
none_configured text k c (inr (inr v)) r =
    let e : None ≡ Some k = sym r.met ∙ ap (λ t. first_violated (rows_of t)) (same_table r.table v.table r.reads v.reads) ∙ v.first in cc
