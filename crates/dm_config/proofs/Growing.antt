-- Groups that are read one after another.
use Rattle.std.proofs.Common.{◌≡◌, ℕ, suc, ◌+◌, ◌-◌, ◌≤◌, List, [], ◌∷◌, ◌++◌, Option, Some, None, unwrap_or, ap, sym, subst, ◌∙◌, arith, append_assoc}
use Rattle.std.proofs.lemmas.List.{append-nil}
use Rattle.dm_base.specs.declared.serial.Vsn.{Vsn}
use Rattle.dm_base.specs.declared.conf.GroupConf.{GroupConf}
use Rattle.toml.specs.Data.{Data, Members}
use Rattle.dm_config.specs.Rows.{counted, group_in, volumes_of_number}
use Rattle.dm_config.specs.Groups.{AreGroups, AreGroupsOf, Grows, NumberRead}

pub counted_on : (n : ℕ) → n ≤ 4 → counted (5 - n) n ≡ n ∷ counted (5 - (n + 1)) (n + 1)
counted_on n h = let e : 5 - n ≡ suc (5 - (n + 1)) = omega arith in ap (λ k. counted k n) e

taken_of : (d : Option Data) (n : ℕ) (taken after : List Vsn) (added : List GroupConf)
    → AreGroupsOf d n taken (λ t cs. (t ≡ after) × (cs ≡ [])) added → after ≡ taken ++ volumes_of_number d taken
taken_of None n taken after added g = sym g.0 ∙ sym (append-nil taken)
taken_of (Some d) n taken after [] g = absurd g
taken_of (Some d) n taken after (c ∷ cs) g = sym g.1.0 ∙ ap (λ o. taken ++ unwrap_or o []) (sym g.0.volumes)

-- what is taken after a number: what its group lists too
pub taken_after : {d : Option Data} {n : ℕ} {taken after : List Vsn} {old new : List GroupConf} → NumberRead d n taken after old new → after ≡ taken ++ volumes_of_number d taken
taken_after {d} {n} {taken} {after} r = taken_of d n taken after r.added r.group

groups_on : (groups : Members) (ns : List ℕ) (d : Option Data) (n : ℕ) (taken after : List Vsn) (added more : List GroupConf)
    → AreGroupsOf d n taken (λ t cs. (t ≡ after) × (cs ≡ [])) added → AreGroups groups ns after more → AreGroupsOf d n taken (AreGroups groups ns) (added ++ more)
groups_on groups ns None n taken after added more g r =
    let P : List GroupConf → Type 0 = λ cs. AreGroups groups ns taken (cs ++ more) in
    let Q : List Vsn → Type 0 = λ t. AreGroups groups ns t more in
    subst P (sym g.1) (subst Q (sym g.0) r)
groups_on groups ns (Some d) n taken after [] more g r = absurd g
groups_on groups ns (Some d) n taken after (c ∷ cs) more g r =
    let P : List GroupConf → Type 0 = λ xs. AreGroups groups ns (taken ++ c.volumes) (xs ++ more) in
    let Q : List Vsn → Type 0 = λ t. AreGroups groups ns t more in
    (g.0, subst P (sym g.1.1) (subst Q (sym g.1.0) r))

pub grows_on : {groups : Members} {n : ℕ} {ns : List ℕ} {taken mid : List Vsn} {old middle new : List GroupConf}
    → NumberRead (group_in groups n) n taken mid old middle → Grows groups ns mid middle new → Grows groups (n ∷ ns) taken old new
grows_on {groups} {n} {ns} {taken} {mid} {old} {middle} r s = record {
  added = r.added ++ s.added;
  grown = s.grown ∙ ap (λ xs. xs ++ s.added) r.grown ∙ append_assoc old r.added s.added;
  are = groups_on groups ns (group_in groups n) n taken mid r.added s.added r.group s.are;
}
