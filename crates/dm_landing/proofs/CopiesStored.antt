-- What stays of an entry when a copy is stored.
use Rattle.std.proofs.Common.{◌≡◌, ◌⊎◌, ℕ, Bool, true, false, cond, ◌&&◌, ◌||◌, nat_eq, List, [], ◌∷◌, refl, sym, ap, ◌∙◌, inl, inr}
use Rattle.std.specs.Prelude as prelude
use Rattle.std.specs.List.{list_any, list_all}
use Rattle.std.proofs.lemmas.Bool.{eqb-true}
use Rattle.dm_base.specs.declared.identifier.GroupId.{GroupId}
use Rattle.dm_durable.specs.declared.daemon.AskedCopy.{AskedCopy}
use Rattle.dm_durable.specs.declared.daemon.Entry.{Entry}
use Rattle.dm_durable.specs.Entries.{asks, has_stored, is_stored, groups_asked, copy_stored_by, with_copy_of, new_entry}

stored_groups : (g : ℕ) (copies : List AskedCopy)
    → prelude.map (λ c. c.group) (prelude.map (copy_stored_by g) copies) ≡ prelude.map (λ c. c.group) copies
stored_groups g [] = refl
stored_groups g (c ∷ cs) = ap (λ l. c.group ∷ l) (stored_groups g cs)

stored_asks : (g h : ℕ) (copies : List AskedCopy)
    → list_any (λ c. nat_eq c.group.0 h) (prelude.map (copy_stored_by g) copies) ≡ list_any (λ c. nat_eq c.group.0 h) copies
stored_asks g h [] = refl
stored_asks g h (c ∷ cs) = ap (λ l. nat_eq c.group.0 h || l) (stored_asks g h cs)

-- a copy that is stored stays so
still : (a b rest more : Bool) → (rest ≡ true → more ≡ true) → (b && rest) ≡ true → (cond a true b && more) ≡ true
still true true rest more on e = on e
still false true rest more on e = on e
still a false rest more on e = cc

stored_whole : (g : ℕ) (copies : List AskedCopy) → list_all (λ c. c.stored) copies ≡ true
    → list_all (λ c. c.stored) (prelude.map (copy_stored_by g) copies) ≡ true
stored_whole g [] e = refl
stored_whole g (c ∷ cs) e = still (nat_eq c.group.0 g) c.stored _ _ (stored_whole g cs) e

-- the same groups are asked
pub same_groups : (g : ℕ) (e : Entry) → groups_asked (with_copy_of g e) ≡ groups_asked e
same_groups g e = stored_groups g e.copies

pub same_asks : (g h : ℕ) (e : Entry) → asks (with_copy_of g e) h ≡ asks e h
same_asks g h e = stored_asks g h e.copies

-- an entry whose copies are all stored stays so
pub still_stored : (g : ℕ) (e : Entry) → is_stored e ≡ true → is_stored (with_copy_of g e) ≡ true
still_stored g e all = stored_whole g e.copies all

one_more : {P : Type 0} (at here stored : Bool) (rest more : Bool) → (at ≡ true → here ≡ true → P) → (more ≡ true → (rest ≡ true) ⊎ P)
    → ((at && cond here true stored) || more) ≡ true → (((at && stored) || rest) ≡ true) ⊎ P
one_more false here stored rest more new on e = on e
one_more true true stored rest more new on e = inr (new refl refl)
one_more true false true rest more new on e = inl refl
one_more true false false rest more new on e = on e

stored_more : (g h : ℕ) (copies : List AskedCopy) → list_any (λ c. nat_eq c.group.0 h && c.stored) (prelude.map (copy_stored_by g) copies) ≡ true
    → (list_any (λ c. nat_eq c.group.0 h && c.stored) copies ≡ true) ⊎ (g ≡ h)
stored_more g h [] e = cc
stored_more g h (c ∷ cs) e =
    one_more (nat_eq c.group.0 h) (nat_eq c.group.0 g) c.stored _ _
    (λ at here. sym (eqb-true c.group.0 g here) ∙ eqb-true c.group.0 h at)
    (stored_more g h cs) e

-- the copy that is newly stored is the group's
pub newly_stored : (g h : ℕ) (e : Entry) → has_stored (with_copy_of g e) h ≡ true → (has_stored e h ≡ true) ⊎ (g ≡ h)
newly_stored g h e is = stored_more g h e.copies is

-- a new entry asks these groups, none of which has stored its copy
pub new_asked : (len : ℕ) (groups : List GroupId) → groups_asked (new_entry len groups) ≡ groups
new_asked len [] = refl
new_asked len (g ∷ gs) = ap (λ l. g ∷ l) (new_asked len gs)

neither : (a b : Bool) → b ≡ false → ((a && false) || b) ≡ false
neither true b e = e
neither false b e = e

pub new_unstored : (len : ℕ) (groups : List GroupId) (g : ℕ) → has_stored (new_entry len groups) g ≡ false
new_unstored len [] g = refl
new_unstored len (h ∷ hs) g = neither (nat_eq h.0 g) _ (new_unstored len hs g)
