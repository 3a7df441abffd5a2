-- Entries whose copies are being deleted, one bitfile after another.
use Rattle.std.proofs.Common.{◌≡◌, ◌≢◌, ℕ, ◌+◌, ◌<◌, ◌≤◌, Bool, true, false, cond, ◌||◌, List, [], ◌∷◌, length, drop, get_or, Option, None, Some, option_map, refl, sym, ap, ◌∙◌, inl, inr, ◌⊎◌, nat_eq}
use Rattle.std.proofs.lemmas.Bool.{eq-eqb, ne_eqb}
use Rattle.std.proofs.lemmas.List.{drop_more, drop_all}
use Rattle.std.specs.List.{list_any}
use Rattle.std.specs.FinMap.{get}
use Rattle.dm_base.specs.declared.identifier.Bfid.{Bfid}
use Rattle.dm_durable.specs.declared.daemon.Entry.{Entry}
use Rattle.dm_durable.specs.Tables.{ByNumber}
use Rattle.dm_durable.specs.Entries.{as_dropping}
use Rattle.dm_durable.specs.Daemon.{with_dropping}
use Rattle.dm_tables.specs.Rows.{adjust}
use Rattle.dm_tables.proofs.Orders.{numbers, same_or}
use Rattle.dm_tables.proofs.Rows.{same_rows}
use Rattle.dm_tables.proofs.Adjusted.{get-mapped, adjusted-here, adjusted-beside}

abbrev dropped_if : Bool → Entry → Entry
dropped_if b e = cond b (as_dropping e) e

twice : (b : Bool) (r : Option Entry) → option_map (dropped_if true) r ≡ option_map (dropped_if b) (option_map as_dropping r)
twice b None = refl
twice true (Some e) = refl
twice false (Some e) = refl

abbrev any_is : ℕ → List Bfid → Bool
any_is q bfids = list_any (λ c. nat_eq c.0 q) bfids

dropping_at : (b : Bfid) (bfids : List Bfid) (m : ByNumber Entry) (q : ℕ)
    → get (with_dropping (b ∷ bfids) m) q ≡ get (with_dropping bfids (adjust m b.0 as_dropping)) q
dropping_at b bfids m q =
    get-mapped numbers (λ k e. dropped_if (any_is k (b ∷ bfids)) e) m q
    ∙ here (same_or numbers b.0 q)
    ∙ sym (get-mapped numbers (λ k e. dropped_if (any_is k bfids) e) (adjust m b.0 as_dropping) q)
  where
    here : (q ≡ b.0) ⊎ (q ≢ b.0) → option_map (dropped_if (any_is q (b ∷ bfids))) (get m q) ≡ option_map (dropped_if (any_is q bfids)) (get (adjust m b.0 as_dropping) q)
    here (inl same) =
        ap (λ t. option_map (dropped_if (t || any_is q bfids)) (get m q)) (eq-eqb b.0 q (sym same))
        ∙ twice (any_is q bfids) (get m q)
        ∙ ap (option_map (dropped_if (any_is q bfids))) (ap (λ k. option_map as_dropping (get m k)) same ∙ sym (adjusted-here numbers m b.0 as_dropping) ∙ ap (get (adjust m b.0 as_dropping)) (sym same))
    here (inr differ) =
        ap (λ t. option_map (dropped_if (t || any_is q bfids)) (get m q)) (ne_eqb b.0 q (λ e. differ (sym e)))
        ∙ ap (option_map (dropped_if (any_is q bfids))) (sym (adjusted-beside numbers m b.0 as_dropping q differ))

dropping_first : (b : Bfid) (bfids : List Bfid) (m : ByNumber Entry) → with_dropping (b ∷ bfids) m ≡ with_dropping bfids (adjust m b.0 as_dropping)
dropping_first b bfids m = same_rows numbers _ _ (dropping_at b bfids m)

same_entry : (r : Option Entry) → option_map (dropped_if false) r ≡ r
same_entry None = refl
same_entry (Some e) = refl

dropping_none : (m : ByNumber Entry) → with_dropping [] m ≡ m
dropping_none m = same_rows numbers _ _ (λ q. get-mapped numbers (λ k e. dropped_if (any_is k []) e) m q ∙ same_entry (get m q))

-- the step of the loop, and its end
pub dropping_on : (bfids : List Bfid) (i : ℕ) (b : Bfid) (entries after whole : ByNumber Entry) → i < length bfids → b ≡ get_or bfids i b → after ≡ adjust entries b.0 as_dropping
    → with_dropping (drop i bfids) entries ≡ whole → with_dropping (drop (i + 1) bfids) after ≡ whole
dropping_on bfids i b entries after whole small is changed so_far =
    ap (with_dropping (drop (i + 1) bfids)) changed
    ∙ sym (dropping_first b (drop (i + 1) bfids) entries)
    ∙ sym (ap (λ l. with_dropping l entries) (drop_more bfids i b small ∙ ap (λ c. c ∷ drop (i + 1) bfids) (sym is)))
    ∙ so_far

pub dropping_end : (bfids : List Bfid) (i : ℕ) (entries whole : ByNumber Entry) → length bfids ≤ i → with_dropping (drop i bfids) entries ≡ whole → entries ≡ whole
dropping_end bfids i entries whole past so_far =
    sym (dropping_none entries) ∙ sym (ap (λ l. with_dropping l entries) (drop_all i bfids past)) ∙ so_far
