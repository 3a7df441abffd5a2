-- What a change of the table of files leaves at each path.
use Rattle.std.proofs.Common.{◌≡◌, ◌≢◌, ℕ, Bool, true, false, List, Option, Some, None, refl, sym, ◌∙◌, ap, subst, inl, inr, ◌⊎◌, ◌≤◌, arith}
use Rattle.std.proofs.lemmas.Bool.{cases_Bool, false≢true}
use Rattle.std.proofs.lemmas.Cmp.{tied_itself, nat_list_cmp_total}
use Rattle.std.proofs.lemmas.Map.Lookups.{exact_bytes}
use Rattle.std.specs.BTreeMap.{BTreeMap, get_by, Updates, UpdatesBy, is_at}
use Rattle.std.specs.Ordering.{nat_cmp, is_eq}
use Rattle.std.specs.declared.cmp.Ordering.{Ordering}
use Rattle.std.specs.declared.cmp.Ordering.TheVariants.{Less, Equal, Greater}
use Rattle.std.specs.Cmp.Lexicographic.{slice_cmp}
use Rattle.dm_site.specs.declared.file.File.{File}
use Rattle.dm_site.specs.Files.{Sets, HasForm, file_in, end_of, end_of_form}
use Rattle.dm_site.specs.declared.file.Form.{Form}

equal_from_test : (o : Ordering) → is_eq o ≡ true → o ≡ Equal
equal_from_test Less e = cc
equal_from_test Equal e = refl
equal_from_test Greater e = cc

-- a path is found at itself
same_equal : (q path : List ℕ) → q ≡ path → slice_cmp nat_cmp q path ≡ Equal
same_equal q path e = ap (λ (p : List ℕ). slice_cmp nat_cmp p path) e ∙ tied_itself nat_list_cmp_total path

-- another path is found elsewhere
pub apart : (path other : List ℕ) → other ≢ path → is_at (slice_cmp nat_cmp path) other ≡ false
apart path other ne = elim (cases_Bool (is_eq (slice_cmp nat_cmp path other))) [
  | inl same ↦ absurd (ne (sym (exact_bytes path other (equal_from_test _ same))))
  | inr differs ↦ differs
]

pub cases_path : (q path : List ℕ) → (q ≡ path) ⊎ (q ≢ path)
cases_path q path = elim (cases_Bool (is_eq (slice_cmp nat_cmp q path))) [
  | inl same ↦ inl (exact_bytes q path (equal_from_test _ same))
  | inr differs ↦ inr (λ e. false≢true (sym differs ∙ ap is_eq (same_equal q path e)))
]

pub sets_from_updates : (old new : BTreeMap (List ℕ) File) (path : List ℕ) (file : File) → Updates (slice_cmp nat_cmp) old new path (Some file) → Sets (file_in old) (file_in new) path file
sets_from_updates old new path file u = record { at = u.1; others = λ other ne. u.2 other (apart path other ne) }

-- if the file ends below a bound, so do all
pub ends_within : (bound : ℕ) (old new : List ℕ → Option File) (path : List ℕ) (file : File) → Sets old new path file
    → end_of_form file.form ≤ bound → ((q : List ℕ) → end_of (old q) ≤ bound) → (q : List ℕ) → end_of (new q) ≤ bound
ends_within bound old new path file s here all q = elim (cases_path q path) [
  | inl e ↦ subst (λ (o : Option File). end_of o ≤ bound) (sym (ap new e ∙ s.at)) here
  | inr ne ↦ subst (λ (o : Option File). end_of o ≤ bound) (sym (s.others q ne)) (all q)
]

-- another form, written where the file was found
pub sets_form : (old new : BTreeMap (List ℕ) File) (path : List ℕ) (was file : File) (form : Form)
    → UpdatesBy (slice_cmp nat_cmp) (slice_cmp nat_cmp path) old new (Some (record { change = was.change; form = form }))
    → Some was ≡ file_in old path → file_in old path ≡ Some file → Sets (file_in old) (file_in new) path (record { change = file.change; form = form })
sets_form old new path was file form u here there =
    let same : was ≡ file = (let both : Some was ≡ Some file = here ∙ there in cc) in
    record {
      at = u.1 ∙ ap (λ (f : File). Some (record { change = f.change; form = form })) same;
      others = λ other ne. u.2 other (apart path other ne);
    }

-- elsewhere nothing changes
pub form_or_same : (old new : BTreeMap (List ℕ) File) (path : List ℕ) (was : File) (form : Form)
    → UpdatesBy (slice_cmp nat_cmp) (slice_cmp nat_cmp path) old new (Some (record { change = was.change; form = form }))
    → (other : List ℕ) → (file_in new other ≡ file_in old other) ⊎ HasForm (file_in new other) form
form_or_same old new path was form u other = elim (cases_Bool (is_eq (slice_cmp nat_cmp path other))) [
  | inl same ↦
      let e : path ≡ other = exact_bytes path other (equal_from_test _ same) in
      inr (subst (λ (o : Option File). HasForm o form) (sym (ap (file_in new) (sym e) ∙ u.1)) refl)
  | inr differs ↦ inl (u.2 other differs)
]

-- a form that ends below a bound, put where it may be
pub ends_with_form : (bound : ℕ) (old new : Option File) (form : Form) → (new ≡ old) ⊎ HasForm new form → end_of_form form ≤ bound → end_of old ≤ bound → end_of new ≤ bound
ends_with_form bound old new form (inl same) here was = subst (λ (o : Option File). end_of o ≤ bound) (sym same) was
ends_with_form bound old None form (inr has) here was = absurd has
ends_with_form bound old (Some file) form (inr has) here was = subst (λ (f : Form). end_of_form f ≤ bound) (sym has) here
