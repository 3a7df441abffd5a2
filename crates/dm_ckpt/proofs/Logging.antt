-- An append to the log in use, and what became of one.
use Rattle.std.proofs.Common.{◌≡◌, inl, inr, ⊎_elim, ℕ, ◌+◌, List, [], ◌∷◌, ◌++◌, length, Some, Bool, true, false, refl, sym, ◌∙◌, ap, subst}
use Rattle.std.specs.Prelude.{⊤}
use Rattle.std.proofs.lemmas.List.{append_assoc}
use Rattle.dm_host.specs.Disk.{Disk, Image, Same}
use Rattle.dm_host.specs.Works.{Works, File, Follows}
use Rattle.dm_journal.specs.Grammar.{AtRest, Pends, StandsFor as LogStandsFor, BeforeOrAfter}
use Rattle.dm_journal.specs.State.{settled_at, doubtful_at, with_landed, place_behind, Keeps as LogKeeps, Doubts as LogDoubts}
use Rattle.dm_ckpt.specs.declared.files.Index.{Index}
use Rattle.dm_ckpt.specs.declared.doubt.Doubt.TheVariants.{Sure, Payload}
use Rattle.dm_ckpt.specs.Files.{opposite, area_file, log_file, Mine}
use Rattle.dm_ckpt.specs.State.{InUse, IsBehind, StandsFor, Either, at, Lists, Keeps, Doubts}
use Rattle.dm_ckpt.proofs.Four.{at_log, works_log, log_mine}

-- the payloads before, with these in the log
pub stands_logged : (c : ℕ) (i : Index) (g p : ℕ) (ps : List (List ℕ)) (l : Lists i g p ps) (logged : List (List ℕ)) (x : Image) → x (area_file c i) ≡ l.bytes
    → IsBehind g (x (area_file c (opposite i))) → LogStandsFor logged (x (log_file c i)) → StandsFor c (l.rows ++ logged) x
stands_logged c i g p ps l logged x same behind log = record {
  index = i;
  generation = g;
  rows = l.rows;
  logged = logged;
  is = refl;
  in_use = subst (λ (bytes : List ℕ). InUse i g l.rows bytes) (sym same) l.in_use;
  behind = behind;
  log = log;
}

-- one more payload
pub pushed : (i : Index) (g p : ℕ) (ps : List (List ℕ)) (l : Lists i g p ps) (payload : List ℕ) → ps ++ payload ∷ [] ≡ l.rows ++ (l.logged ++ payload ∷ [])
pushed i g p ps l payload = ap (λ (qs : List (List ℕ)). qs ++ payload ∷ []) l.is ∙ append_assoc l.rows l.logged (payload ∷ [])

pub log_kept : (c : ℕ) (i : Index) (g p : ℕ) (ps : List (List ℕ)) (d : Disk) (k : Keeps d (at c i g p Sure) ps) → LogKeeps d (settled_at (log_file c i) p) k.lists.logged
log_kept c i g p ps d k =
    record { told = k.left.told (log_file c i) (log_mine c i); settled = refl; place = k.lists.reached; fits = k.lists.fits; seen = k.left.log; left = k.left.log_left }

pub doubted_size : (m n : ℕ) → Payload m ≡ Payload n → m ≡ n
doubted_size m n is = cc (is)

pub log_doubted : (c : ℕ) (i : Index) (g p n : ℕ) (ps : List (List ℕ)) (payload : List ℕ) (d : Disk) (k : Doubts d (at c i g p (Payload n)) ps payload)
    → LogDoubts d (doubtful_at (log_file c i) p n) k.lists.logged payload
log_doubted c i g p n ps payload d k = record {
  told = k.left.told (log_file c i) (log_mine c i);
  doubt = ap (λ (m : ℕ). Some m) (doubted_size n (length payload) k.doubt);
  place = k.lists.reached;
  fits = k.lists.fits;
  payload_fits = k.payload_fits;
  seen = k.left.log;
  left = k.left.log_left;
}

module _ (c : ℕ) (i : Index) (g p : ℕ) (ps : List (List ℕ)) (payload : List ℕ) (a b : Disk) (k : Keeps a (at c i g p Sure) ps) where
  pub append_moments : Works (File (log_file c i)) a b (λ x. BeforeOrAfter k.lists.logged payload (x (log_file c i))) → Works (Mine c) a b (Either c ps (ps ++ payload ∷ []))
  append_moments w = works_log c i a b _ _ _ _ k.left (BeforeOrAfter k.lists.logged payload) w (Either c ps (ps ++ payload ∷ [])) (λ x area behind log spare.
      let other : IsBehind g (x (area_file c (opposite i))) = subst (λ (l : List ℕ). IsBehind g l) (sym behind) k.behind in
      ⊎_elim (λ before. inl (subst (λ (qs : List (List ℕ)). StandsFor c qs x) (sym k.lists.is) (stands_logged c i g p ps k.lists k.lists.logged x area other before)))
      (λ after. inr (subst (λ (qs : List (List ℕ)). StandsFor c qs x) (sym (pushed i g p ps k.lists payload))
      (stands_logged c i g p ps k.lists (k.lists.logged ++ payload ∷ []) x area other after))) log)

  module _ (w : Works (File (log_file c i)) a b (λ x. ⊤)) where
    pub append_keeps : (q : ℕ) → LogKeeps b (settled_at (log_file c i) q) (k.lists.logged ++ payload ∷ []) → Keeps b (at c i g q Sure) (ps ++ payload ∷ [])
    append_keeps q lk = record {
      sure = refl;
      lists = record {
        rows = k.lists.rows;
        logged = k.lists.logged ++ payload ∷ [];
        is = pushed i g p ps k.lists payload;
        bytes = k.lists.bytes;
        in_use = k.lists.in_use;
        fits = lk.fits;
        reached = lk.place;
      };
      other = k.other;
      behind = k.behind;
      left = at_log c i a b _ _ _ _ k.left (AtRest (k.lists.logged ++ payload ∷ [])) _ w lk.seen lk.left;
    }

    pub append_doubts : LogDoubts b (doubtful_at (log_file c i) p (length payload)) k.lists.logged payload → Doubts b (at c i g p (Payload (length payload))) ps payload
    append_doubts ld = record {
      doubt = refl;
      lists = k.lists;
      payload_fits = ld.payload_fits;
      other = k.other;
      behind = k.behind;
      left = at_log c i a b _ _ _ _ k.left (Pends k.lists.logged payload) _ w ld.seen ld.left;
    }

-- what became of an append
module _ (c : ℕ) (i : Index) (g p n : ℕ) (ps : List (List ℕ)) (payload : List ℕ) (a b : Disk) (k : Doubts a (at c i g p (Payload n)) ps payload)
    (w : Works (File (log_file c i)) a b (Follows Same (log_file c i) a)) where
  pub heal_doubts : LogDoubts b (doubtful_at (log_file c i) p n) k.lists.logged payload → Doubts b (at c i g p (Payload n)) ps payload
  heal_doubts ld = record {
    doubt = k.doubt;
    lists = k.lists;
    payload_fits = k.payload_fits;
    other = k.other;
    behind = k.behind;
    left = at_log c i a b _ _ _ _ k.left (Pends k.lists.logged payload) _ w ld.seen ld.left;
  }

  -- it didn't land
  pub heal_lost : (q : ℕ) → LogKeeps b (settled_at (log_file c i) q) k.lists.logged → Keeps b (at c i g q Sure) ps
  heal_lost q lk = record {
    sure = refl;
    lists = record {
      rows = k.lists.rows;
      logged = k.lists.logged;
      is = k.lists.is;
      bytes = k.lists.bytes;
      in_use = k.lists.in_use;
      fits = lk.fits;
      reached = lk.place;
    };
    other = k.other;
    behind = k.behind;
    left = at_log c i a b _ _ _ _ k.left (AtRest k.lists.logged) _ w lk.seen lk.left;
  }

  -- it did
  pub heal_landed : (q : ℕ) → LogKeeps b (settled_at (log_file c i) q) (k.lists.logged ++ payload ∷ []) → Keeps b (at c i g q Sure) (ps ++ payload ∷ [])
  heal_landed q lk = record {
    sure = refl;
    lists = record {
      rows = k.lists.rows;
      logged = k.lists.logged ++ payload ∷ [];
      is = pushed i g p ps k.lists payload;
      bytes = k.lists.bytes;
      in_use = k.lists.in_use;
      fits = lk.fits;
      reached = lk.place;
    };
    other = k.other;
    behind = k.behind;
    left = at_log c i a b _ _ _ _ k.left (AtRest (k.lists.logged ++ payload ∷ [])) _ w lk.seen lk.left;
  }

  pub heal_keeps : (landed : Bool) → LogKeeps b (settled_at (log_file c i) (place_behind landed p n)) (with_landed landed k.lists.logged payload)
      → Keeps b (at c i g (place_behind landed p n) Sure) (with_landed landed ps payload)
  heal_keeps true lk = heal_landed (p + (5 + n)) lk
  heal_keeps false lk = heal_lost p lk
