-- Entries and contents of open requests stay through what a record makes of entries.
use Rattle.std.proofs.Common.{◌≡◌, ℕ, None, Some, List, refl, sym, ap, ◌∙◌, inl, inr}
use Rattle.std.specs.FinMap as map
use Rattle.dm_tables.specs.Rows.{EachRow}
use Rattle.dm_durable.specs.declared.daemon.Entry.{Entry}
use Rattle.dm_durable.specs.Tables.{ByNumber}
use Rattle.dm_durable.specs.Entries.{with_copy_of, with_deletion_time, without_deletion_time}
use Rattle.dm_model.specs.declared.state.OpenRequest.{OpenRequest}
use Rattle.dm_model.specs.declared.state.Side.{Side}
use Rattle.dm_model.specs.Files.{asked_by}
use Rattle.dm_invariant.specs.Requests.{RequestEntry, RequestContent}
use Rattle.dm_invariant.proofs.Options.{none_some}
use Rattle.dm_landing.proofs.CopiesStored.{still_stored}
use Rattle.dm_landing.proofs.Fates.{Fate, Stays, LetGo, Stored, Restored, Taken, Dropped, fate_steady, EntriesGo}

module _ (IsNamed : ℕ → Type 0) (sides : ByNumber Side) (requests : ByNumber OpenRequest) (now age : ℕ) (IsFresh : ℕ → Entry → Type 0)
    (old new : ByNumber Entry) where
  request_fate : (k : ℕ) (r : OpenRequest) → map.get requests k ≡ Some r → (h : RequestEntry old r)
      → Fate IsNamed sides requests now age r.bfid.0 h.entry (map.get new r.bfid.0) → RequestEntry new r
  request_fate k r is h (Stays at) = record { entry = h.entry; is = at; lasting = h.lasting; whole = h.whole }
  request_fate k r is h (LetGo none at) = record { entry = with_deletion_time now h.entry; is = at; lasting = h.lasting; whole = h.whole }
  request_fate k r is h (Stored g there at) =
      record { entry = with_copy_of g h.entry; is = at; lasting = h.lasting; whole = λ kind. still_stored g h.entry (h.whole kind) }
  request_fate k r is h (Restored at) = record { entry = without_deletion_time h.entry; is = at; lasting = h.lasting; whole = h.whole }
  request_fate k r is h (Taken due free at) = absurd (free k r is refl)
  request_fate k r is h (Dropped dropping away at) = let l = h.lasting in cc

  -- the entry of an open request
  pub request_go : EntriesGo IsNamed sides requests now age IsFresh old new → (k : ℕ) (r : OpenRequest) → map.get requests k ≡ Some r
      → RequestEntry old r → RequestEntry new r
  request_go go k r is h = request_fate k r is h (go.fates r.bfid.0 h.entry h.is)

  -- what it asks
  pub asked_go : EntriesGo IsNamed sides requests now age IsFresh old new → (k : ℕ) (r : OpenRequest) → map.get requests k ≡ Some r
      → RequestEntry old r → asked_by (map.get old r.bfid.0) ≡ asked_by (map.get new r.bfid.0)
  asked_go go k r is h =
      let later = request_go go k r is h in
      ap asked_by h.is ∙ sym (fate_steady (go.fates r.bfid.0 h.entry h.is) later.entry later.is).groups ∙ sym (ap asked_by later.is)

  -- and the content of its bitfile
  pub content_go : (before after : ByNumber (List ℕ)) (b : ℕ) → EntriesGo IsNamed sides requests now age IsFresh old new
      → ((b : ℕ) (f : Entry) → IsFresh b f → map.get before b ≡ None) → EachRow before (λ b bytes. map.get after b ≡ Some bytes)
      → RequestContent old before b → RequestContent new after b
  content_go before after b go fresh more has = record {
    bytes = has.bytes;
    is = more b has.bytes has.is;
    len = λ f at.
        elim (go.comes b f at) [
          | inl was ↦ (fate_steady (go.fates b was.0 was.1) f at).len ∙ has.len was.0 was.1
          | inr new ↦ absurd (none_some (map.get before b) has.bytes (fresh b f new) has.is)
        ];
  }
