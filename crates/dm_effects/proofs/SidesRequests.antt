-- A side is kept where the puts of its copies stay open.
use Rattle.std.proofs.Common.{◌≡◌, ℕ, false, Some, None, List, ap, ◌∙◌}
use Rattle.std.specs.FinMap as map
use Rattle.dm_tables.proofs.Orders.{numbers}
use Rattle.dm_tables.proofs.Rows.{removed-beside, one_row}
use Rattle.dm_durable.specs.Tables.{ByNumber}
use Rattle.dm_durable.specs.declared.daemon.Entry.{Entry}
use Rattle.dm_model.specs.declared.state.CopyState.{CopyState}
use Rattle.dm_model.specs.declared.state.OpenRequest.{OpenRequest}
use Rattle.dm_model.specs.declared.state.Side.{Side}
use Rattle.dm_model.specs.Files.{is_put}
use Rattle.dm_invariant.specs.Kept.{SideKept}
use Rattle.dm_invariant.specs.Reservations.{PutOf}
use Rattle.dm_invariant.proofs.LookUps.{beside_free}

-- the puts of one table of requests are puts of another, under their numbers
abbrev pub PutsStay : ByNumber OpenRequest → ByNumber OpenRequest → Type 0
PutsStay requests later = (k b : ℕ) → PutOf requests k b → PutOf later k b

-- what is kept of a side is kept over other requests where the put of each of its copies is among them
pub side_copies_stay : (entries : ByNumber Entry) (contents : ByNumber (List ℕ)) (taken : ByNumber (Unit {0})) (requests later : ByNumber OpenRequest)
    (g : ℕ) (committed deleted : ByNumber (Unit {0})) (s : Side)
    → ((b : ℕ) (c : CopyState) → map.get s.copies b ≡ Some c → PutOf requests c.request b → PutOf later c.request b)
    → SideKept entries contents taken requests g committed deleted s → SideKept entries contents taken later g committed deleted s
side_copies_stay entries contents taken requests later g committed deleted s stay k = record {
  number = k.number;
  catalogue = k.catalogue;
  volumes = k.volumes;
  mounts = k.mounts;
  once = k.once;
  reservations = record {
    numbers = k.reservations.numbers;
    reservation = k.reservations.reservation;
    copy = λ b c is.
        let f = k.reservations.copy b c is in
        record {
          of = f.of;
          len = f.len;
          put = stay b c is f.put;
          reservation = f.reservation;
        };
  };
  moves = k.moves;
  reuses = k.reuses;
  places = k.places;
  doubt = k.doubt;
}

-- so it is where all puts are
pub side_puts_stay : (entries : ByNumber Entry) (contents : ByNumber (List ℕ)) (taken : ByNumber (Unit {0})) (requests later : ByNumber OpenRequest)
    (g : ℕ) (committed deleted : ByNumber (Unit {0})) (s : Side) → PutsStay requests later
    → SideKept entries contents taken requests g committed deleted s → SideKept entries contents taken later g committed deleted s
side_puts_stay entries contents taken requests later g committed deleted s stay k =
    side_copies_stay entries contents taken requests later g committed deleted s (λ b c is put. stay c.request b put) k

-- they are where a request ends that is no put
pub puts_stay_without : (requests : ByNumber OpenRequest) (k : ℕ) (r : OpenRequest) → map.get requests k ≡ Some r → is_put r.kind ≡ false
    → PutsStay requests (map.remove requests k)
puts_stay_without requests k r is none n b put =
    let differ : n ≡ k → ⊥ = λ same.
    let one : put.request ≡ r = one_row requests n k put.request r same put.is is in
    let some = put.put in
    let not : is_put put.request.kind ≡ false = ap (λ (s : OpenRequest). is_put s.kind) one ∙ none in
    absurd (cc) in
    record { request = put.request; is = removed-beside numbers requests k n differ ∙ put.is; put = put.put; same = put.same }

-- and where one opens under a number that is free
pub puts_stay_with : (requests : ByNumber OpenRequest) (k : ℕ) (r : OpenRequest) → map.get requests k ≡ None → PutsStay requests (map.insert requests k r)
puts_stay_with requests k r free n b put =
    record { request = put.request; is = beside_free numbers requests k n r put.request free put.is; put = put.put; same = put.same }
