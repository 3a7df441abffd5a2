-- A checkpoint keeps the state that the list stands for.
use Rattle.std.proofs.Common.{◌≡◌, ◌⊎◌, inl, inr, ℕ, List, [], ◌∷◌, ◌++◌, subst}
use Rattle.dm_host.specs.Disk.{Disk, Image}
use Rattle.dm_host.specs.Works.{Works}
use Rattle.dm_host.proofs.Moments.{weaker, and_then}
use Rattle.dm_ckpt.specs.Files.{Mine, Unchanged}
use Rattle.dm_ckpt.specs.Load.{LoadAt, ready_at}
use Rattle.dm_ckpt.specs.State.{At, StandsFor, Either, Keeps}
use Rattle.dm_ckpt.specs.Meaning.{StandsForState, KeepsState}
use Rattle.dm_ckpt.proofs.Choosing.{means_same}
use Rattle.dm_ckpt.proofs.Once.{one_list, kept_once}

-- the old list or the new one, both of which stand for the state
pub either_tells : (c : ℕ) (means : List (List ℕ) → Type 0) (ps qs : List (List ℕ)) → means ps → means qs → (x : Image) → Either c ps qs x → StandsForState c means x
either_tells c means ps qs is is' x (inl stands) = record { payloads = ps; stands = stands; is = is }
either_tells c means ps qs is is' x (inr stands) = record { payloads = qs; stands = stands; is = is' }

-- each list that the files stand for stands for the state
pub one_state : (c : ℕ) (means : List (List ℕ) → Type 0) (ps : List (List ℕ)) (x : Image) → StandsForState c means x → StandsFor c ps x → means ps
one_state c means ps x s stands = subst means (one_list c s.payloads ps x s.stands stands) s.is

-- what a checkpoint promises of lists, as it is said of a state
pub state_moments : (a b : Disk) (s : At) (means : List (List ℕ) → Type 0) (rows : List (List ℕ)) → means rows → KeepsState a s means
    → ((ps : List (List ℕ)) → Keeps a s ps → Works (Mine s.component) a b (Either s.component ps rows)) → Works (Mine s.component) a b (StandsForState s.component means)
state_moments a b s means rows is k moments = weaker (Mine s.component) a b (Either s.component k.payloads rows) (StandsForState s.component means) (moments k.payloads k.keeps)
    (either_tells s.component means k.payloads rows k.is is)

-- the state before or the one after: an append's lists stand for these
pub either_states : (c : ℕ) (means after : List (List ℕ) → Type 0) (ps qs : List (List ℕ)) → means ps → after qs → (x : Image) → Either c ps qs x
    → StandsForState c means x ⊎ StandsForState c after x
either_states c means after ps qs is is' x (inl stands) = inl (record { payloads = ps; stands = stands; is = is })
either_states c means after ps qs is is' x (inr stands) = inr (record { payloads = qs; stands = stands; is = is' })

-- a checkpoint, and then an append
pub called_moments : (a b d : Disk) (s t : At) (means after : List (List ℕ) → Type 0) (payload : List ℕ) → t.component ≡ s.component
    → Works (Mine s.component) a b (StandsForState s.component means) → (k : KeepsState b t means) → after (k.payloads ++ payload ∷ [])
    → Works (Mine t.component) b d (Either t.component k.payloads (k.payloads ++ payload ∷ []))
    → Works (Mine s.component) a d (λ x. StandsForState s.component means x ⊎ StandsForState s.component after x)
called_moments a b d s t means after payload same first k is second =
    let c = s.component in
    let there : Works (Mine c) b d (Either c k.payloads (k.payloads ++ payload ∷ [])) =
    subst (λ (n : ℕ). Works (Mine n) b d (Either n k.payloads (k.payloads ++ payload ∷ []))) same second in
    and_then (Mine c) a b d (λ x. StandsForState c means x ⊎ StandsForState c after x)
    (weaker (Mine c) a b (StandsForState c means) (λ x. StandsForState c means x ⊎ StandsForState c after x) first (λ x stands. inl stands))
    (weaker (Mine c) b d (Either c k.payloads (k.payloads ++ payload ∷ [])) (λ x. StandsForState c means x ⊎ StandsForState c after x) there
    (either_states c means after k.payloads (k.payloads ++ payload ∷ []) k.is is))

-- a heal that answered leaves one list that stands for the state
pub healed_state : (d : Disk) (t : At) (means : List (List ℕ) → Type 0) (ps qs : List (List ℕ)) → means ps → means qs → Keeps d t ps ⊎ Keeps d t qs → KeepsState d t means
healed_state d t means ps qs is is' (inl keeps) = record { payloads = ps; keeps = keeps; is = is }
healed_state d t means ps qs is is' (inr keeps) = record { payloads = qs; keeps = keeps; is = is' }

-- what was handed out when a load ends is all that the files stood for
pub kept_before : (a b : Disk) (l : LoadAt) (ps qs : List (List ℕ)) → Unchanged l.component a b → Keeps b (ready_at l) ps → StandsFor l.component qs a.seen → ps ≡ qs
kept_before a b l ps qs u k stands = kept_once b (ready_at l) ps qs k (means_same l.component a.seen b.seen u.seen qs stands)
