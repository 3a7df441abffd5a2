-- Parts of a session, one after another.
use Rattle.std.proofs.Common.{◌≡◌, ℕ, ◌+◌, ◌≤◌, zero, suc, List, [], ◌∷◌, ◌++◌, Option, Some, None, Bool, IsTrue, ◌<◌, length, take, drop, refl, sym, ◌∙◌, ap, subst, inl, inr, ◌⊎◌, arith, append_assoc}
use Rattle.std.proofs.lemmas.List.{append-nil, take-append-drop}
use Rattle.std.proofs.Math.Seq.{take-add}
use Rattle.std.specs.Option.{option_to_list}
use Rattle.dm_proto.specs.Stream.{Consumes}
use Rattle.dm_proto.specs.declared.heard.Heard.{Heard}
use Rattle.dm_proto.proofs.Hearing.{consumes_none, consumes_on, consumes_more}
use Rattle.dm_base.specs.declared.reply.Reply.{Reply}
use Rattle.dm_reply.specs.Text.{text_of}
use Rattle.dm_host.specs.Count.{raised}
use Rattle.dm_reply.specs.Took.{Took}
use Rattle.dm_reply.proofs.Taking.{took_none, took_more}
use Rattle.dm_plain.specs.Namespace.{Namespace}
use Rattle.dm_site.specs.State.{State, Agrees}
use Rattle.dm_site.specs.Rules.{Step}
use Rattle.dm_site.specs.Session.{Exchange, ScriptRun, heard_of, faults_of, replies_of, plain_step, plain_from, ReadIs, ReadsFrom, Counts}
use Rattle.dm_site.specs.declared.session.Stop.{Stop}
use Rattle.dm_site.specs.declared.session.Stop.TheVariants as stop
use Rattle.dm_site.specs.Talk.{Standing, Talk, Stopped}

run_then : (es fs : List Exchange) (a b c : State) → ScriptRun a es b → ScriptRun b fs c → ScriptRun a (es ++ fs) c
run_then [] fs a b c e k = subst (λ (s : State). ScriptRun s fs c) e k
run_then (e ∷ es) fs a b c h k = (h.0, h.1, run_then es fs h.0 b c h.2 k)

heard_then : (es fs : List Exchange) → heard_of (es ++ fs) ≡ heard_of es ++ heard_of fs
heard_then [] fs = refl
heard_then (e ∷ es) fs = ap (λ hs. e.heard ∷ hs) (heard_then es fs)

replies_then : (es fs : List Exchange) → replies_of (es ++ fs) ≡ replies_of es ++ replies_of fs
replies_then [] fs = refl
replies_then (e ∷ es) fs = ap (λ t. text_of e.reply ++ t) (replies_then es fs) ∙ sym (append_assoc (text_of e.reply) (replies_of es) (replies_of fs))

faults_then : (es fs : List Exchange) → faults_of (es ++ fs) ≡ faults_of es + faults_of fs
faults_then [] fs = omega arith
faults_then (e ∷ es) fs = omega (arith, faults_then es fs)

plain_then : (plain : Namespace) (es fs : List Exchange) → plain_from plain (es ++ fs) ≡ plain_from (plain_from plain es) fs
plain_then plain [] fs = refl
plain_then plain (e ∷ es) fs = plain_then (plain_step plain e.heard e.reply) es fs

reads_then : (plain : Namespace) (es fs : List Exchange) → ReadsFrom plain es → ReadsFrom (plain_from plain es) fs → ReadsFrom plain (es ++ fs)
reads_then plain [] fs h k = k
reads_then plain (e ∷ es) fs h k = (h.0, reads_then (plain_step plain e.heard e.reply) es fs h.1 k)

pub counts_then : (m n a b c : ℕ) → Counts m a b → Counts n b c → Counts (m + n) a c
counts_then zero n a b c h k = subst (λ (l : ℕ). Counts l a c) (let e : n ≡ zero + n = omega arith in e) (subst (λ (x : ℕ). Counts n x c) h k)
counts_then (suc m) n a b c h k = subst (λ (l : ℕ). Counts l a c) (let e : suc (m + n) ≡ suc m + n = omega arith in e) (counts_then m n (raised 1 a) b c h k)

-- nothing was heard yet
pub talk_none : (told : Bool) (at : Standing) (input : List ℕ) → Talk told at at input input []
talk_none told at input = record {
  entries = [];
  output = [];
  run = refl;
  consumes = consumes_none input;
  said = refl;
  took = took_none at.taken;
  counts = refl;
  plain = λ t plain agrees. (agrees, tt);
}

-- what is left may go on
pub talk_more : (told : Bool) (a b : Standing) (input left missing tail : List ℕ) → Talk told a b input left missing → Talk told a b (input ++ tail) (left ++ tail) missing
talk_more told a b input left missing tail t = record {
  entries = t.entries;
  output = t.output;
  run = t.run;
  consumes = consumes_more input (heard_of t.entries) left t.consumes tail;
  said = t.said;
  took = t.took;
  counts = t.counts;
  plain = t.plain;
}

-- one part, answered whole, and then another over what it left
pub talk_then : (told : Bool) (a b c : Standing) (input left mid missing : List ℕ) → Talk told a b input left [] → Talk told b c left mid missing → Talk told a c input mid missing
talk_then told a b c input left mid missing t u = record {
  entries = t.entries ++ u.entries;
  output = t.output ++ u.output;
  run = run_then t.entries u.entries a.state b.state c.state t.run u.run;
  consumes =
      subst (λ (hs : List Heard). Consumes input hs mid) (sym (heard_then t.entries u.entries))
      (consumes_on input (heard_of t.entries) left mid (heard_of u.entries) t.consumes u.consumes);
  said =
      append_assoc t.output u.output missing ∙ ap (λ (o : List ℕ). o ++ (u.output ++ missing)) (sym (append-nil t.output) ∙ t.said)
      ∙ ap (λ (o : List ℕ). replies_of t.entries ++ o) u.said ∙ sym (replies_then t.entries u.entries);
  took = took_more a.taken b.taken c.taken t.output u.output t.took u.took;
  counts =
      subst (λ (n : ℕ). Counts n a.count c.count) (sym (faults_then t.entries u.entries))
      (counts_then (faults_of t.entries) (faults_of u.entries) a.count b.count c.count t.counts u.counts);
  plain = λ yes plain agrees.
      let first = t.plain yes plain agrees in
      let second = u.plain yes (plain_from plain t.entries) first.0 in (
        subst (λ (p : Namespace). Agrees p c.state c.image) (sym (plain_then plain t.entries u.entries)) second.0,
        reads_then plain t.entries u.entries first.1 second.1,
      );
}

-- one item, its step and its reply
pub talk_one : (told : Bool) (a b : Standing) (input left output missing : List ℕ) (heard : Heard) (faults : ℕ) (reply : Reply)
    → Consumes input (heard ∷ []) left → Step a.state heard faults reply b.state → Counts faults a.count b.count
    → output ++ missing ≡ text_of reply → Took a.taken b.taken output
    → (IsTrue told → (plain : Namespace) → Agrees plain a.state a.image → Agrees (plain_step plain heard reply) b.state b.image × ReadIs plain heard reply)
    → Talk told a b input left missing
talk_one told a b input left output missing heard faults reply consumes step counts said took plain =
    let entry : Exchange = record { heard = heard; faults = faults; reply = reply } in
    record {
      entries = entry ∷ [];
      output = output;
      run = (b.state, step, refl);
      consumes = consumes;
      said = said ∙ sym (append-nil (text_of reply));
      took = took;
      counts = subst (λ (n : ℕ). Counts n a.count b.count) (let e : faults ≡ faults + 0 = omega arith in e) counts;
      plain = λ yes ns agrees. let p = plain yes ns agrees in (p.0, (p.1, tt));
    }

-- one part, and then one that stopped
pub stopped_then : (told : Bool) (a b c : Standing) (input left : List ℕ) (s : Stop) → Talk told a b input left [] → Stopped told b c left s → Stopped told a c input s
stopped_then told a b c input left stop.ReplyCut t (rest, missing, some, u) = (rest, missing, some, talk_then told a b c input left rest missing t u)
stopped_then told a b c input left stop.OutOfMemory t (rest, u) = (rest, talk_then told a b c input left rest [] t u)
stopped_then told a b c input left stop.LineTooLong t (rest, u, long) = (rest, talk_then told a b c input left rest [] t u, long)

-- the bytes that were fed, and those behind them
pub fed_all : (begun rest : List ℕ) (n : ℕ) → (begun ++ take n rest) ++ drop n rest ≡ begun ++ rest
fed_all begun rest n = append_assoc begun (take n rest) (drop n rest) ∙ ap (λ (x : List ℕ). begun ++ x) (take-append-drop n rest)

-- the reply was cut behind the item's bytes
pub stopped_cut : (told : Bool) (a b : Standing) (begun rest left missing : List ℕ) (n : ℕ) → 0 < length missing → Talk told a b (begun ++ take n rest) left missing
    → Stopped told a b (begun ++ rest) stop.ReplyCut
stopped_cut told a b begun rest left missing n some t = (
  left ++ drop n rest,
  missing,
  some,
  subst (λ (input : List ℕ). Talk told a b input (left ++ drop n rest) missing) (fed_all begun rest n)
      (talk_more told a b (begun ++ take n rest) left missing (drop n rest) t),
)

-- one more part of the piece
pub talk_piece : (told told' : Bool) (a b c : Standing) (begun piece rest left mid : List ℕ) (taken n : ℕ) → told' ≡ told → rest ≡ drop taken piece
    → Talk told a b (begun ++ take taken piece) left [] → Talk told' b c (left ++ take n rest) mid [] → Talk told a c (begun ++ take (taken + n) piece) mid []
talk_piece told told' a b c begun piece rest left mid taken n same behind t u =
    let next : Talk told b c (left ++ take n (drop taken piece)) mid [] =
    subst (λ (d : Bool). Talk d b c (left ++ take n (drop taken piece)) mid []) same (subst (λ (r : List ℕ). Talk told' b c (left ++ take n r) mid []) behind u) in
    subst (λ (input : List ℕ). Talk told a c input mid []) (append_assoc begun (take taken piece) (take n (drop taken piece)) ∙ ap (λ (x : List ℕ). begun ++ x) (sym (take-add taken n piece)))
    (talk_then told a b c ((begun ++ take taken piece) ++ take n (drop taken piece)) (left ++ take n (drop taken piece)) mid []
    (talk_more told a b (begun ++ take taken piece) left [] (take n (drop taken piece)) t) next)

-- a stop within the piece
pub stopped_piece : (told told' : Bool) (a b c : Standing) (begun piece rest left : List ℕ) (taken : ℕ) (s : Stop) → told' ≡ told → rest ≡ drop taken piece
    → Talk told a b (begun ++ take taken piece) left [] → Stopped told' b c (left ++ rest) s → Stopped told a c (begun ++ piece) s
stopped_piece told told' a b c begun piece rest left taken s same behind t u =
    let next : Stopped told b c (left ++ drop taken piece) s =
    subst (λ (d : Bool). Stopped d b c (left ++ drop taken piece) s) same (subst (λ (r : List ℕ). Stopped told' b c (left ++ r) s) behind u) in
    subst (λ (input : List ℕ). Stopped told a c input s) (fed_all begun piece taken)
    (stopped_then told a b c ((begun ++ take taken piece) ++ drop taken piece) (left ++ drop taken piece) s
    (talk_more told a b (begun ++ take taken piece) left [] (drop taken piece) t) next)

-- nothing of the piece was fed yet
pub talk_begin : (told : Bool) (at : Standing) (begun : List ℕ) → Talk told at at (begun ++ []) begun []
talk_begin told at begun = subst (λ (input : List ℕ). Talk told at at input begun []) (sym (append-nil begun)) (talk_none told at begun)

-- blank lines alone were heard
pub talk_idle : (told : Bool) (at : Standing) (input left left' : List ℕ) (ready result : Option Heard) → Consumes input (option_to_list ready) left → result ≡ ready → result ≡ None → left' ≡ left
    → Talk told at at input left' []
talk_idle told at input left left' ready result consumes e none same = record {
  entries = [];
  output = [];
  run = refl;
  consumes =
      subst (λ (l : List ℕ). Consumes input [] l) (sym same)
      (subst (λ (o : Option Heard). Consumes input (option_to_list o) left) (sym e ∙ none) consumes);
  said = refl;
  took = took_none at.taken;
  counts = refl;
  plain = λ t plain agrees. (agrees, tt);
}

-- what was ready was heard
pub heard_at : (input left left' : List ℕ) (ready result : Option Heard) (heard : Heard) → Consumes input (option_to_list ready) left → result ≡ ready → result ≡ Some heard → left' ≡ left
    → Consumes input (heard ∷ []) left'
heard_at input left left' ready result heard consumes e some same =
    subst (λ (l : List ℕ). Consumes input (heard ∷ []) l) (sym same)
    (subst (λ (o : Option Heard). Consumes input (option_to_list o) left) (sym e ∙ some) consumes)
